-- The stack of the crate scope_stack, as the walk up to the next change is lent it.
-- Assumes nothing.
use Prim.Native.Nat.{ℕ, ◌≤◌, ◌<◌}
use mathlib.Core.Path.{◌≡◌, refl, ◌∙◌}
use mathlib.Core.Bool.{true, false}
use mathlib.Core.List.{List}
use mathlib.Core.Option.{Option}
use mathlib.Core.Logic.{⊎_elim}
use borrow.Author.Tests.{lt-ltb, le-ltb}
use native.Mathlib.Omega.{arith}
use lib.Dec.{ltb}
use lib.ListN.{get_or}
use Rattle.image_fields.proofs.Tests.{less}
use Rattle.tables.specs.Tables.{Tables}
use Rattle.expressions_scan.specs.States.{low_of, Kept, AllKept}
use Rattle.scope_stack.specs.declared.Locals.{Locals}
use Rattle.scope_stack.specs.declared.States.{States}
use Rattle.scope_stack.specs.View.{row_of, state_at, view, mark_of, Sound}
use Rattle.statements_acts.specs.Marks.{Looped}
use Rattle.statements_changes.specs.Turns.{Lends}

low-of : (k : ℕ) → k < 15 → (k < 9 → k < 7) → (low_of k < 7) × (8 ≤ k → 0 < low_of k)
low-of k h s =
    ⊎_elim
    (λ (l : k < 8). let e : ltb k 8 ≡ true = lt-ltb k 8 l in let m : k < 7 = s (omega arith) in rw e (m, λ z. omega arith))
    (λ (l : 8 ≤ k). let e : ltb k 8 ≡ false = le-ltb k 8 l in let m : k < 9 → ⊥ = λ z. (let y = s z in omega arith) in rw e (omega arith, λ z. ⊎_elim (λ (q : k < 9). absurd (m q)) (λ (q : 9 ≤ k). omega arith) (less k 9)))
    (less k 8)

module _ (l : Locals) (t : States) (rows : List ℕ) (cur width : ℕ) where
  pub lends-view : {P : Tables → Type 0} → Sound P l t rows cur width → (T : Tables) → P T → (mark : ℕ) → mark ≡ mark_of l t
      → (loop : Option ℕ) (base : ℕ) → Looped l.depths loop base l.count → Lends T mark loop base l.names l.types l.depths l.births (state_at t rows cur width) l.count (view l t rows cur width)
  lends-view s T p mark e loop base j = record { held = refl; marked = e ∙ s.marked T p; jumps = j }

  -- what the walk asks of states and rows
  pub kept-view : {P : Tables → Type 0} → Sound P l t rows cur width → cur < 4294967296 → width ≤ 8 → AllKept t.kinds t.firsts rows cur width l.count
  kept-view s lc lw = record { few = s.kept.small; narrow = omega arith; low = lc; kept = one }
    where
      one : (i : ℕ) → i < l.count → Kept (get_or t.kinds i 0) (get_or t.firsts i 0) rows (row_of cur width i)
      one i li =
          let k = s.rowed.known i in
          let z = low-of (get_or t.kinds i 0) k.kind k.single in
          let far : 8 ≤ get_or t.kinds i 0 → 9 ≤ get_or t.kinds i 0 = λ q. ⊎_elim (λ (y : get_or t.kinds i 0 < 9). (let x = k.single y in absurd (omega arith))) (λ (y : 9 ≤ get_or t.kinds i 0). y) (less (get_or t.kinds i 0) 9) in
          record {
            known = z.0;
            gone = z.1;
            some = λ q. (let r = (k.row (far q)).few in omega arith);
            most = λ q. (let r = (k.row (far q)).most in omega arith);
            inside = λ q. (let r = (k.row (far q)).most in let m = (k.row (far q)).room in omega arith);
          }
