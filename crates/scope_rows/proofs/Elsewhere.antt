-- Whole stacks whose rows stand elsewhere: what changed in other rows, and what was copied.
-- Assumes nothing.
use Prim.Native.Nat.{ℕ, ◌+◌, ◌≤◌, ◌<◌}
use mathlib.Core.Path.{◌≡◌, refl, sym, subst}
use mathlib.Core.Bool.{Bool, true, false}
use mathlib.Core.List.{List}
use mathlib.Core.Logic.{⊎_elim}
use native.Mathlib.Omega.{arith}
use lib.ListN.{length, get_or}
use Rattle.image_fields.proofs.Tests.{less}
use Rattle.std.specs.Prelude.{Ok}
use Rattle.tables.specs.Tables.{Tables}
use Rattle.scope_stack.specs.declared.Locals.{Locals}
use Rattle.scope_stack.specs.declared.States.{States}
use Rattle.scope_stack.specs.View.{static_at, entry_at, row_of, state_at, view, Known, Rowed, Sound}
use Rattle.scope_state.proofs.Stacked.{agree}
use Rattle.scope_stack.proofs.Marked.{known-one}
use Rattle.scope_stack.proofs.Scopes.{sound-states}
use Rattle.scope_rows.specs.Rows.{JoinsAll, Copied, Copies}
use Rattle.scope_rows.proofs.Rowing.{known_same, said_same, row_before}

-- a join keeps a stack sound: the bits of its mark are those of the joined states
pub sound-join : {P : Tables → Type 0} (keeps : Bool) (l : Locals) (t u r : States) (rows new : List ℕ) (a b width : ℕ) → Sound P l t rows a width → JoinsAll keeps l.count width t u rows a b (Ok r) new
    → Sound P l r new a width
sound-join keeps l t u r rows new a b width s j = sound-states l t r rows new a a width s (j.held r refl) (j.rowed r refl)

-- rows that changed elsewhere
module _ (l : Locals) (t : States) (rows new : List ℕ) (cur width : ℕ) (h : Rowed l.count t rows cur width) (room : length new ≡ length rows)
    (same : (k : ℕ) → cur ≤ k → k < row_of cur width l.count → get_or new k 0 ≡ get_or rows k 0) where
  same_row : (i : ℕ) → i < l.count → (k : ℕ) → row_of cur width i ≤ k → k ≤ row_of cur width i + width → get_or new k 0 ≡ get_or rows k 0
  same_row i li k lo hi = same k (omega arith) (omega (arith, row_before cur width i l.count li))

  pub view-same : view l t new cur width ≡ view l t rows cur width
  view-same = agree l.count (static_at l) (static_at l) (state_at t new cur width) (state_at t rows cur width) (λ k lk. refl)
      (λ k lk. said_same rows new width (row_of cur width k) room (same_row k lk) (entry_at t k) (h.known k))

  pub rowed-same : Rowed l.count t new cur width
  rowed-same = record {
    known = λ i. ⊎_elim
        (λ (q : i < l.count). known_same rows new width (row_of cur width i) room (same_row i q) (get_or t.kinds i 0) (h.known i))
        (λ (q : l.count ≤ i). subst (Known new width (row_of cur width i)) (sym (h.free i q)) (known-one new width (row_of cur width i) 0 (omega arith)))
        (less i l.count);
    free = h.free;
  }

-- rows that were copied
module _ (l : Locals) (t : States) (rows new : List ℕ) (src dst width : ℕ) (h : Rowed l.count t rows src width) (c : Copies l.count width t.kinds rows src dst true new) where
  pub view-copied : view l t new dst width ≡ view l t rows src width
  view-copied = agree l.count (static_at l) (static_at l) (state_at t new dst width) (state_at t rows src width) (λ k lk. refl) (λ k lk. c.is refl k lk (get_or t.firsts k 0))

  pub rowed-copied : Rowed l.count t new dst width
  rowed-copied = record {
    known = λ i. ⊎_elim
        (λ (q : i < l.count). c.known refl i q)
        (λ (q : l.count ≤ i). subst (Known new width (row_of dst width i)) (sym (h.free i q)) (known-one new width (row_of dst width i) 0 (omega arith)))
        (less i l.count);
    free = h.free;
  }

-- a copy to rows further back has room: the row that would not fit stands within the rows at its source
pub copied-back : (n width : ℕ) (kinds rows : List ℕ) (src dst : ℕ) (ok : Bool) (new : List ℕ) → Copied n width kinds rows src dst → dst ≤ src
    → Copies n width kinds rows src dst ok new → ok ≡ true
copied-back n width kinds rows src dst true new g le h = refl
copied-back n width kinds rows src dst false new g le h =
    let w = h.why refl in
    let r = ((g.known w.0 w.1).row w.2).room in
    let s = w.3 in
    absurd (omega arith)
