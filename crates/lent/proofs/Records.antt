-- Records from numbers: the laws of the writer's loop.
use Prim.Native.Nat.{ℕ, zero, suc, ◌*◌, ◌≤◌, ◌<◌}
use mathlib.Core.Path.{◌≡◌, refl, sym, ◌∙◌, ap}
use mathlib.Core.Bool.{Bool, true, false, ◌||◌}
use mathlib.Core.List.{List, [], ◌∷◌, ◌++◌, append_assoc}
use native.Mathlib.Omega.{arith}
use lib.Dec.{ltb}
use lib.ListN.{length, get_or, drop, set, length-append, length-drop}
use lib.Seq.{drop-cons, set_at}
use borrow.Author.Tests.{ltb-false, le-ltb}
use Rattle.image_fields.proofs.Tests.{false-true}
use Rattle.lent.specs.declared.Report.{Report}
use Rattle.lent.specs.Records.{record_at, records, too_few, Writes}

pub length-records : (ns : List ℕ) (n : ℕ) → length (records ns n) ≡ n
unfolding records
length-records ns zero = refl
length-records ns (suc n) = let a = length-append (records ns n) (record_at ns n ∷ []) in
    let b = length-records ns n in
    omega (arith, a, b)

-- the structs before the first turn, and after one more
pub none_filled : (ns : List ℕ) (old : List Report) → old ≡ records ns 0 ++ drop 0 old
unfolding records
none_filled ns old = refl

pub filled_more : (ns : List ℕ) (n : ℕ) (old : List Report) (r : Report) → n < length old → r ≡ record_at ns n
    → set (records ns n ++ drop n old) n r ≡ records ns (suc n) ++ drop (suc n) old
unfolding records
filled_more ns n old r h e =
    ap (λ (l : List Report). set (records ns n ++ l) n r) (drop-cons old n r h)
    ∙ set_at (records ns n) (get_or old n r) (drop (suc n) old) r n (length-records ns n)
    ∙ sym (append_assoc (records ns n) (r ∷ []) (drop (suc n) old))
    ∙ ap (λ (x : Report). (records ns n ++ (x ∷ [])) ++ drop (suc n) old) e

pub length-filled : (ns : List ℕ) (n : ℕ) (old : List Report) → n ≤ length old → length (records ns n ++ drop n old) ≡ length old
length-filled ns n old h =
    let a = length-append (records ns n) (drop n old) in
    let b = length-records ns n in
    let d = length-drop n old in
    omega (arith, a, b, d)

-- where there are not too few
pub plenty : (ns : List ℕ) (n : ℕ) (old : List Report) → too_few ns n old ≡ false → (n ≤ length old) × (12 * n ≤ length ns)
plenty ns n old e = by-test (ltb (length old) n) refl
  where
    by-test : (s : Bool) → ltb (length old) n ≡ s → (n ≤ length old) × (12 * n ≤ length ns)
    by-test true es = false-true (sym e ∙ ap (λ (u : Bool). u || ltb (length ns) (12 * n)) es)
    by-test false es = (ltb-false (length old) n es, ltb-false (length ns) (12 * n) (sym (ap (λ (u : Bool). u || ltb (length ns) (12 * n)) es) ∙ e))

pub writes-all : (ns : List ℕ) (n : ℕ) (old new : List Report) → n ≤ length old → 12 * n ≤ length ns → new ≡ records ns n ++ drop n old → Writes ns n old new 0
writes-all ns n old new h l e =
    let no : too_few ns n old ≡ false = ap (λ (u : Bool). u || ltb (length ns) (12 * n)) (le-ltb (length old) n h) ∙ le-ltb (length ns) (12 * n) l in
    record { answer = rw no; structs = rw no e }
