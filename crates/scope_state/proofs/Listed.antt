-- Laws of lists of places.
-- Assumes nothing.
use Prim.Native.Nat.{ℕ, ◌+◌, ◌≤◌, ◌<◌}
use mathlib.Core.Path.{◌≡◌, refl, sym, ap, ◌∙◌}
use mathlib.Core.List.{List, [], ◌∷◌, ◌++◌}
use mathlib.Core.Bool.{Bool, true, false, cond}
use borrow.Author.Tests.{le-ltb, lt-ltb, ltb-true, not-false}
use native.Mathlib.Numerals.{add-one}
use native.Mathlib.Omega.{arith}
use lib.Dec.{eqb}
use lib.ListN.{length, get_or, take, drop, set, length-append, length-take}
use lib.Seq.{drop-cons, take-suc-set}
use Rattle.std.specs.Prelude.{Option, Some, None, is_some, ◌==◌}
use Rattle.std.specs.List.{list_any}
use Rattle.std.specs.Cmp.Lexicographic.{pointwise}
use Rattle.image_fields.specs.Table.{member}
use Rattle.rules.specs.State.{places_eq, combine}
use Rattle.scope_state.specs.declared.Places.{Places}
use Rattle.scope_state.specs.View.{listed, Fits}

add-grows : (b : Bool) (p : ℕ) (ps : List ℕ) → length ps ≤ length (cond b ps (ps ++ (p ∷ [])))
add-grows true p ps = omega arith
add-grows false p ps = simp length-append (omega arith)

pub combine-grows : (ps qs : List ℕ) → length ps ≤ length (combine ps qs)
combine-grows ps [] = omega arith
combine-grows ps (q ∷ qs) =
    omega (arith, add-grows (member eqb ps q) q ps, combine-grows (cond (member eqb ps q) ps (ps ++ (q ∷ []))) qs)

-- a place stored after the first n
pub take-add : (n : ℕ) (a : List ℕ) (p : ℕ) → n < length a → take (n + 1) (set a n p) ≡ take n a ++ (p ∷ [])
take-add n a p h = rw (add-one, take-suc-set a n p h)

-- std's answers are the rules'
pub any-member : (ps : List ℕ) (p : ℕ) → list_any (λ y. y == p) ps ≡ member eqb ps p
unfolding member
any-member [] p = refl
any-member (q ∷ ps) p = rw (any-member ps p)

pub pointwise-places : (ps qs : List ℕ) → pointwise ◌==◌ ps qs ≡ places_eq ps qs
pointwise-places [] [] = refl
pointwise-places [] (q ∷ qs) = refl
pointwise-places (p ∷ ps) [] = refl
pointwise-places (p ∷ ps) (q ∷ qs) = rw (pointwise-places ps qs)

pub fits-ok : (p : Places) (ps : List ℕ) → listed p ≡ ps → Fits (Some p) ps
fits-ok p ps e =
    let short : length (listed p) ≤ 8 = simp length-take (omega (arith, p.few)) in
    let most : length ps ≤ 8 = rw (sym e) short in
    record { ok = rw (le-ltb 8 (length ps) most); is = λ q t. cc }

pub fits-no : (ps : List ℕ) → 8 < length ps → Fits None ps
fits-no ps h = record { ok = rw (lt-ltb 8 (length ps) h); is = λ q t. cc }

pub fits-none : {r : Option Places} {ps : List ℕ} → Fits r ps → r ≡ None → 8 < length ps
fits-none {r} {ps} f e = ltb-true 8 (length ps) (not-false _ (sym f.ok ∙ ap is_some e))

module _ (ps qs : List ℕ) (i : ℕ) (h : i < length qs) where
  pub combine-next : combine ps (drop i qs) ≡ combine (cond (member eqb ps (get_or qs i 0)) ps (ps ++ (get_or qs i 0 ∷ []))) (drop (i + 1) qs)
  combine-next = rw (add-one, drop-cons qs i 0 h)

  -- a 9th place now is one in the end
  pub combine-crowd : 8 < length (cond (member eqb ps (get_or qs i 0)) ps (ps ++ (get_or qs i 0 ∷ []))) → 8 < length (combine ps (drop i qs))
  combine-crowd l =
      rw combine-next (omega (arith, combine-grows (cond (member eqb ps (get_or qs i 0)) ps (ps ++ (get_or qs i 0 ∷ []))) (drop (i + 1) qs)))
