-- Which locals the end of a block deletes: those of its own frame, and at the end of the body's block, with switch 4 on, the parameters too.
-- Assumes nothing.
use Prim.Native.Nat.{ℕ, suc, ◌-◌, ◌≤◌, ◌<◌}
use native.Mathlib.Omega.{arith}
use mathlib.Core.Path.{◌≡◌, refl, sym, ◌∙◌}
use mathlib.Core.Bool.{Bool, true, false, cond, ◌&&◌, ◌||◌}
use mathlib.Core.List.{List}
use mathlib.Core.Logic.{⊎_elim}
use lib.Dec.{eqb, leb}
use lib.ListN.{get_or}
use borrow.Author.Tests.{eq-eqb, ne_eqb, leb-true, leb-false, le-leb}
use Rattle.image_fields.proofs.Tests.{less}
use Rattle.rules.specs.Rules.{switches_of, at_end, concerns}
use Rattle.blocks_ends.specs.Ends.{Frame, Due, first_of}

-- of another block, or with the switch off, the frame's own
own-only : (p e z x : Bool) → p ≡ false → ((p && e && z) || x) ≡ x
own-only p e z x h = rw h refl

not_body : (p e z x : Bool) → e ≡ false → ((p && e && z) || x) ≡ x
not_body true e z x h = rw h refl
not_body false e z x h = refl

-- of the body's with the switch on, the parameters' too
either : (p e z x : Bool) → p ≡ true → e ≡ true → (z || x) ≡ true → ((p && e && z) || x) ≡ true
either p e z x hp he h = rw (hp, he) h

one_of : (z x : Bool) → z ≡ true → (z || x) ≡ true
one_of z x h = rw h refl

other-of : (z x : Bool) → x ≡ true → (z || x) ≡ true
other-of true x h = refl
other-of false x h = h

module _ (v left : ℕ) (depths : List ℕ) (base n : ℕ) (high : left ≤ 12) (f : Frame depths base (suc (12 - left)) n) where
  own-due : ((i : ℕ) → i < n → concerns (switches_of v) (at_end (suc (12 - left))) (record { name = 0; ty = 0; depth = get_or depths i 0; born = 0 }) ≡ eqb (get_or depths i 0) (suc (12 - left)))
      → Due (switches_of v) depths base (suc (12 - left)) n
  own-due h = record { few = f.few; own = λ names types births i l. h i l ∙ f.own i l }

  all-due : left ≡ 12 → (switches_of v).parameters ≡ true → Due (switches_of v) depths 0 (suc (12 - left)) n
  all-due full on =
      let body : suc (12 - left) ≡ 1 = omega arith in
      record {
        few = f.few;
        own = λ names types births i l.
            let some : leb 0 i ≡ true = le-leb 0 i (omega arith) in
            either (switches_of v).parameters (eqb (suc (12 - left)) 1) (eqb (get_or depths i 0) 0) (eqb (get_or depths i 0) (suc (12 - left))) on (eq-eqb _ _ body)
            (⊎_elim
            (λ (q : i < base). let z : get_or depths i 0 ≡ 0 = let o = f.outer i l q in omega arith in one_of (eqb (get_or depths i 0) 0) _ (eq-eqb _ _ z))
            (λ (q : base ≤ i). other-of (eqb (get_or depths i 0) 0) _ (f.own i l ∙ le-leb base i q))
            (less i base))
            ∙ sym some;
      }

  pub due-frame : Due (switches_of v) depths (first_of v left base) (suc (12 - left)) n
  due-frame = go (switches_of v).parameters (leb 12 left) refl refl
    where
      go : (b c : Bool) → (switches_of v).parameters ≡ b → leb 12 left ≡ c → Due (switches_of v) depths (cond (b && c) 0 base) (suc (12 - left)) n
      go true true eb ec = let l = leb-true 12 left ec in all-due (omega arith) eb
      go true false eb ec =
          let l = leb-false 12 left ec in
          let ne : suc (12 - left) ≡ 1 → ⊥ = λ q. omega arith in
          own-due (λ i li. not_body (switches_of v).parameters (eqb (suc (12 - left)) 1) (eqb (get_or depths i 0) 0) _ (ne_eqb _ _ ne))
      go false c eb ec = own-due (λ i li. own-only (switches_of v).parameters (eqb (suc (12 - left)) 1) (eqb (get_or depths i 0) 0) _ eb)

pub first-few : (v left base : ℕ) → base ≤ 64 → first_of v left base ≤ 64
first-few v left base h = go ((switches_of v).parameters && leb 12 left)
  where
    go : (b : Bool) → cond b 0 base ≤ 64
    go true = omega arith
    go false = h
