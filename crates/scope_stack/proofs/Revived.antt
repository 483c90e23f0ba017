-- Laws of the search for a local of a name and depth that is not Alive.
-- Assumes nothing.
use Rattle.std.proofs.Common.{◌≡◌, ℕ, ◌-◌, ◌^◌, ◌<◌, ◌≤◌, Bool, false, not, List, sym, ap, ◌∙◌, ⊎_elim, arith}
use Rattle.image_fields.proofs.Tests.{less, false-true}
use Rattle.scope_stack.specs.Word.{word_of, word_at, Newest}
use Rattle.scope_stack.specs.View.{Named}
use Rattle.scope_stack.proofs.Words.{word-not, word-zero}

module _ (names depths : List ℕ) (name depth : ℕ) (p : ℕ → Bool) where
  -- the locals from `at` on were looked at, and the word m has those below
  pub record Looked (m : ℕ) : Type 0 where
    pub at : ℕ
    pub small : at ≤ 64
    pub word : m ≡ word_of at (λ k. not (p k))
    pub none : (k : ℕ) → at ≤ k → k < 64 → p k ≡ false → Named names depths name depth k → ⊥

  pub looked-none : (w : ℕ) → w ≡ word_of 64 p → Looked (18446744073709551615 - w)
  looked-none w e = record { at = 64; small = omega arith; word = ap (λ (x : ℕ). 18446744073709551615 - x) e ∙ word-not 64 p; none = λ k a b. absurd (omega arith) }

  pub looked-more : (m j : ℕ) → Looked m → ((k n : ℕ) (q : ℕ → Bool) → m ≡ word_at k n q → Newest k n q m j) → (Named names depths name depth j → ⊥) → Looked (m - 2 ^ j)
  looked-more m j h top other =
      let t = top 0 h.at (λ k. not (p k)) h.word in
      record {
        at = j;
        small = omega (arith, t.below, h.small);
        word = t.rest;
        none = λ k a b off is. ⊎_elim
            (λ (q : k < h.at). ⊎_elim
            (λ (g : j < k). false-true (sym (t.clear k g q) ∙ ap not off))
            (λ (g : k ≤ j). let z : k ≡ j = omega arith in other (rw z at is))
            (less j k))
            (λ (q : h.at ≤ k). h.none k q b off is)
            (less k h.at);
      }

  pub looked-all : (m : ℕ) → Looked m → m ≤ 0 → (i : ℕ) → i < 64 → p i ≡ false → Named names depths name depth i → ⊥
  looked-all m h z i l off is =
      let none : word_of h.at (λ k. not (p k)) ≡ 0 = sym h.word ∙ (let e : m ≡ 0 = omega arith in e) in
      ⊎_elim
      (λ (q : i < h.at). false-true (sym (word-zero h.at (λ k. not (p k)) none i q) ∙ ap not off))
      (λ (q : h.at ≤ i). h.none i q l off is)
      (less i h.at)
