-- Laws of a state stored at a local.
-- Assumes nothing.
use Rattle.std.proofs.Common.{◌≡◌, ℕ, zero, suc, ◌+◌, ◌<◌, ◌≤◌, Bool, true, false, cond, eqb, ◌≢◌, get_or, set, replicate, sym, refl, ap, ◌∙◌, subst, ⊎_elim, arith, length-set, get_or-set_other, get_or-set_same, eqb-true}
use borrow.Author.Tests.{eqb-false}
use Rattle.image_fields.proofs.Tests.{split, less}
use Rattle.scope_stack.specs.declared.States.{States}
use Rattle.scope_stack.specs.declared.Entry.{Entry}
use Rattle.scope_stack.specs.Word.{word_of}
use Rattle.scope_stack.specs.View.{entry_at, alive_at, Held, Leaves}
use Rattle.scope_stack.proofs.Words.{word_same}

-- another state at i, and a word
abbrev pub stored : States → ℕ → ℕ → ℕ → ℕ → States
stored t i k f w = record { kinds = set t.kinds i k; firsts = set t.firsts i f; alive = w }

module _ (t : States) (i k f w : ℕ) (h : Held t) (l : i < 64) where
  pub stored_at : entry_at (stored t i k f w) i ≡ record { kind = k; first = f }
  stored_at =
      let a : get_or (set t.kinds i k) i 0 ≡ k = get_or-set_same t.kinds i k 0 (omega (arith, h.kind_room)) in
      let b : get_or (set t.firsts i f) i 0 ≡ f = get_or-set_same t.firsts i f 0 (omega (arith, h.first_room)) in
      rw (a, b)

  pub stored_other : (j : ℕ) → j ≢ i → entry_at (stored t i k f w) j ≡ entry_at t j
  stored_other j ne =
      let a : get_or (set t.kinds i k) j 0 ≡ get_or t.kinds j 0 = get_or-set_other t.kinds i j k 0 ne in
      let b : get_or (set t.firsts i f) j 0 ≡ get_or t.firsts j 0 = get_or-set_other t.firsts i j f 0 ne in
      rw (a, b)

  alive-stored : (b : Bool) → b ≡ eqb k 0 → (j : ℕ) → cond (eqb j i) b (alive_at t j) ≡ alive_at (stored t i k f w) j
  alive-stored b e j =
      ⊎_elim
      (λ (q : eqb j i ≡ true).
      let s : j ≡ i = eqb-true j i q in
      rw (q, e, s, ap (λ (x : Entry). x.kind) stored_at))
      (λ (q : eqb j i ≡ false). rw (q, ap (λ (x : Entry). x.kind) (stored_other j (eqb-false j i q))))
      (split (eqb j i))

  pub stored-held : (b : Bool) → b ≡ eqb k 0 → w ≡ word_of 64 (λ j. cond (eqb j i) b (alive_at t j)) → Held (stored t i k f w)
  stored-held b e is = record {
    kind_room = length-set t.kinds i k ∙ h.kind_room;
    first_room = length-set t.firsts i f ∙ h.first_room;
    word = is ∙ word_same 64 (λ j. cond (eqb j i) b (alive_at t j)) (alive_at (stored t i k f w)) (λ j lj. alive-stored b e j);
  }

zero-at : (n i : ℕ) → ◌≡◌ {A = ℕ} (get_or (replicate n 0) i 0) 0
zero-at zero i = refl
zero-at (suc n) zero = refl
zero-at (suc n) (suc i) = zero-at n i

pub zeros : (i : ℕ) → ◌≡◌ {A = ℕ} (get_or (replicate 64 0) i 0) 0
zeros i = zero-at 64 i

-- what States::leave has done up to the local i
pub leaves_none : (n : ℕ) (t : States) → Held t → Leaves n n t t
leaves_none n t h = record { held = h; older = λ i l. refl; newer = λ i a b. absurd (omega arith); past = λ i l. refl }

pub leaves-more : (n i w : ℕ) (t s r : States) → Leaves n i t s → n ≤ i → i < 64 → r ≡ stored s i 0 0 w → w ≡ word_of 64 (λ j. cond (eqb j i) true (alive_at s j))
    → Leaves n (i + 1) t r
leaves-more n i w t s r h le l e is = subst (λ (x : States). Leaves n (i + 1) t x) (sym e) (record {
  held = stored-held s i 0 0 w h.held l true refl is;
  older = λ k lk. let ne : k ≢ i = λ q. omega arith in stored_other s i 0 0 w h.held l k ne ∙ h.older k lk;
  newer = λ k a b. ⊎_elim
      (λ (q : k < i). let ne : k ≢ i = λ z. omega arith in ap (λ (x : Entry). x.kind) (stored_other s i 0 0 w h.held l k ne) ∙ h.newer k a q)
      (λ (q : i ≤ k). let z : k ≡ i = omega arith in rw z (ap (λ (x : Entry). x.kind) (stored_at s i 0 0 w h.held l)))
      (less k i);
  past = λ k lk. let ne : k ≢ i = λ q. omega arith in stored_other s i 0 0 w h.held l k ne ∙ h.past k (omega arith);
})
