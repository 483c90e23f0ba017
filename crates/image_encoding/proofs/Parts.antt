-- Laws of bytes that stand in others: putting parts together, taking them apart, and the numbers that they are.
-- Assumes nothing.
use mathlib.Core.Path.{◌≡◌, refl, sym, ap, ◌∙◌, subst}
use mathlib.Core.List.{List, [], ◌∷◌, ◌++◌, append_assoc}
use mathlib.Core.Logic.{◌⊎◌, ⊎_elim}
use Prim.Native.Nat.{ℕ, zero, suc, ◌+◌, ◌-◌, ◌*◌, ◌/◌, ◌%◌, ◌≤◌, ◌<◌}
use native.Mathlib.Omega.{arith}
use native.Mathlib.Numerals.{add-one}
use lib.ListN.{length, get_or, drop, length-append, length-drop}
use lib.Seq.{drop-cons, drop-drop, drop-append_seam, get_or-drop}
use Rattle.image_fields.specs.Parsed.{Parsed, ok, bind, ensure}
use mathlib.Core.Bool.{Bool, true}
use Rattle.image_fields.specs.Number.{two, four, number_in, field_at}
use Rattle.image_fields.specs.Bytes.{two_bytes, four_bytes, number_bytes, Bytes}
use lib.Dec.{T, leb, leb→le}
use Rattle.image_fields.proofs.Rules.{every, at}
use Rattle.image_fields.proofs.Numbers.{field-ok, field-good}
use Rattle.image_encoding.specs.Written.{Written}

-- putting together

pub byte_at : (s : List ℕ) (p : ℕ) → p < length s → Written s p (get_or s p 0 ∷ []) (p + 1)
byte_at s p lt = record { part = record { is = rw (add-one, drop-cons s p 0) }; end = refl }

pub then : {s : List ℕ} {p q r : ℕ} {a b : List ℕ} → Written s p a q → Written s q b r → Written s p (a ++ b) r
then {s} {p} {q} {r} {a} {b} e f =
    let x = e.end in
    let y = f.end in
    record {
      part = record { is = e.part.is ∙ ap (λ x. a ++ x) f.part.is ∙ sym (append_assoc a b (drop r s)) };
      end = rw length-append (omega arith);
    }

pub nothing : {s : List ℕ} {p : ℕ} → Written s p [] p
nothing = record { part = record { is = refl }; end = omega arith }

pub upto : {s : List ℕ} {p q r : ℕ} {a : List ℕ} → q ≡ r → Written s p a q → Written s p a r
upto {s} {p} {q} {r} {a} e f = subst (Written s p a) e f

pub from : {s : List ℕ} {p q r : ℕ} {a : List ℕ} → q ≡ p → Written s q a r → Written s p a r
from {s} {p} {q} {r} {a} e f = subst (λ x. Written s x a r) e f

pub being : {s : List ℕ} {p q : ℕ} {a b : List ℕ} → a ≡ b → Written s p a q → Written s p b q
being {s} {p} {q} e f = subst (λ x. Written s p x q) e f

-- taking apart

module _ {s : List ℕ} {p r : ℕ} where
  pub first : (a b : List ℕ) → Written s p (a ++ b) r → Written s p a (p + length a)
  first a b g =
      let e : drop p s ≡ a ++ (b ++ drop r s) = g.part.is ∙ append_assoc a b (drop r s) in
      let k : drop (p + length a) s ≡ b ++ drop r s =
      sym (drop-drop (length a) p s) ∙ ap (drop (length a)) e ∙ drop-append_seam a (b ++ drop r s) in
      record { part = record { is = e ∙ ap (λ x. a ++ x) (sym k) }; end = refl }

  pub second : (a b : List ℕ) → Written s p (a ++ b) r → Written s (p + length a) b r
  second a b g =
      let e : drop p s ≡ a ++ (b ++ drop r s) = g.part.is ∙ append_assoc a b (drop r s) in
      let z = g.end in
      let l : length (a ++ b) ≡ length a + length b = length-append a b in
      record {
        part = record { is = sym (drop-drop (length a) p s) ∙ ap (drop (length a)) e ∙ drop-append_seam a (b ++ drop r s) };
        end = omega arith;
      }

  -- the same for a chain: what follows is a function of variables
  pub split : {C : Type 0} (a b : List ℕ) → Written s p (a ++ b) r → ((q : ℕ) → Written s p a q → Written s q b r → C) → C
  split a b g f = f (p + length a) (first a b g) (second a b g)

pub room : {s : List ℕ} {p q : ℕ} {x : ℕ} {a : List ℕ} → Written s p (x ∷ a) q → p + length (x ∷ a) ≤ length s
room {s} {p} {q} {x} {a} g =
    let l : length (drop p s) ≡ length ((x ∷ a) ++ drop q s) = ap length g.part.is in
    let m : length ((x ∷ a) ++ drop q s) ≡ length (x ∷ a) + length (drop q s) = length-append (x ∷ a) (drop q s) in
    let n : length (drop p s) ≡ length s - p = length-drop p s in
    omega arith

pub here : {s : List ℕ} {p q : ℕ} {x : ℕ} {a : List ℕ} → Written s p (x ∷ a) q → get_or s p 0 ≡ x
here {s} {p} {q} {x} {a} g =
    ap (λ n. get_or s n 0) {x = p} {y = p + 0} (omega arith) ∙ sym (get_or-drop p s 0 0) ∙ ap (λ l. get_or l 0 0) g.part.is

-- numbers

module _ (s : List ℕ) (small : Bytes s) where
  pub two_at : (p : ℕ) → p + 2 ≤ length s → Written s p (two_bytes (two s p)) (p + 2)
  unfolding two_bytes
  two_at p le =
      let a = small p in
      let b = small (p + 1) in
      let hi : (get_or s p 0 * 256 + get_or s (p + 1) 0) / 256 ≡ get_or s p 0 = omega arith in
      let lo : (get_or s p 0 * 256 + get_or s (p + 1) 0) % 256 ≡ get_or s (p + 1) 0 = omega arith in
      rw (hi, lo) (upto (omega arith) (then (byte_at s p (omega arith)) (byte_at s (p + 1) (omega arith))))

  pub two-small : (p : ℕ) → two s p < 65536
  two-small p = let a = small p in let b = small (p + 1) in omega arith

  pub four-at : (p : ℕ) → p + 4 ≤ length s → Written s p (four_bytes (four s p)) (p + 4)
  unfolding four_bytes
  four-at p le =
      let b = two-small (p + 2) in
      let hi : four s p / 65536 ≡ two s p = omega arith in
      let lo : four s p % 65536 ≡ two s (p + 2) = omega arith in
      rw (hi, lo) (upto (omega arith) (then (two_at p (omega arith)) (two_at (p + 2) (omega arith))))

  number_at : (k p : ℕ) → k ≤ 2 → k ≤ length s - p → Written s p (number_bytes k (number_in s k p)) (p + k)
  unfolding number_bytes
  number_at zero p le fits = upto (omega arith) nothing
  number_at (suc zero) p le fits = byte_at s p (omega arith)
  number_at (suc (suc zero)) p le fits = two_at p (omega arith)
  number_at (suc (suc (suc k))) p le fits = absurd (omega arith)

  -- a number of 0, 1, 2 or 4 bytes
  pub field-written : (f limit : ℕ) {k p n q : ℕ} → (k ≤ 2) ⊎ (k ≡ 4) → field_at f limit k s p ≡ ok n q → Written s p (number_bytes k n) q
  unfolding number_bytes
  field-written f limit {k} {p} {n} {q} w e =
      let g = field-ok e in
      let fits = g.fits in
      let i : n ≡ number_in s k p = g.is in
      upto (sym g.end)
      (⊎_elim (λ le. rw i (number_at k p le fits))
      (λ z. subst (λ x. Written s p (number_bytes x n) (p + x)) (sym z)
      (being (ap four_bytes (sym (i ∙ ap (λ x. number_in s x p) z))) (four-at p (omega arith)))) w)

-- the number that stands where its bytes do
pub two_here : {s : List ℕ} {p n q : ℕ} → Written s p (two_bytes n) q → (two s p ≡ n) × (p + 2 ≤ length s) × (q ≡ p + 2)
unfolding two_bytes
two_here {s} {p} {n} {q} g =
    let a : get_or s p 0 ≡ n / 256 = here g in
    let b : get_or s (p + 1) 0 ≡ n % 256 = here (second (n / 256 ∷ []) (n % 256 ∷ []) g) in
    let r = room g in
    let e = g.end in
    (omega arith, omega arith, omega arith)

pub four-here : {s : List ℕ} {p n q : ℕ} → Written s p (four_bytes n) q → (four s p ≡ n) × (p + 4 ≤ length s) × (q ≡ p + 4)
unfolding four_bytes
four-here {s} {p} {n} {q} g =
    split (two_bytes (n / 65536)) (two_bytes (n % 65536)) g (λ r x y.
    let a = two_here x in
    let b = two_here y in
    let c : two s (p + 2) ≡ n % 65536 = ap (two s) (sym a.2) ∙ b.0 in
    let d : two s p ≡ n / 65536 = a.0 in
    let e : r ≡ p + 2 = a.2 in
    let f : r + 2 ≤ length s = b.1 in
    let h : q ≡ r + 2 = b.2 in
    (omega arith, omega arith, omega arith))

-- a number in 0, 1, 2 or 4 bytes, read back; in no bytes only 0 is
module _ (f limit : ℕ) {s : List ℕ} {p n q : ℕ} where
  number-here : (k : ℕ) → k ≤ 2 → (k ≡ 0 → n ≡ 0) → Written s p (number_bytes k n) q → (n ≡ number_in s k p) × (k ≤ length s - p) × (q ≡ p + k)
  unfolding number_bytes
  number-here zero le z g = let e = g.end in (z refl, omega arith, e)
  number-here (suc zero) le z g = let r = room g in let e = g.end in (sym (here g), omega arith, omega arith)
  number-here (suc (suc zero)) le z g = let t = two_here g in let a = t.1 in let b = t.2 in (sym t.0, omega arith, omega arith)
  number-here (suc (suc (suc k))) le z g = absurd (omega arith)

  pub field-read-back : {k : ℕ} → (k ≤ 2) ⊎ (k ≡ 4) → (k ≡ 0 → n ≡ 0) → n < limit → Written s p (number_bytes k n) q → field_at f limit k s p ≡ ok n q
  unfolding number_bytes
  field-read-back {k} w z lt g =
      ⊎_elim (λ le. let h = number-here k le z g in field-good f limit k s p refl h.1 h.0 lt ∙ ap (ok n) (sym h.2))
      (λ e. subst (λ x. field_at f limit x s p ≡ ok n q) (sym e)
      (let h = four-here (subst (λ x. Written s p (number_bytes x n) q) e g) in
      let r = h.1 in
      field-good f limit 4 s p refl (omega arith) (sym h.0) lt ∙ ap (ok n) (sym h.2))) w

-- the steps of a reading that succeeds
pub goes : {A B : Type 0} {x : Parsed A} (k : A → ℕ → Parsed B) {a : A} {p : ℕ} {y : Parsed B} → x ≡ ok a p → k a p ≡ y → bind x k ≡ y
unfolding bind
goes k e f = rw e f

pub passes : {A : Type 0} {b : Bool} (n : ℕ) {k y : Parsed A} → b ≡ true → k ≡ y → ensure b n k ≡ y
unfolding ensure
passes n e f = rw e f

-- every entry of a table of widths is at most w: antt computes the test
pub at_most : (w : ℕ) (xs : List ℕ) → T (every (λ k x. leb x w) 0 xs) → (k : ℕ) → k < length xs → get_or xs k 0 ≤ w
at_most w xs t k lt = leb→le _ _ (at (λ i x. leb x w) xs t k lt)
