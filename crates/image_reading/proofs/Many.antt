-- So many of a kind, by where each ends. Assumes nothing.
use mathlib.Core.Path.{◌≡◌, refl, sym, ◌∙◌}
use Prim.Native.Nat.{ℕ, zero, suc, ◌-◌, ◌≤◌, ◌<◌}
use native.Mathlib.Omega.{arith}
use Rattle.std.specs.Prelude.{Result, Ok, Err}
use Rattle.image_fields.specs.Parsed.{Parsed, ok, fault, bind}
use Rattle.image_fields.specs.Answer.{read_of}
use Rattle.image_fields.specs.Table.{many_of}
use Rattle.image_fields.proofs.Answers.{mapped}
use Rattle.image_reading.specs.Answer.{onward, ends_after}

module _ (g : ℕ → Result ℕ ℕ) where
  pub ends_none : (n : ℕ) {p : ℕ} → n ≤ 0 → Ok p ≡ ends_after g n p
  unfolding ends_after onward
  ends_none n le = let e : n ≡ 0 = omega arith in rw e

  pub ends-stop : (n : ℕ) {p k : ℕ} → 0 < n → g p ≡ Err k → Err k ≡ ends_after g n p
  unfolding ends_after onward
  ends-stop zero lt e = absurd (omega arith)
  ends-stop (suc n) lt e = rw e

  pub ends-next : (n : ℕ) {p q : ℕ} → 0 < n → g p ≡ Ok q → ends_after g n p ≡ ends_after g (n - 1) q
  unfolding ends_after onward
  ends-next zero lt e = absurd (omega arith)
  ends-next (suc n) lt e = let h : suc n - 1 ≡ n = omega arith in rw (h, e)

-- so many of a kind end where the last one ends
module _ {A L : Type 0} (nil : L) (cons : A → L → L) (f : ℕ → Parsed A) where
  many-next : (n : ℕ) → ((q : ℕ) → ends_after (λ r. read_of (f r)) n q ≡ read_of (many_of nil cons f n q)) → (x : Parsed A)
      → onward (read_of x) (λ q. ends_after (λ r. read_of (f r)) n q) ≡ read_of (bind x (λ a q. bind (many_of nil cons f n q) (λ xs r. ok (cons a xs) r)))
  unfolding onward bind read_of
  many-next n h (ok a q) = h q ∙ sym (mapped (many_of nil cons f n q) (cons a))
  many-next n h (fault k) = refl

  pub many-ends : (n p : ℕ) → ends_after (λ q. read_of (f q)) n p ≡ read_of (many_of nil cons f n p)
  unfolding ends_after many_of read_of
  many-ends zero p = refl
  many-ends (suc n) p = many-next n (λ q. many-ends n q) (f p)
