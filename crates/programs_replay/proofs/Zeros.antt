-- How many zeros there are, without counting them.
-- Assumes nothing.
use Prim.Native.Nat.{ℕ, ◌≤◌}
use mathlib.Core.Path.{◌≡◌, sym, subst}
use lib.ListN.{length, replicate, length-replicate}

pub zeros : (n : ℕ) → n ≡ length {A = ℕ} (replicate {A = ℕ} n 0)
zeros n = sym (length-replicate {A = ℕ} n 0)

pub few-zeros : (n k : ℕ) → n ≤ k → length {A = ℕ} (replicate {A = ℕ} n 0) ≤ k
few-zeros n k h = subst (λ m. m ≤ k) (zeros n) h
