-- What the tests of the code say of the record at a position.
-- Assumes nothing.
use mathlib.Core.Path.{◌≡◌, subst}
use mathlib.Core.List.{List}
use Prim.Native.Nat.{ℕ, ◌+◌, ◌-◌, ◌≤◌, ◌<◌}
use native.Mathlib.Omega.{arith}
use borrow.Author.Tests.{lt-ltb, le-ltb}
use lib.ListN.{length, get_or}
use Rattle.image_fields.specs.Number.{four}
use Rattle.programs_faults.specs.declared.Record.{Record}
use Rattle.std.specs.Prelude.{Option, Some, None}
use Rattle.programs_faults.specs.Record.{record_to, record_at, Inside}

module _ (s : List ℕ) (at : ℕ) where
  pub inside-short : Inside s at None
  unfolding Inside
  inside-short = tt

  pub inside-ends : {label end : ℕ} → at < label → label + 4 ≤ end → end ≤ length s → Inside s at (Some (record { label = label; end = end }))
  unfolding Inside
  inside-ends a b c = (a, b, c)

  pub ends-inside : {r : Record} {o : Option Record} → Inside s at o → o ≡ Some r → (at < r.label) × (r.label + 4 ≤ r.end) × (r.end ≤ length s)
  unfolding Inside
  ends-inside i e = subst (Inside s at) e i

  pub nothing_left : {r : ℕ} → r ≡ length s - at → r < 1 → None ≡ record_at s at
  unfolding record_to
  nothing_left e lt =
      let short : length s - (at + 1 + get_or s at 0) < 4 = omega arith in
      simp (lt-ltb _ _ short)

  pub no_size : {b r : ℕ} → b ≡ get_or s at 0 → r ≡ length s - (at + 1 + b) → r < 4 → None ≡ record_at s at
  unfolding record_to
  no_size eb er lt = simp (← eb, ← er, lt-ltb _ _ lt)

  pub no-image : {b r q n : ℕ} → b ≡ get_or s at 0 → r ≡ length s - (at + 1 + b) → 4 ≤ r → n ≡ four s (at + 1 + b) → q ≡ length s - (at + 1 + b + 4) → q < n → None ≡ record_at s at
  unfolding record_to
  no-image eb er le en eq lt = simp (← eb, ← er, le-ltb _ _ le, ← en, ← eq, lt-ltb _ _ lt)

  pub whole : {b r q n : ℕ} → b ≡ get_or s at 0 → r ≡ length s - (at + 1 + b) → 4 ≤ r → n ≡ four s (at + 1 + b) → q ≡ length s - (at + 1 + b + 4) → n ≤ q → Some (record { label = at + 1 + b; end = at + 1 + b + 4 + n }) ≡ record_at s at
  unfolding record_to
  whole eb er le en eq ge = simp (← eb, ← er, le-ltb _ _ le, ← en, ← eq, le-ltb _ _ ge)
