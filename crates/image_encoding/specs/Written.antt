-- Bytes that stand in others, and end where their length says.
use Rattle.std.specs.Prelude.{ℕ, ◌+◌, ◌≡◌, List, length}
use Rattle.image_fields.specs.Bytes.{Part}

pub record Written (s : List ℕ) (p : ℕ) (a : List ℕ) (q : ℕ) : Type 0 where
  pub part : Part s p a q
  pub end : q ≡ p + length a
