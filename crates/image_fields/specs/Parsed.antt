-- What reading at a position answers: a value and the position after it, or a fault's number (document 01, "Faults").
use Rattle.std.specs.Prelude.{ℕ, Bool, true, false}

pub data Parsed (A : Type 0) : Type 0 where
  ok : A → ℕ → Parsed A
  fault : ℕ → Parsed A

-- go on with the value and the position after it; a fault stays
unfoldable pub bind : {A B : Type 0} → Parsed A → (A → ℕ → Parsed B) → Parsed B
bind (ok a p) k = k a p
bind (fault n) k = fault n

-- the fault n unless the test holds
unfoldable pub ensure : {A : Type 0} → Bool → ℕ → Parsed A → Parsed A
ensure true n k = k
ensure false n k = fault n
