-- Runs of stores into lent memory, as far as it reaches.
use Rattle.std.specs.Prelude.{ℕ, ◌+◌, ◌≡◌, List, length}
use Rattle.std.proofs.lemmas.List.Edits.{sets}

-- the elements vs stored from a place on, those past the end of memory left out, and the place after all of them
pub record Stored {A : Type 0} (old : List A) (at : ℕ) (vs new : List A) (next : ℕ) : Type 0 where
  pub cells : new ≡ sets old at vs
  pub place : next ≡ at + length vs
