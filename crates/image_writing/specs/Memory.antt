-- The memory that an entry is lent: the output, and numbers for each list.
use Rattle.std.specs.Prelude.{ℕ, List}

pub record Memory : Type 0 where
  pub out : List ℕ
  pub errs : List ℕ
  pub warns : List ℕ
  pub lefts : List ℕ

abbrev pub memory : List ℕ → List ℕ → List ℕ → List ℕ → Memory
memory out errs warns lefts = record { out = out; errs = errs; warns = warns; lefts = lefts }
