-- Where the parts of a stored record stand.
use Rattle.std.specs.Prelude.{ℕ, ◌+◌, ◌≤◌, ◌<◌, List, length, Option, IfSome}
use Rattle.programs_replay.specs.declared.Record.{Record}

-- no part begins past the end
pub record Listed (q : Record) : Type 0 where
  pub answer : q.answer < q.end
  pub bytes : q.bytes ≤ q.end
  pub errors : q.errors ≤ q.end
  pub warnings : q.warnings ≤ q.end
  pub lefts : q.lefts ≤ q.end

-- a record within bytes whose positions fit four bytes
pub record Stands (s : List ℕ) (q : Record) : Type 0 where
  pub image : q.label + 4 ≤ q.answer
  pub listed : Listed q
  pub ends : q.end ≤ length s
  pub short : length s < 4294967296

-- a record that was found stands there, after its label
abbrev pub Inside : List ℕ → ℕ → Option Record → Type 0
Inside s at r = IfSome r (λ q. (at < q.label) × Stands s q)
