-- The front of a statement, by its tag (document 01, "The image"): where its values begin, how many there are, and what follows them.
use Rattle.std.specs.Prelude.{ℕ, ◌+◌, cond, List, get_or, eqb}
use Rattle.image_body.specs.Stmt.{head_bytes, value_flag, value_count, type_width}
use Rattle.statements_returns.specs.declared.Front.{Front}

-- the flag of a Return, or 0
abbrev pub flag_of : List ℕ → ℕ → ℕ → ℕ
flag_of s at tag = cond (eqb (get_or value_flag tag 0) 1) (get_or s (at + get_or head_bytes tag 0) 0) 0

abbrev pub front_of : List ℕ → ℕ → ℕ → Front
front_of s at tag = record {
  tag = tag;
  values = get_or value_count tag 0 + flag_of s at tag;
  first = at + get_or head_bytes tag 0 + get_or value_flag tag 0;
  last = get_or type_width tag 0;
}

-- the front of the statement at a position
abbrev pub front_at : List ℕ → ℕ → Front
front_at s at = front_of s at (get_or s at 0)
