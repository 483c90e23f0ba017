-- What the code's structs stand for, and what every state of the pass meets.
use Rattle.std.specs.Prelude.{ℕ, ◌≡◌, not, List, ltb, length, take, Option, Some, is_some}
use Rattle.tables.specs.Limits.{version1}
use Rattle.rules.specs.State.{State as Status}
use Rattle.rules.specs.Walk.{places_of}
use Rattle.scope_state.specs.declared.Places.{Places}
use Rattle.scope_state.specs.declared.State.{State}
use Rattle.scope_state.specs.Kinds.{said}

abbrev pub listed : Places → List ℕ
listed p = take p.count p.list

abbrev pub state_of : State → Status
state_of s = said s.kind (listed s.places)

-- the places ps, refused where there is a 9th
pub record Fits (r : Option Places) (ps : List ℕ) : Type 0 where
  pub ok : is_some r ≡ not (ltb version1.places (length ps))
  pub is : (p : Places) → r ≡ Some p → listed p ≡ ps

-- the state a, refused where it has a 9th place
pub record Joins (r : Option State) (a : Status) : Type 0 where
  pub ok : is_some r ≡ not (ltb version1.places (length (places_of a)))
  pub is : (s : State) → r ≡ Some s → state_of s ≡ a
