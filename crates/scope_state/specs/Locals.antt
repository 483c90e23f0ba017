-- The locals of lent arrays, oldest first, and the stack that they are, newest first.
use Rattle.std.specs.Prelude.{ℕ, zero, suc, ◌+◌, ◌-◌, ◌*◌, ◌<◌, ◌≡◌, cond, List, [], ◌∷◌, ltb, get_or, take, drop, Option, Some, None}
use Rattle.std.proofs.Math.Option.{Option as Maybe, none, some}
use Rattle.rules.specs.State.{State as Status}
use Rattle.rules.specs.Stack.{Static, Local, local, lookup, Stack as Scope}
use Rattle.scope_state.specs.Kinds.{said}

-- the first n locals, newest first: what they are, and what is said of them
unfoldable pub stacked : ℕ → (ℕ → Static) → (ℕ → Status) → Scope Status
stacked zero f g = []
stacked (suc n) f g = local (f n) (g n) ∷ stacked n f g

-- the local of a number
abbrev pub static_in : List ℕ → List ℕ → List ℕ → List ℕ → ℕ → Static
static_in names types depths births i = record { name = get_or names i 0; ty = get_or types i 0; depth = get_or depths i 0; born = get_or births i 0 }

-- the stack of the first n locals of lent arrays, with what is said of their numbers
abbrev pub lent : List ℕ → List ℕ → List ℕ → List ℕ → (ℕ → Status) → ℕ → Scope Status
lent names types depths births at n = stacked n (static_in names types depths births) at

-- where the row of local i begins in the rows that begin at cur
abbrev pub row_of : ℕ → ℕ → ℕ → ℕ
row_of cur width i = cur + i * (width + 1)

-- a row: its count, then its places
abbrev pub row_at : List ℕ → ℕ → List ℕ
row_at rows at = take (get_or rows at 0) (drop (at + 1) rows)

-- the state of a kind whose row begins at `at`: 0 Alive, 1 to 6 as the error of a use, with one place beside the kind, or, 8 more, several in the row
abbrev pub status_of : ℕ → ℕ → List ℕ → ℕ → Status
status_of kind first rows at = cond (ltb kind 8) (said kind (first ∷ [])) (said (kind - 8) (row_at rows at))

-- the state of the local of a number
abbrev pub state_in : List ℕ → List ℕ → List ℕ → ℕ → ℕ → ℕ → Status
state_in kinds firsts rows cur width i = status_of (get_or kinds i 0) (get_or firsts i 0) rows (row_of cur width i)

abbrev pub Below : Option ℕ → ℕ → Type 0
Below None n = Unit {0}
Below (Some i) n = i < n

-- the local that was found
abbrev pub found_in : List ℕ → List ℕ → List ℕ → List ℕ → (ℕ → Status) → Option ℕ → Maybe (Local Status)
found_in names types depths births at None = none
found_in names types depths births at (Some i) = some (local (static_in names types depths births i) (at i))

-- the number of the newest of the first n locals of a name, whatever else is said of them
pub record Finds (names : List ℕ) (n name : ℕ) (r : Option ℕ) : Type 0 where
  pub below : Below r n
  pub is : (types depths births : List ℕ) (at : ℕ → Status) → lookup name (lent names types depths births at n) ≡ found_in names types depths births at r
