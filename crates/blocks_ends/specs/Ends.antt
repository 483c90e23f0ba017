-- What the code before, between and behind blocks requires and does; where a walk has come to is lent.
use Rattle.std.specs.Prelude.{ℕ, ◌+◌, ◌-◌, ◌≤◌, ◌<◌, ◌≡◌, Bool, false, cond, ◌&&◌, Option, Some, None, List, [], ◌∷◌, eqb, leb, length, get_or}
use Rattle.image_fields.specs.Number.{two, four}
use Rattle.image_fields.specs.Bytes.{four_bytes}
use Rattle.rules.specs.State.{State as Status}
use Rattle.rules.specs.Stack.{Stack as Scope}
use Rattle.rules.specs.Rules.{Switches, switches_of, at_end, concerns}
use Rattle.scope_state.specs.Locals.{static_in}
use Rattle.image_writing.specs.Stored.{Stored}
use Rattle.scope_rows.specs.declared.Stop.{Stop}
use Rattle.scope_rows.specs.Stop.{stop_number}
use Rattle.statements_returns.specs.Returns.{StmtThere}
use Rattle.statements_acts.specs.declared.Place.{Place}
use Rattle.statements_acts.specs.Act.{Within}
use Rattle.statements_changes.specs.declared.Cursor.{Cursor}
use Rattle.statements_changes.specs.Turns.{between_of}
use Rattle.blocks_laws.specs.Walks.{Walked}
use Rattle.blocks_laws.specs.Places.{headed, flagged}
use Rattle.blocks_ends.specs.declared.Env.{Env}
use Rattle.blocks_ends.specs.declared.Walk.{Walk}

-- where a walk has come to: its place, its fault or 0, whether it surely returns
abbrev pub place_in : Walk → Place
place_in pl = pl.place

abbrev pub stopped_at : Option Stop → ℕ
stopped_at None = 0
stopped_at (Some k) = stop_number k

abbrev pub fault_in : Walk → ℕ
fault_in pl = stopped_at pl.stop

abbrev pub sure_in : Walk → Bool
sure_in pl = pl.sure

abbrev pub walked_in : Walk → Scope Status → Walked
walked_in pl σ = record { fault = fault_in pl; sure = sure_in pl; place = place_in pl; locals = σ }

-- it says this
pub record Tells (pl : Walk) (k : ℕ) (b : Bool) (p : Place) : Type 0 where
  pub fault : fault_in pl ≡ k
  pub sure : sure_in pl ≡ b
  pub place : place_in pl ≡ p

-- the numbers of the walk of a block's statements
abbrev pub inner_of : Env → Env
inner_of env = record { left = env.left - 1; limit = env.limit; width = env.width; cur = env.cur; base = env.base; switches = env.switches }

-- the head of the block at a place: its span, and room for its count
pub record Heads (s : List ℕ) (p : Place) (out : List ℕ) (c : Cursor) (out' : List ℕ) : Type 0 where
  pub is : c ≡ between_of (two s (p.at + 4)) (headed p (p.written + 4)) None
  pub stored : Stored out p.written (four_bytes (four s p.at)) out' (p.written + 4)

-- behind then's block: a loop never surely returns; an IfElse has a flag
pub record Loops (out : List ℕ) (pl : Walk) (r : Bool) (out' : List ℕ) (pl' : Walk) : Type 0 where
  pub flag : r ≡ false
  pub same : out' ≡ out
  pub tells : Tells pl' (fault_in pl) false (place_in pl)

pub record Flags (s out : List ℕ) (pl : Walk) (r : Bool) (out' : List ℕ) (pl' : Walk) : Type 0 where
  pub flag : r ≡ eqb (get_or s (place_in pl).at 0) 1
  pub stored : Stored out (place_in pl).written (get_or s (place_in pl).at 0 ∷ []) out' (place_in pl').written
  pub tells : Tells pl' (fault_in pl) (sure_in pl) (flagged (place_in pl) (place_in pl').written)

-- of n locals, at most 64, those from base on, and no others, are of depth d: a block's own frame; those before are of lesser depth
pub record Frame (depths : List ℕ) (base d n : ℕ) : Type 0 where
  pub few : n ≤ 64
  pub own : (i : ℕ) → i < n → eqb (get_or depths i 0) d ≡ leb base i
  pub outer : (i : ℕ) → i < n → i < base → get_or depths i 0 < d

-- those from base on, and no others, are deleted at the end of a block of depth d
pub record Due (w : Switches) (depths : List ℕ) (base d n : ℕ) : Type 0 where
  pub few : n ≤ 64
  pub own : (names types births : List ℕ) (i : ℕ) → i < n → concerns w (at_end d) (static_in names types depths births i) ≡ leb base i

-- the first of them: of the block's own locals, or, at the end of the body's block with switch 4 on, of all (02, e)
abbrev pub first_of : ℕ → ℕ → ℕ → ℕ
first_of v left base = cond ((switches_of v).parameters && leb 12 left) 0 base

-- what the end of a block requires
pub record EndThere (s : List ℕ) (left : ℕ) (start p : Place) : Type 0 where
  pub low : 0 < left
  pub high : left ≤ 12
  pub head : start.at + 6 ≤ length s
  pub within : Within s p
  pub gap : start.written < 4294900000
  pub last : 0 < two s (start.at + 4) → StmtThere s (left - 1) p.last

-- and what is known behind it, whatever was lent
pub record Ended (start p : Place) (pl : Walk) : Type 0 where
  pub fault : fault_in pl ≡ 0
  pub at : (place_in pl).at ≡ p.at
  pub errors : (place_in pl).errors ≡ p.errors
  pub warnings : (place_in pl).warnings ≡ p.warnings
  pub lefts : (place_in pl).lefts ≡ p.lefts
  pub inserted : (place_in pl).inserted ≡ start.inserted
  pub most : (place_in pl).written ≤ p.written + 1344
