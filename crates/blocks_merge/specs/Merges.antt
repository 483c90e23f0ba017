-- What the branches of a statement require, and what is left of both.
use Rattle.std.specs.Prelude.{ℕ, ◌≤◌, ◌<◌, ◌≡◌, Bool, cond, not, ◌&&◌, List, ◌⊎◌, eqb, length, get_or}
use Rattle.tables.specs.Limits.{version1}
use Rattle.rules.specs.Rules.{Switches, states, joins, merge}
use Rattle.rules.specs.Walk.{too_wide}
use Rattle.statements_steps.specs.Own.{number_of}
use Rattle.scope_stack.specs.declared.Locals.{Locals}
use Rattle.scope_stack.specs.declared.States.{States}
use Rattle.scope_stack.specs.View.{row_of, view, Held, Rowed}
use Rattle.blocks_ends.specs.declared.Env.{Env}
use Rattle.blocks_ends.specs.declared.Walk.{Walk}
use Rattle.blocks_ends.specs.Ends.{place_in, fault_in, sure_in}

-- the numbers of a branch, whose rows stand behind those of n locals
abbrev pub behind_of : Env → ℕ → Env
behind_of env n = record { left = env.left; limit = env.limit; width = env.width; cur = row_of env.cur env.width n; base = env.base; switches = env.switches }

-- those of a While's block, the body of the nearest loop, behind n locals; of another, as they are
abbrev pub looped_of : Env → ℕ → ℕ → Env
looped_of env tag n = cond (eqb tag 8) (record { left = env.left; limit = env.limit; width = env.width; cur = env.cur; base = n; switches = env.switches }) env

-- rows that are the same below a place
pub record Below (cur : ℕ) (rows new : List ℕ) : Type 0 where
  pub room : length new ≡ length rows
  pub same : (k : ℕ) → k < cur → get_or new k 0 ≡ get_or rows k 0

-- the states of n locals, with their rows
pub record RowsStand (n : ℕ) (t : States) (rows : List ℕ) (cur width : ℕ) : Type 0 where
  pub held : Held t
  pub rowed : Rowed n t rows cur width

-- two branches of n locals: the base's rows from cur on, then's behind them, the other's at b, behind both or the base's
pub record Branches (n : ℕ) (t u v : States) (rows : List ℕ) (cur width b : ℕ) : Type 0 where
  pub small : n ≤ 64
  pub wide : width ≡ 8
  pub base : RowsStand n t rows cur width
  pub first : RowsStand n u rows (row_of cur width n) width
  pub other : RowsStand n v rows b width
  pub apart : (b ≡ cur) ⊎ (row_of (row_of cur width n) width n ≤ b)
  pub low : (cur < 4294967296) × (b < 4294967296)

-- merge_control_flow_states behind two branches, whether each surely returns; 254: the rows do not reach
pub record MergesIn (w : Switches) (x y : Bool) (n : ℕ) (base first other : States) (rows : List ℕ) (cur width b : ℕ) (pl : Walk) (r : States) (rows' : List ℕ) (pl' : Walk) : Type 0 where
  pub below : Below cur rows rows'
  pub place : place_in pl' ≡ place_in pl
  pub short : fault_in pl' ≡ 254 → length rows < row_of (row_of cur width n) width n
  pub stands : fault_in pl' ≡ 0 → RowsStand n r rows' cur width
  pub fault : (fault_in pl' ≡ 254 → ⊥) → (l : Locals) → l.count ≡ n
      → fault_in pl' ≡ number_of (too_wide version1 (not x && not y) (joins (states w) (view l first rows (row_of cur width n) width) (view l other rows b width)))
  pub locals : fault_in pl' ≡ 0 → (l : Locals) → l.count ≡ n
      → view l r rows' cur width ≡ merge (states w) x y (view l base rows cur width) (view l first rows (row_of cur width n) width) (view l other rows b width)

-- the merge behind else's block; where that has a fault, its states as they are
pub record MergesElse (w : Switches) (x : Bool) (n : ℕ) (base first other : States) (rows : List ℕ) (cur width b : ℕ) (pl : Walk) (r : States) (rows' : List ℕ) (pl' : Walk) : Type 0 where
  pub faulty : 0 < fault_in pl → (r ≡ other) × (rows' ≡ rows) × (pl' ≡ pl)
  pub merges : fault_in pl ≡ 0 → MergesIn w x (sure_in pl) n base first other rows cur width b pl r rows' pl'
