-- What the walk of blocks and branches requires, and where it comes to.
use Rattle.std.specs.Prelude.{ℕ, suc, ◌+◌, ◌-◌, ◌*◌, ◌≤◌, ◌<◌, ◌≡◌, Bool, List, leb, length, get_or}
use Rattle.std.proofs.Math.Option.{Option, none, some}
use Rattle.rules.specs.Rules.{Switches}
use Rattle.tables.specs.Tables.{Tables}
use Rattle.rules.specs.State.{State as Status}
use Rattle.rules.specs.Stack.{shape, Stack as Scope}
use Rattle.tables_lookup.specs.Lent.{Lent, Says}
use Rattle.image_writing.specs.Memory.{Memory}
use Rattle.statements_acts.specs.declared.Place.{Place}
use Rattle.statements_acts.specs.Act.{Within, Grows}
use Rattle.scope_stack.specs.declared.Locals.{Locals}
use Rattle.scope_stack.specs.declared.States.{States}
use Rattle.scope_stack.specs.View.{view, Sound, Nested}
use Rattle.statements_changes.specs.Turns.{retold}
use Rattle.blocks_laws.specs.Walks.{Walked, BlockWalks}
use Rattle.blocks_laws.specs.Ends.{Merges}
use Rattle.blocks_ends.specs.declared.Env.{Env}
use Rattle.blocks_ends.specs.declared.Walk.{Walk}
use Rattle.blocks_ends.specs.Ends.{place_in, fault_in}
use Rattle.blocks_merge.specs.Merges.{Below}

-- these locals stand before a block of depth d, and of them those from base on, and no others, are of the nearest loop, whose body has depth k;
-- outside any loop base is 64
abbrev pub InLoop : Option ℕ → ℕ → ℕ → Locals → Type 0
InLoop none base d l = base ≡ 64
InLoop (some k) base d l = (k ≤ d) × (base ≤ l.count) × ((i : ℕ) → i < l.count → leb k (get_or l.depths i 0) ≡ leb base i)

-- a walk may begin at a place with a stack, where so much depth is left for blocks
pub record Enters (s tb : List ℕ) (env : Env) (l : Locals) (t : States) (rows : List ℕ) (p : Place) : Type 0 where
  pub lent : Lent s tb
  pub within : Within s p
  pub depth : env.left ≤ 12
  pub limit : env.limit ≡ 64
  pub width : env.width ≡ 8
  pub sound : Sound (Says s tb) l t rows env.cur env.width
  pub nested : Nested (12 - env.left) (shape (view l t rows env.cur env.width))
  pub near : Option ℕ
  pub looped : InLoop near env.base (suc (12 - env.left)) l

-- Where a walk with these locals comes to; fault 254 says that there are fewer rows than `least`.
pub record Comes (s tb : List ℕ) (cur width least : ℕ) (l : Locals) (rows : List ℕ) (p : Place) (r : States) (rows' : List ℕ) (pl' : Walk) : Type 0 where
  pub below : Below cur rows rows'
  pub short : fault_in pl' ≡ 254 → length rows < least
  pub sound : fault_in pl' ≡ 0 → Sound (Says s tb) l r rows' cur width
  pub within : fault_in pl' ≡ 0 → Within s (place_in pl')
  pub grows : fault_in pl' ≡ 0 → Grows s (retold p 0) (retold (place_in pl') 0)

-- the rows that suffice for a block with so much depth left, and for the blocks of a statement
abbrev pub block_rows : ℕ → ℕ → ℕ
block_rows cur left = cur + 1152 * left - 576

abbrev pub stmt_rows : ℕ → ℕ → ℕ
stmt_rows cur left = cur + 1152 * left + 576

-- the second block of an IfElse, and the merge behind it, or its fault
pub record ElseMerges (sw : Switches) (T : Tables) (s : List ℕ) (left d : ℕ) (loop : Option ℕ) (sure : Bool) (σ τ : Scope Status) (p : Place) (m : Memory) (r : Walked) (m' : Memory) : Type 0 where
  pub w : Walked
  pub walks : BlockWalks sw T s left (suc d) loop σ p m w m'
  pub fault : 0 < w.fault → r ≡ w
  pub merges : w.fault ≤ 0 → Merges sw sure σ τ w r
