-- Statements of a block walked over lent arrays up to the next change of the stack.
use Rattle.std.specs.Prelude.{ℕ, ◌+◌, ◌*◌, ◌≤◌, ◌<◌, ◌≡◌, true, false, cond, List, [], ◌∷◌}
use Rattle.std.proofs.Math.Option.{Option, none}
use Rattle.image_fields.specs.Parsed.{ok}
use Rattle.tables.specs.Limits.{version1}
use Rattle.tables.specs.Tables.{Tables}
use Rattle.image_body.specs.Expr.{Scope as Reading, Exprs}
use Rattle.image_body.specs.Stmt.{Tree, stmts_at}
use Rattle.rules.specs.State.{State as Status}
use Rattle.rules.specs.Stack.{mark, Stack as Scope}
use Rattle.rules.specs.Rules.{declared, states, register, Switches, off}
use Rattle.rules.specs.Walk.{too_many, walk_fault}
use Rattle.expressions_steps.specs.Scan.{Stage, Stacked, Ready, fuel, root_of, top_of}
use Rattle.expressions_steps.specs.declared.Open.{Open}
use Rattle.scope_state.specs.Kinds.{said, put}
use Rattle.statements_returns.specs.Front.{front_at}
use Rattle.statements_steps.specs.Own.{number_of}
use Rattle.std.specs.declared.option.Option.{Option as Maybe}
use Rattle.std.specs.declared.option.Option.TheVariants.{None, Some}
use Rattle.std.specs.declared.ops.ControlFlow.{ControlFlow}
use Rattle.std.specs.declared.ops.ControlFlow.TheVariants.{Continue, Break}
use Rattle.statements_acts.specs.declared.Named.{Named}
use Rattle.statements_acts.specs.declared.Change.{Change}
use Rattle.statements_acts.specs.declared.Change.TheVariants as change
use Rattle.statements_acts.specs.declared.Place.{Place}
use Rattle.statements_acts.specs.Act.{taken_in, Within}
use Rattle.image_writing.specs.Memory.{Memory, memory}
use Rattle.blocks_laws.specs.Walks.{Walked, LeadsAll, StmtsWalk, StmtsThere, TagThere, TagWalks, blocked}
use Rattle.expressions_scan.specs.Changes.{Standing}
use Rattle.expressions_scan.specs.Resumed.{Onward}
use Rattle.statements_acts.specs.Marks.{lent, Marked, Looped}
use Rattle.statements_changes.specs.declared.Turn.{Turn}
use Rattle.statements_changes.specs.declared.Turn.TheVariants.{Over, Mark, Register, Blocks}
use Rattle.statements_changes.specs.declared.Cursor.{Cursor}
use Rattle.statements_changes.specs.declared.Came.{Came}

-- the stack is that of the first n locals of lent arrays, the mark is its mark, and those from base on are the nearest loop's
pub record Lends (T : Tables) (mark : ℕ) (loop : Option ℕ) (base : ℕ) (names types depths births : List ℕ) (at : ℕ → Status) (n : ℕ) (σ : Scope Status) : Type 0 where
  pub held : σ ≡ lent names types depths births at n
  pub marked : Marked T types at n mark
  pub jumps : Looped depths loop base n

-- a place with other errors
abbrev pub retold : Place → ℕ → Place
retold p k = record { at = p.at; last = p.last; written = p.written; errors = k; warnings = p.warnings; lefts = p.lefts; inserted = p.inserted; fits = p.fits; paged = p.paged }

-- between two statements, with what is still to be taken over; within the values of one
abbrev pub between_of : ℕ → Place → Maybe Named → Cursor
between_of left p taken = record { left = left; begun = false; nodes = 0; at = p.at; place = p; taken = taken }

abbrev pub within_of : ℕ → ℕ → ℕ → Place → Cursor
within_of left nodes at p = record { left = left; begun = true; nodes = nodes; at = at; place = p; taken = None }

-- what is to be done behind a statement of a tag
abbrev pub turn_of : Cursor → Change → ControlFlow Came Cursor
turn_of c change.Nothing = Continue c
turn_of c (change.Delete n p) = Break (record { cursor = c; turn = Mark (record { name = n; kind = 1; place = p; only_alive = false }) })
turn_of c (change.Register n t p) = Break (record { cursor = c; turn = Register n t p })
turn_of c (change.Revive n) = Break (record { cursor = c; turn = Mark (record { name = n; kind = 0; place = 0; only_alive = false }) })

abbrev pub came_of : ℕ → ℕ → Place → Change → Maybe Named → ControlFlow Came Cursor
came_of tag left p ch taken = cond (blocked tag) (Break (record { cursor = between_of left p None; turn = Blocks tag })) (turn_of (between_of left p taken) ch)

-- where the walk stands, whether it goes on or comes back
abbrev pub cursor_of : ControlFlow Came Cursor → Cursor
cursor_of (Continue c) = c
cursor_of (Break b) = b.cursor

module _ (sw : Switches) (T : Tables) (s : List ℕ) (left d : ℕ) (loop : Option ℕ) (all : ℕ) (σ₀ : Scope Status) (p₀ : Place) (m₀ : Memory) where
  -- the values of the statement at the place are scanned: the locals, the errors and the output when that began, and how it went on from there
  pub record Midst (ns : List Open) (c : Cursor) (σ : Scope Status) (m : Memory) : Type 0 where
    pub old : Scope Status
    pub told : ℕ
    pub errs : List ℕ
    pub out : List ℕ
    pub os : List Open
    pub some : 0 < c.left
    pub leads : LeadsAll sw T s left d loop all σ₀ p₀ m₀ c.left old (retold c.place told) (memory out errs m.warns m.lefts)
    pub root : top_of os 1 ≡ root_of (front_at s c.place.at).values
    pub onward : Onward T s os 1 (front_at s c.place.at).first old c.place.paged errs out told ns c.nodes c.at σ m.errs m.out c.place.errors

  -- the walk of all statements has led to the cursor, with the locals σ
  pub record Stood (ns : List Open) (c : Cursor) (σ : Scope Status) (m : Memory) : Type 0 where
    pub between : c.begun ≡ false → LeadsAll sw T s left d loop all σ₀ p₀ m₀ c.left (taken_in c.taken σ) c.place m
    pub within : c.begun ≡ true → Midst ns c σ m

  -- all statements have that fault
  abbrev pub Faulty : ℕ → Type 0
  Faulty k = (t : Reading) → t.expr_depth ≡ 24 → (c : Tree) (end : ℕ) → stmts_at t s left all p₀.at ≡ ok c end → k ≡ number_of (walk_fault version1 sw T c d σ₀)

  -- what holds once the stack has done what it must
  abbrev pub After : List Open → Cursor → Scope Status → Memory → Turn → Type 0
  After ns c σ m Over = LeadsAll sw T s left d loop all σ₀ p₀ m₀ 0 σ c.place m
  After ns c σ m (Mark k) = Stood ns c (mark k.name (put k.only_alive (said k.kind (k.place ∷ []))) σ) m
  After ns c σ m (Register n t p) =
      (too_many version1 (register (states off) (declared d p n t) σ) ≡ none → Stood ns c (register (states off) (declared d p n t) σ) m)
      × (0 < number_of (too_many version1 (register (states off) (declared d p n t) σ)) → Faulty (number_of (too_many version1 (register (states off) (declared d p n t) σ))))
  After ns c σ m (Blocks tag) =
      (w : Walked) (m' : Memory) → TagWalks sw T s left d loop tag σ c.place m w m'
      → (0 < w.fault → StmtsWalk sw T s left d loop all σ₀ p₀ m₀ w m') × (w.fault ≤ 0 → LeadsAll sw T s left d loop all σ₀ p₀ m₀ c.left w.locals w.place m')

  -- and where the walk goes on behind a statement, or comes back
  abbrev pub AfterFlow : List Open → ControlFlow Came Cursor → Scope Status → Memory → Type 0
  AfterFlow ns (Continue c) σ m = Stood ns c σ m
  AfterFlow ns (Break b) σ m = After ns b.cursor σ m b.turn

-- what the code is given of the values that are scanned: statements were read at the place; the scan can go on to their end
pub record Begun (s : List ℕ) (ns : List Open) (c : Cursor) : Type 0 where
  pub some : 0 < c.left
  pub ready : Ready s ns c.nodes c.at
  pub ends : (es : Exprs) (next : ℕ) → Standing s (front_at s c.place.at).values (front_at s c.place.at).first es next
      → (fs : List Stage) × Stacked ns c.nodes fs s c.at next
  pub most : c.place.errors + 219 * fuel s c.nodes c.at ≤ 1000 * c.place.at + 219 * fuel s 1 (front_at s c.place.at).first
  pub free : c.taken ≡ None

pub record Steady (s : List ℕ) (left : ℕ) (ns : List Open) (c : Cursor) : Type 0 where
  pub inside : Within s (retold c.place 0)
  pub there : StmtsThere s left c.left c.place.at
  pub between : c.begun ≡ false → c.place.errors ≤ 1000 * c.place.at
  pub within : c.begun ≡ true → Begun s ns c

-- of some array of open nodes
pub record SomeSteady (s : List ℕ) (left : ℕ) (c : Cursor) : Type 0 where
  pub ns : List Open
  pub steady : Steady s left ns c

-- what the code that goes on is given
abbrev pub Fit : List ℕ → ℕ → List Open → Cursor → Turn → Type 0
Fit s left ns c Over = (c.left ≡ 0) × Within s c.place
Fit s left ns c (Mark k) = Steady s left ns c × (k.kind < 7)
Fit s left ns c (Register n t p) = Steady s left ns c
Fit s left ns c (Blocks tag) = TagThere s left c.place.at tag × Within s c.place × (blocked tag ≡ true) × (c.begun ≡ false)

abbrev pub FitFlow : List ℕ → ℕ → List Open → ControlFlow Came Cursor → Type 0
FitFlow s left ns (Continue c) = Steady s left ns c
FitFlow s left ns (Break b) = Fit s left ns b.cursor b.turn

-- what is still ahead of a cursor: it falls with each turn
abbrev pub owes : Maybe Named → ℕ
owes None = 0
owes (Some n) = 1

abbrev pub ahead : List ℕ → Cursor → ℕ
ahead s c = 400000 * c.left + cond c.begun (fuel s c.nodes c.at) 200000 + owes c.taken
