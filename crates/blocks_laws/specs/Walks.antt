-- What a walk over statements and blocks comes to, whatever was read there.
use Rattle.std.specs.Prelude.{ℕ, suc, ◌+◌, ◌≤◌, ◌<◌, ◌≡◌, Bool, true, false, ◌&&◌, ◌||◌, List, ◌++◌, length, get_or, eqb}
use Rattle.std.proofs.Math.Option.{Option, none}
use Rattle.image_fields.specs.Parsed.{ok}
use Rattle.tables.specs.Limits.{version1}
use Rattle.tables.specs.Tables.{Tables}
use Rattle.image_body.specs.Expr.{Expr, Scope as Reading}
use Rattle.image_body.specs.Stmt.{Tree, Block, Stmt, done, if_else, if_then, while, before, stmt_in, stmts_at, block_at}
use Rattle.image_encoding.specs.Body.{size, encode_code}
use Rattle.rules.specs.State.{State as Status}
use Rattle.rules.specs.Stack.{Stack as Scope}
use Rattle.rules.specs.Rules.{states, sure_from, exit, Switches}
use Rattle.rules.specs.Report.{report, errors, warnings, lefts}
use Rattle.rules.specs.Walk.{walk_fault}
use Rattle.rules.specs.Verdict.{entries_of, counts_fit}
use Rattle.image_writing.specs.Memory.{Memory}
use Rattle.image_writing.specs.Stored.{Stored}
use Rattle.image_lines.specs.Told.{Lined}
use Rattle.statements_returns.specs.Returns.{BlockThere, BranchesThere}
use Rattle.statements_acts.specs.declared.Place.{Place}
use Rattle.statements_acts.specs.Act.{cursors_at}
use Rattle.statements_steps.specs.Own.{number_of, Own, returned, blocks_own, blocks_fault, blocks_after, block_own}

-- what a walk comes to: its fault or 0, whether it surely returns, where it stands, the locals
pub record Walked : Type 0 where
  pub fault : ℕ
  pub sure : Bool
  pub place : Place
  pub locals : Scope Status

-- from one place to another o was stored: its bytes, as far as no block counts too many, and its reports in their lists; or, where a page
-- is made and the output ends no later than the first place, the lines of its reports
pub record Wrote (o : Own) (p : Place) (m : Memory) (q : Place) (m' : Memory) : Type 0 where
  pub bytes : p.paged ≡ false → q.fits ≡ true → Stored m.out p.written o.bytes m'.out q.written
  pub errors : p.paged ≡ false → Stored m.errs p.errors (entries_of version1 (errors o.reports)) m'.errs q.errors
  pub warnings : p.paged ≡ false → Stored m.warns p.warnings (entries_of version1 (warnings o.reports)) m'.warns q.warnings
  pub lefts : p.paged ≡ false → Stored m.lefts p.lefts (entries_of version1 (lefts o.reports)) m'.lefts q.lefts
  pub lines : p.paged ≡ true → length m.out ≤ p.written → Lined (cursors_at p) o.reports m.out (cursors_at q) m'.out
  pub long : q.written ≡ p.written + length o.bytes
  pub fits : q.fits ≡ (p.fits && o.fits)
  pub paged : q.paged ≡ p.paged

-- a block without a fault
pub record BlockDone (sw : Switches) (T : Tables) (b : Block) (d : ℕ) (loop : Option ℕ) (σ : Scope Status) (p : Place) (m : Memory) (r : Walked) (m' : Memory) (next : ℕ) : Type 0 where
  pub wrote : Wrote (block_own sw T b.span b.code d loop p.at σ) p m r.place m'
  pub inserted : r.place.inserted ≡ p.inserted
  pub last : r.place.last ≡ p.last
  pub at : r.place.at ≡ next
  pub locals : r.locals ≡ exit (states sw) T b.code d σ
  pub sure : r.sure ≡ sure_from b.code false

-- a block of depth d with so much depth left
pub record BlockWalks (sw : Switches) (T : Tables) (s : List ℕ) (left d : ℕ) (loop : Option ℕ) (σ : Scope Status) (p : Place) (m : Memory) (r : Walked) (m' : Memory) : Type 0 where
  pub walks : (t : Reading) → t.expr_depth ≡ 24 → (b : Block) (next : ℕ) → block_at t s left p.at ≡ ok b next
      → (r.fault ≡ number_of (walk_fault version1 sw T b.code d σ))
      × (walk_fault version1 sw T b.code d σ ≡ none → BlockDone sw T b d loop σ p m r m' next)

-- The walk of statements of a block of depth d, total in all, has led from the first place to another, n statements before the end of
-- the list, which ends at a position: what was stored, the statements c that are left, and what holds of these holds of all.
pub record Leads (sw : Switches) (T : Tables) (s : List ℕ) (t : Reading) (left d : ℕ) (loop : Option ℕ) (total : ℕ) (c₀ : Tree) (σ₀ : Scope Status) (p₀ : Place) (m₀ : Memory)
    (n : ℕ) (σ : Scope Status) (p : Place) (m : Memory) (end : ℕ) : Type 0 where
  pub c : Tree
  pub f : Bool
  pub o : Own
  pub few : n ≤ total
  pub read : stmts_at t s left n p.at ≡ ok c end
  pub wrote : Wrote o p₀ m₀ p m
  pub bytes : (sp : ℕ) → encode_code (returned sw T c₀ sp d loop false σ₀) ≡ o.bytes ++ encode_code (returned sw T c sp d loop f σ)
  pub reports : report sw T c₀ d loop p₀.at σ₀ ≡ o.reports ++ report sw T c d loop p.at σ
  pub fits : (sp : ℕ) → counts_fit 65535 (returned sw T c₀ sp d loop false σ₀) ≡ (o.fits && counts_fit 65535 (returned sw T c sp d loop f σ))
  pub size : (sp : ℕ) → size (returned sw T c₀ sp d loop false σ₀) + p₀.inserted + n ≡ size (returned sw T c sp d loop f σ) + p.inserted + total
  pub fault : walk_fault version1 sw T c₀ d σ₀ ≡ walk_fault version1 sw T c d σ
  pub after : exit (states sw) T c₀ d σ₀ ≡ exit (states sw) T c d σ
  pub sure : sure_from c₀ false ≡ sure_from c f
  pub first : n ≡ total → f ≡ false
  pub last : n < total → (x : Stmt) × (e : ℕ) × (stmt_in t s left p.last ≡ ok x e) × (f ≡ sure_from (before x (done tt)) false)

-- so many statements of a block of depth d, whose own blocks have so much depth left
pub record StmtsWalk (sw : Switches) (T : Tables) (s : List ℕ) (left d : ℕ) (loop : Option ℕ) (total : ℕ) (σ : Scope Status) (p : Place) (m : Memory) (r : Walked) (m' : Memory) : Type 0 where
  pub walks : (t : Reading) → t.expr_depth ≡ 24 → (c : Tree) (end : ℕ) → stmts_at t s left total p.at ≡ ok c end
      → (r.fault ≡ number_of (walk_fault version1 sw T c d σ))
      × (walk_fault version1 sw T c d σ ≡ none → Leads sw T s t left d loop total c σ p m 0 r.locals r.place m' end)

-- the blocks of the statement c of a block of depth d, without a fault
pub record BlocksDone (sw : Switches) (T : Tables) (c : Tree) (d : ℕ) (loop : Option ℕ) (σ : Scope Status) (p : Place) (m : Memory) (r : Walked) (m' : Memory) (next : ℕ) : Type 0 where
  pub wrote : Wrote (blocks_own sw T c d loop p.at σ) p m r.place m'
  pub inserted : r.place.inserted ≡ p.inserted
  pub last : r.place.last ≡ p.last
  pub at : r.place.at ≡ next
  pub locals : r.locals ≡ blocks_after sw T c d σ

pub record BlocksWalk (sw : Switches) (T : Tables) (c : Tree) (d : ℕ) (loop : Option ℕ) (σ : Scope Status) (p : Place) (m : Memory) (r : Walked) (m' : Memory) (next : ℕ) : Type 0 where
  pub fault : r.fault ≡ number_of (blocks_fault sw T c d σ)
  pub done : blocks_fault sw T c d σ ≡ none → BlocksDone sw T c d loop σ p m r m' next

-- statements, the blocks of a statement of a tag were read there
pub record StmtsThere (s : List ℕ) (left total at : ℕ) : Type 0 where
  pub t : Reading
  pub deep : t.expr_depth ≡ 24
  pub c : Tree
  pub end : ℕ
  pub read : stmts_at t s left total at ≡ ok c end

pub record IfThere (s : List ℕ) (left at : ℕ) : Type 0 where
  pub there : BranchesThere s left at
  pub flag : get_or s there.flag 0 < 2

pub record TagThere (s : List ℕ) (left at tag : ℕ) : Type 0 where
  pub ifs : tag ≡ 7 → IfThere s left at
  pub others : (tag ≡ 7 → ⊥) → BlockThere s left at

-- the blocks of an IfElse, of a While, of a statement of a tag, whatever was read there
pub record IfWalks (sw : Switches) (T : Tables) (s : List ℕ) (left d : ℕ) (loop : Option ℕ) (σ : Scope Status) (p : Place) (m : Memory) (r : Walked) (m' : Memory) : Type 0 where
  pub without : (t : Reading) → t.expr_depth ≡ 24 → (b : Block) (q : ℕ) → block_at t s left p.at ≡ ok b q → get_or s q 0 ≡ 0 → (sp : ℕ) (x : Expr) (c : Tree)
      → BlocksWalk sw T (if_then sp x b.span b.code c) d loop σ p m r m' (q + 1)
  pub with : (t : Reading) → t.expr_depth ≡ 24 → (b : Block) (q : ℕ) → block_at t s left p.at ≡ ok b q → get_or s q 0 ≡ 1
      → (u : Block) (next : ℕ) → block_at t s left (q + 1) ≡ ok u next → (sp : ℕ) (x : Expr) (c : Tree)
      → BlocksWalk sw T (if_else sp x b.span b.code u.span u.code c) d loop σ p m r m' next

pub record LoopWalks (sw : Switches) (T : Tables) (s : List ℕ) (left d : ℕ) (loop : Option ℕ) (σ : Scope Status) (p : Place) (m : Memory) (r : Walked) (m' : Memory) : Type 0 where
  pub walks : (t : Reading) → t.expr_depth ≡ 24 → (b : Block) (q : ℕ) → block_at t s left p.at ≡ ok b q → (sp : ℕ) (x : Expr) (c : Tree)
      → BlocksWalk sw T (while sp x b.span b.code c) d loop σ p m r m' q

pub record TagWalks (sw : Switches) (T : Tables) (s : List ℕ) (left d : ℕ) (loop : Option ℕ) (tag : ℕ) (σ : Scope Status) (p : Place) (m : Memory) (r : Walked) (m' : Memory) : Type 0 where
  pub ifs : tag ≡ 7 → IfWalks sw T s left d loop σ p m r m'
  pub loops : tag ≡ 8 → LoopWalks sw T s left d loop σ p m r m'
  pub others : (tag ≡ 7 → ⊥) → (tag ≡ 8 → ⊥) → BlockWalks sw T s left (suc d) loop σ p m r m'

-- of whatever statements were read at the first place
abbrev pub LeadsAll : Switches → Tables → List ℕ → ℕ → ℕ → Option ℕ → ℕ → Scope Status → Place → Memory → ℕ → Scope Status → Place → Memory → Type 0
LeadsAll sw T s left d loop total σ₀ p₀ m₀ n σ p m =
    (t : Reading) → t.expr_depth ≡ 24 → (c : Tree) (end : ℕ) → stmts_at t s left total p₀.at ≡ ok c end → Leads sw T s t left d loop total c σ₀ p₀ m₀ n σ p m end

-- whether a statement of a tag has blocks
abbrev pub blocked : ℕ → Bool
blocked tag = eqb tag 1 || (eqb tag 7 || eqb tag 8)
