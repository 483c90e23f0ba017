-- What the code of a statement does, whatever statement was read there.
use Rattle.std.specs.Prelude.{ℕ, ◌+◌, ◌*◌, ◌≤◌, ◌≡◌, true, false, List, length, Some, None, Option}
use Rattle.std.proofs.Math.Option.{Option as Maybe}
use Rattle.image_fields.specs.Parsed.{Parsed, ok}
use Rattle.tables.specs.Limits.{version1}
use Rattle.tables.specs.Tables.{Tables}
use Rattle.image_body.specs.Expr.{Scope as Reading, exprs_at}
use Rattle.image_body.specs.Stmt.{Tree, Block, Stmt, before, stmt_at}
use Rattle.rules.specs.Expr as rules
use Rattle.rules.specs.State.{State as Status, alive, deleted}
use Rattle.rules.specs.Stack.{mark, Stack as Scope}
use Rattle.rules.specs.Rules.{declared, states, register, off, Switches}
use Rattle.rules.specs.Report.{warnings, lefts}
use Rattle.rules.specs.Verdict.{entries_of}
use Rattle.statements_returns.specs.Front.{front_at}
use Rattle.image_writing.specs.Stored.{Stored}
use Rattle.image_lines.specs.Lined.{Cursors, cursors}
use Rattle.image_lines.specs.Told.{Lined}
use Rattle.statements_acts.specs.declared.Named.{Named}
use Rattle.statements_acts.specs.declared.Change.{Change}
use Rattle.statements_acts.specs.declared.Change.TheVariants.{Nothing, Delete, Register, Revive}
use Rattle.statements_acts.specs.declared.Place.{Place}
use Rattle.statements_acts.specs.declared.Act.{Act}
use Rattle.statements_steps.specs.Statement.{front_size, front_drops, front_bytes, front_reports, settle}

-- the code's names and changes
abbrev pub named_of : Option Named → rules.Named
named_of None = rules.nobody
named_of (Some x) = rules.called x.name x.span

abbrev pub change_in : ℕ → Change → Scope Status → Scope Status
change_in d Nothing σ = σ
change_in d (Delete n p) σ = mark n ((states off).killed deleted p) σ
change_in d (Register n t p) σ = register (states off) (declared d p n t) σ
change_in d (Revive n) σ = mark n (λ a. alive) σ

abbrev pub taken_in : Option Named → Scope Status → Scope Status
taken_in None σ = σ
taken_in (Some x) σ = mark x.name ((states off).killed deleted x.span) σ

-- some statement was read at a position, and its values end there
pub record FrontThere (s : List ℕ) (at end : ℕ) : Type 0 where
  pub f : ℕ → Parsed Block
  pub t : Reading
  pub deep : t.expr_depth ≡ 24
  pub x : Stmt
  pub next : ℕ
  pub read : stmt_at f t s at ≡ ok x next
  pub values : exprs_at t s 24 (front_at s at).values (front_at s at).first ≡ ok x.front.values end

-- a place of the walk: within the image; at most 1,000 numbers or bytes were stored for each byte read; bytes, warnings and left-behind entries
-- may begin at up to 200,000,000, where a page's lists are
pub record Within (s : List ℕ) (p : Place) : Type 0 where
  pub small : length s ≤ 65536
  pub inside : p.at ≤ length s
  pub written : p.written ≤ 200000000 + 1000 * p.at
  pub errors : p.errors ≤ 1000 * p.at
  pub warnings : p.warnings ≤ 200000000 + 1000 * p.at
  pub lefts : p.lefts ≤ 200000000 + 1000 * p.at
  pub inserted : p.inserted ≤ 1000 * p.at

-- from one place to a later one, as many
pub record Grows (s : List ℕ) (p q : Place) : Type 0 where
  pub on : p.at ≤ q.at
  pub inside : q.at ≤ length s
  pub written : q.written + 1000 * p.at ≤ p.written + 1000 * q.at
  pub errors : q.errors + 1000 * p.at ≤ p.errors + 1000 * q.at
  pub warnings : q.warnings + 1000 * p.at ≤ p.warnings + 1000 * q.at
  pub lefts : q.lefts + 1000 * p.at ≤ p.lefts + 1000 * q.at
  pub inserted : q.inserted + 1000 * p.at ≤ p.inserted + 1000 * q.at

-- where the next line of each list is stored, if a page is made
abbrev pub cursors_at : Place → Cursors
cursors_at p = cursors p.errors p.warnings p.lefts

-- The statement c up to its blocks, in a loop whose body has that depth, if any, walked from a place: what is stored, where the walk stands
-- then, and how the locals change. Where a page is made, the output ends no later than the place, and no byte is stored but its lines
pub record Acts (w : Switches) (T : Tables) (c : Tree) (loop : Maybe ℕ) (σ : Scope Status) (p : Place) (out warns left : List ℕ) (a : Act) (out' warns' left' : List ℕ) : Type 0 where
  pub bytes : p.paged ≡ false → Stored out p.written (front_bytes w T c loop σ) out' a.place.written
  pub warned : p.paged ≡ false → Stored warns p.warnings (entries_of version1 (warnings (front_reports w T c loop p.at σ))) warns' a.place.warnings
  pub listed : p.paged ≡ false → Stored left p.lefts (entries_of version1 (lefts (front_reports w T c loop p.at σ))) left' a.place.lefts
  pub lines : p.paged ≡ true → length out ≤ p.written → Lined (cursors_at p) (front_reports w T c loop p.at σ) out (cursors_at a.place) out'
  pub long : a.place.written ≡ p.written + length (front_bytes w T c loop σ)
  pub paged : a.place.paged ≡ p.paged
  pub errors : a.place.errors ≡ p.errors
  pub inserted : a.place.inserted ≡ p.inserted + length (front_drops w T c loop σ)
  pub last : a.place.last ≡ p.at
  pub fits : a.place.fits ≡ p.fits
  pub at : a.place.at ≡ p.at + front_size c
  pub settles : (d : ℕ) → taken_in a.taken (change_in d a.change σ) ≡ settle T c d σ

-- of whatever statement was read at the place, before whatever follows it
pub record ActsThere (w : Switches) (T : Tables) (s : List ℕ) (loop : Maybe ℕ) (σ : Scope Status) (p : Place) (out warns left : List ℕ) (a : Act) (out' warns' left' : List ℕ) : Type 0 where
  pub acts : (f : ℕ → Parsed Block) (t : Reading) (x : Stmt) (next : ℕ) (r : Tree) → t.expr_depth ≡ 24 → stmt_at f t s p.at ≡ ok x next
      → Acts w T (before x r) loop σ p out warns left a out' warns' left'
