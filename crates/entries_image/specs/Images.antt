-- The walk of a whole image: what it stores, of whatever image was read.
use Rattle.std.specs.Prelude.{ℕ, ◌+◌, ◌≤◌, ◌<◌, ◌≡◌, Bool, true, List, [], length, Result, Ok, Err, IfOk}
use Rattle.std.proofs.Math.Option.{none}
use Rattle.image_fields.specs.declared.Fault.{Fault}
use Rattle.image_fields.specs.Fault.{fault_number}
use Rattle.image_fields.specs.Parsed.{ok}
use Rattle.tables.specs.Limits.{version1}
use Rattle.tables.specs.Signature.{entry_at}
use Rattle.image_body.specs.Stmt.{block_at}
use Rattle.image.specs.Image.{Image, accepted, decode, encode, scope_in}
use Rattle.tables_lookup.specs.Lent.{Lent, Says}
use Rattle.rules.specs.Report.{errors, warnings, lefts, reports, returned_image}
use Rattle.rules.specs.Walk.{image_fault}
use Rattle.rules.specs.Verdict.{entries_of, image_counts_fit}
use Rattle.image_writing.specs.Stored.{Stored}
use Rattle.image_writing.specs.Memory.{Memory}
use Rattle.statements_steps.specs.Own.{number_of, Own, block_own}
use Rattle.statements_acts.specs.declared.Place.{Place}
use Rattle.statements_acts.specs.Act.{cursors_at}
use Rattle.image_lines.specs.Lined.{Cursors, cursors, onward_all}
use Rattle.image_lines.specs.Told.{Lined}
use Rattle.blocks_laws.specs.Walks.{Wrote}
use Rattle.rules.specs.Rules.{Switches, states, entered, locals_of}
use Rattle.blocks_ends.specs.declared.Env.{Env}
use Rattle.scope_rows.specs.declared.Stop.{Stop}
use Rattle.scope_rows.specs.Stop.{stop_number}

-- an image was read, and its parts stand there
pub record ImageThere (s tb : List ℕ) (env : Env) (entry body : ℕ) : Type 0 where
  pub i : Image
  pub read : decode version1 s ≡ accepted i
  pub lent : Lent s tb
  pub says : Says s tb i.tables
  pub left : env.left ≡ 12
  pub limit : env.limit ≡ 64
  pub width : env.width ≡ 8
  pub cur : env.cur ≡ 0
  pub base : env.base ≡ 64
  pub value : env.switches ≤ 15
  pub entered : entry_at version1 (length i.tables.names) (length i.tables.types) s entry ≡ ok i.entry body
  pub walked : block_at (scope_in version1 i.tables.names i.tables.types) s 12 body ≡ ok i.body (length s)

-- where the walk of a body begins
abbrev pub begins : ℕ → ℕ → ℕ → ℕ → Bool → Place
begins at written warnings lefts paged =
    record { at = at; last = at; written = written; errors = 0; warnings = warnings; lefts = lefts; inserted = 0; fits = true; paged = paged }

pub record Begins (body : ℕ) (p : Place) : Type 0 where
  pub is : p ≡ begins body p.written p.warnings p.lefts p.paged
  pub written : p.written ≤ 200000000
  pub warnings : p.warnings ≤ 200000000
  pub lefts : p.lefts ≤ 200000000

-- what the body's block is given back as, and what is reported of it
abbrev pub body_own : Switches → Image → ℕ → Own
body_own sw i at = block_own sw i.tables i.body.span i.body.code 1 none at (entered (states sw) i.tables (locals_of i.entry) [])

-- the number of what a walk came to: 0, or of why it stopped
abbrev pub fault_of_walk : Result Place Stop → ℕ
fault_of_walk (Ok p) = 0
fault_of_walk (Err e) = stop_number e

-- the number that C gets: 0, or the fault's
abbrev pub number_in : {A : Type 0} → Result A Fault → ℕ
number_in (Ok x) = 0
number_in (Err f) = fault_number f

-- the walk of a body from its beginning, with so many rows; 254: there are fewer than an image may need
pub record BodyWalks (sw : Switches) (s : List ℕ) (rows : ℕ) (p : Place) (m : Memory) (r : Result Place Stop) (m' : Memory) : Type 0 where
  pub short : fault_of_walk r ≡ 254 → rows < 13248
  pub walks : (fault_of_walk r ≡ 254 → ⊥) → (i : Image) → decode version1 s ≡ accepted i
      → (fault_of_walk r ≡ number_of (image_fault version1 sw i)) × IfOk r (λ q. Wrote (body_own sw i p.at) p m q m')
  pub written : IfOk r (λ q. q.written ≤ p.written + 65536000)
  pub errors : IfOk r (λ q. q.errors ≤ 65536000)
  pub warnings : IfOk r (λ q. q.warnings ≤ p.warnings + 65536000)
  pub lefts : IfOk r (λ q. q.lefts ≤ p.lefts + 65536000)

-- an image without a fault, walked into memory as far as that reaches
pub record ImageDone (sw : Switches) (i : Image) (m : Memory) (p : Place) (m' : Memory) : Type 0 where
  pub bytes : p.fits ≡ true → Stored m.out 0 (encode version1 (returned_image sw i)) m'.out p.written
  pub errors : Stored m.errs 0 (entries_of version1 (errors (reports sw i))) m'.errs p.errors
  pub warnings : Stored m.warns 0 (entries_of version1 (warnings (reports sw i))) m'.warns p.warnings
  pub lefts : Stored m.lefts 0 (entries_of version1 (lefts (reports sw i))) m'.lefts p.lefts
  pub long : p.written ≡ length (encode version1 (returned_image sw i))
  pub fits : p.fits ≡ image_counts_fit 65535 (returned_image sw i)

-- the walk with so many rows; 254: there are fewer than an image may need
pub record ImageWalks (sw : Switches) (s : List ℕ) (rows : ℕ) (m : Memory) (r : Result Place Stop) (m' : Memory) : Type 0 where
  pub short : fault_of_walk r ≡ 254 → rows < 13248
  pub walks : (fault_of_walk r ≡ 254 → ⊥) → (i : Image) → decode version1 s ≡ accepted i
      → (fault_of_walk r ≡ number_of (image_fault version1 sw i)) × IfOk r (λ q. ImageDone sw i m q m')

-- the reports of an image, as lines of a page from some cursors on
pub record PageWalks (sw : Switches) (s : List ℕ) (rows : ℕ) (c : Cursors) (page : List ℕ) (r : Result Place Stop) (page' : List ℕ) : Type 0 where
  pub short : fault_of_walk r ≡ 254 → rows < 13248
  pub walks : (fault_of_walk r ≡ 254 → ⊥) → (i : Image) → decode version1 s ≡ accepted i
      → (fault_of_walk r ≡ number_of (image_fault version1 sw i)) × IfOk r (λ q. Lined c (reports sw i) page (cursors_at q) page')

-- without what is stored: the length of the image given back, and, where a page is made, the bytes of its lists
pub record Measures (sw : Switches) (s : List ℕ) (paged : Bool) (r : Result Place Fault) : Type 0 where
  pub walks : (i : Image) → decode version1 s ≡ accepted i
      → (number_in r ≡ number_of (image_fault version1 sw i)) × IfOk r (λ q. (q.written ≡ length (encode version1 (returned_image sw i)))
      × (paged ≡ true → cursors_at q ≡ onward_all (cursors 0 0 0) (reports sw i)))
  pub few : IfOk r (λ q. (q.errors ≤ 65536000) × (q.warnings ≤ 65536000) × (q.lefts ≤ 65536000))
