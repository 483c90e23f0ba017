-- What the parts of a statement's code do.
use Rattle.std.specs.Prelude.{ℕ, ◌+◌, ◌≤◌, ◌<◌, ◌≡◌, ◌⊎◌, List, [], ◌∷◌, ◌++◌, Bool, true, false, not, ◌&&◌, length, eqb, Some, None, Option}
use Rattle.std.proofs.Math.Seq.{slice}
use Rattle.image_fields.specs.Bytes.{two_bytes, four_bytes}
use Rattle.tables.specs.Limits.{version1}
use Rattle.tables.specs.Tables.{Tables}
use Rattle.rules.specs.Questions.{is_temp_of}
use Rattle.rules.specs.Expr as rules
use Rattle.rules.specs.Expr.{View, an_ident, a_this, a_field, a_delete, a_call, other, view, name_in}
use Rattle.rules.specs.Stack.{Shape, static_of}
use Rattle.rules.specs.Effects.{ty_is}
use Rattle.rules.specs.Report.{Report, warning}
use Rattle.rules.specs.Verdict.{entries_of}
use Rattle.image_writing.specs.Stored.{Stored}
use Rattle.image_lines.specs.Lined.{shown_all}
use Rattle.statements_acts.specs.declared.Put.{Put}
use Rattle.statements_acts.specs.declared.Change.{Change}
use Rattle.statements_acts.specs.declared.Change.TheVariants.{Nothing, Delete, Revive}
use Rattle.statements_acts.specs.declared.Place.{Place}
use Rattle.statements_acts.specs.declared.Warned.{Warned}

-- deleted_identifier: what an expression that is a Delete deletes
abbrev pub deleted_name : View → rules.Named
deleted_name (an_ident n s) = rules.nobody
deleted_name (a_this s) = rules.nobody
deleted_name (a_field s e m) = rules.nobody
deleted_name (a_delete e) = name_in (view e)
deleted_name (a_call f) = rules.nobody
deleted_name other = rules.nobody

abbrev pub delete_of : rules.Named → Change
delete_of rules.nobody = Nothing
delete_of (rules.called n p) = Delete n p

abbrev pub revive_of : rules.Named → Change
revive_of rules.nobody = Nothing
revive_of (rules.called n p) = Revive n

-- the name that a return spares: the returned one
abbrev pub sparing : rules.Named → Option ℕ
sparing rules.nobody = None
sparing (rules.called n p) = Some n

-- whether the name m is a temporary of the type t that n takes over
abbrev pub takes_over : Tables → Shape → ℕ → ℕ → ℕ → Bool
takes_over T Γ m n t = not (eqb m n) && is_temp_of T m && not (is_temp_of T n) && ty_is T Γ t (static_of m Γ)

-- nothing put before it
abbrev pub no_put : Place → Put
no_put p = record { at = p.written; count = 0 }

-- the place after so many numbers of left-behind entries, or bytes of their lines
abbrev pub relisted : Place → ℕ → Place
relisted p n = record { at = p.at; last = p.last; written = p.written; errors = p.errors; warnings = p.warnings; lefts = n; inserted = p.inserted; fits = p.fits; paged = p.paged }

-- a statement's bytes copied up to a position, after so many deletes
pub record Copied (s : List ℕ) (p : Place) (put : Put) (to : ℕ) (out : List ℕ) (q : Place) (out' : List ℕ) : Type 0 where
  pub bytes : Stored out put.at (slice p.at to s) out' q.written
  pub at : q.at ≡ to
  pub last : q.last ≡ p.at
  pub errors : q.errors ≡ p.errors
  pub warnings : q.warnings ≡ p.warnings
  pub lefts : q.lefts ≡ p.lefts
  pub inserted : q.inserted ≡ p.inserted + put.count
  pub fits : q.fits ≡ p.fits
  pub paged : q.paged ≡ p.paged

-- the delete round the result of the call whose callee stands there, its warning; neither without one
abbrev pub wrapping : Option ℕ → ℕ → List ℕ
wrapping None span = []
wrapping (Some callee) span = 10 ∷ (four_bytes span ++ two_bytes 0)

abbrev pub warning_at : Option ℕ → ℕ → List Report
warning_at None span = []
warning_at (Some callee) span = warning span callee ∷ []

-- both stored
pub record WarnsAt (paged : Bool) (callee : Option ℕ) (span : ℕ) (out : List ℕ) (written : ℕ) (warns : List ℕ) (told : ℕ) (r : Warned) (out' warns' : List ℕ) : Type 0 where
  pub bytes : paged ≡ false → Stored out written (wrapping callee span) out' r.written
  pub warned : paged ≡ false → Stored warns told (entries_of version1 (warning_at callee span)) warns' r.warnings
  pub lines : paged ≡ true → length out ≤ written → Stored out told (shown_all (warning_at callee span)) out' r.warnings
  pub long : r.written ≡ written + length (wrapping callee span)
  pub few : r.warnings ≤ told + 73

-- Block, IfElse, While
abbrev pub Untouched : ℕ → Type 0
Untouched tag = (tag < 2) ⊎ ((6 < tag) × (tag < 9))
