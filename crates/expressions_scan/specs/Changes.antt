-- What raw effects do to the locals of a stack, what they report of them, and the change that the code hands out instead.
use Rattle.std.specs.Prelude.{ℕ, ◌+◌, ◌≤◌, ◌<◌, ◌≡◌, Bool, List, [], ◌∷◌, Option, None, Some}
use Rattle.tables.specs.Limits.{version1}
use Rattle.image_body.specs.Expr.{Exprs}
use Rattle.image_body.specs.Stands.{StandAll, count}
use Rattle.image_body.specs.Depth.{depth_all}
use Rattle.rules.specs.State.{State as Status}
use Rattle.rules.specs.Stack.{shape, mark, Stack as Scope}
use Rattle.rules.specs.Rules.{states, apply_all, off}
use Rattle.rules.specs.Report.{Report, report_all}
use Rattle.rules.specs.Verdict.{entries_of}
use Rattle.rules.specs.Effects.{Raw, resolve_all}
use Rattle.scope_state.specs.Kinds.{said, put}
use Rattle.image_writing.specs.Stored.{Stored}
use Rattle.image_lines.specs.Told.{Listed}
use Rattle.expressions_scan.specs.declared.Mark.{Mark}
use Rattle.expressions_scan.specs.declared.Answer.{Answer}

-- the locals after raw effects, and what is reported
abbrev pub after : List Raw → Scope Status → Scope Status
after rs σ = apply_all (states off) (resolve_all (shape σ) rs) σ

abbrev pub told : List Raw → Scope Status → List Report
told rs σ = report_all (resolve_all (shape σ) rs) σ

-- a change: of a name, a kind, a place, and whether only what is Alive is marked
abbrev pub applied : Option Mark → Scope Status → Scope Status
applied None σ = σ
applied (Some m) σ = mark m.name (put m.only_alive (said m.kind (m.place ∷ []))) σ

-- the change that raw effects make of a stack, and what they report stored behind the first n numbers
pub record Answers (rs : List Raw) (σ : Scope Status) (old : List ℕ) (n : ℕ) (new : List ℕ) (r : Answer) : Type 0 where
  pub locals : applied r.change σ ≡ after rs σ
  pub errors : Stored old n (entries_of version1 (told rs σ)) new r.told

-- the same, what they report stored as numbers of the list or as lines of the page
pub record Tells (paged : Bool) (rs : List Raw) (σ : Scope Status) (old out : List ℕ) (n : ℕ) (new out' : List ℕ) (r : Answer) : Type 0 where
  pub locals : applied r.change σ ≡ after rs σ
  pub errors : Listed paged (told rs σ) old out n new out' r.told

-- a mark is one of the kinds 1 to 6
abbrev pub Marks : Option Mark → Type 0
Marks None = Unit {0}
Marks (Some m) = (0 < m.kind) × (m.kind < 7)

-- at most one error, of 12 numbers
pub record Small (n : ℕ) (old new : List ℕ) (r : Answer) : Type 0 where
  pub most : r.told ≤ n + 12
  pub marks : Marks r.change

-- so many expressions stand from a position up to another, none deeper than 24
pub record Standing (s : List ℕ) (k at : ℕ) (es : Exprs) (next : ℕ) : Type 0 where
  pub stand : StandAll es s at next
  pub many : count es ≡ k
  pub shallow : depth_all es ≤ 24
