-- What a scan that goes on from open nodes does up to the next change.
use Rattle.std.specs.Prelude.{ℕ, ◌+◌, ◌*◌, ◌≤◌, ◌<◌, ◌≡◌, Bool, List, ◌++◌, Option, None, Some}
use Rattle.tables.specs.Tables.{Tables}
use Rattle.rules.specs.State.{State as Status}
use Rattle.rules.specs.Stack.{Stack as Scope}
use Rattle.rules.specs.Report.{Report}
use Rattle.expressions_steps.specs.Scan.{Stage, Stacked, pending, Ready, fuel}
use Rattle.expressions_steps.specs.declared.Open.{Open}
use Rattle.image_lines.specs.Told.{Listed}
use Rattle.expressions_scan.specs.declared.Mark.{Mark}
use Rattle.expressions_scan.specs.declared.Scanned.{Scanned}
use Rattle.expressions_scan.specs.Changes.{after, told, Marks}

-- of open nodes with trees: the open nodes now, with what is left of the trees; what was pending is what was done and what is
-- pending now, on the locals now
pub record Rest (T : Tables) (s : List ℕ) (frames : List Stage) (end : ℕ) (σ : Scope Status) (os : List Open) (n p : ℕ) (τ : Scope Status) (done : List Report) : Type 0 where
  pub after' : List Stage
  pub stacked : Stacked os n after' s p end
  pub locals : after (pending T frames) σ ≡ after (pending T after') τ
  pub reports : told (pending T frames) σ ≡ done ++ told (pending T after') τ

-- from open nodes, a position, locals and m numbers of errors, or bytes of their page, to others
pub record Onward (T : Tables) (s : List ℕ) (os : List Open) (n p : ℕ) (σ : Scope Status) (paged : Bool) (old out : List ℕ) (m : ℕ)
    (os' : List Open) (n' p' : ℕ) (τ : Scope Status) (new out' : List ℕ) (m' : ℕ) : Type 0 where
  pub reports : List Report
  pub stored : Listed paged reports old out m new out' m'
  pub goes : (frames : List Stage) (end : ℕ) → Stacked os n frames s p end → Rest T s frames end σ os' n' p' τ reports

-- without a change no node is open; with one the scan came forward
abbrev pub Came : Option Mark → ℕ → ℕ → ℕ → Type 0
Came None nodes before now = nodes ≡ 0
Came (Some m) nodes before now = now < before

-- it can go on, to the end that the open nodes had, and stores at most 12 numbers or 219 bytes for a step
pub record Going (s : List ℕ) (old : List Open) (n p m : ℕ) (os : List Open) (r : Scanned) : Type 0 where
  pub ready : Ready s os r.nodes r.at
  pub ends : (frames : List Stage) (end : ℕ) → Stacked old n frames s p end → (fs : List Stage) × Stacked os r.nodes fs s r.at end
  pub most : r.told + 219 * fuel s r.nodes r.at ≤ m + 219 * fuel s n p
  pub came : Came r.change r.nodes (fuel s n p) (fuel s r.nodes r.at)
  pub marks : Marks r.change
