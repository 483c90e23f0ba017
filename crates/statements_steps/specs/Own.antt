-- The blocks of a statement at the head of a list: what their walk gives back and reports, its fault, and the locals after it.
use Rattle.std.specs.Prelude.{ℕ, suc, ◌+◌, Bool, true, false, not, ◌&&◌, List, [], ◌∷◌, ◌++◌, leb}
use Rattle.std.proofs.Math.Option.{Option}
use Rattle.tables.specs.Limits.{version1}
use Rattle.tables.specs.Tables.{Tables}
use Rattle.tables_lookup.specs.First.{or_else}
use Rattle.image_body.specs.Stmt.{Tree, done, expr_stmt, variable, assign, return, bare_return, block, if_else, if_then, while, jump}
use Rattle.image_encoding.specs.Body.{size, encode_code, with_count}
use Rattle.rules.specs.State.{State as Status}
use Rattle.rules.specs.Stack.{Stack as Scope}
use Rattle.rules.specs.Rules.{Switches, states, concerns, sure_from, joins, merge, exit, decide}
use Rattle.rules.specs.Report.{Report, flatten, report, code_bytes}
use Rattle.rules.specs.Walk.{too_many, too_wide, walk_fault}
use Rattle.rules.specs.Verdict.{counts_fit}
use Rattle.statements_steps.specs.Statement.{settle}

-- the number of a fault, or 0
abbrev pub number_of : Option ℕ → ℕ
number_of Option.none = 0
number_of (Option.some n) = n

-- bytes given back, reports, and whether every block in them counts at most 65,535 statements
pub record Own : Type 0 where
  pub bytes : List ℕ
  pub reports : List Report
  pub fits : Bool

abbrev pub nothing : Own
nothing = record { bytes = []; reports = []; fits = true }

-- a byte as it stands
abbrev pub byte : ℕ → Own
byte b = record { bytes = b ∷ []; reports = []; fits = true }

-- one after another
abbrev pub both : Own → Own → Own
both a b = record { bytes = a.bytes ++ b.bytes; reports = a.reports ++ b.reports; fits = a.fits && b.fits }

module _ (w : Switches) (T : Tables) where
  -- the statements of a block of span p and depth d, as given back, l being the depth of the nearest loop's body, if any
  abbrev pub returned : Tree → ℕ → ℕ → Option ℕ → Bool → Scope Status → Tree
  returned c p d l f σ = flatten (decide (states w) T (concerns w) c p d l f σ)

  -- a block of depth d at a position, l being the depth of the nearest loop's body, if any
  abbrev pub block_own : ℕ → Tree → ℕ → Option ℕ → ℕ → Scope Status → Own
  block_own p c d l at σ = record {
    bytes = with_count p (size (returned c p d l false σ)) (encode_code (returned c p d l false σ));
    reports = report w T c d l (at + 6) σ;
    fits = leb (size (returned c p d l false σ)) 65535 && counts_fit 65535 (returned c p d l false σ);
  }

  -- a statement's blocks, in a block of depth d, the first at a position
  abbrev pub blocks_own : Tree → ℕ → Option ℕ → ℕ → Scope Status → Own
  blocks_own (done x) d l at σ = nothing
  blocks_own (expr_stmt s e y r) d l at σ = nothing
  blocks_own (variable k s n t e r) d l at σ = nothing
  blocks_own (assign s e v t x r) d l at σ = nothing
  blocks_own (return s e t x r) d l at σ = nothing
  blocks_own (bare_return s t x r) d l at σ = nothing
  blocks_own (block s c r) d l at σ = block_own s c (suc d) l at σ
  blocks_own (if_else s e ts t us u r) d l at σ =
      both (block_own ts t (suc d) l at σ) (both (byte 1) (block_own us u (suc d) l (at + (6 + code_bytes t) + 1) σ))
  blocks_own (if_then s e ts t r) d l at σ = both (block_own ts t (suc d) l at σ) (byte 0)
  blocks_own (while s e ts t r) d l at σ = block_own ts t (suc d) (Option.some (suc d)) at σ
  blocks_own (jump k s x r) d l at σ = nothing

  -- 12 or 13, once its values are evaluated
  abbrev pub blocks_fault : Tree → ℕ → Scope Status → Option ℕ
  blocks_fault (done x) d σ = Option.none
  blocks_fault (expr_stmt s e y r) d σ = Option.none
  blocks_fault (variable k s n t e r) d σ = too_many version1 (settle T (variable k s n t e r) d σ)
  blocks_fault (assign s e v t x r) d σ = Option.none
  blocks_fault (return s e t x r) d σ = Option.none
  blocks_fault (bare_return s t x r) d σ = Option.none
  blocks_fault (block s c r) d σ = walk_fault version1 w T c (suc d) σ
  blocks_fault (if_else s e ts t us u r) d σ =
      or_else (walk_fault version1 w T t (suc d) σ)
      (or_else (walk_fault version1 w T u (suc d) σ)
      (too_wide version1 (not (sure_from t false) && not (sure_from u false)) (joins (states w) (exit (states w) T t (suc d) σ) (exit (states w) T u (suc d) σ))))
  blocks_fault (if_then s e ts t r) d σ =
      or_else (walk_fault version1 w T t (suc d) σ) (too_wide version1 (not (sure_from t false)) (joins (states w) (exit (states w) T t (suc d) σ) σ))
  blocks_fault (while s e ts t r) d σ = or_else (walk_fault version1 w T t (suc d) σ) (too_wide version1 true (joins (states w) (exit (states w) T t (suc d) σ) σ))
  blocks_fault (jump k s x r) d σ = Option.none

  -- the locals behind it, once its values are evaluated
  abbrev pub blocks_after : Tree → ℕ → Scope Status → Scope Status
  blocks_after (done x) d σ = σ
  blocks_after (expr_stmt s e y r) d σ = settle T (expr_stmt s e y r) d σ
  blocks_after (variable k s n t e r) d σ = settle T (variable k s n t e r) d σ
  blocks_after (assign s e v t x r) d σ = settle T (assign s e v t x r) d σ
  blocks_after (return s e t x r) d σ = σ
  blocks_after (bare_return s t x r) d σ = σ
  blocks_after (block s c r) d σ = exit (states w) T c (suc d) σ
  blocks_after (if_else s e ts t us u r) d σ =
      merge (states w) (sure_from t false) (sure_from u false) σ (exit (states w) T t (suc d) σ) (exit (states w) T u (suc d) σ)
  blocks_after (if_then s e ts t r) d σ = merge (states w) (sure_from t false) false σ (exit (states w) T t (suc d) σ) σ
  blocks_after (while s e ts t r) d σ = joins (states w) (exit (states w) T t (suc d) σ) σ
  blocks_after (jump k s x r) d σ = σ
