-- The locals that a body is entered with (mod.rs: run_ownership_for_body, run_ownership_for_method_body).
use Rattle.std.specs.Prelude.{ℕ, ◌+◌, ◌≤◌, ◌≡◌, List, [], length, get_or}
use Rattle.image_fields.specs.Parsed.{ok}
use Rattle.image_fields.specs.Table.{entries}
use Rattle.tables.specs.Limits.{version1}
use Rattle.tables.specs.Tables.{Tables}
use Rattle.tables.specs.Signature.{Entry, Param, param_in, entry_at}
use Rattle.rules.specs.Stack.{shape}
use Rattle.rules.specs.Rules.{states, entered, locals_of, off}
use Rattle.tables_lookup.specs.Lent.{Lent, Says}
use Rattle.scope_stack.specs.declared.Locals.{Locals}
use Rattle.scope_stack.specs.declared.States.{States}
use Rattle.scope_stack.specs.View.{view, Kept, Drops, Nested}

-- some entry was read at a position
pub record EntryThere (s : List ℕ) (at : ℕ) : Type 0 where
  pub names : ℕ
  pub types : ℕ
  pub x : Entry
  pub next : ℕ
  pub read : entry_at version1 names types s at ≡ ok x next

-- so many parameters from a position on
abbrev pub params_in : List ℕ → ℕ → ℕ → List Param
params_in s many at = entries (param_in s) 4 many at

-- states of which each is Alive
abbrev pub Fresh : States → Type 0
Fresh t = (i : ℕ) → get_or t.kinds i 0 ≡ 0

-- these locals more, in the outermost frame
pub record Adds (tb : List ℕ) (ps : List Param) (l r : Locals) : Type 0 where
  pub kept : Kept r
  pub count : r.count ≡ l.count + length ps
  pub drops : (s : List ℕ) (T : Tables) → Lent s tb → Says s tb T → Drops T l → Drops T r
  pub is : (T : Tables) (t : States) → Fresh t → (rows : List ℕ) (cur width : ℕ) → view r t rows cur width ≡ entered (states off) T ps (view l t rows cur width)

-- whatever entry was read there, its locals, in the outermost frame
pub record Enters (s tb : List ℕ) (at : ℕ) (r : Locals) : Type 0 where
  pub kept : Kept r
  pub few : r.count ≤ 17
  pub nested : (t : States) (rows : List ℕ) (cur width : ℕ) → Nested 0 (shape (view r t rows cur width))
  pub drops : (T : Tables) → Lent s tb → Says s tb T → Drops T r
  pub is : (names types : ℕ) (x : Entry) (next : ℕ) → entry_at version1 names types s at ≡ ok x next
      → (T : Tables) (t : States) → Fresh t → (rows : List ℕ) (cur width : ℕ) → view r t rows cur width ≡ entered (states off) T (locals_of x) []
