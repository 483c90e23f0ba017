-- Where the parts of an accepted image stand: what the reader leaves in the tables lent, and every later walk relies on.
use Rattle.std.specs.Prelude.{ℕ, ◌+◌, ◌*◌, ◌≤◌, ◌≡◌, List, cond, length, get_or, eqb, Result, Ok, Err}
use Rattle.image_fields.specs.Parsed.{ok}
use Rattle.image_fields.specs.Table.{entries}
use Rattle.image_fields.specs.declared.Fault.{Fault}
use Rattle.image_fields.specs.Fault.{fault_number}
use Rattle.tables.specs.Limits.{Limits, version1}
use Rattle.tables.specs.Ty.{Ty}
use Rattle.tables.specs.Signature.{global_in, struct_in, entry_at}
use Rattle.tables.specs.Answer.{Listed}
use Rattle.tables_lookup.specs.Lent.{Filled, Lent, Says}
use Rattle.image_body.specs.Stmt.{block_at}
use Rattle.image.specs.Image.{Image, accepted, decode, outcome, fault_of, length_ok, rest_at, scope_in}
use Rattle.image.specs.declared.Rest.{Rest}
use Rattle.image.specs.declared.ImageRead.{ImageRead}

-- faults 1 and 2, or 0
unfoldable pub head_fault : Limits → List ℕ → ℕ
head_fault L s = cond (length_ok L s) (cond (eqb (get_or s 4 0) L.version) 0 2) 1

-- the fault's number of an answer, or 0
abbrev pub fault_in : {A : Type 0} → Result A Fault → ℕ
fault_in (Ok x) = 0
fault_in (Err f) = fault_number f

-- the structs, the globals, the entry and the body
pub record RestStands (s starts : List ℕ) (i : Image) (r : Rest) : Type 0 where
  pub struct_count : r.struct_count ≡ length i.tables.structs
  pub structs : Listed (struct_in s) s starts i.tables.structs
  pub globals : entries (global_in s) 6 r.global_count r.globals ≡ i.tables.globals
  pub globals_fit : r.globals + 6 * r.global_count ≤ length s
  pub entry : entry_at version1 (length i.tables.names) (length i.tables.types) s r.entry ≡ ok i.entry r.body
  pub body : block_at (scope_in version1 i.tables.names i.tables.types) s 12 r.body ≡ ok i.body (length s)

-- what the reader of the rest answers: the fault, or where everything stands
pub record RestReads (ns : List (List ℕ)) (ts : List Ty) (s : List ℕ) (at : ℕ) (starts : List ℕ) (r : Result Rest Fault) : Type 0 where
  pub fault : fault_in r ≡ fault_of (outcome (rest_at version1 ns ts s at))
  pub stands : (i : Image) (next : ℕ) → rest_at version1 ns ts s at ≡ ok i next → (x : Rest) → r ≡ Ok x → RestStands s starts i x

-- the numbers that go to the tables are within their limits
pub record Counts (n m : ℕ) (r : Rest) : Type 0 where
  pub names : n ≤ 512
  pub types : m ≤ 256
  pub structs : r.struct_count ≤ 64
  pub globals : r.global_count ≤ 64
  pub first : r.globals ≤ 65536

-- every part of the image, before it is asked which types are deleted
pub record Placed (s : List ℕ) (i : Image) (tb : List ℕ) (r : ImageRead) : Type 0 where
  pub filled : Filled s tb
  pub says : Says s tb i.tables
  pub entry : entry_at version1 (length i.tables.names) (length i.tables.types) s r.entry ≡ ok i.entry r.body
  pub body : block_at (scope_in version1 i.tables.names i.tables.types) s 12 r.body ≡ ok i.body (length s)

pub record Places (s tb : List ℕ) (r : Result ImageRead Fault) : Type 0 where
  pub fault : fault_in r ≡ fault_of (decode version1 s)
  pub placed : (i : Image) → decode version1 s ≡ accepted i → (x : ImageRead) → r ≡ Ok x → Placed s i tb x

-- every part of the image
pub record Laid (s : List ℕ) (i : Image) (tb : List ℕ) (r : ImageRead) : Type 0 where
  pub lent : Lent s tb
  pub says : Says s tb i.tables
  pub entry : entry_at version1 (length i.tables.names) (length i.tables.types) s r.entry ≡ ok i.entry r.body
  pub body : block_at (scope_in version1 i.tables.names i.tables.types) s 12 r.body ≡ ok i.body (length s)

-- the reader's answer: the first fault, or where everything stands
pub record Reads (s tb : List ℕ) (r : Result ImageRead Fault) : Type 0 where
  pub fault : fault_in r ≡ fault_of (decode version1 s)
  pub laid : (i : Image) → decode version1 s ≡ accepted i → (x : ImageRead) → r ≡ Ok x → Laid s i tb x
