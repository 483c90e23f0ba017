-- The image (document 01, "The image" and "Faults"): what a list of bytes is read as, with the first fault of 1 to 11, and how it is
-- written.
use Rattle.std.specs.Prelude.{ℕ, ◌+◌, List, [], ◌∷◌, ◌++◌, Bool, ◌&&◌, length, get_or, leb, eqb}
use Rattle.image_fields.specs.Parsed.{Parsed, ok, fault, bind, ensure}
use Rattle.image_fields.specs.Number.{four}
use Rattle.image_fields.specs.Bytes.{four_bytes}
use Rattle.tables.specs.Limits.{Limits}
use Rattle.tables.specs.Name.{names_at}
use Rattle.tables.specs.Ty.{Ty, types_at, generic_flags}
use Rattle.tables.specs.Signature.{Entry, structs_at, globals_at, entry_at}
use Rattle.tables.specs.Tables.{Tables}
use Rattle.image_body.specs.Expr.{Scope}
use Rattle.image_body.specs.Stmt.{Block, block_at}
use Rattle.image_encoding.specs.Tables.{encode_tables, encode_entry}
use Rattle.image_encoding.specs.Body.{encode_block}

pub record Image : Type 0 where
  pub tables : Tables
  pub entry : Entry
  pub body : Block

-- what a body is read against
abbrev pub scope_in : Limits → List (List ℕ) → List Ty → Scope
scope_in L ns ts = record { names = length ns; types = length ts; generic = generic_flags [] ts; expr_depth = L.expr_depth }

-- 1: under 5 bytes, over the limit, or wrong length. Four bytes: how many bytes follow them
abbrev pub length_ok : Limits → List ℕ → Bool
length_ok L s = leb 5 (length s) && (leb (length s) L.size && eqb (four s 0 + 4) (length s))

-- the body block; 10: bytes left over
unfoldable pub body_at : Limits → Scope → List ℕ → ℕ → Parsed Block
body_at L t s at = bind (block_at t s L.block_depth at) (λ b p. ensure (eqb p (length s)) 10 (ok b p))

-- what follows the names and the types
unfoldable pub rest_at : Limits → List (List ℕ) → List Ty → List ℕ → ℕ → Parsed Image
rest_at L ns ts s at =
    bind (structs_at L ns s at) (λ ss p.
    bind (globals_at L (length ns) s p) (λ gs q.
    bind (entry_at L (length ns) (length ts) s q) (λ e r.
    bind (body_at L (scope_in L ns ts) s r) (λ b u.
    ok (record { tables = record { names = ns; types = ts; structs = ss; globals = gs }; entry = e; body = b }) u))))

-- the whole image; 2: another version
unfoldable pub image_at : Limits → List ℕ → Parsed Image
image_at L s =
    ensure (length_ok L s) 1
    (ensure (eqb (get_or s 4 0) L.version) 2
    (bind (names_at L s 5) (λ ns p.
    bind (types_at L (length ns) s p) (λ ts q.
    rest_at L ns ts s q))))

-- the first fault, or the tables and the tree
pub data Decoded : Type 0 where
  accepted : Image → Decoded
  refused : ℕ → Decoded

unfoldable pub outcome : Parsed Image → Decoded
outcome (ok i p) = accepted i
outcome (fault n) = refused n

unfoldable pub decode : Limits → List ℕ → Decoded
decode L s = outcome (image_at L s)

-- document 01's number of an outcome: the fault's, or 0
unfoldable pub fault_of : Decoded → ℕ
fault_of (accepted i) = 0
fault_of (refused n) = n

-- what follows the four bytes of the length
abbrev pub encode_parts : Limits → Image → List ℕ
encode_parts L i = L.version ∷ (encode_tables i.tables ++ (encode_entry i.entry ++ encode_block i.body))

unfoldable pub encode : Limits → Image → List ℕ
encode L i = four_bytes (length (encode_parts L i)) ++ encode_parts L i
