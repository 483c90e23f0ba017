-- What an image can hold: the values that the readers accept (document 01, "The image" and "Faults").
use Rattle.std.specs.Prelude.{ℕ, zero, suc, ◌+◌, ◌≤◌, ◌<◌, ◌≡◌, List, [], ◌∷◌, ◌++◌, true, false, cond, length, get_or, eqb}
use Rattle.image_fields.specs.Bytes.{Bytes}
use Rattle.image_fields.specs.Table.{member}
use Rattle.tables.specs.Limits.{Limits}
use Rattle.tables.specs.Tables.{Tables}
use Rattle.tables.specs.Name.{same_bytes, this_name}
use Rattle.tables.specs.Ty.{Ty, of_limit}
use Rattle.tables.specs.Signature.{Method, Struct, Global, Param, Entry, method_names, global_names, rises}
use Rattle.image_body.specs.Expr.{Head, Expr, Exprs, node, none, more, arg_width, fixed_count, count_width, last_width, Scope, arg_limit, generic_callee}
use Rattle.image_body.specs.Stands.{count}
use Rattle.image_body.specs.Stmt.{Tree, Block, done, expr_stmt, variable, assign, return, bare_return, block, if_else, if_then, while, jump}
use Rattle.image_encoding.specs.Body.{size}

-- each entry is valid after those before it; xs are those before
unfoldable pub Each : {A : Type 0} → (List A → A → Type 0) → List A → List A → Type 0
Each Good xs [] = Unit {0}
Each Good xs (y ∷ ys) = Good xs y × Each Good (xs ++ (y ∷ [])) ys

pub record ValidName (L : Limits) (ns : List (List ℕ)) (n : List ℕ) : Type 0 where
  pub some : 0 < length n
  pub short : length n ≤ L.name_bytes
  pub bytes : Bytes n
  pub new : member same_bytes ns n ≡ false

pub record ValidNames (L : Limits) (ns : List (List ℕ)) : Type 0 where
  pub some : 1 ≤ length ns
  pub few : length ns ≤ L.names
  pub each : Each (ValidName L) [] ns
  pub this : get_or ns 0 [] ≡ this_name

-- a type after those of ts
pub record ValidType (names : ℕ) (ts : List Ty) (t : Ty) : Type 0 where
  pub kind : t.kind < 5
  pub first : length ts ≡ 0 → t.kind ≡ 0
  pub of : t.of < of_limit names (length ts) t.kind
  pub shape : t.shape < cond (eqb t.kind 2) 65536 1

pub record ValidTypes (L : Limits) (names : ℕ) (ts : List Ty) : Type 0 where
  pub some : 1 ≤ length ts
  pub few : length ts ≤ L.types
  pub each : Each (ValidType names) [] ts

pub record ValidMethod (names : ℕ) (ms : List Method) (m : Method) : Type 0 where
  pub name : m.name < names
  pub modifier : m.modifier < 4
  pub new : member eqb (method_names ms) m.name ≡ false

pub record ValidStruct (L : Limits) (ns : List (List ℕ)) (ss : List Struct) (x : Struct) : Type 0 where
  pub name : x.name < length ns
  pub rising : rises ns ss x.name ≡ true
  pub destructor : x.destructor < 2
  pub shape : x.shape < 65536
  pub few : length x.methods ≤ L.methods
  pub methods : Each (ValidMethod (length ns)) [] x.methods

pub record ValidStructs (L : Limits) (ns : List (List ℕ)) (xs : List Struct) : Type 0 where
  pub few : length xs ≤ L.structs
  pub each : Each (ValidStruct L ns) [] xs

pub record ValidGlobal (names : ℕ) (gs : List Global) (g : Global) : Type 0 where
  pub name : g.name < names
  pub span : g.span < 4294967296
  pub new : member eqb (global_names gs) g.name ≡ false

pub record ValidGlobals (L : Limits) (names : ℕ) (gs : List Global) : Type 0 where
  pub few : length gs ≤ L.globals
  pub each : Each (ValidGlobal names) [] gs

pub record ValidParam (names types : ℕ) (ps : List Param) (p : Param) : Type 0 where
  pub name : p.name < names
  pub ty : p.ty < types

pub record ValidEntry (L : Limits) (names types : ℕ) (x : Entry) : Type 0 where
  pub receiver : x.receiver < 5
  pub this : x.this < types
  pub without : x.receiver < 2 → x.this ≡ 0
  pub few : length x.params ≤ L.params
  pub params : Each (ValidParam names types) [] x.params

pub record ValidTables (L : Limits) (T : Tables) : Type 0 where
  pub names : ValidNames L T.names
  pub types : ValidTypes L (length T.names) T.types
  pub structs : ValidStructs L T.names T.structs
  pub globals : ValidGlobals L (length T.names) T.globals

-- a body is read against at least one name and one type
pub record ValidScope (t : Scope) : Type 0 where
  pub names : 0 < t.names
  pub types : 0 < t.types

-- what the argument of a tag stays below: an operator, a name, or 1 where there is none
abbrev pub arg_below : ℕ → ℕ → ℕ → ℕ
arg_below names before after = cond (eqb (before + after) 0) 1 (arg_limit names before)

-- a node by itself
pub record ValidNode (t : Scope) (h : Head) (ks xs : Exprs) : Type 0 where
  pub low : 0 < h.tag
  pub high : h.tag < 16
  pub span : h.span < 4294967296
  pub ty : h.ty < t.types
  pub delete : h.tag ≡ 10 → h.ty ≡ 0
  pub arg : h.arg < arg_below t.names (get_or arg_width h.tag 0) (get_or last_width h.tag 0)
  pub fixed : count ks ≡ get_or fixed_count h.tag 0
  pub items : count xs < cond (eqb (get_or count_width h.tag 0) 0) 1 65536
  pub receiver : h.tag ≡ 6 → generic_callee t.generic ks ≡ false

unfoldable pub EachExpr : (Expr → Type 0) → Exprs → Type 0
EachExpr Good none = Unit {0}
EachExpr Good (more e es) = Good e × EachExpr Good es

-- an expression no deeper than so much
unfoldable pub ValidExpr : Scope → ℕ → Expr → Type 0
ValidExpr t zero e = ⊥
ValidExpr t (suc d) (node h ks xs) = ValidNode t h ks xs × EachExpr (ValidExpr t d) ks × EachExpr (ValidExpr t d) xs

-- a value of a statement
abbrev pub ValidValue : Scope → Expr → Type 0
ValidValue t e = ValidExpr t t.expr_depth e

-- statements whose blocks are good
unfoldable pub ValidCode : (Block → Type 0) → Scope → Tree → Type 0
ValidCode Good t (done x) = Unit {0}
ValidCode Good t (expr_stmt p e y c) = (p < 4294967296) × ValidValue t e × ValidCode Good t c
ValidCode Good t (variable b p n u e c) = (p < 4294967296) × (n < t.names) × (u < t.types) × ValidValue t e × ValidCode Good t c
ValidCode Good t (assign p d e u x c) = (p < 4294967296) × ValidValue t d × ValidValue t e × (u < t.types) × ValidCode Good t c
ValidCode Good t (return p e u x c) = (p < 4294967296) × ValidValue t e × (u < t.types) × ValidCode Good t c
ValidCode Good t (bare_return p u x c) = (p < 4294967296) × (u < t.types) × ValidCode Good t c
ValidCode Good t (block q b c) = Good (record { span = q; code = b }) × ValidCode Good t c
ValidCode Good t (if_else p e q b r d c) =
    (p < 4294967296) × ValidValue t e × Good (record { span = q; code = b }) × Good (record { span = r; code = d }) × ValidCode Good t c
ValidCode Good t (if_then p e q b c) = (p < 4294967296) × ValidValue t e × Good (record { span = q; code = b }) × ValidCode Good t c
ValidCode Good t (while p e q b c) = (p < 4294967296) × ValidValue t e × Good (record { span = q; code = b }) × ValidCode Good t c
ValidCode Good t (jump b p x c) = (p < 4294967296) × ValidCode Good t c

-- a block no deeper than so much
unfoldable pub ValidBlock : Scope → ℕ → Block → Type 0
ValidBlock t zero b = ⊥
ValidBlock t (suc d) b = (b.span < 4294967296) × (size b.code < 65536) × ValidCode (ValidBlock t d) t b.code
