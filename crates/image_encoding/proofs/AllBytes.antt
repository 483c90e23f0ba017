-- What a valid value is written in is bytes.
-- Assumes nothing.
use mathlib.Core.Path.{◌≡◌, refl, sym, subst}
use mathlib.Core.List.{List, [], ◌∷◌, ◌++◌}
use mathlib.Core.Bool.{Bool, true, false, cond, not}
use Prim.Native.Nat.{ℕ, zero, suc, ◌+◌, ◌≤◌, ◌<◌}
use native.Mathlib.Omega.{arith}
use borrow.Author.Tests.{eqb-true}
use lib.ListN.{length, get_or, length-append}
use lib.Dec.{T, eqb, ltb}
use Rattle.image_fields.specs.Bytes.{two_bytes, four_bytes, number_bytes, each_bytes, Bytes}
use Rattle.image_fields.proofs.Rules.{every, at}
use Rattle.tables.specs.Limits.{Limits}
use Rattle.tables.specs.Ty.{Ty, of_width, shape_width}
use Rattle.tables.specs.Signature.{Method, Struct, Global, Param, Entry, this_width}
use Rattle.tables.specs.Tables.{Tables}
use Rattle.image_body.specs.Expr.{Head, Expr, Exprs, node, none, more, arg_width, count_width, last_width, Scope}
use Rattle.image_body.specs.Stmt.{Tree, Block, done, expr_stmt, variable, assign, return, bare_return, block, if_else, if_then, while, jump}
use Rattle.image_encoding.specs.Tables.{encode_table, encode_name, encode_type, encode_method, encode_struct, encode_global, encode_param, encode_entry, encode_tables}
use Rattle.image_encoding.specs.Body.{encode_expr, encode_exprs, encode_code, encode_block}
use Rattle.image_encoding.specs.Valid.{Each, ValidName, ValidNames, ValidType, ValidTypes, ValidMethod, ValidStruct, ValidStructs, ValidGlobal, ValidGlobals, ValidParam, ValidEntry, ValidTables, arg_below, ValidNode, EachExpr, ValidExpr, ValidCode, ValidBlock}
use Rattle.image_encoding.specs.Small.{Small, SmallScope}

-- `Bytes` computes, so antt does not find its list; of a record it does
pub record OfBytes (s : List ℕ) : Type 0 where
  pub each : Bytes s

-- what holds of both choices
pick : {A : Type 0} (P : A → Type 0) (b : Bool) {x y : A} → (b ≡ true → P x) → P y → P (cond b x y)
pick P true f g = f refl
pick P false f g = g

-- lists

pub bytes-none : OfBytes []
bytes-none = record { each = λ k. omega arith }

cons-at : (x : ℕ) (a : List ℕ) → x < 256 → Bytes a → Bytes (x ∷ a)
cons-at x a lt f zero = lt
cons-at x a lt f (suc k) = f k

pub bytes-cons : {x : ℕ} {a : List ℕ} → x < 256 → OfBytes a → OfBytes (x ∷ a)
bytes-cons {x} {a} lt f = record { each = cons-at x a lt f.each }

append_at : (a b : List ℕ) → Bytes a → Bytes b → Bytes (a ++ b)
append_at [] b f g k = g k
append_at (x ∷ a) b f g zero = f zero
append_at (x ∷ a) b f g (suc k) = append_at a b (λ i. f (suc i)) g k

pub bytes-append : {a b : List ℕ} → OfBytes a → OfBytes b → OfBytes (a ++ b)
bytes-append {a} {b} f g = record { each = append_at a b f.each g.each }

-- numbers

pub bytes-two : {n : ℕ} → n < 65536 → OfBytes (two_bytes n)
unfolding two_bytes
bytes-two lt = bytes-cons (omega arith) (bytes-cons (omega arith) bytes-none)

pub bytes-four : {n : ℕ} → n < 4294967296 → OfBytes (four_bytes n)
unfolding four_bytes
bytes-four lt = bytes-append (bytes-two (omega arith)) (bytes-two (omega arith))

-- a number that two bytes hold, and one byte if it has just one
pub bytes-number : (k : ℕ) {n : ℕ} → n < 65536 → (k ≡ 1 → n < 256) → OfBytes (number_bytes k n)
unfolding number_bytes
bytes-number k lt one =
    pick OfBytes (eqb k 2) (λ e. bytes-two lt)
    (pick OfBytes (eqb k 1) (λ e. bytes-cons (one (eqb-true k 1 e)) bytes-none)
    (pick OfBytes (eqb k 4) (λ e. bytes-four (omega arith)) bytes-none))

-- a table of widths in which no entry is 1: antt computes the test
not-one : {C : Type 0} (xs : List ℕ) → T (every (λ k x. not (eqb x 1)) 0 xs) → (k : ℕ) → k < length xs → get_or xs k 0 ≡ 1 → C
not-one xs t k lt e = absurd (subst (λ x. T (not (eqb x 1))) e (at (λ i x. not (eqb x 1)) xs t k lt))

-- entries, of which there are so few that two bytes hold the count
module _ {A : Type 0} (enc : A → List ℕ) (Good : List A → A → Type 0)
    (each : (xs : List A) (x : A) → length xs < 65536 → Good xs x → OfBytes (enc x)) where
  pub bytes-each : (ys xs : List A) → length xs + length ys < 65536 → Each Good xs ys → OfBytes (each_bytes enc ys)
  unfolding each_bytes Each
  bytes-each [] xs lt v = bytes-none
  bytes-each (y ∷ ys) xs lt v =
      bytes-append (each xs y (omega arith) v.0)
      (bytes-each ys (xs ++ (y ∷ [])) (simp length-append (omega arith)) v.1)

  pub bytes-table : (ys : List A) → length ys < 65536 → Each Good [] ys → OfBytes (encode_table enc ys)
  bytes-table ys lt v = bytes-append (bytes-two lt) (bytes-each ys [] (omega arith) v)

-- tables
module _ (L : Limits) (small : Small L) where
  name-bytes : (ns : List (List ℕ)) (n : List ℕ) → length ns < 65536 → ValidName L ns n → OfBytes (encode_name n)
  unfolding encode_name
  name-bytes ns n lt v = bytes-cons (omega arith) (record { each = v.bytes })

  pub names-bytes : (ns : List (List ℕ)) → ValidNames L ns → OfBytes (encode_table encode_name ns)
  names-bytes ns v = bytes-table encode_name (ValidName L) name-bytes ns (omega arith) v.each

  module _ (names : ℕ) (low : names < 65536) where
    type-bytes : (ts : List Ty) (t : Ty) → length ts < 65536 → ValidType names ts t → OfBytes (encode_type t)
    unfolding encode_type of_width shape_width
    type-bytes ts t lt v =
        let k = t.kind in
        let m = pick (λ x. x ≤ 65536) (eqb k 0) {x = 1} (λ e. omega arith) (pick (λ x. x ≤ 65536) (ltb k 3) {x = names} {y = length ts} (λ e. omega arith) (omega arith)) in
        let n = pick (λ x. x ≤ 65536) (eqb k 2) {x = 65536} {y = 1} (λ e. omega arith) (omega arith) in
        bytes-cons (omega arith)
        (bytes-append (bytes-number (get_or of_width k 0) (omega arith) (not-one of_width tt k v.kind))
        (bytes-number (get_or shape_width k 0) (omega arith) (not-one shape_width tt k v.kind)))

    pub types-bytes : (ts : List Ty) → ValidTypes L names ts → OfBytes (encode_table encode_type ts)
    types-bytes ts v = bytes-table encode_type (ValidType names) type-bytes ts (omega arith) v.each

    method-bytes : (ms : List Method) (m : Method) → length ms < 65536 → ValidMethod names ms m → OfBytes (encode_method m)
    unfolding encode_method
    method-bytes ms m lt v = bytes-append (bytes-two (omega arith)) (bytes-cons (omega arith) bytes-none)

    global-bytes : (gs : List Global) (g : Global) → length gs < 65536 → ValidGlobal names gs g → OfBytes (encode_global g)
    unfolding encode_global
    global-bytes gs g lt v = bytes-append (bytes-two (omega arith)) (bytes-four v.span)

    pub globals-bytes : (gs : List Global) → ValidGlobals L names gs → OfBytes (encode_table encode_global gs)
    globals-bytes gs v = bytes-table encode_global (ValidGlobal names) global-bytes gs (omega arith) v.each

    module _ (types : ℕ) (few : types < 65536) where
      param-bytes : (ps : List Param) (p : Param) → length ps < 65536 → ValidParam names types ps p → OfBytes (encode_param p)
      unfolding encode_param
      param-bytes ps p lt v = bytes-append (bytes-two (omega arith)) (bytes-two (omega arith))

      pub entry-bytes : (x : Entry) → ValidEntry L names types x → OfBytes (encode_entry x)
      unfolding encode_entry
      entry-bytes x v =
          bytes-cons (omega arith)
          (bytes-append (bytes-number (this_width x.receiver) (omega arith)
          (pick (λ w. w ≡ 1 → x.this < 256) (ltb x.receiver 2) {x = 0} {y = 2} (λ e z. omega arith) (λ z. omega arith)))
          (bytes-table encode_param (ValidParam names types) param-bytes x.params (omega arith) v.params))

  module _ (ns : List (List ℕ)) (low : length ns < 65536) where
    struct-bytes : (ss : List Struct) (x : Struct) → length ss < 65536 → ValidStruct L ns ss x → OfBytes (encode_struct x)
    unfolding encode_struct
    struct-bytes ss x lt v =
        bytes-append (bytes-two (omega arith)) (bytes-cons (omega arith) (bytes-append (bytes-two v.shape)
        (bytes-table encode_method (ValidMethod (length ns)) (method-bytes (length ns) low) x.methods (omega arith) v.methods)))

    pub structs-bytes : (xs : List Struct) → ValidStructs L ns xs → OfBytes (encode_table encode_struct xs)
    structs-bytes xs v = bytes-table encode_struct (ValidStruct L ns) struct-bytes xs (omega arith) v.each

  pub tables-bytes : (x : Tables) → ValidTables L x → OfBytes (encode_tables x)
  unfolding encode_tables
  tables-bytes x v =
      let low : length x.names < 65536 = omega arith in
      bytes-append (names-bytes x.names v.names)
      (bytes-append (types-bytes (length x.names) low x.types v.types)
      (bytes-append (structs-bytes x.names low x.structs v.structs)
      (globals-bytes (length x.names) low x.globals v.globals)))

-- an argument is an operator or a name: two bytes hold it, and one byte if it has just one
arg-low : (names b k x : ℕ) → names ≤ 65536 → x < arg_below names b k → (x < 65536) × (b ≡ 1 → x < 256)
arg-low names b k x le lt =
    let m = pick (λ n. n ≤ 65536) (eqb (b + k) 0) {x = 1} (λ e. omega arith) (pick (λ n. n ≤ 65536) (eqb b 1) {x = 5} (λ e. omega arith) le) in (
      omega arith,
      λ e.
          let n = pick (λ n. n ≤ 256) (eqb (b + k) 0) {x = 1} (λ z. omega arith) (subst (λ z. cond (eqb z 1) 5 names ≤ 256) (sym e) (omega arith)) in
          omega arith,
    )

-- a statement's tag and span
stmt : {k p : ℕ} {a : List ℕ} → k < 256 → p < 4294967296 → OfBytes a → OfBytes (k ∷ (four_bytes p ++ a))
stmt lt l f = bytes-cons lt (bytes-append (bytes-four l) f)

-- a body
module _ (t : Scope) (small : SmallScope t) where
  module _ (Good : Expr → Type 0) (each : (e : Expr) → Good e → OfBytes (encode_expr e)) where
    exprs-bytes : (es : Exprs) → EachExpr Good es → OfBytes (encode_exprs es)
    unfolding encode_exprs EachExpr
    exprs-bytes none v = bytes-none
    exprs-bytes (more e es) v = bytes-append (each e v.0) (exprs-bytes es v.1)

    node-bytes : (h : Head) (ks xs : Exprs) → ValidNode t h ks xs → EachExpr Good ks → EachExpr Good xs → OfBytes (encode_expr (node h ks xs))
    unfolding encode_expr arg_width count_width last_width
    node-bytes h ks xs v vk vx =
        let a = arg-low t.names (get_or arg_width h.tag 0) (get_or last_width h.tag 0) h.arg small.names v.arg in
        let m = pick (λ n. n ≤ 65536) (eqb (get_or count_width h.tag 0) 0) {x = 1} {y = 65536} (λ e. omega arith) (omega arith) in
        bytes-cons (omega arith) (bytes-append (bytes-four (omega arith)) (bytes-append (bytes-two (omega arith))
        (bytes-append (bytes-number (get_or arg_width h.tag 0) a.0 a.1)
        (bytes-append (exprs-bytes ks vk)
        (bytes-append (bytes-number (get_or count_width h.tag 0) (omega arith) (not-one count_width tt h.tag v.high))
        (bytes-append (exprs-bytes xs vx)
        (bytes-number (get_or last_width h.tag 0) a.0 (not-one last_width tt h.tag v.high))))))))

  pub expr-bytes : (d : ℕ) (e : Expr) → ValidExpr t d e → OfBytes (encode_expr e)
  unfolding ValidExpr
  expr-bytes zero e v = absurd v
  expr-bytes (suc d) (node h ks xs) v = node-bytes (ValidExpr t d) (expr-bytes d) h ks xs v.0 v.1 v.2

  -- a name, a type
  name-two : {n : ℕ} → n < t.names → OfBytes (two_bytes n)
  name-two lt = bytes-two (omega arith)

  type-two : {n : ℕ} → n < t.types → OfBytes (two_bytes n)
  type-two lt = bytes-two (omega arith)

  -- statements whose blocks are bytes
  module _ (Good : Block → Type 0) (each : (b : Block) → Good b → OfBytes (encode_block b)) where
    pub code-bytes : (c : Tree) → ValidCode Good t c → OfBytes (encode_code c)
    unfolding ValidCode encode_code encode_block
    code-bytes (done x) v = bytes-none
    code-bytes (expr_stmt p e y c) v = stmt (omega arith) v.0 (bytes-append (expr-bytes _ e v.1) (code-bytes c v.2))
    code-bytes (variable b p n u e c) v =
        stmt (pick (λ k. k < 256) b (λ z. omega arith) (omega arith)) v.0 (bytes-append (name-two v.1) (bytes-append (type-two v.2) (bytes-append (expr-bytes _ e v.3) (code-bytes c v.4))))
    code-bytes (assign p d e u x c) v =
        stmt (omega arith) v.0 (bytes-append (expr-bytes _ d v.1) (bytes-append (expr-bytes _ e v.2) (bytes-append (type-two v.3) (code-bytes c v.4))))
    code-bytes (return p e u x c) v =
        stmt (omega arith) v.0 (bytes-cons (omega arith) (bytes-append (expr-bytes _ e v.1) (bytes-append (type-two v.2) (code-bytes c v.3))))
    code-bytes (bare_return p u x c) v = stmt (omega arith) v.0 (bytes-cons (omega arith) (bytes-append (type-two v.1) (code-bytes c v.2)))
    code-bytes (block q b c) v = bytes-cons (omega arith) (bytes-append (each _ v.0) (code-bytes c v.1))
    code-bytes (if_else p e q b r d c) v =
        stmt (omega arith) v.0
        (bytes-append (expr-bytes _ e v.1) (bytes-append (each _ v.2) (bytes-cons (omega arith) (bytes-append (each _ v.3) (code-bytes c v.4)))))
    code-bytes (if_then p e q b c) v =
        stmt (omega arith) v.0 (bytes-append (expr-bytes _ e v.1) (bytes-append (each _ v.2) (bytes-cons (omega arith) (code-bytes c v.3))))
    code-bytes (while p e q b c) v =
        stmt (omega arith) v.0 (bytes-append (expr-bytes _ e v.1) (bytes-append (each _ v.2) (code-bytes c v.3)))
    code-bytes (jump b p x c) v = stmt (pick (λ k. k < 256) b (λ z. omega arith) (omega arith)) v.0 (code-bytes c v.1)

  pub block-bytes : (d : ℕ) (b : Block) → ValidBlock t d b → OfBytes (encode_block b)
  unfolding ValidBlock encode_block
  block-bytes zero b v = absurd v
  block-bytes (suc d) b v =
      let few = v.1 in
      bytes-append (bytes-four v.0) (bytes-append (bytes-two (omega arith)) (code-bytes (ValidBlock t d) (block-bytes d) b.code v.2))
