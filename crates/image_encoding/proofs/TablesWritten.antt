-- The bytes from which a table or the entry was read are those that it is written in.
-- Assumes nothing.
use mathlib.Core.Path.{◌≡◌, refl, sym, ap, ◌∙◌, subst₂}
use mathlib.Core.List.{List, ◌∷◌}
use mathlib.Core.Bool.{Bool, true, false, cond}
use mathlib.Core.Logic.{inl, inr}
use Prim.Native.Nat.{ℕ, zero, suc, ◌+◌, ◌-◌, ◌≤◌, ◌<◌}
use native.Mathlib.Omega.{arith}
use borrow.Author.Tests.{leb-true}
use lib.ListN.{length, get_or}
use lib.Dec.{ltb}
use Rattle.image_fields.specs.Parsed.{ok}
use Rattle.image_fields.specs.Bytes.{number_bytes, Bytes}
use Rattle.image_fields.proofs.Inverse.{bound, ensure-ok}
use Rattle.image_fields.proofs.Numbers.{field-ok}
use Rattle.tables.specs.Limits.{Limits}
use Rattle.tables.specs.Name.{bytes_at, name_of, name_at, names_at}
use Rattle.tables.specs.Ty.{Ty, of_width, shape_width, parts_at, type_at, types_at}
use Rattle.tables.specs.Signature.{Method, Struct, Global, Param, Entry, method_at, struct_rest_at, struct_at, structs_at, global_at, globals_at, param_at, this_width, entry_at}
use Rattle.tables.proofs.Names.{length-bytes}
use Rattle.image_encoding.specs.Written.{Written}
use Rattle.image_encoding.specs.Tables.{encode_table, encode_name, encode_type, encode_method, encode_struct, encode_global, encode_param, encode_entry, encode_tables}
use Rattle.tables.specs.Tables.{Tables}
use Rattle.image_encoding.proofs.Parts.{at_most, byte_at, then, nothing, upto, being, field-written}
use Rattle.image_encoding.proofs.Runs.{table-written}

pub bytes-at : (s : List ℕ) (p n : ℕ) → p + n ≤ length s → Written s p (bytes_at s p n) (p + n)
unfolding bytes_at
bytes-at s p zero le = upto (omega arith) nothing
bytes-at s p (suc n) le = upto (omega arith) (then (byte_at s p (omega arith)) (bytes-at s (p + 1) n (omega arith)))

-- the tables' widths
pub of_width_lem : (k : ℕ) → k < 5 → get_or of_width k 0 ≤ 2
unfolding of_width
of_width_lem k lt = at_most 2 of_width tt k lt

pub shape-width : (k : ℕ) → k < 5 → get_or shape_width k 0 ≤ 2
unfolding shape_width
shape-width k lt = at_most 2 shape_width tt k lt

cond-width : (b : Bool) → cond b 0 2 ≤ 2
cond-width true = omega arith
cond-width false = omega arith

pub this-width : (r : ℕ) → this_width r ≤ 2
this-width r = cond-width (ltb r 2)

module _ (s : List ℕ) (small : Bytes s) where
  name-written : (L : Limits) (ns : List (List ℕ)) (p : ℕ) (n : List ℕ) (q : ℕ) → name_at L s ns p ≡ ok n q → Written s p (encode_name n) q
  unfolding name_at name_of encode_name
  name-written L ns p n q e =
      let e1 = (ensure-ok _ e).1 in
      let e2 = ensure-ok _ e1 in
      let e3 = (ensure-ok _ e2.1).1 in
      let a : bytes_at s (p + 1) (get_or s p 0) ≡ n = cc in
      let b : p + (get_or s p 0 + 1) ≡ q = cc in
      let l : get_or s p 0 + 1 ≤ length s - p = leb-true _ _ e2.0 in
      let c : get_or s p 0 ≡ length n = sym (length-bytes s (p + 1) (get_or s p 0)) ∙ ap length a in
      upto b (being (subst₂ (λ x y. get_or s p 0 ∷ bytes_at s (p + 1) (get_or s p 0) ≡ x ∷ y) c a refl)
      (upto {q = p + 1 + get_or s p 0} (omega arith) (then (byte_at s p (omega arith)) (bytes-at s (p + 1) (get_or s p 0) (omega arith)))))

  pub names-written : (L : Limits) (p : ℕ) (ns : List (List ℕ)) (q : ℕ) → names_at L s p ≡ ok ns q → Written s p (encode_table encode_name ns) q
  unfolding names_at
  names-written L p ns q e =
      bound e (λ ms r e1 e2.
      let e3 = (ensure-ok _ e2).1 in
      let a : ms ≡ ns = cc in
      let b : r ≡ q = cc in
      subst₂ (λ x y. Written s p (encode_table encode_name x) y) a b
      (table-written encode_name (name_at L s) s small (name-written L) _ _ _ p ms r e1))

  type-written : (names : ℕ) (ts : List Ty) (p : ℕ) (t : Ty) (q : ℕ) → type_at names s ts p ≡ ok t q → Written s p (encode_type t) q
  unfolding type_at parts_at encode_type number_bytes
  type-written names ts p t q e =
      bound e (λ kind p1 e1 e2.
      bound (ensure-ok _ e2).1 (λ of p2 e3 e4.
      bound e4 (λ shape p3 e5 e6.
      let a : record { kind = kind; of = of; shape = shape } ≡ t = cc in
      let b : p3 ≡ q = cc in
      let k : kind < 5 = (field-ok e1).small in
      subst₂ (λ x y. Written s p (encode_type x) y) a b
      (then (field-written s small _ _ {k = 1} (inl (omega arith)) e1)
      (then (field-written s small _ _ (inl (of_width_lem kind k)) e3) (field-written s small _ _ (inl (shape-width kind k)) e5))))))

  pub types-written : (L : Limits) (names p : ℕ) (ts : List Ty) (q : ℕ) → types_at L names s p ≡ ok ts q → Written s p (encode_table encode_type ts) q
  unfolding types_at
  types-written L names p ts q e = table-written encode_type (type_at names s) s small (type-written names) _ _ _ p ts q e

  method-written : (names : ℕ) (ms : List Method) (p : ℕ) (m : Method) (q : ℕ) → method_at names s ms p ≡ ok m q → Written s p (encode_method m) q
  unfolding method_at encode_method number_bytes
  method-written names ms p m q e =
      bound e (λ name p1 e1 e2.
      bound e2 (λ modifier p2 e3 e4.
      let e5 = (ensure-ok _ e4).1 in
      let a : record { name = name; modifier = modifier } ≡ m = cc in
      let b : p2 ≡ q = cc in
      subst₂ (λ x y. Written s p (encode_method x) y) a b
      (then (field-written s small _ _ {k = 2} (inl (omega arith)) e1) (field-written s small _ _ {k = 1} (inl (omega arith)) e3))))

  struct_written : (L : Limits) (ns : List (List ℕ)) (ss : List Struct) (p : ℕ) (x : Struct) (q : ℕ) → struct_at L ns s ss p ≡ ok x q → Written s p (encode_struct x) q
  unfolding struct_at struct_rest_at encode_struct number_bytes
  struct_written L ns ss p x q e =
      bound e (λ name p1 e1 e2.
      bound (ensure-ok _ e2).1 (λ destructor p2 e3 e4.
      bound e4 (λ shape p3 e5 e6.
      bound e6 (λ ms p4 e7 e8.
      let a : record { name = name; destructor = destructor; shape = shape; methods = ms } ≡ x = cc in
      let b : p4 ≡ q = cc in
      subst₂ (λ x y. Written s p (encode_struct x) y) a b
      (then (field-written s small _ _ {k = 2} (inl (omega arith)) e1)
      (then (field-written s small _ _ {k = 1} (inl (omega arith)) e3)
      (then (field-written s small _ _ {k = 2} (inl (omega arith)) e5)
      (table-written encode_method (method_at (length ns) s) s small (method-written (length ns)) _ _ _ p3 ms p4 e7))))))))

  pub structs-written : (L : Limits) (ns : List (List ℕ)) (p : ℕ) (xs : List Struct) (q : ℕ) → structs_at L ns s p ≡ ok xs q → Written s p (encode_table encode_struct xs) q
  unfolding structs_at
  structs-written L ns p xs q e = table-written encode_struct (struct_at L ns s) s small (struct_written L ns) _ _ _ p xs q e

  global-written : (names : ℕ) (gs : List Global) (p : ℕ) (g : Global) (q : ℕ) → global_at names s gs p ≡ ok g q → Written s p (encode_global g) q
  unfolding global_at encode_global number_bytes
  global-written names gs p g q e =
      bound e (λ name p1 e1 e2.
      bound e2 (λ span p2 e3 e4.
      let e5 = (ensure-ok _ e4).1 in
      let a : record { name = name; span = span } ≡ g = cc in
      let b : p2 ≡ q = cc in
      subst₂ (λ x y. Written s p (encode_global x) y) a b
      (then (field-written s small _ _ {k = 2} (inl (omega arith)) e1) (field-written s small _ _ {k = 4} (inr refl) e3))))

  pub globals-written : (L : Limits) (names p : ℕ) (gs : List Global) (q : ℕ) → globals_at L names s p ≡ ok gs q → Written s p (encode_table encode_global gs) q
  unfolding globals_at
  globals-written L names p gs q e = table-written encode_global (global_at names s) s small (global-written names) _ _ _ p gs q e

  param-written : (names types : ℕ) (ps : List Param) (p : ℕ) (x : Param) (q : ℕ) → param_at names types s ps p ≡ ok x q → Written s p (encode_param x) q
  unfolding param_at encode_param number_bytes
  param-written names types ps p x q e =
      bound e (λ name p1 e1 e2.
      bound e2 (λ ty p2 e3 e4.
      let a : record { name = name; ty = ty } ≡ x = cc in
      let b : p2 ≡ q = cc in
      subst₂ (λ x y. Written s p (encode_param x) y) a b
      (then (field-written s small _ _ {k = 2} (inl (omega arith)) e1) (field-written s small _ _ {k = 2} (inl (omega arith)) e3))))

  pub entry-written : (L : Limits) (names types p : ℕ) (x : Entry) (q : ℕ) → entry_at L names types s p ≡ ok x q → Written s p (encode_entry x) q
  unfolding entry_at encode_entry number_bytes
  entry-written L names types p x q e =
      bound e (λ receiver p1 e1 e2.
      bound e2 (λ this p2 e3 e4.
      bound e4 (λ ps p3 e5 e6.
      let a : record { receiver = receiver; this = this; params = ps } ≡ x = cc in
      let b : p3 ≡ q = cc in
      subst₂ (λ x y. Written s p (encode_entry x) y) a b
      (then (field-written s small _ _ {k = 1} (inl (omega arith)) e1)
      (then (field-written s small _ _ (inl (this-width receiver)) e3)
      (table-written encode_param (param_at names types s) s small (param-written names types) _ _ _ p2 ps p3 e5))))))

  -- all tables, one after another
  pub tables-written : (L : Limits) (T : Tables) (p q r u v : ℕ) → names_at L s p ≡ ok T.names q → types_at L (length T.names) s q ≡ ok T.types r
      → structs_at L T.names s r ≡ ok T.structs u → globals_at L (length T.names) s u ≡ ok T.globals v → Written s p (encode_tables T) v
  unfolding encode_tables
  tables-written L T p q r u v a b c d =
      then (names-written L p T.names q a) (then (types-written L (length T.names) q T.types r b)
      (then (structs-written L T.names r T.structs u c) (globals-written L (length T.names) u T.globals v d)))
