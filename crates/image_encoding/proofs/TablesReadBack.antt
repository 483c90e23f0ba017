-- A valid table or entry is read back from the bytes that it is written in.
-- Assumes nothing.
use mathlib.Core.Path.{◌≡◌, refl, sym, ap, subst, subst₂}
use mathlib.Core.List.{List, [], ◌∷◌, ◌++◌}
use mathlib.Core.Bool.{true, cond, ◌||◌}
use mathlib.Core.Logic.{inl, inr, ⊎_elim}
use Prim.Native.Nat.{ℕ, zero, suc, ◌+◌, ◌-◌, ◌≤◌, ◌<◌}
use native.Mathlib.Omega.{arith}
use borrow.Author.Tests.{le-leb, lt-ltb, eq-eqb, le-ltb}
use lib.ListN.{length, get_or}
use lib.Dec.{ltb, eqb}
use Rattle.image_fields.specs.Parsed.{ok}
use Rattle.image_fields.specs.Bytes.{two_bytes, four_bytes, number_bytes}
use Rattle.image_fields.proofs.Tests.{less}
use Rattle.tables.specs.Limits.{Limits}
use Rattle.tables.specs.Name.{bytes_at, name_of, same_bytes, this_name, name_at, names_at}
use Rattle.tables.specs.Ty.{Ty, of_width, shape_width, of_limit, parts_at, type_at, types_at}
use Rattle.tables.specs.Signature.{Method, Struct, Global, Param, Entry, method_at, struct_rest_at, struct_at, structs_at, global_at, globals_at, param_at, this_width, entry_at}
use Rattle.tables.specs.Tables.{Tables}
use Rattle.image_encoding.specs.Written.{Written}
use Rattle.image_encoding.specs.Tables.{encode_table, encode_name, encode_type, encode_method, encode_struct, encode_global, encode_param, encode_entry, encode_tables}
use Rattle.image_encoding.specs.Valid.{ValidName, ValidNames, ValidType, ValidTypes, ValidMethod, ValidStruct, ValidStructs, ValidGlobal, ValidGlobals, ValidParam, ValidEntry, ValidTables}
use Rattle.image_encoding.proofs.Parts.{split, here, room, field-read-back, goes, passes}
use Rattle.image_encoding.proofs.Runs.{table-read-back}
use Rattle.image_encoding.proofs.TablesWritten.{of_width_lem, shape-width, this-width}

bytes_back : (s : List ℕ) (n : List ℕ) (p q : ℕ) → Written s p n q → bytes_at s p (length n) ≡ n
unfolding bytes_at
bytes_back s [] p q g = refl
bytes_back s (x ∷ n) p q g =
    split (x ∷ []) n g (λ r a b.
    let e : r ≡ p + 1 = a.end in
    subst₂ (λ y z. y ∷ z ≡ x ∷ n) (sym (here g)) (sym (bytes_back s n (p + 1) q (subst (λ z. Written s z n q) e b))) refl)

same_self : (n : List ℕ) → same_bytes n n ≡ true
unfolding same_bytes
same_self [] = refl
same_self (x ∷ n) = rw (eq-eqb x x refl) (same_self n)

-- where a kind has no bytes for a number, the number is 0
of_none : (names i k x : ℕ) → k < 5 → x < of_limit names i k → get_or of_width k 0 ≡ 0 → x ≡ 0
unfolding of_width
of_none names i zero x lt l z = omega arith
of_none names i (suc zero) x lt l z = absurd (omega arith)
of_none names i (suc (suc zero)) x lt l z = absurd (omega arith)
of_none names i (suc (suc (suc zero))) x lt l z = absurd (omega arith)
of_none names i (suc (suc (suc (suc zero)))) x lt l z = absurd (omega arith)
of_none names i (suc (suc (suc (suc (suc k))))) x lt l z = absurd (omega arith)

shape-below : (k x : ℕ) → k < 5 → x < cond (eqb k 2) 65536 1 → (get_or shape_width k 0 ≡ 0 → x ≡ 0) × (x < 65536)
unfolding shape_width
shape-below zero x lt l = (λ z. omega arith, omega arith)
shape-below (suc zero) x lt l = (λ z. omega arith, omega arith)
shape-below (suc (suc zero)) x lt l = (λ z. absurd (omega arith), omega arith)
shape-below (suc (suc (suc zero))) x lt l = (λ z. omega arith, omega arith)
shape-below (suc (suc (suc (suc zero)))) x lt l = (λ z. omega arith, omega arith)
shape-below (suc (suc (suc (suc (suc k))))) x lt l = absurd (omega arith)

first_plain : (n k : ℕ) → (n ≡ 0 → k ≡ 0) → (ltb 0 n || eqb k 0) ≡ true
first_plain zero k f = rw (f refl)
first_plain (suc n) k f = rw (lt-ltb 0 (suc n) (omega arith))

without-this : (r x : ℕ) → (r < 2 → x ≡ 0) → this_width r ≡ 0 → x ≡ 0
without-this r x f z = ⊎_elim f (λ le. let e : ◌≡◌ {A = ℕ} 2 0 = subst (λ b. ◌≡◌ {A = ℕ} (cond b 0 2) 0) (le-ltb r 2 le) z in absurd (omega arith)) (less r 2)

module _ (s : List ℕ) where
  name_back : (L : Limits) (ns : List (List ℕ)) (p : ℕ) (n : List ℕ) (q : ℕ) → ValidName L ns n → Written s p (encode_name n) q → name_at L s ns p ≡ ok n q
  unfolding name_at name_of encode_name
  name_back L ns p n q v g =
      split (length n ∷ []) n g (λ r a b.
      let e : r ≡ p + 1 = a.end in
      let k : get_or s p 0 ≡ length n = here g in
      let m : bytes_at s (p + 1) (length n) ≡ n = bytes_back s n (p + 1) q (subst (λ z. Written s z n q) e b) in
      let l = room g in
      let f = g.end in
      let u : p + (length n + 1) ≡ q = omega arith in
      let w : length n + 1 ≤ length s - p = omega arith in
      rw (k, m)
      (passes _ (rw (lt-ltb 0 (length n) v.some) (le-leb _ _ v.short))
      (passes _ (le-leb _ _ w)
      (passes _ (rw v.new) (ap (ok n) u)))))

  pub names-read-back : (L : Limits) (p : ℕ) (ns : List (List ℕ)) (q : ℕ) → ValidNames L ns → Written s p (encode_table encode_name ns) q → names_at L s p ≡ ok ns q
  unfolding names_at
  names-read-back L p ns q v g =
      let few = v.few in
      goes _ (table-read-back encode_name (name_at L s) s (ValidName L) (name_back L) 3 1 (L.names + 1) p ns q v.some (omega arith) v.each g)
      (passes _ (rw v.this (same_self this_name)) refl)

  type-back : (names : ℕ) (ts : List Ty) (p : ℕ) (t : Ty) (q : ℕ) → ValidType names ts t → Written s p (encode_type t) q → type_at names s ts p ≡ ok t q
  unfolding type_at parts_at encode_type number_bytes
  type-back names ts p t q v g =
      split (t.kind ∷ []) (number_bytes (get_or of_width t.kind 0) t.of ++ number_bytes (get_or shape_width t.kind 0) t.shape) g (λ p1 a b.
      split (number_bytes (get_or of_width t.kind 0) t.of) (number_bytes (get_or shape_width t.kind 0) t.shape) b (λ p2 c d.
      let z = shape-below t.kind t.shape v.kind v.shape in
      goes _ (field-read-back 4 5 {k = 1} (inl (omega arith)) (λ y. absurd (omega arith)) v.kind a)
      (passes _ (first_plain (length ts) t.kind v.first)
      (goes _ (field-read-back 4 (of_limit names (length ts) t.kind) (inl (of_width_lem t.kind v.kind)) (of_none names (length ts) t.kind t.of v.kind v.of) v.of c)
      (goes _ (field-read-back 4 65536 (inl (shape-width t.kind v.kind)) z.0 z.1 d) refl)))))

  pub types-read-back : (L : Limits) (names p : ℕ) (ts : List Ty) (q : ℕ) → ValidTypes L names ts → Written s p (encode_table encode_type ts) q → types_at L names s p ≡ ok ts q
  unfolding types_at
  types-read-back L names p ts q v g =
      let few = v.few in
      table-read-back encode_type (type_at names s) s (ValidType names) (type-back names) 4 1 (L.types + 1) p ts q v.some (omega arith) v.each g

  method-back : (names : ℕ) (ms : List Method) (p : ℕ) (m : Method) (q : ℕ) → ValidMethod names ms m → Written s p (encode_method m) q → method_at names s ms p ≡ ok m q
  unfolding method_at encode_method number_bytes
  method-back names ms p m q v g =
      split (two_bytes m.name) (m.modifier ∷ []) g (λ p1 a b.
      goes _ (field-read-back 5 names {k = 2} (inl (omega arith)) (λ y. absurd (omega arith)) v.name a)
      (goes _ (field-read-back 5 4 {k = 1} (inl (omega arith)) (λ y. absurd (omega arith)) v.modifier b)
      (passes _ (rw v.new) refl)))

  struct_back : (L : Limits) (ns : List (List ℕ)) (ss : List Struct) (p : ℕ) (x : Struct) (q : ℕ) → ValidStruct L ns ss x → Written s p (encode_struct x) q
      → struct_at L ns s ss p ≡ ok x q
  unfolding struct_at struct_rest_at encode_struct number_bytes
  struct_back L ns ss p x q v g =
      let few = v.few in
      split (two_bytes x.name) (x.destructor ∷ (two_bytes x.shape ++ encode_table encode_method x.methods)) g (λ p1 a b.
      split (x.destructor ∷ []) (two_bytes x.shape ++ encode_table encode_method x.methods) b (λ p2 c d.
      split (two_bytes x.shape) (encode_table encode_method x.methods) d (λ p3 e f.
      goes _ (field-read-back 5 (length ns) {k = 2} (inl (omega arith)) (λ y. absurd (omega arith)) v.name a)
      (passes _ v.rising
      (goes _ (field-read-back 5 2 {k = 1} (inl (omega arith)) (λ y. absurd (omega arith)) v.destructor c)
      (goes _ (field-read-back 5 65536 {k = 2} (inl (omega arith)) (λ y. absurd (omega arith)) v.shape e)
      (goes _ (table-read-back encode_method (method_at (length ns) s) s (ValidMethod (length ns)) (method-back (length ns)) 5 0 (L.methods + 1) p3 x.methods q
      (omega arith) (omega arith) v.methods f) refl)))))))

  pub structs-read-back : (L : Limits) (ns : List (List ℕ)) (p : ℕ) (xs : List Struct) (q : ℕ) → ValidStructs L ns xs → Written s p (encode_table encode_struct xs) q
      → structs_at L ns s p ≡ ok xs q
  unfolding structs_at
  structs-read-back L ns p xs q v g =
      let few = v.few in
      table-read-back encode_struct (struct_at L ns s) s (ValidStruct L ns) (struct_back L ns) 5 0 (L.structs + 1) p xs q (omega arith) (omega arith) v.each g

  global-back : (names : ℕ) (gs : List Global) (p : ℕ) (x : Global) (q : ℕ) → ValidGlobal names gs x → Written s p (encode_global x) q → global_at names s gs p ≡ ok x q
  unfolding global_at encode_global number_bytes
  global-back names gs p x q v g =
      split (two_bytes x.name) (four_bytes x.span) g (λ p1 a b.
      goes _ (field-read-back 6 names {k = 2} (inl (omega arith)) (λ y. absurd (omega arith)) v.name a)
      (goes _ (field-read-back 6 4294967296 {k = 4} (inr refl) (λ y. absurd (omega arith)) v.span b)
      (passes _ (rw v.new) refl)))

  pub globals-read-back : (L : Limits) (names p : ℕ) (gs : List Global) (q : ℕ) → ValidGlobals L names gs → Written s p (encode_table encode_global gs) q
      → globals_at L names s p ≡ ok gs q
  unfolding globals_at
  globals-read-back L names p gs q v g =
      let few = v.few in
      table-read-back encode_global (global_at names s) s (ValidGlobal names) (global-back names) 6 0 (L.globals + 1) p gs q (omega arith) (omega arith) v.each g

  param-back : (names types : ℕ) (ps : List Param) (p : ℕ) (x : Param) (q : ℕ) → ValidParam names types ps x → Written s p (encode_param x) q
      → param_at names types s ps p ≡ ok x q
  unfolding param_at encode_param number_bytes
  param-back names types ps p x q v g =
      split (two_bytes x.name) (two_bytes x.ty) g (λ p1 a b.
      goes _ (field-read-back 7 names {k = 2} (inl (omega arith)) (λ y. absurd (omega arith)) v.name a)
      (goes _ (field-read-back 7 types {k = 2} (inl (omega arith)) (λ y. absurd (omega arith)) v.ty b) refl))

  pub entry-read-back : (L : Limits) (names types p : ℕ) (x : Entry) (q : ℕ) → ValidEntry L names types x → Written s p (encode_entry x) q
      → entry_at L names types s p ≡ ok x q
  unfolding entry_at encode_entry number_bytes
  entry-read-back L names types p x q v g =
      let few = v.few in
      split (x.receiver ∷ []) (number_bytes (this_width x.receiver) x.this ++ encode_table encode_param x.params) g (λ p1 a b.
      split (number_bytes (this_width x.receiver) x.this) (encode_table encode_param x.params) b (λ p2 c d.
      goes _ (field-read-back 7 5 {k = 1} (inl (omega arith)) (λ y. absurd (omega arith)) v.receiver a)
      (goes _ (field-read-back 7 types (inl (this-width x.receiver)) (without-this x.receiver x.this v.without) v.this c)
      (goes _ (table-read-back encode_param (param_at names types s) s (ValidParam names types) (param-back names types) 7 0 (L.params + 1) p2 x.params q
      (omega arith) (omega arith) v.params d) refl))))

  -- all tables, one after another: each reader accepts its own
  pub tables-read-back : (L : Limits) (T : Tables) (p v : ℕ) → ValidTables L T → Written s p (encode_tables T) v
      → (q : ℕ) × (r : ℕ) × (u : ℕ) × (names_at L s p ≡ ok T.names q) × (types_at L (length T.names) s q ≡ ok T.types r)
      × (structs_at L T.names s r ≡ ok T.structs u) × (globals_at L (length T.names) s u ≡ ok T.globals v)
  unfolding encode_tables
  tables-read-back L T p v valid g =
      split (encode_table encode_name T.names) (encode_table encode_type T.types ++ (encode_table encode_struct T.structs ++ encode_table encode_global T.globals)) g (λ q a b.
      split (encode_table encode_type T.types) (encode_table encode_struct T.structs ++ encode_table encode_global T.globals) b (λ r c d.
      split (encode_table encode_struct T.structs) (encode_table encode_global T.globals) d (λ u e f. (
        q,
        r,
        u,
        names-read-back L p T.names q valid.names a,
        types-read-back L (length T.names) q T.types r valid.types c,
        structs-read-back L T.names r T.structs u valid.structs e,
        globals-read-back L (length T.names) u T.globals v valid.globals f,
      ))))
