-- A table or entry that was read is valid: with Written and ReadBack, the readers accept just the bytes of valid values.
-- Assumes nothing.
use mathlib.Core.Path.{◌≡◌, refl, sym, ap, ◌∙◌, subst}
use mathlib.Core.List.{List, [], ◌∷◌, ◌++◌, append_assoc, append-nil}
use mathlib.Core.Bool.{true, cond, ◌||◌}
use Prim.Native.Nat.{ℕ, zero, suc, ◌+◌, ◌≤◌, ◌<◌}
use native.Mathlib.Omega.{arith}
use borrow.Author.Tests.{leb-true, ltb-true, lt-ltb, eqb-true, not-true}
use lib.ListN.{length, get_or}
use lib.Dec.{ltb, eqb}
use Rattle.image_fields.specs.Parsed.{Parsed, ok}
use Rattle.image_fields.specs.Number.{number_in, field_at}
use Rattle.image_fields.specs.Table.{table_from, table_at}
use Rattle.image_fields.specs.Bytes.{Bytes}
use Rattle.image_fields.proofs.Inverse.{bound, ensure-ok}
use Rattle.image_fields.proofs.Numbers.{field-ok}
use Rattle.image_fields.proofs.Tables.{table-parts}
use Rattle.image_fields.proofs.Tests.{and-true}
use Rattle.tables.specs.Limits.{Limits}
use Rattle.tables.specs.Name.{bytes_at, name_of, name_at, names_at}
use Rattle.tables.specs.Ty.{Ty, shape_width, parts_at, type_at, types_at}
use Rattle.tables.specs.Signature.{Method, Struct, Global, Param, Entry, method_at, struct_rest_at, struct_at, structs_at, global_at, globals_at, param_at, this_width, entry_at}
use Rattle.image_encoding.specs.Valid.{Each, ValidName, ValidNames, ValidType, ValidTypes, ValidMethod, ValidStruct, ValidStructs, ValidGlobal, ValidGlobals, ValidParam, ValidEntry}
use Rattle.tables.proofs.Names.{length-bytes, same_true}

-- a number in no bytes is 0
pub field-none : (f limit k : ℕ) (s : List ℕ) (p n q : ℕ) → field_at f limit k s p ≡ ok n q → k ≡ 0 → n ≡ 0
field-none f limit k s p n q e z = (field-ok e).is ∙ ap (λ w. number_in s w p) z

module _ {A : Type 0} (f : List A → ℕ → Parsed A) (Good : List A → A → Type 0) (each : (xs : List A) (p : ℕ) (x : A) (q : ℕ) → f xs p ≡ ok x q → Good xs x) where
  entries-valid : (k : ℕ) (xs : List A) (p : ℕ) (us : List A) (q : ℕ) → table_from f xs k p ≡ ok us q → (ys : List A) × (us ≡ xs ++ ys) × Each Good xs ys
  unfolding table_from Each
  entries-valid zero xs p us q e = let z : us ≡ xs = cc in ([], z ∙ sym (append-nil xs), tt)
  entries-valid (suc k) xs p us q e =
      bound e (λ x r e1 e2.
      let g = entries-valid k (xs ++ (x ∷ [])) r us q e2 in
      (x ∷ g.0, g.1 ∙ append_assoc xs (x ∷ []) g.0, (each xs p x r e1, g.2)))

  pub table-valid : (k least limit : ℕ) (s : List ℕ) (p : ℕ) (xs : List A) (q : ℕ) → table_at k least limit f s p ≡ ok xs q
      → (least ≤ length xs) × (length xs < limit) × Each Good [] xs
  table-valid k least limit s p xs q e =
      let g = table-parts f k least limit s p e in
      let n : length xs ≡ g.0 = g.5 in
      let a : least ≤ g.0 = g.3 in
      let b : g.0 < limit = (field-ok g.2).small in
      let v = entries-valid g.0 [] g.1 xs q g.4 in
      (omega arith, omega arith, subst (λ ys. Each Good [] ys) (sym v.1) v.2)

bytes_small : (s : List ℕ) → Bytes s → (n p : ℕ) → Bytes (bytes_at s p n)
unfolding bytes_at
bytes_small s small zero p k = omega arith
bytes_small s small (suc n) p zero = small p
bytes_small s small (suc n) p (suc k) = bytes_small s small n (p + 1) k

shape-valid : (k x : ℕ) → k < 5 → x < 65536 → (get_or shape_width k 0 ≡ 0 → x ≡ 0) → x < cond (eqb k 2) 65536 1
unfolding shape_width
shape-valid zero x lt l z = let e = z refl in omega arith
shape-valid (suc zero) x lt l z = let e = z refl in omega arith
shape-valid (suc (suc zero)) x lt l z = l
shape-valid (suc (suc (suc zero))) x lt l z = let e = z refl in omega arith
shape-valid (suc (suc (suc (suc zero)))) x lt l z = let e = z refl in omega arith
shape-valid (suc (suc (suc (suc (suc k))))) x lt l z = absurd (omega arith)

first-valid : (n k : ℕ) → (ltb 0 n || eqb k 0) ≡ true → n ≡ 0 → k ≡ 0
first-valid zero k e z = eqb-true k 0 e
first-valid (suc n) k e z = absurd (omega arith)

this-none : (r : ℕ) → r < 2 → this_width r ≡ 0
this-none r lt = rw (lt-ltb r 2 lt)

module _ (s : List ℕ) where
  name-valid : Bytes s → (L : Limits) (ns : List (List ℕ)) (p : ℕ) (n : List ℕ) (q : ℕ) → name_at L s ns p ≡ ok n q → ValidName L ns n
  unfolding name_at name_of
  name-valid small L ns p n q e =
      let e1 = ensure-ok _ e in
      let e2 = ensure-ok _ e1.1 in
      let e3 = ensure-ok _ e2.1 in
      let a : bytes_at s (p + 1) (get_or s p 0) ≡ n = cc in
      let b = and-true (ltb 0 (get_or s p 0)) _ e1.0 in
      let low : 0 < get_or s p 0 = ltb-true _ _ b.0 in
      let high : get_or s p 0 ≤ L.name_bytes = leb-true _ _ b.1 in
      let l : length (bytes_at s (p + 1) (get_or s p 0)) ≡ get_or s p 0 = length-bytes s (p + 1) (get_or s p 0) in
      subst (ValidName L ns) a
      record { some = omega arith; short = omega arith; bytes = bytes_small s small (get_or s p 0) (p + 1); new = not-true _ e3.0 }

  pub names-valid : Bytes s → (L : Limits) (p : ℕ) (ns : List (List ℕ)) (q : ℕ) → names_at L s p ≡ ok ns q → ValidNames L ns
  unfolding names_at
  names-valid small L p ns q e =
      bound e (λ ms r e1 e2.
      let e3 = ensure-ok _ e2 in
      let a : ms ≡ ns = cc in
      let g = table-valid (name_at L s) (ValidName L) (name-valid small L) _ _ _ s p ms r e1 in
      let few : length ms < L.names + 1 = g.1 in
      subst (ValidNames L) a record { some = g.0; few = omega arith; each = g.2; this = same_true _ _ e3.0 })

  type-valid : (names : ℕ) (ts : List Ty) (p : ℕ) (t : Ty) (q : ℕ) → type_at names s ts p ≡ ok t q → ValidType names ts t
  unfolding type_at parts_at
  type-valid names ts p t q e =
      bound e (λ kind p1 e1 e2.
      let g = ensure-ok _ e2 in
      bound g.1 (λ of p2 e3 e4.
      bound e4 (λ shape p3 e5 e6.
      let a : record { kind = kind; of = of; shape = shape } ≡ t = cc in
      let k : kind < 5 = (field-ok e1).small in
      subst (ValidType names ts) a record {
        kind = k;
        first = first-valid (length ts) kind g.0;
        of = (field-ok e3).small;
        shape = shape-valid kind shape k (field-ok e5).small (field-none _ _ _ s p2 shape p3 e5);
      })))

  pub types-valid : (L : Limits) (names p : ℕ) (ts : List Ty) (q : ℕ) → types_at L names s p ≡ ok ts q → ValidTypes L names ts
  unfolding types_at
  types-valid L names p ts q e =
      let g = table-valid (type_at names s) (ValidType names) (type-valid names) _ _ _ s p ts q e in
      let few : length ts < L.types + 1 = g.1 in
      record { some = g.0; few = omega arith; each = g.2 }

  method-valid : (names : ℕ) (ms : List Method) (p : ℕ) (m : Method) (q : ℕ) → method_at names s ms p ≡ ok m q → ValidMethod names ms m
  unfolding method_at
  method-valid names ms p m q e =
      bound e (λ name p1 e1 e2.
      bound e2 (λ modifier p2 e3 e4.
      let e5 = ensure-ok _ e4 in
      let a : record { name = name; modifier = modifier } ≡ m = cc in
      subst (ValidMethod names ms) a record { name = (field-ok e1).small; modifier = (field-ok e3).small; new = not-true _ e5.0 }))

  struct-valid : (L : Limits) (ns : List (List ℕ)) (ss : List Struct) (p : ℕ) (x : Struct) (q : ℕ) → struct_at L ns s ss p ≡ ok x q → ValidStruct L ns ss x
  unfolding struct_at struct_rest_at
  struct-valid L ns ss p x q e =
      bound e (λ name p1 e1 e2.
      let g = ensure-ok _ e2 in
      bound g.1 (λ destructor p2 e3 e4.
      bound e4 (λ shape p3 e5 e6.
      bound e6 (λ ms p4 e7 e8.
      let a : record { name = name; destructor = destructor; shape = shape; methods = ms } ≡ x = cc in
      let v = table-valid (method_at (length ns) s) (ValidMethod (length ns)) (method-valid (length ns)) _ _ _ s p3 ms p4 e7 in
      let few : length ms < L.methods + 1 = v.1 in
      subst (ValidStruct L ns ss) a record {
        name = (field-ok e1).small;
        rising = g.0;
        destructor = (field-ok e3).small;
        shape = (field-ok e5).small;
        few = omega arith;
        methods = v.2;
      }))))

  pub structs-valid : (L : Limits) (ns : List (List ℕ)) (p : ℕ) (xs : List Struct) (q : ℕ) → structs_at L ns s p ≡ ok xs q → ValidStructs L ns xs
  unfolding structs_at
  structs-valid L ns p xs q e =
      let g = table-valid (struct_at L ns s) (ValidStruct L ns) (struct-valid L ns) _ _ _ s p xs q e in
      let few : length xs < L.structs + 1 = g.1 in
      record { few = omega arith; each = g.2 }

  global-valid : (names : ℕ) (gs : List Global) (p : ℕ) (x : Global) (q : ℕ) → global_at names s gs p ≡ ok x q → ValidGlobal names gs x
  unfolding global_at
  global-valid names gs p x q e =
      bound e (λ name p1 e1 e2.
      bound e2 (λ span p2 e3 e4.
      let e5 = ensure-ok _ e4 in
      let a : record { name = name; span = span } ≡ x = cc in
      subst (ValidGlobal names gs) a record { name = (field-ok e1).small; span = (field-ok e3).small; new = not-true _ e5.0 }))

  pub globals-valid : (L : Limits) (names p : ℕ) (gs : List Global) (q : ℕ) → globals_at L names s p ≡ ok gs q → ValidGlobals L names gs
  unfolding globals_at
  globals-valid L names p gs q e =
      let g = table-valid (global_at names s) (ValidGlobal names) (global-valid names) _ _ _ s p gs q e in
      let few : length gs < L.globals + 1 = g.1 in
      record { few = omega arith; each = g.2 }

  param-valid : (names types : ℕ) (ps : List Param) (p : ℕ) (x : Param) (q : ℕ) → param_at names types s ps p ≡ ok x q → ValidParam names types ps x
  unfolding param_at
  param-valid names types ps p x q e =
      bound e (λ name p1 e1 e2.
      bound e2 (λ ty p2 e3 e4.
      let a : record { name = name; ty = ty } ≡ x = cc in
      subst (ValidParam names types ps) a record { name = (field-ok e1).small; ty = (field-ok e3).small }))

  pub entry-valid : (L : Limits) (names types p : ℕ) (x : Entry) (q : ℕ) → entry_at L names types s p ≡ ok x q → ValidEntry L names types x
  unfolding entry_at
  entry-valid L names types p x q e =
      bound e (λ receiver p1 e1 e2.
      bound e2 (λ this p2 e3 e4.
      bound e4 (λ ps p3 e5 e6.
      let a : record { receiver = receiver; this = this; params = ps } ≡ x = cc in
      let v = table-valid (param_at names types s) (ValidParam names types) (param-valid names types) _ _ _ s p2 ps p3 e5 in
      let few : length ps < L.params + 1 = v.1 in
      subst (ValidEntry L names types) a record {
        receiver = (field-ok e1).small;
        this = (field-ok e3).small;
        without = λ lt. field-none _ _ _ s p1 this p2 e3 (this-none receiver lt);
        few = omega arith;
        params = v.2;
      })))
