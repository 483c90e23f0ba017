-- The tables as the reader leaves them.
-- Assumes nothing.
use mathlib.Core.Path.{◌≡◌, refl, sym, ap, ◌∙◌, subst}
use mathlib.Core.List.{List, [], ◌∷◌, ◌++◌, map, append_assoc}
use Prim.Native.Nat.{ℕ, ◌+◌, ◌-◌, ◌≤◌, ◌<◌}
use native.Mathlib.Omega.{arith}
use borrow.Rule.Slice.PartMut.{put_mid, same_len_mid}
use lib.ListN.{length, take, drop, length-take, length-drop, take-append-drop}
use lib.Seq.{length-take-le, get_or-take, drop_at, drop-drop, take-append-le, take-take, drop-append-le, paste, length-paste, slice}
use Rattle.image_fields.specs.Parsed.{ok}
use Rattle.image_fields.specs.Answer.{table_of}
use Rattle.std.specs.Prelude.{Result, Ok, Err}
use Rattle.image_fields.specs.declared.Fault.{Fault}
use Rattle.image_fields.specs.Fault.{fault_number}
use Rattle.image_fields.proofs.Answers.{table_at}
use Rattle.image_fields.proofs.Tables.{entries-length}
use Rattle.tables.specs.Limits.{version1}
use Rattle.tables.specs.Name.{name_of, names_at}
use Rattle.tables.specs.Ty.{Ty, types_at, type_in, generic_flags}
use Rattle.tables.specs.Signature.{struct_in, global_in}
use Rattle.tables.specs.Answer.{Listed}
use Rattle.tables_lookup.specs.First.{AllWithin}
use Rattle.tables_lookup.specs.Lent.{names_in, types_in, structs_in, Filled, Lent}
use Rattle.tables_lookup.specs.Ty.{Lower}
use Rattle.tables_lookup.proofs.Lower.{types-lower}
use Rattle.tables_lookup.proofs.Lent.{part-is, says-kept}
use Rattle.image_encoding.proofs.TablesValid.{structs-valid, globals-valid}
use Rattle.image.specs.Image.{Image, accepted, decode, fault_of}
use Rattle.image.specs.Layout.{head_fault, fault_in, RestStands, RestReads, Counts, Placed, Places, Reads}
use Rattle.image.specs.declared.Rest.{Rest}
use Rattle.image.specs.declared.ImageRead.{ImageRead}
use Rattle.image.proofs.Numbered.{zero-accepted}
use Rattle.image.proofs.RoundTrip.{parted}
use Rattle.image.proofs.Whole.{head-short, rest-stop, rest-passes, rest-stands, name-limit, type-limit}

-- numbers put into a list
module _ (from : ℕ) (l p rest : List ℕ) (le : from ≤ length l) where
  put_in : (n : ℕ) → n ≤ length p → take n (drop from (take from l ++ (p ++ rest))) ≡ take n p
  put_in n few = ap (take n) (drop_at (take from l) (p ++ rest) from (length-take-le from l le)) ∙ take-append-le n p rest few

  put-before : (f n : ℕ) → f + n ≤ from → take n (drop f (take from l ++ (p ++ rest))) ≡ take n (drop f l)
  put-before f n few = front (p ++ rest) ∙ sym (front (drop from l)) ∙ ap (λ x. take n (drop f x)) (take-append-drop from l)
    where
      front : (r : List ℕ) → take n (drop f (take from l ++ r)) ≡ take n (drop f (take from l))
      front r =
          let e = length-take-le from l le in
          let d = length-drop f (take from l) in
          ap (take n) (drop-append-le f (take from l) r (omega arith)) ∙ take-append-le n (drop f (take from l)) r (omega arith)

-- so many numbers of a part, as the code borrows it, and as the tables are cut
so-many : (from n : ℕ) (l : List ℕ) → take (from + n - from) (drop from l) ≡ take n (drop from l)
so-many from n l = let e : from + n - from ≡ n = omega arith in ap (λ k. take k (drop from l)) e

cut-is : (from n : ℕ) (l : List ℕ) → slice from (from + n) l ≡ take n (drop from l)
cut-is from n l = sym (part-is from (from + n) l (omega arith)) ∙ so-many from n l

-- a part that comes back has as many numbers as it had
back_long : (from n : ℕ) (l p : List ℕ) → from + n ≤ length l → length p ≡ length (take n (drop from l)) → length p ≡ n
back_long from n l p le e = let d = length-drop from l in e ∙ length-take-le n (drop from l) (omega arith)

-- the types' part is there after the names
pub types-room : (tb names : List ℕ) → length tb ≡ 1096 → length names ≡ length (take 512 (drop 8 tb)) → 256 ≤ length (take 256 (drop 520 (put_mid 8 512 tb names)))
types-room tb names size kn =
    let l = same_len_mid 8 512 tb names kn in
    let d = length-drop 520 (put_mid 8 512 tb names) in
    let e = length-take-le 256 (drop 520 (put_mid 8 512 tb names)) (omega arith) in
    omega arith

-- the tables after names and types, then structs, then counts
module _ (tb names types : List ℕ) (size : length tb ≡ 1096) (kn : length names ≡ length (take 512 (drop 8 tb)))
    (kt : length types ≡ length (take 256 (drop 520 (put_mid 8 512 tb names)))) where
  abbrev named : List ℕ
  named = put_mid 8 512 tb names

  abbrev typed : List ℕ
  typed = put_mid 520 256 named types

  named-long : length named ≡ 1096
  named-long = same_len_mid 8 512 tb names kn ∙ size

  pub typed_long : length typed ≡ 1096
  typed_long = same_len_mid 520 256 named types kt ∙ named-long

  names-long : length names ≡ 512
  names-long = back_long 8 512 tb names (omega arith) kn

  types_long : length types ≡ 256
  types_long = let s = named-long in back_long 520 256 named types (omega arith) kt

  names-typed : (n : ℕ) → n ≤ 512 → take n (drop 8 typed) ≡ take n names
  names-typed n few =
      let s = named-long in
      let l = names-long in
      put-before 520 named types (drop 256 (drop 520 named)) (omega arith) 8 n (omega arith)
      ∙ put_in 8 tb names (drop 512 (drop 8 tb)) (omega arith) n (omega arith)

  types-typed : (n : ℕ) → n ≤ 256 → take n (drop 520 typed) ≡ take n types
  types-typed n few =
      let s = named-long in
      let l = types_long in
      put_in 520 named types (drop 256 (drop 520 named)) (omega arith) n (omega arith)

  module _ (structs : List ℕ) (n m k d e : ℕ) where
    abbrev left : List ℕ
    left = n ∷ (m ∷ (k ∷ (d ∷ (e ∷ drop 5 (paste typed 776 structs k)))))

    copied : (f c : ℕ) → take c (drop f (paste typed 776 structs k)) ≡ take c (drop f (take 776 typed ++ (take k structs ++ drop (776 + k) typed)))
    copied f c = ap (λ x. take c (drop f x)) (append_assoc (take 776 typed) (take k structs) (drop (776 + k) typed))

    module _ (fn : n ≤ 512) (ft : m ≤ 256) (fk : k ≤ 64) (ls : length structs ≡ 64) where
      names-left : names_in left ≡ take n names
      names-left =
          let s = typed_long in
          cut-is 8 n left ∙ ap (take n) (drop-drop 3 5 (paste typed 776 structs k)) ∙ copied 8 n
          ∙ put-before 776 typed (take k structs) (drop (776 + k) typed) (omega arith) 8 n (omega arith) ∙ names-typed n fn

      types-left : types_in left ≡ take m types
      types-left =
          let s = typed_long in
          cut-is 520 m left ∙ ap (take m) (drop-drop 515 5 (paste typed 776 structs k)) ∙ copied 520 m
          ∙ put-before 776 typed (take k structs) (drop (776 + k) typed) (omega arith) 520 m (omega arith) ∙ types-typed m ft

      structs-left : structs_in left ≡ take k structs
      structs-left =
          let s = typed_long in
          let l = length-take-le k structs (omega arith) in
          cut-is 776 k left ∙ ap (take k) (drop-drop 771 5 (paste typed 776 structs k)) ∙ copied 776 k
          ∙ put_in 776 typed (take k structs) (drop (776 + k) typed) (omega arith) k (omega arith) ∙ take-take k k structs (omega arith)

      left-long : length left ≡ 1096
      left-long =
          let s = typed_long in
          let a = length-paste typed 776 structs k (omega arith) (omega arith) in
          let b = length-drop 5 (paste typed 776 structs k) in
          omega arith

      all_left : (names_in left ≡ take n names) × (types_in left ≡ take m types) × (structs_in left ≡ take k structs) × (length left ≡ 1096)
      all_left = (names-left, types-left, structs-left, left-long)

-- the first n positions, as they are lent
taken : {A : Type 0} (view : ℕ → A) (s starts : List ℕ) {xs : List A} {n : ℕ} → length xs ≡ n → Listed view s starts xs
    → (map view (take n starts) ≡ xs) × AllWithin s (take n starts)
taken view s starts {xs} {n} e l = (
  subst (λ k. map view (take k starts) ≡ xs) e l.placed,
  λ k lt.
      let h = length-take n starts in
      let b : k < n = omega arith in
      subst (λ x. x < length s) (sym (get_or-take n starts k 0 b)) (l.within k (omega arith)),
)

-- names and types were read: within their limits
pub names-few : (s : List ℕ) {n p : ℕ} → Ok (n, p) ≡ table_of (names_at version1 s 5) → (n ≤ 512) × (0 < n)
names-few s ea = let g = table_at ea in let h = name-limit s 5 _ _ g.1 in let e = g.2 in (omega arith, omega arith)

pub types-few : (names p : ℕ) (s : List ℕ) {m q : ℕ} → Ok (m, q) ≡ table_of (types_at version1 names s p) → m ≤ 256
types-few names p s eb = let g = table_at eb in let h = type-limit names s p _ _ g.1 in let e = g.2 in omega arith

module _ (s tb names types flags : List ℕ) (size : length tb ≡ 1096) (kn : length names ≡ length (take 512 (drop 8 tb)))
    (kt : length types ≡ length (take 256 (drop 520 (put_mid 8 512 tb names)))) (er : 0 ≡ head_fault version1 s)
    {n p m q : ℕ} (ea : Ok (n, p) ≡ table_of (names_at version1 s 5))
    (la : (ns : List (List ℕ)) (next : ℕ) → names_at version1 s 5 ≡ ok ns next → Listed (name_of s) s names ns)
    (eb : Ok (m, q) ≡ table_of (types_at version1 n s p))
    (lb : (ts : List Ty) (next : ℕ) → types_at version1 n s p ≡ ok ts next → Listed (type_in s) s types ts × (take (length ts) flags ≡ generic_flags [] ts)) where
  abbrev lent_names : List ℕ
  lent_names = take (8 + n - 8) (drop 8 (typed tb names types size kn kt))

  names-lent : lent_names ≡ take n names
  names-lent = so-many 8 n (typed tb names types size kn kt) ∙ names-typed tb names types size kn kt n (names-few s ea).0

  pub rest-required : (0 < length lent_names) × AllWithin s lent_names × (length s ≤ 65536)
  rest-required =
      let g = table_at ea in
      let k = length-take-le n names (let f = names-few s ea in let l = names-long tb names types size kn kt in omega arith) in
      let w = taken (name_of s) s names g.2 (la g.0 p g.1) in
      let e = ap length names-lent in
      (let f = names-few s ea in omega arith, rw names-lent w.1, head-short s er)

  -- how the rest was read, of the names and the types that were
  rest-taken : (structs : List ℕ) {z : Result Rest Fault}
      → ((ts : List Ty) → take m flags ≡ generic_flags [] ts → RestReads (map (name_of s) lent_names) ts s q structs z)
      → RestReads (table_at ea).0 (table_at eb).0 s q structs z
  rest-taken structs {z} rest =
      let g = table_at ea in
      let h = table_at eb in
      subst (λ ns. RestReads ns h.0 s q structs z) (ap (map (name_of s)) names-lent ∙ (taken (name_of s) s names g.2 (la g.0 p g.1)).0)
      (rest h.0 (subst (λ k. take k flags ≡ generic_flags [] h.0) h.2 (lb h.0 q h.1).1))

  pub rest-refused : (structs : List ℕ) (f : Fault)
      → ((ts : List Ty) → take m flags ≡ generic_flags [] ts → RestReads (map (name_of s) lent_names) ts s q structs (Err f))
      → {x : Result ImageRead Fault} {tb' : List ℕ} → fault_in x ≡ fault_number f → Places s tb' x
  rest-refused structs f rest e = let g = table_at ea in rest-stop s er g.1 g.2 (table_at eb).1 f (rest-taken structs rest) e

  module _ (structs : List ℕ) {z : Rest}
      (rest : (ts : List Ty) → take m flags ≡ generic_flags [] ts → RestReads (map (name_of s) lent_names) ts s q structs (Ok z)) where
    abbrev passes : 0 ≡ fault_of (decode version1 s)
    passes = let g = table_at ea in rest-passes s er g.1 g.2 (table_at eb).1 (rest-taken structs rest)

    abbrev stands : (i : Image) → decode version1 s ≡ accepted i → ((table_at ea).0 ≡ i.tables.names) × ((table_at eb).0 ≡ i.tables.types) × RestStands s structs i z
    stands = let g = table_at ea in rest-stands s er g.1 g.2 (table_at eb).1 (rest-taken structs rest)

    pub counts : Counts n m z
    counts =
        let f = zero-accepted version1 s (sym passes) in
        let i = f.0 in
        let g = parted version1 s i f.1 in
        let h : RestStands s structs i z = (stands i f.1).2 in
        let x : length i.tables.structs ≤ 64 = (structs-valid s version1 _ _ _ _ g.structs).few in
        let y : length i.tables.globals ≤ 64 = (globals-valid s version1 _ _ _ _ g.globals).few in
        let ex : z.struct_count ≡ length i.tables.structs = h.struct_count in
        let ey : z.global_count ≡ length i.tables.globals = sym (entries-length (global_in s) 6 z.global_count z.globals) ∙ ap length h.globals in
        let fit = h.globals_fit in
        let short = head-short s er in
        record { names = (names-few s ea).0; types = types-few n p s eb; structs = omega arith; globals = omega arith; first = omega arith }

    pub copy-fits : length structs ≡ 64 → (z.struct_count ≤ length structs) × (776 + z.struct_count ≤ length (typed tb names types size kn kt))
    copy-fits ls = let c = counts.structs in let l = typed_long tb names types size kn kt in (omega arith, omega arith)

    abbrev left_here : List ℕ
    left_here = left tb names types size kn kt structs n m z.struct_count z.global_count z.globals

    on-image : length structs ≡ 64 → (i : Image) → decode version1 s ≡ accepted i → Placed s i left_here (record { entry = z.entry; body = z.body })
    on-image ls i acc =
        let g = table_at ea in
        let t = table_at eb in
        let h = stands i acc in
        let st = h.2 in
        let c = counts in
        let x = taken (name_of s) s names g.2 (la g.0 p g.1) in
        let y = taken (type_in s) s types t.2 (lb t.0 q t.1).0 in
        let w = taken (struct_in s) s structs (sym st.struct_count) st.structs in
        let e = all_left tb names types size kn kt structs n m z.struct_count z.global_count z.globals c.names c.types c.structs ls in
        record {
          filled = record {
            size = e.3;
            few_names = c.names;
            few_types = c.types;
            few_structs = c.structs;
            names = subst (AllWithin s) (sym e.0) x.1;
            types = subst (AllWithin s) (sym e.1) y.1;
            structs = subst (AllWithin s) (sym e.2) w.1;
            lower = subst (λ l. Lower (map (type_in s) l)) (sym e.1) (subst Lower (sym y.0) (types-lower version1 n s p t.1));
            globals = st.globals_fit;
          };
          says = record {
            names = ap (map (name_of s)) e.0 ∙ x.0 ∙ h.0;
            types = ap (map (type_in s)) e.1 ∙ y.0 ∙ h.1;
            structs = ap (map (struct_in s)) e.2 ∙ w.0;
            globals = st.globals;
          };
          entry = st.entry;
          body = st.body;
        }

    pub placed : length structs ≡ 64 → {last copy : List ℕ} → copy ≡ paste (typed tb names types size kn kt) 776 structs z.struct_count
        → last ≡ n ∷ (m ∷ (z.struct_count ∷ (z.global_count ∷ (z.globals ∷ drop 5 copy)))) → Places s last (Ok (record { entry = z.entry; body = z.body }))
    placed ls {last} {copy} ec el =
        let e : last ≡ left_here = el ∙ ap (λ x. n ∷ (m ∷ (z.struct_count ∷ (z.global_count ∷ (z.globals ∷ drop 5 x))))) ec in
        subst (λ x. Places s x (Ok (record { entry = z.entry; body = z.body }))) (sym e)
        (record { fault = passes; placed = λ i acc x made. let same : record { entry = z.entry; body = z.body } ≡ x = cc in subst (Placed s i left_here) same (on-image ls i acc) })

-- what is asked of the types goes to an image that was accepted
module _ (s tb : List ℕ) (x : ImageRead) (g : Places s tb (Ok x)) where
  pub filled-there : Filled s tb
  filled-there = let f = zero-accepted version1 s (sym g.fault) in (g.placed f.0 f.1 x refl).filled

  pub all_laid : {tb' : List ℕ} → Lent s tb' → take 840 tb' ≡ take 840 tb → Reads s tb' (Ok x)
  all_laid {tb'} lent e = record {
    fault = g.fault;
    laid = λ i acc y made.
        let p = g.placed i acc y made in
        record { lent = lent; says = says-kept tb tb' e s p.filled i.tables p.says; entry = p.entry; body = p.body };
  }

pub none-laid : (s tb : List ℕ) {f : Fault} → Places s tb (Err f) → Reads s tb (Err f)
none-laid s tb g = record { fault = g.fault; laid = λ i acc x made. let z : ◌≡◌ {A = ℕ} 0 1 = cc in absurd (omega arith) }
