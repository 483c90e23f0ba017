-- Structs, globals and the entry: the steps that the code takes, and what was read.
-- Assumes nothing.
use mathlib.Core.Path.{◌≡◌, refl, sym, ap, ◌∙◌, subst, subst₂}
use mathlib.Core.List.{List, [], ◌∷◌, ◌++◌, map, map-map}
use mathlib.Core.Bool.{Bool, true, false, not, ◌&&◌}
use Prim.Native.Nat.{ℕ, zero, suc, ◌+◌, ◌*◌, ◌≤◌, ◌<◌}
use native.Mathlib.Omega.{arith}
use lib.ListN.{length, get_or, length-map}
use lib.Dec.{eqb}
use Rattle.image_fields.specs.Parsed.{Parsed, ok, fault, bind, ensure}
use Rattle.image_fields.specs.Number.{two, number_in, field_at}
use Rattle.image_fields.specs.Table.{table_at, member, entries}
use Rattle.image_fields.specs.Answer.{read_of, table_of}
use Rattle.std.specs.Prelude.{Ok, Err, Option, Some, None}
use Rattle.image_fields.proofs.Inverse.{ensure-ok, bound}
use Rattle.image_fields.proofs.Numbers.{field-ok}
use Rattle.image_fields.proofs.Tables.{Filling, filling-start, filling-next, entries-more, entries-map, table-entries, table-parts, table-alike, remade}
use Rattle.tables.specs.Limits.{version1}
use Rattle.tables.specs.Name.{name_of, below_bytes}
use Rattle.tables.specs.Signature.{Method, Struct, Global, Param, Named, method_names, global_names, method_at, rises, struct_rest_at, struct_at, global_at, globals_at, param_at, this_width, entry_at, named_at, named_in, method_in, struct_in}
use Rattle.tables_signatures.specs.Answer.{struct_name_of, above_last, Ends}

-- the steps of reading a name with its number
module _ (k names limit w : ℕ) (d : Bool) (s : List ℕ) (xs : List Named) (at : ℕ) where
  pub name-stop : {n : ℕ} → field_at k names 2 s at ≡ fault n → Err n ≡ read_of (named_at k names limit w d s xs at)
  unfolding named_at bind read_of
  name-stop e = simp e

  module _ {name p : ℕ} (e1 : field_at k names 2 s at ≡ ok name p) where
    pub value-stop : {n : ℕ} → field_at k limit w s p ≡ fault n → Err n ≡ read_of (named_at k names limit w d s xs at)
    unfolding named_at bind read_of
    value-stop e = simp (e1, e)

    module _ {v q : ℕ} (e2 : field_at k limit w s p ≡ ok v q) (i first : ℕ) (ex : xs ≡ entries (named_in w s) (2 + w) i first)
        {b : Bool} (eb : b ≡ (d && member eqb (entries (two s) (2 + w) i first) name)) where
      same_names : map (λ x. x.name) xs ≡ entries (two s) (2 + w) i first
      same_names = ap (map (λ x. x.name)) ex ∙ entries-map (λ x. x.name) (named_in w s) (2 + w) i first

      pub named-taken : b ≡ true → Err k ≡ read_of (named_at k names limit w d s xs at)
      unfolding named_at bind read_of ensure
      named-taken t = simp (e1, e2, same_names, ← eb, t)

      pub named-free : b ≡ false → Ok q ≡ read_of (named_at k names limit w d s xs at)
      unfolding named_at bind read_of ensure
      named-free f = simp (e1, e2, same_names, ← eb, f)

-- what was read stands where it was read
pub record NamedStands (w : ℕ) (s : List ℕ) (p : ℕ) (x : Named) (q : ℕ) : Type 0 where
  pub is : x ≡ named_in w s p
  pub end : q ≡ p + (2 + w)
  pub room : p ≤ length s → q ≤ length s

named-made : (w : ℕ) (s : List ℕ) (a v p r : ℕ) → a ≡ two s p → r ≡ p + 2 → v ≡ number_in s w r → ◌≡◌ {A = Named} (record { name = a; value = v }) (named_in w s p)
named-made w s a v p r ea er ev = rw (ev, ea, er) refl

pub named-in : (k names limit w : ℕ) (d : Bool) (s : List ℕ) (xs : List Named) (p : ℕ) (x : Named) (q : ℕ)
    → named_at k names limit w d s xs p ≡ ok x q → NamedStands w s p x q
unfolding named_at
named-in k names limit w d s xs p x q e =
    bound e (λ name r e1 e2. bound e2 (λ v u e3 e4.
    let g = ensure-ok _ e4 in
    let a = field-ok e1 in
    let b = field-ok e3 in
    let z : record { name = name; value = v } ≡ x = (let y = g.1 in cc) in
    let y : u ≡ q = (let h = g.1 in cc) in
    let er : r ≡ p + 2 = a.end in
    let eu : u ≡ r + w = b.end in
    let fa = a.fits in
    let fb = b.fits in
    subst₂ (λ x n. NamedStands w s p x n) z y (record { is = named-made w s name v p r a.is er b.is; end = omega arith; room = λ le. omega arith })))

-- a loop over entries of one width
module _ {A : Type 0} (f : List A → ℕ → Parsed A) (view : ℕ → A) (w : ℕ) (s : List ℕ) where
  pub record Striding (n at i p : ℕ) (xs : List A) : Type 0 where
    pub fill : Filling f n at i p xs
    pub are : xs ≡ entries view w i at
    pub place : p ≡ at + w * i
    pub inside : p ≤ length s

  pub striding-start : (n at : ℕ) → at ≤ length s → Striding n at 0 at []
  unfolding entries
  striding-start n at le = record { fill = filling-start f n at; are = refl; place = omega arith; inside = le }

  pub striding-next : {n at i p : ℕ} {xs : List A} → Striding n at i p xs → {x : A} {q : ℕ} → i < n → f xs p ≡ ok x q → x ≡ view p → q ≡ p + w → q ≤ length s
      → Striding n at (i + 1) q (xs ++ (x ∷ []))
  striding-next {n} {at} {i} {p} {xs} inv {x} {q} lt e ev eq le =
      let a = inv.place in
      record {
        fill = filling-next f inv.fill lt e;
        are = ap (λ z. z ++ (x ∷ [])) inv.are ∙ ap (λ z. entries view w i at ++ (z ∷ [])) (ev ∙ ap view a) ∙ sym (entries-more view w i at);
        place = omega arith;
        inside = le;
      }

-- one reader for methods, globals and parameters
as_method : Method → Named
as_method m = record { name = m.name; value = m.modifier }

method-alike : (names : ℕ) (s : List ℕ) (ms : List Method) (p : ℕ)
    → bind (method_at names s ms p) (λ m q. ok (as_method m) q) ≡ named_at 5 names 4 1 true s (map as_method ms) p
unfolding method_at named_at as_method
method-alike names s ms p =
    remade as_method (field_at 5 names 2 s p) (λ r. field_at 5 4 1 s r) (λ a. not (member eqb (method_names ms) a)) 5 (λ a c. record { name = a; modifier = c })
    ∙ ap (λ l. bind (field_at 5 names 2 s p) (λ a r. bind (field_at 5 4 1 s r) (λ c q. ensure (not (member eqb l a)) 5 (ok (record { name = a; value = c }) q))))
    (sym (map-map (λ x. x.name) as_method ms))

pub methods-alike : (names : ℕ) (s : List ℕ) (at : ℕ) → table_of (table_at 5 0 33 (method_at names s) s at) ≡ table_of (table_at 5 0 33 (named_at 5 names 4 1 true s) s at)
methods-alike names s at = table-alike as_method (method_at names s) (named_at 5 names 4 1 true s) (method-alike names s) 5 0 33 s at

as_global : Global → Named
as_global g = record { name = g.name; value = g.span }

global-alike : (names : ℕ) (s : List ℕ) (gs : List Global) (p : ℕ)
    → bind (global_at names s gs p) (λ m q. ok (as_global m) q) ≡ named_at 6 names 4294967296 4 true s (map as_global gs) p
unfolding global_at named_at as_global
global-alike names s gs p =
    remade as_global (field_at 6 names 2 s p) (λ r. field_at 6 4294967296 4 s r) (λ a. not (member eqb (global_names gs) a)) 6 (λ a c. record { name = a; span = c })
    ∙ ap (λ l. bind (field_at 6 names 2 s p) (λ a r. bind (field_at 6 4294967296 4 s r) (λ c q. ensure (not (member eqb l a)) 6 (ok (record { name = a; value = c }) q))))
    (sym (map-map (λ x. x.name) as_global gs))

pub globals-alike : (names : ℕ) (s : List ℕ) (at : ℕ) → table_of (globals_at version1 names s at) ≡ table_of (table_at 6 0 65 (named_at 6 names 4294967296 4 true s) s at)
unfolding globals_at
globals-alike names s at = table-alike as_global (global_at names s) (named_at 6 names 4294967296 4 true s) (global-alike names s) 6 0 65 s at

as_param : Param → Named
as_param p = record { name = p.name; value = p.ty }

param-alike : (names types : ℕ) (s : List ℕ) (ps : List Param) (p : ℕ)
    → bind (param_at names types s ps p) (λ m q. ok (as_param m) q) ≡ named_at 7 names types 2 false s (map as_param ps) p
unfolding param_at named_at as_param ensure
param-alike names types s ps p =
    remade as_param (field_at 7 names 2 s p) (λ r. field_at 7 types 2 s r) (λ a. true) 7 (λ a c. record { name = a; ty = c })

pub params-alike : (names types : ℕ) (s : List ℕ) (at : ℕ)
    → table_of (table_at 7 0 17 (param_at names types s) s at) ≡ table_of (table_at 7 0 17 (named_at 7 names types 2 false s) s at)
params-alike names types s at = table-alike as_param (param_at names types s) (named_at 7 names types 2 false s) (param-alike names types s) 7 0 17 s at

-- methods of an accepted table are those that stand there
method-in : (names : ℕ) (s : List ℕ) (ms : List Method) (p : ℕ) (x : Method) (q : ℕ) → method_at names s ms p ≡ ok x q → (x ≡ method_in s p) × (q ≡ p + 3)
unfolding method_at
method-in names s ms p x q e =
    bound e (λ name r e1 e2. bound e2 (λ v u e3 e4.
    let g = (ensure-ok _ e4).1 in
    let a = field-ok e1 in
    let b = field-ok e3 in
    let z : record { name = name; modifier = v } ≡ x = cc in
    let y : u ≡ q = cc in
    let er : r ≡ p + 2 = a.end in
    let eu : u ≡ r + 1 = b.end in
    (sym z ∙ method-made name v r a.is er b.is, omega arith)))
  where
    method-made : (a v r : ℕ) → a ≡ two s p → r ≡ p + 2 → v ≡ get_or s r 0 → ◌≡◌ {A = Method} (record { name = a; modifier = v }) (method_in s p)
    method-made a v r ea er ev = rw (ev, ea, er) refl

-- a struct that was read stands where it was read
pub record StructStands (names : ℕ) (s : List ℕ) (p : ℕ) (x : Struct) : Type 0 where
  pub is : x ≡ struct_in s p
  pub inside : p < length s
  pub known : x.name < names

struct_made : (s : List ℕ) (p n d h m c v w : ℕ) (ms : List Method) → n ≡ two s p → d ≡ get_or s v 0 → v ≡ p + 2 → h ≡ two s w → w ≡ p + 3
    → m ≡ two s (p + 5) → ms ≡ entries (method_in s) 3 m c → c ≡ p + 7
    → ◌≡◌ {A = Struct} (record { name = n; destructor = d; shape = h; methods = ms }) (struct_in s p)
struct_made s p n d h m c v w ms en ed ev eh ew em es ec = rw (es, em, ec, eh, ew, ed, ev, en) refl

pub struct-in : (ns : List (List ℕ)) (s : List ℕ) (ss : List Struct) (p : ℕ) (x : Struct) (q : ℕ) → struct_at version1 ns s ss p ≡ ok x q → StructStands (length ns) s p x
unfolding struct_at struct_rest_at
struct-in ns s ss p x q e =
    bound e (λ name r e1 e2. bound (ensure-ok _ e2).1 (λ d u e3 e4. bound e4 (λ h v e5 e6. bound e6 (λ ms w e7 e8.
    let a = field-ok e1 in
    let b = field-ok e3 in
    let c = field-ok e5 in
    let g = table-parts (method_at (length ns) s) 5 0 33 s v e7 in
    let f = field-ok g.2 in
    let m = table-entries (method_at (length ns) s) (method_in s) 3 (method-in (length ns) s) g.0 g.1 ms w g.4 in
    let z : record { name = name; destructor = d; shape = h; methods = ms } ≡ x = cc in
    let ar : r ≡ p + 2 = a.end in
    let bu : u ≡ r + 1 = b.end in
    let cv : v ≡ u + 2 = c.end in
    let fw : g.1 ≡ v + 2 = f.end in
    let l : length ms ≡ g.0 = g.5 in
    let room = a.fits in
    subst (StructStands (length ns) s p) z (record {
      is = struct_made s p name d h g.0 g.1 r u ms a.is b.is ar c.is (omega arith) (f.is ∙ ap (two s) (omega arith))
          (subst (λ n. ms ≡ entries (method_in s) 3 n g.1) l m.0) (omega arith);
      inside = omega arith;
      known = a.small;
    })))))

-- the last struct decides where the next may stand
rises-last : (ns : List (List ℕ)) (ss : List Struct) (x : Struct) (name : ℕ) → rises ns (ss ++ (x ∷ [])) name ≡ below_bytes (get_or ns x.name []) (get_or ns name [])
unfolding rises
rises-last ns [] x name = refl
rises-last ns (y ∷ []) x name = refl
rises-last ns (y ∷ z ∷ ss) x name = rises-last ns (z ∷ ss) x name

pub ends-none : (ns : List (List ℕ)) → Ends ns [] None
unfolding rises
ends-none ns = record { is = λ name. refl }

pub ends_next : (ns : List (List ℕ)) (ss : List Struct) (x : Struct) (last : ℕ) → x.name ≡ last → Ends ns (ss ++ (x ∷ [])) (Some last)
ends_next ns ss x last e = record { is = λ name. rises-last ns ss x name ∙ rw e refl }

-- an entry of a mapped list
pub get_d-mapped : {A : Type 0} (f : ℕ → A) (l : List ℕ) (k : ℕ) (d : A) → k < length l → get_or (map f l) k d ≡ f (get_or l k 0)
get_d-mapped f [] k d lt = absurd (omega arith)
get_d-mapped f (x ∷ l) zero d lt = refl
get_d-mapped f (x ∷ l) (suc k) d lt = get_d-mapped f l k d (omega arith)

-- the steps of reading a struct
pub struct-read : {x : Parsed Struct} {a p : ℕ} → Ok (a, p) ≡ struct_name_of x → (y : Struct) × (x ≡ ok y p) × (y.name ≡ a)
unfolding struct_name_of
struct-read {x = ok y q} {a} {p} e =
    let z : ◌≡◌ {A = ℕ × ℕ} (y.name, q) (a, p) = cc in (y, ap (λ w. ok y w.1) z, ap (λ w. w.0) z)
struct-read {x = fault n} {a} {p} e = let z : ◌≡◌ {A = ℕ} 0 1 = cc in absurd (omega arith)

pub struct-fault : {x : Parsed Struct} {n : ℕ} → Err n ≡ struct_name_of x → x ≡ fault n
unfolding struct_name_of
struct-fault {x = ok y q} e = cc
struct-fault {x = fault n} e = cc

module _ (names : ℕ) (s : List ℕ) (name p : ℕ) where
  pub flag-stop : {n : ℕ} → field_at 5 2 1 s p ≡ fault n → Err n ≡ struct_name_of (struct_rest_at version1 names s name p)
  unfolding struct_rest_at bind struct_name_of
  flag-stop e = simp e

  module _ {d q : ℕ} (e1 : field_at 5 2 1 s p ≡ ok d q) where
    pub shape-stop : {n : ℕ} → field_at 5 65536 2 s q ≡ fault n → Err n ≡ struct_name_of (struct_rest_at version1 names s name p)
    unfolding struct_rest_at bind struct_name_of
    shape-stop e = simp (e1, e)

    module _ {h r : ℕ} (e2 : field_at 5 65536 2 s q ≡ ok h r) where
      pub methods-stop : {n : ℕ} → table_at 5 0 33 (method_at names s) s r ≡ fault n → Err n ≡ struct_name_of (struct_rest_at version1 names s name p)
      unfolding struct_rest_at bind struct_name_of
      methods-stop e = simp (e1, e2, e)

      pub methods-read : {ms : List Method} {u : ℕ} → table_at 5 0 33 (method_at names s) s r ≡ ok ms u → Ok (name, u) ≡ struct_name_of (struct_rest_at version1 names s name p)
      unfolding struct_rest_at bind struct_name_of
      methods-read e = simp (e1, e2, e)

module _ (s names : List ℕ) (ss : List Struct) (at : ℕ) where
  pub struct-name-stop : {k n : ℕ} → k ≡ length names → field_at 5 k 2 s at ≡ fault n → Err n ≡ struct_name_of (struct_at version1 (map (name_of s) names) s ss at)
  unfolding struct_at bind struct_name_of
  struct-name-stop ek e = simp (length-map, ← ek, e)

  module _ {k name p : ℕ} (ek : k ≡ length names) (e : field_at 5 k 2 s at ≡ ok name p) (last : Option ℕ) (ends : Ends (map (name_of s) names) ss last)
      {b : Bool} (eb : b ≡ above_last (map (name_of s) names) last name) where
    pub not-rising : b ≡ false → Err 5 ≡ struct_name_of (struct_at version1 (map (name_of s) names) s ss at)
    unfolding struct_at bind ensure struct_name_of
    not-rising f = let r : rises (map (name_of s) names) ss name ≡ b = ends.is name ∙ sym eb in simp (length-map, ← ek, e, r, f)

    pub struct-rest : b ≡ true → struct_at version1 (map (name_of s) names) s ss at ≡ struct_rest_at version1 k s name p
    unfolding struct_at bind ensure
    struct-rest t = let r : rises (map (name_of s) names) ss name ≡ b = ends.is name ∙ sym eb in simp (length-map, ← ek, e, r, t)

-- the steps of reading an entry
module _ (names types : ℕ) (s : List ℕ) (at : ℕ) where
  pub receiver-stop : {n : ℕ} → field_at 7 5 1 s at ≡ fault n → Err n ≡ read_of (entry_at version1 names types s at)
  unfolding entry_at bind read_of
  receiver-stop e = simp e

  module _ {k p : ℕ} (e1 : field_at 7 5 1 s at ≡ ok k p) {w : ℕ} (ew : w ≡ this_width k) where
    pub this-stop : {n : ℕ} → field_at 7 types w s p ≡ fault n → Err n ≡ read_of (entry_at version1 names types s at)
    unfolding entry_at bind read_of
    this-stop e = simp (e1, ← ew, e)

    module _ {t q : ℕ} (e2 : field_at 7 types w s p ≡ ok t q) where
      pub params-stop : {n : ℕ} → table_at 7 0 17 (param_at names types s) s q ≡ fault n → Err n ≡ read_of (entry_at version1 names types s at)
      unfolding entry_at bind read_of
      params-stop e = simp (e1, ← ew, e2, e)

      pub params-read : {ps : List Param} {r : ℕ} → table_at 7 0 17 (param_at names types s) s q ≡ ok ps r → Ok r ≡ read_of (entry_at version1 names types s at)
      unfolding entry_at bind read_of
      params-read e = simp (e1, ← ew, e2, e)
