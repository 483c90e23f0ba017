-- The parts of an image, one after another, as the code takes them.
-- Assumes nothing.
use mathlib.Core.Path.{◌≡◌, refl, sym, ap, ◌∙◌, subst₂}
use mathlib.Core.List.{List, [], ◌∷◌, ◌++◌, map}
use mathlib.Core.Bool.{Bool, true, false, cond, ◌&&◌}
use Prim.Native.Nat.{ℕ, ◌+◌, ◌*◌, ◌≤◌, ◌<◌}
use native.Mathlib.Omega.{arith}
use borrow.Author.Tests.{eqb-true, leb-true, eq-eqb, ne_eqb}
use lib.ListN.{length, get_or, length-map, length-append}
use lib.Dec.{eqb, leb}
use Rattle.image_fields.specs.Parsed.{Parsed, ok, fault, bind, ensure}
use Rattle.image_fields.specs.Number.{two, four}
use Rattle.image_fields.specs.Table.{entries}
use Rattle.image_fields.specs.Answer.{read_of}
use Rattle.std.specs.Prelude.{Result, Ok, Err}
use Rattle.image_fields.specs.declared.Fault.{Fault}
use Rattle.image_fields.specs.Fault.{fault_number}
use Rattle.image_fields.proofs.Faults.{numbered}
use Rattle.image_fields.proofs.Inverse.{ensure-ok, bound, impossible}
use Rattle.image_fields.proofs.Tests.{and-true}
use Rattle.image_fields.proofs.Numbers.{field-ok}
use Rattle.image_fields.proofs.Tables.{table-parts, table-all, table-entries}
use Rattle.tables.specs.Limits.{Limits, version1}
use Rattle.tables.specs.Name.{name_of, name_at, names_at}
use Rattle.tables.specs.Ty.{Ty, type_at, types_at, generic_flag, generic_flags}
use Rattle.tables.specs.Signature.{Struct, Global, Entry, structs_at, global_at, globals_at, entry_at, struct_in, global_in}
use Rattle.tables.specs.Answer.{Listed}
use Rattle.image_body.specs.Expr.{Scope}
use Rattle.image_body.specs.Stmt.{Block, block_at}
use Rattle.image.specs.Image.{Image, accepted, refused, body_at, rest_at, image_at, outcome, decode, fault_of, scope_in}
use Rattle.image.specs.Layout.{head_fault, fault_in, RestStands, RestReads, Places}
use Rattle.image.specs.declared.Rest.{Rest}
use Rattle.image.specs.declared.ImageRead.{ImageRead}

positive : (f : Fault) → 0 < fault_number f
positive f = let n = numbered f in omega arith

-- the body
module _ (t : Scope) (s : List ℕ) (at : ℕ) where
  pub body-stop : {f : ℕ} → block_at t s 12 at ≡ fault f → Err f ≡ read_of (body_at version1 t s at)
  unfolding body_at bind read_of
  body-stop e = simp e

  pub body-done : {b : Block} {r : ℕ} → block_at t s 12 at ≡ ok b r → r ≡ length s → Ok r ≡ read_of (body_at version1 t s at)
  unfolding body_at bind read_of ensure
  body-done e l = simp (e, eq-eqb _ _ l)

  pub body-left : {b : Block} {r : ℕ} → block_at t s 12 at ≡ ok b r → (r ≡ length s → ⊥) → Err 10 ≡ read_of (body_at version1 t s at)
  unfolding body_at bind read_of ensure
  body-left e l = simp (e, ne_eqb _ _ l)

  body-whole : {b : Block} {r : ℕ} → body_at version1 t s at ≡ ok b r → (block_at t s 12 at ≡ ok b (length s))
  unfolding body_at
  body-whole {b} {r} e =
      bound e (λ c p e1 e2.
      let g = ensure-ok _ e2 in
      let h = g.1 in
      let z : c ≡ b = cc in
      let l : p ≡ length s = eqb-true _ _ g.0 in
      e1 ∙ ap (λ x. ok x p) z ∙ ap (ok b) l)

-- the globals stand where the table starts
global-in : (names : ℕ) (s : List ℕ) (gs : List Global) (p : ℕ) (x : Global) (q : ℕ) → global_at names s gs p ≡ ok x q → (x ≡ global_in s p) × (q ≡ p + 6)
unfolding global_at
global-in names s gs p x q e =
    bound e (λ name r e1 e2. bound e2 (λ v u e3 e4.
    let g = (ensure-ok _ e4).1 in
    let a = field-ok e1 in
    let b = field-ok e3 in
    let z : record { name = name; span = v } ≡ x = cc in
    let y : u ≡ q = cc in
    let er : r ≡ p + 2 = a.end in
    let eu : u ≡ r + 4 = b.end in
    (sym z ∙ global-made name v r a.is er b.is, omega arith)))
  where
    global-made : (a v r : ℕ) → a ≡ two s p → r ≡ p + 2 → v ≡ four s r → ◌≡◌ {A = Global} (record { name = a; span = v }) (global_in s p)
    global-made a v r ea er ev = rw (ev, ea, er) refl

global-fits : (names : ℕ) (s : List ℕ) (gs : List Global) (p : ℕ) (x : Global) (q : ℕ) → global_at names s gs p ≡ ok x q → q ≤ length s
unfolding global_at
global-fits names s gs p x q e =
    bound e (λ name r e1 e2. bound e2 (λ v u e3 e4.
    let g = (ensure-ok _ e4).1 in
    let b = field-ok e3 in
    let y : u ≡ q = cc in
    let eu : u ≡ r + 4 = b.end in
    let f = b.fits in
    omega arith))

pub record GlobalsStand (s : List ℕ) (at : ℕ) (gs : List Global) : Type 0 where
  pub are : entries (global_in s) 6 (length gs) (at + 2) ≡ gs
  pub fit : at + 2 + 6 * length gs ≤ length s

pub globals-stand : (names : ℕ) (s : List ℕ) (at : ℕ) (gs : List Global) (q : ℕ) → globals_at version1 names s at ≡ ok gs q → GlobalsStand s at gs
unfolding globals_at
globals-stand names s at gs q e =
    let g = table-parts (global_at names s) 6 0 65 s at e in
    let f = field-ok g.2 in
    let m = table-entries (global_at names s) (global_in s) 6 (global-in names s) g.0 g.1 gs q g.4 in
    let h = table-all (global_at names s) (λ x p r. r ≤ length s) (λ xs o r. o ≤ length s → r ≤ length s) (λ p le. le) (λ xs x p r u a b le. b)
    (global-fits names s) [] g.0 g.1 g.1 gs q (λ le. le) g.4 in
    let e1 : g.1 ≡ at + 2 = f.end in
    let e2 : q ≡ g.1 + 6 * length gs = m.1 in
    let l = f.fits in
    let le : q ≤ length s = h (omega arith) in
    record { are = sym (m.0 ∙ ap (entries (global_in s) 6 (length gs)) e1); fit = omega arith }

flags-length : (g : List ℕ) (ts : List Ty) → length (generic_flags g ts) ≡ length g + length ts
unfolding generic_flags
flags-length g [] = omega arith
flags-length g (t ∷ ts) =
    let a = flags-length (g ++ (generic_flag g t ∷ [])) ts in
    let b : length (g ++ (generic_flag g t ∷ [])) ≡ length g + 1 = length-append g (generic_flag g t ∷ []) in
    omega arith

-- what follows the names and the types
module _ (s names flags : List ℕ) (ts : List Ty) (ef : flags ≡ generic_flags [] ts) (at : ℕ) (starts : List ℕ) where
  abbrev ns : List (List ℕ)
  ns = map (name_of s) names

  abbrev scope : Scope
  scope = record { names = length names; types = length flags; generic = flags; expr_depth = 24 }

  same-types : length flags ≡ length ts
  same-types = let a : length (generic_flags [] ts) ≡ 0 + length ts = flags-length [] ts in ap length ef ∙ a ∙ omega arith

  refuses : {k : ℕ} {r : Result Rest Fault} → rest_at version1 ns ts s at ≡ fault k → fault_in r ≡ k → RestReads ns ts s at starts r
  unfolding outcome fault_of
  refuses z e = record { fault = e ∙ sym (rw z refl); stands = λ i next y x g. impossible (sym z ∙ y) }

  pub rest-structs : {k : ℕ} {r : Result Rest Fault} → structs_at version1 ns s at ≡ fault k → fault_in r ≡ k → RestReads ns ts s at starts r
  unfolding rest_at bind
  rest-structs e = refuses (simp e)

  module _ {ss : List Struct} {p : ℕ} (e1 : structs_at version1 ns s at ≡ ok ss p) where
    pub rest-globals : {k : ℕ} {r : Result Rest Fault} → globals_at version1 (length names) s p ≡ fault k → fault_in r ≡ k → RestReads ns ts s at starts r
    unfolding rest_at bind
    rest-globals e = refuses (simp (e1, length-map, e))

    module _ {gs : List Global} {q : ℕ} (e2 : globals_at version1 (length names) s p ≡ ok gs q) where
      pub rest-entry : {k : ℕ} {r : Result Rest Fault} → entry_at version1 (length names) (length flags) s q ≡ fault k → fault_in r ≡ k → RestReads ns ts s at starts r
      unfolding rest_at bind
      rest-entry e = refuses (simp (e1, length-map, e2, ← same-types, e))

      module _ {y : Entry} {u : ℕ} (e3 : entry_at version1 (length names) (length flags) s q ≡ ok y u) where
        pub rest-body : {k : ℕ} {r : Result Rest Fault} → body_at version1 scope s u ≡ fault k → fault_in r ≡ k → RestReads ns ts s at starts r
        unfolding rest_at bind
        rest-body e = refuses (simp (e1, length-map, e2, ← same-types, ← ef, e3, e))

        module _ {b : Block} {w : ℕ} (e4 : body_at version1 scope s u ≡ ok b w) where
          abbrev whole : Image
          whole = record { tables = record { names = ns; types = ts; structs = ss; globals = gs }; entry = y; body = b }

          all_read : rest_at version1 ns ts s at ≡ ok whole w
          unfolding rest_at bind
          all_read = simp (e1, length-map, e2, ← same-types, ← ef, e3, e4)

          pub rest_read : {m n g : ℕ} → length ss ≡ m → length gs ≡ n → g ≡ p + 2 → Listed (struct_in s) s starts ss
              → RestReads ns ts s at starts (Ok (record { struct_count = m; globals = g; global_count = n; entry = q; body = u }))
          unfolding outcome fault_of
          rest_read {m} {n} {g} lm ln eg l =
              let gl = globals-stand (length names) s p gs q e2 in
              let e3' : entry_at version1 (length ns) (length ts) s q ≡ ok y u = simp (length-map, ← same-types, e3) in
              let e4' : block_at (scope_in version1 ns ts) s 12 u ≡ ok b (length s) = simp (length-map, ← same-types, ← ef) (body-whole scope s u e4) in
              record {
                fault = sym (rw all_read refl);
                stands = λ i next z x made. let k : whole ≡ i = (let a = all_read in cc) in
                    let same : record { struct_count = m; globals = g; global_count = n; entry = q; body = u } ≡ x = cc in
                    subst₂ (λ y w. RestStands s starts y w) k same
                    (record { struct_count = sym lm; structs = l; globals = rw (eg, ← ln) gl.are; globals_fit = rw (eg, ← ln) gl.fit; entry = e3'; body = e4' });
              }

-- the head
two-tests : {A : Type 0} (a b : Bool) (x : Parsed A) {r : ℕ} → r ≡ cond a (cond b 0 2) 1 → 0 < r → ensure a 1 (ensure b 2 x) ≡ fault r
unfolding ensure
two-tests true true x e lt = absurd (omega arith)
two-tests true false x e lt = rw e refl
two-tests false b x e lt = rw e refl

two-passed : {A : Type 0} (a b : Bool) (x : Parsed A) → ◌≡◌ {A = ℕ} 0 (cond a (cond b 0 2) 1) → ensure a 1 (ensure b 2 x) ≡ x
unfolding ensure
two-passed true true x e = refl
two-passed true false x e = absurd (omega arith)
two-passed false b x e = absurd (omega arith)

refusing : (s : List ℕ) {k : ℕ} → image_at version1 s ≡ fault k → decode version1 s ≡ refused k
unfolding decode outcome
refusing s e = rw e refl

no-places : (s : List ℕ) {k : ℕ} {tb : List ℕ} {r : Result ImageRead Fault} → decode version1 s ≡ refused k → fault_in r ≡ k → Places s tb r
unfolding fault_of
no-places s {k = k} z e = record { fault = e ∙ sym (rw z refl); placed = λ i y x g. not-both (sym z ∙ y) }
  where
    not-both : {C : Type 0} {i : Image} → refused k ≡ accepted i → C
    not-both e = let z : ◌≡◌ {A = ℕ} 0 1 = cc in absurd (omega arith)

outcome-fault : (x : Parsed Image) {k : ℕ} → k ≡ fault_of (outcome x) → 0 < k → x ≡ fault k
unfolding outcome fault_of
outcome-fault (ok i p) e lt = absurd (omega arith)
outcome-fault (fault n) e lt = rw e refl

pub outcome-ok : (x : Parsed Image) {i : Image} → outcome x ≡ accepted i → (p : ℕ) × (x ≡ ok i p)
unfolding outcome
outcome-ok (ok j p) {i} e = (p, let z : j ≡ i = cc in ap (λ y. ok y p) z)
outcome-ok (fault n) {i} e = let z : ◌≡◌ {A = ℕ} 0 1 = cc in absurd (omega arith)

-- the names and the types are those that were read
tables-kept : (L : Limits) (ns : List (List ℕ)) (ts : List Ty) (s : List ℕ) (at : ℕ) (i : Image) (p : ℕ) → rest_at L ns ts s at ≡ ok i p
    → (ns ≡ i.tables.names) × (ts ≡ i.tables.types)
unfolding rest_at
tables-kept L ns ts s at i p e =
    bound e (λ ss q e1 e2. bound e2 (λ gs r e3 e4. bound e4 (λ y u e5 e6. bound e6 (λ b v e7 e8.
    let z : record { tables = record { names = ns; types = ts; structs = ss; globals = gs }; entry = y; body = b } ≡ i = cc in
    (ap (λ x. x.tables.names) z, ap (λ x. x.tables.types) z)))))

first-passed : (a b : Bool) → ◌≡◌ {A = ℕ} 0 (cond a (cond b 0 2) 1) → a ≡ true
first-passed true b e = refl
first-passed false b e = absurd (omega arith)

pub head-stops : (s : List ℕ) (f : Fault) {tb : List ℕ} {x : Result ImageRead Fault} → fault_number f ≡ head_fault version1 s → fault_in x ≡ fault_number f → Places s tb x
unfolding image_at head_fault
head-stops s f er e = no-places s (refusing s (two-tests _ _ _ er (positive f))) e

module _ (s : List ℕ) (er : 0 ≡ head_fault version1 s) where
  pub head-short : length s ≤ 65536
  unfolding head_fault
  head-short =
      let g = and-true (leb 5 (length s)) (leb (length s) 65536 && eqb (four s 0 + 4) (length s)) (first-passed _ (eqb (get_or s 4 0) 1) er) in
      leb-true _ _ (and-true (leb (length s) 65536) (eqb (four s 0 + 4) (length s)) g.1).0

  head-passes : image_at version1 s ≡ bind (names_at version1 s 5) (λ ns p. bind (types_at version1 (length ns) s p) (λ ts q. rest_at version1 ns ts s q))
  unfolding image_at head_fault
  head-passes = two-passed _ _ _ er

  pub names-stop : {k : ℕ} {tb : List ℕ} {x : Result ImageRead Fault} → names_at version1 s 5 ≡ fault k → fault_in x ≡ k → Places s tb x
  unfolding bind
  names-stop e f = no-places s (refusing s (head-passes ∙ rw e refl)) f

  module _ {ns : List (List ℕ)} {p n : ℕ} (e1 : names_at version1 s 5 ≡ ok ns p) (l1 : length ns ≡ n) where
    pub types-stop : {k : ℕ} {tb : List ℕ} {x : Result ImageRead Fault} → types_at version1 n s p ≡ fault k → fault_in x ≡ k → Places s tb x
    unfolding bind
    types-stop e f = no-places s (refusing s (head-passes ∙ simp (e1, l1, e))) f

    module _ {ts : List Ty} {q : ℕ} (e2 : types_at version1 n s p ≡ ok ts q) where
      to-rest : image_at version1 s ≡ rest_at version1 ns ts s q
      unfolding bind
      to-rest = head-passes ∙ simp (e1, l1, e2)

      pub rest-stop : {starts : List ℕ} (f : Fault) {tb : List ℕ} {x : Result ImageRead Fault} → RestReads ns ts s q starts (Err f) → fault_in x ≡ fault_number f → Places s tb x
      rest-stop f g e = no-places s (refusing s (to-rest ∙ outcome-fault _ g.fault (positive f))) e

      -- the rest was read: the image is accepted, with these names and types
      module _ {starts : List ℕ} {z : Rest} (g : RestReads ns ts s q starts (Ok z)) where
        pub rest-passes : 0 ≡ fault_of (decode version1 s)
        unfolding decode
        rest-passes = let f : 0 ≡ fault_of (outcome (rest_at version1 ns ts s q)) = g.fault in f ∙ ap (λ x. fault_of (outcome x)) (sym to-rest)

        pub rest-stands : (i : Image) → decode version1 s ≡ accepted i → (ns ≡ i.tables.names) × (ts ≡ i.tables.types) × RestStands s starts i z
        unfolding decode
        rest-stands i y =
            let w = outcome-ok (rest_at version1 ns ts s q) (ap outcome (sym to-rest) ∙ y) in
            let k = tables-kept version1 ns ts s q i w.0 w.1 in
            (k.0, k.1, g.stands i w.0 w.1 z refl)

-- the tables' limits
pub name-limit : (s : List ℕ) (at : ℕ) (ns : List (List ℕ)) (p : ℕ) → names_at version1 s at ≡ ok ns p → (length ns ≤ 512) × (0 < length ns)
unfolding names_at
name-limit s at ns p e =
    bound e (λ xs q e1 e2.
    let g = table-parts (name_at version1 s) 3 1 513 s at e1 in
    let f = (field-ok g.2).small in
    let z : xs ≡ ns = (let h = (ensure-ok _ e2).1 in cc) in
    let l : length ns ≡ g.0 = ap length (sym z) ∙ g.5 in
    let low = g.3 in
    (omega arith, omega arith))

pub type-limit : (names : ℕ) (s : List ℕ) (at : ℕ) (ts : List Ty) (p : ℕ) → types_at version1 names s at ≡ ok ts p → length ts ≤ 256
unfolding types_at
type-limit names s at ts p e =
    let g = table-parts (type_at names s) 4 1 257 s at e in
    let f = (field-ok g.2).small in
    let l = g.5 in
    omega arith
