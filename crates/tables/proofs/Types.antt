-- The loop over the table of types: the types read so far, their positions and their flags.
-- Assumes nothing.
use Rattle.std.proofs.Common.{◌≡◌, ℕ, ◌+◌, ◌<◌, ◌≤◌, Bool, true, false, cond, ◌||◌, eqb, ltb, List, [], ◌∷◌, ◌++◌, length, get_or, take, set, sym, refl, ap, ◌∙◌, subst, subst₂, ⊎_elim, pos_of_ne-zero, add-one, arith, length-set, get_or-take, take-suc-set, le-ltb, ne_eqb, eqb-true, lit≤, lit<}
use Rattle.image_fields.specs.Parsed.{Parsed, ok, fault, bind, ensure}
use Rattle.image_fields.specs.Number.{number_in, field_at}
use Rattle.image_fields.specs.Table.{table_from}
use Rattle.image_fields.specs.Answer.{table_of}
use Rattle.std.specs.Prelude.{Result, Ok, Err}
use Rattle.image_fields.proofs.Inverse.{ensure-ok, bound, impossible}
use Rattle.image_fields.proofs.Numbers.{field-ok, narrow-stop, narrow-large, narrow-good}
use Rattle.image_fields.proofs.Tests.{split}
use Rattle.image_fields.proofs.Tables.{filling-stop, filling-done, count-stop, count-few, count-good}
use Rattle.tables.specs.Limits.{version1}
use Rattle.tables.specs.Ty.{Ty, of_width, shape_width, of_limit, parts_at, type_at, types_at, type_in, generic_flag, generic_flags}
use Rattle.tables.specs.declared.ty.Kind.{Kind}
use Rattle.tables.specs.declared.ty.Kind.TheVariants.{Plain, Named, Generic, Array, Pointer}
use Rattle.tables.specs.Answer.{kind_number, type_of, Listed}
use Rattle.tables.proofs.Placing.{Placing, placing-start, placing-done, placing-next}

pub kind_small : (k : Kind) → kind_number k < 5
kind_small Plain = lit< tt
kind_small Named = lit< tt
kind_small Generic = lit< tt
kind_small Array = lit< tt
kind_small Pointer = lit< tt

pub type-read : {x : Parsed Ty} {k o p : ℕ} → Ok (k, o, p) ≡ type_of x → (t : Ty) × (x ≡ ok t p) × (t.kind ≡ k) × (t.of ≡ o)
unfolding type_of
type-read {x = ok t q} {k} {o} {p} e =
    let z : ◌≡◌ {A = ℕ × ℕ × ℕ} (t.kind, t.of, q) (k, o, p) = cc in
    (t, ap (λ w. ok t w.2) z, ap (λ w. w.0) z, ap (λ w. w.1) z)
type-read {x = fault n} {k} {o} {p} e = let z : ◌≡◌ {A = ℕ} 0 1 = cc in absurd (omega arith)

pub type-fault : {x : Parsed Ty} {n : ℕ} → Err n ≡ type_of x → x ≡ fault n
unfolding type_of
type-fault {x = ok t q} e = cc
type-fault {x = fault n} e = cc

-- the steps of reading a type
module _ (names : ℕ) (s : List ℕ) (ts : List Ty) {i : ℕ} (l : length ts ≡ i) where
  module _ (kind p : ℕ) {limit w : ℕ} (el : limit ≡ of_limit names i kind) (ew : w ≡ get_or of_width kind 0) where
    pub of-stop : {n : ℕ} → field_at 4 limit w s p ≡ fault n → Err n ≡ type_of (parts_at names s ts kind p)
    unfolding parts_at bind type_of
    of-stop e = simp (l, ← el, ← ew, e)

    module _ {of q : ℕ} (e1 : field_at 4 limit w s p ≡ ok of q) {v : ℕ} (ev : v ≡ get_or shape_width kind 0) where
      pub shape-stop : {n : ℕ} → field_at 4 65536 v s q ≡ fault n → Err n ≡ type_of (parts_at names s ts kind p)
      unfolding parts_at bind type_of
      shape-stop e = simp (l, ← el, ← ew, e1, ← ev, e)

      pub shape-read : {shape r : ℕ} → field_at 4 65536 v s q ≡ ok shape r → Ok (kind, of, r) ≡ type_of (parts_at names s ts kind p)
      unfolding parts_at bind type_of
      shape-read e = simp (l, ← el, ← ew, e1, ← ev, e)

  module _ (at : ℕ) where
    pub kind-stop : {n : ℕ} → field_at 4 256 1 s at ≡ fault n → Err n ≡ type_of (type_at names s ts at)
    unfolding type_at bind type_of
    kind-stop e = simp (narrow-stop 4 256 5 1 s at (lit≤ tt) e)

    module _ {n p : ℕ} (e : field_at 4 256 1 s at ≡ ok n p) where
      pub kind-none : 5 ≤ n → Err 4 ≡ type_of (type_at names s ts at)
      unfolding type_at bind type_of
      kind-none le = simp (narrow-large 4 256 5 1 s at e le)

      module _ {kind : ℕ} (ek : kind ≡ n) (lt : kind < 5) {b : Bool} (eb : b ≡ (ltb 0 i || eqb kind 0)) where
        small : field_at 4 5 1 s at ≡ ok kind p
        small = narrow-good 4 256 5 1 s at (rw ek e) lt

        pub kind-bad : b ≡ false → Err 4 ≡ type_of (type_at names s ts at)
        unfolding type_at bind ensure type_of
        kind-bad f = simp (small, l, ← eb, f)

        pub kind-good : b ≡ true → type_at names s ts at ≡ parts_at names s ts kind p
        unfolding type_at bind ensure
        kind-good f = simp (small, l, ← eb, f)

type-made : (s : List ℕ) (k o h p : ℕ) → k ≡ get_or s p 0 → o ≡ number_in s (get_or of_width k 0) (p + 1)
    → h ≡ number_in s (get_or shape_width k 0) (p + 1 + get_or of_width k 0) → ◌≡◌ {A = Ty} (record { kind = k; of = o; shape = h }) (type_in s p)
type-made s k o h p ek eo eh = rw (eh, eo, ek) refl

-- a type that was read stands where it was read; what it is of is below its limit
pub record TypeStands (names : ℕ) (s : List ℕ) (ts : List Ty) (p : ℕ) (t : Ty) (q : ℕ) : Type 0 where
  pub is : t ≡ type_in s p
  pub inside : p < length s
  pub below : t.of < of_limit names (length ts) t.kind
  pub known : t.kind < 5
  pub end : q ≡ p + 1 + get_or of_width t.kind 0 + get_or shape_width t.kind 0

pub type-in : (names : ℕ) (s : List ℕ) (ts : List Ty) (p : ℕ) (t : Ty) (q : ℕ) → type_at names s ts p ≡ ok t q → TypeStands names s ts p t q
unfolding type_at parts_at
type-in names s ts p t q e =
    bound e (λ kind r e1 e2. bound (ensure-ok _ e2).1 (λ of u e3 e4. bound e4 (λ shape v e5 e6.
    let a = field-ok e1 in
    let b = field-ok e3 in
    let c = field-ok e5 in
    let z : record { kind = kind; of = of; shape = shape } ≡ t = cc in
    let y : v ≡ q = cc in
    let er : r ≡ p + 1 = a.end in
    let eu : u ≡ r + get_or of_width kind 0 = b.end in
    let ev : v ≡ u + get_or shape_width kind 0 = c.end in
    let f = a.fits in
    subst₂ (λ x n. TypeStands names s ts p x n) z y (record {
      is = type-made s kind of shape p a.is (b.is ∙ ap (number_in s (get_or of_width kind 0)) er)
          (c.is ∙ ap (number_in s (get_or shape_width kind 0)) (eu ∙ ap (λ n. n + get_or of_width kind 0) er));
      inside = omega arith;
      below = b.small;
      known = a.small;
      end = omega arith;
    }))))

-- the type that a pointer or an inline array names is a lower one
pub lower : (names : ℕ) (s : List ℕ) (ts : List Ty) (p : ℕ) (t : Ty) (q : ℕ) → type_at names s ts p ≡ ok t q → 3 ≤ t.kind → t.of < length ts
lower names s ts p t q e k3 =
    let g = type-in names s ts p t q e in
    subst (λ n. t.of < n) (limit-lower names (length ts) t.kind k3) g.below
  where
    limit-lower : (names i k : ℕ) → 3 ≤ k → of_limit names i k ≡ i
    limit-lower names i k le = let z : k ≡ 0 → ⊥ = λ e. omega arith in rw (ne_eqb k 0 z, le-ltb k 3 le) refl

-- the flag by all the bytes is the flag by those of the lower types
same_flag : (g : List ℕ) (i : ℕ) (t : Ty) → (3 ≤ t.kind → t.of < i)
    → cond (eqb t.kind 2) 1 (cond (eqb t.kind 4) (get_or g t.of 0) 0) ≡ generic_flag (take i g) t
same_flag g i t low =
    ⊎_elim (λ e. let k : t.kind ≡ 4 = eqb-true _ _ e in
    let l = low (omega arith) in
    ap (λ x. cond (eqb t.kind 2) 1 (cond (eqb t.kind 4) x 0)) (sym (get_or-take i g t.of 0 l)))
    (λ e. rw e refl) (split (eqb t.kind 4))

flags-snoc : (g : List ℕ) (ts : List Ty) (t : Ty) → generic_flags g (ts ++ (t ∷ [])) ≡ generic_flags g ts ++ (generic_flag (generic_flags g ts) t ∷ [])
unfolding generic_flags
flags-snoc g [] t = refl
flags-snoc g (u ∷ ts) t = flags-snoc (g ++ (generic_flag g u ∷ [])) ts t

-- what the loop keeps
pub record Flagging (names : ℕ) (s : List ℕ) (n at : ℕ) (starts flags : List ℕ) (i p : ℕ) : Type 0 where
  pub ts : List Ty
  pub place : Placing (type_at names s) (type_in s) s n at starts i p ts
  pub high : n ≤ length flags
  pub flagged : take i flags ≡ generic_flags [] ts

-- what it comes to
abbrev pub Flags : ℕ → List ℕ → Parsed (List Ty) → List ℕ → List ℕ → Type 0
Flags names s x starts flags = (ts : List Ty) (next : ℕ) → x ≡ ok ts next → Listed (type_in s) s starts ts × (take (length ts) flags ≡ generic_flags [] ts)

module _ (names : ℕ) (s : List ℕ) where
  pub flags-nothing : {x : Parsed (List Ty)} {k : ℕ} (starts flags : List ℕ) → x ≡ fault k → (Err k ≡ table_of x) × Flags names s x starts flags
  unfolding table_of
  flags-nothing starts flags z = (rw z refl, λ ts next y. impossible (sym z ∙ y))

  module _ {n at : ℕ} {starts flags : List ℕ} {i p : ℕ} (inv : Flagging names s n at starts flags i p) where
    pub flagging-stop : {k : ℕ} → i < n → type_at names s inv.ts p ≡ fault k
        → (Err k ≡ table_of (table_from (type_at names s) [] n at)) × Flags names s (table_from (type_at names s) [] n at) starts flags
    flagging-stop lt e = flags-nothing starts flags (filling-stop (type_at names s) inv.place.fill lt e)

    pub flagging-done : n ≤ i → (Ok (n, p) ≡ table_of (table_from (type_at names s) [] n at)) × Flags names s (table_from (type_at names s) [] n at) starts flags
    flagging-done le =
        let g = placing-done (type_at names s) (type_in s) s inv.place le in
        let z = (filling-done (type_at names s) inv.place.fill le).0 in (
          g.0,
          λ ts next y. (
            g.1 ts next y,
            let e : inv.ts ≡ ts = cc in
                subst (λ x. take (length x) flags ≡ generic_flags [] x) e (rw inv.place.fill.many inv.flagged),
          ),
        )

    pub flagging-next : {t : Ty} {q f : ℕ} → i < n → type_at names s inv.ts p ≡ ok t q
        → f ≡ cond (eqb t.kind 2) 1 (cond (eqb t.kind 4) (get_or flags t.of 0) 0)
        → Flagging names s n at (set starts i p) (set flags i f) (i + 1) q
    flagging-next {t} {q} {f} lt e ef =
        let h = inv.high in
        let g = type-in names s inv.ts p t q e in
        let low : 3 ≤ t.kind → t.of < i = λ k3. subst (λ x. t.of < x) inv.place.fill.many (lower names s inv.ts p t q e k3) in
        let eg : f ≡ generic_flag (generic_flags [] inv.ts) t = ef ∙ same_flag flags i t low ∙ ap (λ x. generic_flag x t) inv.flagged in
        record {
          ts = inv.ts ++ (t ∷ []);
          place = placing-next (type_at names s) (type_in s) s inv.place lt g.inside e g.is;
          high = simp length-set h;
          flagged = ap (λ k. take k (set flags i f)) (add-one i) ∙ take-suc-set flags i f (omega arith)
              ∙ ap (λ x. x ++ (f ∷ [])) inv.flagged ∙ ap (λ x. generic_flags [] inv.ts ++ (x ∷ [])) eg
              ∙ sym (flags-snoc [] inv.ts t);
        }

  pub flagging-start : (n at : ℕ) (starts flags : List ℕ) → n ≤ length starts → n ≤ length flags → Flagging names s n at starts flags 0 at
  unfolding generic_flags
  flagging-start n at starts flags l m = record { ts = []; place = placing-start (type_at names s) (type_in s) s n at starts l; high = m; flagged = refl }

  -- the table's head
  module _ (at : ℕ) (starts flags : List ℕ) where
    pub types-none : {m : ℕ} → field_at 4 257 2 s at ≡ fault m
        → (Err m ≡ table_of (types_at version1 names s at)) × Flags names s (types_at version1 names s at) starts flags
    unfolding types_at
    types-none e = flags-nothing starts flags (count-stop (type_at names s) 4 1 257 s at e)

    module _ {n p : ℕ} (e : field_at 4 257 2 s at ≡ ok n p) where
      pub types-few : n ≡ 0 → (Err 4 ≡ table_of (types_at version1 names s at)) × Flags names s (types_at version1 names s at) starts flags
      unfolding types_at
      types-few z = flags-nothing starts flags (count-few (type_at names s) 4 1 257 s at e (omega arith))

      pub types-all : {r : Result (ℕ × ℕ) ℕ} → (n ≡ 0 → ⊥) → r ≡ table_of (table_from (type_at names s) [] n p) → Flags names s (table_from (type_at names s) [] n p) starts flags
          → (r ≡ table_of (types_at version1 names s at)) × Flags names s (types_at version1 names s at) starts flags
      unfolding types_at
      types-all {r} nz g h =
          subst (λ x. (r ≡ table_of x) × Flags names s x starts flags) (sym (count-good (type_at names s) 4 1 257 s at e (pos_of_ne-zero nz))) (g, h)
