-- The loops over the table of names.
-- Assumes nothing.
use Rattle.std.proofs.Common.{◌≡◌, ℕ, zero, suc, ◌+◌, ◌-◌, ◌<◌, ◌≤◌, Bool, true, false, not, ◌&&◌, ◌||◌, eqb, ltb, leb, List, [], ◌∷◌, ◌++◌, map, length, get_or, take, drop, drop-cons, sym, refl, ap, ◌∙◌, subst, ⊎_elim, pos_of_ne-zero, arith, le-leb, le-ltb, lt-ltb, eq-eqb, ne_eqb, eqb-true, leb-true, ltb-true}
use borrow.Author.Tests.{lt-leb}
use mathlib.Core.Bool.{or-false}
use Rattle.image_fields.specs.Parsed.{ok, fault, bind, ensure}
use Rattle.image_fields.specs.Number.{field_at}
use Rattle.image_fields.specs.Table.{table_from, table_at, member}
use Rattle.image_fields.specs.Answer.{table_of}
use Rattle.std.specs.Prelude.{Result, Ok, Err}
use Rattle.image_fields.proofs.Answers.{is-table, bind-fault}
use Rattle.image_fields.proofs.Tables.{table-length, count-stop, count-few, count-good}
use lib.Pointwise.{pointwise}
use Rattle.tables.specs.Answer.{Listed, length_at}
use Rattle.tables.proofs.Placing.{Lists, lists-nothing}
use Rattle.image_fields.proofs.Inverse.{bound, ensure-ok}
use Rattle.image_fields.proofs.Tests.{split, less, and-true, or-true, false-true}
use Rattle.tables.specs.Limits.{version1}
use Rattle.tables.specs.Name.{bytes_at, name_of, same_bytes, below_bytes, name_at, names_at, this_name}

pub length-bytes : (s : List ℕ) (p n : ℕ) → length (bytes_at s p n) ≡ n
unfolding bytes_at
length-bytes s p zero = refl
length-bytes s p (suc n) = ap suc (length-bytes s (p + 1) n)

-- the bytes of a name are a part of those of the image
bytes-take : (s : List ℕ) (p n : ℕ) → p + n ≤ length s → take n (drop p s) ≡ bytes_at s p n
unfolding bytes_at
bytes-take s p zero le = refl
bytes-take s p (suc n) le =
    let e : drop p s ≡ get_or s p 0 ∷ drop (suc p) s = drop-cons s p 0 (omega arith) in
    let z : suc p ≡ p + 1 = omega arith in
    rw e (ap (λ l. get_or s p 0 ∷ l) (ap (λ q. take n (drop q s)) z ∙ bytes-take s (p + 1) n (omega arith)))

pub bytes-slice : (s : List ℕ) (p : ℕ) {k : ℕ} → k ≡ get_or s p 0 → p + get_or s p 0 < length s → take k (drop (p + 1) s) ≡ name_of s p
unfolding name_of
bytes-slice s p {k} e le = rw e (bytes-take s (p + 1) (get_or s p 0) (omega arith))

pub same_length : (xs ys : List ℕ) → same_bytes xs ys ≡ true → length xs ≡ length ys
unfolding same_bytes
same_length [] [] e = refl
same_length [] (y ∷ ys) e = false-true e
same_length (x ∷ xs) [] e = false-true e
same_length (x ∷ xs) (y ∷ ys) e = ap suc (same_length xs ys (and-true (eqb x y) (same_bytes xs ys) e).1)

-- names are the same if slices of their bytes are
pub same-pointwise : (xs ys : List ℕ) → pointwise eqb xs ys ≡ same_bytes xs ys
unfolding same_bytes
same-pointwise [] [] = refl
same-pointwise [] (y ∷ ys) = refl
same-pointwise (x ∷ xs) [] = refl
same-pointwise (x ∷ xs) (y ∷ ys) = ap (λ b. eqb x y && b) (same-pointwise xs ys)

pub same-slices : {b : Bool} {xs zs : List ℕ} (ys : List ℕ) → b ≡ pointwise eqb xs ys → xs ≡ zs → same_bytes zs ys ≡ b
same-slices {b} {xs} {zs} ys e f = ap (λ z. same_bytes z ys) (sym f) ∙ sym (e ∙ same-pointwise xs ys)

-- names that are the same are equal
pub same_true : (a b : List ℕ) → same_bytes a b ≡ true → a ≡ b
unfolding same_bytes
same_true [] [] e = refl
same_true [] (y ∷ b) e = false-true e
same_true (x ∷ a) [] e = false-true e
same_true (x ∷ a) (y ∷ b) e =
    let g = and-true (eqb x y) (same_bytes a b) e in
    let h : x ≡ y = eqb-true x y g.0 in
    let i : a ≡ b = same_true a b g.1 in
    cc

below_none : (xs : List ℕ) → below_bytes xs [] ≡ false
unfolding below_bytes
below_none [] = refl
below_none (x ∷ xs) = refl

below-some : (s : List ℕ) (p q i j : ℕ) → i ≡ 0 → 0 < j → below_bytes (bytes_at s p i) (bytes_at s q j) ≡ true
unfolding bytes_at below_bytes
below-some s p q i zero z lt = absurd (omega arith)
below-some s p q i (suc j) z lt = rw z refl

below-bytes : (s : List ℕ) (a b i j : ℕ) → 0 < i → 0 < j → below_bytes (bytes_at s a i) (bytes_at s b j)
    ≡ (ltb (get_or s a 0) (get_or s b 0) || (eqb (get_or s a 0) (get_or s b 0) && below_bytes (bytes_at s (a + 1) (i - 1)) (bytes_at s (b + 1) (j - 1))))
unfolding bytes_at below_bytes
below-bytes s a b zero j l m = absurd (omega arith)
below-bytes s a b (suc i) zero l m = absurd (omega arith)
below-bytes s a b (suc i) (suc j) l m = let e : suc i - 1 ≡ i = omega arith in let f : suc j - 1 ≡ j = omega arith in rw (e, f) refl

-- two names compared byte by byte, by a test on bytes that has a law for one more byte
module _ (s : List ℕ) where
  module _ (a b : ℕ) where
    -- the order of what is left from the k-th byte on
    abbrev pub Order : ℕ → ℕ → ℕ → Type 0
    Order n m k = below_bytes (name_of s a) (name_of s b) ≡ below_bytes (bytes_at s (a + 1 + k) (n - k)) (bytes_at s (b + 1 + k) (m - k))

    pub order-start : {n m : ℕ} → n ≡ get_or s a 0 → m ≡ get_or s b 0 → Order n m 0
    unfolding name_of
    order-start {n} {m} en em =
        let x : a + 1 + 0 ≡ a + 1 = omega arith in
        let y : b + 1 + 0 ≡ b + 1 = omega arith in
        let z : n - 0 ≡ n = omega arith in
        let w : m - 0 ≡ m = omega arith in
        rw (x, y, z, w, ← en, ← em) refl

    pub order-done : (n m k : ℕ) → Order n m k → m ≤ k → false ≡ below_bytes (name_of s a) (name_of s b)
    unfolding bytes_at
    order-done n m k inv le = let e : m - k ≡ 0 = omega arith in sym (inv ∙ rw e (below_none (bytes_at s (a + 1 + k) (n - k))))

    pub order-short : (n m k : ℕ) → Order n m k → k < m → k ≡ n → true ≡ below_bytes (name_of s a) (name_of s b)
    order-short n m k inv lt e = sym (inv ∙ below-some s (a + 1 + k) (b + 1 + k) (n - k) (m - k) (omega arith) (omega arith))

    module _ (n m k : ℕ) (inv : Order n m k) (low : k < n) (high : k < m) {x y : ℕ} (ex : x ≡ get_or s (a + 1 + k) 0) (ey : y ≡ get_or s (b + 1 + k) 0) where
      order-more : below_bytes (name_of s a) (name_of s b)
          ≡ (ltb x y || (eqb x y && below_bytes (bytes_at s (a + 1 + (k + 1)) (n - (k + 1))) (bytes_at s (b + 1 + (k + 1)) (m - (k + 1)))))
      order-more =
          let p : a + 1 + k + 1 ≡ a + 1 + (k + 1) = omega arith in
          let q : b + 1 + k + 1 ≡ b + 1 + (k + 1) = omega arith in
          let r : n - k - 1 ≡ n - (k + 1) = omega arith in
          let u : m - k - 1 ≡ m - (k + 1) = omega arith in
          inv ∙ below-bytes s (a + 1 + k) (b + 1 + k) (n - k) (m - k) (omega arith) (omega arith) ∙ rw (p, q, r, u, ← ex, ← ey) refl

      pub order-next : x ≡ y → Order n m (k + 1)
      order-next e = order-more ∙ rw (le-ltb x y (omega arith), eq-eqb x y e) refl

      pub order-stop : (x ≡ y → ⊥) → ltb x y ≡ below_bytes (name_of s a) (name_of s b)
      order-stop ne = sym (order-more ∙ rw (ne_eqb x y ne) (or-false (ltb x y)))

-- a name among those
pub none-among : (f : ℕ → List ℕ) (l : List ℕ) (x : List ℕ) → ((k : ℕ) → k < length l → same_bytes (f (get_or l k 0)) x ≡ false)
    → false ≡ member same_bytes (map f l) x
unfolding member
none-among f [] x h = refl
none-among f (y ∷ l) x h = rw (h 0 (omega arith)) (none-among f l x (λ k lt. h (suc k) (omega arith)))

pub some-among : (f : ℕ → List ℕ) (l : List ℕ) (x : List ℕ) (k : ℕ) → k < length l → same_bytes (f (get_or l k 0)) x ≡ true
    → true ≡ member same_bytes (map f l) x
unfolding member
some-among f [] x k lt e = absurd (omega arith)
some-among f (y ∷ l) x zero lt e = rw e refl
some-among f (y ∷ l) x (suc k) lt e =
    let g = some-among f l x k (omega arith) e in
    rw (← g) (or-true (same_bytes (f y) x))

-- a name stands, or none does
module _ (s : List ℕ) (ns : List (List ℕ)) (p : ℕ) where
  pub name-none : {n : ℕ} → Err n ≡ length_at s p → (n ≡ 3) × (name_at version1 s ns p ≡ fault 3)
  unfolding name_at ensure
  name-none {n} e =
      ⊎_elim (λ b. let z : Err n ≡ Ok (get_or s p 0) = rw b at e in cc)
      (λ b. let z : Err n ≡ Err 3 = rw b at e in
      (cc, refused (ltb 0 (get_or s p 0)) (leb (get_or s p 0) 64) (ltb (get_or s p 0) (length s - p)) (leb (get_or s p 0 + 1) (length s - p)) b (ltb-leb (get_or s p 0) (length s - p))))
      (split (ltb 0 (get_or s p 0) && (leb (get_or s p 0) 64 && ltb (get_or s p 0) (length s - p))))
    where
      ltb-leb : (a b : ℕ) → leb (a + 1) b ≡ ltb a b
      ltb-leb a b = ⊎_elim (λ lt. le-leb (a + 1) b (omega arith) ∙ sym (lt-ltb a b lt)) (λ le. lt-leb (a + 1) b (omega arith) ∙ sym (le-ltb a b le)) (less a b)

      refused : (x y z w : Bool) → (x && (y && z)) ≡ false → w ≡ z
          → ensure (x && y) 3 (ensure w 3 (ensure (not (member same_bytes ns (name_of s p))) 3 (ok (name_of s p) (p + (get_or s p 0 + 1))))) ≡ fault 3
      refused true true true w e f = false-true (sym e)
      refused true true false w e f = rw f refl
      refused true false z w e f = refl
      refused false y z w e f = refl

  pub record NameStands (len : ℕ) : Type 0 where
    pub is : len ≡ get_or s p 0
    pub low : 0 < get_or s p 0
    pub high : get_or s p 0 ≤ 64
    pub whole : p + get_or s p 0 < length s

  pub name-stands : {len : ℕ} → Ok len ≡ length_at s p → NameStands len
  name-stands {len} e =
      ⊎_elim (λ b. let z : Ok len ≡ Ok (get_or s p 0) = rw b at e in
      let w = and-true (ltb 0 (get_or s p 0)) (leb (get_or s p 0) 64 && ltb (get_or s p 0) (length s - p)) b in
      let v = and-true (leb (get_or s p 0) 64) (ltb (get_or s p 0) (length s - p)) w.1 in
      let l = ltb-true (get_or s p 0) (length s - p) v.1 in
      record { is = cc; low = ltb-true 0 (get_or s p 0) w.0; high = leb-true (get_or s p 0) 64 v.0; whole = omega arith })
      (λ b. let z : Ok len ≡ Err 3 = rw b at e in cc)
      (split (ltb 0 (get_or s p 0) && (leb (get_or s p 0) 64 && ltb (get_or s p 0) (length s - p))))

  module _ {len : ℕ} (g : NameStands len) where
    tests : {m : Bool} → member same_bytes ns (name_of s p) ≡ m → name_at version1 s ns p ≡ ensure (not m) 3 (ok (name_of s p) (p + (len + 1)))
    unfolding name_at ensure
    tests e =
        let l = g.low in
        let h = g.high in
        let w = g.whole in
        simp (g.is, lt-ltb 0 (get_or s p 0) l, le-leb (get_or s p 0) 64 h, le-leb (get_or s p 0 + 1) (length s - p) (omega arith), e)

    pub name_new : member same_bytes ns (name_of s p) ≡ false → name_at version1 s ns p ≡ ok (name_of s p) (p + (len + 1))
    unfolding ensure
    name_new m = tests m

    pub name-twice : member same_bytes ns (name_of s p) ≡ true → name_at version1 s ns p ≡ fault 3
    unfolding ensure
    name-twice m = tests m

first-stays : (s : List ℕ) (x : List ℕ) (xs : List (List ℕ)) (k p : ℕ) (ns : List (List ℕ)) (q : ℕ)
    → table_from (name_at version1 s) (x ∷ xs) k p ≡ ok ns q → get_or ns 0 [] ≡ x
unfolding table_from
first-stays s x xs zero p ns q e = let z : ns ≡ x ∷ xs = cc in ap (λ l. get_or l 0 []) z
first-stays s x xs (suc k) p ns q e = bound e (λ y r e1 e2. first-stays s x (xs ++ (y ∷ [])) k r ns q e2)

-- a name that was read stands where it was read
pub name_in : (s : List ℕ) (ns : List (List ℕ)) (p : ℕ) (x : List ℕ) (q : ℕ) → name_at version1 s ns p ≡ ok x q
    → (x ≡ name_of s p) × (p + get_or s p 0 < length s)
unfolding name_at
name_in s ns p x q e =
    let g = ensure-ok _ e in
    let h = ensure-ok _ g.1 in
    let i = ensure-ok _ h.1 in
    let l = leb-true (get_or s p 0 + 1) (length s - p) h.0 in
    (cc, omega arith)

-- the first name stands at the start
pub first-name : (s : List ℕ) (k p : ℕ) (ns : List (List ℕ)) (q : ℕ) → 0 < k → table_from (name_at version1 s) [] k p ≡ ok ns q
    → (get_or ns 0 [] ≡ name_of s p) × (p + get_or s p 0 < length s)
unfolding table_from
first-name s zero p ns q lt e = absurd (omega arith)
first-name s (suc k) p ns q lt e =
    bound e (λ y r e1 e2.
    let g = name_in s [] p y r e1 in
    (first-stays s y [] k r ns q e2 ∙ g.0, g.1))

-- the whole table
module _ (s : List ℕ) (at : ℕ) (starts : List ℕ) where
  abbrev pub Answer : Result (ℕ × ℕ) ℕ → Type 0
  Answer r = (r ≡ table_of (names_at version1 s at)) × Lists (name_at version1 s) (name_of s) s (names_at version1 s at) starts

  refused : {f : ℕ} → table_at 3 1 513 (name_at version1 s) s at ≡ fault f → Answer (Err f)
  unfolding names_at
  refused e = lists-nothing (name_at version1 s) (name_of s) s starts (bind-fault _ e)

  pub names-short : {m : ℕ} → field_at 3 513 2 s at ≡ fault m → Answer (Err m)
  names-short e = refused (count-stop (name_at version1 s) 3 1 513 s at e)

  module _ {n p : ℕ} (e : field_at 3 513 2 s at ≡ ok n p) where
    pub names-empty : n ≡ 0 → Answer (Err 3)
    names-empty z = refused (count-few (name_at version1 s) 3 1 513 s at e (omega arith))

    module _ (nz : n ≡ 0 → ⊥) where
      pub names-stop : {f : ℕ} → table_from (name_at version1 s) [] n p ≡ fault f → Answer (Err f)
      names-stop g = refused (count-good (name_at version1 s) 3 1 513 s at e (pos_of_ne-zero nz) ∙ g)

      module _ {ns : List (List ℕ)} {q : ℕ} (g : table_from (name_at version1 s) [] n p ≡ ok ns q) where
        pub names-inside : p + get_or s p 0 < length s
        names-inside = (first-name s n p ns q (pos_of_ne-zero nz) g).1

        ended : {b : Bool} → b ≡ same_bytes (name_of s p) this_name → names_at version1 s at ≡ ensure b 3 (ok ns q)
        unfolding names_at bind
        ended eb =
            simp (count-good (name_at version1 s) 3 1 513 s at e (pos_of_ne-zero nz), g, (first-name s n p ns q (pos_of_ne-zero nz) g).0, ← eb)

        pub names-other : {b : Bool} → b ≡ same_bytes (name_of s p) this_name → b ≡ false → Answer (Err 3)
        unfolding ensure
        names-other eb f = lists-nothing (name_at version1 s) (name_of s) s starts (ended eb ∙ rw f refl)

        pub names-good : {b : Bool} → Listed (name_of s) s starts ns → b ≡ same_bytes (name_of s p) this_name → b ≡ true → Answer (Ok (n, q))
        unfolding ensure
        names-good h eb f =
            let l : length ns ≡ 0 + n = table-length (name_at version1 s) [] n p ns q g in
            let z : names_at version1 s at ≡ ok ns q = ended eb ∙ rw f refl in
            (is-table z (l ∙ omega arith), λ us next y. let w : ns ≡ us = cc in subst (Listed (name_of s) s starts) w h)
