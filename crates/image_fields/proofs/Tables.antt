-- Runs of entries: the steps that a loop takes, and what a run that was read is.
-- Assumes nothing.
use mathlib.Core.Path.{◌≡◌, refl, sym, ap, ◌∙◌, subst₂}
use mathlib.Core.List.{List, [], ◌∷◌, ◌++◌, map, map-append}
use mathlib.Core.Bool.{Bool, true, false}
use Prim.Native.Nat.{ℕ, zero, suc, ◌+◌, ◌-◌, ◌*◌, ◌≤◌, ◌<◌}
use native.Mathlib.Omega.{arith}
use native.Mathlib.Numerals.{add-one}
use borrow.Author.Tests.{leb-true, le-leb, lt-leb, eq-eqb, ne_eqb}
use lib.ListN.{length, take, set, length-append, length-map}
use lib.Seq.{take-suc-set}
use lib.Dec.{eqb, leb}
use Rattle.image_fields.specs.Parsed.{Parsed, ok, fault, bind, ensure}
use Rattle.image_fields.specs.Number.{two, field_at}
use Rattle.image_fields.specs.Table.{many_of, table_from, table_at, member, entries}
use Rattle.image_fields.specs.Answer.{read_of, table_of}
use Rattle.std.specs.Prelude.{Ok, Err}
use Rattle.image_fields.proofs.Inverse.{bound, ensure-ok}
use Rattle.image_fields.proofs.Answers.{mapped}

-- so many of a kind
module _ {A L : Type 0} (nil : L) (cons : A → L → L) (f : ℕ → Parsed A) where
  pub of_none : (n : ℕ) {p : ℕ} → n ≤ 0 → Ok p ≡ read_of (many_of nil cons f n p)
  unfolding many_of read_of
  of_none n le = let e : n ≡ 0 = omega arith in rw e

  pub of-next : (n : ℕ) {p q : ℕ} {x : A} → 0 < n → f p ≡ ok x q → read_of (many_of nil cons f n p) ≡ read_of (many_of nil cons f (n - 1) q)
  unfolding many_of bind
  of-next zero lt h = absurd (omega arith)
  of-next (suc k) {p} {q} {x} lt h = let g : suc k - 1 ≡ k = omega arith in rw (g, h) (mapped (many_of nil cons f k q) (cons x))

  pub of-stop : (n : ℕ) {p m : ℕ} → 0 < n → f p ≡ fault m → read_of (many_of nil cons f n p) ≡ Err m
  unfolding many_of bind read_of
  of-stop zero lt h = absurd (omega arith)
  of-stop (suc k) lt h = rw h

-- a table's entries
module _ {A : Type 0} (f : List A → ℕ → Parsed A) where
  pub table-next : (xs : List A) (k : ℕ) {p q : ℕ} {x : A} → 0 < k → f xs p ≡ ok x q → table_from f xs k p ≡ table_from f (xs ++ (x ∷ [])) (k - 1) q
  unfolding table_from bind
  table-next xs zero lt e = absurd (omega arith)
  table-next xs (suc k) lt e = let g : suc k - 1 ≡ k = omega arith in rw (g, e)

  pub table-stop : (xs : List A) (k : ℕ) {p n : ℕ} → 0 < k → f xs p ≡ fault n → table_from f xs k p ≡ fault n
  unfolding table_from bind
  table-stop xs zero lt e = absurd (omega arith)
  table-stop xs (suc k) lt e = rw e

  pub table_done : (xs : List A) (k : ℕ) {p : ℕ} → k ≤ 0 → table_from f xs k p ≡ ok xs p
  unfolding table_from
  table_done xs k le = let e : k ≡ 0 = omega arith in rw e

  -- as many entries as were asked for
  pub table-length : (xs : List A) (k p : ℕ) (us : List A) (q : ℕ) → table_from f xs k p ≡ ok us q → length us ≡ length xs + k
  unfolding table_from
  table-length xs zero p us q e = let z : xs ≡ us = cc in ap length (sym z) ∙ omega arith
  table-length xs (suc k) p us q e =
      bound e (λ x r e1 e2.
      let g = table-length (xs ++ (x ∷ [])) k r us q e2 in
      let l : length (xs ++ (x ∷ [])) ≡ length xs + 1 = length-append xs (x ∷ []) in
      omega arith)

  -- what a loop over the entries keeps: those read so far, xs, and what is left to read
  pub record Filling (n at i p : ℕ) (xs : List A) : Type 0 where
    pub many : length xs ≡ i
    pub low : i ≤ n
    pub rest : table_from f [] n at ≡ table_from f xs (n - i) p

  pub filling-start : (n at : ℕ) → Filling n at 0 at []
  filling-start n at = record { many = refl; low = omega arith; rest = (let e : n - 0 ≡ n = omega arith in rw e refl) }

  module _ {n at i p : ℕ} {xs : List A} (inv : Filling n at i p xs) where
    pub filling-stop : {k : ℕ} → i < n → f xs p ≡ fault k → table_from f [] n at ≡ fault k
    filling-stop lt e = inv.rest ∙ table-stop xs (n - i) (omega arith) e

    pub filling-done : n ≤ i → (table_from f [] n at ≡ ok xs p) × (length xs ≡ n)
    filling-done le =
        let l = inv.low in
        let m = inv.many in
        (inv.rest ∙ table_done xs (n - i) (omega arith), omega arith)

    pub filling-next : {x : A} {q : ℕ} → i < n → f xs p ≡ ok x q → Filling n at (i + 1) q (xs ++ (x ∷ []))
    filling-next {x} {q} lt e =
        let m = inv.many in
        record {
          many = length-append xs (x ∷ []) ∙ omega arith;
          low = omega arith;
          rest = inv.rest ∙ table-next xs (n - i) (omega arith) e ∙ ap (λ k. table_from f (xs ++ (x ∷ [])) k q) (omega arith);
        }

  -- the table's head
  module _ (k least limit : ℕ) (s : List ℕ) (at : ℕ) where
    pub count-stop : {m : ℕ} → field_at k limit 2 s at ≡ fault m → table_at k least limit f s at ≡ fault m
    unfolding table_at bind
    count-stop e = rw e

    module _ {n p : ℕ} (e : field_at k limit 2 s at ≡ ok n p) where
      pub count-few : n < least → table_at k least limit f s at ≡ fault k
      unfolding table_at bind ensure
      count-few lt = simp (e, lt-leb _ _ lt)

      pub count-good : least ≤ n → table_at k least limit f s at ≡ table_from f [] n p
      unfolding table_at bind ensure
      count-good le = simp (e, le-leb _ _ le)

    pub table-parts : {xs : List A} {q : ℕ} → table_at k least limit f s at ≡ ok xs q
        → (n : ℕ) × (p : ℕ) × (field_at k limit 2 s at ≡ ok n p) × (least ≤ n) × (table_from f [] n p ≡ ok xs q) × (length xs ≡ n)
    unfolding table_at
    table-parts {xs} {q} e =
        bound e (λ n p e1 e2.
        let g = ensure-ok _ e2 in
        let l : length xs ≡ 0 + n = table-length [] n p xs q g.1 in
        (n, p, e1, leb-true _ _ g.0, g.1, omega arith))

  -- a property of each entry holds of all
  pub table-all : (P : A → ℕ → ℕ → Type 0) (Q : List A → ℕ → ℕ → Type 0)
      → ((p : ℕ) → Q [] p p) → ((xs : List A) (x : A) (p q r : ℕ) → Q xs p q → P x q r → Q (xs ++ (x ∷ [])) p r)
      → ((xs : List A) (p : ℕ) (x : A) (q : ℕ) → f xs p ≡ ok x q → P x p q)
      → (xs : List A) (k o p : ℕ) (us : List A) (q : ℕ) → Q xs o p → table_from f xs k p ≡ ok us q → Q us o q
  unfolding table_from
  table-all P Q none more each xs zero o p us q h e =
      let a : xs ≡ us = cc in
      let b : p ≡ q = cc in
      subst₂ (λ y z. Q y o z) a b h
  table-all P Q none more each xs (suc k) o p us q h e =
      bound e (λ x r e1 e2. table-all P Q none more each (xs ++ (x ∷ [])) k o r us q (more xs x o p r h (each xs p x r e1)) e2)

-- the positions of the entries, kept in a list
pub placed-next : {A : Type 0} (view : ℕ → A) (starts : List ℕ) (i p : ℕ) {xs : List A} → i < length starts
    → map view (take i starts) ≡ xs → map view (take (i + 1) (set starts i p)) ≡ xs ++ (view p ∷ [])
placed-next view starts i p {xs} lt e =
    ap (λ k. map view (take k (set starts i p))) (add-one i) ∙ ap (map view) (take-suc-set starts i p lt)
    ∙ map-append view (take i starts) (p ∷ []) ∙ ap (λ x. x ++ (view p ∷ [])) e

-- entries of one width
pub entries-more : {A : Type 0} (view : ℕ → A) (k n at : ℕ) → entries view k (n + 1) at ≡ entries view k n at ++ (view (at + k * n) ∷ [])
unfolding entries
entries-more view k zero at = let a : at + k * 0 ≡ at = omega arith in rw a refl
entries-more view k (suc n) at =
    let a : suc n + 1 ≡ suc (n + 1) = omega arith in
    let b : at + k + k * n ≡ at + k * suc n = omega arith in
    rw a (ap (λ l. view at ∷ l) (entries-more view k n (at + k) ∙ ap (λ z. entries view k n (at + k) ++ (view z ∷ [])) b))

pub entries-map : {A B : Type 0} (g : A → B) (view : ℕ → A) (k n at : ℕ) → map g (entries view k n at) ≡ entries (λ p. g (view p)) k n at
unfolding entries
entries-map g view k zero at = refl
entries-map g view k (suc n) at = ap (λ l. g (view at) ∷ l) (entries-map g view k n (at + k))

pub entries-length : {A : Type 0} (view : ℕ → A) (k n at : ℕ) → length (entries view k n at) ≡ n
unfolding entries
entries-length view k zero at = refl
entries-length view k (suc n) at = ap suc (entries-length view k n (at + k))

-- a table of entries of one width is those entries
pub table-entries : {A : Type 0} (f : List A → ℕ → Parsed A) (view : ℕ → A) (w : ℕ)
    → ((xs : List A) (p : ℕ) (x : A) (q : ℕ) → f xs p ≡ ok x q → (x ≡ view p) × (q ≡ p + w))
    → (n at : ℕ) (us : List A) (q : ℕ) → table_from f [] n at ≡ ok us q → (us ≡ entries view w (length us) at) × (q ≡ at + w * length us)
unfolding entries
table-entries {A = A} f view w each n at us q e =
    table-all f (λ x p r. (x ≡ view p) × (r ≡ p + w)) (λ xs o r. (xs ≡ entries view w (length xs) o) × (r ≡ o + w * length xs))
    (λ p. (refl, omega arith)) more each [] n at at us q (refl, omega arith) e
  where
    more : (xs : List A) (x : A) (p r u : ℕ) → (xs ≡ entries view w (length xs) p) × (r ≡ p + w * length xs) → (x ≡ view r) × (u ≡ r + w)
        → (xs ++ (x ∷ []) ≡ entries view w (length (xs ++ (x ∷ []))) p) × (u ≡ p + w * length (xs ++ (x ∷ [])))
    more xs x p r u h g =
        let l : length (xs ++ (x ∷ [])) ≡ length xs + 1 = length-append xs (x ∷ []) in
        let a : r ≡ p + w * length xs = h.1 in
        let b : u ≡ r + w = g.1 in (
          ap (λ z. z ++ (x ∷ [])) h.0 ∙ ap (λ z. entries view w (length xs) p ++ (z ∷ [])) (g.0 ∙ ap view a)
              ∙ sym (entries-more view w (length xs) p) ∙ ap (λ n. entries view w n p) (sym l),
          rw l (omega arith),
        )

-- a number among the entries' numbers, looked for from the first on
module _ (s : List ℕ) (w x : ℕ) where
  pub among_none : (i p : ℕ) → i ≤ 0 → false ≡ member eqb (entries (two s) w i p) x
  unfolding member entries
  among_none i p le = let e : i ≡ 0 = omega arith in rw e

  pub among-here : (i p : ℕ) → 0 < i → two s p ≡ x → member eqb (entries (two s) w i p) x ≡ true
  unfolding member entries
  among-here zero p lt e = absurd (omega arith)
  among-here (suc i) p lt e = rw (eq-eqb (two s p) x e)

  pub among_next : (i j p : ℕ) → i ≡ j + 1 → (two s p ≡ x → ⊥) → member eqb (entries (two s) w i p) x ≡ member eqb (entries (two s) w j (p + w)) x
  unfolding member entries
  among_next zero j p lt e = absurd (omega arith)
  among_next (suc i) j p lt e = let g : i ≡ j = omega arith in rw (ne_eqb (two s p) x e, g)

pub stride-less : (w i j : ℕ) → i ≡ j + 1 → w * i ≡ w + w * j
stride-less w i j e = rw e (omega arith)

-- two readers of entries that differ only in what they make of them answer alike
bind_assoc : {A B C : Type 0} (x : Parsed A) (k : A → ℕ → Parsed B) (l : B → ℕ → Parsed C) → bind (bind x k) l ≡ bind x (λ a p. bind (k a p) l)
unfolding bind
bind_assoc (ok a p) k l = refl
bind_assoc (fault n) k l = refl

bind-same : {A B : Type 0} (x : Parsed A) {k l : A → ℕ → Parsed B} → ((a : A) (p : ℕ) → k a p ≡ l a p) → bind x k ≡ bind x l
unfolding bind
bind-same (ok a p) e = e a p
bind-same (fault n) e = refl

bind-ensure : {A B : Type 0} (b : Bool) (n : ℕ) (x : Parsed A) (k : A → ℕ → Parsed B) → bind (ensure b n x) k ≡ ensure b n (bind x k)
unfolding bind ensure
bind-ensure true n x k = refl
bind-ensure false n x k = refl

-- two fields, a test and a record: the record made into another
pub remade : {A B : Type 0} (h : A → B) (x : Parsed ℕ) (y : ℕ → Parsed ℕ) (b : ℕ → Bool) (n : ℕ) (make : ℕ → ℕ → A)
    → bind (bind x (λ a p. bind (y p) (λ c q. ensure (b a) n (ok (make a c) q)))) (λ r q. ok (h r) q)
    ≡ bind x (λ a p. bind (y p) (λ c q. ensure (b a) n (ok (h (make a c)) q)))
unfolding bind
remade h x y b n make =
    bind_assoc x _ _ ∙ bind-same x (λ a p. bind_assoc (y p) _ _ ∙ bind-same (y p) (λ c q. bind-ensure (b a) n (ok (make a c) q) (λ r q. ok (h r) q)))

entry-alike : {A B : Type 0} (h : A → B) (y : Parsed A) (k : A → ℕ → Parsed (List A)) (l : B → ℕ → Parsed (List B))
    → ((x : A) (q : ℕ) → table_of (k x q) ≡ table_of (l (h x) q)) → table_of (bind y k) ≡ table_of (bind (bind y (λ x q. ok (h x) q)) l)
unfolding bind table_of
entry-alike h (ok x q) k l e = e x q
entry-alike h (fault n) k l e = refl

test-alike : {A B : Type 0} (b : Bool) (k : ℕ) (x : Parsed (List A)) (y : Parsed (List B)) → table_of x ≡ table_of y → table_of (ensure b k x) ≡ table_of (ensure b k y)
unfolding ensure table_of
test-alike true k x y e = e
test-alike false k x y e = refl

count-alike : {A B : Type 0} (y : Parsed ℕ) (b : ℕ → Bool) (k : ℕ) (f : ℕ → ℕ → Parsed (List A)) (g : ℕ → ℕ → Parsed (List B))
    → ((n p : ℕ) → table_of (f n p) ≡ table_of (g n p)) → table_of (bind y (λ n p. ensure (b n) k (f n p))) ≡ table_of (bind y (λ n p. ensure (b n) k (g n p)))
unfolding bind table_of
count-alike (ok n p) b k f g e = test-alike (b n) k (f n p) (g n p) (e n p)
count-alike (fault n) b k f g e = refl

module _ {A B : Type 0} (h : A → B) (f : List A → ℕ → Parsed A) (g : List B → ℕ → Parsed B)
    (alike : (xs : List A) (p : ℕ) → bind (f xs p) (λ x q. ok (h x) q) ≡ g (map h xs) p) where
  from-alike : (xs : List A) (n p : ℕ) → table_of (table_from f xs n p) ≡ table_of (table_from g (map h xs) n p)
  unfolding table_from table_of
  from-alike xs zero p = ap (λ k. Ok (k, p)) (sym (length-map xs h))
  from-alike xs (suc n) p =
      entry-alike h (f xs p) (λ x q. table_from f (xs ++ (x ∷ [])) n q) (λ x q. table_from g (map h xs ++ (x ∷ [])) n q)
      (λ x q. from-alike (xs ++ (x ∷ [])) n q ∙ ap (λ l. table_of (table_from g l n q)) (map-append h xs (x ∷ [])))
      ∙ ap (λ y. table_of (bind y (λ x q. table_from g (map h xs ++ (x ∷ [])) n q))) (alike xs p)

  pub table-alike : (k least limit : ℕ) (s : List ℕ) (at : ℕ) → table_of (table_at k least limit f s at) ≡ table_of (table_at k least limit g s at)
  unfolding table_at
  table-alike k least limit s at =
      count-alike (field_at k limit 2 s at) (leb least) k (λ n p. table_from f [] n p) (λ n p. table_from g [] n p) (λ n p. from-alike [] n p)
