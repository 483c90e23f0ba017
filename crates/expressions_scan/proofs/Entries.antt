-- The numbers of an error, one after another.
-- Assumes nothing.
use Prim.Native.Nat.{ℕ, zero, suc, ◌+◌, ◌-◌, ◌≤◌, ◌<◌}
use mathlib.Core.Path.{◌≡◌, refl, sym, ap, ◌∙◌, subst}
use mathlib.Core.Bool.{Bool, true, false, cond}
use mathlib.Core.List.{List, [], ◌∷◌, ◌++◌, append_assoc, append-nil}
use borrow.Author.Tests.{ne_eqb, lt-ltb, le-ltb}
use native.Mathlib.Omega.{arith}
use native.Mathlib.Numerals.{add-one}
use lib.Dec.{eqb, ltb}
use lib.ListN.{length, get_or, take, drop, replicate, length-append, length-drop, length-take, get_or-append}
use lib.Seq.{get_or-take, get_or-drop, length-take-le}
use Rattle.tables.specs.Limits.{version1}
use Rattle.rules.specs.Report.{Report, error, first, bad_use}
use Rattle.rules.specs.Verdict.{entry_of, entries_of}
use Rattle.image_writing.specs.Stored.{Stored}
use Rattle.image_writing.proofs.Stores.{both_stored}
use Rattle.scope_state.specs.Kinds.{base_of, said}
use Rattle.scope_state.proofs.Uses.{bad-use}
use Rattle.scope_state.specs.Locals.{row_at, status_of}
use Rattle.expressions_scan.specs.States.{Kept}

pub entries-append : (xs ys : List Report) → entries_of version1 (xs ++ ys) ≡ entries_of version1 xs ++ entries_of version1 ys
entries-append [] ys = refl
entries-append (x ∷ xs) ys =
    ap (λ l. entry_of version1 x ++ l) (entries-append xs ys) ∙ sym (append_assoc (entry_of version1 x) (entries_of version1 xs) (entries_of version1 ys))

pub stored-eq : {l m vs ws : List ℕ} {n r : ℕ} → vs ≡ ws → Stored l n vs m r → Stored l n ws m r
stored-eq {l} {m} {vs} {ws} {n} {r} e s = subst (λ x. Stored l n x m r) e s

-- zeros
abbrev pub zeros : ℕ → List ℕ
zeros i = replicate i 0

more-zeros : (i : ℕ) → zeros i ++ (0 ∷ []) ≡ zeros (i + 1)
more-zeros i = rw add-one (go i)
  where
    go : (i : ℕ) → zeros i ++ (0 ∷ []) ≡ zeros (suc i)
    go zero = refl
    go (suc i) = ap (λ (l : List ℕ). 0 ∷ l) (go i)

pub zero-stored : (i : ℕ) {l m o : List ℕ} {n a b : ℕ} → Stored l n (zeros i) m a → Stored m a (0 ∷ []) o b → Stored l n (zeros (i + 1)) o b
zero-stored i s t = stored-eq (more-zeros i) (both_stored s t)

pub zeros-length : (i : ℕ) → length (zeros i) ≡ i
zeros-length zero = refl
zeros-length (suc i) = ap suc (zeros-length i)

pub same-zeros : (i j : ℕ) → i ≡ j → {l m : List ℕ} {n r : ℕ} → Stored l n (zeros i) m r → Stored l n (zeros j) m r
same-zeros i j e s = stored-eq (ap zeros e) s

-- the places of a row, then zeros
pub taken-length : (i : ℕ) (xs : List ℕ) → length (take i xs) ≤ i
taken-length i xs = let z = length-take i xs in omega arith

pub same_taken : (i : ℕ) (xs : List ℕ) → i ≡ 8 → {l m : List ℕ} {n r : ℕ} → Stored l n (take i xs) m r → Stored l n (take 8 xs) m r
same_taken i xs e s = stored-eq (ap (λ k. take k xs) e) s

pub row_inside : (row count : ℕ) {k n : ℕ} → row + count < n → count ≡ k → row + k < n
row_inside row count h e = omega arith

take_snoc : (i : ℕ) (xs : List ℕ) → i < length xs → take (i + 1) xs ≡ take i xs ++ (get_or xs i 0 ∷ [])
take_snoc i xs lt = rw add-one (go i xs lt)
  where
    go : (i : ℕ) (xs : List ℕ) → i < length xs → take (suc i) xs ≡ take i xs ++ (get_or xs i 0 ∷ [])
    go i [] lt = absurd (omega arith)
    go zero (x ∷ xs) lt = refl
    go (suc i) (x ∷ xs) lt = ap (λ l. x ∷ l) (go i xs (omega arith))

zeros-at : (k i : ℕ) → get_or (zeros k) i 0 ≡ 0
zeros-at zero i = refl
zeros-at (suc k) zero = refl
zeros-at (suc k) (suc i) = zeros-at k i

past-at : (xs : List ℕ) (i : ℕ) → length xs ≤ i → get_or (xs ++ replicate 8 0) i 0 ≡ 0
past-at [] i le = zeros-at 8 i
past-at (x ∷ xs) zero le = absurd (omega arith)
past-at (x ∷ xs) (suc i) le = past-at xs i (omega arith)

module _ (rows : List ℕ) (row : ℕ) (inside : row + get_or rows row 0 < length rows) where
  pub row-length : length (row_at rows row) ≡ get_or rows row 0
  row-length = let z = length-drop (row + 1) rows in length-take-le (get_or rows row 0) (drop (row + 1) rows) (omega arith)

  pub row_in : (i : ℕ) → i < get_or rows row 0 → get_or rows (row + 1 + i) 0 ≡ get_or (row_at rows row ++ replicate 8 0) i 0
  row_in i lt =
      let l = row-length in
      sym (get_or-append (row_at rows row) (replicate 8 0) 0 i (omega arith) ∙ get_or-take (get_or rows row 0) (drop (row + 1) rows) i 0 lt ∙ get_or-drop (row + 1) rows i 0)

  pub row_out : (i : ℕ) → get_or rows row 0 ≤ i → ◌≡◌ {A = ℕ} 0 (get_or (row_at rows row ++ replicate 8 0) i 0)
  row_out i le = let l = row-length in sym (past-at (row_at rows row) i (omega arith))

  pub place-stored : {l m o : List ℕ} {n a b i v : ℕ} → i < 8 → v ≡ get_or (row_at rows row ++ replicate 8 0) i 0
      → Stored l n (take i (row_at rows row ++ replicate 8 0)) m a → Stored m a (v ∷ []) o b → Stored l n (take (i + 1) (row_at rows row ++ replicate 8 0)) o b
  place-stored {i = i} lt e s t =
      let z : length (row_at rows row ++ replicate 8 0) ≡ length (row_at rows row) + 8 = length-append (row_at rows row) (replicate 8 0) in
      stored-eq (sym (take_snoc i (row_at rows row ++ replicate 8 0) (omega arith))) (both_stored s (stored-eq (ap (λ x. x ∷ []) e) t))

  -- the numbers of an error with the places of a row
  pub row-stored : {l0 l1 l2 l3 l4 l5 : List ℕ} {n a1 a2 a3 a4 at k p : ℕ} → Stored l0 n (k ∷ []) l1 a1 → Stored l1 a1 (p ∷ []) l2 a2 → Stored l2 a2 (0 ∷ []) l3 a3
      → Stored l3 a3 (get_or rows row 0 ∷ []) l4 a4 → Stored l4 a4 (take 8 (row_at rows row ++ replicate 8 0)) l5 at
      → Stored l0 n (entry_of version1 (error k p 0 (row_at rows row))) l5 at
  row-stored {l0} {l5 = l5} {n} {at = at} {k} {p} s1 s2 s3 s4 s5 =
      subst (λ x. Stored l0 n (k ∷ p ∷ 0 ∷ x ∷ take 8 (row_at rows row ++ replicate 8 0)) l5 at) (sym row-length)
      (both_stored (both_stored (both_stored (both_stored s1 s2) s3) s4) s5)

pub entry-most : (k p h : ℕ) (ps : List ℕ) → length ps ≤ 8 → {l m : List ℕ} {n r : ℕ} → Stored l n (entry_of version1 (error k p h ps)) m r → r ≤ n + 12
entry-most k p h ps le {n = n} {r} s =
    let l : length (ps ++ replicate 8 0) ≡ length ps + 8 = length-append ps (replicate 8 0) in
    let t : length (take 8 (ps ++ replicate 8 0)) ≡ 8 = length-take-le 8 (ps ++ replicate 8 0) (omega arith) in
    let b = s.place in
    omega arith

first_of : (n : ℕ) (xs : List ℕ) → 0 < n → 0 < length xs → first (take n xs) ≡ get_or xs 0 0 ∷ []
first_of zero xs a b = absurd (omega arith)
first_of (suc n) [] a b = absurd (omega arith)
first_of (suc n) (x ∷ xs) a b = refl

-- the errors of uses
module _ (s k f : ℕ) (rows : List ℕ) (row : ℕ) (g : Kept k f rows row) where
  pub use-nothing : k ≡ 0 → [] ≡ entries_of version1 (bad_use s (status_of k f rows row))
  use-nothing e = rw e

  -- a place of its own
  pub use-one : 0 < k → k < 8 → entry_of version1 (error k s 0 (f ∷ [])) ≡ entries_of version1 (bad_use s (status_of k f rows row))
  use-one pos lt =
      let q : ltb k 8 ≡ true = lt-ltb k 8 lt in
      let kn : k < 7 = subst (λ b. cond b k (k - 8) < 7) q g.known in
      let z : bad_use s (said k (f ∷ [])) ≡ error k s 0 (f ∷ []) ∷ [] = bad-use s k (f ∷ []) kn ∙ rw (ne_eqb k 0 (λ z. omega arith)) (ap (λ l. error k s 0 l ∷ []) (same (eqb (base_of k) 3))) in
      rw q (sym (ap (entries_of version1) z ∙ append-nil (entry_of version1 (error k s 0 (f ∷ [])))))
    where
      same : (b : Bool) → cond b (f ∷ []) (f ∷ []) ≡ f ∷ []
      same true = refl
      same false = refl

  -- a row
  module _ (le : 8 ≤ k) where
    row-use : (b : Bool) (ps : List ℕ) → eqb (base_of (k - 8)) 3 ≡ b → cond b (row_at rows row) (first (row_at rows row)) ≡ ps
        → entry_of version1 (error (k - 8) s 0 ps) ≡ entries_of version1 (bad_use s (status_of k f rows row))
    row-use b ps eb ep =
        let q : ltb k 8 ≡ false = le-ltb k 8 le in
        let kn : k - 8 < 7 = subst (λ b. cond b k (k - 8) < 7) q g.known in
        let po : 0 < k - 8 = subst (λ b. 0 < cond b k (k - 8)) q (g.gone le) in
        let z : bad_use s (said (k - 8) (row_at rows row)) ≡ error (k - 8) s 0 ps ∷ [] = bad-use s (k - 8) (row_at rows row) kn ∙ rw (ne_eqb (k - 8) 0 (λ z. omega arith), eb) (ap (λ l. error (k - 8) s 0 l ∷ []) ep) in
        rw q (sym (ap (entries_of version1) z ∙ append-nil (entry_of version1 (error (k - 8) s 0 ps))))

    pub use-row : true ≡ eqb (base_of (k - 8)) 3 → entry_of version1 (error (k - 8) s 0 (row_at rows row)) ≡ entries_of version1 (bad_use s (status_of k f rows row))
    use-row e = row-use true (row_at rows row) (sym e) refl

    pub use-first : false ≡ eqb (base_of (k - 8)) 3 → entry_of version1 (error (k - 8) s 0 (get_or rows (row + 1) 0 ∷ [])) ≡ entries_of version1 (bad_use s (status_of k f rows row))
    use-first e =
        let so = g.some le in
        let ins = g.inside le in
        let l : length (drop (row + 1) rows) ≡ length rows - (row + 1) = length-drop (row + 1) rows in
        row-use false (get_or rows (row + 1) 0 ∷ []) (sym e) (first_of (get_or rows row 0) (drop (row + 1) rows) so (omega arith) ∙ ap (λ x. x ∷ []) (get_or-drop (row + 1) rows 0 0 ∙ ap (λ x. get_or rows x 0) (omega arith)))

-- the same, of a row that starts at another number that equals it
pub kept_at : {k f : ℕ} {rows : List ℕ} {r row : ℕ} → r ≡ row → Kept k f rows row → Kept k f rows r
kept_at {k} {f} {rows} e g = subst (λ x. Kept k f rows x) (sym e) g

pub use-at : (s k f : ℕ) (rows : List ℕ) {r row : ℕ} → r ≡ row → {l m : List ℕ} {n t : ℕ} → Stored l n (entries_of version1 (bad_use s (status_of k f rows r))) m t × (t ≤ n + 12)
    → Stored l n (entries_of version1 (bad_use s (status_of k f rows row))) m t × (t ≤ n + 12)
use-at s k f rows e {l} {m} {n} {t} w = (subst (λ x. Stored l n (entries_of version1 (bad_use s (status_of k f rows x))) m t) e w.0, w.1)
