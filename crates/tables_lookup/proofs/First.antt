-- The first entry that passes a test, looked for from the first on; what an answer tells of it.
-- Assumes nothing.
use Rattle.std.proofs.Common.{◌≡◌, ℕ, zero, suc, ◌+◌, ◌-◌, ◌*◌, ◌<◌, ◌≤◌, Bool, true, false, List, [], ◌∷◌, map, length, get_or, drop, refl, ap, ◌∙◌, ⊎_elim, add-one, arith, drop-cons}
use mathlib.Core.Option.{Option, none, some}
use Rattle.std.specs.Prelude as std
use lib.Seq.{drop-length}
use Rattle.std.specs.List.{position, position_from}
use Rattle.std.proofs.lemmas.Iterator.Adapters.{position_from-zero}
use Rattle.image_fields.specs.Table.{entries}
use Rattle.image_fields.proofs.Tests.{split, less}
use Rattle.image_fields.proofs.Numbers.{past_end}
use Rattle.tables_lookup.specs.First.{first_from, and_then, or_else, AllWithin}
use Rattle.tables_lookup.specs.Answer.{found_of}

-- the code's answers
pub found : {o : Option ℕ} {i : ℕ} → o ≡ some i → std.Some i ≡ found_of o
unfolding found_of
found e = rw e

pub missing : {o : Option ℕ} → o ≡ none → std.None ≡ found_of o
unfolding found_of
missing e = rw e

pub was-found : {o : Option ℕ} {i : ℕ} {r : std.Option ℕ} → r ≡ found_of o → r ≡ std.Some i → o ≡ some i
unfolding found_of
was-found {o = none} e f = cc
was-found {o = some j} e f = cc

pub was-missing : {o : Option ℕ} {r : std.Option ℕ} → r ≡ found_of o → r ≡ std.None → o ≡ none
unfolding found_of
was-missing {o = none} e f = cc
was-missing {o = some j} e f = cc

pub or_found : (o p : Option ℕ) {r q : std.Option ℕ} {P : Type 0} → r ≡ found_of o → std.MatchOption r P (λ x. q ≡ std.Some x) → (P → q ≡ found_of p) → q ≡ found_of (or_else o p)
unfolding found_of or_else
or_found none p e h k = k (rw e at h)
or_found (some i) p e h k = rw e at h

pub goes_on : {A B : Type 0} {o : Option A} {a : A} (k : A → Option B) → o ≡ some a → and_then o k ≡ k a
unfolding and_then
goes_on k e = rw e

pub stops : {A B : Type 0} {o : Option A} (k : A → Option B) → o ≡ none → and_then o k ≡ none
unfolding and_then
stops k e = rw e

-- the library's search for a place
from_found : {A : Type 0} (q : A → Bool) (i : ℕ) (xs : List A) → position_from q i xs ≡ found_of (first_from q i xs)
unfolding found_of first_from
from_found q i [] = refl
from_found q i (x ∷ xs) = ⊎_elim (λ t. rw t) (λ t. rw t (from_found q (i + 1) xs)) (split (q x))

pub first_found : {A : Type 0} (q : A → Bool) (xs : List A) → position q xs ≡ found_of (first_from q 0 xs)
first_found q xs = position_from-zero q xs ∙ from_found q 0 xs

-- the steps of a loop
module _ {A : Type 0} (q : A → Bool) where
  pub first-none : (i : ℕ) {xs : List A} → xs ≡ [] → first_from q i xs ≡ none
  unfolding first_from
  first-none i e = rw e

  pub first-here : (i : ℕ) {xs ys : List A} {y : A} → xs ≡ y ∷ ys → q y ≡ true → first_from q i xs ≡ some i
  unfolding first_from
  first-here i e t = rw (e, t)

  pub first_next : (i : ℕ) {xs ys : List A} {y : A} → xs ≡ y ∷ ys → q y ≡ false → first_from q i xs ≡ first_from q (i + 1) ys
  unfolding first_from
  first_next i e t = rw (e, t)

  -- what is found is in the table
  pub first_below : (i : ℕ) (xs : List A) {k : ℕ} → first_from q i xs ≡ some k → k < i + length xs
  unfolding first_from
  first_below i [] {k} e = let z : ◌≡◌ {A = ℕ} 0 1 = cc in absurd (omega arith)
  first_below i (x ∷ xs) {k} e =
      ⊎_elim
      (λ t. let z : i ≡ k = here t in omega arith)
      (λ t. let g : k < i + 1 + length xs = first_below (i + 1) xs (rw t at e) in omega arith)
      (split (q x))
    where
      here : q x ≡ true → i ≡ k
      here t = let f = rw t at e in cc

-- a test of what a view makes of the entries
pub first-map : {A B : Type 0} (q : B → Bool) (p : A → Bool) (view : A → B) → ((a : A) → q (view a) ≡ p a)
    → (i : ℕ) (xs : List A) → first_from q i (map view xs) ≡ first_from p i xs
unfolding first_from
first-map q p view same i [] = refl
first-map q p view same i (x ∷ xs) = rw (same x, first-map q p view same (i + 1) xs)

-- what is left of a table's positions
pub rest-starts : (starts : List ℕ) (i : ℕ) → i < length starts → drop i starts ≡ get_or starts i 0 ∷ drop (i + 1) starts
rest-starts starts i lt = rw (add-one, drop-cons starts i 0)

pub no-starts : (starts : List ℕ) (i : ℕ) → i ≤ length starts → length starts ≤ i → drop i starts ≡ []
no-starts starts i le ge = let e : i ≡ length starts = omega arith in rw e (drop-length starts)

module _ {A : Type 0} (view : ℕ → A) (w : ℕ) where
  pub rest-entries : (n i p : ℕ) → i < n → entries view w (n - i) p ≡ view p ∷ entries view w (n - (i + 1)) (p + w)
  unfolding entries
  rest-entries n i p lt = let e : n - i ≡ suc (n - (i + 1)) = omega arith in rw e

  pub no-entries : (n i p : ℕ) → n ≤ i → entries view w (n - i) p ≡ []
  unfolding entries
  no-entries n i p le = let e : n - i ≡ 0 = omega arith in rw e

  pub entry_at : (n p i : ℕ) (d : A) → i < n → get_or (entries view w n p) i d ≡ view (p + w * i)
  unfolding entries
  entry_at zero p i d lt = absurd (omega arith)
  entry_at (suc n) p zero d lt = ap view (omega arith)
  entry_at (suc n) p (suc i) d lt = entry_at n (p + w) i d (omega arith) ∙ ap view (omega arith)

pub step : (w n i : ℕ) → i < n → w * (n - i) ≡ w + w * (n - (i + 1))
step w n i lt = let e : n - i ≡ suc (n - (i + 1)) = omega arith in rw e (omega arith)

pub viewed : {A : Type 0} (view : ℕ → A) (starts : List ℕ) (i : ℕ) (d : A) → i < length starts → get_or (map view starts) i d ≡ view (get_or starts i 0)
viewed view [] i d lt = absurd (omega arith)
viewed view (x ∷ xs) zero d lt = refl
viewed view (x ∷ xs) (suc i) d lt = viewed view xs i d (omega arith)

-- past the table a position counts as 0
pub within : (s starts : List ℕ) → AllWithin s starts → (n : ℕ) {at : ℕ} → at ≡ get_or starts n 0 → at ≤ length s
within s starts h n e =
    ⊎_elim
    (λ lt. let g : get_or starts n 0 < length s = h n lt in omega arith)
    (λ le. let g : get_or starts n 0 ≡ 0 = past_end starts n le in omega arith)
    (less n (length starts))
