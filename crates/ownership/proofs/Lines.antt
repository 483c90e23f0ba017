-- Lines from their words and numbers, and lists from their lines.
-- Assumes nothing.
use Prim.Native.Nat.{ℕ, zero, suc, ◌+◌, ◌-◌, ◌*◌, ◌≤◌, ◌<◌, min}
use native.Mathlib.Omega.{arith}
use native.Mathlib.Nat.{mul-suc}
use native.Mathlib.Numerals.{add-one}
use Rattle.std.proofs.lemmas.Nat.{mul-le}
use mathlib.Core.Path.{◌≡◌, refl, sym, ap, ◌∙◌, subst}
use mathlib.Core.List.{List, [], ◌∷◌, ◌++◌, append_assoc}
use lib.ListN.{length, get_or}
use lib.Seq.{slice, slice_empty}
use Rattle.image_writing.specs.Stored.{Stored}
use Rattle.image_writing.proofs.Stores.{both_stored, none-stored, slice-step}
use Rattle.programs_text.specs.Text.{spell, numbers, line}
use Rattle.programs_text.proofs.Spells.{spelled_as}
use Rattle.ownership.specs.Text.{error_line, lines}

-- numbers one after another
pub numbers-append : (a b : List ℕ) → numbers (a ++ b) ≡ numbers a ++ numbers b
unfolding numbers
numbers-append [] b = refl
numbers-append (n ∷ a) b =
    ap (λ r. (32 ∷ spell 19 n) ++ r) (numbers-append a b) ∙ sym (append_assoc (32 ∷ spell 19 n) (numbers a) (numbers b))

module _ {xs ys zs : List ℕ} {p q r : ℕ} where
  pub next-number : (l : List ℕ) (i t n : ℕ) → n ≡ get_or l i 0 → i < t → t ≤ length l
      → Stored xs p (32 ∷ spell 19 n) ys q → Stored ys q (numbers (slice (i + 1) t l)) zs r → Stored xs p (numbers (slice i t l)) zs r
  unfolding numbers
  next-number l i t n e h k a b =
      spelled_as (ap numbers (slice-step l i t h k))
      (both_stored (subst (λ m. Stored xs p (32 ∷ spell 19 m) ys q) e a) b)

  pub next-line : (f : ℕ → List ℕ) (stride n at : ℕ) → 0 < n
      → Stored xs p (f at) ys q → Stored ys q (lines f stride (n - 1) (at + stride)) zs r → Stored xs p (lines f stride n at) zs r
  unfolding lines
  next-line f stride zero at h a b = absurd (omega arith)
  next-line f stride (suc n) at h a b =
      let e : suc n - 1 ≡ n = omega arith in
      both_stored a (subst (λ k. Stored ys q (lines f stride k (at + stride)) zs r) e b)

pub no_line : (xs : List ℕ) (p : ℕ) (f : ℕ → List ℕ) (stride n at : ℕ) → n ≡ 0 → Stored xs p (lines f stride n at) xs p
unfolding lines
no_line xs p f stride zero at e = none-stored xs p
no_line xs p f stride (suc n) at e = absurd (omega arith)

-- of so many entries, one after another
pub entry-line : {xs ys zs : List ℕ} {p q r : ℕ} (f : ℕ → List ℕ) (stride many i : ℕ) → i < many
    → Stored xs p (f (stride * i)) ys q → Stored ys q (lines f stride (many - (i + 1)) (stride * (i + 1))) zs r → Stored xs p (lines f stride (many - i) (stride * i)) zs r
entry-line {xs} {ys} {zs} {p} {q} {r} f stride many i h a b =
    let e : many - (i + 1) ≡ many - i - 1 = omega arith in
    let d : stride * (i + 1) ≡ stride * i + stride = ap (λ (k : ℕ). stride * k) (add-one i) ∙ mul-suc stride i in
    next-line f stride (many - i) (stride * i) (omega arith) a
    (subst (λ k. Stored ys q (lines f stride (many - i - 1) k) zs r) d (subst (λ k. Stored ys q (lines f stride k (stride * (i + 1))) zs r) e b))

pub lines-start : {xs ys : List ℕ} {p q : ℕ} (f : ℕ → List ℕ) (stride many : ℕ) → Stored xs p (lines f stride (many - 0) (stride * 0)) ys q → Stored xs p (lines f stride many 0) ys q
lines-start {xs} {ys} {p} {q} f stride many s =
    let e : many - 0 ≡ many = omega arith in
    let d : stride * 0 ≡ 0 = omega arith in
    subst (λ k. Stored xs p (lines f stride k 0) ys q) e (subst (λ k. Stored xs p (lines f stride (many - 0) k) ys q) d s)

pub lines-end : (xs : List ℕ) (p : ℕ) (f : ℕ → List ℕ) (stride many i at : ℕ) → i ≡ many → Stored xs p (lines f stride (many - i) at) xs p
lines-end xs p f stride many i at e = no_line xs p f stride (many - i) at (omega arith)

pub no_number : (xs l : List ℕ) (p i t : ℕ) → i ≡ t → Stored xs p (numbers (slice i t l)) xs p
unfolding numbers
no_number xs l p i t e = spelled_as (ap (λ k. numbers (slice k t l)) e ∙ ap numbers (slice_empty t l)) (none-stored xs p)

-- a word, two runs of numbers, the line's end
pub two_runs : {xs ys zs us vs : List ℕ} {p q r t w : ℕ} (word a b : List ℕ)
    → Stored xs p word ys q → Stored ys q (numbers a) zs r → Stored zs r (numbers b) us t → Stored us t (10 ∷ []) vs w → Stored xs p (line word (a ++ b)) vs w
two_runs word a b s u v w =
    spelled_as (ap (λ l. word ++ (l ++ (10 ∷ []))) (numbers-append a b) ∙ ap (λ l. word ++ l) (append_assoc (numbers a) (numbers b) (10 ∷ [])))
    (both_stored s (both_stored u (both_stored v w)))

-- an error's entry, of which the code shows k other places
pub error-put : {xs ys zs us vs : List ℕ} {p q r t w : ℕ} (l : List ℕ) (at k : ℕ) → k ≡ min (get_or l (at + 3) 0) 8
    → Stored xs p (101 ∷ 114 ∷ 114 ∷ 111 ∷ 114 ∷ []) ys q → Stored ys q (numbers (slice at (at + 3) l)) zs r
    → Stored zs r (numbers (slice (at + 4) (at + 4 + k) l)) us t → Stored us t (10 ∷ []) vs w → Stored xs p (error_line l at) vs w
error-put {xs} {ys} {zs} {us} {vs} {p} {q} {r} {t} {w} l at k e a b c d =
    subst (λ j. Stored xs p (line (101 ∷ 114 ∷ 114 ∷ 111 ∷ 114 ∷ []) (slice at (at + 3) l ++ slice (at + 4) (at + 4 + j) l)) vs w) e
    (two_runs _ (slice at (at + 3) l) (slice (at + 4) (at + 4 + k) l) a b c d)

-- entries of a width within a list
pub entry-inside : (width many i n : ℕ) → i < many → width * many ≤ n → width * i + width ≤ n
entry-inside width many i n h g =
    let a : width * suc i ≡ width * i + width = mul-suc width i in
    let b : width * suc i ≤ width * many = mul-le width (suc i) width many (omega arith) (omega arith) in
    omega arith
