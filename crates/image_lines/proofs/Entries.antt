-- The lines of an entry, three other places at a time.
-- Assumes nothing.
use Prim.Native.Nat.{ℕ, zero, suc, ◌+◌, ◌-◌, ◌≤◌, ◌<◌, min}
use native.Mathlib.Omega.{arith}
use native.Mathlib.Nat.{suc-add, zero-add}
use mathlib.Core.Path.{◌≡◌, refl, sym, ◌∙◌, ap, subst}
use mathlib.Core.List.{List, [], ◌∷◌, ◌++◌, append-nil, flatten}
use mathlib.Core.Logic.{⊎_elim}
use borrow.Author.Tests.{ltb-true, ltb-false}
use lib.Dec.{ltb}
use lib.ListN.{length, get_or, take, drop, replicate, length-take, drop_of_length-le}
use lib.Seq.{slice, slice_empty, length-slice, take_all, take_at, take-take, drop-drop, length-take-le, take-nil}
use Rattle.tables.specs.Limits.{Limits}
use Rattle.image_fields.proofs.Tests.{split}
use Rattle.rules.specs.Report.{error, warning, left}
use Rattle.rules.specs.Verdict.{entry_of}
use Rattle.rules_page.specs.Page.{bytes, kind_name, blanks, head, line, lines, entry}
use Rattle.rules_page.proofs.Shape.{kind-fit, left-fit, head-begins, lines_are, lines-length, lines-count}
use Rattle.image_writing.specs.Stored.{Stored}
use Rattle.image_writing.proofs.Stores.{both_stored, none-stored, sets-out}
use Rattle.image_lines.specs.Lined.{shown, error_of}
use Rattle.image_lines.specs.Further.{further_lines}

lines-three : (h ps : List ℕ) → lines h ps ≡ line h (take 3 ps) ∷ further_lines (drop 3 ps)
unfolding lines further_lines
lines-three h [] = refl
lines-three h (a ∷ []) = refl
lines-three h (a ∷ b ∷ []) = refl
lines-three h (a ∷ b ∷ c ∷ []) = refl
lines-three h (a ∷ b ∷ c ∷ d ∷ ps) = refl

further-three : (ps : List ℕ) → 0 < length ps → further_lines ps ≡ line (blanks 36) (take 3 ps) ∷ further_lines (drop 3 ps)
unfolding further_lines
further-three [] h = absurd (omega arith)
further-three (p ∷ ps) h = lines-three (blanks 36) (p ∷ ps)

-- parts of a part
take-drop : (i n : ℕ) (l : List ℕ) → take n (drop i l) ≡ drop i (take (i + n) l)
take-drop zero n l = rw zero-add
take-drop (suc i) n [] = take-nil n ∙ sym (ap (drop (suc i)) (take-nil (suc i + n)))
take-drop (suc i) n (x ∷ l) = rw suc-add (take-drop i n l)

-- a part as the code takes it: so many numbers from a position on
module _ (l : List ℕ) (i e t : ℕ) (k : t ≤ length l) (h : i ≤ t) (is : e ≡ min (i + 3) t) where
  three-taken : take (i + 3) (take t l) ≡ take e l
  three-taken = ⊎_elim
      (λ q. let f = ltb-true t (i + 3) q in let n = length-take-le t l k in let j : t ≡ e = omega arith in take_all (i + 3) (take t l) (omega arith) ∙ ap (λ m. take m l) j)
      (λ q. let f = ltb-false t (i + 3) q in let j : i + 3 ≡ e = omega arith in take-take (i + 3) t l f ∙ ap (λ m. take m l) j) (split (ltb t (i + 3)))

  three-dropped : drop (i + 3) (take t l) ≡ drop e (take t l)
  three-dropped = ⊎_elim
      (λ q. let f = ltb-true t (i + 3) q in let n = length-take-le t l k in let j : t ≡ e = omega arith in drop_of_length-le (take t l) {i = i + 3} (omega arith) ∙ sym (slice_empty t l) ∙ ap (λ m. drop m (take t l)) j)
      (λ q. let f = ltb-false t (i + 3) q in let j : i + 3 ≡ e = omega arith in ap (λ m. drop m (take t l)) j) (split (ltb t (i + 3)))

  three-first : take 3 (slice i t l) ≡ take (e - i) (drop i l)
  three-first =
      let j : i + (e - i) ≡ e = omega arith in
      take-drop i 3 (take t l) ∙ ap (drop i) three-taken ∙ rw (take-drop i (e - i) l, j)

  three-rest : drop 3 (slice i t l) ≡ slice e t l
  three-rest = drop-drop 3 i (take t l) ∙ three-dropped

  -- three places on a line, and the rest on lines behind it
  module _ {xs ys zs : List ℕ} {p q r : ℕ} where
    pub lines-put : (h : List ℕ) → Stored xs p (line h (take (e - i) (drop i l))) ys q → Stored ys q (flatten (further_lines (slice e t l))) zs r →
        Stored xs p (flatten (lines h (slice i t l))) zs r
    unfolding flatten
    lines-put h a b = rw (lines-three, three-first, three-rest) (both_stored a b)

    pub further-put : i < t → Stored xs p (line (blanks 36) (take (e - i) (drop i l))) ys q → Stored ys q (flatten (further_lines (slice e t l))) zs r →
        Stored xs p (flatten (further_lines (slice i t l))) zs r
    unfolding flatten
    further-put g a b =
        let n = length-slice i t l k in
        rw (further-three (slice i t l) (omega arith), three-first, three-rest) (both_stored a b)

pub further-none : (xs l : List ℕ) (p i t : ℕ) → i ≡ t → Stored xs p (flatten (further_lines (slice i t l))) xs p
unfolding flatten further_lines
further-none xs l p i t e = rw (e, slice_empty t l) (none-stored xs p)

-- the numbers of an error's entry
others-part : (n : ℕ) (l : List ℕ) → slice 4 (4 + n) l ≡ take n (drop 4 l)
others-part n l = sym (take-drop 4 n l)

error-length : (l : List ℕ) → get_or l 3 0 ≤ 8 → length (shown (error_of l)) ≤ 219
unfolding shown entry
error-length l h =
    let k = kind_name (get_or l 0 0) in
    let ps = take (get_or l 3 0) (drop 4 l) in
    let n = length-take (get_or l 3 0) (drop 4 l) in
    let c = lines-count (head k (get_or l 1 0)) ps in
    omega (arith, lines-length (lines_are (head k (get_or l 1 0)) ps (head-begins k (get_or l 1 0) (kind-fit (get_or l 0 0)))))

module _ (l : List ℕ) (e : ℕ) (k : 4 + get_or l 3 0 ≤ length l) (is : e ≡ min 7 (4 + get_or l 3 0)) (few : get_or l 3 0 ≤ 8) where
  pub error-put : {xs ys zs : List ℕ} {p q r : ℕ} →
      Stored xs p (line (head (kind_name (get_or l 0 0)) (get_or l 1 0)) (take (e - 4) (drop 4 l))) ys q → Stored ys q (flatten (further_lines (slice e (4 + get_or l 3 0) l))) zs r →
      Stored xs p (shown (error_of l)) zs r × (r ≤ p + 219)
  unfolding shown entry
  error-put {xs} {ys} {zs} {p} {q} {r} a b =
      let h = head (kind_name (get_or l 0 0)) (get_or l 1 0) in
      let s = subst (λ ps. Stored xs p (flatten (lines h ps)) zs r) (others-part (get_or l 3 0) l) (lines-put l 4 e (4 + get_or l 3 0) k (omega arith) is h a b) in
      (s, omega (arith, s.place, error-length l few))

-- an entry's numbers are those of its error
pub error-entry : (L : Limits) (n p h : ℕ) (ps : List ℕ) → length ps ≤ L.places → error_of (entry_of L (error n p h ps)) ≡ error n p h ps
error-entry L n p h ps few =
    let t = take-take (length ps) L.places (ps ++ replicate L.places 0) few ∙ take_at ps _ (length ps) refl in
    ap (error n p h) t

-- a line of a name and one other place
pub warning-put : {xs ys : List ℕ} {p r : ℕ} (s o : ℕ) → Stored xs p (line (head (bytes "unused result") s) (o ∷ [])) ys r → Stored xs p (shown (warning s o)) ys r
unfolding shown entry lines flatten
warning-put s o a = rw append-nil a

pub left-put : {xs ys : List ℕ} {p r : ℕ} (s n b : ℕ) → Stored xs p (line (head (bytes "left behind") s) (n ∷ b ∷ [])) ys r → Stored xs p (shown (left s n b)) ys r
unfolding shown entry lines flatten
left-put s n b a = rw append-nil a

-- one past the end of memory
left-length : (s n b : ℕ) → length (shown (left s n b)) ≡ 73
unfolding shown entry
left-length s n b =
    let c = lines-count (head (bytes "left behind") s) (n ∷ b ∷ []) in
    omega (arith, lines-length (lines_are (head (bytes "left behind") s) (n ∷ b ∷ []) (head-begins (bytes "left behind") s left-fit)))

pub left-past : {xs : List ℕ} {p : ℕ} (s n b : ℕ) → length xs ≤ p → Stored xs p (shown (left s n b)) xs (p + 73)
left-past {xs} {p} s n b h = record { cells = sym (sets-out xs p (shown (left s n b)) h); place = ap (λ (k : ℕ). p + k) (sym (left-length s n b)) }
