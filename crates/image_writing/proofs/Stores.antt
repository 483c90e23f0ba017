-- Laws of runs of stores.
use Prim.Native.Nat.{ℕ, suc, ◌+◌, ◌-◌, ◌≤◌, ◌<◌, min}
use mathlib.Core.Path.{◌≡◌, refl, sym, ap, ◌∙◌}
use mathlib.Core.List.{List, [], ◌∷◌, ◌++◌}
use mathlib.Core.Logic.{⊎_elim}
use borrow.Rule.Slice.PartMut.{put_mid}
use native.Mathlib.Nat.{add-suc, suc-add, add-zero}
use native.Mathlib.Numerals.{add-one}
use native.Mathlib.Omega.{arith}
use lib.ListN.{length, set, take, drop, length-append, take-append-drop, get_or}
use lib.Seq.{sets, set_out, set_comm, length-sets, slice, slice-cons, take-take, length-take-le}
use Rattle.std.proofs.Common.{rules}
use Rattle.std.proofs.lemmas.List.{drop_all}
use Rattle.std.proofs.lemmas.List.Edits.{sets-eq}
use Rattle.std.proofs.lemmas.Slice.{put_mid-paste, between_is}
use Rattle.image_fields.specs.Bytes.{two_bytes, four_bytes, number_bytes}
use Rattle.image_fields.proofs.Tests.{less}
use Rattle.image_body.specs.Expr.{arg_width, count_width, last_width}
use Rattle.image_encoding.specs.Body.{encode_expr}
use Rattle.rules.specs.Report.{delete_node, ident_node}
use Rattle.image_writing.specs.Stored.{Stored}

pub sets-append : (xs : List ℕ) (i : ℕ) (u v : List ℕ) → sets xs i (u ++ v) ≡ sets (sets xs i u) (i + length u) v
sets-append xs i [] v = ap (λ (k : ℕ). sets xs k v) (sym (add-zero i))
sets-append xs i (a ∷ u) v =
    sets-append (set xs i a) (suc i) u v
    ∙ ap (λ (k : ℕ). sets (sets (set xs i a) (suc i) u) k v) (suc-add i (length u) ∙ sym (add-suc i (length u)))

-- one run of stores after another
pub both_stored : {xs ys zs u v : List ℕ} {i j k : ℕ} → Stored xs i u ys j → Stored ys j v zs k → Stored xs i (u ++ v) zs k
both_stored {xs} {ys} {zs} {u} {v} {i} {j} {k} a b = record {
  cells = b.cells ∙ ap (λ (l : List ℕ). sets l j v) a.cells ∙ ap (λ (n : ℕ). sets (sets xs i u) n v) a.place ∙ sym (sets-append xs i u v);
  place = b.place ∙ ap (λ (n : ℕ). n + length v) a.place ∙ omega (arith, length-append u v);
}

pub none-stored : (xs : List ℕ) (i : ℕ) → Stored xs i [] xs i
none-stored xs i = record { cells = refl; place = sym (add-zero i) }

pub stored-length : {xs ys u : List ℕ} {i j : ℕ} → Stored xs i u ys j → length ys ≡ length xs
stored-length {xs} {ys} {u} {i} a = ap length a.cells ∙ length-sets xs i u

-- a store at an earlier place commutes with a run
pub set-sets : (xs : List ℕ) (i j : ℕ) (a : ℕ) (v : List ℕ) → i < j → set (sets xs j v) i a ≡ sets (set xs i a) j v
set-sets xs i j a [] h = refl
set-sets xs i j a (b ∷ v) h =
    set-sets (set xs j b) i (suc j) a v (omega arith)
    ∙ ap (λ (l : List ℕ). sets l (suc j) v) (set_comm xs j i b a (λ e. omega arith))

pub sets-sets : (xs : List ℕ) (i j : ℕ) (u v : List ℕ) → i + length u ≤ j → sets (sets xs j v) i u ≡ sets (sets xs i u) j v
sets-sets xs i j [] v h = refl
sets-sets xs i j (a ∷ u) v h =
    ap (λ (l : List ℕ). sets l (suc i) u) (set-sets xs i j a v (omega arith))
    ∙ sets-sets (set xs i a) (suc i) j u v (omega arith)

-- a run after a gap, and then the gap's own stores
pub patched : {xs ys zs u v : List ℕ} {i j k m : ℕ} → i + length u ≡ j → Stored xs j v ys k → Stored ys i u zs m → Stored xs i (u ++ v) zs k
patched {xs} {ys} {zs} {u} {v} {i} {j} {k} {m} e a b = record {
  cells = b.cells ∙ ap (λ (l : List ℕ). sets l i u) a.cells ∙ sets-sets xs i j u v (omega arith)
      ∙ ap (λ (n : ℕ). sets (sets xs i u) n v) (sym e) ∙ sym (sets-append xs i u v);
  place = a.place ∙ omega (arith, length-append u v);
}

-- a run past the end stores nothing
pub sets-out : (xs : List ℕ) (i : ℕ) (u : List ℕ) → length xs ≤ i → sets xs i u ≡ xs
sets-out xs i [] h = refl
sets-out xs i (a ∷ u) h =
    ap (λ (l : List ℕ). sets l (suc i) u) (set_out xs i a h) ∙ sets-out xs (suc i) u (omega arith)

-- a part, one element at a time, at the code's i + 1
pub slice-step : (l : List ℕ) (f t : ℕ) → f < t → t ≤ length l → slice f t l ≡ get_or l f 0 ∷ slice (f + 1) t l
slice-step l f t h k = slice-cons f t l 0 h k ∙ ap (λ (n : ℕ). get_or l f 0 ∷ slice n t l) (sym (add-one f))

-- a copy of what fits, by the code's parts
pub copied : (xs vs ys : List ℕ) (at k n : ℕ) → at < length xs → n ≡ min (length vs) (length xs - at) → k ≡ n → ys ≡ take n vs → put_mid at k xs ys ≡ sets xs at vs
copied xs vs ys at k n lt en ek ey =
    put_mid-paste at k xs ys (take n vs) n ey (sym ek) (sym many)
    ∙ ap (λ u. take at xs ++ u ++ drop (at + n) xs) (take-take n n vs (omega arith))
    ∙ ap (λ j. take at xs ++ take n vs ++ drop (at + j) xs) (sym many)
    ∙ sym (sets-eq (take n vs) xs at (omega (arith, many)))
    ∙ sym (ap (λ u. sets xs at u) (sym (take-append-drop n vs)) ∙ sets-append xs at (take n vs) (drop n vs) ∙ rest)
  where
    many : length (take n vs) ≡ n
    many = length-take-le n vs (omega arith)

    rest : sets (sets xs at (take n vs)) (at + length (take n vs)) (drop n vs) ≡ sets xs at (take n vs)
    rest = ⊎_elim
        (λ h. let l = length-sets xs at (take n vs) in let m = many in sets-out (sets xs at (take n vs)) (at + length (take n vs)) (drop n vs) (omega arith))
        (λ h. ap (λ u. sets (sets xs at (take n vs)) (at + length (take n vs)) u) (drop_all n vs h)) (less n (length vs))

-- the part that is copied, as the code borrows it
pub part-fits : (l : List ℕ) (f t n : ℕ) → f ≤ t → n ≤ t - f → take (f + n - f) (drop f l) ≡ take n (slice f t l)
part-fits l f t n le few =
    let e : f + n - f ≡ n = omega arith in
    ap (λ k. take k (drop f l)) e
    ∙ sym (take-take n (t - f) (drop f l) few)
    ∙ ap (take n) (search (rules, between_is))

pub two-length : (n : ℕ) → length (two_bytes n) ≡ 2
unfolding two_bytes
two-length n = refl

pub four-length : (n : ℕ) → length (four_bytes n) ≡ 4
unfolding two_bytes four_bytes
four-length n = refl

-- the statement that deletes a local has 21 bytes
pub delete-length : (p t n : ℕ) → length (3 ∷ (four_bytes p ++ encode_expr (delete_node p (ident_node p t n)))) ≡ 21
unfolding two_bytes four_bytes number_bytes encode_expr arg_width count_width last_width
delete-length p t n = refl
