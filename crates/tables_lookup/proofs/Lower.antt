-- Types that were read have lower inner types: what the contracts require is met.
-- Assumes nothing.
use Rattle.std.proofs.Common.{◌≡◌, ℕ, zero, suc, ◌+◌, ◌<◌, ◌≤◌, List, [], ◌∷◌, ◌++◌, length, sym, ap, subst, ⊎_elim, arith, length-append}
use lib.ListN.{get_or-append, get_or-eq_default}
use lib.Seq.{get_or-append_seam}
use Rattle.image_fields.specs.Parsed.{ok}
use Rattle.image_fields.specs.Table.{table_from}
use Rattle.image_fields.proofs.Tests.{less}
use Rattle.image_fields.proofs.Inverse.{bound}
use Rattle.image_fields.proofs.Tables.{table-parts}
use Rattle.tables.specs.Limits.{Limits}
use Rattle.tables.specs.Ty.{Ty, type_at, types_at}
use Rattle.tables.proofs.Types.{lower}
use Rattle.tables_lookup.specs.Ty.{type_no, Lower}

-- one more type, whose inner type is before it
lower-more : (xs : List Ty) (x : Ty) → Lower xs → (3 ≤ x.kind → x.of < length xs) → Lower (xs ++ (x ∷ []))
lower-more xs x low h t =
    ⊎_elim
    (λ lt. subst (λ y. 3 ≤ y.kind → y.of < t) (sym (get_or-append xs (x ∷ []) _ t lt)) (low t))
    (λ le. ⊎_elim (λ lt. past lt) (λ ge. here (omega arith)) (less (length xs) t))
    (less t (length xs))
  where
    here : length xs ≡ t → 3 ≤ (type_no (xs ++ (x ∷ [])) t).kind → (type_no (xs ++ (x ∷ [])) t).of < t
    here e =
        subst (λ y. 3 ≤ (type_no (xs ++ (x ∷ [])) y).kind → (type_no (xs ++ (x ∷ [])) y).of < y) e
        (subst (λ y. 3 ≤ y.kind → y.of < length xs) (sym (get_or-append_seam xs x [] _)) h)

    past : length xs < t → 3 ≤ (type_no (xs ++ (x ∷ [])) t).kind → (type_no (xs ++ (x ∷ [])) t).of < t
    past lt l =
        let n : length (xs ++ (x ∷ [])) ≡ length xs + 1 = length-append xs (x ∷ []) in
        let e = ap (λ y. y.kind) (get_or-eq_default (xs ++ (x ∷ [])) (record { kind = 0; of = 0; shape = 0 }) {n = t} (omega arith)) in
        absurd (omega arith)

from-lower : (names : ℕ) (s : List ℕ) (xs : List Ty) (n at : ℕ) (us : List Ty) (q : ℕ) → Lower xs → table_from (type_at names s) xs n at ≡ ok us q → Lower us
unfolding table_from
from-lower names s xs zero at us q low e = let a : xs ≡ us = cc in subst Lower a low
from-lower names s xs (suc n) at us q low e =
    bound e (λ x p e1 e2. from-lower names s (xs ++ (x ∷ [])) n p us q (lower-more xs x low (lower names s xs at x p e1)) e2)

pub types-lower : (L : Limits) (names : ℕ) (s : List ℕ) (at : ℕ) {ts : List Ty} {p : ℕ} → types_at L names s at ≡ ok ts p → Lower ts
unfolding types_at
types-lower L names s at {ts} {p} e =
    let g = table-parts (type_at names s) 4 1 (L.types + 1) s at e in
    from-lower names s [] g.0 g.1 ts p (λ t l. absurd (omega arith)) g.4
