-- From the code's answer back to what the definitions answered.
-- Assumes nothing.
use mathlib.Core.Path.{◌≡◌, refl, ap, sym, ◌∙◌}
use Prim.Native.Nat.{ℕ}
use native.Mathlib.Omega.{arith}
use mathlib.Core.List.{List}
use lib.ListN.{length}
use Rattle.std.specs.Prelude.{Result, Ok, Err, IsErr, IsErrAnd}
use Rattle.std.proofs.lemmas.Result.{err_from_is_err_and}
use Rattle.image_fields.specs.declared.Fault.{Fault}
use Rattle.image_fields.specs.Fault.{fault_number, coded}
use Rattle.image_fields.specs.Parsed.{Parsed, ok, fault, bind}
use Rattle.image_fields.specs.Answer.{read_of, number_of, number_or, table_of}

both : {A : Type 0} (f : ℕ → ℕ → A) {a b c d : ℕ} → ◌≡◌ {A = ℕ × ℕ} (a, b) (c, d) → f a b ≡ f c d
both f e = ap (λ z. f z.0 z.1) e

pub number_at : {x : Parsed ℕ} {a p : ℕ} → Ok (a, p) ≡ number_of x → x ≡ ok a p
unfolding number_of
number_at {x = ok b q} {a} {p} e = let z : ◌≡◌ {A = ℕ × ℕ} (b, q) (a, p) = cc in both (λ x y. ok x y) z
number_at {x = fault n} e = cc

pub number-err : {x : Parsed ℕ} {n : ℕ} → Err n ≡ number_of x → x ≡ fault n
unfolding number_of
number-err {x = ok b q} e = cc
number-err {x = fault n} e = cc

pub read_at : {A : Type 0} {x : Parsed A} {p : ℕ} → Ok p ≡ read_of x → (a : A) × (x ≡ ok a p)
unfolding read_of
read_at {x = ok a q} e = (a, cc)
read_at {x = fault n} {p} e = let z : ◌≡◌ {A = ℕ} 0 1 = cc in absurd (omega arith)

pub read-err : {A : Type 0} {x : Parsed A} {n : ℕ} → Err n ≡ read_of x → x ≡ fault n
unfolding read_of
read-err {x = ok a q} e = cc
read-err {x = fault n} e = cc

pub table_at : {A : Type 0} {x : Parsed (List A)} {n p : ℕ} → Ok (n, p) ≡ table_of x → (xs : List A) × (x ≡ ok xs p) × (length xs ≡ n)
unfolding table_of
table_at {x = ok xs q} {n} {p} e = let z : ◌≡◌ {A = ℕ × ℕ} (length xs, q) (n, p) = cc in (xs, both (λ l y. ok xs y) z, both (λ l y. l) z)
table_at {x = fault m} {n} {p} e = let z : ◌≡◌ {A = ℕ} 0 1 = cc in absurd (omega arith)

pub table-err : {A : Type 0} {x : Parsed (List A)} {n : ℕ} → Err n ≡ table_of x → x ≡ fault n
unfolding table_of
table-err {x = ok xs q} e = cc
table-err {x = fault m} e = cc

-- the same of a result that is known to be one or the other
pub number_ok : {x : Parsed ℕ} {a p : ℕ} {r : Result (ℕ × ℕ) Fault} → coded r ≡ number_of x → r ≡ Ok (a, p) → x ≡ ok a p
number_ok e f = number_at (sym (ap coded f) ∙ e)

pub number-wrong : {x : Parsed ℕ} {n : Fault} {r : Result (ℕ × ℕ) Fault} → coded r ≡ number_of x → r ≡ Err n → x ≡ fault (fault_number n)
number-wrong e f = number-err (sym (ap coded f) ∙ e)

pub read_ok : {A : Type 0} {x : Parsed A} {p : ℕ} {r : Result ℕ Fault} → coded r ≡ read_of x → r ≡ Ok p → (a : A) × (x ≡ ok a p)
read_ok e f = read_at (sym (ap coded f) ∙ e)

pub read-fault : {A : Type 0} {x : Parsed A} {n : Fault} {r : Result ℕ Fault} → coded r ≡ read_of x → r ≡ Err n → x ≡ fault (fault_number n)
read-fault e f = read-err (sym (ap coded f) ∙ e)

pub table-ok : {A : Type 0} {x : Parsed (List A)} {n p : ℕ} {r : Result (ℕ × ℕ) Fault} → coded r ≡ table_of x → r ≡ Ok (n, p)
    → (xs : List A) × (x ≡ ok xs p) × (length xs ≡ n)
table-ok e f = table_at (sym (ap coded f) ∙ e)

pub table-wrong : {A : Type 0} {x : Parsed (List A)} {n : Fault} {r : Result (ℕ × ℕ) Fault} → coded r ≡ table_of x → r ≡ Err n → x ≡ fault (fault_number n)
table-wrong e f = table-err (sym (ap coded f) ∙ e)

-- the answers that a reading's outcome makes
pub reads : {A : Type 0} {x : Parsed A} {a : A} {p : ℕ} → x ≡ ok a p → Ok p ≡ read_of x
unfolding read_of
reads e = rw e

pub faults : {A : Type 0} {x : Parsed A} {n : ℕ} → x ≡ fault n → Err n ≡ read_of x
unfolding read_of
faults e = rw e

pub is-number : {x : Parsed ℕ} {a p : ℕ} → x ≡ ok a p → Ok (a, p) ≡ number_of x
unfolding number_of
is-number e = rw e

pub wrong-number : {x : Parsed ℕ} {n : ℕ} → x ≡ fault n → Err n ≡ number_of x
unfolding number_of
wrong-number e = rw e

pub is-number_or : {E : Type 0} (e : E) {x : Parsed ℕ} {a p : ℕ} → x ≡ ok a p → Ok (a, p) ≡ number_or e x
unfolding number_or
is-number_or e h = rw h

pub wrong-number_or : {E : Type 0} (e : E) {x : Parsed ℕ} {n : ℕ} → x ≡ fault n → Err e ≡ number_or e x
unfolding number_or
wrong-number_or e h = rw h

pub is-table : {A : Type 0} {x : Parsed (List A)} {xs : List A} {n p : ℕ} → x ≡ ok xs p → length xs ≡ n → Ok (n, p) ≡ table_of x
unfolding table_of
is-table e l = rw (e, l)

pub wrong-table : {A : Type 0} {x : Parsed (List A)} {n : ℕ} → x ≡ fault n → Err n ≡ table_of x
unfolding table_of
wrong-table e = rw e

-- a step that fails, and one that goes on
pub bind-fault : {A B : Type 0} {x : Parsed A} {n : ℕ} (k : A → ℕ → Parsed B) → x ≡ fault n → bind x k ≡ fault n
unfolding bind
bind-fault k e = rw e

pub bind-next : {A B : Type 0} {x : Parsed A} {a : A} {p : ℕ} (k : A → ℕ → Parsed B) → x ≡ ok a p → bind x k ≡ k a p
unfolding bind
bind-next k e = rw e

-- an answer keeps its position whatever the value is made into
pub mapped : {A B : Type 0} (x : Parsed A) (f : A → B) → read_of (bind x (λ a q. ok (f a) q)) ≡ read_of x
unfolding bind read_of
mapped (ok a q) f = refl
mapped (fault n) f = refl

-- what a `?` gives back: the fault that came
pub passed : {T E : Type 0} {r : Result T E} {e : E} → IsErr r × IsErrAnd r (λ x. x ≡ e) → r ≡ Err e
passed {r = r} h = let p = err_from_is_err_and r h.1 in rw (p.1, p.2)
