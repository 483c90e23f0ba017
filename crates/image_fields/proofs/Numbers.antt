-- A number that was read is below its limit and stands in the bytes.
-- Assumes nothing.
use mathlib.Core.Path.{◌≡◌, refl, sym, ap, ◌∙◌, subst}
use mathlib.Core.List.{List}
use mathlib.Core.Logic.{⊎_elim}
use Prim.Native.Nat.{ℕ, ◌+◌, ◌-◌, ◌≤◌, ◌<◌}
use native.Mathlib.Omega.{arith}
use borrow.Author.Tests.{leb-true, leb-false, ltb-true, ltb-false, le-leb, lt-leb, lt-ltb, le-ltb}
use lib.ListN.{length, get_or, get_or-eq_default}
use lib.Dec.{leb, ltb}
use Rattle.image_fields.specs.Parsed.{ok, fault, ensure}
use Rattle.image_fields.specs.Number.{number_in, field_at}
use mathlib.Core.Bool.{Bool, true, false}
use Rattle.std.specs.Prelude.{Result}
use Rattle.image_fields.specs.declared.Fault.{Fault}
use Rattle.image_fields.specs.Fault.{fault_number, coded}
use Rattle.image_fields.specs.Answer.{number_of, number_or}
use Rattle.image_fields.proofs.Tests.{split}
use Rattle.image_fields.proofs.Inverse.{ensure-ok, impossible}

-- past the end a byte counts as 0
pub past_end : (s : List ℕ) (n : ℕ) → length s ≤ n → get_or s n 0 ≡ 0
past_end s n h = get_or-eq_default s 0 h

pub record Field (f limit k : ℕ) (s : List ℕ) (at n next : ℕ) : Type 0 where
  pub fits : k ≤ length s - at
  pub is : n ≡ number_in s k at
  pub small : n < limit
  pub end : next ≡ at + k

pub field-ok : {f limit k : ℕ} {s : List ℕ} {at n next : ℕ} → field_at f limit k s at ≡ ok n next → Field f limit k s at n next
unfolding field_at
field-ok {limit = limit} {k} {s} {at} {n} {next} e =
    let (t1, e1) = ensure-ok _ e in
    let (t2, e2) = ensure-ok _ e1 in
    let z : number_in s k at ≡ n = cc in
    record { fits = leb-true _ _ t1; is = sym z; small = subst (λ x. x < limit) z (ltb-true _ _ t2); end = cc }

-- a position that is not before the end stays so
pub field_end : {f limit k : ℕ} {s : List ℕ} {at n next : ℕ} → at ≤ length s → Field f limit k s at n next → next ≤ length s
field_end le g = let a = g.fits in let b = g.end in omega arith

module _ (f limit k : ℕ) (s : List ℕ) (at : ℕ) where
  pub field-short : {r : ℕ} → r ≡ length s - at → r < k → field_at f limit k s at ≡ fault f
  unfolding field_at ensure
  field-short e lt = simp (← e, lt-leb _ _ lt)

  pub field-large : {r n : ℕ} → r ≡ length s - at → k ≤ r → n ≡ number_in s k at → limit ≤ n → field_at f limit k s at ≡ fault f
  unfolding field_at ensure
  field-large {r} {n} e le en l = simp (← e, le-leb _ _ le, ← en, le-ltb _ _ l)

  pub field-good : {r n : ℕ} → r ≡ length s - at → k ≤ r → n ≡ number_in s k at → n < limit → field_at f limit k s at ≡ ok n (at + k)
  unfolding field_at ensure
  field-good e le en l = simp (← e, le-leb _ _ le, ← en, lt-ltb _ _ l)

-- what is said of a number that is not there, as a fault
coded_or : (f : Fault) (a b : Bool) (n p : ℕ) → coded (number_or f (ensure a (fault_number f) (ensure b (fault_number f) (ok n p)))) ≡ number_of (ensure a (fault_number f) (ensure b (fault_number f) (ok n p)))
unfolding ensure number_or number_of
coded_or f true true n p = refl
coded_or f true false n p = refl
coded_or f false b n p = refl

pub coded-field : (f : Fault) (limit k : ℕ) (s : List ℕ) (at : ℕ) (r : Result (ℕ × ℕ) Fault) → r ≡ number_or f (field_at (fault_number f) limit k s at)
    → coded r ≡ number_of (field_at (fault_number f) limit k s at)
unfolding field_at
coded-field f limit k s at r e = ap coded e ∙ coded_or f (leb k (length s - at)) (ltb (number_in s k at) limit) (number_in s k at) (at + k)

-- the same number below a smaller limit
module _ (f large small k : ℕ) (s : List ℕ) (at : ℕ) where
  pub narrow-stop : {n : ℕ} → small ≤ large → field_at f large k s at ≡ fault n → field_at f small k s at ≡ fault n
  unfolding field_at ensure
  narrow-stop {n} le e =
      ⊎_elim (λ t. ⊎_elim (λ l. impossible (sym e ∙ field-good f large k s at refl (leb-true _ _ t) refl (ltb-true _ _ l)))
      (λ l. let h = ltb-false (number_in s k at) large l in field-large f small k s at refl (leb-true _ _ t) refl (omega arith) ∙ sym (field-large f large k s at refl (leb-true _ _ t) refl h) ∙ e)
      (split (ltb (number_in s k at) large)))
      (λ t. let h = leb-false k (length s - at) t in field-short f small k s at refl h ∙ sym (field-short f large k s at refl h) ∙ e)
      (split (leb k (length s - at)))

  module _ {n next : ℕ} (e : field_at f large k s at ≡ ok n next) where
    pub narrow-large : small ≤ n → field_at f small k s at ≡ fault f
    narrow-large le = let g = field-ok e in field-large f small k s at refl g.fits g.is le

    pub narrow-good : n < small → field_at f small k s at ≡ ok n next
    narrow-good lt = let g = field-ok e in field-good f small k s at refl g.fits g.is lt ∙ ap (λ q. ok n q) (sym g.end)
