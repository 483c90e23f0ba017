-- Tests as types.
-- Assumes nothing.
use Rattle.std.proofs.Common.{◌≡◌, ℕ, suc, ◌≤◌, Bool, true, false, ◌&&◌, ◌||◌, T as So, eqb, leb, sym, refl, subst, arith, le→leb, eqb→eq, leb→le}
use lib.Dec.{eqb_refl}

pub and_l : (a b : Bool) → So (a && b) → So a
and_l true b t = tt
and_l false b t = t

pub and_r : (a b : Bool) → So (a && b) → So b
and_r true b t = t
and_r false b t = absurd t

pub and_i : (a b : Bool) → So a → So b → So (a && b)
and_i true b p q = q
and_i false b p q = p

pub yes≡ : (a : Bool) → So a → a ≡ true
yes≡ true t = refl
yes≡ false t = absurd t

pub no≡ : (a : Bool) → (So a → ⊥) → a ≡ false
no≡ true f = absurd (f tt)
no≡ false f = refl

pub of≡ : (a : Bool) → a ≡ true → So a
of≡ a e = subst So (sym e) tt

pub of-false : (a : Bool) → a ≡ false → So a → ⊥
of-false a e t = subst So e t

pub or_l : (a b : Bool) → So a → So (a || b)
or_l true b t = tt
or_l false b t = absurd t

pub or_r : (a b : Bool) → So b → So (a || b)
or_r true b t = tt
or_r false b t = t

pub leb-refl : (n : ℕ) → So (leb n n)
leb-refl n = le→leb n n (omega arith)

pub leb-suc : (m n : ℕ) → So (leb m n) → So (leb m (suc n))
leb-suc m n t = le→leb m (suc n) (let h : m ≤ n = leb→le m n t in omega arith)

pub below≢ : (m n : ℕ) → So (leb m n) → eqb m (suc n) ≡ false
below≢ m n t = no≡ (eqb m (suc n)) λ u. let h : m ≤ n = leb→le m n t in let e : m ≡ suc n = eqb→eq m (suc n) u in omega arith

pub eqb-self : (n : ℕ) → eqb n n ≡ true
eqb-self n = yes≡ (eqb n n) (eqb_refl n)
