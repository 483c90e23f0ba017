-- What the pass says of a local against what a run holds.
-- Assumes nothing.
use Rattle.std.proofs.Common.{◌≡◌, ℕ, Bool, true, false, cond, not, ◌&&◌, ◌||◌, T as So, eqb, ◌⊎◌, List, [], ◌∷◌, sym, refl, ap, subst, inl, inr, eqb→eq, T_not}
use lib.Dec.{not_T}
use Rattle.rules.specs.Stack.{Static, local, Stack, Shape, shape, in_frame, mark, has}
use Rattle.rules.specs.Effects.{Effect, use', kill, hand, bad_move, global_move}
use Rattle.rules.specs.Rules.{holding, apply, apply_all, joins, Keeps}
use Rattle.rules.proofs.Bools.{and_l, and_r, and_i, of-false, or_l, or_r}
use Rattle.rules.proofs.Relate.{Rel, empty, both, Hom, reflexive-hom, rel-refl}
use Rattle.rules.proofs.Shapes.{Distinct, shape-joins}

-- what σ says is alive, H holds
abbrev pub Under : Stack Bool → Stack Bool → Type 0
Under σ H = Rel (λ m a h. So a → So h) σ H

-- of locals named n: what H holds, σ says is alive
abbrev pub Over : ℕ → Stack Bool → Stack Bool → Type 0
Over n σ H = Rel (λ m a h. So (eqb m n) → So h → So a) σ H

abbrev pub Same : Stack Bool → Stack Bool → Type 0
Same σ τ = Rel (λ m a b. Unit {0}) σ τ

pub under-hom : Hom holding holding (λ m a h. So a → So h)
under-hom = reflexive-hom _ (λ m a x. x)

pub over-hom : (n : ℕ) → Hom holding holding (λ m a h. So (eqb m n) → So h → So a)
over-hom n = reflexive-hom _ (λ m a x y. y)

pub under-refl : (σ : Stack Bool) → Under σ σ
under-refl σ = rel-refl _ (λ m a x. x) σ

pub over-refl : (n : ℕ) (σ : Stack Bool) → Over n σ σ
over-refl n σ = rel-refl _ (λ m a x y. y) σ

pub under-trans : {σ τ υ : Stack Bool} → Under σ τ → Under τ υ → Under σ υ
under-trans empty empty = empty
under-trans (both r rs) (both q qs) = both (λ x. q (r x)) (under-trans rs qs)

pub over-trans : (n : ℕ) {σ τ υ : Stack Bool} → Over n σ τ → Over n τ υ → Over n σ υ
over-trans n empty empty = empty
over-trans n (both r rs) (both q qs) = both (λ e x. r e (q e x)) (over-trans n rs qs)

-- a run that holds less still loses what the pass says is not alive
pub over-lower : (n : ℕ) {σ H H' : Stack Bool} → Over n σ H → Under H' H → Over n σ H'
over-lower n empty empty = empty
over-lower n (both r rs) (both q qs) = both (λ e x. r e (q x)) (over-lower n rs qs)

abbrev head_s : Shape → Static → Static
head_s [] d = d
head_s (s ∷ Γ) d = s

abbrev tail_s : Shape → Shape
tail_s [] = []
tail_s (s ∷ Γ) = Γ

abbrev is_cons : Shape → Bool
is_cons [] = false
is_cons (s ∷ Γ) = true

pub same_shape : {A B : Type 0} (σ : Stack A) (τ : Stack B) → shape σ ≡ shape τ → Rel (λ m a b. Unit {0}) σ τ
same_shape [] [] e = empty
same_shape [] (local t b ∷ τ) e = absurd (of-false true (ap is_cons (sym e)) tt)
same_shape (local s a ∷ σ) [] e = absurd (of-false true (ap is_cons e) tt)
same_shape (local s a ∷ σ) (local t b ∷ τ) e =
    subst (λ (u : Static). Rel (λ m a b. Unit {0}) (local s a ∷ σ) (local u b ∷ τ)) (ap (λ (Γ : Shape). head_s Γ s) e) (both tt (same_shape σ τ (ap tail_s e)))

pub joins-left : (σ τ : Stack Bool) → Under (joins holding σ τ) σ
joins-left [] τ = empty
joins-left (l ∷ σ) [] = under-refl (l ∷ σ)
joins-left (local s a ∷ σ) (local t b ∷ τ) = both (and_l a b) (joins-left σ τ)

pub joins-right : {σ τ : Stack Bool} → Same σ τ → Under (joins holding σ τ) τ
joins-right empty = empty
joins-right (both {a = a} {b = b} r rs) = both (and_r a b) (joins-right rs)

pub keeps-under : {σ τ : Stack Bool} → Same σ τ → Keeps holding σ τ → Under σ τ
keeps-under empty k = empty
keeps-under (both r rs) k = both k.0 (keeps-under rs k.1)

-- no local is named n
pub absent : (n : ℕ) {σ τ : Stack Bool} → Under σ τ → So (not (has n (shape σ))) → Over n σ τ
absent n empty t = empty
absent n (both {s = s} {σ = σ} r rs) t =
    both (λ e. absurd (T_not (eqb s.name n || has n (shape σ)) t (or_l (eqb s.name n) (has n (shape σ)) e)))
    (absent n rs (not_T (has n (shape σ)) λ u. T_not (eqb s.name n || has n (shape σ)) t (or_r (eqb s.name n) (has n (shape σ)) u)))

pick-head : (n : ℕ) (c : Bool) (s : Static) (a b : Bool) (ρ σ τ : Stack Bool) → eqb s.name n ≡ c → (So c → Over n ρ σ × Over n ρ τ) → Over n ρ σ ⊎ Over n ρ τ
    → Over n (local s (a && b) ∷ ρ) (local s a ∷ σ) ⊎ Over n (local s (a && b) ∷ ρ) (local s b ∷ τ)
pick-head n true s true b ρ σ τ e f o = inr (both (λ x y. y) (f tt).1)
pick-head n true s false b ρ σ τ e f o = inl (both (λ x y. y) (f tt).0)
pick-head n false s a b ρ σ τ e f (inl o) = inl (both (λ x. absurd (of-false _ e x)) o)
pick-head n false s a b ρ σ τ e f (inr o) = inr (both (λ x. absurd (of-false _ e x)) o)

-- one of two branches loses the local named n, if their join does
pub pick : (n : ℕ) {σ τ : Stack Bool} → Same σ τ → Distinct (shape σ) → Over n (joins holding σ τ) σ ⊎ Over n (joins holding σ τ) τ
pick n empty d = inl empty
pick n (both {s = s} {a = a} {b = b} {σ = σ} {τ = τ} r rs) d =
    pick-head n (eqb s.name n) s a b (joins holding σ τ) σ τ refl
    (λ x.
    let fresh : So (not (has n (shape (joins holding σ τ)))) =
    subst (λ (Γ : Shape). So (not (has n Γ))) (sym (shape-joins holding σ τ)) (subst (λ (m : ℕ). So (not (has m (shape σ)))) (eqb→eq s.name n x) d.0) in
    (absent n (joins-left σ τ) fresh, absent n (joins-right rs) fresh))
    (pick n rs d.1)

-- evaluating gives up, and never takes back
lower-same : (n d : ℕ) (σ : Stack Bool) → Under (in_frame n d (λ a. false) σ) σ
lower-same n d [] = empty
lower-same n d (local s a ∷ σ) = both (go (eqb s.name n && eqb s.depth d) a) (lower-same n d σ)
  where
    go : (c a : Bool) → So (cond c false a) → So a
    go true a x = absurd x
    go false a x = x

lower_cond : (c : Bool) (σ τ υ : Stack Bool) → Under σ υ → Under τ υ → Under (cond c σ τ) υ
lower_cond true σ τ υ p q = p
lower_cond false σ τ υ p q = q

pub lower-mark : (n : ℕ) (σ : Stack Bool) → Under (mark n (λ a. false) σ) σ
lower-mark n [] = empty
lower-mark n (local s a ∷ σ) =
    lower_cond (eqb s.name n) _ _ _ (both (λ x. absurd x) (lower-same n s.depth σ)) (both (λ x. x) (lower-mark n σ))

lower : (e : Effect) (σ : Stack Bool) → Under (apply holding e σ) σ
lower (use' n s) σ = under-refl σ
lower (kill k n s) σ = lower-mark n σ
lower (hand n s) σ = lower-mark n σ
lower (bad_move s h) σ = under-refl σ
lower (global_move s g) σ = under-refl σ

pub lower-all : (es : List Effect) (σ : Stack Bool) → Under (apply_all holding es σ) σ
lower-all [] σ = under-refl σ
lower-all (e ∷ es) σ = under-trans (lower-all es (apply holding e σ)) (lower e σ)

-- past a loop whose body keeps what lived before it
pub joins-over : (n : ℕ) {σ τ : Stack Bool} → Under σ τ → Over n (joins holding τ σ) σ
joins-over n empty = empty
joins-over n (both {a = a} {b = b} r rs) = both (λ e x. and_i b a (r x) x) (joins-over n rs)
