-- An assignment: its delete, and the name it makes alive again.
-- Assumes nothing.
use Rattle.std.proofs.Common.{◌≡◌, ℕ, Bool, true, false, cond, not, ◌&&◌, ◌||◌, T as So, eqb, ◌⊎◌, [], ◌∷◌, sym, refl, ap, ◌∙◌, subst, ap₂, inl, inr, eqb→eq, T_not}
use mathlib.Core.Option.{Option, none, some}
use Rattle.tables.specs.Tables.{Tables}
use Rattle.image_body.specs.Expr.{Expr}
use Rattle.rules.specs.Questions.{auto}
use Rattle.rules.specs.Expr.{View, an_ident, a_this, a_field, a_delete, a_call, other, view, Named, nobody, called, ident_in, name_in}
use Rattle.rules.specs.Stack.{Static, Local, local, Stack, Shape, shape, in_frame, mark, lookup, static_of}
use Rattle.rules.specs.Effects.{assign_takes}
use Rattle.rules.specs.Rules.{holding, drop_of, excludes, apply_all, revived, drop_newest, drop_named, after_assign}
use Rattle.rules.specs.Run.{given_up, value_of, holds, dropped, admits}
use Rattle.rules.proofs.Bools.{and_l, no≡, eqb-self}
use Rattle.rules.proofs.Through.{split, delete_all}
use Rattle.rules.proofs.Names.{cond_yes, cond_no, Once, shape-deletes}

twice : (x a : Bool) → cond x true (cond x false a) ≡ cond x true a
twice true a = refl
twice false a = refl

same-same : (n d : ℕ) (H : Stack Bool) → in_frame n d (λ a. true) (in_frame n d (λ a. false) H) ≡ in_frame n d (λ a. true) H
same-same n d [] = refl
same-same n d (local s a ∷ H) =
    ap₂ (λ (b : Bool) (σ : Stack Bool). local s b ∷ σ) (twice (eqb s.name n && eqb s.depth d) a) (same-same n d H)

revive-deleted : (n : ℕ) (H : Stack Bool) → mark n (λ a. true) (given_up n H) ≡ mark n (λ a. true) H
revive-deleted n [] = refl
revive-deleted n (local s a ∷ H) = go (split (eqb s.name n)) (revive-deleted n H)
  where
    up : Bool → Bool
    up x = true

    go : So (eqb s.name n) ⊎ So (not (eqb s.name n)) → mark n (λ x. true) (given_up n H) ≡ mark n (λ x. true) H → mark n (λ x. true) (given_up n (local s a ∷ H)) ≡ mark n (λ x. true) (local s a ∷ H)
    go (inl y) ih =
        ap (mark n (λ x. true)) (cond_yes (eqb s.name n) (local s false ∷ in_frame n s.depth (λ x. false) H) (local s a ∷ mark n (λ x. false) H) y)
        ∙ (cond_yes (eqb s.name n) (local s true ∷ in_frame n s.depth (λ x. true) (in_frame n s.depth (λ x. false) H)) (local s false ∷ mark n (λ x. true) (in_frame n s.depth (λ x. false) H)) y
        ∙ (ap (λ (σ : Stack Bool). local s true ∷ σ) (same-same n s.depth H)
        ∙ sym (cond_yes (eqb s.name n) (local s true ∷ in_frame n s.depth (λ x. true) H) (local s a ∷ mark n (λ x. true) H) y)))
    go (inr y) ih =
        ap (mark n (λ x. true)) (cond_no (eqb s.name n) (local s false ∷ in_frame n s.depth (λ x. false) H) (local s a ∷ mark n (λ x. false) H) y)
        ∙ (cond_no (eqb s.name n) (local s true ∷ in_frame n s.depth (λ x. true) (mark n (λ x. false) H)) (local s a ∷ mark n (λ x. true) (mark n (λ x. false) H)) y
        ∙ (ap (λ (σ : Stack Bool). local s a ∷ σ) ih
        ∙ sym (cond_no (eqb s.name n) (local s true ∷ in_frame n s.depth (λ x. true) H) (local s a ∷ mark n (λ x. true) H) y)))

module _ (T : Tables) (q : Static → Bool) (p : ℕ) where
  revive-cond : (n : ℕ) (c : Bool) (t : ℕ) (H : Stack Bool) → mark n (λ a. true) (delete_all (cond c (drop_of p n t ∷ []) []) H) ≡ mark n (λ a. true) H
  revive-cond n true t H = revive-deleted n H
  revive-cond n false t H = refl

  revive-newest : (n : ℕ) (l : Option (Local Bool)) (H : Stack Bool) → mark n (λ a. true) (delete_all (drop_newest holding T q p n l) H) ≡ mark n (λ a. true) H
  revive-newest n none H = refl
  revive-newest n (some (local s a)) H = revive-cond n (q s && a && auto T s.ty) s.ty H

  revive-all : (w : View) (σ H : Stack Bool) → revived holding (name_in w) (delete_all (drop_named holding T q p (ident_in w) σ) H) ≡ revived holding (name_in w) H
  revive-all (an_ident n s) σ H = revive-newest n (lookup n σ) H
  revive-all (a_this s) σ H = refl
  revive-all (a_field s e m) σ H = refl
  revive-all (a_delete e) σ H = refl
  revive-all (a_call f) σ H = refl
  revive-all other σ H = refl

  -- the delete before an assignment changes nothing after it
  pub after-delete : (e v : Expr) (σ H : Stack Bool) → after_assign holding T e v (delete_all (drop_named holding T q p (ident_in (view e)) σ) H) ≡ after_assign holding T e v H
  after-delete e v σ H =
      ap₂ (λ (Γ : Shape) (τ : Stack Bool). apply_all holding (assign_takes T Γ e v) τ) (shape-deletes (drop_named holding T q p (ident_in (view e)) σ) H) (revive-all (view e) σ H)

  once-one : (n : ℕ) (c : Bool) (t : ℕ) → Once (cond c (drop_of p n t ∷ []) [])
  once-one n true t = (tt, tt)
  once-one n false t = tt

  once-newest : (n : ℕ) (l : Option (Local Bool)) → Once (drop_newest holding T q p n l)
  once-newest n none = tt
  once-newest n (some (local s a)) = once-one n (q s && a && auto T s.ty) s.ty

  pub once-named : (m : Named) (σ : Stack Bool) → Once (drop_named holding T q p m σ)
  once-named nobody σ = tt
  once-named (called n s) σ = once-newest n (lookup n σ)

  -- which name it drops
  admits-not : (o : Option Static) → ((s : Static) → So (q s) → ⊥) → So (admits T q o) → ⊥
  admits-not none f t = t
  admits-not (some s) f t = f s (and_l (q s) (auto T s.ty) t)

  one_name : (n k : ℕ) (c : Bool) (t : ℕ) → So (dropped n (cond c (drop_of p k t ∷ []) [])) → So (eqb k n)
  one_name n k true t u = or-false (eqb k n) u
    where
      or-false : (b : Bool) → So (b || false) → So b
      or-false true x = tt
      or-false false x = x
  one_name n k false t u = absurd u

  newest-name : (n k : ℕ) (l : Option (Local Bool)) → So (dropped n (drop_newest holding T q p k l)) → So (eqb k n)
  newest-name n k none u = absurd u
  newest-name n k (some (local s a)) u = one_name n k (q s && a && auto T s.ty) s.ty u

  admits-name : (n k : ℕ) → ((s : Static) → So (q s) → So (eqb s.name k)) → (Γ : Shape) → So (admits T q (static_of n Γ)) → So (eqb k n)
  admits-name n k h [] t = absurd t
  admits-name n k h (s ∷ Γ) t = go (split (eqb s.name n)) (admits-name n k h Γ)
    where
      go : So (eqb s.name n) ⊎ So (not (eqb s.name n)) → (So (admits T q (static_of n Γ)) → So (eqb k n)) → So (eqb k n)
      go (inl y) ih =
          let z : So (q s && auto T s.ty) = subst (λ (o : Option Static). So (admits T q o)) (cond_yes (eqb s.name n) (some s) (static_of n Γ) y) t in
          subst (λ (m : ℕ). So (eqb m n)) (eqb→eq s.name k (h s (and_l (q s) (auto T s.ty) z))) y
      go (inr y) ih = ih (subst (λ (o : Option Static). So (admits T q o)) (cond_no (eqb s.name n) (some s) (static_of n Γ) y) t)

  drop-one : (k : ℕ) (a u c : Bool) (t : ℕ) → dropped k (cond (c && a && u) (drop_of p k t ∷ []) []) ≡ ((c && u) && a)
  drop-one k true true true t = ap (λ (b : Bool). b || false) (eqb-self k)
  drop-one k true false true t = refl
  drop-one k false true true t = refl
  drop-one k false false true t = refl
  drop-one k a u false t = refl

  named_self : (k : ℕ) (σ : Stack Bool) → dropped k (drop_newest holding T q p k (lookup k σ)) ≡ (admits T q (static_of k (shape σ)) && holds k σ)
  named_self k [] = refl
  named_self k (local s a ∷ σ) = go (eqb s.name k) (named_self k σ)
    where
      go : (c : Bool) → dropped k (drop_newest holding T q p k (lookup k σ)) ≡ (admits T q (static_of k (shape σ)) && holds k σ)
          → dropped k (drop_newest holding T q p k (cond c (some (local s a)) (lookup k σ))) ≡ (admits T q (cond c (some s) (static_of k (shape σ))) && value_of (cond c (some (local s a)) (lookup k σ)))
      go true ih = drop-one k a (auto T s.ty) (q s) s.ty
      go false ih = ih

  -- q admits locals of the name only
  pub dropped-named : (n : ℕ) (m : Named) (σ : Stack Bool) → ((s : Static) → So (q s) → So (excludes m s.name)) → dropped n (drop_named holding T q p m σ) ≡ (admits T q (static_of n (shape σ)) && holds n σ)
  dropped-named n nobody σ h =
      sym (no≡ (admits T q (static_of n (shape σ)) && holds n σ) λ t. admits-not (static_of n (shape σ)) h (and_l (admits T q (static_of n (shape σ))) (holds n σ) t))
  dropped-named n (called k s) σ h = go (split (eqb k n))
    where
      go : So (eqb k n) ⊎ So (not (eqb k n)) → dropped n (drop_newest holding T q p k (lookup k σ)) ≡ (admits T q (static_of n (shape σ)) && holds n σ)
      go (inl y) = subst (λ (m : ℕ). dropped m (drop_newest holding T q p k (lookup k σ)) ≡ (admits T q (static_of m (shape σ)) && holds m σ)) (eqb→eq k n y) (named_self k σ)
      go (inr y) =
          no≡ (dropped n (drop_newest holding T q p k (lookup k σ))) (λ t. T_not (eqb k n) y (newest-name n k (lookup k σ) t))
          ∙ sym (no≡ (admits T q (static_of n (shape σ)) && holds n σ)
          (λ t. T_not (eqb k n) y (admits-name n k h (shape σ) (and_l (admits T q (static_of n (shape σ))) (holds n σ) t))))
