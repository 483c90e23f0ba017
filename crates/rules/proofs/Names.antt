-- What a stack says of a name, and which names the inserted deletes have.
-- Assumes nothing.
use Rattle.std.proofs.Common.{◌≡◌, ℕ, Bool, true, false, cond, not, ◌&&◌, ◌||◌, T as So, eqb, ◌⊎◌, List, [], ◌∷◌, sym, refl, ap, ◌∙◌, subst, inl, inr, eqb→eq, T_not}
use mathlib.Core.Option.{Option, none, some}
use lib.Dec.{eqb_refl, not_T}
use Rattle.tables.specs.Tables.{Tables}
use Rattle.rules.specs.Questions.{auto}
use Rattle.rules.specs.Stack.{Static, Local, local, Stack, Shape, shape, in_frame, mark, lookup, pop, static_of, has}
use Rattle.rules.specs.Rules.{holding, Drop, drop_of, collect}
use Rattle.rules.specs.Run.{given_up, value_of, holds, dropped, admits}
use Rattle.rules.proofs.Bools.{and_l, no≡, or_l, or_r}
use Rattle.rules.proofs.Relate.{Rel, empty, both}
use Rattle.rules.proofs.Shapes.{Distinct, shape-mark}
use Rattle.rules.proofs.Order.{Under, Over}
use Rattle.rules.proofs.Through.{split, delete_all}

pub cond_yes : {A : Type 0} (c : Bool) (x y : A) → So c → cond c x y ≡ x
cond_yes true x y t = refl
cond_yes false x y t = absurd t

pub cond_no : {A : Type 0} (c : Bool) (x y : A) → So (not c) → cond c x y ≡ y
cond_no true x y t = absurd t
cond_no false x y t = refl

look-head : (P : Bool → Bool → Type 0) (c : Bool) (s : Static) (a b : Bool) (o o' : Option (Local Bool)) → (So c → P a b) → P (value_of o) (value_of o')
    → P (value_of (cond c (some (local s a)) o)) (value_of (cond c (some (local s b)) o'))
look-head P true s a b o o' r q = r tt
look-head P false s a b o o' r q = q

-- related values of the locals named m
pub look : (P : Bool → Bool → Type 0) → P false false → (m : ℕ) {σ τ : Stack Bool} → Rel (λ k a b. So (eqb k m) → P a b) σ τ → P (holds m σ) (holds m τ)
look P z m empty = z
look P z m (both {s = s} {a = a} {b = b} {σ = σ} {τ = τ} r rs) = look-head P (eqb s.name m) s a b (lookup m σ) (lookup m τ) r (look P z m rs)

pub under-holds : (m : ℕ) {σ H : Stack Bool} → Under σ H → So (holds m σ) → So (holds m H)
under-holds m u = look (λ a b. So a → So b) (λ x. x) m (weaken u)
  where
    weaken : {σ H : Stack Bool} → Under σ H → Rel (λ k a b. So (eqb k m) → So a → So b) σ H
    weaken empty = empty
    weaken (both r rs) = both (λ e. r) (weaken rs)

pub over-holds : (m : ℕ) {σ H : Stack Bool} → Over m σ H → So (holds m H) → So (holds m σ)
over-holds m o = look (λ a b. So b → So a) (λ x. x) m o

-- giving up n leaves the other names
other-same : (m n d : ℕ) → So (not (eqb n m)) → (σ : Stack Bool) → Rel (λ k a b. So (eqb k m) → a ≡ b) (in_frame n d (λ a. false) σ) σ
other-same m n d ne [] = empty
other-same m n d ne (local s a ∷ σ) = both (λ e. cond_no (eqb s.name n && eqb s.depth d) false a (not_T (eqb s.name n && eqb s.depth d) λ t. clash m n s ne e (and_l (eqb s.name n) (eqb s.depth d) t))) (other-same m n d ne σ)
  where
    clash : (m n : ℕ) (s : Static) → So (not (eqb n m)) → So (eqb s.name m) → So (eqb s.name n) → ⊥
    clash m n s ne e t = T_not (eqb n m) ne (subst (λ (k : ℕ). So (eqb k m)) (eqb→eq s.name n t) e)

other-mark : (m n : ℕ) → So (not (eqb n m)) → (σ : Stack Bool) → Rel (λ k a b. So (eqb k m) → a ≡ b) (mark n (λ a. false) σ) σ
other-mark m n ne [] = empty
other-mark m n ne (local s a ∷ σ) = go (split (eqb s.name n)) (other-mark m n ne σ)
  where
    go : So (eqb s.name n) ⊎ So (not (eqb s.name n)) → Rel (λ k a b. So (eqb k m) → a ≡ b) (mark n (λ a. false) σ) σ → Rel (λ k a b. So (eqb k m) → a ≡ b) (mark n (λ a. false) (local s a ∷ σ)) (local s a ∷ σ)
    go (inl y) ih =
        subst (λ (x : Stack Bool). Rel (λ k a b. So (eqb k m) → a ≡ b) x (local s a ∷ σ)) (sym (cond_yes (eqb s.name n) _ (local s a ∷ mark n (λ a. false) σ) y))
        (both (λ e. absurd (T_not (eqb n m) ne (subst (λ (k : ℕ). So (eqb k m)) (eqb→eq s.name n y) e))) (other-same m n s.depth ne σ))
    go (inr y) ih =
        subst (λ (x : Stack Bool). Rel (λ k a b. So (eqb k m) → a ≡ b) x (local s a ∷ σ)) (sym (cond_no (eqb s.name n) (local s false ∷ in_frame n s.depth (λ a. false) σ) _ y))
        (both (λ e. refl) ih)

pub holds-other : (m n : ℕ) → So (not (eqb n m)) → (H : Stack Bool) → holds m (given_up n H) ≡ holds m H
holds-other m n ne H = look (λ a b. a ≡ b) refl m (other-mark m n ne H)

-- the names that collect drops
dropped-cond : (n : ℕ) (t : Bool) (p m y : ℕ) (x : List Drop) → dropped n (cond t (drop_of p m y ∷ x) x) ≡ ((t && eqb m n) || dropped n x)
dropped-cond n true p m y x = refl
dropped-cond n false p m y x = refl

or_cases : (a b c : Bool) → So ((a && b) || c) → So b ⊎ So c
or_cases true true c t = inl tt
or_cases true false c t = inr t
or_cases false b c t = inr t

module _ (T : Tables) (q : Static → Bool) (p : ℕ) where
  pub dropped-has : (n : ℕ) (σ : Stack Bool) → So (dropped n (collect holding T q p σ)) → So (has n (shape σ))
  dropped-has n [] t = t
  dropped-has n (local s a ∷ σ) t =
      go (or_cases (q s && a && auto T s.ty) (eqb s.name n) (dropped n (collect holding T q p σ))
      (subst So (dropped-cond n (q s && a && auto T s.ty) p s.name s.ty (collect holding T q p σ)) t))
      (dropped-has n σ)
    where
      go : So (eqb s.name n) ⊎ So (dropped n (collect holding T q p σ)) → (So (dropped n (collect holding T q p σ)) → So (has n (shape σ))) → So (eqb s.name n || has n (shape σ))
      go (inl y) ih = or_l (eqb s.name n) (has n (shape σ)) y
      go (inr y) ih = or_r (eqb s.name n) (has n (shape σ)) (ih y)

  shuffle : (x a u D : Bool) → D ≡ false → (((x && a && u) && true) || D) ≡ ((x && u) && a)
  shuffle true true true D e = refl
  shuffle true true false D e = e
  shuffle true false true D e = e
  shuffle true false false D e = e
  shuffle false a u D e = e

  drop-off : (x D : Bool) → ((x && false) || D) ≡ D
  drop-off true D = refl
  drop-off false D = refl

  drop_head : (c : Bool) (s : Static) (a D : Bool) (o : Option Static) (l : Option (Local Bool)) → (So c → D ≡ false) → D ≡ (admits T q o && value_of l)
      → (((q s && a && auto T s.ty) && c) || D) ≡ (admits T q (cond c (some s) o) && value_of (cond c (some (local s a)) l))
  drop_head true s a D o l f e = shuffle (q s) a (auto T s.ty) D (f tt)
  drop_head false s a D o l f e = drop-off (q s && a && auto T s.ty) D ∙ e

  pub dropped-collect : (n : ℕ) (σ : Stack Bool) → Distinct (shape σ) → dropped n (collect holding T q p σ) ≡ (admits T q (static_of n (shape σ)) && holds n σ)
  dropped-collect n [] d = refl
  dropped-collect n (local s a ∷ σ) d =
      dropped-cond n (q s && a && auto T s.ty) p s.name s.ty (collect holding T q p σ)
      ∙ drop_head (eqb s.name n) s a (dropped n (collect holding T q p σ)) (static_of n (shape σ)) (lookup n σ)
      (λ y. no≡ (dropped n (collect holding T q p σ)) λ t.
      T_not (has s.name (shape σ)) d.0 (subst (λ (k : ℕ). So (has k (shape σ))) (sym (eqb→eq s.name n y)) (dropped-has n σ t)))
      (dropped-collect n σ d.1)

-- no name is deleted twice
abbrev pub Once : List Drop → Type 0
Once [] = Unit {0}
Once (drop_of p n t ∷ x) = So (not (dropped n x)) × Once x

once-cond : (c : Bool) (p n t : ℕ) (x : List Drop) → So (not (dropped n x)) → Once x → Once (cond c (drop_of p n t ∷ x) x)
once-cond true p n t x y o = (y, o)
once-cond false p n t x y o = o

pub once-collect : (T : Tables) (q : Static → Bool) (p : ℕ) (σ : Stack Bool) → Distinct (shape σ) → Once (collect holding T q p σ)
once-collect T q p [] d = tt
once-collect T q p (local s a ∷ σ) d =
    once-cond (q s && a && auto T s.ty) p s.name s.ty (collect holding T q p σ)
    (not_T (dropped s.name (collect holding T q p σ)) λ t. T_not (has s.name (shape σ)) d.0 (dropped-has T q p s.name σ t))
    (once-collect T q p σ d.1)

-- each delete, come to, is of a held local
abbrev pub HeldDrops : List Drop → Stack Bool → Type 0
HeldDrops [] H = Unit {0}
HeldDrops (drop_of p n t ∷ x) H = So (holds n H) × HeldDrops x (given_up n H)

pub held-drops : (x : List Drop) (H : Stack Bool) → ((n : ℕ) → So (dropped n x) → So (holds n H)) → Once x → HeldDrops x H
held-drops [] H f o = tt
held-drops (drop_of p n t ∷ x) H f o = (
  f n (or_l (eqb n n) (dropped n x) (eqb_refl n)),
  held-drops x (given_up n H)
      (λ m u. subst So (sym (holds-other m n (not_T (eqb n m) λ e. T_not (dropped n x) o.0 (subst (λ (k : ℕ). So (dropped k x)) (sym (eqb→eq n m e)) u)) H)) (f m (or_r (eqb n m) (dropped m x) u)))
      o.1,
)

-- a block's deletes touch its own frame only
abbrev pub depth_is : ℕ → Option Static → Bool
depth_is d none = false
depth_is d (some s) = eqb s.depth d

pub depth-of : (T : Tables) (d : ℕ) (o : Option Static) → So (admits T (λ s. eqb s.depth d) o) → So (depth_is d o)
depth-of T d none t = t
depth-of T d (some s) t = and_l (eqb s.depth d) (auto T s.ty) t

pop-head : (c x : Bool) (s : Static) (a : Bool) (σ τ : Stack Bool) → σ ≡ τ → cond c σ (local s (cond (x && c) false a) ∷ σ) ≡ cond c τ (local s a ∷ τ)
pop-head true x s a σ τ e = e
pop-head false true s a σ τ e = ap (λ (y : Stack Bool). local s a ∷ y) e
pop-head false false s a σ τ e = ap (λ (y : Stack Bool). local s a ∷ y) e

pop-same : (d n : ℕ) (H : Stack Bool) → pop d (in_frame n d (λ a. false) H) ≡ pop d H
pop-same d n [] = refl
pop-same d n (local s a ∷ H) = pop-head (eqb s.depth d) (eqb s.name n) s a (pop d (in_frame n d (λ a. false) H)) (pop d H) (pop-same d n H)

pop-mark : (d n : ℕ) (H : Stack Bool) → So (depth_is d (static_of n (shape H))) → pop d (given_up n H) ≡ pop d H
pop-mark d n [] t = refl
pop-mark d n (local s a ∷ H) t = go (split (eqb s.name n)) (pop-mark d n H)
  where
    go : So (eqb s.name n) ⊎ So (not (eqb s.name n)) → (So (depth_is d (static_of n (shape H))) → pop d (given_up n H) ≡ pop d H) → pop d (given_up n (local s a ∷ H)) ≡ pop d (local s a ∷ H)
    go (inl y) ih =
        let z : So (eqb s.depth d) = subst (λ (o : Option Static). So (depth_is d o)) (cond_yes (eqb s.name n) (some s) (static_of n (shape H)) y) t in
        ap (pop d) (cond_yes (eqb s.name n) (local s false ∷ in_frame n s.depth (λ a. false) H) (local s a ∷ mark n (λ a. false) H) y)
        ∙ (cond_yes (eqb s.depth d) (pop d (in_frame n s.depth (λ a. false) H)) (local s false ∷ pop d (in_frame n s.depth (λ a. false) H)) z
        ∙ (ap (λ (k : ℕ). pop d (in_frame n k (λ a. false) H)) (eqb→eq s.depth d z)
        ∙ (pop-same d n H ∙ sym (cond_yes (eqb s.depth d) (pop d H) (local s a ∷ pop d H) z))))
    go (inr y) ih =
        let z : So (depth_is d (static_of n (shape H))) = subst (λ (o : Option Static). So (depth_is d o)) (cond_no (eqb s.name n) (some s) (static_of n (shape H)) y) t in
        ap (pop d) (cond_no (eqb s.name n) (local s false ∷ in_frame n s.depth (λ a. false) H) (local s a ∷ mark n (λ a. false) H) y)
        ∙ ap (λ (x : Stack Bool). cond (eqb s.depth d) x (local s a ∷ x)) (ih z)

pub shape-deletes : (x : List Drop) (H : Stack Bool) → shape (delete_all x H) ≡ shape H
shape-deletes [] H = refl
shape-deletes (drop_of p n t ∷ x) H = shape-deletes x (given_up n H) ∙ shape-mark n (λ a. false) H

pub pop-deletes : (x : List Drop) (d : ℕ) (H : Stack Bool) → ((n : ℕ) → So (dropped n x) → So (depth_is d (static_of n (shape H)))) → pop d (delete_all x H) ≡ pop d H
pop-deletes [] d H f = refl
pop-deletes (drop_of p n t ∷ x) d H f =
    pop-deletes x d (given_up n H) (λ m u. subst (λ (Γ : Shape). So (depth_is d (static_of m Γ))) (sym (shape-mark n (λ a. false) H)) (f m (or_r (eqb n m) (dropped m x) u)))
    ∙ pop-mark d n H (f n (or_l (eqb n n) (dropped n x) (eqb_refl n)))
