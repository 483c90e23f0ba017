-- Exactness: a run can pass any statements that do not surely return, losing whatever local the pass says is not alive after them.
-- Assumes nothing.
use Rattle.std.proofs.Common.{◌≡◌, ℕ, suc, Bool, true, false, cond, not, ◌&&◌, T as So, ◌⊎◌, List, [], ◌∷◌, ◌++◌, sym, refl, ◌∙◌, subst, inl, inr, T_not}
use mathlib.Core.Option.{Option}
use Rattle.tables.specs.Tables.{Tables}
use Rattle.image_body.specs.Expr.{Expr}
use Rattle.image_body.specs.Stmt.{Code, Tree, done, expr_stmt, variable, assign, return, bare_return, block, if_else, if_then, while, jump}
use Rattle.rules.specs.Stack.{Stack, Shape, shape, pop, has}
use Rattle.rules.specs.Effects.{effects, expr_stmt_effects, assign_effects}
use Rattle.rules.specs.Rules.{holding, Drop, drop_of, Decided, sure_from, is_done, joins, merge, Keeps, evaluate, after_expr, after_variable, before_assign, after_assign, exit, decide, Plain, declared, Policy, end_drops, assign_drops}
use Rattle.rules.specs.Report.{first}
use Rattle.rules.specs.Run.{next, into, second, Path, Task, code, deleting, closing, assigned, Config, at, given_up, choose, Steps, arrived, onward}
use Rattle.rules.proofs.Bools.{leb-refl}
use Rattle.rules.proofs.Relate.{rel-pop, rel-evaluate, rel-expr, rel-before, rel-after, rel-variable}
use Rattle.rules.proofs.Shapes.{Within, Distinct, within-suc, shape-doing, shape-joins, shape-merge, shape-assign, shape-variable, shape-inner}
use Rattle.rules.proofs.Order.{Under, Over, Same, over-hom, under-refl, under-trans, over-trans, over-lower, same_shape, keeps-under, pick, lower-mark, lower-all, joins-over}

-- locals of at most this depth, no two of one name
abbrev pub Fit : ℕ → Shape → Type 0
Fit d Γ = Within d Γ × Distinct Γ

pub fit-by : (d : ℕ) {Γ Γ' : Shape} → Γ' ≡ Γ → Fit d Γ → Fit d Γ'
fit-by d e f = subst (λ (Δ : Shape). Fit d Δ) (sym e) f

pub fit-deeper : (d : ℕ) (Γ : Shape) → Fit d Γ → Fit (suc d) Γ
fit-deeper d Γ f = (within-suc d Γ f.0, f.1)

pub split : (b : Bool) → So b ⊎ So (not b)
split true = inl tt
split false = inr tt

module _ {X Y : Type 0} where
  pub done-from : (r : Code X Y) → So (is_done r) → (b : Bool) → sure_from r b ≡ b
  done-from (done x) t b = refl
  done-from (expr_stmt s e y r) t b = absurd t
  done-from (variable k s n u e r) t b = absurd t
  done-from (assign s e v u x r) t b = absurd t
  done-from (return s e u x r) t b = absurd t
  done-from (bare_return s u x r) t b = absurd t
  done-from (block s c r) t b = absurd t
  done-from (if_else s e ts u us v r) t b = absurd t
  done-from (if_then s e ts u r) t b = absurd t
  done-from (while s e ts u r) t b = absurd t
  done-from (jump k s x r) t b = absurd t

  pub not-sure : (r : Code X Y) (b : Bool) → So (is_done r) → So b → So (not (sure_from r b)) → ⊥
  not-sure r b t y n = T_not b (subst (λ (x : Bool). So (not x)) (done-from r t b) n) y

  pub sure-rest : (r : Code X Y) (b : Bool) → So (not b) → So (not (sure_from r b)) → So (not (sure_from r false))
  sure-rest r true n t = absurd n
  sure-rest r false n t = t

-- the inserted deletes, one after the other
abbrev pub delete_all : List Drop → Stack Bool → Stack Bool
delete_all [] H = H
delete_all (drop_of p n t ∷ x) H = delete_all x (given_up n H)

module _ (T : Tables) where
  pub steps-trans : {a b c : Config} → Steps T a b → Steps T b c → Steps T a c
  steps-trans {c = c} (arrived e) q = subst (λ (x : Config). Steps T x c) (sym e) q
  steps-trans (onward p) q = onward (steps-trans p q)

  pub fit-variable : (d s n t : ℕ) (e : Expr) (σ : Stack Bool) → Fit d (shape σ) → So (not (has n (shape σ))) → Fit d (shape (after_variable holding T (declared d s n t) e σ))
  fit-variable d s n t e σ f fresh = fit-by d (shape-variable holding T (declared d s n t) e σ) ((leb-refl d, f.0), (fresh, f.1))

  pub shape-evaluate : (e : Expr) (σ : Stack Bool) → shape (evaluate holding T e σ) ≡ shape σ
  shape-evaluate e σ = shape-doing holding (λ Γ. effects T Γ e) σ

  pub shape-expr : (e : Expr) (σ : Stack Bool) → shape (after_expr holding T e σ) ≡ shape σ
  shape-expr e σ = shape-doing holding (λ Γ. expr_stmt_effects T Γ e) σ

  pub shape-before : (e v : Expr) (σ : Stack Bool) → shape (before_assign holding T e v σ) ≡ shape σ
  shape-before e v σ = shape-doing holding (λ Γ. assign_effects T Γ e v) σ

  pub shape-assigned : (e v : Expr) (σ : Stack Bool) → shape (after_assign holding T e v (before_assign holding T e v σ)) ≡ shape σ
  shape-assigned e v σ = shape-assign holding T e v (before_assign holding T e v σ) ∙ shape-before e v σ

  -- the condition of a loop, against before it
  pub loop-under : (e : Expr) (t : Tree) (d : ℕ) (σ : Stack Bool) → Fit d (shape σ) → Keeps holding σ (exit holding T t (suc d) (evaluate holding T e σ)) → Under σ (exit holding T t (suc d) (evaluate holding T e σ))
  loop-under e t d σ f k =
      keeps-under
      (same_shape σ (exit holding T t (suc d) (evaluate holding T e σ))
      (sym (shape-inner holding T t d (evaluate holding T e σ) (fit-by d (shape-evaluate e σ) f).0 ∙ shape-evaluate e σ)))
      k

  pub loop-under' : (e : Expr) (t : Tree) (d : ℕ) (σ : Stack Bool) → Fit d (shape σ) → Keeps holding σ (exit holding T t (suc d) (evaluate holding T e σ)) → Under (evaluate holding T e σ) (exit holding T t (suc d) (evaluate holding T e σ))
  loop-under' e t d σ f k = under-trans (lower-all (effects T (shape σ) e) σ) (loop-under e t d σ f k)

  pub run-deletes : (x : List Drop) (K : List Task) (H : Stack Bool) (cs : List Bool) → Steps T (at (deleting x ∷ K) H cs) (at K (delete_all x H) cs)
  run-deletes [] K H cs = onward (arrived refl)
  run-deletes (drop_of p n t ∷ x) K H cs = onward (run-deletes x K (given_up n H) cs)

  pub lower-deletes : (x : List Drop) (H : Stack Bool) → Under (delete_all x H) H
  lower-deletes [] H = under-refl H
  lower-deletes (drop_of p n t ∷ x) H = under-trans (lower-deletes x (given_up n H)) (lower-mark n H)

  -- tasks ts, held H: some choices pass them, to a stack that lost n if ρ did
  pub record Passes (n : ℕ) (ρ : Stack Bool) (from : Path → List Task → List Bool → Config) : Type 0 where
    pub chosen : List Bool → List Bool
    pub held : Stack Bool
    pub over : Over n ρ held
    pub steps : (q : Path) (K : List Task) (cs : List Bool) → Steps T (from q K (chosen cs)) (at K held cs)

  pub branch : (n : ℕ) (t u : Decided) (d : ℕ) (bt bu : Bool) (σ τ υ H : Stack Bool) → Same τ υ → Distinct (shape τ)
      → (So (not bt) → Passes n τ (λ q K cs. at (code q d t ∷ K) H cs)) → (So (not bu) → Passes n υ (λ q K cs. at (code q d u ∷ K) H cs)) → So (not (bt && bu))
      → Passes n (merge holding bt bu σ τ υ) (λ q K cs. choose T (code (q ++ (into ∷ [])) d t ∷ K) (code (q ++ (second ∷ [])) d u ∷ K) H cs)
  branch n t u d true true σ τ υ H m ds f g ns = absurd ns
  branch n t u d true false σ τ υ H m ds f g ns =
      let x = g tt in
      record { chosen = λ cs. false ∷ x.chosen cs; held = x.held; over = x.over; steps = λ q K cs. x.steps (q ++ (second ∷ [])) K cs }
  branch n t u d false true σ τ υ H m ds f g ns =
      let x = f tt in
      record { chosen = λ cs. true ∷ x.chosen cs; held = x.held; over = x.over; steps = λ q K cs. x.steps (q ++ (into ∷ [])) K cs }
  branch n t u d false false σ τ υ H m ds f g ns = go (pick n m ds) (f tt) (g tt)
    where
      go : Over n (joins holding τ υ) τ ⊎ Over n (joins holding τ υ) υ → Passes n τ (λ q K cs. at (code q d t ∷ K) H cs) → Passes n υ (λ q K cs. at (code q d u ∷ K) H cs)
          → Passes n (joins holding τ υ) (λ q K cs. choose T (code (q ++ (into ∷ [])) d t ∷ K) (code (q ++ (second ∷ [])) d u ∷ K) H cs)
      go (inl o) x y = record { chosen = λ cs. true ∷ x.chosen cs; held = x.held; over = over-trans n o x.over; steps = λ q K cs. x.steps (q ++ (into ∷ [])) K cs }
      go (inr o) x y = record { chosen = λ cs. false ∷ y.chosen cs; held = y.held; over = over-trans n o y.over; steps = λ q K cs. y.steps (q ++ (second ∷ [])) K cs }

  -- an if with no else
  pub skip : (n : ℕ) (t : Decided) (d : ℕ) (bt : Bool) (σ τ H : Stack Bool) → Same τ σ → Distinct (shape τ) → Over n σ H
      → (So (not bt) → Passes n τ (λ q K cs. at (code q d t ∷ K) H cs))
      → Passes n (merge holding bt false σ τ σ) (λ q K cs. choose T (code (q ++ (into ∷ [])) d t ∷ K) K H cs)
  skip n t d true σ τ H m ds o f = record { chosen = λ cs. false ∷ cs; held = H; over = o; steps = λ q K cs. arrived refl }
  skip n t d false σ τ H m ds o f = go (pick n m ds) (f tt)
    where
      go : Over n (joins holding τ σ) τ ⊎ Over n (joins holding τ σ) σ → Passes n τ (λ q K cs. at (code q d t ∷ K) H cs)
          → Passes n (joins holding τ σ) (λ q K cs. choose T (code (q ++ (into ∷ [])) d t ∷ K) K H cs)
      go (inl p) x = record { chosen = λ cs. true ∷ x.chosen cs; held = x.held; over = over-trans n p x.over; steps = λ q K cs. x.steps (q ++ (into ∷ [])) K cs }
      go (inr p) x = record { chosen = λ cs. false ∷ cs; held = H; over = over-trans n p o; steps = λ q K cs. arrived refl }

  -- a first part and the rest
  after_first : (n : ℕ) (ρ ρ' H : Stack Bool) (d : ℕ) (r : Decided) (c : Decided) (from : Path → List Task → List Bool → Config)
      → ((q : Path) (K : List Task) (cs : List Bool) → Steps T (at (code q d c ∷ K) H cs) (from q (code (q ++ (next ∷ [])) d r ∷ K) cs))
      → (x : Passes n ρ from) → Passes n ρ' (λ q K cs. at (code q d r ∷ K) x.held cs)
      → Passes n ρ' (λ q K cs. at (code q d c ∷ K) H cs)
  after_first n ρ ρ' H d r c from one x y =
      record {
        chosen = λ cs. x.chosen (y.chosen cs);
        held = y.held;
        over = y.over;
        steps = λ q K cs. steps-trans (one q K (x.chosen (y.chosen cs))) (steps-trans (x.steps q (code (q ++ (next ∷ [])) d r ∷ K) (y.chosen cs)) (y.steps (q ++ (next ∷ [])) K cs));
      }

  module _ (𝓟 : Policy) where
    abbrev pub Through : ℕ → Tree → ℕ → ℕ → Option ℕ → Bool → Stack Bool → Stack Bool → Type 0
    Through n c p d l f σ H = Passes n (exit holding T c d σ) (λ q K cs. at (code q d (decide holding T 𝓟 c p d l f σ) ∷ K) H cs)

    -- by the statements
    pub passing : (c : Tree) (p d : ℕ) (l : Option ℕ) (f : Bool) (σ H : Stack Bool) → Plain holding T c d σ → Fit d (shape σ) → (n : ℕ) → Over n σ H → So (not (sure_from c false)) → Through n c p d l f σ H
    passing (done x) p d l f σ H pl fit n o ns =
        let ds = cond f [] (end_drops holding T 𝓟 d p σ) in
        record {
          chosen = λ cs. cs;
          held = pop d (delete_all ds H);
          over = rel-pop d (over-lower n o (lower-deletes ds H));
          steps = λ q K cs. onward (steps-trans (run-deletes ds (closing d ∷ K) H cs) (onward (arrived refl)));
        }
    passing (expr_stmt s e y r) p d l f σ H pl fit n o ns =
        let x = passing r p d l false (after_expr holding T e σ) (after_expr holding T e H) pl (fit-by d (shape-expr e σ) fit) n (rel-expr holding holding (over-hom n) T e o) ns in
        record { chosen = x.chosen; held = x.held; over = x.over; steps = λ q K cs. onward (x.steps (q ++ (next ∷ [])) K cs) }
    passing (variable k s m t e r) p d l f σ H pl fit n o ns =
        let x = passing r p d l false (after_variable holding T (declared d s m t) e σ) (after_variable holding T (declared d s m t) e H) pl.1 (fit-variable d s m t e σ fit pl.0) n (rel-variable holding holding (over-hom n) T (declared d s m t) e o) ns in
        record { chosen = x.chosen; held = x.held; over = x.over; steps = λ q K cs. onward (x.steps (q ++ (next ∷ [])) K cs) }
    passing (assign s e v t y r) p d l f σ H pl fit n o ns =
        let ds = assign_drops holding T 𝓟 s e (before_assign holding T e v σ) in
        let x = passing r p d l false (after_assign holding T e v (before_assign holding T e v σ)) (after_assign holding T e v (delete_all ds (before_assign holding T e v H))) pl (fit-by d (shape-assigned e v σ) fit) n
        (rel-after holding holding (over-hom n) T e v (over-lower n (rel-before holding holding (over-hom n) T e v o) (lower-deletes ds (before_assign holding T e v H)))) ns in
        record {
          chosen = x.chosen;
          held = x.held;
          over = x.over;
          steps = λ q K cs.
              onward (onward (steps-trans (run-deletes ds (assigned q d e v (decide holding T 𝓟 r p d l false (after_assign holding T e v (before_assign holding T e v σ))) ∷ K) (before_assign holding T e v H) (x.chosen cs))
              (onward (x.steps (q ++ (next ∷ [])) K cs))));
        }
    passing (return s e t x r) p d l f σ H pl fit n o ns = absurd (not-sure r true pl tt ns)
    passing (bare_return s t x r) p d l f σ H pl fit n o ns = absurd (not-sure r true pl tt ns)
    passing (block s c r) p d l f σ H pl fit n o ns =
        pass-block (split (sure_from c false))
        (λ nc. passing c s (suc d) l false σ H pl.0 (fit-deeper d (shape σ) fit) n o nc)
        (λ nc H' o'. passing r p d l (sure_from c false) (exit holding T c (suc d) σ) H' pl.2 (fit-by d (shape-inner holding T c d σ fit.0) fit) n o' (sure-rest r (sure_from c false) nc ns))
      where
        pass-block : So (sure_from c false) ⊎ So (not (sure_from c false)) → (So (not (sure_from c false)) → Through n c s (suc d) l false σ H)
            → (So (not (sure_from c false)) → (H' : Stack Bool) → Over n (exit holding T c (suc d) σ) H' → Through n r p d l (sure_from c false) (exit holding T c (suc d) σ) H')
            → Through n (block s c r) p d l f σ H
        pass-block (inl y) first rest = absurd (not-sure r (sure_from c false) (pl.1 y) y ns)
        pass-block (inr nc) first rest =
            let x = first nc in
            after_first n (exit holding T c (suc d) σ) (exit holding T (block s c r) d σ) H d (decide holding T 𝓟 r p d l (sure_from c false) (exit holding T c (suc d) σ)) (decide holding T 𝓟 (block s c r) p d l f σ)
            (λ q K cs. at (code (q ++ (into ∷ [])) (suc d) (decide holding T 𝓟 c s (suc d) l false σ) ∷ K) H cs)
            (λ q K cs. onward (arrived refl))
            (record { chosen = x.chosen; held = x.held; over = x.over; steps = λ q K cs. x.steps (q ++ (into ∷ [])) K cs })
            (rest nc x.held x.over)
    passing (if_else s e ts t us u r) p d l f σ H pl fit n o ns =
        pass-if (split (sure_from t false && sure_from u false))
        (λ nt. passing t ts (suc d) l false σ' (evaluate holding T e H) pl.0 (fit-deeper d (shape σ') fit') n o' nt)
        (λ nu. passing u us (suc d) l false σ' (evaluate holding T e H) pl.1 (fit-deeper d (shape σ') fit') n o' nu)
        (λ nc H' q. passing r p d l (sure_from t false && sure_from u false) ρ H' pl.3 (fit-by d shape-ρ fit) n q (sure-rest r (sure_from t false && sure_from u false) nc ns))
      where
        σ' : Stack Bool
        σ' = evaluate holding T e σ

        fit' : Fit d (shape σ')
        fit' = fit-by d (shape-evaluate e σ) fit

        o' : Over n σ' (evaluate holding T e H)
        o' = rel-evaluate holding holding (over-hom n) T e o

        ρ : Stack Bool
        ρ = merge holding (sure_from t false) (sure_from u false) σ' (exit holding T t (suc d) σ') (exit holding T u (suc d) σ')

        shape-t : shape (exit holding T t (suc d) σ') ≡ shape σ'
        shape-t = shape-inner holding T t d σ' fit'.0

        shape-u : shape (exit holding T u (suc d) σ') ≡ shape σ'
        shape-u = shape-inner holding T u d σ' fit'.0

        shape-ρ : shape ρ ≡ shape σ
        shape-ρ = shape-merge holding (sure_from t false) (sure_from u false) σ' (exit holding T t (suc d) σ') (exit holding T u (suc d) σ') (shape σ) (shape-evaluate e σ) (shape-t ∙ shape-evaluate e σ) (shape-u ∙ shape-evaluate e σ)

        pass-if : So (sure_from t false && sure_from u false) ⊎ So (not (sure_from t false && sure_from u false))
            → (So (not (sure_from t false)) → Through n t ts (suc d) l false σ' (evaluate holding T e H))
            → (So (not (sure_from u false)) → Through n u us (suc d) l false σ' (evaluate holding T e H))
            → (So (not (sure_from t false && sure_from u false)) → (H' : Stack Bool) → Over n ρ H' → Through n r p d l (sure_from t false && sure_from u false) ρ H')
            → Through n (if_else s e ts t us u r) p d l f σ H
        pass-if (inl y) ft fu rest = absurd (not-sure r (sure_from t false && sure_from u false) (pl.2 y) y ns)
        pass-if (inr nc) ft fu rest =
            let x = branch n (decide holding T 𝓟 t ts (suc d) l false σ') (decide holding T 𝓟 u us (suc d) l false σ') (suc d) (sure_from t false) (sure_from u false) σ'
            (exit holding T t (suc d) σ') (exit holding T u (suc d) σ') (evaluate holding T e H)
            (same_shape (exit holding T t (suc d) σ') (exit holding T u (suc d) σ') (shape-t ∙ sym shape-u)) (fit-by d shape-t fit').1 ft fu nc in
            after_first n ρ (exit holding T (if_else s e ts t us u r) d σ) H d (decide holding T 𝓟 r p d l (sure_from t false && sure_from u false) ρ) (decide holding T 𝓟 (if_else s e ts t us u r) p d l f σ)
            (λ q K cs. choose T (code (q ++ (into ∷ [])) (suc d) (decide holding T 𝓟 t ts (suc d) l false σ') ∷ K) (code (q ++ (second ∷ [])) (suc d) (decide holding T 𝓟 u us (suc d) l false σ') ∷ K) (evaluate holding T e H) cs)
            (λ q K cs. onward (arrived refl)) x (rest nc x.held x.over)
    passing (if_then s e ts t r) p d l f σ H pl fit n o ns =
        pass-then
        (λ nt. passing t ts (suc d) l false σ' (evaluate holding T e H) pl.0 (fit-deeper d (shape σ') fit') n o' nt)
        (λ H' q. passing r p d l false ρ H' pl.1 (fit-by d shape-ρ fit) n q ns)
      where
        σ' : Stack Bool
        σ' = evaluate holding T e σ

        fit' : Fit d (shape σ')
        fit' = fit-by d (shape-evaluate e σ) fit

        o' : Over n σ' (evaluate holding T e H)
        o' = rel-evaluate holding holding (over-hom n) T e o

        ρ : Stack Bool
        ρ = merge holding (sure_from t false) false σ' (exit holding T t (suc d) σ') σ'

        shape-t : shape (exit holding T t (suc d) σ') ≡ shape σ'
        shape-t = shape-inner holding T t d σ' fit'.0

        shape-ρ : shape ρ ≡ shape σ
        shape-ρ = shape-merge holding (sure_from t false) false σ' (exit holding T t (suc d) σ') σ' (shape σ) (shape-evaluate e σ) (shape-t ∙ shape-evaluate e σ) (shape-evaluate e σ)

        pass-then : (So (not (sure_from t false)) → Through n t ts (suc d) l false σ' (evaluate holding T e H))
            → ((H' : Stack Bool) → Over n ρ H' → Through n r p d l false ρ H')
            → Through n (if_then s e ts t r) p d l f σ H
        pass-then ft rest =
            let x = skip n (decide holding T 𝓟 t ts (suc d) l false σ') (suc d) (sure_from t false) σ' (exit holding T t (suc d) σ') (evaluate holding T e H)
            (same_shape (exit holding T t (suc d) σ') σ' shape-t) (fit-by d shape-t fit').1 o' ft in
            after_first n ρ (exit holding T (if_then s e ts t r) d σ) H d (decide holding T 𝓟 r p d l false ρ) (decide holding T 𝓟 (if_then s e ts t r) p d l f σ)
            (λ q K cs. choose T (code (q ++ (into ∷ [])) (suc d) (decide holding T 𝓟 t ts (suc d) l false σ') ∷ K) K (evaluate holding T e H) cs)
            (λ q K cs. onward (arrived refl)) x (rest x.held x.over)
    passing (while s e ts t r) p d l f σ H pl fit n o ns =
        let σ' = evaluate holding T e σ in
        let fit' = fit-by d (shape-evaluate e σ) fit in
        let ρ = joins holding (exit holding T t (suc d) σ') σ' in
        let x = passing r p d l false ρ (evaluate holding T e H) pl.2
        (fit-by d (shape-joins holding (exit holding T t (suc d) σ') σ' ∙ (shape-inner holding T t d σ' fit'.0 ∙ shape-evaluate e σ)) fit) n
        (over-trans n (joins-over n (loop-under' e t d σ fit pl.1)) (rel-evaluate holding holding (over-hom n) T e o)) ns in
        record { chosen = λ cs. false ∷ x.chosen cs; held = x.held; over = x.over; steps = λ q K cs. onward (x.steps (q ++ (next ∷ [])) K cs) }
    passing (jump k s x r) p d l f σ H pl fit n o ns = absurd pl
