-- The invariant of runs: every task left was decided from a stack that says no more than what will be held.
-- Assumes nothing.
use Rattle.std.proofs.Common.{◌≡◌, ℕ, suc, Bool, true, false, cond, not, ◌&&◌, T as So, eqb, leb, ◌⊎◌, List, [], ◌∷◌, ◌++◌, sym, refl, ap, ◌∙◌, subst, inl, inr, append_assoc, append-nil}
use mathlib.Core.Option.{Option, none, some}
use lib.Dec.{leb-suc-suc}
use Rattle.tables.specs.Signature.{Param}
use Rattle.tables.specs.Tables.{Tables}
use Rattle.image_body.specs.Expr.{Expr}
use Rattle.image_body.specs.Stmt.{Code, Tree, done, expr_stmt, variable, assign, return, bare_return, block, if_else, if_then, while, jump}
use Rattle.rules.specs.Questions.{auto}
use Rattle.rules.specs.Expr.{view, Named, ident_in, name_in}
use Rattle.rules.specs.Stack.{Static, Stack, Shape, shape, pop, static_of}
use Rattle.rules.specs.Rules.{holding, Drop, drop_of, Decided, sure_from, excludes, Place, at_end, at_return, at_bare_return, at_assign, Policy, declared, joins, merge, collect, end_drops, bare_return_drops, assign_drops, evaluate, after_expr, after_variable, before_assign, after_assign, exit, decide, Plain, entered, decide_in}
use Rattle.rules.specs.Run.{Dir, next, into, second, Path, Task, code, returning, assigning, deleting, closing, assigned, Config, at, given_up, choose, step_code, step_task, step, Steps, arrived, onward, start, holds, admits}
use Rattle.rules.proofs.Spots.{Spot, spot_at, drops_of}
use Rattle.rules.proofs.Bools.{and_l, and_r, leb-suc}
use Rattle.rules.proofs.Relate.{rel-shape, rel-mark, rel-pop, rel-evaluate, rel-expr, rel-before, rel-after, rel-variable}
use Rattle.rules.proofs.Shapes.{Distinct, shape-joins, shape-merge, shape-inner}
use Rattle.rules.proofs.Order.{Under, Over, Same, under-hom, over-hom, under-refl, under-trans, over-trans, over-lower, same_shape, joins-left, joins-right, joins-over}
use Rattle.rules.proofs.Through.{Fit, fit-by, fit-deeper, delete_all, steps-trans, fit-variable, shape-evaluate, shape-expr, shape-before, shape-assigned, loop-under, loop-under', run-deletes, lower-deletes, Passes, branch, skip, passing}
use Rattle.rules.proofs.Names.{under-holds, dropped-collect, once-collect, HeldDrops, held-drops, depth_is, pop-deletes}
use Rattle.rules.proofs.Assigned.{after-delete, once-named, dropped-named}

pub sure-back : {X Y : Type 0} (r : Code X Y) (b : Bool) → So (not b) → So (not (sure_from r false)) → So (not (sure_from r b))
sure-back r true n t = absurd n
sure-back r false n t = t

-- locals that a block's end asks for are its own
abbrev pub Own : Policy → ℕ → Type 0
Own 𝓟 d = (s : Static) → So (𝓟 (at_end d) s) → So (eqb s.depth d)

-- What demand 3 needs of a policy: inside the body block a block's end asks for its own locals only, and an assignment for locals of its
-- name
pub record Proper (𝓟 : Policy) : Type 0 where
  pub inner : (d : ℕ) → So (leb 2 d) → Own 𝓟 d
  pub named : (n : Named) (s : Static) → So (𝓟 (at_assign n) s) → So (excludes n s.name)

module _ (T : Tables) (𝓟 : Policy) (proper : Proper 𝓟) (params : List Param) (span : ℕ) (body : Tree) where
  abbrev pub root : Decided
  root = decide_in holding T 𝓟 params span body

  abbrev pub spot_of : Path → Option (Spot Bool)
  spot_of q = spot_at holding T body span 1 none false (entered holding T params []) q

  -- some choices lead to the task, the local n lost if σ says it is not alive
  pub record Reach (n : ℕ) (t : Task) (σ : Stack Bool) : Type 0 where
    pub chosen : List Bool → List Bool
    pub tasks : List Task
    pub held : Stack Bool
    pub over : Over n σ held
    pub steps : (cs : List Bool) → Steps T (start T params root (chosen cs)) (at (t ∷ tasks) held cs)

  reach-on : (n : ℕ) {t t' : Task} {σ σ' : Stack Bool} (x : Reach n t σ) (g : List Bool → List Bool) (K : List Task) (H : Stack Bool)
      → ((cs : List Bool) → Steps T (at (t ∷ x.tasks) x.held (g cs)) (at (t' ∷ K) H cs)) → Over n σ' H → Reach n t' σ'
  reach-on n x g K H f o = record { chosen = λ cs. x.chosen (g cs); tasks = K; held = H; over = o; steps = λ cs. steps-trans T (x.steps (g cs)) (f cs) }

  tie : (q : Path) (y : Dir) (z : Path) → spot_of ((q ++ (y ∷ [])) ++ z) ≡ spot_of (q ++ (y ∷ z))
  tie q y z = ap spot_of (append_assoc q (y ∷ []) z)

  -- tasks with the stack that they were decided from
  pub data ATask : Type 0 where
    acode : Path → ℕ → ℕ → Option ℕ → Bool → Tree → Stack Bool → ATask
    areturning : Path → Place → Stack Bool → ATask
    aassigning : Path → ℕ → ℕ → ℕ → Option ℕ → Expr → Expr → Tree → Stack Bool → ATask
    adeleting : List Drop → ATask
    aclosing : ℕ → ATask
    aassigned : Path → ℕ → ℕ → Option ℕ → Expr → Expr → Tree → Stack Bool → ATask

  abbrev pub real : ATask → Task
  real (acode q p d l f c σ) = code q d (decide holding T 𝓟 c p d l f σ)
  real (areturning q pl σ) = returning q pl (collect holding T (𝓟 pl) 0 σ)
  real (aassigning q s p d l e v r σ) = assigning q d e v (assign_drops holding T 𝓟 s e σ) (decide holding T 𝓟 r p d l false (after_assign holding T e v σ))
  real (adeleting x) = deleting x
  real (aclosing d) = closing d
  real (aassigned q p d l e v r σ) = assigned q d e v (decide holding T 𝓟 r p d l false (after_assign holding T e v σ))

  abbrev pub reals : List ATask → List Task
  reals [] = []
  reals (t ∷ K) = real t ∷ reals K

  pub record CodeOk (q : Path) (p d : ℕ) (l : Option ℕ) (f : Bool) (c : Tree) (σ : Stack Bool) : Type 0 where
    pub open-end : So (not f)
    pub deep : So (leb 1 d)
    pub fit : Fit d (shape σ)
    pub plain : Plain holding T c d σ
    pub tied : (z : Path) → spot_of (q ++ z) ≡ spot_at holding T c p d l f σ z
    pub reach : (n : ℕ) → Reach n (code q d (decide holding T 𝓟 c p d l f σ)) σ

  pub record AskedOk (q : Path) (t : Task) (x : List Drop) (σ : Stack Bool) : Type 0 where
    pub distinct : Distinct (shape σ)
    pub tied : drops_of holding T 𝓟 (spot_of q) ≡ x
    pub reach : (n : ℕ) → Reach n t σ

  -- nothing follows, or the block's end touches its own frame only
  abbrev pub Last : ℕ → (Stack Bool → Type 0) → Type 0
  Last d W = ((H : Stack Bool) → W H) ⊎ Own 𝓟 d

  abbrev pub WFtask : ATask → (Stack Bool → Type 0) → Stack Bool → Type 0
  WFtask (acode q p d l f c σ) W H = CodeOk q p d l f c σ × Under σ H × (So (not (sure_from c false)) → W (exit holding T c d σ)) × Last d W
  WFtask (areturning q pl σ) W H = AskedOk q (real (areturning q pl σ)) (collect holding T (𝓟 pl) 0 σ) σ × Under σ H
  WFtask (aassigning q s p d l e v r σ) W H =
      AskedOk q (real (aassigning q s p d l e v r σ)) (assign_drops holding T 𝓟 s e σ) σ × Under σ H × CodeOk (q ++ (next ∷ [])) p d l false r (after_assign holding T e v σ)
      × (So (not (sure_from r false)) → W (exit holding T r d (after_assign holding T e v σ))) × Last d W
  WFtask (adeleting x) W H = HeldDrops x H × W (delete_all x H)
  WFtask (aclosing d) W H = W (pop d H)
  WFtask (aassigned q p d l e v r σ) W H =
      CodeOk (q ++ (next ∷ [])) p d l false r (after_assign holding T e v σ) × Under (after_assign holding T e v σ) (after_assign holding T e v H)
      × (So (not (sure_from r false)) → W (exit holding T r d (after_assign holding T e v σ))) × Last d W

  abbrev pub WF : List ATask → Stack Bool → Type 0
  WF [] H = Unit {0}
  WF (t ∷ K) H = WFtask t (λ H. WF K H) H

  under-delete : (x : List Drop) {A H : Stack Bool} → Under A H → Under (delete_all x A) (delete_all x H)
  under-delete [] u = u
  under-delete (drop_of p n t ∷ x) u = under-delete x (rel-mark n (λ a. false) (λ a. false) (λ m a b r y. y) u)

  held_up : (x : List Drop) {A H : Stack Bool} → Under A H → HeldDrops x A → HeldDrops x H
  held_up [] u h = tt
  held_up (drop_of p n t ∷ x) u h = (under-holds n u h.0, held_up x (rel-mark n (λ a. false) (λ a. false) (λ m a b r y. y) u) h.1)

  wf-up : (K : List ATask) {A H : Stack Bool} → Under A H → WF K A → WF K H
  wf-up [] u x = tt
  wf-up (acode q p d l f c σ ∷ K) u x = (x.0, under-trans x.1 u, x.2, x.3)
  wf-up (areturning q pl σ ∷ K) u x = (x.0, under-trans x.1 u)
  wf-up (aassigning q s p d l e v r σ ∷ K) u x = (x.0, under-trans x.1 u, x.2, x.3, x.4)
  wf-up (adeleting y ∷ K) u x = (held_up y u x.0, wf-up K (under-delete y u) x.1)
  wf-up (aclosing d ∷ K) u x = wf-up K (rel-pop d u) x
  wf-up (aassigned q p d l e v r σ ∷ K) u x = (x.0, under-trans x.1 (rel-after holding holding under-hom T e v u), x.2, x.3)

  pub record Good (c : Config) : Type 0 where
    pub atasks : List ATask
    pub held : Stack Bool
    pub choices : List Bool
    pub is : c ≡ at (reals atasks) held choices
    pub wf : WF atasks held

  ended : (H : Stack Bool) (cs : List Bool) → Good (at [] H cs)
  ended H cs = record { atasks = []; held = H; choices = cs; is = refl; wf = tt }

  -- the deletes decided at a place
  place-held : (pl : Place) (p : ℕ) (σ H : Stack Bool) → Distinct (shape σ) → Under σ H → HeldDrops (collect holding T (𝓟 pl) p σ) H
  place-held pl p σ H ds u =
      held-drops (collect holding T (𝓟 pl) p σ) H
      (λ n t. under-holds n u (and_r (admits T (λ s. 𝓟 pl s) (static_of n (shape σ))) (holds n σ) (subst So (dropped-collect T (λ s. 𝓟 pl s) p n σ ds) t)))
      (once-collect T (λ s. 𝓟 pl s) p σ ds)

  assign-held : (p : ℕ) (e : Expr) (σ H : Stack Bool) → Under σ H → HeldDrops (assign_drops holding T 𝓟 p e σ) H
  assign-held p e σ H u =
      held-drops (assign_drops holding T 𝓟 p e σ) H
      (λ n t. under-holds n u (and_r (admits T (𝓟 (at_assign (ident_in (view e)))) (static_of n (shape σ))) (holds n σ) (subst So (dropped-named T (𝓟 (at_assign (ident_in (view e)))) p n (ident_in (view e)) σ (proper.named (ident_in (view e)))) t)))
      (once-named T (𝓟 (at_assign (ident_in (view e)))) p (ident_in (view e)) σ)

  own-depth : (d : ℕ) → Own 𝓟 d → (o : Option Static) → So (admits T (λ s. 𝓟 (at_end d) s) o) → So (depth_is d o)
  own-depth d ow none t = t
  own-depth d ow (some s) t = ow s (and_l (𝓟 (at_end d) s) (auto T s.ty) t)

  tail-under : (p d : ℕ) (σ H : Stack Bool) → Own 𝓟 d → Distinct (shape σ) → Under σ H → Under (pop d σ) (pop d (delete_all (end_drops holding T 𝓟 d p σ) H))
  tail-under p d σ H ow ds u =
      subst (λ (τ : Stack Bool). Under (pop d σ) τ)
      (sym (pop-deletes (end_drops holding T 𝓟 d p σ) d H (λ n t.
      subst (λ (Γ : Shape). So (depth_is d (static_of n Γ))) (rel-shape u)
      (own-depth d ow (static_of n (shape σ))
      (and_l (admits T (λ s. 𝓟 (at_end d) s) (static_of n (shape σ))) (holds n σ) (subst So (dropped-collect T (λ s. 𝓟 (at_end d) s) p n σ ds) t))))))
      (rel-pop d u)

  done-good : (f : Bool) (p d : ℕ) (σ : Stack Bool) (K : List ATask) (H : Stack Bool) (cs : List Bool) → So (not f) → Distinct (shape σ) → Under σ H → WF K (pop d σ) → Last d (λ H. WF K H)
      → Good (at (deleting (cond f [] (end_drops holding T 𝓟 d p σ)) ∷ closing d ∷ reals K) H cs)
  done-good true p d σ K H cs nf ds u w z = absurd nf
  done-good false p d σ K H cs nf ds u w (inl free) =
      record { atasks = adeleting (end_drops holding T 𝓟 d p σ) ∷ aclosing d ∷ K; held = H; choices = cs; is = refl; wf = (place-held (at_end d) p σ H ds u, free _) }
  done-good false p d σ K H cs nf ds u w (inr ow) =
      record { atasks = adeleting (end_drops holding T 𝓟 d p σ) ∷ aclosing d ∷ K; held = H; choices = cs; is = refl; wf = (place-held (at_end d) p σ H ds u, wf-up K (tail-under p d σ H ow ds u) w) }

  -- a statement that goes straight to the next one
  straight : (q : Path) (p d : ℕ) (l : Option ℕ) (f : Bool) (c r : Tree) (σ σ' : Stack Bool) (g : Stack Bool → Stack Bool) (k : List Bool → List Bool) → CodeOk q p d l f c σ
      → Fit d (shape σ') → Plain holding T r d σ'
      → ((z : Path) → spot_at holding T c p d l f σ (next ∷ z) ≡ spot_at holding T r p d l false σ' z)
      → ((K : List Task) (H : Stack Bool) (cs : List Bool) → Steps T (at (code q d (decide holding T 𝓟 c p d l f σ) ∷ K) H (k cs)) (at (code (q ++ (next ∷ [])) d (decide holding T 𝓟 r p d l false σ') ∷ K) (g H) cs))
      → ((n : ℕ) (H : Stack Bool) → Over n σ H → Over n σ' (g H))
      → CodeOk (q ++ (next ∷ [])) p d l false r σ'
  straight q p d l f c r σ σ' g k ok fit pl down one o =
      record {
        open-end = tt;
        deep = ok.deep;
        fit = fit;
        plain = pl;
        tied = λ z. tie q next z ∙ (ok.tied (next ∷ z) ∙ down z);
        reach = λ n.
            let x = ok.reach n in
            reach-on n x k x.tasks (g x.held) (λ cs. one x.tasks x.held cs) (o n x.held x.over);
      }

  -- a statement that some choices pass
  later : (q : Path) (p d : ℕ) (l : Option ℕ) (f : Bool) (c : Tree) (σ : Stack Bool) (b : Bool) (r : Tree) (ρ : Stack Bool) (from : Stack Bool → Path → List Task → List Bool → Config) → CodeOk q p d l f c σ
      → So (not b) → Fit d (shape ρ) → Plain holding T r d ρ
      → ((z : Path) → spot_at holding T c p d l f σ (next ∷ z) ≡ spot_at holding T r p d l b ρ z)
      → ((K : List Task) (H : Stack Bool) (cs : List Bool) → Steps T (at (code q d (decide holding T 𝓟 c p d l f σ) ∷ K) H cs) (from H q (code (q ++ (next ∷ [])) d (decide holding T 𝓟 r p d l b ρ) ∷ K) cs))
      → ((n : ℕ) (H : Stack Bool) → Over n σ H → Passes T n ρ (from H))
      → CodeOk (q ++ (next ∷ [])) p d l b r ρ
  later q p d l f c σ b r ρ from ok nb fit pl down one pass =
      record {
        open-end = nb;
        deep = ok.deep;
        fit = fit;
        plain = pl;
        tied = λ z. tie q next z ∙ (ok.tied (next ∷ z) ∙ down z);
        reach = λ n.
            let x = ok.reach n in
            let y = pass n x.held x.over in
            reach-on n x y.chosen x.tasks y.held
            (λ cs. steps-trans T (one x.tasks x.held (y.chosen cs)) (y.steps q (code (q ++ (next ∷ [])) d (decide holding T 𝓟 r p d l b ρ) ∷ x.tasks) cs)) y.over;
      }

  -- into a block
  enter : (q : Path) (p d : ℕ) (l : Option ℕ) (f : Bool) (c : Tree) (σ : Stack Bool) (y : Dir) (s : ℕ) (m : Option ℕ) (t : Tree) (σ' : Stack Bool) (h : Stack Bool → Stack Bool) (g : List Bool → List Bool) (L : List Task → List Task)
      → CodeOk q p d l f c σ → Fit d (shape σ') → Plain holding T t (suc d) σ'
      → ((z : Path) → spot_at holding T c p d l f σ (y ∷ z) ≡ spot_at holding T t s (suc d) m false σ' z)
      → ((K : List Task) (H : Stack Bool) (cs : List Bool) → Steps T (at (code q d (decide holding T 𝓟 c p d l f σ) ∷ K) H (g cs)) (at (code (q ++ (y ∷ [])) (suc d) (decide holding T 𝓟 t s (suc d) m false σ') ∷ L K) (h H) cs))
      → ((n : ℕ) (H : Stack Bool) → Over n σ H → Over n σ' (h H))
      → CodeOk (q ++ (y ∷ [])) s (suc d) m false t σ'
  enter q p d l f c σ y s m t σ' h g L ok fit pl down one o =
      record {
        open-end = tt;
        deep = leb-suc 1 d ok.deep;
        fit = fit-deeper d (shape σ') fit;
        plain = pl;
        tied = λ z. tie q y z ∙ (ok.tied (y ∷ z) ∙ down z);
        reach = λ n.
            let x = ok.reach n in
            reach-on n x g (L x.tasks) (h x.held) (λ cs. one x.tasks x.held cs) (o n x.held x.over);
      }

  -- a place that is asked about, one step on
  asked : (q : Path) (p d : ℕ) (l : Option ℕ) (f : Bool) (c : Tree) (σ : Stack Bool) (t : Task) (x : List Drop) (σ' : Stack Bool) (h : Stack Bool → Stack Bool) (L : List Task → List Task)
      → CodeOk q p d l f c σ → Distinct (shape σ') → drops_of holding T 𝓟 (spot_at holding T c p d l f σ []) ≡ x
      → ((K : List Task) (H : Stack Bool) (cs : List Bool) → Steps T (at (code q d (decide holding T 𝓟 c p d l f σ) ∷ K) H cs) (at (t ∷ L K) (h H) cs))
      → ((n : ℕ) (H : Stack Bool) → Over n σ H → Over n σ' (h H))
      → AskedOk q t x σ'
  asked q p d l f c σ t x σ' h L ok ds down one o =
      record {
        distinct = ds;
        tied = ap (λ (q : Path). drops_of holding T 𝓟 (spot_of q)) (sym (append-nil q)) ∙ (ap (drops_of holding T 𝓟) (ok.tied []) ∙ down);
        reach = λ n.
            let y = ok.reach n in
            reach-on n y (λ cs. cs) (L y.tasks) (h y.held) (λ cs. one y.tasks y.held cs) (o n y.held y.over);
      }

  into_block : (n : ℕ) (y : Path) (ρ : Stack Bool) (d : ℕ) (c : Decided) (H : Stack Bool) → Passes T n ρ (λ q K cs. at (code q d c ∷ K) H cs) → Passes T n ρ (λ q K cs. at (code (q ++ y) d c ∷ K) H cs)
  into_block n y ρ d c H x = record { chosen = x.chosen; held = x.held; over = x.over; steps = λ q K cs. x.steps (q ++ y) K cs }

  -- what a statement leads to is in order if it is
  module _ (q : Path) (p d : ℕ) (l : Option ℕ) (f : Bool) (σ : Stack Bool) where
    pub ok-expr : (s : ℕ) (e : Expr) (y : Unit {0}) (r : Tree) → CodeOk q p d l f (expr_stmt s e y r) σ → CodeOk (q ++ (next ∷ [])) p d l false r (after_expr holding T e σ)
    ok-expr s e y r ok =
        straight q p d l f (expr_stmt s e y r) r σ (after_expr holding T e σ) (λ H. after_expr holding T e H) (λ cs. cs) ok (fit-by d (shape-expr T e σ) ok.fit) ok.plain (λ z. refl) (λ K H cs. onward (arrived refl))
        (λ n H o. rel-expr holding holding (over-hom n) T e o)

    pub ok-variable : (k : Bool) (s m t : ℕ) (e : Expr) (r : Tree) → CodeOk q p d l f (variable k s m t e r) σ → CodeOk (q ++ (next ∷ [])) p d l false r (after_variable holding T (declared d s m t) e σ)
    ok-variable k s m t e r ok =
        straight q p d l f (variable k s m t e r) r σ (after_variable holding T (declared d s m t) e σ) (λ H. after_variable holding T (declared d s m t) e H) (λ cs. cs) ok (fit-variable T d s m t e σ ok.fit ok.plain.0) ok.plain.1 (λ z. refl) (λ K H cs. onward (arrived refl))
        (λ n H o. rel-variable holding holding (over-hom n) T (declared d s m t) e o)

    pub ok-assign : (s : ℕ) (e v : Expr) (t : ℕ) (y : Unit {0}) (r : Tree) → CodeOk q p d l f (assign s e v t y r) σ → CodeOk (q ++ (next ∷ [])) p d l false r (after_assign holding T e v (before_assign holding T e v σ))
    ok-assign s e v t y r ok =
        let σ' = before_assign holding T e v σ in
        let x = assign_drops holding T 𝓟 s e σ' in
        straight q p d l f (assign s e v t y r) r σ (after_assign holding T e v σ') (λ H. after_assign holding T e v (delete_all x (before_assign holding T e v H))) (λ cs. cs) ok (fit-by d (shape-assigned T e v σ) ok.fit) ok.plain (λ z. refl)
        (λ K H cs. onward (onward (steps-trans T (run-deletes T x (assigned q d e v (decide holding T 𝓟 r p d l false (after_assign holding T e v σ')) ∷ K) (before_assign holding T e v H) cs) (onward (arrived refl)))))
        (λ n H o. rel-after holding holding (over-hom n) T e v (over-lower n (rel-before holding holding (over-hom n) T e v o) (lower-deletes T x (before_assign holding T e v H))))

    pub ok-block : (s : ℕ) (c r : Tree) → CodeOk q p d l f (block s c r) σ → CodeOk (q ++ (into ∷ [])) s (suc d) l false c σ
    ok-block s c r ok =
        enter q p d l f (block s c r) σ into s l c σ (λ H. H) (λ cs. cs) (λ K. code (q ++ (next ∷ [])) d (decide holding T 𝓟 r p d l (sure_from c false) (exit holding T c (suc d) σ)) ∷ K) ok ok.fit ok.plain.0 (λ z. refl)
        (λ K H cs. onward (arrived refl)) (λ n H o. o)

    pub past-block : (s : ℕ) (c r : Tree) → CodeOk q p d l f (block s c r) σ → So (not (sure_from c false)) → CodeOk (q ++ (next ∷ [])) p d l (sure_from c false) r (exit holding T c (suc d) σ)
    past-block s c r ok nc =
        later q p d l f (block s c r) σ (sure_from c false) r (exit holding T c (suc d) σ) (λ H q K cs. at (code (q ++ (into ∷ [])) (suc d) (decide holding T 𝓟 c s (suc d) l false σ) ∷ K) H cs) ok nc
        (fit-by d (shape-inner holding T c d σ ok.fit.0) ok.fit) ok.plain.2 (λ z. refl) (λ K H cs. onward (arrived refl))
        (λ n H o. into_block n (into ∷ []) (exit holding T c (suc d) σ) (suc d) (decide holding T 𝓟 c s (suc d) l false σ) H (passing T 𝓟 c s (suc d) l false σ H ok.plain.0 (fit-deeper d (shape σ) ok.fit) n o nc))

    -- after a condition
    module _ (e : Expr) (fit : Fit d (shape σ)) where
      abbrev pub then : Stack Bool
      then = evaluate holding T e σ

      pub fit_then : Fit d (shape then)
      fit_then = fit-by d (shape-evaluate T e σ) fit

      pub shape-then : (t : Tree) → shape (exit holding T t (suc d) then) ≡ shape then
      shape-then t = shape-inner holding T t d then fit_then.0

    pub ok-if : (s : ℕ) (e : Expr) (ts : ℕ) (t : Tree) (us : ℕ) (v r : Tree) → CodeOk q p d l f (if_else s e ts t us v r) σ → CodeOk (q ++ (into ∷ [])) ts (suc d) l false t (evaluate holding T e σ)
    ok-if s e ts t us v r ok =
        enter q p d l f (if_else s e ts t us v r) σ into ts l t (evaluate holding T e σ) (λ H. evaluate holding T e H) (λ cs. true ∷ cs) (λ K. code (q ++ (next ∷ [])) d _ ∷ K) ok (fit_then e ok.fit) ok.plain.0 (λ z. refl)
        (λ K H cs. onward (arrived refl)) (λ n H o. rel-evaluate holding holding (over-hom n) T e o)

    pub ok-else : (s : ℕ) (e : Expr) (ts : ℕ) (t : Tree) (us : ℕ) (v r : Tree) → CodeOk q p d l f (if_else s e ts t us v r) σ → CodeOk (q ++ (second ∷ [])) us (suc d) l false v (evaluate holding T e σ)
    ok-else s e ts t us v r ok =
        enter q p d l f (if_else s e ts t us v r) σ second us l v (evaluate holding T e σ) (λ H. evaluate holding T e H) (λ cs. false ∷ cs) (λ K. code (q ++ (next ∷ [])) d _ ∷ K) ok (fit_then e ok.fit) ok.plain.1 (λ z. refl)
        (λ K H cs. onward (arrived refl)) (λ n H o. rel-evaluate holding holding (over-hom n) T e o)

    pub past-if : (s : ℕ) (e : Expr) (ts : ℕ) (t : Tree) (us : ℕ) (v r : Tree) → CodeOk q p d l f (if_else s e ts t us v r) σ → So (not (sure_from t false && sure_from v false))
        → CodeOk (q ++ (next ∷ [])) p d l (sure_from t false && sure_from v false) r
        (merge holding (sure_from t false) (sure_from v false) (evaluate holding T e σ) (exit holding T t (suc d) (evaluate holding T e σ)) (exit holding T v (suc d) (evaluate holding T e σ)))
    past-if s e ts t us v r ok nn =
        let σ' = evaluate holding T e σ in
        let τ = exit holding T t (suc d) σ' in
        let υ = exit holding T v (suc d) σ' in
        let bt = sure_from t false in
        let bv = sure_from v false in
        let fit' = fit_then e ok.fit in
        let shape-τ = shape-then e ok.fit t in
        let shape-υ = shape-then e ok.fit v in
        later q p d l f (if_else s e ts t us v r) σ (bt && bv) r (merge holding bt bv σ' τ υ)
        (λ H q K cs. choose T (code (q ++ (into ∷ [])) (suc d) (decide holding T 𝓟 t ts (suc d) l false σ') ∷ K) (code (q ++ (second ∷ [])) (suc d) (decide holding T 𝓟 v us (suc d) l false σ') ∷ K) (evaluate holding T e H) cs)
        ok nn
        (fit-by d (shape-merge holding bt bv σ' τ υ (shape σ) (shape-evaluate T e σ) (shape-τ ∙ shape-evaluate T e σ) (shape-υ ∙ shape-evaluate T e σ)) ok.fit)
        ok.plain.3 (λ z. refl) (λ K H cs. onward (arrived refl))
        (λ n H o.
        let o' = rel-evaluate holding holding (over-hom n) T e o in
        branch T n (decide holding T 𝓟 t ts (suc d) l false σ') (decide holding T 𝓟 v us (suc d) l false σ') (suc d) bt bv σ' τ υ (evaluate holding T e H)
        (same_shape τ υ (shape-τ ∙ sym shape-υ)) (fit-by d shape-τ fit').1
        (λ nt. passing T 𝓟 t ts (suc d) l false σ' (evaluate holding T e H) ok.plain.0 (fit-deeper d (shape σ') fit') n o' nt)
        (λ nv. passing T 𝓟 v us (suc d) l false σ' (evaluate holding T e H) ok.plain.1 (fit-deeper d (shape σ') fit') n o' nv) nn)

    pub ok-then : (s : ℕ) (e : Expr) (ts : ℕ) (t r : Tree) → CodeOk q p d l f (if_then s e ts t r) σ → CodeOk (q ++ (into ∷ [])) ts (suc d) l false t (evaluate holding T e σ)
    ok-then s e ts t r ok =
        enter q p d l f (if_then s e ts t r) σ into ts l t (evaluate holding T e σ) (λ H. evaluate holding T e H) (λ cs. true ∷ cs) (λ K. code (q ++ (next ∷ [])) d _ ∷ K) ok (fit_then e ok.fit) ok.plain.0 (λ z. refl)
        (λ K H cs. onward (arrived refl)) (λ n H o. rel-evaluate holding holding (over-hom n) T e o)

    pub past-then : (s : ℕ) (e : Expr) (ts : ℕ) (t r : Tree) → CodeOk q p d l f (if_then s e ts t r) σ
        → CodeOk (q ++ (next ∷ [])) p d l false r (merge holding (sure_from t false) false (evaluate holding T e σ) (exit holding T t (suc d) (evaluate holding T e σ)) (evaluate holding T e σ))
    past-then s e ts t r ok =
        let σ' = evaluate holding T e σ in
        let τ = exit holding T t (suc d) σ' in
        let bt = sure_from t false in
        let fit' = fit_then e ok.fit in
        let shape-τ = shape-then e ok.fit t in
        later q p d l f (if_then s e ts t r) σ false r (merge holding bt false σ' τ σ')
        (λ H q K cs. choose T (code (q ++ (into ∷ [])) (suc d) (decide holding T 𝓟 t ts (suc d) l false σ') ∷ K) K (evaluate holding T e H) cs)
        ok tt
        (fit-by d (shape-merge holding bt false σ' τ σ' (shape σ) (shape-evaluate T e σ) (shape-τ ∙ shape-evaluate T e σ) (shape-evaluate T e σ)) ok.fit)
        ok.plain.1 (λ z. refl) (λ K H cs. onward (arrived refl))
        (λ n H o.
        let o' = rel-evaluate holding holding (over-hom n) T e o in
        skip T n (decide holding T 𝓟 t ts (suc d) l false σ') (suc d) bt σ' τ (evaluate holding T e H) (same_shape τ σ' shape-τ) (fit-by d shape-τ fit').1 o'
        (λ nt. passing T 𝓟 t ts (suc d) l false σ' (evaluate holding T e H) ok.plain.0 (fit-deeper d (shape σ') fit') n o' nt))

    pub ok-loop : (s : ℕ) (e : Expr) (ts : ℕ) (t r : Tree) → CodeOk q p d l f (while s e ts t r) σ → CodeOk (q ++ (into ∷ [])) ts (suc d) (some (suc d)) false t (evaluate holding T e σ)
    ok-loop s e ts t r ok =
        enter q p d l f (while s e ts t r) σ into ts (some (suc d)) t (evaluate holding T e σ) (λ H. evaluate holding T e H) (λ cs. true ∷ cs) (λ K. code q d (decide holding T 𝓟 (while s e ts t r) p d l f σ) ∷ K) ok (fit_then e ok.fit) ok.plain.0 (λ z. refl)
        (λ K H cs. onward (arrived refl)) (λ n H o. rel-evaluate holding holding (over-hom n) T e o)

    pub past-loop : (s : ℕ) (e : Expr) (ts : ℕ) (t r : Tree) → CodeOk q p d l f (while s e ts t r) σ
        → CodeOk (q ++ (next ∷ [])) p d l false r (joins holding (exit holding T t (suc d) (evaluate holding T e σ)) (evaluate holding T e σ))
    past-loop s e ts t r ok =
        let σ' = evaluate holding T e σ in
        let τ = exit holding T t (suc d) σ' in
        straight q p d l f (while s e ts t r) r σ (joins holding τ σ') (λ H. evaluate holding T e H) (λ cs. false ∷ cs) ok
        (fit-by d (shape-joins holding τ σ' ∙ (shape-then e ok.fit t ∙ shape-evaluate T e σ)) ok.fit) ok.plain.2 (λ z. refl) (λ K H cs. onward (arrived refl))
        (λ n H o. over-trans n (joins-over n (loop-under' T e t d σ ok.fit ok.plain.1)) (rel-evaluate holding holding (over-hom n) T e o))

  chosen-good : (ts us : List ATask) (H : Stack Bool) (cs : List Bool) → WF ts H → WF us H → Good (choose T (reals ts) (reals us) H cs)
  chosen-good ts us H [] x y = ended H []
  chosen-good ts us H (true ∷ cs) x y = record { atasks = ts; held = H; choices = cs; is = refl; wf = x }
  chosen-good ts us H (false ∷ cs) x y = record { atasks = us; held = H; choices = cs; is = refl; wf = y }

  nand-l : (a b : Bool) → So (not a) → So (not (a && b))
  nand-l true b t = absurd t
  nand-l false b t = tt

  nand-r : (a b : Bool) → So (not b) → So (not (a && b))
  nand-r true b t = t
  nand-r false b t = tt

  merge-left : (a b : Bool) (σ τ υ : Stack Bool) → So (not a) → Under (merge holding a b σ τ υ) τ
  merge-left true b σ τ υ t = absurd t
  merge-left false true σ τ υ t = under-refl τ
  merge-left false false σ τ υ t = joins-left τ υ

  merge-right : (a b : Bool) (σ τ υ : Stack Bool) → Same τ υ → So (not b) → Under (merge holding a b σ τ υ) υ
  merge-right true true σ τ υ m t = absurd t
  merge-right true false σ τ υ m t = under-refl υ
  merge-right false true σ τ υ m t = absurd t
  merge-right false false σ τ υ m t = joins-right m

  own_in : (d : ℕ) → So (leb 1 d) → Own 𝓟 (suc d)
  own_in d t = proper.inner (suc d) (subst So (sym (leb-suc-suc 1 d)) t)

  code_step : (c : Tree) (q : Path) (p d : ℕ) (l : Option ℕ) (f : Bool) (σ : Stack Bool) (K : List ATask) (H : Stack Bool) (cs : List Bool)
      → CodeOk q p d l f c σ → Under σ H → (So (not (sure_from c false)) → WF K (exit holding T c d σ)) → Last d (λ H. WF K H)
      → Good (step_code T (decide holding T 𝓟 c p d l f σ) q d (reals K) H cs)
  code_step (done x) q p d l f σ K H cs ok u w z = done-good f p d σ K H cs ok.open-end ok.fit.1 u (w tt) z
  code_step (expr_stmt s e y r) q p d l f σ K H cs ok u w z =
      record {
        atasks = acode (q ++ (next ∷ [])) p d l false r (after_expr holding T e σ) ∷ K;
        held = after_expr holding T e H;
        choices = cs;
        is = refl;
        wf = (ok-expr q p d l f σ s e y r ok, rel-expr holding holding under-hom T e u, w, z);
      }
  code_step (variable k s m t e r) q p d l f σ K H cs ok u w z =
      record {
        atasks = acode (q ++ (next ∷ [])) p d l false r (after_variable holding T (declared d s m t) e σ) ∷ K;
        held = after_variable holding T (declared d s m t) e H;
        choices = cs;
        is = refl;
        wf = (ok-variable q p d l f σ k s m t e r ok, rel-variable holding holding under-hom T (declared d s m t) e u, w, z);
      }
  code_step (assign s e v t y r) q p d l f σ K H cs ok u w z =
      let σ' = before_assign holding T e v σ in
      let x = assign_drops holding T 𝓟 s e σ' in
      record {
        atasks = aassigning q s p d l e v r σ' ∷ K;
        held = before_assign holding T e v H;
        choices = cs;
        is = refl;
        wf = (
          asked q p d l f (assign s e v t y r) σ (real (aassigning q s p d l e v r σ')) x σ' (λ H. before_assign holding T e v H) (λ K. K) ok (fit-by d (shape-before T e v σ) ok.fit).1 refl (λ K H cs. onward (arrived refl))
              (λ n H o. rel-before holding holding (over-hom n) T e v o),
          rel-before holding holding under-hom T e v u,
          ok-assign q p d l f σ s e v t y r ok,
          w,
          z,
        );
      }
  code_step (return s e t y r) q p d l f σ K H cs ok u w z =
      let σ' = evaluate holding T e σ in
      let pl = at_return (name_in (view e)) in
      record {
        atasks = areturning q pl σ' ∷ [];
        held = evaluate holding T e H;
        choices = cs;
        is = refl;
        wf = (
          asked q p d l f (return s e t y r) σ (real (areturning q pl σ')) (collect holding T (𝓟 pl) 0 σ') σ' (λ H. evaluate holding T e H) (λ K. []) ok (fit-by d (shape-evaluate T e σ) ok.fit).1 refl (λ K H cs. onward (arrived refl))
              (λ n H o. rel-evaluate holding holding (over-hom n) T e o),
          rel-evaluate holding holding under-hom T e u,
        );
      }
  code_step (bare_return s t y r) q p d l f σ K H cs ok u w z =
      record {
        atasks = areturning q at_bare_return σ ∷ [];
        held = H;
        choices = cs;
        is = refl;
        wf =
            (asked q p d l f (bare_return s t y r) σ (real (areturning q at_bare_return σ)) (bare_return_drops holding T 𝓟 σ) σ (λ H. H) (λ K. []) ok ok.fit.1 refl (λ K H cs. onward (arrived refl)) (λ n H o. o), u);
      }
  code_step (block s c r) q p d l f σ K H cs ok u w z =
      record {
        atasks = acode (q ++ (into ∷ [])) s (suc d) l false c σ ∷ acode (q ++ (next ∷ [])) p d l (sure_from c false) r (exit holding T c (suc d) σ) ∷ K;
        held = H;
        choices = cs;
        is = refl;
        wf = (
          ok-block q p d l f σ s c r ok,
          u,
          (λ nc. (past-block q p d l f σ s c r ok nc, under-refl (exit holding T c (suc d) σ), (λ nr. w (sure-back r (sure_from c false) nc nr)), z)),
          inr (own_in d ok.deep),
        );
      }
  code_step (if_else s e ts t us v r) q p d l f σ K H cs ok u w z =
      let σ' = evaluate holding T e σ in
      let τ = exit holding T t (suc d) σ' in
      let υ = exit holding T v (suc d) σ' in
      let bt = sure_from t false in
      let bv = sure_from v false in
      let u' = rel-evaluate holding holding under-hom T e u in
      let rest = acode (q ++ (next ∷ [])) p d l (bt && bv) r (merge holding bt bv σ' τ υ) in
      chosen-good
      (acode (q ++ (into ∷ [])) ts (suc d) l false t σ' ∷ rest ∷ K)
      (acode (q ++ (second ∷ [])) us (suc d) l false v σ' ∷ rest ∷ K)
      (evaluate holding T e H) cs (
        ok-if q p d l f σ s e ts t us v r ok,
        u',
        (λ nt. (past-if q p d l f σ s e ts t us v r ok (nand-l bt bv nt), merge-left bt bv σ' τ υ nt, (λ nr. w (sure-back r (bt && bv) (nand-l bt bv nt) nr)), z)),
        inr (own_in d ok.deep),
      ) (
        ok-else q p d l f σ s e ts t us v r ok,
        u',
        (λ nv. (
          past-if q p d l f σ s e ts t us v r ok (nand-r bt bv nv),
          merge-right bt bv σ' τ υ (same_shape τ υ (shape-then q p d l f σ e ok.fit t ∙ sym (shape-then q p d l f σ e ok.fit v))) nv,
          (λ nr. w (sure-back r (bt && bv) (nand-r bt bv nv) nr)),
          z,
        )),
        inr (own_in d ok.deep),
      )
  code_step (if_then s e ts t r) q p d l f σ K H cs ok u w z =
      let σ' = evaluate holding T e σ in
      let τ = exit holding T t (suc d) σ' in
      let bt = sure_from t false in
      let u' = rel-evaluate holding holding under-hom T e u in
      let rest = acode (q ++ (next ∷ [])) p d l false r (merge holding bt false σ' τ σ') in
      chosen-good
      (acode (q ++ (into ∷ [])) ts (suc d) l false t σ' ∷ rest ∷ K)
      (rest ∷ K)
      (evaluate holding T e H) cs
      (ok-then q p d l f σ s e ts t r ok, u', (λ nt. (past-then q p d l f σ s e ts t r ok, merge-left bt false σ' τ σ' nt, w, z)), inr (own_in d ok.deep))
      (past-then q p d l f σ s e ts t r ok, under-trans (merge-right bt false σ' τ σ' (same_shape τ σ' (shape-then q p d l f σ e ok.fit t)) tt) u', w, z)
  code_step (while s e ts t r) q p d l f σ K H cs ok u w z =
      let σ' = evaluate holding T e σ in
      let τ = exit holding T t (suc d) σ' in
      let u' = rel-evaluate holding holding under-hom T e u in
      chosen-good
      (acode (q ++ (into ∷ [])) ts (suc d) (some (suc d)) false t σ' ∷ acode q p d l f (while s e ts t r) σ ∷ K)
      (acode (q ++ (next ∷ [])) p d l false r (joins holding τ σ') ∷ K)
      (evaluate holding T e H) cs
      (ok-loop q p d l f σ s e ts t r ok, u', (λ nt. (ok, loop-under T e t d σ ok.fit ok.plain.1, w, z)), inr (own_in d ok.deep))
      (past-loop q p d l f σ s e ts t r ok, under-trans (joins-right (same_shape τ σ' (shape-then q p d l f σ e ok.fit t))) u', w, z)
  code_step (jump k s x r) q p d l f σ K H cs ok u w z = absurd ok.plain

  task-step : (t : ATask) (K : List ATask) (H : Stack Bool) (cs : List Bool) → WF (t ∷ K) H → Good (step_task T (real t) (reals K) H cs)
  task-step (acode q p d l f c σ) K H cs w = code_step c q p d l f σ K H cs w.0 w.1 w.2 w.3
  task-step (areturning q pl σ) K H cs w =
      record { atasks = adeleting (collect holding T (𝓟 pl) 0 σ) ∷ []; held = H; choices = cs; is = refl; wf = (place-held pl 0 σ H w.0.distinct w.1, tt) }
  task-step (aassigning q s p d l e v r σ) K H cs w =
      record {
        atasks = adeleting (assign_drops holding T 𝓟 s e σ) ∷ aassigned q p d l e v r σ ∷ K;
        held = H;
        choices = cs;
        is = refl;
        wf = (
          assign-held s e σ H w.1,
          (
            w.2,
            subst (λ (τ : Stack Bool). Under (after_assign holding T e v σ) τ) (sym (after-delete T (𝓟 (at_assign (ident_in (view e)))) s e v σ H)) (rel-after holding holding under-hom T e v w.1),
            w.3,
            w.4,
          ),
        );
      }
  task-step (adeleting []) K H cs w = record { atasks = K; held = H; choices = cs; is = refl; wf = w.1 }
  task-step (adeleting (drop_of p n t ∷ x)) K H cs w = record { atasks = adeleting x ∷ K; held = given_up n H; choices = cs; is = refl; wf = (w.0.1, w.1) }
  task-step (aclosing d) K H cs w = record { atasks = K; held = pop d H; choices = cs; is = refl; wf = w }
  task-step (aassigned q p d l e v r σ) K H cs w =
      record { atasks = acode (q ++ (next ∷ [])) p d l false r (after_assign holding T e v σ) ∷ K; held = after_assign holding T e v H; choices = cs; is = refl; wf = w }

  step-good : (ts : List ATask) (H : Stack Bool) (cs : List Bool) → WF ts H → Good (step T (at (reals ts) H cs))
  step-good [] H cs w = ended H cs
  step-good (t ∷ K) H cs w = task-step t K H cs w

  pub good-steps : {c c' : Config} → Steps T c c' → Good c → Good c'
  good-steps (arrived e) g = subst Good e g
  good-steps (onward s) g = good-steps s (subst (λ (x : Config). Good (step T x)) (sym g.is) (step-good g.atasks g.held g.choices g.wf))
