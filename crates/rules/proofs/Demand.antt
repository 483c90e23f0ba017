-- Demand 3, first on what is alive or not, then on the pass's states.
-- Assumes nothing.
use Rattle.std.proofs.Common.{◌≡◌, ℕ, Bool, true, false, cond, not, ◌&&◌, ◌||◌, T as So, eqb, List, [], ◌∷◌, sym, refl, ap, ◌∙◌, subst, inl, append-nil, T_not}
use mathlib.Core.Option.{Option, none, some}
use lib.Dec.{not_T}
use Rattle.tables.specs.Signature.{Param}
use Rattle.tables.specs.Tables.{Tables}
use Rattle.image_body.specs.Stmt.{Tree, done, expr_stmt, variable, assign, return, bare_return, block, if_else, if_then, while, jump}
use Rattle.rules.specs.Expr.{view, ident_in}
use Rattle.rules.specs.Stack.{Static, Stack, Shape, shape, static_of, has}
use Rattle.rules.specs.Rules.{holding, Drop, drop_of, Decided, register, decide, entered, Fresh, PlainIn, decide_in, given, at_end, at_assign, Policy, end_drops}
use Rattle.rules.specs.Run.{Path, Task, code, returning, assigning, deleting, closing, assigned, Config, at, arrived, start, Moment, moment_code, moment_task, moment, Reached, holds, dropped, admits, concerned, Lost, Demand3}
use Rattle.rules.proofs.Spots.{drops_of}
use Rattle.rules.proofs.Bools.{and_l, and_r, and_i, leb-refl}
use Rattle.rules.proofs.Relate.{rel-shape}
use Rattle.rules.proofs.Shapes.{shape-frame}
use Rattle.rules.proofs.Order.{Under, under-refl, over-refl}
use Rattle.rules.proofs.Through.{Fit, fit-by, fit-deeper}
use Rattle.rules.proofs.Names.{under-holds, over-holds, dropped-collect, HeldDrops}
use Rattle.rules.proofs.Assigned.{dropped-named}
use Rattle.rules.proofs.Sound.{Proper, root, spot_of, Reach, ATask, acode, areturning, aassigning, adeleting, aclosing, aassigned, real, reals, CodeOk, WF, Good, good-steps}

admits-has : (T : Tables) (q : Static → Bool) (n : ℕ) (Γ : Shape) → So (admits T q (static_of n Γ)) → So (has n Γ)
admits-has T q n [] t = t
admits-has T q n (s ∷ Γ) t = go (eqb s.name n) (admits-has T q n Γ) t
  where
    go : (c : Bool) → (So (admits T q (static_of n Γ)) → So (has n Γ)) → So (admits T q (cond c (some s) (static_of n Γ))) → So (c || has n Γ)
    go true ih u = tt
    go false ih u = ih u

module _ (T : Tables) (𝓟 : Policy) (proper : Proper 𝓟) (params : List Param) (span : ℕ) (body : Tree) where
  abbrev whole : Decided
  whole = root T 𝓟 proper params span body

  -- what is known at a moment
  pub record Known (m : Moment) : Type 0 where
    pub σ : Stack Bool
    pub under : Under σ m.held
    pub spec : (n : ℕ) → dropped n m.drops ≡ (admits T (λ s. 𝓟 m.place s) (static_of n (shape σ)) && holds n σ)
    pub tied : drops_of holding T 𝓟 (spot_of T 𝓟 proper params span body m.path) ≡ m.drops
    pub task : Task
    pub here' : (H : Stack Bool) → moment_task task H ≡ some (record { path = m.path; place = m.place; drops = m.drops; held = H })
    pub reach : (n : ℕ) → Reach T 𝓟 proper params span body n task σ

  abbrev Told : Option Moment → Type 0
  Told none = Unit {0}
  Told (some m) = Known m

  told-code : (c : Tree) (q : Path) (p d : ℕ) (l : Option ℕ) (f : Bool) (σ H : Stack Bool) → CodeOk T 𝓟 proper params span body q p d l f c σ → Under σ H → Told (moment_code (decide holding T 𝓟 c p d l f σ) q d H)
  told-code (done x) q p d l true σ H ok u = absurd ok.open-end
  told-code (done x) q p d l false σ H ok u =
      record {
        σ = σ;
        under = u;
        spec = λ n. dropped-collect T (λ s. 𝓟 (at_end d) s) p n σ ok.fit.1;
        tied = ap (λ (q : Path). drops_of holding T 𝓟 (spot_of T 𝓟 proper params span body q)) (sym (append-nil q)) ∙ ap (drops_of holding T 𝓟) (ok.tied []);
        task = code q d (done (end_drops holding T 𝓟 d p σ));
        here' = λ H. refl;
        reach = ok.reach;
      }
  told-code (expr_stmt s e y r) q p d l f σ H ok u = tt
  told-code (variable k s n t e r) q p d l f σ H ok u = tt
  told-code (assign s e v t x r) q p d l f σ H ok u = tt
  told-code (return s e t x r) q p d l f σ H ok u = tt
  told-code (bare_return s t x r) q p d l f σ H ok u = tt
  told-code (block s c r) q p d l f σ H ok u = tt
  told-code (if_else s e ts t us v r) q p d l f σ H ok u = tt
  told-code (if_then s e ts t r) q p d l f σ H ok u = tt
  told-code (while s e ts t r) q p d l f σ H ok u = tt
  told-code (jump k s x r) q p d l f σ H ok u = tt

  told : (ts : List (ATask T 𝓟 proper params span body)) (H : Stack Bool) (cs : List Bool) → WF T 𝓟 proper params span body ts H → Told (moment (at (reals T 𝓟 proper params span body ts) H cs))
  told [] H cs w = tt
  told (acode q p d l f c σ ∷ K) H cs w = told-code c q p d l f σ H w.0 w.1
  told (areturning q pl σ ∷ K) H cs w =
      record {
        σ = σ;
        under = w.1;
        spec = λ n. dropped-collect T (λ s. 𝓟 pl s) 0 n σ w.0.distinct;
        tied = w.0.tied;
        task = real T 𝓟 proper params span body (areturning q pl σ);
        here' = λ H. refl;
        reach = w.0.reach;
      }
  told (aassigning q s p d l e v r σ ∷ K) H cs w =
      record {
        σ = σ;
        under = w.1;
        spec = λ n. dropped-named T (𝓟 (at_assign (ident_in (view e)))) s n (ident_in (view e)) σ (proper.named (ident_in (view e)));
        tied = w.0.tied;
        task = real T 𝓟 proper params span body (aassigning q s p d l e v r σ);
        here' = λ H. refl;
        reach = w.0.reach;
      }
  told (adeleting x ∷ K) H cs w = tt
  told (aclosing d ∷ K) H cs w = tt
  told (aassigned q p d l e v r σ ∷ K) H cs w = tt

  known : (c : Config) (m : Moment) → Good T 𝓟 proper params span body c → moment c ≡ some m → Known m
  known c m g e = subst Told e (subst (λ (x : Config). Told (moment x)) (sym g.is) (told g.atasks g.held g.choices g.wf))

  -- a config that is about to delete n
  abbrev Deletes : List Task → Stack Bool → Type 0
  Deletes [] H = Unit {0}
  Deletes (code q d c ∷ K) H = Unit {0}
  Deletes (returning q pl x ∷ K) H = Unit {0}
  Deletes (assigning q d e v x r ∷ K) H = Unit {0}
  Deletes (deleting x ∷ K) H = HeldDrops x H
  Deletes (closing d ∷ K) H = Unit {0}
  Deletes (assigned q d e v r ∷ K) H = Unit {0}

  abbrev DeletesAt : Config → Type 0
  DeletesAt (at ts H cs) = Deletes ts H

  deletes : (ts : List (ATask T 𝓟 proper params span body)) (H : Stack Bool) → WF T 𝓟 proper params span body ts H → Deletes (reals T 𝓟 proper params span body ts) H
  deletes [] H w = tt
  deletes (acode q p d l f c σ ∷ K) H w = tt
  deletes (areturning q pl σ ∷ K) H w = tt
  deletes (aassigning q s p d l e v r σ ∷ K) H w = tt
  deletes (adeleting x ∷ K) H w = w.0
  deletes (aclosing d ∷ K) H w = tt
  deletes (aassigned q p d l e v r σ ∷ K) H w = tt

  good-deletes : (c : Config) → Good T 𝓟 proper params span body c → DeletesAt c
  good-deletes c g = subst DeletesAt (sym g.is) (deletes g.atasks g.held g.wf)

  module _ (begin : (cs : List Bool) → Good T 𝓟 proper params span body (start T params whole cs)) where
    known_at : (m : Moment) → Reached T params whole m → Known m
    known_at m r = known r.config m (good-steps T 𝓟 proper params span body r.steps (begin r.choices)) r.stands

    lost-of : (m : Moment) (n : ℕ) (k : Known m) → So (concerned 𝓟 T m n) → So (not (dropped n m.drops)) → Lost T params whole m n
    lost-of m n k cn nd =
        let x = k.reach n in
        let back : So (admits T (λ s. 𝓟 m.place s) (static_of n (shape k.σ))) =
        subst (λ (Γ : Shape). So (admits T (λ s. 𝓟 m.place s) (static_of n Γ))) (sym (rel-shape k.under)) cn in
        record {
          there = record { path = m.path; place = m.place; drops = m.drops; held = x.held };
          reached = record { choices = x.chosen []; config = at (k.task ∷ x.tasks) x.held []; steps = x.steps []; stands = k.here' x.held };
          same_path = refl;
          known = subst (λ (Γ : Shape). So (has n Γ)) (rel-shape x.over) (admits-has T (λ s. 𝓟 m.place s) n (shape k.σ) back);
          not_held = not_T (holds n x.held) λ h.
              T_not (dropped n m.drops) nd
              (subst So (sym (k.spec n)) (and_i (admits T (λ s. 𝓟 m.place s) (static_of n (shape k.σ))) (holds n k.σ) back (over-holds n x.over h)));
        }

    kept_of : (m : Moment) (n : ℕ) (k : Known m) → Lost T params whole m n → So (not (dropped n m.drops))
    kept_of m n k l =
        let k' = known_at l.there l.reached in
        let same : l.there.drops ≡ m.drops = sym k'.tied ∙ (ap (λ (q : Path). drops_of holding T 𝓟 (spot_of T 𝓟 proper params span body q)) l.same_path ∙ k.tied) in
        not_T (dropped n m.drops) λ t.
        T_not (holds n l.there.held) l.not_held
        (under-holds n k'.under
        (and_r (admits T (λ s. 𝓟 l.there.place s) (static_of n (shape k'.σ))) (holds n k'.σ)
        (subst So (k'.spec n) (subst (λ (x : List Drop). So (dropped n x)) (sym same) t))))

    concerned-of : (m : Moment) (n : ℕ) (k : Known m) → So (dropped n m.drops) → So (concerned 𝓟 T m n)
    concerned-of m n k t =
        subst (λ (Γ : Shape). So (admits T (λ s. 𝓟 m.place s) (static_of n Γ))) (rel-shape k.under)
        (and_l (admits T (λ s. 𝓟 m.place s) (static_of n (shape k.σ))) (holds n k.σ) (subst So (k.spec n) t))

    pub demand : Demand3 𝓟 T params whole
    demand =
        record {
          held_at_delete = λ choices p n t x K H cs s. (good-deletes (at (deleting (drop_of p n t ∷ x) ∷ K) H cs) (good-steps T 𝓟 proper params span body s (begin choices))).0;
          passed_over = λ m r n cn h. (λ nd. lost-of m n (known_at m r) cn nd, λ l. kept_of m n (known_at m r) l);
          concerned_only = λ m r n t. concerned-of m n (known_at m r) t;
        }

module _ (T : Tables) where
  entered-fit : (ps : List Param) (σ : Stack Bool) → Fit 0 (shape σ) → Fresh holding T ps σ → Fit 0 (shape (entered holding T ps σ))
  entered-fit [] σ fit fr = fit
  entered-fit (s ∷ ss) σ fit fr =
      entered-fit ss (register holding (given s) σ)
      (fit-by 0 (ap (λ (Γ : Shape). given s ∷ Γ) (shape-frame s.name 0 (λ a. true) σ)) ((leb-refl 0, fit.0), (fr.0, fit.1)))
      fr.1

  pub first-ok : (𝓟 : Policy) (proper : Proper 𝓟) (params : List Param) (p : ℕ) (body : Tree) → PlainIn holding T params body
      → CodeOk T 𝓟 proper params p body [] p 1 none false body (entered holding T params [])
  first-ok 𝓟 proper params p body pl =
      let σ = entered holding T params [] in
      record {
        open-end = tt;
        deep = tt;
        fit = fit-deeper 0 (shape σ) (entered-fit params [] (tt, tt) pl.0);
        plain = pl.1;
        tied = λ z. refl;
        reach = λ n. record { chosen = λ cs. cs; tasks = []; held = σ; over = over-refl n σ; steps = λ cs. arrived refl };
      }

  pub begins : (𝓟 : Policy) (proper : Proper 𝓟) (params : List Param) (p : ℕ) (body : Tree) → PlainIn holding T params body → (cs : List Bool)
      → Good T 𝓟 proper params p body (start T params (decide_in holding T 𝓟 params p body) cs)
  begins 𝓟 proper params p body pl cs =
      let σ = entered holding T params [] in
      record {
        atasks = acode [] p 1 none false body σ ∷ [];
        held = σ;
        choices = cs;
        is = refl;
        wf = (first-ok 𝓟 proper params p body pl, under-refl σ, (λ ns. tt), inl (λ H. tt));
      }

  pub demand-alive : (𝓟 : Policy) → Proper 𝓟 → (params : List Param) (p : ℕ) (body : Tree) → PlainIn holding T params body → Demand3 𝓟 T params (decide_in holding T 𝓟 params p body)
  demand-alive 𝓟 proper params p body pl = demand T 𝓟 proper params p body (begins 𝓟 proper params p body pl)
