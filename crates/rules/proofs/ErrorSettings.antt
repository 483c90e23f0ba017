-- What of errors and warnings depends on the switches: the kinds of use errors, by switch 3 alone, and these only from what is sure to what
-- may be.
-- Assumes nothing.
use Rattle.std.proofs.Common.{◌≡◌, ℕ, suc, ◌+◌, ◌<◌, Bool, true, false, cond, ◌&&◌, T as So, eqb, ◌⊎◌, List, [], ◌∷◌, ◌++◌, sym, refl, ap, subst, inl, inr, arith}
use mathlib.Core.Bool.{beq}
use mathlib.Core.Option.{Option, some}
use Rattle.tables.specs.Tables.{Tables}
use Rattle.image_body.specs.Stmt.{Tree, done, expr_stmt, variable, assign, return, bare_return, block, if_else, if_then, while, jump}
use Rattle.image.specs.Image.{Image}
use Rattle.rules.specs.Questions.{auto}
use Rattle.rules.specs.Expr.{view, is_call, ty_of}
use Rattle.rules.specs.Stack.{local, Stack, Shape, shape, lookup}
use Rattle.rules.specs.State.{Kind, deleted, moved, consumed, State, alive, gone, kind_eq, places_eq, combine, join_kind, join_state}
use Rattle.rules.specs.Effects.{Effect, use', kill, hand, bad_move, global_move, effects, expr_stmt_effects, assign_effects}
use Rattle.rules.specs.Rules.{Switches, off, states, declared, locals_of, sure_from, at_bare_return, at_jump}
use Rattle.rules.specs.Report.{Report, error, warning, left, bad_use, use_of, report_of, report_all, expr_bytes, code_bytes, report, body_start, reports, errors, warnings}
use Rattle.rules.proofs.Bools.{and_l, and_r, of≡}
use Rattle.rules.proofs.Relate.{Rel, empty, both, Hom, rel-shape, rel-apply, rel-expr, rel-variable, rel-entered}
use Rattle.rules.proofs.Project.{Likeness, alike-joins, alike-merge, evaluate-alike, assign_alike, exit-alike}
use Rattle.rules.proofs.Each.{Own, none_left, left_out, listed, left-own}
use Rattle.rules.proofs.Settings.{joined, flag}

-- Errors one by one: place, hint and other places are the same, and the kinds are so related
pub data ErrorsBy (K : ℕ → ℕ → Type 0) : List Report → List Report → Type 0 where
  none : ErrorsBy K [] []
  one : {k k' p h : ℕ} {ps : List ℕ} {rs qs : List Report} → K k k' → ErrorsBy K rs qs → ErrorsBy K (error k p h ps ∷ rs) (error k' p h ps ∷ qs)

-- the same kind, or from 1, 2, 3 to 4, 5, 6
abbrev pub Softened : ℕ → ℕ → Type 0
Softened k k' = (k ≡ k') ⊎ ((0 < k) × (k < 4) × (k' ≡ 3 + k))

-- the same of all reports, but what is left behind
data Like (K : ℕ → ℕ → Type 0) : List Report → List Report → Type 0 where
  nothing : Like K [] []
  an-error : {k k' p h : ℕ} {ps : List ℕ} {rs qs : List Report} → K k k' → Like K rs qs → Like K (error k p h ps ∷ rs) (error k' p h ps ∷ qs)
  a-warning : {s o : ℕ} {rs qs : List Report} → Like K rs qs → Like K (warning s o ∷ rs) (warning s o ∷ qs)
  left-first : {s n b : ℕ} {rs qs : List Report} → Like K rs qs → Like K (left s n b ∷ rs) qs
  left-second : {s n b : ℕ} {rs qs : List Report} → Like K rs qs → Like K rs (left s n b ∷ qs)

module _ {K : ℕ → ℕ → Type 0} where
  like-both : {rs rs' qs qs' : List Report} → Like K rs qs → Like K rs' qs' → Like K (rs ++ rs') (qs ++ qs')
  like-both nothing b = b
  like-both (an-error k a) b = an-error k (like-both a b)
  like-both (a-warning a) b = a-warning (like-both a b)
  like-both (left-first a) b = left-first (like-both a b)
  like-both (left-second a) b = left-second (like-both a b)

  like-errors : {rs qs : List Report} → Like K rs qs → ErrorsBy K (errors rs) (errors qs)
  like-errors nothing = none
  like-errors (an-error k a) = one k (like-errors a)
  like-errors (a-warning a) = like-errors a
  like-errors (left-first a) = like-errors a
  like-errors (left-second a) = like-errors a

  like-warnings : {rs qs : List Report} → Like K rs qs → warnings rs ≡ warnings qs
  like-warnings nothing = refl
  like-warnings (an-error k a) = like-warnings a
  like-warnings (a-warning {s} {o} a) = ap (λ (x : List Report). warning s o ∷ x) (like-warnings a)
  like-warnings (left-first a) = like-warnings a
  like-warnings (left-second a) = like-warnings a

  first-left : {p : ℕ} {Γ : Shape} {xs rs qs : List Report} → Own p Γ xs → Like K rs qs → Like K (xs ++ rs) qs
  first-left none_left a = a
  first-left (left_out o) a = first-left o a
  first-left (listed o) a = left-first (first-left o a)

  second-left : {p : ℕ} {Γ : Shape} {xs rs qs : List Report} → Own p Γ xs → Like K rs qs → Like K rs (xs ++ qs)
  second-left none_left a = a
  second-left (left_out o) a = second-left o a
  second-left (listed o) a = left-second (second-left o a)

by-same : {rs qs : List Report} → ErrorsBy (λ k k'. k ≡ k') rs qs → rs ≡ qs
by-same none = refl
by-same (one {k} {k'} {p} {h} {ps} {rs} {qs} e a) = λ i. error (e i) p h ps ∷ by-same a i

-- Two settings whose states are related, so that uses are reported alike
module _ (w w' : Switches) {R : State → State → Type 0} (like : Likeness (states w) (states w') R) {K : ℕ → ℕ → Type 0}
    (told : (s : ℕ) (a b : State) → R a b → Like K (bad_use s a) (bad_use s b)) (kept : (k : ℕ) → K k k) where
  abbrev Near : Stack State → Stack State → Type 0
  Near σ τ = Rel (λ m a b. R a b) σ τ

  like-use : (n s : ℕ) {σ τ : Stack State} → Near σ τ → Like K (use_of s (lookup n σ)) (use_of s (lookup n τ))
  like-use n s empty = nothing
  like-use n s (both {s = l} {a = a} {b = b} {σ = σ} {τ = τ} r rs) = go (eqb l.name n) (like-use n s rs)
    where
      go : (c : Bool) → Like K (use_of s (lookup n σ)) (use_of s (lookup n τ)) → Like K (use_of s (cond c (some (local l a)) (lookup n σ))) (use_of s (cond c (some (local l b)) (lookup n τ)))
      go true x = told s a b r
      go false x = x

  like-effect : (e : Effect) {σ τ : Stack State} → Near σ τ → Like K (report_of e σ) (report_of e τ)
  like-effect (use' n s) r = like-use n s r
  like-effect (kill k n s) r = nothing
  like-effect (hand n s) r = nothing
  like-effect (bad_move s h) r = an-error (kept 7) nothing
  like-effect (global_move s g) r = an-error (kept 8) nothing

  -- effects join no states
  applied : Hom (states off) (states off) (λ m a b. R a b)
  applied = record { new = like.hom.new; killed = like.hom.killed; handed_over = like.hom.handed_over }

  like-all : (es : List Effect) {σ τ : Stack State} → Near σ τ → Like K (report_all es σ) (report_all es τ)
  like-all [] r = nothing
  like-all (e ∷ es) r = like-both (like-effect e r) (like-all es (rel-apply (states off) (states off) applied e r))

  like-effects : (f : Shape → List Effect) {σ τ : Stack State} → Near σ τ → Like K (report_all (f (shape σ)) σ) (report_all (f (shape τ)) τ)
  like-effects f {σ} {τ} r = subst (λ (Γ : Shape). Like K (report_all (f (shape σ)) σ) (report_all (f Γ) τ)) (rel-shape r) (like-all (f (shape σ)) r)

  like-unused : (b : Bool) (s o : ℕ) → Like K (cond b (warning s o ∷ []) []) (cond b (warning s o ∷ []) [])
  like-unused true s o = a-warning nothing
  like-unused false s o = nothing

  module _ (T : Tables) where
    like-report : (c : Tree) (d : ℕ) (l : Option ℕ) (at : ℕ) {σ τ : Stack State} → Near σ τ → Like K (report w T c d l at σ) (report w' T c d l at τ)
    like-report (done x) d l at r = nothing
    like-report (expr_stmt s e y c) d l at r =
        like-both (like-effects (λ Γ. expr_stmt_effects T Γ e) r) (like-both (like-unused (auto T (ty_of e) && is_call (view e)) s _)
        (like-report c d l (at + 5 + expr_bytes e) (rel-expr (states w) (states w') like.hom T e r)))
    like-report (variable k s n t e c) d l at r =
        like-both (like-effects (λ Γ. effects T Γ e) r) (like-report c d l (at + 9 + expr_bytes e) (rel-variable (states w) (states w') like.hom T (declared d s n t) e r))
    like-report (assign s e v t x c) d l at r =
        like-both (like-effects (λ Γ. assign_effects T Γ e v) r) (like-report c d l (at + 7 + expr_bytes e + expr_bytes v) (assign_alike (states w) (states w') like T e v r))
    like-report (return s e t x c) d l at r =
        like-both (like-effects (λ Γ. effects T Γ e) r) (like-report c d l (at + 8 + expr_bytes e) (evaluate-alike (states w) (states w') like T e r))
    like-report (bare_return s t x c) d l at {σ} {τ} r =
        first-left (left-own T w.bare_returns s at_bare_return σ) (second-left (left-own T w'.bare_returns s at_bare_return τ) (like-report c d l (at + 8) r))
    like-report (block s b c) d l at r =
        like-both (like-report b (suc d) l (at + 7) r) (like-report c d l (at + 7 + code_bytes b) (exit-alike (states w) (states w') like T b (suc d) r))
    like-report (if_else s e ts t us u c) d l at r =
        let r' = evaluate-alike (states w) (states w') like T e r in
        like-both (like-effects (λ Γ. effects T Γ e) r) (like-both (like-report t (suc d) l (at + 11 + expr_bytes e) r') (like-both (like-report u (suc d) l (at + 18 + expr_bytes e + code_bytes t) r')
        (like-report c d l (at + 18 + expr_bytes e + code_bytes t + code_bytes u)
        (alike-merge (states w) (states w') like (sure_from t false) (sure_from u false) r' (exit-alike (states w) (states w') like T t (suc d) r') (exit-alike (states w) (states w') like T u (suc d) r')))))
    like-report (if_then s e ts t c) d l at r =
        let r' = evaluate-alike (states w) (states w') like T e r in
        like-both (like-effects (λ Γ. effects T Γ e) r) (like-both (like-report t (suc d) l (at + 11 + expr_bytes e) r')
        (like-report c d l (at + 12 + expr_bytes e + code_bytes t) (alike-merge (states w) (states w') like (sure_from t false) false r' (exit-alike (states w) (states w') like T t (suc d) r') r')))
    like-report (while s e ts t c) d l at r =
        let r' = evaluate-alike (states w) (states w') like T e r in
        like-both (like-effects (λ Γ. effects T Γ e) r) (like-both (like-report t (suc d) (some (suc d)) (at + 11 + expr_bytes e) r')
        (like-report c d l (at + 11 + expr_bytes e + code_bytes t) (alike-joins (states w) (states w') like (exit-alike (states w) (states w') like T t (suc d) r') r')))
    like-report (jump k s x c) d l at {σ} {τ} r =
        first-left (left-own T w.jumps s (at_jump l) σ) (second-left (left-own T w'.jumps s (at_jump l) τ) (like-report c d l (at + 5) r))

  like-reports : (i : Image) → Like K (reports w i) (reports w' i)
  like-reports i = like-report i.tables i.body.code 1 Option.none (body_start i) (rel-entered (states w) (states w') like.hom i.tables (locals_of i.entry) empty)

-- A state and what becomes of it with switch 3: where it was sure it may be conditional
data Softer : State → State → Type 0 where
  living : Softer alive alive
  lost : {c c' : Bool} {k : Kind} {ps : List ℕ} → (So c → So c') → Softer (gone c k ps) (gone c' k ps)

beq_same : (c c' : Bool) → So (beq c c') → c ≡ c'
beq_same true true t = refl
beq_same true false t = absurd t
beq_same false true t = absurd t
beq_same false false t = refl

-- a join is conditional if both states are, they are of one family, and either they are equal or switch 3 is on
flag-parts : (i c c' q e : Bool) → So (flag i c c' q e) → So c × So c' × So q × (So e ⊎ So i)
flag-parts i c c' q e = go (beq c c' && q && e) refl
  where
    go : (b : Bool) → (beq c c' && q && e) ≡ b → So (cond b c (i && c && c' && q)) → So c × So c' × So q × (So e ⊎ So i)
    go true z t =
        let x : So (beq c c' && q && e) = of≡ (beq c c' && q && e) z in
        let y = and_l (beq c c' && q) e x in
        (t, subst So (beq_same c c' (and_l (beq c c') q y)) t, and_r (beq c c') q y, inl (and_r (beq c c' && q) e x))
    go false z t =
        let x = and_l (i && c && c') q t in
        let y = and_l (i && c) c' x in
        (and_r i c y, and_r (i && c) c' x, and_r (i && c && c') q t, inr (and_l i c y))

flag-of : (i c c' q e : Bool) → So c → So c' → So q → So e ⊎ So i → So (flag i c c' q e)
flag-of i false c' q e x y z s = absurd x
flag-of i true false q e x y z s = absurd y
flag-of i true true false e x y z s = absurd z
flag-of i true true true true x y z s = tt
flag-of true true true true false x y z s = tt
flag-of false true true true false x y z (inl t) = absurd t
flag-of false true true true false x y z (inr t) = absurd t

module _ (w w' : Switches) (more : So w.conditional → So w'.conditional) where
  softer-hand : (p : ℕ) (a b : State) → Softer a b → Softer ((states w).handed_over p a) ((states w').handed_over p b)
  softer-hand p a b living = lost (λ t. t)
  softer-hand p a b (lost f) = lost f

  softer-join : (a a' b b' : State) → Softer a b → Softer a' b' → Softer (join_state w.conditional a a') (join_state w'.conditional b b')
  softer-join a a' b b' living living = living
  softer-join a a' b b' living (lost f) = lost (λ t. t)
  softer-join a a' b b' (lost f) living = lost (λ t. t)
  softer-join a a' b b' (lost {c = c} {c' = d} {k = k} {ps = ps} f) (lost {c = c'} {c' = d'} {k = k'} {ps = ps'} g) =
      subst (λ (x : State). Softer (join_state w.conditional (gone c k ps) (gone c' k' ps')) x) (sym (joined w'.conditional d d' k k' ps ps'))
      (subst (λ (x : State). Softer x (gone (flag w'.conditional d d' (kind_eq k k') (places_eq ps ps')) (join_kind k k') (combine ps ps'))) (sym (joined w.conditional c c' k k' ps ps'))
      (lost (λ t. let x = flag-parts w.conditional c c' (kind_eq k k') (places_eq ps ps') t in
      flag-of w'.conditional d d' (kind_eq k k') (places_eq ps ps') (f x.0) (g x.1) x.2 (either x.3))))
    where
      either : {A : Type 0} → A ⊎ So w.conditional → A ⊎ So w'.conditional
      either (inl t) = inl t
      either (inr t) = inr (more t)

  softer : Likeness (states w) (states w') Softer
  softer = record {
    hom = record { new = λ m. living; killed = λ m k p a b r. lost (λ t. t); handed_over = λ m p a b r. softer-hand p a b r };
    join = softer-join;
    lives = lives;
  }
    where
      lives : (a b : State) → Softer a b → (states w).lives a ≡ (states w').lives b
      lives a b living = refl
      lives a b (lost f) = refl

  softer-use : (s : ℕ) (a b : State) → Softer a b → Like Softened (bad_use s a) (bad_use s b)
  softer-use s a b living = nothing
  softer-use s a b (lost {c = c} {c' = c'} {k = k} {ps = ps} f) = go c c' k f
    where
      go : (c c' : Bool) (k : Kind) → (So c → So c') → Like Softened (bad_use s (gone c k ps)) (bad_use s (gone c' k ps))
      go true false k g = absurd (g tt)
      go true true deleted g = an-error (inl refl) nothing
      go true true moved g = an-error (inl refl) nothing
      go true true consumed g = an-error (inl refl) nothing
      go false false deleted g = an-error (inl refl) nothing
      go false false moved g = an-error (inl refl) nothing
      go false false consumed g = an-error (inl refl) nothing
      go false true deleted g = an-error {k = 1} (inr (omega arith, omega arith, refl)) nothing
      go false true moved g = an-error {k = 2} (inr (omega arith, omega arith, refl)) nothing
      go false true consumed g = an-error {k = 3} (inr (omega arith, omega arith, refl)) nothing

  softened : (i : Image) → Like Softened (reports w i) (reports w' i)
  softened i = like-reports w w' softer softer-use (λ k. inl refl) i

  -- of every image, with switch 3 and without: the same errors, but that kinds 1, 2, 3 may become 4, 5, 6
  pub errors-softened : (i : Image) → ErrorsBy Softened (errors (reports w i)) (errors (reports w' i))
  errors-softened i = like-errors (softened i)

-- and the same errors under settings that agree on switch 3
pub errors-settings : (w w' : Switches) → w.conditional ≡ w'.conditional → (i : Image) → errors (reports w i) ≡ errors (reports w' i)
errors-settings w w' e i = by-same (like-errors (like-reports w w' same-states used (λ k. refl) i))
  where
    same-states : Likeness (states w) (states w') (λ a b. a ≡ b)
    same-states = record {
      hom = record { new = λ m. refl; killed = λ m k p a b r. refl; handed_over = λ m p a b r. ap ((states w).handed_over p) r };
      join = λ a a' b b' r q. λ j. join_state (e j) (r j) (q j);
      lives = λ a b r. ap (states w).lives r;
    }

    refl-use : (s : ℕ) (a : State) → Like (λ k k'. k ≡ k') (bad_use s a) (bad_use s a)
    refl-use s alive = nothing
    refl-use s (gone true deleted ps) = an-error refl nothing
    refl-use s (gone true moved ps) = an-error refl nothing
    refl-use s (gone true consumed ps) = an-error refl nothing
    refl-use s (gone false deleted ps) = an-error refl nothing
    refl-use s (gone false moved ps) = an-error refl nothing
    refl-use s (gone false consumed ps) = an-error refl nothing

    used : (s : ℕ) (a b : State) → a ≡ b → Like (λ k k'. k ≡ k') (bad_use s a) (bad_use s b)
    used s a b r = subst (λ (x : State). Like (λ k k'. k ≡ k') (bad_use s a) (bad_use s x)) r (refl-use s a)

-- of every image the same warnings under all settings
pub warnings-settings : (w w' : Switches) (i : Image) → warnings (reports w i) ≡ warnings (reports w' i)
warnings-settings w w' i = go w.conditional w'.conditional refl refl
  where
    go : (b b' : Bool) → w.conditional ≡ b → w'.conditional ≡ b' → warnings (reports w i) ≡ warnings (reports w' i)
    go false b' e e' = like-warnings (softened w w' (λ t. absurd (subst So e t)) i)
    go true true e e' = like-warnings (softened w w' (λ t. subst So (sym e') tt) i)
    go true false e e' = sym (like-warnings (softened w' w (λ t. absurd (subst So e' t)) i))
