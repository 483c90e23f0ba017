-- Where locals were born (02, d): no operation changes the birth of a local it keeps; the entries of a place are of locals of their own, each
-- with its birth; and that is the span of a Let or Const of the name, or 0 and the name is a parameter's or `this`.
-- Assumes nothing.
use Rattle.std.proofs.Common.{◌≡◌, ℕ, suc, ◌+◌, Bool, true, false, cond, ◌&&◌, ◌⊎◌, List, [], ◌∷◌, sym, refl, ap, ◌∙◌, subst, inl, inr}
use mathlib.Core.Option.{Option, none, some}
use Rattle.tables.specs.Signature.{Param}
use Rattle.tables.specs.Tables.{Tables}
use Rattle.image_body.specs.Expr.{Expr}
use Rattle.image_body.specs.Stmt.{Tree, done, expr_stmt, variable, assign, return, bare_return, block, if_else, if_then, while, jump}
use Rattle.image.specs.Image.{Image}
use Rattle.rules.specs.Questions.{auto}
use Rattle.rules.specs.Expr.{nobody, view, is_call, ty_of}
use Rattle.rules.specs.Stack.{local, Stack, Shape, shape}
use Rattle.rules.specs.State.{State, alive, is_alive}
use Rattle.rules.specs.Effects.{Effect, effects, expr_stmt_effects, assign_effects}
use Rattle.rules.specs.Rules.{Alg, Switches, on, states, Drop, drop_of, delete_at, sure_from, register, Place, at_bare_return, at_jump, concerns, collect, return_drops, jump_drops, given, evaluate, after_expr, after_variable, before_assign, after_assign, exit, declared, behind_if, behind_then, behind_loop, entered, locals_of}
use Rattle.rules.specs.Report.{Report, error, warning, left, left_at, left_behind, report_all, unused, expr_bytes, code_bytes, report, body_start, reports}
use Rattle.rules.proofs.Bools.{leb-refl}
use Rattle.rules.proofs.Each.{Each, EachLocal, each_none, each_more, each_both, each-own, each-effects, left-own}
use Rattle.rules.proofs.Shapes.{Within, within-suc, shape-frame, shape-doing, shape-joins, shape-merge, shape-assign, shape-variable, shape-inner}

-- What the walk of a block of depth d does to the locals of a stack, each with its name, type, depth and birth: a Let or Const puts its own
-- before them, with its span; a block inside and whatever is joined behind branches and loops leave all as they were
pub record BirthsKept {A : Type 0} (𝓐 : Alg A) (T : Tables) (d : ℕ) (σ : Stack A) : Type 0 where
  pub evaluated : (e : Expr) → shape (evaluate 𝓐 T e σ) ≡ shape σ
  pub expression : (e : Expr) → shape (after_expr 𝓐 T e σ) ≡ shape σ
  pub registered : (s n t : ℕ) (e : Expr) → shape (after_variable 𝓐 T (declared d s n t) e σ) ≡ record { name = n; ty = t; depth = d; born = s } ∷ shape σ
  pub assigned : (e v : Expr) → shape (after_assign 𝓐 T e v (before_assign 𝓐 T e v σ)) ≡ shape σ
  pub block : (c : Tree) → shape (exit 𝓐 T c (suc d) σ) ≡ shape σ
  pub if_else : (e : Expr) (t u : Tree) → shape (behind_if 𝓐 T e t u d σ) ≡ shape σ
  pub if_then : (e : Expr) (t : Tree) → shape (behind_then 𝓐 T e t d σ) ≡ shape σ
  pub loop : (e : Expr) (t : Tree) → shape (behind_loop 𝓐 T e t d σ) ≡ shape σ

-- on every stack whose locals are of blocks that are open
pub births-kept : {A : Type 0} (𝓐 : Alg A) (T : Tables) (d : ℕ) (σ : Stack A) → Within d (shape σ) → BirthsKept 𝓐 T d σ
births-kept 𝓐 T d σ w = record {
  evaluated = condition;
  expression = λ e. shape-doing 𝓐 (λ Γ. expr_stmt_effects T Γ e) σ;
  registered = λ s n t e. shape-variable 𝓐 T (declared d s n t) e σ;
  assigned = λ e v. shape-assign 𝓐 T e v (before_assign 𝓐 T e v σ) ∙ shape-doing 𝓐 (λ Γ. assign_effects T Γ e v) σ;
  block = λ c. shape-inner 𝓐 T c d σ w;
  if_else = λ e t u. shape-merge 𝓐 (sure_from t false) (sure_from u false) _ _ _ (shape σ) (condition e) (branch e t) (branch e u);
  if_then = λ e t. shape-merge 𝓐 (sure_from t false) false _ _ _ (shape σ) (condition e) (branch e t) (condition e);
  loop = λ e t. shape-joins 𝓐 (exit 𝓐 T t (suc d) (evaluate 𝓐 T e σ)) (evaluate 𝓐 T e σ) ∙ branch e t;
}
  where
    condition : (e : Expr) → shape (evaluate 𝓐 T e σ) ≡ shape σ
    condition e = shape-doing 𝓐 (λ Γ. effects T Γ e) σ

    branch : (e : Expr) (t : Tree) → shape (exit 𝓐 T t (suc d) (evaluate 𝓐 T e σ)) ≡ shape σ
    branch e t = shape-inner 𝓐 T t d (evaluate 𝓐 T e σ) (subst (λ (Γ : Shape). Within d Γ) (sym (condition e)) w) ∙ condition e

-- the locals that a body is entered with are born at 0
pub entered-born : {A : Type 0} (𝓐 : Alg A) (T : Tables) (xs : List Param) → EachLocal (λ s. s.born ≡ 0) (shape (entered 𝓐 T xs []))
entered-born 𝓐 T xs = go xs [] tt
  where
    go : (ys : List Param) (σ : Stack _) → EachLocal (λ s. s.born ≡ 0) (shape σ) → EachLocal (λ s. s.born ≡ 0) (shape (entered 𝓐 T ys σ))
    go [] σ z = z
    go (y ∷ ys) σ z =
        go ys (register 𝓐 (given y) σ) (refl, subst (EachLocal (λ s. s.born ≡ 0)) (sym (shape-frame y.name 0 (λ a. 𝓐.new) σ)) z)

-- the names of left-behind entries and of deletes
abbrev pub left_names : List Report → List ℕ
left_names [] = []
left_names (error k p h ps ∷ rs) = left_names rs
left_names (warning s o ∷ rs) = left_names rs
left_names (left s n b ∷ rs) = n ∷ left_names rs

abbrev pub drop_names : List Drop → List ℕ
drop_names [] = []
drop_names (drop_of p n t ∷ ds) = n ∷ drop_names ds

-- a place leaves behind what it would drop with all switches on (02, e)
pub left-as-dropped : (T : Tables) (p q : ℕ) (pl : Place) (σ : Stack State) → left_names (left_behind T false p pl σ) ≡ drop_names (collect (states on) T (λ s. concerns on pl s) q σ)
left-as-dropped T p q pl [] = refl
left-as-dropped T p q pl (local s a ∷ σ) = go (concerns on pl s && is_alive a && auto T s.ty) (left-as-dropped T p q pl σ)
  where
    ls : List Report
    ls = left_behind T false p pl σ

    ds : List Drop
    ds = collect (states on) T (λ s. concerns on pl s) q σ

    go : (b : Bool) → left_names ls ≡ drop_names ds → left_names (cond b (left_at p s ∷ ls) ls) ≡ drop_names (cond b (delete_at q s ∷ ds) ds)
    go true e = ap (λ (ns : List ℕ). s.name ∷ ns) e
    go false e = e

-- a return without a value what one with a value that excludes no name would delete (document 01, "What is reported"), under any switches
pub left-as-returned : (w : Switches) (T : Tables) (p : ℕ) (σ : Stack State) → left_names (left_behind T false p at_bare_return σ) ≡ drop_names (return_drops (states w) T (concerns w) nobody σ)
left-as-returned w T p σ = left-as-dropped T p 0 at_bare_return σ

-- a Break or Continue what it would drop with switch 2
pub left-as-jumped : (T : Tables) (p : ℕ) (l : Option ℕ) (σ : Stack State) → left_names (left_behind T false p (at_jump l) σ) ≡ drop_names (jump_drops (states on) T (concerns on) l σ)
left-as-jumped T p l σ = left-as-dropped T p 0 (at_jump l) σ

-- a fact about a name and a birth
module _ (P : ℕ → ℕ → Type 0) where
  -- of each local; of each parameter and `this`, with 0
  abbrev pub Born : Shape → Type 0
  Born Γ = EachLocal (λ s. P s.name s.born) Γ

  abbrev pub Given : List Param → Type 0
  Given [] = Unit {0}
  Given (x ∷ xs) = P x.name 0 × Given xs

  -- of each Let and Const, with its span
  abbrev pub Declares : Tree → Type 0
  Declares (done x) = Unit {0}
  Declares (expr_stmt s e y r) = Declares r
  Declares (variable k s n t e r) = P n s × Declares r
  Declares (assign s e v t x r) = Declares r
  Declares (return s e t x r) = Declares r
  Declares (bare_return s t x r) = Declares r
  Declares (block s c r) = Declares c × Declares r
  Declares (if_else s e ts t us u r) = Declares t × Declares u × Declares r
  Declares (if_then s e ts t r) = Declares t × Declares r
  Declares (while s e ts t r) = Declares t × Declares r
  Declares (jump k s x r) = Declares r

  -- of the name and third number of each left-behind entry
  abbrev pub LeftBorn : Report → Type 0
  LeftBorn (error k p h ps) = Unit {0}
  LeftBorn (warning s o) = Unit {0}
  LeftBorn (left s n b) = P n b

  of-unused : (b : Bool) (s : ℕ) (e : Expr) (at : ℕ) → Each LeftBorn (unused b s e at)
  of-unused true s e at = each_more LeftBorn _ _ tt (each_none LeftBorn)
  of-unused false s e at = each_none LeftBorn

  of-effects : (es : List Effect) (σ : Stack State) → Each LeftBorn (report_all es σ)
  of-effects es σ = each-effects LeftBorn (λ k p h ps. tt) es σ

  -- the locals of open blocks, each with that fact
  abbrev Here : ℕ → Shape → Type 0
  Here d Γ = Within d Γ × Born Γ

  inner : (d : ℕ) (Γ : Shape) → Here d Γ → Here (suc d) Γ
  inner d Γ h = (within-suc d Γ h.0, h.1)

  module _ (w : Switches) (T : Tables) where
    of-report : (c : Tree) (d : ℕ) (l : Option ℕ) (at : ℕ) (σ : Stack State) → Here d (shape σ) → Declares c → Each LeftBorn (report w T c d l at σ)
    of-report (done x) d l at σ h g = each_none LeftBorn
    of-report (expr_stmt s e y r) d l at σ h g =
        let k = births-kept (states w) T d σ h.0 in
        each_both LeftBorn _ _ (of-effects (expr_stmt_effects T (shape σ) e) σ) (each_both LeftBorn _ _ (of-unused (auto T (ty_of e) && is_call (view e)) s e at) (of-report r d l (at + 5 + expr_bytes e) (after_expr (states w) T e σ) (subst (Here d) (sym (k.expression e)) h) g))
    of-report (variable k s n t e r) d l at σ h g =
        let b = births-kept (states w) T d σ h.0 in
        each_both LeftBorn _ _ (of-effects (effects T (shape σ) e) σ) (of-report r d l (at + 9 + expr_bytes e) (after_variable (states w) T (declared d s n t) e σ) (subst (Here d) (sym (b.registered s n t e)) ((leb-refl d, h.0), (g.0, h.1))) g.1)
    of-report (assign s e v t x r) d l at σ h g =
        let k = births-kept (states w) T d σ h.0 in
        each_both LeftBorn _ _ (of-effects (assign_effects T (shape σ) e v) σ) (of-report r d l (at + 7 + expr_bytes e + expr_bytes v) (after_assign (states w) T e v (before_assign (states w) T e v σ)) (subst (Here d) (sym (k.assigned e v)) h) g)
    of-report (return s e t x r) d l at σ h g =
        let k = births-kept (states w) T d σ h.0 in
        each_both LeftBorn _ _ (of-effects (effects T (shape σ) e) σ) (of-report r d l (at + 8 + expr_bytes e) (evaluate (states w) T e σ) (subst (Here d) (sym (k.evaluated e)) h) g)
    of-report (bare_return s t x r) d l at σ h g = each_both LeftBorn _ _ (each-own LeftBorn s (left-own T w.bare_returns s at_bare_return σ) h.1) (of-report r d l (at + 8) σ h g)
    of-report (block s c r) d l at σ h g =
        let k = births-kept (states w) T d σ h.0 in
        each_both LeftBorn _ _ (of-report c (suc d) l (at + 7) σ (inner d (shape σ) h) g.0) (of-report r d l (at + 7 + code_bytes c) (exit (states w) T c (suc d) σ) (subst (Here d) (sym (k.block c)) h) g.1)
    of-report (if_else s e ts t us u r) d l at σ h g =
        let k = births-kept (states w) T d σ h.0 in
        let i = inner d (shape (evaluate (states w) T e σ)) (subst (Here d) (sym (k.evaluated e)) h) in
        each_both LeftBorn _ _ (of-effects (effects T (shape σ) e) σ) (each_both LeftBorn _ _ (of-report t (suc d) l (at + 11 + expr_bytes e) (evaluate (states w) T e σ) i g.0) (each_both LeftBorn _ _ (of-report u (suc d) l (at + 18 + expr_bytes e + code_bytes t) (evaluate (states w) T e σ) i g.1) (of-report r d l (at + 18 + expr_bytes e + code_bytes t + code_bytes u) (behind_if (states w) T e t u d σ) (subst (Here d) (sym (k.if_else e t u)) h) g.2)))
    of-report (if_then s e ts t r) d l at σ h g =
        let k = births-kept (states w) T d σ h.0 in
        each_both LeftBorn _ _ (of-effects (effects T (shape σ) e) σ) (each_both LeftBorn _ _ (of-report t (suc d) l (at + 11 + expr_bytes e) (evaluate (states w) T e σ) (inner d (shape (evaluate (states w) T e σ)) (subst (Here d) (sym (k.evaluated e)) h)) g.0) (of-report r d l (at + 12 + expr_bytes e + code_bytes t) (behind_then (states w) T e t d σ) (subst (Here d) (sym (k.if_then e t)) h) g.1))
    of-report (while s e ts t r) d l at σ h g =
        let k = births-kept (states w) T d σ h.0 in
        each_both LeftBorn _ _ (of-effects (effects T (shape σ) e) σ) (each_both LeftBorn _ _ (of-report t (suc d) (some (suc d)) (at + 11 + expr_bytes e) (evaluate (states w) T e σ) (inner d (shape (evaluate (states w) T e σ)) (subst (Here d) (sym (k.evaluated e)) h)) g.0) (of-report r d l (at + 11 + expr_bytes e + code_bytes t) (behind_loop (states w) T e t d σ) (subst (Here d) (sym (k.loop e t)) h) g.1))
    of-report (jump k s x r) d l at σ h g = each_both LeftBorn _ _ (each-own LeftBorn s (left-own T w.jumps s (at_jump l) σ) h.1) (of-report r d l (at + 5) σ h g)

    of-entered : (xs : List Param) (σ : Stack State) → Here 0 (shape σ) → Given xs → Here 0 (shape (entered (states w) T xs σ))
    of-entered [] σ h g = h
    of-entered (x ∷ xs) σ h g =
        let k = subst (Here 0) (sym (shape-frame x.name 0 (λ a. alive) σ)) h in
        of-entered xs (register (states w) (given x) σ) ((leb-refl 0, k.0), (g.0, k.1)) g.1

  -- whatever holds of the name of every parameter and `this` with 0, and of the name of every Let and Const with its span, holds of every left-behind entry
  pub left-born : (w : Switches) (i : Image) → Given (locals_of i.entry) → Declares i.body.code → Each LeftBorn (reports w i)
  left-born w i g b =
      of-report w i.tables i.body.code 1 none (body_start i) (entered (states w) i.tables (locals_of i.entry) [])
      (inner 0 (shape (entered (states w) i.tables (locals_of i.entry) [])) (of-entered w i.tables (locals_of i.entry) [] (tt, tt) g)) b

-- is the name a parameter's or `this`
abbrev pub Named : ℕ → List Param → Type 0
Named n [] = ⊥
Named n (x ∷ xs) = (n ≡ x.name) ⊎ Named n xs

-- a Let or Const of the name and span stands among the statements
abbrev pub Declared : ℕ → ℕ → Tree → Type 0
Declared n b (done x) = ⊥
Declared n b (expr_stmt s e y r) = Declared n b r
Declared n b (variable k s m t e r) = ((n ≡ m) × (b ≡ s)) ⊎ Declared n b r
Declared n b (assign s e v t x r) = Declared n b r
Declared n b (return s e t x r) = Declared n b r
Declared n b (bare_return s t x r) = Declared n b r
Declared n b (block s c r) = Declared n b c ⊎ Declared n b r
Declared n b (if_else s e ts t us u r) = Declared n b t ⊎ (Declared n b u ⊎ Declared n b r)
Declared n b (if_then s e ts t r) = Declared n b t ⊎ Declared n b r
Declared n b (while s e ts t r) = Declared n b t ⊎ Declared n b r
Declared n b (jump k s x r) = Declared n b r

module _ (P : ℕ → ℕ → Type 0) where
  all-declared : (c : Tree) → ((n b : ℕ) → Declared n b c → P n b) → Declares P c
  all-declared (done x) f = tt
  all-declared (expr_stmt s e y r) f = all-declared r f
  all-declared (variable k s n t e r) f = (f n s (inl (refl, refl)), all-declared r (λ m b q. f m b (inr q)))
  all-declared (assign s e v t x r) f = all-declared r f
  all-declared (return s e t x r) f = all-declared r f
  all-declared (bare_return s t x r) f = all-declared r f
  all-declared (block s c r) f = (all-declared c (λ m b q. f m b (inl q)), all-declared r (λ m b q. f m b (inr q)))
  all-declared (if_else s e ts t us u r) f =
      (all-declared t (λ m b q. f m b (inl q)), all-declared u (λ m b q. f m b (inr (inl q))), all-declared r (λ m b q. f m b (inr (inr q))))
  all-declared (if_then s e ts t r) f = (all-declared t (λ m b q. f m b (inl q)), all-declared r (λ m b q. f m b (inr q)))
  all-declared (while s e ts t r) f = (all-declared t (λ m b q. f m b (inl q)), all-declared r (λ m b q. f m b (inr q)))
  all-declared (jump k s x r) f = all-declared r f

  all-given : (xs : List Param) → ((n : ℕ) → Named n xs → P n 0) → Given P xs
  all-given [] f = tt
  all-given (x ∷ xs) f = (f x.name (inl refl), all-given xs (λ n q. f n (inr q)))

-- a parameter or `this` of the name, born at 0, or a Let or Const of the name and span
abbrev pub Registered : Image → ℕ → ℕ → Type 0
Registered i n b = ((b ≡ 0) × Named n (locals_of i.entry)) ⊎ Declared n b i.body.code

-- so is each left-behind entry of an image
pub left-registered : (w : Switches) (i : Image) → Each (LeftBorn (Registered i)) (reports w i)
left-registered w i =
    left-born (Registered i) w i (all-given (Registered i) (locals_of i.entry) (λ n q. inl (refl, q)))
    (all-declared (Registered i) i.body.code (λ n b q. inr q))
