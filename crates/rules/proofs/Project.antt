-- Algebras that agree on what lives: the same walk, the same decisions, plain alike. So the pass's states against a run, and demand 3.
-- Assumes nothing.
use Rattle.std.proofs.Common.{◌≡◌, ℕ, suc, ◌≤◌, Bool, true, false, cond, not, ◌&&◌, ◌||◌, T as So, eqb, List, [], ◌∷◌, sym, refl, ap, ◌∙◌, subst, ap₂, arith, eqb→eq, leb→le}
use mathlib.Core.Bool.{beq}
use mathlib.Core.Option.{Option, none, some}
use Rattle.tables.specs.Signature.{Param, Entry}
use Rattle.tables.specs.Tables.{Tables}
use Rattle.image_body.specs.Expr.{Expr}
use Rattle.image_body.specs.Stmt.{Code, Tree, Block, done, expr_stmt, variable, assign, return, bare_return, block, if_else, if_then, while, jump}
use Rattle.rules.specs.Questions.{auto}
use Rattle.rules.specs.Expr.{ty_of, view, Named, nobody, called, ident_in, is_call, name_in}
use Rattle.rules.specs.Stack.{Static, local, Stack, Shape, lookup, has}
use Rattle.rules.specs.State.{Kind, State, alive, gone, is_alive, hand_state, kind_eq, places_eq, combine, join_kind, join_state}
use Rattle.rules.specs.Rules.{states, holding, Drop, drop_of, Decided, sure_from, locals_of, joins, merge, Keeps, collect, drop_newest, drop_named, evaluate, before_assign, after_assign, exit, decide, Plain, Fresh, PlainIn, decide_in, declared, given, Switches, Policy, concerns, at_end, at_return, at_bare_return, at_jump, at_assign, PlainBody, decide_body, Alg}
use Rattle.rules.specs.Run.{Demand3}
use Rattle.rules.proofs.Bools.{no≡}
use Rattle.rules.proofs.Relate.{Rel, empty, both, Hom, rel-shape, rel-pop, rel-register, rel-evaluate, rel-expr, rel-before, rel-after, rel-variable, rel-entered}
use Rattle.rules.proofs.Sound.{Proper}
use Rattle.rules.proofs.Demand.{demand-alive}

hand-dead : (p : ℕ) (a : State) → is_alive (hand_state p a) ≡ false
hand-dead p alive = refl
hand-dead p (gone c k ps) = refl

cond-dead : (c : Bool) (x : Bool) (k : Kind) (ps : List ℕ) (y : Bool) (l : Kind) (qs : List ℕ) → is_alive (cond c (gone x k ps) (gone y l qs)) ≡ false
cond-dead true x k ps y l qs = refl
cond-dead false x k ps y l qs = refl

join-alive : (i : Bool) (a b : State) → is_alive (join_state i a b) ≡ (is_alive a && is_alive b)
join-alive i alive alive = refl
join-alive i alive (gone c k ps) = refl
join-alive i (gone c k ps) alive = refl
join-alive i (gone c k ps) (gone c' k' ps') = cond-dead (beq c c' && kind_eq k k' && places_eq ps ps') c k ps _ (join_kind k k') (combine ps ps')

-- A relation of what two algebras say, which the walk keeps and by which they agree on what lives
pub record Likeness {A B : Type 0} (𝓐 : Alg A) (𝓑 : Alg B) (R : A → B → Type 0) : Type 0 where
  pub hom : Hom 𝓐 𝓑 (λ m a b. R a b)
  pub join : (a a' : A) (b b' : B) → R a b → R a' b' → R (𝓐.join a a') (𝓑.join b b')
  pub lives : (a : A) (b : B) → R a b → 𝓐.lives a ≡ 𝓑.lives b

module _ {A B : Type 0} {R : A → B → Type 0} (𝓐 : Alg A) (𝓑 : Alg B) (like : Likeness 𝓐 𝓑 R) where
  -- the same locals, and related
  abbrev pub Alike : Stack A → Stack B → Type 0
  Alike σ τ = Rel (λ m a b. R a b) σ τ

  pub alike-joins : {σ σ' : Stack A} {τ τ' : Stack B} → Alike σ τ → Alike σ' τ' → Alike (joins 𝓐 σ σ') (joins 𝓑 τ τ')
  alike-joins empty q = empty
  alike-joins (both r rs) empty = both r rs
  alike-joins (both {a = a} {b = b} r rs) (both {a = a'} {b = b'} q qs) = both (like.join a a' b b' r q) (alike-joins rs qs)

  pub alike-merge : (f g : Bool) {σ σ' σ'' : Stack A} {τ τ' τ'' : Stack B} → Alike σ τ → Alike σ' τ' → Alike σ'' τ'' → Alike (merge 𝓐 f g σ σ' σ'') (merge 𝓑 f g τ τ' τ'')
  alike-merge true true x y z = x
  alike-merge true false x y z = z
  alike-merge false true x y z = y
  alike-merge false false x y z = alike-joins y z

  keeps-alike : {σ σ' : Stack A} {τ τ' : Stack B} → Alike σ τ → Alike σ' τ' → Keeps 𝓐 σ σ' → Keeps 𝓑 τ τ'
  keeps-alike empty q k = tt
  keeps-alike (both r rs) empty k = k
  keeps-alike (both {a = a} {b = b} r rs) (both {a = a'} {b = b'} q qs) k =
      ((λ x. subst So (like.lives a' b' q) (k.0 (subst So (sym (like.lives a b r)) x))), keeps-alike rs qs k.1)

  module _ (T : Tables) where
    collect-alike : (f : Static → Bool) (p : ℕ) {σ : Stack A} {τ : Stack B} → Alike σ τ → collect 𝓐 T f p σ ≡ collect 𝓑 T f p τ
    collect-alike f p empty = refl
    collect-alike f p (both {s = s} {a = a} {b = b} r rs) =
        ap₂ (λ (b : Bool) (x : List Drop). cond (f s && b && auto T s.ty) (drop_of p s.name s.ty ∷ x) x) (like.lives a b r) (collect-alike f p rs)

    newest-alike : (q : Static → Bool) (p n m : ℕ) {σ : Stack A} {τ : Stack B} → Alike σ τ → drop_newest 𝓐 T q p m (lookup n σ) ≡ drop_newest 𝓑 T q p m (lookup n τ)
    newest-alike q p n m empty = refl
    newest-alike q p n m (both {s = s} {a = a} {b = b} {σ = σ} {τ = τ} r rs) = go (eqb s.name n) (newest-alike q p n m rs)
      where
        go : (c : Bool) → drop_newest 𝓐 T q p m (lookup n σ) ≡ drop_newest 𝓑 T q p m (lookup n τ)
            → drop_newest 𝓐 T q p m (cond c (some (local s a)) (lookup n σ)) ≡ drop_newest 𝓑 T q p m (cond c (some (local s b)) (lookup n τ))
        go true ih = ap (λ (x : Bool). cond (q s && x && auto T s.ty) (drop_of p m s.ty ∷ []) []) (like.lives a b r)
        go false ih = ih

    named-alike : (q : Static → Bool) (p : ℕ) (n : Named) {σ : Stack A} {τ : Stack B} → Alike σ τ → drop_named 𝓐 T q p n σ ≡ drop_named 𝓑 T q p n τ
    named-alike q p nobody r = refl
    named-alike q p (called n s) r = newest-alike q p n n r

    abbrev pub evaluate-alike : (e : Expr) {σ : Stack A} {τ : Stack B} → Alike σ τ → Alike (evaluate 𝓐 T e σ) (evaluate 𝓑 T e τ)
    evaluate-alike e r = rel-evaluate 𝓐 𝓑 like.hom T e r

    abbrev pub assign_alike : (e v : Expr) {σ : Stack A} {τ : Stack B} → Alike σ τ → Alike (after_assign 𝓐 T e v (before_assign 𝓐 T e v σ)) (after_assign 𝓑 T e v (before_assign 𝓑 T e v τ))
    assign_alike e v r = rel-after 𝓐 𝓑 like.hom T e v (rel-before 𝓐 𝓑 like.hom T e v r)

    pub exit-alike : {X Y : Type 0} (c : Code X Y) (d : ℕ) {σ : Stack A} {τ : Stack B} → Alike σ τ → Alike (exit 𝓐 T c d σ) (exit 𝓑 T c d τ)
    exit-alike (done x) d r = rel-pop d r
    exit-alike (expr_stmt s e y c) d r = exit-alike c d (rel-expr 𝓐 𝓑 like.hom T e r)
    exit-alike (variable k s n t e c) d r = exit-alike c d (rel-variable 𝓐 𝓑 like.hom T (declared d s n t) e r)
    exit-alike (assign s e v t x c) d r = exit-alike c d (assign_alike e v r)
    exit-alike (return s e t x c) d r = exit-alike c d (evaluate-alike e r)
    exit-alike (bare_return s t x c) d r = exit-alike c d r
    exit-alike (block s b c) d r = exit-alike c d (exit-alike b (suc d) r)
    exit-alike (if_else s e ts t us u c) d r = exit-alike c d (alike-merge (sure_from t false) (sure_from u false) (evaluate-alike e r) (exit-alike t (suc d) (evaluate-alike e r)) (exit-alike u (suc d) (evaluate-alike e r)))
    exit-alike (if_then s e ts t c) d r = exit-alike c d (alike-merge (sure_from t false) false (evaluate-alike e r) (exit-alike t (suc d) (evaluate-alike e r)) (evaluate-alike e r))
    exit-alike (while s e ts t c) d r = exit-alike c d (alike-joins (exit-alike t (suc d) (evaluate-alike e r)) (evaluate-alike e r))
    exit-alike (jump k s x c) d r = exit-alike c d r

    pub decide-alike : (𝓟 : Policy) (c : Tree) (p d : ℕ) (l : Option ℕ) (f : Bool) {σ : Stack A} {τ : Stack B} → Alike σ τ → decide 𝓐 T 𝓟 c p d l f σ ≡ decide 𝓑 T 𝓟 c p d l f τ
    decide-alike 𝓟 (done x) p d l f r = ap (λ (x : List Drop). done (cond f [] x)) (collect-alike (𝓟 (at_end d)) p r)
    decide-alike 𝓟 (expr_stmt s e y c) p d l f r = ap (λ (z : Decided). expr_stmt s e (auto T (ty_of e) && is_call (view e)) z) (decide-alike 𝓟 c p d l false (rel-expr 𝓐 𝓑 like.hom T e r))
    decide-alike 𝓟 (variable k s n t e c) p d l f r = ap (λ (z : Decided). variable k s n t e z) (decide-alike 𝓟 c p d l false (rel-variable 𝓐 𝓑 like.hom T (declared d s n t) e r))
    decide-alike 𝓟 (assign s e v t x c) p d l f r =
        ap₂ (λ (x : List Drop) (z : Decided). assign s e v t x z) (named-alike (𝓟 (at_assign (ident_in (view e)))) s (ident_in (view e)) (rel-before 𝓐 𝓑 like.hom T e v r)) (decide-alike 𝓟 c p d l false (assign_alike e v r))
    decide-alike 𝓟 (return s e t x c) p d l f r =
        ap₂ (λ (x : List Drop) (z : Decided). return s e t x z) (collect-alike (𝓟 (at_return (name_in (view e)))) 0 (evaluate-alike e r)) (decide-alike 𝓟 c p d l true (evaluate-alike e r))
    decide-alike 𝓟 (bare_return s t x c) p d l f r = ap₂ (λ (x : List Drop) (z : Decided). bare_return s t x z) (collect-alike (𝓟 at_bare_return) 0 r) (decide-alike 𝓟 c p d l true r)
    decide-alike 𝓟 (block s b c) p d l f r =
        ap₂ (λ (y z : Decided). block s y z) (decide-alike 𝓟 b s (suc d) l false r) (decide-alike 𝓟 c p d l (sure_from b false) (exit-alike b (suc d) r))
    decide-alike 𝓟 (if_else s e ts t us u c) p d l f r =
        ap₂ (λ (g : Decided → Decided) (z : Decided). g z)
        (ap₂ {C = Decided → Decided} (λ (x y : Decided). λ (z : Decided). if_else s e ts x us y z) (decide-alike 𝓟 t ts (suc d) l false (evaluate-alike e r)) (decide-alike 𝓟 u us (suc d) l false (evaluate-alike e r)))
        (decide-alike 𝓟 c p d l (sure_from t false && sure_from u false)
        (alike-merge (sure_from t false) (sure_from u false) (evaluate-alike e r) (exit-alike t (suc d) (evaluate-alike e r)) (exit-alike u (suc d) (evaluate-alike e r))))
    decide-alike 𝓟 (if_then s e ts t c) p d l f r =
        ap₂ (λ (x z : Decided). if_then s e ts x z) (decide-alike 𝓟 t ts (suc d) l false (evaluate-alike e r))
        (decide-alike 𝓟 c p d l false (alike-merge (sure_from t false) false (evaluate-alike e r) (exit-alike t (suc d) (evaluate-alike e r)) (evaluate-alike e r)))
    decide-alike 𝓟 (while s e ts t c) p d l f r =
        ap₂ (λ (x z : Decided). while s e ts x z) (decide-alike 𝓟 t ts (suc d) (some (suc d)) false (evaluate-alike e r))
        (decide-alike 𝓟 c p d l false (alike-joins (exit-alike t (suc d) (evaluate-alike e r)) (evaluate-alike e r)))
    decide-alike 𝓟 (jump k s x c) p d l f r = ap₂ (λ (x : List Drop) (z : Decided). jump k s x z) (collect-alike (𝓟 (at_jump l)) 0 r) (decide-alike 𝓟 c p d l false r)

    pub plain-alike : (c : Tree) (d : ℕ) {σ : Stack A} {τ : Stack B} → Alike σ τ → Plain 𝓐 T c d σ → Plain 𝓑 T c d τ
    plain-alike (done x) d r pl = tt
    plain-alike (expr_stmt s e y c) d r pl = plain-alike c d (rel-expr 𝓐 𝓑 like.hom T e r) pl
    plain-alike (variable k s n t e c) d r pl =
        (subst (λ (Γ : Shape). So (not (has n Γ))) (rel-shape r) pl.0, plain-alike c d (rel-variable 𝓐 𝓑 like.hom T (declared d s n t) e r) pl.1)
    plain-alike (assign s e v t x c) d r pl = plain-alike c d (assign_alike e v r) pl
    plain-alike (return s e t x c) d r pl = pl
    plain-alike (bare_return s t x c) d r pl = pl
    plain-alike (block s b c) d r pl = (plain-alike b (suc d) r pl.0, pl.1, plain-alike c d (exit-alike b (suc d) r) pl.2)
    plain-alike (if_else s e ts t us u c) d r pl = (
      plain-alike t (suc d) (evaluate-alike e r) pl.0,
      plain-alike u (suc d) (evaluate-alike e r) pl.1,
      pl.2,
      plain-alike c d (alike-merge (sure_from t false) (sure_from u false) (evaluate-alike e r) (exit-alike t (suc d) (evaluate-alike e r)) (exit-alike u (suc d) (evaluate-alike e r))) pl.3,
    )
    plain-alike (if_then s e ts t c) d r pl = (
      plain-alike t (suc d) (evaluate-alike e r) pl.0,
      plain-alike c d (alike-merge (sure_from t false) false (evaluate-alike e r) (exit-alike t (suc d) (evaluate-alike e r)) (evaluate-alike e r)) pl.1,
    )
    plain-alike (while s e ts t c) d r pl = (
      plain-alike t (suc d) (evaluate-alike e r) pl.0,
      keeps-alike r (exit-alike t (suc d) (evaluate-alike e r)) pl.1,
      plain-alike c d (alike-joins (exit-alike t (suc d) (evaluate-alike e r)) (evaluate-alike e r)) pl.2,
    )
    plain-alike (jump k s x c) d r pl = pl

    fresh-alike : (ps : List Param) {σ : Stack A} {τ : Stack B} → Alike σ τ → Fresh 𝓐 T ps σ → Fresh 𝓑 T ps τ
    fresh-alike [] r fr = tt
    fresh-alike (s ∷ ss) r fr = (subst (λ (Γ : Shape). So (not (has s.name Γ))) (rel-shape r) fr.0, fresh-alike ss (rel-register 𝓐 𝓑 like.hom (given s) r) fr.1)

    pub body_alike : (𝓟 : Policy) (params : List Param) (p : ℕ) (body : Tree) → decide_in 𝓐 T 𝓟 params p body ≡ decide_in 𝓑 T 𝓟 params p body
    body_alike 𝓟 params p body = decide-alike 𝓟 body p 1 none false (rel-entered 𝓐 𝓑 like.hom T params empty)

    pub plain-in-alike : (params : List Param) (body : Tree) → PlainIn 𝓐 T params body → PlainIn 𝓑 T params body
    plain-in-alike params body pl = (fresh-alike params empty pl.0, plain-alike body 1 (rel-entered 𝓐 𝓑 like.hom T params empty) pl.1)

-- the pass's states, and what a run says
pub alive-or-not : (w : Switches) → Likeness (states w) holding (λ a b. is_alive a ≡ b)
alive-or-not w =
    record {
      hom = record { new = λ m. refl; killed = λ m k p a b r. refl; handed_over = λ m p a b r. hand-dead p a };
      join = λ a a' b b' r q. join-alive w.conditional a a' ∙ ap₂ (λ (x y : Bool). x && y) r q;
      lives = λ a b r. r;
    }

own-only : (a b c e : Bool) → b ≡ false → So ((a && b && c) || e) → So e
own-only true b c e q t = subst (λ (x : Bool). So ((x && c) || e)) q t
own-only false b c e q t = t

-- what the switches make of a place
pub switched : (w : Switches) → Proper (concerns w)
switched w =
    record {
      inner = λ d t s u.
          own-only w.parameters (eqb d 1) (eqb s.depth 0) (eqb s.depth d)
          (no≡ (eqb d 1) λ x. let h : 2 ≤ d = leb→le 2 d t in let e : d ≡ 1 = eqb→eq d 1 x in omega arith) u;
      named = λ n s t. t;
    }

-- Demand 3, first two sentences, under every setting of the switches: for every tables, entry and plain body, about what the pass decides
-- on it
pub demand3 : (w : Switches) (T : Tables) (x : Entry) (b : Block) → PlainBody w T x b → Demand3 (concerns w) T (locals_of x) (decide_body w T x b)
demand3 w T x b pl =
    subst (λ (d : Decided). Demand3 (concerns w) T (locals_of x) d) (sym (body_alike (states w) holding (alive-or-not w) T (concerns w) (locals_of x) b.span b.code))
    (demand-alive T (concerns w) (switched w) (locals_of x) b.span b.code (plain-in-alike (states w) holding (alive-or-not w) T (locals_of x) b.code pl))
