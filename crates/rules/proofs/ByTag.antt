-- The effects of an expression, tag by tag: mod.rs's validate_expr, one equation for each arm of its match.
-- Assumes nothing.
use Rattle.std.proofs.Common.{◌≡◌, ℕ, Bool, true, false, cond, ◌&&◌, List, [], ◌∷◌, ◌++◌, sym, refl, ap, ◌∙◌, append_assoc, append-nil}
use Rattle.tables.specs.Tables.{Tables}
use Rattle.image_body.specs.Expr.{Expr, Exprs, none, more, count_width}
use Rattle.rules.proofs.Nodes.{node_of, one}
use Rattle.rules.specs.Questions.{is_temp_of, is_move_of}
use Rattle.rules.specs.Stack.{Shape, has}
use Rattle.rules.specs.Effects.{Effect, use', hand, Raw, hands, takes, handed, hand_name, hand_if, receiver, move_first, finish, raws, group, resolve, resolve_all, effects}

-- s and t are the node's span and type
pub record ByTag (T : Tables) (Γ : Shape) (s t : ℕ) : Type 0 where
  pub ident : (n : ℕ) → effects T Γ (node_of 1 s t n none none) ≡ use' n s ∷ []
  pub this_literal : effects T Γ (node_of 2 s t 0 none none) ≡ use' 0 s ∷ []
  pub unary : (op : ℕ) (e : Expr) → effects T Γ (node_of 3 s t op (one e) none) ≡ effects T Γ e
  pub casting : (e : Expr) → effects T Γ (node_of 4 s t 0 (one e) none) ≡ effects T Γ e
  pub binary : (a b : Expr) → effects T Γ (node_of 5 s t 0 (more a (one b)) none) ≡ effects T Γ a ++ effects T Γ b
  -- the callee; the arguments, each handed over before the next; then the receiver is consumed
  pub call : (f : Expr) (xs : Exprs) → effects T Γ (node_of 6 s t 0 (one f) xs) ≡ effects T Γ f ++ (resolve_all Γ (group T true xs) ++ resolve_all Γ (receiver T (one f)))
  pub list : (xs : Exprs) → effects T Γ (node_of 7 s t 0 none xs) ≡ resolve_all Γ (group T false xs)
  pub sized : (e : Expr) → effects T Γ (node_of 8 s t 0 (one e) none) ≡ effects T Γ e ++ resolve_all Γ (hand_if T true e)
  pub object : (xs : Exprs) → effects T Γ (node_of 9 s t 0 none xs) ≡ resolve_all Γ (group T true xs)
  pub delete : (e : Expr) → effects T Γ (node_of 10 s t 0 (one e) none) ≡ effects T Γ e
  pub field : (n : ℕ) (e : Expr) → effects T Γ (node_of 11 s t n (one e) none) ≡ effects T Γ e
  pub indexing : (a b : Expr) → effects T Γ (node_of 12 s t 0 (more a (one b)) none) ≡ effects T Γ a ++ effects T Γ b
  pub static : effects T Γ (node_of 13 s t 0 none none) ≡ []
  -- the arguments, none handed over; then the first is moved if the intrinsic is `std::move`
  pub intrinsic : (n : ℕ) (xs : Exprs) → effects T Γ (node_of 14 s t n none xs) ≡ resolve_all Γ (group T false xs) ++ resolve_all Γ (cond (is_move_of T n) (move_first T xs) [])
  pub literal : effects T Γ (node_of 15 s t 0 none none) ≡ []
  -- arguments or items, one after another
  pub items : (b : Bool) (e : Expr) (es : Exprs) → resolve_all Γ (group T b (more e es)) ≡ effects T Γ e ++ (resolve_all Γ (hand_if T b e) ++ resolve_all Γ (group T b es))
  pub no_items : (b : Bool) → resolve_all Γ (group T b none) ≡ []
  -- a hand-over: of a local that is a temporary
  pub hand_over : (n p : ℕ) → resolve_all Γ (hand_name T n p) ≡ cond (has n Γ && is_temp_of T n) (hand n p ∷ []) []

module _ (Γ : Shape) where
  pub resolve-append : (us vs : List Raw) → resolve_all Γ (us ++ vs) ≡ resolve_all Γ us ++ resolve_all Γ vs
  unfolding resolve_all
  resolve-append [] vs = refl
  resolve-append (u ∷ us) vs = ap (λ x. resolve Γ u ++ x) (resolve-append us vs) ∙ sym (append_assoc (resolve Γ u) (resolve_all Γ us) (resolve_all Γ vs))

  -- one child, and nothing after it
  child : (us : List Raw) → resolve_all Γ ((us ++ []) ++ []) ≡ resolve_all Γ us
  child us = ap (resolve_all Γ) (append-nil (us ++ []) ∙ append-nil us)

  -- two children
  children : (us vs : List Raw) → resolve_all Γ ((us ++ (vs ++ [])) ++ []) ≡ resolve_all Γ us ++ resolve_all Γ vs
  children us vs = ap (resolve_all Γ) (append-nil (us ++ (vs ++ []))) ∙ (resolve-append us (vs ++ []) ∙ ap (λ (vs : List Raw). resolve_all Γ us ++ resolve_all Γ vs) (append-nil vs))

  three : (us vs ws : List Raw) → resolve_all Γ (us ++ (vs ++ ws)) ≡ resolve_all Γ us ++ (resolve_all Γ vs ++ resolve_all Γ ws)
  three us vs ws = resolve-append us (vs ++ ws) ∙ ap (λ (es : List Effect). resolve_all Γ us ++ es) (resolve-append vs ws)

  hand-over : (h t : Bool) (n p : ℕ) → h ≡ has n Γ → resolve_all Γ (cond t (hands n p ∷ []) []) ≡ cond (h && t) (hand n p ∷ []) []
  unfolding resolve_all
  hand-over true true n p e = ap (λ (b : Bool). cond b (hand n p ∷ []) [] ++ []) (sym e)
  hand-over true false n p e = refl
  hand-over false true n p e = ap (λ (b : Bool). cond b (hand n p ∷ []) [] ++ []) (sym e)
  hand-over false false n p e = refl

pub by-tag : (T : Tables) (Γ : Shape) (s t : ℕ) → ByTag T Γ s t
unfolding takes handed finish effects count_width
by-tag T Γ s t =
    record {
      ident = λ n. refl;
      this_literal = refl;
      unary = λ op e. child Γ (raws T e);
      casting = λ e. child Γ (raws T e);
      binary = λ a b. children Γ (raws T a) (raws T b);
      call = λ f xs. three Γ (raws T f ++ []) (group T true xs) (receiver T (one f)) ∙ ap (λ (us : List Raw). resolve_all Γ us ++ (resolve_all Γ (group T true xs) ++ resolve_all Γ (receiver T (one f)))) (append-nil (raws T f));
      list = λ xs. ap (resolve_all Γ) (append-nil (group T false xs));
      sized = λ e. children Γ (raws T e) (hand_if T true e);
      object = λ xs. ap (resolve_all Γ) (append-nil (group T true xs));
      delete = λ e. child Γ (raws T e);
      field = λ n e. child Γ (raws T e);
      indexing = λ a b. children Γ (raws T a) (raws T b);
      static = refl;
      intrinsic = λ n xs. resolve-append Γ (group T false xs) (cond (is_move_of T n) (move_first T xs) []);
      literal = refl;
      items = λ b e es. three Γ (raws T e) (hand_if T b e) (group T b es);
      no_items = λ b. refl;
      hand_over = λ n p. hand-over Γ (has n Γ) (is_temp_of T n) n p refl;
    }
