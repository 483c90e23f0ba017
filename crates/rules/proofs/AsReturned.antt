-- Demand 3 of the returned body: the marks that show what the pass decided.
-- Assumes nothing.
use Rattle.std.proofs.Common.{◌≡◌, ℕ, suc, Bool, true, false, cond, ◌&&◌, List, [], ◌∷◌, sym, refl, ap, ◌∙◌, subst, ap₂}
use mathlib.Core.Option.{Option, none, some, map, bind}
use Rattle.tables.specs.Signature.{Entry}
use Rattle.tables.specs.Tables.{Tables}
use Rattle.image_body.specs.Expr.{Expr, through}
use Rattle.image_body.specs.Stmt.{Tree, Block, done, expr_stmt, variable, assign, return, bare_return, block, if_else, if_then, while, jump}
use Rattle.rules.specs.Questions.{auto}
use Rattle.rules.specs.Expr.{ty_of, view, name_in, is_call}
use Rattle.rules.specs.Stack.{Stack}
use Rattle.rules.specs.Rules.{Alg, Drop, drop_of, Decided, Switches, off, states, concerns, sure_from, locals_of, evaluate, after_expr, before_assign, after_assign, behind_if, end_drops, return_drops, assign_drops, decide, entered, decide_body}
use Rattle.rules.specs.Report.{delete_node, ident_node, inserts, flatten, forget, returned_body}
use Rattle.rules.specs.AsReturned.{Origin, original, inserted, wrapped, Marked, put_before, gathered, ReturnedBody}
use Rattle.rules.proofs.Project.{demand3}
use Rattle.rules.proofs.Settings.{bare-as-return, jump-drops}
use Rattle.rules.proofs.Strike.{if-else, strike-body}

-- marks that show nothing: on a delete with a statement behind it that takes none, on what is no delete of an Ident, on a result
-- with no delete round it, and on the delete of a name as if it were a result; with the switches off, on one before a bare return or a Break
pub record Refused (w : Switches) (s n t : ℕ) (e : Expr) : Type 0 where
  pub elsewhere : gathered w (expr_stmt s (delete_node s (ident_node s t n)) inserted (expr_stmt s e original (done tt))) ≡ none
  pub in_front : gathered w (expr_stmt s (delete_node s (ident_node s t n)) inserted (while s e s (done tt) (done tt))) ≡ none
  pub no_delete : gathered w (expr_stmt s (ident_node s t n) inserted (done tt)) ≡ none
  pub no_ident : gathered w (expr_stmt s (delete_node s (delete_node s e)) inserted (done tt)) ≡ none
  pub unwrapped : gathered w (expr_stmt s (ident_node s t n) wrapped (done tt)) ≡ none
  pub no_result : gathered w (expr_stmt s (delete_node s (ident_node s t n)) wrapped (done tt)) ≡ none
  pub bare : gathered off (expr_stmt s (delete_node s (ident_node s t n)) inserted (bare_return s t tt (done tt))) ≡ none
  pub jumping : gathered off (expr_stmt s (delete_node s (ident_node s t n)) inserted (jump false s tt (done tt))) ≡ none

pub refused : (w : Switches) (s n t : ℕ) (e : Expr) → Refused w s n t e
unfolding bind through
refused w s n t e = record { elsewhere = refl; in_front = refl; no_delete = refl; no_ident = refl; unwrapped = refl; no_result = refl; bare = refl; jumping = refl }

-- the returned statements, marked
abbrev marked_deletes : List Drop → Marked → Marked
marked_deletes [] c = c
marked_deletes (drop_of p n t ∷ x) c = expr_stmt p (delete_node p (ident_node p t n)) inserted (marked_deletes x c)

abbrev mark_of : Bool → Origin
mark_of y = cond y wrapped original

abbrev pub marks_of : Decided → Marked
marks_of (done x) = marked_deletes x (done tt)
marks_of (expr_stmt s e y r) = expr_stmt s (cond y (delete_node s e) e) (mark_of y) (marks_of r)
marks_of (variable k s n t e r) = variable k s n t e (marks_of r)
marks_of (assign s e v t x r) = marked_deletes x (assign s e v t tt (marks_of r))
marks_of (return s e t x r) = marked_deletes x (return s e t tt (marks_of r))
marks_of (bare_return s t x r) = marked_deletes x (bare_return s t tt (marks_of r))
marks_of (block s c r) = block s (marks_of c) (marks_of r)
marks_of (if_else s e ts t us u r) = if_else s e ts (marks_of t) us (marks_of u) (marks_of r)
marks_of (if_then s e ts t r) = if_then s e ts (marks_of t) (marks_of r)
marks_of (while s e ts t r) = while s e ts (marks_of t) (marks_of r)
marks_of (jump k s x r) = marked_deletes x (jump k s tt (marks_of r))

-- the marks forgotten, they are what is given back
forget-deletes : (x : List Drop) (c : Marked) {c' : Tree} → forget c ≡ c' → forget (marked_deletes x c) ≡ inserts x c'
forget-deletes [] c q = q
forget-deletes (drop_of p n t ∷ x) c q = ap (λ (z : Tree). expr_stmt p (delete_node p (ident_node p t n)) tt z) (forget-deletes x c q)

pub forget-marks : (c : Decided) → forget (marks_of c) ≡ flatten c
forget-marks (done x) = forget-deletes x (done tt) refl
forget-marks (expr_stmt s e y r) = ap (λ (z : Tree). expr_stmt s (cond y (delete_node s e) e) tt z) (forget-marks r)
forget-marks (variable k s n t e r) = ap (λ (z : Tree). variable k s n t e z) (forget-marks r)
forget-marks (assign s e v t x r) = forget-deletes x _ (ap (λ (z : Tree). assign s e v t tt z) (forget-marks r))
forget-marks (return s e t x r) = forget-deletes x _ (ap (λ (z : Tree). return s e t tt z) (forget-marks r))
forget-marks (bare_return s t x r) = forget-deletes x _ (ap (λ (z : Tree). bare_return s t tt z) (forget-marks r))
forget-marks (block s c r) = ap₂ (λ (y z : Tree). block s y z) (forget-marks c) (forget-marks r)
forget-marks (if_else s e ts t us u r) = if-else s e ts us (forget-marks t) (forget-marks u) (forget-marks r)
forget-marks (if_then s e ts t r) = ap₂ (λ (y z : Tree). if_then s e ts y z) (forget-marks t) (forget-marks r)
forget-marks (while s e ts t r) = ap₂ (λ (y z : Tree). while s e ts y z) (forget-marks t) (forget-marks r)
forget-marks (jump k s x r) = forget-deletes x _ (ap (λ (z : Tree). jump k s tt z) (forget-marks r))

module _ (w : Switches) where
  -- deletes marked before a place that takes them
  gathered-deletes : (f : List Drop → Decided) → ((i : Drop) (x : List Drop) → put_before w i (f x) ≡ some (f (i ∷ x)))
      → (x : List Drop) (c : Marked) → gathered w c ≡ some (f []) → gathered w (marked_deletes x c) ≡ some (f x)
  unfolding bind
  gathered-deletes f h [] c q = q
  gathered-deletes f h (drop_of p n t ∷ x) c q =
      ap (λ (o : Option Decided). bind o (λ z. put_before w (drop_of p n t) z)) (gathered-deletes f h x c q) ∙ h (drop_of p n t) x

  -- before one that takes them with a switch on, and gets none with it off
  gathered-switched : (b : Bool) (f : List Drop → Decided) → ((i : Drop) (x : List Drop) → put_before w i (f x) ≡ cond b (some (f (i ∷ x))) none)
      → (x y : List Drop) → x ≡ cond b y [] → (c : Marked) → gathered w c ≡ some (f []) → gathered w (marked_deletes x c) ≡ some (f x)
  gathered-switched true f h x y e c q = gathered-deletes f h x c q
  gathered-switched false f h x y e c q = subst (λ (x : List Drop). gathered w (marked_deletes x c) ≡ some (f x)) (sym e) q

  -- a result, and whether it is a call's
  gathered-result : (s : ℕ) (e : Expr) (a b : Bool) → is_call (view e) ≡ b → (c : Marked) {c' : Decided} → gathered w c ≡ some c'
      → gathered w (expr_stmt s (cond (a && b) (delete_node s e) e) (mark_of (a && b)) c) ≡ some (expr_stmt s e (a && b) c')
  unfolding bind
  gathered-result s e true true h c q =
      λ i. bind (cond (h i) (some e) none) (λ v. map (λ (z : Decided). expr_stmt s v true z) (q i))
  gathered-result s e true false h c q = ap (λ (o : Option Decided). map (λ (z : Decided). expr_stmt s e false z) o) q
  gathered-result s e false b h c q = ap (λ (o : Option Decided). map (λ (z : Decided). expr_stmt s e false z) o) q

  module _ {A : Type 0} (𝓐 : Alg A) (T : Tables) where
    abbrev decided : Tree → ℕ → ℕ → Option ℕ → Bool → Stack A → Decided
    decided c p d l f σ = decide 𝓐 T (concerns w) c p d l f σ

    -- and they show the decisions
    pub gathered-marks : (c : Tree) (p d : ℕ) (l : Option ℕ) (f : Bool) (σ : Stack A) → gathered w (marks_of (decided c p d l f σ)) ≡ some (decided c p d l f σ)
    unfolding bind
    gathered-marks (done z) p d l f σ = gathered-deletes (λ x. done x) (λ i x. refl) (cond f [] (end_drops 𝓐 T (concerns w) d p σ)) (done tt) refl
    gathered-marks (expr_stmt s e z r) p d l f σ =
        gathered-result s e (auto T (ty_of e)) (is_call (view e)) refl (marks_of (decided r p d l false (after_expr 𝓐 T e σ))) (gathered-marks r p d l false (after_expr 𝓐 T e σ))
    gathered-marks (variable k s n t e r) p d l f σ =
        ap (λ (o : Option Decided). map (λ (z : Decided). variable k s n t e z) o) (gathered-marks r p d l false _)
    gathered-marks (assign s e v t z r) p d l f σ =
        gathered-deletes (λ x. assign s e v t x (decided r p d l false (after_assign 𝓐 T e v (before_assign 𝓐 T e v σ)))) (λ i x. refl) (assign_drops 𝓐 T (concerns w) s e (before_assign 𝓐 T e v σ)) _
        (ap (λ (o : Option Decided). map (λ (z : Decided). assign s e v t [] z) o) (gathered-marks r p d l false _))
    gathered-marks (return s e t z r) p d l f σ =
        gathered-deletes (λ x. return s e t x (decided r p d l true (evaluate 𝓐 T e σ))) (λ i x. refl) (return_drops 𝓐 T (concerns w) (name_in (view e)) (evaluate 𝓐 T e σ)) _
        (ap (λ (o : Option Decided). map (λ (z : Decided). return s e t [] z) o) (gathered-marks r p d l true _))
    gathered-marks (bare_return s t z r) p d l f σ =
        gathered-switched w.bare_returns (λ x. bare_return s t x (decided r p d l true σ)) (λ i x. refl) _ _ (bare-as-return 𝓐 T w σ) _
        (ap (λ (o : Option Decided). map (λ (z : Decided). bare_return s t [] z) o) (gathered-marks r p d l true _))
    gathered-marks (block s c r) p d l f σ =
        ap₂ (λ (o q : Option Decided). bind o (λ y. map (λ (z : Decided). block s y z) q)) (gathered-marks c s (suc d) l false _) (gathered-marks r p d l _ _)
    gathered-marks (if_else s e ts t us u r) p d l f σ =
        λ i.
        bind (gathered-marks t ts (suc d) l false (evaluate 𝓐 T e σ) i) (λ x.
        bind (gathered-marks u us (suc d) l false (evaluate 𝓐 T e σ) i) (λ y.
        map (λ (z : Decided). if_else s e ts x us y z) (gathered-marks r p d l (sure_from t false && sure_from u false) (behind_if 𝓐 T e t u d σ) i)))
    gathered-marks (if_then s e ts t r) p d l f σ =
        ap₂ (λ (o q : Option Decided). bind o (λ y. map (λ (z : Decided). if_then s e ts y z) q))
        (gathered-marks t ts (suc d) l false _) (gathered-marks r p d l false _)
    gathered-marks (while s e ts t r) p d l f σ =
        ap₂ (λ (o q : Option Decided). bind o (λ y. map (λ (z : Decided). while s e ts y z) q))
        (gathered-marks t ts (suc d) (some (suc d)) false _) (gathered-marks r p d l false _)
    gathered-marks (jump k s z r) p d l f σ =
        gathered-switched w.jumps (λ x. jump k s x (decided r p d l false σ)) (λ i x. refl) _ _ (jump-drops 𝓐 T w l σ) _
        (ap (λ (o : Option Decided). map (λ (z : Decided). jump k s [] z) o) (gathered-marks r p d l false _))

-- Demand 3, first two sentences, of the body as returned: under every setting, for every tables, entry and body
abbrev pub returned-body : (w : Switches) (T : Tables) (x : Entry) (b : Block) → ReturnedBody w T x b (returned_body w T x b).code
returned-body w T x b = record {
  marked = marks_of (decide_body w T x b);
  decided = decide_body w T x b;
  given = forget-marks (decide_body w T x b);
  shown = gathered-marks w (states w) T b.code b.span 1 none false (entered (states w) T (locals_of x) []);
  submitted = strike-body w T x b;
  plain = demand3 w T x b;
}
