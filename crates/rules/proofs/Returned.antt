-- The returned statements surely return where the submitted ones do: mod.rs asks the former, the rules the latter.
-- Assumes nothing.
use Rattle.std.proofs.Common.{◌≡◌, ℕ, suc, Bool, true, false, cond, ◌&&◌, List, [], ◌∷◌, refl, ap, ◌∙◌, ap₂}
use mathlib.Core.Option.{Option, none}
use Rattle.tables.specs.Signature.{Entry}
use Rattle.tables.specs.Tables.{Tables}
use Rattle.image_body.specs.Stmt.{Tree, Block, done, expr_stmt, variable, assign, return, bare_return, block, if_else, if_then, while, jump}
use Rattle.rules.specs.Expr.{view, name_in}
use Rattle.rules.specs.Stack.{Stack}
use Rattle.rules.specs.Rules.{Alg, states, Drop, drop_of, sure_from, locals_of, joins, merge, return_drops, assign_drops, evaluate, after_expr, after_variable, before_assign, after_assign, exit, decide, entered, declared, Switches, Policy, concerns, end_drops, bare_return_drops, jump_drops}
use Rattle.rules.specs.Report.{inserts, flatten, returned_body}

sure-inserts : (x : List Drop) (c : Tree) (b : Bool) → (sure_from c false ≡ sure_from c b) → sure_from (inserts x c) b ≡ sure_from c b
sure-inserts [] c b e = refl
sure-inserts (drop_of p n t ∷ x) c b e = sure-inserts x c false refl ∙ e

module _ {A : Type 0} (𝓐 : Alg A) (T : Tables) (𝓟 : Policy) where
  sure-done : (f : Bool) (x : List Drop) → sure_from (inserts (cond f [] x) (done tt)) f ≡ f
  sure-done true x = refl
  sure-done false x = sure-inserts x (done tt) false refl

  -- the returned statements surely return where the submitted ones do
  pub sure-returned : (c : Tree) (p d : ℕ) (l : Option ℕ) (f : Bool) (σ : Stack A) → sure_from (flatten (decide 𝓐 T 𝓟 c p d l f σ)) f ≡ sure_from c f
  sure-returned (done x) p d l f σ = sure-done f (end_drops 𝓐 T 𝓟 d p σ)
  sure-returned (expr_stmt s e y r) p d l f σ = sure-returned r p d l false (after_expr 𝓐 T e σ)
  sure-returned (variable k s n t e r) p d l f σ = sure-returned r p d l false (after_variable 𝓐 T (declared d s n t) e σ)
  sure-returned (assign s e v t x r) p d l f σ = sure-inserts (assign_drops 𝓐 T 𝓟 s e (before_assign 𝓐 T e v σ)) (assign s e v t tt (flatten (decide 𝓐 T 𝓟 r p d l false (after_assign 𝓐 T e v (before_assign 𝓐 T e v σ))))) f refl ∙ sure-returned r p d l false (after_assign 𝓐 T e v (before_assign 𝓐 T e v σ))
  sure-returned (return s e t x r) p d l f σ = sure-inserts (return_drops 𝓐 T 𝓟 (name_in (view e)) (evaluate 𝓐 T e σ)) (return s e t tt (flatten (decide 𝓐 T 𝓟 r p d l true (evaluate 𝓐 T e σ)))) f refl ∙ sure-returned r p d l true (evaluate 𝓐 T e σ)
  sure-returned (bare_return s t x r) p d l f σ = sure-inserts (bare_return_drops 𝓐 T 𝓟 σ) (bare_return s t tt (flatten (decide 𝓐 T 𝓟 r p d l true σ))) f refl ∙ sure-returned r p d l true σ
  sure-returned (block s c r) p d l f σ =
      ap (sure_from (flatten (decide 𝓐 T 𝓟 r p d l (sure_from c false) (exit 𝓐 T c (suc d) σ)))) (sure-returned c s (suc d) l false σ)
      ∙ sure-returned r p d l (sure_from c false) (exit 𝓐 T c (suc d) σ)
  sure-returned (if_else s e ts t us u r) p d l f σ =
      let σ' = evaluate 𝓐 T e σ in
      let ρ = merge 𝓐 (sure_from t false) (sure_from u false) σ' (exit 𝓐 T t (suc d) σ') (exit 𝓐 T u (suc d) σ') in
      ap₂ (λ (x y : Bool). sure_from (flatten (decide 𝓐 T 𝓟 r p d l (sure_from t false && sure_from u false) ρ)) (x && y)) (sure-returned t ts (suc d) l false σ') (sure-returned u us (suc d) l false σ')
      ∙ sure-returned r p d l (sure_from t false && sure_from u false) ρ
  sure-returned (if_then s e ts t r) p d l f σ =
      let σ' = evaluate 𝓐 T e σ in
      sure-returned r p d l false (merge 𝓐 (sure_from t false) false σ' (exit 𝓐 T t (suc d) σ') σ')
  sure-returned (while s e ts t r) p d l f σ =
      let σ' = evaluate 𝓐 T e σ in
      sure-returned r p d l false (joins 𝓐 (exit 𝓐 T t (suc d) σ') σ')
  sure-returned (jump k s x r) p d l f σ = sure-inserts (jump_drops 𝓐 T 𝓟 l σ) (jump k s tt (flatten (decide 𝓐 T 𝓟 r p d l false σ))) f refl ∙ sure-returned r p d l false σ

-- statements_guaranteed_return of the returned body, which mod.rs asks, is that of the submitted one
pub sure-body : (w : Switches) (T : Tables) (x : Entry) (b : Block) → sure_from (returned_body w T x b).code false ≡ sure_from b.code false
sure-body w T x b = sure-returned (states w) T (concerns w) b.code b.span 1 none false (entered (states w) T (locals_of x) [])
