-- A list of statements is its first statement and the rest: for the locals after it, its fault, its bytes, its reports and its counts.
-- Assumes nothing.
use Prim.Native.Nat.{ℕ, suc, ◌+◌}
use native.Mathlib.Omega.{arith}
use mathlib.Core.Path.{◌≡◌, refl, sym, ap, ◌∙◌}
use mathlib.Core.Bool.{Bool, true, false, not, ◌&&◌}
use mathlib.Core.List.{List, [], ◌∷◌, ◌++◌, append_assoc, append-nil}
use mathlib.Core.Option.{Option, some}
use lib.Dec.{leb, T as So}
use lib.ListN.{length}
use Rattle.tables.specs.Limits.{version1}
use Rattle.tables.specs.Tables.{Tables}
use Rattle.image_fields.specs.Bytes.{four_bytes}
use Rattle.tables_lookup.specs.First.{or_else}
use Rattle.image_body.specs.Expr.{Expr, none, more}
use Rattle.image_body.specs.Stmt.{Tree, done, expr_stmt, variable, assign, return, bare_return, block, if_else, if_then, while, jump}
use Rattle.image_encoding.specs.Body.{size, encode_code, encode_expr}
use Rattle.rules.specs.Expr.{Named, nobody, called, View, an_ident, a_this, a_field, a_delete, a_call, other, view, name_in}
use Rattle.rules.specs.State.{State as Status}
use Rattle.rules.specs.Stack.{Shape, shape, pop, Stack as Scope}
use Rattle.rules.specs.Effects.{Effect, group, resolve_all, effects, deleted_in, deleted_by, expr_stmt_effects, take_over}
use Rattle.rules.specs.Rules.{Drop, drop_of, is_done, Switches, off, states, concerns, at_bare_return, at_jump, declared, apply_all, sure_from, register, evaluate, after_expr, after_variable, before_assign, after_assign, assign_drops, return_drops, bare_return_drops, jump_drops, joins, merge, exit, decide}
use Rattle.rules.specs.Report.{Report, report_all, delete_node, ident_node, inserts, flatten, report, expr_bytes, code_bytes, unused, left_behind}
use Rattle.rules.specs.Walk.{walk_fault, too_many, too_wide}
use Rattle.rules.specs.Verdict.{counts_fit}
use Rattle.rules.proofs.Shapes.{shape-all}
use Rattle.expressions_scan.proofs.Runs.{apply-append, report-append}
use Rattle.expressions_scan.proofs.Values.{after_all, told_all}
use Rattle.statements_steps.specs.Drops.{delete_bytes}
use Rattle.statements_steps.specs.Statement.{wrapped, front_size, front_drops}
use Rattle.statements_steps.proofs.Whole.{rest_of, blocks_size, valued, own, own_fault, own_after, sure_of}
use Rattle.statements_steps.specs.Own.{returned}
use Rattle.statements_steps.proofs.Effects.{after_one, told-one, after_two, told-two}

-- deletes put in
pub inserts-bytes : (x : List Drop) (c : Tree) → encode_code (inserts x c) ≡ delete_bytes x ++ encode_code c
unfolding encode_code
inserts-bytes [] c = refl
inserts-bytes (drop_of p n t ∷ x) c =
    ap (λ (bs : List ℕ). 3 ∷ (four_bytes p ++ (encode_expr (delete_node p (ident_node p t n)) ++ bs))) (inserts-bytes x c)
    ∙ ap (λ (bs : List ℕ). 3 ∷ (four_bytes p ++ bs)) (sym (append_assoc (encode_expr (delete_node p (ident_node p t n))) (delete_bytes x) (encode_code c)))
    ∙ ap (λ (bs : List ℕ). 3 ∷ bs) (sym (append_assoc (four_bytes p) (encode_expr (delete_node p (ident_node p t n)) ++ delete_bytes x) (encode_code c)))
    ∙ ap (λ (bs : List ℕ). 3 ∷ (bs ++ encode_code c)) (sym (append_assoc (four_bytes p) (encode_expr (delete_node p (ident_node p t n))) (delete_bytes x)))

pub inserts-size : (x : List Drop) (c : Tree) → size (inserts x c) ≡ length x + size c
unfolding size
inserts-size [] c = omega arith
inserts-size (drop_of p n t ∷ x) c = let h = inserts-size x c in omega arith

pub inserts-fit : (m : ℕ) (x : List Drop) (c : Tree) → counts_fit m (inserts x c) ≡ counts_fit m c
unfolding counts_fit
inserts-fit m [] c = refl
inserts-fit m (drop_of p n t ∷ x) c = inserts-fit m x c

and-true : (a r : Bool) → (a && r) ≡ ((a && true) && r)
and-true true r = refl
and-true false r = refl

two-fit : (a b c d r : Bool) → ((((a && b) && c) && d) && r) ≡ (((a && c) && (true && (b && d))) && r)
two-fit true true true d r = refl
two-fit true true false d r = refl
two-fit true false true d r = refl
two-fit true false false d r = refl
two-fit false b c d r = refl

pub else-assoc : (a b c : Option ℕ) → or_else a (or_else b c) ≡ or_else (or_else a b) c
unfolding or_else
else-assoc Option.none b c = refl
else-assoc (some n) b c = refl

pub else-three : (a b c e : Option ℕ) → or_else a (or_else b (or_else c e)) ≡ or_else (or_else a (or_else b c)) e
unfolding or_else
else-three Option.none b c e = else-assoc b c e
else-three (some n) b c e = refl

else-none : (c : Option ℕ) → c ≡ or_else Option.none c
unfolding or_else
else-none c = refl

-- the statements given back: whether the statement surely returns is what the rest is decided with
pub sure_step : (c : Tree) (f : Bool) → So (not (is_done c)) → sure_from c f ≡ sure_from (rest_of c) (sure_of c)
sure_step (done x) f h = absurd h
sure_step (expr_stmt s e y r) f h = refl
sure_step (variable k s n t e r) f h = refl
sure_step (assign s e v t x r) f h = refl
sure_step (return s e t x r) f h = refl
sure_step (bare_return s t x r) f h = refl
sure_step (block s c r) f h = refl
sure_step (if_else s e ts t us u r) f h = refl
sure_step (if_then s e ts t r) f h = refl
sure_step (while s e ts t r) f h = refl
sure_step (jump k s x r) f h = refl

two : (f g : ℕ → List Report) (x : List Report) {i i' j j' : ℕ} → i ≡ i' → j ≡ j' → x ++ (f i ++ g j) ≡ x ++ (f i' ++ g j')
two f g x {i} {i'} {j} {j'} e h = ap (λ (k : ℕ). x ++ (f k ++ g j)) e ∙ ap (λ (k : ℕ). x ++ (f i' ++ g k)) h

three : (f g r : ℕ → List Report) (x : List Report) {i i' j j' k k' : ℕ} → i ≡ i' → j ≡ j' → k ≡ k' → x ++ (f i ++ (g j ++ r k)) ≡ x ++ (f i' ++ (g j' ++ r k'))
three f g r x {i} {i'} {j} {j'} {k} {k'} e h l = ap (λ (n : ℕ). x ++ (f n ++ (g j ++ r k))) e ∙ ap (λ (n : ℕ). x ++ (f i' ++ (g n ++ r k))) h ∙ ap (λ (n : ℕ). x ++ (f i' ++ (g j' ++ r n))) l

module _ (T : Tables) where
  -- the values of a statement
  no-values : (Γ : Shape) → resolve_all Γ (group T false none) ≡ []
  unfolding effects
  no-values Γ = refl

  after_none : (σ : Scope Status) → after_all T none σ ≡ σ
  after_none σ = ap (λ (x : List Effect). apply_all (states off) x σ) (no-values (shape σ))

  told_none : (σ : Scope Status) → told_all T none σ ≡ []
  told_none σ = ap (λ (x : List Effect). report_all x σ) (no-values (shape σ))

  deleted-same : (Γ Δ : Shape) (v : View) → deleted_in T Γ v ≡ deleted_in T Δ v
  deleted-same Γ Δ (an_ident n s) = refl
  deleted-same Γ Δ (a_this s) = refl
  deleted-same Γ Δ (a_field s e m) = refl
  deleted-same Γ Δ (a_delete e) = refl
  deleted-same Γ Δ (a_call f) = refl
  deleted-same Γ Δ other = refl

  -- a delete statement reports nothing more
  by-silent : (Γ : Shape) (m : Named) (σ : Scope Status) → report_all (deleted_by T Γ m) σ ≡ []
  by-silent Γ nobody σ = refl
  by-silent Γ (called n s) σ = refl

  deleted-silent : (Γ : Shape) (v : View) (σ : Scope Status) → report_all (deleted_in T Γ v) σ ≡ []
  deleted-silent Γ (an_ident n s) σ = refl
  deleted-silent Γ (a_this s) σ = refl
  deleted-silent Γ (a_field s e m) σ = refl
  deleted-silent Γ (a_delete e) σ = by-silent Γ (name_in (view e)) σ
  deleted-silent Γ (a_call f) σ = refl
  deleted-silent Γ other σ = refl

  pub expr-after : (e : Expr) (σ : Scope Status) → after_expr (states off) T e σ ≡ apply_all (states off) (deleted_in T (shape (after_all T (more e none) σ)) (view e)) (after_all T (more e none) σ)
  unfolding expr_stmt_effects
  expr-after e σ =
      apply-append (effects T (shape σ) e) (deleted_in T (shape σ) (view e)) σ
      ∙ ap (λ (x : List Effect). apply_all (states off) x (evaluate (states off) T e σ)) (deleted-same (shape σ) (shape (after_all T (more e none) σ)) (view e))
      ∙ ap (λ (τ : Scope Status). apply_all (states off) (deleted_in T (shape (after_all T (more e none) σ)) (view e)) τ) (sym (after_one T σ e))

  pub variable-after : (d s n t : ℕ) (e : Expr) (σ : Scope Status)
      → after_variable (states off) T (declared d s n t) e σ ≡ apply_all (states off) (take_over T (shape (after_all T (more e none) σ)) n t e) (register (states off) (declared d s n t) (after_all T (more e none) σ))
  variable-after d s n t e σ =
      let g : shape σ ≡ shape (after_all T (more e none) σ) = sym (shape-all (states off) (resolve_all (shape σ) (group T false (more e none))) σ) in
      ap (λ (Γ : Shape). apply_all (states off) (take_over T Γ n t e) (register (states off) (declared d s n t) (evaluate (states off) T e σ))) g
      ∙ ap (λ (τ : Scope Status). apply_all (states off) (take_over T (shape (after_all T (more e none) σ)) n t e) (register (states off) (declared d s n t) τ)) (sym (after_one T σ e))

module _ (w : Switches) (T : Tables) where
  -- the locals after a list of statements
  pub exit-step : (c : Tree) (d : ℕ) (σ : Scope Status) → exit (states w) T c d σ ≡ exit (states w) T (rest_of c) d (own_after w T c d σ)
  exit-step (done x) d σ = ap (pop d) (sym (after_none T σ))
  exit-step (expr_stmt s e y r) d σ = ap (exit (states w) T r d) (expr-after T e σ)
  exit-step (variable k s n t e r) d σ = ap (exit (states w) T r d) (variable-after T d s n t e σ)
  exit-step (assign s e v t x r) d σ = ap (λ (τ : Scope Status). exit (states w) T r d (after_assign (states w) T e v τ)) (sym (after_two T σ e v))
  exit-step (return s e t x r) d σ = ap (exit (states w) T r d) (sym (after_one T σ e))
  exit-step (bare_return s t x r) d σ = ap (exit (states w) T r d) (sym (after_none T σ))
  exit-step (block s c r) d σ = ap (λ (τ : Scope Status). exit (states w) T r d (exit (states w) T c (suc d) τ)) (sym (after_none T σ))
  exit-step (if_else s e ts t us u r) d σ =
      ap (λ (τ : Scope Status). exit (states w) T r d (merge (states w) (sure_from t false) (sure_from u false) τ (exit (states w) T t (suc d) τ) (exit (states w) T u (suc d) τ))) (sym (after_one T σ e))
  exit-step (if_then s e ts t r) d σ = ap (λ (τ : Scope Status). exit (states w) T r d (merge (states w) (sure_from t false) false τ (exit (states w) T t (suc d) τ) τ)) (sym (after_one T σ e))
  exit-step (while s e ts t r) d σ = ap (λ (τ : Scope Status). exit (states w) T r d (joins (states w) (exit (states w) T t (suc d) τ) τ)) (sym (after_one T σ e))
  exit-step (jump k s x r) d σ = ap (exit (states w) T r d) (sym (after_none T σ))

  -- its fault
  pub fault-step : (c : Tree) (d : ℕ) (σ : Scope Status) → walk_fault version1 w T c d σ ≡ or_else (own_fault w T c d σ) (walk_fault version1 w T (rest_of c) d (own_after w T c d σ))
  unfolding walk_fault or_else
  fault-step (done x) d σ = refl
  fault-step (expr_stmt s e y r) d σ = ap (walk_fault version1 w T r d) (expr-after T e σ)
  fault-step (variable k s n t e r) d σ = ap (λ (τ : Scope Status). or_else (too_many version1 τ) (walk_fault version1 w T r d τ)) (variable-after T d s n t e σ)
  fault-step (assign s e v t x r) d σ = ap (λ (τ : Scope Status). walk_fault version1 w T r d (after_assign (states w) T e v τ)) (sym (after_two T σ e v))
  fault-step (return s e t x r) d σ = ap (walk_fault version1 w T r d) (sym (after_one T σ e))
  fault-step (bare_return s t x r) d σ = ap (walk_fault version1 w T r d) (sym (after_none T σ))
  fault-step (block s c r) d σ = ap (λ (τ : Scope Status). or_else (walk_fault version1 w T c (suc d) τ) (walk_fault version1 w T r d (exit (states w) T c (suc d) τ))) (sym (after_none T σ))
  fault-step (if_else s e ts t us u r) d σ =
      let τ = after_all T (more e none) σ in
      ap (λ (υ : Scope Status). or_else (walk_fault version1 w T t (suc d) υ) (or_else (walk_fault version1 w T u (suc d) υ)
      (or_else (too_wide version1 (not (sure_from t false) && not (sure_from u false)) (joins (states w) (exit (states w) T t (suc d) υ) (exit (states w) T u (suc d) υ)))
      (walk_fault version1 w T r d (merge (states w) (sure_from t false) (sure_from u false) υ (exit (states w) T t (suc d) υ) (exit (states w) T u (suc d) υ)))))) (sym (after_one T σ e))
      ∙ else-three (walk_fault version1 w T t (suc d) τ) (walk_fault version1 w T u (suc d) τ) _ _
  fault-step (if_then s e ts t r) d σ =
      let τ = after_all T (more e none) σ in
      ap (λ (υ : Scope Status). or_else (walk_fault version1 w T t (suc d) υ)
      (or_else (too_wide version1 (not (sure_from t false)) (joins (states w) (exit (states w) T t (suc d) υ) υ))
      (walk_fault version1 w T r d (merge (states w) (sure_from t false) false υ (exit (states w) T t (suc d) υ) υ)))) (sym (after_one T σ e))
      ∙ else-assoc (walk_fault version1 w T t (suc d) τ) (too_wide version1 (not (sure_from t false)) (joins (states w) (exit (states w) T t (suc d) τ) τ))
      (walk_fault version1 w T r d (merge (states w) (sure_from t false) false τ (exit (states w) T t (suc d) τ) τ))
  fault-step (while s e ts t r) d σ =
      let τ = after_all T (more e none) σ in
      ap (λ (υ : Scope Status). or_else (walk_fault version1 w T t (suc d) υ)
      (or_else (too_wide version1 true (joins (states w) (exit (states w) T t (suc d) υ) υ)) (walk_fault version1 w T r d (joins (states w) (exit (states w) T t (suc d) υ) υ)))) (sym (after_one T σ e))
      ∙ else-assoc (walk_fault version1 w T t (suc d) τ) (too_wide version1 true (joins (states w) (exit (states w) T t (suc d) τ) τ)) (walk_fault version1 w T r d (joins (states w) (exit (states w) T t (suc d) τ) τ))
  fault-step (jump k s x r) d σ = ap (walk_fault version1 w T r d) (sym (after_none T σ))

  -- the bytes given back
  pub bytes-step : (c : Tree) (p d : ℕ) (f : Bool) (σ : Scope Status) (l : Option ℕ) (at : ℕ) → So (not (is_done c))
      → encode_code (returned w T c p d l f σ) ≡ (own w T c d l at σ).bytes ++ encode_code (returned w T (rest_of c) p d l (sure_of c) (own_after w T c d σ))
  unfolding encode_code
  bytes-step (done x) p d f σ l at h = absurd h
  bytes-step (expr_stmt s e y r) p d f σ l at h =
      ap (λ (τ : Scope Status). encode_code (flatten (expr_stmt s e (wrapped T (expr_stmt s e y r)) (decide (states w) T (concerns w) r p d l false τ)))) (expr-after T e σ)
      ∙ simp (append_assoc, append-nil)
  bytes-step (variable k s n t e r) p d f σ l at h =
      ap (λ (τ : Scope Status). encode_code (flatten (variable k s n t e (decide (states w) T (concerns w) r p d l false τ)))) (variable-after T d s n t e σ) ∙ simp (append_assoc, append-nil)
  bytes-step (assign s e v t x r) p d f σ l at h =
      ap (λ (τ : Scope Status). encode_code (inserts (assign_drops (states w) T (concerns w) s e τ) (assign s e v t tt (returned w T r p d l false (after_assign (states w) T e v τ))))) (sym (after_two T σ e v))
      ∙ inserts-bytes (assign_drops (states w) T (concerns w) s e (valued T (assign s e v t x r) σ)) (assign s e v t tt (returned w T r p d l false (after_assign (states w) T e v (valued T (assign s e v t x r) σ))))
      ∙ simp (append_assoc, append-nil)
  bytes-step (return s e t x r) p d f σ l at h =
      ap (λ (τ : Scope Status). encode_code (inserts (return_drops (states w) T (concerns w) (name_in (view e)) τ) (return s e t tt (returned w T r p d l true τ)))) (sym (after_one T σ e))
      ∙ inserts-bytes (return_drops (states w) T (concerns w) (name_in (view e)) (valued T (return s e t x r) σ)) (return s e t tt (returned w T r p d l true (valued T (return s e t x r) σ)))
      ∙ simp (append_assoc, append-nil)
  bytes-step (bare_return s t x r) p d f σ l at h =
      let c = bare_return s t x r in
      ap (λ (τ : Scope Status). encode_code (inserts (bare_return_drops (states w) T (concerns w) τ) (bare_return s t tt (returned w T r p d l true τ)))) (sym (after_none T σ))
      ∙ inserts-bytes (bare_return_drops (states w) T (concerns w) (valued T c σ)) (bare_return s t tt (returned w T r p d l true (valued T c σ)))
      ∙ simp (append_assoc, append-nil)
  bytes-step (block s c r) p d f σ l at h =
      ap (λ (τ : Scope Status). encode_code (flatten (block s (decide (states w) T (concerns w) c s (suc d) l false τ) (decide (states w) T (concerns w) r p d l (sure_from c false) (exit (states w) T c (suc d) τ))))) (sym (after_none T σ))
      ∙ simp (append_assoc, append-nil)
  bytes-step (if_else s e ts t us u r) p d f σ l at h =
      ap (λ (τ : Scope Status). encode_code (flatten (if_else s e ts (decide (states w) T (concerns w) t ts (suc d) l false τ) us (decide (states w) T (concerns w) u us (suc d) l false τ)
      (decide (states w) T (concerns w) r p d l (sure_from t false && sure_from u false) (merge (states w) (sure_from t false) (sure_from u false) τ (exit (states w) T t (suc d) τ) (exit (states w) T u (suc d) τ)))))) (sym (after_one T σ e))
      ∙ simp (append_assoc, append-nil)
  bytes-step (if_then s e ts t r) p d f σ l at h =
      ap (λ (τ : Scope Status). encode_code (flatten (if_then s e ts (decide (states w) T (concerns w) t ts (suc d) l false τ)
      (decide (states w) T (concerns w) r p d l false (merge (states w) (sure_from t false) false τ (exit (states w) T t (suc d) τ) τ))))) (sym (after_one T σ e))
      ∙ simp (append_assoc, append-nil)
  bytes-step (while s e ts t r) p d f σ l at h =
      ap (λ (τ : Scope Status). encode_code (flatten (while s e ts (decide (states w) T (concerns w) t ts (suc d) (some (suc d)) false τ) (decide (states w) T (concerns w) r p d l false (joins (states w) (exit (states w) T t (suc d) τ) τ))))) (sym (after_one T σ e))
      ∙ simp (append_assoc, append-nil)
  bytes-step (jump k s x r) p d f σ l at h =
      let c = jump k s x r in
      ap (λ (τ : Scope Status). encode_code (inserts (jump_drops (states w) T (concerns w) l τ) (jump k s tt (returned w T r p d l false τ)))) (sym (after_none T σ))
      ∙ inserts-bytes (jump_drops (states w) T (concerns w) l (valued T c σ)) (jump k s tt (returned w T r p d l false (valued T c σ)))
      ∙ simp (append_assoc, append-nil)

  -- how many statements there are
  pub size_step : (c : Tree) (p d : ℕ) (f : Bool) (σ : Scope Status) (l : Option ℕ) → So (not (is_done c))
      → size (returned w T c p d l f σ) ≡ length (front_drops w T c l (valued T c σ)) + suc (size (returned w T (rest_of c) p d l (sure_of c) (own_after w T c d σ)))
  unfolding size
  size_step (done x) p d f σ l h = absurd h
  size_step (expr_stmt s e y r) p d f σ l h =
      let g = ap (λ (τ : Scope Status). size (returned w T r p d l false τ)) (expr-after T e σ) in
      omega arith
  size_step (variable k s n t e r) p d f σ l h =
      let g = ap (λ (τ : Scope Status). size (returned w T r p d l false τ)) (variable-after T d s n t e σ) in
      omega arith
  size_step (assign s e v t x r) p d f σ l h =
      let τ = valued T (assign s e v t x r) σ in
      ap (λ (υ : Scope Status). size (inserts (assign_drops (states w) T (concerns w) s e υ) (assign s e v t tt (returned w T r p d l false (after_assign (states w) T e v υ))))) (sym (after_two T σ e v))
      ∙ inserts-size (assign_drops (states w) T (concerns w) s e τ) (assign s e v t tt (returned w T r p d l false (after_assign (states w) T e v τ)))
  size_step (return s e t x r) p d f σ l h =
      let τ = valued T (return s e t x r) σ in
      ap (λ (υ : Scope Status). size (inserts (return_drops (states w) T (concerns w) (name_in (view e)) υ) (return s e t tt (returned w T r p d l true υ)))) (sym (after_one T σ e))
      ∙ inserts-size (return_drops (states w) T (concerns w) (name_in (view e)) τ) (return s e t tt (returned w T r p d l true τ))
  size_step (bare_return s t x r) p d f σ l h =
      let τ = valued T (bare_return s t x r) σ in
      ap (λ (υ : Scope Status). size (inserts (bare_return_drops (states w) T (concerns w) υ) (bare_return s t tt (returned w T r p d l true υ)))) (sym (after_none T σ))
      ∙ inserts-size (bare_return_drops (states w) T (concerns w) τ) (bare_return s t tt (returned w T r p d l true τ))
  size_step (block s c r) p d f σ l h =
      let g = ap (λ (τ : Scope Status). size (returned w T r p d l (sure_from c false) (exit (states w) T c (suc d) τ))) (sym (after_none T σ)) in
      omega arith
  size_step (if_else s e ts t us u r) p d f σ l h =
      let g = ap (λ (τ : Scope Status). size (returned w T r p d l (sure_from t false && sure_from u false) (merge (states w) (sure_from t false) (sure_from u false) τ (exit (states w) T t (suc d) τ) (exit (states w) T u (suc d) τ)))) (sym (after_one T σ e)) in
      omega arith
  size_step (if_then s e ts t r) p d f σ l h =
      let g = ap (λ (τ : Scope Status). size (returned w T r p d l false (merge (states w) (sure_from t false) false τ (exit (states w) T t (suc d) τ) τ))) (sym (after_one T σ e)) in
      omega arith
  size_step (while s e ts t r) p d f σ l h =
      let g = ap (λ (τ : Scope Status). size (returned w T r p d l false (joins (states w) (exit (states w) T t (suc d) τ) τ))) (sym (after_one T σ e)) in
      omega arith
  size_step (jump k s x r) p d f σ l h =
      let τ = valued T (jump k s x r) σ in
      ap (λ (υ : Scope Status). size (inserts (jump_drops (states w) T (concerns w) l υ) (jump k s tt (returned w T r p d l false υ)))) (sym (after_none T σ))
      ∙ inserts-size (jump_drops (states w) T (concerns w) l τ) (jump k s tt (returned w T r p d l false τ))

  -- whether every block in it counts at most 65,535
  pub fits-step : (c : Tree) (p d : ℕ) (f : Bool) (σ : Scope Status) (l : Option ℕ) (at : ℕ) → So (not (is_done c))
      → counts_fit 65535 (returned w T c p d l f σ) ≡ ((own w T c d l at σ).fits && counts_fit 65535 (returned w T (rest_of c) p d l (sure_of c) (own_after w T c d σ)))
  unfolding counts_fit
  fits-step (done x) p d f σ l at h = absurd h
  fits-step (expr_stmt s e y r) p d f σ l at h = ap (λ (τ : Scope Status). counts_fit 65535 (returned w T r p d l false τ)) (expr-after T e σ)
  fits-step (variable k s n t e r) p d f σ l at h = ap (λ (τ : Scope Status). counts_fit 65535 (returned w T r p d l false τ)) (variable-after T d s n t e σ)
  fits-step (assign s e v t x r) p d f σ l at h =
      ap (λ (υ : Scope Status). counts_fit 65535 (inserts (assign_drops (states w) T (concerns w) s e υ) (assign s e v t tt (returned w T r p d l false (after_assign (states w) T e v υ))))) (sym (after_two T σ e v))
      ∙ inserts-fit 65535 (assign_drops (states w) T (concerns w) s e (valued T (assign s e v t x r) σ)) _
  fits-step (return s e t x r) p d f σ l at h =
      ap (λ (υ : Scope Status). counts_fit 65535 (inserts (return_drops (states w) T (concerns w) (name_in (view e)) υ) (return s e t tt (returned w T r p d l true υ)))) (sym (after_one T σ e))
      ∙ inserts-fit 65535 (return_drops (states w) T (concerns w) (name_in (view e)) (valued T (return s e t x r) σ)) _
  fits-step (bare_return s t x r) p d f σ l at h =
      ap (λ (υ : Scope Status). counts_fit 65535 (inserts (bare_return_drops (states w) T (concerns w) υ) (bare_return s t tt (returned w T r p d l true υ)))) (sym (after_none T σ))
      ∙ inserts-fit 65535 (bare_return_drops (states w) T (concerns w) (valued T (bare_return s t x r) σ)) _
  fits-step (block s c r) p d f σ l at h =
      let τ = valued T (block s c r) σ in
      let x = returned w T c s (suc d) l false τ in
      ap (λ (τ : Scope Status). counts_fit 65535 (flatten (block s (decide (states w) T (concerns w) c s (suc d) l false τ) (decide (states w) T (concerns w) r p d l (sure_from c false) (exit (states w) T c (suc d) τ))))) (sym (after_none T σ))
  fits-step (if_else s e ts t us u r) p d f σ l at h =
      let τ = valued T (if_else s e ts t us u r) σ in
      let x = returned w T t ts (suc d) l false τ in
      let y = returned w T u us (suc d) l false τ in
      ap (λ (τ : Scope Status). counts_fit 65535 (flatten (if_else s e ts (decide (states w) T (concerns w) t ts (suc d) l false τ) us (decide (states w) T (concerns w) u us (suc d) l false τ)
      (decide (states w) T (concerns w) r p d l (sure_from t false && sure_from u false) (merge (states w) (sure_from t false) (sure_from u false) τ (exit (states w) T t (suc d) τ) (exit (states w) T u (suc d) τ)))))) (sym (after_one T σ e))
      ∙ two-fit (leb (size x) 65535) (leb (size y) 65535) (counts_fit 65535 x) (counts_fit 65535 y)
      (counts_fit 65535 (returned w T r p d l (sure_from t false && sure_from u false) (merge (states w) (sure_from t false) (sure_from u false) τ (exit (states w) T t (suc d) τ) (exit (states w) T u (suc d) τ))))
  fits-step (if_then s e ts t r) p d f σ l at h =
      let τ = valued T (if_then s e ts t r) σ in
      let x = returned w T t ts (suc d) l false τ in
      ap (λ (τ : Scope Status). counts_fit 65535 (flatten (if_then s e ts (decide (states w) T (concerns w) t ts (suc d) l false τ)
      (decide (states w) T (concerns w) r p d l false (merge (states w) (sure_from t false) false τ (exit (states w) T t (suc d) τ) τ))))) (sym (after_one T σ e))
      ∙ and-true (leb (size x) 65535 && counts_fit 65535 x) (counts_fit 65535 (returned w T r p d l false (merge (states w) (sure_from t false) false τ (exit (states w) T t (suc d) τ) τ)))
  fits-step (while s e ts t r) p d f σ l at h =
      let τ = valued T (while s e ts t r) σ in
      let x = returned w T t ts (suc d) (some (suc d)) false τ in
      ap (λ (τ : Scope Status). counts_fit 65535 (flatten (while s e ts (decide (states w) T (concerns w) t ts (suc d) (some (suc d)) false τ) (decide (states w) T (concerns w) r p d l false (joins (states w) (exit (states w) T t (suc d) τ) τ))))) (sym (after_one T σ e))
  fits-step (jump k s x r) p d f σ l at h =
      ap (λ (υ : Scope Status). counts_fit 65535 (inserts (jump_drops (states w) T (concerns w) l υ) (jump k s tt (returned w T r p d l false υ)))) (sym (after_none T σ))
      ∙ inserts-fit 65535 (jump_drops (states w) T (concerns w) l (valued T (jump k s x r) σ)) _

  -- what is reported
  told-expr : (e : Expr) (σ : Scope Status) → report_all (expr_stmt_effects T (shape σ) e) σ ≡ told_all T (more e none) σ
  unfolding expr_stmt_effects
  told-expr e σ =
      report-append (effects T (shape σ) e) (deleted_in T (shape σ) (view e)) σ
      ∙ ap (λ (x : List Report). report_all (effects T (shape σ) e) σ ++ x) (deleted-silent T (shape σ) (view e) (evaluate (states w) T e σ))
      ∙ append-nil (report_all (effects T (shape σ) e) σ)
      ∙ sym (told-one T σ e)

  pub report-step : (c : Tree) (d : ℕ) (l : Option ℕ) (at : ℕ) (σ : Scope Status)
      → report w T c d l at σ ≡ (own w T c d l at σ).reports ++ report w T (rest_of c) d l (at + front_size c + blocks_size c) (own_after w T c d σ)
  report-step (done x) d l at σ = simp (told_none T σ)
  report-step (expr_stmt s e y r) d l at σ =
      let g : at + 5 + expr_bytes e ≡ at + (5 + expr_bytes e) + 0 = omega arith in
      ap (λ (x : List Report). x ++ (unused (wrapped T (expr_stmt s e y r)) s e at ++ report w T r d l (at + 5 + expr_bytes e) (after_expr (states w) T e σ))) (told-expr e σ)
      ∙ ap (λ (τ : Scope Status). told_all T (more e none) σ ++ (unused (wrapped T (expr_stmt s e y r)) s e at ++ report w T r d l (at + 5 + expr_bytes e) τ)) (expr-after T e σ)
      ∙ ap (λ (k : ℕ). told_all T (more e none) σ ++ (unused (wrapped T (expr_stmt s e y r)) s e at ++ report w T r d l k (own_after w T (expr_stmt s e y r) d σ))) g
      ∙ simp (append_assoc, append-nil)
  report-step (variable k s n t e r) d l at σ =
      let g : at + 9 + expr_bytes e ≡ at + (9 + expr_bytes e) + 0 = omega arith in
      ap (λ (x : List Report). x ++ report w T r d l (at + 9 + expr_bytes e) (after_variable (states w) T (declared d s n t) e σ)) (sym (told-one T σ e))
      ∙ ap (λ (τ : Scope Status). told_all T (more e none) σ ++ report w T r d l (at + 9 + expr_bytes e) τ) (variable-after T d s n t e σ)
      ∙ ap (λ (i : ℕ). told_all T (more e none) σ ++ report w T r d l i (own_after w T (variable k s n t e r) d σ)) g
      ∙ simp (append_assoc, append-nil)
  report-step (assign s e v t x r) d l at σ =
      let g : at + 7 + expr_bytes e + expr_bytes v ≡ at + (7 + expr_bytes e + expr_bytes v) + 0 = omega arith in
      ap (λ (y : List Report). y ++ report w T r d l (at + 7 + expr_bytes e + expr_bytes v) (after_assign (states w) T e v (before_assign (states w) T e v σ))) (sym (told-two T σ e v))
      ∙ ap (λ (τ : Scope Status). told_all T (more e (more v none)) σ ++ report w T r d l (at + 7 + expr_bytes e + expr_bytes v) (after_assign (states w) T e v τ)) (sym (after_two T σ e v))
      ∙ ap (λ (i : ℕ). told_all T (more e (more v none)) σ ++ report w T r d l i (own_after w T (assign s e v t x r) d σ)) g
      ∙ simp (append_assoc, append-nil)
  report-step (return s e t x r) d l at σ =
      let g : at + 8 + expr_bytes e ≡ at + (8 + expr_bytes e) + 0 = omega arith in
      ap (λ (y : List Report). y ++ report w T r d l (at + 8 + expr_bytes e) (evaluate (states w) T e σ)) (sym (told-one T σ e))
      ∙ ap (λ (τ : Scope Status). told_all T (more e none) σ ++ report w T r d l (at + 8 + expr_bytes e) τ) (sym (after_one T σ e))
      ∙ ap (λ (i : ℕ). told_all T (more e none) σ ++ report w T r d l i (own_after w T (return s e t x r) d σ)) g
      ∙ simp (append_assoc, append-nil)
  report-step (bare_return s t x r) d l at σ =
      let g : at + 8 ≡ at + 8 + 0 = omega arith in
      ap (λ (τ : Scope Status). left_behind T w.bare_returns s at_bare_return τ ++ report w T r d l (at + 8) τ) (sym (after_none T σ))
      ∙ ap (λ (i : ℕ). left_behind T w.bare_returns s at_bare_return (after_all T none σ) ++ report w T r d l i (after_all T none σ)) g
      ∙ simp (append_assoc, append-nil, told_none T σ)
  report-step (block s c r) d l at σ =
      let a : at + 7 ≡ at + 1 + 6 = omega arith in
      let g : at + 7 + code_bytes c ≡ at + 1 + (6 + code_bytes c) = omega arith in
      ap (λ (τ : Scope Status). report w T c (suc d) l (at + 7) τ ++ report w T r d l (at + 7 + code_bytes c) (exit (states w) T c (suc d) τ)) (sym (after_none T σ))
      ∙ ap (λ (i : ℕ). report w T c (suc d) l i (after_all T none σ) ++ report w T r d l (at + 7 + code_bytes c) (exit (states w) T c (suc d) (after_all T none σ))) a
      ∙ ap (λ (i : ℕ). report w T c (suc d) l (at + 1 + 6) (after_all T none σ) ++ report w T r d l i (exit (states w) T c (suc d) (after_all T none σ))) g
      ∙ simp (append_assoc, append-nil, told_none T σ)
  report-step (if_else s e ts t us u r) d l at σ =
      let τ = after_all T (more e none) σ in
      let b₀ = at + (5 + expr_bytes e) in
      let a : at + 11 + expr_bytes e ≡ b₀ + 6 = omega arith in
      let b : at + 18 + expr_bytes e + code_bytes t ≡ b₀ + (6 + code_bytes t) + 1 + 6 = omega arith in
      let g : at + 18 + expr_bytes e + code_bytes t + code_bytes u ≡ b₀ + (13 + code_bytes t + code_bytes u) = omega arith in
      ap (λ (x : List Report). x ++ (report w T t (suc d) l (at + 11 + expr_bytes e) (evaluate (states w) T e σ) ++ (report w T u (suc d) l (at + 18 + expr_bytes e + code_bytes t) (evaluate (states w) T e σ)
      ++ report w T r d l (at + 18 + expr_bytes e + code_bytes t + code_bytes u)
      (merge (states w) (sure_from t false) (sure_from u false) (evaluate (states w) T e σ) (exit (states w) T t (suc d) (evaluate (states w) T e σ)) (exit (states w) T u (suc d) (evaluate (states w) T e σ)))))) (sym (told-one T σ e))
      ∙ ap (λ (υ : Scope Status). told_all T (more e none) σ ++ (report w T t (suc d) l (at + 11 + expr_bytes e) υ ++ (report w T u (suc d) l (at + 18 + expr_bytes e + code_bytes t) υ
      ++ report w T r d l (at + 18 + expr_bytes e + code_bytes t + code_bytes u) (merge (states w) (sure_from t false) (sure_from u false) υ (exit (states w) T t (suc d) υ) (exit (states w) T u (suc d) υ))))) (sym (after_one T σ e))
      ∙ three (λ (i : ℕ). report w T t (suc d) l i τ) (λ (i : ℕ). report w T u (suc d) l i τ)
      (λ (i : ℕ). report w T r d l i (merge (states w) (sure_from t false) (sure_from u false) τ (exit (states w) T t (suc d) τ) (exit (states w) T u (suc d) τ))) (told_all T (more e none) σ) a b g
      ∙ simp (append_assoc, append-nil)
  report-step (if_then s e ts t r) d l at σ =
      let τ = after_all T (more e none) σ in
      let b₀ = at + (5 + expr_bytes e) in
      let a : at + 11 + expr_bytes e ≡ b₀ + 6 = omega arith in
      let g : at + 12 + expr_bytes e + code_bytes t ≡ b₀ + (7 + code_bytes t) = omega arith in
      ap (λ (x : List Report). x ++ (report w T t (suc d) l (at + 11 + expr_bytes e) (evaluate (states w) T e σ)
      ++ report w T r d l (at + 12 + expr_bytes e + code_bytes t) (merge (states w) (sure_from t false) false (evaluate (states w) T e σ) (exit (states w) T t (suc d) (evaluate (states w) T e σ)) (evaluate (states w) T e σ)))) (sym (told-one T σ e))
      ∙ ap (λ (υ : Scope Status). told_all T (more e none) σ ++ (report w T t (suc d) l (at + 11 + expr_bytes e) υ
      ++ report w T r d l (at + 12 + expr_bytes e + code_bytes t) (merge (states w) (sure_from t false) false υ (exit (states w) T t (suc d) υ) υ))) (sym (after_one T σ e))
      ∙ two (λ (i : ℕ). report w T t (suc d) l i τ) (λ (i : ℕ). report w T r d l i (merge (states w) (sure_from t false) false τ (exit (states w) T t (suc d) τ) τ)) (told_all T (more e none) σ) a g
      ∙ simp (append_assoc, append-nil)
  report-step (while s e ts t r) d l at σ =
      let τ = after_all T (more e none) σ in
      let b₀ = at + (5 + expr_bytes e) in
      let a : at + 11 + expr_bytes e ≡ b₀ + 6 = omega arith in
      let g : at + 11 + expr_bytes e + code_bytes t ≡ b₀ + (6 + code_bytes t) = omega arith in
      ap (λ (x : List Report). x ++ (report w T t (suc d) (some (suc d)) (at + 11 + expr_bytes e) (evaluate (states w) T e σ)
      ++ report w T r d l (at + 11 + expr_bytes e + code_bytes t) (joins (states w) (exit (states w) T t (suc d) (evaluate (states w) T e σ)) (evaluate (states w) T e σ)))) (sym (told-one T σ e))
      ∙ ap (λ (υ : Scope Status). told_all T (more e none) σ ++ (report w T t (suc d) (some (suc d)) (at + 11 + expr_bytes e) υ
      ++ report w T r d l (at + 11 + expr_bytes e + code_bytes t) (joins (states w) (exit (states w) T t (suc d) υ) υ))) (sym (after_one T σ e))
      ∙ two (λ (i : ℕ). report w T t (suc d) (some (suc d)) i τ) (λ (i : ℕ). report w T r d l i (joins (states w) (exit (states w) T t (suc d) τ) τ)) (told_all T (more e none) σ) a g
      ∙ simp (append_assoc, append-nil)
  report-step (jump k s x r) d l at σ =
      let g : at + 5 ≡ at + 5 + 0 = omega arith in
      ap (λ (τ : Scope Status). left_behind T w.jumps s (at_jump l) τ ++ report w T r d l (at + 5) τ) (sym (after_none T σ))
      ∙ ap (λ (i : ℕ). left_behind T w.jumps s (at_jump l) (after_all T none σ) ++ report w T r d l i (after_all T none σ)) g
      ∙ simp (append_assoc, append-nil, told_none T σ)
