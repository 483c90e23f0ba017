-- A statement put before the rest of its list: the rest is what it is put before, and where the statement ends.
-- Assumes nothing.
use Prim.Native.Nat.{ℕ, suc, ◌+◌}
use native.Mathlib.Omega.{arith}
use mathlib.Core.Path.{◌≡◌, refl, ap, ◌∙◌}
use mathlib.Core.Bool.{Bool, true, false, cond, not}
use mathlib.Core.List.{List, [], ◌∷◌, ◌++◌}
use lib.Dec.{eqb, T as So}
use lib.ListN.{length, length-append}
use Rattle.image_fields.specs.Bytes.{Bytes}
use Rattle.image_fields.specs.Parsed.{ok}
use Rattle.image_body.specs.Expr.{Exprs, Expr, Scope, none, more}
use Rattle.image_body.specs.Stmt.{Tree, Block, Stmt, done, expr_stmt, variable, assign, return, bare_return, block, if_else, if_then, while, jump, first_value, first_block, before_return, before_if, before_of, before, stmt_in, block_at}
use Rattle.image_encoding.specs.Body.{size, encode_code}
use Rattle.image_encoding.proofs.StmtBytes.{stmt_bytes, encodes}
use Rattle.image_encoding.proofs.BodyWritten.{stmt-written, block_written}
use Rattle.rules.specs.Rules.{is_done, sure_from}
use Rattle.rules.specs.Report.{code_bytes}
use Rattle.rules.proofs.Longer.{expr_stmt-bytes, variable-bytes, assign-bytes, return-bytes, bare_return-bytes, block-bytes, if_else-bytes, if_then-bytes, while-bytes, jump-bytes}
use Rattle.statements_steps.specs.Statement.{front_size}
use Rattle.statements_steps.proofs.Whole.{rest_of, blocks_size, sure_of}
use Rattle.statements_steps.proofs.Steps.{sure_step}

-- what holds of every kind of statement holds of a statement of any tag
module _ (P : Tree → Type 0) (c : Tree) (expr : (s : ℕ) (e : Expr) → P (expr_stmt s e tt c)) (bound : (k : Bool) (s n t : ℕ) (e : Expr) → P (variable k s n t e c))
    (assigned : (s : ℕ) (e v : Expr) (t : ℕ) → P (assign s e v t tt c)) (returned : (s : ℕ) (e : Expr) (t : ℕ) → P (return s e t tt c))
    (bare : (s t : ℕ) → P (bare_return s t tt c)) (inner : (s : ℕ) (b : Tree) → P (block s b c))
    (both : (s : ℕ) (e : Expr) (ts : ℕ) (t : Tree) (us : ℕ) (u : Tree) → P (if_else s e ts t us u c))
    (one : (s : ℕ) (e : Expr) (ts : ℕ) (t : Tree) → P (if_then s e ts t c)) (loop : (s : ℕ) (e : Expr) (ts : ℕ) (t : Tree) → P (while s e ts t c))
    (jumps : (k : Bool) (s : ℕ) → P (jump k s tt c)) where
  pick : (b : Bool) (u v : Tree) → P u → P v → P (cond b u v)
  pick true u v p q = p
  pick false u v p q = q

  of-return : (es : Exprs) (s t : ℕ) → P (before_return es s t c)
  of-return none s t = bare s t
  of-return (more e es) s t = returned s e t

  of-if : (bs : List Block) (s : ℕ) (e : Expr) (b : Block) → P (before_if bs s e b c)
  of-if [] s e b = one s e b.span b.code
  of-if (d ∷ ds) s e b = both s e b.span b.code d.span d.code

  pub any-before : (x : Stmt) → P (before x c)
  unfolding before_of
  any-before x =
      pick (eqb x.front.head.tag 1) _ _ (inner _ _)
      (pick (eqb x.front.head.tag 2) _ _ (of-return x.front.values _ _)
      (pick (eqb x.front.head.tag 3) _ _ (expr _ _)
      (pick (eqb x.front.head.tag 4) _ _ (bound false _ _ _ _)
      (pick (eqb x.front.head.tag 5) _ _ (bound true _ _ _ _)
      (pick (eqb x.front.head.tag 6) _ _ (assigned _ _ _ _)
      (pick (eqb x.front.head.tag 7) _ _ (of-if x.others _ _ _)
      (pick (eqb x.front.head.tag 8) _ _ (loop _ _ _ _)
      (pick (eqb x.front.head.tag 9) _ _ (jumps false _) (jumps true _)))))))))

pub rest-before : (x : Stmt) (c : Tree) → rest_of (before x c) ≡ c
rest-before x c =
    any-before (λ (b : Tree). rest_of b ≡ c) c (λ s e. refl) (λ k s n t e. refl) (λ s e v t. refl) (λ s e t. refl) (λ s t. refl) (λ s b. refl)
    (λ s e ts t us u. refl) (λ s e ts t. refl) (λ s e ts t. refl) (λ k s. refl) x

pub going_before : (x : Stmt) (c : Tree) → So (not (is_done (before x c)))
going_before x c =
    any-before (λ (b : Tree). So (not (is_done b))) c (λ s e. tt) (λ k s n t e. tt) (λ s e v t. tt) (λ s e t. tt) (λ s t. tt) (λ s b. tt)
    (λ s e ts t us u. tt) (λ s e ts t. tt) (λ s e ts t. tt) (λ k s. tt) x

size-before : (x : Stmt) (c : Tree) → size (before x c) ≡ suc (size c)
unfolding size
size-before x c =
    any-before (λ (b : Tree). size b ≡ suc (size c)) c (λ s e. refl) (λ k s n t e. refl) (λ s e v t. refl) (λ s e t. refl) (λ s t. refl) (λ s b. refl)
    (λ s e ts t us u. refl) (λ s e ts t. refl) (λ s e ts t. refl) (λ k s. refl) x

-- the bytes of a list are those of its first statement and of the rest
pub code-size : (c : Tree) → code_bytes c ≡ front_size c + blocks_size c + code_bytes (rest_of c)
code-size (done x) = omega arith
code-size (expr_stmt s e y r) = let h = expr_stmt-bytes s e y r in omega arith
code-size (variable k s n t e r) = let h = variable-bytes k s n t e r in omega arith
code-size (assign s e v t x r) = let h = assign-bytes s e v t x r in omega arith
code-size (return s e t x r) = let h = return-bytes s e t x r in omega arith
code-size (bare_return s t x r) = let h = bare_return-bytes s t x r in omega arith
code-size (block s c r) = let h = block-bytes s c r in omega arith
code-size (if_else s e ts t us u r) = let h = if_else-bytes s e ts t us u r in omega arith
code-size (if_then s e ts t r) = let h = if_then-bytes s e ts t r in omega arith
code-size (while s e ts t r) = let h = while-bytes s e ts t r in omega arith
code-size (jump k s x r) = let h = jump-bytes k s x r in omega arith

-- where a statement ends: behind its front and its blocks
pub stmt-end : (s : List ℕ) → Bytes s → (t : Scope) (d at : ℕ) (x : Stmt) (next : ℕ) → stmt_in t s d at ≡ ok x next → (c : Tree)
    → next ≡ at + front_size (before x c) + blocks_size (before x c)
stmt-end s small t d at x next e c =
    let w = stmt-written s small (block_at t s d) (block_written s small t d) t at x next e in
    let bs = stmt_bytes x.front.head.tag x.front.head x.front.values w.flag x.front.last x.blocks x.others in
    let g : encode_code (before x c) ≡ bs ++ encode_code c =
    (encodes x.front.head.tag x.front.head x.front.values w.flag x.front.last x.blocks x.others c w.shape).0 in
    let l : code_bytes (before x c) ≡ length bs + code_bytes c = ap length g ∙ length-append bs (encode_code c) in
    let k = code-size (before x c) in
    let r = ap code_bytes (rest-before x c) in
    let z = w.bytes.end in
    omega arith

-- whether a statement surely returns is its own affair
sure-cond : (b : Bool) (u v u' v' : Tree) → sure_of u ≡ sure_of u' → sure_of v ≡ sure_of v' → sure_of (cond b u v) ≡ sure_of (cond b u' v')
sure-cond true u v u' v' p q = p
sure-cond false u v u' v' p q = q

sure-return : (es : Exprs) (s t : ℕ) (c e : Tree) → sure_of (before_return es s t c) ≡ sure_of (before_return es s t e)
sure-return none s t c e = refl
sure-return (more x xs) s t c e = refl

sure-if : (bs : List Block) (s : ℕ) (x : Expr) (b : Block) (c e : Tree) → sure_of (before_if bs s x b c) ≡ sure_of (before_if bs s x b e)
sure-if [] s x b c e = refl
sure-if (d ∷ ds) s x b c e = refl

sure-same : (x : Stmt) (c e : Tree) → sure_of (before x c) ≡ sure_of (before x e)
unfolding before_of
sure-same x c e =
    sure-cond (eqb x.front.head.tag 1) _ _ _ _ refl
    (sure-cond (eqb x.front.head.tag 2) _ _ _ _ (sure-return x.front.values x.front.head.span x.front.last c e)
    (sure-cond (eqb x.front.head.tag 3) _ _ _ _ refl
    (sure-cond (eqb x.front.head.tag 4) _ _ _ _ refl
    (sure-cond (eqb x.front.head.tag 5) _ _ _ _ refl
    (sure-cond (eqb x.front.head.tag 6) _ _ _ _ refl
    (sure-cond (eqb x.front.head.tag 7) _ _ _ _ (sure-if x.others x.front.head.span (first_value x.front.values) (first_block x.blocks) c e)
    (sure-cond (eqb x.front.head.tag 8) _ _ _ _ refl
    (sure-cond (eqb x.front.head.tag 9) _ _ _ _ refl refl))))))))

pub sure-before : (x : Stmt) (c : Tree) → sure_from (before x (done tt)) false ≡ sure_of (before x c)
sure-before x c =
    sure_step (before x (done tt)) false (going_before x (done tt))
    ∙ ap (λ (r : Tree). sure_from r (sure_of (before x (done tt)))) (rest-before x (done tt))
    ∙ sure-same x (done tt) c
