-- Statements without blocks, and the values of a statement that was read.
-- Assumes nothing.
use Prim.Native.Nat.{ℕ, suc, ◌≤◌, ◌<◌}
use native.Mathlib.Omega.{arith}
use mathlib.Core.Path.{◌≡◌, refl, sym, ap}
use mathlib.Core.Bool.{Bool, true, false, cond}
use mathlib.Core.List.{List, [], ◌∷◌}
use mathlib.Core.Option.{Option}
use borrow.Author.Tests.{eqb-true, le-ltb}
use lib.Dec.{eqb}
use lib.ListN.{length}
use Rattle.image_fields.proofs.Tests.{false-true}
use Rattle.tables.specs.Limits.{version1}
use Rattle.tables.specs.Tables.{Tables}
use Rattle.image_body.specs.Expr.{Exprs, none, more}
use Rattle.image_body.specs.Stmt.{Tree, Block, Stmt, StmtHead, done, expr_stmt, variable, assign, return, bare_return, block, if_else, if_then, while, jump, value_count, value_flag, first_value, second_value, first_block, before_return, before_if, before_of, before}
use Rattle.image_body.specs.Stands.{count}
use Rattle.image_encoding.proofs.StmtBytes.{Shape, tags}
use Rattle.rules.specs.Expr.{view}
use Rattle.rules.specs.State.{State as Status}
use Rattle.rules.specs.Stack.{local, shape, Stack as Scope}
use Rattle.rules.specs.Effects.{deleted_in}
use Rattle.rules.specs.Rules.{Switches, off, states}
use Rattle.rules.specs.Walk.{too_many}
use Rattle.rules.proofs.Shapes.{shape-all, shape-assign}
use Rattle.statements_steps.specs.Statement.{settle}
use Rattle.statements_steps.proofs.Whole.{values_of, blocks_size, blockless}
use Rattle.statements_steps.specs.Own.{nothing, blocks_own, blocks_fault, blocks_after}

pub length-shape : (σ : Scope Status) → length (shape σ) ≡ length σ
length-shape [] = refl
length-shape (local s a ∷ σ) = ap suc (length-shape σ)

-- at most 64 locals are not too many
pub few-locals : (σ : Scope Status) → length σ ≤ 64 → too_many version1 σ ≡ Option.none
few-locals σ h = ap (λ (b : Bool). cond b (Option.some 12) Option.none) (le-ltb 64 (length σ) h)

same_length : (σ τ : Scope Status) → shape τ ≡ shape σ → length σ ≤ 64 → length τ ≤ 64
same_length σ τ e h = let a = length-shape σ in let b = length-shape τ in let c = ap length e in omega arith

module _ (w : Switches) (T : Tables) where
  pub blockless-own : (c : Tree) (d : ℕ) (l : Option ℕ) (at : ℕ) (σ : Scope Status) → blockless c ≡ true → blocks_own w T c d l at σ ≡ nothing
  blockless-own (done x) d l at σ h = refl
  blockless-own (expr_stmt s e y r) d l at σ h = refl
  blockless-own (variable k s n t e r) d l at σ h = refl
  blockless-own (assign s e v t x r) d l at σ h = refl
  blockless-own (return s e t x r) d l at σ h = refl
  blockless-own (bare_return s t x r) d l at σ h = refl
  blockless-own (block s c r) d l at σ h = false-true h
  blockless-own (if_else s e ts t us u r) d l at σ h = false-true h
  blockless-own (if_then s e ts t r) d l at σ h = false-true h
  blockless-own (while s e ts t r) d l at σ h = false-true h
  blockless-own (jump k s x r) d l at σ h = refl

  pub blockless-after : (c : Tree) (d : ℕ) (σ : Scope Status) → blockless c ≡ true → blocks_after w T c d σ ≡ settle T c d σ
  blockless-after (done x) d σ h = refl
  blockless-after (expr_stmt s e y r) d σ h = refl
  blockless-after (variable k s n t e r) d σ h = refl
  blockless-after (assign s e v t x r) d σ h = refl
  blockless-after (return s e t x r) d σ h = refl
  blockless-after (bare_return s t x r) d σ h = refl
  blockless-after (block s c r) d σ h = false-true h
  blockless-after (if_else s e ts t us u r) d σ h = false-true h
  blockless-after (if_then s e ts t r) d σ h = false-true h
  blockless-after (while s e ts t r) d σ h = false-true h
  blockless-after (jump k s x r) d σ h = refl

  -- only a registration can be one too many
  pub blockless-fault : (c : Tree) (d : ℕ) (σ : Scope Status) → blockless c ≡ true → length σ ≤ 64 → blocks_fault w T c d σ ≡ too_many version1 (settle T c d σ)
  blockless-fault (done x) d σ h l = sym (few-locals σ l)
  blockless-fault (expr_stmt s e y r) d σ h l =
      sym (few-locals (settle T (expr_stmt s e y r) d σ) (same_length σ (settle T (expr_stmt s e y r) d σ) (shape-all (states off) (deleted_in T (shape σ) (view e)) σ) l))
  blockless-fault (variable k s n t e r) d σ h l = refl
  blockless-fault (assign s e v t x r) d σ h l =
      sym (few-locals (settle T (assign s e v t x r) d σ) (same_length σ (settle T (assign s e v t x r) d σ) (shape-assign (states off) T e v σ) l))
  blockless-fault (return s e t x r) d σ h l = sym (few-locals σ l)
  blockless-fault (bare_return s t x r) d σ h l = sym (few-locals σ l)
  blockless-fault (block s c r) d σ h l = false-true h
  blockless-fault (if_else s e ts t us u r) d σ h l = false-true h
  blockless-fault (if_then s e ts t r) d σ h l = false-true h
  blockless-fault (while s e ts t r) d σ h l = false-true h
  blockless-fault (jump k s x r) d σ h l = sym (few-locals σ l)

pub blockless-size : (c : Tree) → blockless c ≡ true → blocks_size c ≡ 0
blockless-size (done x) h = refl
blockless-size (expr_stmt s e y r) h = refl
blockless-size (variable k s n t e r) h = refl
blockless-size (assign s e v t x r) h = refl
blockless-size (return s e t x r) h = refl
blockless-size (bare_return s t x r) h = refl
blockless-size (block s c r) h = false-true h
blockless-size (if_else s e ts t us u r) h = false-true h
blockless-size (if_then s e ts t r) h = false-true h
blockless-size (while s e ts t r) h = false-true h
blockless-size (jump k s x r) h = refl

-- a statement of a tag that has no blocks
less-cond : (b : Bool) (u v : Tree) → (b ≡ true → blockless u ≡ true) → blockless v ≡ true → blockless (cond b u v) ≡ true
less-cond true u v p q = p refl
less-cond false u v p q = q

less-return : (es : Exprs) (s t : ℕ) (c : Tree) → blockless (before_return es s t c) ≡ true
less-return none s t c = refl
less-return (more e es) s t c = refl

pub blockless-before : (x : Stmt) (c : Tree) → (x.front.head.tag ≡ 1 → ⊥) → (x.front.head.tag ≡ 7 → ⊥) → (x.front.head.tag ≡ 8 → ⊥) → blockless (before x c) ≡ true
unfolding before_of
blockless-before x c n1 n7 n8 =
    less-cond (eqb x.front.head.tag 1) _ _ (λ h. absurd (n1 (eqb-true _ _ h)))
    (less-cond (eqb x.front.head.tag 2) _ _ (λ h. less-return x.front.values x.front.head.span x.front.last c)
    (less-cond (eqb x.front.head.tag 3) _ _ (λ h. refl)
    (less-cond (eqb x.front.head.tag 4) _ _ (λ h. refl)
    (less-cond (eqb x.front.head.tag 5) _ _ (λ h. refl)
    (less-cond (eqb x.front.head.tag 6) _ _ (λ h. refl)
    (less-cond (eqb x.front.head.tag 7) _ _ (λ h. absurd (n7 (eqb-true _ _ h)))
    (less-cond (eqb x.front.head.tag 8) _ _ (λ h. absurd (n8 (eqb-true _ _ h)))
    (less-cond (eqb x.front.head.tag 9) _ _ (λ h. refl) refl))))))))

-- the values of a statement are those that were read
one : (es : Exprs) → count es ≡ 1 → more (first_value es) none ≡ es
one none h = absurd (omega arith)
one (more e none) h = refl
one (more e (more f es)) h = absurd (omega arith)

two : (es : Exprs) → count es ≡ 2 → more (first_value es) (more (second_value es) none) ≡ es
two none h = absurd (omega arith)
two (more e none) h = absurd (omega arith)
two (more e (more f none)) h = refl
two (more e (more f (more g es))) h = absurd (omega arith)

zero_of : (es : Exprs) → count es ≡ 0 → none ≡ es
zero_of none h = refl
zero_of (more e es) h = absurd (omega arith)

returned : (es : Exprs) (s t : ℕ) (c : Tree) → count es < 2 → values_of (before_return es s t c) ≡ es
returned none s t c h = refl
returned (more e none) s t c h = refl
returned (more e (more f es)) s t c h = absurd (omega arith)

branched : (bs : List Block) (s : ℕ) (es : Exprs) (b : Block) (c : Tree) → count es ≡ 1 → values_of (before_if bs s (first_value es) b c) ≡ es
branched [] s es b c h = one es h
branched (d ∷ ds) s es b c h = one es h

pub values-before : (tag : ℕ) (h : StmtHead) (es : Exprs) (n l : ℕ) (bs cs : List Block) (c : Tree) → Shape tag es n bs cs → values_of (before_of tag h es l bs cs c) ≡ es
unfolding before_of value_count value_flag
values-before tag h es n l bs cs c g =
    tags (λ (k : ℕ). Shape k es n bs cs → values_of (before_of k h es l bs cs c) ≡ es)
    (λ s. zero_of es (let v = s.values in let f = s.flag in omega arith))
    (λ s. returned es h.span l c (let v = s.values in let f = s.flag in omega arith))
    (λ s. one es (let v = s.values in let f = s.flag in omega arith))
    (λ s. one es (let v = s.values in let f = s.flag in omega arith))
    (λ s. one es (let v = s.values in let f = s.flag in omega arith))
    (λ s. two es (let v = s.values in let f = s.flag in omega arith))
    (λ s. branched cs h.span es (first_block bs) c (let v = s.values in let f = s.flag in omega arith))
    (λ s. one es (let v = s.values in let f = s.flag in omega arith))
    (λ s. zero_of es (let v = s.values in let f = s.flag in omega arith))
    (λ s. zero_of es (let v = s.values in let f = s.flag in omega arith))
    tag g.low g.high g
