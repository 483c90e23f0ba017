-- The blocks of a statement that was read, by its tag.
-- Assumes nothing.
use Prim.Native.Nat.{ℕ, zero, suc, ◌+◌}
use native.Mathlib.Omega.{arith}
use mathlib.Core.Option.{Option}
use mathlib.Core.Path.{◌≡◌, refl, sym, ap, ◌∙◌, subst}
use mathlib.Core.Bool.{Bool, true, false, ◌||◌}
use mathlib.Core.List.{List}
use borrow.Author.Tests.{eqb-true, eqb-false}
use lib.Dec.{eqb}
use lib.ListN.{get_or}
use Rattle.rules.specs.Rules.{Switches}
use Rattle.image_fields.proofs.Tests.{false-true}
use Rattle.image_fields.specs.Parsed.{ok}
use Rattle.image_fields.specs.Number.{four}
use Rattle.image_fields.specs.Bytes.{Bytes}
use Rattle.tables.specs.Tables.{Tables}
use Rattle.image_body.specs.Expr.{Expr, Scope as Reading, expr_at}
use Rattle.image_body.specs.Stmt.{Tree, Block, Stmt, done, block, if_then, while, before, block_at, stmt_in}
use Rattle.image_body.proofs.Statements.{Branched, stmt-block, stmt-if, stmt-while}
use Rattle.image_encoding.proofs.ExprWritten.{expr-written}
use Rattle.rules.specs.State.{State as Status}
use Rattle.rules.specs.Stack.{Stack as Scope}
use Rattle.rules.specs.Report.{expr_bytes}
use Rattle.statements_returns.specs.Returns.{BlockThere}
use Rattle.statements_returns.proofs.Fronts.{front-values}
use Rattle.statements_acts.specs.declared.Place.{Place}
use Rattle.statements_steps.specs.Statement.{front_size}
use Rattle.statements_steps.proofs.Whole.{blockless}
use Rattle.statements_steps.proofs.Plain.{blockless-before}
use Rattle.image_writing.specs.Memory.{Memory}
use Rattle.blocks_laws.specs.Walks.{Walked, BlocksWalk, TagThere, IfWalks, TagWalks, blocked}
use Rattle.blocks_laws.proofs.Blocks.{block-blocks}

or_left : (a b : Bool) → (a || b) ≡ false → a ≡ false
or_left true b h = h
or_left false b h = refl

or_right : (a b : Bool) → (a || b) ≡ false → b ≡ false
or_right true b h = false-true (sym h)
or_right false b h = h

-- where the value of an If or While ends
value-end : (s : List ℕ) → Bytes s → (t : Reading) (d at : ℕ) (e : Expr) (q : ℕ) → expr_at t s d at ≡ ok e q → q ≡ at + expr_bytes e
value-end s small t d at e q h = (expr-written s small t d at e q h).end

-- the blocks of a statement that was read, at the place behind its front
module _ (s : List ℕ) (small : Bytes s) (t : Reading) (deep : t.expr_depth ≡ 24) (left at : ℕ) (x : Stmt) (next : ℕ) (read : stmt_in t s left at ≡ ok x next) (z : Place)
    (behind : (c : Tree) → z.at ≡ at + front_size (before x c)) where
  block-at : get_or s at 0 ≡ 1 → (b : Block) × (block_at t s left z.at ≡ ok b next) × ((c : Tree) → before x c ≡ block b.span b.code c)
  block-at k =
      let g = stmt-block (block_at t s left) t s at x next read k in
      let e : z.at ≡ at + 1 = behind (done tt) ∙ ap (λ (c : Tree). at + front_size c) (g.3 (done tt)) in
      (g.0, subst (λ (i : ℕ). block_at t s left i ≡ ok g.0 next) (sym e) g.2, g.3)

  loop-at : get_or s at 0 ≡ 8 → (b : Block) × (e : Expr) × (block_at t s left z.at ≡ ok b next) × ((c : Tree) → before x c ≡ while (four s (at + 1)) e b.span b.code c)
  loop-at k =
      let g = stmt-while (block_at t s left) t s at x next read k in
      let v = value-end s small t t.expr_depth (at + 5) g.0 g.1 g.4 in
      let e : z.at ≡ g.1 = behind (done tt) ∙ ap (λ (c : Tree). at + front_size c) (g.6 (done tt)) ∙ omega arith in
      (g.2, g.0, subst (λ (i : ℕ). block_at t s left i ≡ ok g.2 next) (sym e) g.5, g.6)

  if-at : get_or s at 0 ≡ 7 → (g : Branched (block_at t s left) t s at x next) × (g.p ≡ z.at)
  if-at k =
      let g = stmt-if (block_at t s left) t s at x next read k in
      let v = value-end s small t t.expr_depth (at + 5) g.e g.p g.value in
      (g, by_flag g (get_or s g.q 0) refl v)
    where
      by_flag : (g : Branched (block_at t s left) t s at x next) (k : ℕ) → get_or s g.q 0 ≡ k → g.p ≡ at + 5 + expr_bytes g.e → g.p ≡ z.at
      by_flag g zero h v = v ∙ sym (behind (done tt) ∙ ap (λ (c : Tree). at + front_size c) ((g.without h).1 (done tt)) ∙ omega arith)
      by_flag g (suc k) h v = v ∙ sym (behind (done tt) ∙ ap (λ (c : Tree). at + front_size c) ((g.with (omega arith)).2 (done tt)) ∙ omega arith)

  -- what the walk of the blocks requires
  pub tag-there : blocked (get_or s at 0) ≡ true → TagThere s left z.at (get_or s at 0)
  tag-there has = record {
    ifs = λ k.
        let i = if-at k in
        let g = i.0 in
        record {
          there = record {
            t = t;
            deep = deep;
            b = g.b;
            flag = g.q;
            body = subst (λ (j : ℕ). block_at t s left j ≡ ok g.b g.q) i.1 g.body;
            end = g.end;
            other = λ lt. let o = g.with lt in (o.0, next, o.1);
          };
          flag = g.flag;
        };
    others = λ not-if. either-block (eqb (get_or s at 0) 1) (eqb (get_or s at 0) 7) (eqb (get_or s at 0) 8) refl refl refl has not-if;
  }
    where
      either-block : (a b c : Bool) → eqb (get_or s at 0) 1 ≡ a → eqb (get_or s at 0) 7 ≡ b → eqb (get_or s at 0) 8 ≡ c → (a || (b || c)) ≡ true → (get_or s at 0 ≡ 7 → ⊥) → BlockThere s left z.at
      either-block true b c ea eb ec h n = let g = block-at (eqb-true _ _ ea) in record { t = t; deep = deep; b = g.0; next = next; read = g.1 }
      either-block false true c ea eb ec h n = absurd (n (eqb-true _ _ eb))
      either-block false false true ea eb ec h n = let g = loop-at (eqb-true _ _ ec) in record { t = t; deep = deep; b = g.0; next = next; read = g.2 }
      either-block false false false ea eb ec h n = false-true h

  -- and what it says of the statement
  module _ (sw : Switches) (T : Tables) (d : ℕ) (loop : Option ℕ) (σ : Scope Status) (m : Memory) (r : Walked) (m' : Memory) (w : TagWalks sw T s left d loop (get_or s at 0) σ z m r m') (c : Tree) where
    as-tree : (a b : Tree) → a ≡ b → BlocksWalk sw T b d loop σ z m r m' next → BlocksWalk sw T a d loop σ z m r m' next
    as-tree a b e h = subst (λ (y : Tree). BlocksWalk sw T y d loop σ z m r m' next) (sym e) h

    of-if : get_or s at 0 ≡ 7 → BlocksWalk sw T (before x c) d loop σ z m r m' next
    of-if k =
        let i = if-at k in
        let g = i.0 in
        let body : block_at t s left z.at ≡ ok g.b g.q = subst (λ (j : ℕ). block_at t s left j ≡ ok g.b g.q) i.1 g.body in
        go (w.ifs k) g body (get_or s g.q 0) refl
      where
        go : IfWalks sw T s left d loop σ z m r m' → (g : Branched (block_at t s left) t s at x next) → block_at t s left z.at ≡ ok g.b g.q → (k : ℕ) → get_or s g.q 0 ≡ k
            → BlocksWalk sw T (before x c) d loop σ z m r m' next
        go f g body zero h =
            as-tree _ _ ((g.without h).1 c)
            (subst (λ (n : ℕ). BlocksWalk sw T (if_then (four s (at + 1)) g.e g.b.span g.b.code c) d loop σ z m r m' n) (sym (g.without h).0)
            (f.without t deep g.b g.q body h (four s (at + 1)) g.e c))
        go f g body (suc k) h =
            let o = g.with (omega arith) in
            let one : get_or s g.q 0 ≡ 1 = let l = g.flag in omega arith in
            as-tree _ _ (o.2 c) (f.with t deep g.b g.q body one o.0 next o.1 (four s (at + 1)) g.e c)

    pub tag_walks : blocked (get_or s at 0) ≡ true → BlocksWalk sw T (before x c) d loop σ z m r m' next
    tag_walks has = go (eqb (get_or s at 0) 1) (eqb (get_or s at 0) 7) (eqb (get_or s at 0) 8) refl refl refl has
      where
        go : (a b e : Bool) → eqb (get_or s at 0) 1 ≡ a → eqb (get_or s at 0) 7 ≡ b → eqb (get_or s at 0) 8 ≡ e → (a || (b || e)) ≡ true → BlocksWalk sw T (before x c) d loop σ z m r m' next
        go true b e ea eb ee h =
            let k : get_or s at 0 ≡ 1 = eqb-true _ _ ea in
            let g = block-at k in
            as-tree _ _ (g.2 c) (block-blocks sw T s small t left d loop σ z m g.0 r m' next ((w.others (λ u. absurd (omega arith)) (λ u. absurd (omega arith))).walks t deep g.0 next g.1) c)
        go false true e ea eb ee h = of-if (eqb-true _ _ eb)
        go false false true ea eb ee h =
            let k : get_or s at 0 ≡ 8 = eqb-true _ _ ee in
            let g = loop-at k in
            as-tree _ _ (g.3 c) ((w.loops k).walks t deep g.0 next g.2 (four s (at + 1)) g.1 c)
        go false false false ea eb ee h = false-true h

  -- a statement of another tag has none
  pub no_blocks : blocked (get_or s at 0) ≡ false → (c : Tree) → blockless (before x c) ≡ true
  no_blocks has c =
      let k : x.front.head.tag ≡ get_or s at 0 = (front-values (block_at t s left) t s at x next read).tag in
      let n1 = or_left (eqb (get_or s at 0) 1) _ has in
      let n78 = or_right (eqb (get_or s at 0) 1) _ has in
      let n7 = or_left (eqb (get_or s at 0) 7) _ n78 in
      let n8 = or_right (eqb (get_or s at 0) 7) _ n78 in
      blockless-before x c (λ e. eqb-false _ _ n1 (sym k ∙ e)) (λ e. eqb-false _ _ n7 (sym k ∙ e)) (λ e. eqb-false _ _ n8 (sym k ∙ e))
