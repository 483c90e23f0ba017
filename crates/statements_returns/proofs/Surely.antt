-- What surely returns, statement by statement: of a list, of each tag, and what the two functions know while they walk.
-- Assumes nothing.
use mathlib.Core.Path.{◌≡◌, refl, sym, ap, ap₂, ◌∙◌, subst}
use mathlib.Core.List.{List, [], ◌∷◌}
use mathlib.Core.Bool.{Bool, true, false, cond, ◌&&◌, ◌||◌}
use mathlib.Core.Logic.{⊎_elim}
use Prim.Native.Nat.{ℕ, ◌+◌, ◌-◌, ◌≤◌, ◌<◌}
use native.Mathlib.Omega.{arith}
use native.Mathlib.Nat.{sub-zero}
use borrow.Author.Tests.{ne_eqb}
use lib.ListN.{length, get_or}
use lib.Dec.{eqb, T, eqb→eq}
use Rattle.image_fields.specs.Parsed.{Parsed, ok}
use Rattle.image_fields.specs.Number.{two, field_at}
use Rattle.image_fields.specs.Table.{many_of}
use Rattle.image_fields.proofs.Rules.{at}
use Rattle.image_fields.proofs.Tests.{less}
use Rattle.image_body.specs.Expr.{Expr, Exprs, Scope, none, more}
use Rattle.image_body.specs.Depth.{WalkableAll}
use Rattle.image_body.specs.Stmt.{Tree, Block, StmtHead, Stmt, done, block_count, else_flag, stmt_in, first_value, first_block, before_return, before_if, before_of, before, block_at, stmts_at}
use Rattle.image_body.proofs.Shallow.{walkable-all}
use Rattle.image_body.proofs.Statements.{many-none, many-one, one_byte, no_block, one_block, stmts-none, stmts-more, block-parts}
use Rattle.rules.specs.Rules.{sure_from}
use Rattle.statements_returns.specs.declared.Front.{Front}
use Rattle.statements_returns.specs.declared.Sure.{Sure}
use Rattle.statements_returns.specs.Front.{front_at}
use Rattle.statements_returns.specs.Returns.{StmtThere, BlockThere, BranchesThere, StmtSure, BlockSure, BranchesSure}
use Rattle.statements_returns.proofs.Fronts.{front-values, Blocks, Skips, passed}

-- a statement's answer is that of the list it stands in alone
module _ (c : Tree) (b : Bool) where
  same-choice : (k : Bool) (u u' v v' : Tree) → sure_from u b ≡ sure_from c (sure_from u' false) → sure_from v b ≡ sure_from c (sure_from v' false)
      → sure_from (cond k u v) b ≡ sure_from c (sure_from (cond k u' v') false)
  same-choice true u u' v v' p q = p
  same-choice false u u' v v' p q = q

  sure-return : (es : Exprs) (i l : ℕ) → sure_from (before_return es i l c) b ≡ sure_from c (sure_from (before_return es i l (done tt)) false)
  sure-return none i l = refl
  sure-return (more e es) i l = refl

  sure-if : (cs : List Block) (i : ℕ) (e : Expr) (d : Block) → sure_from (before_if cs i e d c) b ≡ sure_from c (sure_from (before_if cs i e d (done tt)) false)
  sure-if [] i e d = refl
  sure-if (y ∷ ys) i e d = refl

  sure-of : (tag : ℕ) (h : StmtHead) (es : Exprs) (l : ℕ) (bs cs : List Block)
      → sure_from (before_of tag h es l bs cs c) b ≡ sure_from c (sure_from (before_of tag h es l bs cs (done tt)) false)
  unfolding before_of
  sure-of tag h es l bs cs =
      same-choice (eqb tag 1) _ _ _ _ refl
      (same-choice (eqb tag 2) _ _ _ _ (sure-return es h.span l)
      (same-choice (eqb tag 3) _ _ _ _ refl
      (same-choice (eqb tag 4) _ _ _ _ refl
      (same-choice (eqb tag 5) _ _ _ _ refl
      (same-choice (eqb tag 6) _ _ _ _ refl
      (same-choice (eqb tag 7) _ _ _ _ (sure-if cs h.span (first_value es) (first_block bs))
      (same-choice (eqb tag 8) _ _ _ _ refl
      (same-choice (eqb tag 9) _ _ _ _ refl refl))))))))

  pub sure-before : (x : Stmt) → sure_from (before x c) b ≡ sure_from c (sure_from (before x (done tt)) false)
  sure-before x = sure-of _ _ _ _ _ _

-- of a statement without blocks: whether it is a Return
not-sure : (k : Bool) (u v : Tree) → sure_from u false ≡ false → sure_from v false ≡ false → sure_from (cond k u v) false ≡ false
not-sure true u v p q = p
not-sure false u v p q = q

return-sure : (es : Exprs) (i l : ℕ) → sure_from (before_return es i l (done tt)) false ≡ true
return-sure none i l = refl
return-sure (more e es) i l = refl

choice : (k : Bool) (u v : Tree) → sure_from u false ≡ true → sure_from v false ≡ false → sure_from (cond k u v) false ≡ k
choice true u v p q = p
choice false u v p q = q

leaf-sure : (tag : ℕ) (h : StmtHead) (es : Exprs) (l : ℕ) (bs cs : List Block) → eqb tag 1 ≡ false → eqb tag 7 ≡ false → eqb tag 8 ≡ false
    → sure_from (before_of tag h es l bs cs (done tt)) false ≡ eqb tag 2
unfolding before_of
leaf-sure tag h es l bs cs e1 e7 e8 =
    simp (e1, e7, e8)
    (choice (eqb tag 2) _ _ (return-sure es h.span l)
    (not-sure (eqb tag 3) _ _ refl
    (not-sure (eqb tag 4) _ _ refl
    (not-sure (eqb tag 5) _ _ refl
    (not-sure (eqb tag 6) _ _ refl
    (not-sure (eqb tag 9) _ _ refl refl))))))

-- a statement without blocks ends where they would begin
bare : ℕ → ℕ → Bool
bare k x = eqb k 1 || (eqb k 7 || (eqb k 8 || eqb x 0))

bare-blocks : (k : ℕ) → k < 11 → eqb k 1 ≡ false → eqb k 7 ≡ false → eqb k 8 ≡ false → get_or block_count k 0 ≡ 0
unfolding bare block_count
bare-blocks k lt e1 e7 e8 =
    let a : T (eqb k 1 || (eqb k 7 || (eqb k 8 || eqb (get_or block_count k 0) 0))) = at bare block_count tt k lt in
    eqb→eq _ _ (subst (λ y. T (y || eqb (get_or block_count k 0) 0)) e8 (subst (λ y. T (y || (eqb k 8 || eqb (get_or block_count k 0) 0))) e7
    (subst (λ y. T (y || (eqb k 7 || (eqb k 8 || eqb (get_or block_count k 0) 0)))) e1 a)))

bare-else : (k : ℕ) → k < 11 → eqb k 1 ≡ false → eqb k 7 ≡ false → eqb k 8 ≡ false → get_or else_flag k 0 ≡ 0
unfolding bare else_flag
bare-else k lt e1 e7 e8 =
    let a : T (eqb k 1 || (eqb k 7 || (eqb k 8 || eqb (get_or else_flag k 0) 0))) = at bare else_flag tt k lt in
    eqb→eq _ _ (subst (λ y. T (y || eqb (get_or else_flag k 0) 0)) e8 (subst (λ y. T (y || (eqb k 8 || eqb (get_or else_flag k 0) 0))) e7
    (subst (λ y. T (y || (eqb k 7 || (eqb k 8 || eqb (get_or else_flag k 0) 0)))) e1 a)))

-- of an IfElse with two blocks
two-sure : (i : ℕ) (e : Expr) {bs cs : List Block} {b d : Block} → bs ≡ b ∷ [] → cs ≡ d ∷ []
    → sure_from (before_if cs i e (first_block bs) (done tt)) false ≡ (sure_from b.code false && sure_from d.code false)
two-sure i e p q = ap₂ (λ ys zs. sure_from (before_if zs i e (first_block ys) (done tt)) false) p q

-- the blocks of an IfElse at p
pub record Branches (f : ℕ → Parsed Block) (s : List ℕ) (x : Stmt) (n p : ℕ) : Type 0 where
  pub b : Block
  pub flag : ℕ
  pub body : f p ≡ ok b flag
  pub end : flag + 1 ≤ length s
  pub without : get_or s flag 0 ≡ 0 → (n ≡ flag + 1) × (sure_from (before x (done tt)) false ≡ false)
  pub with : 0 < get_or s flag 0
      → (d : Block) × (f (flag + 1) ≡ ok d n) × (sure_from (before x (done tt)) false ≡ (sure_from b.code false && sure_from d.code false))

module _ (f : ℕ → Parsed Block) (s : List ℕ) (x : Stmt) (n p k : ℕ) (g : Blocks f s x n p k) where
  of-tag : (m : ℕ) → k ≡ m → Blocks f s x n p m
  of-tag m e = subst (Blocks f s x n p) e g

  pub its-block : k ≡ 1 → (b : Block) × (f p ≡ ok b n) × (sure_from (before x (done tt)) false ≡ sure_from b.code false)
  unfolding block_count else_flag before_of
  its-block e =
      let h = of-tag 1 e in
      let b = one_block f s _ h.other h.others h.blocks in
      (b.0, b.1, simp h.tag (ap (λ y. sure_from (first_block y).code false) b.2))

  pub its-turn : k ≡ 8 → (b : Block) × (f p ≡ ok b n) × (sure_from (before x (done tt)) false ≡ false)
  unfolding block_count else_flag before_of
  its-turn e =
      let h = of-tag 8 e in
      let b = one_block f s _ h.other h.others h.blocks in
      (b.0, b.1, simp h.tag)

  pub its-branches : k ≡ 7 → Branches f s x n p
  unfolding block_count else_flag before_of
  its-branches e =
      let h = of-tag 7 e in
      let b = many-one [] ◌∷◌ f _ _ refl h.blocks in
      let z = one_byte _ _ _ _ h.other in
      record {
        b = b.0;
        flag = h.u;
        body = b.1;
        end = subst (λ i. i ≤ length s) z.1 z.2;
        without = λ y.
            let o = many-none [] ◌∷◌ f _ _ (z.0 ∙ y) h.others in
            (o.1 ∙ z.1, simp (h.tag, b.2, o.0));
        with = λ y.
            let w1 : h.w ≡ 1 = omega (arith, z.0, z.3, y) in
            let o = many-one [] ◌∷◌ f _ _ w1 h.others in
            (o.0, ap f (sym z.1) ∙ o.1, simp h.tag (two-sure _ _ b.2 o.2));
      }

  pub its-end : eqb k 1 ≡ false → eqb k 7 ≡ false → eqb k 8 ≡ false → (n ≡ p) × (sure_from (before x (done tt)) false ≡ eqb k 2)
  its-end e1 e7 e8 =
      let eb = bare-blocks k g.high e1 e7 e8 in
      let ee = bare-else k g.high e1 e7 e8 in (
        no_block f s p (subst (λ y. field_at 8 2 y s g.u ≡ ok g.w g.v) ee g.other) g.others
            (subst (λ y. many_of [] ◌∷◌ f y p ≡ ok x.blocks g.u) eb g.blocks),
        subst (λ y. sure_from (before_of y x.front.head x.front.values x.front.last x.blocks x.others (done tt)) false ≡ eqb k 2) (sym g.tag)
            (leaf-sure k x.front.head x.front.values x.front.last x.blocks x.others e1 e7 e8),
      )

-- the statements left of a block give what all of them give
pub record Rest (s : List ℕ) (left at n p : ℕ) (returns : Bool) : Type 0 where
  pub going : (t : Scope) → t.expr_depth ≡ 24 → (b : Block) (next : ℕ) → block_at t s left at ≡ ok b next
      → (c : Tree) × (stmts_at t s (left - 1) n p ≡ ok c next) × (sure_from b.code false ≡ sure_from c returns)

module _ (s : List ℕ) (left at : ℕ) where
  pub rest-start : {n : ℕ} → n ≡ two s (at + 4) → Rest s left at (n - 0) (at + 6) false
  rest-start {n} e = record {
    going = λ t deep b next read.
        let g = block-parts t s left at b next read in
        (b.code, subst (λ y. stmts_at t s (left - 1) y (at + 6) ≡ ok b.code next) (sym (sub-zero n ∙ e)) g.stmts, refl);
  }

  module _ (n p : ℕ) (returns : Bool) (h : Rest s left at n p returns) where
    -- the next statement stands there
    pub rest-there : 0 < n → BlockThere s left at → StmtThere s (left - 1) p
    rest-there lt b =
        let g = h.going b.t b.deep b.b b.next b.read in
        let m = stmts-more (block_at b.t s (left - 1)) b.t s n p lt g.1 in
        record { t = b.t; deep = b.deep; x = m.0; next = m.1; read = m.3 }

    pub rest-next : 0 < n → {k : ℕ} → k ≡ n - 1 → (r : Sure) → StmtSure s (left - 1) p r → Rest s left at k r.at r.returns
    rest-next lt {k} ek r sure = record {
      going = λ t deep b next read.
          let g = h.going t deep b next read in
          let m = stmts-more (block_at t s (left - 1)) t s n p lt g.1 in
          let a = sure.is t deep m.0 m.1 m.3 in (
            m.2,
            subst (λ y. stmts_at t s (left - 1) k y ≡ ok m.2 next) (sym a.1) (subst (λ j. stmts_at t s (left - 1) j m.1 ≡ ok m.2 next) (sym ek) m.4),
            g.2 ∙ ap (λ c. sure_from c returns) m.5 ∙ sure-before m.2 returns m.0 ∙ ap (sure_from m.2) (sym a.0),
          );
    }

    pub rest-done : n ≤ 0 → (r : Sure) → r.returns ≡ returns → r.at ≡ p → BlockSure s left at r
    rest-done le r er ep = record {
      is = λ t deep b next read.
          let g = h.going t deep b next read in
          let z = stmts-none (block_at t s (left - 1)) t s n p (omega arith) g.1 in
          (er ∙ sym (g.2 ∙ ap (λ c. sure_from c returns) z.0), ep ∙ sym z.1);
    }

-- a block stands there: depth is left, and its head is in the bytes
pub block-there : (s : List ℕ) (left at : ℕ) → BlockThere s left at → (0 < left) × (at + 6 ≤ length s)
block-there s left at b = let g = block-parts b.t s left at b.b b.next b.read in (g.left, g.room)

-- a statement stands there: its tag, and its values
pub stmt-there : (s : List ℕ) (left at : ℕ) → StmtThere s left at → (at < length s) × (get_or s at 0 < 11)
stmt-there s left at h = let g = front-values (block_at h.t s left) h.t s at h.x h.next h.read in (g.inside, g.high)

pub values-there : (s : List ℕ) (left at : ℕ) → StmtThere s left at → (h : Front) (w : ℕ) → h ≡ front_at s at → w ≡ h.values → WalkableAll s 24 w h.first
values-there s left at x h w eh ew =
    let g = front-values (block_at x.t s left) x.t s at x.x x.next x.read in
    let a = walkable-all x.t s x.t.expr_depth _ _ _ _ g.values in
    let b : WalkableAll s 24 (front_at s at).values (front_at s at).first = subst (λ d. WalkableAll s d (front_at s at).values (front_at s at).first) x.deep a in
    subst (λ y. WalkableAll s 24 y h.first) (sym ew) (subst (λ y. WalkableAll s 24 y.values y.first) (sym eh) b)

-- the values were passed: what stands behind them, and what the statement gives
module _ (s : List ℕ) (left at : ℕ) (h : Front) (w r : ℕ) (eh : h ≡ front_at s at) (ew : w ≡ h.values) (skip : Skips s w h.first r) where
  after : (t : Scope) (x : Stmt) (next : ℕ) → stmt_in t s left at ≡ ok x next → Blocks (block_at t s left) s x next (r + h.last) h.tag
  after t x next e = passed (block_at t s left) t s at x next e h w r eh ew skip

  pub in_bytes : StmtThere s left at → r + h.last ≤ length s
  in_bytes x = (after x.t x.x x.next x.read).inside

  pub block-after : StmtThere s left at → h.tag ≡ 1 → BlockThere s left (r + h.last)
  block-after x k =
      let g = its-block _ s x.x x.next _ _ (after x.t x.x x.next x.read) k in
      record { t = x.t; deep = x.deep; b = g.0; next = x.next; read = g.1 }

  pub turn-after : StmtThere s left at → h.tag ≡ 8 → BlockThere s left (r + h.last)
  turn-after x k =
      let g = its-turn _ s x.x x.next _ _ (after x.t x.x x.next x.read) k in
      record { t = x.t; deep = x.deep; b = g.0; next = x.next; read = g.1 }

  pub branches-after : StmtThere s left at → h.tag ≡ 7 → BranchesThere s left (r + h.last)
  branches-after x k =
      let g = its-branches _ s x.x x.next _ _ (after x.t x.x x.next x.read) k in
      record {
        t = x.t;
        deep = x.deep;
        b = g.b;
        flag = g.flag;
        body = g.body;
        end = g.end;
        other = λ y. let o = g.with y in (o.0, x.next, o.1);
      }

  pub is_block : h.tag ≡ 1 → (a : Sure) → BlockSure s left (r + h.last) a → StmtSure s left at a
  is_block k a sure = record {
    is = λ t deep x next read.
        let g = its-block _ s x next _ _ (after t x next read) k in
        let y = sure.is t deep g.0 next g.1 in
        (y.0 ∙ sym g.2, y.1);
  }

  pub is-turn : h.tag ≡ 8 → (a : Sure) → BlockSure s left (r + h.last) a → StmtSure s left at (record { returns = false; at = a.at })
  is-turn k a sure = record {
    is = λ t deep x next read.
        let g = its-turn _ s x next _ _ (after t x next read) k in
        (sym g.2, (sure.is t deep g.0 next g.1).1);
  }

  pub is-branches : h.tag ≡ 7 → (a : Sure) → BranchesSure s left (r + h.last) a → StmtSure s left at a
  is-branches k a sure = record {
    is = λ t deep x next read.
        let g = its-branches _ s x next _ _ (after t x next read) k in
        ⊎_elim
        (λ lt. let o = g.with lt in
        let y = sure.with t deep g.b g.flag g.body lt o.0 next o.1 in
        (y.0 ∙ sym o.2, y.1))
        (λ le. let z : get_or s g.flag 0 ≡ 0 = omega arith in
        let o = g.without z in
        let y = sure.without t deep g.b g.flag g.body z in
        (y.0 ∙ sym o.1, y.1 ∙ sym o.0))
        (less 0 (get_or s g.flag 0));
  }

  pub is-end : (h.tag ≡ 1 → ⊥) → (h.tag ≡ 7 → ⊥) → (h.tag ≡ 8 → ⊥) → (b : Bool) → b ≡ eqb h.tag 2
      → StmtSure s left at (record { returns = b; at = r + h.last })
  is-end n1 n7 n8 b eb = record {
    is = λ t deep x next read.
        let g = its-end _ s x next _ _ (after t x next read) (ne_eqb _ _ n1) (ne_eqb _ _ n7) (ne_eqb _ _ n8) in
        (eb ∙ sym g.1, sym g.0);
  }

-- a byte that is not 0
pub some_byte : {m k : ℕ} → m ≡ k → (m ≡ 0 → ⊥) → 0 < k
some_byte {m} {k} e n = ⊎_elim (λ lt. lt) (λ le. let z : m ≡ 0 = omega arith in absurd (n z)) (less 0 k)

-- the blocks of an IfElse: the first, and the other where the byte after it says so
module _ (s : List ℕ) (left at : ℕ) where
  module _ (a : Sure) (sure : BlockSure s left at a) where
    pub then-only : get_or s a.at 0 ≡ 0 → BranchesSure s left at (record { returns = false; at = a.at + 1 })
    then-only z = record {
      without = λ t deep b flag body y. (refl, ap (λ p. p + 1) (sure.is t deep b flag body).1);
      with = λ t deep b flag body lt d next other.
          let e : a.at ≡ flag = (sure.is t deep b flag body).1 in
          let y : get_or s flag 0 ≡ 0 = subst (λ p. get_or s p 0 ≡ 0) e z in
          absurd (omega arith);
    }

    pub then-other : 0 < get_or s a.at 0 → (c : Sure) → BlockSure s left (a.at + 1) c → (b : Bool) → b ≡ (a.returns && c.returns)
        → BranchesSure s left at (record { returns = b; at = c.at })
    then-other lt c also b eb = record {
      without = λ t deep b flag body z.
          let e : a.at ≡ flag = (sure.is t deep b flag body).1 in
          let y : 0 < get_or s flag 0 = subst (λ p. 0 < get_or s p 0) e lt in
          absurd (omega arith);
      with = λ t deep b flag body y d next other.
          let g = sure.is t deep b flag body in
          let k = also.is t deep d next (subst (λ p. block_at t s left (p + 1) ≡ ok d next) (sym g.1) other) in
          (eb ∙ ap₂ ◌&&◌ g.0 k.0, k.1);
    }
