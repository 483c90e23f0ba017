-- What the bytes say where a statement or a block was read: its tree, and where its values and blocks were read.
-- Assumes nothing.
use mathlib.Core.Path.{◌≡◌, refl, sym, ap, ◌∙◌, subst}
use mathlib.Core.List.{List, [], ◌∷◌}
use mathlib.Core.Bool.{Bool, true, false, cond, ◌&&◌, ◌||◌}
use Prim.Native.Nat.{ℕ, zero, suc, ◌+◌, ◌-◌, ◌≤◌, ◌<◌}
use native.Mathlib.Omega.{arith}
use borrow.Author.Tests.{leb-true, ltb-true}
use lib.ListN.{length, get_or}
use lib.Dec.{eqb, ltb, T, ltb→lt, eqb-suc-zero}
use Rattle.image_fields.specs.Parsed.{Parsed, ok}
use Rattle.image_fields.specs.Number.{two, four, field_at}
use Rattle.image_fields.specs.Table.{many_of}
use Rattle.image_fields.proofs.Tests.{and-true}
use Rattle.image_fields.proofs.Inverse.{impossible, bound, ensure-ok}
use Rattle.image_fields.proofs.Numbers.{field-ok, field_end}
use Rattle.image_fields.proofs.Rules.{at}
use Rattle.image_body.specs.Expr.{Expr, Exprs, Scope, none, more, expr_at, exprs_at}
use Rattle.image_body.specs.Stmt.{Code, Tree, Block, StmtHead, Stmt, done, expr_stmt, variable, assign, return, bare_return, block, if_else, if_then, while, jump, head_bytes, value_flag, value_count, type_width, block_count, else_flag, binds_ok, stmt_head_at, stmt_at, first_value, first_block, before_return, before_if, before_of, before, stmts_by, block_at, stmts_at}
use Rattle.image_body.proofs.StmtRead.{stmt-read}
use Rattle.image_body.proofs.Standing.{stand-all, end-all, order-all}

-- so many of a kind, as many as the count says
module _ {A L : Type 0} (nil : L) (cons : A → L → L) (f : ℕ → Parsed A) where
  pub many-none : (k at : ℕ) {xs : L} {n : ℕ} → k ≡ 0 → many_of nil cons f k at ≡ ok xs n → (xs ≡ nil) × (n ≡ at)
  unfolding many_of
  many-none zero at z e = (cc, cc)
  many-none (suc k) at z e = absurd (omega arith)

  pub many_more : (k at : ℕ) {xs : L} {n : ℕ} → 0 < k → many_of nil cons f k at ≡ ok xs n
      → (x : A) × (p : ℕ) × (ys : L) × (f at ≡ ok x p) × (many_of nil cons f (k - 1) p ≡ ok ys n) × (xs ≡ cons x ys)
  unfolding many_of
  many_more zero at lt e = absurd (omega arith)
  many_more (suc k) at {xs} {n} lt e =
      bound e (λ x p e1 e2. bound e2 (λ ys q e3 e4.
      let g : suc k - 1 ≡ k = omega arith in
      let a : xs ≡ cons x ys = cc in
      let b : q ≡ n = cc in
      (x, p, ys, e1, rw g (e3 ∙ ap (ok ys) b), a)))

  pub many-one : (k at : ℕ) {xs : L} {n : ℕ} → k ≡ 1 → many_of nil cons f k at ≡ ok xs n → (x : A) × (f at ≡ ok x n) × (xs ≡ cons x nil)
  many-one k at o e =
      let g = many_more k at (omega arith) e in
      let z = many-none (k - 1) g.1 (omega arith) g.4 in
      (g.0, g.3 ∙ ap (ok g.0) (sym z.1), g.5 ∙ ap (cons g.0) z.0)

  pub many-two : (k at : ℕ) {xs : L} {n : ℕ} → k ≡ 2 → many_of nil cons f k at ≡ ok xs n
      → (x : A) × (p : ℕ) × (y : A) × (f at ≡ ok x p) × (f p ≡ ok y n) × (xs ≡ cons x (cons y nil))
  many-two k at o e =
      let g = many_more k at (omega arith) e in
      let z = many-one (k - 1) g.1 (omega arith) g.4 in
      (g.0, g.1, z.0, g.3, z.1, g.5 ∙ ap (cons g.0) z.2)

-- a number in no bytes, one or two
module _ (fault limit : ℕ) (s : List ℕ) (p : ℕ) {m q : ℕ} where
  pub no_number : field_at fault limit 0 s p ≡ ok m q → (m ≡ 0) × (q ≡ p)
  no_number e = let g = field-ok e in let z : q ≡ p + 0 = g.end in (g.is, omega arith)

  pub one_byte : field_at fault limit 1 s p ≡ ok m q → (m ≡ get_or s p 0) × (q ≡ p + 1) × (q ≤ length s) × (get_or s p 0 < limit)
  one_byte e =
      let g = field-ok e in
      let z : q ≡ p + 1 = g.end in
      let l : 1 ≤ length s - p = g.fits in
      (g.is, z, omega arith, subst (λ y. y < limit) g.is g.small)

  two_bytes : field_at fault limit 2 s p ≡ ok m q → (m ≡ two s p) × (q ≡ p + 2) × (q ≤ length s) × (two s p < limit)
  two_bytes e =
      let g = field-ok e in
      let z : q ≡ p + 2 = g.end in
      let l : 2 ≤ length s - p = g.fits in
      (g.is, z, omega arith, subst (λ y. y < limit) g.is g.small)

-- no flag, and one value or two
module _ (t : Scope) (s : List ℕ) (d p : ℕ) {m q : ℕ} {es : Exprs} {r : ℕ} (e1 : field_at 8 2 0 s p ≡ ok m q) where
  no-values : exprs_at t s d (0 + m) q ≡ ok es r → r ≡ p
  no-values e2 = let g = no_number _ _ _ _ e1 in (many-none none more _ (0 + m) q (omega arith) e2).1 ∙ g.1

  one_value : exprs_at t s d (1 + m) q ≡ ok es r → (e : Expr) × (expr_at t s d p ≡ ok e r) × (es ≡ more e none)
  one_value e2 =
      let g = no_number _ _ _ _ e1 in
      let v = many-one none more _ (1 + m) q (omega arith) e2 in
      (v.0, ap (expr_at t s d) (sym g.1) ∙ v.1, v.2)

  two-values : exprs_at t s d (2 + m) q ≡ ok es r
      → (a : Expr) × (u : ℕ) × (b : Expr) × (expr_at t s d p ≡ ok a u) × (expr_at t s d u ≡ ok b r) × (es ≡ more a (more b none))
  two-values e2 =
      let g = no_number _ _ _ _ e1 in
      let v = many-two none more _ (2 + m) q (omega arith) e2 in
      (v.0, v.1, v.2, ap (expr_at t s d) (sym g.1) ∙ v.3, v.4, v.5)

-- no block, or one, and no flag after it
module _ (f : ℕ → Parsed Block) (s : List ℕ) (r : ℕ) {u w v n : ℕ} {bs cs : List Block} (e2 : field_at 8 2 0 s u ≡ ok w v) (e3 : many_of [] ◌∷◌ f w v ≡ ok cs n) where
  pub no_block : many_of [] ◌∷◌ f 0 r ≡ ok bs u → n ≡ r
  no_block e1 =
      let g = no_number _ _ _ _ e2 in
      let a : n ≡ v = (many-none [] ◌∷◌ f w v g.0 e3).1 in
      let b : u ≡ r = (many-none [] ◌∷◌ f 0 r refl e1).1 in
      a ∙ g.1 ∙ b

  pub one_block : many_of [] ◌∷◌ f 1 r ≡ ok bs u → (b : Block) × (f r ≡ ok b n) × (bs ≡ b ∷ [])
  one_block e1 =
      let g = no_number _ _ _ _ e2 in
      let a : n ≡ v = (many-none [] ◌∷◌ f w v g.0 e3).1 in
      let b = many-one [] ◌∷◌ f 1 r refl e1 in
      (b.0, b.1 ∙ ap (ok b.0) (sym (a ∙ g.1)), b.2)

-- the steps of a statement of tag k
pub record Parts (f : ℕ → Parsed Block) (t : Scope) (s : List ℕ) (at : ℕ) (x : Stmt) (n k : ℕ) : Type 0 where
  pub tag : x.front.head.tag ≡ k
  pub low : 0 < k
  pub high : k < 11
  pub fits : get_or head_bytes k 0 ≤ length s - at
  pub binds : binds_ok t.names t.types (get_or head_bytes k 0) s at ≡ true
  pub span : x.front.head.span ≡ cond (eqb k 1) 0 (four s (at + 1))
  pub name : x.front.head.name ≡ cond (eqb (get_or head_bytes k 0) 9) (two s (at + 5)) 0
  pub ty : x.front.head.ty ≡ cond (eqb (get_or head_bytes k 0) 9) (two s (at + 7)) 0
  pub m : ℕ
  pub p : ℕ
  pub q : ℕ
  pub r : ℕ
  pub u : ℕ
  pub w : ℕ
  pub v : ℕ
  pub flag : field_at 8 2 (get_or value_flag k 0) s (at + get_or head_bytes k 0) ≡ ok m p
  pub values : exprs_at t s t.expr_depth (get_or value_count k 0 + m) p ≡ ok x.front.values q
  pub type : field_at 8 t.types (get_or type_width k 0) s q ≡ ok x.front.last r
  pub blocks : many_of [] ◌∷◌ f (get_or block_count k 0) r ≡ ok x.blocks u
  pub other : field_at 8 2 (get_or else_flag k 0) s u ≡ ok w v
  pub others : many_of [] ◌∷◌ f w v ≡ ok x.others n

record HeadParts (t : Scope) (s : List ℕ) (at : ℕ) (h : StmtHead) (q : ℕ) : Type 0 where
  tag : get_or s at 0 ≡ h.tag
  low : 0 < h.tag
  high : h.tag < 11
  fits : get_or head_bytes h.tag 0 ≤ length s - at
  binds : binds_ok t.names t.types (get_or head_bytes h.tag 0) s at ≡ true
  span : h.span ≡ cond (eqb h.tag 1) 0 (four s (at + 1))
  name : h.name ≡ cond (eqb (get_or head_bytes h.tag 0) 9) (two s (at + 5)) 0
  ty : h.ty ≡ cond (eqb (get_or head_bytes h.tag 0) 9) (two s (at + 7)) 0
  end : q ≡ at + get_or head_bytes h.tag 0

head-parts : (t : Scope) (s : List ℕ) (at : ℕ) (h : StmtHead) (q : ℕ) → stmt_head_at t.names t.types s at ≡ ok h q → HeadParts t s at h q
unfolding stmt_head_at
head-parts t s at h q e =
    let (t1, e1) = ensure-ok _ e in
    let (t2, e2) = ensure-ok _ e1 in
    let (t3, e3) = ensure-ok _ e2 in
    let (t4, e4) = ensure-ok _ e3 in
    let low : 0 < get_or s at 0 = ltb-true _ _ t1 in
    let high : get_or s at 0 < 11 = ltb-true _ _ t2 in
    let k : get_or s at 0 ≡ h.tag = cc in
    record {
      tag = k;
      low = omega arith;
      high = omega arith;
      fits = rw (← k) (leb-true _ _ t3);
      binds = rw (← k) t4;
      span = rw (← k) cc;
      name = rw (← k) cc;
      ty = rw (← k) cc;
      end = rw (← k) cc;
    }

module _ (f : ℕ → Parsed Block) (t : Scope) (s : List ℕ) where
  pub parts : (at : ℕ) (x : Stmt) (n : ℕ) → stmt_at f t s at ≡ ok x n → Parts f t s at x n (get_or s at 0)
  parts at x n e =
      let r = stmt-read f t s x at n e in
      let g = head-parts t s at x.front.head r.p1 r.head in
      subst (Parts f t s at x n) (sym g.tag) (record {
        tag = refl;
        low = g.low;
        high = g.high;
        fits = g.fits;
        binds = g.binds;
        span = g.span;
        name = g.name;
        ty = g.ty;
        m = r.flag;
        p = r.p2;
        q = r.p3;
        r = r.p4;
        u = r.p5;
        w = r.other;
        v = r.p6;
        flag = subst (λ y. field_at 8 2 (get_or value_flag x.front.head.tag 0) s y ≡ ok r.flag r.p2) g.end r.flagged;
        values = r.values;
        type = r.last;
        blocks = r.blocks;
        other = r.followed;
        others = r.others;
      })

  of-tag : (k at : ℕ) (x : Stmt) (n : ℕ) → get_or s at 0 ≡ k → stmt_at f t s at ≡ ok x n → Parts f t s at x n k
  of-tag k at x n ek e = subst (Parts f t s at x n) ek (parts at x n e)

-- Return: the byte after the span says whether there is a value
pub record Returned (t : Scope) (s : List ℕ) (at : ℕ) (x : Stmt) (n : ℕ) : Type 0 where
  pub room : at + 6 ≤ length s
  pub flag : get_or s (at + 5) 0 < 2
  pub bare : get_or s (at + 5) 0 ≡ 0
      → (n ≡ at + 8) × (n ≤ length s) × (two s (at + 6) < t.types) × ((c : Tree) → before x c ≡ bare_return (four s (at + 1)) (two s (at + 6)) tt c)
  pub value : 0 < get_or s (at + 5) 0
      → (e : Expr) × (q : ℕ) × (expr_at t s t.expr_depth (at + 6) ≡ ok e q) × (n ≡ q + 2) × (n ≤ length s) × (two s q < t.types)
      × ((c : Tree) → before x c ≡ return (four s (at + 1)) e (two s q) tt c)

-- Let, or Const if b: the value is the last of it
pub record Bound (t : Scope) (s : List ℕ) (at : ℕ) (x : Stmt) (n : ℕ) (b : Bool) : Type 0 where
  pub room : at + 9 ≤ length s
  pub name : two s (at + 5) < t.names
  pub ty : two s (at + 7) < t.types
  pub e : Expr
  pub value : expr_at t s t.expr_depth (at + 9) ≡ ok e n
  pub is : (c : Tree) → before x c ≡ variable b (four s (at + 1)) (two s (at + 5)) (two s (at + 7)) e c

-- Assign: destination, value, type
pub record Assigned (t : Scope) (s : List ℕ) (at : ℕ) (x : Stmt) (n : ℕ) : Type 0 where
  pub room : at + 5 ≤ length s
  pub d : Expr
  pub p : ℕ
  pub destination : expr_at t s t.expr_depth (at + 5) ≡ ok d p
  pub e : Expr
  pub q : ℕ
  pub value : expr_at t s t.expr_depth p ≡ ok e q
  pub next : n ≡ q + 2
  pub end : n ≤ length s
  pub ty : two s q < t.types
  pub is : (c : Tree) → before x c ≡ assign (four s (at + 1)) d e (two s q) tt c

-- IfElse: the byte after the first block says whether there is another
pub record Branched (f : ℕ → Parsed Block) (t : Scope) (s : List ℕ) (at : ℕ) (x : Stmt) (n : ℕ) : Type 0 where
  pub room : at + 5 ≤ length s
  pub e : Expr
  pub p : ℕ
  pub value : expr_at t s t.expr_depth (at + 5) ≡ ok e p
  pub b : Block
  pub q : ℕ
  pub body : f p ≡ ok b q
  pub end : q + 1 ≤ length s
  pub flag : get_or s q 0 < 2
  pub without : get_or s q 0 ≡ 0 → (n ≡ q + 1) × ((c : Tree) → before x c ≡ if_then (four s (at + 1)) e b.span b.code c)
  pub with : 0 < get_or s q 0
      → (d : Block) × (f (q + 1) ≡ ok d n) × ((c : Tree) → before x c ≡ if_else (four s (at + 1)) e b.span b.code d.span d.code c)

module _ (f : ℕ → Parsed Block) (t : Scope) (s : List ℕ) (at : ℕ) (x : Stmt) (n : ℕ) (e : stmt_at f t s at ≡ ok x n) where
  -- some tag stands there
  pub stmt-tag : (0 < get_or s at 0) × (get_or s at 0 < 11)
  stmt-tag = let g = parts f t s at x n e in (g.low, g.high)

  pub stmt-block : get_or s at 0 ≡ 1
      → (b : Block) × (at + 1 ≤ length s) × (f (at + 1) ≡ ok b n) × ((c : Tree) → before x c ≡ block b.span b.code c)
  unfolding head_bytes value_flag value_count type_width block_count else_flag before_of
  stmt-block k =
      let g = of-tag f t s 1 at x n k e in
      let er : g.r ≡ at + 1 = (no_number _ _ _ _ g.type).1 ∙ no-values t s _ _ g.flag g.values in
      let b = one_block f s _ g.other g.others g.blocks in
      let l : 1 ≤ length s - at = g.fits in
      (b.0, omega arith, ap f (sym er) ∙ b.1, λ c. simp (g.tag, b.2))

  pub stmt-return : get_or s at 0 ≡ 2 → Returned t s at x n
  unfolding head_bytes value_flag value_count type_width block_count else_flag before_of
  stmt-return k =
      let g = of-tag f t s 2 at x n k e in
      let a = one_byte _ _ _ _ g.flag in
      let ep : g.p ≡ at + 6 = a.1 ∙ omega arith in
      let y = two_bytes _ _ _ _ g.type in
      let en : n ≡ g.q + 2 = no_block f s _ g.other g.others g.blocks ∙ y.1 in
      let le : n ≤ length s = subst (λ z. z ≤ length s) (sym (no_block f s _ g.other g.others g.blocks)) y.2 in
      record {
        room = subst (λ z. z ≤ length s) ep a.2;
        flag = a.3;
        bare = λ z.
            let v = many-none none more _ _ _ (ap (λ i. 0 + i) (a.0 ∙ z)) g.values in
            let eq : g.q ≡ at + 6 = v.1 ∙ ep in
            (en ∙ omega arith, le, subst (λ i. two s i < t.types) eq y.3, λ c. simp (g.tag, v.0, g.span, y.0, eq));
        value = λ z.
            let m1 : 0 + g.m ≡ 1 = omega (arith, a.0, a.3, z) in
            let v = many-one none more _ _ _ m1 g.values in
            (v.0, g.q, ap (expr_at t s t.expr_depth) (sym ep) ∙ v.1, en, le, y.3, λ c. simp (g.tag, v.2, g.span, y.0));
      }

  pub stmt-expr : get_or s at 0 ≡ 3
      → (a : Expr) × (at + 5 ≤ length s) × (expr_at t s t.expr_depth (at + 5) ≡ ok a n) × ((c : Tree) → before x c ≡ expr_stmt (four s (at + 1)) a tt c)
  unfolding head_bytes value_flag value_count type_width block_count else_flag before_of
  stmt-expr k =
      let g = of-tag f t s 3 at x n k e in
      let v = one_value t s _ _ g.flag g.values in
      let en : n ≡ g.q = no_block f s _ g.other g.others g.blocks ∙ (no_number _ _ _ _ g.type).1 in
      let l : 5 ≤ length s - at = g.fits in
      (v.0, omega arith, v.1 ∙ ap (ok v.0) (sym en), λ c. simp (g.tag, v.2, g.span))

  -- a Let or Const, in variables
  bound_by : (b : Bool) {m p q r u w v l : ℕ} {es : Exprs} {bs cs : List Block} → 9 ≤ length s - at
      → (ltb (two s (at + 5)) t.names && ltb (two s (at + 7)) t.types) ≡ true → field_at 8 2 0 s (at + 9) ≡ ok m p
      → exprs_at t s t.expr_depth (1 + m) p ≡ ok es q → field_at 8 t.types 0 s q ≡ ok l r → many_of [] ◌∷◌ f 0 r ≡ ok bs u
      → field_at 8 2 0 s u ≡ ok w v → many_of [] ◌∷◌ f w v ≡ ok cs n
      → ((a : Expr) → es ≡ more a none → (c : Tree) → before x c ≡ variable b (four s (at + 1)) (two s (at + 5)) (two s (at + 7)) a c) → Bound t s at x n b
  bound_by b l j e1 e2 e3 e4 e5 e6 is =
      let y = one_value t s _ _ e1 e2 in
      let z = and-true (ltb (two s (at + 5)) t.names) (ltb (two s (at + 7)) t.types) j in
      record {
        room = omega arith;
        name = ltb-true _ _ z.0;
        ty = ltb-true _ _ z.1;
        e = y.0;
        value = y.1 ∙ ap (ok y.0) (sym (no_block f s _ e5 e6 e4 ∙ (no_number _ _ _ _ e3).1));
        is = is y.0 y.2;
      }

  pub stmt-let : get_or s at 0 ≡ 4 → Bound t s at x n false
  unfolding head_bytes value_flag value_count type_width block_count else_flag before_of
  stmt-let k =
      let g = of-tag f t s 4 at x n k e in
      bound_by false g.fits g.binds g.flag g.values g.type g.blocks g.other g.others (λ a v c. simp (g.tag, v, g.span, g.name, g.ty))

  pub stmt-const : get_or s at 0 ≡ 5 → Bound t s at x n true
  unfolding head_bytes value_flag value_count type_width block_count else_flag before_of
  stmt-const k =
      let g = of-tag f t s 5 at x n k e in
      bound_by true g.fits g.binds g.flag g.values g.type g.blocks g.other g.others (λ a v c. simp (g.tag, v, g.span, g.name, g.ty))

  pub stmt-assign : get_or s at 0 ≡ 6 → Assigned t s at x n
  unfolding head_bytes value_flag value_count type_width block_count else_flag before_of
  stmt-assign k =
      let g = of-tag f t s 6 at x n k e in
      let v = two-values t s _ _ g.flag g.values in
      let y = two_bytes _ _ _ _ g.type in
      let en : n ≡ g.r = no_block f s _ g.other g.others g.blocks in
      let l : 5 ≤ length s - at = g.fits in
      record {
        room = omega arith;
        d = v.0;
        p = v.1;
        destination = v.3;
        e = v.2;
        q = g.q;
        value = v.4;
        next = en ∙ y.1;
        end = subst (λ z. z ≤ length s) (sym en) y.2;
        ty = y.3;
        is = λ c. simp (g.tag, v.5, g.span, y.0);
      }

  pub stmt-if : get_or s at 0 ≡ 7 → Branched f t s at x n
  unfolding head_bytes value_flag value_count type_width block_count else_flag before_of
  stmt-if k =
      let g = of-tag f t s 7 at x n k e in
      let v = one_value t s _ _ g.flag g.values in
      let er : g.r ≡ g.q = (no_number _ _ _ _ g.type).1 in
      let b = many-one [] ◌∷◌ f _ _ refl g.blocks in
      let z = one_byte _ _ _ _ g.other in
      let l : 5 ≤ length s - at = g.fits in
      record {
        room = omega arith;
        e = v.0;
        p = g.q;
        value = v.1;
        b = b.0;
        q = g.u;
        body = ap f (sym er) ∙ b.1;
        end = subst (λ i. i ≤ length s) z.1 z.2;
        flag = z.3;
        without = λ y.
            let o = many-none [] ◌∷◌ f _ _ (z.0 ∙ y) g.others in
            (o.1 ∙ z.1, λ c. simp (g.tag, v.2, b.2, o.0, g.span));
        with = λ y.
            let w1 : g.w ≡ 1 = omega (arith, z.0, z.3, y) in
            let o = many-one [] ◌∷◌ f _ _ w1 g.others in
            (o.0, ap f (sym z.1) ∙ o.1, λ c. simp (g.tag, v.2, b.2, o.2, g.span));
      }

  pub stmt-while : get_or s at 0 ≡ 8
      → (a : Expr) × (p : ℕ) × (b : Block) × (at + 5 ≤ length s) × (expr_at t s t.expr_depth (at + 5) ≡ ok a p) × (f p ≡ ok b n)
      × ((c : Tree) → before x c ≡ while (four s (at + 1)) a b.span b.code c)
  unfolding head_bytes value_flag value_count type_width block_count else_flag before_of
  stmt-while k =
      let g = of-tag f t s 8 at x n k e in
      let v = one_value t s _ _ g.flag g.values in
      let er : g.r ≡ g.q = (no_number _ _ _ _ g.type).1 in
      let b = one_block f s _ g.other g.others g.blocks in
      let l : 5 ≤ length s - at = g.fits in
      (v.0, g.q, b.0, omega arith, v.1, ap f (sym er) ∙ b.1, λ c. simp (g.tag, v.2, b.2, g.span))

  pub stmt-break : get_or s at 0 ≡ 9 → (n ≡ at + 5) × (n ≤ length s) × ((c : Tree) → before x c ≡ jump false (four s (at + 1)) tt c)
  unfolding head_bytes value_flag value_count type_width block_count else_flag before_of
  stmt-break k =
      let g = of-tag f t s 9 at x n k e in
      let en : n ≡ at + 5 = no_block f s _ g.other g.others g.blocks ∙ (no_number _ _ _ _ g.type).1 ∙ no-values t s _ _ g.flag g.values in
      let l : 5 ≤ length s - at = g.fits in
      (en, omega arith, λ c. simp (g.tag, g.span))

  pub stmt-continue : get_or s at 0 ≡ 10 → (n ≡ at + 5) × (n ≤ length s) × ((c : Tree) → before x c ≡ jump true (four s (at + 1)) tt c)
  unfolding head_bytes value_flag value_count type_width block_count else_flag before_of
  stmt-continue k =
      let g = of-tag f t s 10 at x n k e in
      let en : n ≡ at + 5 = no_block f s _ g.other g.others g.blocks ∙ (no_number _ _ _ _ g.type).1 ∙ no-values t s _ _ g.flag g.values in
      let l : 5 ≤ length s - at = g.fits in
      (en, omega arith, λ c. simp (g.tag, g.span))

-- the statements of a block, one after another
module _ (f : ℕ → Parsed Block) (t : Scope) (s : List ℕ) where
  pub stmts-none : (k at : ℕ) {c : Tree} {n : ℕ} → k ≡ 0 → stmts_by f t s k at ≡ ok c n → (c ≡ done tt) × (n ≡ at)
  stmts-none = many-none (done tt) before (stmt_at f t s)

  pub stmts-more : (k at : ℕ) {c : Tree} {n : ℕ} → 0 < k → stmts_by f t s k at ≡ ok c n
      → (x : Stmt) × (p : ℕ) × (d : Tree) × (stmt_at f t s at ≡ ok x p) × (stmts_by f t s (k - 1) p ≡ ok d n) × (c ≡ before x d)
  stmts-more = many_more (done tt) before (stmt_at f t s)

-- a block: depth was left, and its span, count and statements stand there
pub record BlockParts (t : Scope) (s : List ℕ) (d at : ℕ) (b : Block) (n : ℕ) : Type 0 where
  pub left : 0 < d
  pub room : at + 6 ≤ length s
  pub span : b.span ≡ four s at
  pub stmts : stmts_at t s (d - 1) (two s (at + 4)) (at + 6) ≡ ok b.code n

pub block-parts : (t : Scope) (s : List ℕ) (d at : ℕ) (b : Block) (n : ℕ) → block_at t s d at ≡ ok b n → BlockParts t s d at b n
unfolding block_at
block-parts t s zero at b n e = impossible e
block-parts t s (suc d) at b n e =
    let g = ensure-ok _ e in
    let l : 6 ≤ length s - at = leb-true _ _ g.0 in
    let z : suc d - 1 ≡ d = omega arith in
    bound g.1 (λ c q e1 e2.
    let ec : c ≡ b.code = cc in
    let eq : q ≡ n = cc in
    let es : b.span ≡ four s at = cc in
    record { left = omega arith; room = omega arith; span = es; stmts = rw z (e1 ∙ ap (λ y. ok y q) ec ∙ ap (ok b.code) eq) })

-- how many statements there are, not counting those of blocks in them
pub stmt_count : {X Y : Type 0} → Code X Y → ℕ
stmt_count (done u) = 0
stmt_count (expr_stmt i a u c) = suc (stmt_count c)
stmt_count (variable b i j k a c) = suc (stmt_count c)
stmt_count (assign i a b k u c) = suc (stmt_count c)
stmt_count (return i a k u c) = suc (stmt_count c)
stmt_count (bare_return i k x c) = suc (stmt_count c)
stmt_count (block i b c) = suc (stmt_count c)
stmt_count (if_else i a j b k d c) = suc (stmt_count c)
stmt_count (if_then i a j b c) = suc (stmt_count c)
stmt_count (while i a j b c) = suc (stmt_count c)
stmt_count (jump b i x c) = suc (stmt_count c)

either_way : (b : Bool) (u v : Tree) (n : ℕ) → stmt_count u ≡ n → stmt_count v ≡ n → stmt_count (cond b u v) ≡ n
either_way true u v n p q = p
either_way false u v n p q = q

return-count : (es : Exprs) (i l : ℕ) (c : Tree) → stmt_count (before_return es i l c) ≡ suc (stmt_count c)
unfolding stmt_count
return-count none i l c = refl
return-count (more e es) i l c = refl

if-count : (cs : List Block) (i : ℕ) (e : Expr) (b : Block) (c : Tree) → stmt_count (before_if cs i e b c) ≡ suc (stmt_count c)
unfolding stmt_count
if-count [] i e b c = refl
if-count (d ∷ ds) i e b c = refl

before-count : (tag : ℕ) (h : StmtHead) (es : Exprs) (l : ℕ) (bs cs : List Block) (c : Tree) → stmt_count (before_of tag h es l bs cs c) ≡ suc (stmt_count c)
unfolding before_of stmt_count
before-count tag h es l bs cs c =
    either_way (eqb tag 1) _ _ _ refl
    (either_way (eqb tag 2) _ _ _ (return-count es h.span l c)
    (either_way (eqb tag 3) _ _ _ refl
    (either_way (eqb tag 4) _ _ _ refl
    (either_way (eqb tag 5) _ _ _ refl
    (either_way (eqb tag 6) _ _ _ refl
    (either_way (eqb tag 7) _ _ _ (if-count cs h.span (first_value es) (first_block bs) c)
    (either_way (eqb tag 8) _ _ _ refl
    (either_way (eqb tag 9) _ _ _ refl refl))))))))

-- as many as the count says
pub stmts-count : (f : ℕ → Parsed Block) (t : Scope) (s : List ℕ) (k at : ℕ) (c : Tree) (n : ℕ) → stmts_by f t s k at ≡ ok c n → stmt_count c ≡ k
unfolding many_of stmt_count
stmts-count f t s zero at c n e = let z : c ≡ done tt = cc in ap stmt_count z
stmts-count f t s (suc k) at c n e =
    bound e (λ x p e1 e2. bound e2 (λ d q e3 e4.
    let z : c ≡ before x d = cc in
    ap stmt_count z ∙ before-count _ _ _ _ _ _ d ∙ ap suc (stmts-count f t s k p d q e3)))

-- a statement's head takes a byte
some_head : ℕ → ℕ → Bool
some_head k x = eqb k 0 || ltb 0 x

pub some-head : (k : ℕ) → 0 < k → k < 11 → 0 < get_or head_bytes k 0
unfolding some_head head_bytes
some-head zero low lt = absurd (omega arith)
some-head (suc k) low lt = ltb→lt _ _ (subst (λ b. T (b || ltb 0 (get_or head_bytes (suc k) 0))) (eqb-suc-zero k) (at some_head head_bytes tt (suc k) lt))

-- where reading one ends after it begins and within the bytes, so does reading many
many-ends : {A L : Type 0} (nil : L) (cons : A → L → L) (f : ℕ → Parsed A) (s : List ℕ)
    → ((p : ℕ) (x : A) (q : ℕ) → f p ≡ ok x q → (p < q) × (q ≤ length s)) → (k at : ℕ) (xs : L) (n : ℕ) → at ≤ length s → many_of nil cons f k at ≡ ok xs n
    → (at + k ≤ n) × (n ≤ length s)
unfolding many_of
many-ends nil cons f s each zero at xs n le e = let z : at ≡ n = cc in (omega arith, omega arith)
many-ends nil cons f s each (suc k) at xs n le e =
    bound e (λ x p e1 e2. bound e2 (λ ys q e3 e4.
    let a = each at x p e1 in
    let b = many-ends nil cons f s each k p ys q a.1 e3 in
    let z : q ≡ n = cc in
    (omega arith, omega arith)))

module _ (f : ℕ → Parsed Block) (t : Scope) (s : List ℕ) (each : (p : ℕ) (b : Block) (q : ℕ) → f p ≡ ok b q → (p < q) × (q ≤ length s)) where
  pub stmt-ends : (at : ℕ) (x : Stmt) (n : ℕ) → stmt_at f t s at ≡ ok x n → (at < n) × (n ≤ length s)
  stmt-ends at x n e =
      let g = parts f t s at x n e in
      let one = some-head (get_or s at 0) g.low g.high in
      let fits = g.fits in
      let a = field-ok g.flag in
      let la : g.p ≤ length s = field_end (omega arith) a in
      let v = stand-all t s t.expr_depth _ _ _ _ g.values in
      let lv : g.q ≤ length s = end-all x.front.values s g.p g.q la v.0 in
      let ov : g.p ≤ g.q = order-all x.front.values s g.p g.q v.0 in
      let y = field-ok g.type in
      let b = many-ends [] ◌∷◌ f s each _ g.r x.blocks g.u (field_end lv y) g.blocks in
      let z = field-ok g.other in
      let c = many-ends [] ◌∷◌ f s each g.w g.v x.others n (field_end b.1 z) g.others in
      (omega (arith, one, a.end, ov, y.end, b.0, z.end, c.0), c.1)

  pub stmts-end : (k at : ℕ) (c : Tree) (n : ℕ) → at ≤ length s → stmts_by f t s k at ≡ ok c n → (at + k ≤ n) × (n ≤ length s)
  stmts-end = many-ends (done tt) before (stmt_at f t s) s stmt-ends

-- a block ends after its head and within the bytes
pub block-ends : (t : Scope) (s : List ℕ) (d at : ℕ) (b : Block) (n : ℕ) → block_at t s d at ≡ ok b n → (at + 6 ≤ n) × (n ≤ length s)
block-ends t s zero at b n e = let g = block-parts t s zero at b n e in let l = g.left in absurd (omega arith)
block-ends t s (suc d) at b n e =
    let g = block-parts t s (suc d) at b n e in
    let z : suc d - 1 ≡ d = omega arith in
    let h = stmts-end (block_at t s d) t s (λ p c q y. let w = block-ends t s d p c q y in (omega arith, w.1)) (two s (at + 4)) (at + 6) b.code n g.room
    (ap (λ i. stmts_at t s i (two s (at + 4)) (at + 6)) (sym z) ∙ g.stmts) in
    (omega arith, h.1)
