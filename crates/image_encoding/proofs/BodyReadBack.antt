-- Valid statements and blocks are read back from the bytes that they are written in.
-- Assumes nothing.
use mathlib.Core.Path.{◌≡◌, refl, sym, ap, ◌∙◌, subst, subst₂}
use mathlib.Core.List.{List, [], ◌∷◌, ◌++◌}
use mathlib.Core.Bool.{Bool, true, false, cond, not, ◌&&◌, ◌||◌}
use mathlib.Core.Logic.{inl}
use Prim.Native.Nat.{ℕ, zero, suc, ◌+◌, ◌-◌, ◌≤◌, ◌<◌}
use native.Mathlib.Omega.{arith}
use borrow.Author.Tests.{le-leb, lt-ltb, ltb-true, eqb-true}
use lib.ListN.{length, get_or}
use lib.Dec.{eqb, ltb}
use Rattle.image_fields.specs.Parsed.{Parsed, ok}
use Rattle.image_fields.specs.Number.{two, four}
use Rattle.image_fields.specs.Table.{many_of}
use Rattle.image_fields.specs.Bytes.{two_bytes, four_bytes, number_bytes, each_bytes}
use Rattle.image_fields.proofs.Tests.{false-true, and-true}
use Rattle.image_body.specs.Expr.{Exprs, none, more, Scope, exprs_at}
use Rattle.image_body.specs.Stmt.{Tree, Block, StmtHead, Stmt, done, expr_stmt, variable, assign, return, bare_return, block, if_else, if_then, while, jump, head_bytes, value_flag, value_count, type_width, block_count, else_flag, stmt_head_at, values_at, front_at, back_at, stmt_at, before_of, before, stmts_by, stmts_at, block_at}
use Rattle.image_body.specs.Stands.{count}
use Rattle.image_encoding.specs.Written.{Written}
use Rattle.image_encoding.specs.Body.{encode_exprs, encode_code, encode_block, size}
use Rattle.image_encoding.specs.Valid.{Each, ValidScope, EachExpr, ValidExpr, ValidCode, ValidBlock}
use Rattle.image_encoding.proofs.Parts.{being, split, here, room, two_here, four-here, field-read-back, goes, passes}
use Rattle.image_encoding.proofs.Runs.{many-none, many_more}
use Rattle.image_encoding.proofs.ExprReadBack.{below-limit, exprs-read-back}
use Rattle.image_encoding.proofs.StmtBytes.{head_part, stmt_bytes, Shape, value-flag, else-flag, type-width, head-width, encodes}

-- the numbers of a head, from its bytes: b of a Block, c of a Let or Const
record HeadHere (b c : Bool) (s : List ℕ) (p tag span name ty q : ℕ) : Type 0 where
  tag-here : get_or s p 0 ≡ tag
  span-here : cond b 0 (four s (p + 1)) ≡ span
  name-here : cond c (two s (p + 5)) 0 ≡ name
  ty-here : cond c (two s (p + 7)) 0 ≡ ty
  end : q ≡ p + (1 + (cond b 0 4 + cond c 4 0))
  fits : q ≤ length s

head-here : (b c : Bool) (s : List ℕ) (p tag span name ty q : ℕ) → (b && c) ≡ false → cond b 0 span ≡ span → cond c name 0 ≡ name → cond c ty 0 ≡ ty
    → Written s p (tag ∷ (cond b [] (four_bytes span) ++ cond c (two_bytes name ++ two_bytes ty) [])) q → HeadHere b c s p tag span name ty q
head-here true true s p tag span name ty q o es en et g = false-true (sym o)
head-here true false s p tag span name ty q o es en et g =
    let r = room g in let e = g.end in
    record { tag-here = here g; span-here = es; name-here = en; ty-here = et; end = omega arith; fits = omega arith }
head-here false false s p tag span name ty q o es en et g =
    split (tag ∷ []) (four_bytes span ++ []) g (λ p1 a b.
    split (four_bytes span) [] b (λ p2 d e.
    let h = four-here d in
    let z1 : p1 ≡ p + 1 = a.end in
    let z2 : p2 ≡ p1 + 4 = h.2 in
    let l : p1 + 4 ≤ length s = h.1 in
    let z3 = e.end in
    record { tag-here = here g; span-here = ap (four s) (sym z1) ∙ h.0; name-here = en; ty-here = et; end = omega arith; fits = omega arith }))
head-here false true s p tag span name ty q o es en et g =
    split (tag ∷ []) (four_bytes span ++ (two_bytes name ++ two_bytes ty)) g (λ p1 a b.
    split (four_bytes span) (two_bytes name ++ two_bytes ty) b (λ p2 d e.
    split (two_bytes name) (two_bytes ty) e (λ p3 i j.
    let h = four-here d in
    let h2 = two_here i in
    let h3 = two_here j in
    let z1 : p1 ≡ p + 1 = a.end in
    let z2 : p2 ≡ p1 + 4 = h.2 in
    let z3 : p3 ≡ p2 + 2 = h2.2 in
    let z4 : q ≡ p3 + 2 = h3.2 in
    let l : p3 + 2 ≤ length s = h3.1 in
    let y2 : p + 5 ≡ p2 = omega arith in
    let y3 : p + 7 ≡ p3 = omega arith in
    record {
      tag-here = here g;
      span-here = ap (four s) (sym z1) ∙ h.0;
      name-here = ap (two s) y2 ∙ h2.0;
      ty-here = ap (two s) y3 ∙ h3.0;
      end = omega arith;
      fits = omega arith;
    })))

-- the name and type of a Let or Const are within the tables
binds : ℕ → ℕ → Bool → ℕ → ℕ → Bool
binds names types c name ty = not c || (ltb name names && ltb ty types)

binds-here : (names types : ℕ) (c : Bool) (a b name ty : ℕ) → cond c a 0 ≡ name → cond c b 0 ≡ ty → binds names types c name ty ≡ true → binds names types c a b ≡ true
unfolding binds
binds-here names types true a b name ty en et e = rw (en, et) e
binds-here names types false a b name ty en et e = refl

stmt-head-back : (names types : ℕ) (s : List ℕ) (p tag span name ty q : ℕ) → 0 < tag → tag < 11
    → binds names types (eqb (get_or head_bytes tag 0) 9) name ty ≡ true → HeadHere (eqb tag 1) (eqb (get_or head_bytes tag 0) 9) s p tag span name ty q
    → stmt_head_at names types s p ≡ ok (record { tag = tag; span = span; name = name; ty = ty }) q
unfolding stmt_head_at binds
stmt-head-back names types s p tag span name ty q low high e g =
    let w = get_or head_bytes tag 0 in
    let k : w ≡ 1 + (cond (eqb tag 1) 0 4 + cond (eqb w 9) 4 0) = (head-width tag low high).0 in
    let z = g.end in
    let l = g.fits in
    let m : p + w ≡ q = omega arith in
    let n : w ≤ length s - p = omega arith in
    rw (g.tag-here, g.span-here, g.name-here, g.ty-here, m)
    (passes _ (lt-ltb 0 tag low)
    (passes _ (lt-ltb tag 11 high)
    (passes _ (le-leb w (length s - p) n)
    (passes _ (binds-here names types (eqb w 9) (two s (p + 5)) (two s (p + 7)) name ty g.name-here g.ty-here e) refl))))

-- the numbers of values and blocks, as one test
shape_ok : ℕ → Exprs → ℕ → List Block → List Block → Bool
shape_ok tag es n bs cs =
    ltb 0 tag && (ltb tag 11 && (eqb (count es) (get_or value_count tag 0 + n) && (ltb n (1 + get_or value_flag tag 0)
    && (eqb (length bs) (get_or block_count tag 0) && ltb (length cs) (1 + get_or else_flag tag 0)))))

shape_of : (tag : ℕ) (es : Exprs) (n : ℕ) (bs cs : List Block) → shape_ok tag es n bs cs ≡ true → Shape tag es n bs cs
unfolding shape_ok
shape_of tag es n bs cs e =
    let a = and-true (ltb 0 tag) _ e in
    let b = and-true (ltb tag 11) _ a.1 in
    let c = and-true (eqb (count es) (get_or value_count tag 0 + n)) _ b.1 in
    let d = and-true (ltb n (1 + get_or value_flag tag 0)) _ c.1 in
    let f = and-true (eqb (length bs) (get_or block_count tag 0)) _ d.1 in
    record {
      low = ltb-true _ _ a.0;
      high = ltb-true _ _ b.0;
      values = eqb-true _ _ c.0;
      flag = ltb-true _ _ d.0;
      blocks = eqb-true _ _ f.0;
      others = ltb-true _ _ f.1;
    }

-- a statement that is valid by itself, after its flag n
record ValidStmt (t : Scope) (Good : Block → Type 0) (h : StmtHead) (es : Exprs) (n l : ℕ) (bs cs : List Block) : Type 0 where
  shape : shape_ok h.tag es n bs cs ≡ true
  span : cond (eqb h.tag 1) 0 h.span ≡ h.span
  name : cond (eqb (get_or head_bytes h.tag 0) 9) h.name 0 ≡ h.name
  ty : cond (eqb (get_or head_bytes h.tag 0) 9) h.ty 0 ≡ h.ty
  bound : binds t.names t.types (eqb (get_or head_bytes h.tag 0) 9) h.name h.ty ≡ true
  last : l < cond (eqb (get_or type_width h.tag 0) 0) 1 t.types
  values : EachExpr (ValidExpr t t.expr_depth) es
  blocks : Each (λ xs b. Good b) [] bs
  others : Each (λ xs b. Good b) [] cs

abbrev stmt : StmtHead → Exprs → ℕ → List Block → List Block → Stmt
stmt h es l bs cs = record { front = record { head = h; values = es; last = l }; blocks = bs; others = cs }

module _ (t : Scope) (scope : ValidScope t) (s : List ℕ) where
  module _ (f : ℕ → Parsed Block) (Good : Block → Type 0) (each : (p : ℕ) (b : Block) (q : ℕ) → Good b → Written s p (encode_block b) q → f p ≡ ok b q) where
    blocks-back : (bs xs : List Block) (p q : ℕ) → Each (λ ys b. Good b) xs bs → Written s p (each_bytes encode_block bs) q
        → many_of [] ◌∷◌ f (length bs) p ≡ ok bs q
    unfolding Each each_bytes
    blocks-back [] xs p q v g = let e = g.end in many-none [] ◌∷◌ f p ∙ ap (ok []) (omega arith)
    blocks-back (b ∷ bs) xs p q v g =
        split (encode_block b) (each_bytes encode_block bs) g (λ r x y.
        many_more [] ◌∷◌ f (length bs) (each p b r v.0 x) (blocks-back bs (xs ++ (b ∷ [])) r q v.1 y))

    stmt-back : (h : StmtHead) (es : Exprs) (n l : ℕ) (bs cs : List Block) (p q : ℕ) → ValidStmt t Good h es n l bs cs
        → Written s p (stmt_bytes h.tag h es n l bs cs) q → stmt_at f t s p ≡ ok (stmt h es l bs cs) q
    unfolding stmt_bytes head_part stmt_at front_at values_at back_at
    stmt-back h es n l bs cs p q v g =
        let sh = shape_of h.tag es n bs cs v.shape in
        let nflag = get_or value_flag h.tag 0 in
        let width = get_or type_width h.tag 0 in
        let mflag = get_or else_flag h.tag 0 in
        let end = number_bytes mflag (length cs) ++ each_bytes encode_block cs in
        let back = each_bytes encode_block bs ++ end in
        let vf : nflag ≤ 1 = value-flag h.tag sh.high in
        let ef : mflag ≤ 1 = else-flag h.tag sh.high in
        let ln : n < 1 + nflag = sh.flag in
        let lm : length cs < 1 + mflag = sh.others in
        let la = below-limit width l t.types scope.types v.last in
        split (head_part h.tag h) (number_bytes nflag n ++ (encode_exprs es ++ (number_bytes width l ++ back))) g (λ p1 g1 r1.
        split (number_bytes nflag n) (encode_exprs es ++ (number_bytes width l ++ back)) r1 (λ p2 g2 r2.
        split (encode_exprs es) (number_bytes width l ++ back) r2 (λ p3 g3 r3.
        split (number_bytes width l) back r3 (λ p4 g4 r4.
        split (each_bytes encode_block bs) end r4 (λ p5 g5 r5.
        split (number_bytes mflag (length cs)) (each_bytes encode_block cs) r5 (λ p6 g6 g7.
        goes _ (goes _ (stmt-head-back t.names t.types s p h.tag h.span h.name h.ty p1 sh.low sh.high v.bound
        (head-here (eqb h.tag 1) (eqb (get_or head_bytes h.tag 0) 9) s p h.tag h.span h.name h.ty p1
        (head-width h.tag sh.low sh.high).1 v.span v.name v.ty g1))
        (goes _ (field-read-back 8 2 {k = nflag} (inl (omega arith)) (λ z. omega arith) (omega arith) g2)
        (goes _ (subst (λ m. exprs_at t s t.expr_depth m p2 ≡ ok es p3) sh.values (exprs-read-back t scope s t.expr_depth es p2 p3 v.values g3))
        (goes _ (field-read-back 8 t.types {k = width} (inl (type-width h.tag sh.high)) la.0 la.1 g4) refl))))
        (goes _ (subst (λ m. many_of [] ◌∷◌ f m p4 ≡ ok bs p5) sh.blocks (blocks-back bs [] p4 p5 v.blocks g5))
        (goes _ (field-read-back 8 2 {k = mflag} (inl (omega arith)) (λ z. omega arith) (omega arith) g6)
        (goes _ (blocks-back cs [] p6 q v.others g7) refl)))))))))

    within : (n u : ℕ) → n < t.names → u < t.types → binds t.names t.types true n u ≡ true
    unfolding binds
    within n u ln lu = rw (lt-ltb n t.names ln) (lt-ltb u t.types lu)

    -- a statement before those that are read back
    step : (h : StmtHead) (es : Exprs) (n l : ℕ) (bs cs : List Block) (c : Tree) (p q : ℕ) → ValidStmt t Good h es n l bs cs
        → ((r : ℕ) → Written s r (encode_code c) q → stmts_by f t s (size c) r ≡ ok c q)
        → Written s p (encode_code (before_of h.tag h es l bs cs c)) q
        → stmts_by f t s (size (before_of h.tag h es l bs cs c)) p ≡ ok (before_of h.tag h es l bs cs c) q
    step h es n l bs cs c p q v rest g =
        let k = encodes h.tag h es n l bs cs c (shape_of h.tag es n bs cs v.shape) in
        split (stmt_bytes h.tag h es n l bs cs) (encode_code c) (being k.0 g) (λ r x y.
        ap (λ m. stmts_by f t s m p) k.1 ∙ many_more (done tt) before (stmt_at f t s) (size c) (stmt-back h es n l bs cs p r v x) (rest r y))

    code-back : (c : Tree) (p q : ℕ) → ValidCode Good t c → Written s p (encode_code c) q → stmts_by f t s (size c) p ≡ ok c q
    unfolding ValidCode EachExpr Each before_of encode_code size shape_ok binds head_bytes value_flag value_count type_width block_count else_flag
    code-back (done x) p q v g = let e = g.end in many-none (done tt) before (stmt_at f t s) p ∙ ap (ok (done tt)) (omega arith)
    code-back (expr_stmt o e y c) p q v g =
        step (record { tag = 3; span = o; name = 0; ty = 0 }) (more e none) 0 0 [] [] c p q
        record { shape = refl; span = refl; name = refl; ty = refl; bound = refl; last = omega arith; values = (v.1, tt); blocks = tt; others = tt }
        (λ r x. code-back c r q v.2 x) g
    code-back (variable false o n u e c) p q v g =
        step (record { tag = 4; span = o; name = n; ty = u }) (more e none) 0 0 [] [] c p q
        record { shape = refl; span = refl; name = refl; ty = refl; bound = within n u v.1 v.2; last = omega arith; values = (v.3, tt); blocks = tt; others = tt }
        (λ r x. code-back c r q v.4 x) g
    code-back (variable true o n u e c) p q v g =
        step (record { tag = 5; span = o; name = n; ty = u }) (more e none) 0 0 [] [] c p q
        record { shape = refl; span = refl; name = refl; ty = refl; bound = within n u v.1 v.2; last = omega arith; values = (v.3, tt); blocks = tt; others = tt }
        (λ r x. code-back c r q v.4 x) g
    code-back (assign o d e u x c) p q v g =
        step (record { tag = 6; span = o; name = 0; ty = 0 }) (more d (more e none)) 0 u [] [] c p q
        record { shape = refl; span = refl; name = refl; ty = refl; bound = refl; last = v.3; values = (v.1, (v.2, tt)); blocks = tt; others = tt }
        (λ r x. code-back c r q v.4 x) g
    code-back (return o e u x c) p q v g =
        step (record { tag = 2; span = o; name = 0; ty = 0 }) (more e none) 1 u [] [] c p q
        record { shape = refl; span = refl; name = refl; ty = refl; bound = refl; last = v.2; values = (v.1, tt); blocks = tt; others = tt }
        (λ r x. code-back c r q v.3 x) g
    code-back (bare_return o u x c) p q v g =
        step (record { tag = 2; span = o; name = 0; ty = 0 }) none 0 u [] [] c p q
        record { shape = refl; span = refl; name = refl; ty = refl; bound = refl; last = v.1; values = tt; blocks = tt; others = tt }
        (λ r x. code-back c r q v.2 x) g
    code-back (block o b c) p q v g =
        step (record { tag = 1; span = 0; name = 0; ty = 0 }) none 0 0 (record { span = o; code = b } ∷ []) [] c p q
        record { shape = refl; span = refl; name = refl; ty = refl; bound = refl; last = omega arith; values = tt; blocks = (v.0, tt); others = tt }
        (λ r x. code-back c r q v.1 x) g
    code-back (if_else o e k b m d c) p q v g =
        step (record { tag = 7; span = o; name = 0; ty = 0 }) (more e none) 0 0 (record { span = k; code = b } ∷ []) (record { span = m; code = d } ∷ []) c p q
        record { shape = refl; span = refl; name = refl; ty = refl; bound = refl; last = omega arith; values = (v.1, tt); blocks = (v.2, tt); others = (v.3, tt) }
        (λ r x. code-back c r q v.4 x) g
    code-back (if_then o e k b c) p q v g =
        step (record { tag = 7; span = o; name = 0; ty = 0 }) (more e none) 0 0 (record { span = k; code = b } ∷ []) [] c p q
        record { shape = refl; span = refl; name = refl; ty = refl; bound = refl; last = omega arith; values = (v.1, tt); blocks = (v.2, tt); others = tt }
        (λ r x. code-back c r q v.3 x) g
    code-back (while o e k b c) p q v g =
        step (record { tag = 8; span = o; name = 0; ty = 0 }) (more e none) 0 0 (record { span = k; code = b } ∷ []) [] c p q
        record { shape = refl; span = refl; name = refl; ty = refl; bound = refl; last = omega arith; values = (v.1, tt); blocks = (v.2, tt); others = tt }
        (λ r x. code-back c r q v.3 x) g
    code-back (jump false o x c) p q v g =
        step (record { tag = 9; span = o; name = 0; ty = 0 }) none 0 0 [] [] c p q
        record { shape = refl; span = refl; name = refl; ty = refl; bound = refl; last = omega arith; values = tt; blocks = tt; others = tt }
        (λ r x. code-back c r q v.1 x) g
    code-back (jump true o x c) p q v g =
        step (record { tag = 10; span = o; name = 0; ty = 0 }) none 0 0 [] [] c p q
        record { shape = refl; span = refl; name = refl; ty = refl; bound = refl; last = omega arith; values = tt; blocks = tt; others = tt }
        (λ r x. code-back c r q v.1 x) g

  pub block-read-back : (d p : ℕ) (b : Block) (q : ℕ) → ValidBlock t d b → Written s p (encode_block b) q → block_at t s d p ≡ ok b q
  unfolding ValidBlock block_at encode_block
  block-read-back zero p b q v g = absurd v
  block-read-back (suc d) p b q v g =
      split (four_bytes b.span) (two_bytes (size b.code) ++ encode_code b.code) g (λ p1 g1 r1.
      split (two_bytes (size b.code)) (encode_code b.code) r1 (λ p2 g2 g3.
      let h1 = four-here g1 in
      let h2 = two_here g2 in
      let z1 : p1 ≡ p + 4 = h1.2 in
      let z2 : p2 ≡ p1 + 2 = h2.2 in
      let l : p1 + 2 ≤ length s = h2.1 in
      let y : p2 ≡ p + 6 = omega arith in
      let e : two s (p + 4) ≡ size b.code = ap (two s) (sym z1) ∙ h2.0 in
      passes _ (le-leb 6 (length s - p) (omega arith))
      (goes _ (subst₂ (λ n r. stmts_by (block_at t s d) t s n r ≡ ok b.code q) (sym e) y
      (code-back (block_at t s d) (ValidBlock t d) (block-read-back d) b.code p2 q v.2 g3))
      (ap (λ n. ok (record { span = n; code = b.code }) q) h1.0))))

  pub stmts-read-back : (d : ℕ) (c : Tree) (p q : ℕ) → ValidCode (ValidBlock t d) t c → Written s p (encode_code c) q → stmts_at t s d (size c) p ≡ ok c q
  stmts-read-back d = code-back (block_at t s d) (ValidBlock t d) (block-read-back d)
