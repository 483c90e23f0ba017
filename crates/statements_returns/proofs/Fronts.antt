-- Where the values of a statement that was read stand, and where its blocks begin.
-- Assumes nothing.
use mathlib.Core.Path.{◌≡◌, refl, sym, ◌∙◌, subst}
use mathlib.Core.List.{List, [], ◌∷◌}
use mathlib.Core.Bool.{Bool, cond}
use Prim.Native.Nat.{ℕ, zero, suc, ◌+◌, ◌-◌, ◌≤◌, ◌<◌}
use native.Mathlib.Omega.{arith}
use lib.ListN.{length, get_or}
use lib.Dec.{eqb, ltb, ltb→lt}
use Rattle.image_fields.specs.Parsed.{Parsed, ok}
use Rattle.image_fields.specs.Number.{number_in, field_at}
use Rattle.image_fields.specs.Table.{many_of}
use Rattle.image_fields.proofs.Numbers.{field-ok, field_end}
use Rattle.image_fields.proofs.Rules.{at}
use Rattle.image_body.specs.Expr.{Exprs, Scope, exprs_at}
use Rattle.image_body.specs.Stands.{StandAll, count}
use Rattle.image_body.specs.Stmt.{Block, Stmt, head_bytes, value_flag, value_count, type_width, block_count, else_flag, stmt_at}
use Rattle.image_body.proofs.Standing.{stand-all, end-all, order-all}
use Rattle.image_body.proofs.Statements.{Parts, parts, some-head}
use Rattle.statements_returns.specs.declared.Front.{Front}
use Rattle.statements_returns.specs.Front.{flag_of, front_of, front_at}

-- of a statement with tag k: its values, and its blocks, which begin at q and the bytes of the type
pub record FrontValues (f : ℕ → Parsed Block) (t : Scope) (s : List ℕ) (at : ℕ) (x : Stmt) (n k : ℕ) : Type 0 where
  pub tag : x.front.head.tag ≡ k
  pub low : 0 < k
  pub high : k < 11
  pub inside : at < length s
  pub q : ℕ
  pub values : exprs_at t s t.expr_depth (front_of s at k).values (front_of s at k).first ≡ ok x.front.values q
  pub first : at + 1 ≤ (front_of s at k).first
  pub order : (front_of s at k).first ≤ q
  pub end : q + get_or type_width k 0 ≤ length s
  pub last : x.front.last ≡ number_in s (get_or type_width k 0) q
  pub u : ℕ
  pub blocks : many_of [] ◌∷◌ f (get_or block_count k 0) (q + get_or type_width k 0) ≡ ok x.blocks u
  pub w : ℕ
  pub v : ℕ
  pub other : field_at 8 2 (get_or else_flag k 0) s u ≡ ok w v
  pub others : many_of [] ◌∷◌ f w v ≡ ok x.others n

small_flag : ℕ → ℕ → Bool
small_flag k x = ltb x 2

small-flag : (k : ℕ) → k < 11 → get_or value_flag k 0 < 2
unfolding small_flag value_flag
small-flag k lt = ltb→lt _ _ (at small_flag value_flag tt k lt)

one-or-none : (s : List ℕ) (k p : ℕ) → k < 2 → number_in s k p ≡ cond (eqb k 1) (get_or s p 0) 0
one-or-none s zero p lt = refl
one-or-none s (suc zero) p lt = refl
one-or-none s (suc (suc k)) p lt = absurd (omega arith)

module _ (f : ℕ → Parsed Block) (t : Scope) (s : List ℕ) where
  of_parts : (at : ℕ) (x : Stmt) (n k : ℕ) → Parts f t s at x n k → FrontValues f t s at x n k
  of_parts at x n k g =
      let one = some-head k g.low g.high in
      let fits : get_or head_bytes k 0 ≤ length s - at = g.fits in
      let a = field-ok g.flag in
      let ea : g.p ≡ at + get_or head_bytes k 0 + get_or value_flag k 0 = a.end in
      let em : g.m ≡ flag_of s at k = a.is ∙ one-or-none s _ _ (small-flag k g.high) in
      let la : g.p ≤ length s = field_end (omega arith) a in
      let st = stand-all t s t.expr_depth _ _ _ _ g.values in
      let lv : g.q ≤ length s = end-all x.front.values s g.p g.q la st.0 in
      let ov : g.p ≤ g.q = order-all x.front.values s g.p g.q st.0 in
      let y = field-ok g.type in
      let ey : g.r ≡ g.q + get_or type_width k 0 = y.end in
      let ly : g.r ≤ length s = field_end lv y in
      record {
        tag = g.tag;
        low = g.low;
        high = g.high;
        inside = omega arith;
        q = g.q;
        values = subst (λ p. exprs_at t s t.expr_depth (get_or value_count k 0 + flag_of s at k) p ≡ ok x.front.values g.q) ea
            (subst (λ m. exprs_at t s t.expr_depth (get_or value_count k 0 + m) g.p ≡ ok x.front.values g.q) em g.values);
        first = omega (arith, one);
        order = omega (arith, ea, ov);
        end = omega (arith, ey, ly);
        last = y.is;
        u = g.u;
        blocks = subst (λ r. many_of [] ◌∷◌ f (get_or block_count k 0) r ≡ ok x.blocks g.u) ey g.blocks;
        w = g.w;
        v = g.v;
        other = g.other;
        others = g.others;
      }

  pub front-values : (at : ℕ) (x : Stmt) (n : ℕ) → stmt_at f t s at ≡ ok x n → FrontValues f t s at x n (get_or s at 0)
  front-values at x n e = of_parts at x n (get_or s at 0) (parts f t s at x n e)

-- what front_at makes
pub front-made : (s : List ℕ) (at : ℕ) {k n m hd fl l : ℕ} → k ≡ get_or s at 0 → n ≡ get_or value_count k 0 → hd ≡ get_or head_bytes k 0
    → fl ≡ get_or value_flag k 0 → m ≡ cond (eqb fl 1) (get_or s (at + hd) 0) 0 → l ≡ get_or type_width k 0
    → ◌≡◌ {A = Front} (record { tag = get_or s at 0; values = n + m; first = at + hd + fl; last = l }) (front_at s at)
front-made s at ek en eh ef em el = simp (em, en, eh, ef, el, ek)

-- the blocks of a statement with tag k begin at p
pub record Blocks (f : ℕ → Parsed Block) (s : List ℕ) (x : Stmt) (n p k : ℕ) : Type 0 where
  pub tag : x.front.head.tag ≡ k
  pub low : 0 < k
  pub high : k < 11
  pub inside : p ≤ length s
  pub u : ℕ
  pub blocks : many_of [] ◌∷◌ f (get_or block_count k 0) p ≡ ok x.blocks u
  pub w : ℕ
  pub v : ℕ
  pub other : field_at 8 2 (get_or else_flag k 0) s u ≡ ok w v
  pub others : many_of [] ◌∷◌ f w v ≡ ok x.others n

-- what skip_many answers
abbrev pub Skips : List ℕ → ℕ → ℕ → ℕ → Type 0
Skips s w at r = (es : Exprs) (next : ℕ) → StandAll es s at next → count es ≡ w → r ≡ next

module _ (f : ℕ → Parsed Block) (t : Scope) (s : List ℕ) (at : ℕ) (x : Stmt) (n : ℕ) (e : stmt_at f t s at ≡ ok x n) where
  -- a walk past the values ends, with the bytes of the type, where the blocks begin
  passed-values : (w r : ℕ) → w ≡ (front_at s at).values → Skips s w (front_at s at).first r → Blocks f s x n (r + (front_at s at).last) (get_or s at 0)
  passed-values w r ew skip =
      let g = front-values f t s at x n e in
      let st = stand-all t s t.expr_depth _ _ _ _ g.values in
      let er : r ≡ g.q = skip x.front.values g.q st.0 (st.1 ∙ sym ew) in
      let en : g.q + get_or type_width (get_or s at 0) 0 ≤ length s = g.end in
      record {
        tag = g.tag;
        low = g.low;
        high = g.high;
        inside = subst (λ y. y + get_or type_width (get_or s at 0) 0 ≤ length s) (sym er) en;
        u = g.u;
        blocks = subst (λ y. many_of [] ◌∷◌ f (get_or block_count (get_or s at 0) 0) (y + get_or type_width (get_or s at 0) 0) ≡ ok x.blocks g.u) (sym er) g.blocks;
        w = g.w;
        v = g.v;
        other = g.other;
        others = g.others;
      }

  pub passed : (h : Front) (w r : ℕ) → h ≡ front_at s at → w ≡ h.values → Skips s w h.first r → Blocks f s x n (r + h.last) h.tag
  passed h w r eh = subst (λ y. w ≡ y.values → Skips s w y.first r → Blocks f s x n (r + y.last) y.tag) (sym eh) (passed-values w r)
