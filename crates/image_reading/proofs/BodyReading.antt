-- The steps of reading statements and blocks, as the code takes them.
-- Assumes nothing.
use mathlib.Core.Path.{◌≡◌, refl, sym, ap, ◌∙◌}
use mathlib.Core.List.{List, [], ◌∷◌}
use mathlib.Core.Bool.{Bool, not, ◌||◌}
use Prim.Native.Nat.{ℕ, zero, suc, ◌+◌, ◌-◌, ◌≤◌, ◌<◌}
use native.Mathlib.Omega.{arith}
use borrow.Author.Tests.{le-leb, lt-leb, ltb-true}
use lib.ListN.{length, get_or}
use lib.Dec.{eqb, eqb→eq}
use Rattle.image_fields.specs.Parsed.{Parsed, ok, fault, bind, ensure}
use Rattle.image_fields.specs.Number.{two, four, field_at}
use Rattle.image_fields.specs.Table.{many_of}
use Rattle.image_fields.specs.Answer.{read_of, number_of}
use Rattle.std.specs.Prelude.{Result, Ok, Err}
use Rattle.image_fields.specs.declared.Fault.{Fault}
use Rattle.image_fields.specs.Fault.{fault_number, coded}
use Rattle.image_fields.proofs.Inverse.{ensure-ok, bound}
use Rattle.image_fields.proofs.Answers.{number_ok, mapped}
use Rattle.image_fields.proofs.Numbers.{field-ok}
use Rattle.image_fields.proofs.Rules.{at}
use Rattle.image_fields.proofs.Tables.{of_none}
use Rattle.image_body.specs.Expr.{Exprs, Scope, exprs_at}
use Rattle.image_body.specs.Stmt.{StmtHead, Front, Block, value_flag, value_count, type_width, block_count, else_flag, stmt_head_at, values_at, front_at, back_at, stmt_at, block_at, stmts_at}
use Rattle.image_reading.specs.Answer.{stmt_start_of, front_of}
use Rattle.image_reading.proofs.Reading.{empty-field}

pub head_ok : {x : Parsed StmtHead} {k p : ℕ} {r : Result (ℕ × ℕ) Fault} → coded r ≡ stmt_start_of x → r ≡ Ok (k, p) → (h : StmtHead) × (x ≡ ok h p) × (h.tag ≡ k)
unfolding stmt_start_of
head_ok {x = ok h q} {k} {p} e f = let z : ◌≡◌ {A = ℕ × ℕ} (h.tag, q) (k, p) = cc in (h, ap (λ y. ok h y.1) z, ap (λ y. y.0) z)
head_ok {x = fault n} {k} {p} {r} e f = let z : ◌≡◌ {A = ℕ} 0 1 = cc in absurd (omega arith)

pub head-bad : {x : Parsed StmtHead} {n : Fault} {r : Result (ℕ × ℕ) Fault} → coded r ≡ stmt_start_of x → r ≡ Err n → x ≡ fault (fault_number n)
unfolding stmt_start_of
head-bad {x = ok h q} e f = cc
head-bad {x = fault n} e f = cc

pub front-ok : {x : Parsed Front} {k p : ℕ} {r : Result (ℕ × ℕ) Fault} → coded r ≡ front_of x → r ≡ Ok (k, p) → (h : Front) × (x ≡ ok h p) × (h.head.tag ≡ k)
unfolding front_of
front-ok {x = ok h q} {k} {p} e f = let z : ◌≡◌ {A = ℕ × ℕ} (h.head.tag, q) (k, p) = cc in (h, ap (λ y. ok h y.1) z, ap (λ y. y.0) z)
front-ok {x = fault n} {k} {p} {r} e f = let z : ◌≡◌ {A = ℕ} 0 1 = cc in absurd (omega arith)

pub front-bad : {x : Parsed Front} {n : Fault} {r : Result (ℕ × ℕ) Fault} → coded r ≡ front_of x → r ≡ Err n → x ≡ fault (fault_number n)
unfolding front_of
front-bad {x = ok h q} e f = cc
front-bad {x = fault n} e f = cc

stmt-tag : (names types : ℕ) (s : List ℕ) (at : ℕ) (h : StmtHead) (p : ℕ) → stmt_head_at names types s at ≡ ok h p → h.tag < 11
unfolding stmt_head_at
stmt-tag names types s at h p e =
    let g1 = ensure-ok _ e in
    let g2 = ensure-ok _ g1.1 in
    let g3 = ensure-ok _ g2.1 in
    let g4 = ensure-ok _ g3.1 in
    let l : get_or s at 0 < 11 = ltb-true _ _ g2.0 in
    let k : get_or s at 0 ≡ h.tag = cc in
    omega arith

pub head_small : (names types : ℕ) (s : List ℕ) (at : ℕ) {k p : ℕ} {r : Result (ℕ × ℕ) Fault} → coded r ≡ stmt_start_of (stmt_head_at names types s at) → r ≡ Ok (k, p) → k < 11
head_small names types s at e f = let g = head_ok e f in let l = stmt-tag _ _ _ _ _ _ g.1 in omega (arith, g.2, l)

front-tag : (t : Scope) (s : List ℕ) (at : ℕ) (h : Front) (p : ℕ) → front_at t s at ≡ ok h p → h.head.tag < 11
unfolding front_at values_at
front-tag t s at h p e =
    bound e (λ g q e1 e2. bound e2 (λ n r e3 e4. bound e4 (λ es u e5 e6. bound e6 (λ l v e7 e8.
    let k : g.tag ≡ h.head.tag = cc in
    let small = stmt-tag _ _ _ _ _ _ e1 in
    omega arith))))

pub front-small : (t : Scope) (s : List ℕ) (at : ℕ) {k p : ℕ} {r : Result (ℕ × ℕ) Fault} → coded r ≡ front_of (front_at t s at) → r ≡ Ok (k, p) → k < 11
front-small t s at e f = let g = front-ok e f in let l = front-tag _ _ _ _ _ g.1 in omega (arith, g.2, l)

pub flag_small : (k : ℕ) (s : List ℕ) (at : ℕ) {n p : ℕ} {r : Result (ℕ × ℕ) Fault} → coded r ≡ number_of (field_at 8 2 k s at) → r ≡ Ok (n, p) → n < 2
flag_small k s at e f = (field-ok (number_ok e f)).small

-- a statement's front
module _ (t : Scope) (s : List ℕ) (at : ℕ) where
  pub front-head-bad : {n : ℕ} → stmt_head_at t.names t.types s at ≡ fault n → Err n ≡ front_of (front_at t s at)
  unfolding front_at front_of bind
  front-head-bad e = rw e

  pub front-values : {h : StmtHead} {p : ℕ} → stmt_head_at t.names t.types s at ≡ ok h p → front_at t s at ≡ values_at t s h p
  unfolding front_at bind
  front-values e = rw e

module _ (t : Scope) (s : List ℕ) (h : StmtHead) (p : ℕ) {k : ℕ} (ek : k ≡ get_or value_flag h.tag 0) where
  pub flag-stop : {n : ℕ} → field_at 8 2 k s p ≡ fault n → Err n ≡ front_of (values_at t s h p)
  unfolding values_at bind front_of
  flag-stop e = simp (← ek, e)

  module _ {n q : ℕ} (e1 : field_at 8 2 k s p ≡ ok n q) {m : ℕ} (em : m ≡ get_or value_count h.tag 0) where
    pub values-stop : {j : ℕ} → exprs_at t s t.expr_depth (m + n) q ≡ fault j → Err j ≡ front_of (values_at t s h p)
    unfolding values_at bind front_of
    values-stop e = simp (← ek, e1, ← em, e)

    module _ {es : Exprs} {r : ℕ} (e2 : exprs_at t s t.expr_depth (m + n) q ≡ ok es r) {j : ℕ} (ej : j ≡ get_or type_width h.tag 0) where
      pub last-stop : {i : ℕ} → field_at 8 t.types j s r ≡ fault i → Err i ≡ front_of (values_at t s h p)
      unfolding values_at bind front_of
      last-stop e = simp (← ek, e1, ← em, e2, ← ej, e)

      pub front-done : {l u : ℕ} → field_at 8 t.types j s r ≡ ok l u → Ok (h.tag, u) ≡ front_of (values_at t s h p)
      unfolding values_at bind front_of
      front-done e = simp (← ek, e1, ← em, e2, ← ej, e)

-- a statement's blocks
module _ (f : ℕ → Parsed Block) (s : List ℕ) (h : Front) (p : ℕ) {k : ℕ} (ek : k ≡ get_or block_count h.head.tag 0) where
  pub blocks-stop : {n : ℕ} → many_of [] ◌∷◌ f k p ≡ fault n → Err n ≡ read_of (back_at f s h p)
  unfolding back_at bind read_of
  blocks-stop e = simp (← ek, e)

  module _ {bs : List Block} {q : ℕ} (e1 : many_of [] ◌∷◌ f k p ≡ ok bs q) {m : ℕ} (em : m ≡ get_or else_flag h.head.tag 0) where
    pub else-stop : {n : ℕ} → field_at 8 2 m s q ≡ fault n → Err n ≡ read_of (back_at f s h p)
    unfolding back_at bind read_of
    else-stop e = simp (← ek, e1, ← em, e)

    pub back_done : {n r : ℕ} → field_at 8 2 m s q ≡ ok n r → read_of (back_at f s h p) ≡ read_of (many_of [] ◌∷◌ f n r)
    unfolding back_at bind
    back_done {n} {r} e = simp (← ek, e1, ← em, e) (mapped (many_of [] ◌∷◌ f n r) (λ cs. record { front = h; blocks = bs; others = cs }))

-- a statement without blocks has no flag before an else either
elseless : ℕ → ℕ → Bool
elseless k x = not (eqb x 0) || eqb (get_or else_flag k 0) 0

no-else : (k : ℕ) → k < 11 → 0 ≡ get_or block_count k 0 → 0 ≡ get_or else_flag k 0
unfolding elseless block_count else_flag
no-else k lt e = sym (eqb→eq _ _ (rw (← e) at (at elseless block_count tt k lt)))

pub no_blocks : (f : ℕ → Parsed Block) (s : List ℕ) (h : Front) (p : ℕ) → h.head.tag < 11 → 0 ≡ get_or block_count h.head.tag 0 → Ok p ≡ read_of (back_at f s h p)
unfolding many_of
no_blocks f s h p lt e = of_none [] ◌∷◌ f 0 (omega arith) ∙ sym (back_done f s h p e refl (no-else _ lt e) (empty-field 2 s p (omega arith)))

module _ (f : ℕ → Parsed Block) (t : Scope) (s : List ℕ) (at : ℕ) where
  pub stmt-stop : {n : ℕ} → front_at t s at ≡ fault n → Err n ≡ read_of (stmt_at f t s at)
  unfolding stmt_at bind read_of
  stmt-stop e = rw e

  pub stmt-back : {h : Front} {p : ℕ} → front_at t s at ≡ ok h p → stmt_at f t s at ≡ back_at f s h p
  unfolding stmt_at bind
  stmt-back e = rw e

module _ (t : Scope) (s : List ℕ) where
  pub block-deep : (d at : ℕ) → d ≡ 0 → Err 9 ≡ read_of (block_at t s d at)
  unfolding block_at read_of
  block-deep d at e = rw e

  pub block-short : (d at : ℕ) {r : ℕ} → (d ≡ 0 → ⊥) → r ≡ length s - at → r < 6 → Err 8 ≡ read_of (block_at t s d at)
  unfolding block_at read_of ensure
  block-short zero at f e lt = absurd (f refl)
  block-short (suc d) at f e lt = simp (← e, lt-leb _ _ lt)

  pub block-stmts : (d at : ℕ) {r n : ℕ} → (d ≡ 0 → ⊥) → r ≡ length s - at → 6 ≤ r → n ≡ two s (at + 4)
      → read_of (block_at t s d at) ≡ read_of (stmts_at t s (d - 1) n (at + 6))
  unfolding block_at ensure
  block-stmts zero at f e le en = absurd (f refl)
  block-stmts (suc d) at {r} {n} f e le en =
      let g : suc d - 1 ≡ d = omega arith in
      simp (← e, le-leb _ _ le, ← en, g) (mapped (stmts_at t s d n (at + 6)) (λ c. record { span = four s at; code = c }))
