-- The steps of a statement that was read.
-- Assumes nothing.
use mathlib.Core.Path.{◌≡◌, sym, ap, ◌∙◌, subst, subst₂}
use mathlib.Core.List.{List, [], ◌∷◌}
use Prim.Native.Nat.{ℕ, zero, suc, ◌+◌, ◌≤◌, ◌<◌}
use native.Mathlib.Omega.{arith}
use lib.ListN.{get_or}
use Rattle.image_fields.specs.Parsed.{Parsed, ok}
use Rattle.image_fields.specs.Number.{field_at}
use Rattle.image_fields.specs.Table.{many_of}
use Rattle.image_fields.proofs.Inverse.{bound}
use Rattle.image_fields.proofs.Numbers.{field-ok}
use Rattle.image_body.specs.Expr.{Scope, exprs_at}
use Rattle.image_body.specs.Stmt.{Block, Front, Stmt, value_flag, value_count, type_width, block_count, else_flag, stmt_head_at, values_at, front_at, back_at, stmt_at}

pub record StmtRead (f : ℕ → Parsed Block) (t : Scope) (s : List ℕ) (x : Stmt) (p q : ℕ) : Type 0 where
  pub flag : ℕ
  pub other : ℕ
  pub p1 : ℕ
  pub p2 : ℕ
  pub p3 : ℕ
  pub p4 : ℕ
  pub p5 : ℕ
  pub p6 : ℕ
  pub head : stmt_head_at t.names t.types s p ≡ ok x.front.head p1
  pub flagged : field_at 8 2 (get_or value_flag x.front.head.tag 0) s p1 ≡ ok flag p2
  pub values : exprs_at t s t.expr_depth (get_or value_count x.front.head.tag 0 + flag) p2 ≡ ok x.front.values p3
  pub last : field_at 8 t.types (get_or type_width x.front.head.tag 0) s p3 ≡ ok x.front.last p4
  pub blocks : many_of [] ◌∷◌ f (get_or block_count x.front.head.tag 0) p4 ≡ ok x.blocks p5
  pub followed : field_at 8 2 (get_or else_flag x.front.head.tag 0) s p5 ≡ ok other p6
  pub others : many_of [] ◌∷◌ f other p6 ≡ ok x.others q

module _ (f : ℕ → Parsed Block) (t : Scope) (s : List ℕ) where
  front_read : (x : Stmt) (p q : ℕ) (front : Front) (p4 : ℕ) → front_at t s p ≡ ok front p4 → back_at f s front p4 ≡ ok x q → StmtRead f t s x p q
  unfolding front_at values_at back_at
  front_read x p q front p4 ef eb =
      bound ef (λ h p1 eh ev. bound ev (λ n p2 en ew. bound ew (λ es p3 ees el. bound el (λ l u el1 eo.
      bound eb (λ bs p5 ebs e5. bound e5 (λ m p6 em e6. bound e6 (λ cs v ecs e7.
      let y : u ≡ p4 = cc in
      let z : record { head = h; values = es; last = l } ≡ front = cc in
      let k : front.head.tag ≡ h.tag = ap (λ r. r.head.tag) (sym z) in
      let w : v ≡ q = cc in
      let a : record { front = record { head = h; values = es; last = l }; blocks = bs; others = cs } ≡ x =
      ap (λ r. record { front = r; blocks = bs; others = cs }) z ∙ cc in
      subst₂ (λ r i. StmtRead f t s r p i) a w record {
        flag = n;
        other = m;
        p1 = p1;
        p2 = p2;
        p3 = p3;
        p4 = p4;
        p5 = p5;
        p6 = p6;
        head = eh;
        flagged = en;
        values = ees;
        last = subst (λ r. field_at 8 t.types (get_or type_width h.tag 0) s p3 ≡ ok l r) y el1;
        blocks = subst (λ r. many_of [] ◌∷◌ f (get_or block_count r 0) p4 ≡ ok bs p5) k ebs;
        followed = subst (λ r. field_at 8 2 (get_or else_flag r 0) s p5 ≡ ok m p6) k em;
        others = ecs;
      })))))))

  pub stmt-read : (x : Stmt) (p q : ℕ) → stmt_at f t s p ≡ ok x q → StmtRead f t s x p q
  unfolding stmt_at
  stmt-read x p q e = bound e (λ front p4 ef eb. front_read x p q front p4 ef eb)

-- a flag is 0, or 1 where it has a byte
pub flag_small : (k : ℕ) (s : List ℕ) (p n q : ℕ) → k ≤ 1 → field_at 8 2 k s p ≡ ok n q → n < 1 + k
flag_small zero s p n q le e = let z : n ≡ 0 = (field-ok e).is in omega arith
flag_small (suc zero) s p n q le e = (field-ok e).small
flag_small (suc (suc k)) s p n q le e = absurd (omega arith)
