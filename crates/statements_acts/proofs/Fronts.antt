-- The bytes of a statement up to its blocks, of whatever statement was read there.
-- Assumes nothing.
use mathlib.Core.Option.{Option}
use mathlib.Core.Path.{◌≡◌, refl, sym, ap, ◌∙◌, subst}
use mathlib.Core.List.{List, [], ◌∷◌, ◌++◌}
use mathlib.Core.Bool.{Bool, true, false, cond}
use mathlib.Core.Logic.{⊎_elim}
use Prim.Native.Nat.{ℕ, ◌+◌, ◌≤◌, ◌<◌}
use native.Mathlib.Omega.{arith}
use lib.ListN.{length, get_or}
use Rattle.image_fields.specs.Parsed.{Parsed, ok}
use Rattle.image_fields.specs.Number.{two, four}
use Rattle.image_fields.specs.Bytes.{four_bytes, Bytes}
use Rattle.image_fields.proofs.Tests.{less}
use Rattle.tables.specs.Tables.{Tables}
use Rattle.image_body.specs.Expr.{Scope as Reading, Expr, expr_at}
use Rattle.image_body.specs.Stmt.{Tree, Block, Stmt, variable, assign, return, bare_return, jump, head_bytes, value_flag, value_count, stmt_at, before}
use Rattle.image_body.specs.Stands.{Stands}
use Rattle.image_body.proofs.Standing.{stands, ends}
use Rattle.image_body.proofs.Statements.{Bound, stmt-tag, stmt-block, stmt-return, stmt-let, stmt-const, stmt-assign, stmt-if, stmt-while, stmt-break, stmt-continue}
use Rattle.image_encoding.specs.Body.{encode_expr}
use Rattle.image_encoding.specs.Written.{Written}
use Rattle.image_encoding.proofs.Parts.{byte_at, then, upto, being, two_at, four-at}
use Rattle.image_encoding.proofs.ExprWritten.{expr-written}
use Rattle.rules.specs.State.{State as Status}
use Rattle.rules.specs.Rules.{Switches}
use Rattle.rules.specs.Stack.{Stack as Scope}
use Rattle.statements_returns.specs.Front.{front_of}
use Rattle.statements_steps.specs.Statement.{front_size, front_drops, own_bytes, front_reports, settle}
use Rattle.statements_acts.specs.Act.{FrontThere}
use Rattle.statements_acts.specs.Parts.{Untouched}
use Rattle.statements_acts.proofs.Slices.{no_value, one_value, two-values}

-- the bytes of a statement up to its blocks stand from `at` up to `to`
pub record Front (T : Tables) (s : List ℕ) (at to : ℕ) (c : Tree) : Type 0 where
  pub written : Written s at (own_bytes T c) to
  pub size : to ≡ at + front_size c
  pub inside : to ≤ length s

-- nothing is put before it, nothing reported and no local changed
pub record Plainly (T : Tables) (c : Tree) : Type 0 where
  pub drops : (w : Switches) (loop : Option ℕ) (σ : Scope Status) → front_drops w T c loop σ ≡ []
  pub reports : (w : Switches) (loop : Option ℕ) (at : ℕ) (σ : Scope Status) → front_reports w T c loop at σ ≡ []
  pub settles : (d : ℕ) (σ : Scope Status) → settle T c d σ ≡ σ

-- tag and span
pub head_bytes_lem : (s : List ℕ) → Bytes s → (at k : ℕ) → get_or s at 0 ≡ k → at + 5 ≤ length s → Written s at (k ∷ four_bytes (four s (at + 1))) (at + 5)
head_bytes_lem s small at k e le =
    being (ap (λ x. x ∷ four_bytes (four s (at + 1))) e) (upto (omega arith) (then (byte_at s at (omega arith)) (four-at s small (at + 1) (omega arith))))

module _ (T : Tables) (s : List ℕ) (small : Bytes s) (at end : ℕ) (g : FrontThere s at end) (f : ℕ → Parsed Block) (t : Reading) (x : Stmt) (next : ℕ)
    (read : stmt_at f t s at ≡ ok x next) where
  -- a value that was read
  value_written : (p : ℕ) (e : Expr) (q : ℕ) → expr_at t s t.expr_depth p ≡ ok e q → Written s p (encode_expr e) q
  value_written = expr-written s small t t.expr_depth

  value-stands : (p : ℕ) (e : Expr) (q : ℕ) → expr_at t s t.expr_depth p ≡ ok e q → Stands e s p q
  value-stands = stands t s t.expr_depth

  front-block : get_or s at 0 ≡ 1 → (r : Tree) → Front T s at end (before x r) × Plainly T (before x r)
  unfolding head_bytes value_flag value_count
  front-block k r =
      let v = stmt-block f t s at x next read k in
      let l : at + 1 ≤ length s = v.1 in
      let e : end ≡ at + 1 = no_value s at end g 1 k (omega arith) refl in
      subst (λ c. Front T s at end c × Plainly T c) (sym (v.3 r)) (
        record { written = upto (sym e) (being (ap (λ x. x ∷ []) k) (byte_at s at (omega arith))); size = e; inside = omega arith },
        record { drops = λ w l σ. refl; reports = λ w l i σ. refl; settles = λ d σ. refl },
      )

  -- a statement with one value behind its span
  spanned : (k : ℕ) → get_or s at 0 ≡ k → at + 5 ≤ length s → (e : Expr) (q : ℕ) → expr_at t s t.expr_depth (at + 5) ≡ ok e q
      → (front_of s at k).first ≡ at + 5 → (front_of s at k).values ≡ 1
      → Written s at (k ∷ (four_bytes (four s (at + 1)) ++ encode_expr e)) end × (end ≡ at + (5 + length (encode_expr e))) × (end ≤ length s)
  spanned k ek le e q y f1 f2 =
      let w = value_written (at + 5) e q y in
      let st = value-stands (at + 5) e q y in
      let z : end ≡ q = one_value s at end g k ek f1 f2 e q st in
      let b = ends e s (at + 5) q st in
      let n = w.end in
      (upto (sym z) (then (head_bytes_lem s small at k ek le) w), omega arith, omega arith)

  front-if : get_or s at 0 ≡ 7 → (r : Tree) → Front T s at end (before x r) × Plainly T (before x r)
  unfolding head_bytes value_flag value_count
  front-if k r =
      let v = stmt-if f t s at x next read k in
      let w = spanned 7 k v.room v.e v.p v.value (omega arith) refl in
      ⊎_elim {C = Front T s at end (before x r) × Plainly T (before x r)}
      (λ z. subst (λ c. Front T s at end c × Plainly T c) (sym ((v.with z).2 r)) (
        record { written = w.0; size = w.1; inside = w.2 },
        record { drops = λ w l σ. refl; reports = λ w l i σ. refl; settles = λ d σ. refl },
      ))
      (λ z. let e : get_or s v.q 0 ≡ 0 = omega arith in
      subst (λ c. Front T s at end c × Plainly T c) (sym ((v.without e).1 r)) (
        record { written = w.0; size = w.1; inside = w.2 },
        record { drops = λ w l σ. refl; reports = λ w l i σ. refl; settles = λ d σ. refl },
      )) (less 0 (get_or s v.q 0))

  front-while : get_or s at 0 ≡ 8 → (r : Tree) → Front T s at end (before x r) × Plainly T (before x r)
  unfolding head_bytes value_flag value_count
  front-while k r =
      let v = stmt-while f t s at x next read k in
      let w = spanned 8 k v.3 v.0 v.1 v.4 (omega arith) refl in
      subst (λ c. Front T s at end c × Plainly T c) (sym (v.6 r)) (
        record { written = w.0; size = w.1; inside = w.2 },
        record { drops = λ w l σ. refl; reports = λ w l i σ. refl; settles = λ d σ. refl },
      )

  pub front-plain : Untouched (get_or s at 0) → (r : Tree) → Front T s at end (before x r) × Plainly T (before x r)
  unfolding head_bytes value_flag value_count
  front-plain u r =
      let h = stmt-tag f t s at x next read in
      let low = h.0 in
      let high = h.1 in
      ⊎_elim {C = Front T s at end (before x r) × Plainly T (before x r)} (λ l. let k : get_or s at 0 ≡ 1 = omega arith in front-block k r)
      (λ l. ⊎_elim {C = Front T s at end (before x r) × Plainly T (before x r)} (λ a. let k : get_or s at 0 ≡ 7 = omega (arith, l.0) in front-if k r)
      (λ a. let k : get_or s at 0 ≡ 8 = omega (arith, l.1) in front-while k r) (less (get_or s at 0) 8)) u

  -- a Let or Const
  pub record FrontVariable (r : Tree) : Type 0 where
    pub b : Bool
    pub e : Expr
    pub q : ℕ
    pub stands : Stands e s (at + 9) q
    pub is : before x r ≡ variable b (four s (at + 1)) (two s (at + 5)) (two s (at + 7)) e r
    pub front : Front T s at end (variable b (four s (at + 1)) (two s (at + 5)) (two s (at + 7)) e r)

  bound-front : (b : Bool) (k : ℕ) → get_or s at 0 ≡ k → k ≡ cond b 5 4 → (front_of s at k).first ≡ at + 9 → (front_of s at k).values ≡ 1
      → Bound t s at x next b → (r : Tree) → FrontVariable r
  bound-front b k ek kb f1 f2 v r =
      let l = v.room in
      let w = value_written (at + 9) v.e next v.value in
      let st = value-stands (at + 9) v.e next v.value in
      let z : end ≡ next = one_value s at end g k ek f1 f2 v.e next st in
      let i = ends v.e s (at + 9) next st in
      let n = w.end in
      record {
        b = b;
        e = v.e;
        q = next;
        stands = st;
        is = v.is r;
        front = record {
          written = upto (sym z) (then (head_bytes_lem s small at (cond b 5 4) (ek ∙ kb) (omega arith))
              (then (upto (omega arith) (two_at s small (at + 5) (omega arith))) (then (upto (omega arith) (two_at s small (at + 7) (omega arith))) w)));
          size = omega arith;
          inside = omega arith;
        };
      }

  pub front-variable : 3 < get_or s at 0 → get_or s at 0 < 6 → (r : Tree) → FrontVariable r
  unfolding head_bytes value_flag value_count
  front-variable low high r =
      ⊎_elim {C = FrontVariable r} (λ l. let k : get_or s at 0 ≡ 4 = omega arith in bound-front false 4 k refl (omega arith) refl (stmt-let f t s at x next read k) r)
      (λ l. let k : get_or s at 0 ≡ 5 = omega arith in bound-front true 5 k refl (omega arith) refl (stmt-const f t s at x next read k) r) (less (get_or s at 0) 5)

  -- an Assign
  pub record FrontAssign (r : Tree) : Type 0 where
    pub e : Expr
    pub p : ℕ
    pub v : Expr
    pub ty : ℕ
    pub destination : expr_at t s t.expr_depth (at + 5) ≡ ok e p
    pub stands : Stands e s (at + 5) p
    pub other : Stands v s p end
    pub is : before x r ≡ assign (four s (at + 1)) e v ty tt r
    pub front : Front T s at (end + 2) (assign (four s (at + 1)) e v ty tt r)

  pub front-assign : get_or s at 0 ≡ 6 → (r : Tree) → FrontAssign r
  unfolding head_bytes value_flag value_count
  front-assign k r =
      let v = stmt-assign f t s at x next read k in
      let sd = value-stands (at + 5) v.d v.p v.destination in
      let sv = value-stands v.p v.e v.q v.value in
      let z : end ≡ v.q = two-values s at end g 6 k (omega arith) refl v.d v.e v.p v.q sd sv in
      let wd = value_written (at + 5) v.d v.p v.destination in
      let wv = value_written v.p v.e v.q v.value in
      let nd = wd.end in
      let nv = wv.end in
      let n = v.next in
      let i = v.end in
      let l = v.room in
      record {
        e = v.d;
        p = v.p;
        v = v.e;
        ty = two s v.q;
        destination = v.destination;
        stands = sd;
        other = subst (λ y. Stands v.e s v.p y) (sym z) sv;
        is = v.is r;
        front = record {
          written = upto (ap (λ y. y + 2) (sym z)) (then (head_bytes_lem s small at 6 k l) (then wd (then wv (two_at s small v.q (omega arith)))));
          size = omega arith;
          inside = omega arith;
        };
      }

  -- a Return with a value
  pub record FrontReturn (r : Tree) : Type 0 where
    pub e : Expr
    pub ty : ℕ
    pub stands : Stands e s (at + 6) end
    pub is : before x r ≡ return (four s (at + 1)) e ty tt r
    pub front : Front T s at (end + 2) (return (four s (at + 1)) e ty tt r)

  pub front-return : get_or s at 0 ≡ 2 → get_or s (at + 5) 0 ≡ 1 → (r : Tree) → FrontReturn r
  unfolding head_bytes value_flag value_count
  front-return k o r =
      let u = stmt-return f t s at x next read k in
      let l = u.room in
      let v = u.value (omega arith) in
      let st = value-stands (at + 6) v.0 v.1 v.2 in
      let z : end ≡ v.1 = one_value s at end g 2 k (omega arith) (omega arith) v.0 v.1 st in
      let w = value_written (at + 6) v.0 v.1 v.2 in
      let n = w.end in
      let i : next ≡ v.1 + 2 = v.3 in
      let j : next ≤ length s = v.4 in
      record {
        e = v.0;
        ty = two s v.1;
        stands = subst (λ y. Stands v.0 s (at + 6) y) (sym z) st;
        is = v.6 r;
        front = record {
          written = upto (ap (λ y. y + 2) (sym z)) (then (head_bytes_lem s small at 2 k (omega arith))
              (then (being (ap (λ y. y ∷ []) o) (upto (omega arith) (byte_at s (at + 5) (omega arith)))) (then w (two_at s small v.1 (omega arith)))));
          size = omega arith;
          inside = omega arith;
        };
      }

-- a Return without a value
module _ (T : Tables) (s : List ℕ) (small : Bytes s) (at : ℕ) (f : ℕ → Parsed Block) (t : Reading) (x : Stmt) (next : ℕ) (read : stmt_at f t s at ≡ ok x next) where
  jump-written : (b : Bool) (k : ℕ) → get_or s at 0 ≡ k → k ≡ cond b 10 9
      → (next ≡ at + 5) × (next ≤ length s) × ((c : Tree) → before x c ≡ jump b (four s (at + 1)) tt c) → (r : Tree)
      → (before x r ≡ jump b (four s (at + 1)) tt r) × Front T s at (at + 5) (jump b (four s (at + 1)) tt r)
  jump-written b k ek kb v r =
      let l : at + 5 ≤ length s = subst (λ y. y ≤ length s) v.0 v.1 in
      (v.2 r, record { written = head_bytes_lem s small at (cond b 10 9) (ek ∙ kb) l; size = refl; inside = l })

  -- a Break or Continue
  pub front-jump : 8 < get_or s at 0 → (r : Tree) → (b : Bool) × (before x r ≡ jump b (four s (at + 1)) tt r) × Front T s at (at + 5) (jump b (four s (at + 1)) tt r)
  front-jump low r =
      let high = (stmt-tag f t s at x next read).1 in
      ⊎_elim {C = (b : Bool) × (before x r ≡ jump b (four s (at + 1)) tt r) × Front T s at (at + 5) (jump b (four s (at + 1)) tt r)}
      (λ c. let k : get_or s at 0 ≡ 9 = omega arith in let w = jump-written false 9 k refl (stmt-break f t s at x next read k) r in (false, w.0, w.1))
      (λ c. let k : get_or s at 0 ≡ 10 = omega arith in let w = jump-written true 10 k refl (stmt-continue f t s at x next read k) r in (true, w.0, w.1))
      (less (get_or s at 0) 10)

  pub front-bare : get_or s at 0 ≡ 2 → get_or s (at + 5) 0 ≡ 0 → (r : Tree)
      → (before x r ≡ bare_return (four s (at + 1)) (two s (at + 6)) tt r) × Front T s at (at + 8) (bare_return (four s (at + 1)) (two s (at + 6)) tt r)
  front-bare k o r =
      let u = stmt-return f t s at x next read k in
      let v = u.bare o in
      let n : next ≡ at + 8 = v.0 in
      let i : next ≤ length s = v.1 in (
        v.3 r,
        record {
          written = upto (omega arith) (then (head_bytes_lem s small at 2 k (omega arith))
              (then (being (ap (λ y. y ∷ []) o) (upto (omega arith) (byte_at s (at + 5) (omega arith)))) (two_at s small (at + 6) (omega arith))));
          size = refl;
          inside = omega arith;
        },
      )
