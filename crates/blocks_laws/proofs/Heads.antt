-- A block's head, and the walk of the block from that of its statements.
-- Assumes nothing.
use Prim.Native.Nat.{ℕ, suc, ◌+◌, ◌-◌, ◌≤◌, ◌<◌}
use native.Mathlib.Omega.{arith}
use mathlib.Core.Path.{◌≡◌, refl, sym, ap, ◌∙◌, subst}
use mathlib.Core.List.{List}
use mathlib.Core.Option.{Option, none}
use lib.ListN.{length}
use lib.Seq.{slice}
use Rattle.rules.specs.Rules.{Switches}
use Rattle.image_fields.specs.Parsed.{ok}
use Rattle.image_fields.specs.Number.{two, four}
use Rattle.image_fields.specs.Bytes.{Bytes, four_bytes}
use Rattle.tables.specs.Limits.{version1}
use Rattle.tables.specs.Tables.{Tables}
use Rattle.image_body.specs.Expr.{Scope as Reading}
use Rattle.image_body.specs.Stmt.{Block, block_at, stmts_at}
use Rattle.image_body.proofs.Statements.{block-parts}
use Rattle.image_encoding.proofs.Parts.{four-at}
use Rattle.rules.specs.State.{State as Status}
use Rattle.rules.specs.Stack.{Stack as Scope}
use Rattle.rules.specs.Walk.{walk_fault}
use Rattle.image_writing.specs.Stored.{Stored}
use Rattle.image_writing.proofs.Stores.{four-length}
use Rattle.statements_returns.specs.Returns.{BlockThere}
use Rattle.statements_acts.specs.declared.Place.{Place}
use Rattle.statements_acts.specs.Act.{Grows}
use Rattle.statements_acts.proofs.Slices.{written-slice}
use Rattle.statements_steps.specs.Own.{number_of}
use Rattle.rules.proofs.Numbers.{real-walk}
use Rattle.statements_steps.proofs.Faults.{real-none}
use Rattle.image_writing.specs.Memory.{Memory, memory}
use Rattle.blocks_laws.specs.Walks.{Walked, Leads, StmtsThere, StmtsWalk, BlockWalks}
use Rattle.blocks_laws.specs.Ends.{Ends}
use Rattle.blocks_laws.proofs.Blocks.{Inside, block-done}
use Rattle.blocks_laws.specs.Places.{headed}

-- the span that a block's head copies
pub span-stored : (s : List ℕ) → Bytes s → (at : ℕ) → at + 6 ≤ length s → {out out' : List ℕ} {i k : ℕ} → Stored out i (slice at (at + 4) s) out' k → Stored out i (four_bytes (four s at)) out' k
span-stored s small at room {out} {out'} {i} {k} x = subst (λ (v : List ℕ). Stored out i v out' k) (written-slice (four-at s small at (omega arith))) x

pub span-length : (s : List ℕ) → Bytes s → (at : ℕ) → at + 6 ≤ length s → {out out' : List ℕ} {i k : ℕ} → Stored out i (slice at (at + 4) s) out' k → k ≡ i + 4
span-length s small at room x = let g = (span-stored s small at room x).place in let l = four-length (four s at) in omega arith

module _ (s : List ℕ) (p : Place) (gap : ℕ) (room : p.at + 6 ≤ length s) (eg : gap ≡ p.written + 4) where
  pub head-grows : Grows s p (headed p gap)
  head-grows = record { on = omega arith; inside = room; written = omega arith; errors = omega arith; warnings = omega arith; lefts = omega arith; inserted = omega arith }

  pub head-inside : Inside s p (headed p gap) gap
  head-inside = record { at = refl; written = refl; errors = refl; warnings = refl; lefts = refl; inserted = refl; fits = refl; paged = refl }

-- the statements of a block that was read
pub stmts-in : (s : List ℕ) (left left' at total at' : ℕ) → left' ≡ left - 1 → total ≡ two s (at + 4) → at' ≡ at + 6 → BlockThere s left at → StmtsThere s left' total at'
stmts-in s left left' at total at' el et ep b =
    let g = block-parts b.t s left at b.b b.next b.read in
    record {
      t = b.t;
      deep = b.deep;
      c = b.b.code;
      end = b.next;
      read = subst (λ (i : ℕ). stmts_at b.t s left' total i ≡ ok b.b.code b.next) (sym ep)
          (subst (λ (k : ℕ). stmts_at b.t s left' k (at + 6) ≡ ok b.b.code b.next) (sym et)
          (subst (λ (l : ℕ). stmts_at b.t s l (two s (at + 4)) (at + 6) ≡ ok b.b.code b.next) (sym el) g.stmts));
    }

-- the walk of a block's statements, said of the block: depths and places as the code has them
module _ (sw : Switches) (T : Tables) (s : List ℕ) (left left' total : ℕ) (loop : Option ℕ) (σ : Scope Status) (p q : Place) (gap : ℕ) (w : Walked) (m m₁ m₂ : Memory)
    (low : 0 < left) (high : left ≤ 12) (el : left' ≡ left - 1) (et : total ≡ two s (p.at + 4)) (eq : q ≡ headed p gap)
    (walk : StmtsWalk sw T s left' (12 - left') loop total σ q m₁ w m₂) where
  -- a walk of the statements of depth suc (12 - left)
  depth_same : 12 - left' ≡ suc (12 - left)
  depth_same = omega arith

  inner : (t : Reading) → t.expr_depth ≡ 24 → (b : Block) (n : ℕ) → block_at t s left p.at ≡ ok b n
      → (w.fault ≡ number_of (walk_fault version1 sw T b.code (suc (12 - left)) σ))
      × (walk_fault version1 sw T b.code (suc (12 - left)) σ ≡ none
      → Leads sw T s t (left - 1) (suc (12 - left)) loop (two s (p.at + 4)) b.code σ (headed p gap) m₁ 0 w.locals w.place m₂ n)
  inner t deep b n e =
      let g = block-parts t s left p.at b n e in
      let sw1 = subst (λ (l : ℕ). StmtsWalk sw T s l (12 - left') loop total σ q m₁ w m₂) el walk in
      let sw2 = subst (λ (d : ℕ). StmtsWalk sw T s (left - 1) d loop total σ q m₁ w m₂) depth_same sw1 in
      let sw3 = subst (λ (k : ℕ). StmtsWalk sw T s (left - 1) (suc (12 - left)) loop k σ q m₁ w m₂) et sw2 in
      let sw4 = subst (λ (x : Place). StmtsWalk sw T s (left - 1) (suc (12 - left)) loop (two s (p.at + 4)) σ x m₁ w m₂) eq sw3 in
      sw4.walks t deep b.code n g.stmts

  pub head-fault : 0 < w.fault → BlockWalks sw T s left (suc (12 - left)) loop σ p m w m₂
  head-fault lt = record {
    walks = λ t deep b n e.
        let i = inner t deep b n e in
        let f = i.0 in
        (f, λ z. let y = f ∙ ap number_of z in absurd (omega arith));
  }

  pub head_walks : (small : Bytes s) (room : p.at + 6 ≤ length s) (eg : gap ≡ p.written + 4) → w.fault ≤ 0 → (r : Walked) (out' : List ℕ)
      → Stored m.out p.written (four_bytes (four s p.at)) m₁.out gap
      → Ends sw T s left (suc (12 - left)) w.locals p gap w.place m₂.out r out'
      → m₁.errs ≡ m.errs → m₁.warns ≡ m.warns → m₁.lefts ≡ m.lefts
      → BlockWalks sw T s left (suc (12 - left)) loop σ p m r (memory out' m₂.errs m₂.warns m₂.lefts)
  head_walks small room eg z r out' head ends a₁ a₂ a₃ = record {
    walks = λ t deep b n e.
        let i = inner t deep b n e in
        let f = i.0 in
        let clear = real-none (walk_fault version1 sw T b.code (suc (12 - left)) σ) (real-walk version1 sw T b.code (suc (12 - left)) σ) (sym f ∙ omega arith) in (
          ends.fault ∙ ap number_of (sym clear),
          λ nil. block-done sw T s t deep left (suc (12 - left)) loop b n σ w.locals p (headed p gap) w.place m m₁ m₂ gap r out'
              (block-parts t s left p.at b n e) (head-inside s p gap room eg) head (i.1 clear) ends (memory out' m₂.errs m₂.warns m₂.lefts) a₁ a₂ a₃ refl refl refl refl,
        );
  }

-- the depth of a block's statements
pub depth-inner : (left left' : ℕ) → 0 < left → left ≤ 12 → left' ≡ left - 1 → 12 - left' ≡ suc (12 - left)
depth-inner left left' low high el = omega arith
