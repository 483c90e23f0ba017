use mathlib.Core.Path.{refl, sym, subst}
use Prim.Native.Nat.{ℕ}
use Rattle.rules.specs.Rules.{switches_of}
use Rattle.blocks_ends.specs.Ends.{Due}
use Rattle.blocks_ends.proofs.Due.{due-frame, first-few}
use native.Mathlib.Omega.{arith}
use Prim.Native.Nat.{suc, ◌+◌, ◌-◌}
use Rattle.statements_acts.specs.Marks.{lent}
use Rattle.blocks_laws.proofs.Ends.{block-ends}
use Rattle.blocks_ends.proofs.end_block.Goals as goal

pub ends_in_return-sure-requires : goal.ends_in_return-sure-requires
ends_in_return-sure-requires c = (c.requires.0.within.small, λ h. c.requires.0.last (omega (arith, h, c.two_at-total.ensures.0)))

pub put_tail-put-requires : goal.put_tail-put-requires
put_tail-put-requires c =
    let small = first-few c.args.switches c.args.left c.args.base c.requires.1 in
    let is = c.first_of-first.ensures in
    let h = c.requires.0.within in
    (omega (arith, h.written, h.inside, h.small), omega (arith, small, is))

pub overflow_add-count : goal.overflow_add-count
overflow_add-count c =
    let h = c.requires.0.within in
    let total = c.two_at-total.ensures.1 in
    omega (arith, h.inserted, h.inside, h.small)

pub overflow_add-count-2 : goal.overflow_add-count-2
overflow_add-count-2 c =
    let h = c.requires.0.within in
    let total = c.two_at-total.ensures.1 in
    let few = c.put_tail-put.ensures.1 in
    omega (arith, h.inserted, h.inside, h.small)

pub overflow_add-start-2 : goal.overflow_add-start-2
overflow_add-start-2 c = omega (arith, c.requires.0.gap)

pub put_two-requires : goal.put_two-requires
put_two-requires c = omega (arith, c.requires.0.gap)

pub returns-then-p : goal.returns-then-p
returns-then-p c =
    let a = c.args in
    let h = c.requires.0 in
    let put = c.put_tail-put.ensures in (
      λ T ld births g n m f σ e. block-ends (switches_of a.switches) T a.s.now a.left (suc (12 - a.left)) (lent a.l.now.names a.l.now.types ld births g n) a.start (a.start.written + 4) a.p a.out.now
          c.two_at-total.ensures.0 c.span_at-span.ensures c.ends_in_return-sure.ensures
          (put.2 (switches_of a.switches) T ld births g n (suc (12 - a.left)) m
          (subst (λ (k : ℕ). Due (switches_of a.switches) ld k (suc (12 - a.left)) n) (sym c.first_of-first.ensures) (due-frame a.switches a.left ld a.base n h.high f)))
          c.put_two.ensures (rw c.if-p.true refl) e,
      record { fault = refl; at = refl; errors = refl; warnings = refl; lefts = refl; inserted = refl; most = put.0 },
    )

pub returns-else-p : goal.returns-else-p
returns-else-p c =
    let a = c.args in
    let h = c.requires.0 in
    let put = c.put_tail-put.ensures in (
      λ T ld births g n m f σ e. block-ends (switches_of a.switches) T a.s.now a.left (suc (12 - a.left)) (lent a.l.now.names a.l.now.types ld births g n) a.start (a.start.written + 4) a.p a.out.now
          c.two_at-total.ensures.0 c.span_at-span.ensures c.ends_in_return-sure.ensures
          (put.2 (switches_of a.switches) T ld births g n (suc (12 - a.left)) m
          (subst (λ (k : ℕ). Due (switches_of a.switches) ld k (suc (12 - a.left)) n) (sym c.first_of-first.ensures) (due-frame a.switches a.left ld a.base n h.high f)))
          c.put_two.ensures (rw c.if-p.false refl) e,
      record { fault = refl; at = refl; errors = refl; warnings = refl; lefts = refl; inserted = refl; most = put.0 },
    )
