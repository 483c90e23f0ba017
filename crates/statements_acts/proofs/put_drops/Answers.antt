use Rattle.statements_acts.proofs.Dropped.{bounded-none, bounded-more, left-all, left-skip, left-put, left-none}
use Rattle.statements_acts.specs.Marks.{static_in}
use Rattle.statements_steps.specs.Drops.{delete_bytes}
use Rattle.image_writing.proofs.Stores.{delete-length}
use Rattle.rules.specs.Rules.{delete_at}
use Rattle.scope_stack.proofs.Words.{ones-less}
use native.Mathlib.Omega.{arith}
use mathlib.Core.Path.{◌≡◌, refl, sym, ap, ◌∙◌}
use Prim.Native.Nat.{ℕ, ◌+◌}
use Rattle.statements_acts.proofs.put_drops.Goals as goal
use Rattle.statements_acts.proofs.put_drops.Goals.{then-admits, else-admits}

pub loop-m-init : goal.loop-m-init
loop-m-init c = (refl, bounded-none _ _ c.ranges.mark.fits, λ T depths births g n e. left-all T _ _ depths births g _ (delete_at _) delete_bytes _ _ n _ e)

pub loop-m-smaller : goal.loop-m-smaller
loop-m-smaller c = rw c.without-m.ensures (ones-less _ _ c.newest-i.ensures.0)

pub loop-m-preserved : goal.loop-m-preserved
loop-m-preserved c =
    elim c.if-admits.branch [
      | then-admits w ↦
          let to : w.put_delete-place.result ≡ c.loop-m.place + 21 = w.put_delete-place.ensures.place ∙ ap (λ (k : ℕ). c.loop-m.place + k) (delete-length _ _ _) in
          rw (w.out-is, w.place-is, w.put-is, c.without-m.ensures) (
            w.put_delete-place.auto.out ∙ c.loop-m.invariant.0,
            bounded-more _ _ _ _ _ _ _ c.loop-m.invariant.1 c.newest-i.ensures.0 (omega (arith, to)) (omega arith),
            λ T depths births g n e. left-put T _ _ depths births g _ (delete_at _) delete_bytes _ _ n _ _ _ _ (c.loop-m.invariant.2 T depths births g n e) _ c.newest-i.ensures.1 _ _ _ (sym (c.admits.ensures (static_in c.args.l.now.names c.args.l.now.types depths births c.newest-i.result) refl) ∙ w.if-admits.true) (λ z. refl) w.put_delete-place.ensures,
          )
      | else-admits w ↦
          rw (w.out-is, w.place-is, w.put-is, c.without-m.ensures) (
            c.loop-m.invariant.0,
            bounded-more _ _ _ _ _ _ _ c.loop-m.invariant.1 c.newest-i.ensures.0 (omega arith) (omega arith),
            λ T depths births g n e. left-skip T _ _ depths births g _ (delete_at _) delete_bytes _ _ n _ _ _ _ (c.loop-m.invariant.2 T depths births g n e) _ c.newest-i.ensures.1 (sym (c.admits.ensures (static_in c.args.l.now.names c.args.l.now.types depths births c.newest-i.result) refl) ∙ w.if-admits.false),
          )
    ]

pub returns : goal.returns
returns c = (
  omega (arith, c.loop-m.invariant.1.room),
  omega (arith, c.loop-m.invariant.1.many),
  λ T depths births g n e. left-none T _ _ depths births g _ (delete_at _) delete_bytes _ _ n _ _ _ _ (c.loop-m.invariant.2 T depths births g n e) refl c.loop-m-test.false,
)
