use Prim.Native.Nat.{◌-◌}
use mathlib.Core.Path.{subst}
use Rattle.std.specs.declared.ops.ControlFlow.{ControlFlow}
use Rattle.rules.specs.Rules.{switches_of}
use Rattle.image_writing.specs.Memory.{memory}
use Rattle.statements_changes.specs.declared.Came.{Came}
use Rattle.statements_changes.specs.declared.Cursor.{Cursor}
use Rattle.statements_changes.specs.Turns.{AfterFlow}
use Rattle.statements_changes.proofs.next_change.Goals as goal

pub returns-in-Break-clause-after : goal.returns-in-Break-clause-after
returns-in-Break-clause-after c = λ T sy ld σ loop h all σ₀ p₀ m₀ g.
    let a = c.args in
    let p = c.passed in
    subst (λ (x : ControlFlow Came Cursor). AfterFlow (switches_of a.env.switches) T a.s.now a.env.left (12 - a.env.left) loop all σ₀ p₀ m₀ p.new.nodes x σ (memory p.new.out p.new.errs p.new.warns p.new.lefts))
    c.in-Break.is (p.ensures.after T sy ld σ loop h all σ₀ p₀ m₀ (c.loop-behind.invariant.stood T sy ld σ loop h all σ₀ p₀ m₀ g))
