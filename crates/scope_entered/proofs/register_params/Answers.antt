use Prim.Native.Nat.{ℕ}
use mathlib.Core.Path.{◌≡◌, sym, subst}
use mathlib.Core.List.{List}
use native.Mathlib.Omega.{arith}
use Rattle.tables.specs.Signature.{Param}
use Rattle.scope_entered.specs.Entered.{params_in, Adds}
use Rattle.scope_entered.proofs.Entering.{params_none, adds_none, adds-next, adds-count}
use Rattle.scope_entered.proofs.register_params.Goals as goal

pub loop-i-init : goal.loop-i-init
loop-i-init c =
    subst (λ (ps : List Param). Adds c.args.tb.now ps c.args.locals c.args.locals) (sym (params_none c.args.s.now c.args.at))
    (adds_none c.args.tb.now c.args.locals c.requires.0)

pub overflow_mul-p : goal.overflow_mul-p
overflow_mul-p c = omega (arith, c.requires.2, c.requires.3, c.requires.4, c.loop-i-test.true)

pub overflow_add-p : goal.overflow_add-p
overflow_add-p c = omega (arith, c.requires.2, c.requires.3, c.requires.4, c.loop-i-test.true)

pub name_at-requires : goal.name_at-requires
name_at-requires c = omega (arith, c.requires.2, c.requires.3, c.requires.4, c.loop-i-test.true)

pub overflow_add-p-in-loop-i : goal.overflow_add-p-in-loop-i
overflow_add-p-in-loop-i c = omega (arith, c.requires.2, c.requires.3, c.requires.4, c.loop-i-test.true)

pub name_at-requires-in-loop-i : goal.name_at-requires-in-loop-i
name_at-requires-in-loop-i c = omega (arith, c.requires.2, c.requires.3, c.requires.4, c.loop-i-test.true)

pub register-l-requires : goal.register-l-requires
register-l-requires c =
    let n = adds-count c.args.s.now c.args.tb.now c.args.locals c.loop-i.l c.loop-i.i c.args.at c.loop-i.invariant in
    (c.loop-i.invariant.kept, omega (arith, n, c.requires.1, c.requires.2, c.loop-i-test.true), c.requires.5)

pub loop-i-preserved : goal.loop-i-preserved
loop-i-preserved c =
    adds-next c.args.s.now c.args.tb.now c.args.locals c.loop-i.l c.register-l.result c.loop-i.i c.args.at _ _ c.name_at.ensures c.name_at-in-loop-i.ensures c.loop-i.invariant c.register-l.ensures

pub returns : goal.returns
returns c =
    let e : c.loop-i.i ≡ c.args.many = omega (arith, c.loop-i.auto, c.loop-i-test.false) in
    subst (λ (k : ℕ). Adds c.args.tb.now (params_in c.args.s.now k c.args.at) c.args.locals c.loop-i.l) e c.loop-i.invariant
