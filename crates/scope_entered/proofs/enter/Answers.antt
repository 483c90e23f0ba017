use Prim.Native.Nat.{◌+◌, ◌*◌, ◌≤◌, ◌<◌}
use mathlib.Core.Path.{sym, subst}
use mathlib.Core.List.{[], ◌∷◌}
use native.Mathlib.Omega.{arith}
use lib.ListN.{length}
use Rattle.image_fields.specs.Number.{two}
use Rattle.scope_entered.specs.Entered.{params_in, Adds}
use Rattle.scope_entered.proofs.Entries.{params-behind, this-behind, locals_are, this-and-locals}
use Rattle.scope_entered.proofs.Entering.{adds-both, adds-count, entering}
use Rattle.scope_entered.proofs.enter.Goals as goal

pub overflow_add-at : goal.overflow_add-at
overflow_add-at c =
    let b = params-behind c.args.s.now c.args.at _ c.peek.ensures.0 c.if-peek-lt2.true c.requires.0 in
    omega (arith, b.inside, c.requires.1)

pub peek_two-many-requires : goal.peek_two-many-requires
peek_two-many-requires c =
    let b = params-behind c.args.s.now c.args.at _ c.peek.ensures.0 c.if-peek-lt2.true c.requires.0 in
    omega (arith, b.inside, c.requires.1)

pub overflow_add-at-then-peek-lt2 : goal.overflow_add-at-then-peek-lt2
overflow_add-at-then-peek-lt2 c =
    let b = params-behind c.args.s.now c.args.at _ c.peek.ensures.0 c.if-peek-lt2.true c.requires.0 in
    omega (arith, b.inside, c.requires.1)

pub register_params-requires : goal.register_params-requires
register_params-requires c =
    let b = params-behind c.args.s.now c.args.at _ c.peek.ensures.0 c.if-peek-lt2.true c.requires.0 in (
      c.new-empty.ensures.0,
      omega (arith, c.new-empty.ensures.1),
      subst (λ k. k ≤ 16) (sym c.peek_two-many.ensures.0) b.few,
      subst (λ k. c.args.at + 3 + 4 * k ≤ length c.args.s.now) (sym c.peek_two-many.ensures.0) b.inside,
      c.requires.1,
      c.requires.2,
    )

pub returns-then-peek-lt2 : goal.returns-then-peek-lt2
returns-then-peek-lt2 c =
    let b = params-behind c.args.s.now c.args.at _ c.peek.ensures.0 c.if-peek-lt2.true c.requires.0 in
    let s = c.args.s.now in
    let r = c.register_params.result in
    let a : Adds c.args.tb.now (params_in s (two s (c.args.at + 1)) (c.args.at + 3)) c.new-empty.result r =
    subst (λ k. Adds c.args.tb.now (params_in s k (c.args.at + 3)) c.new-empty.result r) c.peek_two-many.ensures.0 c.register_params.ensures in
    entering s c.args.tb.now c.args.at (params_in s (two s (c.args.at + 1)) (c.args.at + 3))
    (locals_are s c.args.at (subst (λ k. k < 2) c.peek.ensures.0 c.if-peek-lt2.true)) c.new-empty.result r c.new-empty.ensures.1 c.new-empty.ensures.2
    (omega (arith, adds-count s c.args.tb.now c.new-empty.result r (two s (c.args.at + 1)) (c.args.at + 3) a, b.few, c.new-empty.ensures.1)) a

pub overflow_add-at-2 : goal.overflow_add-at-2
overflow_add-at-2 c =
    let b = this-behind c.args.s.now c.args.at _ c.peek.ensures.0 c.if-peek-lt2.false c.requires.0 in
    omega (arith, b.inside, c.requires.1)

pub name_at-requires : goal.name_at-requires
name_at-requires c =
    let b = this-behind c.args.s.now c.args.at _ c.peek.ensures.0 c.if-peek-lt2.false c.requires.0 in
    omega (arith, b.inside, c.requires.1)

pub overflow_add-at-3 : goal.overflow_add-at-3
overflow_add-at-3 c =
    let b = this-behind c.args.s.now c.args.at _ c.peek.ensures.0 c.if-peek-lt2.false c.requires.0 in
    omega (arith, b.inside, c.requires.1)

pub peek_two-many-requires-2 : goal.peek_two-many-requires-2
peek_two-many-requires-2 c =
    let b = this-behind c.args.s.now c.args.at _ c.peek.ensures.0 c.if-peek-lt2.false c.requires.0 in
    omega (arith, b.inside, c.requires.1)

pub overflow_add-at-4 : goal.overflow_add-at-4
overflow_add-at-4 c =
    let b = this-behind c.args.s.now c.args.at _ c.peek.ensures.0 c.if-peek-lt2.false c.requires.0 in
    omega (arith, b.inside, c.requires.1)

pub register_params-requires-2 : goal.register_params-requires-2
register_params-requires-2 c =
    let b = this-behind c.args.s.now c.args.at _ c.peek.ensures.0 c.if-peek-lt2.false c.requires.0 in (
      c.register-this.ensures.kept,
      omega (arith, c.register-this.ensures.count, c.new-empty.ensures.1),
      subst (λ k. k ≤ 16) (sym c.peek_two-many-2.ensures.0) b.few,
      subst (λ k. c.args.at + 5 + 4 * k ≤ length c.args.s.now) (sym c.peek_two-many-2.ensures.0) b.inside,
      c.requires.1,
      c.requires.2,
    )

pub returns : goal.returns
returns c =
    let b = this-behind c.args.s.now c.args.at _ c.peek.ensures.0 c.if-peek-lt2.false c.requires.0 in
    let s = c.args.s.now in
    let r = c.register_params-2.result in
    let a : Adds c.args.tb.now (params_in s (two s (c.args.at + 3)) (c.args.at + 5)) c.register-this.result r =
    subst (λ k. Adds c.args.tb.now (params_in s k (c.args.at + 5)) c.register-this.result r) c.peek_two-many-2.ensures.0 c.register_params-2.ensures in
    let this : Adds c.args.tb.now (record { name = 0; ty = two s (c.args.at + 1) } ∷ []) c.new-empty.result c.register-this.result =
    subst (λ k. Adds c.args.tb.now (record { name = 0; ty = k } ∷ []) c.new-empty.result c.register-this.result) c.name_at.ensures c.register-this.ensures in
    entering s c.args.tb.now c.args.at (record { name = 0; ty = two s (c.args.at + 1) } ∷ params_in s (two s (c.args.at + 3)) (c.args.at + 5))
    (this-and-locals s c.args.at (subst (λ k. 2 ≤ k) c.peek.ensures.0 c.if-peek-lt2.false)) c.new-empty.result r c.new-empty.ensures.1 c.new-empty.ensures.2
    (omega (arith, adds-count s c.args.tb.now c.register-this.result r (two s (c.args.at + 3)) (c.args.at + 5) a, this.count, b.few, c.new-empty.ensures.1))
    (adds-both c.args.tb.now (record { name = 0; ty = two s (c.args.at + 1) } ∷ []) (params_in s (two s (c.args.at + 3)) (c.args.at + 5)) c.new-empty.result c.register-this.result r this a)
