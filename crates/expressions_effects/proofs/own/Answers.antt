use Rattle.std.proofs.Common.{◌≡◌, arith, ne_eqb}
use Rattle.expressions_effects.proofs.own.Goals as goal

pub returns-in-1 : goal.returns-in-1
returns-in-1 c = λ T e. simp (← c.peek.ensures.0, c.in-1.is, ← c.name_at.ensures, ← c.span_at.ensures) (c.identifier_effect.ensures T e)

pub returns-in-2 : goal.returns-in-2
returns-in-2 c = λ T e. simp (← c.peek.ensures.0, c.in-2.is, ← c.span_at-in-2.ensures) (c.identifier_effect-in-2.ensures T e)

pub returns-in_default : goal.returns-in_default
returns-in_default c = λ T e.
    let a : c.peek.result ≡ 1 → ⊥ = λ z. omega arith in
    let b : c.peek.result ≡ 2 → ⊥ = λ z. omega arith in
    simp (← c.peek.ensures.0, ne_eqb _ _ a, ne_eqb _ _ b)
