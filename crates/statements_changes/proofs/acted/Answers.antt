use Rattle.rules.specs.Rules.{switches_of}
use Rattle.statements_changes.proofs.Steady.{tag-inside, front-there, fit-came, acts-of}
use Rattle.scope_state.proofs.Stacked.{length-stacked}
use Rattle.statements_changes.proofs.Behind.{acted-after}
use lib.ListN.{length}
use Rattle.image_fields.specs.Bytes.{Bytes}
use mathlib.Core.Path.{ap, ◌∙◌}
use native.Mathlib.Omega.{arith}
use Rattle.statements_changes.proofs.acted.Goals as goal

pub bounds-s-at : goal.bounds-s-at
bounds-s-at c = let r = c.requires in (tag-inside _ _ c.args.c r.4 r.5 r.6).0

pub statement-a-requires : goal.statement-a-requires
statement-a-requires c = let r = c.requires in (r.0, r.1, r.2, r.4.steady.inside, front-there _ _ c.args.c r.4 r.5 r.6)

pub overflow_sub-c : goal.overflow_sub-c
overflow_sub-c c =
    let r = c.requires in let l = (r.4.steady.within r.5).some in omega arith

pub returns : goal.returns
returns c =
    let a = c.args in
    let r = c.requires in
    let b = c.statement-a in
    let small : Bytes a.s.now = λ k. omega (arith, c.type_inv.s k) in record {
      after = λ T tb ld at σ loop h all σ₀ p₀ m₀ nodes errs g. acted-after (switches_of a.env.switches) T a.s.now small a.env.left _ all σ₀ p₀ m₀ nodes a.c σ _ errs _ _ _ _ _ (g.within r.5) (omega (arith, r.6)) b.result
          (acts-of h.held (b.ensures.acts_there T tb ld at h.marked _ h.jumps)) (let l = ap length h.held ∙ length-stacked _ at _ in let f = r.1 in omega arith) _ c.turn_of.ensures;
      by_index = fit-came a.s.now a.env.left a.c r.4 r.5 r.6 small b.result b.ensures.grows.1 b.ensures.grows.0 _ c.turn_of.ensures;
    }
