use Rattle.std.proofs.Common.{ap, sym, ◌∙◌}
use Rattle.scope_stack.specs.View.{stacked, static_at}
use Rattle.scope_stack.proofs.Stacked.{depth_in, depth-lookup}
use Rattle.scope_stack.proofs.frame_of.Goals as goal

pub returns-in-Some : goal.returns-in-Some
returns-in-Some c = let l = c.args.l.now in
    λ g. sym (depth-lookup c.args.name (stacked l.count (static_at l) g) ∙ ap depth_in (c.in-Some.ensures.is l.types l.depths l.births g))

pub returns-in-None : goal.returns-in-None
returns-in-None c = let l = c.args.l.now in
    λ g. sym (depth-lookup c.args.name (stacked l.count (static_at l) g) ∙ ap depth_in (c.in-None.ensures.is l.types l.depths l.births g))
