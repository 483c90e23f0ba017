use Rattle.std.proofs.Common.{◌∙◌}
use Rattle.tables_lookup.proofs.First.{found, missing, was-found, was-missing}
use Rattle.tables_named.proofs.Signature.{span-found, span-missing}
use Rattle.tables_named.proofs.global_span.Goals as goal

pub returns-in_err-i : goal.returns-in_err-i
returns-in_err-i c = c.from_residual.ensures ∙ missing (span-missing c.args.s.now _ _ _ (was-missing c.first_spaced.ensures.first c.in_err-i.was))

pub returns : goal.returns
returns c = found (span-found c.args.s.now _ _ _ c.in_ok-i.ensures.below (was-found c.first_spaced.ensures.first c.in_ok-i.was) c.four_at.ensures.0)
