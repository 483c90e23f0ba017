use Rattle.std.proofs.Common.{◌+◌, ap, ◌∙◌}
use Rattle.image_fields.specs.Table.{entries}
use Rattle.tables.specs.Signature.{method_in}
use Rattle.tables_lookup.specs.Signature.{modifier_in}
use Rattle.tables_lookup.specs.Answer.{found_of}
use Rattle.tables_lookup.proofs.First.{found, missing, was-found, was-missing}
use Rattle.tables_named.proofs.Signature.{modifier-found, modifier-missing}
use Rattle.tables_named.proofs.modifier_in.Goals as goal

pub returns-in_err-i : goal.returns-in_err-i
returns-in_err-i c = c.from_residual.ensures ∙ missing (modifier-missing c.args.s.now _ _ _ (was-missing c.first_spaced.ensures.first c.in_err-i.was))
    ∙ ap (λ n. found_of (modifier_in (entries (method_in c.args.s.now) 3 n (c.args.at + 7)) c.args.name)) c.peek_two-count.ensures.0

pub returns : goal.returns
returns c = found (modifier-found c.args.s.now _ _ _ c.in_ok-i.ensures.below (was-found c.first_spaced.ensures.first c.in_ok-i.was) c.peek.ensures.0)
    ∙ ap (λ n. found_of (modifier_in (entries (method_in c.args.s.now) 3 n (c.args.at + 7)) c.args.name)) c.peek_two-count.ensures.0
