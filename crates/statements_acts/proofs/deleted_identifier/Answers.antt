use mathlib.Core.Path.{sym, ap, ◌∙◌}
use Rattle.statements_acts.specs.Act.{named_of}
use Rattle.statements_acts.specs.Parts.{delete_of}
use Rattle.statements_acts.proofs.Views.{no-delete-at, delete-at}
use Rattle.statements_acts.proofs.deleted_identifier.Goals as goal

pub returns-in_default : goal.returns-in_default
returns-in_default c = no-delete-at c.args.s.now c.args.at _ c.strip_noop_unary-p.ensures c.node_at.ensures c.in_default.not-Delete

pub returns-in-Some : goal.returns-in-Some
returns-in-Some c =
    let a = c.args in
    λ e next st. sym (ap (λ x. delete_of (named_of x)) c.in-Some.is) ∙ delete-at a.s.now a.at _ c.strip_noop_unary-p.ensures c.node_at.ensures c.in-Delete.is c.name_in.result c.name_in.ensures e next st

pub returns-in-None : goal.returns-in-None
returns-in-None c =
    let a = c.args in
    λ e next st. sym (ap (λ x. delete_of (named_of x)) c.in-None.is) ∙ delete-at a.s.now a.at _ c.strip_noop_unary-p.ensures c.node_at.ensures c.in-Delete.is c.name_in.result c.name_in.ensures e next st
