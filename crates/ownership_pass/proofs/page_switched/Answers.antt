use mathlib.Core.Path.{refl}
use mathlib.Core.List.{[]}
use Rattle.std.proofs.lemmas.Result.{err_from_is_err_and}
use Rattle.ownership_pass.proofs.Readings.{begun-value, page-unread}
use Rattle.ownership_pass.proofs.page_switched.Goals as goal

pub returns-in_err-known : goal.returns-in_err-known
returns-in_err-known c =
    let r = err_from_is_err_and c.from_residual.result c.from_residual.ensures.1 in
    rw (r.1, r.2) (page-unread c.args.switches c.args.s.now [] c.in_err-known.field-0.0 (begun-value c.args.switches c.args.s.now [] c.known.ensures c.in_err-known.field-0.0 c.in_err-known.was) refl c.args.page.now)

pub returns-in_err-env : goal.returns-in_err-env
returns-in_err-env c =
    let r = err_from_is_err_and c.from_residual-in_err-env.result c.from_residual-in_err-env.ensures.1 in
    rw (r.1, r.2) (page-unread c.args.switches c.args.s.now _ c.in_err-env.field-0.0 c.read_switched.ensures c.in_err-env.was c.args.page.now)
