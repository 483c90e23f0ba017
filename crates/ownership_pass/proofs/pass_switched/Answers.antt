use mathlib.Core.Path.{refl}
use mathlib.Core.List.{[]}
use Rattle.std.proofs.lemmas.Result.{err_from_is_err_and}
use Rattle.image_writing.specs.Memory.{memory}
use Rattle.ownership_pass.proofs.Readings.{begun-value, pass-unread}
use Rattle.ownership_pass.proofs.pass_switched.Goals as goal

pub returns-in_err-known : goal.returns-in_err-known
returns-in_err-known c =
    let r = err_from_is_err_and c.from_residual.result c.from_residual.ensures.1 in
    rw (r.1, r.2) (pass-unread c.args.switches c.args.s.now [] c.in_err-known.field-0.0 (begun-value c.args.switches c.args.s.now [] c.known.ensures c.in_err-known.field-0.0 c.in_err-known.was) refl (memory c.args.out.now c.args.errs.now c.args.warns.now c.args.lefts.now))

pub returns-in_err-env : goal.returns-in_err-env
returns-in_err-env c =
    let r = err_from_is_err_and c.from_residual-in_err-env.result c.from_residual-in_err-env.ensures.1 in
    rw (r.1, r.2) (pass-unread c.args.switches c.args.s.now _ c.in_err-env.field-0.0 c.read_switched.ensures c.in_err-env.was (memory c.args.out.now c.args.errs.now c.args.warns.now c.args.lefts.now))
