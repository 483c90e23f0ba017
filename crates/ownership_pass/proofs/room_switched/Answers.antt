use mathlib.Core.Path.{refl}
use mathlib.Core.List.{[]}
use native.Mathlib.Omega.{arith}
use Rattle.std.proofs.lemmas.Result.{err_from_is_err_and}
use Rattle.ownership_pass.proofs.Readings.{begun-value, room-unread, room-denied, room-needed}
use Rattle.ownership_pass.proofs.room_switched.Goals as goal

pub returns-in_err-known : goal.returns-in_err-known
returns-in_err-known c =
    let r = err_from_is_err_and c.from_residual.result c.from_residual.ensures.1 in
    rw (r.1, r.2) (room-unread c.args.switches c.args.s.now [] c.in_err-known.field-0.0 (begun-value c.args.switches c.args.s.now [] c.known.ensures c.in_err-known.field-0.0 c.in_err-known.was) refl)

pub returns-in_err-env : goal.returns-in_err-env
returns-in_err-env c =
    let r = err_from_is_err_and c.from_residual-in_err-env.result c.from_residual-in_err-env.ensures.1 in
    rw (r.1, r.2) (room-unread c.args.switches c.args.s.now _ c.in_err-env.field-0.0 c.read_switched.ensures c.in_err-env.was)

pub returns-in_err-p : goal.returns-in_err-p
returns-in_err-p c =
    let r = err_from_is_err_and c.from_residual-in_err-p.result c.from_residual-in_err-p.ensures.1 in
    rw (r.1, r.2) (room-denied c.args.switches c.args.s.now _ (c.in_ok-env.env, c.in_ok-env.read) c.read_switched.ensures c.in_ok-env.was c.measure.ensures c.in_err-p.field-0.0 c.in_err-p.was)

pub returns : goal.returns
returns c = room-needed c.args.switches c.args.s.now _ (c.in_ok-env.env, c.in_ok-env.read) c.read_switched.ensures c.in_ok-env.was c.measure.ensures (λ k. omega (arith, c.type_inv.s k)) c.in_ok-p.p c.in_ok-p.was
