use mathlib.Core.Path.{sym, ◌∙◌}
use native.Mathlib.Omega.{arith}
use lib.ListN.{length}
use Rattle.std.proofs.lemmas.Result.{err_from_is_err_and}
use Rattle.image_writing.specs.Memory.{memory}
use Rattle.entries_verdict.proofs.Rooms.{lacking, fine-of, judge-walk, judge-room, room-lent, room-own, judge-copied, judge-again}
use Rattle.entries_verdict.proofs.judge.Goals as goal

pub returns-in_err-p : goal.returns-in_err-p
returns-in_err-p c =
    let r = err_from_is_err_and c.from_residual.result c.from_residual.ensures.1 in
    rw (r.1, r.2) (judge-walk c.args.env.switches c.requires.0.value c.args.s.now c.requires.0.i c.requires.0.read c.args.largest (length c.args.rows.now) c.requires.2 c.walk_image.ensures (memory c.args.out.now c.args.errs.now c.args.warns.now c.args.lefts.now) c.in_err-p.field-0.0 c.in_err-p.was)

pub returns-in_err-map_err : goal.returns-in_err-map_err
returns-in_err-map_err c =
    let r = err_from_is_err_and c.from_residual-in_err-map_err.result c.from_residual-in_err-map_err.ensures.1 in
    let l = lacking c.room_fault.result c.map_err.result c.map_err.ensures.cases c.in_err-map_err.field-0.0 c.in_err-map_err.was in
    rw (r.1, r.2, l.2) (judge-room c.args.env.switches c.requires.0.value c.args.s.now c.requires.0.i c.requires.0.read c.args.largest (length c.args.rows.now) c.requires.2 c.walk_image.ensures c.in_ok-p.p c.in_ok-p.was (memory c.args.out.now c.args.errs.now c.args.warns.now c.args.lefts.now) c.room_fault.result c.room_fault.ensures l.0 l.1)

pub copy_all-requires : goal.copy_all-requires
copy_all-requires c =
    let f = fine-of c.room_fault.result c.map_err.result c.map_err.ensures.cases c.in_ok-map_err.field-0 c.in_ok-map_err.was in
    (omega (arith, c.walk_image.auto.out, c.requires.1), room-own c.args.env.switches c.requires.0.value c.args.s.now c.requires.0.i c.requires.0.read c.args.largest (length c.args.rows.now) c.requires.2 c.walk_image.ensures c.in_ok-p.p c.in_ok-p.was (memory c.args.out.now c.args.errs.now c.args.warns.now c.args.lefts.now) c.room_fault.result c.room_fault.ensures f.0 f.1 c.room_fault-2.result c.room_fault-2.ensures (sym c.is_ok.ensures.value ∙ c.if-is_ok.true), room-lent c.args.env.switches c.requires.0.value c.args.s.now c.requires.0.i c.requires.0.read c.args.largest (length c.args.rows.now) c.requires.2 c.walk_image.ensures c.in_ok-p.p c.in_ok-p.was (memory c.args.out.now c.args.errs.now c.args.warns.now c.args.lefts.now) c.room_fault.result c.room_fault.ensures f.0 f.1)

pub returns-then-is_ok : goal.returns-then-is_ok
returns-then-is_ok c =
    let f = fine-of c.room_fault.result c.map_err.result c.map_err.ensures.cases c.in_ok-map_err.field-0 c.in_ok-map_err.was in
    judge-copied c.args.env.switches c.requires.0.value c.args.s.now c.requires.0.i c.requires.0.read c.args.largest (length c.args.rows.now) c.requires.2 c.walk_image.ensures c.in_ok-p.p c.in_ok-p.was (memory c.args.out.now c.args.errs.now c.args.warns.now c.args.lefts.now) c.room_fault.result c.room_fault.ensures f.0 f.1 c.room_fault-2.result c.room_fault-2.ensures (sym c.is_ok.ensures.value ∙ c.if-is_ok.true) _ c.copy_all.ensures

pub returns-then-largest : goal.returns-then-largest
returns-then-largest c =
    let f = fine-of c.room_fault.result c.map_err.result c.map_err.ensures.cases c.in_ok-map_err.field-0 c.in_ok-map_err.was in
    judge-again c.args.env.switches c.requires.0.value c.args.s.now c.requires.0.i c.requires.0.read c.args.largest (length c.args.rows.now) c.requires.2 c.walk_image.ensures c.in_ok-p.p c.in_ok-p.was (memory c.args.out.now c.args.errs.now c.args.warns.now c.args.lefts.now) c.room_fault.result c.room_fault.ensures f.0 f.1 c.if-largest.true _ c.walk_image.auto.rows _ c.walk_image-then-largest.ensures
