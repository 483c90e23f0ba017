use mathlib.Core.Path.{refl}
use mathlib.Core.List.{[]}
use native.Mathlib.Omega.{arith}
use Rattle.std.proofs.lemmas.Result.{err_from_is_err_and}
use Rattle.image_fields.specs.Bytes.{Bytes}
use Rattle.image_writing.specs.Memory.{memory}
use Rattle.entries_image.proofs.Whole.{answers, head-inside, begins-head, low-written, image-walked, image-stopped}
use Rattle.entries_image.proofs.walk_image.Goals as goal

pub copy_bytes-written-requires : goal.copy_bytes-written-requires
copy_bytes-written-requires c =
    let s = c.args.s.now in
    let tb = c.args.tb.now in
    let small : Bytes s = λ k. omega (arith, c.type_inv.s k) in
    let e = c.args.env in
    let i = c.args.read.entry in
    let j = c.args.read.body in
    let n = head-inside s tb small e i j c.requires in
    (n.0, n.1, n.2, omega arith)

pub walk_body-requires : goal.walk_body-requires
walk_body-requires c =
    let s = c.args.s.now in
    let tb = c.args.tb.now in
    let small : Bytes s = λ k. omega (arith, c.type_inv.s k) in
    let e = c.args.env in
    let i = c.args.read.entry in
    let j = c.args.read.body in
    (c.requires, begins-head s tb small e i j c.requires c.copy_bytes-written.result (memory c.args.out.now c.args.errs.now c.args.warns.now c.args.lefts.now) (memory _ c.args.errs.now c.args.warns.now c.args.lefts.now) c.begin-start.result c.begin-start.ensures c.copy_bytes-written.ensures)

pub returns-in_err-p : goal.returns-in_err-p
returns-in_err-p c =
    let s = c.args.s.now in
    let tb = c.args.tb.now in
    let small : Bytes s = λ k. omega (arith, c.type_inv.s k) in
    let e = c.args.env in
    let i = c.args.read.entry in
    let j = c.args.read.body in
    let r = err_from_is_err_and c.from_residual.result c.from_residual.ensures.1 in
    rw (r.1, r.2) (image-stopped s tb small e i j c.requires c.copy_bytes-written.result (memory c.args.out.now c.args.errs.now c.args.warns.now c.args.lefts.now) (memory _ c.args.errs.now c.args.warns.now c.args.lefts.now) c.begin-start.result c.begin-start.ensures c.copy_bytes-written.ensures _ _ c.in_err-p.field-0.0 (answers c.in_err-p.was c.walk_body.ensures))

pub overflow_add-end : goal.overflow_add-end
overflow_add-end c =
    let s = c.args.s.now in
    let tb = c.args.tb.now in
    let small : Bytes s = λ k. omega (arith, c.type_inv.s k) in
    let e = c.args.env in
    let i = c.args.read.entry in
    let j = c.args.read.body in
    let l = low-written s tb small e i j c.requires c.copy_bytes-written.result (memory c.args.out.now c.args.errs.now c.args.warns.now c.args.lefts.now) (memory _ c.args.errs.now c.args.warns.now c.args.lefts.now) c.begin-start.result c.begin-start.ensures c.copy_bytes-written.ensures _ _ (memory [] [] [] []) c.in_ok-p.p (answers c.in_ok-p.was c.walk_body.ensures) in
    omega arith

pub returns : goal.returns
returns c =
    let s = c.args.s.now in
    let tb = c.args.tb.now in
    let small : Bytes s = λ k. omega (arith, c.type_inv.s k) in
    let e = c.args.env in
    let i = c.args.read.entry in
    let j = c.args.read.body in
    image-walked s tb small e i j c.requires c.copy_bytes-written.result (memory c.args.out.now c.args.errs.now c.args.warns.now c.args.lefts.now) (memory _ c.args.errs.now c.args.warns.now c.args.lefts.now) c.begin-start.result c.begin-start.ensures c.copy_bytes-written.ensures _ _ _ c.in_ok-p.p (answers c.in_ok-p.was c.walk_body.ensures) _ c.put_four.ensures refl refl refl refl refl refl
