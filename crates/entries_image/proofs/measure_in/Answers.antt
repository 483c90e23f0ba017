use Prim.Native.Nat.{ℕ}
use mathlib.Core.Path.{◌≡◌, refl, ap, ◌∙◌}
use native.Mathlib.Omega.{arith}
use Rattle.std.specs.Prelude.{Err}
use lib.ListN.{length-replicate}
use Rattle.scope_rows.specs.declared.Stop.TheVariants.{Rows, Fault as Stopped}
use Rattle.image_fields.specs.Bytes.{Bytes}
use Rattle.entries_image.specs.Images.{fault_of_walk}
use Rattle.entries_image.proofs.Whole.{answers, head-inside, begins-at, measured, measure-refused}
use Rattle.entries_image.proofs.measure_in.Goals as goal

pub whole_as_slice-walk_body : goal.whole_as_slice-walk_body
whole_as_slice-walk_body g c = omega (arith, c.requires.1)

pub walk_body-w-requires : goal.walk_body-w-requires
walk_body-w-requires g c =
    let s = c.args.s.now in
    let tb = c.args.tb.now in
    let small : Bytes s = λ k. omega (arith, c.type_inv.s k) in
    let e = c.args.env in
    let i = c.args.read.entry in
    let j = c.args.read.body in
    let n = head-inside s tb small e i j c.requires.0 in
    (c.requires.0, begins-at c.begin-start.ensures (omega arith) (omega arith) (omega arith))

pub returns-in-Ok-clause-measures : goal.returns-in-Ok-clause-measures
returns-in-Ok-clause-measures g c =
    let s = c.args.s.now in
    let tb = c.args.tb.now in
    let small : Bytes s = λ k. omega (arith, c.type_inv.s k) in
    let e = c.args.env in
    let i = c.args.read.entry in
    let j = c.args.read.body in
    measured s tb small e i j c.requires.0 _ _ _ c.begin-start.result c.in-Ok.p (answers c.in-Ok.is c.walk_body-w.ensures) _ c.begin-start.ensures refl

pub returns-in-Err-Fault-clause-measures : goal.returns-in-Err-Fault-clause-measures
returns-in-Err-Fault-clause-measures g c =
    let s = c.args.s.now in
    let tb = c.args.tb.now in
    let small : Bytes s = λ k. omega (arith, c.type_inv.s k) in
    let e = c.args.env in
    let i = c.args.read.entry in
    let j = c.args.read.body in
    let f : c.in-Err-Fault.field-0 ≡ Stopped c.in-Err-Fault.fault = rw c.in-Err-Fault.is at c.in-Err-Fault.field-0-is in
    measure-refused s tb small e i j c.requires.0 _ _ _ c.begin-start.result c.in-Err-Fault.fault (answers (c.in-Err-Fault.is ∙ ap Err f) c.walk_body-w.ensures) _

pub returns-in-Err-Rows-clause-rows : goal.returns-in-Err-Rows-clause-rows
returns-in-Err-Rows-clause-rows g c = λ z.
    let k : c.in-Err-Rows.field-0 ≡ Rows = rw c.in-Err-Rows.is at c.in-Err-Rows.field-0-is in
    let f : fault_of_walk c.walk_body-w.result ≡ 254 = ap fault_of_walk (c.in-Err-Rows.is ∙ ap Err k) in
    let l = length-replicate {A = ℕ} g.row.ROWS 0 in
    omega (arith, c.walk_body-w.ensures.short f, l)
