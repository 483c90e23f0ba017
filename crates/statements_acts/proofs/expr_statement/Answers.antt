use Rattle.image_fields.specs.Bytes.{Bytes}
use native.Mathlib.Omega.{arith}
use Prim.Native.Nat.{◌+◌}
use lib.Seq.{length-slice}
use Rattle.image_fields.specs.Number.{four}
use Rattle.statements_acts.proofs.Acts.{room_of, expr-reach, expr-grows, expr-acts, head-room, callee-room}
use Rattle.statements_acts.proofs.expr_statement.Goals as goal

pub unused_callee-callee-requires : goal.unused_callee-callee-requires
unused_callee-callee-requires c =
    let a = c.args in
    let small : Bytes a.s.now = λ k. omega (arith, c.type_inv.s k) in
    let q = c.requires in
    let r = expr-reach a.s.now small a.p a.end q.2 q.3 in
    (q.0, omega arith)

pub copy_bytes-head-requires : goal.copy_bytes-head-requires
copy_bytes-head-requires c =
    let a = c.args in
    let small : Bytes a.s.now = λ k. omega (arith, c.type_inv.s k) in
    let q = c.requires in
    let w = room_of q.1 in
    let r = expr-reach a.s.now small a.p a.end q.2 q.3 in
    (omega arith, omega arith, w.0, omega arith)

pub put_unused-warned-requires : goal.put_unused-warned-requires
put_unused-warned-requires c =
    let a = c.args in
    let small : Bytes a.s.now = λ k. omega (arith, c.type_inv.s k) in
    let q = c.requires in
    let w = room_of q.1 in
    let r = expr-reach a.s.now small a.p a.end q.2 q.3 in
    let x = c.copy_bytes-head.ensures.place in
    let lx = length-slice a.p.at (a.p.at + 5) a.s.now (omega arith) in
    (callee-room c.unused_callee-callee.result _ w.0 c.unused_callee-callee.ensures.0, omega arith, omega arith, omega arith)

pub copy_bytes-written-requires : goal.copy_bytes-written-requires
copy_bytes-written-requires c =
    let a = c.args in
    let small : Bytes a.s.now = λ k. omega (arith, c.type_inv.s k) in
    let q = c.requires in
    let w = room_of q.1 in
    let r = expr-reach a.s.now small a.p a.end q.2 q.3 in
    let x = c.copy_bytes-head.ensures.place in
    let lx = length-slice a.p.at (a.p.at + 5) a.s.now (omega arith) in
    let y = c.put_unused-warned.ensures.long in
    let ly = head-room c.unused_callee-callee.result (four a.s.now (a.p.at + 1)) in
    (omega arith, r.1, w.0, omega arith)

pub returns : goal.returns
returns c =
    let a = c.args in
    let small : Bytes a.s.now = λ k. omega (arith, c.type_inv.s k) in
    let q = c.requires in
    let callee = c.unused_callee-callee in
    let told = c.put_unused-warned in
    let head = c.copy_bytes-head in record { acts_there = λ sw T h σ. expr-acts a.s.now small a.p a.end q.2 q.3 callee.result told.result head.ensures told.ensures c.copy_bytes-written.ensures c.deleted_identifier.result sw T σ (callee.ensures.1 T h) c.deleted_identifier.ensures; grows = expr-grows a.s.now small a.p a.end q.2 q.3 callee.result told.result head.ensures told.ensures c.copy_bytes-written.ensures }
