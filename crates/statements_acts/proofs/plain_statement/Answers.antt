use Rattle.image_fields.specs.Bytes.{Bytes}
use native.Mathlib.Omega.{arith}
use Rattle.statements_acts.proofs.Acts.{room_of, none-put-is, plain-reach, plain-grows, plain-acts}
use Rattle.statements_acts.proofs.plain_statement.Goals as goal

pub behind-requires : goal.behind-requires
behind-requires c =
    let a = c.args in
    let small : Bytes a.s.now = λ k. omega (arith, c.type_inv.s k) in
    let q = c.requires in
    let w = room_of q.0 in
    let e = none-put-is a.p c.nothing_put.ensures in
    let r = plain-reach a.s.now small a.p a.to q.1 q.2 in
    (r.0, r.1, w.0, omega arith, omega arith)

pub returns : goal.returns
returns c =
    let a = c.args in
    let small : Bytes a.s.now = λ k. omega (arith, c.type_inv.s k) in
    let q = c.requires in
    let wrote = c.behind in
    let none = c.nothing_put in
    rw c.unchanged.ensures (record {
      acts_there = plain-acts a.s.now small a.p a.to q.1 q.2 none.result none.ensures wrote.result wrote.ensures;
      grows = plain-grows a.s.now small a.p a.to q.1 q.2 none.result none.ensures wrote.result wrote.ensures;
    })
