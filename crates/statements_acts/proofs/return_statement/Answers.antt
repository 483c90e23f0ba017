use Rattle.image_fields.specs.Bytes.{Bytes}
use Rattle.statements_acts.proofs.Ends.{return-ends}
use Rattle.statements_acts.proofs.Acts.{room_of, return-reach, return-grows, return-acts}
use Rattle.statements_acts.specs.Marks.{lent}
use native.Mathlib.Omega.{arith}
use Rattle.statements_acts.proofs.return_statement.Goals as goal

pub overflow_add-end : goal.overflow_add-end
overflow_add-end c =
    let a = c.args in
    let small : Bytes a.s.now = λ k. omega (arith, c.type_inv.s k) in
    let q = c.requires in
    let w = room_of q.0 in
    let r = return-reach a.s.now small a.p a.end q.1 q.2 q.3 in
    omega arith

pub behind-requires : goal.behind-requires
behind-requires c =
    let a = c.args in
    let small : Bytes a.s.now = λ k. omega (arith, c.type_inv.s k) in
    let q = c.requires in
    let put = c.put_drops-put in
    let w = room_of q.0 in
    let r = return-reach a.s.now small a.p a.end q.1 q.2 q.3 in
    let x = put.ensures.0 in
    let y = put.ensures.1 in
    (omega arith, r.1, w.0, omega arith, omega arith)

pub returns : goal.returns
returns c =
    let a = c.args in
    let small : Bytes a.s.now = λ k. omega (arith, c.type_inv.s k) in
    let q = c.requires in
    let put = c.put_drops-put in
    let wrote = c.behind in
    rw c.unchanged.ensures (record {
      acts_there = λ sw T ld births g n e. return-acts a.s.now small a.p a.end q.1 q.2 q.3 put.result wrote.result wrote.ensures sw T (lent a.l.now.names a.l.now.types ld births g n) c.returned_identifier_name-spared.result c.returned_identifier_name-spared.ensures (put.ensures.2 T ld births g n e);
      grows = (
        return-grows a.s.now small a.p a.end q.1 q.2 q.3 put.result put.ensures.0 put.ensures.1 wrote.result wrote.ensures,
        return-ends a.s.now small a.p a.end q.1 q.2 q.3 wrote.result wrote.ensures.at,
      );
    })
