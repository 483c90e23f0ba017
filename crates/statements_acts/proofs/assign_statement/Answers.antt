use Rattle.statements_acts.proofs.Ends.{assign-ends}
use Rattle.statements_acts.proofs.Acts.{room_of, assign-reach, assign-grows, assign-acts}
use Rattle.statements_acts.specs.Marks.{lent}
use Rattle.image_fields.specs.Bytes.{Bytes}
use native.Mathlib.Omega.{arith}
use Rattle.statements_acts.proofs.assign_statement.Goals as goal

pub overflow_add-end : goal.overflow_add-end
overflow_add-end c =
    let a = c.args in
    let small : Bytes a.s.now = λ k. omega (arith, c.type_inv.s k) in
    let q = c.requires in
    let w = room_of q.2 in
    let r = assign-reach a.s.now small a.p a.end q.3 q.4 in
    omega (arith, r.1)

pub behind-place-requires : goal.behind-place-requires
behind-place-requires c =
    let a = c.args in
    let small : Bytes a.s.now = λ k. omega (arith, c.type_inv.s k) in
    let q = c.requires in
    let w = room_of q.2 in
    let r = assign-reach a.s.now small a.p a.end q.3 q.4 in
    let x = c.pre_delete_before_assign-put.ensures.0 in
    let y = c.pre_delete_before_assign-put.ensures.1 in
    (omega (arith, r.0), r.1, w.0, omega arith, omega arith)

pub taken_by-requires : goal.taken_by-requires
taken_by-requires c =
    let a = c.args in
    let small : Bytes a.s.now = λ k. omega (arith, c.type_inv.s k) in
    let q = c.requires in
    (q.0, q.1, (assign-reach a.s.now small a.p a.end q.3 q.4).2)

pub returns : goal.returns
returns c =
    let a = c.args in
    let b : Bytes a.s.now = λ k. omega (arith, c.type_inv.s k) in
    let put = c.pre_delete_before_assign-put in
    let w = c.behind-place in record {
      acts_there = λ sw T h ld births g m. assign-acts a.s.now b a.p a.end c.requires.3 c.requires.4 put.result w.result c.revived.result c.taken_by.result w.ensures sw T
          (lent a.l.now.names a.l.now.types ld births g a.l.now.count) c.span_at-span.result c.span_at-span.ensures (put.ensures.2 sw T ld births g m) c.revived.ensures (c.taken_by.ensures T h ld births g);
      grows = (
        assign-grows a.s.now b a.p a.end c.requires.3 c.requires.4 put.result put.ensures.0 put.ensures.1 w.result w.ensures,
        assign-ends a.s.now b a.p a.end c.requires.3 c.requires.4 w.result w.ensures.at,
      );
    }
