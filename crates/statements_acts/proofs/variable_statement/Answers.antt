use native.Mathlib.Omega.{arith}
use Rattle.image_fields.specs.Bytes.{Bytes}
use Rattle.statements_acts.specs.Marks.{lent}
use Rattle.statements_acts.proofs.Acts.{room_of, none-put-is, variable-reach, variable-grows, variable-acts}
use Rattle.statements_acts.proofs.variable_statement.Goals as goal

pub behind-place-requires : goal.behind-place-requires
behind-place-requires c =
    let a = c.args in
    let b : Bytes a.s.now = λ k. omega (arith, c.type_inv.s k) in
    let w = room_of c.requires.2 in
    let e = none-put-is a.p c.nothing_put.ensures in
    let r = variable-reach a.s.now b a.p a.end c.requires.3 c.requires.4 c.requires.5 in
    (omega arith, r.1, w.0, omega arith, omega arith)

pub returns : goal.returns
returns c =
    let a = c.args in
    let b : Bytes a.s.now = λ k. omega (arith, c.type_inv.s k) in
    let put = c.nothing_put in
    let w = c.behind-place in record {
      acts_there = λ sw T h ld births g. variable-acts a.s.now b a.p a.end c.requires.3 c.requires.4 c.requires.5 put.result put.ensures w.result w.ensures sw T (lent a.l.now.names a.l.now.types ld births g a.l.now.count) _ _ _
          c.consumed_compiler_temp_from_value-taken.result c.name_at-name.ensures c.name_at-ty.ensures c.span_at-born.ensures (c.consumed_compiler_temp_from_value-taken.ensures T h ld births g);
      grows = variable-grows a.s.now b a.p a.end c.requires.3 c.requires.4 c.requires.5 put.result put.ensures w.result w.ensures;
    }
