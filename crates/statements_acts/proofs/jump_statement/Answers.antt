use mathlib.Core.Path.{◌≡◌, refl, sym, ◌∙◌}
use mathlib.Core.Bool.{true, false}
use Rattle.image_fields.specs.Bytes.{Bytes}
use Rattle.rules.specs.Rules.{switches_of, delete_at, in_loop}
use Rattle.rules.specs.Report.{left_at}
use Rattle.statements_acts.proofs.Ends.{jump-ends}
use Rattle.statements_acts.proofs.Acts.{room_of, none-put-is, listed-is, jump-reach, jump-acts, jump-cleared, leaves-grows}
use Rattle.statements_acts.proofs.Masked.{state_since, since-marked, since-drops}
use Rattle.statements_acts.specs.Marks.{lent, drop_in}
use native.Mathlib.Omega.{arith}
use Rattle.statements_acts.proofs.jump_statement.Goals as goal

pub behind-requires : goal.behind-requires
behind-requires c =
    let a = c.args in
    let small : Bytes a.s.now = λ k. omega (arith, c.type_inv.s k) in
    let q = c.requires in
    let w = room_of q.0 in
    let x = c.put_drops-put.ensures.0 in
    let y = c.put_drops-put.ensures.1 in
    let v = jump-reach a.s.now small a.p q.1 q.2 in
    (omega arith, v, w.0, omega arith, omega arith)

pub returns-then-has_switch : goal.returns-then-has_switch
returns-then-has_switch c =
    let a = c.args in
    let l = a.l.now in
    let small : Bytes a.s.now = λ k. omega (arith, c.type_inv.s k) in
    let q = c.requires in
    let put = c.put_drops-put in
    let wrote = c.behind in
    let on : (switches_of a.switches).jumps ≡ true = sym c.has_switch.ensures ∙ c.if-has_switch.true in
    rw c.unchanged.ensures (record {
      acts_there = λ T ld g n e loop lo warns. jump-cleared a.s.now small a.p q.1 q.2 put.result wrote.result wrote.ensures (switches_of a.switches) on T
          (lent l.names l.types ld l.births g n) loop (lent l.names l.types ld l.births (state_since a.base g) n)
          (since-drops T l.types g a.base l.names ld l.births (λ x. in_loop loop x) (delete_at 0) n (λ i h. lo.own l.names l.types l.births i h))
          (put.ensures.2 T ld l.births (state_since a.base g) n (since-marked T l.types g a.base n _ (c.since-own.ensures 0 n (drop_in T l.types g) lo.few e))) warns a.lefts.now;
      grows = (
        leaves-grows a.s.now a.p 5 (omega arith) (jump-reach a.s.now small a.p q.1 q.2) refl (omega arith) put.ensures.0 put.ensures.1 wrote.ensures,
        jump-ends a.s.now small a.p q.2 wrote.result wrote.ensures.at,
      );
    })

pub behind-requires-2 : goal.behind-requires-2
behind-requires-2 c =
    let a = c.args in
    let small : Bytes a.s.now = λ k. omega (arith, c.type_inv.s k) in
    let q = c.requires in
    let w = room_of q.0 in
    let e = none-put-is a.p c.nothing_put.ensures in
    let l = listed-is a.p c.listed.ensures in
    let v = jump-reach a.s.now small a.p q.1 q.2 in
    (omega arith, v, w.0, omega arith, omega arith)

pub returns : goal.returns
returns c =
    let a = c.args in
    let l = a.l.now in
    let small : Bytes a.s.now = λ k. omega (arith, c.type_inv.s k) in
    let q = c.requires in
    let wrote = c.behind-2 in
    let none = c.nothing_put in
    let place = c.listed in
    let left = c.list_left-left in
    let z = none-put-is a.p none.ensures in
    let off : (switches_of a.switches).jumps ≡ false = sym c.has_switch.ensures ∙ c.if-has_switch.false in
    rw c.unchanged-2.ensures (record {
      acts_there = λ T ld g n e loop lo warns. jump-acts a.s.now small a.p q.1 q.2 left.result place.result place.ensures none.result none.ensures wrote.result wrote.ensures (switches_of a.switches) off T
          (lent l.names l.types ld l.births g n) loop (lent l.names l.types ld l.births (state_since a.base g) n)
          (λ m. since-drops T l.types g a.base l.names ld l.births (λ x. in_loop loop x) (left_at m) n (λ i h. lo.own l.names l.types l.births i h))
          c.span_at-span.result c.span_at-span.ensures
          (left.ensures.1 T l.types ld (state_since a.base g) n (since-marked T l.types g a.base n _ (c.since-own.ensures 0 n (drop_in T l.types g) lo.few e))) warns;
      grows = (
        leaves-grows a.s.now a.p 5 (omega arith) (jump-reach a.s.now small a.p q.1 q.2) place.ensures left.ensures.0 (omega (arith, z.0)) (omega (arith, z.1)) wrote.ensures,
        jump-ends a.s.now small a.p q.2 wrote.result wrote.ensures.at,
      );
    })
