use mathlib.Core.Path.{◌≡◌, refl, sym, ap, ◌∙◌}
use mathlib.Core.Bool.{true, false}
use Prim.Native.Nat.{ℕ, ◌/◌, ◌%◌}
use lib.Dec.{eqb}
use Rattle.image_fields.specs.Bytes.{Bytes}
use Rattle.rules.specs.Rules.{switches_of}
use Rattle.statements_acts.proofs.Ends.{bare_ends}
use Rattle.statements_acts.proofs.Acts.{room_of, none-put-is, listed-is, bare-reach, bare-acts, bare-cleared, leaves-grows}
use Rattle.statements_acts.specs.Marks.{lent}
use native.Mathlib.Omega.{arith}
use Rattle.statements_acts.proofs.bare_return.Goals as goal

pub behind-requires : goal.behind-requires
behind-requires c =
    let a = c.args in
    let small : Bytes a.s.now = λ k. omega (arith, c.type_inv.s k) in
    let q = c.requires in
    let w = room_of q.0 in
    let x = c.put_drops-put.ensures.0 in
    let y = c.put_drops-put.ensures.1 in
    let v = bare-reach a.s.now small a.p q.1 q.2 q.3 in
    (omega arith, v, w.0, omega arith, omega arith)

pub returns-then-has_switch : goal.returns-then-has_switch
returns-then-has_switch c =
    let a = c.args in
    let small : Bytes a.s.now = λ k. omega (arith, c.type_inv.s k) in
    let q = c.requires in
    let put = c.put_drops-put in
    let wrote = c.behind in
    let one : a.switches / 1 ≡ a.switches = omega arith in
    let on : (switches_of a.switches).bare_returns ≡ true = ap (λ (v : ℕ). eqb (v % 2) 1) (sym one) ∙ sym c.has_switch.ensures ∙ c.if-has_switch.true in
    rw c.unchanged.ensures (record {
      acts_there = λ T ld g n e warns. bare-cleared a.s.now small a.p q.1 q.2 q.3 put.result wrote.result wrote.ensures (switches_of a.switches) on T (lent a.l.now.names a.l.now.types ld a.l.now.births g n)
          (put.ensures.2 T ld a.l.now.births g n e) warns a.lefts.now;
      grows = (
        leaves-grows a.s.now a.p 8 (omega arith) (bare-reach a.s.now small a.p q.1 q.2 q.3) refl (omega arith) put.ensures.0 put.ensures.1 wrote.ensures,
        bare_ends a.s.now small a.p q.2 q.3 wrote.result wrote.ensures.at,
      );
    })

pub behind-requires-2 : goal.behind-requires-2
behind-requires-2 c =
    let a = c.args in
    let small : Bytes a.s.now = λ k. omega (arith, c.type_inv.s k) in
    let q = c.requires in
    let w = room_of q.0 in
    let e = none-put-is a.p c.nothing_put.ensures in
    let l = listed-is a.p c.listed.ensures in
    let v = bare-reach a.s.now small a.p q.1 q.2 q.3 in
    (omega arith, v, w.0, omega arith, omega arith)

pub returns : goal.returns
returns c =
    let a = c.args in
    let small : Bytes a.s.now = λ k. omega (arith, c.type_inv.s k) in
    let q = c.requires in
    let wrote = c.behind-2 in
    let none = c.nothing_put in
    let place = c.listed in
    let left = c.list_left-left in
    let z = none-put-is a.p none.ensures in
    let one : a.switches / 1 ≡ a.switches = omega arith in
    let off : (switches_of a.switches).bare_returns ≡ false = ap (λ (v : ℕ). eqb (v % 2) 1) (sym one) ∙ sym c.has_switch.ensures ∙ c.if-has_switch.false in
    rw c.unchanged-2.ensures (record {
      acts_there = λ T ld g n e. bare-acts a.s.now small a.p q.1 q.2 q.3 left.result place.result place.ensures none.result none.ensures wrote.result wrote.ensures (switches_of a.switches) off T
          (lent a.l.now.names a.l.now.types ld a.l.now.births g n) c.span_at-span.result c.span_at-span.ensures (left.ensures.1 T a.l.now.types ld g n e);
      grows = (
        leaves-grows a.s.now a.p 8 (omega arith) (bare-reach a.s.now small a.p q.1 q.2 q.3) place.ensures left.ensures.0 (omega (arith, z.0)) (omega (arith, z.1)) wrote.ensures,
        bare_ends a.s.now small a.p q.2 q.3 wrote.result wrote.ensures.at,
      );
    })
