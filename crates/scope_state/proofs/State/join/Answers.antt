use Rattle.std.proofs.Common.{rules, sym, ◌∙◌, ap₂, refl}
use Rattle.scope_state.specs.Kinds.{said}
use Rattle.scope_state.proofs.Listed.{fits-none}
use Rattle.scope_state.proofs.Joined.{joins-ok, join-then-alive, join-else-alive, both-given, both-known, gone-both, places-some, join-full}
use Rattle.scope_state.proofs.State.join.Goals as goal

pub returns-then-self-eq0 : goal.returns-then-self-eq0
returns-then-self-eq0 c = joins-ok _ _ (join-then-alive c.args.keeps c.args.self c.args.other _ c.if-self-eq0.true c.conditional.ensures)

pub returns-then-other-eq0 : goal.returns-then-other-eq0
returns-then-other-eq0 c = joins-ok _ _ (join-else-alive c.args.keeps c.args.self c.args.other _ c.if-other-eq0.true c.conditional-then-other-eq0.ensures)

pub returns-then-eq : goal.returns-then-eq
returns-then-eq c = joins-ok _ _ (both-given c.args.keeps c.args.self c.args.other c.if-self-eq0.false c.if-other-eq0.false _ (sym c.eq.ensures ∙ c.if-eq.true))

pub returns-in_err-places : goal.returns-in_err-places
returns-in_err-places c =
    let full = fits-none c.in_err-places.ensures refl in
    rw c.from_residual.ensures (join-full c.args.keeps c.args.self c.args.other c.if-self-eq0.false c.if-other-eq0.false (sym c.eq.ensures ∙ c.if-eq.false) full)

pub invariant_of-result-2 : goal.invariant_of-result-2
invariant_of-result-2 c =
    let s = c.args.self in
    let t = c.args.other in
    let gone = places-some c.args.keeps s t c.if-self-eq0.false c.if-other-eq0.false (search rules) c.in_ok-places.places (c.in_ok-places.ensures.is _ refl) in
    rw c.family.ensures (record {
      known = both-known c.args.keeps s t c.if-self-eq0.false c.if-other-eq0.false;
      given = gone-both c.args.keeps s t c.if-self-eq0.false c.if-other-eq0.false ∙ sym gone;
    })

pub returns : goal.returns
returns c =
    let is = both-given c.args.keeps c.args.self c.args.other c.if-self-eq0.false c.if-other-eq0.false _ (sym c.eq.ensures ∙ c.if-eq.false) in
    joins-ok _ _ (ap₂ said c.family.ensures (c.in_ok-places.ensures.is _ refl) ∙ is)
