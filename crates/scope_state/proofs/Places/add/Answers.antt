use Rattle.std.proofs.Common.{rules, sym, ◌∙◌, arith, length-append, ◌≡◌, length, length-take-le}
use Rattle.scope_state.specs.View.{listed}
use Rattle.scope_state.proofs.Listed.{any-member, take-add, fits-ok, fits-no}
use Rattle.scope_state.proofs.Places.add.Goals as goal

pub returns-then-contains : goal.returns-then-contains
returns-then-contains c =
    let there = sym (any-member _ c.args.place) ∙ sym c.contains.ensures.value ∙ c.if-contains.true in
    fits-ok _ _ (rw (← c.as_slice.ensures, there))

pub returns-then-self-eq8 : goal.returns-then-self-eq8
returns-then-self-eq8 c =
    let other = sym (any-member _ c.args.place) ∙ sym c.contains.ensures.value ∙ c.if-contains.false in
    let all : length (listed c.args.self) ≡ c.args.self.count = length-take-le _ _ (search rules) in
    fits-no _ (rw (← c.as_slice.ensures, other, c.as_slice.ensures) (simp length-append (omega (arith, all, c.if-self-eq8.true))))

pub returns : goal.returns
returns c =
    let other = sym (any-member _ c.args.place) ∙ sym c.contains.ensures.value ∙ c.if-contains.false in
    let at : c.wide.result ≡ c.args.self.count = c.wide.ensures.0 in
    let list = take-add c.args.self.count c.args.self.list c.args.place (search rules) in
    fits-ok _ _ (rw (← c.as_slice.ensures, other, c.as_slice.ensures, at, list))
