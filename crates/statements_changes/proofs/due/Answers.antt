use Rattle.statements_changes.proofs.Turned.{owed-after, owed-fit, over-after, over-fit, owed-ahead, came-back, not-back, not-on}
use Rattle.statements_changes.specs.declared.Came.{Came}
use mathlib.Core.Path.{refl, ap, ◌∙◌}
use native.Mathlib.Omega.{arith}
use Rattle.statements_changes.proofs.due.Goals as goal

pub returns-in-Some : goal.returns-in-Some
returns-in-Some c =
    let a = c.args.c in
    let t = c.in-Some.is in
    let o = c.owed.ensures in record {
      goes_on = λ x e. absurd (not-on e);
      by_index = λ came e s left nodes st. (
        owed-fit s left nodes a st _ t came (came-back e ∙ o),
        λ z. owed-ahead s left nodes a st _ t came (came-back e ∙ o),
        λ sw T loop all σ₀ p₀ m₀ σ m g. owed-after s left nodes a st _ t sw T loop all σ₀ p₀ m₀ σ m g came (came-back e ∙ o),
      );
      place_value = λ came e. ap (λ (x : Came). x.cursor.place) (came-back e ∙ o);
    }

pub returns-then-c-eq0 : goal.returns-then-c-eq0
returns-then-c-eq0 c =
    let a = c.args.c in
    let n = c.if-c-eq0.true in
    let t = c.in_default.is in record {
      goes_on = λ x e. absurd (not-on e);
      by_index = λ came e s left nodes st. rw (came-back e) (over-fit s left nodes a st n, λ z. absurd (z refl), λ sw T loop all σ₀ p₀ m₀ σ m g. over-after s left nodes a st t n sw T loop all σ₀ p₀ m₀ σ m g);
      place_value = λ came e. ap (λ (x : Came). x.cursor.place) (came-back e);
    }

pub returns : goal.returns
returns c =
    let n = c.if-c-eq0.false in
    let t = c.in_default.is in
    record { goes_on = λ x e. (t, omega arith); by_index = λ came e. absurd (not-back e); place_value = λ came e. absurd (not-back e) }
