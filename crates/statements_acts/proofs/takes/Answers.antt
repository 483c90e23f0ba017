use mathlib.Core.Path.{refl, ap, ◌∙◌}
use mathlib.Core.Bool.{not}
use borrow.Author.Tests.{eq-eqb, ne_eqb}
use Rattle.rules.specs.Stack.{shape}
use Rattle.statements_acts.specs.Marks.{lent}
use Rattle.statements_acts.proofs.Lent.{static-none, static-some}
use Rattle.statements_acts.proofs.Taken.{takes_none, takes-all}
use Rattle.statements_acts.proofs.takes.Goals as goal
use Rattle.statements_acts.proofs.takes.Goals.{then-temp-name, else-temp-name, then-l-i, else-l-i}

pub returns-in_default : goal.returns-in_default
returns-in_default c =
    let a = c.args in
    λ T e ld births g. takes_none T (shape (lent a.l.now.names a.l.now.types ld births g a.l.now.count)) _ _ _ (static-none c.find_local.ensures a.l.now.types ld births g c.in_default.is)

pub returns-then-not-is_temp : goal.returns-then-not-is_temp
returns-then-not-is_temp c =
    let a = c.args in
    λ T e ld births g. takes-all T (shape (lent a.l.now.names a.l.now.types ld births g a.l.now.count)) _ _ _ (static-some c.find_local.ensures a.l.now.types ld births g c.in-Some.is) {a = c.if-temp-name.value} {b = c.if-l-i.value}
    (elim c.if-temp-name.branch [ then-temp-name w ↦ rw (ne_eqb _ _ w.if-temp-name.true) w.value-is | else-temp-name w ↦ w.value-is ∙ rw (eq-eqb _ _ w.if-temp-name.false) refl ])
    (elim c.if-l-i.branch [ then-l-i w ↦ rw w.if-l-i.true (w.value-is ∙ ap not (w.is_temp.ensures T e)) | else-l-i w ↦ w.value-is ∙ rw w.if-l-i.false refl ])
    (rw c.if-not-is_temp.true (c.is_temp-then-not-is_temp.ensures T e))

pub returns-else-not-is_temp : goal.returns-else-not-is_temp
returns-else-not-is_temp c =
    let a = c.args in
    λ T e ld births g. takes-all T (shape (lent a.l.now.names a.l.now.types ld births g a.l.now.count)) _ _ _ (static-some c.find_local.ensures a.l.now.types ld births g c.in-Some.is) {a = c.if-temp-name.value} {b = c.if-l-i.value}
    (elim c.if-temp-name.branch [ then-temp-name w ↦ rw (ne_eqb _ _ w.if-temp-name.true) w.value-is | else-temp-name w ↦ w.value-is ∙ rw (eq-eqb _ _ w.if-temp-name.false) refl ])
    (elim c.if-l-i.branch [ then-l-i w ↦ rw w.if-l-i.true (w.value-is ∙ ap not (w.is_temp.ensures T e)) | else-l-i w ↦ w.value-is ∙ rw w.if-l-i.false refl ])
    (rw c.if-not-is_temp.false refl)
