use Rattle.statements_changes.proofs.Turned.{acted-ahead, came-back, not-on}
use Rattle.statements_changes.proofs.Steady.{grows-as, grows-told}
use Rattle.blocks_laws.proofs.Wrotes.{grows_none}
use Rattle.statements_acts.specs.declared.Place.{Place}
use Rattle.statements_changes.specs.declared.Came.{Came}
use Rattle.statements_changes.specs.declared.Cursor.{Cursor}
use Rattle.statements_changes.specs.Turns.{retold, ahead, cursor_of}
use Rattle.std.specs.declared.ops.ControlFlow.{ControlFlow}
use Prim.Native.Nat.{◌+◌, ◌<◌}
use mathlib.Core.Path.{◌≡◌, sym, ap, ◌∙◌, subst}
use Rattle.statements_changes.proofs.passed.Goals as goal

pub returns-in_err-due-clause-after : goal.returns-in_err-due-clause-after
returns-in_err-due-clause-after c = λ T sy ld σ loop h all σ₀ p₀ m₀ g.
    rw c.from_residual.ensures ((c.due.ensures.by_index _ c.in_err-due.was _ _ _ c.requires.4).2 _ T _ all σ₀ p₀ m₀ σ _ g)

pub returns-in_err-due-clause-fit : goal.returns-in_err-due-clause-fit
returns-in_err-due-clause-fit c =
    let r = c.requires in
    let d = c.due.ensures.by_index _ c.in_err-due.was c.args.s.now c.args.env.left c.args.nodes.now r.4 in
    let p = c.due.ensures.place_value _ c.in_err-due.was in
    rw c.from_residual.ensures (d.0, r.5, λ k e. absurd (not-on e), λ b e. rw (came-back e) d.1, grows-as (grows_none r.4.inside.inside) (ap (λ (x : Place). retold x 0) p))

pub returns-clause-fit : goal.returns-clause-fit
returns-clause-fit c =
    let a = c.acted.ensures.by_index in
    let b = c.begun-b.ensures in
    let v = c.scanned.ensures.fit in
    let left = a.1 ∙ (v.2 _ c.in_ok-w.was).2 ∙ b.3 in
    let f = acted-ahead c.args.s.now (cursor_of c.acted.result) c.args.c a.2 left in (
      a.0 _,
      v.1,
      λ k e. subst (λ (x : Cursor). (x.left + 1 ≡ c.args.c.left) × (ahead c.args.s.now x < ahead c.args.s.now c.args.c)) (ap cursor_of e) (left, f),
      λ k e z. subst (λ (x : Cursor). ahead c.args.s.now x < ahead c.args.s.now c.args.c) (ap cursor_of e) f,
      grows-told (ap (λ (x : ControlFlow Came Cursor). retold (cursor_of x).place 0) (sym c.in_ok-w.was) ∙ v.4 ∙ ap (λ (x : Place). retold x 0) b.6) a.3,
    )
