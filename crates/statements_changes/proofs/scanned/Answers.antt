use Rattle.statements_changes.proofs.Turned.{begun-room, steady-on, mark-fit, still-nodes, steady-as, stood-as, scanned-ahead, went-on, came-back, not-back, not-on}
use Rattle.statements_changes.proofs.Midst.{stood_on}
use Rattle.statements_changes.specs.declared.Cursor.{Cursor}
use Rattle.statements_changes.specs.Turns.{retold}
use mathlib.Core.Path.{refl, sym, ap, ◌∙◌}
use Rattle.statements_changes.proofs.scanned.Goals as goal

pub scan_on-v-requires : goal.scan_on-v-requires
scan_on-v-requires c =
    let r = c.requires in
    (r.0, r.1, (r.2.within r.3).ready, begun-room _ _ _ c.args.c r.2 r.3)

pub returns-in-None : goal.returns-in-None
returns-in-None c =
    let a = c.args in
    let r = c.requires in
    let v = c.scan_on-v in
    let w = c.within-cursor.ensures in
    let i = c.in-None.is in record {
      after = λ sw T sy types depths births σ h loop all σ₀ p₀ m₀ warns lefts g. stood-as σ v.result.change _ (stood_on sw T _ _ _ _ all σ₀ p₀ m₀ _ a.c σ _ _ warns lefts g r.3 _ (v.ensures.0 T sy types depths births σ h)) w i;
      fit = (
        steady-as w (steady-on _ _ _ a.c r.2 r.3 _ v.result v.ensures.1),
        v.ensures.1.ready.room,
        λ k e. rw (went-on e) (ap (λ (x : Cursor). x.begun) w, ap (λ (x : Cursor). x.nodes) w ∙ still-nodes v.result v.ensures.1 i, ap (λ (x : Cursor). x.left) w),
        λ k e. absurd (not-back e),
        ap (λ (x : Cursor). retold x.place 0) w,
      );
    }

pub returns-in-Some : goal.returns-in-Some
returns-in-Some c =
    let a = c.args in
    let r = c.requires in
    let v = c.scan_on-v in
    let w = c.within-cursor.ensures in
    let i = c.in-Some.is in record {
      after = λ sw T sy types depths births σ h loop all σ₀ p₀ m₀ warns lefts g. stood-as σ v.result.change _ (stood_on sw T _ _ _ _ all σ₀ p₀ m₀ _ a.c σ _ _ warns lefts g r.3 _ (v.ensures.0 T sy types depths births σ h)) w i;
      fit = (
        mark-fit _ _ _ _ _ w (steady-on _ _ _ a.c r.2 r.3 _ v.result v.ensures.1) v.result.change v.ensures.1.marks _ i,
        v.ensures.1.ready.room,
        λ k e. absurd (not-on e),
        λ k e. rw (came-back e) (scanned-ahead a.s.now a.c _ _ _ v.result _ r.3 w v.ensures.1 _ i),
        ap (λ (x : Cursor). retold x.place 0) w,
      );
    }
