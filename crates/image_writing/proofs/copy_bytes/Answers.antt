use Rattle.std.proofs.Common.{◌≡◌, ◌-◌, length, sym, ◌∙◌, arith}
use Rattle.std.proofs.Math.Seq.{slice, length-slice}
use Rattle.image_writing.proofs.Stores.{copied, part-fits, sets-out}
use Rattle.image_writing.proofs.copy_bytes.Goals as goal
use Rattle.image_writing.proofs.copy_bytes.Goals.{then-at-out, else-at-out}

pub returns : goal.returns
returns c =
    let a = c.args in
    let l : length (slice a.from a.to a.s.now) ≡ a.to - a.from = length-slice a.from a.to a.s.now c.requires.1 in
    elim c.if-at-out.branch [
      | then-at-out w ↦ record {
        cells = w.out-is ∙ copied a.out.now (slice a.from a.to a.s.now) _ a.at _ c.min-fit.result w.if-at-out.true (omega arith) (omega arith) (w.copy_from_slice.ensures.after ∙ part-fits a.s.now a.from a.to c.min-fit.result (omega arith) (omega arith));
        place = omega arith;
      }
      | else-at-out w ↦ record { cells = w.out-is ∙ sym (sets-out a.out.now a.at (slice a.from a.to a.s.now) w.if-at-out.false); place = omega arith }
    ]
