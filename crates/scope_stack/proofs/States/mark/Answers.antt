use Rattle.std.proofs.Common.{◌≡◌, sym, refl, ◌∙◌, arith, rules}
use Rattle.scope_stack.proofs.Marked.{marking-none, marking-skip, marking-put, marks, marks-alike}
use Rattle.scope_stack.proofs.States.mark.Goals as goal
use Rattle.scope_stack.proofs.States.mark.Goals.{then-is_marked, else-is_marked}

pub loop-at-init : goal.loop-at-init
loop-at-init c = marking-none _ _ _ _ _ _ _ _ c.requires.0

pub loop-at-preserved : goal.loop-at-preserved
loop-at-preserved c =
    elim c.if-is_marked.branch [
      | then-is_marked w ↦ marking-put _ _ _ _ _ _ _ _ _ _ c.loop-at.invariant _ _ _ w.self-is refl (w.with_bit.ensures 0 _ c.loop-at.invariant.held.word) (search rules) (sym c.is_marked.ensures ∙ w.if-is_marked.true)
      | else-is_marked w ↦ marking-skip _ _ _ _ _ _ _ _ _ _ c.loop-at.invariant _ w.self-is (sym c.is_marked.ensures ∙ w.if-is_marked.false)
    ]

pub returns : goal.returns
returns c = let end : c.loop-at.at ≡ c.args.l.now.count = omega (arith, c.loop-at.auto, c.loop-at-test.false) in
    let h = rw end at c.loop-at.invariant in
    (h.held, marks _ _ _ _ _ c.args.l.now _ _ c.requires.2 h c.frame_of-depth.ensures, λ k en ed ec. marks-alike _ _ _ _ _ c.args.l.now k _ _ en ed ec c.requires.2 h c.frame_of-depth.ensures)
