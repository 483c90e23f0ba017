use native.Mathlib.Omega.{arith}
use native.Mathlib.Nat.{le_refl}
use Rattle.image_body.proofs.Skipping.{steps, own, children-walk, children-end, list-walk, list-end, going_start, first_walk, going_next, going_done}
use Rattle.image_body.proofs.+skip_skip_many.Goals as goal

pub skip-overflow_sub-left : goal.skip-overflow_sub-left
skip-overflow_sub-left t c = let g = own c.peek-tag.ensures.0 c.requires in g.positive

pub skip-overflow_add-at : goal.skip-overflow_add-at
skip-overflow_add-at t c = let g = own c.peek-tag.ensures.0 c.requires in let r = g.room in omega arith

pub skip-overflow_add-at-2 : goal.skip-overflow_add-at-2
skip-overflow_add-at-2 t c = let g = own c.peek-tag.ensures.0 c.requires in let r = g.room in let b = c.arg_width.ensures.0 in omega arith

pub skip-skip_many-p-requires : goal.skip-skip_many-p-requires
skip-skip_many-p-requires t c = let g = own c.peek-tag.ensures.0 c.requires in let pos = g.positive in (omega arith, children-walk _ _ g c.fixed_count.ensures.0 c.arg_width.ensures.0)

pub skip-overflow_sub-left-2 : goal.skip-overflow_sub-left-2
skip-overflow_sub-left-2 t c = let g = own c.peek-tag.ensures.0 c.requires in g.positive

pub skip-items_at-requires : goal.skip-items_at-requires
skip-items_at-requires t c = let g = own c.peek-tag.ensures.0 c.requires in let eq = children-end _ _ _ g c.fixed_count.ensures.0 c.arg_width.ensures.0 c.skip_many-p.ensures g in let l = g.q-in in omega arith

pub skip-overflow_add-p : goal.skip-overflow_add-p
skip-overflow_add-p t c = let g = own c.peek-tag.ensures.0 c.requires in let eq = children-end _ _ _ g c.fixed_count.ensures.0 c.arg_width.ensures.0 c.skip_many-p.ensures g in let l = g.narrow in let m = g.q-in in let k = c.count_width-width.ensures.0 in omega arith

pub skip-skip_many-q-requires : goal.skip-skip_many-q-requires
skip-skip_many-q-requires t c = let g = own c.peek-tag.ensures.0 c.requires in let eq = children-end _ _ _ g c.fixed_count.ensures.0 c.arg_width.ensures.0 c.skip_many-p.ensures g in let pos = g.positive in (omega arith, list-walk _ _ _ g eq c.count_width-width.ensures.0 c.items_at.ensures)

pub skip-overflow_add-result : goal.skip-overflow_add-result
skip-overflow_add-result t c = let g = own c.peek-tag.ensures.0 c.requires in let eq = children-end _ _ _ g c.fixed_count.ensures.0 c.arg_width.ensures.0 c.skip_many-p.ensures g in
    let eu = list-end _ _ _ _ g eq c.count_width-width.ensures.0 c.items_at.ensures c.skip_many-q.ensures in
    let e = g.end in let l = g.next-in in let a = c.last_width.ensures.0 in omega arith

pub skip-returns : goal.skip-returns
skip-returns t c = λ e next st.
    let g = steps _ _ _ e next c.peek-tag.ensures.0 st (le_refl _) in
    let eq = children-end _ _ _ g c.fixed_count.ensures.0 c.arg_width.ensures.0 c.skip_many-p.ensures g in
    let eu = list-end _ _ _ _ g eq c.count_width-width.ensures.0 c.items_at.ensures c.skip_many-q.ensures in
    let ee = g.end in let a = c.last_width.ensures.0 in omega arith

pub skip_many-loop-init : goal.skip_many-loop-init
skip_many-loop-init t c = going_start _ _ _ _ c.requires

pub skip_many-skip-p-requires : goal.skip_many-skip-p-requires
skip_many-skip-p-requires t c = (omega arith, first_walk (omega arith) c.loop.invariant.here)

pub skip_many-loop-preserved : goal.skip_many-loop-preserved
skip_many-loop-preserved t c = going_next _ (omega arith) c.loop.invariant c.skip-p.ensures

pub skip_many-returns : goal.skip_many-returns
skip_many-returns t c = going_done (omega arith) c.loop.invariant
