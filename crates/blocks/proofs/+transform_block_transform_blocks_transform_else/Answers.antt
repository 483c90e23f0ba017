use Prim.Native.Nat.{◌+◌, ◌-◌, ◌≤◌}
use mathlib.Core.List.{[]}
use lib.ListN.{length}
use mathlib.Core.Path.{◌≡◌, refl, sym, ap, ◌∙◌, subst}
use mathlib.Core.Logic.{⊎_elim}
use native.Mathlib.Omega.{arith}
use Rattle.image_fields.specs.Bytes.{Bytes}
use Rattle.tables_lookup.proofs.Lent.{tables_of, said}
use Rattle.rules.specs.Stack.{shape}
use Rattle.image_writing.specs.Memory.{memory}
use Rattle.statements_returns.specs.Returns.{BlockThere}
use Rattle.statements_returns.proofs.Surely.{block-there}
use Rattle.statements_acts.specs.declared.Place.{Place}
use Rattle.statements_acts.specs.Act.{Within}
use Rattle.scope_stack.specs.View.{view, alive_at, Nested}
use Rattle.blocks_ends.specs.declared.Env.{Env}
use Rattle.blocks_ends.specs.Ends.{place_in, fault_in, walked_in}
use Rattle.blocks.specs.Blocks.{Enters, block_rows}
use Rattle.std.specs.Prelude.{Some}
use Rattle.image_fields.specs.declared.Fault.TheVariants as fault
use Rattle.scope_rows.specs.declared.Stop.TheVariants as stop
use Rattle.blocks_ends.specs.declared.Walk.{Walk}
use Rattle.blocks_ends.proofs.Walks.{stopped, goes_on, twelve-is, reaches}
use Rattle.statements_acts.proofs.Laws.{auto-is}
use Rattle.blocks.proofs.Standing.{loop-few, standing-start, ask-next, turned, standing-mark, standing-revived, standing-fresh, full, enters-blocks, there-blocks, less-behind, standing-behind, mark-goes, register-goes, blocks-go}
use Rattle.blocks.proofs.Ending.{loop-inner, enters-inner, done-as, fault-done, blocks-done, end-there, end_frame, end-done}
use Rattle.blocks.proofs.Branching.{own_loop, loop-of, moved-once, moved_twice, copied_at, copies_at, comes-at, walks_at, branches_at, merges-at, block-asked, left-same, behind-asked, to-branch, branch-below, branch-enters, branch-short, below_less, comes-faulty, else-low, else-short, else-branches, merged-comes, else-merged}
use Rattle.blocks.proofs.Thens.{tag-of, seven-of, not_eight, told-either, flag-seven, flag-none, block_of, then-low, then-short, plain-comes, then-below, then-least, then-fault, flag-there, else-enters, else-block-there, else-first, else-comes-to, else-walks-to, without-branches, without-comes, without-if, without-loop, flag-further, loop-further}
use Rattle.blocks.proofs.+transform_block_transform_blocks_transform_else.Goals as goal

pub transform_block-inner-e-requires : goal.transform_block-inner-e-requires
transform_block-inner-e-requires t c =
    (block-there _ _ _ c.requires.1).0

pub transform_block-overflow_sub-depth : goal.transform_block-overflow_sub-depth
transform_block-overflow_sub-depth t c =
    let el = ap (λ (x : Env). x.left) c.inner-e.ensures in
    omega (arith, el, c.requires.0.depth)

pub transform_block-head-c-requires : goal.transform_block-head-c-requires
transform_block-head-c-requires t c = (
  c.requires.0.within,
  (block-there _ _ _ c.requires.1).1,
)

pub transform_block-loop-l-init : goal.transform_block-loop-l-init
transform_block-loop-l-init t c =
    let small : Bytes c.args.s.now = λ k. omega (arith, c.type_inv.s k) in
    let en = enters-inner _ _ c.args.env c.inner-e.result _ _ _ _ c.inner-e.ensures c.requires.0 in
    let there = c.requires.1 in
    let el = ap (λ (x : Env). x.left) c.inner-e.ensures in
    standing-start c.args.s.now c.args.tb.now c.inner-e.result c.args.pl.now.place
    c.args.outer c.args.states c.args.rows.now _ c.args.errs.now c.args.warns.now c.args.lefts.now en
    c.args.env.left el there small _ c.requires.3 _
    c.head-c.ensures.is

pub transform_block-next_change-r-requires : goal.transform_block-next_change-r-requires
transform_block-next_change-r-requires t c =
    let en = enters-inner _ _ c.args.env c.inner-e.result _ _ _ _ c.inner-e.ensures c.requires.0 in
    let ec = ap (λ (x : Env). x.cur) c.inner-e.ensures in
    ask-next c.args.s.now c.args.tb.now c.inner-e.result c.args.pl.now.place
    c.args.outer c.args.states c.args.rows.now _ c.args.errs.now c.args.warns.now c.args.lefts.now en.lent
    en.depth en.width (omega (arith, ec, c.requires.2))
    (loop-few en.near c.inner-e.result.base _ c.args.outer en.sound.kept.small en.looped) c.loop-l.invariant c.mark_of-mark.result c.scanning.result
    c.scanning.ensures

pub transform_block-end_block-requires : goal.transform_block-end_block-requires
transform_block-end_block-requires t c =
    let small : Bytes c.args.s.now = λ k. omega (arith, c.type_inv.s k) in
    let there = c.requires.1 in
    let el = ap (λ (x : Env). x.left) c.inner-e.ensures in
    let low = (block-there _ _ _ c.requires.1).0 in
    let within = c.requires.0.within in
    let h = turned c.args.s.now c.args.tb.now c.inner-e.result c.args.pl.now.place c.args.outer c.args.states c.args.rows.now _ c.args.errs.now c.args.warns.now c.args.lefts.now
    c.loop-l.invariant c.mark_of-mark.result (c.mark_of-mark.ensures c.loop-l.l c.loop-l.st refl refl) c.scanning.result c.scanning.ensures (c.next_change-r.ensures.after, c.next_change-r.ensures.fit)
    c.in-Over.is c.next_change-r.auto.out c.next_change-r.auto.errs c.next_change-r.auto.warns c.next_change-r.auto.lefts in (
      end-there c.args.s.now c.args.tb.now
          small c.inner-e.result c.args.env.left low c.requires.0.depth el
          c.args.pl.now.place c.args.outer c.args.states c.args.rows.now _ c.args.errs.now c.args.warns.now
          c.args.lefts.now within there c.args.out.now c.head-c.ensures.stored h c.requires.0.near
          (loop-inner c.args.env c.inner-e.result c.args.outer c.requires.0.near c.inner-e.ensures (block-there _ _ _ c.requires.1).0 c.requires.0.depth c.requires.0.looped),
      c.requires.0.sound.kept.small,
    )

pub transform_block-leave-requires : goal.transform_block-leave-requires
transform_block-leave-requires t c =
    let most = c.loop-l.invariant.owned.extends.most in
    let small = c.loop-l.invariant.owned.sound.kept.small in
    (c.loop-l.invariant.owned.sound.held, omega (arith, most, small), omega (arith, most, small))

pub transform_block-shape_of-rows-in-Over : goal.transform_block-shape_of-rows-in-Over
transform_block-shape_of-rows-in-Over t c =
    c.loop-l.invariant.owned.below.room

pub transform_block-shape_of-out-in-Over : goal.transform_block-shape_of-out-in-Over
transform_block-shape_of-out-in-Over t c =
    omega (arith, c.end_block.auto.out, c.next_change-r.auto.out, c.loop-l.invariant.long.out, c.head-c.auto.out)

pub transform_block-shape_of-errs-in-Over : goal.transform_block-shape_of-errs-in-Over
transform_block-shape_of-errs-in-Over t c =
    omega (arith, c.next_change-r.auto.errs, c.loop-l.invariant.long.errs)

pub transform_block-shape_of-warns-in-Over : goal.transform_block-shape_of-warns-in-Over
transform_block-shape_of-warns-in-Over t c =
    omega (arith, c.next_change-r.auto.warns, c.loop-l.invariant.long.warns)

pub transform_block-shape_of-lefts-in-Over : goal.transform_block-shape_of-lefts-in-Over
transform_block-shape_of-lefts-in-Over t c =
    omega (arith, c.next_change-r.auto.lefts, c.loop-l.invariant.long.lefts)

pub transform_block-returns-in-Over : goal.transform_block-returns-in-Over
transform_block-returns-in-Over t c =
    let small : Bytes c.args.s.now = λ k. omega (arith, c.type_inv.s k) in
    let there = c.requires.1 in
    let el = ap (λ (x : Env). x.left) c.inner-e.ensures in
    let low = (block-there _ _ _ c.requires.1).0 in
    let within = c.requires.0.within in
    let h = turned c.args.s.now c.args.tb.now c.inner-e.result c.args.pl.now.place c.args.outer c.args.states c.args.rows.now _ c.args.errs.now c.args.warns.now c.args.lefts.now
    c.loop-l.invariant c.mark_of-mark.result (c.mark_of-mark.ensures c.loop-l.l c.loop-l.st refl refl) c.scanning.result c.scanning.ensures (c.next_change-r.ensures.after, c.next_change-r.ensures.fit)
    c.in-Over.is c.next_change-r.auto.out c.next_change-r.auto.errs c.next_change-r.auto.warns c.next_change-r.auto.lefts in
    let nested = subst (λ (x : Env). Nested (12 - c.args.env.left)
    (shape (view c.args.outer c.args.states c.args.rows.now x.cur x.width))) (sym c.inner-e.ensures)
    c.requires.0.nested in
    let frame = end_frame c.args.s.now c.args.tb.now
    small c.inner-e.result c.args.env.left low c.requires.0.depth el
    c.args.pl.now.place c.args.outer c.args.states c.args.rows.now _ c.args.errs.now c.args.warns.now
    c.args.lefts.now within there c.args.out.now c.head-c.ensures.stored h nested in
    let d = end-done c.args.s.now c.args.tb.now
    small c.inner-e.result c.args.env.left low c.requires.0.depth el
    c.args.pl.now.place c.args.outer c.args.states c.args.rows.now _ c.args.errs.now c.args.warns.now
    c.args.lefts.now within there c.args.out.now c.head-c.ensures.stored h _ _ c.end_block.ensures.1 c.leave.result
    c.leave.ensures c.requires.0.sound.kept c.requires.0.sound.drops nested _ _ (sym (ap (λ (x : Env). x.switches) c.inner-e.ensures))
    (λ T sy. c.end_block.ensures.0 T c.loop-l.l.depths c.loop-l.l.births _ _
    (c.mark_of-mark.ensures c.loop-l.l c.loop-l.st refl refl ∙ c.loop-l.invariant.owned.sound.marked T sy) frame) in
    let q = done-as _ _ c.args.env c.inner-e.result _ _ _ _ _ _ _ _ _ _ _ _ c.inner-e.ensures d in
    record { comes = (q.comes, q.nodes); block_walks = q.walks }

pub transform_block-mark-st-requires : goal.transform_block-mark-st-requires
transform_block-mark-st-requires t c =
    let h = turned c.args.s.now c.args.tb.now c.inner-e.result c.args.pl.now.place c.args.outer c.args.states c.args.rows.now _ c.args.errs.now c.args.warns.now c.args.lefts.now
    c.loop-l.invariant c.mark_of-mark.result (c.mark_of-mark.ensures c.loop-l.l c.loop-l.st refl refl) c.scanning.result c.scanning.ensures (c.next_change-r.ensures.after, c.next_change-r.ensures.fit)
    c.in-Mark.is c.next_change-r.auto.out c.next_change-r.auto.errs c.next_change-r.auto.warns c.next_change-r.auto.lefts in
    (c.loop-l.invariant.owned.sound.held, c.loop-l.invariant.owned.sound.kept.small, h.fit.1)

pub transform_block-loop-l-smaller-in-Mark : goal.transform_block-loop-l-smaller-in-Mark
transform_block-loop-l-smaller-in-Mark t c =
    c.next_change-r.ensures.fit.2 (λ z. mark-goes _ (sym c.in-Mark.is ∙ z))

pub transform_block-loop-l-preserved-in-Mark : goal.transform_block-loop-l-preserved-in-Mark
transform_block-loop-l-preserved-in-Mark t c =
    let h = turned c.args.s.now c.args.tb.now c.inner-e.result c.args.pl.now.place c.args.outer c.args.states c.args.rows.now _ c.args.errs.now c.args.warns.now c.args.lefts.now
    c.loop-l.invariant c.mark_of-mark.result (c.mark_of-mark.ensures c.loop-l.l c.loop-l.st refl refl) c.scanning.result c.scanning.ensures (c.next_change-r.ensures.after, c.next_change-r.ensures.fit)
    c.in-Mark.is c.next_change-r.auto.out c.next_change-r.auto.errs c.next_change-r.auto.warns c.next_change-r.auto.lefts in
    standing-mark c.args.s.now c.args.tb.now c.inner-e.result c.args.pl.now.place
    c.args.outer c.args.states c.args.rows.now _ c.args.errs.now c.args.warns.now c.args.lefts.now _ h
    c.mark-st.result c.mark-st.ensures.0 c.mark-st.ensures.1

pub transform_block-shape_of-rows-then-full : goal.transform_block-shape_of-rows-then-full
transform_block-shape_of-rows-then-full t c =
    c.loop-l.invariant.owned.below.room

pub transform_block-shape_of-out-then-full : goal.transform_block-shape_of-out-then-full
transform_block-shape_of-out-then-full t c =
    omega (arith, c.next_change-r.auto.out, c.loop-l.invariant.long.out, c.head-c.auto.out)

pub transform_block-shape_of-errs-then-full : goal.transform_block-shape_of-errs-then-full
transform_block-shape_of-errs-then-full t c =
    omega (arith, c.next_change-r.auto.errs, c.loop-l.invariant.long.errs)

pub transform_block-shape_of-warns-then-full : goal.transform_block-shape_of-warns-then-full
transform_block-shape_of-warns-then-full t c =
    omega (arith, c.next_change-r.auto.warns, c.loop-l.invariant.long.warns)

pub transform_block-shape_of-lefts-then-full : goal.transform_block-shape_of-lefts-then-full
transform_block-shape_of-lefts-then-full t c =
    omega (arith, c.next_change-r.auto.lefts, c.loop-l.invariant.long.lefts)

pub transform_block-returns-then-full : goal.transform_block-returns-then-full
transform_block-returns-then-full t c =
    let small : Bytes c.args.s.now = λ k. omega (arith, c.type_inv.s k) in
    let there = c.requires.1 in
    let el = ap (λ (x : Env). x.left) c.inner-e.ensures in
    let low = (block-there _ _ _ c.requires.1).0 in
    let within = c.requires.0.within in
    let h = turned c.args.s.now c.args.tb.now c.inner-e.result c.args.pl.now.place c.args.outer c.args.states c.args.rows.now _ c.args.errs.now c.args.warns.now c.args.lefts.now
    c.loop-l.invariant c.mark_of-mark.result (c.mark_of-mark.ensures c.loop-l.l c.loop-l.st refl refl) c.scanning.result c.scanning.ensures (c.next_change-r.ensures.after, c.next_change-r.ensures.fit)
    c.in-Register.is c.next_change-r.auto.out c.next_change-r.auto.errs c.next_change-r.auto.warns c.next_change-r.auto.lefts in
    let full-at : Walk = record { place = c.loop-l.pl.place; stop = Some (stop.Fault fault.Locals); sure = c.loop-l.pl.sure } in
    let twelve : fault_in full-at ≡ 12 = twelve-is in
    let d = fault-done c.args.s.now c.args.tb.now
    small c.inner-e.result c.args.env.left low c.requires.0.depth el
    c.args.pl.now.place c.args.outer c.args.states c.args.rows.now _ c.args.errs.now c.args.warns.now
    c.args.lefts.now within there c.args.out.now c.head-c.ensures.stored _ c.loop-l.st _
    c.next_change-r.new.nodes full-at _ (omega arith) h.long.nodes
    c.loop-l.invariant.owned.below (λ z. absurd (omega arith)) (walked_in full-at []) refl
    (λ T sy loop o reach. full c.args.s.now c.args.tb.now c.inner-e.result
    c.args.pl.now.place c.args.outer c.args.states c.args.rows.now _ c.args.errs.now c.args.warns.now
    c.args.lefts.now _ _ _ h (omega (arith, c.full.ensures.0 c.if-full.true, c.requires.0.limit)) (walked_in full-at []) twelve T sy loop o) in
    let q = done-as _ _ c.args.env c.inner-e.result _ _ _ _ _ _ _ _ _ _ _ _ c.inner-e.ensures d in
    record { comes = (q.comes, q.nodes); block_walks = q.walks }

pub transform_block-auto_deleted-requires : goal.transform_block-auto_deleted-requires
transform_block-auto_deleted-requires t c =
    (c.requires.0.lent.filled.size, c.requires.0.lent.filled.few_types)

pub transform_block-register_local-l-requires : goal.transform_block-register_local-l-requires
transform_block-register_local-l-requires t c =
    (c.loop-l.invariant.owned.sound.kept, omega (arith, c.full.ensures.1 c.if-full.false, c.requires.0.limit))

pub transform_block-mark-st-requires-then-needs_revival : goal.transform_block-mark-st-requires-then-needs_revival
transform_block-mark-st-requires-then-needs_revival t c =
    (c.loop-l.invariant.owned.sound.held, c.register_local-l.ensures.kept.small, omega arith)

pub transform_block-loop-l-smaller-then-needs_revival : goal.transform_block-loop-l-smaller-then-needs_revival
transform_block-loop-l-smaller-then-needs_revival t c =
    c.next_change-r.ensures.fit.2 (λ z. register-goes _ _ _ (sym c.in-Register.is ∙ z))

pub transform_block-loop-l-preserved-then-needs_revival : goal.transform_block-loop-l-preserved-then-needs_revival
transform_block-loop-l-preserved-then-needs_revival t c =
    let h = turned c.args.s.now c.args.tb.now c.inner-e.result c.args.pl.now.place c.args.outer c.args.states c.args.rows.now _ c.args.errs.now c.args.warns.now c.args.lefts.now
    c.loop-l.invariant c.mark_of-mark.result (c.mark_of-mark.ensures c.loop-l.l c.loop-l.st refl refl) c.scanning.result c.scanning.ensures (c.next_change-r.ensures.after, c.next_change-r.ensures.fit)
    c.in-Register.is c.next_change-r.auto.out c.next_change-r.auto.errs c.next_change-r.auto.warns c.next_change-r.auto.lefts in
    standing-revived c.args.s.now c.args.tb.now c.inner-e.result c.args.pl.now.place
    c.args.outer c.args.states c.args.rows.now _ c.args.errs.now c.args.warns.now c.args.lefts.now _ _ _ h _
    (λ T sy. auto-is T _ _ refl (c.auto_deleted.ensures _ T c.requires.0.lent sy)) c.register_local-l.result
    c.register_local-l.ensures (omega (arith, c.full.ensures.1 c.if-full.false, c.requires.0.limit)) 0 c.mark-st-then-needs_revival.result c.mark-st-then-needs_revival.ensures.0 c.mark-st-then-needs_revival.ensures.1

pub transform_block-loop-l-smaller-else-needs_revival : goal.transform_block-loop-l-smaller-else-needs_revival
transform_block-loop-l-smaller-else-needs_revival t c =
    c.next_change-r.ensures.fit.2 (λ z. register-goes _ _ _ (sym c.in-Register.is ∙ z))

pub transform_block-loop-l-preserved-else-needs_revival : goal.transform_block-loop-l-preserved-else-needs_revival
transform_block-loop-l-preserved-else-needs_revival t c =
    let h = turned c.args.s.now c.args.tb.now c.inner-e.result c.args.pl.now.place c.args.outer c.args.states c.args.rows.now _ c.args.errs.now c.args.warns.now c.args.lefts.now
    c.loop-l.invariant c.mark_of-mark.result (c.mark_of-mark.ensures c.loop-l.l c.loop-l.st refl refl) c.scanning.result c.scanning.ensures (c.next_change-r.ensures.after, c.next_change-r.ensures.fit)
    c.in-Register.is c.next_change-r.auto.out c.next_change-r.auto.errs c.next_change-r.auto.warns c.next_change-r.auto.lefts in
    standing-fresh c.args.s.now c.args.tb.now c.inner-e.result c.args.pl.now.place
    c.args.outer c.args.states c.args.rows.now _ c.args.errs.now c.args.warns.now c.args.lefts.now _ _ _ h _
    (λ T sy. auto-is T _ _ refl (c.auto_deleted.ensures _ T c.requires.0.lent sy)) c.register_local-l.result
    c.register_local-l.ensures (omega (arith, c.full.ensures.1 c.if-full.false, c.requires.0.limit))
    (c.needs_revival.ensures (alive_at c.loop-l.st) c.loop-l.invariant.owned.sound.held.word c.if-needs_revival.false)

pub transform_block-transform_blocks-st-requires : goal.transform_block-transform_blocks-st-requires
transform_block-transform_blocks-st-requires t c =
    let en = enters-inner _ _ c.args.env c.inner-e.result _ _ _ _ c.inner-e.ensures c.requires.0 in
    let el = ap (λ (x : Env). x.left) c.inner-e.ensures in
    let ec = ap (λ (x : Env). x.cur) c.inner-e.ensures in
    let low = (block-there _ _ _ c.requires.1).0 in
    let h = turned c.args.s.now c.args.tb.now c.inner-e.result c.args.pl.now.place c.args.outer c.args.states c.args.rows.now _ c.args.errs.now c.args.warns.now c.args.lefts.now
    c.loop-l.invariant c.mark_of-mark.result (c.mark_of-mark.ensures c.loop-l.l c.loop-l.st refl refl) c.scanning.result c.scanning.ensures (c.next_change-r.ensures.after, c.next_change-r.ensures.fit)
    c.in-Blocks.is c.next_change-r.auto.out c.next_change-r.auto.errs c.next_change-r.auto.warns c.next_change-r.auto.lefts in (
      omega (arith, el, low),
      (
        enters-blocks c.args.s.now c.args.tb.now c.inner-e.result c.args.pl.now.place
            c.args.outer c.args.states c.args.rows.now _ c.args.errs.now c.args.warns.now c.args.lefts.now _ h en c.requires.0.near
            (loop-inner c.args.env c.inner-e.result c.args.outer c.requires.0.near c.inner-e.ensures (block-there _ _ _ c.requires.1).0 c.requires.0.depth c.requires.0.looped) _
            refl,
        there-blocks c.args.s.now c.args.tb.now c.inner-e.result
            c.args.pl.now.place c.args.outer c.args.states c.args.rows.now _ c.args.errs.now c.args.warns.now
            c.args.lefts.now _ h _ refl,
        h.fit.2,
        omega (arith, ec, el, low, c.requires.2, c.requires.0.depth),
        h.long.nodes,
      ),
    )

pub transform_block-shape_of-rows-then-is_some : goal.transform_block-shape_of-rows-then-is_some
transform_block-shape_of-rows-then-is_some t c =
    omega (arith, c.transform_blocks-st.auto.rows, c.loop-l.invariant.owned.below.room)

pub transform_block-shape_of-out-then-is_some : goal.transform_block-shape_of-out-then-is_some
transform_block-shape_of-out-then-is_some t c =
    omega (arith, c.transform_blocks-st.auto.out, c.next_change-r.auto.out, c.loop-l.invariant.long.out, c.head-c.auto.out)

pub transform_block-shape_of-errs-then-is_some : goal.transform_block-shape_of-errs-then-is_some
transform_block-shape_of-errs-then-is_some t c =
    omega (arith, c.transform_blocks-st.auto.errs, c.next_change-r.auto.errs, c.loop-l.invariant.long.errs)

pub transform_block-shape_of-warns-then-is_some : goal.transform_block-shape_of-warns-then-is_some
transform_block-shape_of-warns-then-is_some t c =
    omega (arith, c.transform_blocks-st.auto.warns, c.next_change-r.auto.warns, c.loop-l.invariant.long.warns)

pub transform_block-shape_of-lefts-then-is_some : goal.transform_block-shape_of-lefts-then-is_some
transform_block-shape_of-lefts-then-is_some t c =
    omega (arith, c.transform_blocks-st.auto.lefts, c.next_change-r.auto.lefts, c.loop-l.invariant.long.lefts)

pub transform_block-returns-then-is_some : goal.transform_block-returns-then-is_some
transform_block-returns-then-is_some t c =
    let small : Bytes c.args.s.now = λ k. omega (arith, c.type_inv.s k) in
    let there = c.requires.1 in
    let el = ap (λ (x : Env). x.left) c.inner-e.ensures in
    let ec = ap (λ (x : Env). x.cur) c.inner-e.ensures in
    let low = (block-there _ _ _ c.requires.1).0 in
    let within = c.requires.0.within in
    let h = turned c.args.s.now c.args.tb.now c.inner-e.result c.args.pl.now.place c.args.outer c.args.states c.args.rows.now _ c.args.errs.now c.args.warns.now c.args.lefts.now
    c.loop-l.invariant c.mark_of-mark.result (c.mark_of-mark.ensures c.loop-l.l c.loop-l.st refl refl) c.scanning.result c.scanning.ensures (c.next_change-r.ensures.after, c.next_change-r.ensures.fit)
    c.in-Blocks.is c.next_change-r.auto.out c.next_change-r.auto.errs c.next_change-r.auto.warns c.next_change-r.auto.lefts in
    let b = c.transform_blocks-st.ensures in
    let come = b.comes.0 in
    let d = blocks-done c.args.s.now c.args.tb.now
    small c.inner-e.result c.args.env.left low c.requires.0.depth el
    c.args.pl.now.place c.args.outer c.args.states c.args.rows.now _ c.args.errs.now c.args.warns.now
    c.args.lefts.now within there c.args.out.now c.head-c.ensures.stored _ h _ refl _ come b.tag_walks (stopped _ c.is_some.ensures c.if-is_some.true)
    c.transform_blocks-st.new.nodes b.comes.1 (block_rows c.args.env.cur c.args.env.left)
    (λ z. omega (arith, come.short z, c.loop-l.invariant.owned.below.room, ec, el, low)) in
    let q = done-as _ _ c.args.env c.inner-e.result _ _ _ _ _ _ _ _ _ _ _ _ c.inner-e.ensures d in
    record { comes = (q.comes, q.nodes); block_walks = q.walks }

pub transform_block-loop-l-smaller : goal.transform_block-loop-l-smaller
transform_block-loop-l-smaller t c =
    let small : Bytes c.args.s.now = λ k. omega (arith, c.type_inv.s k) in
    let there = c.requires.1 in
    let el = ap (λ (x : Env). x.left) c.inner-e.ensures in
    let h = turned c.args.s.now c.args.tb.now c.inner-e.result c.args.pl.now.place c.args.outer c.args.states c.args.rows.now _ c.args.errs.now c.args.warns.now c.args.lefts.now
    c.loop-l.invariant c.mark_of-mark.result (c.mark_of-mark.ensures c.loop-l.l c.loop-l.st refl refl) c.scanning.result c.scanning.ensures (c.next_change-r.ensures.after, c.next_change-r.ensures.fit)
    c.in-Blocks.is c.next_change-r.auto.out c.next_change-r.auto.errs c.next_change-r.auto.warns c.next_change-r.auto.lefts in
    let b = c.transform_blocks-st.ensures in
    let zero = goes_on _ c.is_some.ensures c.if-is_some.false in
    less-behind c.args.s.now c.args.tb.now c.inner-e.result c.args.pl.now.place
    c.args.outer c.args.states c.args.rows.now _ c.args.errs.now c.args.warns.now c.args.lefts.now _ h _ refl _
    b.comes.0 b.tag_walks small c.args.env.left el there _ (said _ _) c.requires.0.near
    (loop-inner c.args.env c.inner-e.result c.args.outer c.requires.0.near c.inner-e.ensures (block-there _ _ _ c.requires.1).0 c.requires.0.depth c.requires.0.looped) zero
    c.transform_blocks-st.new.nodes b.comes.1 _
    (c.next_change-r.ensures.fit.2 (λ z. blocks-go _ (sym c.in-Blocks.is ∙ z))) _ _ c.resumed-c.ensures

pub transform_block-loop-l-preserved : goal.transform_block-loop-l-preserved
transform_block-loop-l-preserved t c =
    let small : Bytes c.args.s.now = λ k. omega (arith, c.type_inv.s k) in
    let there = c.requires.1 in
    let el = ap (λ (x : Env). x.left) c.inner-e.ensures in
    let h = turned c.args.s.now c.args.tb.now c.inner-e.result c.args.pl.now.place c.args.outer c.args.states c.args.rows.now _ c.args.errs.now c.args.warns.now c.args.lefts.now
    c.loop-l.invariant c.mark_of-mark.result (c.mark_of-mark.ensures c.loop-l.l c.loop-l.st refl refl) c.scanning.result c.scanning.ensures (c.next_change-r.ensures.after, c.next_change-r.ensures.fit)
    c.in-Blocks.is c.next_change-r.auto.out c.next_change-r.auto.errs c.next_change-r.auto.warns c.next_change-r.auto.lefts in
    let b = c.transform_blocks-st.ensures in
    let zero = goes_on _ c.is_some.ensures c.if-is_some.false in
    standing-behind c.args.s.now c.args.tb.now c.inner-e.result c.args.pl.now.place
    c.args.outer c.args.states c.args.rows.now _ c.args.errs.now c.args.warns.now c.args.lefts.now _ h _ refl _
    b.comes.0 b.tag_walks small c.args.env.left el there _ (said _ _) c.requires.0.near
    (loop-inner c.args.env c.inner-e.result c.args.outer c.requires.0.near c.inner-e.ensures (block-there _ _ _ c.requires.1).0 c.requires.0.depth c.requires.0.looped) zero
    c.transform_blocks-st.new.nodes b.comes.1
    c.transform_blocks-st.auto.out
    c.transform_blocks-st.auto.errs
    c.transform_blocks-st.auto.warns
    c.transform_blocks-st.auto.lefts _ refl _ c.resumed-c.ensures

pub transform_blocks-transform_block-requires : goal.transform_blocks-transform_block-requires
transform_blocks-transform_block-requires t c =
    let small : Bytes c.args.s.now = λ k. omega (arith, c.type_inv.s k) in (
      omega arith,
      (
        c.requires.0,
        block_of c.args.s.now c.args.tb.now
            small c.args.env c.args.tag c.args.l c.args.st
            c.args.rows.now c.args.pl.now c.requires.0 c.requires.1
            c.requires.3,
        omega (arith, c.requires.3),
        c.requires.4,
      ),
    )

pub transform_blocks-returns-then-tag-eq1 : goal.transform_blocks-returns-then-tag-eq1
transform_blocks-returns-then-tag-eq1 t c =
    let small : Bytes c.args.s.now = λ k. omega (arith, c.type_inv.s k) in
    let b = c.transform_block.ensures in record {
      comes = (
        plain-comes c.args.s.now c.args.tb.now
            small c.args.env c.args.tag c.args.l c.args.st
            c.args.rows.now c.args.pl.now c.requires.0 c.requires.1 c.requires.3 b.comes.0,
        b.comes.1,
      );
      tag_walks = λ T sy loop o reach. record {
        ifs = λ e. absurd (omega (arith, c.if-tag-eq1.true));
        loops = λ e. absurd (omega (arith, c.if-tag-eq1.true));
        others = λ x y. b.block_walks T sy loop o reach;
      };
    }

pub transform_blocks-behind-requires : goal.transform_blocks-behind-requires
transform_blocks-behind-requires t c =
    let small : Bytes c.args.s.now = λ k. omega (arith, c.type_inv.s k) in (
      c.requires.0.sound.kept.small,
      c.requires.0.width,
      (then-low c.args.s.now c.args.tb.now
          small c.args.env c.args.tag c.args.l c.args.st
          c.args.rows.now c.args.pl.now c.requires.0 c.requires.1 c.requires.3).2,
    )

pub transform_blocks-branch_rows-requires : goal.transform_blocks-branch_rows-requires
transform_blocks-branch_rows-requires t c =
    let small : Bytes c.args.s.now = λ k. omega (arith, c.type_inv.s k) in
    let is = moved-once c.args.env c.behind.result c.in_loop-a.result c.args.tag c.args.l.count c.behind.ensures c.in_loop-a.ensures in
    copied_at c.args.env c.in_loop-a.result _ is
    (to-branch c.args.s.now c.args.tb.now c.args.env c.args.l c.args.st _
    _ c.requires.0 _ (omega arith) (then-low c.args.s.now c.args.tb.now
    small c.args.env c.args.tag c.args.l c.args.st
    c.args.rows.now c.args.pl.now c.requires.0 c.requires.1 c.requires.3).0)

pub transform_blocks-returns-then-not-branch_rows : goal.transform_blocks-returns-then-not-branch_rows
transform_blocks-returns-then-not-branch_rows t c =
    let small : Bytes c.args.s.now = λ k. omega (arith, c.type_inv.s k) in
    let is = moved-once c.args.env c.behind.result c.in_loop-a.result c.args.tag c.args.l.count c.behind.ensures c.in_loop-a.ensures in
    let c' = copies_at c.args.env c.in_loop-a.result _ is c.branch_rows.ensures in
    record {
      comes = (
        comes-faulty _ _ _ _ _ _ _ _ _ _ _ (omega arith)
            (below_less _ _ _ _ (omega arith) (branch-below c.args.s.now c.args.tb.now
            c.args.env c.args.l c.args.st _ _ c.requires.0 _ c'))
            (λ z. then-short c.args.s.now c.args.tb.now
            small c.args.env c.args.tag c.args.l c.args.st
            c.args.rows.now c.args.pl.now c.requires.0 c.requires.1 c.requires.3
            (branch-short c.args.s.now c.args.tb.now c.args.env c.args.l
            c.args.st _ _ c.requires.0 _ c' (c.if-not-branch_rows.true))),
        c.requires.4,
      );
      tag_walks = λ T sy loop o reach. absurd (reach refl);
    }

pub transform_blocks-transform_block-first-requires : goal.transform_blocks-transform_block-first-requires
transform_blocks-transform_block-first-requires t c =
    let small : Bytes c.args.s.now = λ k. omega (arith, c.type_inv.s k) in
    let is = moved-once c.args.env c.behind.result c.in_loop-a.result c.args.tag c.args.l.count c.behind.ensures c.in_loop-a.ensures in
    let c' = copies_at c.args.env c.in_loop-a.result _ is c.branch_rows.ensures in (
      omega (arith, left-same c.args.env c.in_loop-a.result _ is),
      block-asked c.args.env c.in_loop-a.result _ is c.args.nodes.now
          (branch-enters c.args.s.now c.args.tb.now c.args.env c.args.l
          c.args.st _ _ c.requires.0 _ c' (c.if-not-branch_rows.false) c.in_loop-a.result is
          (own_loop c.args.tag (12 - c.args.env.left) c.requires.0.near)
          (loop-of c.args.s.now c.args.tb.now c.args.env c.args.tag c.args.l c.args.st _ _ c.requires.0 c.requires.0.near c.requires.0.looped))
          (block_of c.args.s.now c.args.tb.now
          small c.args.env c.args.tag c.args.l c.args.st
          c.args.rows.now c.args.pl.now c.requires.0 c.requires.1 c.requires.3)
          (then-low c.args.s.now c.args.tb.now
          small c.args.env c.args.tag c.args.l c.args.st
          c.args.rows.now c.args.pl.now c.requires.0 c.requires.1 c.requires.3).1 c.requires.4,
    )

pub transform_blocks-returns-then-is_some : goal.transform_blocks-returns-then-is_some
transform_blocks-returns-then-is_some t c =
    let small : Bytes c.args.s.now = λ k. omega (arith, c.type_inv.s k) in
    let is = moved-once c.args.env c.behind.result c.in_loop-a.result c.args.tag c.args.l.count c.behind.ensures c.in_loop-a.ensures in
    let c' = copies_at c.args.env c.in_loop-a.result _ is c.branch_rows.ensures in
    let yes = c.if-not-branch_rows.false in
    let come = comes-at c.args.env c.in_loop-a.result _ is c.transform_block-first.ensures.comes.0 in
    let walks = walks_at c.args.env c.in_loop-a.result _ is c.args.s.now c.args.tb.now c.args.l c.args.st c.branch_rows.new.rows (place_in c.args.pl.now)
    (memory c.args.out.now c.args.errs.now c.args.warns.now c.args.lefts.now) c.transform_block-first.result c.transform_block-first.new.rows c.transform_block-first.new.pl
    (memory c.transform_block-first.new.out c.transform_block-first.new.errs c.transform_block-first.new.warns c.transform_block-first.new.lefts) c.transform_block-first.ensures.block_walks in
    let which = tag-of c.args.tag c.requires.2 c.if-tag-eq1.false in record {
      comes = (
        comes-faulty _ _ _ _ _ _ _ _ _ _ _ (stopped _ c.is_some.ensures c.if-is_some.true)
            (then-below c.args.s.now c.args.tb.now
            small c.args.env c.args.tag c.args.l c.args.st
            c.args.rows.now c.args.pl.now c.requires.0 c.requires.1 c.requires.3 c' yes come)
            (then-least c.args.s.now c.args.tb.now
            small c.args.env c.args.tag c.args.l c.args.st
            c.args.rows.now c.args.pl.now c.requires.0 c.requires.1 c.requires.3 c' yes
            come),
        c.transform_block-first.ensures.comes.1,
      );
      tag_walks = λ T sy loop o reach. then-fault c.args.s.now c.args.tb.now
          small c.args.env c.args.tag c.args.l c.args.st
          c.args.rows.now c.args.pl.now c.requires.0 c.requires.1 c.requires.3 c' yes come T loop _ _ (walks T sy (own_loop c.args.tag (12 - c.args.env.left) loop) (loop-of c.args.s.now c.args.tb.now c.args.env c.args.tag c.args.l c.args.st _ _ c.requires.0 loop o) reach)
          (stopped _ c.is_some.ensures c.if-is_some.true) which;
    }

pub transform_blocks-else_follows-requires : goal.transform_blocks-else_follows-requires
transform_blocks-else_follows-requires t c =
    let small : Bytes c.args.s.now = λ k. omega (arith, c.type_inv.s k) in
    let is = moved-once c.args.env c.behind.result c.in_loop-a.result c.args.tag c.args.l.count c.behind.ensures c.in_loop-a.ensures in
    let come = comes-at c.args.env c.in_loop-a.result _ is c.transform_block-first.ensures.comes.0 in
    let walks = walks_at c.args.env c.in_loop-a.result _ is c.args.s.now c.args.tb.now c.args.l c.args.st c.branch_rows.new.rows (place_in c.args.pl.now)
    (memory c.args.out.now c.args.errs.now c.args.warns.now c.args.lefts.now) c.transform_block-first.result c.transform_block-first.new.rows c.transform_block-first.new.pl
    (memory c.transform_block-first.new.out c.transform_block-first.new.errs c.transform_block-first.new.warns c.transform_block-first.new.lefts) c.transform_block-first.ensures.block_walks in
    let which = tag-of c.args.tag c.requires.2 c.if-tag-eq1.false in
    let zero = goes_on _ c.is_some.ensures c.if-is_some.false in (
      come.within zero,
      λ ne. (flag-there c.args.s.now c.args.tb.now small c.args.env c.args.tag c.args.l c.args.st c.args.rows.now c.args.pl.now c.requires.0 c.requires.1 c.requires.3 (copies_at c.args.env c.in_loop-a.result _ is c.branch_rows.ensures) (c.if-not-branch_rows.false) come zero
          (tables_of c.args.s.now c.args.tb.now) c.requires.0.near (memory c.args.out.now c.args.errs.now c.args.warns.now c.args.lefts.now) (memory c.transform_block-first.new.out c.transform_block-first.new.errs c.transform_block-first.new.warns c.transform_block-first.new.lefts)
          (walks (tables_of c.args.s.now c.args.tb.now) (said c.args.s.now c.args.tb.now) (own_loop c.args.tag (12 - c.args.env.left) c.requires.0.near) (loop-of c.args.s.now c.args.tb.now c.args.env c.args.tag c.args.l c.args.st _ _ c.requires.0 c.requires.0.near c.requires.0.looped) (reaches zero)) (seven-of c.args.tag which ne)).inside,
    )

pub transform_blocks-transform_else-requires : goal.transform_blocks-transform_else-requires
transform_blocks-transform_else-requires t c =
    let small : Bytes c.args.s.now = λ k. omega (arith, c.type_inv.s k) in
    let is = moved-once c.args.env c.behind.result c.in_loop-a.result c.args.tag c.args.l.count c.behind.ensures c.in_loop-a.ensures in
    let c' = copies_at c.args.env c.in_loop-a.result _ is c.branch_rows.ensures in
    let yes = c.if-not-branch_rows.false in
    let come = comes-at c.args.env c.in_loop-a.result _ is c.transform_block-first.ensures.comes.0 in
    let walks = walks_at c.args.env c.in_loop-a.result _ is c.args.s.now c.args.tb.now c.args.l c.args.st c.branch_rows.new.rows (place_in c.args.pl.now)
    (memory c.args.out.now c.args.errs.now c.args.warns.now c.args.lefts.now) c.transform_block-first.result c.transform_block-first.new.rows c.transform_block-first.new.pl
    (memory c.transform_block-first.new.out c.transform_block-first.new.errs c.transform_block-first.new.warns c.transform_block-first.new.lefts) c.transform_block-first.ensures.block_walks in
    let which = tag-of c.args.tag c.requires.2 c.if-tag-eq1.false in
    let zero = goes_on _ c.is_some.ensures c.if-is_some.false in
    let seven = flag-seven c.args.tag c.else_follows.result which (λ q. (c.else_follows.ensures.0 q).flag) c.if-else_follows.true in
    let f = c.else_follows.ensures.1 (not_eight seven) in
    let there = flag-there c.args.s.now c.args.tb.now small c.args.env c.args.tag c.args.l c.args.st c.args.rows.now c.args.pl.now c.requires.0 c.requires.1 c.requires.3 c' yes come zero
    (tables_of c.args.s.now c.args.tb.now) c.requires.0.near (memory c.args.out.now c.args.errs.now c.args.warns.now c.args.lefts.now) (memory c.transform_block-first.new.out c.transform_block-first.new.errs c.transform_block-first.new.warns c.transform_block-first.new.lefts)
    (walks (tables_of c.args.s.now c.args.tb.now) (said c.args.s.now c.args.tb.now) (own_loop c.args.tag (12 - c.args.env.left) c.requires.0.near) (loop-of c.args.s.now c.args.tb.now c.args.env c.args.tag c.args.l c.args.st _ _ c.requires.0 c.requires.0.near c.requires.0.looped) (reaches zero)) seven in (
      omega arith,
      (
        else-enters c.args.s.now c.args.tb.now
            small c.args.env c.args.tag c.args.l c.args.st
            c.args.rows.now c.args.pl.now c.requires.0 c.requires.1 c.requires.3 c' yes come zero
            c.transform_block-first.new.out c.else_follows.new.out
            c.else_follows.new.pl c.else_follows.result c.transform_block-first.new.errs
            c.transform_block-first.new.warns
            c.transform_block-first.new.lefts f there c.if-else_follows.true,
        else-block-there c.args.s.now
            c.args.tb.now small
            c.args.env c.args.tag c.args.l c.args.st c.args.rows.now c.args.pl.now c.requires.0 c.requires.1
            c.requires.3 c' yes come zero c.transform_block-first.new.out c.else_follows.new.out
            c.else_follows.new.pl c.else_follows.result c.transform_block-first.new.errs
            c.transform_block-first.new.warns
            c.transform_block-first.new.lefts f there c.if-else_follows.true,
        c.requires.3,
        else-first
            c.args.s.now c.args.tb.now
            small c.args.env c.args.tag c.args.l c.args.st
            c.args.rows.now c.args.pl.now c.requires.0 c.requires.1 c.requires.3 c' yes come zero
            c.transform_block-first.new.out c.else_follows.new.out
            c.else_follows.new.pl c.else_follows.result c.transform_block-first.new.errs
            c.transform_block-first.new.warns
            c.transform_block-first.new.lefts f there
            c.if-else_follows.true,
        c.transform_block-first.ensures.comes.1,
      ),
    )

pub transform_blocks-shape_of-rows-then-else_follows : goal.transform_blocks-shape_of-rows-then-else_follows
transform_blocks-shape_of-rows-then-else_follows t c =
    omega (arith, c.transform_else.auto.rows, c.transform_block-first.auto.rows, c.branch_rows.auto.rows)

pub transform_blocks-shape_of-out-then-else_follows : goal.transform_blocks-shape_of-out-then-else_follows
transform_blocks-shape_of-out-then-else_follows t c =
    omega (arith, c.transform_else.auto.out, c.else_follows.auto.out, c.transform_block-first.auto.out)

pub transform_blocks-shape_of-errs-then-else_follows : goal.transform_blocks-shape_of-errs-then-else_follows
transform_blocks-shape_of-errs-then-else_follows t c =
    omega (arith, c.transform_else.auto.errs, c.transform_block-first.auto.errs)

pub transform_blocks-shape_of-warns-then-else_follows : goal.transform_blocks-shape_of-warns-then-else_follows
transform_blocks-shape_of-warns-then-else_follows t c =
    omega (arith, c.transform_else.auto.warns, c.transform_block-first.auto.warns)

pub transform_blocks-shape_of-lefts-then-else_follows : goal.transform_blocks-shape_of-lefts-then-else_follows
transform_blocks-shape_of-lefts-then-else_follows t c =
    omega (arith, c.transform_else.auto.lefts, c.transform_block-first.auto.lefts)

pub transform_blocks-returns-then-else_follows : goal.transform_blocks-returns-then-else_follows
transform_blocks-returns-then-else_follows t c =
    let small : Bytes c.args.s.now = λ k. omega (arith, c.type_inv.s k) in
    let is = moved-once c.args.env c.behind.result c.in_loop-a.result c.args.tag c.args.l.count c.behind.ensures c.in_loop-a.ensures in
    let c' = copies_at c.args.env c.in_loop-a.result _ is c.branch_rows.ensures in
    let yes = c.if-not-branch_rows.false in
    let come = comes-at c.args.env c.in_loop-a.result _ is c.transform_block-first.ensures.comes.0 in
    let walks = walks_at c.args.env c.in_loop-a.result _ is c.args.s.now c.args.tb.now c.args.l c.args.st c.branch_rows.new.rows (place_in c.args.pl.now)
    (memory c.args.out.now c.args.errs.now c.args.warns.now c.args.lefts.now) c.transform_block-first.result c.transform_block-first.new.rows c.transform_block-first.new.pl
    (memory c.transform_block-first.new.out c.transform_block-first.new.errs c.transform_block-first.new.warns c.transform_block-first.new.lefts) c.transform_block-first.ensures.block_walks in
    let which = tag-of c.args.tag c.requires.2 c.if-tag-eq1.false in
    let zero = goes_on _ c.is_some.ensures c.if-is_some.false in
    let seven = flag-seven c.args.tag c.else_follows.result which (λ q. (c.else_follows.ensures.0 q).flag) c.if-else_follows.true in
    let f = c.else_follows.ensures.1 (not_eight seven) in
    let there = flag-there c.args.s.now c.args.tb.now small c.args.env c.args.tag c.args.l c.args.st c.args.rows.now c.args.pl.now c.requires.0 c.requires.1 c.requires.3 c' yes come zero
    (tables_of c.args.s.now c.args.tb.now) c.requires.0.near (memory c.args.out.now c.args.errs.now c.args.warns.now c.args.lefts.now) (memory c.transform_block-first.new.out c.transform_block-first.new.errs c.transform_block-first.new.warns c.transform_block-first.new.lefts)
    (walks (tables_of c.args.s.now c.args.tb.now) (said c.args.s.now c.args.tb.now) (own_loop c.args.tag (12 - c.args.env.left) c.requires.0.near) (loop-of c.args.s.now c.args.tb.now c.args.env c.args.tag c.args.l c.args.st _ _ c.requires.0 c.requires.0.near c.requires.0.looped) (reaches zero)) seven in record {
      comes = (
        else-comes-to c.args.s.now c.args.tb.now
            small c.args.env c.args.tag c.args.l c.args.st
            c.args.rows.now c.args.pl.now c.requires.0 c.requires.1 c.requires.3 c' yes come zero
            c.transform_block-first.new.out c.else_follows.new.out
            c.else_follows.new.pl c.else_follows.result c.transform_block-first.new.errs
            c.transform_block-first.new.warns
            c.transform_block-first.new.lefts f there c.if-else_follows.true
            c.transform_else.ensures.comes.0,
        c.transform_else.ensures.comes.1,
      );
      tag_walks = λ T sy loop o reach. else-walks-to c.args.s.now c.args.tb.now
          small c.args.env c.args.tag c.args.l c.args.st
          c.args.rows.now c.args.pl.now c.requires.0 c.requires.1 c.requires.3 c' yes come zero
          c.transform_block-first.new.out c.else_follows.new.out
          c.else_follows.new.pl c.else_follows.result c.transform_block-first.new.errs
          c.transform_block-first.new.warns
          c.transform_block-first.new.lefts f there c.if-else_follows.true T loop _ _ seven (walks T sy (own_loop c.args.tag (12 - c.args.env.left) loop) (loop-of c.args.s.now c.args.tb.now c.args.env c.args.tag c.args.l c.args.st _ _ c.requires.0 loop o) (reaches zero)) _
          (c.transform_else.ensures.else_merges T sy loop o reach);
    }

pub transform_blocks-merge_first-requires : goal.transform_blocks-merge_first-requires
transform_blocks-merge_first-requires t c =
    let small : Bytes c.args.s.now = λ k. omega (arith, c.type_inv.s k) in
    let is = moved-once c.args.env c.behind.result c.in_loop-a.result c.args.tag c.args.l.count c.behind.ensures c.in_loop-a.ensures in
    let c' = copies_at c.args.env c.in_loop-a.result _ is c.branch_rows.ensures in
    let yes = c.if-not-branch_rows.false in
    let come = comes-at c.args.env c.in_loop-a.result _ is c.transform_block-first.ensures.comes.0 in
    let which = tag-of c.args.tag c.requires.2 c.if-tag-eq1.false in
    let zero = goes_on _ c.is_some.ensures c.if-is_some.false in
    let told = told-either c.args.tag which c.else_follows.ensures.0 c.else_follows.ensures.1 zero in (
      without-branches c.args.s.now c.args.tb.now
          small c.args.env c.args.tag c.args.l c.args.st
          c.args.rows.now c.args.pl.now c.requires.0 c.requires.1 c.requires.3 c' yes come zero
          c.transform_block-first.new.out c.else_follows.new.out
          c.else_follows.new.pl c.else_follows.result c.transform_block-first.new.errs
          c.transform_block-first.new.warns
          c.transform_block-first.new.lefts
          (then-low c.args.s.now c.args.tb.now
          small c.args.env c.args.tag c.args.l c.args.st
          c.args.rows.now c.args.pl.now c.requires.0 c.requires.1 c.requires.3).2,
      told,
    )

pub transform_blocks-shape_of-rows : goal.transform_blocks-shape_of-rows
transform_blocks-shape_of-rows t c =
    omega (arith, c.merge_first.auto.rows, c.transform_block-first.auto.rows, c.branch_rows.auto.rows)

pub transform_blocks-returns : goal.transform_blocks-returns
transform_blocks-returns t c =
    let small : Bytes c.args.s.now = λ k. omega (arith, c.type_inv.s k) in
    let is = moved-once c.args.env c.behind.result c.in_loop-a.result c.args.tag c.args.l.count c.behind.ensures c.in_loop-a.ensures in
    let c' = copies_at c.args.env c.in_loop-a.result _ is c.branch_rows.ensures in
    let yes = c.if-not-branch_rows.false in
    let come = comes-at c.args.env c.in_loop-a.result _ is c.transform_block-first.ensures.comes.0 in
    let walks = walks_at c.args.env c.in_loop-a.result _ is c.args.s.now c.args.tb.now c.args.l c.args.st c.branch_rows.new.rows (place_in c.args.pl.now)
    (memory c.args.out.now c.args.errs.now c.args.warns.now c.args.lefts.now) c.transform_block-first.result c.transform_block-first.new.rows c.transform_block-first.new.pl
    (memory c.transform_block-first.new.out c.transform_block-first.new.errs c.transform_block-first.new.warns c.transform_block-first.new.lefts) c.transform_block-first.ensures.block_walks in
    let which = tag-of c.args.tag c.requires.2 c.if-tag-eq1.false in
    let zero = goes_on _ c.is_some.ensures c.if-is_some.false in
    let g = c.merge_first.ensures in
    ⊎_elim
    (λ (q : c.args.tag ≡ 7).
    let f = c.else_follows.ensures.1 (not_eight q) in
    let there = flag-there c.args.s.now c.args.tb.now small c.args.env c.args.tag c.args.l c.args.st c.args.rows.now c.args.pl.now c.requires.0 c.requires.1 c.requires.3 c' yes come zero
    (tables_of c.args.s.now c.args.tb.now) c.requires.0.near (memory c.args.out.now c.args.errs.now c.args.warns.now c.args.lefts.now) (memory c.transform_block-first.new.out c.transform_block-first.new.errs c.transform_block-first.new.warns c.transform_block-first.new.lefts)
    (walks (tables_of c.args.s.now c.args.tb.now) (said c.args.s.now c.args.tb.now) (own_loop c.args.tag (12 - c.args.env.left) c.requires.0.near) (loop-of c.args.s.now c.args.tb.now c.args.env c.args.tag c.args.l c.args.st _ _ c.requires.0 c.requires.0.near c.requires.0.looped) (reaches zero)) q in
    let off = flag-none c.else_follows.result _ f.flag there.flag c.if-else_follows.false in record {
      comes = (
        without-comes c.args.s.now c.args.tb.now
            small c.args.env c.args.tag c.args.l c.args.st
            c.args.rows.now c.args.pl.now c.requires.0 c.requires.1 c.requires.3 c' yes come zero
            c.transform_block-first.new.out c.else_follows.new.out
            c.else_follows.new.pl c.else_follows.result
            c.transform_block-first.new.errs
            c.transform_block-first.new.warns
            c.transform_block-first.new.lefts g
            (flag-further c.args.s.now c.args.tb.now
            small c.args.env c.args.tag c.args.l c.args.st
            c.args.rows.now c.args.pl.now c.requires.0 c.requires.1 c.requires.3 c' yes come zero
            c.transform_block-first.new.out c.else_follows.new.out
            c.else_follows.new.pl c.else_follows.result
            c.transform_block-first.new.errs
            c.transform_block-first.new.warns
            c.transform_block-first.new.lefts f
            there.inside),
        c.transform_block-first.ensures.comes.1,
      );
      tag_walks = λ T sy loop o reach. without-if c.args.s.now c.args.tb.now
          small c.args.env c.args.tag c.args.l c.args.st
          c.args.rows.now c.args.pl.now c.requires.0 c.requires.1 c.requires.3 c' yes come zero
          c.transform_block-first.new.out c.else_follows.new.out
          c.else_follows.new.pl c.else_follows.result
          c.transform_block-first.new.errs
          c.transform_block-first.new.warns
          c.transform_block-first.new.lefts g f refl off q T loop _ (walks T sy (own_loop c.args.tag (12 - c.args.env.left) loop) (loop-of c.args.s.now c.args.tb.now c.args.env c.args.tag c.args.l c.args.st _ _ c.requires.0 loop o) (reaches zero)) reach;
    })
    (λ (q : c.args.tag ≡ 8).
    let f = c.else_follows.ensures.0 q in record {
      comes = (
        without-comes c.args.s.now c.args.tb.now
            small c.args.env c.args.tag c.args.l c.args.st
            c.args.rows.now c.args.pl.now c.requires.0 c.requires.1 c.requires.3 c' yes come zero
            c.transform_block-first.new.out c.else_follows.new.out
            c.else_follows.new.pl c.else_follows.result
            c.transform_block-first.new.errs
            c.transform_block-first.new.warns
            c.transform_block-first.new.lefts g
            (loop-further c.args.s.now c.args.tb.now
            small c.args.env c.args.tag c.args.l c.args.st
            c.args.rows.now c.args.pl.now c.requires.0 c.requires.1 c.requires.3 c' yes come zero
            c.transform_block-first.new.out c.else_follows.new.out
            c.else_follows.new.pl c.else_follows.result
            c.transform_block-first.new.errs
            c.transform_block-first.new.warns
            c.transform_block-first.new.lefts f),
        c.transform_block-first.ensures.comes.1,
      );
      tag_walks = λ T sy loop o reach. without-loop c.args.s.now c.args.tb.now
          small c.args.env c.args.tag c.args.l c.args.st
          c.args.rows.now c.args.pl.now c.requires.0 c.requires.1 c.requires.3 c' yes come zero
          c.transform_block-first.new.out c.else_follows.new.out
          c.else_follows.new.pl c.else_follows.result
          c.transform_block-first.new.errs
          c.transform_block-first.new.warns
          c.transform_block-first.new.lefts g f refl q T loop _ (walks T sy (own_loop c.args.tag (12 - c.args.env.left) loop) (loop-of c.args.s.now c.args.tb.now c.args.env c.args.tag c.args.l c.args.st _ _ c.requires.0 loop o) (reaches zero)) reach;
    })
    which

pub transform_else-behind-requires : goal.transform_else-behind-requires
transform_else-behind-requires t c =
    (c.requires.0.sound.kept.small, c.requires.0.width, omega (arith, c.requires.2))

pub transform_else-behind-b-requires : goal.transform_else-behind-b-requires
transform_else-behind-b-requires t c =
    behind-asked c.args.s.now c.args.tb.now c.args.env c.args.l c.args.st _ _
    c.requires.0 c.requires.2 _ c.behind.ensures

pub transform_else-branch_rows-requires : goal.transform_else-branch_rows-requires
transform_else-branch_rows-requires t c =
    let is = moved_twice c.args.env c.behind.result c.behind-b.result c.args.l.count c.behind.ensures
    c.behind-b.ensures in
    let low = else-low c.args.s.now c.args.tb.now c.args.env c.args.l c.args.st
    c.args.first c.args.rows.now c.args.pl.now c.requires.0 c.requires.1 c.requires.2 c.requires.3 in
    copied_at c.args.env c.behind-b.result _ is
    (to-branch c.args.s.now c.args.tb.now c.args.env c.args.l c.args.st _
    _ c.requires.0 _ low.2 low.0)

pub transform_else-returns-then-not-branch_rows : goal.transform_else-returns-then-not-branch_rows
transform_else-returns-then-not-branch_rows t c =
    let is = moved_twice c.args.env c.behind.result c.behind-b.result c.args.l.count c.behind.ensures
    c.behind-b.ensures in
    let c' = copies_at c.args.env c.behind-b.result _ is c.branch_rows.ensures in
    record {
      comes = (
        comes-faulty _ _ _ _ _ _ _ _ _ _ _ (omega arith)
            (let low = else-low c.args.s.now c.args.tb.now c.args.env c.args.l
            c.args.st c.args.first c.args.rows.now c.args.pl.now c.requires.0 c.requires.1 c.requires.2
            c.requires.3 in below_less _ _ _ _ (omega (arith, low.2))
            (branch-below c.args.s.now c.args.tb.now c.args.env c.args.l
            c.args.st _ _ c.requires.0 _ c'))
            (λ z. else-short c.args.s.now c.args.tb.now c.args.env c.args.l
            c.args.st c.args.first c.args.rows.now c.args.pl.now c.requires.0 c.requires.1 c.requires.2
            c.requires.3 (branch-short c.args.s.now c.args.tb.now c.args.env
            c.args.l c.args.st _ _ c.requires.0 _ c' (c.if-not-branch_rows.true))),
        c.requires.4,
      );
      else_merges = λ T sy loop o reach. absurd (reach refl);
    }

pub transform_else-transform_block-other-requires : goal.transform_else-transform_block-other-requires
transform_else-transform_block-other-requires t c =
    let is = moved_twice c.args.env c.behind.result c.behind-b.result c.args.l.count c.behind.ensures
    c.behind-b.ensures in
    let low = else-low c.args.s.now c.args.tb.now c.args.env c.args.l c.args.st
    c.args.first c.args.rows.now c.args.pl.now c.requires.0 c.requires.1 c.requires.2 c.requires.3 in
    let c' = copies_at c.args.env c.behind-b.result _ is c.branch_rows.ensures in (
      omega (arith, left-same c.args.env c.behind-b.result _ is),
      block-asked c.args.env c.behind-b.result _ is c.args.nodes.now
          (branch-enters c.args.s.now c.args.tb.now c.args.env c.args.l
          c.args.st _ _ c.requires.0 _ c' (c.if-not-branch_rows.false) c.behind-b.result is c.requires.0.near c.requires.0.looped) c.requires.1 low.1
          c.requires.4,
    )

pub transform_else-merge_else-requires : goal.transform_else-merge_else-requires
transform_else-merge_else-requires t c =
    let is = moved_twice c.args.env c.behind.result c.behind-b.result c.args.l.count c.behind.ensures
    c.behind-b.ensures in
    let c' = copies_at c.args.env c.behind-b.result _ is c.branch_rows.ensures in
    let yes = c.if-not-branch_rows.false in
    let come = comes-at c.args.env c.behind-b.result _ is c.transform_block-other.ensures.comes.0 in
    λ z. branches_at c.args.env c.behind-b.result _ is
    (else-branches c.args.s.now c.args.tb.now c.args.env c.args.l c.args.st
    c.args.first c.args.rows.now c.args.pl.now c.requires.0 c.requires.1 c.requires.2 c.requires.3 c' yes come z)

pub transform_else-shape_of-rows : goal.transform_else-shape_of-rows
transform_else-shape_of-rows t c =
    omega (arith, c.merge_else.auto.rows, c.transform_block-other.auto.rows, c.branch_rows.auto.rows)

pub transform_else-returns : goal.transform_else-returns
transform_else-returns t c =
    let is = moved_twice c.args.env c.behind.result c.behind-b.result c.args.l.count c.behind.ensures
    c.behind-b.ensures in
    let c' = copies_at c.args.env c.behind-b.result _ is c.branch_rows.ensures in
    let yes = c.if-not-branch_rows.false in
    let come = comes-at c.args.env c.behind-b.result _ is c.transform_block-other.ensures.comes.0 in
    let walks = walks_at c.args.env c.behind-b.result _ is c.args.s.now c.args.tb.now
    c.args.l c.args.st c.branch_rows.new.rows _ _ c.transform_block-other.result
    c.transform_block-other.new.rows c.transform_block-other.new.pl _
    c.transform_block-other.ensures.block_walks in
    let g = merges-at c.args.env c.behind-b.result _ is c.merge_else.ensures in record {
      comes = (
        merged-comes c.args.s.now c.args.tb.now c.args.env c.args.l c.args.st
            c.args.first c.args.rows.now c.args.pl.now c.requires.0 c.requires.1 c.requires.2 c.requires.3 c' yes come g,
        c.transform_block-other.ensures.comes.1,
      );
      else_merges = λ T sy loop o reach. else-merged c.args.s.now c.args.tb.now c.args.env c.args.l c.args.st
          c.args.first c.args.rows.now c.args.pl.now c.requires.0 c.requires.1 c.requires.2 c.requires.3 c' yes come T loop _ _ g (walks T sy loop o) reach;
    }
