use Rattle.std.proofs.Common.{eqb, sym, ap, ◌∙◌, arith}
use Rattle.tables_lookup.proofs.Lent.{none-asked, still-filled, one-asked, all_asked}
use Rattle.tables_lookup.proofs.fill_drops.Goals as goal
use Rattle.tables_lookup.proofs.fill_drops.Goals.{then-deleted, else-deleted}

pub loop-t-init : goal.loop-t-init
loop-t-init c = none-asked _ _ c.requires

pub deleted_in-deleted-requires : goal.deleted_in-deleted-requires
deleted_in-deleted-requires c = still-filled _ _ c.requires _ c.loop-t.invariant

pub loop-t-preserved : goal.loop-t-preserved
loop-t-preserved c =
    one-asked _ _ c.requires _ c.loop-t.invariant (let h = c.requires.few_types in omega arith) c.if-deleted.tb
    (elim c.if-deleted.branch [ then-deleted w ↦ ap (λ x. eqb x 1) w.tb-is ∙ sym w.if-deleted.true ∙ c.deleted_in-deleted.ensures | else-deleted w ↦ ap (λ x. eqb x 1) w.tb-is ∙ sym w.if-deleted.false ∙ c.deleted_in-deleted.ensures ])

pub returns : goal.returns
returns c = (all_asked _ _ c.requires _ c.loop-t.invariant (omega arith), c.loop-t.invariant.kept)
