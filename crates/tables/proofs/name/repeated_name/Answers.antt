use Rattle.std.proofs.Common.{ap, not, ◌∙◌, ◌≡◌, length, subst, arith, below_more}
use Rattle.tables.proofs.Names.{same-slices, none-among, some-among}
use Rattle.tables.proofs.Keys.{Others, other, others-all}
use Rattle.tables.proofs.name.repeated_name.Goals as goal
use Rattle.tables.proofs.name.repeated_name.Goals.{else-k-key-via-then-k-key+else-eq, else-k-key-via-else-k-key}

pub returns-then-not-contains : goal.returns-then-not-contains
returns-then-not-contains c = let pre = c.requires in
    none-among _ _ _ (others-all _ _ _ _ _ _ pre.3 pre.1 pre.0 c.contains.ensures.value (ap not c.if-not-contains.true))

pub returns-then-eq : goal.returns-then-eq
returns-then-eq c = some-among _ _ _ c.loop-i.i (omega arith) (same-slices _ c.eq.ensures c.name_bytes.ensures ∙ c.if-eq.true)

pub loop-i-preserved : goal.loop-i-preserved
loop-i-preserved c = let pre = c.requires in
    below_more _ _ c.loop-i.invariant (elim c.else-k-key.branch [
      | else-k-key-via-then-k-key+else-eq w ↦ same-slices _ w.eq.ensures w.name_bytes.ensures ∙ w.if-eq.false
      | else-k-key-via-else-k-key w ↦ other _ _ _ _ _ _ pre.3 pre.1 _ (omega arith) w.if-k-key.false
    ])

pub returns : goal.returns
returns c =
    let e : c.loop-i.i ≡ length c.args.starts.now = omega arith in
    none-among _ _ _ (subst (Others c.args.s.now c.args.starts.now c.args.name.now) e c.loop-i.invariant)
