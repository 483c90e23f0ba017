use native.Mathlib.Omega.{arith}
use Rattle.scope_rows.proofs.Elsewhere.{copied-back}
use Rattle.blocks_merge.proofs.Merging.{to-copy, copied-same}
use Rattle.blocks_merge.proofs.copy_back.Goals as goal

pub copy_rows-requires : goal.copy_rows-requires
copy_rows-requires c =
    let a = c.args in
    let h = c.requires in
    to-copy a.n a.kinds.now a.rows.now a.src a.cur a.width h c.if-src-cur.true

pub returns-then-src-cur : goal.returns-then-src-cur
returns-then-src-cur c =
    let a = c.args in
    let h = c.requires in
    let ne = c.if-src-cur.true in
    let g = c.copy_rows.ensures in
    let z = copied-back _ _ _ _ _ _ _ _ (to-copy a.n a.kinds.now a.rows.now a.src a.cur a.width h ne) (omega (arith, h.3 ne)) g in
    rw z at g

pub returns-else-src-cur : goal.returns-else-src-cur
returns-else-src-cur c =
    let a = c.args in
    let h = c.requires in
    copied-same a.n a.kinds.now a.rows.now a.src a.cur a.width h c.if-src-cur.false
