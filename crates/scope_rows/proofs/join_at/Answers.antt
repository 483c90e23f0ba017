use Rattle.std.proofs.Common.{rules, arith, ap, length, get_or}
use Rattle.scope_rows.proofs.Rowing.{loads, joins-from, joins-alive, joins-one, joins-many}
use Rattle.scope_rows.proofs.join_at.Goals as goal

pub load-a-requires : goal.load-a-requires
load-a-requires c = loads _ _ _ _ c.requires.0 c.requires.2

pub load-b-requires : goal.load-b-requires
load-b-requires c = loads _ _ _ _ c.requires.1 c.requires.2

pub returns-in-empty : goal.returns-in-empty
returns-in-empty c =
    let j = joins-from c.args.keeps c.args.x c.args.y c.args.rows.now c.args.row c.args.more c.load-a.result c.load-b.result _ c.load-a.ensures c.load-b.ensures c.in-Some.ensures in
    let n = ap length c.as_slice-places.ensures in
    joins-alive c.args.keeps c.args.width c.args.x c.args.y c.args.rows.now c.args.row c.args.more c.in-Some.s j (search rules) (omega (arith, n, c.if-width-places.false)) (omega (arith, n, c.in-empty.len_below))

pub returns-in-len1 : goal.returns-in-len1
returns-in-len1 c =
    let j = joins-from c.args.keeps c.args.x c.args.y c.args.rows.now c.args.row c.args.more c.load-a.result c.load-b.result _ c.load-a.ensures c.load-b.ensures c.in-Some.ensures in
    let n = ap length c.as_slice-places.ensures in
    joins-one c.args.keeps c.args.width c.args.x c.args.y c.args.rows.now c.args.row c.args.more c.in-Some.s j (search rules) (omega (arith, n, c.if-width-places.false)) (omega (arith, n, c.in-len1.len_at_least, c.in-len1.len_below)) _ (ap (λ ps. get_or ps 0 0) c.as_slice-places.ensures)

pub returns-else-rows-row : goal.returns-else-rows-row
returns-else-rows-row c =
    let j = joins-from c.args.keeps c.args.x c.args.y c.args.rows.now c.args.row c.args.more c.load-a.result c.load-b.result _ c.load-a.ensures c.load-b.ensures c.in-Some.ensures in
    let n = ap length c.as_slice-places.ensures in
    joins-many c.args.keeps c.args.width c.args.x c.args.y c.args.rows.now c.args.row c.args.more c.in-Some.s j (search rules) (omega (arith, n, c.if-width-places.false)) _ _ (omega (arith, n, c.in-len1-up.len_at_least)) c.if-rows-row.false (rw c.as_slice-places.ensures at c.write_row.ensures)
