use Rattle.image_fields.proofs.Answers.{passed}
use Rattle.tables.proofs.Names.{name-stands}
use Rattle.tables.proofs.Keys.{naming-none, naming-twice, naming-next, naming-done}
use Rattle.tables.proofs.name.fill_names.Goals as goal

pub returns-in_err-len : goal.returns-in_err-len
returns-in_err-len c =
    let g = naming-none c.loop-i.invariant c.in_err-len.ensures c.loop-i-test.true in
    rw (passed c.from_residual.ensures) (record { value = g.0; starts = g.1 })

pub returns-then-repeated_name : goal.returns-then-repeated_name
returns-then-repeated_name c =
    let e = rw c.name_bytes-name.ensures at c.repeated_name.ensures in
    let g = naming-twice c.loop-i.invariant (name-stands _ _ _ c.in_ok-len.ensures) c.loop-i-test.true e c.if-repeated_name.true in
    record { value = g.0; starts = g.1 }

pub loop-i-preserved : goal.loop-i-preserved
loop-i-preserved c =
    let e = rw c.name_bytes-name.ensures at c.repeated_name.ensures in
    naming-next c.loop-i.invariant (name-stands _ _ _ c.in_ok-len.ensures) c.loop-i-test.true e c.if-repeated_name.false (rw c.name_bytes-name.ensures at c.key_of-key.ensures)

pub returns : goal.returns
returns c = let g = naming-done c.loop-i.invariant c.loop-i-test.false in record { value = g.0; starts = g.1 }
