use Rattle.std.proofs.Common.{arith}
use Rattle.image_fields.proofs.Numbers.{field-ok}
use Rattle.image_fields.proofs.Answers.{number_at, number-err, passed}
use Rattle.tables.proofs.Types.{types-none, types-few, types-all}
use Rattle.tables.proofs.ty.read_types.Goals as goal

pub returns-in_err-n : goal.returns-in_err-n
returns-in_err-n c =
    let g = types-none c.args.names c.args.s.now c.args.at c.args.starts.now c.args.flags.now (number-err c.in_err-n.ensures) in
    rw (passed c.from_residual.ensures) (record { value = g.0; filled = g.1 })

pub returns-then-n-eq0 : goal.returns-then-n-eq0
returns-then-n-eq0 c =
    let g = types-few c.args.names c.args.s.now c.args.at c.args.starts.now c.args.flags.now (number_at c.in_ok-n.ensures) c.if-n-eq0.true in
    record { value = g.0; filled = g.1 }

pub fill_types-requires : goal.fill_types-requires
fill_types-requires c = let g = (field-ok (number_at c.in_ok-n.ensures)).small in (omega arith, omega arith, omega arith)

pub returns : goal.returns
returns c =
    let g = types-all _ _ _ _ _ (number_at c.in_ok-n.ensures) c.if-n-eq0.false c.fill_types.ensures.value c.fill_types.ensures.filled in
    record { value = g.0; filled = g.1 }
