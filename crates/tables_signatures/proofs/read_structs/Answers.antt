use Rattle.std.proofs.Common.{arith}
use Rattle.image_fields.proofs.Answers.{number_at, number-err, passed}
use Rattle.image_fields.proofs.Numbers.{field-ok}
use Rattle.tables.specs.Signature.{structs_at, struct_in}
use Rattle.tables.proofs.Placing.{listed-none, listed-all}
use Rattle.tables_signatures.proofs.read_structs.Goals as goal

pub returns-in_err-n : goal.returns-in_err-n
unfolding structs_at
returns-in_err-n c = let g = listed-none _ (struct_in c.args.s.now) _ 5 0 65 _ c.args.structs.now (number-err c.in_err-n.ensures) in
    rw (passed c.from_residual.ensures) (record { value = g.0; structs = g.1 })

pub fill_structs-requires : goal.fill_structs-requires
fill_structs-requires c = let g = (field-ok (number_at c.in_ok-n.ensures)).small in let pre = c.requires in (omega arith, pre.3)

pub returns : goal.returns
unfolding structs_at
returns c = let g = listed-all _ _ _ 5 0 65 _ _ (number_at c.in_ok-n.ensures) (omega arith) (c.fill_structs.ensures.value, c.fill_structs.ensures.structs) in
    record { value = g.0; structs = g.1 }
