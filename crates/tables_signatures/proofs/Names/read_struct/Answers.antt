use Rattle.std.proofs.Common.{refl, sym, ap, ◌∙◌}
use Rattle.image_fields.proofs.Answers.{number_at, number-err, passed}
use Rattle.image_fields.proofs.Numbers.{field-ok}
use Rattle.tables_signatures.specs.Answer.{struct_name_of}
use Rattle.tables_signatures.proofs.Signatures.{struct-name-stop, not-rising, struct-rest}
use Rattle.tables_signatures.proofs.Names.read_struct.Goals as goal

pub returns-in_err-name : goal.returns-in_err-name
returns-in_err-name c = rw (passed c.from_residual.ensures) (λ ss ends. struct-name-stop _ c.args.self.starts.now ss _ refl (number-err c.in_err-name.ensures))

pub rises-requires : goal.rises-requires
rises-requires c = (c.requires, (field-ok (number_at c.in_ok-name.ensures)).small)

pub returns-then-rises : goal.returns-then-rises
returns-then-rises c = λ ss ends. c.read_struct_rest.ensures
    ∙ sym (ap struct_name_of (struct-rest _ c.args.self.starts.now ss _ refl (number_at c.in_ok-name.ensures) _ ends c.rises.ensures c.if-rises.true))

pub returns-else-rises : goal.returns-else-rises
returns-else-rises c = λ ss ends. not-rising _ c.args.self.starts.now ss _ refl (number_at c.in_ok-name.ensures) _ ends c.rises.ensures c.if-rises.false
