use Rattle.std.proofs.Common.{sym, ap, ◌∙◌, arith}
use Rattle.image_fields.proofs.Answers.{number_at, number-err, wrong-table, passed}
use Rattle.image_fields.proofs.Numbers.{field-ok}
use Rattle.image_fields.specs.Answer.{table_of}
use Rattle.image_fields.proofs.Tables.{count-stop, count-good}
use Rattle.tables_signatures.proofs.NamedFormat.read_named_table.Goals as goal

pub returns-in_err-n : goal.returns-in_err-n
returns-in_err-n c = rw (passed c.from_residual.ensures) (wrong-table (count-stop _ _ _ _ _ _ (number-err c.in_err-n.ensures)))

pub fill_named-requires : goal.fill_named-requires
fill_named-requires c = let g = field-ok (number_at c.in_ok-n.ensures) in let a = g.fits in let b = g.end in omega arith

pub returns : goal.returns
returns c = c.fill_named.ensures ∙ sym (ap table_of (count-good _ _ _ _ _ _ (number_at c.in_ok-n.ensures) (omega arith)))
