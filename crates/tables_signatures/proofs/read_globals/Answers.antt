use Rattle.std.proofs.Common.{sym, ◌∙◌}
use Rattle.tables_signatures.proofs.Signatures.{globals-alike}
use Rattle.tables_signatures.proofs.read_globals.Goals as goal

pub returns : goal.returns
returns c = c.read_named_table.ensures ∙ sym (globals-alike _ _ _)
