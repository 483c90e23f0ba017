use Rattle.std.proofs.Common.{◌+◌, List}
use Rattle.tables.specs.Signature.{Named, named_at, named_in}
use Rattle.image_fields.specs.Fault.{fault_number}
use Rattle.tables_signatures.proofs.Signatures.{Striding}
use Rattle.tables_signatures.proofs.NamedFormat.fill_named.Given as goal

abbrev pub invariant-loop-i : goal.invariant-loop-i
invariant-loop-i l = (xs : List Named) × Striding (named_at (fault_number l.self.fault) l.self.names l.self.limit l.self.width l.self.distinct l.s) (named_in l.self.width l.s) (2 + l.self.width) l.s l.n l.first l.i l.p xs
