use Rattle.std.proofs.Common.{◌<◌, length, List, map}
use Rattle.std.specs.Prelude.{IfSome}
use Rattle.tables.specs.Limits.{version1}
use Rattle.tables.specs.Name.{name_of}
use Rattle.tables.specs.Signature.{Struct, struct_at, struct_in}
use Rattle.tables_signatures.specs.Answer.{Ends}
use Rattle.tables.proofs.Placing.{Placing}
use Rattle.tables_signatures.proofs.Names.fill_structs.Given as goal

abbrev pub invariant-loop-i : goal.invariant-loop-i
invariant-loop-i l = ((ss : List Struct) × Placing (struct_at version1 (map (name_of l.self.s.now) l.self.starts.now) l.self.s.now) (struct_in l.self.s.now) l.self.s.now l.n l.at l.structs l.i l.p ss × Ends (map (name_of l.self.s.now) l.self.starts.now) ss l.last) × IfSome l.last (λ k. k < length l.self.starts.now)
