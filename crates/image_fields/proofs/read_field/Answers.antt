use Rattle.image_fields.specs.Fault.{fault_number}
use Rattle.image_fields.proofs.Numbers.{coded-field}
use Rattle.image_fields.proofs.read_field.Goals as goal

pub returns : goal.returns
returns c = let a = c.args in coded-field a.fault a.limit a.k a.s.now a.at _ (c.field.ensures (fault_number a.fault))
