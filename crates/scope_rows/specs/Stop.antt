-- The numbers of stops.
use Rattle.std.specs.Prelude.{ℕ}
use Rattle.image_fields.specs.Fault.{fault_number}
use Rattle.scope_rows.specs.declared.Stop.{Stop}
use Rattle.scope_rows.specs.declared.Stop.TheVariants.{Fault, Rows}

-- a fault's number, or 254: the rows that are lent end too early
abbrev pub stop_number : Stop → ℕ
stop_number (Fault f) = fault_number f
stop_number Rows = 254
