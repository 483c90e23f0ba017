-- The faults' numbers (documents 01 and 02, "Faults").
use Rattle.std.specs.Prelude.{ℕ, Result, Ok, Err}
use Rattle.image_fields.specs.declared.Fault.{Fault}
use Rattle.image_fields.specs.declared.Fault.TheVariants.{Length, Version, Names, Types, Structs, Globals, Entry, Body, Depth, BytesLeft, GenericReceiver, Locals, Places, Lists, Output, Page, Switches}

abbrev pub fault_number : Fault → ℕ
fault_number Length = 1
fault_number Version = 2
fault_number Names = 3
fault_number Types = 4
fault_number Structs = 5
fault_number Globals = 6
fault_number Entry = 7
fault_number Body = 8
fault_number Depth = 9
fault_number BytesLeft = 10
fault_number GenericReceiver = 11
fault_number Locals = 12
fault_number Places = 13
fault_number Lists = 14
fault_number Output = 15
fault_number Page = 16
fault_number Switches = 17

-- an answer with the fault's number in place of the fault
abbrev pub coded : {A : Type 0} → Result A Fault → Result A ℕ
coded (Ok a) = Ok a
coded (Err f) = Err (fault_number f)
