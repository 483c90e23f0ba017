-- A fault's number is its discriminant. Assumes nothing.
use mathlib.Core.Path.{◌≡◌, refl}
use Prim.Native.Nat.{◌+◌}
use denote.Enum.Declared.{tag_of}
use Rattle.image_fields.specs.contracts.Fault.{the_type}
use Rattle.image_fields.specs.declared.Fault.{Fault}
use Rattle.image_fields.specs.declared.Fault.TheVariants.{Length, Version, Names, Types, Structs, Globals, Entry, Body, Depth, BytesLeft, GenericReceiver, Locals, Places, Lists, Output, Page, Switches}
use Rattle.image_fields.specs.Fault.{fault_number}

pub numbered : (f : Fault) → tag_of the_type f + 1 ≡ fault_number f
numbered Length = refl
numbered Version = refl
numbered Names = refl
numbered Types = refl
numbered Structs = refl
numbered Globals = refl
numbered Entry = refl
numbered Body = refl
numbered Depth = refl
numbered BytesLeft = refl
numbered GenericReceiver = refl
numbered Locals = refl
numbered Places = refl
numbered Lists = refl
numbered Output = refl
numbered Page = refl
numbered Switches = refl
