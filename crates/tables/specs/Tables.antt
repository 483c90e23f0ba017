-- The tables of an image.
use Rattle.std.specs.Prelude.{ℕ, List}
use Rattle.tables.specs.Ty.{Ty}
use Rattle.tables.specs.Signature.{Struct, Global}

pub record Tables : Type 0 where
  pub names : List (List ℕ)
  pub types : List Ty
  pub structs : List Struct
  pub globals : List Global
