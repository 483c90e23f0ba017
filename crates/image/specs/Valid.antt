-- The images that can be written and read back: within the limits of a version.
use Rattle.std.specs.Prelude.{◌≤◌, length}
use Rattle.tables.specs.Limits.{Limits}
use Rattle.image_encoding.specs.Valid.{ValidTables, ValidEntry, ValidBlock}
use Rattle.image.specs.Image.{Image, scope_in, encode}

pub record ValidImage (L : Limits) (i : Image) : Type 0 where
  pub tables : ValidTables L i.tables
  pub entry : ValidEntry L (length i.tables.names) (length i.tables.types) i.entry
  pub body : ValidBlock (scope_in L i.tables.names i.tables.types) L.block_depth i.body
  pub size : length (encode L i) ≤ L.size
