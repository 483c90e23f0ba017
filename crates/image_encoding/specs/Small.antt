-- Limits whose numbers fit in the bytes that an image has for them (document 01, "The image").
use Rattle.std.specs.Prelude.{◌≤◌, ◌<◌}
use Rattle.tables.specs.Limits.{Limits}
use Rattle.image_body.specs.Expr.{Scope}

-- one byte for the version and a name's length, two for a count, four for the length of what follows them
pub record Small (L : Limits) : Type 0 where
  pub version : L.version < 256
  pub size : L.size ≤ 4294967296
  pub names : L.names < 65536
  pub name_bytes : L.name_bytes < 256
  pub types : L.types < 65536
  pub structs : L.structs < 65536
  pub methods : L.methods < 65536
  pub globals : L.globals < 65536
  pub params : L.params < 65536

-- two bytes for the number of a name or type
pub record SmallScope (t : Scope) : Type 0 where
  pub names : t.names ≤ 65536
  pub types : t.types ≤ 65536
