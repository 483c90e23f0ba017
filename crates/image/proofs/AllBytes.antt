-- What a valid image is written in is bytes.
-- Assumes nothing.
use Prim.Native.Nat.{◌≤◌, ◌<◌}
use native.Mathlib.Omega.{arith}
use lib.ListN.{length}
use Rattle.image_fields.specs.Bytes.{two_bytes, four_bytes, Bytes}
use Rattle.tables.specs.Limits.{Limits, version1}
use Rattle.image_encoding.specs.Small.{Small, SmallScope}
use Rattle.image_encoding.proofs.AllBytes.{bytes-cons, bytes-append, bytes-four, tables-bytes, entry-bytes, block-bytes}
use Rattle.image.specs.Image.{Image, scope_in, encode_parts, encode}
use Rattle.image.specs.Valid.{ValidImage}

-- four bytes hold the length of what follows them
parts-short : (L : Limits) → Small L → (i : Image) → ValidImage L i → length (encode_parts L i) < 4294967296
unfolding encode four_bytes two_bytes
parts-short L small i v = let size : length (encode L i) ≤ L.size = v.size in omega arith

pub image-bytes : (L : Limits) → Small L → (i : Image) → ValidImage L i → Bytes (encode L i)
unfolding encode
image-bytes L small i v =
    let ns = i.tables.names in
    let ts = i.tables.types in
    let names : length ns < 65536 = omega arith in
    let types : length ts < 65536 = omega arith in
    let scope : SmallScope (scope_in L ns ts) = record { names = omega arith; types = omega arith } in
    (bytes-append (bytes-four (parts-short L small i v))
    (bytes-cons small.version
    (bytes-append (tables-bytes L small i.tables v.tables)
    (bytes-append (entry-bytes L small (length ns) names (length ts) types i.entry v.entry)
    (block-bytes (scope_in L ns ts) scope L.block_depth i.body v.body))))).each

pub version1-small : Small version1
version1-small = record {
  version = omega arith;
  size = omega arith;
  names = omega arith;
  name_bytes = omega arith;
  types = omega arith;
  structs = omega arith;
  methods = omega arith;
  globals = omega arith;
  params = omega arith;
}

-- an image of version 1
pub version1-bytes : (i : Image) → ValidImage version1 i → Bytes (encode version1 i)
version1-bytes = image-bytes version1 version1-small
