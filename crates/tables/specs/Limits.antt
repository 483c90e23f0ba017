-- The limits of a version (document 01, "The image" and "Faults"). The grammar reads them from here.
use Rattle.std.specs.Prelude.{ℕ}

pub record Limits : Type 0 where
  -- the version byte
  pub version : ℕ
  -- bytes in all
  pub size : ℕ
  pub names : ℕ
  pub name_bytes : ℕ
  pub types : ℕ
  pub structs : ℕ
  pub methods : ℕ
  pub globals : ℕ
  pub params : ℕ
  pub block_depth : ℕ
  pub expr_depth : ℕ
  -- locals at one time, and places in a state
  pub locals : ℕ
  pub places : ℕ

abbrev pub version1 : Limits
version1 = record {
  version = 1;
  size = 65536;
  names = 512;
  name_bytes = 64;
  types = 256;
  structs = 64;
  methods = 32;
  globals = 64;
  params = 16;
  block_depth = 12;
  expr_depth = 24;
  locals = 64;
  places = 8;
}
