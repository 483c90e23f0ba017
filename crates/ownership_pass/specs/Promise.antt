-- Demand 3 of the entry: what holds of the bytes written, for every image that is accepted.
use Rattle.std.specs.Prelude.{ℕ, ◌≡◌, List, length}
use Rattle.tables.specs.Limits.{version1}
use Rattle.image.specs.Image.{Image, accepted, decode, encode}
use Rattle.image_body.specs.Stmt.{Tree}
use Rattle.rules.specs.Rules.{Switches, switches_of}
use Rattle.rules.specs.Report.{with_code}
use Rattle.rules.specs.AsReturned.{ReturnedBody}
use Rattle.rules.specs.Pieces.{Struck}
use Rattle.image_writing.specs.Memory.{Memory}
use Rattle.entries_verdict.specs.Passes.{over}

-- the image that was read; the bytes written are those of the statements given back for its body, which meet demand 3's first two
-- sentences; striking out what they show to be put in gives the image again, its third
pub record Promise (w : Switches) (s output : List ℕ) : Type 0 where
  pub image : Image
  pub read : decode version1 s ≡ accepted image
  pub sent : encode version1 image ≡ s
  pub tree : Tree
  pub given : output ≡ encode version1 (with_code image tree)
  pub returned : ReturnedBody w image.tables image.entry image.body tree
  pub struck : Struck version1 s output image returned.decided

-- of a call that was accepted with so many bytes written
pub record Kept (value : ℕ) (s : List ℕ) (m m' : Memory) (written : ℕ) : Type 0 where
  pub output : List ℕ
  pub long : written ≡ length output
  pub there : m'.out ≡ over output m.out
  pub promise : Promise (switches_of value) s output
