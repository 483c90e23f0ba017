use native.Mathlib.Omega.{arith}
use mathlib.Core.Path.{◌∙◌, ap}
use mathlib.Core.List.{List}
use Prim.Native.Nat.{ℕ}
use lib.Seq.{sets}
use Rattle.rules_page.specs.Page.{bytes}
use Rattle.image_lines.proofs.Texts.{head-put}
use Rattle.image_lines.proofs.begin_left.Goals as goal

pub returns : goal.returns
unfolding bytes
returns c = head-put (bytes "left behind") c.args.span (omega arith) (c.put_name.ensures ∙ ap (λ (l : List ℕ). sets l 0 (bytes "left behind")) c.requires) c.put_digits.ensures
