use mathlib.Core.Path.{sym, ap, ◌∙◌}
use mathlib.Core.List.{◌++◌}
use Prim.Native.Nat.{◌+◌}
use native.Mathlib.Omega.{arith}
use native.Mathlib.Nat.{le_refl}
use lib.ListN.{take, drop}
use lib.Seq.{length-take-le, take-take}
use Rattle.std.proofs.lemmas.Slice.{put_mid-paste}
use Rattle.image.proofs.copy_structs.Goals as goal

pub returns : goal.returns
returns c = let a = c.args in
    put_mid-paste 776 _ a.tb.now _ (take a.n a.structs.now) a.n c.copy_from_slice.ensures.after (omega arith) (sym (length-take-le a.n a.structs.now (omega arith)))
    ∙ ap (λ z. (take 776 a.tb.now ++ z) ++ drop (776 + a.n) a.tb.now) (take-take a.n a.n a.structs.now (le_refl a.n))
