use mathlib.Core.List.{[], ◌∷◌}
use native.Mathlib.Omega.{arith}
use lib.ListN.{length-set}
use lib.Seq.{sets-eq}
use Rattle.image.proofs.put_counts.Goals as goal

pub bounds-tb-1 : goal.bounds-tb-1
bounds-tb-1 c = simp length-set (omega arith)

pub bounds-tb-2 : goal.bounds-tb-2
bounds-tb-2 c = simp length-set (omega arith)

pub bounds-tb-3 : goal.bounds-tb-3
bounds-tb-3 c = simp length-set (omega arith)

pub returns : goal.returns
returns c = let a = c.args in
    sets-eq (a.names ∷ (a.types ∷ (a.rest.struct_count ∷ (a.rest.global_count ∷ (a.rest.globals ∷ []))))) a.tb.now 0 c.requires.0
