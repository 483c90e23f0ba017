use native.Mathlib.Omega.{arith}
use Rattle.blocks_laws.proofs.Heads.{span-length}
use Rattle.blocks_ends.proofs.Walks.{head-is}
use Rattle.blocks_ends.proofs.head.Goals as goal

pub inside-q-requires : goal.inside-q-requires
inside-q-requires c =
    let r = c.requires in
    let g = span-length _ (λ k. omega (arith, c.type_inv.s k)) _ r.1 c.copy_bytes-gap.ensures in
    (omega (arith, r.0.inside, r.0.small), omega (arith, g, r.0.written, r.0.inside, r.0.small))

pub returns : goal.returns
returns c =
    head-is _ (λ k. omega (arith, c.type_inv.s k)) _ c.requires.1 _ _ _ _ _ _ c.copy_bytes-gap.ensures c.two_at-total.ensures.0 c.inside-q.ensures c.between.ensures
