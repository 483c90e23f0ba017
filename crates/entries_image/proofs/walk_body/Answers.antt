use Prim.Native.Nat.{◌-◌, ◌*◌, ◌≤◌}
use mathlib.Core.Path.{refl}
use native.Mathlib.Omega.{arith}
use Rattle.std.specs.Prelude.{Some, None}
use Rattle.image_fields.specs.Bytes.{Bytes}
use Rattle.entries_image.proofs.Whole.{entry-there, head-inside, enters, there, body-walked}
use Rattle.entries_image.proofs.walk_body.Goals as goal

pub enter-l-requires : goal.enter-l-requires
enter-l-requires c =
    let s = c.args.s.now in
    let tb = c.args.tb.now in
    let small : Bytes s = λ k. omega (arith, c.type_inv.s k) in
    let e = c.args.env in
    let i = c.args.read.entry in
    let j = c.args.read.body in
    let h = c.requires.0 in
    (entry-there s tb small e i j h, (head-inside s tb small e i j h).2, (h.lent.filled.size, h.lent.filled.few_types))

pub transform_block-requires : goal.transform_block-requires
transform_block-requires c =
    let s = c.args.s.now in
    let tb = c.args.tb.now in
    let small : Bytes s = λ k. omega (arith, c.type_inv.s k) in
    let e = c.args.env in
    let i = c.args.read.entry in
    let j = c.args.read.body in
    let l = c.enter-l in
    let n = c.new-states in
    let a = enters s tb small e i j c.requires.0 l.result l.ensures n.result n.ensures.0 n.ensures.1 c.args.rows.now c.args.start _ c.requires.1 refl in
    let b = there s tb small e i j c.requires.0 l.result l.ensures n.result n.ensures.0 n.ensures.1 c.args.rows.now c.args.start _ c.requires.1 refl in
    let d : e.cur ≤ 1152 * (12 - e.left) = omega (arith, c.requires.0.cur) in
    (a, b, d, refl)

pub returns-in-None : goal.returns-in-None
returns-in-None c =
    let s = c.args.s.now in
    let tb = c.args.tb.now in
    let small : Bytes s = λ k. omega (arith, c.type_inv.s k) in
    let e = c.args.env in
    let i = c.args.read.entry in
    let j = c.args.read.body in
    let l = c.enter-l in
    let n = c.new-states in
    body-walked s tb small e i j c.requires.0 l.result l.ensures n.result n.ensures.0 n.ensures.1 c.args.rows.now c.args.start _ c.requires.1 refl _ _ c.transform_block.result _ _ c.transform_block.ensures.comes.0 c.transform_block.ensures.block_walks None c.in-None.is

pub returns-in-Some : goal.returns-in-Some
returns-in-Some c =
    let s = c.args.s.now in
    let tb = c.args.tb.now in
    let small : Bytes s = λ k. omega (arith, c.type_inv.s k) in
    let e = c.args.env in
    let i = c.args.read.entry in
    let j = c.args.read.body in
    let l = c.enter-l in
    let n = c.new-states in
    body-walked s tb small e i j c.requires.0 l.result l.ensures n.result n.ensures.0 n.ensures.1 c.args.rows.now c.args.start _ c.requires.1 refl _ _ c.transform_block.result _ _ c.transform_block.ensures.comes.0 c.transform_block.ensures.block_walks (Some c.in-Some.stop) c.in-Some.is
