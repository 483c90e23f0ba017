use mathlib.Core.Path.{refl}
use mathlib.Core.Bool.{true}
use native.Mathlib.Omega.{arith}
use Rattle.image_fields.specs.Bytes.{Bytes}
use Rattle.entries_image.proofs.Whole.{begins-at, page-walked}
use Rattle.entries_image.proofs.page_image.Goals as goal

pub walk_body-requires : goal.walk_body-requires
walk_body-requires c =
    let r = c.requires in
    (r.0, begins-at c.begin-start.ensures r.1 r.2 r.3)

pub returns : goal.returns
returns c =
    let s = c.args.s.now in
    let tb = c.args.tb.now in
    let small : Bytes s = λ k. omega (arith, c.type_inv.s k) in
    let e = c.args.env in
    let i = c.args.read.entry in
    let j = c.args.read.body in
    page-walked s tb small e i j c.requires.0 _ _ _ c.begin-start.result c.walk_body.result c.walk_body.ensures _ _ _ true c.begin-start.ensures refl (omega arith)
