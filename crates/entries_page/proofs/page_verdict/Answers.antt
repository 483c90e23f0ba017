use mathlib.Core.Path.{refl, subst}
use mathlib.Core.Bool.{true}
use lib.Seq.{length-take-le}
use Rattle.std.proofs.lemmas.Result.{err_from_is_err_and}
use Rattle.rules.specs.Rules.{switches_of}
use Rattle.entries_image.specs.Images.{Measures}
use Rattle.entries_page.proofs.Paging.{pages-fault, no-fault, pages-short, pages-written}
use Rattle.entries_page.proofs.page_verdict.Goals as goal

pub returns-in_err-p : goal.returns-in_err-p
returns-in_err-p c =
    let r = err_from_is_err_and c.from_residual.result c.from_residual.ensures.1 in
    rw (r.1, r.2) (pages-fault c.args.env.switches c.args.s.now c.args.page.now c.requires.value c.requires.i c.requires.read c.in_err-p.field-0.0 (subst (Measures (switches_of c.args.env.switches) c.args.s.now true) c.in_err-p.was c.measure.ensures))

pub returns-then-page-end : goal.returns-then-page-end
returns-then-page-end c = pages-short c.args.env.switches c.args.s.now c.args.page.now c.requires.value c.requires.i c.requires.read c.in_ok-p.p (subst (Measures (switches_of c.args.env.switches) c.args.s.now true) c.in_ok-p.was c.measure.ensures) c.if-page-end.true

pub returns : goal.returns
returns c =
    let l = length-take-le _ c.args.page.now c.if-page-end.false in
    pages-written c.args.env.switches c.args.s.now c.args.page.now c.requires.value c.requires.i c.requires.read c.in_ok-p.p (subst (Measures (switches_of c.args.env.switches) c.args.s.now true) c.in_ok-p.was c.measure.ensures) _ refl c.if-page-end.false _ _ (c.write_page.ensures c.requires.i c.requires.read (no-fault c.args.env.switches c.args.s.now c.args.page.now c.requires.value c.requires.i c.requires.read c.in_ok-p.p (subst (Measures (switches_of c.args.env.switches) c.args.s.now true) c.in_ok-p.was c.measure.ensures))) refl l
