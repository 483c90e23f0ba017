use Rattle.statements_acts.proofs.Dropped.{placed-none, placed-more, listing-all, listing-put, listing_none}
use Rattle.rules_page.specs.Page.{blanks}
use Rattle.scope_stack.proofs.Words.{ones-less}
use native.Mathlib.Omega.{arith}
use mathlib.Core.Path.{refl, ◌∙◌}
use Rattle.statements_acts.proofs.list_left.Goals as goal

pub begin_lefts-requires : goal.begin_lefts-requires
unfolding blanks
begin_lefts-requires c = refl

pub loop-rest-init : goal.loop-rest-init
loop-rest-init c = (refl, refl, placed-none _ _ c.ranges.mark.fits, λ T tys depths g k e. listing-all T _ tys depths _ g _ _ k _ _ _ _ e)

pub loop-rest-smaller : goal.loop-rest-smaller
loop-rest-smaller c = rw c.without-rest.ensures (ones-less _ _ c.newest-i.ensures.0)

pub loop-rest-preserved : goal.loop-rest-preserved
loop-rest-preserved c =
    let i = c.loop-rest.invariant in
    let put = c.put_left-at in
    rw c.without-rest.ensures (
      put.auto.out ∙ i.0,
      put.auto.lefts ∙ i.1,
      placed-more _ _ _ _ _ i.2 c.newest-i.ensures.0 put.ensures.1,
      λ T tys depths g k e. listing-put T _ tys depths _ g _ _ k _ _ _ _ _ _ _ (i.3 T tys depths g k e) _ c.newest-i.ensures.1 c.from.ensures refl put.ensures.0,
    )

pub returns : goal.returns
returns c = (omega (arith, c.loop-rest.invariant.2.room), λ T tys depths g k e. listing_none T _ tys depths _ g _ _ k _ _ _ _ _ _ _ (c.loop-rest.invariant.3 T tys depths g k e) c.loop-rest-test.false)
