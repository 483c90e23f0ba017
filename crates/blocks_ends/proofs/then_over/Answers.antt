use mathlib.Core.Path.{refl}
use Rattle.blocks_ends.proofs.then_over.Goals as goal

pub returns-then-tag-eq8 : goal.returns-then-tag-eq8
returns-then-tag-eq8 c = record {
  flag = (λ h. refl, λ h. absurd (h c.if-tag-eq8.true));
  goes = (λ h. record { flag = refl; same = refl; tells = record { fault = refl; sure = refl; place = refl } }, λ h. absurd (h c.if-tag-eq8.true));
}

pub returns : goal.returns
returns c = record {
  flag = (λ h. absurd (c.if-tag-eq8.false h), λ h. refl);
  goes = (
    λ h. absurd (c.if-tag-eq8.false h),
    λ h. record { flag = refl; stored = c.put-written.ensures; tells = record { fault = refl; sure = refl; place = refl } },
  );
}
