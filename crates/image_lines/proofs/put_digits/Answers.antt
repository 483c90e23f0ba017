use Prim.Native.Nat.{suc, ◌+◌, ◌-◌, ◌<◌}
use native.Mathlib.Omega.{arith}
use mathlib.Core.Path.{◌≡◌, sym, ◌∙◌}
use Rattle.rules_page.specs.Page.{digits}
use Rattle.image_lines.proofs.Texts.{tens, one-digit, more-digits, two-left}
use Rattle.image_lines.proofs.put_digits.Goals as goal

pub loop-m-init : goal.loop-m-init
loop-m-init c =
    let e : c.args.end - 1 + 1 ≡ c.args.end = omega arith in
    let k : c.args.end - 1 + 11 - c.args.end ≡ 10 = omega arith in
    (omega arith, omega arith, rw k (omega arith), rw (e, k))

pub loop-m-preserved : goal.loop-m-preserved
loop-m-preserved c =
    let i = c.loop-m.i in
    let m = c.loop-m.m in
    let e = c.args.end in
    let two = two-left (i + 11 - e) m c.loop-m-test.true c.loop-m.invariant.2 in
    let k : i + 11 - e ≡ suc (i - 1 + 11 - e) = omega arith in
    let back : i - 1 + 1 ≡ i = omega arith in
    let small : m < tens (suc (i - 1 + 11 - e)) = rw k at c.loop-m.invariant.2 in
    (omega arith, omega arith, omega arith, rw back (more-digits c.loop-m.text i (i - 1 + 11 - e) m c.loop-m-test.true (omega arith) ∙ rw k at c.loop-m.invariant.3))

pub returns : goal.returns
unfolding digits
returns c = sym (one-digit c.loop-m.text c.loop-m.i (c.loop-m.i + 11 - c.args.end) c.loop-m.m (omega arith) (omega arith)) ∙ c.loop-m.invariant.3
