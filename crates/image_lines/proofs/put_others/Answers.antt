use Prim.Native.Nat.{ℕ}
use native.Mathlib.Omega.{arith}
use mathlib.Core.Path.{refl, sym, ap, ◌∙◌}
use mathlib.Core.List.{List, ◌++◌, append-nil, flat_map}
use lib.Seq.{take_all}
use Rattle.rules_page.specs.Page.{left_in, column}
use Rattle.image_lines.proofs.Texts.{text-others}
use Rattle.image_lines.proofs.put_others.Goals as goal

pub loop-i-init : goal.loop-i-init
unfolding flat_map
loop-i-init c = λ h b e. e ∙ ap (left_in 73) (sym (append-nil h))

pub loop-i-preserved : goal.loop-i-preserved
loop-i-preserved c = λ h b e. c.put_digits.ensures ∙ text-others h c.args.others.now c.loop-i.text c.loop-i.i _ b c.requires c.loop-i-test.true refl (c.loop-i.invariant h b e)

pub returns : goal.returns
returns c = λ h b e. c.loop-i.invariant h b e ∙ ap (λ (l : List ℕ). left_in 73 (h ++ flat_map column l)) (take_all c.loop-i.i c.args.others.now (omega arith))
