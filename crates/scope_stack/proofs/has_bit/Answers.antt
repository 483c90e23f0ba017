use Rattle.std.proofs.Common.{ℕ, not, eqb, ◌∙◌, ap₂}
use lib.Bits.{bit_and}
use Rattle.scope_stack.specs.Word.{slot}
use Rattle.scope_stack.proofs.Words.{word-bit}
use Rattle.scope_stack.proofs.has_bit.Goals as goal

pub returns : goal.returns
returns c = λ k n p l e. ap₂ (λ (x y : ℕ). not (eqb (bit_and x y) 0)) e c.bit.ensures ∙ word-bit n c.args.i (λ j. p (slot k j)) l
