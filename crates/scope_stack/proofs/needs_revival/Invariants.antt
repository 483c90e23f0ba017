use Rattle.std.proofs.Common.{◌≡◌, ℕ, Bool}
use Rattle.scope_stack.specs.Word.{word_of}
use Rattle.scope_stack.proofs.Revived.{Looked}
use Rattle.scope_stack.proofs.needs_revival.Given as goal

abbrev pub invariant-loop-m : goal.invariant-loop-m
invariant-loop-m l = (p : ℕ → Bool) → l.alive ≡ word_of 64 p → Looked l.l.names l.l.depths l.name l.depth p l.m

abbrev pub decreases-loop-m : goal.decreases-loop-m
decreases-loop-m l = l.m
