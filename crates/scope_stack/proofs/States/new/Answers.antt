use Rattle.std.proofs.Common.{refl, eq-eqb}
use Rattle.scope_stack.proofs.Words.{word-full}
use Rattle.scope_stack.proofs.Stores.{zeros}
use Rattle.scope_stack.proofs.States.new.Goals as goal

pub returns : goal.returns
returns c = (record { kind_room = refl; first_room = refl; word = word-full 64 _ (λ k l. eq-eqb _ _ (zeros k)) }, zeros)
