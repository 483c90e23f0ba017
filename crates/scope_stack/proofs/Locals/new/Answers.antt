use Rattle.std.proofs.Common.{sym, refl, arith}
use Rattle.scope_stack.proofs.Words.{word_none}
use Rattle.scope_stack.proofs.Locals.new.Goals as goal

pub returns : goal.returns
returns c = (record { small = omega arith; name_room = refl; type_room = refl; depth_room = refl; birth_room = refl; dtor_room = omega arith }, refl, λ T. sym (word_none 0 _ (λ k l. absurd (omega arith))))
