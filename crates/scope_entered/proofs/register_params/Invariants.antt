use Rattle.scope_entered.specs.Entered.{params_in, Adds}
use Rattle.scope_entered.proofs.register_params.Given as goal

abbrev pub invariant-loop-i : goal.invariant-loop-i
invariant-loop-i l = Adds l.tb (params_in l.s l.i l.at) l.initial.l l.l
