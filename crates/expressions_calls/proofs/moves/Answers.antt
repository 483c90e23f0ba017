use Rattle.std.proofs.Common.{◌<◌, ◌≤◌, subst, ⊎_elim}
use Rattle.expressions_calls.proofs.Ends.{moves-first, moves-none, moves-other, named_by}
use Rattle.expressions_calls.proofs.moves.Goals as goal

pub returns-then-many-gt0 : goal.returns-then-many-gt0
returns-then-many-gt0 c = λ T en eg e next st t. moves-first T c.args.s.now c.args.start next e st t (named_by T c.args.s.now c.args.start _ c.name_at.ensures (c.is_move.ensures T en) c.if-is_move.true) (subst (λ x. 0 < x) c.peek_two-many.ensures.0 c.if-many-gt0.true) _ (c.validate_move_argument.ensures T en eg)

pub returns-else-is_move : goal.returns-else-is_move
returns-else-is_move c = λ T en eg e next st t.
    ⊎_elim
    (λ w. moves-none T c.args.s.now c.args.start next e st t (named_by T c.args.s.now c.args.start _ c.name_at.ensures (c.is_move.ensures T en) w.0) (subst (λ x. x ≤ 0) c.peek_two-many.ensures.0 w.1))
    (λ w. moves-other T c.args.s.now c.args.start next e st t (named_by T c.args.s.now c.args.start _ c.name_at.ensures (c.is_move.ensures T en) w))
    c.else-is_move.either
