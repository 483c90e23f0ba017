-- Bodies that lack one part of plain only, and break demand 3: each part is needed.
-- Assumes nothing.
use Rattle.std.proofs.Common.{ℕ, zero, suc, Bool, true, false, not, T as So, List, [], ◌∷◌, refl, subst, T_not}
use mathlib.Core.Option.{Option, none, some}
use Rattle.tables.specs.Name.{same_bytes, starts_with}
use Rattle.tables.specs.Signature.{Entry}
use Rattle.tables_lookup.specs.First.{first_from, and_then, or_else}
use Rattle.tables_lookup.specs.Ty.{inside, struct_named, struct_shaped, struct_of_generic, struct_of_ty, struct_of, has_destructor, should_auto_delete, class_of_ty, class_of}
use Rattle.tables_lookup.specs.Signature.{modifier_in, modifier_of, is_consuming, global_of}
use Rattle.image_body.specs.Expr.{Expr, count_width, through}
use Rattle.image_body.specs.Stmt.{Tree, Block, variable, assign, bare_return, if_then, while, jump}
use Rattle.rules.proofs.Nodes.{ident, literal, moving, end, tables}
use Rattle.rules.specs.Questions.{auto, is_temp_of, is_move_of, consumes, global_in}
use Rattle.rules.specs.Stack.{Stack, shape, has}
use Rattle.rules.specs.State.{State}
use Rattle.rules.specs.Effects.{takes, handed, finish, effects, expr_stmt_effects, take_over, assign_effects, assign_takes}
use Rattle.rules.specs.Rules.{Decided, states, Keeps, evaluate, after_variable, exit, PlainBody, decide_body, off, concerns}
use Rattle.rules.specs.Run.{Config, at, start, Moment, moment, holds, Reached, Lost, Demand3}
use Rattle.rules.proofs.Count.{after, after-steps, steps-after}

-- no receiver, no parameters
abbrev entry : Entry
entry = record { receiver = 0; this = 0; params = [] }

abbrev v : ℕ → Expr
v s = ident s 1 1

-- let v: T = ..; and the rest
abbrev body : Tree → Block
body c = record { span = 10; code = variable false 21 1 1 literal c }

abbrev decided : Tree → Decided
decided c = decide_body off tables entry (body c)

abbrev Broken : Tree → Type 0
Broken c = Demand3 (concerns off) tables [] (decided c) → ⊥

abbrev begin : Tree → List Bool → Config
begin c cs = start tables [] (decided c) cs

abbrev declared : Stack State
declared = after_variable (states off) tables (record { name = 1; ty = 1; depth = 1; born = 21 }) literal []

-- The loop's part: while .. { v = ..; std::move(v); }
abbrev pub loop : Tree
loop = while 22 literal 23 (assign 24 (v 25) literal 1 tt (moving 26 (v 27) end)) end

pub loop-lacks : Keeps (states off) declared (exit (states off) tables (assign 24 (v 25) literal 1 tt (moving 26 (v 27) end)) 2 (evaluate (states off) tables literal declared)) → PlainBody off tables entry (body loop)
unfolding same_bytes starts_with first_from and_then or_else inside struct_named struct_shaped struct_of_generic struct_of_ty struct_of has_destructor should_auto_delete class_of_ty class_of modifier_in modifier_of is_consuming global_of count_width through auto is_temp_of is_move_of consumes global_in takes handed finish effects expr_stmt_effects take_over assign_effects assign_takes
loop-lacks k = (tt, (tt, (tt, k, tt)))

-- the second turn comes to the inserted delete of what it no longer holds
pub loop-breaks : Broken loop
unfolding same_bytes starts_with first_from and_then or_else inside struct_named struct_shaped struct_of_generic struct_of_ty struct_of has_destructor should_auto_delete class_of_ty class_of modifier_in modifier_of is_consuming global_of count_width through auto is_temp_of is_move_of consumes global_in takes handed finish effects expr_stmt_effects take_over assign_effects assign_takes
loop-breaks d = d.held_at_delete (true ∷ true ∷ []) _ _ _ _ _ _ _ (after-steps tables 14 (begin loop (true ∷ true ∷ [])))

-- A name registered while a frame holds it: let v: T again
abbrev pub twice : Tree
twice = variable false 22 1 1 literal end

pub twice-lacks : So (not (has 1 (shape declared))) → PlainBody off tables entry (body twice)
unfolding same_bytes starts_with first_from and_then or_else inside struct_named struct_shaped struct_of_generic struct_of_ty struct_of has_destructor should_auto_delete class_of_ty class_of modifier_in modifier_of is_consuming global_of count_width through auto is_temp_of is_move_of consumes global_in takes handed finish effects expr_stmt_effects take_over assign_effects assign_takes
twice-lacks k = (tt, (tt, (k, tt)))

-- K4: the second of two deletes of one name
pub twice-breaks : Broken twice
unfolding same_bytes starts_with first_from and_then or_else inside struct_named struct_shaped struct_of_generic struct_of_ty struct_of has_destructor should_auto_delete class_of_ty class_of modifier_in modifier_of is_consuming global_of count_width through auto is_temp_of is_move_of consumes global_in takes handed finish effects expr_stmt_effects take_over assign_effects assign_takes
twice-breaks d = d.held_at_delete [] _ _ _ _ _ _ _ (after-steps tables 4 (begin twice []))

-- A moment, if there is one, at which `v` is held
abbrev Holding : Option Moment → Type 0
Holding none = Unit {0}
Holding (some m) = So (holds 1 m.held)

-- an ended run stays ended
ended : (k : ℕ) (H : Stack Bool) (cs : List Bool) → Holding (moment (after tables k (at [] H cs)))
ended zero H cs = tt
ended (suc k) H cs = ended k H cs

-- if every run holds `v` at all its moments, none loses it
never-lost : (D : Decided) (m : Moment) → ((cs : List Bool) (k : ℕ) → Holding (moment (after tables k (start tables [] D cs)))) → Lost tables [] D m 1 → ⊥
never-lost D m f l =
    let x = steps-after tables l.reached.steps in
    let h = subst (λ (c : Config). Holding (moment c)) x.1 (f l.reached.choices x.0) in
    T_not (holds 1 l.there.held) l.not_held (subst Holding l.reached.stands h)

-- Break and Continue: if .. { break; std::move(v); }
abbrev pub leaves : Tree
leaves = if_then 22 literal 23 (jump false 24 tt (moving 25 (v 26) end)) end

-- without the Break it is plain
pub leaves-lacks : PlainBody off tables entry (body (if_then 22 literal 23 (moving 25 (v 26) end) end))
unfolding same_bytes starts_with first_from and_then or_else inside struct_named struct_shaped struct_of_generic struct_of_ty struct_of has_destructor should_auto_delete class_of_ty class_of modifier_in modifier_of is_consuming global_of count_width through auto is_temp_of is_move_of consumes global_in takes handed finish effects expr_stmt_effects take_over assign_effects assign_takes
leaves-lacks = (tt, (tt, (tt, tt)))

leaves-held : (cs : List Bool) (k : ℕ) → Holding (moment (after tables k (begin leaves cs)))
unfolding same_bytes starts_with first_from and_then or_else inside struct_named struct_shaped struct_of_generic struct_of_ty struct_of has_destructor should_auto_delete class_of_ty class_of modifier_in modifier_of is_consuming global_of count_width through auto is_temp_of is_move_of consumes global_in takes handed finish effects expr_stmt_effects take_over assign_effects assign_takes
leaves-held cs zero = tt
leaves-held cs (suc zero) = tt
leaves-held [] (suc (suc k)) = ended k _ []
leaves-held (true ∷ cs) (suc (suc zero)) = tt
leaves-held (true ∷ cs) (suc (suc (suc zero))) = tt
leaves-held (true ∷ cs) (suc (suc (suc (suc k)))) = ended k _ cs
leaves-held (false ∷ cs) (suc (suc zero)) = tt
leaves-held (false ∷ cs) (suc (suc (suc zero))) = tt
leaves-held (false ∷ cs) (suc (suc (suc (suc zero)))) = tt
leaves-held (false ∷ cs) (suc (suc (suc (suc (suc k))))) = ended k _ cs

-- `v` is passed over at the end, where every run holds it
pub leaves-breaks : Broken leaves
unfolding same_bytes starts_with first_from and_then or_else inside struct_named struct_shaped struct_of_generic struct_of_ty struct_of has_destructor should_auto_delete class_of_ty class_of modifier_in modifier_of is_consuming global_of count_width through auto is_temp_of is_move_of consumes global_in takes handed finish effects expr_stmt_effects take_over assign_effects assign_takes
leaves-breaks d =
    let c = begin leaves (false ∷ []) in
    let r : Reached tables [] (decided leaves) (record { path = _; place = _; drops = _; held = _ }) = record { choices = false ∷ []; config = after tables 2 c; steps = after-steps tables 2 c; stands = refl } in
    never-lost (decided leaves) _ leaves-held ((d.passed_over _ r 1 tt tt).0 tt)

-- A statement after what surely returns: if .. { return; std::move(v); }
abbrev pub late : Tree
late = if_then 22 literal 23 (bare_return 24 0 tt (moving 25 (v 26) end)) end

-- with nothing after the return it is plain
pub late-lacks : PlainBody off tables entry (body (if_then 22 literal 23 (bare_return 24 0 tt end) end))
unfolding same_bytes starts_with first_from and_then or_else inside struct_named struct_shaped struct_of_generic struct_of_ty struct_of has_destructor should_auto_delete class_of_ty class_of modifier_in modifier_of is_consuming global_of count_width through auto is_temp_of is_move_of consumes global_in takes handed finish effects expr_stmt_effects take_over assign_effects assign_takes
late-lacks = (tt, (tt, (tt, tt)))

late-held : (cs : List Bool) (k : ℕ) → Holding (moment (after tables k (begin late cs)))
unfolding same_bytes starts_with first_from and_then or_else inside struct_named struct_shaped struct_of_generic struct_of_ty struct_of has_destructor should_auto_delete class_of_ty class_of modifier_in modifier_of is_consuming global_of count_width through auto is_temp_of is_move_of consumes global_in takes handed finish effects expr_stmt_effects take_over assign_effects assign_takes
late-held cs zero = tt
late-held cs (suc zero) = tt
late-held [] (suc (suc k)) = ended k _ []
late-held (true ∷ cs) (suc (suc zero)) = tt
late-held (true ∷ cs) (suc (suc (suc zero))) = tt
late-held (true ∷ cs) (suc (suc (suc (suc zero)))) = tt
late-held (true ∷ cs) (suc (suc (suc (suc (suc k))))) = ended k _ cs
late-held (false ∷ cs) (suc (suc zero)) = tt
late-held (false ∷ cs) (suc (suc (suc zero))) = tt
late-held (false ∷ cs) (suc (suc (suc (suc zero)))) = tt
late-held (false ∷ cs) (suc (suc (suc (suc (suc k))))) = ended k _ cs

-- `v` is passed over at the end, where every run holds it
pub late-breaks : Broken late
unfolding same_bytes starts_with first_from and_then or_else inside struct_named struct_shaped struct_of_generic struct_of_ty struct_of has_destructor should_auto_delete class_of_ty class_of modifier_in modifier_of is_consuming global_of count_width through auto is_temp_of is_move_of consumes global_in takes handed finish effects expr_stmt_effects take_over assign_effects assign_takes
late-breaks d =
    let c = begin late (false ∷ []) in
    let r : Reached tables [] (decided late) (record { path = _; place = _; drops = _; held = _ }) = record { choices = false ∷ []; config = after tables 2 c; steps = after-steps tables 2 c; stands = refl } in
    never-lost (decided late) _ late-held ((d.passed_over _ r 1 tt tt).0 tt)
