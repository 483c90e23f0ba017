-- A plain body whose loop revives, with a branch that moves, a return in a branch, a `__tmp` handed over and `this` consumed: what the
-- pass gives for it, and two runs of it. The premises of demand 3 are met, and a local is passed over. So too at a bare return and, for
-- parameters, at the body's end. And runs that leave a value behind with a switch off and not with it on.
-- Assumes nothing.
use Rattle.std.proofs.Common.{◌≡◌, ℕ, Bool, true, false, List, [], ◌∷◌, refl}
use mathlib.Core.Option.{some}
use Rattle.tables.specs.Name.{same_bytes, starts_with}
use Rattle.tables.specs.Signature.{Entry}
use Rattle.tables_lookup.specs.First.{first_from, and_then, or_else}
use Rattle.tables_lookup.specs.Ty.{inside, struct_named, struct_shaped, struct_of_generic, struct_of_ty, struct_of, has_destructor, should_auto_delete, class_of_ty, class_of}
use Rattle.tables_lookup.specs.Signature.{modifier_in, modifier_of, is_consuming, global_of}
use Rattle.image_body.specs.Expr.{Expr, count_width, through, none}
use Rattle.image_body.specs.Stmt.{Tree, Block, variable, assign, return, bare_return, block, if_else, if_then, while, jump, expr_stmt}
use Rattle.rules.proofs.Nodes.{one, ident, literal, call, field, moving, deletion, end, tables, param}
use Rattle.rules.specs.Expr.{called}
use Rattle.rules.specs.Questions.{auto, is_temp_of, is_move_of, consumes, global_in}
use Rattle.rules.specs.Stack.{Local, local}
use Rattle.rules.specs.Effects.{takes, handed, finish, effects, expr_stmt_effects, take_over, assign_effects, assign_takes}
use Rattle.rules.specs.Rules.{drop_of, locals_of, PlainBody, decide_body, at_end, at_return, at_assign, off, concerns, Switches, switches_of, at_bare_return, Decided}
use Rattle.rules.specs.Report.{flatten}
use Rattle.rules.specs.Run.{Moment, Reached, start, next, into, Demand3, moment, at}
use Rattle.rules.proofs.Count.{after, after-steps}
use Rattle.rules.proofs.Project.{demand3}
use Rattle.rules.proofs.Settings.{plain-settings}

-- a consuming method of T
abbrev pub consuming : Entry
consuming = record { receiver = 4; this = 1; params = [] }

abbrev v : ℕ → Expr
v s = ident s 1 1

-- what comes after the two ifs, up to a block's end: let __tmp: T = ..; f(__tmp); this.take();
abbrev last : Tree → Tree
last c =
    variable false 38 6 1 literal (expr_stmt 40 (call 41 0 literal (one (ident 42 1 6))) tt
    (expr_stmt 43 (call 44 0 (field 45 (ident 46 1 0) 7) none) tt c))

-- let v: T = ..; let w: T = ..; and the rest
abbrev first : Tree → Tree
first c = variable false 21 1 1 literal (variable false 22 2 1 literal c)

-- while .. { std::move(v); v = ..; } and the rest
abbrev loop : Tree → Tree
loop c = while 23 literal 24 (moving 25 (v 26) (assign 27 (v 28) literal 1 tt end)) c

-- if .. { std::move(v); } and the rest
abbrev branch : Tree → Tree
branch c = if_then 30 literal 31 (moving 32 (v 33) end) c

abbrev return_w : Tree
return_w = return 36 (ident 37 1 2) 1 tt end

abbrev pub body : Block
body = record { span = 10; code = first (loop (branch (if_then 34 literal 35 return_w (last end)))) }

-- `this` is deleted at the return, `w` at the end; `v`, moved by some runs, at neither
pub example-returned : flatten (decide_body off tables consuming body) ≡ first (loop (branch (if_then 34 literal 35 (deletion 0 0 return_w) (last (deletion 10 2 end)))))
unfolding same_bytes starts_with first_from and_then or_else inside struct_named struct_shaped struct_of_generic struct_of_ty struct_of has_destructor should_auto_delete class_of_ty class_of modifier_in modifier_of is_consuming global_of count_width through auto is_temp_of is_move_of consumes global_in takes handed finish effects expr_stmt_effects take_over assign_effects assign_takes
example-returned = refl

pub example-plain : PlainBody off tables consuming body
unfolding same_bytes starts_with first_from and_then or_else inside struct_named struct_shaped struct_of_generic struct_of_ty struct_of has_destructor should_auto_delete class_of_ty class_of modifier_in modifier_of is_consuming global_of count_width through auto is_temp_of is_move_of consumes global_in takes handed finish effects expr_stmt_effects take_over assign_effects assign_takes
example-plain = ((tt, tt), (tt, (tt, (tt, ((λ x. x), ((λ x. x), ((λ x. x), tt))), (tt, (tt, (tt, tt)))))))

pub example-demand : Demand3 (concerns off) tables (locals_of consuming) (decide_body off tables consuming body)
example-demand = demand3 off tables consuming body example-plain

-- name, depth, birth, and whether it is held
abbrev known : ℕ → ℕ → ℕ → Bool → Local Bool
known n d s b = local (record { name = n; ty = 1; depth = d; born = s }) b

-- the body's end, `v` held or not: `__tmp` and `this` are given up, `w` is held and deleted
abbrev pub at_its_end : Bool → Moment
at_its_end b = record {
  path = next ∷ next ∷ next ∷ next ∷ next ∷ next ∷ next ∷ next ∷ [];
  place = at_end 1;
  drops = drop_of 10 2 1 ∷ [];
  held = known 6 1 38 false ∷ known 2 1 22 true ∷ known 1 1 21 b ∷ known 0 0 0 false ∷ [];
}

-- past the loop and both ifs: `v` is held at the end
pub example-kept : Reached tables (locals_of consuming) (decide_body off tables consuming body) (at_its_end true)
unfolding same_bytes starts_with first_from and_then or_else inside struct_named struct_shaped struct_of_generic struct_of_ty struct_of has_destructor should_auto_delete class_of_ty class_of modifier_in modifier_of is_consuming global_of count_width through auto is_temp_of is_move_of consumes global_in takes handed finish effects expr_stmt_effects take_over assign_effects assign_takes
example-kept =
    let choices : List Bool = false ∷ false ∷ false ∷ [] in
    let c = start tables (locals_of consuming) (decide_body off tables consuming body) choices in
    record { choices = choices; config = after tables 8 c; steps = after-steps tables 8 c; stands = refl }

-- once through the loop, then into the branch that moves: `v` is not held at the end
pub example-lost : Reached tables (locals_of consuming) (decide_body off tables consuming body) (at_its_end false)
unfolding same_bytes starts_with first_from and_then or_else inside struct_named struct_shaped struct_of_generic struct_of_ty struct_of has_destructor should_auto_delete class_of_ty class_of modifier_in modifier_of is_consuming global_of count_width through auto is_temp_of is_move_of consumes global_in takes handed finish effects expr_stmt_effects take_over assign_effects assign_takes
example-lost =
    let choices : List Bool = true ∷ false ∷ true ∷ false ∷ [] in
    let c = start tables (locals_of consuming) (decide_body off tables consuming body) choices in
    record { choices = choices; config = after tables 21 c; steps = after-steps tables 21 c; stands = refl }

-- the return in the branch, `v` held or not: `this` is held and deleted, `v` passed over, the returned `w` not concerned
abbrev pub at_its_return : Bool → Moment
at_its_return b = record {
  path = next ∷ next ∷ next ∷ next ∷ into ∷ [];
  place = at_return (called 2 37);
  drops = drop_of 0 0 1 ∷ [];
  held = known 2 1 22 true ∷ known 1 1 21 b ∷ known 0 0 0 true ∷ [];
}

pub return_kept : Reached tables (locals_of consuming) (decide_body off tables consuming body) (at_its_return true)
unfolding same_bytes starts_with first_from and_then or_else inside struct_named struct_shaped struct_of_generic struct_of_ty struct_of has_destructor should_auto_delete class_of_ty class_of modifier_in modifier_of is_consuming global_of count_width through auto is_temp_of is_move_of consumes global_in takes handed finish effects expr_stmt_effects take_over assign_effects assign_takes
return_kept =
    let choices : List Bool = false ∷ false ∷ true ∷ [] in
    let c = start tables (locals_of consuming) (decide_body off tables consuming body) choices in
    record { choices = choices; config = after tables 6 c; steps = after-steps tables 6 c; stands = refl }

pub return-lost : Reached tables (locals_of consuming) (decide_body off tables consuming body) (at_its_return false)
unfolding same_bytes starts_with first_from and_then or_else inside struct_named struct_shaped struct_of_generic struct_of_ty struct_of has_destructor should_auto_delete class_of_ty class_of modifier_in modifier_of is_consuming global_of count_width through auto is_temp_of is_move_of consumes global_in takes handed finish effects expr_stmt_effects take_over assign_effects assign_takes
return-lost =
    let choices : List Bool = false ∷ true ∷ true ∷ [] in
    let c = start tables (locals_of consuming) (decide_body off tables consuming body) choices in
    record { choices = choices; config = after tables 10 c; steps = after-steps tables 10 c; stands = refl }

-- Assignments: let v, w: T; if .. { std::move(v); } else {} { v = ..; w = ..; }
abbrev pub plain_entry : Entry
plain_entry = record { receiver = 0; this = 0; params = [] }

abbrev pub assigns : Block
assigns = record {
  span = 10;
  code =
      first (if_else 30 literal 31 (moving 32 (v 33) end) 34 end
      (block 35 (assign 36 (v 37) literal 1 tt (assign 38 (ident 39 1 2) literal 1 tt end)) end));
}

pub assigns-plain : PlainBody off tables plain_entry assigns
unfolding same_bytes starts_with first_from and_then or_else inside struct_named struct_shaped struct_of_generic struct_of_ty struct_of has_destructor should_auto_delete class_of_ty class_of modifier_in modifier_of is_consuming global_of count_width through auto is_temp_of is_move_of consumes global_in takes handed finish effects expr_stmt_effects take_over assign_effects assign_takes
assigns-plain = (tt, (tt, (tt, (tt, tt, (λ x. absurd x), (tt, (λ x. tt), tt)))))

-- where `v` is assigned it is passed over, held or not; where `w` is assigned it is held and deleted
abbrev pub at_assignment : Bool → Moment
at_assignment b = record {
  path = next ∷ next ∷ next ∷ into ∷ [];
  place = at_assign (called 1 37);
  drops = [];
  held = known 2 1 22 true ∷ known 1 1 21 b ∷ [];
}

abbrev pub at_second : Moment
at_second = record {
  path = next ∷ next ∷ next ∷ into ∷ next ∷ [];
  place = at_assign (called 2 39);
  drops = drop_of 38 2 1 ∷ [];
  held = known 2 1 22 true ∷ known 1 1 21 true ∷ [];
}

pub assign-kept : Reached tables [] (decide_body off tables plain_entry assigns) (at_assignment true)
unfolding same_bytes starts_with first_from and_then or_else inside struct_named struct_shaped struct_of_generic struct_of_ty struct_of has_destructor should_auto_delete class_of_ty class_of modifier_in modifier_of is_consuming global_of count_width through auto is_temp_of is_move_of consumes global_in takes handed finish effects expr_stmt_effects take_over assign_effects assign_takes
assign-kept =
    let choices : List Bool = false ∷ [] in
    let c = start tables [] (decide_body off tables plain_entry assigns) choices in
    record { choices = choices; config = after tables 8 c; steps = after-steps tables 8 c; stands = refl }

pub assign-lost : Reached tables [] (decide_body off tables plain_entry assigns) (at_assignment false)
unfolding same_bytes starts_with first_from and_then or_else inside struct_named struct_shaped struct_of_generic struct_of_ty struct_of has_destructor should_auto_delete class_of_ty class_of modifier_in modifier_of is_consuming global_of count_width through auto is_temp_of is_move_of consumes global_in takes handed finish effects expr_stmt_effects take_over assign_effects assign_takes
assign-lost =
    let choices : List Bool = true ∷ [] in
    let c = start tables [] (decide_body off tables plain_entry assigns) choices in
    record { choices = choices; config = after tables 9 c; steps = after-steps tables 9 c; stands = refl }

pub assign-deletes : Reached tables [] (decide_body off tables plain_entry assigns) at_second
unfolding same_bytes starts_with first_from and_then or_else inside struct_named struct_shaped struct_of_generic struct_of_ty struct_of has_destructor should_auto_delete class_of_ty class_of modifier_in modifier_of is_consuming global_of count_width through auto is_temp_of is_move_of consumes global_in takes handed finish effects expr_stmt_effects take_over assign_effects assign_takes
assign-deletes =
    let choices : List Bool = false ∷ [] in
    let c = start tables [] (decide_body off tables plain_entry assigns) choices in
    record { choices = choices; config = after tables 12 c; steps = after-steps tables 12 c; stands = refl }

-- Under switches 1 and 4 (02, e), v and w parameters: if .. { std::move(v); } if .. { return; }
abbrev pub two_params : Entry
two_params = record { receiver = 0; this = 0; params = param 1 ∷ param 2 ∷ [] }

abbrev pub leaving : Block
leaving = record { span = 10; code = branch (if_then 34 literal 35 (bare_return 36 0 tt end) end) }

abbrev leaving_decided : Decided
leaving_decided = decide_body (switches_of 9) tables two_params leaving

pub leaving-plain : PlainBody off tables two_params leaving
unfolding same_bytes starts_with first_from and_then or_else inside struct_named struct_shaped struct_of_generic struct_of_ty struct_of has_destructor should_auto_delete class_of_ty class_of modifier_in modifier_of is_consuming global_of count_width through auto is_temp_of is_move_of consumes global_in takes handed finish effects expr_stmt_effects take_over assign_effects assign_takes
leaving-plain = ((tt, (tt, tt)), (tt, (tt, tt)))

-- it is plain under every setting, so demand 3 holds under every setting
pub leaving-demand : (w : Switches) → Demand3 (concerns w) tables (locals_of two_params) (decide_body w tables two_params leaving)
leaving-demand w = demand3 w tables two_params leaving (plain-settings off w tables two_params leaving leaving-plain)

-- the bare return and the body's end, `v` held or not: `w` is held and deleted, `v` passed over
abbrev pub at_its_bare_return : Bool → Moment
at_its_bare_return b = record { path = next ∷ into ∷ []; place = at_bare_return; drops = drop_of 0 2 1 ∷ []; held = known 2 0 0 true ∷ known 1 0 0 b ∷ [] }

abbrev pub at_its_last : Bool → Moment
at_its_last b = record { path = next ∷ next ∷ []; place = at_end 1; drops = drop_of 10 2 1 ∷ []; held = known 2 0 0 true ∷ known 1 0 0 b ∷ [] }

abbrev runs : List Bool → ℕ → Moment → Type 0
runs choices k m = moment (after tables k (start tables (locals_of two_params) leaving_decided choices)) ≡ some m

leaving-runs : runs (false ∷ true ∷ []) 3 (at_its_bare_return true) × runs (true ∷ true ∷ []) 7 (at_its_bare_return false)
    × runs (false ∷ false ∷ []) 2 (at_its_last true) × runs (true ∷ false ∷ []) 6 (at_its_last false)
unfolding same_bytes starts_with first_from and_then or_else inside struct_named struct_shaped struct_of_generic struct_of_ty struct_of has_destructor should_auto_delete class_of_ty class_of modifier_in modifier_of is_consuming global_of count_width through auto is_temp_of is_move_of consumes global_in takes handed finish effects expr_stmt_effects take_over assign_effects assign_takes
leaving-runs = (refl, refl, refl, refl)

reached : (choices : List Bool) (k : ℕ) (m : Moment) → runs choices k m → Reached tables (locals_of two_params) leaving_decided m
reached choices k m e = let c = start tables (locals_of two_params) leaving_decided choices in record { choices = choices; config = after tables k c; steps = after-steps tables k c; stands = e }

pub leaving-reached : Reached tables (locals_of two_params) leaving_decided (at_its_bare_return true) × Reached tables (locals_of two_params) leaving_decided (at_its_bare_return false)
    × Reached tables (locals_of two_params) leaving_decided (at_its_last true) × Reached tables (locals_of two_params) leaving_decided (at_its_last false)
leaving-reached = (
  reached (false ∷ true ∷ []) 3 (at_its_bare_return true) leaving-runs.0,
  reached (true ∷ true ∷ []) 7 (at_its_bare_return false) leaving-runs.1,
  reached (false ∷ false ∷ []) 2 (at_its_last true) leaving-runs.2,
  reached (true ∷ false ∷ []) 6 (at_its_last false) leaving-runs.3,
)

-- Switches 1, 2 and 4 each close a leak: a run to its end that holds `v` there with the switch off, and no more with it on
abbrev pub ends : Switches → Entry → Tree → List Bool → Local Bool → Type 0
ends w x c choices l = after tables 12 (start tables (locals_of x) (decide_body w tables x (record { span = 10; code = c })) choices) ≡ at [] (l ∷ []) []

abbrev pub no_params : Entry
no_params = record { receiver = 0; this = 0; params = [] }

abbrev pub one_param : Entry
one_param = record { receiver = 0; this = 0; params = param 1 ∷ [] }

-- let v: T = ..; return;
abbrev pub returning : Tree
returning = variable false 21 1 1 literal (bare_return 22 0 tt end)

-- while .. { let v: T = ..; break; }, into the loop
abbrev pub breaking : Tree
breaking = while 20 literal 21 (variable false 22 1 1 literal (jump false 23 tt end)) end

pub leaks-closed : (ends off no_params returning [] (known 1 1 21 true) × ends (switches_of 1) no_params returning [] (known 1 1 21 false))
    × (ends off no_params breaking (true ∷ []) (known 1 2 22 true) × ends (switches_of 2) no_params breaking (true ∷ []) (known 1 2 22 false))
    × (ends off one_param end [] (known 1 0 0 true) × ends (switches_of 8) one_param end [] (known 1 0 0 false))
unfolding same_bytes starts_with first_from and_then or_else inside struct_named struct_shaped struct_of_generic struct_of_ty struct_of has_destructor should_auto_delete class_of_ty class_of modifier_in modifier_of is_consuming global_of count_width through auto is_temp_of is_move_of consumes global_in takes handed finish effects expr_stmt_effects take_over assign_effects assign_takes
leaks-closed = ((refl, refl), (refl, refl), (refl, refl))
