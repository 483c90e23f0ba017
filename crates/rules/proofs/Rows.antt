-- K1 to K12 of document 01, what a Break or Continue leaves behind (02, c), births (02, d) and switches (02, e), as rows of tables: a body,
-- and what the pass gives for it.
-- Assumes nothing.
use Rattle.std.proofs.Common.{◌≡◌, ℕ, true, false, List, [], ◌∷◌, map, refl}
use mathlib.Core.Option.{Option}
use Rattle.image_fields.specs.Table.{member}
use Rattle.tables.specs.Name.{same_bytes, starts_with}
use Rattle.tables.specs.Signature.{Param}
use Rattle.tables_lookup.specs.First.{first_from, and_then, or_else}
use Rattle.tables_lookup.specs.Ty.{inside, struct_named, struct_shaped, struct_of_generic, struct_of_ty, struct_of, has_destructor, should_auto_delete, class_of_ty, class_of}
use Rattle.tables_lookup.specs.Signature.{modifier_in, modifier_of, is_consuming, global_of}
use Rattle.image_body.specs.Expr.{Expr, none, more, count_width, through}
use Rattle.image_body.specs.Stmt.{Tree, expr_stmt, variable, assign, return, bare_return, block, if_else, if_then, while, jump}
use Rattle.rules.proofs.Nodes.{node_of, one, move, ident, this, literal, unary, call, field, delete, moving, deletion, end, tables, param}
use Rattle.rules.specs.Questions.{auto, is_temp_of, is_move_of, consumes, global_in}
use Rattle.rules.specs.Expr.{callee_at}
use Rattle.rules.specs.Stack.{local, Stack}
use Rattle.rules.specs.State.{State, alive, gone, deleted, moved, consumed}
use Rattle.rules.specs.Effects.{takes, handed, finish, effects, expr_stmt_effects, take_over, assign_effects, assign_takes}
use Rattle.rules.specs.Rules.{states, entered, exit, decide_in, Switches, off, switches_of, concerns}
use Rattle.rules.specs.Report.{Report, error, warning, left, flatten, report}

-- the switches, the parameters, all of type T, and the body's statements (block span 10, first statement at 100); the returned
-- statements, what is reported, and the parameters' states after the body, last parameter first
pub record Row : Type 0 where
  pub switches : Switches
  pub params : List Param
  pub body : Tree
  pub returned : Tree
  pub reports : List Report
  pub after : List State

abbrev pub under : Switches → List Param → Tree → Tree → List Report → List State → Row
under w ps c c' rs σ = record { switches = w; params = ps; body = c; returned = c'; reports = rs; after = σ }

-- all switches off
abbrev pub row : List Param → Tree → Tree → List Report → List State → Row
row ps c c' rs σ = under off ps c c' rs σ

abbrev pub states_of : Stack State → List State
states_of [] = []
states_of (local s a ∷ σ) = a ∷ states_of σ

-- a row with what the pass gives
abbrev pub answer : Row → Row
answer r =
    let w = r.switches in
    under w r.params r.body (flatten (decide_in (states w) tables (concerns w) r.params 10 r.body))
    (report w tables r.body 1 Option.none 100 (entered (states w) tables r.params []))
    (states_of (exit (states w) tables r.body 1 (entered (states w) tables r.params [])))

abbrev v : ℕ → Expr
v s = ident s 1 1

-- a body that comes back as it is
abbrev as_is : List Param → Tree → List Report → List State → Row
as_is ps c rs σ = row ps c c rs σ

abbrev pub corners : List Row
corners =
    -- K1: no delete, `v` left behind
    as_is (param 1 ∷ []) (bare_return 20 0 tt end) (left 20 1 0 ∷ []) (alive ∷ [])
    -- K2: parameters are not of the body's frame
    ∷ as_is (param 1 ∷ []) end [] (alive ∷ [])
    -- K3: `w` is deleted before the return, with span 0
    ∷ row [] (variable false 21 1 1 literal (variable false 22 2 1 literal (return 23 (v 24) 1 tt end)))
    (variable false 21 1 1 literal (variable false 22 2 1 literal (deletion 0 2 (return 23 (v 24) 1 tt end)))) [] []
    -- K3: locals named `v` of every frame are passed over
    ∷ as_is (param 1 ∷ []) (variable false 21 1 1 literal (return 23 (v 24) 1 tt end)) [] (alive ∷ [])
    -- K4: one state, two locals, two deletes
    ∷ row [] (variable false 21 1 1 literal (variable false 22 1 1 literal end))
    (variable false 21 1 1 literal (variable false 22 1 1 literal (deletion 10 1 (deletion 10 1 end)))) [] []
    ∷ as_is [] (variable false 21 1 1 literal (variable false 22 1 1 literal (moving 23 (v 24) end))) [] []
    -- K5: ConditionallyMoved [26] and ConditionallyMoved [31] join to Moved [26, 31]
    ∷ as_is (param 1 ∷ [])
    (if_else 21 literal 22 (if_then 23 literal 24 (moving 25 (v 26) end) end) 27 (if_then 28 literal 29 (moving 30 (v 31) end) end) end)
    [] (gone false moved (26 ∷ 31 ∷ []) ∷ [])
    -- K5: two equal states
    ∷ as_is (param 1 ∷ []) (if_else 21 literal 22 (moving 25 (v 26) end) 27 (moving 25 (v 26) end) end) [] (gone false moved (26 ∷ []) ∷ [])
    -- K6: both branches return
    ∷ as_is (param 1 ∷ []) (if_else 21 literal 22 (moving 25 (v 26) (bare_return 27 0 tt end)) 28 (bare_return 29 0 tt end) end) (left 29 1 0 ∷ []) (alive ∷ [])
    -- K6: what stays is the state after the condition
    ∷ as_is (param 1 ∷ []) (if_else 21 (move 40 (one (v 41))) 22 (assign 42 (v 43) literal 1 tt (bare_return 27 0 tt end)) 28 (bare_return 29 0 tt end) end)
    (error 2 43 0 (41 ∷ []) ∷ left 27 1 0 ∷ []) (gone false moved (41 ∷ []) ∷ [])
    -- K7: a loop joins, even if its body returns
    ∷ as_is (param 1 ∷ []) (while 21 literal 22 (moving 25 (v 26) end) end) [] (gone true moved (26 ∷ []) ∷ [])
    ∷ as_is (param 1 ∷ []) (while 21 literal 22 (moving 25 (v 26) (bare_return 27 0 tt end)) end) [] (gone true moved (26 ∷ []) ∷ [])
    -- K8: delete `v`, then the assignment; Alive after
    ∷ row (param 1 ∷ []) (assign 21 (v 22) (v 23) 1 tt end) (deletion 21 1 (assign 21 (v 22) (v 23) 1 tt end)) [] (alive ∷ [])
    -- K9: std::move(&v)
    ∷ as_is (param 1 ∷ []) (moving 21 (unary 22 0 3 (v 23)) end) (error 7 22 1 [] ∷ []) (alive ∷ [])
    -- K10: `g` is a local and a global
    ∷ as_is (param 5 ∷ []) (moving 21 (ident 22 1 5) end) (error 8 22 0 (99 ∷ []) ∷ []) (alive ∷ [])
    -- K11: a Moved name moved again
    ∷ as_is (param 1 ∷ []) (moving 21 (v 22) (moving 23 (v 24) end)) (error 2 24 0 (22 ∷ []) ∷ []) (gone false moved (24 ∷ []) ∷ [])
    -- K12: let w = delete v
    ∷ as_is (param 1 ∷ []) (variable false 21 2 0 (delete 22 (v 23)) end) [] (alive ∷ [])
    ∷ []

pub k1-to-k12 : map answer corners ≡ corners
unfolding member same_bytes starts_with first_from and_then or_else inside struct_named struct_shaped struct_of_generic struct_of_ty struct_of has_destructor should_auto_delete class_of_ty class_of modifier_in modifier_of is_consuming global_of count_width through auto is_temp_of is_move_of consumes global_in takes handed finish effects expr_stmt_effects take_over assign_effects assign_takes
k1-to-k12 = refl

-- document 01's "Mistakes to shut out", as far as a body shows them: what a return's value moves is not deleted before it; then's
-- places, then else's new ones
abbrev pub mistakes : List Row
mistakes =
    as_is [] (variable false 21 1 1 literal (return 23 (move 24 (one (v 25))) 1 tt end)) [] []
    ∷ as_is (param 1 ∷ [])
    (if_else 21 literal 22 (if_else 23 literal 24 (moving 25 (v 31) end) 26 (moving 27 (v 32) end) end) 28
    (if_else 33 literal 34 (moving 35 (v 32) end) 36 (moving 37 (v 30) end) end) end)
    [] (gone false moved (31 ∷ 32 ∷ 30 ∷ []) ∷ [])
    ∷ []

pub mistakes-shut-out : map answer mistakes ≡ mistakes
unfolding member same_bytes starts_with first_from and_then or_else inside struct_named struct_shaped struct_of_generic struct_of_ty struct_of has_destructor should_auto_delete class_of_ty class_of modifier_in modifier_of is_consuming global_of count_width through auto is_temp_of is_move_of consumes global_in takes handed finish effects expr_stmt_effects take_over assign_effects assign_takes
mistakes-shut-out = refl

abbrev w : ℕ → Expr
w s = ident s 1 2

abbrev tmp : ℕ → Expr
tmp s = ident s 1 6

-- a use, `delete v;` with the Ident's span, and `v.take();` with the field access's
abbrev stmt : ℕ → Expr → Tree → Tree
stmt s e c = expr_stmt s e tt c

abbrev deletes : ℕ → Tree → Tree
deletes s c = expr_stmt 1 (delete 2 (v s)) tt c

abbrev takes_it : ℕ → Tree → Tree
takes_it s c = expr_stmt 1 (call 2 0 (field s (v 3) 7) none) tt c

-- other corners of mod.rs, expr.rs and stmt.rs
abbrev pub further : List Row
further =
    -- an unused result, looked through; the type test reads the outer node, the place is the callee's in the image
    row [] (stmt 21 (unary 22 1 0 (call 23 0 literal none)) end) (stmt 21 (delete 21 (unary 22 1 0 (call 23 0 literal none))) end) (warning 21 120 ∷ []) []
    ∷ as_is [] (stmt 21 (unary 22 0 0 (call 23 1 literal none)) end) [] []
    ∷ as_is (param 1 ∷ []) (stmt 21 (v 22) end) [] (alive ∷ [])
    -- after a final break the block's deletes still follow
    ∷ row [] (variable false 21 1 1 literal (jump false 22 tt end)) (variable false 21 1 1 literal (jump false 22 tt (deletion 10 1 end))) [] []
    -- let w: T = __tmp takes the temporary over: Deleted, whatever its state
    ∷ row (param 6 ∷ []) (variable false 21 2 1 (tmp 22) (stmt 23 (tmp 24) end)) (variable false 21 2 1 (tmp 22) (stmt 23 (tmp 24) (deletion 10 2 end)))
    (error 1 24 0 (22 ∷ []) ∷ []) (gone false deleted (22 ∷ []) ∷ [])
    -- not one of another type, nor into a temporary
    ∷ as_is (param 6 ∷ []) (variable false 21 2 2 (tmp 22) end) [] (alive ∷ [])
    -- v = __tmp: the delete of `v`, then it is alive and the temporary taken over
    ∷ row (param 6 ∷ param 1 ∷ []) (assign 21 (v 22) (tmp 23) 1 tt end) (deletion 21 1 (assign 21 (v 22) (tmp 23) 1 tt end)) [] (alive ∷ gone false deleted (23 ∷ []) ∷ [])
    -- the destination is a use; an assignment through ThisLiteral deletes nothing and revives `this`
    ∷ as_is (param 0 ∷ []) (moving 21 (this 22) (assign 23 (this 24) literal 1 tt end)) (error 2 24 0 (22 ∷ []) ∷ []) (alive ∷ [])
    ∷ as_is (param 0 ∷ []) (assign 23 (this 24) literal 1 tt end) [] (alive ∷ [])
    -- and through an Ident named `this` it deletes
    ∷ row (param 0 ∷ []) (assign 23 (ident 24 1 0) literal 1 tt end) (deletion 23 0 (assign 23 (ident 24 1 0) literal 1 tt end)) [] (alive ∷ [])
    -- a temporary handed over twice: moved by the first
    ∷ as_is (param 6 ∷ []) (stmt 21 (call 22 0 literal (more (tmp 23) (one (tmp 24)))) end) (error 2 24 0 (23 ∷ []) ∷ []) (gone false moved (23 ∷ []) ∷ [])
    -- v.take(): consumed at the field access
    ∷ as_is (param 1 ∷ []) (takes_it 21 (stmt 22 (v 23) end)) (error 3 23 0 (21 ∷ []) ∷ []) (gone false consumed (21 ∷ []) ∷ [])
    -- deleted, moved or consumed in a branch: the first place, or all
    ∷ as_is (param 1 ∷ []) (if_then 21 literal 22 (deletes 23 end) (stmt 24 (v 25) end)) (error 4 25 0 (23 ∷ []) ∷ []) (gone true deleted (23 ∷ []) ∷ [])
    ∷ as_is (param 1 ∷ []) (if_then 21 literal 22 (moving 23 (v 23) end) (stmt 24 (v 25) end)) (error 5 25 0 (23 ∷ []) ∷ []) (gone true moved (23 ∷ []) ∷ [])
    ∷ as_is (param 1 ∷ []) (if_then 21 literal 22 (takes_it 23 end) (stmt 24 (v 25) end)) (error 6 25 0 (23 ∷ []) ∷ []) (gone true consumed (23 ∷ []) ∷ [])
    -- two families join to Consumed, one to itself; then's place first
    ∷ as_is (param 1 ∷ []) (if_else 21 literal 22 (deletes 26 end) 24 (moving 25 (v 23) end) (stmt 27 (v 28) end)) (error 3 28 0 (26 ∷ 23 ∷ []) ∷ []) (gone false consumed (26 ∷ 23 ∷ []) ∷ [])
    ∷ as_is (param 1 ∷ []) (if_else 21 literal 22 (deletes 26 end) 24 (deletes 23 end) (stmt 27 (v 28) end)) (error 1 28 0 (26 ∷ []) ∷ []) (gone false deleted (26 ∷ 23 ∷ []) ∷ [])
    -- a branch that returns is not joined
    ∷ as_is (param 1 ∷ []) (if_then 21 literal 22 (moving 23 (v 24) (bare_return 25 0 tt end)) end) [] (alive ∷ [])
    ∷ as_is (param 1 ∷ []) (if_else 21 literal 22 (bare_return 25 0 tt end) 23 (moving 24 (v 26) end) end) (left 25 1 0 ∷ []) (gone false moved (26 ∷ []) ∷ [])
    -- the innermost frame that has the name is marked; a block's end deletes its own frame, with its span
    ∷ as_is (param 1 ∷ []) (block 21 (variable false 22 1 1 literal (moving 23 (v 24) end)) end) [] (alive ∷ [])
    ∷ row (param 1 ∷ []) (block 21 (variable false 22 1 1 literal end) end) (block 21 (variable false 22 1 1 literal (deletion 21 1 end)) end) [] (alive ∷ [])
    -- an assignment tests the type of the newest local, the block's end each local's own
    ∷ row [] (variable false 21 1 1 literal (variable false 22 1 0 literal (assign 23 (v 24) literal 1 tt end)))
    (variable false 21 1 1 literal (variable false 22 1 0 literal (assign 23 (v 24) literal 1 tt (deletion 10 1 end)))) [] []
    -- at a return the newest goes first; its moves are marked before; `this` is excluded by ThisLiteral
    ∷ row (param 1 ∷ param 2 ∷ []) (return 21 literal 0 tt end) (deletion 0 2 (deletion 0 1 (return 21 literal 0 tt end))) [] (alive ∷ alive ∷ [])
    ∷ as_is (param 1 ∷ []) (return 21 (node_of 14 22 0 4 none (one (v 23))) 0 tt end) [] (gone false moved (23 ∷ []) ∷ [])
    ∷ row (param 0 ∷ param 1 ∷ []) (return 21 (this 22) 1 tt end) (deletion 0 1 (return 21 (this 22) 1 tt end)) [] (alive ∷ alive ∷ [])
    -- what is left behind, newest first; code after a return is walked
    ∷ as_is (param 1 ∷ param 2 ∷ []) (bare_return 21 0 tt (bare_return 22 0 tt end)) (left 21 2 0 ∷ left 21 1 0 ∷ left 22 2 0 ∷ left 22 1 0 ∷ []) (alive ∷ alive ∷ [])
    ∷ []

pub other-corners : map answer further ≡ further
unfolding member same_bytes starts_with first_from and_then or_else inside struct_named struct_shaped struct_of_generic struct_of_ty struct_of has_destructor should_auto_delete class_of_ty class_of modifier_in modifier_of is_consuming global_of count_width through auto is_temp_of is_move_of consumes global_in takes handed finish effects expr_stmt_effects take_over assign_effects assign_takes callee_at
other-corners = refl

-- let n: T
abbrev new : ℕ → ℕ → Tree → Tree
new s n c = variable false s n 1 literal c

-- What a Break or Continue leaves behind (02, c)
abbrev pub leaving : List Row
leaving =
    -- outside any loop nothing, though a bare return would leave `v` behind
    row (param 2 ∷ []) (new 21 1 (jump false 22 tt (jump true 23 tt end))) (new 21 1 (jump false 22 tt (jump true 23 tt (deletion 10 1 end)))) [] (alive ∷ [])
    -- in a loop the loop's body and what is inside it, newest first; neither the frames outside nor a closed block's
    ∷ row (param 2 ∷ []) (while 20 literal 21 (new 22 1 (block 23 (new 24 5 (if_then 25 literal 26 (jump false 27 tt end) end)) (jump true 28 tt end))) end)
    (while 20 literal 21 (new 22 1 (block 23 (new 24 5 (if_then 25 literal 26 (jump false 27 tt end) (deletion 23 5 end))) (jump true 28 tt (deletion 21 1 end)))) end)
    (left 27 5 24 ∷ left 27 1 22 ∷ left 28 1 22 ∷ []) (alive ∷ [])
    -- the nearest loop; behind it the outer one again
    ∷ row [] (while 20 literal 21 (new 22 1 (while 23 literal 24 (new 25 2 (jump true 26 tt end)) (jump false 27 tt end))) end)
    (while 20 literal 21 (new 22 1 (while 23 literal 24 (new 25 2 (jump true 26 tt (deletion 24 2 end))) (jump false 27 tt (deletion 21 1 end)))) end)
    (left 26 2 25 ∷ left 27 1 22 ∷ []) []
    -- each branch has its own
    ∷ row [] (while 20 literal 21 (new 22 1 (if_else 23 literal 24 (jump false 25 tt end) 26 (new 27 2 (jump true 28 tt end)) end)) end)
    (while 20 literal 21 (new 22 1 (if_else 23 literal 24 (jump false 25 tt end) 26 (new 27 2 (jump true 28 tt (deletion 26 2 end))) (deletion 21 1 end))) end)
    (left 25 1 22 ∷ left 28 2 27 ∷ left 28 1 22 ∷ []) []
    -- what is Alive only; behind a closed loop nothing, though `w` is held there
    ∷ row [] (new 19 2 (while 20 literal 21 (new 22 1 (moving 23 (v 24) (jump false 25 tt end))) (jump false 26 tt end)))
    (new 19 2 (while 20 literal 21 (new 22 1 (moving 23 (v 24) (jump false 25 tt end))) (jump false 26 tt (deletion 10 2 end)))) [] []
    -- K4 in a loop: two locals of one name, revived, two entries
    ∷ row [] (while 20 literal 21 (new 22 1 (moving 23 (v 24) (new 25 1 (jump false 26 tt end)))) end)
    (while 20 literal 21 (new 22 1 (moving 23 (v 24) (new 25 1 (jump false 26 tt (deletion 21 1 (deletion 21 1 end)))))) end)
    (left 26 1 25 ∷ left 26 1 22 ∷ []) []
    -- each one that the walk comes to, among the entries of bare returns, also where no run comes
    ∷ row [] (while 20 literal 21 (new 22 1 (jump true 23 tt (bare_return 24 0 tt (jump false 25 tt end)))) end)
    (while 20 literal 21 (new 22 1 (jump true 23 tt (bare_return 24 0 tt (jump false 25 tt (deletion 21 1 end))))) end)
    (left 23 1 22 ∷ left 24 1 22 ∷ left 25 1 22 ∷ []) []
    ∷ []

pub left-by-jumps : map answer leaving ≡ leaving
unfolding member same_bytes starts_with first_from and_then or_else inside struct_named struct_shaped struct_of_generic struct_of_ty struct_of has_destructor should_auto_delete class_of_ty class_of modifier_in modifier_of is_consuming global_of count_width through auto is_temp_of is_move_of consumes global_in takes handed finish effects expr_stmt_effects take_over assign_effects assign_takes
left-by-jumps = refl

-- Where a local was born (02, d)
abbrev pub births : List Row
births =
    -- two locals of one name have each their own birth; a parameter's is 0
    as_is (param 1 ∷ []) (new 21 1 (new 22 1 (bare_return 23 0 tt end))) (left 23 1 22 ∷ left 23 1 21 ∷ left 23 1 0 ∷ []) (alive ∷ [])
    -- branches, joins, loops and assignments leave it as it is
    ∷ as_is []
    (new 21 2 (if_else 22 literal 23 (moving 24 (w 25) (assign 26 (w 27) literal 1 tt end)) 28 end
    (while 29 literal 30 (moving 31 (w 32) (assign 33 (w 34) literal 1 tt end)) (bare_return 35 0 tt end))))
    (error 2 27 0 (25 ∷ []) ∷ error 2 34 0 (32 ∷ []) ∷ left 35 2 21 ∷ []) []
    -- one name in nested blocks; behind the block the outer one alone; `this`
    ∷ row (param 0 ∷ []) (new 21 1 (block 22 (new 23 1 (bare_return 24 0 tt end)) (block 25 (new 26 1 end) (new 27 2 (bare_return 28 0 tt end)))))
    (new 21 1 (block 22 (new 23 1 (bare_return 24 0 tt end)) (block 25 (new 26 1 (deletion 25 1 end)) (new 27 2 (bare_return 28 0 tt end)))))
    (left 24 1 23 ∷ left 24 1 21 ∷ left 24 0 0 ∷ left 28 2 27 ∷ left 28 1 21 ∷ left 28 0 0 ∷ []) (alive ∷ [])
    -- moved and registered again, both locals of the name live
    ∷ as_is [] (new 21 1 (moving 22 (v 23) (new 24 1 (bare_return 25 0 tt end)))) (left 25 1 24 ∷ left 25 1 21 ∷ []) []
    -- a Const, in a loop
    ∷ row [] (while 20 literal 21 (variable true 22 1 1 literal (jump true 23 tt end)) end) (while 20 literal 21 (variable true 22 1 1 literal (jump true 23 tt (deletion 21 1 end))) end) (left 23 1 22 ∷ []) []
    ∷ []

pub born-where : map answer births ≡ births
unfolding member same_bytes starts_with first_from and_then or_else inside struct_named struct_shaped struct_of_generic struct_of_ty struct_of has_destructor should_auto_delete class_of_ty class_of modifier_in modifier_of is_consuming global_of count_width through auto is_temp_of is_move_of consumes global_in takes handed finish effects expr_stmt_effects take_over assign_effects assign_takes
born-where = refl

-- if .. { std::move(v); }, v at the span
abbrev maybe : ℕ → Tree → Tree
maybe s c = if_then 41 literal 42 (moving 43 (v s) end) c

-- The switches (02, e), here by their bits: 1 bare returns, 2 Break and Continue, 4 joins, 8 the parameters at the body's end
abbrev pub switching : List Row
switching =
    -- 1: a bare return drops what it would leave behind, newest first, spans 0, and lists it no longer; the others leave it alone
    under (switches_of 1) (param 1 ∷ []) (new 21 2 (bare_return 23 0 tt end)) (new 21 2 (deletion 0 2 (deletion 0 1 (bare_return 23 0 tt end)))) [] (alive ∷ [])
    ∷ under (switches_of 14) (param 1 ∷ []) (new 21 2 (bare_return 23 0 tt end)) (new 21 2 (bare_return 23 0 tt end)) (left 23 2 21 ∷ left 23 1 0 ∷ []) (alive ∷ [])
    -- 2: Break and Continue drop what (c) lists, before them, spans 0, changing no state; outside a loop nothing
    ∷ under (switches_of 2) (param 2 ∷ []) (while 20 literal 21 (new 22 1 (if_then 25 literal 26 (jump false 27 tt end) (jump true 28 tt end))) (jump false 29 tt end))
    (while 20 literal 21 (new 22 1 (if_then 25 literal 26 (deletion 0 1 (jump false 27 tt end)) (deletion 0 1 (jump true 28 tt (deletion 21 1 end))))) (jump false 29 tt end)) [] (alive ∷ [])
    ∷ under (switches_of 13) (param 2 ∷ []) (while 20 literal 21 (new 22 1 (if_then 25 literal 26 (jump false 27 tt end) (jump true 28 tt end))) (jump false 29 tt end))
    (while 20 literal 21 (new 22 1 (if_then 25 literal 26 (jump false 27 tt end) (jump true 28 tt (deletion 21 1 end)))) (jump false 29 tt (deletion 10 2 end)))
    (left 27 1 22 ∷ left 28 1 22 ∷ []) (alive ∷ [])
    -- 4: ConditionallyMoved [26] and ConditionallyMoved [31] join to ConditionallyMoved [26, 31], and then kind 5; K5 without it
    ∷ under (switches_of 4) (param 1 ∷ []) (if_else 21 literal 22 (maybe 26 end) 27 (maybe 31 end) (stmt 32 (v 33) end)) (if_else 21 literal 22 (maybe 26 end) 27 (maybe 31 end) (stmt 32 (v 33) end))
    (error 5 33 0 (26 ∷ []) ∷ []) (gone true moved (26 ∷ 31 ∷ []) ∷ [])
    ∷ under (switches_of 11) (param 1 ∷ []) (if_else 21 literal 22 (maybe 26 end) 27 (maybe 31 end) (stmt 32 (v 33) end)) (if_else 21 literal 22 (maybe 26 end) 27 (maybe 31 end) (stmt 32 (v 33) end))
    (error 2 33 0 (26 ∷ []) ∷ []) (gone false moved (26 ∷ 31 ∷ []) ∷ [])
    -- not Moved with ConditionallyMoved, nor two families
    ∷ under (switches_of 4) (param 1 ∷ []) (if_else 21 literal 22 (moving 25 (v 26) end) 27 (maybe 31 end) end) (if_else 21 literal 22 (moving 25 (v 26) end) 27 (maybe 31 end) end) [] (gone false moved (26 ∷ 31 ∷ []) ∷ [])
    ∷ under (switches_of 4) (param 1 ∷ []) (if_else 21 literal 22 (if_then 23 literal 24 (deletes 25 end) end) 27 (maybe 31 end) end) (if_else 21 literal 22 (if_then 23 literal 24 (deletes 25 end) end) 27 (maybe 31 end) end) []
    (gone false consumed (25 ∷ 31 ∷ []) ∷ [])
    -- 8: the body's end drops the parameters after its own locals, with the block's span; not those given up, nor an inner block's end
    ∷ under (switches_of 8) (param 0 ∷ param 1 ∷ []) (new 21 2 (block 22 (new 23 5 end) end)) (new 21 2 (block 22 (new 23 5 (deletion 22 5 end)) (deletion 10 2 (deletion 10 1 (deletion 10 0 end))))) [] (alive ∷ alive ∷ [])
    ∷ under (switches_of 8) (param 1 ∷ []) (maybe 26 end) (maybe 26 end) [] (gone true moved (26 ∷ []) ∷ [])
    -- unless the block surely returns
    ∷ under (switches_of 8) (param 1 ∷ []) (bare_return 21 0 tt end) (bare_return 21 0 tt end) (left 21 1 0 ∷ []) (alive ∷ [])
    -- and without the switch
    ∷ under (switches_of 7) (param 0 ∷ param 1 ∷ []) (new 21 2 (block 22 (new 23 5 end) end)) (new 21 2 (block 22 (new 23 5 (deletion 22 5 end)) (deletion 10 2 end))) [] (alive ∷ alive ∷ [])
    ∷ []

pub switched-rows : map answer switching ≡ switching
unfolding member same_bytes starts_with first_from and_then or_else inside struct_named struct_shaped struct_of_generic struct_of_ty struct_of has_destructor should_auto_delete class_of_ty class_of modifier_in modifier_of is_consuming global_of count_width through auto is_temp_of is_move_of consumes global_in takes handed finish effects expr_stmt_effects take_over assign_effects assign_takes
switched-rows = refl
