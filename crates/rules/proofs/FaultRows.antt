-- Faults 12 and 13 and their order, and the order of the table's last rows, as rows by computation. Limits of two locals and one place
-- stand for 64 and 8: the definitions take them from a record.
-- Assumes nothing.
use Rattle.std.proofs.Common.{◌≡◌, ℕ, true, false, ◌&&◌, leb, List, [], ◌∷◌, map, refl}
use mathlib.Core.Option.{Option, some}
use Rattle.image_fields.specs.Parsed.{ensure}
use Rattle.image_fields.specs.Table.{member}
use Rattle.tables.specs.Limits.{Limits, version1}
use Rattle.tables.specs.Name.{same_bytes, starts_with}
use Rattle.tables.specs.Signature.{Param}
use Rattle.tables_lookup.specs.First.{first_from, and_then, or_else}
use Rattle.tables_lookup.specs.Ty.{inside, struct_named, struct_shaped, struct_of_generic, struct_of_ty, struct_of, has_destructor, should_auto_delete, class_of_ty, class_of}
use Rattle.tables_lookup.specs.Signature.{modifier_in, modifier_of, is_consuming, global_of}
use Rattle.image_body.specs.Expr.{Expr, count_width, through}
use Rattle.image_body.specs.Stmt.{Tree, variable, bare_return, block, if_else, if_then, while}
use Rattle.image_encoding.specs.Body.{size}
use Rattle.image.specs.Image.{Image, accepted, refused, decode, outcome, image_at}
use Rattle.rules.proofs.Nodes.{one, ident, literal, move, moving, end, tables, param}
use Rattle.rules.specs.Questions.{auto, is_temp_of, is_move_of, consumes, global_in}
use Rattle.rules.specs.Effects.{takes, handed, finish, effects, expr_stmt_effects, take_over, assign_effects, assign_takes}
use Rattle.rules.specs.Rules.{off}
use Rattle.rules.specs.Walk.{crowded, walk_fault, image_fault}
use Rattle.rules.specs.Verdict.{Lent, Answer, Verdict, refuses, answers, entry_of, counts_fit, image_counts_fit, output_fits, fitted, walked, room_fault_of, pass_verdict, room_fault}
use Rattle.rules.specs.Report.{error, warning, left, returned_image}

abbrev small : Limits
small = record {
  version = 1;
  size = 65536;
  names = 512;
  name_bytes = 64;
  types = 256;
  structs = 64;
  methods = 32;
  globals = 64;
  params = 16;
  block_depth = 12;
  expr_depth = 24;
  locals = 2;
  places = 1;
}

-- an image of a body with parameters
abbrev with : List Param → Tree → Image
with ps c = record { tables = tables; entry = record { receiver = 0; this = 0; params = ps }; body = record { span = 10; code = c } }

abbrev v : ℕ → Expr
v s = ident s 1 1

-- let n: T
abbrev new : ℕ → Tree → Tree
new n c = variable false 21 n 1 literal c

-- `v` moved in both branches, at different places: the joined state has two
abbrev both_move : Tree → Tree
both_move c = if_else 21 literal 22 (moving 23 (v 24) end) 25 (moving 26 (v 27) end) c

abbrev bodies : List Image
bodies =
    -- two locals at one time, and three
    with [] (new 1 (new 2 end)) ∷ with [] (new 1 (new 2 (new 5 end))) ∷ with (param 1 ∷ param 2 ∷ []) (new 5 end)
    ∷ with (param 1 ∷ param 2 ∷ param 5 ∷ []) end
    -- a closed block's locals are free again; code after a return counts
    ∷ with [] (block 22 (new 1 (new 2 end)) (new 5 (new 6 end))) ∷ with [] (new 1 (new 2 (bare_return 22 0 tt (new 5 end))))
    -- a join that needs a second place, by branches and by a loop
    ∷ with (param 1 ∷ []) (both_move end) ∷ with (param 1 ∷ []) (moving 21 (v 22) (while 23 literal 24 (moving 25 (v 26) end) end))
    -- equal states, and branches that return, join nothing
    ∷ with (param 1 ∷ []) (if_else 21 literal 22 (moving 23 (v 24) end) 25 (moving 23 (v 24) end) end)
    ∷ with (param 1 ∷ []) (if_else 21 literal 22 (moving 23 (v 24) (bare_return 28 0 tt end)) 25 (moving 26 (v 27) end) end)
    -- a join inside a branch that returns counts
    ∷ with (param 1 ∷ []) (if_then 31 literal 32 (both_move (bare_return 33 0 tt end)) end)
    -- nor does an if without else whose branch returns
    ∷ with (param 1 ∷ []) (moving 21 (v 22) (if_then 23 literal 24 (moving 25 (v 26) (bare_return 27 0 tt end)) end))
    -- a loop joins with what is after its condition
    ∷ with (param 1 ∷ []) (while 21 (move 22 (one (v 23))) 24 (moving 25 (v 26) end) end)
    -- the first in walking order
    ∷ with (param 1 ∷ []) (both_move (new 2 (new 5 end))) ∷ with (param 1 ∷ []) (new 2 (new 5 (both_move end)))
    -- the then branch comes before the else branch, and both before their join
    ∷ with (param 1 ∷ []) (if_else 31 literal 32 (both_move end) 33 (new 2 (new 5 end)) end)
    ∷ with (param 1 ∷ []) (if_else 31 literal 32 (moving 23 (v 24) end) 33 (moving 26 (v 27) (new 2 (new 5 end))) end)
    ∷ []

pub walk-faults : map (image_fault small off) bodies
    ≡ Option.none ∷ some 12 ∷ some 12 ∷ some 12 ∷ Option.none ∷ some 12 ∷ some 13 ∷ some 13 ∷ Option.none ∷ Option.none ∷ some 13 ∷ Option.none ∷ some 13 ∷ some 13 ∷ some 12 ∷ some 13 ∷ some 12 ∷ []
unfolding member same_bytes starts_with first_from and_then or_else inside struct_named struct_shaped struct_of_generic struct_of_ty struct_of has_destructor should_auto_delete class_of_ty class_of modifier_in modifier_of is_consuming global_of count_width through auto is_temp_of is_move_of consumes global_in takes handed finish effects expr_stmt_effects take_over assign_effects assign_takes crowded walk_fault image_fault
walk-faults = refl

-- one entry of each list and three bytes
abbrev some3 : Answer
some3 = record { output = 1 ∷ 2 ∷ 3 ∷ []; error_count = 1; warning_count = 1; left_count = 1; error_numbers = []; warning_numbers = []; left_numbers = [] }

abbrev lent : ℕ → ℕ → ℕ → ℕ → Lent
lent b e w l = record { bytes = b; errors = e; warnings = w; lefts = l }

abbrev fitting : Lent → Verdict
fitting x = fitted off x (with [] end) some3

-- lists before output, and exactly enough is enough
pub last-rows : map fitting (lent 3 1 1 1 ∷ lent 2 1 1 1 ∷ lent 3 0 1 1 ∷ lent 3 1 0 1 ∷ lent 3 1 1 0 ∷ lent 2 0 1 1 ∷ [])
    ≡ answers some3 ∷ refuses 15 ∷ refuses 14 ∷ refuses 14 ∷ refuses 14 ∷ refuses 14 ∷ []
unfolding member same_bytes starts_with first_from and_then or_else inside struct_named struct_shaped struct_of_generic struct_of_ty struct_of has_destructor should_auto_delete class_of_ty class_of modifier_in modifier_of is_consuming global_of count_width through auto is_temp_of is_move_of consumes global_in takes handed finish effects expr_stmt_effects take_over assign_effects assign_takes size counts_fit
last-rows = refl

-- faults 12 and 13 before both
pub walk_first : walked small off (lent 0 0 0 0) (with [] end) (some 13) ≡ refuses 13
walk_first = refl

-- the room entry gives the reader's faults and those of the walk
pub room-faults : (room_fault_of small off (refused 7) ≡ some 7) × (room_fault_of small off (accepted (with [] (new 1 (new 2 (new 5 end))))) ≡ some 12)
unfolding member same_bytes starts_with first_from and_then or_else inside struct_named struct_shaped struct_of_generic struct_of_ty struct_of has_destructor should_auto_delete class_of_ty class_of modifier_in modifier_of is_consuming global_of count_width through auto is_temp_of is_move_of consumes global_in takes handed finish effects expr_stmt_effects take_over assign_effects assign_takes crowded walk_fault image_fault
room-faults = (refl, refl)

-- an error has room for as many other places as the limit says; a warning has span and offset, a left-behind entry span, name and birth
pub entry-numbers : map (entry_of version1) (error 6 15 0 (13 ∷ 12 ∷ []) ∷ warning 21 80 ∷ left 23 4 21 ∷ [])
    ≡ (6 ∷ 15 ∷ 0 ∷ 2 ∷ 13 ∷ 12 ∷ 0 ∷ 0 ∷ 0 ∷ 0 ∷ 0 ∷ 0 ∷ []) ∷ (21 ∷ 80 ∷ []) ∷ (23 ∷ 4 ∷ 21 ∷ []) ∷ []
entry-numbers = refl

-- blocks of two statements where one is the most: the body, a block, then, else, a loop
abbrev two : Tree
two = bare_return 1 0 tt (bare_return 1 0 tt end)

pub counts : map (image_counts_fit 1) (with [] two ∷ with [] (block 1 two end) ∷ with [] (if_else 1 literal 1 two 1 end end) ∷ with [] (if_else 1 literal 1 end 1 two end)
    ∷ with [] (if_then 1 literal 1 two end) ∷ with [] (while 1 literal 1 two end) ∷ with [] (while 1 literal 1 (block 1 two end) end) ∷ with [] (if_else 1 literal 1 end 1 (bare_return 1 0 tt end) end) ∷ [])
    ≡ false ∷ false ∷ false ∷ false ∷ false ∷ false ∷ false ∷ true ∷ []
unfolding size counts_fit
counts = refl

-- and 65,535 is the most
pub most-counted : output_fits off (lent 3 0 0 0) (with [] end) some3 ≡ (leb 3 3 && image_counts_fit 65535 (returned_image off (with [] end)))
most-counted = refl

-- 17 before the head's checks, from a switch value above 15 (02, e)
pub switch-value : (pass_verdict small (lent 0 0 0 0) 16 [] ≡ refuses 17) × (pass_verdict small (lent 0 0 0 0) 15 [] ≡ refuses 1) × (room_fault small 16 [] ≡ some 17) × (room_fault small 15 [] ≡ some 1)
unfolding pass_verdict room_fault decode outcome image_at ensure
switch-value = (refl, refl, refl, refl)
