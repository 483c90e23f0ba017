use Prim.Native.Nat.{◌≤◌}
use mathlib.Core.Path.{ap, sym, ◌∙◌, subst}
use native.Mathlib.Omega.{arith}
use lib.ListN.{drop, length-take, length-drop}
use lib.Seq.{length-take-le}
use Rattle.image_fields.proofs.Answers.{passed, table-err, table_at}
use Rattle.image.specs.Layout.{fault_in}
use Rattle.image.proofs.Whole.{head-stops, head-short, names-stop, types-stop}
use Rattle.image.proofs.Placed.{types-room, typed_long, names-few, types-few, rest-required, rest-refused, counts, copy-fits, placed}
use Rattle.image.proofs.read_parts.Goals as goal

pub returns-in_err-head_fault : goal.returns-in_err-head_fault
returns-in_err-head_fault c = head-stops _ _ c.in_err-head_fault.ensures (ap fault_in (passed c.from_residual.ensures))

pub read_names-requires : goal.read_names-requires
read_names-requires c = (let d = length-take-le 512 (drop 8 c.args.tb.now) (simp length-drop (omega arith)) in omega arith, head-short _ c.in_ok-head_fault.ensures)

pub returns-in_err-name_count : goal.returns-in_err-name_count
returns-in_err-name_count c = names-stop _ c.in_ok-head_fault.ensures (table-err c.in_err-name_count.ensures.value)
    (ap fault_in (passed c.from_residual-in_err-name_count.ensures))

pub read_types-requires : goal.read_types-requires
read_types-requires c = (types-room c.args.tb.now c.read_names.new.starts c.requires c.read_names.auto.starts, omega arith, head-short _ c.in_ok-head_fault.ensures)

pub returns-in_err-type_count : goal.returns-in_err-type_count
returns-in_err-type_count c = let g = table_at c.in_ok-name_count.ensures.value in
    types-stop _ c.in_ok-head_fault.ensures g.1 g.2 (table-err c.in_err-type_count.ensures.value)
    (ap fault_in (passed c.from_residual-in_err-type_count.ensures))

pub overflow_add-names_end : goal.overflow_add-names_end
overflow_add-names_end c = let f = names-few _ c.in_ok-name_count.ensures.value in omega arith

pub slice_bounds-flags-end : goal.slice_bounds-flags-end
slice_bounds-flags-end c = let f = types-few _ _ _ c.in_ok-type_count.ensures.value in omega arith

pub slice_bounds-read_rest-end : goal.slice_bounds-read_rest-end
slice_bounds-read_rest-end c = let f = names-few _ c.in_ok-name_count.ensures.value in let l = typed_long c.args.tb.now c.read_names.new.starts c.read_types.new.starts c.requires c.read_names.auto.starts c.read_types.auto.starts in omega arith

pub slice_bounds-read_rest-end-2 : goal.slice_bounds-read_rest-end-2
slice_bounds-read_rest-end-2 c = let f = types-few _ _ _ c.in_ok-type_count.ensures.value in let h = c.read_types.auto.flags in simp length-take (omega arith)

pub read_rest-requires : goal.read_rest-requires
read_rest-requires c = let w = rest-required c.args.s.now c.args.tb.now c.read_names.new.starts c.read_types.new.starts c.read_types.new.flags c.requires c.read_names.auto.starts c.read_types.auto.starts c.in_ok-head_fault.ensures c.in_ok-name_count.ensures.value c.read_names.ensures.starts c.in_ok-type_count.ensures.value c.read_types.ensures.filled in (omega arith, w.0, w.1, w.2)

pub returns-in_err-rest : goal.returns-in_err-rest
returns-in_err-rest c = rest-refused c.args.s.now c.args.tb.now c.read_names.new.starts c.read_types.new.starts c.read_types.new.flags c.requires c.read_names.auto.starts c.read_types.auto.starts c.in_ok-head_fault.ensures c.in_ok-name_count.ensures.value c.read_names.ensures.starts c.in_ok-type_count.ensures.value c.read_types.ensures.filled _ _ c.in_err-rest.ensures (ap fault_in (passed c.from_residual-in_err-rest.ensures))

pub copy_structs-requires : goal.copy_structs-requires
copy_structs-requires c = copy-fits c.args.s.now c.args.tb.now c.read_names.new.starts c.read_types.new.starts c.read_types.new.flags c.requires c.read_names.auto.starts c.read_types.auto.starts c.in_ok-head_fault.ensures c.in_ok-name_count.ensures.value c.read_names.ensures.starts c.in_ok-type_count.ensures.value c.read_types.ensures.filled _ c.in_ok-rest.ensures c.read_rest.auto.structs

pub put_counts-requires : goal.put_counts-requires
put_counts-requires c = (subst (λ k. 5 ≤ k) (sym (c.copy_structs.auto.tb ∙ typed_long c.args.tb.now c.read_names.new.starts c.read_types.new.starts c.requires c.read_names.auto.starts c.read_types.auto.starts)) (omega arith), counts c.args.s.now c.args.tb.now c.read_names.new.starts c.read_types.new.starts c.read_types.new.flags c.requires c.read_names.auto.starts c.read_types.auto.starts c.in_ok-head_fault.ensures c.in_ok-name_count.ensures.value c.read_names.ensures.starts c.in_ok-type_count.ensures.value c.read_types.ensures.filled _ c.in_ok-rest.ensures)

pub shape_of-tb : goal.shape_of-tb
shape_of-tb c = c.put_counts.auto.tb ∙ c.copy_structs.auto.tb ∙ typed_long c.args.tb.now c.read_names.new.starts c.read_types.new.starts c.requires c.read_names.auto.starts c.read_types.auto.starts ∙ sym c.requires

pub returns : goal.returns
returns c = placed c.args.s.now c.args.tb.now c.read_names.new.starts c.read_types.new.starts c.read_types.new.flags c.requires c.read_names.auto.starts c.read_types.auto.starts c.in_ok-head_fault.ensures c.in_ok-name_count.ensures.value c.read_names.ensures.starts c.in_ok-type_count.ensures.value c.read_types.ensures.filled _ c.in_ok-rest.ensures c.read_rest.auto.structs c.copy_structs.ensures c.put_counts.ensures
