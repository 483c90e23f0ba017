use Rattle.image.specs.Layout.{fault_in}
use mathlib.Core.Path.{ap, refl}
use native.Mathlib.Omega.{arith}
use Rattle.image_fields.proofs.Answers.{passed, read-err, read_at, table-err, table_at}
use Rattle.image.proofs.Whole.{rest-structs, rest-globals, rest-entry, rest-body, rest_read, globals-stand}
use Rattle.image.proofs.read_rest.Goals as goal

pub returns-in_err-struct_count : goal.returns-in_err-struct_count
returns-in_err-struct_count c = λ ts ef. rest-structs _ c.args.names.now _ ts ef _ _ (table-err c.in_err-struct_count.ensures.value)
    (ap fault_in (passed c.from_residual.ensures))

pub returns-in_err-global_count : goal.returns-in_err-global_count
returns-in_err-global_count c = λ ts ef. rest-globals _ c.args.names.now _ ts ef _ _ (table_at c.in_ok-struct_count.ensures.value).1 (table-err c.in_err-global_count.ensures)
    (ap fault_in (passed c.from_residual-in_err-global_count.ensures))

pub returns-in_err-body : goal.returns-in_err-body
returns-in_err-body c = λ ts ef. rest-entry _ c.args.names.now _ ts ef _ _ (table_at c.in_ok-struct_count.ensures.value).1 (table_at c.in_ok-global_count.ensures).1 (read-err c.in_err-body.ensures)
    (ap fault_in (passed c.from_residual-in_err-body.ensures))

pub returns-in_err-read_body : goal.returns-in_err-read_body
returns-in_err-read_body c = λ ts ef. rest-body _ c.args.names.now _ ts ef _ _ (table_at c.in_ok-struct_count.ensures.value).1 (table_at c.in_ok-global_count.ensures).1 (read_at c.in_ok-body.ensures).1 (read-err c.in_err-read_body.ensures)
    (ap fault_in (passed c.from_residual-in_err-read_body.ensures))

pub overflow_add-result : goal.overflow_add-result
overflow_add-result c = let f = (globals-stand _ _ _ _ _ (table_at c.in_ok-global_count.ensures).1).fit in omega arith

pub returns : goal.returns
returns c = λ ts ef. let ss = (table_at c.in_ok-struct_count.ensures.value) in
    let gs = (table_at c.in_ok-global_count.ensures) in
    rest_read _ c.args.names.now _ ts ef _ _ ss.1 gs.1 (read_at c.in_ok-body.ensures).1 (read_at c.in_ok-read_body.ensures).1 ss.2 gs.2 refl (c.read_structs.ensures.structs ss.0 _ ss.1)
