use Rattle.std.proofs.Common.{◌∙◌, sym, refl, ap, arith}
use Rattle.tables.specs.Ty.{of_width}
use Rattle.tables_lookup.specs.Answer.{found_of}
use Rattle.tables_lookup.proofs.First.{found, missing}
use Rattle.tables_lookup.proofs.Ty.{past-class, inner-lower, pointer-of, class-of, no-class-of}
use Rattle.tables_named.proofs.+class_name_from_receiver_ty.Goals as goal

pub returns-in_err-at : goal.returns-in_err-at
returns-in_err-at t c = let a = c.args in
    c.from_residual.ensures ∙ missing (past-class a.s.now a.types.now a.ty c.in_err-at.ensures.lookup.3)

pub class_name_from_receiver_ty-requires : goal.class_name_from_receiver_ty-requires
unfolding of_width
class_name_from_receiver_ty-requires t c = let a = c.args in let h = c.in_ok-at.ensures.lookup.3 in
    let o = inner-lower a.s.now a.types.now a.ty h.0 (h.1 0) c.peek.ensures.0 c.peek_two-of.ensures.0 c.requires.1 4 (omega arith) c.in-4.is refl in (omega arith, c.requires)

pub returns-in-4 : goal.returns-in-4
returns-in-4 t c = let a = c.args in let h = c.in_ok-at.ensures.lookup.3 in
    c.class_name_from_receiver_ty.ensures ∙ ap found_of (sym (pointer-of a.s.now a.types.now a.ty h.0 (h.1 0) c.peek.ensures.0 c.peek_two-of.ensures.0 c.requires.1 c.in-4.is))

pub returns-in-1 : goal.returns-in-1
returns-in-1 t c = let a = c.args in let h = c.in_ok-at.ensures.lookup.3 in
    found (class-of a.s.now a.types.now a.ty h.0 (h.1 0) c.peek.ensures.0 c.peek_two-of.ensures.0 c.in-1.is)

pub returns-in_default : goal.returns-in_default
returns-in_default t c = let a = c.args in let h = c.in_ok-at.ensures.lookup.3 in
    missing (no-class-of a.s.now a.types.now a.ty h.0 (h.1 0) c.peek.ensures.0 c.peek_two-of.ensures.0 (λ z. omega arith) (λ z. omega arith))
