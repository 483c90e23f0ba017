use Rattle.std.proofs.Common.{◌∙◌, sym, refl, ap, arith}
use Rattle.tables.specs.Ty.{of_width}
use Rattle.tables_lookup.specs.Answer.{found_of}
use Rattle.tables_lookup.proofs.First.{missing}
use Rattle.tables_lookup.proofs.Ty.{past-struct, inner-lower, array_of, named-of, generic-of, other-of}
use Rattle.tables_lookup.proofs.+struct_of_type.Goals as goal

pub returns-in_err-at-clause-asked : goal.returns-in_err-at-clause-asked
returns-in_err-at-clause-asked t c = let a = c.args in
    c.from_residual.ensures ∙ missing (past-struct a.s.now a.types.now a.ty _ c.in_err-at.ensures.lookup.3)

pub struct_of_type-requires : goal.struct_of_type-requires
unfolding of_width
struct_of_type-requires t c = let a = c.args in let h = c.in_ok-at.ensures.lookup.3 in
    let o = inner-lower a.s.now a.types.now a.ty h.0 (h.1 0) c.peek.ensures.0 c.peek_two-of.ensures.0 c.requires.2 3 (omega arith) c.in-3.is refl in (omega arith, c.requires)

pub returns-in-3-clause-asked : goal.returns-in-3-clause-asked
returns-in-3-clause-asked t c = let a = c.args in let h = c.in_ok-at.ensures.lookup.3 in
    c.struct_of_type.ensures.asked ∙ ap found_of (sym (array_of a.s.now a.types.now a.ty h.0 (h.1 0) c.peek.ensures.0 c.peek_two-of.ensures.0 c.requires.2 _ c.in-3.is))

pub returns-in-1-clause-asked : goal.returns-in-1-clause-asked
returns-in-1-clause-asked t c = let a = c.args in let h = c.in_ok-at.ensures.lookup.3 in
    c.struct_named.ensures.named ∙ ap found_of (sym (named-of a.s.now a.types.now a.ty h.0 (h.1 0) c.peek.ensures.0 c.peek_two-of.ensures.0 _ c.in-1.is))

pub returns-in-2-clause-asked : goal.returns-in-2-clause-asked
returns-in-2-clause-asked t c = let a = c.args in let h = c.in_ok-at.ensures.lookup.3 in
    c.struct_of_generic.ensures.generic ∙ ap found_of (sym (generic-of a.s.now a.types.now a.ty h.0 (h.1 0) c.peek.ensures.0 c.peek_two-of.ensures.0 _ c.in-2.is c.peek_two.ensures.0))

pub returns-in_default-clause-asked : goal.returns-in_default-clause-asked
returns-in_default-clause-asked t c = let a = c.args in let h = c.in_ok-at.ensures.lookup.3 in
    missing (other-of a.s.now a.types.now a.ty h.0 (h.1 0) c.peek.ensures.0 c.peek_two-of.ensures.0 _ (λ z. omega arith) (λ z. omega arith) (λ z. omega arith))
