use Rattle.std.proofs.Common.{sym, ap, ◌∙◌}
use Rattle.tables_lookup.specs.Answer.{found_of}
use Rattle.tables_lookup.proofs.First.{missing, was-found, was-missing}
use Rattle.tables_named.proofs.Signature.{no-class-method, no-struct-method, struct-method, methods-in}
use Rattle.tables_named.proofs.method_modifier.Goals as goal

pub returns-in_err-class : goal.returns-in_err-class
returns-in_err-class c = c.from_residual.ensures ∙ missing (no-class-method _ _ _ _ (was-missing c.class_name_from_receiver_ty.ensures c.in_err-class.was))

pub returns-in_err-i : goal.returns-in_err-i
returns-in_err-i c = c.from_residual-in_err-i.ensures ∙ missing (no-struct-method _ _ _ _ (was-found c.class_name_from_receiver_ty.ensures c.in_ok-class.was) (was-missing c.struct_named.ensures.named c.in_err-i.was))

pub returns : goal.returns
returns c =
    let e = was-found c.struct_named.ensures.named c.in_ok-i.was in
    c.modifier_in.ensures ∙ ap found_of (methods-in c.args.s.now c.args.structs.now c.in_ok-i.ensures.below c.args.name ∙ sym (struct-method _ _ _ _ (was-found c.class_name_from_receiver_ty.ensures c.in_ok-class.was) e))
