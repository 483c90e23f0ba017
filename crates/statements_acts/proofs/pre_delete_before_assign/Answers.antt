use Rattle.statements_acts.proofs.Acts.{drop-none, drop-ident}
use Rattle.statements_acts.proofs.Views.{ident-at, ident-in, no-ident-at}
use Rattle.statements_acts.proofs.Laws.{none-put}
use Rattle.statements_acts.specs.Marks.{lent}
use native.Mathlib.Omega.{arith}
use Rattle.statements_acts.proofs.pre_delete_before_assign.Goals as goal

pub returns-in_default : goal.returns-in_default
returns-in_default c =
    let a = c.args in
    (omega arith, omega arith, λ sw T ld births g m e next z. none-put _ _ _ (drop-none sw T (lent a.l.now.names a.l.now.types ld births g a.l.now.count) _ e (no-ident-at a.s.now a.destination _ c.strip_noop_unary-p.ensures c.node_at.ensures c.in_default.not-Ident e next z)))

pub overflow_add-p : goal.overflow_add-p
overflow_add-p c = let i = ident-in c.args.s.now c.args.destination _ c.strip_noop_unary-p.ensures c.node_at.ensures c.in-Ident.is in omega arith

pub name_at-name-requires : goal.name_at-name-requires
name_at-name-requires c = let i = ident-in c.args.s.now c.args.destination _ c.strip_noop_unary-p.ensures c.node_at.ensures c.in-Ident.is in omega arith

pub returns : goal.returns
returns c =
    let a = c.args in
    let put = c.put_assign_drop in
    (put.ensures.0, put.ensures.1, λ sw T ld births g m e next z. drop-ident sw T (lent a.l.now.names a.l.now.types ld births g a.l.now.count) _ e (ident-at a.s.now a.destination _ c.strip_noop_unary-p.ensures c.node_at.ensures c.in-Ident.is e next z) c.name_at-name.ensures (put.ensures.2 T ld births g m))
