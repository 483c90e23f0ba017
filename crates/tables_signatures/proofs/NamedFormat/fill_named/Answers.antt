use Rattle.std.proofs.Common.{◌≤◌, length, subst}
use Rattle.image_fields.proofs.Answers.{read_at, read-err, is-table, wrong-table, passed}
use Rattle.image_fields.proofs.Tables.{filling-stop, filling-done}
use Rattle.tables_signatures.proofs.Signatures.{striding-start, striding-next, named-in}
use Rattle.tables_signatures.proofs.NamedFormat.fill_named.Goals as goal

pub loop-i-init : goal.loop-i-init
loop-i-init c = (_, striding-start _ _ _ _ _ _ c.requires)

pub read_named-requires : goal.read_named-requires
read_named-requires c = let a = c.loop-i.invariant.1.place in let b = c.loop-i.invariant.1.inside in subst (λ x. x ≤ length c.args.s.now) a b

pub returns-in_err-p : goal.returns-in_err-p
returns-in_err-p c = let inv = c.loop-i.invariant in
    rw (passed c.from_residual.ensures) (wrong-table (filling-stop _ inv.1.fill c.loop-i-test.true (read-err (c.in_err-p.ensures inv.0 inv.1.are))))

pub loop-i-preserved : goal.loop-i-preserved
loop-i-preserved c = let inv = c.loop-i.invariant in
    let g = read_at (c.in_ok-p.ensures inv.0 inv.1.are) in
    let h = named-in _ _ _ _ _ _ _ _ _ _ g.1 in
    (_, striding-next _ _ _ _ inv.1 c.loop-i-test.true g.1 h.is h.end (h.room inv.1.inside))

pub returns : goal.returns
returns c = let g = filling-done _ c.loop-i.invariant.1.fill c.loop-i-test.false in is-table g.0 g.1
