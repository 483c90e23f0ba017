use Rattle.std.proofs.Common.{arith}
use Rattle.image_fields.proofs.Numbers.{field-ok}
use Rattle.image_fields.proofs.Answers.{number_at, number-err, table_at, table-err, passed}
use Rattle.tables.proofs.Names.{names-short, names-empty, names-stop, names-inside, names-other, names-good}
use Rattle.tables.proofs.name.read_names.Goals as goal

pub returns-in_err-n : goal.returns-in_err-n
returns-in_err-n c =
    let g = names-short c.args.s.now c.args.at c.args.starts.now (number-err c.in_err-n.ensures) in
    rw (passed c.from_residual.ensures) (record { value = g.0; starts = g.1 })

pub returns-then-n-eq0 : goal.returns-then-n-eq0
returns-then-n-eq0 c =
    let g = names-empty c.args.s.now c.args.at c.args.starts.now (number_at c.in_ok-n.ensures) c.if-n-eq0.true in
    record { value = g.0; starts = g.1 }

pub fill_names-requires : goal.fill_names-requires
fill_names-requires c = let g = (field-ok (number_at c.in_ok-n.ensures)).small in (omega arith, omega arith, omega arith)

pub returns-in_err-next : goal.returns-in_err-next
returns-in_err-next c =
    let g = names-stop c.args.s.now c.args.at c.fill_names.new.starts (number_at c.in_ok-n.ensures) c.if-n-eq0.false (table-err c.in_err-next.ensures.value) in
    rw (passed c.from_residual-in_err-next.ensures) (record { value = g.0; starts = g.1 })

pub is_this-requires : goal.is_this-requires
is_this-requires c = names-inside _ _ c.fill_names.new.starts (number_at c.in_ok-n.ensures) c.if-n-eq0.false (table_at c.in_ok-next.ensures.value).1

pub returns-then-is_this : goal.returns-then-is_this
returns-then-is_this c =
    let t = table_at c.in_ok-next.ensures.value in
    let g = names-good c.args.s.now c.args.at c.fill_names.new.starts (number_at c.in_ok-n.ensures) c.if-n-eq0.false t.1 (c.fill_names.ensures.starts t.0 _ t.1) c.is_this.ensures c.if-is_this.true in
    record { value = g.0; starts = g.1 }

pub returns-else-is_this : goal.returns-else-is_this
returns-else-is_this c =
    let t = table_at c.in_ok-next.ensures.value in
    let g = names-other c.args.s.now c.args.at c.fill_names.new.starts (number_at c.in_ok-n.ensures) c.if-n-eq0.false t.1 c.is_this.ensures c.if-is_this.false in
    record { value = g.0; starts = g.1 }
