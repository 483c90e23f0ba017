use native.Mathlib.Omega.{arith}
use Rattle.rules.specs.Rules.{at_end, concerns, delete_at}
use Rattle.statements_acts.specs.Marks.{lent, drop_in}
use Rattle.statements_acts.proofs.Masked.{state_since, since-marked, since-drops}
use Rattle.blocks_laws.proofs.Ends.{tail_none, tail-frame}
use Rattle.blocks_ends.proofs.put_tail.Goals as goal

pub returns-then-sure : goal.returns-then-sure
returns-then-sure c =
    let a = c.args in
    (omega arith, omega arith, λ w T ld births g n depth h f. tail_none w T a.sure depth a.span (lent a.l.now.names a.l.now.types ld births g n) c.if-sure.true _ _)

pub returns : goal.returns
returns c =
    let a = c.args in
    let put = c.put_drops.ensures in
    let own = c.since-own in (
      put.0,
      put.1,
      λ w T ld births g n depth h f. tail-frame w T a.sure depth a.span (lent a.l.now.names a.l.now.types ld births g n) c.if-sure.false
          (since-drops T a.l.now.types g a.base a.l.now.names ld births (λ x. concerns w (at_end depth) x) (delete_at a.span) n (f.own a.l.now.names a.l.now.types births))
          (put.2 T ld births (state_since a.base g) n (since-marked T a.l.now.types g a.base n _ (own.ensures 0 n (drop_in T a.l.now.types g) f.few h))),
    )
