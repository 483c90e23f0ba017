use Prim.Native.Nat.{◌+◌}
use lib.ListN.{get_or}
use Rattle.expressions_scan.proofs.Entries.{stored-eq, use-first, entry-most}
use mathlib.Core.List.{[], ◌∷◌}
use mathlib.Core.Path.{sym, ◌∙◌}
use native.Mathlib.Omega.{arith}
use Rattle.expressions_scan.proofs.put_use.Goals as goal

pub returns : goal.returns
returns c =
    (stored-eq (use-first c.args.place c.args.kind c.args.first c.args.rows.now c.args.row c.requires.0 c.if-kind-lt8.false (sym c.if-gives_all.false ∙ c.gives_all.ensures)) c.put_error-2.ensures, entry-most _ c.args.place 0 (get_or c.args.rows.now (c.args.row + 1) 0 ∷ []) (omega arith) c.put_error-2.ensures)
