use Rattle.statements_acts.proofs.Dropped.{assign-none, assign-kept, assign-drop}
use Rattle.scope_state.proofs.Stacked.{found_below}
use Rattle.statements_acts.specs.Marks.{drop_in}
use Rattle.statements_acts.proofs.Laws.{none-put, one-put}
use Rattle.image_writing.proofs.Stores.{delete-length}
use native.Mathlib.Omega.{arith}
use mathlib.Core.Path.{◌≡◌, sym, ap, ◌∙◌}
use Prim.Native.Nat.{ℕ, ◌+◌}
use Rattle.statements_acts.proofs.put_assign_drop.Goals as goal

pub returns-in_default : goal.returns-in_default
returns-in_default c =
    let a = c.args in
    (omega arith, omega arith, λ T depths births g e. none-put _ _ _ (assign-none T a.l.now.names a.l.now.types depths births g a.l.now.count a.span a.name 0 _ c.find_local.ensures c.in_default.is))

pub returns-then-not-has_bit : goal.returns-then-not-has_bit
returns-then-not-has_bit c =
    let a = c.args in
    let lt = found_below c.find_local.ensures c.in-Some.is in (
      omega arith,
      omega arith,
      λ T depths births g e. none-put _ _ _ (assign-kept T a.l.now.names a.l.now.types depths births g a.l.now.count a.span a.name 0 _ c.find_local.ensures c.in-Some.i c.in-Some.is
          (sym (c.has_bit.ensures 0 a.l.now.count (drop_in T a.l.now.types g) lt e) ∙ c.if-not-has_bit.true)),
    )

pub returns : goal.returns
returns c =
    let a = c.args in
    let l : c.put_delete-end.result ≡ a.at + 21 = c.put_delete-end.ensures.place ∙ ap (λ (k : ℕ). a.at + k) (delete-length _ _ _) in
    let lt = found_below c.find_local.ensures c.in-Some.is in (
      omega (arith, l),
      omega arith,
      λ T depths births g e. one-put _ _ _ _ _ _ _ _ (assign-drop T a.l.now.names a.l.now.types depths births g a.l.now.count a.span a.name 0 _ c.find_local.ensures c.in-Some.i c.in-Some.is
          (sym (c.has_bit.ensures 0 a.l.now.count (drop_in T a.l.now.types g) lt e) ∙ c.if-not-has_bit.false)) c.put_delete-end.ensures,
    )
