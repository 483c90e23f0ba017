-- How deep an expression is, and what a walk over a position is given: an expression stands there, no deeper than so much.
use Rattle.std.specs.Prelude.{ℕ, suc, max, ◌≤◌, ◌≡◌, List}
use Rattle.image_body.specs.Expr.{Expr, Exprs, node, none, more}
use Rattle.image_body.specs.Stands.{Stands, StandAll, count}

unfoldable mutual
  pub depth : Expr → ℕ
  depth (node h ks xs) = suc (max (depth_all ks) (depth_all xs))

  pub depth_all : Exprs → ℕ
  depth_all none = 0
  depth_all (more e es) = max (depth e) (depth_all es)

pub record Walkable (s : List ℕ) (left at : ℕ) : Type 0 where
  pub e : Expr
  pub next : ℕ
  pub stands : Stands e s at next
  pub shallow : depth e ≤ left

pub record WalkableAll (s : List ℕ) (left n at : ℕ) : Type 0 where
  pub es : Exprs
  pub next : ℕ
  pub stand : StandAll es s at next
  pub many : count es ≡ n
  pub shallow : depth_all es ≤ left
