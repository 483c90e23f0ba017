-- An expression stands in the bytes: what code that walks positions knows of an image that was read.
use Rattle.std.specs.Prelude.{ℕ, suc, ◌+◌, ◌≤◌, ◌<◌, ◌≡◌, List, length, get_or}
use Rattle.image_fields.specs.Number.{two, four, number_in}
use Rattle.image_body.specs.Expr.{Head, Expr, Exprs, node, none, more, arg_width, fixed_count, count_width, last_width}

abbrev pub count : Exprs → ℕ
count none = 0
count (more e es) = suc (count es)

-- a head at a position: the argument stands before the children, or after them, at u, or is 0
pub record HeadStands (h : Head) (s : List ℕ) (at u : ℕ) : Type 0 where
  pub tag : get_or s at 0 ≡ h.tag
  pub span : four s (at + 1) ≡ h.span
  pub ty : two s (at + 5) ≡ h.ty
  pub arg : number_in s (get_or arg_width h.tag 0) (at + 7) + number_in s (get_or last_width h.tag 0) u ≡ h.arg
  pub low : 0 < h.tag
  pub high : h.tag < 16
  pub room : at + 7 + get_or arg_width h.tag 0 ≤ length s

unfoldable mutual
  -- the expression stands from `at` up to `next`
  pub Stands : Expr → List ℕ → ℕ → ℕ → Type 0
  Stands (node h ks xs) s at next =
      (q : ℕ) × (u : ℕ) × HeadStands h s at u
      × (count ks ≡ get_or fixed_count h.tag 0) × StandAll ks s (at + 7 + get_or arg_width h.tag 0) q
      × (count xs ≡ number_in s (get_or count_width h.tag 0) q) × StandAll xs s (q + get_or count_width h.tag 0) u
      × (next ≡ u + get_or last_width h.tag 0) × (next ≤ length s)

  pub StandAll : Exprs → List ℕ → ℕ → ℕ → Type 0
  StandAll none s at next = next ≡ at
  StandAll (more e es) s at next = (p : ℕ) × Stands e s at p × StandAll es s p next

-- the expression stands at a position, up to some other
pub record Placed (s : List ℕ) (at : ℕ) (e : Expr) : Type 0 where
  pub next : ℕ
  pub stands : Stands e s at next
