-- What a caller's loop keeps while it scans the expressions at a position, whatever it makes of the effects: what is pending leads
-- from the state now where all their effects lead from the first state.
-- Assumes nothing.
use mathlib.Core.Path.{◌≡◌, sym, ap, ◌∙◌}
use mathlib.Core.Bool.{false}
use mathlib.Core.List.{List, [], ◌∷◌, ◌++◌}
use Prim.Native.Nat.{ℕ, ◌≤◌}
use lib.ListN.{length}
use Rattle.tables.specs.Tables.{Tables}
use Rattle.image_body.specs.Expr.{Exprs}
use Rattle.image_body.specs.Stands.{StandAll, count}
use Rattle.image_body.specs.Depth.{depth_all}
use Rattle.rules.specs.Effects.{Raw, group}
use Rattle.expressions_effects.specs.Asked.{emits}
use Rattle.expressions_steps.specs.Scan.{Stage, Stacked, pending, root_of, top_of, nodes_after, open_after, Goes}
use Rattle.expressions_steps.specs.declared.Open.{Open}
use Rattle.expressions_steps.specs.declared.Step.{Step}
use Rattle.expressions_steps.proofs.Start.{root, starts, start-tells, finished}

-- `run` is the caller's: the state after raw effects
module _ {S : Type 0} (run : List Raw → S → S) (T : Tables) (s : List ℕ) (k at : ℕ) (old : S) where
  pub record Ahead (os : List Open) (n p : ℕ) (now : S) (es : Exprs) (next : ℕ) : Type 0 where
    pub frames : List Stage
    pub stacked : Stacked os n frames s p next
    pub same : run (pending T frames) now ≡ run (group T false es) old

  abbrev pub Follows : List Open → ℕ → ℕ → S → Type 0
  Follows os n p now = (es : Exprs) (next : ℕ) → StandAll es s at next → count es ≡ k → depth_all es ≤ 24 → Ahead os n p now es next

  pub follows-start : (os : List Open) → top_of os 1 ≡ root_of k → at ≤ length s → Follows os 1 at old
  follows-start os eo le es next st many d = record {
    frames = root es ∷ [];
    stacked = starts s os k at es next eo le st many d;
    same = ap (λ x. run x old) (start-tells T es);
  }

  -- one step, and the caller's answer to its effect
  pub follows_next : ((xs ys : List Raw) (x : S) → run (xs ++ ys) x ≡ run ys (run xs x))
      → (os : List Open) (n p : ℕ) (r : Step) (now then : S) → Goes T s os n p r → Follows os n p now → then ≡ run (emits r.effect) now
      → Follows (nodes_after os n r) (open_after n r) r.at then
  follows_next split os n p r now then g f et es next st many d =
      let a = f es next st many d in
      let x = g.steps a.frames next a.stacked in
      record {
        frames = x.after;
        stacked = x.stacked;
        same = ap (run (pending T x.after)) et ∙ sym (split (emits r.effect) (pending T x.after) now) ∙ ap (λ y. run y now) (sym x.tells) ∙ a.same;
      }

  -- no node is open: all effects are applied, and the position is the last expression's end
  pub follows-end : ((x : S) → run [] x ≡ x) → (os : List Open) (n p : ℕ) (now : S) → n ≤ 0 → Follows os n p now
      → (es : Exprs) (next : ℕ) → StandAll es s at next → count es ≡ k → depth_all es ≤ 24 → (now ≡ run (group T false es) old) × (p ≡ next)
  follows-end stay os n p now le f es next st many d =
      let a = f es next st many d in
      let z = finished T s os n p next a.frames le a.stacked in
      (sym (stay now) ∙ ap (λ y. run y now) (sym z.0) ∙ a.same, z.1)
