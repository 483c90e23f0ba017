-- The start and the end of a scan, for the loop that holds the array; and that a step leads on.
use mathlib.Core.Path.{◌≡◌, refl, sym, ap, ◌∙◌}
use mathlib.Core.Bool.{false}
use mathlib.Core.Logic.{inl}
use mathlib.Core.List.{List, [], ◌∷◌, append-nil}
use Prim.Native.Nat.{ℕ, ◌≤◌}
use native.Mathlib.Omega.{arith}
use lib.ListN.{length, length-set}
use Rattle.tables.specs.Tables.{Tables}
use Rattle.image_body.specs.Expr.{Exprs, node, none, last_width}
use Rattle.image_body.specs.Stands.{StandAll, count}
use Rattle.image_body.specs.Depth.{depth_all, WalkableAll}
use Rattle.image_body.proofs.Standing.{end-all}
use Rattle.rules.specs.Effects.{handed, takes, group, finish}
use Rattle.expressions_steps.specs.Scan.{Stage, Fits, Stacked, rest, pending, root_of, top_of, Ready, Goes, nodes_with, nodes_after, open_after}
use Rattle.expressions_steps.specs.declared.Open.{Open}
use Rattle.expressions_steps.specs.declared.Step.{Step}
use Rattle.expressions_steps.specs.declared.Innermost.{Innermost}
use Rattle.expressions_steps.specs.declared.Innermost.TheVariants.{Ends, Stays, Opens}

-- the start: the expressions are the children of a node of tag 0
abbrev pub root : Exprs → Stage
root es = record {
  code = root_of (count es);
  whole = node (record { tag = 0; span = 0; ty = 0; arg = 0 }) es none;
  kids = es;
  items = none;
}

pub start-tells : (T : Tables) (es : Exprs) → pending T (root es ∷ []) ≡ group T false es
unfolding pending rest group finish handed takes
start-tells T es = append-nil _ ∙ append-nil _

root-fits : (s : List ℕ) (at : ℕ) (es : Exprs) (next : ℕ) → at ≤ length s → StandAll es s at next → depth_all es ≤ 24 → Fits s (root es) 0 at next
unfolding StandAll depth_all last_width
root-fits s at es next le st d =
    record {
      tag = refl;
      tag16 = omega arith;
      left = refl;
      once = inl refl;
      placed = λ z. absurd (omega arith);
      start = omega arith;
      a = next;
      u = next;
      kids = st;
      number = refl;
      items = omega arith;
      end = omega arith;
      inside = end-all es s at next le st;
      low-kids = omega arith;
      low-items = omega arith;
    }

-- an array that starts with the root
pub starts : (s : List ℕ) (os : List Open) (k at : ℕ) (es : Exprs) (next : ℕ) → top_of os 1 ≡ root_of k → at ≤ length s → StandAll es s at next → count es ≡ k
    → depth_all es ≤ 24 → Stacked os 1 (root es ∷ []) s at next
unfolding Stacked
starts s os k at es next eo le st many d = (0, next, refl, eo ∙ ap root_of (sym many), root-fits s at es next le st d, (refl, refl))

-- the end: nothing is pending, and the position is the end
pub finished : (T : Tables) (s : List ℕ) (os : List Open) (n p e : ℕ) (frames : List Stage) → n ≤ 0 → Stacked os n frames s p e
    → (pending T frames ≡ []) × (p ≡ e)
unfolding Stacked pending
finished T s os n p e [] le g = (refl, g.1)
finished T s os n p e (f ∷ fs) le g = let z = g.2 in absurd (omega arith)

pub ready-start : (s : List ℕ) (os : List Open) (k at : ℕ) → top_of os 1 ≡ root_of k → length os ≡ 26 → at ≤ length s → WalkableAll s 24 k at → length s ≤ 65536
    → Ready s os 1 at
ready-start s os k at eo room le w small = record {
  frames = root w.es ∷ [];
  end = w.next;
  stacked = starts s os k at w.es w.next eo le w.stand w.many w.shallow;
  room = room;
  small = small;
}

room-after : (os : List Open) (n : ℕ) (i : Innermost) → length os ≡ 26 → length (nodes_with os n i) ≡ 26
room-after os n Ends h = h
room-after os n (Stays o) h = simp length-set h
room-after os n (Opens o i) h = simp length-set h

pub ready-next : (T : Tables) (s : List ℕ) (os : List Open) (n p : ℕ) (r : Step) → Ready s os n p → Goes T s os n p r
    → Ready s (nodes_after os n r) (open_after n r) r.at
ready-next T s os n p r k g =
    let x = g.steps k.frames k.end k.stacked in
    record { frames = x.after; end = k.end; stacked = x.stacked; room = room-after os n r.innermost k.room; small = k.small }

few-nodes : (s : List ℕ) (os : List Open) (n p e : ℕ) (frames : List Stage) → Stacked os n frames s p e → n ≤ 25
unfolding Stacked
few-nodes s os n p e [] g = let z = g.0 in omega arith
few-nodes s os n p e (f ∷ fs) g = let z = g.2 in let l = g.4.low-kids in omega arith

-- at most 25 nodes are open
pub few : (s : List ℕ) (os : List Open) (n p : ℕ) → Ready s os n p → n ≤ 25
few s os n p k = few-nodes s os n p k.end k.frames k.stacked
