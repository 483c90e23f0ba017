-- Open nodes and what they have still to hand out.
use Rattle.std.specs.Prelude.{ℕ, suc, ◌+◌, ◌-◌, ◌*◌, ◌≤◌, ◌<◌, ◌≡◌, List, [], ◌∷◌, ◌++◌, ◌⊎◌, length, get_or, set}
use Rattle.image_fields.specs.Number.{number_in}
use Rattle.tables.specs.Tables.{Tables}
use Rattle.image_body.specs.Expr.{Expr, Exprs, last_width, head_of}
use Rattle.image_body.specs.Stands.{StandAll, Placed, count}
use Rattle.image_body.specs.Depth.{depth_all}
use Rattle.rules.specs.Effects.{handed, Raw, group, finish}
use Rattle.expressions_effects.specs.Asked.{emits}
use Rattle.expressions_steps.specs.declared.Open.{Open}
use Rattle.expressions_steps.specs.declared.Step.{Step}
use Rattle.expressions_steps.specs.declared.Innermost.{Innermost}
use Rattle.expressions_steps.specs.declared.Innermost.TheVariants.{Ends, Stays, Opens}

abbrev pub blank : Open
blank = record { start = 0; left = 0; tag = 0; counted = 0 }

-- an open node: what the code has of it, the node, what is left of the children being scanned, and the items, if their count is
-- still to come
pub record Stage : Type 0 where
  pub code : Open
  pub whole : Expr
  pub kids : Exprs
  pub items : Exprs

-- the open node is the m-th from the outermost; what is left of it stands from p to q
pub record Fits (s : List ℕ) (f : Stage) (m p q : ℕ) : Type 0 where
  pub tag : f.code.tag ≡ (head_of f.whole).tag
  pub tag16 : f.code.tag < 16
  pub left : f.code.left ≡ count f.kids
  pub once : (f.code.counted ≡ 0) ⊎ (f.code.counted ≡ 2)
  pub placed : 0 < f.code.tag → Placed s f.code.start f.whole
  pub start : f.code.start ≤ length s
  pub a : ℕ
  pub u : ℕ
  pub kids : StandAll f.kids s p a
  pub number : count f.items ≡ number_in s f.code.counted a
  pub items : StandAll f.items s (a + f.code.counted) u
  pub end : q ≡ u + get_or last_width f.code.tag 0
  pub inside : q ≤ length s
  pub low-kids : depth_all f.kids + m ≤ 24
  pub low-items : depth_all f.items + m ≤ 24

-- the first n of the array are the open nodes, innermost first in the list; from p the last of them ends at e
unfoldable pub Stacked : List Open → ℕ → List Stage → List ℕ → ℕ → ℕ → Type 0
Stacked os n [] s p e = (n ≡ 0) × (p ≡ e)
Stacked os n (f ∷ fs) s p e = (m : ℕ) × (q : ℕ) × (n ≡ suc m) × (get_or os m blank ≡ f.code) × Fits s f m p q × Stacked os m fs s q e

module _ (T : Tables) where
  unfoldable pub rest : Stage → List Raw
  rest f =
      group T (handed f.code.counted f.code.tag) f.kids
      ++ (group T (handed 0 f.code.tag) f.items ++ finish T f.whole)

  unfoldable pub pending : List Stage → List Raw
  pending [] = []
  pending (f ∷ fs) = rest f ++ pending fs

-- whoever holds k expressions
abbrev pub root_of : ℕ → Open
root_of k = record { start = 0; left = k; tag = 0; counted = 0 }

-- the innermost open node
abbrev pub top_of : List Open → ℕ → Open
top_of os n = get_or os (n - 1) blank

-- an array of open nodes and a position that the scanner can go on from
pub record Ready (s : List ℕ) (os : List Open) (n p : ℕ) : Type 0 where
  pub frames : List Stage
  pub end : ℕ
  pub stacked : Stacked os n frames s p end
  pub room : length os ≡ 26
  pub small : length s ≤ 65536

-- the innermost open node of some such array
pub record Waits (s : List ℕ) (o : Open) (p : ℕ) : Type 0 where
  pub os : List Open
  pub n : ℕ
  pub ready : Ready s os n p
  pub some : 0 < n
  pub is : top_of os n ≡ o

-- the array of open nodes, and how many there are in place of the innermost one, once that became so
abbrev pub nodes_with : List Open → ℕ → Innermost → List Open
nodes_with os n Ends = os
nodes_with os n (Stays o) = set os (n - 1) o
nodes_with os n (Opens o i) = set (set os (n - 1) o) n i

abbrev pub held_by : Innermost → ℕ
held_by Ends = 0
held_by (Stays o) = 1
held_by (Opens o i) = 2

-- the array and the number of open nodes after a step
abbrev pub nodes_after : List Open → ℕ → Step → List Open
nodes_after os n r = nodes_with os n r.innermost

abbrev pub open_after : ℕ → Step → ℕ
open_after n r = n - 1 + held_by r.innermost

-- one step: what was pending is what the step hands out and what is pending after it; the end is the same
pub record Next (T : Tables) (s : List ℕ) (os : List Open) (n : ℕ) (r : Step) (frames : List Stage) (end : ℕ) : Type 0 where
  pub after : List Stage
  pub stacked : Stacked (nodes_after os n r) (open_after n r) after s r.at end
  pub tells : pending T frames ≡ emits r.effect ++ pending T after

abbrev pub fuel : List ℕ → ℕ → ℕ → ℕ
fuel s n p = 2 * (length s - p) + n

pub record Goes (T : Tables) (s : List ℕ) (os : List Open) (n p : ℕ) (r : Step) : Type 0 where
  pub steps : (frames : List Stage) (end : ℕ) → Stacked os n frames s p end → Next T s os n r frames end
  pub held : held_by r.innermost ≤ 2
  pub index : n ≤ 25
  pub falls : fuel s (open_after n r) r.at < fuel s n p
