-- What the code hands out.
use Rattle.std.specs.Prelude.{ℕ, Bool, true, false, cond, List, [], ◌∷◌, eqb}
use Rattle.tables.specs.Tables.{Tables}
use Rattle.rules.specs.Effects.{Raw, uses, hands, gives, moves, moves_global, moves_none, hand_name}
use Rattle.expressions_effects.specs.declared.Effect.{Effect}
use Rattle.expressions_effects.specs.declared.Effect.TheVariants.{Nothing, Use, UseHand, Consume, Move, MoveTemp, BadMove, GlobalMove}

-- the raw effects that the code's effect stands for
abbrev pub emits : Effect → List Raw
emits Nothing = []
emits (Use n p) = uses n p ∷ []
emits (UseHand n p) = uses n p ∷ hands n p ∷ []
emits (Consume n p) = gives n p ∷ []
emits (Move n p) = moves n p false ∷ []
emits (MoveTemp n p) = moves n p true ∷ []
emits (BadMove p) = moves_none p ∷ []
emits (GlobalMove p def) = moves_global p def ∷ []

module _ (T : Tables) where
  -- a leaf's use and its hand-over, if it is handed over
  abbrev pub leaf : Bool → ℕ → ℕ → List Raw
  leaf b n p = uses n p ∷ cond b (hand_name T n p) []

  abbrev pub leaf_of : Bool → ℕ → ℕ → ℕ → List Raw
  leaf_of b tag arg span = cond (eqb tag 1) (leaf b arg span) (cond (eqb tag 2) (leaf b 0 span) [])
