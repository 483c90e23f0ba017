-- The numbers of states: 0 Alive, else the kind of error that a use reports (document 01): 1 deleted, 2 moved, 3 consumed, 4 to 6
-- the same potentially.
use Rattle.std.specs.Prelude.{ℕ, ◌+◌, ◌-◌, Bool, cond, not, ◌&&◌, List, eqb, ltb}
use Rattle.rules.specs.State.{Kind, deleted, moved, consumed, State, alive, gone, is_alive}

-- the number of the same kind, surely
abbrev pub base_of : ℕ → ℕ
base_of k = cond (ltb 3 k) (k - 3) k

abbrev pub kind_of : ℕ → Kind
kind_of k = cond (eqb (base_of k) 1) deleted (cond (eqb (base_of k) 2) moved consumed)

-- the state of a number and its places
abbrev pub said : ℕ → List ℕ → State
said k ps = cond (eqb k 0) alive (gone (ltb 3 k) (kind_of k) ps)

-- conditionalize_state
abbrev pub conditional : ℕ → ℕ
conditional k = cond (eqb k 0) 0 (cond (ltb 3 k) k (k + 3))

-- is_delete_family, is_move_family: of one family that family's, else Consumed; if w, two potential ones of a family stay so (02, e, switch 3)
abbrev pub family : Bool → ℕ → ℕ → ℕ
family w a b = cond (eqb (base_of a) (base_of b)) (cond (w && (ltb 3 a && ltb 3 b)) a (base_of a)) 3

-- a new state, or where `only` a new one for what is Alive only
abbrev pub put : Bool → State → State → State
put only new a = cond (only && not (is_alive a)) a new
