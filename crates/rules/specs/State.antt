-- OwnershipState: the seven states and their join.
use Rattle.std.specs.Prelude.{ℕ, Bool, true, false, cond, ◌&&◌, List, [], ◌∷◌, ◌++◌, ◌==◌, nat_eq}
use Rattle.std.specs.Bool.{beq}
use Rattle.image_fields.specs.Table.{member}

pub data Kind : Type 0 where
  deleted moved consumed : Kind

-- `gone c k ps` is Deleted, Moved or Consumed, by k, at the places ps; ConditionallyDeleted, .. if c
pub data State : Type 0 where
  alive : State
  gone : Bool → Kind → List ℕ → State

abbrev pub is_alive : State → Bool
is_alive alive = true
is_alive (gone c k ps) = false

-- mark_compiler_temp_consumed: moves what is Alive only
abbrev pub hand_state : ℕ → State → State
hand_state p alive = gone false moved (p ∷ [])
hand_state p (gone c k ps) = gone c k ps

abbrev pub kind_eq : Kind → Kind → Bool
kind_eq deleted deleted = true
kind_eq deleted moved = false
kind_eq deleted consumed = false
kind_eq moved deleted = false
kind_eq moved moved = true
kind_eq moved consumed = false
kind_eq consumed deleted = false
kind_eq consumed moved = false
kind_eq consumed consumed = true

-- the same places in the same order
abbrev pub places_eq : List ℕ → List ℕ → Bool
places_eq [] [] = true
places_eq [] (b ∷ bs) = false
places_eq (a ∷ xs) [] = false
places_eq (a ∷ xs) (b ∷ bs) = a == b && places_eq xs bs

-- combine_spans: the first places, then the second's new ones
abbrev pub combine : List ℕ → List ℕ → List ℕ
combine ps [] = ps
combine ps (q ∷ qs) = combine (cond (member nat_eq ps q) ps (ps ++ (q ∷ []))) qs

-- is_delete_family, is_move_family: of one family that family's, else Consumed
abbrev pub join_kind : Kind → Kind → Kind
join_kind deleted deleted = deleted
join_kind deleted moved = consumed
join_kind deleted consumed = consumed
join_kind moved deleted = consumed
join_kind moved moved = moved
join_kind moved consumed = consumed
join_kind consumed deleted = consumed
join_kind consumed moved = consumed
join_kind consumed consumed = consumed

-- merge_join_state, with conditionalize_state: then's state, else's state. If b, two conditional states of one family join to a
-- conditional one (02, e, switch 3)
abbrev pub join_state : Bool → State → State → State
join_state b alive alive = alive
join_state b alive (gone c k ps) = gone true k ps
join_state b (gone c k ps) alive = gone true k ps
join_state b (gone c k ps) (gone c' k' ps') =
    cond (beq c c' && kind_eq k k' && places_eq ps ps') (gone c k ps) (gone (b && c && c' && kind_eq k k') (join_kind k k') (combine ps ps'))
