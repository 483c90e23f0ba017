-- What the rows of joined states hold: reading and writing one, the join of two branches, and copies.
use Rattle.std.specs.Prelude.{ℕ, ◌+◌, ◌≤◌, ◌<◌, ◌^◌, ◌≡◌, Bool, true, false, List, ◌⊎◌, ltb, length, get_or, Result, Ok, Err}
use Rattle.image_fields.specs.declared.Fault.TheVariants.{Places}
use Rattle.tables.specs.Limits.{Limits}
use Rattle.rules.specs.State.{State as Status, join_state}
use Rattle.rules.specs.Rules.{joining, joins}
use Rattle.rules.specs.Walk.{places_of, crowded}
use Rattle.scope_stack.specs.declared.Locals.{Locals}
use Rattle.scope_stack.specs.declared.States.{States}
use Rattle.scope_stack.specs.declared.Entry.{Entry}
use Rattle.scope_rows.specs.declared.Stop.{Stop}
use Rattle.scope_rows.specs.declared.Stop.TheVariants.{Fault, Rows}
use Rattle.scope_stack.specs.View.{row_of, row_at, said_at, view, Known, Held, Rowed}

-- not in the rows from `at` up to `end`
abbrev pub Outside : ℕ → ℕ → ℕ → Type 0
Outside at end k = (k < at) ⊎ (end ≤ k)

-- the same numbers but there
pub record Else (at end : ℕ) (old new : List ℕ) : Type 0 where
  pub room : length new ≡ length old
  pub same : (k : ℕ) → Outside at end k → get_or new k 0 ≡ get_or old k 0

-- a row of these places was written
pub record Wrote (old : List ℕ) (row : ℕ) (ps : List ℕ) (new : List ℕ) : Type 0 where
  pub rest : Else row (row + (length ps + 1)) old new
  pub is : row_at new row ≡ ps
  pub count : get_or new row 0 ≡ length ps

-- what two branches say of a local; k: two conditional states of one family stay so (02, e, switch 3)
abbrev pub join_of : Bool → Entry → Entry → List ℕ → ℕ → ℕ → Status
join_of k x y rows row more = join_state k (said_at rows row x) (said_at rows more y)

-- more places than a row has room for
abbrev pub over : ℕ → Status → Bool
over width a = ltb width (length (places_of a))

-- a kind whose row, if it has one, fits the places of the crate scope_state
abbrev pub Loads : List ℕ → ℕ → ℕ → Type 0
Loads rows at k = Known rows (get_or rows at 0) at k × (9 ≤ k → get_or rows at 0 ≤ 8)

-- two states that need no join: Alive, or the same with the same one place
pub record Alike (x y : Entry) : Type 0 where
  pub kind : y.kind ≡ x.kind
  pub single : x.kind < 8
  pub first : (x.kind ≡ 0) ⊎ (y.first ≡ x.first)

-- the joined state, with its row at the first's; or it has too many places, or the rows end before its row does
pub record JoinsAt (k : Bool) (width : ℕ) (x y : Entry) (rows : List ℕ) (row more : ℕ) (r : Result Entry Stop) (new : List ℕ) : Type 0 where
  pub rest : Else row (row + (width + 1)) rows new
  pub is : (z : Entry) → r ≡ Ok z → (said_at new row z ≡ join_of k x y rows row more) × Known new width row z.kind × (over width (join_of k x y rows row more) ≡ false)
  pub crowd : r ≡ Err (Fault Places) → over width (join_of k x y rows row more) ≡ true
  pub short : r ≡ Err Rows → length rows < row + (width + 1)
  pub two : (e : Stop) → r ≡ Err e → (e ≡ Fault Places) ⊎ (e ≡ Rows)

-- two branches of n locals, with their rows at a and b, which lie apart
pub record Branches (n width : ℕ) (t u : States) (rows : List ℕ) (a b : ℕ) : Type 0 where
  pub held : Held t
  pub other : Held u
  pub rowed : Rowed n t rows a width
  pub other_rowed : Rowed n u rows b width
  pub small : n ≤ 64
  pub one : 1 ≤ width
  pub wide : width ≤ 8
  pub apart : (row_of a width n ≤ b) ⊎ (row_of b width n ≤ a)
  pub fits : (row_of a width n < 2 ^ 64) × (row_of b width n < 2 ^ 64)

-- the states after both branches, with their rows at a; or a state has too many places, or the rows end too early
pub record JoinsAll (k : Bool) (n width : ℕ) (t u : States) (rows : List ℕ) (a b : ℕ) (r : Result States Stop) (new : List ℕ) : Type 0 where
  pub rest : Else a (row_of a width n) rows new
  pub held : (s : States) → r ≡ Ok s → Held s
  pub rowed : (s : States) → r ≡ Ok s → Rowed n s new a width
  pub is : (s : States) → r ≡ Ok s → (l : Locals) → l.count ≡ n → view l s new a width ≡ joins (joining k) (view l t rows a width) (view l u rows b width)
  pub calm : (s : States) → r ≡ Ok s → (L : Limits) → L.places ≡ width → (l : Locals) → l.count ≡ n → crowded L (joins (joining k) (view l t rows a width) (view l u rows b width)) ≡ false
  pub crowd : r ≡ Err (Fault Places) → (L : Limits) → L.places ≡ width → (l : Locals) → l.count ≡ n → crowded L (joins (joining k) (view l t rows a width) (view l u rows b width)) ≡ true
  pub short : r ≡ Err Rows → length rows < row_of a width n
  pub two : (e : Stop) → r ≡ Err e → (e ≡ Fault Places) ⊎ (e ≡ Rows)

-- states whose rows are to be copied from a place to another, which lie apart
pub record Copied (n width : ℕ) (kinds rows : List ℕ) (src dst : ℕ) : Type 0 where
  pub small : n ≤ 64
  pub wide : width ≤ 8
  pub known : (i : ℕ) → i < n → Known rows width (row_of src width i) (get_or kinds i 0)
  pub apart : (row_of src width n ≤ dst) ⊎ (row_of dst width n ≤ src)
  pub fits : (row_of src width n < 2 ^ 64) × (row_of dst width n < 2 ^ 64)

-- the rows of n locals stand at the other place too, or the rows end before these do: before the one of some local that has a row
pub record Copies (n width : ℕ) (kinds rows : List ℕ) (src dst : ℕ) (ok : Bool) (new : List ℕ) : Type 0 where
  pub rest : Else dst (row_of dst width n) rows new
  pub is : ok ≡ true → (i : ℕ) → i < n → (first : ℕ)
      → said_at new (row_of dst width i) (record { kind = get_or kinds i 0; first = first }) ≡ said_at rows (row_of src width i) (record { kind = get_or kinds i 0; first = first })
  pub known : ok ≡ true → (i : ℕ) → i < n → Known new width (row_of dst width i) (get_or kinds i 0)
  pub short : ok ≡ false → length rows < row_of dst width n
  pub why : ok ≡ false → (i : ℕ) × (i < n) × (9 ≤ get_or kinds i 0) × (length rows ≤ row_of dst width i + width)
