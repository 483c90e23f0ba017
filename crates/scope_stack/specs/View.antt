-- What Locals, States and the lent rows stand for together, and what every stack of the pass meets.
use Rattle.std.specs.Prelude.{◌≡◌, ℕ, ◌+◌, ◌^◌, ◌<◌, ◌≤◌, Bool, cond, ◌&&◌, List, [], ◌∷◌, length, ◌==◌, bit_and, slice_index, slice_index_or}
use Rattle.tables.specs.Tables.{Tables}
use Rattle.rules.specs.Questions.{auto}
use Rattle.rules.specs.State.{State as Status, is_alive}
use Rattle.rules.specs.Stack.{Static, local, Shape, mark, Stack as Scope}
use Rattle.scope_state.specs.Locals.{static_in, status_of, state_in, lent}
unfoldable pub use Rattle.scope_state.specs.Locals.{stacked}
pub use Rattle.scope_state.specs.Locals.{row_of, row_at}
use Rattle.scope_stack.specs.declared.Locals.{Locals}
use Rattle.scope_stack.specs.declared.States.{States}
use Rattle.scope_stack.specs.declared.Entry.{Entry}
use Rattle.scope_stack.specs.Word.{word_at}

abbrev pub static_at : Locals → ℕ → Static
static_at l = static_in l.names l.types l.depths l.births

abbrev pub entry_at : States → ℕ → Entry
entry_at t i = record { kind = slice_index t.kinds i; first = slice_index t.firsts i }

abbrev pub alive_at : States → ℕ → Bool
alive_at t i = slice_index t.kinds i == 0

-- the state of an entry whose row begins at `at`
abbrev pub said_at : List ℕ → ℕ → Entry → Status
said_at rows at e = status_of e.kind e.first rows at

abbrev pub state_at : States → List ℕ → ℕ → ℕ → ℕ → Status
state_at t = state_in t.kinds t.firsts

-- the rules' stack
abbrev pub view : Locals → States → List ℕ → ℕ → ℕ → Scope Status
view l t rows cur width = lent l.names l.types l.depths l.births (state_at t rows cur width) l.count

-- a row of two places or more, all within the rows
pub record Row (rows : List ℕ) (width at : ℕ) : Type 0 where
  pub few : 2 ≤ slice_index rows at
  pub most : slice_index_or rows at 0 ≤ width
  pub room : at + width < length rows

-- a kind as the pass makes it: 0 to 6, or 9 to 14 with a row
pub record Known (rows : List ℕ) (width at k : ℕ) : Type 0 where
  pub kind : k < 15
  pub single : k < 9 → k < 7
  pub row : 9 ≤ k → Row rows width at

-- the arrays of locals
pub record Kept (l : Locals) : Type 0 where
  pub small : l.count ≤ 64
  pub name_room : length l.names ≡ 64
  pub type_room : length l.types ≡ 64
  pub depth_room : length l.depths ≡ 64
  pub birth_room : length l.births ≡ 64
  pub dtor_room : l.dtors < 2 ^ l.count

-- the arrays of states: a bit of alive is set where the local is Alive
pub record Held (t : States) : Type 0 where
  pub kind_room : length t.kinds ≡ 64
  pub first_room : length t.firsts ≡ 64
  pub word : t.alive ≡ word_at 0 64 (alive_at t)

-- the states of n locals, with the rows that they need; what is past them is Alive
pub record Rowed (n : ℕ) (t : States) (rows : List ℕ) (cur width : ℕ) : Type 0 where
  pub known : (i : ℕ) → Known rows width (row_of cur width i) (slice_index t.kinds i)
  pub free : (i : ℕ) → n ≤ i → slice_index t.kinds i ≡ 0

-- a bit of dtors is set where the local's type has a destructor, and none at or past the count
abbrev pub dtor_at : Tables → Locals → ℕ → Bool
dtor_at T l i = auto T (slice_index l.types i)

abbrev pub Drops : Tables → Locals → Type 0
Drops T l = l.dtors ≡ word_at 0 l.count (dtor_at T l)

-- Alive, and of a type with a destructor
abbrev pub drop_in : Tables → List ℕ → (ℕ → Status) → ℕ → Bool
drop_in T types at i = is_alive (at i) && auto T (slice_index types i)

-- document 02, (b): the set bits of the mark of n locals are exactly those that are Alive and of a type with a destructor; no bit at or past n is set
abbrev pub Marked : Tables → List ℕ → (ℕ → Status) → ℕ → ℕ → Type 0
Marked T types at n mark = mark ≡ word_at 0 n (drop_in T types at)

-- the mark of a stack: the AND of the two words that are kept
abbrev pub mark_of : Locals → States → ℕ
mark_of l t = bit_and t.alive l.dtors

-- what every stack of the pass meets; P says which tables are those of the image
pub record Sound (P : Tables → Type 0) (l : Locals) (t : States) (rows : List ℕ) (cur width : ℕ) : Type 0 where
  pub kept : Kept l
  pub held : Held t
  pub rowed : Rowed l.count t rows cur width
  pub drops : (T : Tables) → P T → Drops T l
  pub marked : (T : Tables) → P T → Marked T l.types (state_at t rows cur width) l.count (mark_of l t)

-- frames: no local is deeper than d, and none than a newer one
abbrev pub Nested : ℕ → Shape → Type 0
Nested d [] = Unit {0}
Nested d (s ∷ Γ) = (s.depth ≤ d) × Nested s.depth Γ

-- the depth of the newest local of a name
abbrev pub depth_of : ℕ → Scope Status → ℕ
depth_of n [] = 0
depth_of n (local s a ∷ σ) = cond (s.name == n) s.depth (depth_of n σ)

-- one local more
pub record Grows (l : Locals) (s : Static) (dtor : Bool) (r : Locals) : Type 0 where
  pub kept : Kept r
  pub count : r.count ≡ l.count + 1
  pub new : static_at r l.count ≡ s
  pub older : (i : ℕ) → i < l.count → static_at r i ≡ static_at l i
  pub drops : (T : Tables) → dtor ≡ auto T s.ty → Drops T l → Drops T r

-- the innermost frame that has the name does f on what it says of it, wherever the rows stand
pub record Marks (l : Locals) (name : ℕ) (f : Status → Status) (t r : States) : Type 0 where
  pub is : (rows : List ℕ) (cur width : ℕ) → Rowed l.count t rows cur width → view l r rows cur width ≡ mark name f (view l t rows cur width)
  pub rowed : (rows : List ℕ) (cur width : ℕ) → Rowed l.count t rows cur width → Rowed l.count r rows cur width

-- a local of this name and depth
abbrev pub Named : List ℕ → List ℕ → ℕ → ℕ → ℕ → Type 0
Named names depths name depth i = (slice_index names i ≡ name) × (slice_index depths i ≡ depth)

-- the first n of m locals are left
pub record Leaves (n m : ℕ) (t r : States) : Type 0 where
  pub held : Held r
  pub older : (i : ℕ) → i < n → entry_at r i ≡ entry_at t i
  pub newer : (i : ℕ) → n ≤ i → i < m → slice_index r.kinds i ≡ 0
  pub past : (i : ℕ) → m ≤ i → entry_at r i ≡ entry_at t i
