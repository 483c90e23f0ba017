-- What an entry answers (document 01, "Faults" and "What is reported"; 02, e), from the value of the switches, the image's bytes and the
-- lengths lent: 17 or the first fault of the table, or the totals, the bytes and the lists.
use Rattle.std.specs.Prelude.{ℕ, ◌+◌, ◌≤◌, Bool, true, cond, ◌&&◌, List, [], ◌∷◌, ◌++◌, length, take, replicate, nat_le, nat_lt}
use Rattle.std.proofs.Math.Option.{Option, some}
use Rattle.tables.specs.Limits.{Limits}
use Rattle.image_encoding.specs.Body.{size}
use Rattle.image_body.specs.Stmt.{Tree, done, expr_stmt, variable, assign, return, bare_return, block, if_else, if_then, while, jump}
use Rattle.image.specs.Image.{Image, Decoded, accepted, refused, decode, encode}
use Rattle.rules.specs.Rules.{Switches, switches_of}
use Rattle.rules.specs.Report.{Report, error, warning, left, reports, errors, warnings, lefts, returned_image}
use Rattle.rules.specs.Room.{room_bound}
use Rattle.rules.specs.Walk.{image_fault}

-- what is lent: bytes of output, and entries of each list
pub record Lent : Type 0 where
  pub bytes : ℕ
  pub errors : ℕ
  pub warnings : ℕ
  pub lefts : ℕ

-- an entry of a list as numbers. An error: kind, place, hint, how many other places, and these with zeros up to the limit
abbrev pub entry_of : Limits → Report → List ℕ
entry_of L (error k p h ps) = k ∷ p ∷ h ∷ length ps ∷ take L.places (ps ++ replicate L.places 0)
entry_of L (warning s o) = s ∷ o ∷ []
entry_of L (left s n b) = s ∷ n ∷ b ∷ []

abbrev pub entries_of : Limits → List Report → List ℕ
entries_of L [] = []
entries_of L (r ∷ rs) = entry_of L r ++ entries_of L rs

-- the answer of an accepted image: the output's bytes, and the lists with how many entries each has
pub record Answer : Type 0 where
  pub output : List ℕ
  pub error_count : ℕ
  pub warning_count : ℕ
  pub left_count : ℕ
  pub error_numbers : List ℕ
  pub warning_numbers : List ℕ
  pub left_numbers : List ℕ

abbrev pub answer_of : Limits → Switches → Image → Answer
answer_of L w i = record {
  output = encode L (returned_image w i);
  error_count = length (errors (reports w i));
  warning_count = length (warnings (reports w i));
  left_count = length (lefts (reports w i));
  error_numbers = entries_of L (errors (reports w i));
  warning_numbers = entries_of L (warnings (reports w i));
  left_numbers = entries_of L (lefts (reports w i));
}

-- every block counts at most so many statements
unfoldable pub counts_fit : ℕ → Tree → Bool
counts_fit m (done x) = true
counts_fit m (expr_stmt s e y r) = counts_fit m r
counts_fit m (variable k s n t e r) = counts_fit m r
counts_fit m (assign s e v t x r) = counts_fit m r
counts_fit m (return s e t x r) = counts_fit m r
counts_fit m (bare_return s t x r) = counts_fit m r
counts_fit m (block s c r) = nat_le (size c) m && counts_fit m c && counts_fit m r
counts_fit m (if_else s e ts t us u r) = nat_le (size t) m && nat_le (size u) m && counts_fit m t && counts_fit m u && counts_fit m r
counts_fit m (if_then s e ts t r) = nat_le (size t) m && counts_fit m t && counts_fit m r
counts_fit m (while s e ts t r) = nat_le (size t) m && counts_fit m t && counts_fit m r
counts_fit m (jump k s x r) = counts_fit m r

abbrev pub image_counts_fit : ℕ → Image → Bool
image_counts_fit m i = nat_le (size i.body.code) m && counts_fit m i.body.code

pub data Verdict : Type 0 where
  refuses : ℕ → Verdict
  answers : Answer → Verdict

-- 14: errors, warnings or left-behind entries outnumber those lent
abbrev pub lists_fit : Lent → Answer → Bool
lists_fit lent a = nat_le a.error_count lent.errors && nat_le a.warning_count lent.warnings && nat_le a.left_count lent.lefts

-- 15: the image does not fit the bytes lent, or a block would count over 65,535 statements
abbrev pub output_fits : Switches → Lent → Image → Answer → Bool
output_fits w lent i a = nat_le (length a.output) lent.bytes && image_counts_fit 65535 (returned_image w i)

-- lists, then output
abbrev pub fitted : Switches → Lent → Image → Answer → Verdict
fitted w lent i a = cond (lists_fit lent a) (cond (output_fits w lent i a) (answers a) (refuses 15)) (refuses 14)

-- faults 12 and 13, then the lists
abbrev pub walked : Limits → Switches → Lent → Image → Option ℕ → Verdict
walked L w lent i (some n) = refuses n
walked L w lent i Option.none = fitted w lent i (answer_of L w i)

abbrev pub decided : Limits → Switches → Lent → Decoded → Verdict
decided L w lent (refused n) = refuses n
decided L w lent (accepted i) = walked L w lent i (image_fault L w i)

-- 17, before the head's checks: a switch value above 15 (02, e)
abbrev pub too_high : ℕ → Bool
too_high v = nat_lt 15 v

-- the entry that gives back the body, given the value of the switches
unfoldable pub pass_verdict : Limits → Lent → ℕ → List ℕ → Verdict
pass_verdict L lent v s = cond (too_high v) (refuses 17) (decided L (switches_of v) lent (decode L s))

-- the fault of the entry that answers the room: 17, then 1 to 13
abbrev pub room_fault_of : Limits → Switches → Decoded → Option ℕ
room_fault_of L w (refused n) = some n
room_fault_of L w (accepted i) = image_fault L w i

unfoldable pub room_fault : Limits → ℕ → List ℕ → Option ℕ
room_fault L v s = cond (too_high v) (some 17) (room_fault_of L (switches_of v) (decode L s))

-- Without a fault it answers a number that document 01 leaves free within these bounds
pub record RoomFor (L : Limits) (w : Switches) (s : List ℕ) (i : Image) (n : ℕ) : Type 0 where
  pub enough : length (encode L (returned_image w i)) ≤ n
  pub most : n ≤ length s + room_bound i.entry i.body
