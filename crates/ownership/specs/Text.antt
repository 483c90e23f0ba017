-- The text that the program writes (document 01, "What is reported").
use Rattle.std.specs.Prelude.{ℕ, zero, suc, ◌+◌, ◌*◌, min, ◌≡◌, List, [], ◌∷◌, ◌++◌, length, get_or, Result, Ok, Err}
use Rattle.std.proofs.Math.Seq.{slice}
use Rattle.image_writing.specs.Stored.{Stored}
use Rattle.image_writing.specs.Memory.{Memory}
use Rattle.programs_text.specs.Text.{line, refused_word}
use Rattle.entries_verdict.specs.Passes.{Passes}
use Rattle.image_fields.specs.declared.Fault.{Fault}
use Rattle.image_fields.specs.Fault.{fault_number}
use Rattle.entries_verdict.specs.declared.Totals.{Totals}

-- `error`, kind, place and hint, and as many other places as the entry counts
abbrev pub error_line : List ℕ → ℕ → List ℕ
error_line l at = line (101 ∷ 114 ∷ 114 ∷ 111 ∷ 114 ∷ []) (slice at (at + 3) l ++ slice (at + 4) (at + 4 + min (get_or l (at + 3) 0) 8) l)

-- a word and the numbers of an entry, so many
abbrev pub entry_line : List ℕ → List ℕ → ℕ → ℕ → List ℕ
entry_line word l width at = line word (slice at (at + width) l)

-- the lines of so many entries, each `stride` numbers after the one before
unfoldable pub lines : (ℕ → List ℕ) → ℕ → ℕ → ℕ → List ℕ
lines f stride zero at = []
lines f stride (suc n) at = f at ++ lines f stride n (at + stride)

abbrev pub accepted_word : List ℕ
accepted_word = 97 ∷ 99 ∷ 99 ∷ 101 ∷ 112 ∷ 116 ∷ 101 ∷ 100 ∷ []

abbrev pub warning_word : List ℕ
warning_word = 119 ∷ 97 ∷ 114 ∷ 110 ∷ 105 ∷ 110 ∷ 103 ∷ []

abbrev pub left_word : List ℕ
left_word = 108 ∷ 101 ∷ 102 ∷ 116 ∷ []

-- an outcome with the lists: the totals, then the entries; or the fault
abbrev pub text_of : Result Totals Fault → Memory → List ℕ
text_of (Err f) m = line refused_word (fault_number f ∷ [])
text_of (Ok t) m =
    line accepted_word (t.written ∷ t.errors ∷ t.warnings ∷ t.lefts ∷ [])
    ++ (lines (error_line m.errs) 12 t.errors 0 ++ (lines (entry_line warning_word m.warns 2) 2 t.warnings 0 ++ lines (entry_line left_word m.lefts 3) 3 t.lefts 0))

-- the text of what the pass answers and leaves with all switches off, 65,536 bytes and 256 entries a list lent
pub record Reports (s old new : List ℕ) (r : ℕ) : Type 0 where
  pub outcome : Result Totals Fault
  pub lent : Memory
  pub after : Memory
  pub bytes : length lent.out ≡ 65536
  pub errors : length lent.errs ≡ 12 * 256
  pub warnings : length lent.warns ≡ 2 * 256
  pub lefts : length lent.lefts ≡ 3 * 256
  pub passes : Passes 0 s lent outcome after
  pub stored : Stored old 0 (text_of outcome after) new r
