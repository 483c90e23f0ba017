-- The outcome of a verdict, and what it leaves in the memory lent (document 01, "Faults" and "What is reported").
use Rattle.std.specs.Prelude.{ℕ, ◌/◌, ◌≡◌, List, ◌++◌, length, drop, Result, Ok, Err}
use Rattle.image_fields.specs.declared.Fault.{Fault}
use Rattle.image_fields.specs.Fault.{coded}
use Rattle.tables.specs.Limits.{version1}
use Rattle.rules.specs.Verdict.{Lent, Verdict, refuses, answers, pass_verdict}
use Rattle.image_writing.specs.Memory.{Memory, memory}
use Rattle.entries_verdict.specs.declared.Totals.{Totals}

-- the memory lent, in what is counted: bytes, and entries of 12, 2 (document 01) and 3 numbers (document 02, (d))
abbrev pub lent_of : Memory → Lent
lent_of m = record { bytes = length m.out; errors = length m.errs / 12; warnings = length m.warns / 2; lefts = length m.lefts / 3 }

-- the outcome of a verdict, a fault by its number
abbrev pub outcome_of : Verdict → Result Totals ℕ
outcome_of (refuses n) = Err n
outcome_of (answers a) = Ok (record { written = length a.output; errors = a.error_count; warnings = a.warning_count; lefts = a.left_count })

-- numbers in front, the rest as it was
abbrev pub over : List ℕ → List ℕ → List ℕ
over xs old = xs ++ drop (length xs) old

-- the memory after a verdict: on a fault nothing is changed
abbrev pub memory_after : Verdict → Memory → Memory
memory_after (refuses n) m = m
memory_after (answers a) m = memory (over a.output m.out) (over a.error_numbers m.errs) (over a.warning_numbers m.warns) (over a.left_numbers m.lefts)

-- the verdict on an image with that memory lent, given the value of the switches
abbrev pub verdict_on : ℕ → List ℕ → Memory → Verdict
verdict_on value s m = pass_verdict version1 (lent_of m) value s

-- the entry that gives back the body: its outcome, and the memory after it
pub record Passes (value : ℕ) (s : List ℕ) (m : Memory) (r : Result Totals Fault) (m' : Memory) : Type 0 where
  pub outcome : coded r ≡ outcome_of (verdict_on value s m)
  pub leaves : m' ≡ memory_after (verdict_on value s m) m
