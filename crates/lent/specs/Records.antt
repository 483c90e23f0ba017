-- Report records (document 01, "What is reported": an error has kind, place, hint, a count of other places and room for 8).
use Rattle.std.specs.Prelude.{ℕ, zero, suc, ◌+◌, ◌*◌, ◌≡◌, Bool, cond, ◌||◌, List, [], ◌∷◌, ◌++◌, ltb, length, get_or, drop, Result, Ok, Err}
use Rattle.image_fields.specs.declared.Fault.{Fault}
use Rattle.image_fields.specs.Fault.{fault_number}
use Rattle.lent.specs.declared.Report.{Report}

-- the record of error i, of its 12 numbers
abbrev pub record_at : List ℕ → ℕ → Report
record_at ns i = record {
  kind = get_or ns (12 * i) 0;
  place = get_or ns (12 * i + 1) 0;
  hint = get_or ns (12 * i + 2) 0;
  count = get_or ns (12 * i + 3) 0;
  places = get_or ns (12 * i + 4) 0 ∷ get_or ns (12 * i + 5) 0 ∷ get_or ns (12 * i + 6) 0 ∷ get_or ns (12 * i + 7) 0
      ∷ get_or ns (12 * i + 8) 0 ∷ get_or ns (12 * i + 9) 0 ∷ get_or ns (12 * i + 10) 0 ∷ get_or ns (12 * i + 11) 0 ∷ [];
}

-- the records of the first so many errors
unfoldable pub records : List ℕ → ℕ → List Report
records ns zero = []
records ns (suc n) = records ns n ++ (record_at ns n ∷ [])

-- document 01, "Faults", 14: errors outnumber those lent. Fewer than 12 numbers an error answer it too: that document has no such case
abbrev pub too_few : List ℕ → ℕ → List Report → Bool
too_few ns n old = ltb (length old) n || ltb (length ns) (12 * n)

-- document 01, "Faults": a fault leaves the list untouched; else its first entries are determined, and the rest is unchanged
pub record Writes (ns : List ℕ) (n : ℕ) (old new : List Report) (fault : ℕ) : Type 0 where
  pub answer : fault ≡ cond (too_few ns n old) 14 0
  pub structs : new ≡ cond (too_few ns n old) old (records ns n ++ drop n old)

-- 0, or the fault's number
abbrev pub told_by : Result (Unit {0}) Fault → ℕ
told_by (Ok u) = 0
told_by (Err f) = fault_number f
