-- Words and numbers as text (document 01, "What is reported").
use Rattle.std.specs.Prelude.{ℕ, zero, suc, ◌+◌, ◌/◌, ◌%◌, cond, List, [], ◌∷◌, ◌++◌, ltb}

-- the decimal digits of a number of at most k + 1 digits
unfoldable pub spell : ℕ → ℕ → List ℕ
spell zero n = (48 + n % 10) ∷ []
spell (suc k) n = cond (ltb n 10) ((48 + n) ∷ []) (spell k (n / 10) ++ ((48 + n % 10) ∷ []))

-- each number after a blank; a number of 64 bits has at most 20 digits
unfoldable pub numbers : List ℕ → List ℕ
numbers [] = []
numbers (n ∷ ns) = (32 ∷ spell 19 n) ++ numbers ns

abbrev pub line : List ℕ → List ℕ → List ℕ
line word ns = word ++ (numbers ns ++ (10 ∷ []))

abbrev pub refused_word : List ℕ
refused_word = 114 ∷ 101 ∷ 102 ∷ 117 ∷ 115 ∷ 101 ∷ 100 ∷ []
