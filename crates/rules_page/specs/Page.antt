-- The page of what is reported (document 02, (a)): lines of 72 bytes and a line feed.
use Rattle.std.specs.Prelude.{ℕ, zero, suc, ◌+◌, ◌-◌, ◌/◌, ◌%◌, cond, length, get_or, replicate, ltb}
use Prim.Native.Char.{code}
use Prim.Native.String.{String, [] as end, ◌∷◌ as ◌then◌}
use mathlib.Core.List.{List, [], ◌∷◌, ◌++◌, flat_map, flatten}
use Rattle.rules.specs.Report.{Report, error, warning, left, errors, warnings, lefts}

-- the bytes of a text, all ASCII
unfoldable pub bytes : String → List ℕ
bytes end = []
bytes (c then s) = code c ∷ bytes s

-- the names of an error's kinds, from 1 on
unfoldable pub kind_names : List (List ℕ)
kind_names =
    bytes "deleted" ∷ bytes "moved" ∷ bytes "consumed"
    ∷ bytes "potentially deleted" ∷ bytes "potentially moved" ∷ bytes "potentially consumed"
    ∷ bytes "bad move" ∷ bytes "global moved" ∷ []

unfoldable pub kind_name : ℕ → List ℕ
kind_name k = get_or ([] ∷ kind_names) k []

-- blanks are spaces; bytes left or right in a width
unfoldable pub blanks : ℕ → List ℕ
blanks n = replicate n 32

unfoldable pub left_in : ℕ → List ℕ → List ℕ
left_in w xs = xs ++ blanks (w - length xs)

unfoldable pub right_in : ℕ → List ℕ → List ℕ
right_in w xs = blanks (w - length xs) ++ xs

-- the decimal digits of a number, the last k of them; every number here is below 4294967296, and ten are all of its digits
unfoldable pub last_digits : ℕ → ℕ → List ℕ
last_digits zero n = []
last_digits (suc k) n = cond (ltb n 10) [] (last_digits k (n / 10)) ++ ((48 + n % 10) ∷ [])

unfoldable pub digits : ℕ → List ℕ
digits n = last_digits 10 n

-- a place, an offset, a name's number or a birth
unfoldable pub column : ℕ → List ℕ
column n = right_in 12 (digits n)

-- what an entry's first line begins with, 36 columns: the name and the place
unfoldable pub head : List ℕ → ℕ → List ℕ
head name p = left_in 24 name ++ column p

-- a line: 36 columns, up to three other places, blank up to column 72, and a line feed
unfoldable pub line : List ℕ → List ℕ → List ℕ
line h ps = left_in 72 (h ++ flat_map column ps) ++ (10 ∷ [])

-- the lines of an entry: three other places on each, and from the second on the first 36 columns blank
unfoldable pub lines : List ℕ → List ℕ → List (List ℕ)
lines h [] = line h [] ∷ []
lines h (a ∷ []) = line h (a ∷ []) ∷ []
lines h (a ∷ b ∷ []) = line h (a ∷ b ∷ []) ∷ []
lines h (a ∷ b ∷ c ∷ []) = line h (a ∷ b ∷ c ∷ []) ∷ []
lines h (a ∷ b ∷ c ∷ d ∷ ps) = line h (a ∷ b ∷ c ∷ []) ∷ lines (blanks 36) (d ∷ ps)

-- the place or span first; as other places an error's, a warning's offset, the name's number and the birth of what is left behind (02, d); no
-- hint is shown
unfoldable pub entry : Report → List (List ℕ)
entry (error k p h ps) = lines (head (kind_name k) p) ps
entry (warning s o) = lines (head (bytes "unused result") s) (o ∷ [])
entry (left s n b) = lines (head (bytes "left behind") s) (n ∷ b ∷ [])

-- errors, warnings and left-behind entries, each in walking order
unfoldable pub page_lines : List Report → List (List ℕ)
page_lines rs = flat_map entry (errors rs) ++ (flat_map entry (warnings rs) ++ flat_map entry (lefts rs))

unfoldable pub page_of : List Report → List ℕ
page_of rs = flatten (page_lines rs)
