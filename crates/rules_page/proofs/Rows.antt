-- Pages of some reports, as texts.
-- Assumes nothing.
use Prim.Native.String.{String}
use mathlib.Core.Path.{◌≡◌, refl}
use mathlib.Core.List.{List, [], ◌∷◌, map, flat_map, flatten}
use Rattle.rules.specs.Report.{Report, error, warning, left}
use Rattle.rules_page.specs.Page.{bytes, kind_names, kind_name, blanks, left_in, right_in, last_digits, digits, column, head, line, lines, entry, page_lines, page_of}

text-bytes : bytes "az09 ~\n" ≡ 97 ∷ 122 ∷ 48 ∷ 57 ∷ 32 ∷ 126 ∷ 10 ∷ []
unfolding bytes
text-bytes = refl

pub record Row : Type 0 where
  pub reports : List Report
  pub page : List String

abbrev row : List Report → List String → Row
row rs p = record { reports = rs; page = p }

abbrev pub rows : List Row
rows =
    -- a line of each kind; 3 is a hint
    row (error 1 41 0 (11 ∷ []) ∷ []) (
    "deleted                           41          11                        \n" ∷ [])
    ∷ row (error 2 42 0 (12 ∷ []) ∷ []) (
    "moved                             42          12                        \n" ∷ [])
    ∷ row (error 3 43 0 (13 ∷ []) ∷ []) (
    "consumed                          43          13                        \n" ∷ [])
    ∷ row (error 4 44 0 (14 ∷ []) ∷ []) (
    "potentially deleted               44          14                        \n" ∷ [])
    ∷ row (error 5 45 0 (15 ∷ []) ∷ []) (
    "potentially moved                 45          15                        \n" ∷ [])
    ∷ row (error 6 46 0 (16 ∷ []) ∷ []) (
    "potentially consumed              46          16                        \n" ∷ [])
    ∷ row (error 7 47 3 [] ∷ []) (
    "bad move                          47                                    \n" ∷ [])
    ∷ row (error 8 48 0 (9 ∷ []) ∷ []) (
    "global moved                      48           9                        \n" ∷ [])
    ∷ row (warning 21 350 ∷ []) (
    "unused result                     21         350                        \n" ∷ [])
    ∷ row (left 23 6 21 ∷ []) (
    "left behind                       23           6          21            \n" ∷ [])
    -- nothing to report: no byte
    ∷ row [] []
    -- 0, 1, 2, 3, 4, 6, 7 and 8 other places
    ∷ row (error 6 5 0 [] ∷ []) (
    "potentially consumed               5                                    \n" ∷ [])
    ∷ row (error 6 5 0 (1 ∷ []) ∷ []) (
    "potentially consumed               5           1                        \n" ∷ [])
    ∷ row (error 6 5 0 (1 ∷ 20 ∷ []) ∷ []) (
    "potentially consumed               5           1          20            \n" ∷ [])
    ∷ row (error 6 5 0 (1 ∷ 20 ∷ 300 ∷ []) ∷ []) (
    "potentially consumed               5           1          20         300\n" ∷ [])
    ∷ row (error 6 5 0 (1 ∷ 20 ∷ 300 ∷ 4000 ∷ []) ∷ []) (
    "potentially consumed               5           1          20         300\n" ∷
    "                                            4000                        \n" ∷ [])
    ∷ row (error 6 5 0 (1 ∷ 20 ∷ 300 ∷ 4000 ∷ 5 ∷ 60 ∷ []) ∷ []) (
    "potentially consumed               5           1          20         300\n" ∷
    "                                            4000           5          60\n" ∷ [])
    ∷ row (error 6 5 0 (1 ∷ 20 ∷ 300 ∷ 4000 ∷ 5 ∷ 60 ∷ 700 ∷ []) ∷ []) (
    "potentially consumed               5           1          20         300\n" ∷
    "                                            4000           5          60\n" ∷
    "                                             700                        \n" ∷ [])
    ∷ row (error 6 5 0 (1 ∷ 20 ∷ 300 ∷ 4000 ∷ 5 ∷ 60 ∷ 700 ∷ 8000 ∷ []) ∷ []) (
    "potentially consumed               5           1          20         300\n" ∷
    "                                            4000           5          60\n" ∷
    "                                             700        8000            \n" ∷ [])
    -- the largest number; the least, and numbers as they grow longer
    ∷ row (error 3 4294967295 0 (4294967295 ∷ 4294967295 ∷ 4294967295 ∷ []) ∷ []) (
    "consumed                  4294967295  4294967295  4294967295  4294967295\n" ∷ [])
    ∷ row (error 1 0 0 (9 ∷ 10 ∷ 99 ∷ []) ∷ error 5 100 0 (1000000000 ∷ []) ∷ []) (
    "deleted                            0           9          10          99\n" ∷
    "potentially moved                100  1000000000                        \n" ∷ [])
    -- errors, warnings, left-behind entries
    ∷ row (left 30 2 28 ∷ warning 11 400 ∷ error 2 7 0 (5 ∷ []) ∷ left 30 1 0 ∷ error 7 9 1 [] ∷ warning 12 500 ∷ []) (
    "moved                              7           5                        \n" ∷
    "bad move                           9                                    \n" ∷
    "unused result                     11         400                        \n" ∷
    "unused result                     12         500                        \n" ∷
    "left behind                       30           2          28            \n" ∷
    "left behind                       30           1           0            \n" ∷ [])
    ∷ []

rows-hold : map (λ r. page_of r.reports) rows ≡ map (λ r. flat_map bytes r.page) rows
unfolding flat_map flatten bytes kind_names kind_name blanks left_in right_in last_digits digits column head line lines entry page_lines page_of
rows-hold = refl
