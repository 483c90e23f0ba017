-- Lines behind an entry's first.
use Rattle.std.specs.Prelude.{ℕ, List, [], ◌∷◌}
use Rattle.rules_page.specs.Page.{blanks, lines}

-- the lines that continue an entry with these places, none if there are none
unfoldable pub further_lines : List ℕ → List (List ℕ)
further_lines [] = []
further_lines (p ∷ ps) = lines (blanks 36) (p ∷ ps)
