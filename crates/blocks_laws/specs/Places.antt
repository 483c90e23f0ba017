-- The places behind a block's head and behind a flag.
use Rattle.std.specs.Prelude.{ℕ, ◌+◌}
use Rattle.statements_acts.specs.declared.Place.{Place}

-- behind a block's head, whose count is stored at gap later
abbrev pub headed : Place → ℕ → Place
headed p gap = record { at = p.at + 6; last = p.at + 6; written = gap + 2; errors = p.errors; warnings = p.warnings; lefts = p.lefts; inserted = 0; fits = p.fits; paged = p.paged }

-- behind a flag
abbrev pub flagged : Place → ℕ → Place
flagged p written = record { at = p.at + 1; last = p.last; written = written; errors = p.errors; warnings = p.warnings; lefts = p.lefts; inserted = p.inserted; fits = p.fits; paged = p.paged }
