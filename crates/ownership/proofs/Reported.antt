-- The text of an outcome, from the text of its parts.
-- Assumes nothing.
use Prim.Native.Nat.{ℕ, ◌*◌}
use mathlib.Core.Path.{◌≡◌, subst}
use mathlib.Core.List.{List, [], ◌∷◌}
use lib.ListN.{length}
use Rattle.image_writing.specs.Stored.{Stored}
use Rattle.image_writing.proofs.Stores.{both_stored}
use Rattle.image_writing.specs.Memory.{Memory}
use Rattle.entries_verdict.specs.Passes.{Passes}
use Rattle.entries_verdict.specs.declared.Totals.{Totals}
use Rattle.std.specs.Prelude.{Result, Ok, Err}
use Rattle.image_fields.specs.declared.Fault.{Fault}
use Rattle.image_fields.specs.Fault.{fault_number}
use Rattle.programs_text.specs.Text.{refused_word, line}
use Rattle.ownership.specs.Text.{accepted_word, warning_word, left_word, lines, error_line, entry_line, Reports}

-- what the program lends
pub record Lends (m : Memory) : Type 0 where
  pub bytes : length m.out ≡ 65536
  pub errors : length m.errs ≡ 12 * 256
  pub warnings : length m.warns ≡ 2 * 256
  pub lefts : length m.lefts ≡ 3 * 256

module _ {s old new : List ℕ} {r : ℕ} {o : Result Totals Fault} (lent after : Memory) (g : Lends lent) (p : Passes 0 s lent o after) where
  pub told-refused : {f : Fault} {n : ℕ} → o ≡ Err f → n ≡ fault_number f → Stored old 0 (line refused_word (n ∷ [])) new r → Reports s old new r
  told-refused {f} e en a = record {
    outcome = Err f;
    lent = lent;
    after = after;
    bytes = g.bytes;
    errors = g.errors;
    warnings = g.warnings;
    lefts = g.lefts;
    passes = subst (λ x. Passes 0 s lent x after) e p;
    stored = subst (λ k. Stored old 0 (line refused_word (k ∷ [])) new r) en a;
  }

  pub told-accepted : {t : Totals} {us vs ws : List ℕ} {i j k : ℕ} → o ≡ Ok t
      → Stored old 0 (line accepted_word (t.written ∷ t.errors ∷ t.warnings ∷ t.lefts ∷ [])) us i
      → Stored us i (lines (error_line after.errs) 12 t.errors 0) vs j
      → Stored vs j (lines (entry_line warning_word after.warns 2) 2 t.warnings 0) ws k
      → Stored ws k (lines (entry_line left_word after.lefts 3) 3 t.lefts 0) new r → Reports s old new r
  told-accepted {t} e a b c d = record {
    outcome = Ok t;
    lent = lent;
    after = after;
    bytes = g.bytes;
    errors = g.errors;
    warnings = g.warnings;
    lefts = g.lefts;
    passes = subst (λ x. Passes 0 s lent x after) e p;
    stored = both_stored a (both_stored b (both_stored c d));
  }
