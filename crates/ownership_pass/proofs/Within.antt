-- The totals of an accepted image are within what was lent: what a caller that reads the lists asks.
-- Assumes nothing.
use Prim.Native.Nat.{ℕ, ◌*◌, ◌/◌, ◌≤◌}
use native.Mathlib.Omega.{arith}
use mathlib.Core.Path.{◌≡◌, refl, sym, ap, ◌∙◌}
use mathlib.Core.Bool.{Bool, true, false, cond, ◌&&◌}
use mathlib.Core.List.{List}
use mathlib.Core.Option.{Option, none, some}
use borrow.Author.Tests.{leb-true}
use lib.Dec.{leb}
use lib.ListN.{length}
use Rattle.tables.specs.Limits.{version1}
use Rattle.image.specs.Image.{Image, Decoded, accepted, refused, decode}
use Rattle.rules.specs.Rules.{switches_of}
use Rattle.rules.specs.Report.{returned_image}
use Rattle.rules.specs.Walk.{image_fault}
use Rattle.rules.specs.Verdict.{Answer, answer_of, refuses, answers, image_counts_fit, fitted, walked, decided, too_high, pass_verdict}
use Rattle.image_writing.specs.Memory.{Memory}
use Rattle.entries_verdict.specs.declared.Totals.{Totals}
use Rattle.std.specs.Prelude.{Result, Ok, Err}
use Rattle.image_fields.specs.declared.Fault.{Fault}
use Rattle.image_fields.specs.Fault.{coded}
use Rattle.entries_verdict.specs.Passes.{lent_of, outcome_of, Passes}

pub record Within (m : Memory) (t : Totals) : Type 0 where
  pub written : t.written ≤ length m.out
  pub errors : 12 * t.errors ≤ length m.errs
  pub warnings : 2 * t.warnings ≤ length m.warns
  pub lefts : 3 * t.lefts ≤ length m.lefts

refused-never : (n : ℕ) (t : Totals) → ◌≡◌ {A = Result Totals ℕ} (Err n) (Ok t) → ⊥
refused-never n t h = let z : ◌≡◌ {A = ℕ} 0 1 = cc in omega arith

module _ (value : ℕ) (m : Memory) (t : Totals) where
  fitted-within : (i : Image) (a : Answer) → outcome_of (fitted (switches_of value) (lent_of m) i a) ≡ Ok t → Within m t
  fitted-within i a =
      go _ _ _ _ (image_counts_fit 65535 (returned_image (switches_of value) i)) refl refl refl refl
    where
      go : (e w l b f : Bool)
          → leb a.error_count (length m.errs / 12) ≡ e → leb a.warning_count (length m.warns / 2) ≡ w
          → leb a.left_count (length m.lefts / 3) ≡ l → leb (length a.output) (length m.out) ≡ b
          → outcome_of (cond (e && w && l) (cond (b && f) (answers a) (refuses 15)) (refuses 14)) ≡ Ok t → Within m t
      go true true true true true p q r s h =
          let z : record { written = length a.output; errors = a.error_count; warnings = a.warning_count; lefts = a.left_count } ≡ t = cc in
          let zb = ap (λ (x : Totals). x.written) z in
          let ze = ap (λ (x : Totals). x.errors) z in
          let zw = ap (λ (x : Totals). x.warnings) z in
          let zl = ap (λ (x : Totals). x.lefts) z in
          let pe = leb-true a.error_count (length m.errs / 12) p in
          let pw = leb-true a.warning_count (length m.warns / 2) q in
          let pl = leb-true a.left_count (length m.lefts / 3) r in
          let pb = leb-true (length a.output) (length m.out) s in
          record { written = omega arith; errors = omega arith; warnings = omega arith; lefts = omega arith }
      go true true true true false p q r s h = absurd (refused-never 15 t h)
      go true true true false f p q r s h = absurd (refused-never 15 t h)
      go true true false b f p q r s h = absurd (refused-never 14 t h)
      go true false l b f p q r s h = absurd (refused-never 14 t h)
      go false w l b f p q r s h = absurd (refused-never 14 t h)

  walked-within : (i : Image) (x : Option ℕ) → outcome_of (walked version1 (switches_of value) (lent_of m) i x) ≡ Ok t → Within m t
  walked-within i none h = fitted-within i (answer_of version1 (switches_of value) i) h
  walked-within i (some n) h = absurd (refused-never n t h)

  decided-within : (d : Decoded) → outcome_of (decided version1 (switches_of value) (lent_of m) d) ≡ Ok t → Within m t
  decided-within (accepted i) h = walked-within i (image_fault version1 (switches_of value) i) h
  decided-within (refused n) h = absurd (refused-never n t h)

  pub within : (s : List ℕ) {r : Result Totals Fault} {m' : Memory} → Passes value s m r m' → r ≡ Ok t → Within m t
  unfolding pass_verdict
  within s g h = high (too_high value) (sym g.outcome ∙ ap coded h)
    where
      high : (b : Bool) → outcome_of (cond b (refuses 17) (decided version1 (switches_of value) (lent_of m) (decode version1 s))) ≡ Ok t → Within m t
      high true e = absurd (refused-never 17 t e)
      high false e = decided-within (decode version1 s) e
