-- What was stored between two places, one part after another.
-- Assumes nothing.
use Prim.Native.Nat.{ℕ, ◌≤◌}
use native.Mathlib.Omega.{arith}
use mathlib.Core.Path.{◌≡◌, refl, sym, ap, ◌∙◌, subst}
use mathlib.Core.Bool.{Bool, true, false, ◌&&◌}
use mathlib.Core.List.{List, [], ◌++◌}
use lib.ListN.{length, length-append}
use Rattle.tables.specs.Limits.{version1}
use Rattle.rules.specs.Report.{Report, errors, warnings, lefts}
use Rattle.rules.specs.Verdict.{entries_of}
use Rattle.image_writing.specs.Stored.{Stored}
use Rattle.image_writing.proofs.Stores.{none-stored, both_stored}
use Rattle.image_lines.proofs.Cursors.{lined-length}
use Rattle.image_lines.proofs.Told.{lined-both, lined-same}
use Rattle.expressions_scan.proofs.Entries.{entries-append}
use Rattle.statements_steps.specs.Own.{Own, nothing, both}
use Rattle.statements_steps.proofs.Lists.{errors-append, warnings-append, lefts-append}
use Rattle.statements_acts.specs.declared.Place.{Place}
use Rattle.statements_acts.specs.Act.{Within, Grows, cursors_at}
use Rattle.image_writing.specs.Memory.{Memory}
use Rattle.blocks_laws.specs.Walks.{Wrote}

-- another list of the same numbers
pub stored-as : {xs ys u v : List ℕ} {i j : ℕ} → v ≡ u → Stored xs i u ys j → Stored xs i v ys j
stored-as {xs} {ys} {u} {v} {i} {j} e a = subst (λ (w : List ℕ). Stored xs i w ys j) (sym e) a

stored-both : (f : List Report → List Report) → ((xs ys : List Report) → f (xs ++ ys) ≡ f xs ++ f ys) → (a b : List Report) {xs ys zs : List ℕ} {i j k : ℕ}
    → Stored xs i (entries_of version1 (f a)) ys j → Stored ys j (entries_of version1 (f b)) zs k → Stored xs i (entries_of version1 (f (a ++ b))) zs k
stored-both f over a b p q = stored-as (ap (entries_of version1) (over a b) ∙ entries-append (f a) (f b)) (both_stored p q)

pub and_left : (a b : Bool) → (a && b) ≡ true → a ≡ true
and_left true b e = refl
and_left false b e = e

and_assoc : (a b c : Bool) → ((a && b) && c) ≡ (a && (b && c))
and_assoc true b c = refl
and_assoc false b c = refl

pub and_none : (a : Bool) → a ≡ (a && true)
and_none true = refl
and_none false = refl

pub wrote-both : {a b : Own} {p q r : Place} {m n o : Memory} → Wrote a p m q n → Wrote b q n r o → Wrote (both a b) p m r o
wrote-both {a} {b} {p} {q} {r} {m} x y = record {
  bytes = λ n e. both_stored (x.bytes n (and_left q.fits b.fits (sym y.fits ∙ e))) (y.bytes (x.paged ∙ n) e);
  errors = λ n. stored-both errors errors-append a.reports b.reports (x.errors n) (y.errors (x.paged ∙ n));
  warnings = λ n. stored-both warnings warnings-append a.reports b.reports (x.warnings n) (y.warnings (x.paged ∙ n));
  lefts = λ n. stored-both lefts lefts-append a.reports b.reports (x.lefts n) (y.lefts (x.paged ∙ n));
  lines = λ z h.
      let u = x.lines z h in
      let l = lined-length (cursors_at p) a.reports m.out in
      let k = ap length u.cells in
      lined-both u (y.lines (x.paged ∙ z) (omega (arith, x.long)));
  long = let l = length-append a.bytes b.bytes in omega (arith, x.long, y.long);
  fits = y.fits ∙ ap (λ (z : Bool). z && b.fits) x.fits ∙ and_assoc p.fits a.fits b.fits;
  paged = y.paged ∙ x.paged;
}

-- two places that agree on what is stored
pub record Alike (p q : Place) : Type 0 where
  pub written : p.written ≡ q.written
  pub errors : p.errors ≡ q.errors
  pub warnings : p.warnings ≡ q.warnings
  pub lefts : p.lefts ≡ q.lefts
  pub fits : p.fits ≡ q.fits
  pub paged : p.paged ≡ q.paged

pub wrote_nothing : {p q : Place} {m : Memory} → Alike p q → Wrote nothing p m q m
wrote_nothing {p} {q} {m} e = record {
  bytes = λ n h. subst (Stored m.out p.written [] m.out) e.written (none-stored m.out p.written);
  errors = λ n. subst (Stored m.errs p.errors [] m.errs) e.errors (none-stored m.errs p.errors);
  warnings = λ n. subst (Stored m.warns p.warnings [] m.warns) e.warnings (none-stored m.warns p.warnings);
  lefts = λ n. subst (Stored m.lefts p.lefts [] m.lefts) e.lefts (none-stored m.lefts p.lefts);
  lines = λ y h. lined-same refl (rw (e.errors, e.warnings, e.lefts));
  long = let w = e.written in omega arith;
  fits = sym e.fits ∙ and_none p.fits;
  paged = sym e.paged;
}

-- the same, told otherwise
pub wrote_as : {a b : Own} {p q : Place} {m n : Memory} → b ≡ a → Wrote a p m q n → Wrote b p m q n
wrote_as {a} {b} {p} {q} {m} {n} e x = subst (λ (o : Own). Wrote o p m q n) (sym e) x

-- bounds
pub grows-both : {s : List ℕ} {p q r : Place} → Grows s p q → Grows s q r → Grows s p r
grows-both a b = record {
  on = omega (arith, a.on, b.on);
  inside = b.inside;
  written = omega (arith, a.written, b.written);
  errors = omega (arith, a.errors, b.errors);
  warnings = omega (arith, a.warnings, b.warnings);
  lefts = omega (arith, a.lefts, b.lefts);
  inserted = omega (arith, a.inserted, b.inserted);
}

pub grows_none : {s : List ℕ} {p : Place} → p.at ≤ length s → Grows s p p
grows_none h = record { on = omega arith; inside = h; written = omega arith; errors = omega arith; warnings = omega arith; lefts = omega arith; inserted = omega arith }

pub within_on : {s : List ℕ} {p q : Place} → Within s p → Grows s p q → Within s q
within_on w g = record {
  small = w.small;
  inside = g.inside;
  written = omega (arith, w.written, g.written);
  errors = omega (arith, w.errors, g.errors);
  warnings = omega (arith, w.warnings, g.warnings);
  lefts = omega (arith, w.lefts, g.lefts);
  inserted = omega (arith, w.inserted, g.inserted);
}
