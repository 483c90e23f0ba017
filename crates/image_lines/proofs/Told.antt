-- Laws of reports that were stored, one part after another.
-- Assumes nothing.
use Prim.Native.Nat.{ℕ, ◌+◌, ◌≤◌}
use native.Mathlib.Omega.{arith}
use native.Mathlib.Nat.{add-zero}
use mathlib.Core.Path.{◌≡◌, refl, sym, ap, ◌∙◌, subst}
use mathlib.Core.Bool.{Bool, true, false}
use mathlib.Core.List.{List, [], ◌∷◌, ◌++◌, append_assoc, append-nil}
use lib.ListN.{length}
use lib.Seq.{sets}
use Rattle.image_fields.proofs.Tests.{false-true}
use Rattle.tables.specs.Limits.{version1}
use Rattle.rules.specs.Report.{Report, error, warning, left, errors, warnings, lefts}
use Rattle.rules.specs.Verdict.{entry_of, entries_of}
use Rattle.image_writing.specs.Stored.{Stored}
use Rattle.image_writing.proofs.Stores.{none-stored, both_stored, sets-out}
use Rattle.image_lines.specs.Lined.{shown, shown_all, Cursors, cursors, onward_all, lined}
use Rattle.image_lines.specs.Told.{Listed, Lined}
use Rattle.image_lines.proofs.Cursors.{shown-none, shown-more, shown-single, lined-append, onward-append, cursors-of, lined-errors as run-errors, lined-warnings as run-warnings, lined-lefts as run-lefts}

-- a run past the end changes nothing
pub past : {xs ys u : List ℕ} {i j : ℕ} → Stored xs i u ys j → length xs ≤ i → (ys ≡ xs) × (length ys ≤ j)
past {xs} {ys} {u} {i} {j} a h =
    let e : ys ≡ xs = a.cells ∙ sets-out xs i u h in
    let p = a.place in
    (e, let l = ap length e in omega arith)

pub true-false : true ≡ false → ⊥
true-false e = false-true (sym e)

entries-both : (xs ys : List Report) → entries_of version1 (xs ++ ys) ≡ entries_of version1 xs ++ entries_of version1 ys
entries-both [] ys = refl
entries-both (x ∷ xs) ys = rw (append_assoc, entries-both xs ys)

shown-append : (xs ys : List Report) → shown_all (xs ++ ys) ≡ shown_all xs ++ shown_all ys
shown-append [] ys = rw shown-none
shown-append (x ∷ xs) ys = rw (shown-more, shown-more, append_assoc, shown-append xs ys)

-- of one list
pub listed-none : (b : Bool) (list page : List ℕ) (at : ℕ) → Listed b [] list page at list page at
listed-none b list page at = record { numbers = λ e. (refl, none-stored list at); lines = λ e. rw shown-none (none-stored page at) }

-- of all three
pub lined-none : (c : Cursors) (page : List ℕ) → Lined c [] page c page
unfolding lined onward_all
lined-none c page = record { cells = refl; cursors = refl }

-- a page that nothing was stored in
pub lined-same : {c c' : Cursors} {page page' : List ℕ} → page' ≡ page → c' ≡ c → Lined c [] page c' page'
lined-same {c} {c'} {page} {page'} e f = subst (λ (x : List ℕ). Lined c [] page c' x) (sym e) (subst (λ (x : Cursors). Lined c [] page x page) (sym f) (lined-none c page))

pub lined-both : {c d e : Cursors} {xs ys : List Report} {page page' page'' : List ℕ} → Lined c xs page d page' → Lined d ys page' e page'' → Lined c (xs ++ ys) page e page''
lined-both {c} {d} {e} {xs} {ys} {page} {page'} a b = record {
  cells = b.cells ∙ ap (lined d ys) a.cells ∙ ap (λ (x : Cursors). lined x ys (lined c xs page)) a.cursors ∙ sym (lined-append c xs ys page);
  cursors = b.cursors ∙ ap (λ (x : Cursors). onward_all x ys) a.cursors ∙ sym (onward-append c xs ys);
}

-- reports of one list alone are a run of stores at its cursor
as-run : (c : Cursors) {rs some : List Report} {page page' : List ℕ} {at next : ℕ} → some ≡ rs → Stored page at (shown_all rs) page' next
    → lined c some page ≡ sets page at (shown_all some) → page' ≡ lined c rs page
as-run c {rs} {some} {page} {page'} {at} e s r =
    s.cells ∙ ap (λ (x : List Report). sets page at (shown_all x)) (sym e) ∙ sym r ∙ ap (λ (x : List Report). lined c x page) e

-- nothing shown of an empty list
none-shown : {rs : List Report} (n : ℕ) → rs ≡ [] → n ≡ n + length (shown_all rs)
none-shown n e = rw (e, shown-none, add-zero)

module _ (e w l : ℕ) {rs : List Report} {page page' : List ℕ} {next : ℕ} where
  pub lined-errors : errors rs ≡ rs → warnings rs ≡ [] → lefts rs ≡ [] → Stored page e (shown_all rs) page' next → Lined (cursors e w l) rs page (cursors next w l) page'
  lined-errors a b c s = record {
    cells = as-run (cursors e w l) a s (run-errors (cursors e w l) rs page);
    cursors = rw (s.place, cursors-of, a, sym (none-shown w b), sym (none-shown l c));
  }

  pub lined-warnings : errors rs ≡ [] → warnings rs ≡ rs → lefts rs ≡ [] → Stored page w (shown_all rs) page' next → Lined (cursors e w l) rs page (cursors e next l) page'
  lined-warnings a b c s = record {
    cells = as-run (cursors e w l) b s (run-warnings (cursors e w l) rs page);
    cursors = rw (s.place, cursors-of, b, sym (none-shown e a), sym (none-shown l c));
  }

  pub lined-lefts : errors rs ≡ [] → warnings rs ≡ [] → lefts rs ≡ rs → Stored page l (shown_all rs) page' next → Lined (cursors e w l) rs page (cursors e w next) page'
  lined-lefts a b c s = record {
    cells = as-run (cursors e w l) c s (run-lefts (cursors e w l) rs page);
    cursors = rw (s.place, cursors-of, c, sym (none-shown e a), sym (none-shown w b));
  }

-- reports without errors don't look at the cursor of errors
nil-cons : {A : Type 0} {x : A} {xs : List A} → x ∷ xs ≡ [] → ⊥
nil-cons {A} {x} {xs} e = let l = ap length e in omega arith

errorless : (e k w l : ℕ) (rs : List Report) (page : List ℕ) → errors rs ≡ [] → lined (cursors e w l) rs page ≡ lined (cursors k w l) rs page
unfolding lined
errorless e k w l [] page z = refl
errorless e k w l (error a p h ps ∷ rs) page z = absurd (nil-cons z)
errorless e k w l (warning s o ∷ rs) page z = errorless e k (w + length (shown (warning s o))) l rs (sets page w (shown (warning s o))) z
errorless e k w l (left s n b ∷ rs) page z = errorless e k w (l + length (shown (left s n b))) rs (sets page l (shown (left s n b))) z

pub lined-retold : (k : ℕ) {e w l e' w' l' : ℕ} {rs : List Report} {page page' : List ℕ} → errors rs ≡ []
    → Lined (cursors e w l) rs page (cursors e' w' l') page' → Lined (cursors k w l) rs page (cursors k w' l') page'
lined-retold k {e} {w} {l} {e'} {w'} {l'} {rs} {page} z a =
    let c = a.cursors ∙ cursors-of (cursors e w l) rs in
    record {
      cells = a.cells ∙ errorless e k w l rs page z;
      cursors = rw (ap (λ (x : Cursors). x.warnings) c, ap (λ (x : Cursors). x.lefts) c, cursors-of (cursors k w l) rs, sym (none-shown k z));
    }

-- one report
pub listed-lines : {b : Bool} {r : Report} {list page page' : List ℕ} {at next : ℕ} → b ≡ true → Stored page at (shown r) page' next → Listed b (r ∷ []) list page at list page' next
listed-lines {b} {r} {list} {page} {page'} {at} {next} y s = record {
  numbers = λ n. absurd (true-false (sym y ∙ n));
  lines = λ y. rw (shown-single r) s;
}

pub listed-numbers : {b : Bool} {r : Report} {list list' page : List ℕ} {at next : ℕ} → b ≡ false → Stored list at (entry_of version1 r) list' next → Listed b (r ∷ []) list page at list' page next
listed-numbers {b} {r} {list} {list'} {page} {at} {next} n s = record {
  numbers = λ n. (refl, subst (λ (v : List ℕ). Stored list at v list' next) (sym (append-nil (entry_of version1 r))) s);
  lines = λ y. absurd (true-false (sym y ∙ n));
}

-- of one list, one part after another
pub listed-both : {b : Bool} {xs ys : List Report} {l l' l'' p p' p'' : List ℕ} {i j k : ℕ} → Listed b xs l p i l' p' j → Listed b ys l' p' j l'' p'' k → Listed b (xs ++ ys) l p i l'' p'' k
listed-both {b} {xs} {ys} {l} {l'} {l''} {p} {p'} {p''} {i} {j} {k} x y = record {
  numbers = λ n.
      let u = x.numbers n in
      let v = y.numbers n in
      (v.0 ∙ u.0, subst (λ (z : List ℕ). Stored l i z l'' k) (sym (entries-both xs ys)) (both_stored u.1 v.1));
  lines = λ n. subst (λ (z : List ℕ). Stored p i z p'' k) (sym (shown-append xs ys)) (both_stored (x.lines n) (y.lines n));
}
