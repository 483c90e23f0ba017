-- The page of an image is its verdict's.
-- Assumes nothing.
use Prim.Native.Nat.{ℕ, ◌+◌, ◌≤◌, ◌<◌}
use native.Mathlib.Omega.{arith}
use mathlib.Core.Path.{◌≡◌, refl, sym, ap, ◌∙◌}
use mathlib.Core.Bool.{Bool, true, cond}
use mathlib.Core.List.{List, ◌++◌, append-nil}
use mathlib.Core.Option.{Option, none, some}
use borrow.Author.Tests.{lt-ltb, lt-leb, le-leb}
use lib.ListN.{length, drop, take, drop_of_length-le}
use Rattle.std.specs.Prelude.{Result, Ok, Err}
use Rattle.std.proofs.lemmas.Result.{IfOk-at_ok}
use Rattle.image_fields.specs.declared.Fault.{Fault}
use Rattle.image_fields.specs.declared.Fault.TheVariants.{Page, Switches as Unknown}
use Rattle.image_fields.specs.Fault.{fault_number, coded}
use Rattle.tables.specs.Limits.{version1}
use Rattle.image.specs.Image.{Image, accepted, refused, decode}
use Rattle.rules.specs.Rules.{switches_of}
use Rattle.rules.specs.Report.{Report, reports}
use Rattle.rules.specs.Walk.{image_fault}
use Rattle.rules.proofs.Numbers.{real-image}
use Rattle.statements_steps.proofs.Faults.{real-none}
use Rattle.rules_page.specs.Page.{page_of}
use Rattle.rules_page.specs.Verdict.{PageVerdict, refuses_page, writes, page_walked, page_decided, page_verdict}
use Rattle.statements_steps.specs.Own.{number_of}
use Rattle.statements_acts.specs.Act.{cursors_at}
use Rattle.image_lines.specs.Told.{Lined}
use Rattle.scope_rows.specs.declared.Stop.{Stop}
use Rattle.image_lines.specs.Lined.{Cursors, cursors, lined, starts, onward_all}
use Rattle.image_lines.proofs.Cursors.{starts-measured, length-measured, lined-whole}
use Rattle.entries_verdict.proofs.Rooms.{not-high}
use Rattle.statements_acts.specs.declared.Place.{Place}
use Rattle.entries_image.specs.Images.{number_in, Measures, PageWalks}
use Rattle.entries_image.proofs.Whole.{fault-bounds, walk-came}
use Rattle.entries_page.specs.Pages.{paged_of, page_after, page_on, Pages}

-- from a verdict
pages-of : (value : ℕ) (s page : List ℕ) (v : PageVerdict) → page_on value s page ≡ v → (r : Result ℕ Fault) (page' : List ℕ) → coded r ≡ paged_of v → page' ≡ page_after v page → Pages value s page r page'
pages-of value s page v e r page' er ep = record { outcome = er ∙ ap paged_of (sym e); leaves = ep ∙ ap (λ (x : PageVerdict). page_after x page) (sym e) }

module _ (value : ℕ) (s page : List ℕ) where
  -- a value of the switches above 15, and up to it
  pub pages-value : 15 < value → Pages value s page (Err Unknown) page
  unfolding page_verdict
  pages-value h = pages-of value s page (refuses_page 17) (ap (λ (b : Bool). cond b (refuses_page 17) (page_decided version1 (switches_of value) (length page) (decode version1 s))) (lt-ltb 15 value h)) (Err Unknown) page refl refl

  module _ (low : value ≤ 15) where
    -- an image that was not read
    pub pages-unread : (f : Fault) → decode version1 s ≡ refused (fault_number f) → Pages value s page (Err f) page
    unfolding page_verdict
    pages-unread f e = pages-of value s page (refuses_page (fault_number f)) (not-high value low (refuses_page 17) (page_decided version1 (switches_of value) (length page) (decode version1 s)) ∙ ap (page_decided version1 (switches_of value) (length page)) e) (Err f) page refl refl

    module _ (i : Image) (read : decode version1 s ≡ accepted i) where
      verdict-of : (x : Option ℕ) → image_fault version1 (switches_of value) i ≡ x → page_on value s page ≡ page_walked (switches_of value) (length page) i x
      unfolding page_verdict
      verdict-of x e = not-high value low (refuses_page 17) (page_decided version1 (switches_of value) (length page) (decode version1 s)) ∙ ap (page_decided version1 (switches_of value) (length page)) read ∙ ap (page_walked (switches_of value) (length page) i) e

      abbrev rs : List Report
      rs = reports (switches_of value) i

      -- a fault of the walk
      module _ (f : Fault) (m : Measures (switches_of value) s true (Err f)) where
        found : fault_number f ≡ number_of (image_fault version1 (switches_of value) i)
        found = (m.walks i read).0

        faulty : (x : Option ℕ) → image_fault version1 (switches_of value) i ≡ x → Pages value s page (Err f) page
        faulty none e = let z : fault_number f ≡ 0 = found ∙ ap number_of e in absurd (omega (arith, (fault-bounds f).0))
        faulty (some n) e = pages-of value s page (refuses_page n) (verdict-of (some n) e) (Err f) page (ap Err (found ∙ ap number_of e)) refl

        pub pages-fault : Pages value s page (Err f) page
        pages-fault = faulty (image_fault version1 (switches_of value) i) refl

      -- none
      module _ (p : Place) (m : Measures (switches_of value) s true (Ok p)) where
        pub no-fault : image_fault version1 (switches_of value) i ≡ none
        no-fault = real-none (image_fault version1 (switches_of value) i) (real-image version1 (switches_of value) i) (sym (m.walks i read).0)

        measured : cursors_at p ≡ onward_all (cursors 0 0 0) rs
        measured = (m.walks i read).1.1 refl

        begun : starts rs ≡ cursors 0 p.errors (p.errors + p.warnings)
        begun = starts-measured rs ∙ ap (λ (c : Cursors). cursors 0 c.errors (c.errors + c.warnings)) (sym measured)

        long : length (page_of rs) ≡ p.errors + p.warnings + p.lefts
        long = length-measured rs ∙ ap (λ (c : Cursors). c.errors + c.warnings + c.lefts) (sym measured)

        fitted : (v : PageVerdict) → page_walked (switches_of value) (length page) i none ≡ v → page_on value s page ≡ v
        fitted v e = verdict-of none no-fault ∙ e

        -- it does not fit
        pub pages-short : length page < p.errors + p.warnings + p.lefts → Pages value s page (Err Page) page
        pages-short l =
            pages-of value s page (refuses_page 16) (fitted (refuses_page 16) (rw (lt-leb (length (page_of rs)) (length page) (let k = long in omega arith)))) (Err Page) page refl refl

        -- it is written over the bytes in front
        pub pages-written : (end : ℕ) → end ≡ p.errors + p.warnings + p.lefts → end ≤ length page → (part page' : List ℕ)
            → part ≡ lined (cursors 0 p.errors (p.errors + p.warnings)) rs (take end page) → page' ≡ part ++ drop end page → length (take end page) ≡ end
            → Pages value s page (Ok end) page'
        pages-written end ee le part page' ep el lt =
            let k : length (page_of rs) ≡ end = long ∙ sym ee in
            let a : part ≡ page_of rs = ep ∙ ap (λ (c : Cursors). lined c rs (take end page)) (sym begun) ∙ lined-whole rs (take end page) (omega arith)
            ∙ ap (λ (x : List ℕ). page_of rs ++ x) (drop_of_length-le (take end page) {i = length (page_of rs)} (omega arith)) ∙ append-nil (page_of rs) in
            let v = fitted (writes (page_of rs)) (rw (le-leb (length (page_of rs)) (length page) (omega arith))) in
            pages-of value s page (writes (page_of rs)) v (Ok end) page' (ap Ok (sym k)) (el ∙ ap (λ (x : List ℕ). x ++ drop end page) a ∙ ap (λ (n : ℕ). page_of rs ++ drop n page) (sym k))

-- the page that a walk without a fault wrote
pub page-lined : (value : ℕ) {w l rows : ℕ} {s page page' : List ℕ} (r : Result Place Stop) → PageWalks (switches_of value) s rows (cursors 0 w l) page r page' → (rows < 13248 → ⊥)
    → (i : Image) → decode version1 s ≡ accepted i → image_fault version1 (switches_of value) i ≡ none → page' ≡ lined (cursors 0 w l) (reports (switches_of value) i) page
page-lined value {w} {l} {page = page} {page'} r g many i e f =
    let x = g.walks (λ z. many (g.short z)) i e in
    let c = walk-came r (x.0 ∙ ap number_of f) in
    (IfOk-at_ok (λ q. Lined (cursors 0 w l) (reports (switches_of value) i) page (cursors_at q) page') c.1 x.1).cells
