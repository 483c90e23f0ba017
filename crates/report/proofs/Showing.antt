-- What is shown, from what the entry answers and leaves.
-- Assumes nothing.
use Prim.Native.Nat.{ℕ, ◌≤◌}
use native.Mathlib.Omega.{arith}
use mathlib.Core.Path.{◌≡◌, sym, ap, ◌∙◌, subst}
use mathlib.Core.List.{List, [], ◌∷◌, ◌++◌}
use lib.ListN.{length, length-append, take, drop}
use lib.Seq.{take-append_seam}
use Rattle.tables.specs.Limits.{version1}
use Rattle.rules_page.specs.Verdict.{PageVerdict, refuses_page, writes, page_verdict}
use Rattle.image_writing.specs.Stored.{Stored}
use Rattle.image_writing.proofs.Stores.{stored-length}
use Rattle.programs_text.specs.Text.{line, refused_word}
use Rattle.entries_verdict.specs.Passes.{over}
use Rattle.entries_verdict.proofs.Rooms.{stored-copied}
use Rattle.std.specs.Prelude.{Result, Ok, Err}
use Rattle.image_fields.specs.declared.Fault.{Fault}
use Rattle.image_fields.specs.Fault.{fault_number, coded}
use Rattle.entries_page.specs.Pages.{paged_of, page_after, page_on, Pages}
use Rattle.report.specs.Shown.{shown_of, Shows}

apart : (n m : ℕ) → ◌≡◌ {A = Result ℕ ℕ} (Err n) (Ok m) → ⊥
apart n m h = let z : ◌≡◌ {A = ℕ} 0 1 = cc in omega arith

refused-text : (v : PageVerdict) (n : ℕ) → Err n ≡ paged_of v → line refused_word (n ∷ []) ≡ shown_of v
refused-text (refuses_page m) n h = let e : n ≡ m = cc in ap (λ k. line refused_word (k ∷ [])) e
refused-text (writes page) n h = absurd (apart _ _ h)

written-text : (v : PageVerdict) (old : List ℕ) (n : ℕ) → Ok n ≡ paged_of v
    → (n ≤ length (page_after v old)) × (take n (page_after v old) ≡ shown_of v)
written-text (refuses_page m) old n h = absurd (apart _ _ (sym h))
written-text (writes page) old n h =
    let e : n ≡ length page = cc in
    let l = length-append page (drop (length page) old) in
    (omega arith, ap (λ k. take k (over page old)) e ∙ take-append_seam page (drop (length page) old))

module _ {s old new : List ℕ} {p : Result ℕ Fault} (lent : length old ≡ 2097152) (g : Pages 0 s old p new) where
  decided : page_on 0 s old ≡ page_verdict version1 2097152 0 s
  decided = ap (λ k. page_verdict version1 k 0 s) lent

  pub shown-page : {n : ℕ} → p ≡ Ok n → Shows s new n
  shown-page {n} e =
      let w = written-text (page_on 0 s old) old n (sym (ap coded e) ∙ g.outcome) in
      record {
        inside = subst (λ l. n ≤ length l) (sym g.leaves) w.0;
        text = ap (take n) g.leaves ∙ w.1 ∙ ap shown_of decided;
      }

  pub shown-refused : {f : Fault} {n r : ℕ} {text : List ℕ} → p ≡ Err f → n ≡ fault_number f → Stored new 0 (line refused_word (n ∷ [])) text r → r ≤ length new
      → Shows s text r
  shown-refused {f} {n} {r} {text} e en a h = record {
    inside = omega (arith, h, stored-length a);
    text = stored-copied a h ∙ refused-text (page_on 0 s old) n (ap Err en ∙ sym (ap coded e) ∙ g.outcome) ∙ ap shown_of decided;
  }
