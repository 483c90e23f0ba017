-- The numbers that the page is refused with.
-- Assumes nothing.
use Prim.Native.Nat.{ℕ, ◌<◌}
use native.Mathlib.Omega.{arith}
use mathlib.Core.Path.{◌≡◌, refl, sym}
use borrow.Author.Tests.{ltb-true, ltb-false}
use mathlib.Core.Bool.{Bool, true, false, cond}
use mathlib.Core.Logic.{◌⊎◌, inl, inr}
use mathlib.Core.List.{List}
use mathlib.Core.Option.{Option, none, some}
use lib.ListN.{length}
use lib.Dec.{leb}
use Rattle.tables.specs.Limits.{Limits}
use Rattle.image.specs.Image.{Image, Decoded, accepted, refused, decode}
use Rattle.image.proofs.Numbered.{fault-numbers}
use Rattle.rules.specs.Rules.{Switches, switches_of}
use Rattle.rules.specs.Report.{reports}
use Rattle.rules.specs.Walk.{image_fault}
use Rattle.rules.specs.Verdict.{too_high}
use Rattle.rules.proofs.Numbers.{Real, real-image, Number, high, low}
use Rattle.rules_page.specs.Page.{page_of}
use Rattle.rules_page.specs.Verdict.{refuses_page, writes, page_walked, page_decided, page_verdict}

-- from 1 to 13, 16, or 17, and that with a value of the switches above 15 and no other
abbrev pub PageFault : ℕ → ℕ → Type 0
PageFault v n = Number v 14 n ⊎ ((v < 16) × (n ≡ 16))

same : {m n : ℕ} → refuses_page m ≡ refuses_page n → m ≡ n
same e = cc

never : {C : Type 0} {p : List ℕ} {n : ℕ} → writes p ≡ refuses_page n → C
never e = let z : ◌≡◌ {A = ℕ} 0 1 = cc in absurd (omega arith)

module _ (L : Limits) (room v : ℕ) (s : List ℕ) (n : ℕ) where
  abbrev w : Switches
  w = switches_of v

  module _ (taken : v < 16) where
    fitted : (b : Bool) (page : List ℕ) → cond b (writes page) (refuses_page 16) ≡ refuses_page n → PageFault v n
    fitted true page h = never h
    fitted false page h = inr (taken, sym (same h))

    walked : (i : Image) (x : Option ℕ) → Real x → page_walked w room i x ≡ refuses_page n → PageFault v n
    walked i none r h = fitted (leb (length (page_of (reports w i))) room) (page_of (reports w i)) h
    walked i (some m) r h = let y : m ≡ n = same h in let k = r.is m refl in inl (low taken (omega (arith, k.0)) (omega (arith, k.1)))

    read : (d : Decoded) → decode L s ≡ d → page_decided L w room d ≡ refuses_page n → PageFault v n
    read (refused m) z h = let y : m ≡ n = same h in let k = fault-numbers L s m z in inl (low taken (omega (arith, k.0)) (omega (arith, k.1)))
    read (accepted i) z h = walked i (image_fault L w i) (real-image L w i) h

  pub page-numbers : page_verdict L room v s ≡ refuses_page n → PageFault v n
  unfolding page_verdict
  page-numbers e = go (too_high v) refl e
    where
      go : (b : Bool) → too_high v ≡ b → cond b (refuses_page 17) (page_decided L w room (decode L s)) ≡ refuses_page n → PageFault v n
      go true z h = inl (high (ltb-true 15 v z) (sym (same h)))
      go false z h = read (let k = ltb-false 15 v z in omega arith) (decode L s) refl h
