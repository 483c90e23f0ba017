-- The numbers that C gets: 0 says that the image is accepted, and nothing else does.
-- Assumes nothing.
use Prim.Native.Nat.{ℕ, ◌≤◌, ◌<◌}
use native.Mathlib.Omega.{arith}
use mathlib.Core.Path.{◌≡◌, refl, sym, ap, ◌∙◌}
use mathlib.Core.Bool.{Bool, cond}
use borrow.Author.Tests.{lt-ltb}
use mathlib.Core.Logic.{◌↔◌, ◌⊎◌, inl, inr, ⊎_elim}
use mathlib.Core.List.{List}
use mathlib.Core.Option.{none, some}
use lib.ListN.{length}
use Rattle.tables.specs.Limits.{version1}
use Rattle.image.specs.Image.{decode}
use Rattle.image_fields.proofs.Tests.{less}
use Rattle.rules.specs.Rules.{switches_of}
use Rattle.rules.specs.Verdict.{Answer, Verdict, refuses, answers, decided, too_high, pass_verdict, room_fault_of, room_fault}
use Rattle.rules.proofs.Numbers.{Number, high, low, verdict-numbers, room-numbers}
use Rattle.image_writing.specs.Memory.{Memory}
use Rattle.std.specs.Prelude.{Result, Ok, Err}
use Rattle.image_fields.specs.declared.Fault.{Fault}
use Rattle.image_fields.specs.Fault.{fault_number, coded}
use Rattle.entries_image.specs.Images.{number_in}
use Rattle.entries_verdict.specs.declared.Totals.{Totals}
use Rattle.entries_verdict.specs.Passes.{Passes, lent_of, outcome_of, verdict_on}
use Rattle.rules_page.specs.Verdict.{PageVerdict, refuses_page, writes, page_decided, page_verdict}
use Rattle.entries_verdict.proofs.Rooms.{not-high}
use Rattle.rules_page.proofs.Numbers.{page-numbers}
use Rattle.entries_page.specs.Pages.{paged_of, page_on}
use Rattle.ownership_pass.specs.Entries.{answer_number, PassLeaves, RoomIs, RoomLeaves, PageLeaves}

never : {C : Type 0} → ◌≡◌ {A = ℕ} 0 1 → C
never z = absurd (omega arith)

-- a value of the switches that is not refused
taken : {A : Type 0} (value : ℕ) (x y z : A) → (x ≡ z → ⊥) → cond (too_high value) x y ≡ z → value < 16
taken value x y z other e =
    ⊎_elim (λ (h : 15 < value). absurd (other (sym (ap (λ (b : Bool). cond b x y) (lt-ltb 15 value h)) ∙ e))) (λ (h : value ≤ 15). omega arith) (less 15 value)

-- a number below a bound, or 17, and that with a value of the switches above 15 and no other
abbrev pub Answered : ℕ → ℕ → ℕ → Type 0
Answered value bound r = ((value < 16) × (r < bound)) ⊎ ((15 < value) × (r ≡ 17))

answered : {value bound n : ℕ} → Number value bound n → (r : ℕ) → r ≡ n → Answered value bound r × (0 < r)
answered (high v e) r h = (inr (v, h ∙ e), omega arith)
answered (low v l b) r h = (inl (v, omega arith), omega arith)

pub refused-positive : {value bound n : ℕ} → Number value bound n → 0 < n
refused-positive {n = n} k = (answered k n refl).1

-- the number, once the fault is one
abbrev told : {A : Type 0} → Result A ℕ → ℕ
told (Ok x) = 0
told (Err n) = n

told-is : {A : Type 0} (r : Result A Fault) {x : Result A ℕ} → coded r ≡ x → number_in r ≡ told x
told-is (Ok a) e = ap told e
told-is (Err f) e = ap told e

-- what `pass_switched` refuses with
pub refused-numbers : (value : ℕ) (s : List ℕ) (m m' : Memory) (r : Result Totals Fault) → Passes value s m r m' → (f : Fault) → r ≡ Err f → Number value 16 (fault_number f)
refused-numbers value s m m' r g f e = go (verdict_on value s m) refl
  where
    go : (v : Verdict) → verdict_on value s m ≡ v → Number value 16 (fault_number f)
    go (refuses k) z =
        let q : k ≡ fault_number f = sym (ap told (sym (ap coded e) ∙ g.outcome ∙ ap outcome_of z)) in
        verdict-numbers version1 (lent_of m) value s (fault_number f) (z ∙ ap refuses q)
    go (answers a) z =
        let h : ◌≡◌ {A = Result Totals ℕ} (Err (fault_number f)) (outcome_of (answers a)) = sym (ap coded e) ∙ g.outcome ∙ ap outcome_of z in
        never (cc)

-- `ownership_pass_switched` answers at most 15, or 17, and 0 exactly if the image is accepted
pub record PassNumber (value : ℕ) (s : List ℕ) (m : Memory) (r : ℕ) : Type 0 where
  pub known : Answered value 16 r
  pub zero : (r ≡ 0) ↔ ((a : Answer) × (verdict_on value s m ≡ answers a))

pub pass-number : (value : ℕ) (s : List ℕ) (m m' : Memory) (old new : List ℕ) (r : ℕ) → PassLeaves value s m old r m' new → PassNumber value s m r
unfolding pass_verdict
pass-number value s m m' old new r g = go (verdict_on value s m) refl
  where
    number : (v : Verdict) → verdict_on value s m ≡ v → r ≡ told (outcome_of v)
    number v z = g.number ∙ told-is g.outcome (g.is.outcome ∙ ap outcome_of z)

    go : (v : Verdict) → verdict_on value s m ≡ v → PassNumber value s m r
    go (refuses n) z =
        let k = answered (verdict-numbers version1 (lent_of m) value s n z) r (number (refuses n) z) in
        record {
          known = k.0;
          zero = (λ e. absurd (omega (arith, k.1, e)), λ a. let y : refuses n ≡ answers a.0 = sym z ∙ a.1 in never (cc));
        }
    go (answers a) z =
        let h = number (answers a) z in
        let l = taken value (refuses 17) (decided version1 (switches_of value) (lent_of m) (decode version1 s)) (answers a) (λ y. never (cc)) z in
        record { known = inl (l, omega (arith, h)); zero = (λ e. (a, z), λ b. h) }

-- `ownership_room_switched` answers at most 13, or 17, and 0 exactly if there is no fault
pub record RoomNumber (value : ℕ) (s : List ℕ) (r : ℕ) : Type 0 where
  pub known : Answered value 14 r
  pub zero : (r ≡ 0) ↔ (room_fault version1 value s ≡ none)

pub room-number : (value : ℕ) (s : List ℕ) (old r new : ℕ) → RoomLeaves value s old r new → RoomNumber value s r
unfolding room_fault
room-number value s old r new g = go g.answer g.is g.number
  where
    go : (a : Result ℕ Fault) → RoomIs value s a → r ≡ answer_number a → RoomNumber value s r
    go (Err n) f h =
        let k = answered (room-numbers version1 value s (fault_number n) f) r h in
        record {
          known = k.0;
          zero = (λ e. absurd (omega (arith, k.1, e)), λ q. let y : none ≡ some (fault_number n) = sym q ∙ f in never (cc));
        }
    go (Ok n) f h = record {
      known = inl (omega (arith, f.0), omega (arith, h));
      zero = (λ e. not-high value f.0 (some 17) (room_fault_of version1 (switches_of value) (decode version1 s)) ∙ ap (room_fault_of version1 (switches_of value)) f.2 ∙ f.3, λ q. h);
    }

-- `ownership_page_switched` answers 1 to 13, 16 or 17, and 0 exactly if the page is written
pub record PageNumber (value : ℕ) (s page : List ℕ) (r : ℕ) : Type 0 where
  pub known : Answered value 14 r ⊎ ((value < 16) × (r ≡ 16))
  pub zero : (r ≡ 0) ↔ ((b : List ℕ) × (page_on value s page ≡ writes b))

pub page-number : (value : ℕ) (s page page' : List ℕ) (old r new : ℕ) → PageLeaves value s page old r page' new → PageNumber value s page r
unfolding page_verdict
page-number value s page page' old r new g = go (page_on value s page) refl
  where
    number : (v : PageVerdict) → page_on value s page ≡ v → r ≡ told (paged_of v)
    number v z = g.number ∙ told-is g.outcome (g.is.outcome ∙ ap paged_of z)

    never-writes : {C : Type 0} {n : ℕ} {b : List ℕ} → refuses_page n ≡ writes b → C
    never-writes y = never (cc)

    go : (v : PageVerdict) → page_on value s page ≡ v → PageNumber value s page r
    go (refuses_page n) z =
        let h = number (refuses_page n) z in
        ⊎_elim
        (λ (k : Number value 14 n). let a = answered k r h in record { known = inl a.0; zero = (λ e. absurd (omega (arith, a.1, e)), λ b. never-writes (sym z ∙ b.1)) })
        (λ (k : (value < 16) × (n ≡ 16)). record { known = inr (k.0, h ∙ k.1); zero = (λ e. absurd (omega (arith, k.1, h, e)), λ a. never-writes (sym z ∙ a.1)) })
        (page-numbers version1 (length page) value s n z)
    go (writes b) z =
        let h = number (writes b) z in
        let l = taken value (refuses_page 17) (page_decided version1 (switches_of value) (length page) (decode version1 s)) (writes b) (λ y. never-writes y) z in
        record { known = inl (inl (l, omega (arith, h))); zero = (λ e. (b, z), λ a. h) }
