-- From what the reader lends to the walk, and the room.
-- Assumes nothing.
use Prim.Native.Nat.{ℕ, ◌≤◌, ◌<◌}
use native.Mathlib.Omega.{arith}
use mathlib.Core.Path.{◌≡◌, refl, sym, ap, ◌∙◌, subst}
use mathlib.Core.Bool.{Bool, false, cond}
use mathlib.Core.Logic.{◌⊎◌, inl, inr, ⊎_elim}
use borrow.Author.Tests.{lt-ltb}
use mathlib.Core.List.{List, [], ◌∷◌}
use mathlib.Core.Option.{none, some}
use Rattle.image_fields.specs.Bytes.{Bytes}
use Rattle.tables.specs.Limits.{version1}
use Rattle.image.specs.Image.{Image, Decoded, accepted, refused, decode, fault_of}
use Rattle.image.specs.Layout.{fault_in, Laid, Reads}
use Rattle.image.specs.declared.ImageRead.{ImageRead}
use Rattle.image.proofs.Numbered.{zero-accepted}
use Rattle.rules.specs.Rules.{switches_of}
use Rattle.rules.specs.Walk.{image_fault}
use Rattle.rules.specs.Verdict.{room_fault, room_fault_of, RoomFor}
use Rattle.rules.proofs.Longer.{room-met}
use Rattle.rules.proofs.Numbers.{real-image}
use Rattle.statements_steps.proofs.Faults.{real-none}
use Rattle.image_writing.specs.Memory.{Memory}
use Rattle.blocks_ends.specs.declared.Env.{Env}
use Rattle.statements_acts.specs.declared.Place.{Place}
use Rattle.std.specs.Prelude.{Result, Ok, Err, MatchResult}
use Rattle.image_fields.specs.declared.Fault.{Fault}
use Rattle.image_fields.specs.declared.Fault.TheVariants.{Switches as Unknown}
use Rattle.image_fields.specs.Fault.{fault_number}
use Rattle.entries_verdict.specs.declared.Totals.{Totals}
use Rattle.entries_verdict.specs.Passes.{Passes}
use Rattle.entries_page.specs.Pages.{Pages}
use Rattle.entries_page.proofs.Paging.{pages-value, pages-unread}
use Rattle.ownership_pass.specs.Entries.{Begun, PassLeaves, RoomIs, RoomLeaves, PageLeaves}
use Rattle.entries_image.specs.Images.{ImageThere, Measures}
use Rattle.entries_image.proofs.Whole.{fault-bounds}
use Rattle.entries_verdict.proofs.Rooms.{not-high, fault-some, refused-value, refused-read}

refused-of : (f : Fault) (d : Decoded) → fault_number f ≡ fault_of d → d ≡ refused (fault_number f)
unfolding fault_of
refused-of f (accepted i) e = absurd (omega (arith, (fault-bounds f).0))
refused-of f (refused k) e = ap refused (sym e)

-- what the reader answered
module _ (value : ℕ) (low : value ≤ 15) (s tb : List ℕ) {r : Result ImageRead Fault} (g : Reads s tb r) where
  pub begun-err : (f : Fault) → r ≡ Err f → Begun value s tb (Err f)
  begun-err f z = inr (low, refused-of f (decode version1 s) (sym (ap fault_in z) ∙ g.fault))

  module _ (x : ImageRead) (z : r ≡ Ok x) where
    found : (i : Image) × (decode version1 s ≡ accepted i)
    found = zero-accepted version1 s (sym (sym (ap fault_in z) ∙ g.fault))

    abbrev laid : Laid s found.0 tb x
    laid = g.laid found.0 found.1 x z

    pub begun-ok : (env : Env) → env ≡ record { left = 12; limit = 64; width = 8; cur = 0; base = 64; switches = value } → Begun value s tb (Ok (env, x))
    begun-ok env e = (
      ap (λ (y : Env). y.switches) e,
      record {
        i = found.0;
        read = found.1;
        lent = laid.lent;
        says = laid.says;
        left = ap (λ (y : Env). y.left) e;
        limit = ap (λ (y : Env). y.limit) e;
        width = ap (λ (y : Env). y.width) e;
        cur = ap (λ (y : Env). y.cur) e;
        base = ap (λ (y : Env). y.base) e;
        value = omega (arith, low, ap (λ (y : Env). y.switches) e);
        entered = laid.entry;
        walked = laid.body;
      },
    )

-- a value that is none: nothing is read
pub begun-value : (value : ℕ) (s tb : List ℕ) {r : Result (Unit {0}) Fault} → MatchResult r (λ u. value ≤ 15) (λ f. (15 < value) × (f ≡ Unknown)) → (f : Fault) → r ≡ Err f → Begun value s tb (Err f)
begun-value value s tb k f z = inl (subst (λ (q : Result (Unit {0}) Fault). MatchResult q (λ u. value ≤ 15) (λ g. (15 < value) × (g ≡ Unknown))) z k)

-- an image that was not read
module _ (value : ℕ) (s tb : List ℕ) (f : Fault) {r : Result (Env × ImageRead) Fault} (b : Begun value s tb r) (z : r ≡ Err f) where
  unread : ((15 < value) × (f ≡ Unknown)) ⊎ ((value ≤ 15) × (decode version1 s ≡ refused (fault_number f)))
  unread = subst (Begun value s tb) z b

  pub pass-unread : (m : Memory) → Passes value s m (Err f) m
  unfolding fault_of
  pass-unread m = ⊎_elim
      (λ (h : (15 < value) × (f ≡ Unknown)). subst (λ (k : Fault). Passes value s m (Err k) m) (sym h.1) (refused-value value h.0 s m))
      (λ (h : (value ≤ 15) × (decode version1 s ≡ refused (fault_number f))). refused-read value h.0 s m f (sym (ap fault_of h.1))) unread

  pub page-unread : (page : List ℕ) → Pages value s page (Err f) page
  page-unread page = ⊎_elim
      (λ (h : (15 < value) × (f ≡ Unknown)). subst (λ (k : Fault). Pages value s page (Err k) page) (sym h.1) (pages-value value s page h.0))
      (λ (h : (value ≤ 15) × (decode version1 s ≡ refused (fault_number f))). pages-unread value s page h.0 f h.1) unread

  pub room-unread : RoomIs value s (Err f)
  unfolding room_fault
  room-unread = ⊎_elim
      (λ (h : (15 < value) × (f ≡ Unknown)). subst (λ (k : Fault). RoomIs value s (Err k)) (sym h.1) (ap (λ (b : Bool). cond b (some 17) (room_fault_of version1 (switches_of value) (decode version1 s))) (lt-ltb 15 value h.0)))
      (λ (h : (value ≤ 15) × (decode version1 s ≡ refused (fault_number f))).
      not-high value h.0 (some 17) (room_fault_of version1 (switches_of value) (decode version1 s)) ∙ ap (room_fault_of version1 (switches_of value)) h.1) unread

-- one that was
module _ (value : ℕ) (s tb : List ℕ) (x : Env × ImageRead) {r : Result (Env × ImageRead) Fault} (b : Begun value s tb r) (z : r ≡ Ok x) where
  begun : (x.0.switches ≡ value) × ImageThere s tb x.0 x.1.entry x.1.body
  begun = subst (Begun value s tb) z b

  pub image-there : ImageThere s tb x.0 x.1.entry x.1.body
  image-there = begun.1

  pub passes-given : {m m' : Memory} {q : Result Totals Fault} → Passes x.0.switches s m q m' → Passes value s m q m'
  passes-given {m} {m'} {q} g = subst (λ (v : ℕ). Passes v s m q m') begun.0 g

  pub pages-given : {page page' : List ℕ} {q : Result ℕ Fault} → Pages x.0.switches s page q page' → Pages value s page q page'
  pages-given {page} {page'} {q} g = subst (λ (v : ℕ). Pages v s page q page') begun.0 g

  low : value ≤ 15
  low = omega (arith, begun.0, image-there.value)

  module _ {w : Result Place Fault} (h : Measures (switches_of x.0.switches) s false w) where
    measured : (y : Result Place Fault) → w ≡ y → Measures (switches_of value) s false y
    measured y e = subst (Measures (switches_of value) s false) e (subst (λ (v : ℕ). Measures (switches_of v) s false w) begun.0 h)

    pub room-denied : (f : Fault) → w ≡ Err f → RoomIs value s (Err f)
    unfolding room_fault
    room-denied f e =
        let g = ((measured (Err f) e).walks image-there.i image-there.read).0 in
        not-high value low (some 17) (room_fault_of version1 (switches_of value) (decode version1 s)) ∙ ap (room_fault_of version1 (switches_of value)) image-there.read
        ∙ fault-some (image_fault version1 (switches_of value) image-there.i) (fault_number f) g (fault-bounds f).0

    pub room-needed : Bytes s → (p : Place) → w ≡ Ok p → RoomIs value s (Ok p.written)
    room-needed small p e =
        let g = (measured (Ok p) e).walks image-there.i image-there.read in
        let n : image_fault version1 (switches_of value) image-there.i ≡ none = real-none (image_fault version1 (switches_of value) image-there.i) (real-image version1 (switches_of value) image-there.i) (sym g.0) in
        (low, image-there.i, image-there.read, n, subst (RoomFor version1 (switches_of value) s image-there.i) (sym g.1.0) (room-met version1 (switches_of value) s small image-there.i image-there.read))

-- the entries for C, by the outcome
module _ (value : ℕ) (s : List ℕ) (m m' : Memory) {r : Result Totals Fault} (g : Passes value s m r m') (old : List ℕ) where
  pub leaves-refused : (f : Fault) {n : ℕ} → r ≡ Err f → n ≡ fault_number f → PassLeaves value s m old n m' old
  leaves-refused f e k = record { outcome = Err f; is = subst (λ (o : Result Totals Fault). Passes value s m o m') e g; number = k; leaves = refl }

  pub leaves-accepted : (t : Totals) → r ≡ Ok t → PassLeaves value s m old 0 m' (t.written ∷ t.errors ∷ t.warnings ∷ t.lefts ∷ [])
  leaves-accepted t e = record { outcome = Ok t; is = subst (λ (o : Result Totals Fault). Passes value s m o m') e g; number = refl; leaves = refl }

module _ (value : ℕ) (s : List ℕ) {r : Result ℕ Fault} (g : RoomIs value s r) (old : ℕ) where
  pub room-leaves-denied : (f : Fault) {n : ℕ} → r ≡ Err f → n ≡ fault_number f → RoomLeaves value s old n old
  room-leaves-denied f e k = record { answer = Err f; is = subst (RoomIs value s) e g; number = k; leaves = refl }

  pub room-leaves-needed : (n : ℕ) → r ≡ Ok n → RoomLeaves value s old 0 n
  room-leaves-needed n e = record { answer = Ok n; is = subst (RoomIs value s) e g; number = refl; leaves = refl }

module _ (value : ℕ) (s page page' : List ℕ) {r : Result ℕ Fault} (g : Pages value s page r page') (old : ℕ) where
  pub page-leaves-refused : (f : Fault) {n : ℕ} → r ≡ Err f → n ≡ fault_number f → PageLeaves value s page old n page' old
  page-leaves-refused f e k = record { outcome = Err f; is = subst (λ (o : Result ℕ Fault). Pages value s page o page') e g; number = k; leaves = refl }

  pub page-leaves-written : (n : ℕ) → r ≡ Ok n → PageLeaves value s page old 0 page' n
  page-leaves-written n e = record { outcome = Ok n; is = subst (λ (o : Result ℕ Fault). Pages value s page o page') e g; number = refl; leaves = refl }
