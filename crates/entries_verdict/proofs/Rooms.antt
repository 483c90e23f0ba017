-- Faults 14 and 15, and the verdict.
-- Assumes nothing.
use Prim.Native.Nat.{ℕ, suc, ◌+◌, ◌*◌, ◌/◌, ◌≤◌, ◌<◌}
use native.Mathlib.Omega.{arith}
use mathlib.Core.Path.{◌≡◌, refl, sym, ap, ◌∙◌, subst}
use mathlib.Core.Bool.{Bool, true, false, cond, ◌&&◌}
use mathlib.Core.List.{List, [], ◌∷◌, ◌++◌}
use mathlib.Core.Option.{Option, none, some}
use borrow.Author.Tests.{lt-ltb, le-ltb, lt-leb, le-leb, leb-true}
use lib.Dec.{leb}
use lib.ListN.{length, length-append, take, drop, replicate}
use lib.Seq.{sets, sets-eq, slice, take-append_seam, length-take-le}
use mathlib.Core.Logic.{⊎_elim}
use Rattle.image_fields.proofs.Tests.{less, false-true}
use Rattle.tables.specs.Limits.{version1}
use Rattle.image.specs.Image.{Image, Decoded, accepted, refused, decode, fault_of}
use Rattle.rules.specs.Rules.{switches_of}
use Rattle.rules.specs.Report.{Report, error, warning, left, reports, errors, warnings, lefts}
use Rattle.rules.specs.Walk.{image_fault}
use Rattle.rules.specs.Verdict.{Answer, answer_of, entry_of, entries_of, refuses, answers, lists_fit, output_fits, fitted, walked, decided, too_high, pass_verdict}
use Rattle.image_writing.specs.Stored.{Stored}
use Rattle.image_writing.proofs.Stores.{stored-length}
use Rattle.statements_steps.specs.Own.{number_of}
use Rattle.rules.proofs.Numbers.{real-image}
use Rattle.statements_steps.proofs.Faults.{real-none}
use Rattle.statements_acts.specs.declared.Place.{Place}
use Rattle.image_writing.specs.Memory.{Memory, memory}
use Rattle.std.specs.Prelude.{Result, Ok, Err, IsOk, is_ok, MatchResult}
use Rattle.std.specs.Result.{IsErrAnd}
use Rattle.std.proofs.lemmas.Result.{IfOk-at_ok}
use Rattle.image_fields.specs.declared.Fault.{Fault}
use Rattle.image_fields.specs.declared.Fault.TheVariants.{Switches as Unknown}
use Rattle.image_fields.specs.Fault.{fault_number}
use Rattle.scope_rows.specs.declared.Stop.{Stop}
use Rattle.scope_rows.specs.declared.Stop.TheVariants.{Rows, Fault as Stopped}
use Rattle.entries_verdict.specs.declared.Totals.{Totals}
use Rattle.entries_verdict.specs.Passes.{lent_of, outcome_of, over, memory_after, verdict_on, Passes}
use Rattle.entries_image.specs.Images.{fault_of_walk, number_in, ImageDone, ImageWalks}
use Rattle.entries_image.proofs.Whole.{fault-bounds, walk-came}
use Rattle.entries_verdict.specs.Verdicts.{lack_of, Fits, CopiesAll, totals_at, outcome_in, Judges}

-- numbers stored where there is room for them
pub front-stored : (old vs : List ℕ) → length vs ≤ length old → sets old 0 vs ≡ over vs old
front-stored old vs h =
    let e : 0 + length vs ≡ length vs = omega arith in
    sets-eq vs old 0 (omega arith) ∙ ap (λ n. vs ++ drop n old) e

pub stored-front : {old vs new : List ℕ} {k : ℕ} → Stored old 0 vs new k → k ≤ length old → new ≡ over vs old
stored-front {old} {vs} {new} {k} a h = a.cells ∙ front-stored old vs (let e = a.place in omega arith)

pub copied-over : (old from : List ℕ) (many : ℕ) {new : List ℕ} → many ≤ length from → many ≤ length old → new ≡ take many from → new ++ drop many old ≡ sets old 0 (take many from)
copied-over old from many h g e =
    let l = length-take-le many from h in
    ap (λ v. v ++ drop many old) e ∙ ap (λ n. take many from ++ drop n old) (sym l) ∙ sym (front-stored old (take many from) (omega arith))

-- and copied from there
pub stored-copied : {old vs new : List ℕ} {k : ℕ} → Stored old 0 vs new k → k ≤ length old → slice 0 k new ≡ vs
stored-copied {old} {vs} {new} {k} a h =
    let e : k ≡ length vs = a.place ∙ omega arith in
    ap (λ l. slice 0 k l) (stored-front a h) ∙ ap (λ n. take n (over vs old)) e ∙ take-append_seam vs (drop (length vs) old)

pub copied-front : {own vs new : List ℕ} {k : ℕ} (to : List ℕ) → Stored own 0 vs new k → k ≤ length new → k ≤ length to → sets to 0 (slice 0 k new) ≡ over vs to
copied-front {own} {vs} {new} {k} to a h g =
    ap (sets to 0) (stored-copied a (omega (arith, h, stored-length a))) ∙ front-stored to vs (let e = a.place in omega arith)

-- how many numbers the entries have
error-numbers : (rs : List Report) → length (entries_of version1 (errors rs)) ≡ 12 * length (errors rs)
error-numbers [] = refl
error-numbers (error k p h ps ∷ rs) =
    let a = error-numbers rs in
    let b = length-append (entry_of version1 (error k p h ps)) (entries_of version1 (errors rs)) in
    let c : length (take 8 (ps ++ replicate 8 0)) ≡ 8 = length-take-le 8 (ps ++ replicate 8 0) (let d = length-append ps (replicate 8 0) in omega arith) in
    omega arith
error-numbers (warning s o ∷ rs) = error-numbers rs
error-numbers (left s n b ∷ rs) = error-numbers rs

warning-numbers : (rs : List Report) → length (entries_of version1 (warnings rs)) ≡ 2 * length (warnings rs)
warning-numbers [] = refl
warning-numbers (error k p h ps ∷ rs) = warning-numbers rs
warning-numbers (warning s o ∷ rs) = let a = warning-numbers rs in omega arith
warning-numbers (left s n b ∷ rs) = warning-numbers rs

left-numbers : (rs : List Report) → length (entries_of version1 (lefts rs)) ≡ 3 * length (lefts rs)
left-numbers [] = refl
left-numbers (error k p h ps ∷ rs) = left-numbers rs
left-numbers (warning s o ∷ rs) = left-numbers rs
left-numbers (left s n b ∷ rs) = let a = left-numbers rs in omega arith

-- entries lent, by their numbers
by-twelve : (k n : ℕ) → leb (12 * k) n ≡ leb k (n / 12)
by-twelve k n = ⊎_elim
    (λ (h : k < suc (n / 12)). le-leb (12 * k) n (omega arith) ∙ sym (le-leb k (n / 12) (omega arith)))
    (λ (h : suc (n / 12) ≤ k). lt-leb (12 * k) n (omega arith) ∙ sym (lt-leb k (n / 12) (omega arith))) (less k (suc (n / 12)))

by_two : (k n : ℕ) → leb (2 * k) n ≡ leb k (n / 2)
by_two k n = ⊎_elim
    (λ (h : k < suc (n / 2)). le-leb (2 * k) n (omega arith) ∙ sym (le-leb k (n / 2) (omega arith)))
    (λ (h : suc (n / 2) ≤ k). lt-leb (2 * k) n (omega arith) ∙ sym (lt-leb k (n / 2) (omega arith))) (less k (suc (n / 2)))

by_three : (k n : ℕ) → leb (3 * k) n ≡ leb k (n / 3)
by_three k n = ⊎_elim
    (λ (h : k < suc (n / 3)). le-leb (3 * k) n (omega arith) ∙ sym (le-leb k (n / 3) (omega arith)))
    (λ (h : suc (n / 3) ≤ k). lt-leb (3 * k) n (omega arith) ∙ sym (lt-leb k (n / 3) (omega arith))) (less k (suc (n / 3)))

pub fault-some : (x : Option ℕ) (n : ℕ) → n ≡ number_of x → 0 < n → x ≡ some n
fault-some none n e h = absurd (omega arith)
fault-some (some m) n e h = ap some (sym e)

-- a room without a lack
none-in : (q : Result (Unit {0}) Fault) → IsOk q → ◌≡◌ {A = ℕ} 0 (number_in q)
none-in (Ok u) e = refl
none-in (Err f) e = absurd (false-true e)

-- what a room lacks, as a walk stops for it
abbrev Turned : Result (Unit {0}) Fault → Result (Unit {0}) Stop → Type 0
Turned r q = MatchResult r (λ x. q ≡ Ok x) (λ e. IsErrAnd q (λ y. y ≡ Stopped e))

pub lacking : (r : Result (Unit {0}) Fault) (q : Result (Unit {0}) Stop) → Turned r q → (k : Stop) → q ≡ Err k → (f : Fault) × (r ≡ Err f) × (k ≡ Stopped f)
lacking (Ok x) q c k e = let z : ◌≡◌ {A = Result (Unit {0}) Stop} (Ok x) (Err k) = sym c ∙ e in absurd (false-true (sym (ap is_ok z)))
lacking (Err f) (Ok u) c k e = absurd c
lacking (Err f) (Err y) c k e = let z : y ≡ k = cc in (f, refl, sym z ∙ c)

pub fine-of : (r : Result (Unit {0}) Fault) (q : Result (Unit {0}) Stop) → Turned r q → (u : Unit {0}) → q ≡ Ok u → (x : Unit {0}) × (r ≡ Ok x)
fine-of (Ok x) q c u e = (x, refl)
fine-of (Err f) (Ok x) c u e = absurd c
fine-of (Err f) (Err y) c u e = absurd (false-true (ap is_ok e))

-- a value of the switches up to 15, and above
pub not-high : {A : Type 0} (value : ℕ) → value ≤ 15 → (x y : A) → cond (too_high value) x y ≡ y
not-high value h x y = ap (λ (b : Bool). cond b x y) (le-ltb 15 value h)

pub refused-value : (value : ℕ) → 15 < value → (s : List ℕ) (m : Memory) → Passes value s m (Err Unknown) m
unfolding pass_verdict
refused-value value h s m =
    let v : verdict_on value s m ≡ refuses 17 = ap (λ (b : Bool). cond b (refuses 17) (decided version1 (switches_of value) (lent_of m) (decode version1 s))) (lt-ltb 15 value h) in
    record { outcome = sym (ap outcome_of v); leaves = sym (ap (λ w. memory_after w m) v) }

-- a read fault
pub refused-read : (value : ℕ) → value ≤ 15 → (s : List ℕ) (m : Memory) (f : Fault) → fault_number f ≡ fault_of (decode version1 s) → Passes value s m (Err f) m
unfolding pass_verdict fault_of
refused-read value high s m f e = go (decode version1 s) refl
  where
    go : (d : Decoded) → decode version1 s ≡ d → Passes value s m (Err f) m
    go (accepted i) z = let k : fault_number f ≡ 0 = e ∙ ap fault_of z in absurd (omega (arith, (fault-bounds f).0))
    go (refused k) z =
        let v : verdict_on value s m ≡ refuses (fault_number f) = not-high value high (refuses 17) (decided version1 (switches_of value) (lent_of m) (decode version1 s)) ∙ ap (decided version1 (switches_of value) (lent_of m)) z ∙ ap refuses (sym (e ∙ ap fault_of z)) in
        record { outcome = sym (ap outcome_of v); leaves = sym (ap (λ w. memory_after w m) v) }

module _ (value : ℕ) (high : value ≤ 15) (s : List ℕ) (i : Image) (e : decode version1 s ≡ accepted i) (m : Memory) where
  verdict-is : verdict_on value s m ≡ walked version1 (switches_of value) (lent_of m) i (image_fault version1 (switches_of value) i)
  unfolding pass_verdict
  verdict-is = not-high value high (refuses 17) (decided version1 (switches_of value) (lent_of m) (decode version1 s)) ∙ ap (decided version1 (switches_of value) (lent_of m)) e

  -- faults 12 and 13
  pub refused-walk : (f : Fault) → fault_number f ≡ number_of (image_fault version1 (switches_of value) i) → Passes value s m (Err f) m
  refused-walk f k =
      let v : verdict_on value s m ≡ refuses (fault_number f) = verdict-is ∙ ap (walked version1 (switches_of value) (lent_of m) i) (fault-some (image_fault version1 (switches_of value) i) (fault_number f) k (fault-bounds f).0) in
      record { outcome = sym (ap outcome_of v); leaves = sym (ap (λ w. memory_after w m) v) }

  module _ (z : image_fault version1 (switches_of value) i ≡ none) {own own' : Memory} {p : Place} (d : ImageDone (switches_of value) i own p own') where
    abbrev a : Answer
    a = answer_of version1 (switches_of value) i

    error-count : p.errors ≡ 12 * a.error_count
    error-count = d.errors.place ∙ omega (arith, error-numbers (reports (switches_of value) i))

    warning-count : p.warnings ≡ 2 * a.warning_count
    warning-count = d.warnings.place ∙ omega (arith, warning-numbers (reports (switches_of value) i))

    left-count : p.lefts ≡ 3 * a.left_count
    left-count = d.lefts.place ∙ omega (arith, left-numbers (reports (switches_of value) i))

    lists-fit : (leb p.errors (length m.errs) && leb p.warnings (length m.warns) && leb p.lefts (length m.lefts)) ≡ lists_fit (lent_of m) a
    lists-fit =
        ap (λ x. x && leb p.warnings (length m.warns) && leb p.lefts (length m.lefts)) (ap (λ k. leb k (length m.errs)) error-count ∙ by-twelve a.error_count (length m.errs))
        ∙ ap (λ x. leb a.error_count (length m.errs / 12) && x && leb p.lefts (length m.lefts)) (ap (λ k. leb k (length m.warns)) warning-count ∙ by_two a.warning_count (length m.warns))
        ∙ ap (λ x. leb a.error_count (length m.errs / 12) && leb a.warning_count (length m.warns / 2) && x) (ap (λ k. leb k (length m.lefts)) left-count ∙ by_three a.left_count (length m.lefts))

    output-fits : (leb p.written (length m.out) && p.fits) ≡ output_fits (switches_of value) (lent_of m) i a
    output-fits = ap (λ k. leb k (length m.out) && p.fits) d.long ∙ ap (λ x. leb (length a.output) (length m.out) && x) d.fits

    abbrev lack : ℕ
    lack = lack_of p (length m.out) (length m.errs) (length m.warns) (length m.lefts)

    fitted-is : verdict_on value s m ≡ fitted (switches_of value) (lent_of m) i a
    fitted-is = verdict-is ∙ ap (walked version1 (switches_of value) (lent_of m) i) z

    lack-is : lack ≡ cond (lists_fit (lent_of m) a) (cond (output_fits (switches_of value) (lent_of m) i a) 0 15) 14
    lack-is = ap (λ x. cond x (cond (leb p.written (length m.out) && p.fits) 0 15) 14) lists-fit ∙ ap (λ x. cond (lists_fit (lent_of m) a) (cond x 0 15) 14) output-fits

    pub refused-room : (f : Fault) → fault_number f ≡ lack → Passes value s m (Err f) m
    refused-room f k =
        let v : verdict_on value s m ≡ refuses (fault_number f) = fitted-is ∙ go (lists_fit (lent_of m) a) (output_fits (switches_of value) (lent_of m) i a) (k ∙ lack-is) in
        record { outcome = sym (ap outcome_of v); leaves = sym (ap (λ w. memory_after w m) v) }
      where
        go : (b c : Bool) → fault_number f ≡ cond b (cond c 0 15) 14 → cond b (cond c (answers a) (refuses 15)) (refuses 14) ≡ refuses (fault_number f)
        go true true g = absurd (let l = (fault-bounds f).0 in omega arith)
        go true false g = ap refuses (sym g)
        go false c g = ap refuses (sym g)

    -- enough room, and the memory after
    pub answered : ◌≡◌ {A = ℕ} 0 lack → (m' : Memory) → m'.out ≡ over a.output m.out → m'.errs ≡ over a.error_numbers m.errs → m'.warns ≡ over a.warning_numbers m.warns → m'.lefts ≡ over a.left_numbers m.lefts
        → Passes value s m (Ok (totals_at p)) m'
    answered f m' e₀ e₁ e₂ e₃ =
        let v : verdict_on value s m ≡ answers a = fitted-is ∙ go (lists_fit (lent_of m) a) (output_fits (switches_of value) (lent_of m) i a) (f ∙ lack-is) in
        record {
          outcome = totals ∙ sym (ap outcome_of v);
          leaves = made ∙ sym (ap (λ w. memory_after w m) v);
        }
      where
        go : (b c : Bool) → ◌≡◌ {A = ℕ} 0 (cond b (cond c 0 15) 14) → cond b (cond c (answers a) (refuses 15)) (refuses 14) ≡ answers a
        go true true g = refl
        go true false g = absurd (omega arith)
        go false c g = absurd (omega arith)

        totals : Ok (totals_at p) ≡ outcome_of (answers a)
        totals =
            let x : p.errors / 12 ≡ a.error_count = omega (arith, error-count) in
            let y : p.warnings / 2 ≡ a.warning_count = omega (arith, warning-count) in
            let w : p.lefts / 3 ≡ a.left_count = omega (arith, left-count) in
            rw (x, y, w, d.long)

        made : m' ≡ memory (over a.output m.out) (over a.error_numbers m.errs) (over a.warning_numbers m.warns) (over a.left_numbers m.lefts)
        made = rw (sym e₀, sym e₁, sym e₂, sym e₃)

-- no lack
pub fits-of : (p : Place) (bytes errs warns many : ℕ) → ◌≡◌ {A = ℕ} 0 (lack_of p bytes errs warns many) → Fits p bytes errs warns many
fits-of p bytes errs warns many f =
    go (leb p.errors errs) refl (leb p.warnings warns) refl (leb p.lefts many) refl (leb p.written bytes) refl p.fits refl f
  where
    go : (b : Bool) → leb p.errors errs ≡ b → (c : Bool) → leb p.warnings warns ≡ c → (d : Bool) → leb p.lefts many ≡ d → (e : Bool) → leb p.written bytes ≡ e
        → (g : Bool) → p.fits ≡ g → ◌≡◌ {A = ℕ} 0 (cond (b && c && d) (cond (e && g) 0 15) 14) → Fits p bytes errs warns many
    go true eb true ec true ed true ee true eg z = record { errors = leb-true _ _ eb; warnings = leb-true _ _ ec; lefts = leb-true _ _ ed; written = leb-true _ _ ee; fits = eg }
    go true eb true ec true ed true ee false eg z = absurd (omega arith)
    go true eb true ec true ed false ee g eg z = absurd (omega arith)
    go true eb true ec false ed e ee g eg z = absurd (omega arith)
    go true eb false ec d ed e ee g eg z = absurd (omega arith)
    go false eb c ec d ed e ee g eg z = absurd (omega arith)

-- with so many rows the largest comes to no 254
reaches : (largest : Bool) (rows : ℕ) → (largest ≡ true → 13248 ≤ rows) → rows < 13248 → largest ≡ false
reaches false rows h l = refl
reaches true rows h l = absurd (omega (arith, h refl))

-- an image that was read, walked into some memory of our own
module _ (value : ℕ) (high : value ≤ 15) (s : List ℕ) (i : Image) (e : decode version1 s ≡ accepted i) (largest : Bool) (rows : ℕ) (many : largest ≡ true → 13248 ≤ rows)
    {own own' : Memory} {w : Result Place Stop} (g : ImageWalks (switches_of value) s rows own w own') where
  stopped : (m : Memory) (k : Stop) → ImageWalks (switches_of value) s rows own (Err k) own' → Judges value largest s m (Err k) m
  stopped m Rows h = record { short = λ z. (reaches largest rows many (h.short refl), refl); passes = tt }
  stopped m (Stopped f) h =
      let k : fault_number f ≡ 254 → ⊥ = λ z. omega (arith, (fault-bounds f).1) in
      record { short = λ z. absurd (k z); passes = refused-walk value high s i e m f (h.walks k i e).0 }

  pub judge-walk : (m : Memory) (k : Stop) → w ≡ Err k → Judges value largest s m (Err k) m
  judge-walk m k z = stopped m k (subst (λ x. ImageWalks (switches_of value) s rows own x own') z g)

  module _ (p : Place) (z : w ≡ Ok p) where
    walked-whole : (◌≡◌ {A = ℕ} 0 (number_of (image_fault version1 (switches_of value) i))) × ImageDone (switches_of value) i own p own'
    walked-whole =
        let h : ImageWalks (switches_of value) s rows own (Ok p) own' = subst (λ x. ImageWalks (switches_of value) s rows own x own') z g in
        h.walks (λ y. let x : ◌≡◌ {A = ℕ} 0 254 = y in omega arith) i e

    found_none : image_fault version1 (switches_of value) i ≡ none
    found_none = real-none (image_fault version1 (switches_of value) i) (real-image version1 (switches_of value) i) (sym walked-whole.0)

    module _ (m : Memory) (r : Result (Unit {0}) Fault) (en : number_in r ≡ lack_of p (length m.out) (length m.errs) (length m.warns) (length m.lefts)) where
      pub judge-room : (f : Fault) → r ≡ Err f → Judges value largest s m (Err (Stopped f)) m
      judge-room f k = record {
        short = λ y. absurd (let l = (fault-bounds f).1 in omega arith);
        passes = refused-room value high s i e m found_none walked-whole.1 f (sym (ap number_in k) ∙ en);
      }

      module _ (u : Unit {0}) (k : r ≡ Ok u) where
        lent-none : ◌≡◌ {A = ℕ} 0 (lack_of p (length m.out) (length m.errs) (length m.warns) (length m.lefts))
        lent-none = sym (ap number_in k) ∙ en

        pub room-lent : Fits p (length m.out) (length m.errs) (length m.warns) (length m.lefts)
        room-lent = fits-of p _ _ _ _ lent-none

        answers-it : (m' : Memory) → Passes value s m (Ok (totals_at p)) m' → Judges value largest s m (Ok p) m'
        answers-it m' a = record { short = λ y. absurd (let x : ◌≡◌ {A = ℕ} 0 254 = y in omega arith); passes = a }

        -- what our own memory holds is copied
        module _ (q : Result (Unit {0}) Fault) (eq : number_in q ≡ lack_of p (length own'.out) (length own'.errs) (length own'.warns) (length own'.lefts)) (fine : IsOk q) where
          pub room-own : Fits p (length own'.out) (length own'.errs) (length own'.warns) (length own'.lefts)
          room-own = fits-of p _ _ _ _ (none-in q fine ∙ eq)

          pub judge-copied : (m' : Memory) → CopiesAll p own' m m' → Judges value largest s m (Ok p) m'
          judge-copied m' c =
              let d = walked-whole.1 in
              let a = room-lent in
              let b = room-own in
              answers-it m' (answered value high s i e m found_none d lent-none m'
              (c.bytes ∙ copied-front m.out (d.bytes b.fits) b.written a.written) (c.errors ∙ copied-front m.errs d.errors b.errors a.errors)
              (c.warnings ∙ copied-front m.warns d.warnings b.warnings a.warnings) (c.lefts ∙ copied-front m.lefts d.lefts b.lefts a.lefts))

        -- or the largest walks again, into the memory lent
        pub judge-again : largest ≡ true → (rows' : ℕ) → rows' ≡ rows → {v : Result Place Stop} (m' : Memory) → ImageWalks (switches_of value) s rows' m v m' → Judges value largest s m (Ok p) m'
        judge-again big rows' er {v} m' again =
            let d = walked-whole.1 in
            let a = room-lent in
            let o : fault_of_walk v ≡ 254 → ⊥ = λ y. let b = again.short y in let c = many big in omega arith in
            let x = again.walks o i e in
            let y = walk-came v (x.0 ∙ ap number_of found_none) in
            let u = IfOk-at_ok (λ (k : Place). ImageDone (switches_of value) i m k m') y.1 x.1 in
            answers-it m' (answered value high s i e m found_none d lent-none m'
            (stored-front (u.bytes (u.fits ∙ sym d.fits ∙ a.fits)) (omega (arith, u.long, d.long, a.written)))
            (stored-front u.errors (omega (arith, u.errors.place, d.errors.place, a.errors)))
            (stored-front u.warnings (omega (arith, u.warnings.place, d.warnings.place, a.warnings)))
            (stored-front u.lefts (omega (arith, u.lefts.place, d.lefts.place, a.lefts))))

-- or a smaller one says that its memory does not reach
pub judge-small : (value : ℕ) (largest : Bool) (s : List ℕ) (m : Memory) → largest ≡ false → Judges value largest s m (Err Rows) m
judge-small value largest s m e = record { short = λ z. (e, refl); passes = tt }

-- a size that reaches, and the next where one does not
module _ {value : ℕ} {largest : Bool} {s : List ℕ} {m m' : Memory} {w : Result Place Stop} (j : Judges value largest s m w m') where
  at-answer : (x : Result Place Stop) → w ≡ x → Judges value largest s m x m'
  at-answer x e = subst (λ (y : Result Place Stop). Judges value largest s m y m') e j

  pub judged : (p : Place) → w ≡ Ok p → Passes value s m (Ok (totals_at p)) m'
  judged p e = (at-answer (Ok p) e).passes

  pub judged-fault : (f : Fault) → w ≡ Err (Stopped f) → Passes value s m (Err f) m'
  judged-fault f e = (at-answer (Err (Stopped f)) e).passes

  pub judged-larger : w ≡ Err Rows → largest ≡ false
  judged-larger e = (j.short (ap fault_of_walk e)).0

  pub judged-next : w ≡ Err Rows → (r : Result Totals Fault) (m'' : Memory) → Passes value s m' r m'' → Passes value s m r m''
  judged-next e r m'' p = subst (λ (x : Memory). Passes value s x r m'') (j.short (ap fault_of_walk e)).1 p
