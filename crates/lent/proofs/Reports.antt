-- Theorems about what the writer of reports answers (document 01, "Faults" and "What is reported").
use Prim.Native.Nat.{ℕ, zero, suc, ◌+◌, ◌*◌, ◌≤◌, ◌<◌}
use mathlib.Core.Path.{◌≡◌, refl, sym, ◌∙◌, ap}
use mathlib.Core.Bool.{Bool, true, false, cond, ◌||◌}
use mathlib.Core.List.{List, [], ◌∷◌, ◌++◌, append_assoc}
use mathlib.Core.Logic.{◌⊎◌, inl, inr}
use native.Mathlib.Omega.{arith}
use lib.Dec.{ltb}
use lib.ListN.{length, get_or, take, drop, replicate, length-append}
use lib.Seq.{get_or-drop, take_at, drop_at, length-take-le}
use borrow.Author.Tests.{ltb-true, le-ltb}
use Rattle.tables.specs.Limits.{version1}
use Rattle.image.specs.Image.{Image}
use Rattle.rules.specs.Rules.{Switches}
use Rattle.rules.specs.Report.{Report as Reported, error, warning, left, errors, reports}
use Rattle.rules.specs.Verdict.{entry_of, entries_of, answer_of}
use Rattle.lent.specs.declared.Report.{Report}
use Rattle.lent.proofs.Records.{plenty}
use Rattle.lent.specs.Records.{record_at, records, too_few, Writes}

-- the record of an error of the rules: its other places, unused ones 0
abbrev pub record_of : ℕ → ℕ → ℕ → List ℕ → Report
record_of k p h ps = record { kind = k; place = p; hint = h; count = length ps; places = take 8 (ps ++ replicate 8 0) }

-- the records of the errors among what the rules report
abbrev pub records_of : List Reported → List Report
records_of [] = []
records_of (error k p h ps ∷ rs) = record_of k p h ps ∷ records_of rs
records_of (warning s o ∷ rs) = records_of rs
records_of (left s n b ∷ rs) = records_of rs

-- 14 exactly where there are too few structs or numbers, and then nothing changes
pub too_few_lem : (ns : List ℕ) (n : ℕ) (old new : List Report) (fault : ℕ) → Writes ns n old new fault
    → ((length old < n) ⊎ (length ns < 12 * n) → (fault ≡ 14) × (new ≡ old)) × (fault ≡ 14 → (length old < n) ⊎ (length ns < 12 * n))
too_few_lem ns n old new fault w = by-test (too_few ns n old) refl
  where
    which : (s : Bool) → ltb (length old) n ≡ s → too_few ns n old ≡ true → (length old < n) ⊎ (length ns < 12 * n)
    which true es e = inl (ltb-true (length old) n es)
    which false es e = inr (ltb-true (length ns) (12 * n) (sym (ap (λ (u : Bool). u || ltb (length ns) (12 * n)) es) ∙ e))

    neither : (n ≤ length old) × (12 * n ≤ length ns) → (length old < n) ⊎ (length ns < 12 * n) → (fault ≡ 14) × (new ≡ old)
    neither a (inl h) = absurd (omega (arith, a.0, h))
    neither a (inr h) = absurd (omega (arith, a.1, h))

    by-test : (t : Bool) → too_few ns n old ≡ t
        → ((length old < n) ⊎ (length ns < 12 * n) → (fault ≡ 14) × (new ≡ old)) × (fault ≡ 14 → (length old < n) ⊎ (length ns < 12 * n))
    by-test true e = (
      λ _. (w.answer ∙ ap (λ (t : Bool). cond t 14 0) e, w.structs ∙ ap (λ (t : Bool). cond t old (records ns n ++ drop n old)) e),
      λ _. which (ltb (length old) n) refl e,
    )
    by-test false e =
        let f : fault ≡ 0 = w.answer ∙ ap (λ (t : Bool). cond t 14 0) e in
        (neither (plenty ns n old e), λ g. absurd (omega (arith, f, g)))

-- the 12 numbers of an error before others, and the record made of them
eight : (l : List ℕ) → 8 ≤ length l
    → get_or l 0 0 ∷ get_or l 1 0 ∷ get_or l 2 0 ∷ get_or l 3 0 ∷ get_or l 4 0 ∷ get_or l 5 0 ∷ get_or l 6 0 ∷ get_or l 7 0 ∷ [] ≡ take 8 l
eight [] h = absurd (omega arith)
eight (a ∷ []) h = absurd (omega arith)
eight (a ∷ b ∷ []) h = absurd (omega arith)
eight (a ∷ b ∷ c ∷ []) h = absurd (omega arith)
eight (a ∷ b ∷ c ∷ d ∷ []) h = absurd (omega arith)
eight (a ∷ b ∷ c ∷ d ∷ e ∷ []) h = absurd (omega arith)
eight (a ∷ b ∷ c ∷ d ∷ e ∷ f ∷ []) h = absurd (omega arith)
eight (a ∷ b ∷ c ∷ d ∷ e ∷ f ∷ g ∷ []) h = absurd (omega arith)
eight (a ∷ b ∷ c ∷ d ∷ e ∷ f ∷ g ∷ x ∷ l) h = refl

length-padded : (ps : List ℕ) → length (take 8 (ps ++ replicate 8 0)) ≡ 8
length-padded ps =
    let a : length (ps ++ replicate 8 0) ≡ length ps + 8 = length-append ps (replicate 8 0) in
    length-take-le 8 (ps ++ replicate 8 0) (omega (arith, a))

first-record : (k p h : ℕ) (ps rest : List ℕ)
    → record_at (entry_of version1 (error k p h ps) ++ rest) 0 ≡ record_of k p h ps
first-record k p h ps rest =
    let qs = take 8 (ps ++ replicate 8 0) in
    let a = length-append qs rest in
    let b = length-padded ps in
    ap (λ (l : List ℕ). record { kind = k; place = p; hint = h; count = length ps; places = l }) (eight (qs ++ rest) (omega (arith, a, b)) ∙ take_at qs rest 8 b)

-- the numbers behind the first 12
later : (ns : List ℕ) (n j : ℕ) → get_or ns (12 * suc n + j) 0 ≡ get_or (drop 12 ns) (12 * n + j) 0
later ns n j = let e : 12 * suc n + j ≡ 12 + (12 * n + j) = omega arith in ap (λ (i : ℕ). get_or ns i 0) e ∙ sym (get_or-drop 12 ns (12 * n + j) 0)

later_first : (ns : List ℕ) (n : ℕ) → get_or ns (12 * suc n) 0 ≡ get_or (drop 12 ns) (12 * n) 0
later_first ns n = let e : 12 * suc n ≡ 12 + 12 * n = omega arith in ap (λ (i : ℕ). get_or ns i 0) e ∙ sym (get_or-drop 12 ns (12 * n) 0)

later-record : (ns : List ℕ) (n : ℕ) → record_at ns (suc n) ≡ record_at (drop 12 ns) n
later-record ns n = rw (later_first ns n, later ns n 1, later ns n 2, later ns n 3, later ns n 4, later ns n 5, later ns n 6, later ns n 7, later ns n 8, later ns n 9, later ns n 10, later ns n 11)

records-first : (ns : List ℕ) (n : ℕ) → records ns (suc n) ≡ record_at ns 0 ∷ records (drop 12 ns) n
unfolding records
records-first ns zero = refl
records-first ns (suc n) =
    ap (λ (l : List Report). l ++ (record_at ns (suc n) ∷ [])) (records-first ns n)
    ∙ ap (λ (r : Report). record_at ns 0 ∷ (records (drop 12 ns) n ++ (r ∷ []))) (later-record ns n)

length-entries : (rs : List Reported) → length (entries_of version1 (errors rs)) ≡ 12 * length (errors rs)
length-entries [] = refl
length-entries (error k p h ps ∷ rs) =
    let a = length-append (entry_of version1 (error k p h ps)) (entries_of version1 (errors rs)) in
    let b = length-padded ps in
    let c = length-entries rs in
    omega (arith, a, b, c)
length-entries (warning s o ∷ rs) = length-entries rs
length-entries (left s n b ∷ rs) = length-entries rs

records-of : (rs : List Reported) (rest : List ℕ) → records (entries_of version1 (errors rs) ++ rest) (length (errors rs)) ≡ records_of rs
unfolding records
records-of [] rest = refl
records-of (error k p h ps ∷ rs) rest =
    let entry = entry_of version1 (error k p h ps) in
    let after = entries_of version1 (errors rs) ++ rest in
    let n = length (errors rs) in
    let padded = length-padded ps in
    let twelve : length entry ≡ 12 = omega (arith, padded) in
    ap (λ (ns : List ℕ). records ns (suc n)) (append_assoc entry (entries_of version1 (errors rs)) rest)
    ∙ records-first (entry ++ after) n
    ∙ ap (λ (r : Report). r ∷ records (drop 12 (entry ++ after)) n) (first-record k p h ps after)
    ∙ ap (λ (ns : List ℕ). record_of k p h ps ∷ records ns n) (drop_at entry after 12 twelve)
    ∙ ap (λ (l : List Report). record_of k p h ps ∷ l) (records-of rs rest)
records-of (warning s o ∷ rs) rest = records-of rs rest
records-of (left s n b ∷ rs) rest = records-of rs rest

-- the numbers of the rules' errors, with whatever follows them, make these errors' records
pub reports-of-errors : (rs : List Reported) (rest : List ℕ) (old new : List Report) (fault : ℕ) → length (errors rs) ≤ length old
    → Writes (entries_of version1 (errors rs) ++ rest) (length (errors rs)) old new fault
    → (fault ≡ 0) × (new ≡ records_of rs ++ drop (length (errors rs)) old)
reports-of-errors rs rest old new fault h w =
    let ns = entries_of version1 (errors rs) ++ rest in
    let n = length (errors rs) in
    let a = length-append (entries_of version1 (errors rs)) rest in
    let b = length-entries rs in
    let enough : 12 * n ≤ length ns = omega (arith, a, b) in
    let no : too_few ns n old ≡ false = ap (λ (u : Bool). u || ltb (length ns) (12 * n)) (le-ltb (length old) n h) ∙ le-ltb (length ns) (12 * n) enough in (
      w.answer ∙ ap (λ (t : Bool). cond t 14 0) no,
      w.structs ∙ ap (λ (t : Bool). cond t old (records ns n ++ drop n old)) no ∙ ap (λ (l : List Report). l ++ drop n old) (records-of rs rest),
    )

-- so the pass's numbers of an image make the records of its errors, under every setting of the switches
pub reports-of-image : (w : Switches) (i : Image) (rest : List ℕ) (old new : List Report) (fault : ℕ) → (answer_of version1 w i).error_count ≤ length old
    → Writes ((answer_of version1 w i).error_numbers ++ rest) (answer_of version1 w i).error_count old new fault
    → (fault ≡ 0) × (new ≡ records_of (reports w i) ++ drop (answer_of version1 w i).error_count old)
reports-of-image w i = reports-of-errors (reports w i)

-- the error that document 01 prints as `error 1 15 0 13`
pub printed-error : records (entries_of version1 (error 1 15 0 (13 ∷ []) ∷ [])) 1
    ≡ record { kind = 1; place = 15; hint = 0; count = 1; places = 13 ∷ 0 ∷ 0 ∷ 0 ∷ 0 ∷ 0 ∷ 0 ∷ 0 ∷ [] } ∷ []
unfolding records
printed-error = refl
