-- Demand 3 of the bytes that the entry writes.
-- Assumes nothing.
use Prim.Native.Nat.{ℕ}
use native.Mathlib.Omega.{arith}
use mathlib.Core.Path.{◌≡◌, refl, sym, ap, ◌∙◌, subst}
use mathlib.Core.Bool.{Bool, true, false, cond}
use mathlib.Core.List.{List}
use mathlib.Core.Option.{Option, none, some}
use lib.ListN.{length, get_or}
use Rattle.image_fields.specs.Bytes.{Bytes}
use Rattle.tables.specs.Limits.{version1}
use Rattle.image.specs.Image.{Image, Decoded, accepted, refused, decode, encode}
use Rattle.image.proofs.RoundTrip.{image-written}
use Rattle.rules.specs.Rules.{Switches, switches_of, decide_body}
use Rattle.rules.specs.Report.{returned_image}
use Rattle.rules.specs.Walk.{image_fault}
use Rattle.rules.specs.Verdict.{Lent, Answer, answer_of, Verdict, refuses, answers, lists_fit, output_fits, walked, decided, too_high, pass_verdict}
use Rattle.rules.proofs.AsReturned.{returned-body}
use Rattle.rules.specs.Pieces.{Struck}
use Rattle.rules.proofs.Pieces.{struck}
use Rattle.image_writing.specs.Memory.{Memory}
use Rattle.entries_verdict.specs.declared.Totals.{Totals}
use Rattle.std.specs.Prelude.{Result, Ok, Err}
use Rattle.image_fields.specs.declared.Fault.{Fault}
use Rattle.image_fields.specs.Fault.{coded}
use Rattle.entries_image.specs.Images.{number_in}
use Rattle.entries_verdict.specs.Passes.{Passes, outcome_of, memory_after, verdict_on}
use Rattle.ownership_pass.specs.Entries.{totals_after, PassLeaves}
use Rattle.ownership_pass.specs.Promise.{Promise, Kept}
use Rattle.ownership_pass.proofs.Numbers.{refused-positive, refused-numbers}

refuses-nothing : {C : Type 0} {n : ℕ} {a : Answer} → refuses n ≡ answers a → C
refuses-nothing e = let z : ◌≡◌ {A = ℕ} 0 1 = cc in absurd (omega arith)

-- the answer is that of the image
answer-is : (w : Switches) (lent : Lent) (i : Image) (x : Option ℕ) (a : Answer) → walked version1 w lent i x ≡ answers a → a ≡ answer_of version1 w i
answer-is w lent i (some n) a e = refuses-nothing e
answer-is w lent i none a e = go (lists_fit lent (answer_of version1 w i)) (output_fits w lent i (answer_of version1 w i)) e
  where
    go : (b c : Bool) → cond b (cond c (answers (answer_of version1 w i)) (refuses 15)) (refuses 14) ≡ answers a → a ≡ answer_of version1 w i
    go true true g = cc
    go true false g = refuses-nothing g
    go false c g = refuses-nothing g

promised-by : (w : Switches) (s : List ℕ) → Bytes s → (lent : Lent) (a : Answer) (b : Bool) → cond b (refuses 17) (decided version1 w lent (decode version1 s)) ≡ answers a → Promise w s a.output
promised-by w s small lent a = high
  where
    output : (i : Image) → walked version1 w lent i (image_fault version1 w i) ≡ answers a → a.output ≡ encode version1 (returned_image w i)
    output i g = ap (λ (x : Answer). x.output) (answer-is w lent i (image_fault version1 w i) a g)

    go : (d : Decoded) → decode version1 s ≡ d → decided version1 w lent d ≡ answers a → Promise w s a.output
    go (refused n) z g = refuses-nothing g
    go (accepted i) z g = record {
      image = i;
      read = z;
      sent = image-written version1 s small i z;
      tree = (returned_image w i).body.code;
      given = output i g;
      returned = returned-body w i.tables i.entry i.body;
      struck = subst (λ (x : List ℕ). Struck version1 s x i (decide_body w i.tables i.entry i.body)) (sym (output i g)) (struck version1 w s small i z);
    }

    high : (b : Bool) → cond b (refuses 17) (decided version1 w lent (decode version1 s)) ≡ answers a → Promise w s a.output
    high true g = refuses-nothing g
    high false g = go (decode version1 s) refl g

pub promised : (value : ℕ) (s : List ℕ) → Bytes s → (lent : Lent) (a : Answer) → pass_verdict version1 lent value s ≡ answers a → Promise (switches_of value) s a.output
unfolding pass_verdict
promised value s small lent a e = promised-by (switches_of value) s small lent a (too_high value) e

-- of every call of `pass_switched` that is accepted, with any value; `pass` is that with 0
pub pass-promised : (value : ℕ) (s : List ℕ) → Bytes s → (m m' : Memory) (r : Result Totals Fault) → Passes value s m r m' → (t : Totals) → r ≡ Ok t → Kept value s m m' t.written
pass-promised value s small m m' r g t e = go (verdict_on value s m) refl
  where
    accepts-nothing : {n : ℕ} → ◌≡◌ {A = Result Totals ℕ} (Err n) (Ok t) → Kept value s m m' t.written
    accepts-nothing z = let y : ◌≡◌ {A = ℕ} 0 1 = cc in absurd (omega arith)

    go : (v : Verdict) → verdict_on value s m ≡ v → Kept value s m m' t.written
    go (refuses n) z = accepts-nothing (sym (g.outcome ∙ ap outcome_of z) ∙ ap coded e)
    go (answers a) z =
        let y : ◌≡◌ {A = Result Totals ℕ} (Ok (record { written = length a.output; errors = a.error_count; warnings = a.warning_count; lefts = a.left_count })) (Ok t) = sym (g.outcome ∙ ap outcome_of z) ∙ ap coded e in
        let x : record { written = length a.output; errors = a.error_count; warnings = a.warning_count; lefts = a.left_count } ≡ t = cc in
        record {
          output = a.output;
          long = sym (ap (λ (u : Totals). u.written) x);
          there = ap (λ (u : Memory). u.out) (g.leaves ∙ ap (λ v. memory_after v m) z);
          promise = promised value s small _ a z;
        }

-- of every call of `ownership_pass_switched` that answers 0, and so of `ownership_pass`; the first total is the bytes written
pub entry-promised : (value : ℕ) (s : List ℕ) → Bytes s → (m m' : Memory) (old new : List ℕ) (r : ℕ) → PassLeaves value s m old r m' new → r ≡ 0 → Kept value s m m' (get_or new 0 0)
entry-promised value s small m m' old new r g e = go g.outcome refl
  where
    go : (o : Result Totals Fault) → g.outcome ≡ o → Kept value s m m' (get_or new 0 0)
    go (Ok t) z =
        subst (Kept value s m m') (sym (ap (λ (l : List ℕ). get_or l 0 0) (g.leaves ∙ ap (λ (o : Result Totals Fault). totals_after o old) z)))
        (pass-promised value s small m m' g.outcome g.is t z)
    go (Err n) z = let k = refused-positive (refused-numbers value s m m' g.outcome g.is n z) in let h = g.number ∙ ap number_in z in absurd (omega (arith, k, h, e))
