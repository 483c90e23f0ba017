-- An effect tells of at most one error; the numbers of its entry say it, and so do the lines made of them.
-- Assumes nothing.
use Prim.Native.Nat.{ℕ, zero, suc, ◌+◌, ◌-◌, ◌≤◌, ◌<◌}
use mathlib.Core.Path.{◌≡◌, refl, sym, ap, ◌∙◌, subst}
use mathlib.Core.Bool.{Bool, true, false, cond}
use mathlib.Core.List.{List, [], ◌∷◌, ◌++◌, append-nil}
use mathlib.Core.Logic.{◌⊎◌, inl, inr, ⊎_elim}
use borrow.Author.Tests.{ltb-false, eqb-false}
use native.Mathlib.Omega.{arith}
use lib.Dec.{eqb, ltb}
use lib.ListN.{length, get_or, take, drop, replicate, length-append, length-take, drop_of_length-le}
use lib.Seq.{sets-eq, length-take-le}
use Rattle.image_fields.proofs.Tests.{split}
use Rattle.tables.specs.Limits.{version1}
use Rattle.rules.specs.State.{State as Status, moved}
use Rattle.rules.specs.Stack.{Static, shape, has, lookup, Stack as Scope}
use Rattle.rules.specs.Report.{Report, error, first, bad_use, use_of, report_all}
use Rattle.rules.specs.Verdict.{entry_of, entries_of}
use Rattle.rules.specs.Effects.{Raw, kill, bad_move, resolve_all}
use Rattle.expressions_effects.specs.Asked.{emits}
use Rattle.expressions_effects.specs.declared.Effect.{Effect}
use Rattle.expressions_effects.specs.declared.Effect.TheVariants as effect
use Rattle.scope_state.specs.Kinds.{base_of, said}
use Rattle.scope_state.specs.Locals.{row_at, row_of, status_of, state_in, stacked, lent}
use Rattle.scope_state.proofs.Uses.{bad-use}
use Rattle.image_writing.specs.Stored.{Stored}
use Rattle.image_lines.specs.Lined.{shown, error_of}
use Rattle.image_lines.specs.Told.{Listed}
use Rattle.image_lines.proofs.Entries.{error-entry}
use Rattle.image_lines.proofs.Told.{true-false, listed-none, listed-lines}
use Rattle.expressions_scan.specs.States.{Kept, AllKept}
use Rattle.expressions_scan.specs.declared.Answer.{Answer}
use Rattle.std.specs.Prelude.{None}
use Rattle.expressions_scan.specs.Changes.{told, Answers, Tells}
use Rattle.expressions_scan.proofs.Effects.{hand-told, gives-told}

-- one error of a kind that the page names, with places for one entry
pub record One (rs : List Report) : Type 0 where
  pub kind : ℕ
  pub place : ℕ
  pub hint : ℕ
  pub others : List ℕ
  pub some : 0 < kind
  pub known : kind ≤ 8
  pub few : length others ≤ 8
  pub is : rs ≡ error kind place hint others ∷ []

-- none, or one such
abbrev pub Single : List Report → Type 0
Single rs = (rs ≡ []) ⊎ One rs

-- a use of a local in a state that is kept
few-places : (b : Bool) (ps : List ℕ) → length ps ≤ 8 → length (cond b ps (first ps)) ≤ 8
few-places true ps h = h
few-places false [] h = h
few-places false (p ∷ ps) h = omega arith

said-single : (s k : ℕ) (ps : List ℕ) → k < 7 → length ps ≤ 8 → Single (bad_use s (said k ps))
said-single s k ps h few = ⊎_elim
    (λ (e : eqb k 0 ≡ true). inl (bad-use s k ps h ∙ ap (λ (b : Bool). cond b [] one) e))
    (λ (e : eqb k 0 ≡ false). inr (record {
      kind = k;
      place = s;
      hint = 0;
      others = cond (eqb (base_of k) 3) ps (first ps);
      some = let z = eqb-false k 0 e in omega arith;
      known = omega arith;
      few = few-places (eqb (base_of k) 3) ps few;
      is = bad-use s k ps h ∙ ap (λ (b : Bool). cond b [] one) e;
    })) (split (eqb k 0))
  where
    one : List Report
    one = error k s 0 (cond (eqb (base_of k) 3) ps (first ps)) ∷ []

kept-single : (s k f : ℕ) (rows : List ℕ) (row : ℕ) → Kept k f rows row → Single (bad_use s (status_of k f rows row))
kept-single s k f rows row g = ⊎_elim
    (λ (q : ltb k 8 ≡ true). rw q (said-single s k (f ∷ []) (subst (λ b. cond b k (k - 8) < 7) q g.known) (omega arith)))
    (λ (q : ltb k 8 ≡ false).
    let m = g.most (ltb-false k 8 q) in
    let l = length-take (get_or rows row 0) (drop (row + 1) rows) in
    rw q (said-single s (k - 8) (row_at rows row) (subst (λ b. cond b k (k - 8) < 7) q g.known) (omega arith))) (split (ltb k 8))

-- of the newest local of a name
looked-single : (s m n : ℕ) (f : ℕ → Static) (at : ℕ → Status) → ((i : ℕ) → i < n → Single (bad_use s (at i))) → Single (use_of s (lookup m (stacked n f at)))
unfolding stacked
looked-single s m zero f at h = inl refl
looked-single s m (suc n) f at h = ⊎_elim
    (λ (q : eqb (f n).name m ≡ true). rw q (h n (omega arith)))
    (λ (q : eqb (f n).name m ≡ false). rw q (looked-single s m n f at (λ i lt. h i (omega arith)))) (split (eqb (f n).name m))

-- of an effect on locals each of whose uses tells of one error at most
module _ (σ : Scope Status) (uses : (m s : ℕ) → Single (use_of s (lookup m σ))) where
  moved-single : (m p : ℕ) (b c : Bool) → Single (report_all (cond b (cond c (bad_move p 3) (kill moved m p)) (bad_move p 2) ∷ []) σ)
  moved-single m p false c = inr (record { kind = 7; place = p; hint = 2; others = []; some = omega arith; known = omega arith; few = omega arith; is = refl })
  moved-single m p true true = inr (record { kind = 7; place = p; hint = 3; others = []; some = omega arith; known = omega arith; few = omega arith; is = refl })
  moved-single m p true false = inl refl

  told-single : (e : Effect) → Single (told (emits e) σ)
  unfolding resolve_all
  told-single effect.Nothing = inl refl
  told-single (effect.Use m p) = subst Single (sym (append-nil (use_of p (lookup m σ)))) (uses m p)
  told-single (effect.UseHand m p) = subst Single (hand-told σ m p) (uses m p)
  told-single (effect.Consume m p) = inl (sym (gives-told σ m p (has m (shape σ))))
  told-single (effect.Move m p) = moved-single m p (has m (shape σ)) false
  told-single (effect.MoveTemp m p) = moved-single m p (has m (shape σ)) true
  told-single (effect.BadMove p) = inr (record { kind = 7; place = p; hint = 1; others = []; some = omega arith; known = omega arith; few = omega arith; is = refl })
  told-single (effect.GlobalMove p d) = inr (record { kind = 8; place = p; hint = 0; others = d ∷ []; some = omega arith; known = omega arith; few = omega arith; is = refl })

-- of an effect on the locals of lent arrays
pub single : {kinds firsts rows : List ℕ} {cur width n : ℕ} → AllKept kinds firsts rows cur width n → (e : Effect) (names types depths births : List ℕ)
    → Single (told (emits e) (lent names types depths births (state_in kinds firsts rows cur width) n))
single {kinds} {firsts} {rows} {cur} {width} {n} g e names types depths births =
    told-single (lent names types depths births (state_in kinds firsts rows cur width) n)
    (λ m s. looked-single s m n _ (state_in kinds firsts rows cur width) (λ i lt. kept-single s (get_or kinds i 0) (get_or firsts i 0) rows (row_of cur width i) (g.kept i lt))) e

-- the numbers of such an error's entry, alone in memory of 12
module _ {rs : List Report} {window entry : List ℕ} {t : ℕ} (one : Single rs) (room : length window ≡ 12) (w : Stored window 0 (entries_of version1 rs) entry t) where
  entry_length : (o : One rs) → length (entries_of version1 rs) ≡ 12
  entry_length o =
      let l : length (o.others ++ replicate 8 0) ≡ length o.others + 8 = length-append o.others (replicate 8 0) in
      let k : length (take 8 (o.others ++ replicate 8 0)) ≡ 8 = length-take-le 8 (o.others ++ replicate 8 0) (omega arith) in
      let e = ap (λ (l : List ℕ). length l) (append-nil (entry_of version1 (error o.kind o.place o.hint o.others))) in
      ap (λ (l : List Report). length (entries_of version1 l)) o.is ∙ e ∙ omega arith

  -- nothing stored, nothing told
  pub none_told : t ≡ 0 → rs ≡ []
  none_told e = ⊎_elim (λ z. z) (λ o. let p = w.place in let l = entry_length o in absurd (omega arith)) one

  module _ (n : t ≡ 0 → ⊥) where
    the_one : One rs
    the_one = ⊎_elim (λ z. absurd (n (w.place ∙ ap (λ (l : List Report). 0 + length (entries_of version1 l)) z))) (λ o. o) one

    whole : (o : One rs) → entry ≡ entry_of version1 (error o.kind o.place o.hint o.others)
    whole o =
        let l = entry_length o in
        w.cells ∙ sets-eq (entries_of version1 rs) window 0 (omega arith)
        ∙ ap (λ (r : List ℕ). entries_of version1 rs ++ r) (drop_of_length-le window {i = 0 + length (entries_of version1 rs)} (omega arith))
        ∙ append-nil (entries_of version1 rs)
        ∙ ap (entries_of version1) o.is
        ∙ append-nil (entry_of version1 (error o.kind o.place o.hint o.others))

    -- what is stored is an entry that the page shows, and of that error
    pub entry-fit : (0 < get_or entry 0 0) × (get_or entry 0 0 ≤ 8) × (get_or entry 3 0 ≤ 8)
    entry-fit = let o = the_one in rw (whole o) (o.some, o.known, o.few)

    pub entry-error : rs ≡ error_of entry ∷ []
    entry-error = let o = the_one in o.is ∙ ap (λ (r : Report). r ∷ []) (sym (ap error_of (whole o) ∙ error-entry version1 o.kind o.place o.hint o.others o.few))

-- an answer, what it tells stored: as numbers of the list; nothing; as lines made of the numbers of its entry
module _ {b : Bool} {rs : List Raw} {σ : Scope Status} {old out : List ℕ} {n : ℕ} where
  pub tells-numbers : {new : List ℕ} {r : Answer} → b ≡ false → Answers rs σ old n new r → Tells b rs σ old out n new out r
  tells-numbers e a = record { locals = a.locals; errors = record { numbers = λ _. (refl, a.errors); lines = λ y. absurd (true-false (sym y ∙ e)) } }

  module _ {window entry : List ℕ} {a : Answer} (one : Single (told rs σ)) (room : length window ≡ 12) (w : Answers rs σ window 0 entry a) where
    pub tells-nothing : a.told ≡ 0 → Tells b rs σ old out n old out (record { told = n; change = a.change })
    tells-nothing e = record {
      locals = w.locals;
      errors = subst (λ (l : List Report). Listed b l old out n old out n) (sym (none_told one room w.errors e)) (listed-none b old out n);
    }

    pub tells-lines : (a.told ≡ 0 → ⊥) → b ≡ true → {out' : List ℕ} {t : ℕ} → Stored out n (shown (error_of entry)) out' t → Tells b rs σ old out n old out' (record { told = t; change = a.change })
    tells-lines e y {out'} {t} s = record {
      locals = w.locals;
      errors = subst (λ (l : List Report). Listed b l old out n old out' t) (sym (entry-error one room w.errors e)) (listed-lines y s);
    }

-- no effect
pub tells_none : {b : Bool} {e : Effect} {σ : Scope Status} {old out : List ℕ} {n : ℕ} → e ≡ effect.Nothing → Tells b (emits e) σ old out n old out (record { told = n; change = None })
unfolding resolve_all
tells_none {b} {e} {σ} {old} {out} {n} q = subst (λ (x : Effect). Tells b (emits x) σ old out n old out (record { told = n; change = None })) (sym q) (record { locals = refl; errors = listed-none b old out n })
