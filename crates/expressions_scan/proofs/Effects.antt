-- One effect: the change that it makes of a stack, and its error stored.
-- Assumes nothing.
use Prim.Native.Nat.{ℕ, ◌+◌, ◌≤◌}
use mathlib.Core.Path.{◌≡◌, refl, sym, ap, ◌∙◌, subst}
use mathlib.Core.Bool.{Bool, true, false, cond}
use mathlib.Core.List.{List, [], ◌∷◌, ◌++◌, append-nil}
use Rattle.image_fields.proofs.Tests.{false-true}
use Rattle.tables.specs.Limits.{version1}
use Rattle.rules.specs.State.{State as Status, alive, gone, moved, consumed, hand_state}
use Rattle.rules.specs.Stack.{local, shape, has, lookup, in_frame, mark, Stack as Scope}
use Rattle.rules.specs.Effects.{hand, kill, bad_move}
use Rattle.rules.specs.Rules.{states, apply_all, off}
use Rattle.rules.specs.Report.{error, use_of, report_all}
use Rattle.rules.specs.Verdict.{entry_of, entries_of}
use Rattle.rules.specs.Effects.{uses, hands, gives, moves, moves_global, moves_none, resolve_all}
use Rattle.expressions_effects.specs.Asked.{emits}
use Rattle.expressions_effects.specs.declared.Effect.{Effect}
use Rattle.scope_state.specs.Kinds.{put}
use Rattle.image_writing.specs.Stored.{Stored}
use Rattle.image_writing.proofs.Stores.{none-stored}
use Rattle.std.specs.Prelude.{Option, Some, None}
use Rattle.expressions_scan.specs.declared.Mark.{Mark}
use Rattle.expressions_scan.specs.declared.Answer.{Answer}
use Rattle.expressions_scan.specs.Changes.{after, told, applied, Answers, Marks, Small}
use Rattle.expressions_scan.proofs.Entries.{stored-eq}

module _ (n : ℕ) (f g : Status → Status) (same : (a : Status) → f a ≡ g a) where
  frame_same : (d : ℕ) (σ : Scope Status) → in_frame n d f σ ≡ in_frame n d g σ
  frame_same d [] = refl
  frame_same d (local s a ∷ σ) = rw (same a, frame_same d σ)

  mark-same : (σ : Scope Status) → mark n f σ ≡ mark n g σ
  mark-same [] = refl
  mark-same (local s a ∷ σ) = rw (same a, frame_same s.depth σ, mark-same σ)

hand-put : (p : ℕ) (a : Status) → put true (gone false moved (p ∷ [])) a ≡ hand_state p a
hand-put p alive = refl
hand-put p (gone c k ps) = refl

-- a change of a name
abbrev marks : ℕ → ℕ → ℕ → Bool → Option Mark
marks m k p o = Some (record { name = m; kind = k; place = p; only_alive = o })

-- the effect that a match found
pub as-emits : {e x : Effect} {σ : Scope Status} {old new : List ℕ} {n : ℕ} {r : Answer} → e ≡ x → Answers (emits x) σ old n new r → Answers (emits e) σ old n new r
as-emits {e} {x} {σ} {old} {new} {n} {r} q a = subst (λ y. Answers (emits y) σ old n new r) (sym q) a

-- an answer without a change
pub small-still : {n : ℕ} {old new : List ℕ} {r : Answer} → r.change ≡ None → r.told ≤ n + 12 → Small n old new r
small-still {n} {old} {new} {r} e le = record { most = le; marks = subst Marks (sym e) tt }

-- what the rules say of one effect
module _ (σ : Scope Status) (m p : ℕ) where
  hands-told : (b : Bool) → [] ≡ report_all (cond b (hand m p ∷ []) [] ++ []) σ
  hands-told true = refl
  hands-told false = refl

  pub hand-told : use_of p (lookup m σ) ≡ told (uses m p ∷ hands m p ∷ []) σ
  unfolding resolve_all
  hand-told = sym (append-nil _) ∙ ap (λ x. use_of p (lookup m σ) ++ x) (hands-told (has m (shape σ)))

  hands_on : (b : Bool) → true ≡ b → mark m (hand_state p) σ ≡ apply_all (states off) (cond b (hand m p ∷ []) [] ++ []) σ
  hands_on true e = refl
  hands_on false e = false-true (sym e)

  hands-off : (b : Bool) → false ≡ b → σ ≡ apply_all (states off) (cond b (hand m p ∷ []) [] ++ []) σ
  hands-off true e = false-true e
  hands-off false e = refl

  pub gives-told : (b : Bool) → [] ≡ report_all (cond b (kill consumed m p ∷ []) [] ++ []) σ
  gives-told true = refl
  gives-told false = refl

  gives-on : (b : Bool) → true ≡ b → mark m ((states off).killed consumed p) σ ≡ apply_all (states off) (cond b (kill consumed m p ∷ []) [] ++ []) σ
  gives-on true e = refl
  gives-on false e = false-true (sym e)

  gives-off : (b : Bool) → false ≡ b → σ ≡ apply_all (states off) (cond b (kill consumed m p ∷ []) [] ++ []) σ
  gives-off true e = false-true e
  gives-off false e = refl

  -- moves: of what is no local, of a temporary, of a local
  move-after : (t b c : Bool) → b ≡ has m (shape σ) → c ≡ t → apply_all (states off) (cond b (cond c (bad_move p 3) (kill moved m p)) (bad_move p 2) ∷ []) σ ≡ after (moves m p t ∷ []) σ
  unfolding resolve_all
  move-after t b c e f = rw (e, f)

  move-told : (t b c : Bool) → b ≡ has m (shape σ) → c ≡ t → report_all (cond b (cond c (bad_move p 3) (kill moved m p)) (bad_move p 2) ∷ []) σ ≡ told (moves m p t ∷ []) σ
  unfolding resolve_all
  move-told t b c e f = rw (e, f)

module _ (σ : Scope Status) {old : List ℕ} {n : ℕ} where
  pub answers-nothing : Answers [] σ old n old (record { told = n; change = None })
  unfolding resolve_all
  answers-nothing = record { locals = refl; errors = none-stored old n }

  pub answers-use : {m p t : ℕ} {new : List ℕ} → Stored old n (entries_of version1 (use_of p (lookup m σ))) new t → Answers (uses m p ∷ []) σ old n new (record { told = t; change = None })
  unfolding resolve_all
  answers-use {m} {p} w = record { locals = refl; errors = stored-eq (ap (entries_of version1) (sym (append-nil (use_of p (lookup m σ))))) w }

  pub answers-hand : {m p t : ℕ} {new : List ℕ} → true ≡ has m (shape σ) → Stored old n (entries_of version1 (use_of p (lookup m σ))) new t
      → Answers (uses m p ∷ hands m p ∷ []) σ old n new (record { told = t; change = marks m 2 p true })
  unfolding resolve_all
  answers-hand {m} {p} h w = record {
    locals = mark-same m (put true (gone false moved (p ∷ []))) (hand_state p) (hand-put p) σ ∙ hands_on σ m p (has m (shape σ)) h;
    errors = stored-eq (ap (entries_of version1) (hand-told σ m p)) w;
  }

  pub answers-unhanded : {m p t : ℕ} {new : List ℕ} → false ≡ has m (shape σ) → Stored old n (entries_of version1 (use_of p (lookup m σ))) new t
      → Answers (uses m p ∷ hands m p ∷ []) σ old n new (record { told = t; change = None })
  unfolding resolve_all
  answers-unhanded {m} {p} h w = record { locals = hands-off σ m p (has m (shape σ)) h; errors = stored-eq (ap (entries_of version1) (hand-told σ m p)) w }

  pub answers-give : {m p : ℕ} → true ≡ has m (shape σ) → Answers (gives m p ∷ []) σ old n old (record { told = n; change = marks m 3 p false })
  unfolding resolve_all
  answers-give {m} {p} h = record { locals = gives-on σ m p (has m (shape σ)) h; errors = stored-eq (ap (entries_of version1) (gives-told σ m p (has m (shape σ)))) (none-stored old n) }

  pub answers-ungiven : {m p : ℕ} → false ≡ has m (shape σ) → Answers (gives m p ∷ []) σ old n old (record { told = n; change = None })
  unfolding resolve_all
  answers-ungiven {m} {p} h = record { locals = gives-off σ m p (has m (shape σ)) h; errors = stored-eq (ap (entries_of version1) (gives-told σ m p (has m (shape σ)))) (none-stored old n) }

  pub answers-unmoved : {m p : ℕ} {t : Bool} {new : List ℕ} {r : Answer} → false ≡ has m (shape σ) → Stored old n (entry_of version1 (error 7 p 2 [])) new r.told × (r.change ≡ None)
      → Answers (moves m p t ∷ []) σ old n new r
  answers-unmoved {m} {p} {t} h w = record {
    locals = ap (λ x. applied x σ) w.1 ∙ move-after σ m p t false t h refl;
    errors = stored-eq (ap (entries_of version1) (move-told σ m p t false t h refl)) w.0;
  }

  pub answers-temp : {m p : ℕ} {t : Bool} {new : List ℕ} {r : Answer} → true ≡ has m (shape σ) → true ≡ t → Stored old n (entry_of version1 (error 7 p 3 [])) new r.told × (r.change ≡ None)
      → Answers (moves m p t ∷ []) σ old n new r
  answers-temp {m} {p} {t} h f w = record {
    locals = ap (λ x. applied x σ) w.1 ∙ move-after σ m p t true true h f;
    errors = stored-eq (ap (entries_of version1) (move-told σ m p t true true h f)) w.0;
  }

  pub answers-move : {m p : ℕ} {t : Bool} → true ≡ has m (shape σ) → false ≡ t → Answers (moves m p t ∷ []) σ old n old (record { told = n; change = marks m 2 p false })
  answers-move {m} {p} {t} h f = record {
    locals = move-after σ m p t true false h f;
    errors = stored-eq (ap (entries_of version1) (move-told σ m p t true false h f)) (none-stored old n);
  }

  pub answers-bad : {new : List ℕ} {p : ℕ} {r : Answer} → Stored old n (entry_of version1 (error 7 p 1 [])) new r.told × (r.change ≡ None) → Answers (moves_none p ∷ []) σ old n new r
  unfolding resolve_all
  answers-bad w = record { locals = ap (λ x. applied x σ) w.1; errors = w.0 }

  pub answers-global : {new : List ℕ} {p d t : ℕ} → Stored old n (entry_of version1 (error 8 p 0 (d ∷ []))) new t → Answers (moves_global p d ∷ []) σ old n new (record { told = t; change = None })
  unfolding resolve_all
  answers-global w = record { locals = refl; errors = w }
