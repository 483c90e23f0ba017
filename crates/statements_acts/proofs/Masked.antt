-- Laws of a mark whose bits below a local are masked off: what is deleted of the locals from there on.
-- Assumes nothing.
use Prim.Native.Nat.{ℕ, zero, suc, ◌<◌}
use mathlib.Core.Path.{◌≡◌, refl, ◌∙◌}
use mathlib.Core.Bool.{Bool, true, false, cond, ◌&&◌}
use mathlib.Core.List.{List, []}
use native.Mathlib.Omega.{arith}
use lib.Dec.{leb}
use lib.ListN.{get_or}
use Rattle.tables.specs.Tables.{Tables}
use Rattle.rules.specs.Questions.{auto}
use Rattle.rules.specs.State.{State as Status, gone, deleted, is_alive}
use Rattle.rules.specs.Stack.{Static}
use Rattle.rules.specs.Rules.{states, gather, off}
use Rattle.scope_stack.specs.Word.{word_at}
use Rattle.scope_stack.proofs.Words.{word_same}
use Rattle.scope_state.specs.Locals.{stacked}
use Rattle.statements_acts.specs.Drops.{admitted}
use Rattle.std.specs.Prelude.{None}
use Rattle.statements_acts.specs.Marks.{static_in, lent, drop_in, Marked}

-- what is said of the locals from base on; those before it count as given up
abbrev pub state_since : ℕ → (ℕ → Status) → ℕ → Status
state_since base g i = cond (leb base i) (g i) (gone false deleted [])

lives-since : (b a : Bool) (x : Status) → (b && (is_alive x && a)) ≡ (is_alive (cond b x (gone false deleted [])) && a)
lives-since true a x = refl
lives-since false a x = refl

picked : (b : Bool) (x : Status) → (true && is_alive (cond b x (gone false deleted []))) ≡ (b && is_alive x)
picked true x = refl
picked false x = refl

module _ (T : Tables) (types : List ℕ) (g : ℕ → Status) (base : ℕ) where
  -- the masked word is the mark of what is said of them
  pub since-marked : (n own : ℕ) → own ≡ word_at 0 n (λ i. leb base i && drop_in T types g i) → Marked T types (state_since base g) n own
  since-marked n own e =
      e ∙ word_same n (λ i. leb base i && drop_in T types g i) (drop_in T types (state_since base g)) (λ i l. lives-since (leb base i) (auto T (get_or types i 0)) (g i))

  -- and by it those locals are deleted, and no others, whatever tells them apart
  module _ {B : Type 0} (names depths births : List ℕ) (q : Static → Bool) (says : Static → B) where
    pub since-drops : (n : ℕ) → ((i : ℕ) → i < n → q (static_in names types depths births i) ≡ leb base i)
        → gather (states off) T (admitted None) says (lent names types depths births (state_since base g) n) ≡ gather (states off) T q says (lent names types depths births g n)
    unfolding stacked
    since-drops zero h = refl
    since-drops (suc n) h =
        let ih = since-drops n (λ i l. h i (omega arith)) in
        let e : q (static_in names types depths births n) ≡ leb base n = h n (omega arith) in
        rw (picked (leb base n) (g n), e, ih)
