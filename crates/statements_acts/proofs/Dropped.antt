-- Laws of deletes by a mark.
-- Assumes nothing.
use Prim.Native.Nat.{ℕ, zero, suc, ◌+◌, ◌-◌, ◌*◌, ◌^◌, ◌≤◌, ◌<◌}
use mathlib.Core.Path.{◌≡◌, refl, sym, ap, ◌∙◌, subst}
use mathlib.Core.Bool.{Bool, true, false, cond, ◌&&◌}
use mathlib.Core.List.{List, [], ◌∷◌, ◌++◌}
use native.Mathlib.Omega.{arith}
use lib.ListN.{length, get_or}
use Rattle.tables.specs.Tables.{Tables}
use Rattle.std.specs.Prelude.{Option, Some, None}
use Rattle.rules.specs.Expr.{called}
use Rattle.rules.specs.Questions.{auto}
use Rattle.tables.specs.Limits.{version1}
use Rattle.rules.specs.Report.{Report, left, left_at}
use Rattle.rules.specs.Verdict.{entries_of}
use Rattle.rules.specs.Stack.{Static}
use Rattle.rules.specs.State.{State as Status, is_alive}
use Rattle.rules.specs.Rules.{states, drop_of, gather, drop_newest, drop_named, off}
use Rattle.image_writing.specs.Stored.{Stored}
use Rattle.image_lines.specs.Lined.{shown_all}
use Rattle.image_lines.specs.Told.{Listed}
use Rattle.image_lines.proofs.Cursors.{shown-none, shown-more, shown-single}
use Rattle.statements_acts.proofs.Laws.{Rest, rest-start, rest-step, rest_end, count-step, count-end}
use Rattle.scope_stack.specs.Word.{word_of, word_at, Top, Newest}
use Rattle.scope_stack.proofs.Words.{top_below, top-rest, word-zero, ones, many, ones-word}
use Rattle.scope_state.specs.Locals.{stacked, found_in, Finds}
use Rattle.scope_state.proofs.Stacked.{stacked-more, stacked-none}
use Rattle.statements_acts.specs.Drops.{admitted}
use Rattle.statements_acts.specs.Marks.{static_in, lent, drop_in, Marked}
use Rattle.statements_acts.proofs.Lent.{found_as}

-- how much is put at most: the rest of the mark has n bits
pub record Bounded (at m place put : ℕ) : Type 0 where
  pub n : ℕ
  pub word : m < 2 ^ n
  pub room : place + 21 * n ≤ at + 1344
  pub many : put + n ≤ 64

pub bounded-none : (at m : ℕ) → m < 2 ^ 64 → Bounded at m at 0
bounded-none at m h = record { n = 64; word = h; room = omega arith; many = omega arith }

pub bounded-more : (at m place put j place' put' : ℕ) → Bounded at m place put → Top m j → place' ≤ place + 21 → put' ≤ put + 1 → Bounded at (m - 2 ^ j) place' put'
bounded-more at m place put j place' put' b t lp lq =
    let l : j < b.n = top_below m j b.n t b.word in
    record { n = j; word = top-rest m j t; room = omega (arith, b.room); many = omega (arith, b.many) }

-- three numbers for each, or the 73 bytes of a line
pub record Placed (at m place : ℕ) : Type 0 where
  pub n : ℕ
  pub word : m < 2 ^ n
  pub room : place + 73 * n ≤ at + 4672

pub placed-none : (at m : ℕ) → m < 2 ^ 64 → Placed at m at
placed-none at m h = record { n = 64; word = h; room = omega arith }

pub placed-more : (at m place j place' : ℕ) → Placed at m place → Top m j → place' ≤ place + 73 → Placed at (m - 2 ^ j) place'
placed-more at m place j place' b t lp =
    let l : j < b.n = top_below m j b.n t b.word in
    record { n = j; word = top-rest m j t; room = omega (arith, b.room) }

and_assoc : (a b c : Bool) → ((a && b) && c) ≡ (a && (b && c))
and_assoc true b c = refl
and_assoc false b c = refl

and_one : (b : Bool) → (b && true) ≡ b
and_one true = refl
and_one false = refl

clear-drop : {B : Type 0} (b : Bool) (d : B) (ds : List B) → cond (b && false) (d ∷ ds) ds ≡ ds
clear-drop true d ds = refl
clear-drop false d ds = refl

-- the newest set bit, then those below it
module _ {B : Type 0} (T : Tables) (names types depths births : List ℕ) (g : ℕ → Status) (q : Static → Bool) (says : Static → B) where
  abbrev pub some' : ℕ → List B
  some' n = gather (states off) T q says (lent names types depths births g n)

  abbrev drop' : ℕ → B
  drop' i = says (static_in names types depths births i)

  drop_more : (n : ℕ) → some' (n + 1) ≡ cond (q (static_in names types depths births n) && drop_in T types g n) (drop' n ∷ some' n) (some' n)
  drop_more n =
      ap (gather (states off) T q says) (stacked-more (static_in names types depths births) g n)
      ∙ ap (λ (b : Bool). cond b (drop' n ∷ some' n) (some' n)) (and_assoc (q (static_in names types depths births n)) (is_alive (g n)) (auto T (get_or types n 0)))

  drop-clear : (n k : ℕ) → ((i : ℕ) → n ≤ i → i < n + k → drop_in T types g i ≡ false) → some' (n + k) ≡ some' n
  drop-clear n zero c = let z : n + 0 ≡ n = omega arith in rw z
  drop-clear n (suc k) c =
      let z : n + suc k ≡ (n + k) + 1 = omega arith in
      let off : drop_in T types g (n + k) ≡ false = c (n + k) (omega arith) (omega arith) in
      ap some' z ∙ drop_more (n + k) ∙ ap (λ (b : Bool). cond (q (static_in names types depths births (n + k)) && b) (drop' (n + k) ∷ some' (n + k)) (some' (n + k))) off
      ∙ clear-drop (q (static_in names types depths births (n + k))) (drop' (n + k)) (some' (n + k)) ∙ drop-clear n k (λ i a b. c i a (omega arith))

  drops-next : (n m j : ℕ) → Newest 0 n (drop_in T types g) m j → some' n ≡ cond (q (static_in names types depths births j)) (drop' j ∷ some' j) (some' j)
  drops-next n m j w =
      let all : (j + 1) + (n - (j + 1)) ≡ n = omega (arith, w.below) in
      ap some' (sym all) ∙ drop-clear (j + 1) (n - (j + 1)) (λ i a b. w.clear i (omega arith) (omega arith)) ∙ drop_more j
      ∙ ap (λ (b : Bool). cond (q (static_in names types depths births j) && b) (drop' j ∷ some' j) (some' j)) w.set
      ∙ ap (λ (b : Bool). cond b (drop' j ∷ some' j) (some' j)) (and_one (q (static_in names types depths births j)))

  drops-none : (n : ℕ) → word_of n (drop_in T types g) ≡ 0 → some' n ≡ []
  drops-none n z =
      let all : 0 + n ≡ n = omega arith in
      ap some' (sym all) ∙ drop-clear 0 n (λ i a b. word-zero n (drop_in T types g) z i (omega arith))
      ∙ ap (gather (states off) T q says) (stacked-none (static_in names types depths births) g 0 (omega arith))

  -- what is left to put for the rest m of the mark, as f writes it, and how many
  pub record Left (f : List B → List ℕ) (old : List ℕ) (at k m : ℕ) (out : List ℕ) (place put : ℕ) : Type 0 where
    pub n : ℕ
    pub word : m ≡ word_of n (drop_in T types g)
    pub rest : Rest f old at (some' k) out place (some' n)
    pub many : put + length (some' n) ≡ length (some' k)

  module _ (f : List B → List ℕ) (old : List ℕ) (at k : ℕ) where
    pub left-all : (m : ℕ) → m ≡ word_of k (drop_in T types g) → Left f old at k m old at 0
    left-all m e = record { n = k; word = e; rest = rest-start f old at (some' k); many = omega arith }

    module _ (m : ℕ) (out : List ℕ) (place put : ℕ) (h : Left f old at k m out place put) where
      module _ (j : ℕ) (w : (k n : ℕ) (z : ℕ → Bool) → m ≡ word_at k n z → Newest k n z m j) where
        next : some' h.n ≡ cond (q (static_in names types depths births j)) (drop' j ∷ some' j) (some' j)
        next = drops-next h.n m j (w 0 h.n (drop_in T types g) h.word)

        pub left-skip : q (static_in names types depths births j) ≡ false → Left f old at k (m - 2 ^ j) out place put
        left-skip off =
            let e : some' h.n ≡ some' j = next ∙ ap (λ (b : Bool). cond b (drop' j ∷ some' j) (some' j)) off in
            record {
              n = j;
              word = (w 0 h.n (drop_in T types g) h.word).rest;
              rest = subst (λ (x : List B). Rest f old at (some' k) out place x) e h.rest;
              many = ap (λ (x : List B). put + length x) (sym e) ∙ h.many;
            }

        pub left-put : (b new : List ℕ) (to : ℕ) → q (static_in names types depths births j) ≡ true → ((x : List B) → f (drop' j ∷ x) ≡ b ++ f x)
            → Stored out place b new to → Left f old at k (m - 2 ^ j) new to (put + 1)
        left-put b new to on fb s =
            let e : some' h.n ≡ drop' j ∷ some' j = next ∙ ap (λ (b : Bool). cond b (drop' j ∷ some' j) (some' j)) on in
            record {
              n = j;
              word = (w 0 h.n (drop_in T types g) h.word).rest;
              rest = rest-step f old at (some' k) out place (some' h.n) h.rest b (some' j) new to (ap f e ∙ fb (some' j)) s;
              many = count-step (length (some' k)) put (some' h.n) (some' j) (drop' j) h.many e;
            }

      pub left-none : f [] ≡ [] → m ≤ 0 → Stored old at (f (some' k)) out place × (put ≡ length (some' k))
      left-none fn z =
          let zero : word_of h.n (drop_in T types g) ≡ 0 = sym h.word ∙ (let e : m ≡ 0 = omega arith in e) in
          let e : some' h.n ≡ [] = drops-none h.n zero in
          (rest_end f old at (some' k) out place (some' h.n) h.rest (some' k) refl (ap f e ∙ fn), count-end (length (some' k)) put (some' h.n) h.many e)

-- the set bits of a mark are as many as the deletes by it, if no name is spared
module _ {B : Type 0} (T : Tables) (names types depths births : List ℕ) (g : ℕ → Status) (says : Static → B) where
  many-drops : (n : ℕ) → many n (drop_in T types g) ≡ length (some' T names types depths births g (admitted None) says n)
  unfolding stacked many
  many-drops zero = refl
  many-drops (suc n) =
      by_bit (drop_in T types g n) (many n (drop_in T types g)) (says (static_in names types depths births n)) (some' T names types depths births g (admitted None) says n) (many-drops n)
    where
      by_bit : (b : Bool) (k : ℕ) (d : B) (ds : List B) → k ≡ length ds → cond b (suc k) k ≡ length (cond b (d ∷ ds) ds)
      by_bit true k d ds e = ap suc e
      by_bit false k d ds e = e

  pub turns-drops : (n mark : ℕ) → n ≤ 64 → Marked T types g n mark → ones 64 mark ≡ length (some' T names types depths births g (admitted None) says n)
  turns-drops n mark le e = ap (ones 64) e ∙ ones-word n (drop_in T types g) le ∙ many-drops n

-- the entries of what is left behind, in either form
module _ (T : Tables) (names types depths births : List ℕ) (g : ℕ → Status) (paged : Bool) (span k : ℕ) (lefts₀ out₀ : List ℕ) (at₀ : ℕ) where
  abbrev Each : (List Report → List ℕ) → List ℕ → ℕ → List ℕ → ℕ → Type 0
  Each f old m new at = (put : ℕ) × Left T names types depths births g (admitted None) (left_at span) f old at₀ k m new at put

  pub record Listing (m : ℕ) (lefts out : List ℕ) (at : ℕ) : Type 0 where
    pub numbers : paged ≡ false → (out ≡ out₀) × Each (entries_of version1) lefts₀ m lefts at
    pub lines : paged ≡ true → Each shown_all out₀ m out at

  pub listing-all : (m : ℕ) → m ≡ word_of k (drop_in T types g) → Listing m lefts₀ out₀ at₀
  listing-all m e = record {
    numbers = λ n. (refl, (0, left-all T names types depths births g (admitted None) (left_at span) (entries_of version1) lefts₀ at₀ k m e));
    lines = λ y. (0, left-all T names types depths births g (admitted None) (left_at span) shown_all out₀ at₀ k m e);
  }

  module _ (m : ℕ) (lefts out : List ℕ) (at : ℕ) (h : Listing m lefts out at) where
    pub listing-put : (j : ℕ) → ((k n : ℕ) (z : ℕ → Bool) → m ≡ word_at k n z → Newest k n z m j) → {name : ℕ} → name ≡ get_or names j 0 → {born : ℕ} → born ≡ get_or births j 0 → {lefts' out' : List ℕ} {at' : ℕ}
        → Listed paged (left span name born ∷ []) lefts out at lefts' out' at' → Listing (m - 2 ^ j) lefts' out' at'
    listing-put j w {name} en {born} eb {lefts'} {out'} {at'} l = record {
      numbers = λ n.
          let v = h.numbers n in
          let u = l.numbers n in (
            u.0 ∙ v.0,
            (
              v.1.0 + 1,
              left-put T names types depths births g (admitted None) (left_at span) (entries_of version1) lefts₀ at₀ k m lefts at v.1.0 v.1.1 j w (span ∷ name ∷ born ∷ []) lefts' at' refl
                  (λ x. rw (en, eb)) u.1,
            ),
          );
      lines = λ y.
          let v = h.lines y in (
            v.0 + 1,
            left-put T names types depths births g (admitted None) (left_at span) shown_all out₀ at₀ k m out at v.0 v.1 j w (shown_all (left span name born ∷ [])) out' at' refl
                (λ x. rw (en, eb, shown-more, shown-single)) (l.lines y),
          );
    }

    pub listing_none : m ≤ 0 → Listed paged (some' T names types depths births g (admitted None) (left_at span) k) lefts₀ out₀ at₀ lefts out at
    listing_none z = record {
      numbers = λ n.
          let v = h.numbers n in
          (v.0, (left-none T names types depths births g (admitted None) (left_at span) (entries_of version1) lefts₀ at₀ k m lefts at v.1.0 v.1.1 refl z).0);
      lines = λ y.
          let v = h.lines y in
          (left-none T names types depths births g (admitted None) (left_at span) shown_all out₀ at₀ k m out at v.0 v.1 shown-none z).0;
    }

-- no local of the name, or its newest local
module _ (T : Tables) (names types depths births : List ℕ) (g : ℕ → Status) (k p n s : ℕ) (r : Option ℕ) (f : Finds names k n r) where
  drop-is : (x : Option ℕ) → r ≡ x → drop_named (states off) T (λ l. true) p (called n s) (lent names types depths births g k) ≡ drop_newest (states off) T (λ l. true) p n (found_in names types depths births g x)
  drop-is x e = ap (drop_newest (states off) T (λ l. true) p n) (found_as f types depths births g e)

  pub assign-none : r ≡ None → drop_named (states off) T (λ l. true) p (called n s) (lent names types depths births g k) ≡ []
  assign-none e = drop-is None e

  pub assign-kept : (i : ℕ) → r ≡ Some i → drop_in T types g i ≡ false → drop_named (states off) T (λ l. true) p (called n s) (lent names types depths births g k) ≡ []
  assign-kept i e off = drop-is (Some i) e ∙ ap (λ (b : Bool). cond b (drop_of p n (get_or types i 0) ∷ []) []) off

  pub assign-drop : (i : ℕ) → r ≡ Some i → drop_in T types g i ≡ true → drop_named (states off) T (λ l. true) p (called n s) (lent names types depths births g k) ≡ drop_of p n (get_or types i 0) ∷ []
  assign-drop i e on = drop-is (Some i) e ∙ ap (λ (b : Bool). cond b (drop_of p n (get_or types i 0) ∷ []) []) on
