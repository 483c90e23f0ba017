-- Whole stacks: registrations and the end of a block, as the rules say them; what keeps them sound.
-- Assumes nothing.
use Rattle.std.proofs.Common.{◌≡◌, ℕ, zero, suc, ◌+◌, ◌-◌, ◌<◌, ◌≤◌, Bool, true, false, cond, ◌&&◌, eqb, leb, List, [], ◌∷◌, length, get_or, sym, refl, ap, ◌∙◌, subst, ap₂, ⊎_elim, arith, eq-eqb, ne_eqb, eqb-true, le-leb}
use borrow.Author.Tests.{lt-leb}
use lib.Bits.{bit_and}
use Rattle.image_fields.proofs.Tests.{split, less, and-true}
use Rattle.tables.specs.Tables.{Tables}
use Rattle.rules.specs.Questions.{auto}
use Rattle.rules.specs.State.{State as Status, deleted, moved, consumed, alive, hand_state}
use Rattle.rules.specs.Stack.{Static, local, shape, mark, pop, Stack as Scope}
use Rattle.rules.specs.Rules.{declared, states, register, off}
use Rattle.rules.proofs.Bools.{eqb-self}
use Rattle.scope_state.specs.Kinds.{said, put}
use Rattle.scope_stack.specs.declared.Locals.{Locals}
use Rattle.scope_stack.specs.declared.States.{States}
use Rattle.scope_stack.specs.declared.Entry.{Entry}
use Rattle.scope_stack.specs.View.{stacked, static_at, entry_at, alive_at, row_of, said_at, state_at, view, Known, Kept, Held, Rowed, Sound, Drops, dtor_at, drop_in, Marked, mark_of, Nested, Grows, Marks, Named, Leaves}
use Rattle.scope_stack.proofs.Words.{word-both, word_same}
use Rattle.scope_state.proofs.Stacked.{length-stacked, shape_same, stacked-more, stacked-none, agree, framed}
use Rattle.scope_stack.proofs.Frames.{pop-keeps, mark-same, hand-put}
use Rattle.scope_stack.proofs.Marked.{known-one, lives_at}

-- an Alive slot
pub alive-at : (t : States) (rows : List ℕ) (cur width i : ℕ) → get_or t.kinds i 0 ≡ 0 → state_at t rows cur width i ≡ alive
alive-at t rows cur width i e = rw e

-- no local yet
pub view-none : (l : Locals) (t : States) (rows : List ℕ) (cur width : ℕ) → l.count ≡ 0 → view l t rows cur width ≡ []
view-none l t rows cur width e = stacked-none (static_at l) (state_at t rows cur width) l.count (omega arith)

pub rowed-none : (n : ℕ) (t : States) (rows : List ℕ) (cur width : ℕ) → ((i : ℕ) → get_or t.kinds i 0 ≡ 0) → Rowed n t rows cur width
rowed-none n t rows cur width z = record {
  known = λ i. subst (Known rows width (row_of cur width i)) (sym (z i)) (known-one rows width (row_of cur width i) 0 (omega arith));
  free = λ i l. z i;
}

pub length-view : (l : Locals) (t : States) (rows : List ℕ) (cur width : ℕ) → length (view l t rows cur width) ≡ l.count
length-view l t rows cur width = length-stacked (static_at l) (state_at t rows cur width) l.count

-- frames are those of the locals, whatever their states
pub nested-view : (d : ℕ) (l : Locals) (t u : States) (rows new : List ℕ) (cur at width : ℕ) → Nested d (shape (view l t rows cur width)) → Nested d (shape (view l u new at width))
nested-view d l t u rows new cur at width = subst (Nested d) (shape_same l.count (static_at l) (state_at t rows cur width) (state_at u new at width))

-- what the code's kinds mark
pub killed-deleted : (n p : ℕ) (σ : Scope Status) → mark n (put false (said 1 (p ∷ []))) σ ≡ mark n ((states off).killed deleted p) σ
killed-deleted n p σ = refl

pub killed-moved : (n p : ℕ) (σ : Scope Status) → mark n (put false (said 2 (p ∷ []))) σ ≡ mark n ((states off).killed moved p) σ
killed-moved n p σ = refl

pub killed-consumed : (n p : ℕ) (σ : Scope Status) → mark n (put false (said 3 (p ∷ []))) σ ≡ mark n ((states off).killed consumed p) σ
killed-consumed n p σ = refl

pub marked-alive : (n p : ℕ) (σ : Scope Status) → mark n (put false (said 0 (p ∷ []))) σ ≡ mark n (λ a. alive) σ
marked-alive n p σ = refl

pub handed : (n p : ℕ) (σ : Scope Status) → mark n (put true (said 2 (p ∷ []))) σ ≡ mark n (hand_state p) σ
handed n p σ = mark-same n (put true (said 2 (p ∷ []))) (hand_state p) (hand-put p) σ

-- the AND of the two words that are kept is the mark (document 02, (b))
pub the-mark : (T : Tables) (l : Locals) (t : States) (rows : List ℕ) (cur width : ℕ) → Kept l → Held t → Rowed l.count t rows cur width → Drops T l
    → Marked T l.types (state_at t rows cur width) l.count (mark_of l t)
the-mark T l t rows cur width k h r d =
    ap₂ bit_and h.word d ∙ word-both l.count 64 (alive_at t) (dtor_at T l) k.small
    ∙ word_same l.count (λ i. alive_at t i && dtor_at T l i) (drop_in T l.types (state_at t rows cur width))
    (λ i li. ap (λ (b : Bool). b && dtor_at T l i) (sym (lives_at rows width (row_of cur width i) (entry_at t i) (r.known i))))

module _ {P : Tables → Type 0} where
  pub sound-of : (l : Locals) (t : States) (rows : List ℕ) (cur width : ℕ) → Kept l → Held t → Rowed l.count t rows cur width → ((T : Tables) → P T → Drops T l) → Sound P l t rows cur width
  sound-of l t rows cur width k h r d = record { kept = k; held = h; rowed = r; drops = d; marked = λ T p. the-mark T l t rows cur width k h r (d T p) }

  -- other states of the same locals: a mark, a join, a merge
  pub sound-states : (l : Locals) (t u : States) (rows new : List ℕ) (cur at width : ℕ) → Sound P l t rows cur width → Held u → Rowed l.count u new at width → Sound P l u new at width
  sound-states l t u rows new cur at width s h r = sound-of l u new at width s.kept h r s.drops

  -- a mark keeps a stack sound
  pub sound-mark : (l : Locals) (t r : States) (name : ℕ) (f : Status → Status) (rows : List ℕ) (cur width : ℕ) → Sound P l t rows cur width → Held r → Marks l name f t r
      → Sound P l r rows cur width
  sound-mark l t r name f rows cur width s h m = sound-states l t r rows rows cur cur width s h (m.rowed rows cur width s.rowed)

-- fault 12 is decided by the count, whatever is registered
pub register-length : (l : Locals) (name ty depth born : ℕ) (t : States) (rows : List ℕ) (cur width : ℕ)
    → length (register (states off) (declared depth born name ty) (view l t rows cur width)) ≡ l.count + 1
register-length l name ty depth born t rows cur width =
    let z : suc l.count ≡ l.count + 1 = omega arith in
    ap suc (ap length (framed name depth (λ (a : Status). alive) (static_at l) (state_at t rows cur width) l.count) ∙ length-stacked (static_at l) _ l.count) ∙ z

-- a registration: the new local is Alive, and so are the others of its name in its frame, or they are marked so
module _ (l r : Locals) (name ty depth born : ℕ) (dtor : Bool) (g : Grows l (declared depth born name ty) dtor r) (t : States) (rows : List ℕ) (cur width : ℕ)
    (h : Rowed l.count t rows cur width) where
  abbrev here : Static
  here = declared depth born name ty

  pub new-view : view r t rows cur width ≡ local here alive ∷ view l t rows cur width
  new-view =
      ap (λ (n : ℕ). stacked n (static_at r) (state_at t rows cur width)) g.count ∙ stacked-more (static_at r) (state_at t rows cur width) l.count
      ∙ ap₂ (λ (s : Static) (σ : Scope Status). local s (state_at t rows cur width l.count) ∷ σ) g.new
      (agree l.count (static_at r) (static_at l) (state_at t rows cur width) (state_at t rows cur width) g.older (λ k lk. refl))
      ∙ ap (λ (a : Status). local here a ∷ view l t rows cur width) (alive-at t rows cur width l.count (h.free l.count (omega arith)))

  pub rowed-more : Rowed r.count t rows cur width
  rowed-more = record { known = h.known; free = λ i li. h.free i (omega (arith, g.count)) }

  pub sound-register : {P : Tables → Type 0} → Held t → ((T : Tables) → P T → Drops T l) → ((T : Tables) → P T → dtor ≡ auto T ty) → Sound P r t rows cur width
  sound-register held d asked = sound-of r t rows cur width g.kept held rowed-more (λ T p. g.drops T (asked T p) (d T p))

  pub registers-marked : (p : ℕ) (u : States) → Marks r name (put false (said 0 (p ∷ []))) t u → view r u rows cur width ≡ register (states off) (declared depth born name ty) (view l t rows cur width)
  registers-marked p u m = m.is rows cur width rowed-more ∙ ap (mark name (λ (a : Status). alive)) new-view ∙ rw (eqb-self name)

  frame-alive : ((i : ℕ) → i < 64 → alive_at t i ≡ false → Named r.names r.depths name depth i → ⊥) → l.count ≤ 64 → (i : ℕ) → i < l.count → (b : Bool)
      → (eqb (get_or l.names i 0) name && eqb (get_or l.depths i 0) depth) ≡ b → state_at t rows cur width i ≡ cond b alive (state_at t rows cur width i)
  frame-alive calm small i li false e = refl
  frame-alive calm small i li true e =
      let both = and-true (eqb (get_or l.names i 0) name) (eqb (get_or l.depths i 0) depth) e in
      let is : Named r.names r.depths name depth i =
      (ap (λ (s : Static). s.name) (g.older i li) ∙ eqb-true _ _ both.0, ap (λ (s : Static). s.depth) (g.older i li) ∙ eqb-true _ _ both.1) in
      ⊎_elim
      (λ (q : alive_at t i ≡ true). alive-at t rows cur width i (eqb-true (get_or t.kinds i 0) 0 q))
      (λ (q : alive_at t i ≡ false). absurd (calm i (omega arith) q is))
      (split (alive_at t i))

  pub registers-fresh : ((i : ℕ) → i < 64 → alive_at t i ≡ false → Named r.names r.depths name depth i → ⊥) → l.count ≤ 64
      → view r t rows cur width ≡ register (states off) (declared depth born name ty) (view l t rows cur width)
  registers-fresh calm small =
      new-view ∙ ap (λ (σ : Scope Status). local here alive ∷ σ)
      (agree l.count (static_at l) (static_at l) (state_at t rows cur width)
      (λ i. cond (eqb (get_or l.names i 0) name && eqb (get_or l.depths i 0) depth) alive (state_at t rows cur width i)) (λ k lk. refl)
      (λ k lk. frame-alive calm small k lk (eqb (get_or l.names k 0) name && eqb (get_or l.depths k 0) depth) refl)
      ∙ sym (framed name depth (λ (a : Status). alive) (static_at l) (state_at t rows cur width) l.count))

-- the locals of a block of depth d, m, and those that it was entered with
pub record Extends (d : ℕ) (l m : Locals) : Type 0 where
  pub most : l.count ≤ m.count
  pub older : (i : ℕ) → i < l.count → static_at m i ≡ static_at l i
  pub newer : (i : ℕ) → l.count ≤ i → i < m.count → (static_at m i).depth ≡ d

pub extends-none : (d : ℕ) (l : Locals) → Extends d l l
extends-none d l = record { most = omega arith; older = λ i li. refl; newer = λ i a b. absurd (omega arith) }

pub extends-more : (d : ℕ) (l m r : Locals) (name ty born : ℕ) (dtor : Bool) → Extends d l m → Grows m (declared d born name ty) dtor r → Extends d l r
extends-more d l m r name ty born dtor e g = record {
  most = omega (arith, e.most, g.count);
  older = λ i li. g.older i (omega (arith, e.most)) ∙ e.older i li;
  newer = λ i a b. ⊎_elim
      (λ (q : i < m.count). ap (λ (s : Static). s.depth) (g.older i q) ∙ e.newer i a q)
      (λ (q : m.count ≤ i). let z : i ≡ m.count = omega (arith, g.count) in ap (λ (x : ℕ). (static_at r x).depth) z ∙ ap (λ (s : Static). s.depth) g.new)
      (less i m.count);
}

pop-newer : (f : ℕ → Static) (g : ℕ → Status) (d n k : ℕ) → ((i : ℕ) → n ≤ i → i < n + k → (f i).depth ≡ d) → pop d (stacked (n + k) f g) ≡ pop d (stacked n f g)
unfolding stacked
pop-newer f g d n zero h = let z : n + 0 ≡ n = omega arith in rw z
pop-newer f g d n (suc k) h =
    let z : n + suc k ≡ suc (n + k) = omega arith in
    let e : (f (n + k)).depth ≡ d = h (n + k) (omega arith) (omega arith) in
    rw (z, eq-eqb (f (n + k)).depth d e) (pop-newer f g d n k (λ i a b. h i a (omega arith)))

-- no local of a nested stack is deeper than its block
pub nested-at : (d n : ℕ) (f : ℕ → Static) (g : ℕ → Status) → Nested d (shape (stacked n f g)) → (i : ℕ) → i < n → (f i).depth ≤ d
unfolding stacked
nested-at d zero f g h i l = absurd (omega arith)
nested-at d (suc n) f g h i l =
    ⊎_elim
    (λ (q : i < n). let le = nested-at (f n).depth n f g h.1 i q in omega (arith, h.0))
    (λ (q : n ≤ i). let z : i ≡ n = omega arith in rw z h.0)
    (less i n)

-- a block's own locals are those that it registered: those of its depth
pub extends-own : (d : ℕ) (l m : Locals) (t : States) (rows : List ℕ) (cur width : ℕ) → Extends (suc d) l m → Nested d (shape (view l t rows cur width))
    → (i : ℕ) → i < m.count → eqb (get_or m.depths i 0) (suc d) ≡ leb l.count i
extends-own d l m t rows cur width e nested i li =
    ⊎_elim
    (λ (q : i < l.count).
    let low : (static_at l i).depth ≤ d = nested-at d l.count (static_at l) (state_at t rows cur width) nested i q in
    let same : get_or m.depths i 0 ≡ (static_at l i).depth = ap (λ (s : Static). s.depth) (e.older i q) in
    let ne : get_or m.depths i 0 ≡ suc d → ⊥ = λ z. omega arith in
    ne_eqb (get_or m.depths i 0) (suc d) ne ∙ sym (lt-leb l.count i q))
    (λ (q : l.count ≤ i). eq-eqb (get_or m.depths i 0) (suc d) (e.newer i q li) ∙ sym (le-leb l.count i q))
    (less i l.count)

-- the end of a block of depth d, whose locals m are more than those l that it was entered with
module _ (d : ℕ) (l m : Locals) (t r : States) (rows : List ℕ) (cur width : ℕ) (e : Extends (suc d) l m) (v : Leaves l.count m.count t r) where
  pub leaves-pop : Nested d (shape (view l t rows cur width)) → view l r rows cur width ≡ pop (suc d) (view m t rows cur width)
  leaves-pop nested =
      let all : l.count + (m.count - l.count) ≡ m.count = omega (arith, e.most) in
      agree l.count (static_at l) (static_at l) (state_at r rows cur width) (state_at t rows cur width) (λ k lk. refl)
      (λ k lk. ap (said_at rows (row_of cur width k)) (v.older k lk))
      ∙ sym (pop-keeps d (suc d) (view l t rows cur width) nested (omega arith))
      ∙ ap (pop (suc d)) (agree l.count (static_at l) (static_at m) (state_at t rows cur width) (state_at t rows cur width) (λ k lk. sym (e.older k lk)) (λ k lk. refl))
      ∙ sym (pop-newer (static_at m) (state_at t rows cur width) (suc d) l.count (m.count - l.count) (λ i a b. e.newer i a (omega arith)))
      ∙ ap (λ (n : ℕ). pop (suc d) (stacked n (static_at m) (state_at t rows cur width))) all

  pub leaves-rowed : Rowed m.count t rows cur width → Rowed l.count r rows cur width
  leaves-rowed h = record { known = λ i. known i; free = λ i li. free i li }
    where
      free : (i : ℕ) → l.count ≤ i → get_or r.kinds i 0 ≡ 0
      free i li = ⊎_elim (λ (q : i < m.count). v.newer i li q) (λ (q : m.count ≤ i). ap (λ (x : Entry). x.kind) (v.past i q) ∙ h.free i q) (less i m.count)

      known : (i : ℕ) → Known rows width (row_of cur width i) (get_or r.kinds i 0)
      known i =
          ⊎_elim
          (λ (q : i < l.count). subst (λ (x : Entry). Known rows width (row_of cur width i) x.kind) (sym (v.older i q)) (h.known i))
          (λ (q : l.count ≤ i). subst (Known rows width (row_of cur width i)) (sym (free i q)) (known-one rows width (row_of cur width i) 0 (omega arith)))
          (less i l.count)

  pub sound-leave : {P : Tables → Type 0} → Kept l → ((T : Tables) → P T → Drops T l) → Sound P m t rows cur width → Sound P l r rows cur width
  sound-leave k d s = sound-of l r rows cur width k v.held (leaves-rowed s.rowed) d
