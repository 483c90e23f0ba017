-- Laws of joins of two branches, from the oldest local up.
-- Assumes nothing.
use Prim.Native.Nat.{ℕ, zero, suc, ◌+◌, ◌≤◌, ◌<◌}
use mathlib.Core.Path.{◌≡◌, refl, sym, ap, ap₂, ◌∙◌, subst}
use mathlib.Core.Bool.{Bool, true, false, cond, ◌&&◌, ◌||◌}
use mathlib.Core.List.{List, [], ◌∷◌}
use mathlib.Core.Logic.{◌≢◌, ◌⊎◌, inl, inr, ⊎_elim}
use borrow.Author.Tests.{eqb-false, le-ltb}
use native.Mathlib.Omega.{arith}
use lib.Dec.{eqb, ltb}
use lib.ListN.{length, get_or}
use Rattle.image_fields.proofs.Tests.{split, less, false-true}
use Rattle.tables.specs.Limits.{Limits}
use Rattle.rules.specs.State.{State as Status, alive, gone, join_state, places_eq, combine}
use Rattle.rules.specs.Stack.{Static, local, Stack as Scope}
use Rattle.rules.specs.Rules.{joining, joins}
use Rattle.rules.specs.Walk.{crowded}
use Rattle.rules.proofs.Bools.{eqb-self}
use Rattle.scope_state.specs.Kinds.{said, family, kind_of}
use Rattle.scope_state.proofs.Numbers.{join-given}
use Rattle.scope_stack.specs.declared.States.{States}
use Rattle.scope_stack.specs.declared.Entry.{Entry}
use Rattle.scope_stack.specs.Word.{word_of}
use Rattle.scope_stack.specs.View.{stacked, static_at, entry_at, alive_at, row_of, said_at, state_at, view, Known, Held, Rowed}
use Rattle.std.specs.Prelude.{Ok, Err}
use Rattle.scope_rows.specs.declared.Stop.{Stop}
use Rattle.scope_rows.specs.Rows.{Else, join_of, over, Alike, JoinsAt, Branches, JoinsAll}
use Rattle.scope_state.proofs.Stacked.{agree}
use Rattle.scope_stack.proofs.Stores.{stored, stored_at, stored_other, stored-held}
use Rattle.scope_stack.proofs.Marked.{said-one}
use Rattle.scope_rows.proofs.Rowing.{ok-same, err-as, positive, known_same, said_same, else-none, row_before, row-mono, row_next}

-- two stacks of the same locals, joined local by local
pub joined : (k : Bool) (n : ℕ) (f f' : ℕ → Static) (g h : ℕ → Status) → joins (joining k) (stacked n f g) (stacked n f' h) ≡ stacked n f (λ i. join_state k (g i) (h i))
unfolding stacked
joined k zero f f' g h = refl
joined k (suc n) f f' g h = ap (λ (σ : Scope Status). local (f n) (join_state k (g n) (h n)) ∷ σ) (joined k n f f' g h)

pub calm-all : (L : Limits) (n : ℕ) (f : ℕ → Static) (g : ℕ → Status) → ((k : ℕ) → k < n → over L.places (g k) ≡ false) → crowded L (stacked n f g) ≡ false
unfolding stacked crowded
calm-all L zero f g h = refl
calm-all L (suc n) f g h =
    let top : over L.places (g n) ≡ false = h n (omega arith) in
    let rest : crowded L (stacked n f g) ≡ false = calm-all L n f g (λ k l. h k (omega arith)) in
    rw (top, rest)

crowd-step : (b c : Bool) → (b ≡ true) ⊎ (c ≡ true) → (b || c) ≡ true
crowd-step true c h = refl
crowd-step false c h = ⊎_elim (λ (e : false ≡ true). false-true e) (λ (e : c ≡ true). e) h

-- one state that does not fit is enough
pub crowd-any : (L : Limits) (n : ℕ) (f : ℕ → Static) (g : ℕ → Status) (k : ℕ) → k < n → over L.places (g k) ≡ true → crowded L (stacked n f g) ≡ true
unfolding stacked crowded
crowd-any L zero f g k l e = absurd (omega arith)
crowd-any L (suc n) f g k l e =
    crowd-step (over L.places (g n)) (crowded L (stacked n f g))
    (⊎_elim (λ (q : k < n). inr (crowd-any L n f g k q e)) (λ (q : n ≤ k). let z : k ≡ n = omega arith in inl (ap (λ (i : ℕ). over L.places (g i)) (sym z) ∙ e)) (less k n))

one-eq : (f : ℕ) → places_eq (f ∷ []) (f ∷ []) ≡ true
one-eq f = rw (eqb-self f)

few : (width k f : ℕ) → 1 ≤ width → over width (said k (f ∷ [])) ≡ false
few width k f h = by-test (eqb k 0)
  where
    by-test : (b : Bool) → over width (cond b alive (gone (ltb 3 k) (kind_of k) (f ∷ []))) ≡ false
    by-test true = le-ltb width 0 (omega arith)
    by-test false = le-ltb width 1 h

-- a join of what is alike changes nothing
said-twice : (keeps : Bool) (k f g : ℕ) → k < 7 → (k ≡ 0) ⊎ (g ≡ f) → join_state keeps (said k (f ∷ [])) (said k (g ∷ [])) ≡ said k (f ∷ [])
said-twice keeps k f g l h =
    ⊎_elim
    (λ (z : eqb k 0 ≡ true). rw z)
    (λ (z : eqb k 0 ≡ false).
    let pos : 0 < k = positive k (eqb-false k 0 z) in
    let same : g ≡ f = ⊎_elim (λ (q : k ≡ 0). absurd (eqb-false k 0 z q)) (λ (q : g ≡ f). q) h in
    ap (λ (x : ℕ). join_state keeps (said k (f ∷ [])) (said k (x ∷ []))) same
    ∙ join-given keeps k k pos l pos l (f ∷ []) (f ∷ [])
    ∙ ap (λ (b : Bool). cond (b && places_eq (f ∷ []) (f ∷ [])) (said k (f ∷ [])) (said (family keeps k k) (combine (f ∷ []) (f ∷ [])))) (eqb-self k)
    ∙ ap (λ (b : Bool). cond b (said k (f ∷ [])) (said (family keeps k k) (combine (f ∷ []) (f ∷ [])))) (one-eq f))
    (split (eqb k 0))

module _ (keeps : Bool) (width : ℕ) (t u : States) (rows : List ℕ) (a b : ℕ) where
  -- what two branches say of the local i
  abbrev pub join_at : ℕ → Status
  join_at i = join_state keeps (state_at t rows a width i) (state_at u rows b width i)

  -- the first i locals are joined, the rest is as it was
  pub record Joining (i : ℕ) (s : States) (new : List ℕ) : Type 0 where
    pub held : Held s
    pub else : Else a (row_of a width i) rows new
    pub done : (k : ℕ) → k < i → said_at new (row_of a width k) (entry_at s k) ≡ join_at k
    pub known : (k : ℕ) → k < i → Known new width (row_of a width k) (get_or s.kinds k 0)
    pub calm : (k : ℕ) → k < i → over width (join_at k) ≡ false
    pub rest : (k : ℕ) → i ≤ k → entry_at s k ≡ entry_at t k

module _ (keeps : Bool) (n width : ℕ) (t u : States) (rows : List ℕ) (a b : ℕ) (br : Branches n width t u rows a b) where
  abbrev at' : ℕ → Status
  at' = join_at keeps width t u rows a b

  pub joining-none : Joining keeps width t u rows a b 0 t rows
  joining-none = record {
    held = br.held;
    else = else-none a (row_of a width 0) rows;
    done = λ k l. absurd (omega arith);
    known = λ k l. absurd (omega arith);
    calm = λ k l. absurd (omega arith);
    rest = λ k l. refl;
  }

  module _ (i : ℕ) (s : States) (new : List ℕ) (h : Joining keeps width t u rows a b i s new) where
    same-a : (j : ℕ) → i ≤ j → (k : ℕ) → row_of a width j ≤ k → k ≤ row_of a width j + width → get_or new k 0 ≡ get_or rows k 0
    same-a j l k lo hi = h.else.same k (inr (omega (arith, row-mono a width i j l)))

    pub known-a : (j : ℕ) → i ≤ j → Known new width (row_of a width j) (get_or s.kinds j 0)
    known-a j l =
        subst (λ (e : Entry). Known new width (row_of a width j) e.kind) (sym (h.rest j l))
        (known_same rows new width (row_of a width j) h.else.room (same-a j l) (get_or t.kinds j 0) (br.rowed.known j))

    said-a : said_at new (row_of a width i) (entry_at s i) ≡ state_at t rows a width i
    said-a =
        ap (said_at new (row_of a width i)) (h.rest i (omega arith))
        ∙ said_same rows new width (row_of a width i) h.else.room (same-a i (omega arith)) (entry_at t i) (br.rowed.known i)

    module _ (l : i < n) where
      same-b : (k : ℕ) → row_of b width i ≤ k → k ≤ row_of b width i + width → get_or new k 0 ≡ get_or rows k 0
      same-b k lo hi = h.else.same k (⊎_elim (λ (q : row_of a width n ≤ b). inr (omega (arith, row_before a width i n l))) (λ (q : row_of b width n ≤ a). inl (omega (arith, row_before b width i n l))) br.apart)

      pub known-b : Known new width (row_of b width i) (get_or u.kinds i 0)
      known-b = known_same rows new width (row_of b width i) h.else.room same-b (get_or u.kinds i 0) (br.other_rowed.known i)

      join-same : join_of keeps (entry_at s i) (entry_at u i) new (row_of a width i) (row_of b width i) ≡ at' i
      join-same = ap₂ (join_state keeps) said-a (said_same rows new width (row_of b width i) h.else.room same-b (entry_at u i) (br.other_rowed.known i))

      alike-said : Alike (entry_at s i) (entry_at u i) → (said_at new (row_of a width i) (entry_at s i) ≡ at' i) × (over width (at' i) ≡ false)
      alike-said k =
          let small : get_or s.kinds i 0 < 7 = (known-a i (omega arith)).single (omega (arith, k.single)) in
          let small' : get_or u.kinds i 0 < 7 = subst (λ (x : ℕ). x < 7) (sym k.kind) small in
          let x = said-one new (row_of a width i) (get_or s.kinds i 0) (get_or s.firsts i 0) small in
          let y = said-one new (row_of b width i) (get_or u.kinds i 0) (get_or u.firsts i 0) small'
          ∙ ap (λ (z : ℕ). said z (get_or u.firsts i 0 ∷ [])) k.kind in
          let j : at' i ≡ said (get_or s.kinds i 0) (get_or s.firsts i 0 ∷ []) = sym join-same ∙ ap₂ (join_state keeps) x y ∙ said-twice keeps (get_or s.kinds i 0) (get_or s.firsts i 0) (get_or u.firsts i 0) small k.first in
          (x ∙ sym j, ap (over width) j ∙ few width (get_or s.kinds i 0) (get_or s.firsts i 0) br.one)

      else-more : (new' : List ℕ) → Else (row_of a width i) (row_of a width i + (width + 1)) new new' → Else a (row_of a width (i + 1)) rows new'
      else-more new' e = record {
        room = e.room ∙ h.else.room;
        same = λ k o. ⊎_elim
            (λ (q : k < a). e.same k (inl (omega arith)) ∙ h.else.same k (inl q))
            (λ (q : row_of a width (i + 1) ≤ k). e.same k (inr (omega (arith, row_next a width i))) ∙ h.else.same k (inr (omega (arith, row_next a width i))))
            o;
      }

      pub joining-skip : (s' : States) (new' : List ℕ) → s' ≡ s → new' ≡ new → Alike (entry_at s i) (entry_at u i) → Joining keeps width t u rows a b (i + 1) s' new'
      joining-skip s' new' es er k = subst (λ (x : States). Joining keeps width t u rows a b (i + 1) x new') (sym es) (subst (λ (x : List ℕ). Joining keeps width t u rows a b (i + 1) s x) (sym er) (record {
        held = h.held;
        else = else-more new (else-none _ _ new);
        done = λ j lj. ⊎_elim (λ (q : j < i). h.done j q) (λ (q : i ≤ j). let z : j ≡ i = omega arith in rw z (alike-said k).0) (less j i);
        known = λ j lj. ⊎_elim (λ (q : j < i). h.known j q) (λ (q : i ≤ j). known-a j q) (less j i);
        calm = λ j lj. ⊎_elim (λ (q : j < i). h.calm j q) (λ (q : i ≤ j). let z : j ≡ i = omega arith in rw z (alike-said k).1) (less j i);
        rest = λ j lj. h.rest j (omega arith);
      }))

      module _ (z : Entry) (new' : List ℕ) (e : JoinsAt keeps width (entry_at s i) (entry_at u i) new (row_of a width i) (row_of b width i) (Ok z) new') where
        same-older : (j : ℕ) → j < i → (k : ℕ) → row_of a width j ≤ k → k ≤ row_of a width j + width → get_or new' k 0 ≡ get_or new k 0
        same-older j lj k lo hi = e.rest.same k (inl (omega (arith, row_before a width j i lj)))

        pub joining-put : (w : ℕ) (o : Bool) (s' : States) (new'' : List ℕ) → s' ≡ stored s i z.kind z.first w → new'' ≡ new' → o ≡ eqb z.kind 0
            → w ≡ word_of 64 (λ j. cond (eqb j i) o (alive_at s j)) → Joining keeps width t u rows a b (i + 1) s' new''
        joining-put w o s' new'' es er eo is =
            let l64 : i < 64 = omega (arith, br.small) in
            let r = stored s i z.kind z.first w in
            let here : entry_at r i ≡ z = stored_at s i z.kind z.first w h.held l64 in
            let there : (j : ℕ) → j < i → entry_at r j ≡ entry_at s j = λ j lj. let ne : j ≢ i = λ q. omega arith in stored_other s i z.kind z.first w h.held l64 j ne in
            let said_here : said_at new' (row_of a width i) (entry_at r i) ≡ at' i = ap (said_at new' (row_of a width i)) here ∙ (e.is z refl).0 ∙ join-same in
            let known-here : Known new' width (row_of a width i) (get_or r.kinds i 0) = subst (λ (x : Entry). Known new' width (row_of a width i) x.kind) (sym here) (e.is z refl).1 in
            subst (λ (x : States). Joining keeps width t u rows a b (i + 1) x new'') (sym es) (subst (λ (x : List ℕ). Joining keeps width t u rows a b (i + 1) r x) (sym er) (record {
              held = stored-held s i z.kind z.first w h.held l64 o eo is;
              else = else-more new' e.rest;
              done = λ j lj. ⊎_elim
                  (λ (q : j < i). ap (said_at new' (row_of a width j)) (there j q)
                  ∙ said_same new new' width (row_of a width j) e.rest.room (same-older j q) (entry_at s j) (h.known j q) ∙ h.done j q)
                  (λ (q : i ≤ j). let zz : j ≡ i = omega arith in subst (λ (x : ℕ). said_at new' (row_of a width x) (entry_at r x) ≡ at' x) (sym zz) said_here)
                  (less j i);
              known = λ j lj. ⊎_elim
                  (λ (q : j < i). subst (λ (x : Entry). Known new' width (row_of a width j) x.kind) (sym (there j q))
                  (known_same new new' width (row_of a width j) e.rest.room (same-older j q) (get_or s.kinds j 0) (h.known j q)))
                  (λ (q : i ≤ j). let zz : j ≡ i = omega arith in subst (λ (x : ℕ). Known new' width (row_of a width x) (get_or r.kinds x 0)) (sym zz) known-here)
                  (less j i);
              calm = λ j lj. ⊎_elim
                  (λ (q : j < i). h.calm j q)
                  (λ (q : i ≤ j). let zz : j ≡ i = omega arith in subst (λ (x : ℕ). over width (at' x) ≡ false) (sym zz) (ap (over width) (sym join-same) ∙ (e.is z refl).2))
                  (less j i);
              rest = λ j lj. let ne : j ≢ i = λ q. omega arith in stored_other s i z.kind z.first w h.held l64 j ne ∙ h.rest j (omega arith);
            }))

      -- no more is looked at
      pub joining-stop : (z : Stop) (new' : List ℕ) → JoinsAt keeps width (entry_at s i) (entry_at u i) new (row_of a width i) (row_of b width i) (Err z) new'
          → JoinsAll keeps n width t u rows a b (Err z) new'
      joining-stop z new' e = record {
        rest = record {
          room = e.rest.room ∙ h.else.room;
          same = λ k o. ⊎_elim
              (λ (q : k < a). e.rest.same k (inl (omega arith)) ∙ h.else.same k (inl q))
              (λ (q : row_of a width n ≤ k). e.rest.same k (inr (omega (arith, row_before a width i n l))) ∙ h.else.same k (inr (omega (arith, row_before a width i n l))))
              o;
        };
        held = λ r q. cc;
        rowed = λ r q. cc;
        is = λ r q. cc;
        calm = λ r q. cc;
        crowd = λ q L e_l m em. ap (crowded L) (joined keeps m.count (static_at m) (static_at m) (state_at t rows a width) (state_at u rows b width))
            ∙ crowd-any L m.count (static_at m) at' i (omega arith) (ap (λ (x : ℕ). over x (at' i)) e_l ∙ ap (over width) (sym join-same) ∙ e.crowd (err-as q));
        short = λ q. let sh : length new < row_of a width i + (width + 1) = e.short (err-as q) in omega (arith, h.else.room, row_before a width i n l);
        two = λ x q. e.two x (err-as q);
      }

    pub joining-all : i ≡ n → JoinsAll keeps n width t u rows a b (Ok s) new
    joining-all end = record {
      rest = subst (λ (x : ℕ). Else a (row_of a width x) rows new) end h.else;
      held = λ r q. subst Held (ok-same q) h.held;
      rowed = λ r q. subst (λ (x : States). Rowed n x new a width) (ok-same q) (record {
        known = λ j. ⊎_elim (λ (p : j < i). h.known j p) (λ (p : i ≤ j). known-a j p) (less j i);
        free = λ j l. ap (λ (x : Entry). x.kind) (h.rest j (omega arith)) ∙ br.rowed.free j l;
      });
      is = λ r q m em. subst (λ (x : States). view m x new a width ≡ joins (joining keeps) (view m t rows a width) (view m u rows b width)) (ok-same q)
          (agree m.count (static_at m) (static_at m) (state_at s new a width) at' (λ k l. refl) (λ k l. h.done k (omega arith))
          ∙ sym (joined keeps m.count (static_at m) (static_at m) (state_at t rows a width) (state_at u rows b width)));
      calm = λ r q L e_l m em. ap (crowded L) (joined keeps m.count (static_at m) (static_at m) (state_at t rows a width) (state_at u rows b width))
          ∙ calm-all L m.count (static_at m) at' (λ k l. ap (λ (x : ℕ). over x (at' k)) e_l ∙ h.calm k (omega arith));
      crowd = λ q. cc;
      short = λ q. cc;
      two = λ x q. cc;
    }
