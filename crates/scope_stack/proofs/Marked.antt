-- Laws of marks: a frame that gives its locals of a name a state.
-- Assumes nothing.
use Rattle.std.proofs.Common.{◌≡◌, ℕ, zero, suc, ◌+◌, ◌-◌, ◌<◌, ◌≤◌, Bool, true, false, cond, not, ◌&&◌, eqb, ◌≢◌, List, [], ◌∷◌, get_or, sym, refl, ap, ◌∙◌, subst, ⊎_elim, arith, le-ltb, lt-ltb, ne_eqb}
use Rattle.image_fields.proofs.Tests.{less}
use Rattle.rules.specs.State.{Kind, State as Status, alive, gone, is_alive}
use Rattle.rules.specs.Stack.{local, in_frame, mark}
use Rattle.scope_state.specs.Locals.{static_in}
use Rattle.scope_state.specs.Kinds.{said, put}
use Rattle.scope_stack.specs.declared.Locals.{Locals}
use Rattle.scope_stack.specs.declared.States.{States}
use Rattle.scope_stack.specs.declared.Entry.{Entry}
use Rattle.scope_stack.specs.Word.{word_of}
use Rattle.scope_stack.specs.View.{stacked, static_at, entry_at, alive_at, row_of, row_at, said_at, state_at, view, depth_of, Known, Held, Rowed, Marks}
use Rattle.scope_state.proofs.Stacked.{agree, framed}
use Rattle.scope_stack.proofs.Frames.{mark-frame}
use Rattle.scope_stack.proofs.Stores.{stored, stored_at, stored_other, stored-held}

pub lives-said : (k : ℕ) (ps : List ℕ) → is_alive (said k ps) ≡ eqb k 0
lives-said k ps = by-test (eqb k 0) _ _ _
  where
    by-test : (b c : Bool) (t : Kind) (ps : List ℕ) → is_alive (cond b alive (gone c t ps)) ≡ b
    by-test true c t ps = refl
    by-test false c t ps = refl

-- a kind of one place or none
pub said-one : (rows : List ℕ) (at k f : ℕ) → k < 7 → said_at rows at (record { kind = k; first = f }) ≡ said k (f ∷ [])
said-one rows at k f h = let l : k < 8 = omega arith in rw (lt-ltb k 8 l)

pub said_row : (rows : List ℕ) (at k f : ℕ) → 8 ≤ k → said_at rows at (record { kind = k; first = f }) ≡ said (k - 8) (row_at rows at)
said_row rows at k f h = rw (le-ltb k 8 h)

pub known-one : (rows : List ℕ) (width at k : ℕ) → k < 7 → Known rows width at k
known-one rows width at k h = record { kind = omega arith; single = λ l. h; row = λ l. absurd (omega arith) }

pub lives_at : (rows : List ℕ) (width at : ℕ) (e : Entry) → Known rows width at e.kind → is_alive (said_at rows at e) ≡ eqb e.kind 0
lives_at rows width at e h =
    ⊎_elim
    (λ (l : e.kind < 9). let s : e.kind < 7 = h.single l in ap is_alive (said-one rows at e.kind e.first s) ∙ lives-said e.kind (e.first ∷ []))
    (λ (l : 9 ≤ e.kind).
    let a : e.kind - 8 ≡ 0 → ⊥ = λ q. omega arith in
    let b : e.kind ≡ 0 → ⊥ = λ q. omega arith in
    ap is_alive (said_row rows at e.kind e.first (omega arith)) ∙ lives-said (e.kind - 8) (row_at rows at) ∙ ne_eqb (e.kind - 8) 0 a ∙ sym (ne_eqb e.kind 0 b))
    (less e.kind 9)

choose : (e o l : Bool) (a new : Status) → cond e (cond (o && not l) a new) a ≡ cond (e && not (o && not l)) new a
choose true true true a new = refl
choose true true false a new = refl
choose true false l a new = refl
choose false o l a new = refl

push : (b : Bool) (rows : List ℕ) (at : ℕ) (x y : Entry) → said_at rows at (cond b x y) ≡ cond b (said_at rows at x) (said_at rows at y)
push true rows at x y = refl
push false rows at x y = refl

-- the state of a local where a frame marks
put-at : (e o : Bool) (rows : List ℕ) (width at k f : ℕ) (x : Entry) → k < 7 → Known rows width at x.kind
    → said_at rows at (cond (e && not (o && not (eqb x.kind 0))) (record { kind = k; first = f }) x)
    ≡ cond e (put o (said k (f ∷ [])) (said_at rows at x)) (said_at rows at x)
put-at e o rows width at k f x l h =
    push (e && not (o && not (eqb x.kind 0))) rows at (record { kind = k; first = f }) x
    ∙ ap (λ (s : Status). cond (e && not (o && not (eqb x.kind 0))) s (said_at rows at x)) (said-one rows at k f l)
    ∙ sym (choose e o (eqb x.kind 0) (said_at rows at x) (said k (f ∷ [])))
    ∙ ap (λ (b : Bool). cond e (cond (o && not b) (said_at rows at x) (said k (f ∷ []))) (said_at rows at x)) (sym (lives_at rows width at x h))

module _ (name d : ℕ) (o : Bool) (kind place : ℕ) where
  -- whether a frame of the depth d marks the local i
  abbrev pub hit_at : List ℕ → List ℕ → States → ℕ → Bool
  hit_at names depths t i = (eqb (get_or names i 0) name && eqb (get_or depths i 0) d) && not (o && not (eqb (get_or t.kinds i 0) 0))

  -- the first i locals are marked, and the rest is as it was
  pub record Marking (names depths : List ℕ) (i : ℕ) (t old : States) : Type 0 where
    pub held : Held t
    pub done : (k : ℕ) → k < i → entry_at t k ≡ cond (hit_at names depths old k) (record { kind = kind; first = place }) (entry_at old k)
    pub rest : (k : ℕ) → i ≤ k → entry_at t k ≡ entry_at old k

  pub marking-none : (names depths : List ℕ) (t : States) → Held t → Marking names depths 0 t t
  marking-none names depths t h = record { held = h; done = λ k l. absurd (omega arith); rest = λ k l. refl }

  module _ (names depths : List ℕ) (i : ℕ) (t old : States) (h : Marking names depths i t old) where
    hit_same : hit_at names depths t i ≡ hit_at names depths old i
    hit_same = ap (λ (x : Entry). (eqb (get_or names i 0) name && eqb (get_or depths i 0) d) && not (o && not (eqb x.kind 0))) (h.rest i (omega arith))

    pub marking-skip : (r : States) → r ≡ t → hit_at names depths t i ≡ false → Marking names depths (i + 1) r old
    marking-skip r e off = subst (λ (x : States). Marking names depths (i + 1) x old) (sym e) (record {
      held = h.held;
      done = λ k l. ⊎_elim
          (λ (q : k < i). h.done k q)
          (λ (q : i ≤ k). let z : k ≡ i = omega arith in rw (z, sym hit_same ∙ off) (h.rest i (omega arith)))
          (less k i);
      rest = λ k l. h.rest k (omega arith);
    })

    pub marking-put : (w : ℕ) (b : Bool) (r : States) → r ≡ stored t i kind place w → b ≡ eqb kind 0 → w ≡ word_of 64 (λ j. cond (eqb j i) b (alive_at t j)) → i < 64
        → hit_at names depths t i ≡ true → Marking names depths (i + 1) r old
    marking-put w b r e eb is l on = subst (λ (x : States). Marking names depths (i + 1) x old) (sym e) (record {
      held = stored-held t i kind place w h.held l b eb is;
      done = λ k lk. ⊎_elim
          (λ (q : k < i). let ne : k ≢ i = λ z. omega arith in stored_other t i kind place w h.held l k ne ∙ h.done k q)
          (λ (q : i ≤ k). let z : k ≡ i = omega arith in rw (z, sym hit_same ∙ on) (stored_at t i kind place w h.held l))
          (less k i);
      rest = λ k lk. let ne : k ≢ i = λ z. omega arith in stored_other t i kind place w h.held l k ne ∙ h.rest k (omega arith);
    })

  module _ (l : Locals) (t old : States) (small : kind < 7) (h : Marking l.names l.depths l.count t old) where
    marked-known : (rows : List ℕ) (width at k : ℕ) → Known rows width at (get_or old.kinds k 0) → (b : Bool)
        → entry_at t k ≡ cond b (record { kind = kind; first = place }) (entry_at old k) → Known rows width at (get_or t.kinds k 0)
    marked-known rows width at k g true e = subst (Known rows width at) (sym (ap (λ (x : Entry). x.kind) e)) (known-one rows width at kind small)
    marked-known rows width at k g false e = subst (Known rows width at) (sym (ap (λ (x : Entry). x.kind) e)) g

    pub marks-rowed : (rows : List ℕ) (cur width : ℕ) → Rowed l.count old rows cur width → Rowed l.count t rows cur width
    marks-rowed rows cur width g = record {
      known = λ k. ⊎_elim
          (λ (q : k < l.count). marked-known rows width (row_of cur width k) k (g.known k) (hit_at l.names l.depths old k) (h.done k q))
          (λ (q : l.count ≤ k). marked-known rows width (row_of cur width k) k (g.known k) false (h.rest k q))
          (less k l.count);
      free = λ k le. ap (λ (x : Entry). x.kind) (h.rest k le) ∙ g.free k le;
    }

    pub marks-is : ((g : ℕ → Status) → d ≡ depth_of name (stacked l.count (static_at l) g)) → (rows : List ℕ) (cur width : ℕ) → Rowed l.count old rows cur width
        → view l t rows cur width ≡ mark name (put o (said kind (place ∷ []))) (view l old rows cur width)
    marks-is frame rows cur width g =
        let f = put o (said kind (place ∷ [])) in
        let s = state_at old rows cur width in
        agree l.count (static_at l) (static_at l) (state_at t rows cur width) (λ i. cond (eqb (get_or l.names i 0) name && eqb (get_or l.depths i 0) d) (f (s i)) (s i))
        (λ k lk. refl)
        (λ k lk. ap (said_at rows (row_of cur width k)) (h.done k lk)
        ∙ put-at (eqb (get_or l.names k 0) name && eqb (get_or l.depths k 0) d) o rows width (row_of cur width k) kind place (entry_at old k) small (g.known k))
        ∙ sym (framed name d f (static_at l) s l.count)
        ∙ ap (λ (x : ℕ). in_frame name x f (view l old rows cur width)) (frame s)
        ∙ sym (mark-frame name f (view l old rows cur width))

  pub marks : (l : Locals) (t old : States) → kind < 7 → Marking l.names l.depths l.count t old → ((g : ℕ → Status) → d ≡ depth_of name (stacked l.count (static_at l) g))
      → Marks l name (put o (said kind (place ∷ []))) old t
  marks l t old small h frame = record { is = marks-is l t old small h frame; rowed = marks-rowed l t old small h }

-- what a mark does does not hang on the types and births of the locals
depth_same : (name n : ℕ) (l k : Locals) → k.names ≡ l.names → k.depths ≡ l.depths → (g : ℕ → Status) → depth_of name (stacked n (static_at l) g) ≡ depth_of name (stacked n (static_at k) g)
unfolding stacked
depth_same name zero l k en ed g = refl
depth_same name (suc n) l k en ed g =
    ap (λ (x : List ℕ). depth_of name (local (static_in x l.types l.depths l.births n) (g n) ∷ stacked n (static_at l) g)) (sym en)
    ∙ ap (λ (x : List ℕ). depth_of name (local (static_in k.names l.types x l.births n) (g n) ∷ stacked n (static_at l) g)) (sym ed)
    ∙ ap (λ (x : ℕ). cond (eqb (get_or k.names n 0) name) (get_or k.depths n 0) x) (depth_same name n l k en ed g)

module _ (name d : ℕ) (o : Bool) (kind place : ℕ) where
  pub marks-alike : (l k : Locals) (t old : States) → k.names ≡ l.names → k.depths ≡ l.depths → k.count ≡ l.count → kind < 7 → Marking name d o kind place l.names l.depths l.count t old
      → ((g : ℕ → Status) → d ≡ depth_of name (stacked l.count (static_at l) g)) → Marks k name (put o (said kind (place ∷ []))) old t
  marks-alike l k t old en ed ec small h frame = marks name d o kind place k t old small (rw (en, ed, ec) h) (λ g. rw ec (frame g ∙ depth_same name l.count l k en ed g))
