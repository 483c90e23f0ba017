-- What the loop over the statements of a block keeps: the stack that it owns, and what the walk has come to.
-- Assumes nothing.
use Prim.Native.Nat.{ℕ, suc, ◌+◌, ◌-◌, ◌*◌, ◌≤◌, ◌<◌}
use native.Mathlib.Omega.{arith}
use mathlib.Core.Path.{◌≡◌, refl, sym, ap, ◌∙◌, subst}
use mathlib.Core.Bool.{Bool, false, cond}
use mathlib.Core.List.{List, [], ◌∷◌}
use mathlib.Core.Option.{Option, none, some}
use borrow.Author.Tests.{lt-ltb, le-ltb, le-leb, lt-leb}
use mathlib.Core.Logic.{⊎_elim}
use lib.Dec.{leb}
use lib.ListN.{length}
use Rattle.std.specs.Prelude.{None}
use Rattle.image_fields.proofs.Tests.{false-true, less}
use Rattle.image_fields.specs.Number.{two}
use Rattle.image_fields.specs.Bytes.{Bytes}
use Rattle.tables.specs.Limits.{version1}
use Rattle.tables.specs.Tables.{Tables}
use Rattle.rules.specs.Questions.{auto}
use Rattle.rules.specs.State.{State as Status}
use Rattle.rules.specs.Stack.{Static, shape, mark, Stack as Scope}
use Rattle.rules.specs.Rules.{declared, states, register, off, switches_of}
use Rattle.rules.specs.Walk.{too_many}
use Rattle.scope_state.specs.Kinds.{said, put}
use Rattle.tables_lookup.specs.Lent.{Lent, Says}
use Rattle.scope_state.specs.Locals.{state_in}
use Rattle.expressions_steps.specs.declared.Open.{Open}
use Rattle.expressions_scan.specs.States.{AllKept}
use Rattle.expressions_scan.specs.declared.Mark.{Mark as Marking}
use Rattle.expressions_scan.specs.declared.Env.{Env as Scanning}
use Rattle.image_writing.specs.Memory.{Memory, memory}
use Rattle.statements_returns.specs.Returns.{BlockThere}
use Rattle.statements_returns.proofs.Surely.{block-there}
use Rattle.statements_steps.specs.Own.{number_of}
use Rattle.statements_acts.specs.declared.Place.{Place}
use Rattle.statements_acts.specs.Marks.{Looped}
use Rattle.statements_acts.specs.Act.{Within, Grows as Further}
use Rattle.scope_stack.specs.declared.Locals.{Locals}
use Rattle.scope_stack.specs.declared.States.{States}
use Rattle.scope_stack.specs.View.{view, alive_at, mark_of, Held, Sound, Nested, Grows, Marks, Named}
use Rattle.scope_stack.proofs.Scopes.{Extends, register-length, sound-mark, sound-register, registers-marked, registers-fresh, extends-none, extends-more, nested-view}
use Rattle.scope_stack.proofs.Frames.{nested-register}
use Rattle.statements_changes.specs.declared.Cursor.{Cursor}
use Rattle.statements_changes.specs.declared.Turn.{Turn}
use Rattle.statements_changes.specs.declared.Turn.TheVariants.{Over, Mark, Register, Blocks}
use Rattle.statements_changes.specs.Turns.{Lends, retold, between_of, Stood, After, Steady, Fit, ahead}
use Rattle.statements_changes.proofs.Bridge.{lends-view, kept-view}
use Rattle.blocks_laws.specs.Walks.{Walked, LeadsAll, StmtsThere, StmtsWalk, TagThere, TagWalks}
use Rattle.blocks_laws.proofs.Wrotes.{grows-both, grows_none, within_on}
use Rattle.blocks_laws.proofs.Turns.{all_start, all_rest}
use Rattle.blocks_laws.proofs.Heads.{head-grows, stmts-in}
use Rattle.blocks_ends.specs.declared.Env.{Env}
use Rattle.blocks_laws.specs.Places.{headed}
use Rattle.blocks_ends.specs.declared.Walk.{Walk}
use Rattle.blocks_ends.specs.Ends.{place_in, fault_in, walked_in}
use Rattle.blocks_merge.specs.Merges.{Below}
use Rattle.blocks.specs.Blocks.{InLoop, Enters, Comes}

-- the same place, but for its errors
pub told-within : (s : List ℕ) (p : Place) → Within s p → Within s (retold p 0)
told-within s p w = record { small = w.small; inside = w.inside; written = w.written; errors = omega arith; warnings = w.warnings; lefts = w.lefts; inserted = w.inserted }

pub below_none : (cur : ℕ) (rows : List ℕ) → Below cur rows rows
below_none cur rows = record { room = refl; same = λ k l. refl }

pub below_both : (cur at : ℕ) (rows mid new : List ℕ) → cur ≤ at → Below cur rows mid → Below at mid new → Below cur rows new
below_both cur at rows mid new l a b = record { room = b.room ∙ a.room; same = λ k lk. b.same k (omega arith) ∙ a.same k lk }

-- the locals of the nearest loop: of a deeper block, once a block has registered more, and as the mark is masked
pub loop-deeper : (loop : Option ℕ) (base d e : ℕ) (l : Locals) → d ≤ e → InLoop loop base d l → InLoop loop base e l
loop-deeper none base d e l le h = h
loop-deeper (some k) base d e l le h = (omega (arith, h.0), h.1, h.2)

pub loop-extends : (loop : Option ℕ) (base d : ℕ) (outer l : Locals) → Extends d outer l → InLoop loop base d outer → InLoop loop base d l
loop-extends none base d outer l x h = h
loop-extends (some k) base d outer l x h = (
  h.0,
  omega (arith, h.1, x.most),
  λ i li. ⊎_elim
      (λ (q : i < outer.count). ap (λ (s : Static). leb k s.depth) (x.older i q) ∙ h.2 i q)
      (λ (q : outer.count ≤ i). ap (leb k) (x.newer i q li) ∙ le-leb k d h.0 ∙ sym (le-leb base i (omega (arith, h.1))))
      (less i outer.count),
)

pub loop-few : (loop : Option ℕ) (base d : ℕ) (l : Locals) → l.count ≤ 64 → InLoop loop base d l → base ≤ 64
loop-few none base d l few h = omega (arith, h)
loop-few (some k) base d l few h = omega (arith, h.1)

pub loop-looped : (loop : Option ℕ) (base d : ℕ) (l : Locals) → l.count ≤ 64 → InLoop loop base d l → Looped l.depths loop base l.count
loop-looped none base d l few h = record { few = few; own = λ names types births i li. sym (lt-leb base i (omega (arith, h))) }
loop-looped (some k) base d l few h = record { few = few; own = λ names types births i li. h.2 i li }

-- between statements
pub steady-between : (s : List ℕ) (left : ℕ) (ns : List Open) (n : ℕ) (p : Place) → Within s p → StmtsThere s left n p.at → Steady s left ns (between_of n p None)
steady-between s left ns n p w there = record { inside = told-within s p w; there = there; between = λ h. w.errors; within = λ h. false-true h }

-- too many locals, or not
many-none : (σ : Scope Status) → length σ ≤ 64 → too_many version1 σ ≡ none
many-none σ l = ap (λ (b : Bool). cond b (some 12) none) (le-ltb 64 (length σ) l)

many-some : (σ : Scope Status) → 64 < length σ → too_many version1 σ ≡ some 12
many-some σ l = ap (λ (b : Bool). cond b (some 12) none) (lt-ltb 64 (length σ) l)

-- turns that are not the end
pub mark-goes : (k : Marking) → Mark k ≡ Over → ⊥
mark-goes k e = let z : ◌≡◌ {A = ℕ} 0 1 = cc in omega arith

pub register-goes : (n y b : ℕ) → Register n y b ≡ Over → ⊥
register-goes n y b e = let z : ◌≡◌ {A = ℕ} 0 1 = cc in omega arith

pub blocks-go : (tag : ℕ) → Blocks tag ≡ Over → ⊥
blocks-go tag e = let z : ◌≡◌ {A = ℕ} 0 1 = cc in omega arith

module _ (s tb : List ℕ) (e : Env) (start : Place) (outer : Locals) (t₀ : States) (rows₀ out₀ errs₀ warns₀ lefts₀ : List ℕ) where
  abbrev σ₀ : Scope Status
  σ₀ = view outer t₀ rows₀ e.cur e.width

  abbrev p₀ : Place
  p₀ = headed start (start.written + 4)

  abbrev m₀ : Memory
  m₀ = memory out₀ errs₀ warns₀ lefts₀

  abbrev all : ℕ
  all = two s (start.at + 4)

  abbrev seen : Locals → States → List ℕ → Scope Status
  seen l t rows = view l t rows e.cur e.width

  -- the stack
  pub record Owned (rows : List ℕ) (l : Locals) (t : States) : Type 0 where
    pub sound : Sound (Says s tb) l t rows e.cur e.width
    pub nested : Nested (12 - e.left) (shape (view l t rows e.cur e.width))
    pub extends : Extends (12 - e.left) outer l
    pub below : Below e.cur rows₀ rows

  -- what is lent is as long as it was
  pub record Long (v : List Open) (o x w y : List ℕ) : Type 0 where
    pub nodes : length v ≡ 26
    pub out : length o ≡ length out₀
    pub errs : length x ≡ length errs₀
    pub warns : length w ≡ length warns₀
    pub lefts : length y ≡ length lefts₀

  pub record Standing (rows : List ℕ) (nodes : List Open) (out errs warns lefts : List ℕ) (l : Locals) (t : States) (c : Cursor) : Type 0 where
    pub owned : Owned rows l t
    pub long : Long nodes out errs warns lefts
    pub steady : Steady s e.left nodes c
    pub grows : Further s (retold (headed start (start.written + 4)) 0) (retold c.place 0)
    pub stood : (T : Tables) → Says s tb T → (loop : Option ℕ) → InLoop loop e.base (12 - e.left) outer
        → Stood (switches_of e.switches) T s e.left (12 - e.left) loop (two s (start.at + 4)) (view outer t₀ rows₀ e.cur e.width) (headed start (start.written + 4)) (memory out₀ errs₀ warns₀ lefts₀)
        nodes c (view l t rows e.cur e.width) (memory out errs warns lefts)

  -- behind next_change: what is to be done
  pub record Turned (rows : List ℕ) (nodes : List Open) (out errs warns lefts : List ℕ) (l : Locals) (t : States) (c : Cursor) (turn : Turn) : Type 0 where
    pub owned : Owned rows l t
    pub long : Long nodes out errs warns lefts
    pub fit : Fit s e.left nodes c turn
    pub grows : Further s (retold (headed start (start.written + 4)) 0) (retold c.place 0)
    pub after : (T : Tables) → Says s tb T → (loop : Option ℕ) → InLoop loop e.base (12 - e.left) outer
        → After (switches_of e.switches) T s e.left (12 - e.left) loop (two s (start.at + 4)) (view outer t₀ rows₀ e.cur e.width) (headed start (start.written + 4)) (memory out₀ errs₀ warns₀ lefts₀)
        nodes c (view l t rows e.cur e.width) (memory out errs warns lefts) turn

  -- the loop begins behind the block's head
  module _ (h : Enters s tb e outer t₀ rows₀ start) (left : ℕ) (el : e.left ≡ left - 1) (there : BlockThere s left start.at) where
    start-owned : Owned rows₀ outer t₀
    start-owned = record { sound = h.sound; nested = h.nested; extends = extends-none (12 - e.left) outer; below = below_none e.cur rows₀ }

    further : Further s start p₀
    further = head-grows s start (start.written + 4) (block-there s left start.at there).1 refl

    pub standing-start : Bytes s → (nodes : List Open) → length nodes ≡ 26 → (c : Cursor) → c ≡ between_of (two s (start.at + 4)) (headed start (start.written + 4)) None
        → Standing rows₀ nodes out₀ errs₀ warns₀ lefts₀ outer t₀ c
    standing-start small nodes en c is = subst (Standing rows₀ nodes out₀ errs₀ warns₀ lefts₀ outer t₀) (sym is) (record {
      owned = start-owned;
      long = record { nodes = en; out = refl; errs = refl; warns = refl; lefts = refl };
      steady = steady-between s e.left nodes all p₀ (within_on h.within further) (stmts-in s left e.left start.at all (start.at + 6) el refl refl there);
      grows = grows_none further.inside;
      stood = λ T sy loop o. record { between = λ z. all_start (switches_of e.switches) T s small e.left (12 - e.left) loop all σ₀ p₀ m₀; within = λ z. false-true z };
    })

  -- what next_change is asked
  pub ask-next : Lent s tb → e.left ≤ 12 → e.width ≡ 8 → e.cur < 4294967296 → e.base ≤ 64 → {rows : List ℕ} {nodes : List Open} {out errs warns lefts : List ℕ} {l : Locals} {t : States} {c : Cursor}
      → Standing rows nodes out errs warns lefts l t c → (mark : ℕ) (here : Scanning)
      → here ≡ record { switches = e.switches; left = e.left; mark = mark; base = e.base; cur = e.cur; width = e.width }
      → Lent s tb × AllKept t.kinds t.firsts rows here.cur here.width l.count
      × (here.left ≤ 12) × (here.base ≤ 64) × Steady s here.left nodes c × (length nodes ≡ 26)
  ask-next lent depth wide low few {rows} {nodes} {out} {errs} {warns} {lefts} {l} {t} {c} st mark here is =
      subst (λ (x : Scanning). Lent s tb × AllKept t.kinds t.firsts rows x.cur x.width l.count × (x.left ≤ 12) × (x.base ≤ 64) × Steady s x.left nodes c × (length nodes ≡ 26)) (sym is)
      (lent, kept-view l t rows e.cur e.width st.owned.sound low (omega arith), depth, few, st.steady, st.long.nodes)

  -- what it answers, of the stack
  abbrev Answers : List ℕ → List Open → List ℕ → List ℕ → List ℕ → List ℕ → Locals → States → Cursor → List Open → List ℕ → List ℕ → List ℕ → List ℕ → Cursor → Turn → Scanning → Type 0
  Answers rows nodes out errs warns lefts l t c nodes' out' errs' warns' lefts' c' turn here =
      ((T : Tables) → Says s tb T → (ld : List ℕ) (σ : Scope Status) (loop : Option ℕ)
      → Lends T here.mark loop here.base l.names l.types ld l.births (state_in t.kinds t.firsts rows here.cur here.width) l.count σ
      → (n : ℕ) (τ : Scope Status) (q : Place) (m : Memory)
      → Stood (switches_of here.switches) T s here.left (12 - here.left) loop n τ q m nodes c σ (memory out errs warns lefts)
      → After (switches_of here.switches) T s here.left (12 - here.left) loop n τ q m nodes' c' σ (memory out' errs' warns' lefts') turn)
      × (Fit s here.left nodes' c' turn × (length nodes' ≡ 26) × ((turn ≡ Over → ⊥) → ahead s c' < ahead s c) × Further s (retold c.place 0) (retold c'.place 0))

  pub turned : {rows : List ℕ} {nodes : List Open} {out errs warns lefts : List ℕ} {l : Locals} {t : States} {c : Cursor} → Standing rows nodes out errs warns lefts l t c → (mark : ℕ)
      → mark ≡ mark_of l t → (here : Scanning)
      → here ≡ record { switches = e.switches; left = e.left; mark = mark; base = e.base; cur = e.cur; width = e.width }
      → {nodes' : List Open} {out' errs' warns' lefts' : List ℕ} {c' : Cursor} {turn turn' : Turn} → Answers rows nodes out errs warns lefts l t c nodes' out' errs' warns' lefts' c' turn here
      → turn ≡ turn' → length out' ≡ length out → length errs' ≡ length errs → length warns' ≡ length warns → length lefts' ≡ length lefts
      → Turned rows nodes' out' errs' warns' lefts' l t c' turn'
  turned {rows} {nodes} {out} {errs} {warns} {lefts} {l} {t} {c} st mark word here is {nodes'} {out'} {errs'} {warns'} {lefts'} {c'} {turn} {turn'} a came lo le lw ll =
      let b = subst (Answers rows nodes out errs warns lefts l t c nodes' out' errs' warns' lefts' c' turn') is
      (subst (λ (x : Turn). Answers rows nodes out errs warns lefts l t c nodes' out' errs' warns' lefts' c' x here) came a) in
      record {
        owned = st.owned;
        long = record { nodes = b.1.1; out = lo ∙ st.long.out; errs = le ∙ st.long.errs; warns = lw ∙ st.long.warns; lefts = ll ∙ st.long.lefts };
        fit = b.1.0;
        grows = grows-both st.grows b.1.3;
        after = λ T sy loop o. b.0 T sy l.depths (seen l t rows) loop (lends-view l t rows e.cur e.width st.owned.sound T sy mark word loop e.base
            (loop-looped loop e.base (12 - e.left) l st.owned.sound.kept.small (loop-extends loop e.base (12 - e.left) outer l st.owned.extends o))) all σ₀ p₀ m₀ (st.stood T sy loop o);
      }

  module _ {rows : List ℕ} {nodes : List Open} {out errs warns lefts : List ℕ} {l : Locals} {t : States} {c : Cursor} where
    -- a mark
    pub standing-mark : (k : Marking) → Turned rows nodes out errs warns lefts l t c (Mark k) → (r : States) → Held r → Marks l k.name (put k.only_alive (said k.kind (k.place ∷ []))) t r
        → Standing rows nodes out errs warns lefts l r c
    standing-mark k h r held m =
        let is = m.is rows e.cur e.width h.owned.sound.rowed in
        record {
          owned = record {
            sound = sound-mark l t r k.name (put k.only_alive (said k.kind (k.place ∷ []))) rows e.cur e.width h.owned.sound held m;
            nested = nested-view (12 - e.left) l t r rows rows e.cur e.cur e.width h.owned.nested;
            extends = h.owned.extends;
            below = h.owned.below;
          };
          long = h.long;
          steady = h.fit.0;
          grows = h.grows;
          stood = λ T sy loop o. subst (λ (σ : Scope Status). Stood (switches_of e.switches) T s e.left (12 - e.left) loop all σ₀ p₀ m₀ nodes c σ (memory out errs warns lefts)) (sym is) (h.after T sy loop o);
        }

    -- a registration, with room for it
    module _ (n y b : ℕ) (h : Turned rows nodes out errs warns lefts l t c (Register n y b)) where
      abbrev more : Scope Status
      more = register (states off) (declared (12 - e.left) b n y) (seen l t rows)

      many : length more ≡ l.count + 1
      many = register-length l n y (12 - e.left) b t rows e.cur e.width

      module _ (dtor : Bool) (asked : (T : Tables) → Says s tb T → dtor ≡ auto T y) (r : Locals) (g : Grows l (declared (12 - e.left) b n y) dtor r) (room : l.count < 64) where
        standing-more : (u : States) → Sound (Says s tb) r u rows e.cur e.width → view r u rows e.cur e.width ≡ more → Standing rows nodes out errs warns lefts r u c
        standing-more u sound is = record {
          owned = record {
            sound = sound;
            nested = subst (λ (σ : Scope Status). Nested (12 - e.left) (shape σ)) (sym is) (nested-register n y (12 - e.left) b (seen l t rows) h.owned.nested);
            extends = extends-more (12 - e.left) outer l r n y b dtor h.owned.extends g;
            below = h.owned.below;
          };
          long = h.long;
          steady = h.fit;
          grows = h.grows;
          stood = λ T sy loop o. subst (λ (σ : Scope Status). Stood (switches_of e.switches) T s e.left (12 - e.left) loop all σ₀ p₀ m₀ nodes c σ (memory out errs warns lefts)) (sym is) ((h.after T sy loop o).0 (many-none more (omega (arith, many))));
        }

        pub standing-fresh : ((i : ℕ) → i < 64 → alive_at t i ≡ false → Named r.names r.depths n (12 - e.left) i → ⊥) → Standing rows nodes out errs warns lefts r t c
        standing-fresh calm =
            standing-more t (sound-register l r n y (12 - e.left) b dtor g t rows e.cur e.width h.owned.sound.rowed h.owned.sound.held h.owned.sound.drops asked)
            (registers-fresh l r n y (12 - e.left) b dtor g t rows e.cur e.width h.owned.sound.rowed calm (omega arith))

        pub standing-revived : (p : ℕ) (u : States) → Held u → Marks r n (put false (said 0 (p ∷ []))) t u → Standing rows nodes out errs warns lefts r u c
        standing-revived p u held m =
            let sound = sound-register l r n y (12 - e.left) b dtor g t rows e.cur e.width h.owned.sound.rowed h.owned.sound.held h.owned.sound.drops asked in
            standing-more u (sound-mark r t u n (put false (said 0 (p ∷ []))) rows e.cur e.width sound held m)
            (registers-marked l r n y (12 - e.left) b dtor g t rows e.cur e.width h.owned.sound.rowed p u m)

      -- and without
      pub full : 64 ≤ l.count → (w : Walked) → w.fault ≡ 12 → (T : Tables) → Says s tb T → (loop : Option ℕ) → InLoop loop e.base (12 - e.left) outer
          → StmtsWalk (switches_of e.switches) T s e.left (12 - e.left) loop (two s (start.at + 4)) (view outer t₀ rows₀ e.cur e.width) (headed start (start.written + 4)) (memory out₀ errs₀ warns₀ lefts₀) w (memory out errs warns lefts)
      full few w ew T sy loop o =
          let k = many-some more (omega (arith, many)) in
          let twelve : 0 < number_of (too_many version1 more) = subst (λ (x : Option ℕ). 0 < number_of x) (sym k) (omega arith) in
          let f = (h.after T sy loop o).1 twelve in
          record {
            walks = λ u deep tree end read.
                let z = ew ∙ ap number_of (sym k) ∙ f u deep tree end read in
                (z, λ nil. let q = z ∙ ap number_of nil in absurd (omega arith));
          }

    -- the blocks of a statement
    module _ (tag : ℕ) (h : Turned rows nodes out errs warns lefts l t c (Blocks tag)) where
      pub enters-blocks : (env : Enters s tb e outer t₀ rows₀ start) (near : Option ℕ) → InLoop near e.base (12 - e.left) outer → (p : Place) → p ≡ c.place → Enters s tb e l t rows p
      enters-blocks env near nearby p is = record {
        lent = env.lent;
        within = subst (Within s) (sym is) h.fit.1;
        depth = env.depth;
        limit = env.limit;
        width = env.width;
        sound = h.owned.sound;
        nested = h.owned.nested;
        near = near;
        looped = loop-deeper near e.base (12 - e.left) (suc (12 - e.left)) l (omega arith) (loop-extends near e.base (12 - e.left) outer l h.owned.extends nearby);
      }

      pub there-blocks : (p : Place) → p ≡ c.place → TagThere s e.left p.at tag
      there-blocks p is = subst (λ (q : Place). TagThere s e.left q.at tag) (sym is) h.fit.0

      module _ (p : Place) (ep : p ≡ c.place) {rows' out' errs' warns' lefts' : List ℕ} {pl' : Walk} {r : States} (least : ℕ) (come : Comes s tb e.cur e.width least l rows p r rows' pl')
          (tag_walks : (T : Tables) → Says s tb T → (loop : Option ℕ) → InLoop loop e.base (suc (12 - e.left)) l → (fault_in pl' ≡ 254 → ⊥)
          → TagWalks (switches_of e.switches) T s e.left (12 - e.left) loop tag (view l t rows e.cur e.width) p (memory out errs warns lefts) (walked_in pl' (view l r rows' e.cur e.width)) (memory out' errs' warns' lefts')) where
        walks-there : (T : Tables) → Says s tb T → (loop : Option ℕ) → InLoop loop e.base (12 - e.left) outer → (fault_in pl' ≡ 254 → ⊥)
            → TagWalks (switches_of e.switches) T s e.left (12 - e.left) loop tag (view l t rows e.cur e.width) c.place (memory out errs warns lefts) (walked_in pl' (view l r rows' e.cur e.width)) (memory out' errs' warns' lefts')
        walks-there T sy loop o short = subst (λ (q : Place). TagWalks (switches_of e.switches) T s e.left (12 - e.left) loop tag (seen l t rows) q (memory out errs warns lefts) (walked_in pl' (seen l r rows')) (memory out' errs' warns' lefts')) ep
            (tag_walks T sy loop (loop-deeper loop e.base (12 - e.left) (suc (12 - e.left)) l (omega arith) (loop-extends loop e.base (12 - e.left) outer l h.owned.extends o)) short)

        -- a fault of theirs is the walk's
        pub blocks-fault : 0 < fault_in pl' → (fault_in pl' ≡ 254 → ⊥) → (T : Tables) → Says s tb T → (loop : Option ℕ) → InLoop loop e.base (12 - e.left) outer
            → StmtsWalk (switches_of e.switches) T s e.left (12 - e.left) loop (two s (start.at + 4)) (view outer t₀ rows₀ e.cur e.width) (headed start (start.written + 4)) (memory out₀ errs₀ warns₀ lefts₀)
            (walked_in pl' (view l r rows' e.cur e.width)) (memory out' errs' warns' lefts')
        blocks-fault lt short T sy loop o = (h.after T sy loop o (walked_in pl' (seen l r rows')) (memory out' errs' warns' lefts') (walks-there T sy loop o short)).0 lt

        -- or the loop goes on behind them
        module _ (small : Bytes s) (left : ℕ) (el : e.left ≡ left - 1) (there : BlockThere s left start.at) (some-tables : Tables) (said-some : Says s tb some-tables) (near : Option ℕ) (nearby : InLoop near e.base (12 - e.left) outer)
            (z : fault_in pl' ≡ 0) (nodes' : List Open) (en : length nodes' ≡ 26) where
          leads : (T : Tables) → Says s tb T → (loop : Option ℕ) → InLoop loop e.base (12 - e.left) outer → LeadsAll (switches_of e.switches) T s e.left (12 - e.left) loop all σ₀ p₀ m₀ c.left (seen l r rows') (place_in pl') (memory out' errs' warns' lefts')
          leads T sy loop o = (h.after T sy loop o (walked_in pl' (seen l r rows')) (memory out' errs' warns' lefts') (walks-there T sy loop o (λ q. omega arith))).1 (omega arith)

          pub less-behind : (k : ℕ) → ahead s c < k → (q : Place) (c' : Cursor) → c' ≡ between_of c.left q None → ahead s c' < k
          less-behind k lt q c' is = rw is (let w : 400000 * c.left + 200000 ≤ ahead s c = rw h.fit.3 (omega arith) in omega arith)

          pub standing-behind : length out' ≡ length out → length errs' ≡ length errs → length warns' ≡ length warns → length lefts' ≡ length lefts → (q : Place) → q ≡ place_in pl' → (c' : Cursor)
              → c' ≡ between_of c.left q None → Standing rows' nodes' out' errs' warns' lefts' l r c'
          standing-behind lo le lw ll q eq c' is = subst (Standing rows' nodes' out' errs' warns' lefts' l r) (sym (is ∙ ap (λ (x : Place). between_of c.left x None) eq)) (record {
            owned = record {
              sound = come.sound z;
              nested = nested-view (12 - e.left) l t r rows rows' e.cur e.cur e.width h.owned.nested;
              extends = h.owned.extends;
              below = below_both e.cur e.cur rows₀ rows rows' (omega arith) h.owned.below come.below;
            };
            long = record { nodes = en; out = lo ∙ h.long.out; errs = le ∙ h.long.errs; warns = lw ∙ h.long.warns; lefts = ll ∙ h.long.lefts };
            steady = steady-between s e.left nodes' c.left (place_in pl') (come.within z)
                (all_rest (switches_of e.switches) some-tables s small e.left (12 - e.left) near all σ₀ p₀ m₀ c.left (seen l r rows') (place_in pl') (memory out' errs' warns' lefts') (leads some-tables said-some near nearby)
                (stmts-in s left e.left start.at all (start.at + 6) el refl refl there));
            grows = grows-both h.grows (subst (λ (x : Place). Further s (retold x 0) (retold (place_in pl') 0)) ep (come.grows z));
            stood = λ T sy loop o. record { between = λ y. leads T sy loop o; within = λ y. false-true y };
          })
