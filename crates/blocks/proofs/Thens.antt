-- The first block of an IfElse, or that of a While, and what is left behind it.
-- Assumes nothing.
use Prim.Native.Nat.{ℕ, suc, ◌+◌, ◌-◌, ◌*◌, ◌≤◌, ◌<◌}
use native.Mathlib.Omega.{arith}
use mathlib.Core.Path.{◌≡◌, refl, sym, ap, ◌∙◌, subst}
use mathlib.Core.Bool.{Bool, true, false}
use mathlib.Core.Option.{Option, some}
use mathlib.Core.List.{List, [], ◌∷◌}
use mathlib.Core.Logic.{◌⊎◌, inl, inr, ⊎_elim}
use borrow.Author.Tests.{eqb-true, eqb-false}
use lib.Dec.{eqb}
use lib.ListN.{length, get_or}
use Rattle.rules.specs.Rules.{switches_of}
use Rattle.image_fields.specs.Bytes.{Bytes}
use Rattle.image_fields.proofs.Tests.{split, less, false-true}
use Rattle.tables.specs.Tables.{Tables}
use Rattle.rules.specs.State.{State as Status}
use Rattle.rules.specs.Stack.{shape, Stack as Scope}
use Rattle.image_writing.specs.Memory.{Memory, memory}
use Rattle.image_writing.specs.Stored.{Stored}
use Rattle.statements_returns.specs.Returns.{BlockThere}
use Rattle.statements_returns.proofs.Surely.{block-there}
use Rattle.statements_acts.specs.declared.Place.{Place}
use Rattle.statements_acts.specs.Act.{Within, Grows as Further}
use Rattle.scope_stack.specs.declared.Locals.{Locals}
use Rattle.scope_stack.specs.declared.States.{States}
use Rattle.scope_stack.specs.View.{row_of, view, Nested}
use Rattle.scope_rows.specs.Rows.{Copies}
use Rattle.statements_changes.specs.Turns.{retold}
use Rattle.blocks_laws.specs.Walks.{Walked, BlockWalks, IfWalks, LoopWalks, TagThere, TagWalks, blocked}
use Rattle.blocks_laws.proofs.Wrotes.{grows-both, grows_none, within_on}
use Rattle.blocks_laws.specs.Ends.{Merges}
use Rattle.blocks_laws.proofs.Ifs.{flag-grows, else-none, else-block, then-there, if-first, loop-first, loop-walks, else-there, if-second, if-walks}
use Rattle.blocks_laws.proofs.Branches.{ElseThere}
use Rattle.blocks_ends.specs.declared.Env.{Env}
use Rattle.blocks_ends.specs.declared.Walk.{Walk}
use Rattle.blocks_ends.specs.Ends.{place_in, fault_in, sure_in, walked_in, Loops, Flags}
use Rattle.blocks_merge.specs.Merges.{Below, RowsStand, Branches, MergesIn}
use Rattle.blocks.specs.Blocks.{Enters, Comes, block_rows, stmt_rows, ElseMerges}
use Rattle.blocks.proofs.Standing.{below_both}
use Rattle.blocks.proofs.Ending.{fault-walks}
use Rattle.blocks.proofs.Branching.{own_loop, kept-stands, kept-view, stands-in, sound-merge, below_less, few, branch-below, branch-view}

-- the tags of statements with blocks, but for a block
pub tag-of : (tag : ℕ) → blocked tag ≡ true → (tag ≡ 1 → ⊥) → (tag ≡ 7) ⊎ (tag ≡ 8)
tag-of tag e ne =
    ⊎_elim
    (λ (q : eqb tag 7 ≡ true). inl (eqb-true tag 7 q))
    (λ (q : eqb tag 7 ≡ false). ⊎_elim
    (λ (r : eqb tag 8 ≡ true). inr (eqb-true tag 8 r))
    (λ (r : eqb tag 8 ≡ false). absurd (no-tag q r))
    (split (eqb tag 8)))
    (split (eqb tag 7))
  where
    no-tag : eqb tag 7 ≡ false → eqb tag 8 ≡ false → ⊥
    no-tag q r = ⊎_elim (λ (z : eqb tag 1 ≡ true). ne (eqb-true tag 1 z)) (λ (z : eqb tag 1 ≡ false). false-is z q r) (split (eqb tag 1))
      where
        false-is : eqb tag 1 ≡ false → eqb tag 7 ≡ false → eqb tag 8 ≡ false → ⊥
        false-is x y z = let w : ◌≡◌ {A = Bool} false true = sym (rw (x, y, z) refl) ∙ e in false-true w

pub seven-of : (tag : ℕ) → (tag ≡ 7) ⊎ (tag ≡ 8) → (tag ≡ 8 → ⊥) → tag ≡ 7
seven-of tag which ne = ⊎_elim (λ (q : tag ≡ 7). q) (λ (q : tag ≡ 8). absurd (ne q)) which

pub not_eight : {tag : ℕ} → tag ≡ 7 → tag ≡ 8 → ⊥
not_eight e f = omega arith

-- whatever stands behind the first block, its fault is told
pub told-either : {s out : List ℕ} {pl : Walk} {flag : Bool} {out' : List ℕ} {pl' : Walk} (tag : ℕ) → (tag ≡ 7) ⊎ (tag ≡ 8) → (tag ≡ 8 → Loops out pl flag out' pl') → ((tag ≡ 8 → ⊥) → Flags s out pl flag out' pl')
    → fault_in pl ≡ 0 → fault_in pl' ≡ 0
told-either tag which loops flags z =
    ⊎_elim
    (λ (q : tag ≡ 7). let f = flags (λ e. omega arith) in f.tells.fault ∙ z)
    (λ (q : tag ≡ 8). let f = loops q in f.tells.fault ∙ z)
    which

-- only an IfElse has a flag that is set; one that is not is 0
pub flag-seven : (tag : ℕ) (b : Bool) → (tag ≡ 7) ⊎ (tag ≡ 8) → (tag ≡ 8 → b ≡ false) → b ≡ true → tag ≡ 7
flag-seven tag b which none e = ⊎_elim (λ (q : tag ≡ 7). q) (λ (q : tag ≡ 8). false-true (sym (none q) ∙ e)) which

pub flag-none : (b : Bool) (k : ℕ) → b ≡ eqb k 1 → k < 2 → b ≡ false → k ≡ 0
flag-none b k e l off = let ne = eqb-false k 1 (sym e ∙ off) in ⊎_elim (λ (q : k < 1). omega arith) (λ (q : 1 ≤ k). absurd (ne (omega arith))) (less k 1)

pub flag-one : (b : Bool) (k : ℕ) → b ≡ eqb k 1 → b ≡ true → k ≡ 1
flag-one b k e on = eqb-true k 1 (sym e ∙ on)

module _ (s tb : List ℕ) (small : Bytes s) (env : Env) (tag : ℕ) (l : Locals) (t : States) (rows : List ℕ) (pl : Walk) (h : Enters s tb env l t rows (place_in pl))
    (there : TagThere s env.left (place_in pl).at tag) (low : env.cur + 1152 ≤ 1152 * (12 - env.left)) where
  abbrev a : ℕ
  a = row_of env.cur env.width l.count

  abbrev d : ℕ
  d = 12 - env.left

  abbrev σ : Scope Status
  σ = view l t rows env.cur env.width

  own-if : (loop : Option ℕ) → tag ≡ 7 → own_loop tag d loop ≡ loop
  own-if loop e = ap (λ (k : ℕ). own_loop k d loop) e

  own-loop : (loop : Option ℕ) → tag ≡ 8 → own_loop tag d loop ≡ some (suc d)
  own-loop loop e = ap (λ (k : ℕ). own_loop k d loop) e

  narrow : l.count * (env.width + 1) ≤ 576
  narrow = few s tb env l t rows (place_in pl) h

  pub block_of : BlockThere s env.left (place_in pl).at
  block_of = ⊎_elim
      (λ (q : eqb tag 7 ≡ true). then-there s env.left (place_in pl).at (there.ifs (eqb-true tag 7 q)))
      (λ (q : eqb tag 7 ≡ false). there.others (eqb-false tag 7 q))
      (split (eqb tag 7))

  enough : 0 < env.left
  enough = (block-there s env.left (place_in pl).at block_of).0

  pub then-low : (a < 4294967296) × (a ≤ 1152 * (12 - env.left)) × (env.cur < 4294967296)
  then-low = let f = narrow in (omega arith, omega arith, omega arith)

  pub then-short : length rows < row_of a env.width l.count → length rows < stmt_rows env.cur env.left
  then-short lt = let f = narrow in let e = enough in omega arith

  -- a block is walked as it is
  pub plain-comes : {r : States} {rows' : List ℕ} {pl' : Walk} → Comes s tb env.cur env.width (block_rows env.cur env.left) l rows (place_in pl) r rows' pl'
      → Comes s tb env.cur env.width (stmt_rows env.cur env.left) l rows (place_in pl) r rows' pl'
  plain-comes c = record { below = c.below; short = λ z. let q = c.short z in omega arith; sound = c.sound; within = c.within; grows = c.grows }

  -- behind the first block
  module _ {ok : Bool} {rows₁ : List ℕ} (c : Copies l.count env.width t.kinds rows env.cur a ok rows₁) (yes : ok ≡ true) {one : States} {rows₂ : List ℕ} {pl₂ : Walk}
      (come : Comes s tb a env.width (block_rows a env.left) l rows₁ (place_in pl) one rows₂ pl₂) where
    whole : Below a rows rows₂
    whole = below_both a a rows rows₁ rows₂ (omega arith) (branch-below s tb env l t rows (place_in pl) h a c) come.below

    pub then-below : Below env.cur rows rows₂
    then-below = let f = narrow in below_less env.cur a rows rows₂ (omega arith) whole

    pub then-least : fault_in pl₂ ≡ 254 → length rows < stmt_rows env.cur env.left
    then-least z =
        let q = come.short z in
        let r : length rows₁ ≡ length rows = c.rest.room in
        let f = narrow in
        let e = enough in
        omega arith

    base-view : view l t rows₂ env.cur env.width ≡ σ
    base-view = kept-view l t rows rows₂ env.cur env.width a whole (omega arith) (stands-in l t rows env.cur env.width h.sound)

    base-stands : RowsStand l.count t rows₂ env.cur env.width
    base-stands = kept-stands l t rows rows₂ env.cur env.width a whole (omega arith) (stands-in l t rows env.cur env.width h.sound)

    -- what the walks of the first block say, whatever tables
    abbrev Walks : Tables → Option ℕ → Memory → Memory → Type 0
    Walks T loop m m₂ = BlockWalks (switches_of env.switches) T s env.left (suc (12 - env.left)) (own_loop tag d loop) (view l t rows₁ a env.width) (place_in pl) m (walked_in pl₂ (view l one rows₂ a env.width)) m₂

    walks-here : (T : Tables) (loop : Option ℕ) (m m₂ : Memory) → Walks T loop m m₂ → BlockWalks (switches_of env.switches) T s env.left (suc d) (own_loop tag d loop) σ (place_in pl) m (walked_in pl₂ (view l one rows₂ a env.width)) m₂
    walks-here T loop m m₂ w =
        subst (λ (τ : Scope Status). BlockWalks (switches_of env.switches) T s env.left (suc d) (own_loop tag d loop) τ (place_in pl) m (walked_in pl₂ (view l one rows₂ a env.width)) m₂)
        (branch-view s tb env l t rows (place_in pl) h a c yes) w

    walks-if : (T : Tables) (loop : Option ℕ) (m m₂ : Memory) → tag ≡ 7 → Walks T loop m m₂ → BlockWalks (switches_of env.switches) T s env.left (suc d) loop σ (place_in pl) m (walked_in pl₂ (view l one rows₂ a env.width)) m₂
    walks-if T loop m m₂ e w =
        subst (λ (o : Option ℕ). BlockWalks (switches_of env.switches) T s env.left (suc d) o σ (place_in pl) m (walked_in pl₂ (view l one rows₂ a env.width)) m₂) (own-if loop e) (walks-here T loop m m₂ w)

    -- its fault
    pub then-fault : (T : Tables) (loop : Option ℕ) (m m₂ : Memory) → Walks T loop m m₂ → 0 < fault_in pl₂ → (tag ≡ 7) ⊎ (tag ≡ 8)
        → TagWalks (switches_of env.switches) T s env.left (12 - env.left) loop tag (view l t rows env.cur env.width) (place_in pl) m (walked_in pl₂ (view l one rows₂ env.cur env.width)) m₂
    then-fault T loop m m₂ w lt which =
        let v = walked_in pl₂ (view l one rows₂ env.cur env.width) in
        record {
          ifs = λ e. if-first (switches_of env.switches) T s small env.left d loop σ (place_in pl) m v m₂ (fault-walks (walked_in pl₂ (view l one rows₂ a env.width)) v lt refl (walks-if T loop m m₂ e w)) lt;
          loops = λ e. loop-first (switches_of env.switches) T s small env.left d (own_loop tag d loop) σ (place_in pl) m v m₂ (fault-walks (walked_in pl₂ (view l one rows₂ a env.width)) v lt refl (walks-here T loop m m₂ w)) lt loop;
          others = λ x y. ⊎_elim (λ (q : tag ≡ 7). absurd (x q)) (λ (q : tag ≡ 8). absurd (y q)) which;
        }

    -- without a fault: the flag behind it
    module _ (z : fault_in pl₂ ≡ 0) where
      clear : fault_in pl₂ ≤ 0
      clear = omega arith

      pub flag-there : (T : Tables) (loop : Option ℕ) (m m₂ : Memory) → Walks T loop m m₂ → tag ≡ 7 → ElseThere s env.left (place_in pl₂).at
      flag-there T loop m m₂ w e = else-there (switches_of env.switches) T s small env.left d (own_loop tag d loop) σ (place_in pl) m (walked_in pl₂ (view l one rows₂ a env.width)) m₂ (walks-here T loop m m₂ w) clear (there.ifs e)

      module _ (out₂ out₃ : List ℕ) (pl₃ : Walk) (flag : Bool) (errs warns lefts : List ℕ) where
        -- the place behind the flag, or behind the loop's block
        pub flag-further : (f : Flags s out₂ pl₂ flag out₃ pl₃) → (place_in pl₂).at < length s → Further s (place_in pl₂) (place_in pl₃)
        flag-further f inside = flag-grows s (place_in pl₂) (place_in pl₃) (place_in pl₃).written (get_or s (place_in pl₂).at 0) out₂ out₃ f.tells.place f.stored inside

        retold-further : Further s (place_in pl₂) (place_in pl₃) → Further s (retold (place_in pl₂) 0) (retold (place_in pl₃) 0)
        retold-further g = record { on = g.on; inside = g.inside; written = g.written; errors = omega (arith, g.on); warnings = g.warnings; lefts = g.lefts; inserted = g.inserted }

        -- with a second block
        module _ (f : Flags s out₂ pl₂ flag out₃ pl₃) (e : ElseThere s env.left (place_in pl₂).at) (on : flag ≡ true) where
          pub else-enters : Enters s tb env l t rows₂ (place_in pl₃)
          else-enters = record {
            lent = h.lent;
            within = within_on (come.within z) (flag-further f e.inside);
            depth = h.depth;
            limit = h.limit;
            width = h.width;
            sound = sound-merge l t t rows rows₂ env.cur env.cur env.width h.sound base-stands;
            nested = subst (λ (τ : Scope Status). Nested (12 - env.left) (shape τ)) (sym base-view) h.nested;
            near = h.near;
            looped = h.looped;
          }

          at_flag : get_or s (place_in pl₂).at 0 ≡ 1
          at_flag = flag-one flag (get_or s (place_in pl₂).at 0) f.flag on

          pub else-block-there : BlockThere s env.left (place_in pl₃).at
          else-block-there = subst (BlockThere s env.left) (sym (ap (λ (q : Place). q.at) f.tells.place)) (e.with (let q = at_flag in omega arith))

          pub else-first : RowsStand l.count one rows₂ (row_of env.cur env.width l.count) env.width
          else-first = stands-in l one rows₂ a env.width (come.sound z)

          pub else-comes-to : {r : States} {rows₄ : List ℕ} {pl₄ : Walk} → Comes s tb env.cur env.width (stmt_rows env.cur env.left) l rows₂ (place_in pl₃) r rows₄ pl₄
              → Comes s tb env.cur env.width (stmt_rows env.cur env.left) l rows (place_in pl) r rows₄ pl₄
          else-comes-to {r} {rows₄} {pl₄} x = record {
            below = below_both env.cur env.cur rows rows₂ rows₄ (omega arith) then-below x.below;
            short = λ q. let k = x.short q in let n : length rows₂ ≡ length rows = whole.room in omega arith;
            sound = x.sound;
            within = x.within;
            grows = λ q. grows-both (grows-both (come.grows z) (retold-further (flag-further f e.inside))) (x.grows q);
          }

          pub else-walks-to : (T : Tables) (loop : Option ℕ) (m m₄ : Memory) → tag ≡ 7 → Walks T loop m (memory out₂ errs warns lefts) → (r : Walked)
              → ElseMerges (switches_of env.switches) T s env.left (12 - env.left) loop (sure_in pl₃) (view l t rows₂ env.cur env.width) (view l one rows₂ (row_of env.cur env.width l.count) env.width) (place_in pl₃)
              (memory out₃ errs warns lefts) r m₄
              → TagWalks (switches_of env.switches) T s env.left (12 - env.left) loop tag (view l t rows env.cur env.width) (place_in pl) m r m₄
          else-walks-to T loop m m₄ seven w r g =
              let v = walked_in pl₂ (view l one rows₂ a env.width) in
              let bw = walks-if T loop m (memory out₂ errs warns lefts) seven w in
              let ew = else-block (switches_of env.switches) T s env.left (suc d) loop σ (place_in pl₂) (place_in pl₃) (place_in pl₃).written out₂ out₃ errs warns lefts f.tells.place
              f.stored (λ q. let k = at_flag in omega arith) g.w m₄
              (subst (λ (τ : Scope Status). BlockWalks (switches_of env.switches) T s env.left (suc d) loop τ (place_in pl₃) (memory out₃ errs warns lefts) g.w m₄) base-view g.walks) in
              let whole-if : IfWalks (switches_of env.switches) T s env.left d loop σ (place_in pl) m r m₄ =
              ⊎_elim
              (λ (q : 0 < g.w.fault). subst (λ (x : Walked). IfWalks (switches_of env.switches) T s env.left d loop σ (place_in pl) m x m₄) (sym (g.fault q))
              (if-second (switches_of env.switches) T s small env.left d loop σ (place_in pl) m v (memory out₂ errs warns lefts) bw clear g.w m₄ ew q))
              (λ (q : g.w.fault ≤ 0). if-walks (switches_of env.switches) T s small env.left d loop σ (place_in pl) m v (memory out₂ errs warns lefts) bw clear g.w m₄ ew q r
              (subst (λ (b : Bool). Merges (switches_of env.switches) b σ v.locals g.w r) f.tells.sure
              (subst (λ (τ : Scope Status). Merges (switches_of env.switches) (sure_in pl₃) τ v.locals g.w r) base-view (g.merges q))))
              (less 0 g.w.fault) in
              record { ifs = λ e7. whole-if; loops = λ e8. absurd (omega arith); others = λ x y. absurd (x seven) }

        -- without
        pub without-branches : (cur-low : env.cur < 4294967296) → Branches l.count t one t rows₂ env.cur env.width env.cur
        without-branches cur-low = record {
          small = h.sound.kept.small;
          wide = h.width;
          base = base-stands;
          first = stands-in l one rows₂ a env.width (come.sound z);
          other = base-stands;
          apart = inl refl;
          low = (cur-low, cur-low);
        }

        module _ {r : States} {rows₄ : List ℕ} {pl₄ : Walk} {x : Bool} (g : MergesIn (switches_of env.switches) x false l.count t one t rows₂ env.cur env.width env.cur pl₃ r rows₄ pl₄) where
          pub without-comes : Further s (place_in pl₂) (place_in pl₃) → Comes s tb env.cur env.width (stmt_rows env.cur env.left) l rows (place_in pl) r rows₄ pl₄
          without-comes on = record {
            below = below_both env.cur env.cur rows rows₂ rows₄ (omega arith) then-below g.below;
            short = λ q. then-short (let k = g.short q in let n : length rows₂ ≡ length rows = whole.room in omega arith);
            sound = λ q. sound-merge l t r rows rows₄ env.cur env.cur env.width h.sound (g.stands q);
            within = λ q. subst (Within s) (sym g.place) (within_on (come.within z) on);
            grows = λ q. subst (λ (y : Place). Further s (retold (place_in pl) 0) (retold y 0)) (sym g.place) (grows-both (come.grows z) (retold-further on));
          }

          merged : (fault_in pl₄ ≡ 254 → ⊥) → Merges (switches_of env.switches) x σ (view l one rows₂ a env.width) (record { fault = 0; sure = false; place = place_in pl₃; locals = σ }) (walked_in pl₄ (view l r rows₄ env.cur env.width))
          merged reach = subst (λ (τ : Scope Status). Merges (switches_of env.switches) x τ (view l one rows₂ a env.width) (record { fault = 0; sure = false; place = place_in pl₃; locals = τ }) (walked_in pl₄ (view l r rows₄ env.cur env.width))) base-view
              (record { fault = g.fault reach l refl; place = g.place; locals = λ q. g.locals q l refl })

          pub without-if : (f : Flags s out₂ pl₂ flag out₃ pl₃) → x ≡ sure_in pl₃ → get_or s (place_in pl₂).at 0 ≡ 0 → tag ≡ 7 → (T : Tables) (loop : Option ℕ) (m : Memory) → Walks T loop m (memory out₂ errs warns lefts) → (fault_in pl₄ ≡ 254 → ⊥)
              → TagWalks (switches_of env.switches) T s env.left (12 - env.left) loop tag (view l t rows env.cur env.width) (place_in pl) m (walked_in pl₄ (view l r rows₄ env.cur env.width)) (memory out₃ errs warns lefts)
          without-if f ex off seven T loop m w reach =
              let v = walked_in pl₂ (view l one rows₂ a env.width) in
              let u : Walked = record { fault = 0; sure = false; place = place_in pl₃; locals = σ } in
              let bw = walks-if T loop m (memory out₂ errs warns lefts) seven w in
              let ew = else-none (switches_of env.switches) T s env.left (suc d) loop σ (place_in pl₂) (place_in pl₃) (place_in pl₃).written out₂ out₃ errs warns lefts f.tells.place
              f.stored off u refl in
              let done = if-walks (switches_of env.switches) T s small env.left d loop σ (place_in pl) m v (memory out₂ errs warns lefts) bw clear u (memory out₃ errs warns lefts) ew (omega arith) (walked_in pl₄ (view l r rows₄ env.cur env.width))
              (subst (λ (b : Bool). Merges (switches_of env.switches) b σ v.locals u (walked_in pl₄ (view l r rows₄ env.cur env.width))) (ex ∙ f.tells.sure) (merged reach)) in
              record { ifs = λ e7. done; loops = λ e8. absurd (omega arith); others = λ p q. absurd (p seven) }

          pub without-loop : (f : Loops out₂ pl₂ flag out₃ pl₃) → x ≡ sure_in pl₃ → tag ≡ 8 → (T : Tables) (loop : Option ℕ) (m : Memory) → Walks T loop m (memory out₂ errs warns lefts) → (fault_in pl₄ ≡ 254 → ⊥)
              → TagWalks (switches_of env.switches) T s env.left (12 - env.left) loop tag (view l t rows env.cur env.width) (place_in pl) m (walked_in pl₄ (view l r rows₄ env.cur env.width)) (memory out₃ errs warns lefts)
          without-loop f ex eight T loop m w reach =
              let v = walked_in pl₂ (view l one rows₂ a env.width) in
              let u : Walked = record { fault = 0; sure = false; place = place_in pl₃; locals = σ } in
              let bw = walks-here T loop m (memory out₂ errs warns lefts) w in
              let done = loop-walks (switches_of env.switches) T s small env.left d (own_loop tag d loop) σ (place_in pl) m v (memory out₂ errs warns lefts) bw clear u (walked_in pl₄ (view l r rows₄ env.cur env.width)) f.tells.place refl refl
              (subst (λ (b : Bool). Merges (switches_of env.switches) b σ v.locals u (walked_in pl₄ (view l r rows₄ env.cur env.width))) (ex ∙ f.tells.sure) (merged reach)) (own-loop loop eight) loop in
              record {
                ifs = λ e7. absurd (omega arith);
                loops = λ e8. subst (λ (o : List ℕ). LoopWalks (switches_of env.switches) T s env.left d loop σ (place_in pl) m (walked_in pl₄ (view l r rows₄ env.cur env.width)) (memory o errs warns lefts)) (sym f.same) done;
                others = λ p q. absurd (q eight);
              }

        -- the place is further on in either case
        pub loop-further : (f : Loops out₂ pl₂ flag out₃ pl₃) → Further s (place_in pl₂) (place_in pl₃)
        loop-further f = subst (Further s (place_in pl₂)) (sym f.tells.place) (grows_none (come.within z).inside)
