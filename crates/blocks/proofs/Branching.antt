-- The branches of an IfElse or a While, each on rows of its own.
-- Assumes nothing.
use Prim.Native.Nat.{ℕ, suc, ◌+◌, ◌-◌, ◌*◌, ◌≤◌, ◌<◌}
use native.Mathlib.Omega.{arith}
use mathlib.Core.Path.{◌≡◌, refl, sym, ap, ◌∙◌, subst}
use mathlib.Core.Bool.{Bool, true, false, cond}
use mathlib.Core.Option.{Option, some}
use mathlib.Core.List.{List}
use mathlib.Core.Logic.{inl, inr, ⊎_elim}
use borrow.Author.Tests.{lt-leb}
use lib.Dec.{eqb}
use lib.ListN.{length}
use Rattle.rules.specs.Rules.{Switches, switches_of}
use Rattle.image_fields.proofs.Tests.{less}
use Rattle.tables.specs.Tables.{Tables}
use Rattle.rules.specs.State.{State as Status}
use Rattle.rules.specs.Stack.{Stack as Scope}
use Rattle.tables_lookup.specs.Lent.{Says}
use Rattle.image_writing.specs.Memory.{Memory}
use Rattle.expressions_steps.specs.declared.Open.{Open}
use Rattle.statements_returns.specs.Returns.{BlockThere}
use Rattle.statements_returns.proofs.Surely.{block-there}
use Rattle.statements_acts.specs.declared.Place.{Place}
use Rattle.statements_acts.specs.Act.{Within, Grows as Further}
use Rattle.scope_stack.specs.declared.Locals.{Locals}
use Rattle.scope_stack.specs.declared.States.{States}
use Rattle.scope_stack.specs.View.{static_at, state_at, row_of, view, Sound}
use Rattle.scope_rows.specs.Rows.{Copied, Copies}
use Rattle.scope_stack.proofs.Scopes.{nested-at, nested-view, sound-states}
use Rattle.scope_rows.proofs.Elsewhere.{view-same, rowed-same, view-copied, rowed-copied}
use Rattle.statements_changes.specs.Turns.{retold}
use Rattle.blocks_laws.specs.Walks.{Walked, BlockWalks}
use Rattle.blocks_laws.specs.Ends.{Merges}
use Rattle.blocks_ends.specs.declared.Env.{Env}
use Rattle.blocks_ends.specs.declared.Walk.{Walk}
use Rattle.blocks_ends.specs.Ends.{place_in, fault_in, sure_in, walked_in}
use Rattle.blocks_merge.specs.Merges.{behind_of, looped_of, Below, RowsStand, Branches, MergesIn, MergesElse}
use Rattle.blocks.specs.Blocks.{InLoop, Enters, Comes, block_rows, stmt_rows, ElseMerges}
use Rattle.blocks_ends.proofs.Walks.{rows_few, no-fault}
use Rattle.blocks.proofs.Standing.{below_both}
use Rattle.blocks.proofs.Ending.{fault-walks}

-- the same numbers, with rows from another place on and another loop
abbrev pub moved_of : Env → ℕ → ℕ → Env
moved_of env at base = record { left = env.left; limit = env.limit; width = env.width; cur = at; base = base; switches = env.switches }

-- the states whose rows end before a place up to which nothing changed
module _ (l : Locals) (t : States) (rows new : List ℕ) (cur width at : ℕ) (b : Below at rows new) (le : row_of cur width l.count ≤ at) (h : RowsStand l.count t rows cur width) where
  pub kept-stands : RowsStand l.count t new cur width
  kept-stands = record { held = h.held; rowed = rowed-same l t rows new cur width h.rowed b.room (λ k lo hi. b.same k (omega arith)) }

  pub kept-view : view l t new cur width ≡ view l t rows cur width
  kept-view = view-same l t rows new cur width h.rowed b.room (λ k lo hi. b.same k (omega arith))

pub stands-in : {P : Tables → Type 0} (l : Locals) (t : States) (rows : List ℕ) (cur width : ℕ) → Sound P l t rows cur width → RowsStand l.count t rows cur width
stands-in l t rows cur width h = record { held = h.held; rowed = h.rowed }

-- a merge keeps a stack sound
pub sound-merge : {P : Tables → Type 0} (l : Locals) (t u : States) (rows new : List ℕ) (cur at width : ℕ) → Sound P l t rows cur width → RowsStand l.count u new at width
    → Sound P l u new at width
sound-merge l t u rows new cur at width s h = sound-states l t u rows new cur at width s h.held h.rowed

pub below_less : (cur at : ℕ) (rows new : List ℕ) → cur ≤ at → Below at rows new → Below cur rows new
below_less cur at rows new l b = record { room = b.room; same = λ k lk. b.same k (omega arith) }

-- rows of a branch: those of the stack that it starts from, copied
module _ (s tb : List ℕ) (env : Env) (l : Locals) (t : States) (rows : List ℕ) (p : Place) (h : Enters s tb env l t rows p) where
  pub few : l.count * (env.width + 1) ≤ 576
  few = rows_few l.count env.width h.sound.kept.small h.width

  pub to-branch : (at : ℕ) → row_of env.cur env.width l.count ≤ at → at < 4294967296 → Copied l.count env.width t.kinds rows env.cur at
  to-branch at le low =
      let f = few in
      record {
        small = h.sound.kept.small;
        wide = omega (arith, h.width);
        known = λ i li. h.sound.rowed.known i;
        apart = inl le;
        fits = (omega arith, omega arith);
      }

  module _ (at : ℕ) {ok : Bool} {new : List ℕ} (c : Copies l.count env.width t.kinds rows env.cur at ok new) where
    pub branch-below : Below at rows new
    branch-below = record { room = c.rest.room; same = λ k lk. c.rest.same k (inl lk) }

    copies-true : ok ≡ true → Copies l.count env.width t.kinds rows env.cur at true new
    copies-true e = subst (λ (b : Bool). Copies l.count env.width t.kinds rows env.cur at b new) e c

    pub branch-view : ok ≡ true → view l t new at env.width ≡ view l t rows env.cur env.width
    branch-view e = view-copied l t rows new env.cur at env.width h.sound.rowed (copies-true e)

    pub branch-enters : ok ≡ true → (a : Env) {base : ℕ} → a ≡ moved_of env at base → (near : Option ℕ) → InLoop near base (suc (12 - env.left)) l → Enters s tb a l t new p
    branch-enters e a is near o = subst (λ (x : Env). Enters s tb x l t new p) (sym is) (record {
      lent = h.lent;
      within = h.within;
      depth = h.depth;
      limit = h.limit;
      width = h.width;
      sound = sound-states l t t rows new env.cur at env.width h.sound h.sound.held (rowed-copied l t rows new env.cur at env.width h.sound.rowed (copies-true e));
      nested = nested-view (12 - env.left) l t t rows new env.cur at env.width h.nested;
      near = near;
      looped = o;
    })

    -- 254: the rows end before the copy
    pub branch-short : ok ≡ false → length rows < row_of at env.width l.count
    branch-short e = c.short e

-- what the code's numbers for a branch say
pub moved-once : (env q r : Env) (tag n : ℕ) → q ≡ behind_of env n → r ≡ looped_of q tag n
    → r ≡ moved_of env (row_of env.cur env.width n) (cond (eqb tag 8) n env.base)
moved-once env q r tag n e f = f ∙ ap (λ (x : Env). looped_of x tag n) e ∙ either (eqb tag 8)
  where
    either : (b : Bool) → cond b (moved_of env (row_of env.cur env.width n) n) (behind_of env n)
        ≡ moved_of env (row_of env.cur env.width n) (cond b n env.base)
    either true = refl
    either false = refl

pub moved_twice : (env q r : Env) (n : ℕ) → q ≡ behind_of env n → r ≡ behind_of q n → r ≡ moved_of env (row_of (row_of env.cur env.width n) env.width n) env.base
moved_twice env q r n e f = f ∙ ap (λ (x : Env). behind_of x n) e

-- the nearest loop of a statement's first block: a While's is its body
abbrev pub own_loop : ℕ → ℕ → Option ℕ → Option ℕ
own_loop tag d loop = cond (eqb tag 8) (some (suc d)) loop

pub loop-of : (s tb : List ℕ) (env : Env) (tag : ℕ) (l : Locals) (t : States) (rows : List ℕ) (p : Place) → Enters s tb env l t rows p → (loop : Option ℕ)
    → InLoop loop env.base (suc (12 - env.left)) l → InLoop (own_loop tag (12 - env.left) loop) (cond (eqb tag 8) l.count env.base) (suc (12 - env.left)) l
loop-of s tb env tag l t rows p h loop o = either (eqb tag 8)
  where
    either : (b : Bool) → InLoop (cond b (some (suc (12 - env.left))) loop) (cond b l.count env.base) (suc (12 - env.left)) l
    either false = o
    either true = (
      omega arith,
      omega arith,
      λ i li.
          let low = nested-at (12 - env.left) l.count (static_at l) (state_at t rows env.cur env.width) h.nested i li in
          lt-leb (suc (12 - env.left)) (static_at l i).depth (omega arith) ∙ sym (lt-leb l.count i li),
    )

module _ (env r : Env) (at : ℕ) {base : ℕ} (is : r ≡ moved_of env at base) where
  pub copied_at : {n : ℕ} {kinds rows : List ℕ} → Copied n env.width kinds rows env.cur at → Copied n env.width kinds rows env.cur r.cur
  copied_at {n} {kinds} {rows} h = subst (λ (x : Env). Copied n env.width kinds rows env.cur x.cur) (sym is) h

  pub copies_at : {n : ℕ} {kinds rows : List ℕ} {ok : Bool} {new : List ℕ} → Copies n env.width kinds rows env.cur r.cur ok new → Copies n env.width kinds rows env.cur at ok new
  copies_at {n} {kinds} {rows} {ok} {new} h = subst (λ (x : Env). Copies n env.width kinds rows env.cur x.cur ok new) is h

  pub comes-at : {s tb : List ℕ} {l : Locals} {rows : List ℕ} {p : Place} {o : States} {rows' : List ℕ} {pl' : Walk} → Comes s tb r.cur r.width (block_rows r.cur r.left) l rows p o rows' pl'
      → Comes s tb at env.width (block_rows at env.left) l rows p o rows' pl'
  comes-at {s} {tb} {l} {rows} {p} {o} {rows'} {pl'} h = subst (λ (x : Env). Comes s tb x.cur x.width (block_rows x.cur x.left) l rows p o rows' pl') is h

  pub walks_at : (s tb : List ℕ) (l : Locals) (t : States) (rows : List ℕ) (p : Place) (m : Memory) (o : States) (rows' : List ℕ) (pl' : Walk) (m' : Memory)
      → ((T : Tables) → Says s tb T → (loop : Option ℕ) → InLoop loop r.base (suc (12 - r.left)) l → (fault_in pl' ≡ 254 → ⊥)
      → BlockWalks (switches_of r.switches) T s r.left (suc (12 - r.left)) loop (view l t rows r.cur r.width) p m (walked_in pl' (view l o rows' r.cur r.width)) m')
      → (T : Tables) → Says s tb T → (loop : Option ℕ) → InLoop loop base (suc (12 - env.left)) l → (fault_in pl' ≡ 254 → ⊥)
      → BlockWalks (switches_of env.switches) T s env.left (suc (12 - env.left)) loop (view l t rows at env.width) p m (walked_in pl' (view l o rows' at env.width)) m'
  walks_at s tb l t rows p m o rows' pl' m' h =
      subst (λ (x : Env). (T : Tables) → Says s tb T → (loop : Option ℕ) → InLoop loop x.base (suc (12 - x.left)) l → (fault_in pl' ≡ 254 → ⊥)
      → BlockWalks (switches_of x.switches) T s x.left (suc (12 - x.left)) loop (view l t rows x.cur x.width) p m (walked_in pl' (view l o rows' x.cur x.width)) m') is h

  pub branches_at : {n : ℕ} {t u v : States} {rows : List ℕ} → Branches n t u v rows env.cur env.width at → Branches n t u v rows env.cur env.width r.cur
  branches_at {n} {t} {u} {v} {rows} h = subst (λ (x : Env). Branches n t u v rows env.cur env.width x.cur) (sym is) h

  pub merges-at : {w : Switches} {x : Bool} {n : ℕ} {t u v : States} {rows : List ℕ} {pl : Walk} {o : States} {rows' : List ℕ} {pl' : Walk} → MergesElse w x n t u v rows env.cur env.width r.cur pl o rows' pl'
      → MergesElse w x n t u v rows env.cur env.width at pl o rows' pl'
  merges-at {w} {x} {n} {t} {u} {v} {rows} {pl} {o} {rows'} {pl'} h = subst (λ (z : Env). MergesElse w x n t u v rows env.cur env.width z.cur pl o rows' pl') is h

  -- what a branch's block is asked
  pub block-asked : {s tb : List ℕ} {l : Locals} {t : States} {rows : List ℕ} {p : Place} (nodes : List Open) → Enters s tb r l t rows p → BlockThere s env.left p.at
      → at ≤ 1152 * (12 - env.left) → length nodes ≡ 26
      → Enters s tb r l t rows p × BlockThere s r.left p.at × (r.cur ≤ 1152 * (12 - r.left)) × (length nodes ≡ 26)
  block-asked {s} {p = p} nodes h there low en =
      (h, subst (λ (x : Env). BlockThere s x.left p.at) (sym is) there, subst (λ (x : Env). x.cur ≤ 1152 * (12 - x.left)) (sym is) low, en)

  pub left-same : r.left ≡ env.left
  left-same = ap (λ (x : Env). x.left) is

pub behind-asked : (s tb : List ℕ) (env : Env) (l : Locals) (t : States) (rows : List ℕ) (p : Place) → Enters s tb env l t rows p → env.cur + 1152 ≤ 1152 * (12 - env.left) → (r : Env)
    → r ≡ behind_of env l.count → (l.count ≤ 64) × (r.width ≡ 8) × (r.cur < 4294967296)
behind-asked s tb env l t rows p h low r is =
    let f = few s tb env l t rows p h in
    subst (λ (x : Env). (l.count ≤ 64) × (x.width ≡ 8) × (x.cur < 4294967296)) (sym is) (h.sound.kept.small, h.width, omega arith)

-- a walk that ends where the rows do not reach, or with a fault
pub comes-faulty : (s tb : List ℕ) (cur width least : ℕ) (l : Locals) (rows : List ℕ) (p : Place) (r : States) (rows' : List ℕ) (pl' : Walk) → 0 < fault_in pl' → Below cur rows rows'
    → (fault_in pl' ≡ 254 → length rows < least) → Comes s tb cur width least l rows p r rows' pl'
comes-faulty s tb cur width least l rows p r rows' pl' lt below short = record {
  below = below;
  short = short;
  sound = λ z. absurd (omega arith);
  within = λ z. absurd (omega arith);
  grows = λ z. absurd (omega arith);
}

-- the second block of an IfElse
module _ (s tb : List ℕ) (env : Env) (l : Locals) (t first : States) (rows : List ℕ) (pl : Walk) (h : Enters s tb env l t rows (place_in pl))
    (there : BlockThere s env.left (place_in pl).at) (low : env.cur + 1152 ≤ 1152 * (12 - env.left)) (one : RowsStand l.count first rows (row_of env.cur env.width l.count) env.width) where
  abbrev a : ℕ
  a = row_of env.cur env.width l.count

  abbrev b : ℕ
  b = row_of a env.width l.count

  pub else-low : (b < 4294967296) × (b ≤ 1152 * (12 - env.left)) × (row_of env.cur env.width l.count ≤ b)
  else-low = let f = few s tb env l t rows (place_in pl) h in (omega arith, omega arith, omega arith)

  enough : 0 < env.left
  enough = (block-there s env.left (place_in pl).at there).0

  pub else-short : length rows < row_of b env.width l.count → length rows < stmt_rows env.cur env.left
  else-short lt = let f = few s tb env l t rows (place_in pl) h in let e = enough in omega arith

  module _ {ok : Bool} {rows₁ : List ℕ} (c : Copies l.count env.width t.kinds rows env.cur b ok rows₁) (yes : ok ≡ true) {other : States} {rows₂ : List ℕ} {pl₂ : Walk}
      (come : Comes s tb b env.width (block_rows b env.left) l rows₁ (place_in pl) other rows₂ pl₂) where
    whole : Below b rows rows₂
    whole = below_both b b rows rows₁ rows₂ (omega arith) (branch-below s tb env l t rows (place_in pl) h b c) come.below

    else-below : Below env.cur rows rows₂
    else-below = let f = few s tb env l t rows (place_in pl) h in below_less env.cur b rows rows₂ (omega arith) whole

    else-least : fault_in pl₂ ≡ 254 → length rows < stmt_rows env.cur env.left
    else-least z =
        let q = come.short z in
        let r : length rows₁ ≡ length rows = c.rest.room in
        let f = few s tb env l t rows (place_in pl) h in
        let e = enough in
        omega arith

    base-view : view l t rows₂ env.cur env.width ≡ view l t rows env.cur env.width
    base-view = kept-view l t rows rows₂ env.cur env.width b whole else-low.2 (stands-in l t rows env.cur env.width h.sound)

    first-view : view l first rows₂ a env.width ≡ view l first rows a env.width
    first-view = kept-view l first rows rows₂ a env.width b whole (omega arith) one

    pub else-branches : fault_in pl₂ ≡ 0 → Branches l.count t first other rows₂ env.cur env.width b
    else-branches z = record {
      small = h.sound.kept.small;
      wide = h.width;
      base = kept-stands l t rows rows₂ env.cur env.width b whole else-low.2 (stands-in l t rows env.cur env.width h.sound);
      first = kept-stands l first rows rows₂ a env.width b whole (omega arith) one;
      other = stands-in l other rows₂ b env.width (come.sound z);
      apart = inr (omega arith);
      low = (let q = else-low.0 in let le = else-low.2 in omega arith, else-low.0);
    }

    module _ (T : Tables) (loop : Option ℕ) (m m₂ : Memory)
        (walks : BlockWalks (switches_of env.switches) T s env.left (suc (12 - env.left)) loop (view l t rows₁ b env.width) (place_in pl) m (walked_in pl₂ (view l other rows₂ b env.width)) m₂) where
      walks-here : BlockWalks (switches_of env.switches) T s env.left (suc (12 - env.left)) loop (view l t rows env.cur env.width) (place_in pl) m (walked_in pl₂ (view l other rows₂ b env.width)) m₂
      walks-here = subst (λ (σ : Scope Status). BlockWalks (switches_of env.switches) T s env.left (suc (12 - env.left)) loop σ (place_in pl) m (walked_in pl₂ (view l other rows₂ b env.width)) m₂)
          (branch-view s tb env l t rows (place_in pl) h b c yes) walks

      -- its fault
      else-fault : 0 < fault_in pl₂ → ElseMerges (switches_of env.switches) T s env.left (12 - env.left) loop (sure_in pl) (view l t rows env.cur env.width) (view l first rows a env.width) (place_in pl) m
          (walked_in pl₂ (view l other rows₂ env.cur env.width)) m₂
      else-fault lt = record {
        w = walked_in pl₂ (view l other rows₂ env.cur env.width);
        walks = fault-walks (walked_in pl₂ (view l other rows₂ b env.width)) (walked_in pl₂ (view l other rows₂ env.cur env.width)) lt refl walks-here;
        fault = λ z. refl;
        merges = λ z. absurd (omega arith);
      }

      -- or the merge behind it
      else-merges : fault_in pl₂ ≡ 0 → {r : States} {rows₃ : List ℕ} {pl₃ : Walk} → MergesIn (switches_of env.switches) (sure_in pl) (sure_in pl₂) l.count t first other rows₂ env.cur env.width b pl₂ r rows₃ pl₃
          → (fault_in pl₃ ≡ 254 → ⊥)
          → ElseMerges (switches_of env.switches) T s env.left (12 - env.left) loop (sure_in pl) (view l t rows env.cur env.width) (view l first rows a env.width) (place_in pl) m
          (walked_in pl₃ (view l r rows₃ env.cur env.width)) m₂
      else-merges z {r} {rows₃} {pl₃} g reach = record {
        w = walked_in pl₂ (view l other rows₂ b env.width);
        walks = walks-here;
        fault = λ lt. absurd (omega arith);
        merges = λ y.
            subst (λ (σ : Scope Status). Merges (switches_of env.switches) (sure_in pl) σ (view l first rows a env.width) (walked_in pl₂ (view l other rows₂ b env.width)) (walked_in pl₃ (view l r rows₃ env.cur env.width))) base-view
            (subst (λ (τ : Scope Status). Merges (switches_of env.switches) (sure_in pl) (view l t rows₂ env.cur env.width) τ (walked_in pl₂ (view l other rows₂ b env.width)) (walked_in pl₃ (view l r rows₃ env.cur env.width))) first-view
            (record { fault = g.fault reach l refl; place = g.place; locals = λ x. g.locals x l refl }));
      }

    else-comes : fault_in pl₂ ≡ 0 → {r : States} {rows₃ : List ℕ} {pl₃ : Walk} {x y : Bool} → MergesIn (switches_of env.switches) x y l.count t first other rows₂ env.cur env.width b pl₂ r rows₃ pl₃
        → Comes s tb env.cur env.width (stmt_rows env.cur env.left) l rows (place_in pl) r rows₃ pl₃
    else-comes z {r} {rows₃} {pl₃} g = record {
      below = below_both env.cur env.cur rows rows₂ rows₃ (omega arith) else-below g.below;
      short = λ q.
          let k = g.short q in
          let n : length rows₂ ≡ length rows = whole.room in
          let f = few s tb env l t rows (place_in pl) h in
          let e = enough in
          omega arith;
      sound = λ q. sound-merge l t r rows rows₃ env.cur env.cur env.width h.sound (g.stands q);
      within = λ q. subst (Within s) (sym g.place) (come.within z);
      grows = λ q. subst (λ (x : Place). Further s (retold (place_in pl) 0) (retold x 0)) (sym g.place) (come.grows z);
    }

    -- whatever the merge is told
    module _ {x : Bool} {r : States} {rows₃ : List ℕ} {pl₃ : Walk} (g : MergesElse (switches_of env.switches) x l.count t first other rows₂ env.cur env.width b pl₂ r rows₃ pl₃) where
      pub merged-comes : Comes s tb env.cur env.width (stmt_rows env.cur env.left) l rows (place_in pl) r rows₃ pl₃
      merged-comes =
          ⊎_elim
          (λ (q : 0 < fault_in pl₂). let e = g.faulty q in
          subst (λ (z : Walk). Comes s tb env.cur env.width (stmt_rows env.cur env.left) l rows (place_in pl) r rows₃ z) (sym e.2)
          (subst (λ (z : List ℕ). Comes s tb env.cur env.width (stmt_rows env.cur env.left) l rows (place_in pl) r z pl₂) (sym e.1)
          (comes-faulty s tb env.cur env.width (stmt_rows env.cur env.left) l rows (place_in pl) r rows₂ pl₂ q else-below else-least)))
          (λ (q : fault_in pl₂ ≤ 0). else-comes (no-fault q) (g.merges (no-fault q)))
          (less 0 (fault_in pl₂))

      reach-first : (fault_in pl₃ ≡ 254 → ⊥) → fault_in pl₂ ≡ 254 → ⊥
      reach-first reach z = reach (ap fault_in (g.faulty (omega arith)).2 ∙ z)

    module _ (T : Tables) (loop : Option ℕ) (m m₂ : Memory) where
      abbrev Left : Walked → Type 0
      Left v = ElseMerges (switches_of env.switches) T s env.left (12 - env.left) loop (sure_in pl) (view l t rows env.cur env.width) (view l first rows a env.width) (place_in pl) m v m₂

      pub else-merged : {r : States} {rows₃ : List ℕ} {pl₃ : Walk} → MergesElse (switches_of env.switches) (sure_in pl) l.count t first other rows₂ env.cur env.width b pl₂ r rows₃ pl₃
          → ((fault_in pl₂ ≡ 254 → ⊥) → BlockWalks (switches_of env.switches) T s env.left (suc (12 - env.left)) loop (view l t rows₁ b env.width) (place_in pl) m (walked_in pl₂ (view l other rows₂ b env.width)) m₂)
          → (fault_in pl₃ ≡ 254 → ⊥)
          → ElseMerges (switches_of env.switches) T s env.left (12 - env.left) loop (sure_in pl) (view l t rows env.cur env.width) (view l first rows a env.width) (place_in pl) m (walked_in pl₃ (view l r rows₃ env.cur env.width)) m₂
      else-merged {r} {rows₃} {pl₃} g walks reach =
          let w = walks (reach-first g reach) in
          ⊎_elim
          (λ (q : 0 < fault_in pl₂). let e = g.faulty q in
          subst (λ (z : Walk). Left (walked_in z (view l r rows₃ env.cur env.width))) (sym e.2)
          (subst (λ (z : List ℕ). Left (walked_in pl₂ (view l r z env.cur env.width))) (sym e.1)
          (subst (λ (z : States). Left (walked_in pl₂ (view l z rows₂ env.cur env.width))) (sym e.0) (else-fault T loop m m₂ w q))))
          (λ (q : fault_in pl₂ ≤ 0). else-merges T loop m m₂ w (no-fault q) (g.merges (no-fault q)) reach)
          (less 0 (fault_in pl₂))
