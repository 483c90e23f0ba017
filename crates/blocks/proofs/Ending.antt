-- How the walk of a block ends: at its end, with a fault, or where the rows do not reach.
-- Assumes nothing.
use Prim.Native.Nat.{ℕ, suc, ◌+◌, ◌-◌, ◌≤◌, ◌<◌}
use native.Mathlib.Omega.{arith}
use mathlib.Core.Option.{Option}
use mathlib.Core.Path.{◌≡◌, refl, sym, ap, ◌∙◌, subst}
use mathlib.Core.Bool.{false}
use mathlib.Core.List.{List}
use lib.ListN.{length, get_or}
use Rattle.rules.specs.Rules.{Switches, switches_of}
use Rattle.image_fields.specs.Number.{two, four}
use Rattle.image_fields.specs.Bytes.{Bytes, four_bytes}
use Rattle.tables.specs.Tables.{Tables}
use Rattle.rules.specs.State.{State as Status}
use Rattle.rules.specs.Stack.{Static, shape, pop, Stack as Scope}
use Rattle.tables_lookup.specs.Lent.{Says}
use Rattle.tables_lookup.proofs.Lent.{tables_of, said}
use Rattle.image_writing.specs.Memory.{Memory, memory}
use Rattle.image_writing.specs.Stored.{Stored}
use Rattle.expressions_steps.specs.declared.Open.{Open}
use Rattle.statements_returns.specs.Returns.{StmtThere, BlockThere}
use Rattle.statements_returns.proofs.Surely.{block-there}
use Rattle.statements_steps.specs.Own.{number_of}
use Rattle.statements_acts.specs.declared.Place.{Place}
use Rattle.statements_acts.specs.Act.{Within, Grows as Further}
use Rattle.scope_stack.specs.declared.Locals.{Locals}
use Rattle.scope_stack.specs.declared.States.{States}
use Rattle.scope_stack.specs.View.{static_at, state_at, view, Kept, Drops, Nested, Leaves}
use Rattle.scope_stack.proofs.Scopes.{Extends, extends-own, nested-at, leaves-pop, sound-leave, nested-view}
use Rattle.scope_stack.proofs.Frames.{nested-deeper}
use Rattle.statements_changes.specs.declared.Cursor.{Cursor}
use Rattle.statements_changes.specs.declared.Turn.TheVariants.{Over, Blocks}
use Rattle.statements_changes.specs.Turns.{retold}
use Rattle.blocks_laws.specs.Walks.{Walked, StmtsWalk, BlockWalks, TagWalks}
use Rattle.blocks_laws.proofs.Turns.{all_end}
use Rattle.blocks_laws.specs.Ends.{Ends}
use Rattle.blocks_laws.proofs.Heads.{stmts-in, head-fault, head_walks, depth-inner}
use Rattle.blocks_ends.specs.declared.Env.{Env}
use Rattle.blocks_laws.specs.Places.{headed}
use Rattle.blocks_ends.specs.declared.Walk.{Walk}
use Rattle.blocks_ends.specs.Ends.{place_in, fault_in, walked_in, inner_of, Frame, EndThere, Ended}
use Rattle.blocks_merge.specs.Merges.{Below}
use Rattle.blocks.specs.Blocks.{InLoop, Enters, Comes}
use Rattle.blocks.proofs.Standing.{loop-deeper, Turned, below_both, blocks-fault}

-- what is promised of the walk of a block with so much depth left, from a place and a stack
pub record Done (sw : Switches) (s tb : List ℕ) (cur width left base least : ℕ) (start : Place) (outer : Locals) (t₀ : States) (rows₀ : List ℕ) (m : Memory) (r : States) (rows : List ℕ) (ns' : List Open) (pl : Walk) (m' : Memory) : Type 0 where
  pub comes : Comes s tb cur width least outer rows₀ start r rows pl
  pub nodes : length ns' ≡ 26
  pub walks : (T : Tables) → Says s tb T → (loop : Option ℕ) → InLoop loop base (suc (12 - left)) outer → (fault_in pl ≡ 254 → ⊥)
      → BlockWalks sw T s left (suc (12 - left)) loop (view outer t₀ rows₀ cur width) start m (walked_in pl (view outer r rows cur width)) m'

-- a fault alone is told of a walk that has one
pub fault-walks : {sw : Switches} {T : Tables} {s : List ℕ} {left d : ℕ} {loop : Option ℕ} {σ : Scope Status} {p : Place} {m m' n' : Memory} (w r : Walked) → 0 < w.fault → r.fault ≡ w.fault → BlockWalks sw T s left d loop σ p m w m'
    → BlockWalks sw T s left d loop σ p m r n'
fault-walks w r lt e h = record { walks = λ t deep b n read. let g = h.walks t deep b n read in let f = e ∙ g.0 in (f, λ z. let q = ap number_of z in absurd (omega arith)) }

module _ (s tb : List ℕ) (small : Bytes s) (e : Env) (left : ℕ) (low : 0 < left) (high : left ≤ 12) (el : e.left ≡ left - 1) (start : Place) (outer : Locals) (t₀ : States)
    (rows₀ out₁ errs₀ warns₀ lefts₀ : List ℕ) (within : Within s start) (there : BlockThere s left start.at) (out₀ : List ℕ)
    (head : Stored out₀ start.written (four_bytes (four s start.at)) out₁ (start.written + 4)) where
  abbrev σ₀ : Scope Status
  σ₀ = view outer t₀ rows₀ e.cur e.width

  abbrev m₀ : Memory
  m₀ = memory out₀ errs₀ warns₀ lefts₀

  abbrev gap : ℕ
  gap = start.written + 4

  inside-loop : (loop : Option ℕ) → InLoop loop e.base (suc (12 - left)) outer → InLoop loop e.base (12 - e.left) outer
  inside-loop loop = subst (λ (d : ℕ). InLoop loop e.base d outer) (sym (depth-inner left e.left low high el))

  -- a fault, told of the block
  pub fault-done : (least : ℕ) (r : States) (rows' : List ℕ) (nodes' : List Open) (pl' : Walk) (m' : Memory) → 0 < fault_in pl' → length nodes' ≡ 26 → Below e.cur rows₀ rows'
      → (fault_in pl' ≡ 254 → length rows₀ < least) → (w : Walked) → w.fault ≡ fault_in pl'
      → ((T : Tables) → Says s tb T → (loop : Option ℕ) → InLoop loop e.base (12 - e.left) outer → (fault_in pl' ≡ 254 → ⊥)
      → StmtsWalk (switches_of e.switches) T s e.left (12 - e.left) loop (two s (start.at + 4)) (view outer t₀ rows₀ e.cur e.width) (headed start (start.written + 4)) (memory out₁ errs₀ warns₀ lefts₀) w m')
      → Done (switches_of e.switches) s tb e.cur e.width left e.base least start outer t₀ rows₀ (memory out₀ errs₀ warns₀ lefts₀) r rows' nodes' pl' m'
  fault-done least r rows' nodes' pl' m' lt en below short w ew walks = record {
    comes = record {
      below = below;
      short = short;
      sound = λ z. absurd (omega arith);
      within = λ z. absurd (omega arith);
      grows = λ z. absurd (omega arith);
    };
    nodes = en;
    walks = λ T sy loop o no.
        fault-walks w (walked_in pl' (view outer r rows' e.cur e.width)) (omega arith) (sym ew)
        (head-fault (switches_of e.switches) T s left e.left (two s (start.at + 4)) loop σ₀ start (headed start gap) gap w m₀ (memory out₁ errs₀ warns₀ lefts₀) m' low high el refl refl (walks T sy loop (inside-loop loop o) no) (omega arith));
  }

  module _ {rows : List ℕ} {nodes : List Open} {out errs warns lefts : List ℕ} {l : Locals} {t : States} {c : Cursor} where
    -- a fault of the blocks of a statement
    pub blocks-done : (tag : ℕ) → Turned s tb e start outer t₀ rows₀ out₁ errs₀ warns₀ lefts₀ rows nodes out errs warns lefts l t c (Blocks tag) → (p : Place) → p ≡ c.place → {r : States} {rows' : List ℕ} {pl' : Walk}
        (enough : ℕ) → Comes s tb e.cur e.width enough l rows p r rows' pl' → {out' errs' warns' lefts' : List ℕ}
        → ((T : Tables) → Says s tb T → (loop : Option ℕ) → InLoop loop e.base (suc (12 - e.left)) l → (fault_in pl' ≡ 254 → ⊥)
        → TagWalks (switches_of e.switches) T s e.left (12 - e.left) loop tag (view l t rows e.cur e.width) p (memory out errs warns lefts) (walked_in pl' (view l r rows' e.cur e.width)) (memory out' errs' warns' lefts'))
        → 0 < fault_in pl' → (nodes' : List Open) → length nodes' ≡ 26 → (least : ℕ) → (fault_in pl' ≡ 254 → length rows₀ < least)
        → Done (switches_of e.switches) s tb e.cur e.width left e.base least start outer t₀ rows₀ (memory out₀ errs₀ warns₀ lefts₀) r rows' nodes' pl' (memory out' errs' warns' lefts')
    blocks-done tag h p ep {r} {rows'} {pl'} enough come {out'} {errs'} {warns'} {lefts'} tag_walks lt nodes' en least short =
        fault-done least r rows' nodes' pl' (memory out' errs' warns' lefts') lt en (below_both e.cur e.cur rows₀ rows rows' (omega arith) h.owned.below come.below) short
        (walked_in pl' (view l r rows' e.cur e.width)) refl
        (λ T sy loop o reach. blocks-fault s tb e start outer t₀ rows₀ out₁ errs₀ warns₀ lefts₀ tag h p ep enough come tag_walks lt reach T sy loop o)

    -- the end
    module _ (h : Turned s tb e start outer t₀ rows₀ out₁ errs₀ warns₀ lefts₀ rows nodes out errs warns lefts l t c Over) where
      pub end-there : (near : Option ℕ) → InLoop near e.base (12 - e.left) outer → EndThere s left start c.place
      end-there near nearby = record {
        low = low;
        high = high;
        head = (block-there s left start.at there).1;
        within = h.fit.1;
        gap = omega (arith, within.written, within.inside, within.small);
        last = λ few.
            let g = stmts-in s left e.left start.at (two s (start.at + 4)) (start.at + 6) el refl refl there in
            let k = (h.after (tables_of s tb) (said s tb) near nearby g.t g.deep g.c g.end g.read).last few in
            subst (λ (n : ℕ). StmtThere s n c.place.last) el (record { t = g.t; deep = g.deep; x = k.0; next = k.1; read = k.2 });
      }

      depth_is : 12 - e.left ≡ suc (12 - left)
      depth_is = depth-inner left e.left low high el

      outside : Extends (suc (12 - left)) outer l
      outside = subst (λ (d : ℕ). Extends d outer l) depth_is h.owned.extends

      -- the block's own frame is what it registered
      pub end_frame : Nested (12 - left) (shape (view outer t₀ rows₀ e.cur e.width)) → Frame l.depths outer.count (suc (12 - left)) l.count
      end_frame nested = record {
        few = h.owned.sound.kept.small;
        own = extends-own (12 - left) outer l t₀ rows₀ e.cur e.width outside nested;
        outer = λ i li q.
            let low = nested-at (12 - left) outer.count (static_at outer) (state_at t₀ rows₀ e.cur e.width) nested i q in
            let same : get_or l.depths i 0 ≡ get_or outer.depths i 0 = ap (λ (s : Static). s.depth) (outside.older i q) in
            omega (arith, low, same);
      }

      module _ (least : ℕ) (pl' : Walk) (ended : Ended start c.place pl') (r : States) (v : Leaves outer.count l.count t r) (kept : Kept outer)
          (drops : (T : Tables) → Says s tb T → Drops T outer)
          (nested : Nested (12 - left) (shape (view outer t₀ rows₀ e.cur e.width))) where
        popped : view outer r rows e.cur e.width ≡ pop (suc (12 - left)) (view l t rows e.cur e.width)
        popped = leaves-pop (12 - left) outer l t r rows e.cur e.width outside v (nested-view (12 - left) outer t₀ t rows₀ rows e.cur e.cur e.width nested)

        further : Further s (retold start 0) (retold (place_in pl') 0)
        further =
            let g = h.grows in
            record {
              on = omega (arith, g.on, ended.at);
              inside = omega (arith, g.inside, ended.at);
              written = omega (arith, g.written, ended.at, ended.most);
              errors = omega (arith, g.on, ended.at);
              warnings = omega (arith, g.warnings, ended.at, ended.warnings);
              lefts = omega (arith, g.lefts, ended.at, ended.lefts);
              inserted = omega (arith, g.on, ended.at, ended.inserted);
            }

        inside : Within s (place_in pl')
        inside =
            let w = h.fit.1 in
            record {
              small = w.small;
              inside = omega (arith, w.inside, ended.at);
              written = omega (arith, further.written, within.written);
              errors = omega (arith, w.errors, ended.at, ended.errors);
              warnings = omega (arith, w.warnings, ended.at, ended.warnings);
              lefts = omega (arith, w.lefts, ended.at, ended.lefts);
              inserted = omega (arith, within.inserted, ended.inserted, further.on);
            }

        pub end-done : (out' : List ℕ) (value : ℕ) → value ≡ e.switches
            → ((T : Tables) → Says s tb T → (σ : Scope Status) → σ ≡ pop (suc (12 - left)) (view l t rows e.cur e.width)
            → Ends (switches_of value) T s left (suc (12 - left)) (view l t rows e.cur e.width) start (start.written + 4) c.place out (walked_in pl' σ) out')
            → Done (switches_of e.switches) s tb e.cur e.width left e.base least start outer t₀ rows₀ (memory out₀ errs₀ warns₀ lefts₀) r rows nodes pl' (memory out' errs warns lefts)
        end-done out' value is ends = record {
          comes = record {
            below = h.owned.below;
            short = λ z. let q = ended.fault in absurd (omega arith);
            sound = λ z. sound-leave (12 - left) outer l t r rows e.cur e.width outside v kept drops h.owned.sound;
            within = λ z. inside;
            grows = λ z. further;
          };
          nodes = h.long.nodes;
          walks = λ T sy loop o no.
              let w : Walked = record { fault = 0; sure = false; place = c.place; locals = view l t rows e.cur e.width } in
              let all = all_end (switches_of e.switches) T s small e.left (12 - e.left) loop (two s (start.at + 4)) σ₀ (headed start gap) (memory out₁ errs₀ warns₀ lefts₀) 0 w.locals c.place (memory out errs warns lefts)
              (h.after T sy loop (inside-loop loop o)) (omega arith) w refl refl refl in
              head_walks (switches_of e.switches) T s left e.left (two s (start.at + 4)) loop σ₀ start (headed start gap) gap w m₀ (memory out₁ errs₀ warns₀ lefts₀) (memory out errs warns lefts) low high el refl refl all
              small (block-there s left start.at there).1 refl (omega arith) (walked_in pl' (view outer r rows e.cur e.width)) out' head
              (subst (λ (w : ℕ). Ends (switches_of w) T s left (suc (12 - left)) (view l t rows e.cur e.width) start gap c.place out (walked_in pl' (view outer r rows e.cur e.width)) out') is
              (ends T sy (view outer r rows e.cur e.width) popped)) refl refl refl;
        }

-- said of the numbers that the block was given
pub done-as : (s tb : List ℕ) (env e : Env) (left least : ℕ) (p : Place) (outer : Locals) (t₀ : States) (rows₀ : List ℕ) (m : Memory) (r : States) (rows : List ℕ) (ns' : List Open) (pl : Walk) (m' : Memory)
    → e ≡ inner_of env → Done (switches_of e.switches) s tb e.cur e.width left e.base least p outer t₀ rows₀ m r rows ns' pl m'
    → Done (switches_of env.switches) s tb env.cur env.width left env.base least p outer t₀ rows₀ m r rows ns' pl m'
done-as s tb env e left least p outer t₀ rows₀ m r rows ns' pl m' is d =
    subst (λ (x : Env). Done (switches_of x.switches) s tb x.cur x.width left x.base least p outer t₀ rows₀ m r rows ns' pl m') is d

-- a block's statements may be walked where the block may be
pub enters-inner : (s tb : List ℕ) (env e : Env) (l : Locals) (t : States) (rows : List ℕ) (p : Place) → e ≡ inner_of env → Enters s tb env l t rows p → Enters s tb e l t rows p
enters-inner s tb env e l t rows p is h = subst (λ (x : Env). Enters s tb x l t rows p) (sym is) (record {
  lent = h.lent;
  within = h.within;
  depth = let d = h.depth in omega arith;
  limit = h.limit;
  width = h.width;
  sound = h.sound;
  nested = nested-deeper (12 - env.left) (12 - (env.left - 1)) (shape (view l t rows env.cur env.width)) (omega arith) h.nested;
  near = h.near;
  looped = loop-deeper h.near env.base (suc (12 - env.left)) (suc (12 - (env.left - 1))) l (omega arith) h.looped;
})

-- the nearest loop of a block is that of its statements
pub loop-inner : (env e : Env) (l : Locals) (loop : Option ℕ) → e ≡ inner_of env → 0 < env.left → env.left ≤ 12 → InLoop loop env.base (suc (12 - env.left)) l → InLoop loop e.base (12 - e.left) l
loop-inner env e l loop is low high o =
    subst (λ (x : Env). InLoop loop x.base (12 - x.left) l) (sym is) (subst (λ (d : ℕ). InLoop loop env.base d l) (sym (depth-inner env.left (env.left - 1) low high refl)) o)
