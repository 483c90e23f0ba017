-- The values of the next statement begun or scanned on, and what is owed.
-- Assumes nothing.
use Prim.Native.Nat.{ℕ, ◌+◌, ◌-◌, ◌*◌, ◌≤◌, ◌<◌}
use native.Mathlib.Omega.{arith}
use mathlib.Core.Option.{Option}
use mathlib.Core.Path.{◌≡◌, refl, sym, ap, ◌∙◌, subst}
use mathlib.Core.Bool.{Bool, true, false}
use mathlib.Core.List.{List, [], ◌∷◌}
use lib.ListN.{length}
use Rattle.rules.specs.Rules.{Switches, off}
use Rattle.image_fields.proofs.Tests.{false-true}
use Rattle.tables.specs.Tables.{Tables}
use Rattle.rules.specs.State.{State as Status}
use Rattle.rules.specs.Stack.{Stack as Scope}
use Rattle.expressions_steps.specs.Scan.{root_of, top_of, fuel}
use Rattle.expressions_steps.specs.declared.Open.{Open}
use Rattle.expressions_steps.proofs.Start.{root, starts, ready-start}
use Rattle.statements_returns.specs.declared.Front.{Front}
use Rattle.statements_returns.specs.Front.{front_at}
use Rattle.statements_acts.specs.declared.Named.{Named}
use Rattle.std.specs.Prelude.{Option as Maybe, None, Some}
use Rattle.statements_acts.specs.declared.Place.{Place}
use Rattle.statements_acts.specs.Act.{taken_in, Grows}
use Rattle.image_writing.specs.Memory.{Memory, memory}
use Rattle.blocks_laws.specs.Walks.{LeadsAll}
use Rattle.blocks_laws.proofs.Values.{front-walkable, front-inside}
use Rattle.blocks_laws.proofs.Wrotes.{grows_none}
use Rattle.expressions_scan.specs.declared.Scanned.{Scanned}
use Rattle.expressions_scan.specs.declared.Mark.{Mark as MarkOf}
use Rattle.expressions_scan.specs.Changes.{applied, Marks}
use Rattle.expressions_scan.specs.Resumed.{Came as CameTo, Going}
use Rattle.std.specs.declared.ops.ControlFlow.{ControlFlow}
use Rattle.std.specs.declared.ops.ControlFlow.TheVariants.{Continue, Break}
use Rattle.statements_changes.specs.declared.Turn.TheVariants.{Over, Mark}
use Rattle.statements_changes.specs.declared.Cursor.{Cursor}
use Rattle.statements_changes.specs.declared.Came.{Came}
use Rattle.tables_lookup.specs.Lent.{Says}
use Rattle.statements_changes.specs.Turns.{Lends, retold, between_of, within_of, Stood, After, Steady, Fit, owes, ahead}
use Rattle.statements_changes.proofs.Midst.{stood-begin}
use Rattle.statements_changes.proofs.Steady.{next-there}

-- what the start of a scan leaves
abbrev pub Began : List ℕ → ℕ → List Open → Cursor → List Open → Cursor → Type 0
Began s left ns c ns' r =
    ((sw : Switches) (T : Tables) (loop : Option ℕ) (all : ℕ) (σ₀ : Scope Status) (p₀ : Place) (m₀ : Memory) (σ : Scope Status) (out errs warns lefts : List ℕ)
    → Stood sw T s left (12 - left) loop all σ₀ p₀ m₀ ns c σ (memory out errs warns lefts) → Stood sw T s left (12 - left) loop all σ₀ p₀ m₀ ns' r σ (memory out errs warns lefts))
    × Steady s left ns' r × (r.begun ≡ true) × (r.left ≡ c.left) × (length ns' ≡ 26) × (ahead s r ≤ ahead s c) × (r.place ≡ c.place)

module _ (s : List ℕ) (left : ℕ) (ns : List Open) (c : Cursor) (st : Steady s left ns c) where
  module _ (free : c.taken ≡ None) (some : 0 < c.left) (off : c.begun ≡ false) (ns' : List Open) where
    start-at : top_of ns' 1 ≡ root_of (front_at s c.place.at).values → length ns' ≡ 26
        → Began s left ns c ns' (within_of c.left 1 (front_at s c.place.at).first c.place)
    start-at eo room =
        let there = next-there s left c.left c.place.at st.there some in
        let f = front_at s c.place.at in
        let le : f.first ≤ length s = front-inside s left c.place.at there f refl in (
          λ sw T loop all σ₀ p₀ m₀ σ out errs warns lefts g. stood-begin sw T s left (12 - left) loop all σ₀ p₀ m₀ ns c σ out errs warns lefts g some off free ns' eo,
          record {
            inside = st.inside;
            there = st.there;
            between = λ h. false-true (sym h);
            within = λ h. record {
              some = some;
              ready = ready-start s ns' f.values f.first eo room le (front-walkable s left c.place.at there f refl) st.inside.small;
              ends = λ es next z. (root es ∷ [], starts s ns' f.values f.first es next eo le z.stand z.many z.shallow);
              most = let m = st.between off in omega arith;
              free = refl;
            };
          },
          refl,
          refl,
          room,
          let l = st.inside.small in rw (off, free) (omega arith),
          refl,
        )

    pub began : (f : Front) → f ≡ front_at s c.place.at → (top_of ns' 1 ≡ root_of f.values) × (length ns' ≡ 26) → (r : Cursor) → r ≡ within_of c.left 1 f.first c.place
        → Began s left ns c ns' r
    began f ef eo r er =
        subst (Began s left ns c ns') (sym er)
        (subst (λ (g : Front). (top_of ns' 1 ≡ root_of g.values) → Began s left ns c ns' (within_of c.left 1 g.first c.place)) (sym ef) (λ h. start-at h eo.1) eo.0)

  -- a statement was read at the place
  pub begun-room : c.begun ≡ true → c.place.errors + 219 * fuel s c.nodes c.at < 4294900000
  begun-room on =
      let b = st.within on in
      let m = b.most in
      let w = st.inside.inside in
      let l = st.inside.small in
      omega arith

  -- the scan goes on
  pub steady-on : c.begun ≡ true → (ns' : List Open) (v : Scanned) → Going s ns c.nodes c.at c.place.errors ns' v
      → Steady s left ns' (within_of c.left v.nodes v.at (retold c.place v.told))
  steady-on on ns' v g =
      let b = st.within on in
      record {
        inside = st.inside;
        there = st.there;
        between = λ h. false-true (sym h);
        within = λ h. record {
          some = b.some;
          ready = g.ready;
          ends = λ es next z. (let y = b.ends es next z in g.ends y.0 next y.1);
          most = let a = g.most in let m = b.most in omega arith;
          free = refl;
        };
      }

  -- what is taken over is owed between statements only
  called-between : {n : Named} → c.taken ≡ Some n → c.begun ≡ false
  called-between {n} e = go c.begun refl
    where
      go : (b : Bool) → c.begun ≡ b → c.begun ≡ false
      go true h = let q = (st.within h).free in let z : ◌≡◌ {A = ℕ} 0 1 = cc in absurd (omega arith)
      go false h = h

  pub owed-after : (n : Named) → c.taken ≡ Some n → (sw : Switches) (T : Tables) (loop : Option ℕ) (all : ℕ) (σ₀ : Scope Status) (p₀ : Place) (m₀ : Memory) (σ : Scope Status) (m : Memory)
      → Stood sw T s left (12 - left) loop all σ₀ p₀ m₀ ns c σ m → (r : Came) → r ≡ record { cursor = between_of c.left c.place None; turn = Mark (record { name = n.name; kind = 1; place = n.span; only_alive = false }) }
      → After sw T s left (12 - left) loop all σ₀ p₀ m₀ ns r.cursor σ m r.turn
  owed-after n e sw T loop all σ₀ p₀ m₀ σ m g r er =
      let l = g.between (called-between e) in
      let k = subst (λ (x : Maybe Named). LeadsAll sw T s left (12 - left) loop all σ₀ p₀ m₀ c.left (taken_in x σ) c.place m) e l in
      rw er (record { between = λ h. k; within = λ h. false-true h })

  pub owed-fit : (n : Named) → c.taken ≡ Some n → (r : Came) → r ≡ record { cursor = between_of c.left c.place None; turn = Mark (record { name = n.name; kind = 1; place = n.span; only_alive = false }) } → Fit s left ns r.cursor r.turn
  owed-fit n e r er =
      let off = called-between e in
      rw er (record { inside = st.inside; there = st.there; between = λ h. st.between off; within = λ h. false-true h }, omega arith)

  -- the end
  none_between : c.left ≡ 0 → c.begun ≡ false
  none_between e = go c.begun refl
    where
      go : (b : Bool) → c.begun ≡ b → c.begun ≡ false
      go true h = let q = (st.within h).some in absurd (omega arith)
      go false h = h

  pub over-after : c.taken ≡ None → c.left ≡ 0 → (sw : Switches) (T : Tables) (loop : Option ℕ) (all : ℕ) (σ₀ : Scope Status) (p₀ : Place) (m₀ : Memory) (σ : Scope Status) (m : Memory)
      → Stood sw T s left (12 - left) loop all σ₀ p₀ m₀ ns c σ m → LeadsAll sw T s left (12 - left) loop all σ₀ p₀ m₀ 0 σ c.place m
  over-after free e sw T loop all σ₀ p₀ m₀ σ m g =
      subst (λ (k : ℕ). LeadsAll sw T s left (12 - left) loop all σ₀ p₀ m₀ k σ c.place m) e
      (subst (λ (x : Maybe Named). LeadsAll sw T s left (12 - left) loop all σ₀ p₀ m₀ c.left (taken_in x σ) c.place m) free (g.between (none_between e)))

  -- its errors are within bounds there
  pub over-fit : c.left ≡ 0 → Fit s left ns c Over
  over-fit e =
      let w = st.inside in
      (e, record { small = w.small; inside = w.inside; written = w.written; errors = st.between (none_between e); warnings = w.warnings; lefts = w.lefts; inserted = w.inserted })

-- a mark is handed on
pub mark-fit : (s : List ℕ) (left : ℕ) (ns : List Open) (w y : Cursor) → w ≡ y → Steady s left ns y → (ch : Maybe MarkOf) → Marks ch → (k : MarkOf) → ch ≡ Some k → Fit s left ns w (Mark k)
mark-fit s left ns w y e st ch m k ec = (subst (Steady s left ns) (sym e) st, (subst Marks ec m).1)

pub still-nodes : {s : List ℕ} {old : List Open} {n p m : ℕ} {os : List Open} (v : Scanned) → Going s old n p m os v → v.change ≡ None → v.nodes ≡ 0
still-nodes {s} {old} {n} {p} v g e = subst (λ (x : Maybe MarkOf). CameTo x v.nodes (fuel s n p) (fuel s v.nodes v.at)) e g.came

pub within-as : {w : Cursor} (l n a : ℕ) {q p : Place} → w ≡ within_of l n a q → q ≡ p → w ≡ within_of l n a p
within-as l n a e f = e ∙ ap (within_of l n a) f

pub steady-as : {s : List ℕ} {left : ℕ} {ns : List Open} {w y : Cursor} → w ≡ y → Steady s left ns y → Steady s left ns w
steady-as {s} {left} {ns} e st = subst (Steady s left ns) (sym e) st

pub stood-as : {sw : Switches} {T : Tables} {s : List ℕ} {left d : ℕ} {loop : Option ℕ} {all : ℕ} {σ₀ : Scope Status} {p₀ : Place} {m₀ : Memory} {ns : List Open} {w y : Cursor} (σ : Scope Status) {m : Memory} (ch ch' : Maybe MarkOf)
    → Stood sw T s left d loop all σ₀ p₀ m₀ ns y (applied ch σ) m → w ≡ y → ch ≡ ch' → Stood sw T s left d loop all σ₀ p₀ m₀ ns w (applied ch' σ) m
stood-as {sw} {T} {s} {left} {d} {loop} {all} {σ₀} {p₀} {m₀} {ns} {w} {y} σ {m} ch ch' g e f =
    subst (λ (x : Maybe MarkOf). Stood sw T s left d loop all σ₀ p₀ m₀ ns w (applied x σ) m) f (subst (λ (x : Cursor). Stood sw T s left d loop all σ₀ p₀ m₀ ns x (applied ch σ) m) (sym e) g)

-- what the loop over statements keeps
module _ (sw : Switches) (s tb : List ℕ) (left : ℕ) (ln lt lb : List ℕ) (at : ℕ → Status) (n mark base : ℕ) (ns₀ : List Open) (c₀ : Cursor) (out₀ errs₀ warns₀ lefts₀ : List ℕ) where
  pub record Turning (ns : List Open) (c : Cursor) (out errs warns lefts : List ℕ) : Type 0 where
    pub steady : Steady s left ns c
    pub room : length ns ≡ 26
    pub less : ahead s c ≤ ahead s c₀
    pub grown : Grows s (retold c₀.place 0) (retold c.place 0)
    pub lent : (length out ≡ length out₀) × (length errs ≡ length errs₀) × (length warns ≡ length warns₀) × (length lefts ≡ length lefts₀)
    pub stood : (T : Tables) → Says s tb T → (ld : List ℕ) (σ : Scope Status) (loop : Option ℕ) → Lends T mark loop base ln lt ld lb at n σ → (all : ℕ) (σ₀ : Scope Status) (p₀ : Place) (m₀ : Memory)
        → Stood sw T s left (12 - left) loop all σ₀ p₀ m₀ ns₀ c₀ σ (memory out₀ errs₀ warns₀ lefts₀) → Stood sw T s left (12 - left) loop all σ₀ p₀ m₀ ns c σ (memory out errs warns lefts)

  pub turning-start : Steady s left ns₀ c₀ → length ns₀ ≡ 26 → Turning ns₀ c₀ out₀ errs₀ warns₀ lefts₀
  turning-start st room = record { steady = st; room = room; less = omega arith; grown = grows_none st.inside.inside; lent = (refl, refl, refl, refl); stood = λ T sy ld σ loop h all σ₀ p₀ m₀ g. g }

-- a step that goes on, and one that comes back
pub went-on : {B C : Type 0} {x y : C} → ◌≡◌ {A = ControlFlow B C} (Continue x) (Continue y) → y ≡ x
went-on e = cc

pub came-back : {B C : Type 0} {x y : B} → ◌≡◌ {A = ControlFlow B C} (Break x) (Break y) → y ≡ x
came-back e = cc

pub not-back : {B C : Type 0} {x : C} {y : B} → ◌≡◌ {A = ControlFlow B C} (Continue x) (Break y) → ⊥
not-back e = let z : ◌≡◌ {A = ℕ} 0 1 = cc in omega arith

pub not-on : {B C : Type 0} {x : B} {y : C} → ◌≡◌ {A = ControlFlow B C} (Break x) (Continue y) → ⊥
not-on e = let z : ◌≡◌ {A = ℕ} 0 1 = cc in omega arith

-- every turn comes forward
owes-most : (t : Maybe Named) → owes t ≤ 1
owes-most None = omega arith
owes-most (Some n) = omega arith

pub owed-ahead : (s : List ℕ) (left : ℕ) (ns : List Open) (c : Cursor) → Steady s left ns c → (n : Named) → c.taken ≡ Some n → (r : Came)
    → r ≡ record { cursor = between_of c.left c.place None; turn = Mark (record { name = n.name; kind = 1; place = n.span; only_alive = false }) } → ahead s r.cursor < ahead s c
owed-ahead s left ns c st n e r er =
    let off = called-between s left ns c st e in
    rw er (rw (off, e) (omega arith))

pub scanned-ahead : (s : List ℕ) (b w : Cursor) (old os : List Open) (v : Scanned) (q : Place) → b.begun ≡ true → w ≡ within_of b.left v.nodes v.at q
    → Going s old b.nodes b.at b.place.errors os v → (k : MarkOf) → v.change ≡ Some k → ahead s w < ahead s b
scanned-ahead s b w old os v q on ew g k e =
    let f : fuel s v.nodes v.at < fuel s b.nodes b.at = subst (λ (x : Maybe MarkOf). CameTo x v.nodes (fuel s b.nodes b.at) (fuel s v.nodes v.at)) e g.came in
    rw ew (rw on (omega arith))

pub acted-ahead : (s : List ℕ) (r b : Cursor) → r.begun ≡ false → r.left + 1 ≡ b.left → ahead s r < ahead s b
acted-ahead s r b off l = let o = owes-most r.taken in rw off (omega arith)
