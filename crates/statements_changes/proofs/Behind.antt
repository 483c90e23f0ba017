-- A statement whose values are through: its front walked, and then its change or its blocks.
-- Assumes nothing.
use Prim.Native.Nat.{ℕ, ◌+◌, ◌-◌, ◌≤◌, ◌<◌}
use native.Mathlib.Omega.{arith}
use mathlib.Core.Path.{◌≡◌, refl, sym, ap, ◌∙◌, subst}
use mathlib.Core.Bool.{Bool, true, false}
use mathlib.Core.List.{List}
use mathlib.Core.Option.{Option, none}
use lib.ListN.{length, get_or}
use Rattle.image_fields.specs.Parsed.{ok}
use Rattle.image_fields.specs.Bytes.{Bytes}
use Rattle.tables.specs.Limits.{version1}
use Rattle.tables.specs.Tables.{Tables}
use Rattle.image_body.specs.Expr.{Exprs, Scope as Reading}
use Rattle.image_body.specs.Stmt.{Tree, Stmt, before, block_at, stmt_in}
use Rattle.rules.specs.State.{State as Status, deleted, alive}
use Rattle.rules.specs.Stack.{Stack as Scope, mark}
use Rattle.rules.specs.Walk.{too_many, walk_fault}
use Rattle.statements_returns.specs.Front.{front_at}
use Rattle.statements_acts.specs.declared.Place.{Place}
use Rattle.statements_acts.specs.declared.Act.{Act}
use Rattle.statements_acts.specs.Act.{change_in, taken_in, Acts, ActsThere}
use Rattle.statements_steps.specs.Statement.{front_size, settle}
use Rattle.statements_steps.proofs.Whole.{values_of, valued, own_fault, own_after, rest_of}
use Rattle.statements_steps.specs.Own.{number_of}
use Rattle.statements_steps.proofs.Plain.{blockless-fault, few-locals, length-shape}
use Rattle.image_writing.specs.Memory.{Memory, memory}
use Rattle.blocks_laws.specs.Walks.{Walked, StmtsWalk, BlocksWalk, TagWalks, LeadsAll, blocked}
use Rattle.blocks_laws.proofs.Statements.{StmtDone, StmtWalks}
use Rattle.blocks_laws.proofs.Fronts.{plain_done, blocks-done}
use Rattle.blocks_laws.proofs.Leads.{next_of, leads-next, leads-fault}
use Rattle.blocks_laws.proofs.Turns.{else-number, all-fault, all-loud}
use Rattle.blocks_laws.proofs.Values.{ValuesAt, values-in, values-of}
use Rattle.blocks_laws.proofs.Tags.{tag_walks, no_blocks}
use Rattle.expressions_scan.proofs.Values.{after_all, told_all, Valued, valued as through}
use Rattle.image_lines.specs.Told.{Listed}
use Rattle.image_lines.proofs.Told.{lined-retold}
use Rattle.statements_steps.proofs.Lists.{front-errors}
use Rattle.statements_changes.specs.declared.Cursor.{Cursor}
use Rattle.rules.specs.Rules.{declared, states, register, Switches, off}
use Rattle.rules.proofs.Shapes.{shape-mark}
use Rattle.statements_acts.specs.declared.Change.{Change}
use Rattle.statements_acts.specs.declared.Change.TheVariants as change
use Rattle.statements_acts.specs.declared.Named.{Named}
use Rattle.std.specs.Prelude.{Option as Maybe, None, Some}
use mathlib.Core.Bool.{cond}
use mathlib.Core.Option.{some}
use lib.Dec.{ltb}
use Rattle.image_fields.proofs.Tests.{false-true}
use Rattle.std.specs.declared.ops.ControlFlow.{ControlFlow}
use Rattle.std.specs.declared.ops.ControlFlow.TheVariants.{Continue, Break}
use Rattle.expressions_steps.specs.declared.Open.{Open}
use Rattle.statements_changes.specs.declared.Came.{Came}
use Rattle.statements_changes.specs.declared.Turn.TheVariants.{Blocks}
use Rattle.statements_changes.specs.Turns.{retold, between_of, turn_of, came_of, Midst, Stood, Faulty, AfterFlow}

-- marks keep how many locals there are
length_marked : (n : ℕ) (f : Status → Status) (σ : Scope Status) → length (mark n f σ) ≡ length σ
length_marked n f σ = sym (length-shape (mark n f σ)) ∙ ap length (shape-mark n f σ) ∙ length-shape σ

length_taken : (n : Maybe Named) (σ : Scope Status) → length (taken_in n σ) ≡ length σ
length_taken None σ = refl
length_taken (Some n) σ = length_marked n.name ((states off).killed deleted n.span) σ

same-many : (σ τ : Scope Status) → length σ ≡ length τ → too_many version1 σ ≡ too_many version1 τ
same-many σ τ e = ap (λ (k : ℕ). cond (ltb version1.locals k) (some 12) none) e

-- the front does not look at the errors
acts-retold : (sw : Switches) (T : Tables) (c : Tree) (loop : Option ℕ) (σ : Scope Status) (p : Place) (out warns left : List ℕ) (a : Act) (out' warns' left' : List ℕ) (k : ℕ) → Acts sw T c loop σ p out warns left a out' warns' left'
    → Acts sw T c loop σ (retold p k) out warns left (record { place = retold a.place k; change = a.change; taken = a.taken }) out' warns' left'
acts-retold sw T c loop σ p out warns left a out' warns' left' k h = record {
  bytes = h.bytes;
  warned = h.warned;
  listed = h.listed;
  lines = λ y l. lined-retold k (front-errors sw T c loop p.at σ) (h.lines y l);
  long = h.long;
  paged = h.paged;
  errors = refl;
  inserted = h.inserted;
  last = h.last;
  fits = h.fits;
  at = h.at;
  settles = h.settles;
}

module _ (sw : Switches) (T : Tables) (s : List ℕ) (small : Bytes s) (left : ℕ) (loop : Option ℕ) (all : ℕ) (σ₀ : Scope Status) (p₀ : Place) (m₀ : Memory) (ns : List Open) (c : Cursor) (σ : Scope Status)
    (out errs warns lefts out₁ warns₁ lefts₁ : List ℕ) (mi : Midst sw T s left (12 - left) loop all σ₀ p₀ m₀ ns c σ (memory out errs warns lefts)) (over : c.nodes ≤ 0)
    (a : Act) (acts : ActsThere sw T s loop σ (retold c.place 0) out warns lefts a out₁ warns₁ lefts₁) (few : length σ ≤ 64) where
  abbrev d : ℕ
  d = 12 - left

  abbrev here : Place
  here = retold c.place mi.told

  abbrev behind : Place
  behind = retold a.place c.place.errors

  abbrev again : Act
  again = record { place = behind; change = a.change; taken = a.taken }

  module _ (t : Reading) (deep : t.expr_depth ≡ 24) (x : Stmt) (next : ℕ) (read : stmt_in t s left c.place.at ≡ ok x next) where
    vals : ValuesAt t s c.place.at x
    vals = values-in s t deep left c.place.at x next read

    walked : Valued T s (front_at s c.place.at).values (front_at s c.place.at).first mi.old c.place.paged mi.errs mi.out mi.told c.at σ errs out c.place.errors x.front.values vals.end
    walked = let o = vals.on in let r = vals.room in through mi.root (omega arith) over mi.onward x.front.values vals.end (record { stand = vals.standing.stand; many = vals.standing.many; shallow = vals.standing.shallow })

    acted : (r : Tree) → Acts sw T (before x r) loop σ (retold c.place 0) out warns lefts a out₁ warns₁ lefts₁
    acted r = acts.acts (block_at t s left) t x next r deep read

    ended : (r : Tree) → behind.at ≡ c.place.at + front_size (before x r)
    ended r = (acted r).at

    located : (r : Tree) → σ ≡ valued T (before x r) mi.old
    located r = walked.locals ∙ ap (λ (es : Exprs). after_all T es mi.old) (sym (values-of s small t left c.place.at x next read r))

    told : (r : Tree) → Listed c.place.paged (told_all T (values_of (before x r)) mi.old) mi.errs mi.out mi.told errs out c.place.errors
    told r =
        subst (λ (es : Exprs). Listed c.place.paged (told_all T es mi.old) mi.errs mi.out mi.told errs out c.place.errors)
        (sym (values-of s small t left c.place.at x next read r)) walked.errors

    acting : (r : Tree) → Acts sw T (before x r) loop (valued T (before x r) mi.old) (retold c.place c.place.errors) out warns lefts again out₁ warns₁ lefts₁
    acting r =
        subst (λ (τ : Scope Status). Acts sw T (before x r) loop τ (retold c.place c.place.errors) out warns lefts again out₁ warns₁ lefts₁) (located r)
        (acts-retold sw T (before x r) loop σ (retold c.place 0) out warns lefts a out₁ warns₁ lefts₁ c.place.errors (acted r))

    -- without blocks
    module _ (has : blocked (get_or s c.place.at 0) ≡ false) (τ : Scope Status) (is : τ ≡ taken_in a.taken (change_in (12 - left) a.change σ)) (r : Tree) where
      settled : τ ≡ settle T (before x r) d (valued T (before x r) mi.old)
      settled = is ∙ (acted r).settles d ∙ ap (settle T (before x r) d) (located r)

      pub own-many : own_fault sw T (before x r) (12 - left) mi.old ≡ too_many version1 τ
      own-many =
          let plain = no_blocks s small t deep left c.place.at x next read behind ended has r in
          blockless-fault sw T (before x r) d (valued T (before x r) mi.old) plain (subst (λ (τ : Scope Status). length τ ≤ 64) (located r) few)
          ∙ ap (too_many version1) (sym settled)

      pub own-done : StmtDone sw T (before x r) (12 - left) loop mi.old here (memory mi.out mi.errs warns lefts) behind (memory out₁ errs warns₁ lefts₁) τ next
      own-done =
          let plain = no_blocks s small t deep left c.place.at x next read behind ended has r in
          plain_done sw T (before x r) d loop mi.old here (retold c.place c.place.errors) again mi.out out mi.errs warns lefts out₁ errs warns₁ lefts₁
          (record { at = refl; written = refl; warnings = refl; lefts = refl; inserted = refl; fits = refl; paged = refl }) (told r) (acting r)
          s small t left x next read r refl plain τ settled

    -- with blocks
    own-blocks : blocked (get_or s c.place.at 0) ≡ true → (w : Walked) (m' : Memory) → TagWalks sw T s left (12 - left) loop (get_or s c.place.at 0) σ behind (memory out₁ errs warns₁ lefts₁) w m'
        → (r : Tree) → (w.fault ≡ number_of (own_fault sw T (before x r) (12 - left) mi.old))
        × (own_fault sw T (before x r) (12 - left) mi.old ≡ none → StmtDone sw T (before x r) (12 - left) loop mi.old here (memory mi.out mi.errs warns lefts) w.place m' w.locals next)
    own-blocks has w m' tw r =
        let b = tag_walks s small t deep left c.place.at x next read behind ended sw T d loop σ (memory out₁ errs warns₁ lefts₁) w m' tw r has in
        let h = subst (λ (τ : Scope Status). BlocksWalk sw T (before x r) d loop τ behind (memory out₁ errs warns₁ lefts₁) w m' next) (located r) b in (
          h.fault,
          λ clear. blocks-done sw T (before x r) d loop mi.old here (retold c.place c.place.errors) again mi.out out mi.errs warns lefts out₁ errs warns₁ lefts₁
              (record { at = refl; written = refl; warnings = refl; lefts = refl; inserted = refl; fits = refl; paged = refl }) (told r) (acting r) w m' next h clear,
        )

  -- the walk leads behind a statement without blocks, once its change is made and its temporary taken over
  module _ (has : blocked (get_or s c.place.at 0) ≡ false) (τ : Scope Status) (is : τ ≡ taken_in a.taken (change_in (12 - left) a.change σ)) where
    pub acted-leads : too_many version1 τ ≡ none → LeadsAll sw T s left (12 - left) loop all σ₀ p₀ m₀ (c.left - 1) τ behind (memory out₁ errs warns₁ lefts₁)
    acted-leads clear t deep cc end e =
        let l = mi.leads t deep cc end e in
        let k = next_of sw T s small t left d loop all cc σ₀ p₀ m₀ end c.left mi.old here (memory mi.out mi.errs warns lefts) mi.some l in
        leads-next sw T s small t left d loop all cc σ₀ p₀ m₀ end c.left mi.old here (memory mi.out mi.errs warns lefts) mi.some l k behind (memory out₁ errs warns₁ lefts₁) τ
        (own-many t deep k.x k.next k.read has τ is k.rest ∙ clear) (own-done t deep k.x k.next k.read has τ is k.rest)

    pub acted-fault : 0 < number_of (too_many version1 τ) → Faulty sw T s left (12 - left) loop all σ₀ p₀ m₀ (number_of (too_many version1 τ))
    acted-fault pos t deep cc end e =
        let l = mi.leads t deep cc end e in
        let k = next_of sw T s small t left d loop all cc σ₀ p₀ m₀ end c.left mi.old here (memory mi.out mi.errs warns lefts) mi.some l in
        let b = before k.x k.rest in
        else-number (own_fault sw T b d mi.old) (walk_fault version1 sw T (rest_of b) d (own_after sw T b d mi.old)) (number_of (too_many version1 τ)) pos
        (ap number_of (sym (own-many t deep k.x k.next k.read has τ is k.rest)))
        ∙ ap number_of (sym (leads-fault sw T s small t left d loop all cc σ₀ p₀ m₀ end c.left mi.old here (memory mi.out mi.errs warns lefts) mi.some l k))

  -- and behind one with blocks, once they are walked
  pub acted-blocks : blocked (get_or s c.place.at 0) ≡ true → (w : Walked) (m' : Memory) → TagWalks sw T s left (12 - left) loop (get_or s c.place.at 0) σ behind (memory out₁ errs warns₁ lefts₁) w m'
      → (0 < w.fault → StmtsWalk sw T s left (12 - left) loop all σ₀ p₀ m₀ w m') × (w.fault ≤ 0 → LeadsAll sw T s left (12 - left) loop all σ₀ p₀ m₀ (c.left - 1) w.locals w.place m')
  acted-blocks has w m' tw =
      let whole : StmtWalks sw T s left d loop mi.old here (memory mi.out mi.errs warns lefts) w m' = record { walks = λ t deep x next read r. own-blocks t deep x next read has w m' tw r } in (
        λ lw. all-fault sw T s small left d loop all σ₀ p₀ m₀ c.left mi.old here (memory mi.out mi.errs warns lefts) mi.leads mi.some w m' lw whole,
        λ z. all-loud sw T s small left d loop all σ₀ p₀ m₀ c.left mi.old here (memory mi.out mi.errs warns lefts) mi.leads mi.some w m' z whole,
      )

  -- between two statements
  stands : (τ : Scope Status) → LeadsAll sw T s left (12 - left) loop all σ₀ p₀ m₀ (c.left - 1) (taken_in a.taken τ) behind (memory out₁ errs warns₁ lefts₁)
      → Stood sw T s left (12 - left) loop all σ₀ p₀ m₀ ns (between_of (c.left - 1) behind a.taken) τ (memory out₁ errs warns₁ lefts₁)
  stands τ l = record { between = λ h. l; within = λ h. false-true h }

  taken-few : (τ : Scope Status) → length τ ≡ length σ → too_many version1 (taken_in a.taken τ) ≡ none
  taken-few τ e = few-locals (taken_in a.taken τ) (let k = length_taken a.taken τ in omega arith)

  -- what is to be done behind it
  by-change : (b : Bool) (ch : Change) → blocked (get_or s c.place.at 0) ≡ b → a.change ≡ ch → (r : ControlFlow Came Cursor)
      → r ≡ cond b (Break (record { cursor = between_of (c.left - 1) behind None; turn = Blocks (get_or s c.place.at 0) })) (turn_of (between_of (c.left - 1) behind a.taken) ch)
      → AfterFlow sw T s left (12 - left) loop all σ₀ p₀ m₀ ns r σ (memory out₁ errs warns₁ lefts₁)
  by-change true ch eb ec r er = rw er (acted-blocks eb)
  by-change false change.Nothing eb ec r er =
      rw er (stands σ (acted-leads eb (taken_in a.taken σ) (ap (λ (x : Change). taken_in a.taken (change_in (12 - left) x σ)) (sym ec)) (taken-few σ refl)))
  by-change false (change.Delete n p) eb ec r er =
      rw er (stands (mark n ((states off).killed deleted p) σ) (acted-leads eb (taken_in a.taken (mark n ((states off).killed deleted p) σ))
      (ap (λ (x : Change). taken_in a.taken (change_in (12 - left) x σ)) (sym ec)) (taken-few (mark n ((states off).killed deleted p) σ) (length_marked n ((states off).killed deleted p) σ))))
  by-change false (change.Register n t p) eb ec r er =
      let τ = register (states off) (declared (12 - left) p n t) σ in
      let is : taken_in a.taken τ ≡ taken_in a.taken (change_in (12 - left) a.change σ) = ap (λ (x : Change). taken_in a.taken (change_in (12 - left) x σ)) (sym ec) in
      let m : too_many version1 (taken_in a.taken τ) ≡ too_many version1 τ = same-many (taken_in a.taken τ) τ (length_taken a.taken τ) in
      rw er (
        λ clear. stands τ (acted-leads eb (taken_in a.taken τ) is (m ∙ clear)),
        λ pos. subst (λ (o : Option ℕ). Faulty sw T s left (12 - left) loop all σ₀ p₀ m₀ (number_of o)) m (acted-fault eb (taken_in a.taken τ) is (subst (λ (o : Option ℕ). 0 < number_of o) (sym m) pos)),
      )
  by-change false (change.Revive n) eb ec r er =
      rw er (stands (mark n (λ a. alive) σ) (acted-leads eb (taken_in a.taken (mark n (λ a. alive) σ))
      (ap (λ (x : Change). taken_in a.taken (change_in (12 - left) x σ)) (sym ec)) (taken-few (mark n (λ a. alive) σ) (length_marked n (λ a. alive) σ))))

  pub acted-after : (r : ControlFlow Came Cursor) → r ≡ came_of (get_or s c.place.at 0) (c.left - 1) behind a.change a.taken
      → AfterFlow sw T s left (12 - left) loop all σ₀ p₀ m₀ ns r σ (memory out₁ errs warns₁ lefts₁)
  acted-after r er = by-change (blocked (get_or s c.place.at 0)) a.change refl refl r er
