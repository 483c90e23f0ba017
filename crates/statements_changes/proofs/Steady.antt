-- What the code is given at a cursor.
-- Assumes nothing.
use Prim.Native.Nat.{ℕ, ◌+◌, ◌-◌, ◌*◌, ◌≤◌, ◌<◌}
use native.Mathlib.Omega.{arith}
use mathlib.Core.Option.{Option}
use mathlib.Core.Path.{◌≡◌, refl, sym, ap, ◌∙◌, subst}
use mathlib.Core.Bool.{Bool, true, false, cond}
use mathlib.Core.List.{List, []}
use lib.ListN.{length, get_or}
use Rattle.rules.specs.Rules.{Switches}
use Rattle.image_fields.proofs.Tests.{false-true}
use Rattle.image_fields.specs.Parsed.{ok}
use Rattle.image_fields.specs.Bytes.{Bytes}
use Rattle.tables.specs.Tables.{Tables}
use Rattle.image_body.specs.Stmt.{Tree, Stmt, done, before, block_at, stmt_in, stmts_at}
use Rattle.image_body.proofs.Statements.{stmts-more}
use Rattle.tables_lookup.proofs.Lent.{tables_of}
use Rattle.rules.specs.State.{State as Status}
use Rattle.rules.specs.Stack.{Stack as Scope}
use Rattle.expressions_steps.specs.Scan.{fuel}
use Rattle.expressions_steps.proofs.Start.{finished}
use Rattle.statements_returns.specs.Returns.{StmtThere}
use Rattle.statements_returns.proofs.Surely.{stmt-there}
use Rattle.statements_steps.specs.Statement.{front_size}
use Rattle.statements_steps.proofs.Before.{stmt-end}
use Rattle.statements_steps.proofs.Plain.{blockless-size}
use Rattle.statements_acts.specs.declared.Named.{Named}
use Rattle.std.specs.Prelude.{Option as Maybe, None, Some}
use Rattle.statements_acts.specs.declared.Change.{Change}
use Rattle.statements_acts.specs.declared.Change.TheVariants as change
use Rattle.statements_acts.specs.declared.Place.{Place}
use Rattle.statements_acts.specs.declared.Act.{Act}
use Rattle.statements_acts.specs.Act.{FrontThere, Within, Grows, ActsThere}
use Rattle.blocks_laws.specs.Walks.{StmtsThere, blocked}
use Rattle.blocks_laws.proofs.Wrotes.{within_on}
use Rattle.blocks_laws.proofs.Values.{ValuesAt, values-in, front-end}
use Rattle.blocks_laws.proofs.Tags.{tag-there, no_blocks}
use Rattle.expressions_steps.specs.declared.Open.{Open}
use Rattle.std.specs.declared.ops.ControlFlow.{ControlFlow}
use Rattle.std.specs.declared.ops.ControlFlow.TheVariants.{Continue, Break}
use Rattle.statements_acts.specs.Marks.{EndsThere}
use Rattle.statements_changes.specs.declared.Turn.TheVariants.{Blocks}
use Rattle.statements_changes.specs.declared.Cursor.{Cursor}
use Rattle.statements_changes.specs.declared.Came.{Came}
use Rattle.statements_changes.specs.Turns.{retold, between_of, turn_of, came_of, cursor_of, Begun, Steady, SomeSteady, FitFlow}

-- the next statement
pub next-there : (s : List ℕ) (left n at : ℕ) → StmtsThere s left n at → 0 < n → StmtThere s left at
next-there s left n at h lt =
    let k = stmts-more (block_at h.t s left) h.t s n at lt h.read in
    record { t = h.t; deep = h.deep; x = k.0; next = k.1; read = k.3 }

module _ (s : List ℕ) (left : ℕ) (c : Cursor) (st : SomeSteady s left c) (on : c.begun ≡ true) (over : c.nodes ≡ 0) where
  abbrev go_on : Begun s st.ns c
  go_on = st.steady.within on

  abbrev read-there : StmtsThere s left c.left c.place.at
  read-there = st.steady.there

  -- the statement at the place, where it ends, and the others
  pub record Here : Type 0 where
    pub x : Stmt
    pub next : ℕ
    pub rest : Tree
    pub read : stmt_in read-there.t s left c.place.at ≡ ok x next
    pub others : stmts_at read-there.t s left (c.left - 1) next ≡ ok rest read-there.end

  here : Here
  here =
      let k = stmts-more (block_at read-there.t s left) read-there.t s c.left c.place.at go_on.some read-there.read in
      record { x = k.0; next = k.1; rest = k.2; read = k.3; others = k.4 }

  vals : ValuesAt read-there.t s c.place.at here.x
  vals = values-in s read-there.t read-there.deep left c.place.at here.x here.next here.read

  -- its values end where the scan stands
  ended : c.at ≡ vals.end
  ended =
      let z = go_on.ends here.x.front.values vals.end (record { stand = vals.standing.stand; many = vals.standing.many; shallow = vals.standing.shallow }) in
      (finished (tables_of s []) s st.ns c.nodes c.at vals.end z.0 (omega arith) z.1).1

  pub front-there : FrontThere s c.place.at c.at
  front-there = record {
    f = block_at read-there.t s left;
    t = read-there.t;
    deep = read-there.deep;
    x = here.x;
    next = here.next;
    read = here.read;
    values = vals.read ∙ ap (ok here.x.front.values) (sym ended);
  }

  pub tag-inside : (c.place.at < length s) × (get_or s c.place.at 0 < 11)
  tag-inside = stmt-there s left c.place.at (next-there s left c.left c.place.at read-there go_on.some)

  module _ (small : Bytes s) (a : Act) (ends : EndsThere s c.place.at a.place.at) (grows : Grows s (retold c.place 0) a.place) where
    abbrev behind : Place
    behind = retold a.place c.place.errors

    walked : (r : Tree) → behind.at ≡ c.place.at + front_size (before here.x r)
    walked r = ends.is (block_at read-there.t s left) read-there.t here.x here.next r read-there.deep here.read

    within-there : Within s a.place
    within-there = within_on st.steady.inside grows

    -- the errors apart
    grows-behind : Grows s (retold c.place 0) (retold a.place 0)
    grows-behind = record {
      on = grows.on;
      inside = grows.inside;
      written = grows.written;
      errors = omega (arith, grows.on);
      warnings = grows.warnings;
      lefts = grows.lefts;
      inserted = grows.inserted;
    }

    few-errors : c.place.errors ≤ 1000 * a.place.at
    few-errors =
        let v = vals in
        let e = ended in
        let f = front-end s small read-there.t read-there.deep left c.place.at here.x here.next here.read (done tt) vals in
        let w = walked (done tt) in
        let m = go_on.most in
        let o = over in
        let fs = fuel-none o in
        let f1 = v.first in
        let f2 = v.on in
        let f3 = v.room in
        omega arith
      where
        fuel-none : c.nodes ≡ 0 → fuel s c.nodes c.at ≡ 2 * (length s - c.at)
        fuel-none e = rw e (omega arith)

    as-within : (k : ℕ) → k ≤ 1000 * a.place.at → Within s (retold a.place k)
    as-within k le =
        let w = within-there in
        record { small = w.small; inside = w.inside; written = w.written; errors = le; warnings = w.warnings; lefts = w.lefts; inserted = w.inserted }

    steady-plain : blocked (get_or s c.place.at 0) ≡ false → (taken : Maybe Named) (ns : List Open) → Steady s left ns (between_of (c.left - 1) behind taken)
    steady-plain has taken ns =
        let plain = no_blocks s small read-there.t read-there.deep left c.place.at here.x here.next here.read behind walked has (done tt) in
        let e : here.next ≡ behind.at =
        (let n = stmt-end s small read-there.t left c.place.at here.x here.next here.read (done tt) in let z = blockless-size (before here.x (done tt)) plain in let w = walked (done tt) in omega arith) in
        record {
          inside = as-within 0 (omega arith);
          there = record { t = read-there.t; deep = read-there.deep; c = here.rest; end = read-there.end; read = subst (λ (i : ℕ). stmts_at read-there.t s left (c.left - 1) i ≡ ok here.rest read-there.end) e here.others };
          between = λ h. few-errors;
          within = λ h. false-true h;
        }

    fit-by : (b : Bool) (ch : Change) → blocked (get_or s c.place.at 0) ≡ b → (r : ControlFlow Came Cursor)
        → r ≡ cond b (Break (record { cursor = between_of (c.left - 1) behind None; turn = Blocks (get_or s c.place.at 0) })) (turn_of (between_of (c.left - 1) behind a.taken) ch)
        → ((ns : List Open) → FitFlow s left ns r) × ((cursor_of r).left + 1 ≡ c.left) × ((cursor_of r).begun ≡ false)
        × Grows s (retold c.place 0) (retold (cursor_of r).place 0)
    fit-by true ch eb r er =
        let l = go_on.some in
        rw er (λ ns. (tag-there s small read-there.t read-there.deep left c.place.at here.x here.next here.read behind walked eb, as-within c.place.errors few-errors, eb, refl), omega arith, refl, grows-behind)
    fit-by false change.Nothing eb r er = let l = go_on.some in rw er (λ ns. steady-plain eb a.taken ns, omega arith, refl, grows-behind)
    fit-by false (change.Delete n p) eb r er = let l = go_on.some in rw er (λ ns. (steady-plain eb a.taken ns, omega arith), omega arith, refl, grows-behind)
    fit-by false (change.Register n t p) eb r er = let l = go_on.some in rw er (λ ns. steady-plain eb a.taken ns, omega arith, refl, grows-behind)
    fit-by false (change.Revive n) eb r er = let l = go_on.some in rw er (λ ns. (steady-plain eb a.taken ns, omega arith), omega arith, refl, grows-behind)

    pub fit-came : (r : ControlFlow Came Cursor) → r ≡ came_of (get_or s c.place.at 0) (c.left - 1) behind a.change a.taken
        → ((ns : List Open) → FitFlow s left ns r) × ((cursor_of r).left + 1 ≡ c.left) × ((cursor_of r).begun ≡ false)
        × Grows s (retold c.place 0) (retold (cursor_of r).place 0)
    fit-came r er = fit-by (blocked (get_or s c.place.at 0)) a.change refl r er

-- the stack that the locals are
pub acts-of : {sw : Switches} {T : Tables} {s : List ℕ} {loop : Option ℕ} {σ τ : Scope Status} {p : Place} {out warns lefts out₁ warns₁ lefts₁ : List ℕ} {a : Act} → σ ≡ τ
    → ActsThere sw T s loop τ p out warns lefts a out₁ warns₁ lefts₁ → ActsThere sw T s loop σ p out warns lefts a out₁ warns₁ lefts₁
acts-of {sw} {T} {s} {loop} {σ} {τ} {p} {out} {warns} {lefts} {out₁} {warns₁} {lefts₁} {a} e h = subst (λ (x : Scope Status). ActsThere sw T s loop x p out warns lefts a out₁ warns₁ lefts₁) (sym e) h

pub grows-told : {s : List ℕ} {p q z : Place} → q ≡ p → Grows s q z → Grows s p z
grows-told {s} {p} {q} {z} e h = subst (λ (x : Place). Grows s x z) e h

pub grows-as : {s : List ℕ} {p q z : Place} → Grows s p q → z ≡ q → Grows s p z
grows-as {s} {p} {q} {z} h e = subst (Grows s p) (sym e) h
