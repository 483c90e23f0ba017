-- What the code of each kind of statement does is what the rules say of whatever statement was read there.
-- Assumes nothing.
use mathlib.Core.Option.{Option as Maybe, some}
use Rattle.std.specs.Prelude.{Option, Some, None, IfSome}
use mathlib.Core.Path.{◌≡◌, refl, sym, ap, ◌∙◌, subst}
use mathlib.Core.List.{List, [], ◌∷◌, ◌++◌, append-nil}
use mathlib.Core.Bool.{Bool, true, false, cond, ◌&&◌}
use mathlib.Core.Logic.{◌⊎◌, inl, inr, ⊎_elim}
use Prim.Native.Nat.{ℕ, ◌+◌, ◌*◌, ◌≤◌, ◌<◌}
use native.Mathlib.Omega.{arith}
use native.Mathlib.Nat.{add-zero}
use lib.ListN.{length, get_or, length-append}
use lib.Dec.{eqb}
use lib.Seq.{slice, length-slice}
use Rattle.image_fields.specs.Number.{two, four}
use Rattle.image_fields.specs.Bytes.{two_bytes, four_bytes, number_bytes, Bytes}
use Rattle.image_fields.proofs.Tests.{less}
use Rattle.tables.specs.Limits.{version1}
use Rattle.tables.specs.Tables.{Tables}
use Rattle.image_body.specs.Expr.{Expr, arg_width, count_width, last_width}
use Rattle.image_body.specs.Stmt.{Tree, done, head_bytes, value_flag, value_count, before}
use Rattle.image_body.specs.Stands.{Stands}
use Rattle.image_body.specs.Depth.{Walkable}
use Rattle.image_body.proofs.Standing.{stands, ends, order}
use Rattle.image_body.proofs.Shallow.{walkable}
use Rattle.image_body.proofs.Statements.{stmt-tag, stmt-return, stmt-expr}
use Rattle.image_encoding.specs.Body.{encode_expr}
use Rattle.image_encoding.proofs.ExprWritten.{expr-written}
use Rattle.rules.specs.Questions.{auto}
use Rattle.rules.specs.Expr.{view as viewed, ident_in, name_in, is_call, ty_of, callee_at}
use Rattle.rules.specs.Expr as rules
use Rattle.rules.specs.State.{State as Status, is_alive}
use Rattle.rules.specs.Stack.{Static, local, shape, lookup, Stack as Scope}
use Rattle.rules.specs.Effects.{take_over, assign_takes}
use Rattle.rules.specs.Rules.{Drop, drop_of, Switches, off, at_assign, at_bare_return, at_jump, in_loop, concerns, states, apply_all, gather, collect, drop_newest, drop_named, assign_drops, return_drops, bare_return_drops, jump_drops}
use Rattle.rules.specs.Report.{Report, warning, errors, warnings, lefts, delete_node, unused, left_behind, left_at}
use Rattle.rules.specs.Verdict.{entries_of}
use Rattle.image_body.proofs.Walking.{within}
use Rattle.image_writing.specs.Stored.{Stored}
use Rattle.image_writing.proofs.Stores.{both_stored, none-stored, stored-length}
use Rattle.image_lines.specs.Lined.{shown_all, cursors}
use Rattle.image_lines.specs.Told.{Listed, Lined}
use Rattle.image_lines.proofs.Cursors.{shown-none}
use Rattle.image_lines.proofs.Told.{past, lined-same, lined-warnings, lined-lefts}
use Rattle.statements_steps.specs.Drops.{delete_bytes}
use Rattle.statements_steps.proofs.Lists.{only-left}
use Rattle.statements_acts.specs.Drops.{admitted}
use Rattle.statements_acts.specs.declared.Put.{Put}
use Rattle.statements_acts.specs.declared.Named.{Named}
use Rattle.statements_acts.specs.declared.Change.{Change}
use Rattle.statements_acts.specs.declared.Change.TheVariants.{Nothing, Register}
use Rattle.statements_acts.specs.declared.Place.{Place}
use Rattle.statements_acts.specs.declared.Warned.{Warned}
use Rattle.statements_steps.specs.Statement.{front_drops, own_bytes, front_bytes, front_reports, settle}
use Rattle.statements_acts.specs.Act.{change_in, taken_in, FrontThere, Within, Grows, cursors_at, Acts, ActsThere}
use Rattle.statements_acts.specs.Parts.{deleted_name, delete_of, revive_of, sparing, no_put, relisted, Copied, wrapping, warning_at, WarnsAt, Untouched}
use Rattle.statements_acts.proofs.Slices.{written-slice, no_value, one_value}
use Rattle.statements_acts.proofs.Fronts.{Front, head_bytes_lem, front-plain, front-variable, front-assign, front-return, front-bare, front-jump}
use Rattle.statements_acts.proofs.Taken.{delete-is, revive-is}

none-at : (xs : List ℕ) {i j : ℕ} → j ≡ i → Stored xs i [] xs j
none-at xs {i} e = record { cells = refl; place = e ∙ sym (add-zero i) }

pub stored-from : {xs ys zs u : List ℕ} {i j : ℕ} → xs ≡ ys → Stored xs i u zs j → Stored ys i u zs j
stored-from {xs} {ys} {zs} {u} {i} {j} e s = subst (λ x. Stored x i u zs j) e s

-- the locals that a return deletes, as the code asks
sparing-is : (sw : Switches) (T : Tables) (σ : Scope Status) (which : Option ℕ) (n : rules.Named) → which ≡ sparing n → collect (states off) T (admitted which) 0 σ ≡ return_drops (states sw) T (concerns sw) n σ
sparing-is sw T σ which rules.nobody e = ap (λ x. collect (states off) T (admitted x) 0 σ) e
sparing-is sw T σ which (rules.called n p) e = ap (λ x. collect (states off) T (admitted x) 0 σ) e

-- what is stored stays small
pub room_of : {s : List ℕ} {p : Place} → Within s p
    → (length s ≤ 65536) × (p.at ≤ 65536) × (p.written ≤ 265536000) × (p.warnings ≤ 265536000) × (p.lefts ≤ 265536000) × (p.inserted ≤ 65536000)
room_of w =
    let a = w.small in
    let b = w.inside in
    let c = w.written in
    let d = w.warnings in
    let e = w.lefts in
    let f = w.inserted in
    (a, omega arith, omega arith, omega arith, omega arith, omega arith)

pub none-put-is : {put : Put} (p : Place) → put ≡ no_put p → (put.at ≡ p.written) × (put.count ≡ 0)
none-put-is p e = (ap (λ (z : Put). z.at) e, ap (λ (z : Put). z.count) e)

pub listed-is : {q : Place} (p : Place) {n : ℕ} → q ≡ relisted p n → (q.at ≡ p.at) × (q.inserted ≡ p.inserted)
listed-is p e = (ap (λ (z : Place). z.at) e, ap (λ (z : Place). z.inserted) e)

-- as much as the bytes read allow, of what was copied behind deletes
pub grows-of : {s : List ℕ} {p : Place} {put : Put} {to : ℕ} {out : List ℕ} {q : Place} {out' : List ℕ} → Copied s p put to out q out' → p.at ≤ to → to ≤ length s
    → put.at + 999 * p.at ≤ p.written + 999 * to → put.count + 1000 * p.at ≤ 1000 * to → Grows s p q
grows-of {s} {p} {put} {to} c l h w n =
    let b = c.bytes.place in
    let e = length-slice p.at to s h in
    let a = c.at in
    let i = c.inserted in
    let x = c.errors in
    let y = c.warnings in
    let z = c.lefts in
    record { on = omega arith; inside = omega arith; written = omega arith; errors = omega arith; warnings = omega arith; lefts = omega arith; inserted = omega arith }

-- three runs, one behind the other
long_of : (u v w : List ℕ) (n : ℕ) → n + length (u ++ (v ++ w)) ≡ n + length u + length v + length w
long_of u v w n =
    let a = length-append u (v ++ w) in
    let b = length-append v w in
    omega arith

module _ (sw : Switches) (T : Tables) (σ : Scope Status) (p : Place) where
  -- what was copied behind deletes, if nothing is reported
  pub acts-of : (c : Tree) (loop : Maybe ℕ) (put : Put) {to : ℕ} {s before' out out' warns left : List ℕ} (q : Place) (change : Change) (taken : Option Named) → Copied s p put to out q out'
      → Stored before' p.written (delete_bytes (front_drops sw T c loop σ)) out put.at → put.count ≡ length (front_drops sw T c loop σ)
      → Front T s p.at to c → front_reports sw T c loop p.at σ ≡ []
      → ((d : ℕ) → taken_in taken (change_in d change σ) ≡ settle T c d σ)
      → Acts sw T c loop σ p before' warns left (record { place = q; change = change; taken = taken }) out' warns left
  acts-of c loop put {to} {s} {before'} {out} {out'} {warns} {left} q change taken w st n f e settled =
      let b = both_stored st (subst (λ v. Stored out put.at v out' q.written) (written-slice f.written) w.bytes) in
      record {
        bytes = λ n. b;
        warned = λ n. subst (λ r. Stored warns p.warnings (entries_of version1 (warnings r)) warns q.warnings) (sym e) (none-at warns w.warnings);
        listed = λ n. subst (λ r. Stored left p.lefts (entries_of version1 (lefts r)) left q.lefts) (sym e) (none-at left w.lefts);
        lines = λ y h. subst (λ r. Lined (cursors_at p) r before' (cursors_at q) out') (sym e) (lined-same (past b h).0 (rw (w.errors, w.warnings, w.lefts)));
        long = b.place;
        paged = w.paged;
        errors = w.errors;
        inserted = w.inserted ∙ ap (λ k. p.inserted + k) n;
        last = w.last;
        fits = w.fits;
        at = w.at ∙ f.size;
        settles = settled;
      }

-- Block, IfElse, While, Break, Continue
module _ (s : List ℕ) (small : Bytes s) (p : Place) (to : ℕ) (g : FrontThere s p.at to) (u : Untouched (get_or s p.at 0)) where
  pub plain-reach : (p.at ≤ to) × (to ≤ length s)
  plain-reach =
      let T : Tables = record { names = []; types = []; structs = []; globals = [] } in
      let f = (front-plain T s small p.at to g g.f g.t g.x g.next g.read u (done tt)).0 in
      let a = f.size in
      (omega arith, f.inside)

  module _ (put : Put) (ep : put ≡ no_put p) {out out' : List ℕ} (q : Place) (w : Copied s p put to out q out') where
    pub plain-grows : Grows s p q
    plain-grows =
        let r = plain-reach in
        let a = r.0 in
        let e = none-put-is p ep in
        grows-of w r.0 r.1 (omega arith) (omega arith)

    pub plain-acts : (sw : Switches) (T : Tables) (σ : Scope Status) (warns left : List ℕ) (loop : Maybe ℕ) → ActsThere sw T s loop σ p out warns left (record { place = q; change = Nothing; taken = None }) out' warns left
    plain-acts sw T σ warns left loop = record {
      acts = λ f t x next r deep read.
          let v = front-plain T s small p.at to g f t x next read u r in
          acts-of sw T σ p (before x r) loop (no_put p) q Nothing None (subst (λ z. Copied s p z to out q out') ep w)
          (subst (λ d. Stored out p.written (delete_bytes d) out p.written) (sym (v.1.drops sw loop σ)) (none-stored out p.written))
          (sym (ap length (v.1.drops sw loop σ))) v.0 (v.1.reports sw loop p.at σ) (λ d. sym (v.1.settles d σ));
    }

-- a Let or Const
module _ (s : List ℕ) (small : Bytes s) (p : Place) (to : ℕ) (g : FrontThere s p.at to) (low : 3 < get_or s p.at 0) (high : get_or s p.at 0 < 6) where
  pub variable-reach : (p.at + 9 ≤ to) × (to ≤ length s)
  variable-reach =
      let T : Tables = record { names = []; types = []; structs = []; globals = [] } in
      let f = front-variable T s small p.at to g g.f g.t g.x g.next g.read low high (done tt) in
      let a = f.front.size in
      (omega arith, f.front.inside)

  pub variable-grows : (put : Put) → put ≡ no_put p → {out out' : List ℕ} (q : Place) → Copied s p put to out q out' → Grows s p q
  variable-grows put ep q w =
      let r = variable-reach in
      let a = r.0 in
      let e = none-put-is p ep in
      grows-of w (omega arith) r.1 (omega arith) (omega arith)

  pub variable-acts : (put : Put) → put ≡ no_put p → {out out' : List ℕ} (q : Place) → Copied s p put to out q out' → (sw : Switches) (T : Tables) (σ : Scope Status) (n ty born : ℕ) (taken : Option Named)
      → n ≡ two s (p.at + 5) → ty ≡ two s (p.at + 7) → born ≡ four s (p.at + 1)
      → ((e : Expr) (next : ℕ) → Stands e s (p.at + 9) next → (τ : Scope Status) → taken_in taken τ ≡ apply_all (states off) (take_over T (shape σ) n ty e) τ)
      → (warns left : List ℕ) (loop : Maybe ℕ) → ActsThere sw T s loop σ p out warns left (record { place = q; change = Register n ty born; taken = taken }) out' warns left
  variable-acts put ep {out} {out'} q w sw T σ n ty born taken en et eb tk warns left loop = record {
    acts = λ f t x next r deep read.
        let v = front-variable T s small p.at to g f t x next read low high r in
        subst (λ c. Acts sw T c loop σ p out warns left (record { place = q; change = Register n ty born; taken = taken }) out' warns left) (sym v.is)
        (acts-of sw T σ p _ loop (no_put p) q (Register n ty born) taken (subst (λ z. Copied s p z to out q out') ep w) (none-stored out p.written) refl v.front refl
        (λ d. settled d v.e (tk v.e v.q v.stands)));
  }
    where
      settled : (d : ℕ) (e : Expr) → ((τ : Scope Status) → taken_in taken τ ≡ apply_all (states off) (take_over T (shape σ) n ty e) τ)
          → taken_in taken (change_in d (Register n ty born) σ)
          ≡ apply_all (states off) (take_over T (shape σ) (two s (p.at + 5)) (two s (p.at + 7)) e) (change_in d (Register (two s (p.at + 5)) (two s (p.at + 7)) (four s (p.at + 1))) σ)
      settled d e h = h (change_in d (Register n ty born) σ) ∙ ap (λ m. apply_all (states off) (take_over T (shape σ) m ty e) (change_in d (Register m ty born) σ)) en
          ∙ ap (λ m. apply_all (states off) (take_over T (shape σ) (two s (p.at + 5)) m e) (change_in d (Register (two s (p.at + 5)) m born) σ)) et
          ∙ ap (λ m. apply_all (states off) (take_over T (shape σ) (two s (p.at + 5)) (two s (p.at + 7)) e) (change_in d (Register (two s (p.at + 5)) (two s (p.at + 7)) m) σ)) eb

-- the delete before an assignment: its place concerns the newest local of the name
module _ (sw : Switches) (T : Tables) (span : ℕ) where
  named-same : (m k : ℕ) (σ : Scope Status) → drop_named (states sw) T (λ l. concerns sw (at_assign (rules.called m k)) l) span (rules.called m k) σ ≡ drop_named (states off) T (λ l. true) span (rules.called m k) σ
  named-same m k [] = refl
  named-same m k (local l a ∷ σ) = go (eqb l.name m) refl (named-same m k σ)
    where
      go : (b : Bool) → eqb l.name m ≡ b
          → drop_named (states sw) T (λ x. concerns sw (at_assign (rules.called m k)) x) span (rules.called m k) σ ≡ drop_named (states off) T (λ x. true) span (rules.called m k) σ
          → drop_newest (states sw) T (λ x. concerns sw (at_assign (rules.called m k)) x) span m (cond b (some (local l a)) (lookup m σ))
          ≡ drop_newest (states off) T (λ x. true) span m (cond b (some (local l a)) (lookup m σ))
      go true e h = ap (λ (c : Bool). cond (c && is_alive a && auto T l.ty) (drop_of span m l.ty ∷ []) []) e
      go false e h = h

  drops_same : (n : rules.Named) (σ : Scope Status) → drop_named (states sw) T (λ l. concerns sw (at_assign n) l) span n σ ≡ drop_named (states off) T (λ l. true) span n σ
  drops_same rules.nobody σ = refl
  drops_same (rules.called m k) σ = named-same m k σ

module _ (sw : Switches) (T : Tables) (σ : Scope Status) (span : ℕ) (e : Expr) where
  pub drop-none : ident_in (viewed e) ≡ rules.nobody → assign_drops (states sw) T (concerns sw) span e σ ≡ []
  drop-none z = drops_same sw T span (ident_in (viewed e)) σ ∙ ap (λ n. drop_named (states off) T (λ l. true) span n σ) z

  pub drop-ident : {m n k : ℕ} → ident_in (viewed e) ≡ rules.called m k → n ≡ m → {old new : List ℕ} {at next count : ℕ}
      → Stored old at (delete_bytes (drop_named (states off) T (λ l. true) span (rules.called n 0) σ)) new next × (count ≡ length (drop_named (states off) T (λ l. true) span (rules.called n 0) σ))
      → Stored old at (delete_bytes (assign_drops (states sw) T (concerns sw) span e σ)) new next × (count ≡ length (assign_drops (states sw) T (concerns sw) span e σ))
  drop-ident {m} {n} {k} z en {old} {new} {at} {next} {count} =
      subst (λ d. Stored old at (delete_bytes d) new next × (count ≡ length d))
      (ap (λ x. drop_named (states off) T (λ l. true) span (rules.called x k) σ) en ∙ sym (drops_same sw T span (ident_in (viewed e)) σ ∙ ap (λ x. drop_named (states off) T (λ l. true) span x σ) z))

-- an Assign
module _ (s : List ℕ) (small : Bytes s) (p : Place) (end : ℕ) (g : FrontThere s p.at end) (k : get_or s p.at 0 ≡ 6) where
  pub assign-reach : (p.at + 19 ≤ end) × (end + 2 ≤ length s) × Walkable s 24 (p.at + 5)
  assign-reach =
      let T : Tables = record { names = []; types = []; structs = []; globals = [] } in
      let f = front-assign T s small p.at end g g.f g.t g.x g.next g.read k (done tt) in
      let a = order f.e s _ _ f.stands in
      let b = order f.v s _ _ f.other in
      (omega arith, f.front.inside, subst (λ d. Walkable s d (p.at + 5)) g.deep (walkable g.t s g.t.expr_depth (p.at + 5) f.e f.p f.destination))

  pub assign-grows : (put : Put) → put.at ≤ p.written + 21 → put.count ≤ 1 → {out out' : List ℕ} (q : Place) → Copied s p put (end + 2) out q out' → Grows s p q
  assign-grows put l n q w =
      let r = assign-reach in
      let a = r.0 in
      grows-of w (omega arith) r.1 (omega arith) (omega arith)

  pub assign-acts : {before' out out' : List ℕ} (put : Put) (q : Place) (change : Change) (taken : Option Named) → Copied s p put (end + 2) out q out' → (sw : Switches) (T : Tables) (σ : Scope Status)
      → (span : ℕ) → span ≡ four s (p.at + 1) → ((e : Expr) (next : ℕ) → Stands e s (p.at + 5) next
      → Stored before' p.written (delete_bytes (assign_drops (states sw) T (concerns sw) span e σ)) out put.at × (put.count ≡ length (assign_drops (states sw) T (concerns sw) span e σ)))
      → ((e : Expr) (next : ℕ) → Stands e s (p.at + 5) next → change ≡ revive_of (name_in (viewed e)))
      → ((e v : Expr) (i j : ℕ) → Stands e s (p.at + 5) i → Stands v s i j → (τ : Scope Status) → taken_in taken τ ≡ apply_all (states off) (assign_takes T (shape σ) e v) τ)
      → (warns left : List ℕ) (loop : Maybe ℕ) → ActsThere sw T s loop σ p before' warns left (record { place = q; change = change; taken = taken }) out' warns left
  assign-acts {before'} {out} {out'} put q change taken w sw T σ span es dr rv tk warns left loop = record {
    acts = λ f t x next r deep read.
        let v = front-assign T s small p.at end g f t x next read k r in
        let d = subst (λ m. Stored before' p.written (delete_bytes (assign_drops (states sw) T (concerns sw) m v.e σ)) out put.at × (put.count ≡ length (assign_drops (states sw) T (concerns sw) m v.e σ))) es (dr v.e v.p v.stands) in
        subst (λ c. Acts sw T c loop σ p before' warns left (record { place = q; change = change; taken = taken }) out' warns left) (sym v.is)
        (acts-of sw T σ p _ loop put q change taken w d.0 d.1 v.front refl
        (λ i. tk v.e v.v v.p end v.stands v.other (change_in i change σ)
        ∙ ap (λ τ. apply_all (states off) (assign_takes T (shape σ) v.e v.v) τ)
        (ap (λ z. change_in i z σ) (rv v.e v.p v.stands) ∙ revive-is i (name_in (viewed v.e)) σ)));
  }

-- a Return with a value
module _ (s : List ℕ) (small : Bytes s) (p : Place) (end : ℕ) (g : FrontThere s p.at end) (k : get_or s p.at 0 ≡ 2) (o : get_or s (p.at + 5) 0 ≡ 1) where
  pub return-reach : (p.at + 13 ≤ end) × (end + 2 ≤ length s)
  return-reach =
      let T : Tables = record { names = []; types = []; structs = []; globals = [] } in
      let f = front-return T s small p.at end g g.f g.t g.x g.next g.read k o (done tt) in
      let a = order f.e s _ _ f.stands in
      (omega arith, f.front.inside)

  pub return-grows : (put : Put) → put.at ≤ p.written + 1344 → put.count ≤ 64 → {out out' : List ℕ} (q : Place) → Copied s p put (end + 2) out q out' → Grows s p q
  return-grows put l n q w =
      let r = return-reach in
      let a = r.0 in
      grows-of w (omega arith) r.1 (omega arith) (omega arith)

  pub return-acts : {before' out out' : List ℕ} (put : Put) (q : Place) → Copied s p put (end + 2) out q out' → (sw : Switches) (T : Tables) (σ : Scope Status) (which : Option ℕ)
      → ((e : Expr) (next : ℕ) → Stands e s (p.at + 6) next → which ≡ sparing (name_in (viewed e)))
      → Stored before' p.written (delete_bytes (collect (states off) T (admitted which) 0 σ)) out put.at × (put.count ≡ length (collect (states off) T (admitted which) 0 σ))
      → (warns left : List ℕ) (loop : Maybe ℕ) → ActsThere sw T s loop σ p before' warns left (record { place = q; change = Nothing; taken = None }) out' warns left
  return-acts {before'} {out} {out'} put q w sw T σ which ew dr warns left loop = record {
    acts = λ f t x next r deep read.
        let v = front-return T s small p.at end g f t x next read k o r in
        let d = sparing-is sw T σ which (name_in (viewed v.e)) (ew v.e end v.stands) in
        subst (λ c. Acts sw T c loop σ p before' warns left (record { place = q; change = Nothing; taken = None }) out' warns left) (sym v.is)
        (acts-of sw T σ p _ loop put q Nothing None w (subst (λ x. Stored before' p.written (delete_bytes x) out put.at) d dr.0) (dr.1 ∙ ap length d) v.front refl (λ i. refl));
  }

-- a statement of so many bytes that puts nothing in, changes nothing and leaves locals behind
pub record Lists (sw : Switches) (T : Tables) (c : Tree) (loop : Maybe ℕ) (at : ℕ) (σ : Scope Status) (rs : List Report) : Type 0 where
  pub drops : front_drops sw T c loop σ ≡ []
  pub reports : front_reports sw T c loop at σ ≡ rs
  pub settles : (d : ℕ) → settle T c d σ ≡ σ

module _ (s : List ℕ) (small : Bytes s) (p : Place) (size : ℕ) (few : 5 ≤ size) (reach : p.at + size ≤ length s) where
  module _ (n : ℕ) (p' : Place) (e' : p' ≡ relisted p n) (put : Put) (ep : put ≡ no_put p) {out out' : List ℕ} (q : Place) (w : Copied s p' put (p.at + size) out q out') where
    copied : Copied s (relisted p n) (no_put p) (p.at + size) out q out'
    copied = subst (λ z. Copied s (relisted p n) z (p.at + size) out q out') ep (subst (λ z. Copied s z put (p.at + size) out q out') e' w)

    pub lists-acts : (sw : Switches) (T : Tables) (σ : Scope Status) (c : Tree) (loop : Maybe ℕ) (q' : Static → Bool) (τ : Scope Status) → Front T s p.at (p.at + size) c
        → Lists sw T c loop p.at σ (gather (states off) T q' (left_at (four s (p.at + 1))) τ) → (span : ℕ) → span ≡ four s (p.at + 1) → {left left' : List ℕ} → {out₀ : List ℕ} → Listed p.paged (gather (states off) T q' (left_at span) τ) left out₀ p.lefts left' out n
        → (warns : List ℕ) → Acts sw T c loop σ p out₀ warns left (record { place = q; change = Nothing; taken = None }) out' warns left'
    lists-acts sw T σ c loop q' τ front is span es {left} {left'} {out₀} st warns =
        let k = copied in
        let b = subst (λ x. Stored out p.written x out' q.written) (written-slice front.written) k.bytes in
        let none : front_bytes sw T c loop σ ≡ own_bytes T c = ap (λ x. delete_bytes x ++ own_bytes T c) is.drops in
        let here = four s (p.at + 1) in
        let only = only-left T q' here τ in
        let l : Listed p.paged (gather (states off) T q' (left_at here) τ) left out₀ p.lefts left' out n = subst (λ m. Listed p.paged (gather (states off) T q' (left_at m) τ) left out₀ p.lefts left' out n) es st in
        record {
          bytes = λ e. subst (λ x. Stored out₀ p.written x out' q.written) (sym none) (stored-from (l.numbers e).0 b);
          warned = λ e. subst (λ z. Stored warns p.warnings (entries_of version1 z) warns q.warnings) (sym (ap warnings is.reports ∙ only.1)) (none-at warns k.warnings);
          listed = λ e. subst (Stored left p.lefts _ left') (sym k.lefts)
              (subst (λ z. Stored left p.lefts (entries_of version1 z) left' n) (sym (ap lefts is.reports ∙ only.2)) (l.numbers e).1);
          lines = λ e h.
              let x = l.lines e in
              let y : out' ≡ out = (past b (let z = stored-length x in omega arith)).0 in
              subst (λ z. Lined (cursors_at p) z out₀ (cursors_at q) out') (sym is.reports)
              (subst (λ z. Lined (cursors_at p) (gather (states off) T q' (left_at here) τ) out₀ z out') (rw (k.errors, k.warnings, k.lefts))
              (subst (λ z. Lined (cursors_at p) (gather (states off) T q' (left_at here) τ) out₀ (cursors p.errors p.warnings n) z) (sym y)
              (lined-lefts p.errors p.warnings p.lefts only.0 only.1 only.2 x)));
          long = b.place ∙ ap (λ x. p.written + length x) (sym none);
          paged = k.paged;
          errors = k.errors;
          inserted = k.inserted ∙ ap (λ x. p.inserted + length x) (sym is.drops);
          last = k.last;
          fits = k.fits;
          at = k.at ∙ front.size;
          settles = λ d. sym (is.settles d);
        }

-- what is left behind, deleted or listed, is as much as a statement's bytes allow
pub leaves-grows : (s : List ℕ) (p : Place) (size : ℕ) → 5 ≤ size → p.at + size ≤ length s → {n : ℕ} {p' : Place} → p' ≡ relisted p n → n ≤ p.lefts + 4672
    → {put : Put} → put.at ≤ p.written + 1344 → put.count ≤ 64 → {out out' : List ℕ} {q : Place} → Copied s p' put (p.at + size) out q out' → Grows s p q
leaves-grows s p size few reach {n} {p'} e' l {put} lp lc {out} {out'} {q} w =
    let c : Copied s (relisted p n) put (p.at + size) out q out' = subst (λ z. Copied s z put (p.at + size) out q out') e' w in
    let b = c.bytes.place in
    let e = length-slice p.at (p.at + size) s reach in
    let a = c.at in
    let i = c.inserted in
    let x = c.errors in
    let y = c.warnings in
    let z = c.lefts in
    record { on = omega arith; inside = subst (λ m. m ≤ length s) (sym a) reach; written = omega arith; errors = omega arith; warnings = omega arith; lefts = omega arith; inserted = omega arith }

-- a statement of so many bytes that leaves locals behind, and before which these are deleted
pub record Clears (sw : Switches) (T : Tables) (c : Tree) (loop : Maybe ℕ) (at : ℕ) (σ : Scope Status) (ds : List Drop) : Type 0 where
  pub drops : front_drops sw T c loop σ ≡ ds
  pub reports : front_reports sw T c loop at σ ≡ []
  pub settles : (d : ℕ) → settle T c d σ ≡ σ

module _ (s : List ℕ) (small : Bytes s) (p : Place) (size : ℕ) (few : 5 ≤ size) (reach : p.at + size ≤ length s) {out out' : List ℕ} (put : Put) (q : Place) (w : Copied s p put (p.at + size) out q out') where
  pub clears-acts : {before' : List ℕ} (sw : Switches) (T : Tables) (σ : Scope Status) (c : Tree) (loop : Maybe ℕ) (ds : List Drop) → Front T s p.at (p.at + size) c → Clears sw T c loop p.at σ ds
      → Stored before' p.written (delete_bytes ds) out put.at × (put.count ≡ length ds)
      → (warns left : List ℕ) → Acts sw T c loop σ p before' warns left (record { place = q; change = Nothing; taken = None }) out' warns left
  clears-acts {before'} sw T σ c loop ds front is dr warns left =
      acts-of sw T σ p c loop put q Nothing None w (subst (λ x. Stored before' p.written (delete_bytes x) out put.at) (sym is.drops) dr.0) (dr.1 ∙ ap length (sym is.drops)) front is.reports
      (λ d. sym (is.settles d))

-- with its switch off a bare return deletes nothing
none-admitted : (T : Tables) (σ : Scope Status) → collect (states off) T (λ l. false) 0 σ ≡ []
none-admitted T [] = refl
none-admitted T (local l a ∷ σ) = none-admitted T σ

bare-none : (sw : Switches) (T : Tables) → sw.bare_returns ≡ false → (σ : Scope Status) → bare_return_drops (states sw) T (concerns sw) σ ≡ []
bare-none sw T e σ = ap (λ (b : Bool). collect (states off) T (λ l. b) 0 σ) e ∙ none-admitted T σ

-- nor does a Break or Continue
jump-none : (sw : Switches) (T : Tables) → sw.jumps ≡ false → (loop : Maybe ℕ) (σ : Scope Status) → jump_drops (states sw) T (concerns sw) loop σ ≡ []
jump-none sw T e loop σ = ap (λ (b : Bool). collect (states off) T (λ l. b && in_loop loop l) 0 σ) e ∙ none-admitted T σ

-- a Return without a value
module _ (s : List ℕ) (small : Bytes s) (p : Place) {end : ℕ} (g : FrontThere s p.at end) (k : get_or s p.at 0 ≡ 2) (o : get_or s (p.at + 5) 0 ≡ 0) where
  pub bare-reach : p.at + 8 ≤ length s
  bare-reach =
      let T : Tables = record { names = []; types = []; structs = []; globals = [] } in
      (front-bare T s small p.at g.f g.t g.x g.next g.read k o (done tt)).1.inside

  module _ (n : ℕ) (p' : Place) (e' : p' ≡ relisted p n) (put : Put) (ep : put ≡ no_put p) {out out' : List ℕ} (q : Place) (w : Copied s p' put (p.at + 8) out q out') where
    pub bare-acts : (sw : Switches) → sw.bare_returns ≡ false → (T : Tables) (σ : Scope Status) (span : ℕ) → span ≡ four s (p.at + 1) → {left left' : List ℕ}
        → {out₀ : List ℕ} → Listed p.paged (gather (states off) T (admitted None) (left_at span) σ) left out₀ p.lefts left' out n
        → (warns : List ℕ) (loop : Maybe ℕ) → ActsThere sw T s loop σ p out₀ warns left (record { place = q; change = Nothing; taken = None }) out' warns left'
    bare-acts sw off' T σ span es {left} {left'} {out₀} st warns loop = record {
      acts = λ f t x next r deep read.
          let v = front-bare T s small p.at f t x next read k o r in
          subst (λ c. Acts sw T c loop σ p out₀ warns left (record { place = q; change = Nothing; taken = None }) out' warns left') (sym v.0)
          (lists-acts s small p 8 (omega arith) bare-reach n p' e' put ep q w sw T σ _ loop (admitted None) σ v.1
          (record { drops = bare-none sw T off' σ; reports = ap (λ (b : Bool). left_behind T b (four s (p.at + 1)) at_bare_return σ) off'; settles = λ d. refl }) span es st warns);
    }

  pub bare-cleared : {before' out out' : List ℕ} (put : Put) (q : Place) → Copied s p put (p.at + 8) out q out' → (sw : Switches) → sw.bare_returns ≡ true → (T : Tables) (σ : Scope Status)
      → Stored before' p.written (delete_bytes (collect (states off) T (admitted None) 0 σ)) out put.at × (put.count ≡ length (collect (states off) T (admitted None) 0 σ))
      → (warns left : List ℕ) (loop : Maybe ℕ) → ActsThere sw T s loop σ p before' warns left (record { place = q; change = Nothing; taken = None }) out' warns left
  bare-cleared {before'} {out} {out'} put q w sw on' T σ dr warns left loop = record {
    acts = λ f t x next r deep read.
        let v = front-bare T s small p.at f t x next read k o r in
        subst (λ c. Acts sw T c loop σ p before' warns left (record { place = q; change = Nothing; taken = None }) out' warns left) (sym v.0)
        (clears-acts s small p 8 (omega arith) bare-reach put q w sw T σ _ loop (collect (states off) T (admitted None) 0 σ) v.1
        (record { drops = ap (λ (b : Bool). collect (states off) T (λ l. b) 0 σ) on'; reports = ap (λ (b : Bool). left_behind T b (four s (p.at + 1)) at_bare_return σ) on'; settles = λ d. refl }) dr warns left);
  }

-- a Break or Continue
module _ (s : List ℕ) (small : Bytes s) (p : Place) {end : ℕ} (g : FrontThere s p.at end) (k : 8 < get_or s p.at 0) where
  pub jump-reach : p.at + 5 ≤ length s
  jump-reach =
      let T : Tables = record { names = []; types = []; structs = []; globals = [] } in
      (front-jump T s small p.at g.f g.t g.x g.next g.read k (done tt)).2.inside

  module _ (n : ℕ) (p' : Place) (e' : p' ≡ relisted p n) (put : Put) (ep : put ≡ no_put p) {out out' : List ℕ} (q : Place) (w : Copied s p' put (p.at + 5) out q out') where
    pub jump-acts : (sw : Switches) → sw.jumps ≡ false → (T : Tables) (σ : Scope Status) (loop : Maybe ℕ) (τ : Scope Status) → ((m : ℕ) → gather (states off) T (admitted None) (left_at m) τ ≡ left_behind T false m (at_jump loop) σ) → (span : ℕ) → span ≡ four s (p.at + 1) → {left left' : List ℕ}
        → {out₀ : List ℕ} → Listed p.paged (gather (states off) T (admitted None) (left_at span) τ) left out₀ p.lefts left' out n
        → (warns : List ℕ) → ActsThere sw T s loop σ p out₀ warns left (record { place = q; change = Nothing; taken = None }) out' warns left'
    jump-acts sw off' T σ loop τ ed span es {left} {left'} {out₀} st warns = record {
      acts = λ f t x next r deep read.
          let v = front-jump T s small p.at f t x next read k r in
          subst (λ c. Acts sw T c loop σ p out₀ warns left (record { place = q; change = Nothing; taken = None }) out' warns left') (sym v.1)
          (lists-acts s small p 5 (omega arith) jump-reach n p' e' put ep q w sw T σ _ loop (admitted None) τ v.2
          (record { drops = jump-none sw T off' loop σ; reports = ap (λ (b : Bool). left_behind T b (four s (p.at + 1)) (at_jump loop) σ) off' ∙ sym (ed (four s (p.at + 1))); settles = λ d. refl }) span es st warns);
    }

  pub jump-cleared : {before' out out' : List ℕ} (put : Put) (q : Place) → Copied s p put (p.at + 5) out q out' → (sw : Switches) → sw.jumps ≡ true → (T : Tables) (σ : Scope Status) (loop : Maybe ℕ) (τ : Scope Status)
      → collect (states off) T (admitted None) 0 τ ≡ collect (states off) T (λ l. in_loop loop l) 0 σ
      → Stored before' p.written (delete_bytes (collect (states off) T (admitted None) 0 τ)) out put.at × (put.count ≡ length (collect (states off) T (admitted None) 0 τ))
      → (warns left : List ℕ) → ActsThere sw T s loop σ p before' warns left (record { place = q; change = Nothing; taken = None }) out' warns left
  jump-cleared {before'} {out} {out'} put q w sw on' T σ loop τ ed dr warns left = record {
    acts = λ f t x next r deep read.
        let v = front-jump T s small p.at f t x next read k r in
        subst (λ c. Acts sw T c loop σ p before' warns left (record { place = q; change = Nothing; taken = None }) out' warns left) (sym v.1)
        (clears-acts s small p 5 (omega arith) jump-reach put q w sw T σ _ loop (collect (states off) T (admitted None) 0 τ) v.2
        (record { drops = ap (λ (b : Bool). collect (states off) T (λ l. b && in_loop loop l) 0 σ) on' ∙ sym ed; reports = ap (λ (b : Bool). left_behind T b (four s (p.at + 1)) (at_jump loop) σ) on'; settles = λ d. refl }) dr warns left);
  }

-- an expression statement
delete-bytes : (p : ℕ) (e : Expr) → (10 ∷ (four_bytes p ++ two_bytes 0)) ++ encode_expr e ≡ encode_expr (delete_node p e)
unfolding encode_expr number_bytes arg_width count_width last_width four_bytes two_bytes
delete-bytes p e =
    let z : encode_expr e ≡ (encode_expr e ++ []) ++ [] = sym (append-nil (encode_expr e ++ []) ∙ append-nil (encode_expr e)) in
    ap (λ l. (10 ∷ (four_bytes p ++ two_bytes 0)) ++ l) z

own-bytes : (w : Bool) (callee : Option ℕ) (at p : ℕ) (e : Expr) → callee ≡ cond w (Some (callee_at e at)) None → wrapping callee p ++ encode_expr e ≡ encode_expr (cond w (delete_node p e) e)
own-bytes true callee at p e ec = rw ec (delete-bytes p e)
own-bytes false callee at p e ec = rw ec refl

own-told : (w : Bool) (callee : Option ℕ) (at p : ℕ) (e : Expr) → callee ≡ cond w (Some (callee_at e (at + 5))) None → warning_at callee p ≡ unused w p e at
own-told true callee at p e ec = rw ec refl
own-told false callee at p e ec = rw ec refl

own-errors : (w : Bool) (p : ℕ) (e : Expr) (at : ℕ) → errors (unused w p e at) ≡ []
own-errors true p e at = refl
own-errors false p e at = refl

own-warnings : (w : Bool) (p : ℕ) (e : Expr) (at : ℕ) → warnings (unused w p e at) ≡ unused w p e at
own-warnings true p e at = refl
own-warnings false p e at = refl

own-lefts : (w : Bool) (p : ℕ) (e : Expr) (at : ℕ) → lefts (unused w p e at) ≡ []
own-lefts true p e at = refl
own-lefts false p e at = refl

pub head-room : (callee : Option ℕ) (p : ℕ) → length (wrapping callee p) ≤ 7
unfolding four_bytes two_bytes
head-room None p = omega arith
head-room (Some callee) p = omega arith

-- a callee stands within the bytes
pub callee-room : (callee : Option ℕ) (n : ℕ) → n ≤ 65536 → IfSome callee (λ c. c < n + 8) → IfSome callee (λ c. c < 4294967296)
callee-room None n h b = b
callee-room (Some c) n h b = omega arith

pub warns-none : (b : Bool) {callee : Option ℕ} → callee ≡ None → (span : ℕ) (out : List ℕ) (written : ℕ) (warns : List ℕ) (told : ℕ)
    → WarnsAt b callee span out written warns told (record { written = written; warnings = told }) out warns
warns-none b e span out written warns told = record {
  bytes = λ n. rw e (none-stored out written);
  warned = λ n. rw e (none-stored warns told);
  lines = λ y h. rw (e, shown-none) (none-stored out told);
  long = rw e (sym (add-zero written));
  few = omega arith;
}

pub warns-some : (b : Bool) {found : Option ℕ} {callee span : ℕ} → found ≡ Some callee → {m : ℕ} → m ≡ span → {out mid out' : List ℕ} {written next : ℕ} → Stored out written (10 ∷ (four_bytes m ++ two_bytes 0)) mid next
    → {warns warns' : List ℕ} {told more : ℕ} → Listed b (warning m callee ∷ []) warns mid told warns' out' more → more ≤ told + 73
    → WarnsAt b found span out written warns told (record { written = next; warnings = more }) out' warns'
warns-some b {found} {callee} {span} is {m} es {out} {mid} {out'} {written} {next} a {warns} {warns'} {told} {more} l few =
    subst (λ z. WarnsAt b found z out written warns told (record { written = next; warnings = more }) out' warns') es
    (record {
      bytes = λ n. rw is (subst (λ (x : List ℕ). Stored out written (10 ∷ (four_bytes m ++ two_bytes 0)) x next) (sym (l.numbers n).0) a);
      warned = λ n. rw is (l.numbers n).1;
      lines = λ y h. rw is (subst (λ (x : List ℕ). Stored x told (shown_all (warning m callee ∷ [])) out' more) (past a h).0 (l.lines y));
      long = rw is a.place;
      few = few;
    })

module _ (s : List ℕ) (small : Bytes s) (p : Place) (end : ℕ) (g : FrontThere s p.at end) (k : get_or s p.at 0 ≡ 3) where
  pub expr-reach : (p.at + 12 ≤ end) × (end ≤ length s)
  unfolding head_bytes value_flag value_count
  expr-reach =
      let v = stmt-expr g.f g.t s p.at g.x g.next g.read k in
      let st = stands g.t s g.t.expr_depth (p.at + 5) v.0 g.next v.2 in
      let z : end ≡ g.next = one_value s p.at end g 3 k (omega arith) refl v.0 g.next st in
      let a = order v.0 s _ _ st in
      let b = ends v.0 s _ _ st in
      (omega arith, omega arith)

  -- what is copied and put
  module _ {out o1 o2 out' warns warns' : List ℕ} {i j : ℕ} (callee : Option ℕ) (r : Warned) (head : Stored out p.written (slice p.at (p.at + 5) s) o1 i)
      (mid : WarnsAt p.paged callee (four s (p.at + 1)) o1 i warns p.warnings r o2 warns') (tail : Stored o2 r.written (slice (p.at + 5) end s) out' j) where
    abbrev pub place : Place
    place = record { at = end; last = p.at; written = j; errors = p.errors; warnings = r.warnings; lefts = p.lefts; inserted = p.inserted; fits = p.fits; paged = p.paged }

    pub expr-grows : Grows s p place
    expr-grows =
        let e = expr-reach in
        let a = e.0 in
        let b = e.1 in
        let x = head.place in
        let lx = length-slice p.at (p.at + 5) s (omega arith) in
        let y = mid.long in
        let ly = head-room callee (four s (p.at + 1)) in
        let z = tail.place in
        let lz = length-slice (p.at + 5) end s b in
        let u = mid.few in
        record { on = omega arith; inside = b; written = omega arith; errors = omega arith; warnings = omega arith; lefts = omega arith; inserted = omega arith }

    pub expr-acts : (change : Change) (sw : Switches) (T : Tables) (σ : Scope Status)
        → ((e : Expr) (next : ℕ) → Stands e s (p.at + 5) next → callee ≡ cond (auto T (ty_of e) && is_call (viewed e)) (Some (callee_at e (p.at + 5))) None)
        → ((e : Expr) (next : ℕ) → Stands e s (p.at + 5) next → change ≡ delete_of (deleted_name (viewed e)))
        → (left : List ℕ) (loop : Maybe ℕ) → ActsThere sw T s loop σ p out warns left (record { place = place; change = change; taken = None }) out' warns' left
    unfolding head_bytes value_flag value_count
    expr-acts change sw T σ ec ed left loop = record {
      acts = λ f t x next rest deep read.
          let v = stmt-expr f t s p.at x next read k in
          let l : p.at + 5 ≤ length s = v.1 in
          let st = stands t s t.expr_depth (p.at + 5) v.0 next v.2 in
          let w = expr-written s small t t.expr_depth (p.at + 5) v.0 next v.2 in
          let z : end ≡ next = one_value s p.at end g 3 k (omega arith) refl v.0 next st in
          let n = w.end in
          let c = ec v.0 next st in
          let h : slice p.at (p.at + 5) s ≡ 3 ∷ four_bytes (four s (p.at + 1)) = written-slice (head_bytes_lem s small p.at 3 k l) in
          let m : slice (p.at + 5) end s ≡ encode_expr v.0 = ap (λ y. slice (p.at + 5) y s) z ∙ written-slice w in
          let span = four s (p.at + 1) in
          let wrap = auto T (ty_of v.0) && is_call (viewed v.0) in
          let told : warning_at callee span ≡ unused wrap span v.0 p.at = own-told wrap callee p.at span v.0 c in
          let whole : slice p.at (p.at + 5) s ++ (wrapping callee span ++ slice (p.at + 5) end s) ≡ (3 ∷ four_bytes span) ++ encode_expr (cond wrap (delete_node span v.0) v.0) =
          ap (λ y. y ++ (wrapping callee span ++ slice (p.at + 5) end s)) h ∙ ap (λ y. (3 ∷ four_bytes span) ++ (wrapping callee span ++ y)) m
          ∙ ap (λ y. (3 ∷ four_bytes span) ++ y) (own-bytes wrap callee (p.at + 5) span v.0 c) in
          subst (λ y. Acts sw T y loop σ p out warns left (record { place = place; change = change; taken = None }) out' warns' left) (sym (v.3 rest)) (record {
            bytes = λ n. subst (λ y. Stored out p.written y out' j) whole (both_stored head (both_stored (mid.bytes n) tail));
            warned = λ n. subst (λ y. Stored warns p.warnings (entries_of version1 y) warns' r.warnings) (told ∙ sym (own-warnings wrap span v.0 p.at)) (mid.warned n);
            listed = λ n. subst (λ y. Stored left p.lefts (entries_of version1 y) left p.lefts) (sym (own-lefts wrap span v.0 p.at)) (none-stored left p.lefts);
            lines = λ y h.
                let a = past head h in
                let x = subst (λ z. Stored z p.warnings (shown_all (warning_at callee span)) o2 r.warnings) a.0 (mid.lines y a.1) in
                let w : out' ≡ o2 = (past tail (let k = stored-length x in let l = mid.long in let f = ap length a.0 in let g = a.1 in omega arith)).0 in
                subst (λ z. Lined (cursors_at p) (unused wrap span v.0 p.at) out (cursors_at place) z) (sym w)
                (lined-warnings p.errors p.warnings p.lefts (own-errors wrap span v.0 p.at) (own-warnings wrap span v.0 p.at) (own-lefts wrap span v.0 p.at)
                (subst (λ z. Stored out p.warnings (shown_all z) o2 r.warnings) told x));
            long = tail.place ∙ rw (mid.long, head.place) (sym (long_of (slice p.at (p.at + 5) s) (wrapping callee span) (slice (p.at + 5) end s) p.written) ∙ ap (λ y. p.written + length y) whole);
            paged = refl;
            errors = refl;
            inserted = sym (add-zero p.inserted);
            last = refl;
            fits = refl;
            at = omega arith;
            settles = λ d. ap (λ y. change_in d y σ) (ed v.0 next st) ∙ delete-is T (shape σ) d (viewed v.0) σ;
          });
    }

-- a Return whose flag is not 1
pub bare-there : (s : List ℕ) (at end : ℕ) → FrontThere s at end → get_or s at 0 ≡ 2 → (get_or s (at + 5) 0 ≡ 1 → ⊥) → FrontThere s at (at + 6) × (get_or s (at + 5) 0 ≡ 0)
unfolding head_bytes value_flag value_count
bare-there s at end g k ne =
    let v = stmt-return g.f g.t s at g.x g.next g.read k in
    let l = v.flag in
    let o : get_or s (at + 5) 0 ≡ 0 = ⊎_elim (λ z. absurd (ne (omega arith))) (λ z. omega arith) (less 0 (get_or s (at + 5) 0)) in
    (subst (FrontThere s at) (no_value s at end g 2 k (omega arith) (omega arith)) g, o)

-- a Break or Continue has no values
pub jump-there : (s : List ℕ) (at end : ℕ) → FrontThere s at end → 8 < get_or s at 0 → FrontThere s at (at + 5)
unfolding head_bytes value_flag value_count
jump-there s at end g low =
    let high = (stmt-tag g.f g.t s at g.x g.next g.read).1 in
    ⊎_elim {C = FrontThere s at (at + 5)}
    (λ c. let k : get_or s at 0 ≡ 9 = omega arith in subst (FrontThere s at) (no_value s at end g 9 k (omega arith) refl) g)
    (λ c. let k : get_or s at 0 ≡ 10 = omega arith in subst (FrontThere s at) (no_value s at end g 10 k (omega arith) refl) g)
    (less (get_or s at 0) 10)

-- the tag that the code tests
pub tag-there : {s : List ℕ} {at end : ℕ} → FrontThere s at end → at < length s
tag-there {s} {at} g = within s at (get_or s at 0) refl (stmt-tag g.f g.t s at g.x g.next g.read).0
