-- A statement: its values, its front, and then its change or its blocks.
-- Assumes nothing.
use Prim.Native.Nat.{ℕ, ◌+◌}
use native.Mathlib.Omega.{arith}
use mathlib.Core.Path.{◌≡◌, refl, sym, ap, ◌∙◌, subst}
use mathlib.Core.Bool.{Bool, true, false, ◌&&◌}
use mathlib.Core.List.{List, ◌++◌, append-nil}
use mathlib.Core.Option.{Option, none}
use lib.ListN.{length}
use Rattle.rules.specs.Rules.{Switches}
use Rattle.image_fields.specs.Parsed.{ok}
use Rattle.image_fields.specs.Bytes.{Bytes}
use Rattle.tables.specs.Limits.{version1}
use Rattle.tables.specs.Tables.{Tables}
use Rattle.image_body.specs.Expr.{Scope as Reading}
use Rattle.image_body.specs.Stmt.{Tree, Stmt, before, stmt_in}
use Rattle.rules.specs.State.{State as Status}
use Rattle.rules.specs.Stack.{shape, Stack as Scope}
use Rattle.rules.specs.Effects.{group, resolve_all}
use Rattle.rules.specs.Report.{Report, errors, warnings, lefts}
use Rattle.rules.specs.Verdict.{entries_of}
use Rattle.image_writing.specs.Stored.{Stored}
use Rattle.image_writing.proofs.Stores.{stored-length}
use Rattle.image_lines.specs.Lined.{Cursors, cursors}
use Rattle.image_lines.specs.Told.{Listed, Lined}
use Rattle.image_lines.proofs.Told.{lined-errors, lined-both}
use Rattle.expressions_scan.proofs.Values.{told_all}
use Rattle.statements_steps.specs.Statement.{front_size, front_drops, front_reports, settle}
use Rattle.statements_steps.proofs.Whole.{values_of, blocks_size, valued, front_own, own_fault, blockless}
use Rattle.statements_steps.specs.Own.{both, blocks_own}
use Rattle.statements_steps.proofs.Lists.{Errors, errors-append, warnings-append, lefts-append, all-errors, front-errors}
use Rattle.statements_steps.proofs.Before.{stmt-end}
use Rattle.statements_steps.proofs.Plain.{blockless-own, blockless-after, blockless-size}
use Rattle.statements_acts.specs.declared.Place.{Place}
use Rattle.statements_acts.specs.declared.Act.{Act}
use Rattle.statements_acts.specs.Act.{cursors_at, Acts}
use Rattle.statements_acts.proofs.Acts.{stored-from}
use Rattle.image_writing.specs.Memory.{Memory}
use Rattle.blocks_laws.specs.Walks.{Walked, Wrote, BlocksWalk}
use Rattle.blocks_laws.proofs.Statements.{StmtDone}
use Rattle.blocks_laws.proofs.Wrotes.{stored-as, wrote-both, wrote_nothing, wrote_as}

and_none : (a b : Bool) → a ≡ b → a ≡ (b && true)
and_none true true e = refl
and_none false false e = refl
and_none true false e = e
and_none false true e = e

-- the same place, but for the errors
pub record Told (p q : Place) : Type 0 where
  pub at : q.at ≡ p.at
  pub written : q.written ≡ p.written
  pub warnings : q.warnings ≡ p.warnings
  pub lefts : q.lefts ≡ p.lefts
  pub inserted : q.inserted ≡ p.inserted
  pub fits : q.fits ≡ p.fits
  pub paged : q.paged ≡ p.paged

at_place : {xs ys vs : List ℕ} {i j k : ℕ} → i ≡ j → Stored xs i vs ys k → Stored xs j vs ys k
at_place {xs} {ys} {vs} {i} {j} {k} e x = subst (λ (n : ℕ). Stored xs n vs ys k) e x

module _ (sw : Switches) (T : Tables) (c : Tree) (d : ℕ) (loop : Option ℕ) (σ : Scope Status) (p q : Place) (a : Act) (out out₁ errs warns left out' errs' warns' left' : List ℕ) (e : Told p q)
    (told : Listed p.paged (told_all T (values_of c) σ) errs out p.errors errs' out₁ q.errors)
    (acts : Acts sw T c loop (valued T c σ) q out₁ warns left a out' warns' left') where
  abbrev before-it : Memory
  before-it = record { out = out; errs = errs; warns = warns; lefts = left }

  abbrev after-it : Memory
  after-it = record { out = out'; errs = errs'; warns = warns'; lefts = left' }

  here : Errors (told_all T (values_of c) σ)
  here = all-errors (resolve_all (shape σ) (group T false (values_of c))) σ

  abbrev fronts : List Report
  fronts = front_reports sw T c loop p.at (valued T c σ)

  pub front-wrote : Wrote (front_own sw T c loop p.at σ) p before-it a.place after-it
  front-wrote = record {
    bytes = λ n h. at_place e.written (stored-from (told.numbers n).0 (acts.bytes (e.paged ∙ n)));
    long = let l = acts.long in let w = e.written in omega arith;
    errors = λ n.
        let g : errors (told_all T (values_of c) σ ++ fronts) ≡ told_all T (values_of c) σ =
        errors-append (told_all T (values_of c) σ) fronts ∙ ap (λ (x : List Report). errors (told_all T (values_of c) σ) ++ x) (front-errors sw T c loop p.at (valued T c σ))
        ∙ append-nil (errors (told_all T (values_of c) σ)) ∙ here.0 in
        let t = (told.numbers n).1 in
        stored-as (ap (entries_of version1) g) (record { cells = t.cells; place = acts.errors ∙ t.place });
    warnings = λ n.
        let g : warnings (told_all T (values_of c) σ ++ fronts) ≡ warnings (front_reports sw T c loop q.at (valued T c σ)) =
        warnings-append (told_all T (values_of c) σ) fronts ∙ ap (λ (x : List Report). x ++ warnings fronts) here.1
        ∙ ap (λ (k : ℕ). warnings (front_reports sw T c loop k (valued T c σ))) (sym e.at) in
        stored-as (ap (entries_of version1) g) (at_place e.warnings (acts.warned (e.paged ∙ n)));
    lefts = λ n.
        let g : lefts (told_all T (values_of c) σ ++ fronts) ≡ lefts (front_reports sw T c loop q.at (valued T c σ)) =
        lefts-append (told_all T (values_of c) σ) fronts ∙ ap (λ (x : List Report). x ++ lefts fronts) here.2
        ∙ ap (λ (k : ℕ). lefts (front_reports sw T c loop k (valued T c σ))) (sym e.at) in
        stored-as (ap (entries_of version1) g) (at_place e.lefts (acts.listed (e.paged ∙ n)));
    lines = λ y h.
        let t = told.lines y in
        let l = stored-length t in
        let w = e.written in
        let u = lined-errors p.errors p.warnings p.lefts here.0 here.1 here.2 t in
        let v = acts.lines (e.paged ∙ y) (omega arith) in
        let same : cursors_at q ≡ cursors q.errors p.warnings p.lefts = rw (e.warnings, e.lefts) in
        let reported : front_reports sw T c loop q.at (valued T c σ) ≡ fronts = ap (λ (k : ℕ). front_reports sw T c loop k (valued T c σ)) e.at in
        lined-both u (subst (λ (x : Cursors). Lined x fronts out₁ (cursors_at a.place) out') same (subst (λ (x : List Report). Lined (cursors_at q) x out₁ (cursors_at a.place) out') reported v));
    fits = and_none a.place.fits p.fits (acts.fits ∙ e.fits);
    paged = acts.paged ∙ e.paged;
  }

  -- a statement without blocks: the place behind its front is the place behind it
  pub plain_done : (s : List ℕ) → Bytes s → (t : Reading) (left : ℕ) (x : Stmt) (next : ℕ) → stmt_in t s left p.at ≡ ok x next → (r : Tree) → before x r ≡ c → blockless c ≡ true
      → (σ' : Scope Status) → σ' ≡ settle T c d (valued T c σ) → StmtDone sw T c d loop σ p before-it a.place after-it σ' next
  plain_done s small t left x next read r is plain σ' loc = record {
    wrote = wrote_as (ap (both (front_own sw T c loop p.at σ)) (blockless-own sw T c d loop (p.at + front_size c) (valued T c σ) plain))
        (wrote-both front-wrote (wrote_nothing (record { written = refl; errors = refl; warnings = refl; lefts = refl; fits = refl; paged = refl })));
    inserted = acts.inserted ∙ ap (λ (k : ℕ). k + length (front_drops sw T c loop (valued T c σ))) e.inserted;
    last = acts.last ∙ e.at;
    at =
        let w = subst (λ (b : Tree). next ≡ p.at + front_size b + blocks_size b) is (stmt-end s small t left p.at x next read r) in
        let z = blockless-size c plain in
        let u = acts.at in
        let v = e.at in
        omega arith;
    locals = loc ∙ sym (blockless-after sw T c d (valued T c σ) plain);
  }

  -- a statement with blocks
  pub blocks-done : (r : Walked) (m' : Memory) (next : ℕ) → BlocksWalk sw T c d loop (valued T c σ) a.place after-it r m' next → own_fault sw T c d σ ≡ none
      → StmtDone sw T c d loop σ p before-it r.place m' r.locals next
  blocks-done r m' next g clear =
      let b = g.done clear in
      record {
        wrote = wrote_as (ap (λ (k : ℕ). both (front_own sw T c loop p.at σ) (blocks_own sw T c d loop k (valued T c σ))) (sym (acts.at ∙ ap (λ (k : ℕ). k + front_size c) e.at)))
            (wrote-both front-wrote b.wrote);
        inserted = b.inserted ∙ acts.inserted ∙ ap (λ (k : ℕ). k + length (front_drops sw T c loop (valued T c σ))) e.inserted;
        last = b.last ∙ acts.last ∙ e.at;
        at = b.at;
        locals = b.locals;
      }
