-- The statements of a block one after another: one statement more, the first fault, the end.
-- Assumes nothing.
use Prim.Native.Nat.{ℕ, ◌+◌, ◌-◌, ◌<◌}
use native.Mathlib.Omega.{arith}
use mathlib.Core.Path.{◌≡◌, refl, sym, ap, ◌∙◌, subst}
use mathlib.Core.Bool.{Bool, true, false, ◌&&◌}
use mathlib.Core.List.{List, ◌++◌, append_assoc}
use mathlib.Core.Option.{Option, none}
use Rattle.image_fields.specs.Parsed.{ok}
use Rattle.image_fields.specs.Bytes.{Bytes}
use Rattle.tables.specs.Limits.{version1}
use Rattle.tables.specs.Tables.{Tables}
use Rattle.tables_lookup.specs.First.{or_else}
use Rattle.image_body.specs.Expr.{Scope as Reading}
use Rattle.image_body.specs.Stmt.{Tree, Stmt, done, before, block_at, stmt_in, stmts_at}
use Rattle.image_body.proofs.Statements.{stmts-none, stmts-more}
use Rattle.image_encoding.specs.Body.{size, encode_code}
use Rattle.rules.specs.State.{State as Status}
use Rattle.rules.specs.Stack.{Stack as Scope}
use Rattle.rules.specs.Rules.{states, sure_from, exit, Switches}
use Rattle.rules.specs.Report.{Report, report}
use Rattle.rules.specs.Walk.{walk_fault}
use Rattle.rules.specs.Verdict.{counts_fit}
use Rattle.statements_steps.specs.Statement.{front_size}
use Rattle.statements_steps.specs.Own.{nothing, both, returned}
use Rattle.statements_steps.proofs.Whole.{rest_of, blocks_size, own, own_fault, own_after, sure_of}
use Rattle.statements_steps.proofs.Steps.{exit-step, fault-step, sure_step, bytes-step, size_step, fits-step, report-step}
use Rattle.statements_steps.proofs.Before.{rest-before, going_before, sure-before, stmt-end}
use Rattle.statements_acts.specs.declared.Place.{Place}
use Rattle.image_writing.specs.Memory.{Memory}
use Rattle.blocks_laws.specs.Walks.{Leads}
use Rattle.blocks_laws.proofs.Statements.{StmtDone}
use Rattle.blocks_laws.proofs.Wrotes.{Alike, wrote_nothing, wrote-both}

alike : (p : Place) → Alike p p
alike p = record { written = refl; errors = refl; warnings = refl; lefts = refl; fits = refl; paged = refl }

and_assoc : (a b c : Bool) → (a && (b && c)) ≡ ((a && b) && c)
and_assoc true b c = refl
and_assoc false b c = refl

else-none : (x : Option ℕ) → or_else none x ≡ x
unfolding or_else
else-none x = refl

module _ (sw : Switches) (T : Tables) (s : List ℕ) (small : Bytes s) (t : Reading) (left d : ℕ) (loop : Option ℕ) (total : ℕ) (c₀ : Tree) (σ₀ : Scope Status) (p₀ : Place) (m₀ : Memory) (end : ℕ) where
  pub leads-start : stmts_at t s left total p₀.at ≡ ok c₀ end → Leads sw T s t left d loop total c₀ σ₀ p₀ m₀ total σ₀ p₀ m₀ end
  leads-start e = record {
    c = c₀;
    f = false;
    o = nothing;
    few = omega arith;
    read = e;
    wrote = wrote_nothing (alike p₀);
    bytes = λ sp. refl;
    reports = refl;
    fits = λ sp. refl;
    size = λ sp. refl;
    fault = refl;
    after = refl;
    sure = refl;
    first = λ h. refl;
    last = λ h. absurd (omega arith);
  }

  module _ (n : ℕ) (σ : Scope Status) (p : Place) (m : Memory) (some : 0 < n) (g : Leads sw T s t left d loop total c₀ σ₀ p₀ m₀ n σ p m end) where
    -- the next statement, where it ends, and the statements behind it
    pub record Next : Type 0 where
      pub x : Stmt
      pub next : ℕ
      pub rest : Tree
      pub read : stmt_in t s left p.at ≡ ok x next
      pub others : stmts_at t s left (n - 1) next ≡ ok rest end
      pub is : g.c ≡ before x rest

    pub next_of : Next
    next_of =
        let k = stmts-more (block_at t s left) t s n p.at some g.read in
        record { x = k.0; next = k.1; rest = k.2; read = k.3; others = k.4; is = k.5 }

    module _ (k : Next) where
      abbrev here : Tree
      here = before k.x k.rest

      -- a fault of the next statement is the first
      pub leads-fault : walk_fault version1 sw T c₀ d σ₀ ≡ or_else (own_fault sw T (before k.x k.rest) d σ) (walk_fault version1 sw T (rest_of (before k.x k.rest)) d (own_after sw T (before k.x k.rest) d σ))
      leads-fault = g.fault ∙ ap (λ (c : Tree). walk_fault version1 sw T c d σ) k.is ∙ fault-step sw T (before k.x k.rest) d σ

      pub leads-next : (q : Place) (m' : Memory) (σ' : Scope Status) → own_fault sw T (before k.x k.rest) d σ ≡ none
          → StmtDone sw T (before k.x k.rest) d loop σ p m q m' σ' k.next → Leads sw T s t left d loop total c₀ σ₀ p₀ m₀ (n - 1) σ' q m' end
      leads-next q m' σ' clear a =
          let u = own sw T here d loop p.at σ in
          let going = going_before k.x k.rest in
          let rest = rest-before k.x k.rest in
          let b : sure_from (before k.x (done tt)) false ≡ sure_of here = sure-before k.x k.rest in
          record {
            c = k.rest;
            f = sure_of here;
            o = both g.o u;
            few = let h = g.few in omega arith;
            read = subst (λ (i : ℕ). stmts_at t s left (n - 1) i ≡ ok k.rest end) (sym a.at) k.others;
            wrote = wrote-both g.wrote a.wrote;
            bytes = λ sp.
                g.bytes sp
                ∙ ap (λ (c : Tree). g.o.bytes ++ encode_code (returned sw T c sp d loop g.f σ)) k.is
                ∙ ap (λ (x : List ℕ). g.o.bytes ++ x) (bytes-step sw T here sp d g.f σ loop p.at going)
                ∙ ap (λ (c : Tree). g.o.bytes ++ (u.bytes ++ encode_code (returned sw T c sp d loop (sure_of here) (own_after sw T here d σ)))) rest
                ∙ ap (λ (τ : Scope Status). g.o.bytes ++ (u.bytes ++ encode_code (returned sw T k.rest sp d loop (sure_of here) τ))) (sym a.locals)
                ∙ sym (append_assoc g.o.bytes u.bytes (encode_code (returned sw T k.rest sp d loop (sure_of here) σ')));
            reports =
                let e : p.at + front_size here + blocks_size here ≡ q.at = sym (stmt-end s small t left p.at k.x k.next k.read k.rest) ∙ sym a.at in
                g.reports
                ∙ ap (λ (c : Tree). g.o.reports ++ report sw T c d loop p.at σ) k.is
                ∙ ap (λ (x : List Report). g.o.reports ++ x) (report-step sw T here d loop p.at σ)
                ∙ ap (λ (c : Tree). g.o.reports ++ (u.reports ++ report sw T c d loop (p.at + front_size here + blocks_size here) (own_after sw T here d σ))) rest
                ∙ ap (λ (τ : Scope Status). g.o.reports ++ (u.reports ++ report sw T k.rest d loop (p.at + front_size here + blocks_size here) τ)) (sym a.locals)
                ∙ ap (λ (i : ℕ). g.o.reports ++ (u.reports ++ report sw T k.rest d loop i σ')) e
                ∙ sym (append_assoc g.o.reports u.reports (report sw T k.rest d loop q.at σ'));
            fits = λ sp.
                g.fits sp
                ∙ ap (λ (c : Tree). g.o.fits && counts_fit 65535 (returned sw T c sp d loop g.f σ)) k.is
                ∙ ap (λ (x : Bool). g.o.fits && x) (fits-step sw T here sp d g.f σ loop p.at going)
                ∙ ap (λ (c : Tree). g.o.fits && (u.fits && counts_fit 65535 (returned sw T c sp d loop (sure_of here) (own_after sw T here d σ)))) rest
                ∙ ap (λ (τ : Scope Status). g.o.fits && (u.fits && counts_fit 65535 (returned sw T k.rest sp d loop (sure_of here) τ))) (sym a.locals)
                ∙ and_assoc g.o.fits u.fits (counts_fit 65535 (returned sw T k.rest sp d loop (sure_of here) σ'));
            size = λ sp.
                let h = g.size sp in
                let i = ap (λ (c : Tree). size (returned sw T c sp d loop g.f σ)) k.is in
                let j = size_step sw T here sp d g.f σ loop going in
                let l = ap (λ (c : Tree). size (returned sw T c sp d loop (sure_of here) (own_after sw T here d σ))) rest in
                let v = ap (λ (τ : Scope Status). size (returned sw T k.rest sp d loop (sure_of here) τ)) (sym a.locals) in
                let w = a.inserted in
                omega arith;
            fault =
                leads-fault
                ∙ ap (λ (x : Option ℕ). or_else x (walk_fault version1 sw T (rest_of here) d (own_after sw T here d σ))) clear
                ∙ else-none (walk_fault version1 sw T (rest_of here) d (own_after sw T here d σ))
                ∙ ap (λ (c : Tree). walk_fault version1 sw T c d (own_after sw T here d σ)) rest
                ∙ ap (walk_fault version1 sw T k.rest d) (sym a.locals);
            after =
                g.after
                ∙ ap (λ (c : Tree). exit (states sw) T c d σ) k.is
                ∙ exit-step sw T here d σ
                ∙ ap (λ (c : Tree). exit (states sw) T c d (own_after sw T here d σ)) rest
                ∙ ap (exit (states sw) T k.rest d) (sym a.locals);
            sure = g.sure ∙ ap (λ (c : Tree). sure_from c g.f) k.is ∙ sure_step here g.f going ∙ ap (λ (c : Tree). sure_from c (sure_of here)) rest;
            first = λ h. absurd (let l = g.few in omega arith);
            last = λ h. (k.x, k.next, subst (λ (i : ℕ). stmt_in t s left i ≡ ok k.x k.next) (sym a.last) k.read, sym b);
          }

-- the end: nothing is left
pub leads-end : (sw : Switches) (T : Tables) (s : List ℕ) (t : Reading) (left d : ℕ) (loop : Option ℕ) (total : ℕ) (c₀ : Tree) (σ₀ : Scope Status) (p₀ : Place) (m₀ : Memory) (end : ℕ) (σ : Scope Status) (p : Place) (m : Memory)
    (g : Leads sw T s t left d loop total c₀ σ₀ p₀ m₀ 0 σ p m end) → (g.c ≡ done tt) × (end ≡ p.at)
leads-end sw T s t left d loop total c₀ σ₀ p₀ m₀ end σ p m g = stmts-none (block_at t s left) t s 0 p.at refl g.read
