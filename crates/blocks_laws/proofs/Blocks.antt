-- A block: its head, its statements, its end; where it ends; a Block statement.
-- Assumes nothing.
use Prim.Native.Nat.{ℕ, zero, suc, ◌+◌, ◌-◌, ◌%◌, ◌≤◌}
use native.Mathlib.Omega.{arith}
use mathlib.Core.Path.{◌≡◌, refl, sym, ap, ◌∙◌, subst}
use mathlib.Core.Bool.{Bool, true, false, ◌&&◌}
use mathlib.Core.List.{List, ◌++◌, append-nil}
use borrow.Author.Tests.{leb-true}
use lib.ListN.{length, length-append}
use Rattle.image_fields.proofs.Tests.{false-true}
use lib.Dec.{leb}
use lib.Seq.{sets}
use Rattle.image_fields.specs.Number.{two, four}
use Rattle.image_fields.specs.Bytes.{two_bytes, four_bytes, Bytes}
use Rattle.tables.specs.Limits.{version1}
use Rattle.tables.specs.Tables.{Tables}
use Rattle.image_body.specs.Expr.{Scope as Reading}
use Rattle.image_body.specs.Stmt.{Tree, Block, done, block, block_at}
use Rattle.image_body.proofs.Statements.{BlockParts}
use Rattle.image_encoding.specs.Body.{size, encode_code, with_count, encode_block}
use Rattle.rules.specs.State.{State as Status}
use Rattle.rules.specs.Stack.{Stack as Scope}
use Rattle.rules.specs.Rules.{Drop, states, sure_from, exit, Switches}
use Rattle.rules.specs.Report.{Report, report, inserts, errors, warnings, lefts, code_bytes}
use Rattle.rules.specs.Verdict.{entries_of, counts_fit}
use Rattle.statements_steps.specs.Drops.{delete_bytes}
use Rattle.image_writing.specs.Stored.{Stored}
use Rattle.image_writing.proofs.Stores.{both_stored, patched, two-length, four-length}
use Rattle.image_lines.specs.Lined.{Cursors}
use Rattle.image_lines.specs.Told.{Lined}
use Rattle.image_lines.proofs.Cursors.{lined-length}
use Rattle.image_lines.proofs.Told.{past}
use Rattle.statements_steps.specs.Own.{returned, number_of}
use Rattle.statements_steps.proofs.Steps.{inserts-bytes, inserts-size, inserts-fit}
use Rattle.statements_acts.specs.declared.Place.{Place}
use Rattle.statements_acts.specs.Act.{cursors_at}
use Rattle.image_writing.specs.Memory.{Memory}
use Rattle.blocks_laws.specs.Walks.{Walked, Leads, BlockDone, BlocksWalk}
use Rattle.blocks_laws.specs.Ends.{tail, Ends}
use Rattle.blocks_laws.proofs.Wrotes.{and_left, stored-as}
use Rattle.blocks_laws.proofs.Leads.{leads-end}
use mathlib.Core.Option.{Option, none}
use Rattle.image_fields.specs.Parsed.{ok}
use Rattle.image_encoding.proofs.BodyWritten.{block_written}
use Rattle.rules.specs.Walk.{walk_fault}

fits-order : (a b c : Bool) → ((a && b) && c) ≡ (a && (c && (b && true)))
fits-order true true true = refl
fits-order true true false = refl
fits-order true false true = refl
fits-order true false false = refl
fits-order false b c = refl

and_right : (a b : Bool) → (a && b) ≡ true → b ≡ true
and_right true b e = e
and_right false b e = false-true e

code-end : (x : List Drop) → encode_code (inserts x (done tt)) ≡ delete_bytes x
unfolding encode_code
code-end x = inserts-bytes x (done tt) ∙ append-nil (delete_bytes x)

size-end : (x : List Drop) → size (inserts x (done tt)) ≡ length x
unfolding size
size-end x = let h = inserts-size x (done tt) in omega arith

fits-end : (x : List Drop) → counts_fit 65535 (inserts x (done tt)) ≡ true
unfolding counts_fit
fits-end x = inserts-fit 65535 x (done tt)

rest-low : (k : ℕ) → k ≤ 65535 → k % 65536 ≡ k
rest-low k h = omega arith

-- the place behind a block's head
pub record Inside (s : List ℕ) (p q : Place) (gap : ℕ) : Type 0 where
  pub at : q.at ≡ p.at + 6
  pub written : q.written ≡ gap + 2
  pub errors : q.errors ≡ p.errors
  pub warnings : q.warnings ≡ p.warnings
  pub lefts : q.lefts ≡ p.lefts
  pub inserted : q.inserted ≡ 0
  pub fits : q.fits ≡ p.fits
  pub paged : q.paged ≡ p.paged

module _ (sw : Switches) (T : Tables) (s : List ℕ) (t : Reading) (deep : t.expr_depth ≡ 24) (left d : ℕ) (loop : Option ℕ) (b : Block) (n : ℕ) (σ σ' : Scope Status)
    (p q p' : Place) (m m₁ m₂ : Memory) (gap : ℕ) (r : Walked) (out' : List ℕ)
    (parts : BlockParts t s left p.at b n) (inside : Inside s p q gap)
    (head : Stored m.out p.written (four_bytes (four s p.at)) m₁.out gap)
    (g : Leads sw T s t (left - 1) d loop (two s (p.at + 4)) b.code σ q m₁ 0 σ' p' m₂ n)
    (e : Ends sw T s left d σ' p gap p' m₂.out r out') where
  abbrev ds : List Drop
  ds = tail sw T r.sure d (four s p.at) σ'

  abbrev count : ℕ
  count = two s (p.at + 4) + p'.inserted + length ds

  ended : (g.c ≡ done tt) × (n ≡ p'.at)
  ended = leads-end sw T s t (left - 1) d loop (two s (p.at + 4)) b.code σ q m₁ n σ' p' m₂ g

  -- the last statement says whether the block surely returns
  surely : (k : ℕ) → two s (p.at + 4) ≡ k → r.sure ≡ g.f
  surely zero z = e.none_last z ∙ sym (g.first (sym z))
  surely (suc k) z =
      let l = g.last (omega arith) in
      e.some-last (omega arith) t deep l.0 l.1 l.2 ∙ sym l.3

  sure : r.sure ≡ g.f
  sure = surely (two s (p.at + 4)) refl

  -- what is left of the statements are the deletes
  left_over : (c : Tree) → g.c ≡ c → c ≡ done tt → returned sw T g.c (four s p.at) d loop g.f σ' ≡ inserts ds (done tt)
  left_over c ec ed = ap (λ (x : Tree). returned sw T x (four s p.at) d loop g.f σ') (ec ∙ ed) ∙ ap (λ (f : Bool). inserts (tail sw T f d (four s p.at) σ') (done tt)) (sym sure)

  over : returned sw T g.c (four s p.at) d loop g.f σ' ≡ inserts ds (done tt)
  over = left_over (done tt) ended.0 refl

  abbrev whole : Tree
  whole = returned sw T b.code (four s p.at) d loop false σ

  code : encode_code whole ≡ g.o.bytes ++ delete_bytes ds
  code = g.bytes (four s p.at) ∙ ap (λ (x : Tree). g.o.bytes ++ encode_code x) over ∙ ap (λ (x : List ℕ). g.o.bytes ++ x) (code-end ds)

  counted : size whole ≡ count
  counted =
      let h = g.size (four s p.at) in
      let i = ap size over in
      let j = size-end ds in
      let k = inside.inserted in
      omega arith

  all_fit : counts_fit 65535 whole ≡ (g.o.fits && true)
  all_fit = g.fits (four s p.at) ∙ ap (λ (x : Tree). g.o.fits && counts_fit 65535 x) over ∙ ap (λ (x : Bool). g.o.fits && x) (fits-end ds)

  block-fits : r.place.fits ≡ (p.fits && (leb (size whole) 65535 && counts_fit 65535 whole))
  block-fits =
      e.fits ∙ ap (λ (x : Bool). x && leb count 65535) (g.wrote.fits ∙ ap (λ (x : Bool). x && g.o.fits) inside.fits)
      ∙ fits-order p.fits g.o.fits (leb count 65535)
      ∙ ap (λ (x : Bool). p.fits && (leb count 65535 && x)) (sym all_fit)
      ∙ ap (λ (k : ℕ). p.fits && (leb k 65535 && counts_fit 65535 whole)) (sym counted)

  block-bytes : p.paged ≡ false → r.place.fits ≡ true → Stored m.out p.written (with_count (four s p.at) (size whole) (encode_code whole)) out' r.place.written
  block-bytes n fit =
      let both = sym e.fits ∙ fit in
      let low : count ≤ 65535 = leb-true count 65535 (and_right p'.fits (leb count 65535) both) in
      let body = both_stored (g.wrote.bytes (inside.paged ∙ n) (and_left p'.fits (leb count 65535) both)) e.deletes in
      let l : length (two_bytes (count % 65536)) ≡ 2 = two-length (count % 65536) in
      let gapped : gap + length (two_bytes (count % 65536)) ≡ q.written = let w = inside.written in omega arith in
      stored-as (ap (λ (x : List ℕ). four_bytes (four s p.at) ++ (two_bytes (size whole) ++ x)) code
      ∙ ap (λ (k : ℕ). four_bytes (four s p.at) ++ (two_bytes k ++ (g.o.bytes ++ delete_bytes ds))) (counted ∙ sym (rest-low count low)))
      (both_stored head (patched gapped body e.counts))

  block-long : r.place.written ≡ p.written + length (with_count (four s p.at) (size whole) (encode_code whole))
  block-long =
      let a = length-append (four_bytes (four s p.at)) (two_bytes (size whole) ++ encode_code whole) in
      let b = length-append (two_bytes (size whole)) (encode_code whole) in
      let c = ap length code in
      let f = length-append g.o.bytes (delete_bytes ds) in
      let h = two-length (size whole) in
      omega (arith, head.place, inside.written, g.wrote.long, e.deletes.place)

  told : report sw T b.code d loop (p.at + 6) σ ≡ g.o.reports
  told =
      ap (λ (k : ℕ). report sw T b.code d loop k σ) (sym inside.at) ∙ g.reports
      ∙ ap (λ (x : Tree). g.o.reports ++ report sw T x d loop p'.at σ') ended.0 ∙ append-nil g.o.reports

  -- where a page is made, head, deletes and count are past the end
  block-lines : p.paged ≡ true → length m.out ≤ p.written → Lined (cursors_at p) (report sw T b.code d loop (p.at + 6) σ) m.out (cursors_at r.place) out'
  block-lines y h =
      let a = past head h in
      let i = inside.written in
      let u = g.wrote.lines (inside.paged ∙ y) (let z = a.1 in omega arith) in
      let l = lined-length (cursors_at q) g.o.reports m₁.out in
      let k = ap length u.cells in
      let o = ap length a.0 in
      let w = g.wrote.long in
      let hp = head.place in
      let f = four-length (four s p.at) in
      let v = past e.deletes (let z = a.1 in omega arith) in
      let ov = ap length v.0 in
      let x = (past e.counts (omega arith)).0 ∙ v.0 in
      subst (λ (z : List Report). Lined (cursors_at p) z m.out (cursors_at r.place) out') (sym told)
      (subst (λ (z : List ℕ). Lined (cursors_at p) g.o.reports m.out (cursors_at r.place) z) (sym x)
      (subst (λ (z : List ℕ). Lined (cursors_at p) g.o.reports z (cursors_at r.place) m₂.out) a.0
      (subst (λ (z : Cursors). Lined z g.o.reports m₁.out (cursors_at r.place) m₂.out) (rw (inside.errors, inside.warnings, inside.lefts))
      (subst (λ (z : Cursors). Lined (cursors_at q) g.o.reports m₁.out z m₂.out) (rw (e.errors, e.warnings, e.lefts)) u))))

  -- lists are stored by the statements alone
  listed : (f : List Report → List Report) {old old₁ new new₁ : List ℕ} {i j k l : ℕ} → old₁ ≡ old → new ≡ new₁ → j ≡ i → l ≡ k
      → Stored old₁ j (entries_of version1 (f g.o.reports)) new₁ k → Stored old i (entries_of version1 (f (report sw T b.code d loop (p.at + 6) σ))) new l
  listed f {old} {old₁} {new} {new₁} {i} {j} {k} {l} eo en ej el x =
      stored-as (ap (λ (y : List Report). entries_of version1 (f y)) told)
      (record {
        cells = en ∙ x.cells ∙ ap (λ (y : List ℕ). sets y j (entries_of version1 (f g.o.reports))) eo ∙ ap (λ (y : ℕ). sets old y (entries_of version1 (f g.o.reports))) ej;
        place = el ∙ x.place ∙ ap (λ (y : ℕ). y + length (entries_of version1 (f g.o.reports))) ej;
      })

  pub block-done : (m' : Memory) → m₁.errs ≡ m.errs → m₁.warns ≡ m.warns → m₁.lefts ≡ m.lefts
      → m'.out ≡ out' → m'.errs ≡ m₂.errs → m'.warns ≡ m₂.warns → m'.lefts ≡ m₂.lefts → BlockDone sw T b d loop σ p m r m' n
  block-done m' a₁ a₂ a₃ b₀ b₁ b₂ b₃ = record {
    wrote = record {
      bytes = λ n fit.
          subst (λ (x : List ℕ). Stored m.out p.written (with_count b.span (size (returned sw T b.code b.span d loop false σ)) (encode_code (returned sw T b.code b.span d loop false σ))) x r.place.written) (sym b₀)
          (subst (λ (sp : ℕ). Stored m.out p.written (with_count sp (size (returned sw T b.code sp d loop false σ)) (encode_code (returned sw T b.code sp d loop false σ))) out' r.place.written) (sym parts.span)
          (block-bytes n fit));
      errors = λ n. listed errors a₁ b₁ inside.errors e.errors (g.wrote.errors (inside.paged ∙ n));
      warnings = λ n. listed warnings a₂ b₂ inside.warnings e.warnings (g.wrote.warnings (inside.paged ∙ n));
      lefts = λ n. listed lefts a₃ b₃ inside.lefts e.lefts (g.wrote.lefts (inside.paged ∙ n));
      lines = λ y h. subst (λ (x : List ℕ). Lined (cursors_at p) (report sw T b.code d loop (p.at + 6) σ) m.out (cursors_at r.place) x) (sym b₀) (block-lines y h);
      paged = e.paged ∙ g.wrote.paged ∙ inside.paged;
      long = subst (λ (sp : ℕ). r.place.written ≡ p.written + length (with_count sp (size (returned sw T b.code sp d loop false σ)) (encode_code (returned sw T b.code sp d loop false σ)))) (sym parts.span) block-long;
      fits = subst (λ (sp : ℕ). r.place.fits ≡ (p.fits && (leb (size (returned sw T b.code sp d loop false σ)) 65535 && counts_fit 65535 (returned sw T b.code sp d loop false σ)))) (sym parts.span) block-fits;
    };
    inserted = e.inserted;
    last = e.last;
    at = e.at ∙ sym ended.1;
    locals = e.locals ∙ sym (g.after ∙ ap (λ (x : Tree). exit (states sw) T x d σ') ended.0);
    sure = sure ∙ sym (g.sure ∙ ap (λ (x : Tree). sure_from x g.f) ended.0);
  }

-- where a block ends
pub block-end : (s : List ℕ) → Bytes s → (t : Reading) (left at : ℕ) (b : Block) (next : ℕ) → block_at t s left at ≡ ok b next → next ≡ at + (6 + code_bytes b.code)
unfolding encode_block
block-end s small t left at b next e =
    let w = (block_written s small t left at b next e).end in
    let f = four-length b.span in
    let u = two-length (size b.code) in
    let l = length-append (four_bytes b.span) (two_bytes (size b.code) ++ encode_code b.code) in
    let k = length-append (two_bytes (size b.code)) (encode_code b.code) in
    omega arith

module _ (sw : Switches) (T : Tables) (s : List ℕ) (small : Bytes s) (t : Reading) (left d : ℕ) (loop : Option ℕ) (σ : Scope Status) (p : Place) (m : Memory) where
  -- a Block statement
  pub block-blocks : (b : Block) (r : Walked) (m' : Memory) (next : ℕ) → (r.fault ≡ number_of (walk_fault version1 sw T b.code (suc d) σ))
      × (walk_fault version1 sw T b.code (suc d) σ ≡ none → BlockDone sw T b (suc d) loop σ p m r m' next) → (c : Tree) → BlocksWalk sw T (block b.span b.code c) d loop σ p m r m' next
  block-blocks b r m' next h c = record {
    fault = h.0;
    done = λ e. let g = h.1 e in record { wrote = g.wrote; inserted = g.inserted; last = g.last; at = g.at; locals = g.locals };
  }
