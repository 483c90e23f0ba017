-- The walk of a whole image: the bytes up to the body, the body's block, the length.
-- Assumes nothing.
use Prim.Native.Nat.{ℕ, suc, ◌+◌, ◌-◌, ◌*◌, ◌%◌, ◌≤◌, ◌<◌}
use native.Mathlib.Omega.{arith}
use mathlib.Core.Path.{◌≡◌, refl, sym, ap, ◌∙◌, subst}
use mathlib.Core.Bool.{Bool, true, false}
use mathlib.Core.List.{List, [], ◌∷◌, ◌++◌, append_assoc}
use mathlib.Core.Option.{Option, none, some}
use lib.ListN.{length, length-append}
use lib.Seq.{slice, length-slice}
use Rattle.std.specs.Prelude.{Option as Maybe, Some, None, Result, Ok, Err}
use Rattle.image_fields.specs.declared.Fault.{Fault}
use Rattle.image_fields.specs.declared.Fault.TheVariants.{Length, Version, Names, Types, Structs, Globals, Entry, Body, Depth, BytesLeft, GenericReceiver, Locals as TooMany, Places, Lists, Output, Page, Switches as Unknown}
use Rattle.image_fields.specs.Fault.{fault_number}
use Rattle.image_fields.specs.Parsed.{ok}
use Rattle.image_fields.specs.Bytes.{Bytes, four_bytes}
use Rattle.tables.specs.Limits.{version1}
use Rattle.tables.specs.Tables.{Tables}
use Rattle.tables_lookup.specs.First.{or_else}
use Rattle.image_body.specs.Stmt.{block_at}
use Rattle.image_encoding.specs.Tables.{encode_tables, encode_entry}
use Rattle.image_encoding.specs.Body.{encode_block}
use Rattle.image_encoding.specs.Written.{Written}
use Rattle.image_encoding.proofs.Parts.{byte_at, then, being}
use Rattle.image_encoding.proofs.TablesWritten.{tables-written, entry-written}
use Rattle.image.specs.Image.{Image, accepted, decode, encode, encode_parts, scope_in}
use Rattle.image.proofs.RoundTrip.{parted}
use Rattle.rules.specs.State.{State as Status}
use Rattle.rules.specs.Stack.{shape, Stack as Scope}
use Rattle.rules.specs.Rules.{Switches, switches_of, states, entered, locals_of}
use Rattle.rules.specs.Report.{Report, report, reports, body_start, errors, warnings, lefts, returned_image}
use Rattle.rules.specs.Walk.{too_many, walk_fault, image_fault}
use Rattle.rules.specs.Verdict.{entries_of}
use Rattle.rules.proofs.Numbers.{real-image}
use Rattle.image_writing.specs.Stored.{Stored}
use Rattle.image_writing.proofs.Stores.{both_stored, patched, four-length}
use Rattle.statements_steps.specs.Own.{number_of, block_own}
use Rattle.statements_steps.proofs.Faults.{real-none}
use Rattle.statements_steps.proofs.Plain.{few-locals}
use Rattle.statements_acts.specs.declared.Place.{Place}
use Rattle.statements_acts.specs.Act.{Within, cursors_at}
use Rattle.image_lines.specs.Lined.{cursors}
use Rattle.image_lines.specs.Told.{Lined}
use Rattle.statements_acts.proofs.Slices.{written-slice}
use Rattle.image_writing.specs.Memory.{Memory}
use Rattle.blocks_laws.specs.Walks.{Walked, Wrote, BlockDone, BlockWalks}
use Rattle.blocks_laws.proofs.Blocks.{block-end}
use Rattle.blocks_laws.proofs.Wrotes.{stored-as}
use Rattle.statements_returns.specs.Returns.{BlockThere}
use Rattle.tables_lookup.specs.Lent.{Says}
use Rattle.scope_stack.specs.declared.Locals.{Locals}
use Rattle.scope_stack.specs.declared.States.{States}
use Rattle.scope_stack.specs.View.{view, Held, Nested}
use Rattle.scope_stack.proofs.Scopes.{length-view, rowed-none, sound-of}
use Rattle.scope_rows.specs.declared.Stop.{Stop}
use Rattle.scope_rows.specs.declared.Stop.TheVariants.{Rows, Fault as Stopped}
use Rattle.scope_rows.specs.Stop.{stop_number}
use Rattle.scope_entered.specs.Entered.{EntryThere, Fresh, Enters as Entered}
use Rattle.blocks_ends.specs.declared.Env.{Env}
use Rattle.blocks_ends.specs.declared.Walk.{Walk}
use Rattle.blocks_ends.specs.Ends.{place_in, stopped_at, fault_in, walked_in}
use Rattle.blocks.specs.Blocks.{InLoop, Enters, Comes, block_rows}
use Rattle.entries_image.specs.Images.{ImageThere, begins, Begins, body_own, fault_of_walk, BodyWalks, ImageDone, ImageWalks, PageWalks, Measures}

-- a walk's answer, by why it stopped
abbrev pub came : Maybe Stop → Place → Result Place Stop
came None p = Ok p
came (Some k) p = Err k

-- the faults' numbers
pub fault-bounds : (f : Fault) → (0 < fault_number f) × (fault_number f ≤ 17)
fault-bounds Length = (omega arith, omega arith)
fault-bounds Version = (omega arith, omega arith)
fault-bounds Names = (omega arith, omega arith)
fault-bounds Types = (omega arith, omega arith)
fault-bounds Structs = (omega arith, omega arith)
fault-bounds Globals = (omega arith, omega arith)
fault-bounds Entry = (omega arith, omega arith)
fault-bounds Body = (omega arith, omega arith)
fault-bounds Depth = (omega arith, omega arith)
fault-bounds BytesLeft = (omega arith, omega arith)
fault-bounds GenericReceiver = (omega arith, omega arith)
fault-bounds TooMany = (omega arith, omega arith)
fault-bounds Places = (omega arith, omega arith)
fault-bounds Lists = (omega arith, omega arith)
fault-bounds Output = (omega arith, omega arith)
fault-bounds Page = (omega arith, omega arith)
fault-bounds Unknown = (omega arith, omega arith)

one-image : (s : List ℕ) {i j : Image} → decode version1 s ≡ accepted i → decode version1 s ≡ accepted j → i ≡ j
one-image s {i} {j} a b = let e : accepted i ≡ accepted j = sym a ∙ b in cc

module _ (sw : Switches) (s : List ℕ) (small : Bytes s) (i : Image) (e : decode version1 s ≡ accepted i) (body : ℕ)
    (block : block_at (scope_in version1 i.tables.names i.tables.types) s 12 body ≡ ok i.body (length s)) where
  abbrev head : List ℕ
  head = 1 ∷ (encode_tables i.tables ++ encode_entry i.entry)

  head-written : Written s 4 head (parted version1 s i e).v
  head-written =
      let g = parted version1 s i e in
      let len = g.long in
      then (being (ap (λ x. x ∷ []) g.version) (byte_at s 4 (omega arith)))
      (then (tables-written s small version1 i.tables 5 g.p g.q g.r g.u g.names g.types g.structs g.globals)
      (entry-written s small version1 _ _ g.u i.entry g.v g.entry))

  same_body : (parted version1 s i e).v ≡ body
  same_body =
      let g = parted version1 s i e in
      let a = block-end s small _ 12 body i.body (length s) block in
      let b = block-end s small _ 12 g.v i.body (length s) g.body in
      omega arith

  pub head-slice : slice 4 body s ≡ head
  head-slice = ap (λ k. slice 4 k s) (sym same_body) ∙ written-slice head-written

  pub head-length : body ≡ 4 + length head
  head-length = sym same_body ∙ head-written.end

  pub body-fits : body + 6 ≤ length s
  body-fits = let a = block-end s small _ 12 body i.body (length s) block in omega arith

  pub short : length s ≤ 65536
  short = (parted version1 s i e).short

  abbrev σ : Scope Status
  σ = entered (states sw) i.tables (locals_of i.entry) []

  first-statement : body + 6 ≡ body_start i
  first-statement =
      let a = head-length in
      let b = length-append (encode_tables i.tables) (encode_entry i.entry) in
      omega arith

  same-reports : report sw i.tables i.body.code 1 none (body + 6) σ ≡ reports sw i
  same-reports = ap (λ k. report sw i.tables i.body.code 1 none k σ) first-statement

  abbrev block' : List ℕ
  block' = (block_own sw i.tables i.body.span i.body.code 1 none body σ).bytes

  parts_are : head ++ block' ≡ encode_parts version1 (returned_image sw i)
  unfolding encode_block
  parts_are = ap (λ l. 1 ∷ l) (append_assoc (encode_tables i.tables) (encode_entry i.entry) block')

  whole_length : length (encode version1 (returned_image sw i)) ≡ 4 + (length head + length block')
  unfolding encode
  whole_length =
      let a = length-append (four_bytes (length (encode_parts version1 (returned_image sw i)))) (encode_parts version1 (returned_image sw i)) in
      let b = four-length (length (encode_parts version1 (returned_image sw i))) in
      let c = ap length parts_are in
      let d = length-append head block' in
      omega arith

  -- the length in front, once all is written
  whole-stored : {xs ys zs : List ℕ} {k m : ℕ} → k < 4294967296 → Stored xs 4 (head ++ block') ys k → Stored ys 0 (four_bytes ((k + 4294967292) % 4294967296)) zs m
      → Stored xs 0 (encode version1 (returned_image sw i)) zs k
  unfolding encode
  whole-stored {xs} {ys} {zs} {k} {m} low a b =
      let l = four-length ((k + 4294967292) % 4294967296) in
      let p = a.place in
      let n : length (encode_parts version1 (returned_image sw i)) ≡ (k + 4294967292) % 4294967296 = ap length (sym parts_are) ∙ omega arith in
      stored-as (ap four_bytes_then n ∙ ap (λ x. four_bytes ((k + 4294967292) % 4294967296) ++ x) (sym parts_are)) (patched (omega arith) a b)
    where
      four_bytes_then : ℕ → List ℕ
      four_bytes_then n = four_bytes n ++ encode_parts version1 (returned_image sw i)

  -- no local is too many before the body
  fault-is : length σ ≤ 64 → image_fault version1 sw i ≡ walk_fault version1 sw i.tables i.body.code 1 σ
  unfolding image_fault or_else
  fault-is few =
      let f : too_many version1 σ ≡ none = few-locals σ few in
      ap (λ x. or_else x (walk_fault version1 sw i.tables i.body.code 1 σ)) f

  -- the walk of the body's block is that of the image
  module _ (τ : Scope Status) (v : τ ≡ σ) (few : length τ ≤ 64) (p : Place) (at : p.at ≡ body) (m m' : Memory) (r : Walked) (left : ℕ) (el : left ≡ 12)
      (w : BlockWalks sw i.tables s left (suc (12 - left)) none τ p m r m') where
    few-entered : length σ ≤ 64
    few-entered = subst (λ (υ : Scope Status). length υ ≤ 64) v few

    walked : (r.fault ≡ number_of (walk_fault version1 sw i.tables i.body.code 1 σ))
        × (walk_fault version1 sw i.tables i.body.code 1 σ ≡ none → BlockDone sw i.tables i.body 1 none σ p m r m' (length s))
    walked =
        (subst (λ (υ : Scope Status). BlockWalks sw i.tables s 12 1 none υ p m r m') v
        (subst (λ k. BlockWalks sw i.tables s k (suc (12 - k)) none τ p m r m') el w)).walks _ refl i.body (length s)
        (subst (λ k. block_at (scope_in version1 i.tables.names i.tables.types) s 12 k ≡ ok i.body (length s)) (sym at) block)

    pub image-fault : r.fault ≡ number_of (image_fault version1 sw i)
    image-fault = walked.0 ∙ ap number_of (sym (fault-is few-entered))

    pub body-wrote : image_fault version1 sw i ≡ none → Wrote (body_own sw i p.at) p m r.place m'
    body-wrote f = (walked.1 (sym (fault-is few-entered) ∙ f)).wrote

  -- with the head before it and the length in front, it is the image
  module _ (p : Place) (m m₁ m₂ m₃ : Memory) (q : Place) (written : ℕ) (ep : p ≡ begins body written 0 0 false) (wrote : Wrote (body_own sw i p.at) p m₁ q m₂)
      (front : Stored m.out 4 (slice 4 body s) m₁.out written) where
    abbrev listed : (List Report → List Report) → List ℕ
    listed f = entries_of version1 (f (reports sw i))

    pub image-done : q.written < 4294967296 → Stored m₂.out 0 (four_bytes ((q.written + 4294967292) % 4294967296)) m₃.out 4
        → m₁.errs ≡ m.errs → m₁.warns ≡ m.warns → m₁.lefts ≡ m.lefts → m₃.errs ≡ m₂.errs → m₃.warns ≡ m₂.warns → m₃.lefts ≡ m₂.lefts → ImageDone sw i m q m₃
    image-done low last a₁ a₂ a₃ b₁ b₂ b₃ =
        let g = subst (λ x. Wrote (body_own sw i x.at) x m₁ q m₂) ep wrote in
        let f : Stored m.out 4 head m₁.out written = stored-as (sym head-slice) front in
        record {
          bytes = λ fit. whole-stored low (both_stored f (g.bytes refl fit)) last;
          errors = list-stored errors a₁ b₁ (g.errors refl);
          warnings = list-stored warnings a₂ b₂ (g.warnings refl);
          lefts = list-stored lefts a₃ b₃ (g.lefts refl);
          long = let h = whole_length in omega (arith, g.long, f.place);
          fits = g.fits;
        }
      where
        list-stored : (f : List Report → List Report) {xs xs₁ ys ys₁ : List ℕ} {k : ℕ} → xs₁ ≡ xs → ys ≡ ys₁
            → Stored xs₁ 0 (entries_of version1 (f (report sw i.tables i.body.code 1 none (body + 6) σ))) ys₁ k → Stored xs 0 (listed f) ys k
        list-stored f {xs} {xs₁} {ys} {ys₁} {k} ex ey x =
            subst (λ zs. Stored xs 0 (listed f) zs k) (sym ey)
            (subst (λ zs. Stored zs 0 (listed f) ys₁ k) ex
            (stored-as (ap (λ rs. entries_of version1 (f rs)) (sym same-reports)) x))

  -- as a page
  module _ (p : Place) (m m' : Memory) (q : Place) (written w l : ℕ) (b : Bool) (ep : p ≡ begins body written w l b) (wrote : Wrote (body_own sw i p.at) p m q m') where
    from-begin : Wrote (body_own sw i body) (begins body written w l b) m q m'
    from-begin = subst (λ x. Wrote (body_own sw i x.at) x m q m') ep wrote

    pub page-done : b ≡ true → length m.out ≤ written → Lined (cursors 0 w l) (reports sw i) m.out (cursors_at q) m'.out
    page-done y h = subst (λ rs. Lined (cursors 0 w l) rs m.out (cursors_at q) m'.out) same-reports (from-begin.lines y h)

    pub page-long : written ≡ body → q.written ≡ length (encode version1 (returned_image sw i))
    page-long e = let h = whole_length in let k = head-length in omega (arith, from-begin.long)

-- the walk may begin
module _ (s tb : List ℕ) (small : Bytes s) (env : Env) (entry body : ℕ) (h : ImageThere s tb env entry body) where
  pub entry-there : EntryThere s entry
  entry-there = record { names = _; types = _; x = h.i.entry; next = body; read = h.entered }

  pub head-inside : (4 ≤ body) × (body ≤ length s) × (length s ≤ 65536)
  head-inside =
      let a = head-length (switches_of env.switches) s small h.i h.read body h.walked in
      let b = body-fits (switches_of env.switches) s small h.i h.read body h.walked in
      (omega arith, omega arith, short (switches_of env.switches) s small h.i h.read body h.walked)

  module _ (l : Locals) (entered : Entered s tb entry l) (t : States) (held : Held t) (fresh : Fresh t) (rows : List ℕ) (p q : Place) (b : Begins body p) (eq : q ≡ p) where
    abbrev stack : Scope Status
    stack = view l t rows env.cur env.width

    at_body : q.at ≡ body
    at_body = ap (λ (x : Place). x.at) (eq ∙ b.is)

    begin-within : Within s q
    begin-within = subst (Within s) (sym eq) (subst (Within s) (sym b.is) (let i = head-inside in let a = b.written in let c = b.warnings in let d = b.lefts in record {
      small = i.2;
      inside = i.1;
      written = omega arith;
      errors = omega arith;
      warnings = omega arith;
      lefts = omega arith;
      inserted = omega arith;
    }))

    pub enters : Enters s tb env l t rows q
    enters = record {
      lent = h.lent;
      within = begin-within;
      depth = let e = h.left in omega arith;
      limit = h.limit;
      width = h.width;
      sound = sound-of l t rows env.cur env.width entered.kept held (rowed-none l.count t rows env.cur env.width fresh) (λ T says. entered.drops T h.lent says);
      nested = subst (λ k. Nested (12 - k) (shape stack)) (sym h.left) (entered.nested t rows env.cur env.width);
      near = none;
      looped = h.base;
    }

    pub there : BlockThere s env.left q.at
    there =
        subst (λ k. BlockThere s k q.at) (sym h.left)
        (subst (λ k. BlockThere s 12 k) (sym at_body) (record { t = _; deep = refl; b = h.i.body; next = length s; read = h.walked }))

    locals_are : stack ≡ σ (switches_of env.switches) s small h.i h.read body h.walked
    locals_are = entered.is _ _ h.i.entry body h.entered h.i.tables t fresh rows env.cur env.width

    few-locals-in : length stack ≤ 64
    few-locals-in = let n = length-view l t rows env.cur env.width in omega (arith, entered.few)

    module _ (m m' : Memory) (r : States) (rows' : List ℕ) (pl' : Walk)
        (c : Comes s tb env.cur env.width (block_rows env.cur env.left) l rows q r rows' pl')
        (w : (T : Tables) → Says s tb T → (loop : Option ℕ) → InLoop loop env.base (suc (12 - env.left)) l → (fault_in pl' ≡ 254 → ⊥)
        → BlockWalks (switches_of env.switches) T s env.left (suc (12 - env.left)) loop stack q m (walked_in pl' (view l r rows' env.cur env.width)) m') where
      abbrev W : Walked
      W = walked_in pl' (view l r rows' env.cur env.width)

      found : (fault_in pl' ≡ 254 → ⊥) → fault_in pl' ≡ number_of (image_fault version1 (switches_of env.switches) h.i)
      found z = image-fault (switches_of env.switches) s small h.i h.read body h.walked stack locals_are few-locals-in q at_body m m' W env.left h.left (w h.i.tables h.says none h.base z)

      wrote : (z : fault_in pl' ≡ 254 → ⊥) → image_fault version1 (switches_of env.switches) h.i ≡ none → Wrote (body_own (switches_of env.switches) h.i p.at) p m (place_in pl') m'
      wrote z f = subst (λ (x : Place). Wrote (body_own (switches_of env.switches) h.i x.at) x m (place_in pl') m') eq
          (body-wrote (switches_of env.switches) s small h.i h.read body h.walked stack locals_are few-locals-in q at_body m m' W env.left h.left (w h.i.tables h.says none h.base z) f)

      walks : (fault_in pl' ≡ 254 → ⊥) → (i : Image) → decode version1 s ≡ accepted i
          → (fault_in pl' ≡ number_of (image_fault version1 (switches_of env.switches) i)) × (image_fault version1 (switches_of env.switches) i ≡ none → Wrote (body_own (switches_of env.switches) i p.at) p m (place_in pl') m')
      walks z i e =
          subst (λ (j : Image). (fault_in pl' ≡ number_of (image_fault version1 (switches_of env.switches) j)) × (image_fault version1 (switches_of env.switches) j ≡ none → Wrote (body_own (switches_of env.switches) j p.at) p m (place_in pl') m'))
          (one-image s h.read e) (found z, wrote z)

      bounded : (f : Place → ℕ) → fault_in pl' ≡ 0 → f (place_in pl') + 1000 * q.at ≤ f q + 1000 * (place_in pl').at → f (place_in pl') ≤ f p + 65536000
      bounded f e g =
          let a = (c.within e).inside in
          let b = (c.within e).small in
          let k = ap f eq in
          omega arith

      -- the answer by why the walk stopped
      pub body-walked : (k : Maybe Stop) → pl'.stop ≡ k → BodyWalks (switches_of env.switches) s (length rows) p m (came k (place_in pl')) m'
      body-walked None e =
          let f : fault_in pl' ≡ 0 = ap stopped_at e in
          record {
            short = λ z. absurd (let y : ◌≡◌ {A = ℕ} 0 254 = z in omega arith);
            walks = λ z i d.
                let g = walks (λ y. omega arith) i d in
                (sym f ∙ g.0, g.1 (real-none (image_fault version1 (switches_of env.switches) i) (real-image version1 (switches_of env.switches) i) (sym g.0 ∙ f)));
            written = bounded (λ (y : Place). y.written) f (c.grows f).written;
            errors = let g = c.within f in omega (arith, g.errors, g.inside, g.small);
            warnings = bounded (λ (y : Place). y.warnings) f (c.grows f).warnings;
            lefts = bounded (λ (y : Place). y.lefts) f (c.grows f).lefts;
          }
      body-walked (Some k) e =
          let f : fault_in pl' ≡ stop_number k = ap stopped_at e in
          record {
            short = λ z. omega (arith, c.short (f ∙ z), h.cur, h.left);
            walks = λ z i d. (sym f ∙ (walks (λ y. z (sym f ∙ y)) i d).0, tt);
            written = tt;
            errors = tt;
            warnings = tt;
            lefts = tt;
          }

-- a walk without a fault came to a place
pub walk-came : (v : Result Place Stop) → fault_of_walk v ≡ 0 → (q : Place) × (v ≡ Ok q)
walk-came (Ok q) e = (q, refl)
walk-came (Err Rows) e = absurd (let x : ◌≡◌ {A = ℕ} 254 0 = e in omega arith)
walk-came (Err (Stopped f)) e = absurd (let l = (fault-bounds f).0 in omega arith)

-- a walk's answer, as the code takes it apart
pub answers : {sw : Switches} {s : List ℕ} {rows : ℕ} {p : Place} {m m' : Memory} {x y : Result Place Stop} → x ≡ y → BodyWalks sw s rows p m x m' → BodyWalks sw s rows p m y m'
answers {sw} {s} {rows} {p} {m} {m'} e g = subst (λ r. BodyWalks sw s rows p m r m') e g

pub begins-at : {body written w l : ℕ} {b : Bool} {p : Place} → p ≡ begins body written w l b → written ≤ 200000000 → w ≤ 200000000 → l ≤ 200000000 → Begins body p
begins-at {body} {written} {w} {l} {b} {p} e x y z = subst (Begins body) (sym e) (record { is = refl; written = x; warnings = y; lefts = z })

-- of a walk into memory
module _ (s tb : List ℕ) (small : Bytes s) (env : Env) (entry body : ℕ) (h : ImageThere s tb env entry body) (written : ℕ) (m m₁ : Memory) (p : Place)
    (ep : p ≡ begins body written 0 0 false) (front : Stored m.out 4 (slice 4 body s) m₁.out written) where
  pub begins-head : Begins body p
  begins-head =
      let i = head-inside s tb small env entry body h in
      let l = length-slice 4 body s i.1 in
      let f = front.place in
      subst (Begins body) (sym ep) (record { is = refl; written = omega arith; warnings = omega arith; lefts = omega arith })

  -- a walk that stops, and one that comes to a place, with the length in front
  pub image-stopped : (rows : ℕ) (m₂ : Memory) (k : Stop) → BodyWalks (switches_of env.switches) s rows p m₁ (Err k) m₂ → ImageWalks (switches_of env.switches) s rows m (Err k) m₂
  image-stopped rows m₂ k g = record { short = g.short; walks = λ z i e. ((g.walks z i e).0, tt) }

  module _ (rows : ℕ) (m₂ m₃ : Memory) (q : Place) (g : BodyWalks (switches_of env.switches) s rows p m₁ (Ok q) m₂) where
    pub low-written : q.written < 4294967296
    low-written = let b = g.written in let k = begins-head.written in omega arith

    pub image-walked : (n : ℕ) → Stored m₂.out 0 (four_bytes ((q.written + 4294967292) % 4294967296)) m₃.out n
        → m₁.errs ≡ m.errs → m₁.warns ≡ m.warns → m₁.lefts ≡ m.lefts → m₃.errs ≡ m₂.errs → m₃.warns ≡ m₂.warns → m₃.lefts ≡ m₂.lefts
        → ImageWalks (switches_of env.switches) s rows m (Ok q) m₃
    image-walked n last a₁ a₂ a₃ b₁ b₂ b₃ =
        let k : n ≡ 4 = last.place ∙ (let l = four-length ((q.written + 4294967292) % 4294967296) in omega arith) in
        record {
          short = g.short;
          walks = λ z i e.
              let x = g.walks z i e in (
                x.0,
                subst (λ (j : Image). ImageDone (switches_of env.switches) j m q m₃) (one-image s h.read e)
                    (image-done (switches_of env.switches) s small h.i h.read body h.walked p m m₁ m₂ m₃ q written ep (subst (λ (j : Image). Wrote (body_own (switches_of env.switches) j p.at) p m₁ q m₂) (sym (one-image s h.read e)) x.1) front
                    low-written (subst (Stored m₂.out 0 (four_bytes ((q.written + 4294967292) % 4294967296)) m₃.out) k last) a₁ a₂ a₃ b₁ b₂ b₃),
              );
        }

-- of a walk into a page, or into nothing
module _ (s tb : List ℕ) (small : Bytes s) (env : Env) (entry body : ℕ) (h : ImageThere s tb env entry body) (rows : ℕ) (m m' : Memory) (p : Place) where
  module _ (q : Place) (g : BodyWalks (switches_of env.switches) s rows p m (Ok q) m') (written w l : ℕ) (b : Bool) (ep : p ≡ begins body written w l b) where
    wrote-in : (i : Image) → decode version1 s ≡ accepted i → Wrote (body_own (switches_of env.switches) h.i p.at) p m q m'
    wrote-in i e = subst (λ (j : Image). Wrote (body_own (switches_of env.switches) j p.at) p m q m') (sym (one-image s h.read e)) (g.walks (λ z. let y : ◌≡◌ {A = ℕ} 0 254 = z in omega arith) i e).1

    pub lined-in : b ≡ true → length m.out ≤ written → (i : Image) → decode version1 s ≡ accepted i
        → Lined (cursors 0 w l) (reports (switches_of env.switches) i) m.out (cursors_at q) m'.out
    lined-in y k i e =
        subst (λ (j : Image). Lined (cursors 0 w l) (reports (switches_of env.switches) j) m.out (cursors_at q) m'.out) (one-image s h.read e)
        (page-done (switches_of env.switches) s small h.i h.read body h.walked p m m' q written w l b ep (wrote-in i e) y k)

  pub page-walked : (r : Result Place Stop) → BodyWalks (switches_of env.switches) s rows p m r m' → (written w l : ℕ) (b : Bool) → p ≡ begins body written w l b
      → b ≡ true → length m.out ≤ written → PageWalks (switches_of env.switches) s rows (cursors 0 w l) m.out r m'.out
  page-walked (Ok q) g written w l b ep y k = record { short = g.short; walks = λ z i e. ((g.walks z i e).0, lined-in q g written w l b ep y k i e) }
  page-walked (Err x) g written w l b ep y k = record { short = g.short; walks = λ z i e. ((g.walks z i e).0, tt) }

  pub measured : (q : Place) → BodyWalks (switches_of env.switches) s rows p m (Ok q) m' → (b : Bool) → p ≡ begins body body 0 0 b → m.out ≡ [] → Measures (switches_of env.switches) s b (Ok q)
  measured q g b ep none_lent = record {
    walks = λ i e. (
      (g.walks (λ z. let y : ◌≡◌ {A = ℕ} 0 254 = z in omega arith) i e).0,
      (
        subst (λ (j : Image). q.written ≡ length (encode version1 (returned_image (switches_of env.switches) j))) (one-image s h.read e)
            (page-long (switches_of env.switches) s small h.i h.read body h.walked p m m' q body 0 0 b ep (wrote-in q g body 0 0 b ep i e) refl),
        λ y. (lined-in q g body 0 0 b ep y (let l = ap length none_lent in omega arith) i e).cursors,
      ),
    );
    few =
        let a = g.errors in
        let c = g.warnings in
        let d = g.lefts in
        let w = ap (λ (x : Place). x.warnings) ep in
        let l = ap (λ (x : Place). x.lefts) ep in
        (a, omega arith, omega arith);
  }

  pub measure-refused : (f : Fault) → BodyWalks (switches_of env.switches) s rows p m (Err (Stopped f)) m' → (b : Bool) → Measures (switches_of env.switches) s b (Err f)
  measure-refused f g b = record { walks = λ i e. ((g.walks (λ z. let l = (fault-bounds f).1 in omega arith) i e).0, tt); few = tt }
