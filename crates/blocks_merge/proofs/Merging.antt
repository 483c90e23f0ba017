-- The merge of two branches: rows copied back, joined, and why a join stops.
-- Assumes nothing.
use Prim.Native.Nat.{ℕ, ◌≤◌, ◌<◌}
use native.Mathlib.Omega.{arith}
use mathlib.Core.Path.{◌≡◌, refl, sym, ap, ◌∙◌, subst}
use mathlib.Core.Bool.{Bool, true, false}
use mathlib.Core.List.{List, []}
use mathlib.Core.Logic.{inl, inr, ⊎_elim}
use lib.ListN.{length, get_or}
use Rattle.std.specs.Prelude.{Some}
use Rattle.std.specs.Prelude.{Result, Ok, Err}
use Rattle.image_fields.specs.declared.Fault.TheVariants as fault
use Rattle.image_fields.proofs.Tests.{false-true}
use Rattle.tables.specs.Limits.{version1}
use Rattle.rules.specs.Rules.{Switches}
use Rattle.scope_stack.specs.declared.Locals.{Locals}
use Rattle.scope_stack.specs.declared.States.{States}
use Rattle.scope_stack.specs.View.{row_of, said_at, view, Known, Rowed}
use Rattle.scope_rows.specs.Rows.{Copied, Copies, JoinsAll, Branches as Apart}
use Rattle.scope_rows.proofs.Elsewhere.{view-copied, rowed-copied}
use Rattle.scope_rows.specs.declared.Stop.{Stop}
use Rattle.scope_rows.specs.declared.Stop.TheVariants as stop
use Rattle.blocks_ends.specs.declared.Walk.{Walk}
use Rattle.blocks_ends.specs.Ends.{fault_in}
use Rattle.blocks_merge.specs.Merges.{Below, Branches, MergesIn}
use Rattle.blocks_ends.proofs.Walks.{rows_few}

-- a copy back, where the rows do not stand there already
module _ (n : ℕ) (kinds rows : List ℕ) (src cur width : ℕ)
    (h : (n ≤ 64) × (width ≡ 8) × ((i : ℕ) → i < n → Known rows width (row_of src width i) (get_or kinds i 0)) × ((src ≡ cur → ⊥) → row_of cur width n ≤ src) × (src < 4294968000)) where
  pub to-copy : (src ≡ cur → ⊥) → Copied n width kinds rows src cur
  to-copy ne =
      let le : row_of cur width n ≤ src = h.3 ne in
      let e = rows_few n width h.0 h.1 in
      record { small = h.0; wide = omega (arith, h.1); known = h.2; apart = inr le; fits = (omega (arith, h.0, h.4), omega (arith, h.4)) }

  pub copied-same : src ≡ cur → Copies n width kinds rows src cur true rows
  copied-same e = record {
    rest = record { room = refl; same = λ k o. refl };
    is = λ t i li first. ap (λ (at : ℕ). said_at rows (row_of at width i) (record { kind = get_or kinds i 0; first = first })) (sym e);
    known = λ t i li. subst (λ (at : ℕ). Known rows width (row_of at width i) (get_or kinds i 0)) e (h.2 i li);
    short = λ z. false-true (sym z);
    why = λ z. false-true (sym z);
  }

-- the rows of n locals that were copied
abbrev counted : ℕ → Locals
counted n = record { count = n; names = []; types = []; depths = []; births = []; dtors = 0 }

module _ (n : ℕ) (t : States) (rows new : List ℕ) (src cur width : ℕ) (h : Rowed n t rows src width) (c : Copies n width t.kinds rows src cur true new) where
  copied-below : Below cur rows new
  copied-below = record { room = c.rest.room; same = λ k lk. c.rest.same k (inl lk) }

  copied-rowed : Rowed n t new cur width
  copied-rowed = rowed-copied (counted n) t rows new src cur width h c

  copied-view : (l : Locals) → l.count ≡ n → view l t new cur width ≡ view l t rows src width
  copied-view l e =
      view-copied l t rows new src cur width (subst (λ (k : ℕ). Rowed k t rows src width) (sym e) h)
      (subst (λ (k : ℕ). Copies k width t.kinds rows src cur true new) (sym e) c)

-- a join by another name of the same answer
pub joins-as : {k m : Bool} {n width : ℕ} {t u : States} {rows : List ℕ} {a b : ℕ} {r : Result States Stop} {new : List ℕ} → k ≡ m
    → JoinsAll k n width t u rows a b r new → JoinsAll m n width t u rows a b r new
joins-as {n = n} {width} {t} {u} {rows} {a} {b} {r} {new} e j = subst (λ (x : Bool). JoinsAll x n width t u rows a b r new) e j

module _ (n : ℕ) (base first other : States) (rows : List ℕ) (cur width b : ℕ) (pl : Walk)
    (h : Branches n base first other rows cur width b × (fault_in pl ≡ 0)) where
  -- what the copies and the join require
  pub copies-other : (n ≤ 64) × (width ≡ 8) × ((i : ℕ) → i < n → Known rows width (row_of b width i) (get_or other.kinds i 0)) × ((b ≡ cur → ⊥) → row_of cur width n ≤ b) × (b < 4294968000)
  copies-other = (
    h.0.small,
    h.0.wide,
    λ i li. h.0.other.rowed.known i,
    λ ne. ⊎_elim (λ (e : b ≡ cur). absurd (ne e)) (λ (le : row_of (row_of cur width n) width n ≤ b). omega arith) h.0.apart,
    omega (arith, h.0.low.1),
  )

  -- then's rows, or joined ones there
  pub copies-first : (t : States) (new : List ℕ) (a : ℕ) → a ≡ row_of cur width n → Rowed n t new a width
      → (n ≤ 64) × (width ≡ 8) × ((i : ℕ) → i < n → Known new width (row_of a width i) (get_or t.kinds i 0)) × ((a ≡ cur → ⊥) → row_of cur width n ≤ a) × (a < 4294968000)
  copies-first t new a e r =
      let x = rows_few n width h.0.small h.0.wide in
      (h.0.small, h.0.wide, λ i li. r.known i, λ ne. omega arith, omega (arith, h.0.low.0, h.0.small))

  pub first-rowed : (a : ℕ) → a ≡ row_of cur width n → Rowed n first rows a width
  first-rowed a e = subst (λ (k : ℕ). Rowed n first rows k width) (sym e) h.0.first.rowed

  pub apart : (a : ℕ) → a ≡ row_of cur width n → Apart n width first other rows a b
  apart a e =
      let x = rows_few n width h.0.small h.0.wide in
      record {
        held = h.0.first.held;
        other = h.0.other.held;
        rowed = first-rowed a e;
        other_rowed = h.0.other.rowed;
        small = h.0.small;
        one = omega (arith, h.0.wide);
        wide = omega (arith, h.0.wide);
        apart = ⊎_elim
            (λ (q : b ≡ cur). inr (subst (λ (k : ℕ). row_of k width n ≤ a) (sym q) (omega arith)))
            (λ (q : row_of (row_of cur width n) width n ≤ b). inl (subst (λ (k : ℕ). row_of k width n ≤ b) (sym e) q))
            h.0.apart;
        fits = (omega (arith, h.0.low.0, h.0.small), omega (arith, h.0.low.1, h.0.small));
      }

  -- both surely return
  pub merges-base : (sw : Switches) (x y : Bool) → x ≡ true → y ≡ true → MergesIn sw x y n base first other rows cur width b pl base rows pl
  merges-base sw x y e f = rw (e, f) (record {
    below = record { room = refl; same = λ k lk. refl };
    place = refl;
    short = λ z. absurd (omega (arith, h.1));
    stands = λ z. h.0.base;
    fault = λ z l g. h.1;
    locals = λ z l g. refl;
  })

  -- then does
  pub merges-other : (sw : Switches) (x y : Bool) → x ≡ true → y ≡ false → (new : List ℕ) → Copies n width other.kinds rows b cur true new
      → MergesIn sw x y n base first other rows cur width b pl other new pl
  merges-other sw x y e f new c =
      let r = h.0.other.rowed in
      rw (e, f) (record {
        below = copied-below n other rows new b cur width r c;
        place = refl;
        short = λ z. absurd (omega (arith, h.1));
        stands = λ z. record { held = h.0.other.held; rowed = copied-rowed n other rows new b cur width r c };
        fault = λ z l g. h.1;
        locals = λ z l g. copied-view n other rows new b cur width r c l g;
      })

  -- the other does
  pub merges-first : (sw : Switches) (x y : Bool) → x ≡ false → y ≡ true → (new : List ℕ) (a : ℕ) → a ≡ row_of cur width n → Copies n width first.kinds rows a cur true new
      → MergesIn sw x y n base first other rows cur width b pl first new pl
  merges-first sw x y e f new a ea ca =
      let c : Copies n width first.kinds rows (row_of cur width n) cur true new = subst (λ (k : ℕ). Copies n width first.kinds rows k cur true new) ea ca in
      let r = h.0.first.rowed in
      rw (e, f) (record {
        below = copied-below n first rows new (row_of cur width n) cur width r c;
        place = refl;
        short = λ z. absurd (omega (arith, h.1));
        stands = λ z. record { held = h.0.first.held; rowed = copied-rowed n first rows new (row_of cur width n) cur width r c };
        fault = λ z l g. h.1;
        locals = λ z l g. copied-view n first rows new (row_of cur width n) cur width r c l g;
      })

  -- neither: joined states, copied back, or why the join stops
  module _ (sw : Switches) {keeps : Bool} (ek : keeps ≡ sw.conditional) (o : Result States Stop) (mid : List ℕ) (a : ℕ) (ea : a ≡ row_of cur width n) (ja : JoinsAll keeps n width first other rows a b o mid) where
    abbrev j : JoinsAll sw.conditional n width first other rows (row_of cur width n) b o mid
    j = subst (λ (i : ℕ). JoinsAll sw.conditional n width first other rows i b o mid) ea (joins-as ek ja)

    pub merges-joined : (x y : Bool) → x ≡ false → y ≡ false → (r : States) → o ≡ Ok r → (new : List ℕ) → Copies n width r.kinds mid a cur true new
        → MergesIn sw x y n base first other rows cur width b pl r new pl
    merges-joined x y e f r t new ca =
        let c : Copies n width r.kinds mid (row_of cur width n) cur true new = subst (λ (i : ℕ). Copies n width r.kinds mid i cur true new) ea ca in
        let w = j.rowed r t in
        rw (e, f) (record {
          below = record { room = c.rest.room ∙ j.rest.room; same = λ i li. c.rest.same i (inl li) ∙ j.rest.same i (inl (omega arith)) };
          place = refl;
          short = λ z. absurd (omega (arith, h.1));
          stands = λ z. record { held = j.held r t; rowed = copied-rowed n r mid new (row_of cur width n) cur width w c };
          fault = λ z l g. h.1 ∙ rw (j.calm r t version1 (sym h.0.wide) l g);
          locals = λ z l g. copied-view n r mid new (row_of cur width n) cur width w c l g ∙ j.is r t l g;
        })

    abbrev stopped_of : Stop → Walk
    stopped_of k = record { place = pl.place; stop = Some k; sure = pl.sure }

    pub merges-stopped : (x y : Bool) → x ≡ false → y ≡ false → (k : Stop) → o ≡ Err k → (r : States) → MergesIn sw x y n base first other rows cur width b pl r mid (stopped_of k)
    merges-stopped x y e f k t r = ⊎_elim crowds ends (j.two k t)
      where
        below : Below cur rows mid
        below = record { room = j.rest.room; same = λ i li. j.rest.same i (inl (omega arith)) }

        crowds : k ≡ stop.Fault fault.Places → MergesIn sw x y n base first other rows cur width b pl r mid (stopped_of k)
        crowds g =
            subst (λ (z : Stop). MergesIn sw x y n base first other rows cur width b pl r mid (stopped_of z)) (sym g)
            (rw (e, f) (record {
              below = below;
              place = refl;
              short = λ z. absurd (omega arith);
              stands = λ z. absurd (omega arith);
              fault = λ z l c. rw (j.crowd (subst (λ (z : Stop). o ≡ Err z) g t) version1 (sym h.0.wide) l c);
              locals = λ z l c. absurd (omega arith);
            }))

        ends : k ≡ stop.Rows → MergesIn sw x y n base first other rows cur width b pl r mid (stopped_of k)
        ends g =
            subst (λ (z : Stop). MergesIn sw x y n base first other rows cur width b pl r mid (stopped_of z)) (sym g)
            (rw (e, f) (record {
              below = below;
              place = refl;
              short = λ z. j.short (subst (λ (z : Stop). o ≡ Err z) g t);
              stands = λ z. absurd (omega arith);
              fault = λ z l c. absurd (z refl);
              locals = λ z l c. absurd (omega arith);
            }))
