-- Laws of joins of states.
-- Assumes nothing.
use Prim.Native.Nat.{ℕ, ◌≤◌, ◌<◌}
use mathlib.Core.Path.{◌≡◌, sym, ap, ◌∙◌, subst}
use mathlib.Core.Bool.{Bool, true, false, cond, ◌&&◌}
use mathlib.Core.Logic.{◌≢◌}
use borrow.Author.Tests.{eqb-true, eq-eqb, ne_eqb, le-ltb, lt-ltb}
use native.Mathlib.Omega.{arith}
use lib.Dec.{eqb, ltb}
use lib.ListN.{length, length-take}
use lib.Seq.{length-take-le}
use Rattle.std.specs.Prelude.{Some, None, ◌==◌}
use Rattle.std.specs.Cmp.Lexicographic.{pointwise}
use Rattle.rules.specs.State.{State as Status, alive, gone, combine, join_state}
use Rattle.rules.specs.Walk.{places_of}
use Rattle.scope_state.specs.declared.Places.{Places}
use Rattle.scope_state.specs.declared.State.{State}
use Rattle.scope_state.specs.Kinds.{said, kind_of, conditional, family}
use Rattle.scope_state.specs.View.{listed, state_of, Joins}
use Rattle.scope_state.proofs.Listed.{combine-grows, pointwise-places}
use Rattle.scope_state.proofs.Numbers.{join-given, join-then, join-else, family-given, family-known}

short : (p : Places) → length (listed p) ≤ 8
short p = simp length-take (omega (arith, p.few))

said-short : (k : ℕ) (p : Places) → length (places_of (said k (listed p))) ≤ 8
said-short k p = by-test (eqb k 0)
  where
    by-test : (b : Bool) → length (places_of (cond b alive (gone (ltb 3 k) (kind_of k) (listed p)))) ≤ 8
    by-test true = omega arith
    by-test false = short p

pub joins-ok : (s : State) (a : Status) → state_of s ≡ a → Joins (Some s) a
joins-ok s a e =
    let most : length (places_of a) ≤ 8 = rw (sym e) (said-short s.kind s.places) in
    record { ok = rw (le-ltb 8 (length (places_of a)) most); is = λ t q. cc }

some : (k : ℕ) → k ≢ 0 → 0 < k
some k ne = omega arith

module _ (w : Bool) (s t : State) where
  pub join-then-alive : (k : ℕ) → s.kind ≡ 0 → k ≡ conditional t.kind → said k (listed t.places) ≡ join_state w (state_of s) (state_of t)
  join-then-alive k z e =
      ap (λ (x : ℕ). said x (listed t.places)) e
      ∙ sym (join-then w t.kind (listed t.places) t.known)
      ∙ ap (λ (b : Bool). join_state w (cond b alive (gone (ltb 3 s.kind) (kind_of s.kind) (listed s.places))) (state_of t)) (sym (eq-eqb s.kind 0 z))

  pub join-else-alive : (k : ℕ) → t.kind ≡ 0 → k ≡ conditional s.kind → said k (listed s.places) ≡ join_state w (state_of s) (state_of t)
  join-else-alive k z e =
      ap (λ (x : ℕ). said x (listed s.places)) e
      ∙ sym (join-else w s.kind (listed s.places) s.known ∙ join-then w s.kind (listed s.places) s.known)
      ∙ ap (λ (b : Bool). join_state w (state_of s) (cond b alive (gone (ltb 3 t.kind) (kind_of t.kind) (listed t.places)))) (sym (eq-eqb t.kind 0 z))

  -- both are given up
  module _ (a : s.kind ≢ 0) (b : t.kind ≢ 0) where
    pub both-given : (x : Bool) → (eqb s.kind t.kind && pointwise ◌==◌ (listed s.places) (listed t.places)) ≡ x
        → cond x (state_of s) (said (family w s.kind t.kind) (combine (listed s.places) (listed t.places))) ≡ join_state w (state_of s) (state_of t)
    both-given x e =
        sym
        (join-given w s.kind t.kind (some _ a) s.known (some _ b) t.known (listed s.places) (listed t.places)
        ∙ ap (λ (y : Bool). cond y (state_of s) (said (family w s.kind t.kind) (combine (listed s.places) (listed t.places))))
        (ap (λ (y : Bool). eqb s.kind t.kind && y) (sym (pointwise-places (listed s.places) (listed t.places))) ∙ e))

    pub both-known : family w s.kind t.kind < 7
    both-known = family-known w s.kind t.kind (some _ a) s.known (some _ b) t.known

    pub gone-both : eqb (family w s.kind t.kind) 0 ≡ false
    gone-both = family-given w s.kind t.kind (some _ a) s.known (some _ b) t.known

    -- the places of both are not none, wherever they fit
    pub places-some : length s.places.list ≡ 8 → (p : Places) → listed p ≡ combine (listed s.places) (listed t.places) → eqb p.count 0 ≡ false
    places-some room p e =
        let c : s.places.count ≢ 0 = λ q. a (eqb-true s.kind 0 (s.given ∙ eq-eqb s.places.count 0 q)) in
        let all : length (listed s.places) ≡ s.places.count = length-take-le _ _ (omega (arith, s.places.few)) in
        let more : length (listed p) ≤ p.count = simp length-take (omega arith) in
        let grows = combine-grows (listed s.places) (listed t.places) in
        let n : length (listed p) ≡ length (combine (listed s.places) (listed t.places)) = ap length e in
        let ne : p.count ≢ 0 = λ q. omega (arith, all, more, grows, n, some _ c) in
        ne_eqb _ _ ne

    pub join-full : (eqb s.kind t.kind && pointwise ◌==◌ (listed s.places) (listed t.places)) ≡ false
        → 8 < length (combine (listed s.places) (listed t.places)) → Joins None (join_state w (state_of s) (state_of t))
    join-full e l =
        let is : said (family w s.kind t.kind) (combine (listed s.places) (listed t.places)) ≡ join_state w (state_of s) (state_of t) = both-given false e in
        let ps : places_of (said (family w s.kind t.kind) (combine (listed s.places) (listed t.places))) ≡ combine (listed s.places) (listed t.places) =
        ap (λ (x : Bool). places_of (cond x alive (gone (ltb 3 (family w s.kind t.kind)) (kind_of (family w s.kind t.kind)) (combine (listed s.places) (listed t.places))))) gone-both in
        subst (λ (x : Status). Joins None x) is (record { ok = rw ps (rw (lt-ltb 8 (length (combine (listed s.places) (listed t.places))) l)); is = λ q h. cc })
