-- Laws of rows: read, written, and left as they were.
-- Assumes nothing.
use Prim.Native.Nat.{ℕ, suc, ◌+◌, ◌-◌, ◌*◌, ◌≤◌, ◌<◌}
use mathlib.Core.Path.{◌≡◌, refl, sym, ap, ◌∙◌, subst}
use mathlib.Core.Bool.{Bool, true, false, cond}
use mathlib.Core.List.{List, [], ◌∷◌}
use mathlib.Core.Logic.{◌≢◌, inl, inr, ⊎_elim}
use borrow.Author.Tests.{eq-eqb, ne_eqb, eqb-true, eqb-false, le-ltb}
use native.Mathlib.Nat.{mul-le-mul_right, suc-mul}
use native.Mathlib.Omega.{arith}
use lib.Dec.{eqb, ltb}
use lib.ListN.{length, get_or, take, drop, length-drop}
use lib.Seq.{get_or-take, get_or-drop, ext_get_or, length-take-le}
use Rattle.std.specs.Prelude.{Option, Some, Result, Ok, Err}
use Rattle.image_fields.proofs.Tests.{less}
use Rattle.rules.specs.State.{State as Status, alive, gone, join_state}
use Rattle.rules.specs.Walk.{places_of}
use Rattle.scope_state.specs.Kinds.{said, kind_of}
use Rattle.scope_state.specs.View.{listed, state_of, Joins}
use Rattle.scope_state.specs.declared.State.{State}
use Rattle.scope_stack.specs.declared.Entry.{Entry}
use Rattle.scope_stack.specs.View.{row_of, row_at, said_at, Row, Known}
use Rattle.scope_rows.specs.declared.Stop.{Stop}
use Rattle.scope_rows.specs.Rows.{Else, Wrote, join_of, over, Loads, JoinsAt}
use Rattle.scope_stack.proofs.Marked.{said-one, said_row, known-one}

-- the first n of a list, where they are those of a row
pub row_list : (n : ℕ) (list rows : List ℕ) (at : ℕ) → n ≤ length list → at + n < length rows
    → ((k : ℕ) → k < n → get_or list k 0 ≡ get_or rows ((at + 1) + k) 0) → take n list ≡ take n (drop (at + 1) rows)
row_list n list rows at ll lr e =
    let lt : n ≤ length (drop (at + 1) rows) = rw (length-drop (at + 1) rows) (omega arith) in
    let a : length (take n list) ≡ n = length-take-le n list ll in
    let b : length (take n (drop (at + 1) rows)) ≡ n = length-take-le n (drop (at + 1) rows) lt in
    ext_get_or 0 (take n list) (take n (drop (at + 1) rows)) (a ∙ sym b)
    (λ i h. let l : i < n = omega arith in
    get_or-take n list i 0 l ∙ e i l ∙ sym (get_or-drop (at + 1) rows i 0) ∙ sym (get_or-take n (drop (at + 1) rows) i 0 l))

-- the row of a local ends before that of a newer one begins
pub row_before : (cur width i n : ℕ) → i < n → row_of cur width i + width < row_of cur width n
row_before cur width i n l =
    let up : suc i * (width + 1) ≤ n * (width + 1) = mul-le-mul_right (width + 1) l in
    let one : suc i * (width + 1) ≡ i * (width + 1) + (width + 1) = suc-mul i (width + 1) in
    omega arith

pub row-mono : (cur width i n : ℕ) → i ≤ n → row_of cur width i ≤ row_of cur width n
row-mono cur width i n l = let up : i * (width + 1) ≤ n * (width + 1) = mul-le-mul_right (width + 1) l in omega arith

pub row_next : (cur width i : ℕ) → row_of cur width (i + 1) ≡ row_of cur width i + (width + 1)
row_next cur width i =
    let s : i + 1 ≡ suc i = omega arith in
    ap (λ (x : ℕ). cur + x * (width + 1)) s ∙ (let one : suc i * (width + 1) ≡ i * (width + 1) + (width + 1) = suc-mul i (width + 1) in omega arith)

-- rows that are left as they were
pub else-wider : (at end end' : ℕ) (rows new : List ℕ) → end ≤ end' → Else at end rows new → Else at end' rows new
else-wider at end end' rows new l e = record { room = e.room; same = λ k o. e.same k (⊎_elim (λ (q : k < at). inl q) (λ (q : end' ≤ k). inr (omega arith)) o) }

pub else-none : (at end : ℕ) (rows : List ℕ) → Else at end rows rows
else-none at end rows = record { room = refl; same = λ k o. refl }

module _ (rows new : List ℕ) (width at : ℕ) (room : length new ≡ length rows) (same : (k : ℕ) → at ≤ k → k ≤ at + width → get_or new k 0 ≡ get_or rows k 0) where
  row_same : Row rows width at → Row new width at
  row_same h =
      let e : get_or new at 0 ≡ get_or rows at 0 = same at (omega arith) (omega arith) in
      record { few = omega (arith, h.few); most = omega (arith, h.most); room = omega (arith, h.room) }

  at_same : Row rows width at → row_at new at ≡ row_at rows at
  at_same h =
      let e : get_or new at 0 ≡ get_or rows at 0 = same at (omega arith) (omega arith) in
      let n = get_or rows at 0 in
      let lt : n ≤ length (drop (at + 1) new) = rw (length-drop (at + 1) new) (omega (arith, h.room, h.most)) in
      ap (λ (m : ℕ). take m (drop (at + 1) new)) e
      ∙ (let all : take n (take n (drop (at + 1) new)) ≡ take n (drop (at + 1) rows) =
      row_list n (take n (drop (at + 1) new)) rows at (rw (length-take-le n (drop (at + 1) new) lt) (omega arith)) (omega (arith, h.room, h.most))
      (λ k l. get_or-take n (drop (at + 1) new) k 0 l ∙ get_or-drop (at + 1) new k 0 ∙ same ((at + 1) + k) (omega arith) (omega (arith, h.most))) in
      sym (take_twice n (drop (at + 1) new) lt) ∙ all)
    where
      take_twice : (n : ℕ) (l : List ℕ) → n ≤ length l → take n (take n l) ≡ take n l
      take_twice n l h =
          let a : length (take n l) ≡ n = length-take-le n l h in
          let b : length (take n (take n l)) ≡ n = length-take-le n (take n l) (rw a (omega arith)) in
          ext_get_or 0 (take n (take n l)) (take n l) (b ∙ sym a) (λ i q. let l' : i < n = omega arith in get_or-take n (take n l) i 0 l')

  pub known_same : (k : ℕ) → Known rows width at k → Known new width at k
  known_same k h = record { kind = h.kind; single = h.single; row = λ l. row_same (h.row l) }

  pub said_same : (e : Entry) → Known rows width at e.kind → said_at new at e ≡ said_at rows at e
  said_same e h =
      ⊎_elim
      (λ (l : e.kind < 9). said-one new at e.kind e.first (h.single l) ∙ sym (said-one rows at e.kind e.first (h.single l)))
      (λ (l : 9 ≤ e.kind). said_row new at e.kind e.first (omega arith) ∙ ap (said (e.kind - 8)) (at_same (h.row l)) ∙ sym (said_row rows at e.kind e.first (omega arith)))
      (less e.kind 9)

pub positive : (k : ℕ) → (k ≡ 0 → ⊥) → 0 < k
positive k ne = omega arith

pub nine-up : (rows : List ℕ) (width at k : ℕ) → Known rows width at k → 8 ≤ k → 9 ≤ k
nine-up rows width at k h l = ⊎_elim (λ (q : k < 9). absurd (let s : k < 7 = h.single q in omega arith)) (λ (q : 9 ≤ k). q) (less k 9)

-- a row that the crate scope_state's places have room for
pub loads : (rows : List ℕ) (width at k : ℕ) → Known rows width at k → width ≤ 8 → Loads rows at k
loads rows width at k h le = (
  record { kind = h.kind; single = h.single; row = λ l. record { few = (h.row l).few; most = omega arith; room = omega (arith, (h.row l).room, (h.row l).most) } },
  λ l. omega (arith, (h.row l).most),
)

-- a row has as many places as it says
pub row-length : (rows : List ℕ) (width at : ℕ) → Row rows width at → length (row_at rows at) ≡ get_or rows at 0
row-length rows width at h = length-take-le (get_or rows at 0) (drop (at + 1) rows) (rw (length-drop (at + 1) rows) (omega (arith, h.room, h.most)))

single : (xs : List ℕ) → length xs ≡ 1 → xs ≡ get_or xs 0 0 ∷ []
single [] h = absurd (omega arith)
single (x ∷ []) h = refl
single (x ∷ (y ∷ ys)) h = absurd (omega arith)

pub ok-same : {A E : Type 0} {a b : A} → ◌≡◌ {A = Result A E} (Ok a) (Ok b) → a ≡ b
ok-same e = cc

err-same : {A E : Type 0} {a b : E} → ◌≡◌ {A = Result A E} (Err a) (Err b) → a ≡ b
err-same e = cc

-- an error of one answer, as that of another
pub err-as : {A B E : Type 0} {a b : E} → ◌≡◌ {A = Result A E} (Err a) (Err b) → ◌≡◌ {A = Result B E} (Err a) (Err b)
err-as e = ap Err (err-same e)

pub joins-from : (k : Bool) (x y : Entry) (rows : List ℕ) (row more : ℕ) (a b : State) (r : Option State) → state_of a ≡ said_at rows row x → state_of b ≡ said_at rows more y
    → Joins r (join_state k (state_of a) (state_of b)) → Joins r (join_of k x y rows row more)
joins-from k x y rows row more a b r ea eb h =
    subst (λ (s : Status). Joins r (join_state k s (said_at rows more y))) ea (subst (λ (s : Status). Joins r (join_state k (state_of a) s)) eb h)

module _ (keeps : Bool) (width : ℕ) (x y : Entry) (rows : List ℕ) (row more : ℕ) where
  abbrev J : Status
  J = join_of keeps x y rows row more

  abbrev Is : Result Entry Stop → List ℕ → Type 0
  Is = JoinsAt keeps width x y rows row more

  joins-ok : (z : Entry) (new : List ℕ) → Else row (row + (width + 1)) rows new → said_at new row z ≡ J → Known new width row z.kind → over width J ≡ false → Is (Ok z) new
  joins-ok z new rest said known calm = record {
    rest = rest;
    is = λ w e. subst (λ (v : Entry). (said_at new row v ≡ J) × Known new width row v.kind × (over width J ≡ false)) (ok-same e) (said, known, calm);
    crowd = λ e. cc;
    short = λ e. cc;
    two = λ s e. cc;
  }

  module _ (s : State) (j : Joins (Some s) J) (room : length s.places.list ≡ 8) where
    all : length (listed s.places) ≡ s.places.count
    all = length-take-le s.places.count s.places.list (omega (arith, s.places.few))

    -- the places of the joined state are those of the result
    places-of : (b : Bool) → eqb s.kind 0 ≡ b → length (places_of (said s.kind (listed s.places))) ≡ length (listed s.places)
    places-of true e = let z : s.places.count ≡ 0 = eqb-true s.places.count 0 (sym s.given ∙ e) in rw e (sym z ∙ sym all)
    places-of false e = rw e

    count_of : length (places_of J) ≡ length (listed s.places)
    count_of = ap (λ (a : Status). length (places_of a)) (sym (j.is s refl)) ∙ places-of (eqb s.kind 0) refl

    module _ (fits : length (listed s.places) ≤ width) where
      calm : over width J ≡ false
      calm = le-ltb width (length (places_of J)) (omega (arith, count_of))

      pub joins-alive : length (listed s.places) ≡ 0 → Is (Ok (record { kind = 0; first = 0 })) rows
      joins-alive e =
          let n : s.places.count ≡ 0 = omega (arith, all) in
          let k : s.kind ≡ 0 = eqb-true s.kind 0 (s.given ∙ eq-eqb s.places.count 0 n) in
          joins-ok (record { kind = 0; first = 0 }) rows (else-none _ _ rows)
          (said-one rows row 0 0 (omega arith) ∙ ap (λ (b : Bool). cond b alive (gone (ltb 3 s.kind) (kind_of s.kind) (listed s.places))) (sym (eq-eqb s.kind 0 k)) ∙ j.is s refl)
          (known-one rows width row 0 (omega arith)) calm

      pub joins-one : length (listed s.places) ≡ 1 → (f : ℕ) → f ≡ get_or (listed s.places) 0 0 → Is (Ok (record { kind = s.kind; first = f })) rows
      joins-one e f ef =
          joins-ok (record { kind = s.kind; first = f }) rows (else-none _ _ rows)
          (said-one rows row s.kind f s.known ∙ ap (said s.kind) (ap (λ (n : ℕ). n ∷ []) ef ∙ sym (single (listed s.places) e)) ∙ j.is s refl)
          (known-one rows width row s.kind s.known) calm

      pub joins-many : (f : ℕ) (new : List ℕ) → 2 ≤ length (listed s.places) → row + width < length rows → Wrote rows row (listed s.places) new
          → Is (Ok (record { kind = s.kind + 8; first = f })) new
      joins-many f new l lr w =
          let some : s.places.count ≢ 0 = λ z. omega (arith, all) in
          let pos : s.kind ≢ 0 = eqb-false s.kind 0 (s.given ∙ ne_eqb s.places.count 0 some) in
          let back : s.kind + 8 - 8 ≡ s.kind = omega arith in
          joins-ok (record { kind = s.kind + 8; first = f }) new
          (else-wider row (row + (length (listed s.places) + 1)) (row + (width + 1)) rows new (omega arith) w.rest)
          (said_row new row (s.kind + 8) f (omega arith) ∙ ap (λ (k : ℕ). said k (row_at new row)) back ∙ ap (said s.kind) w.is ∙ j.is s refl)
          (record {
            kind = omega (arith, s.known);
            single = λ z. absurd (nine s.kind pos z);
            row = λ z. record { few = omega (arith, w.count); most = omega (arith, w.count); room = omega (arith, w.rest.room) };
          })
          calm
        where
          nine : (k : ℕ) → k ≢ 0 → k + 8 < 9 → ⊥
          nine k a b = omega arith
