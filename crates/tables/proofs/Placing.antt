-- A loop that reads a table's entries and keeps their positions.
-- Assumes nothing.
use Rattle.std.proofs.Common.{◌≡◌, ℕ, ◌+◌, ◌<◌, ◌≤◌, List, [], ◌∷◌, ◌++◌, map, length, get_or, take, set, sym, refl, ap, ◌∙◌, subst, arith, length-set, get_or-set_other, get_or-set_same, below_more}
use Rattle.image_fields.specs.Parsed.{Parsed, ok, fault}
use Rattle.image_fields.specs.Table.{table_from, table_at}
use Rattle.image_fields.specs.Number.{field_at}
use Rattle.image_fields.specs.Answer.{table_of}
use Rattle.std.specs.Prelude.{Result, Ok, Err}
use Rattle.image_fields.proofs.Inverse.{impossible}
use Rattle.image_fields.proofs.Answers.{is-table, wrong-table}
use Rattle.image_fields.proofs.Tables.{Filling, filling-start, filling-stop, filling-done, filling-next, placed-next, count-stop, count-few, count-good}
use Rattle.tables.specs.Answer.{Within, Listed}

module _ {A : Type 0} (f : List A → ℕ → Parsed A) (view : ℕ → A) (s : List ℕ) where
  -- what the loop keeps
  pub record Placing (n at : ℕ) (starts : List ℕ) (i p : ℕ) (xs : List A) : Type 0 where
    pub fill : Filling f n at i p xs
    pub high : n ≤ length starts
    pub placed : map view (take i starts) ≡ xs
    pub within : Within s starts i

  -- what it comes to
  abbrev pub Lists : Parsed (List A) → List ℕ → Type 0
  Lists x starts = (xs : List A) (next : ℕ) → x ≡ ok xs next → Listed view s starts xs

  pub placing-start : (n at : ℕ) (starts : List ℕ) → n ≤ length starts → Placing n at starts 0 at []
  placing-start n at starts le = record { fill = filling-start f n at; high = le; placed = refl; within = λ k lt. absurd (omega arith) }

  -- a table that is refused has no entries
  pub lists-nothing : {x : Parsed (List A)} {k : ℕ} (starts : List ℕ) → x ≡ fault k → (Err k ≡ table_of x) × Lists x starts
  lists-nothing starts z = (wrong-table z, λ xs next y. impossible (sym z ∙ y))

  module _ {n at : ℕ} {starts : List ℕ} {i p : ℕ} {xs : List A} (inv : Placing n at starts i p xs) where
    pub placing-stop : {k : ℕ} → i < n → f (xs) p ≡ fault k
        → (Err k ≡ table_of (table_from f [] n at)) × Lists (table_from f [] n at) starts
    placing-stop lt e = lists-nothing starts (filling-stop f inv.fill lt e)

    pub placing-done : n ≤ i → (Ok (n, p) ≡ table_of (table_from f [] n at)) × Lists (table_from f [] n at) starts
    placing-done le =
        let g = filling-done f inv.fill le in
        let m = inv.fill.many in (
          is-table g.0 g.1,
          λ ys next y. let e : xs ≡ ys = (let z = g.0 in cc) in
              subst (Listed view s starts) e (record { placed = rw m inv.placed; within = rw m inv.within }),
        )

    pub placing-next : {x : A} {q : ℕ} → i < n → p < length s → f (xs) p ≡ ok x q → x ≡ view p
        → Placing n at (set starts i p) (i + 1) q (xs ++ (x ∷ []))
    placing-next {x} {q} lt inside e v =
        let h = inv.high in
        record {
          fill = filling-next f inv.fill lt e;
          high = simp length-set h;
          placed = placed-next view starts i p (omega arith) inv.placed ∙ ap (λ y. xs ++ (y ∷ [])) (sym v);
          within = below_more (λ k. get_or (set starts i p) k 0 < length s) i
              (λ k l. subst (λ x. x < length s) (sym (get_or-set_other starts i k p 0 (λ z. omega arith))) (inv.within k l))
              (subst (λ x. x < length s) (sym (get_or-set_same starts i p 0 (omega arith))) inside);
        }

  -- the table's head
  module _ (k least limit : ℕ) (at : ℕ) (starts : List ℕ) where
    pub listed-none : {m : ℕ} → field_at k limit 2 s at ≡ fault m
        → (Err m ≡ table_of (table_at k least limit f s at)) × Lists (table_at k least limit f s at) starts
    listed-none e = lists-nothing starts (count-stop f k least limit s at e)

    module _ {n p : ℕ} (e : field_at k limit 2 s at ≡ ok n p) where
      pub listed-few : n < least → (Err k ≡ table_of (table_at k least limit f s at)) × Lists (table_at k least limit f s at) starts
      listed-few lt = lists-nothing starts (count-few f k least limit s at e lt)

      pub listed-all : {r : Result (ℕ × ℕ) ℕ} → least ≤ n → (r ≡ table_of (table_from f [] n p)) × Lists (table_from f [] n p) starts
          → (r ≡ table_of (table_at k least limit f s at)) × Lists (table_at k least limit f s at) starts
      listed-all {r} le g = subst (λ x. (r ≡ table_of x) × Lists x starts) (sym (count-good f k least limit s at e le)) g
