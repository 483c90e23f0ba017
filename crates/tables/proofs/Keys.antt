-- The keys of names: names whose keys differ differ. The loop over the table of names.
-- Assumes nothing.
use Rattle.std.proofs.Common.{◌≡◌, ℕ, zero, suc, ◌+◌, ◌*◌, ◌%◌, ◌<◌, fold, ◌≤◌, Bool, true, false, not, ◌||◌, eqb, List, [], ◌∷◌, ◌++◌, map, length, get_or, take, set, sym, subst, refl, ap, ◌∙◌, ⊎_elim, arith, length-set, get_or-set_other, get_or-set_same, below_more, eq-eqb}
use mathlib.Core.Bool.{not-not}
use Rattle.std.specs.List.{list_any}
use Rattle.image_fields.specs.Parsed.{fault}
use Rattle.image_fields.specs.Table.{member, table_from}
use Rattle.image_fields.specs.Answer.{table_of}
use Rattle.std.specs.Prelude.{Result, Ok, Err}
use Rattle.image_fields.proofs.Tests.{split, false-true}
use Rattle.tables.specs.Limits.{version1}
use Rattle.tables.specs.Name.{name_of, name_at, same_bytes, key_from, key_of}
use Rattle.tables.specs.Answer.{Whole, Keyed, length_at}
use Rattle.tables.proofs.Placing.{Placing, Lists, placing-start, placing-stop, placing-done, placing-next}
use Rattle.tables.proofs.Names.{same_true, NameStands, name-none, name_new, name-twice}

-- the key of a name, byte by byte: a step that wraps is one modulo 2^32
key_step : (k x : ℕ) → (k * 31 % 4294967296 + x) % 4294967296 ≡ (k * 31 + x) % 4294967296
key_step k x = omega arith

pub key_fold : (k : ℕ) (xs : List ℕ) → fold (λ key x. (key * 31 % 4294967296 + x) % 4294967296) k xs ≡ key_from k xs
unfolding key_from
key_fold k [] = refl
key_fold k (x ∷ xs) = rw (key_step k x) (key_fold ((k * 31 + x) % 4294967296) xs)

-- a key among those
pub has_key : (key : ℕ) (keys : List ℕ) → list_any (λ k. eqb k key) keys ≡ member eqb keys key
unfolding member
has_key key [] = refl
has_key key (k ∷ keys) = ap (λ b. eqb k key || b) (has_key key keys)

none_has : (keys : List ℕ) (key : ℕ) → member eqb keys key ≡ false → (k : ℕ) → k < length keys → get_or keys k 0 ≡ key → ⊥
unfolding member
none_has [] key m k lt e = omega arith
none_has (x ∷ keys) key m zero lt e = let z : false ≡ true = sym m ∙ rw (eq-eqb x key e) refl in false-true z
none_has (x ∷ keys) key m (suc k) lt e = none_has keys key (second (eqb x key) (member eqb keys key) m) k (omega arith) e
  where
    second : (a b : Bool) → (a || b) ≡ false → b ≡ false
    second true b e = false-true (sym e)
    second false b e = e

-- the names at the first j positions are others than that
abbrev pub Others : List ℕ → List ℕ → List ℕ → ℕ → Type 0
Others s starts name j = (k : ℕ) → k < j → same_bytes (name_of s (get_or starts k 0)) name ≡ false

module _ (s starts keys : List ℕ) (i : ℕ) (name : List ℕ) (key : ℕ) (keyed : Keyed s starts keys i) (ek : key ≡ key_of name) where
  pub other : (k : ℕ) → k < i → (get_or keys k 0 ≡ key → ⊥) → same_bytes (name_of s (get_or starts k 0)) name ≡ false
  other k lt ne =
      ⊎_elim (λ e. absurd (ne (keyed.are k lt ∙ ap key_of (same_true (name_of s (get_or starts k 0)) name e) ∙ sym ek)))
      (λ e. e)
      (split (same_bytes (name_of s (get_or starts k 0)) name))

  pub others-all : {b : Bool} → i ≡ length keys → b ≡ list_any (λ k. eqb k key) keys → not b ≡ true → Others s starts name i
  others-all {b} le e f k lt = other k lt (none_has keys key (sym (has_key key keys) ∙ sym e ∙ sym (not-not b) ∙ ap not f) k (omega arith))

keyed-start : (s starts keys : List ℕ) → Keyed s starts keys 0
keyed-start s starts keys = record { are = λ k lt. absurd (omega arith) }

-- one more name and its key
keyed-next : {s starts keys : List ℕ} {i : ℕ} (p key : ℕ) → Keyed s starts keys i → i < length starts → i < length keys → key ≡ key_of (name_of s p)
    → Keyed s (set starts i p) (set keys i key) (i + 1)
keyed-next {s} {starts} {keys} {i} p key inv ls lk ek = record {
  are = below_more (λ k. get_or (set keys i key) k 0 ≡ key_of (name_of s (get_or (set starts i p) k 0))) i
      (λ k l. let ne : k ≡ i → ⊥ = λ z. omega arith in
      get_or-set_other keys i k key 0 ne ∙ inv.are k l ∙ ap (λ q. key_of (name_of s q)) (sym (get_or-set_other starts i k p 0 ne)))
      (get_or-set_same keys i key 0 lk ∙ ek ∙ ap (λ q. key_of (name_of s q)) (sym (get_or-set_same starts i p 0 ls)));
}

-- what the loop over the table of names keeps
pub record Naming (s : List ℕ) (n at : ℕ) (starts keys : List ℕ) (i p : ℕ) : Type 0 where
  pub ns : List (List ℕ)
  pub place : Placing (name_at version1 s) (name_of s) s n at starts i p ns
  pub whole : Whole s starts i
  pub keyed : Keyed s starts keys i
  pub room : n ≤ length keys

pub naming-start : (s : List ℕ) (n at : ℕ) (starts keys : List ℕ) → n ≤ length starts → n ≤ length keys → Naming s n at starts keys 0 at
naming-start s n at starts keys l m = record {
  ns = [];
  place = placing-start (name_at version1 s) (name_of s) s n at starts l;
  whole = λ k lt. absurd (omega arith);
  keyed = keyed-start s starts keys;
  room = m;
}

module _ {s : List ℕ} {n at : ℕ} {starts keys : List ℕ} {i p : ℕ} (inv : Naming s n at starts keys i p) where
  -- what it comes to
  abbrev Answer : Result (ℕ × ℕ) ℕ → Type 0
  Answer r = (r ≡ table_of (table_from (name_at version1 s) [] n at)) × Lists (name_at version1 s) (name_of s) s (table_from (name_at version1 s) [] n at) starts

  pub naming-done : n ≤ i → Answer (Ok (n, p))
  naming-done le = placing-done (name_at version1 s) (name_of s) s inv.place le

  pub naming-none : {e : ℕ} → Err e ≡ length_at s p → i < n → Answer (Err e)
  naming-none e lt =
      let g = name-none s inv.ns p e in
      placing-stop (name_at version1 s) (name_of s) s inv.place lt (g.1 ∙ ap fault (sym g.0))

  module _ {len : ℕ} (g : NameStands s inv.ns p len) (lt : i < n) {b : Bool} (eb : b ≡ member same_bytes (map (name_of s) (take i starts)) (name_of s p)) where
    among : member same_bytes inv.ns (name_of s p) ≡ b
    among = ap (λ l. member same_bytes l (name_of s p)) (sym inv.place.placed) ∙ sym eb

    pub naming-twice : b ≡ true → Answer (Err 3)
    naming-twice t = placing-stop (name_at version1 s) (name_of s) s inv.place lt (name-twice s inv.ns p g (among ∙ t))

    pub naming-next : b ≡ false → {key : ℕ} → key ≡ key_of (name_of s p) → Naming s n at (set starts i p) (set keys i key) (i + 1) (p + (len + 1))
    naming-next f {key} ek =
        let h = inv.place.high in
        let r = inv.room in
        let w = g.whole in
        record {
          ns = inv.ns ++ (name_of s p ∷ []);
          place = placing-next (name_at version1 s) (name_of s) s inv.place lt (omega arith) (name_new s inv.ns p g (among ∙ f)) refl;
          whole = below_more (λ k. get_or (set starts i p) k 0 + get_or s (get_or (set starts i p) k 0) 0 < length s) i
              (λ k l. subst (λ q. q + get_or s q 0 < length s) (sym (get_or-set_other starts i k p 0 (λ z. omega arith))) (inv.whole k l))
              (subst (λ q. q + get_or s q 0 < length s) (sym (get_or-set_same starts i p 0 (omega arith))) w);
          keyed = keyed-next p key inv.keyed (omega arith) (omega arith) ek;
          room = simp length-set r;
        }
