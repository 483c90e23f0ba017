-- What the tables answer, as the code asks them.
-- Assumes nothing.
use mathlib.Core.Path.{◌≡◌, refl, sym, ap, ◌∙◌, subst}
use mathlib.Core.List.{List, [], ◌∷◌, map}
use mathlib.Core.Bool.{Bool, false}
use mathlib.Core.Option.{Option, none, some}
use Rattle.std.specs.Prelude as std
use Rattle.std.specs.Option.{option_eq}
use Prim.Native.Nat.{ℕ, zero, suc, ◌+◌, ◌≤◌, ◌<◌}
use native.Mathlib.Omega.{arith}
use lib.ListN.{length, get_or}
use lib.Dec.{eqb}
use Rattle.image_fields.specs.Number.{four}
use Rattle.image_fields.specs.Bytes.{Bytes}
use Rattle.image_fields.specs.Table.{entries}
use Rattle.tables.specs.Tables.{Tables}
use Rattle.tables.specs.Name.{name_of, starts_with, same_bytes}
use Rattle.tables.specs.Ty.{type_in}
use Rattle.tables.specs.Signature.{struct_in, global_in}
use Rattle.tables_lookup.specs.Name.{is_temp, is_move}
use Rattle.tables_lookup.specs.Signature.{modifier_of, is_consuming, global_no, global_of}
use Rattle.tables_lookup.specs.First.{first_from, and_then}
use Rattle.tables_lookup.specs.Answer.{found_of}
use Rattle.tables_lookup.proofs.First.{viewed, was-found, was-missing}
use Rattle.rules.specs.Questions.{is_temp_of, is_move_of, consumes}
use Rattle.rules.specs.Questions as questions
use Rattle.rules.specs.Effects.{moves_global, move_local, move_global, move_ident}

past : {A : Type 0} (f : ℕ → List A) (ns : List ℕ) (n : ℕ) → length ns ≤ n → get_or (map f ns) n [] ≡ []
past f [] n le = refl
past f (x ∷ xs) zero le = absurd (omega arith)
past f (x ∷ xs) (suc n) le = past f xs n (omega arith)

-- names
module _ (s ns : List ℕ) (T : Tables) (e : map (name_of s) ns ≡ T.names) {k n : ℕ} (ek : k ≡ n) where
  name_in : k < length ns → name_of s (get_or ns k 0) ≡ get_or T.names n []
  name_in lt = sym (viewed (name_of s) ns k [] lt) ∙ ap (λ l. get_or l k []) e ∙ ap (λ x. get_or T.names x []) ek

  name_out : length ns ≤ k → get_or T.names n [] ≡ []
  name_out le = ap (λ x. get_or T.names x []) (sym ek) ∙ ap (λ l. get_or l k []) (sym e) ∙ past (name_of s) ns k le

  pub temp-in : {r : Bool} → k < length ns → r ≡ is_temp (name_of s (get_or ns k 0)) → r ≡ is_temp_of T n
  unfolding is_temp_of
  temp-in lt er = er ∙ ap is_temp (name_in lt)

  pub temp-out : length ns ≤ k → false ≡ is_temp_of T n
  unfolding is_temp_of starts_with
  temp-out le = sym (ap is_temp (name_out le))

  pub move_in : {r : Bool} → k < length ns → r ≡ is_move (name_of s (get_or ns k 0)) → r ≡ is_move_of T n
  unfolding is_move_of
  move_in lt er = er ∙ ap is_move (name_in lt)

  pub move-out : length ns ≤ k → false ≡ is_move_of T n
  unfolding is_move_of same_bytes
  move-out le = sym (ap is_move (name_out le))

-- methods
said-consuming : (o : Option ℕ) → option_eq eqb (found_of o) (std.Some 3) ≡ is_consuming o
unfolding found_of is_consuming
said-consuming none = refl
said-consuming (some k) = refl

module _ (s ts xs : List ℕ) (T : Tables) (et : map (type_in s) ts ≡ T.types) (ex : map (struct_in s) xs ≡ T.structs) (ty m : ℕ) {r : std.Option ℕ}
    (er : r ≡ found_of (modifier_of (map (type_in s) ts) (map (struct_in s) xs) ty m)) where
  same : r ≡ found_of (modifier_of T.types T.structs ty m)
  same = er ∙ ap (λ x. found_of (modifier_of x (map (struct_in s) xs) ty m)) et ∙ ap (λ x. found_of (modifier_of T.types x ty m)) ex

  pub asked-consuming : option_eq eqb r (std.Some 3) ≡ consumes T ty m
  unfolding consumes
  asked-consuming = ap (λ x. option_eq eqb x (std.Some 3)) same ∙ said-consuming (modifier_of T.types T.structs ty m)

-- places in bytes fit 32 bits
module _ (s : List ℕ) (bytes : Bytes s) where
  four-small : (p : ℕ) → four s p < 4294967296
  four-small p =
      let a = bytes p in
      let b = bytes (p + 1) in
      let c = bytes (p + 2) in
      let d = bytes (p + 2 + 1) in
      omega arith

  span_small : (count first i : ℕ) → (global_no (entries (global_in s) 6 count first) i).span < 4294967296
  unfolding entries
  span_small zero first i = omega arith
  span_small (suc n) first zero = four-small (first + 2)
  span_small (suc n) first (suc i) = span_small n (first + 6) i

  pub global-small : (count first k : ℕ) {r : std.Option ℕ} {def : ℕ} → r ≡ found_of (global_of (entries (global_in s) 6 count first) k) → r ≡ std.Some def → def < 4294967296
  unfolding global_of and_then
  global-small count first k er ed = go (first_from (λ x. eqb x.name k) 0 (entries (global_in s) 6 count first)) (was-found er ed)
    where
      go : (o : Option ℕ) {def : ℕ} → and_then o (λ i. some (global_no (entries (global_in s) 6 count first) i).span) ≡ some def → def < 4294967296
      go none e = let z : ◌≡◌ {A = ℕ} 0 1 = cc in absurd (omega arith)
      go (some i) {def} e = let z : (global_no (entries (global_in s) 6 count first) i).span ≡ def = cc in subst (λ x. x < 4294967296) z (span_small count first i)

-- globals
module _ (s : List ℕ) (count first : ℕ) (T : Tables) (e : entries (global_in s) 6 count first ≡ T.globals) {k n : ℕ} (ek : k ≡ n) (p : ℕ) {r : std.Option ℕ}
    (er : r ≡ found_of (global_of (entries (global_in s) 6 count first) k)) where
  asked : r ≡ found_of (questions.global_in T n)
  unfolding questions.global_in
  asked = er ∙ ap (λ x. found_of (global_of x k)) e ∙ ap (λ x. found_of (global_of T.globals x)) ek

  pub a-global : {def : ℕ} → r ≡ std.Some def → moves_global p def ≡ move_ident T n p
  a-global ed = sym (ap (move_global T n p) (was-found asked ed))

  pub no-global : r ≡ std.None → move_local T n p ≡ move_ident T n p
  no-global ed = sym (ap (move_global T n p) (was-missing asked ed))
