-- What a struct, a method and a global that were found answer.
-- Assumes nothing.
use Rattle.std.proofs.Common.{◌≡◌, ℕ, ◌+◌, ◌*◌, ◌<◌, Bool, List, map, length, get_or, sym, refl, ap, ◌∙◌}
use mathlib.Core.Option.{none, some}
use Rattle.image_fields.specs.Number.{four}
use Rattle.image_fields.specs.Table.{entries}
use Rattle.image_fields.proofs.Tables.{entries-map}
use Rattle.tables.specs.Ty.{Ty}
use Rattle.tables.specs.Signature.{Struct, method_in, struct_in, global_in}
use Rattle.tables_lookup.specs.First.{first_from, and_then, is_number, positions}
use Rattle.tables_lookup.specs.Ty.{struct_no, struct_named, class_of}
use Rattle.tables_lookup.specs.Signature.{modifier_in, modifier_of, global_of}
use Rattle.tables_lookup.proofs.First.{goes_on, stops, first-map, entry_at, viewed}

-- entries of one width, looked for by the number at their positions
module _ {A : Type 0} (q : A → Bool) (view : ℕ → A) (s : List ℕ) (x : ℕ) (same : (p : ℕ) → q (view p) ≡ is_number s x p) (w n at : ℕ) where
  by_number : first_from q 0 (entries view w n at) ≡ first_from (is_number s x) 0 (positions w n at)
  by_number =
      ap (first_from q 0) (sym (entries-map view (λ p. p) w n at))
      ∙ first-map q (is_number s x) view same 0 (positions w n at)

  module _ (field : A → ℕ) (d : A) where
    entry_found : {i m : ℕ} → i < n → first_from (is_number s x) 0 (positions w n at) ≡ some i → m ≡ field (view (at + w * i))
        → and_then (first_from q 0 (entries view w n at)) (λ j. some (field (get_or (entries view w n at) j d))) ≡ some m
    entry_found {i} lt e f =
        goes_on _ (by_number ∙ e) ∙ ap some (ap field (entry_at view w n at i d lt) ∙ sym f)

    entry-missing : first_from (is_number s x) 0 (positions w n at) ≡ none
        → and_then (first_from q 0 (entries view w n at)) (λ j. some (field (get_or (entries view w n at) j d))) ≡ none
    entry-missing e = stops _ (by_number ∙ e)

-- methods of 3 bytes, globals of 6
module _ (s : List ℕ) (n at x : ℕ) where
  pub modifier-found : {i m : ℕ} → i < n → first_from (is_number s x) 0 (positions 3 n at) ≡ some i → m ≡ get_or s (at + 3 * i + 2) 0
      → modifier_in (entries (method_in s) 3 n at) x ≡ some m
  unfolding modifier_in
  modifier-found lt e f = entry_found _ (method_in s) s x (λ p. refl) 3 n at (λ y. y.modifier) _ lt e f

  pub modifier-missing : first_from (is_number s x) 0 (positions 3 n at) ≡ none → modifier_in (entries (method_in s) 3 n at) x ≡ none
  unfolding modifier_in
  modifier-missing e = entry-missing _ (method_in s) s x (λ p. refl) 3 n at (λ y. y.modifier) _ e

  pub span-found : {i m : ℕ} → i < n → first_from (is_number s x) 0 (positions 6 n at) ≡ some i → m ≡ four s (at + 6 * i + 2)
      → global_of (entries (global_in s) 6 n at) x ≡ some m
  unfolding global_of
  span-found lt e f = entry_found _ (global_in s) s x (λ p. refl) 6 n at (λ y. y.span) _ lt e f

  pub span-missing : first_from (is_number s x) 0 (positions 6 n at) ≡ none → global_of (entries (global_in s) 6 n at) x ≡ none
  unfolding global_of
  span-missing e = entry-missing _ (global_in s) s x (λ p. refl) 6 n at (λ y. y.span) _ e

-- a method of the struct of a type's class
module _ (types : List Ty) (structs : List Struct) (t m : ℕ) where
  pub no-class-method : class_of types t ≡ none → modifier_of types structs t m ≡ none
  unfolding modifier_of
  no-class-method e = stops _ e

  pub no-struct-method : {n : ℕ} → class_of types t ≡ some n → struct_named n structs ≡ none → modifier_of types structs t m ≡ none
  unfolding modifier_of
  no-struct-method e f = goes_on _ e ∙ stops _ f

  pub struct-method : {n i : ℕ} → class_of types t ≡ some n → struct_named n structs ≡ some i
      → modifier_of types structs t m ≡ modifier_in (struct_no structs i).methods m
  unfolding modifier_of
  struct-method e f = goes_on _ e ∙ goes_on _ f

pub methods-in : (s starts : List ℕ) {i : ℕ} → i < length starts → (m : ℕ)
    → modifier_in (struct_in s (get_or starts i 0)).methods m ≡ modifier_in (struct_no (map (struct_in s) starts) i).methods m
methods-in s starts {i} lt m = ap (λ x. modifier_in x.methods m) (sym (viewed (struct_in s) starts i _ lt))
