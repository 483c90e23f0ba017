-- The tables that are lent: how many entries there are, what is answered past them, and that all below 840 says what they are.
-- Assumes nothing.
use Rattle.std.proofs.Common.{◌≡◌, ℕ, zero, suc, ◌+◌, ◌-◌, ◌<◌, ◌≤◌, false, eqb, List, [], ◌∷◌, map, length, get_or, take, drop, set, sym, refl, ap, ◌∙◌, subst, ⊎_elim, arith, length-set, get_or-set_other, get_or-take, get_or-set_same, take-take}
use lib.Seq.{length-slice, slice, take-nil, take-set-le}
use Rattle.tables.specs.Tables.{Tables}
use Rattle.image_fields.specs.Table.{entries}
use Rattle.tables.specs.Name.{name_of}
use Rattle.tables.specs.Ty.{type_in}
use Rattle.tables.specs.Signature.{struct_in, global_in}
use Rattle.image_fields.proofs.Tests.{less}
use Rattle.tables_lookup.specs.First.{AllWithin}
use Rattle.tables_lookup.specs.Ty.{Lower, should_auto_delete}
use Rattle.tables_lookup.specs.Lent.{names_in, types_in, structs_in, Filled, Lent, Says}
use Rattle.tables_lookup.proofs.Ty.{past-struct, keeps}

-- a part, as the code borrows it
pub part-is : (from to : ℕ) (l : List ℕ) → from ≤ to → take (to - from) (drop from l) ≡ slice from to l
part-is zero to l le = let e : to - 0 ≡ to = omega arith in ap (λ k. take k l) e
part-is (suc from) zero l le = absurd (omega arith)
part-is (suc from) (suc to) [] le = take-nil (suc to - suc from)
part-is (suc from) (suc to) (x ∷ l) le = let e : suc to - suc from ≡ to - from = omega arith in rw e (part-is from to l (omega arith))

pub names-lent : (tb : List ℕ) → take (8 + get_or tb 0 0 - 8) (drop 8 tb) ≡ names_in tb
names-lent tb = part-is 8 (8 + get_or tb 0 0) tb (omega arith)

pub types-lent : (tb : List ℕ) → take (520 + get_or tb 1 0 - 520) (drop 520 tb) ≡ types_in tb
types-lent tb = part-is 520 (520 + get_or tb 1 0) tb (omega arith)

pub structs-lent : (tb : List ℕ) → take (776 + get_or tb 2 0 - 776) (drop 776 tb) ≡ structs_in tb
structs-lent tb = part-is 776 (776 + get_or tb 2 0) tb (omega arith)

-- what is known of the parts, as the code borrows them
module _ {s tb : List ℕ} where
  pub names-within : Filled s tb → AllWithin s (take (8 + get_or tb 0 0 - 8) (drop 8 tb))
  names-within f = subst (AllWithin s) (sym (names-lent tb)) f.names

  pub types-within : Filled s tb → AllWithin s (take (520 + get_or tb 1 0 - 520) (drop 520 tb))
  types-within f = subst (AllWithin s) (sym (types-lent tb)) f.types

  pub types-lower : Filled s tb → Lower (map (type_in s) (take (520 + get_or tb 1 0 - 520) (drop 520 tb)))
  types-lower f = subst (λ ts. Lower (map (type_in s) ts)) (sym (types-lent tb)) f.lower

  pub structs-within : Filled s tb → AllWithin s (take (776 + get_or tb 2 0 - 776) (drop 776 tb))
  structs-within f = subst (AllWithin s) (sym (structs-lent tb)) f.structs

  pub names-said : {T : Tables} → Says s tb T → map (name_of s) (take (8 + get_or tb 0 0 - 8) (drop 8 tb)) ≡ T.names
  names-said h = ap (map (name_of s)) (names-lent tb) ∙ h.names

  pub types-said : {T : Tables} → Says s tb T → map (type_in s) (take (520 + get_or tb 1 0 - 520) (drop 520 tb)) ≡ T.types
  types-said h = ap (map (type_in s)) (types-lent tb) ∙ h.types

  pub structs-said : {T : Tables} → Says s tb T → map (struct_in s) (take (776 + get_or tb 2 0 - 776) (drop 776 tb)) ≡ T.structs
  structs-said h = ap (map (struct_in s)) (structs-lent tb) ∙ h.structs

-- a part of so many numbers
part-many : (from n : ℕ) (tb : List ℕ) → from + n ≤ length tb → length (slice from (from + n) tb) ≡ n
part-many from n tb le = let e = length-slice from (from + n) tb le in omega arith

module _ (tb : List ℕ) (size : length tb ≡ 1096) where
  pub names-many : get_or tb 0 0 ≤ 512 → length (names_in tb) ≡ get_or tb 0 0
  names-many le = part-many 8 (get_or tb 0 0) tb (omega arith)

  pub types-many : get_or tb 1 0 ≤ 256 → length (types_in tb) ≡ get_or tb 1 0
  types-many le = part-many 520 (get_or tb 1 0) tb (omega arith)

  pub structs-many : get_or tb 2 0 ≤ 64 → length (structs_in tb) ≡ get_or tb 2 0
  structs-many le = part-many 776 (get_or tb 2 0) tb (omega arith)

  -- what is answered below the number of types, and past them
  module _ (s : List ℕ) (T : Tables) (says : Says s tb T) where
    pub drops-there : Lent s tb → (t : ℕ) → t < get_or tb 1 0 → eqb (get_or tb (840 + t) 0) 1 ≡ should_auto_delete T.types T.structs t
    drops-there lent t lt = lent.drops t lt ∙ ap (λ ts. should_auto_delete ts (map (struct_in s) (structs_in tb)) t) says.types ∙ ap (λ xs. should_auto_delete T.types xs t) says.structs

    pub drops-past : get_or tb 1 0 ≤ 256 → (t : ℕ) → get_or tb 1 0 ≤ t → false ≡ should_auto_delete T.types T.structs t
    drops-past few t le =
        let m = types-many few in
        subst (λ ts. false ≡ should_auto_delete ts T.structs t) says.types
        (keeps (map (type_in s) (types_in tb)) s (types_in tb) t T.structs (past-struct s (types_in tb) t T.structs (omega arith)))

-- some tables stand there
abbrev pub tables_of : List ℕ → List ℕ → Tables
tables_of s tb = record {
  names = map (name_of s) (names_in tb);
  types = map (type_in s) (types_in tb);
  structs = map (struct_in s) (structs_in tb);
  globals = entries (global_in s) 6 (get_or tb 3 0) (get_or tb 4 0);
}

pub said : (s tb : List ℕ) → Says s tb (tables_of s tb)
said s tb = record { names = refl; types = refl; structs = refl; globals = refl }

-- tables that are the same below 840
module _ (tb tb' : List ℕ) (e : take 840 tb' ≡ take 840 tb) where
  number-kept : (k : ℕ) → k < 840 → get_or tb' k 0 ≡ get_or tb k 0
  number-kept k lt = sym (get_or-take 840 tb' k 0 lt) ∙ ap (λ l. get_or l k 0) e ∙ get_or-take 840 tb k 0 lt

  part-kept : (from k most : ℕ) → k < 840 → get_or tb k 0 ≤ most → from + most ≤ 840 → slice from (from + get_or tb' k 0) tb' ≡ slice from (from + get_or tb k 0) tb
  part-kept from k most lt few le =
      ap (λ x. slice from (from + x) tb') (number-kept k lt)
      ∙ ap (drop from) (sym (take-take (from + get_or tb k 0) 840 tb' (omega arith)) ∙ ap (take (from + get_or tb k 0)) e ∙ take-take (from + get_or tb k 0) 840 tb (omega arith))

  module _ (s : List ℕ) (f : Filled s tb) where
    names-kept : names_in tb' ≡ names_in tb
    names-kept = part-kept 8 0 512 (omega arith) f.few_names (omega arith)

    types-kept : types_in tb' ≡ types_in tb
    types-kept = part-kept 520 1 256 (omega arith) f.few_types (omega arith)

    structs-kept : structs_in tb' ≡ structs_in tb
    structs-kept = part-kept 776 2 64 (omega arith) f.few_structs (omega arith)

    pub asks-kept : (t : ℕ) → should_auto_delete (map (type_in s) (types_in tb')) (map (struct_in s) (structs_in tb')) t ≡ should_auto_delete (map (type_in s) (types_in tb)) (map (struct_in s) (structs_in tb)) t
    asks-kept t =
        ap (λ ts. should_auto_delete (map (type_in s) ts) (map (struct_in s) (structs_in tb')) t) types-kept
        ∙ ap (λ xs. should_auto_delete (map (type_in s) (types_in tb)) (map (struct_in s) xs) t) structs-kept

    pub filled-kept : length tb' ≡ 1096 → Filled s tb'
    filled-kept size = record {
      size = size;
      few_names = rw (number-kept 0 (omega arith)) f.few_names;
      few_types = rw (number-kept 1 (omega arith)) f.few_types;
      few_structs = rw (number-kept 2 (omega arith)) f.few_structs;
      names = rw names-kept f.names;
      types = rw types-kept f.types;
      structs = rw structs-kept f.structs;
      lower = rw types-kept f.lower;
      globals = rw (number-kept 4 (omega arith), number-kept 3 (omega arith)) f.globals;
    }

    pub says-kept : (T : Tables) → Says s tb T → Says s tb' T
    says-kept T h = record {
      names = ap (map (name_of s)) names-kept ∙ h.names;
      types = ap (map (type_in s)) types-kept ∙ h.types;
      structs = ap (map (struct_in s)) structs-kept ∙ h.structs;
      globals = rw (number-kept 3 (omega arith), number-kept 4 (omega arith)) h.globals;
    }

-- the first n types are asked
pub record Asked (s tb tb' : List ℕ) (n : ℕ) : Type 0 where
  pub size : length tb' ≡ 1096
  pub kept : take 840 tb' ≡ take 840 tb
  pub are : (t : ℕ) → t < n → eqb (get_or tb' (840 + t) 0) 1 ≡ should_auto_delete (map (type_in s) (types_in tb)) (map (struct_in s) (structs_in tb)) t

module _ (s tb : List ℕ) (f : Filled s tb) where
  pub none-asked : Asked s tb tb 0
  none-asked = record { size = f.size; kept = refl; are = λ t lt. absurd (omega arith) }

  module _ (tb' : List ℕ) {n : ℕ} (a : Asked s tb tb' n) where
    pub still-filled : Filled s tb'
    still-filled = filled-kept tb tb' a.kept s f a.size

    pub one-asked : n < 256 → (v : ℕ) → eqb v 1 ≡ should_auto_delete (map (type_in s) (types_in tb')) (map (struct_in s) (structs_in tb')) n → Asked s tb (set tb' (840 + n) v) (n + 1)
    one-asked few v e = record {
      size = length-set tb' (840 + n) v ∙ a.size;
      kept = take-set-le 840 tb' (840 + n) v (omega arith) ∙ a.kept;
      are = λ t lt.
          ⊎_elim
          (λ below. ap (λ x. eqb x 1) (get_or-set_other tb' (840 + n) (840 + t) v 0 (λ z. omega arith)) ∙ a.are t below)
          (λ past. let z : n ≡ t = omega arith in
          subst (λ k. eqb (get_or (set tb' (840 + n) v) (840 + k) 0) 1 ≡ should_auto_delete (map (type_in s) (types_in tb)) (map (struct_in s) (structs_in tb)) k) z
          (ap (λ x. eqb x 1) (get_or-set_same tb' (840 + n) v 0 (let k = a.size in omega arith)) ∙ e ∙ asks-kept tb tb' a.kept s f n))
          (less t n);
    }

    pub all_asked : n ≡ get_or tb 1 0 → Lent s tb'
    all_asked e =
        record {
          filled = still-filled;
          drops = λ t lt. a.are t (let k = number-kept tb tb' a.kept 1 (omega arith) in omega arith) ∙ sym (asks-kept tb tb' a.kept s f t);
        }
