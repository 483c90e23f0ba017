-- Laws of what is deleted.
-- Assumes nothing.
use Prim.Native.Nat.{ℕ, suc, ◌+◌}
use mathlib.Core.Path.{◌≡◌, sym, ap, ◌∙◌, subst}
use mathlib.Core.Bool.{Bool}
use mathlib.Core.List.{List, [], ◌∷◌, ◌++◌, append-nil}
use native.Mathlib.Omega.{arith}
use lib.ListN.{length}
use Rattle.image_fields.specs.Bytes.{four_bytes}
use Rattle.tables.specs.Tables.{Tables}
use Rattle.tables_lookup.specs.Ty.{should_auto_delete}
use Rattle.image_encoding.specs.Body.{encode_expr}
use Rattle.rules.specs.Questions.{auto}
use Rattle.rules.specs.Rules.{Drop, drop_of}
use Rattle.rules.specs.Report.{delete_node, ident_node}
use Rattle.image_writing.specs.Stored.{Stored}
use Rattle.image_writing.proofs.Stores.{none-stored, both_stored}
use Rattle.statements_steps.specs.Drops.{delete_bytes}

-- the question to the tables
pub auto-is : (T : Tables) {r : Bool} (k t : ℕ) → k ≡ t → r ≡ should_auto_delete T.types T.structs k → r ≡ auto T t
unfolding auto
auto-is T k t ek e = e ∙ ap (should_auto_delete T.types T.structs) ek

-- nothing is put, or one delete
module _ (old : List ℕ) (at : ℕ) (x : List Drop) where
  pub none-put : x ≡ [] → Stored old at (delete_bytes x) old at × (0 ≡ length x)
  none-put e = (rw e (none-stored old at), sym (ap length e))

  pub one-put : (p n t : ℕ) (new : List ℕ) (next : ℕ) → x ≡ drop_of p n t ∷ []
      → Stored old at (3 ∷ (four_bytes p ++ encode_expr (delete_node p (ident_node p t n)))) new next → Stored old at (delete_bytes x) new next × (1 ≡ length x)
  one-put p n t new next e a =
      (subst (λ (v : List ℕ). Stored old at v new next) (sym (ap delete_bytes e ∙ append-nil (3 ∷ (four_bytes p ++ encode_expr (delete_node p (ident_node p t n)))))) a, sym (ap length e))

-- what is still to be stored for the deletes left gives what was to be stored for all of them
pub record Rest {B : Type 0} (f : List B → List ℕ) (old : List ℕ) (at : ℕ) (all : List B) (out : List ℕ) (place : ℕ) (left : List B) : Type 0 where
  pub is : (ys : List ℕ) (k : ℕ) → Stored out place (f left) ys k → Stored old at (f all) ys k

module _ {B : Type 0} (f : List B → List ℕ) (old : List ℕ) (at : ℕ) (all : List B) where
  pub rest-start : Rest f old at all old at all
  rest-start = record { is = λ ys k s. s }

  module _ (out : List ℕ) (place : ℕ) (left : List B) (h : Rest f old at all out place left) where
    pub rest-step : (b : List ℕ) (more : List B) (new : List ℕ) (next : ℕ) → f left ≡ b ++ f more → Stored out place b new next → Rest f old at all new next more
    rest-step b more new next e a = record { is = λ ys k s. h.is ys k (rw e (both_stored a s)) }

    pub rest_end : (same : List B) → all ≡ same → f left ≡ [] → Stored old at (f same) out place
    rest_end same ea e = subst (λ (x : List B). Stored old at (f x) out place) ea (h.is out place (rw e (none-stored out place)))

-- one delete less is left
pub count-step : {B : Type 0} (m put : ℕ) (left more : List B) (d : B) → put + length left ≡ m → left ≡ d ∷ more → put + 1 + length more ≡ m
count-step m put left more d h e =
    let l : length left ≡ suc (length more) = ap length e in
    omega arith

pub count-end : {B : Type 0} (m put : ℕ) (left : List B) → put + length left ≡ m → left ≡ [] → put ≡ m
count-end m put left h e =
    let l : length left ≡ 0 = ap length e in
    omega arith
