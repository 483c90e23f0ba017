-- Every fault of an image has a number from 1 to 11.
-- Assumes nothing.
use mathlib.Core.Path.{◌≡◌, refl}
use mathlib.Core.List.{List, [], ◌∷◌, ◌++◌}
use mathlib.Core.Bool.{Bool, true, false}
use Prim.Native.Nat.{ℕ, zero, suc, ◌+◌, ◌<◌}
use native.Mathlib.Omega.{arith}
use Rattle.image_fields.specs.Parsed.{Parsed, ok, fault, bind, ensure}
use Rattle.image_fields.specs.Number.{field_at}
use Rattle.image_fields.specs.Table.{many_of, table_from, table_at}
use Rattle.tables.specs.Limits.{Limits}
use Rattle.tables.specs.Name.{name_at, names_at}
use Rattle.tables.specs.Ty.{Ty, parts_at, type_at, types_at}
use Rattle.tables.specs.Signature.{method_at, struct_rest_at, struct_at, structs_at, global_at, globals_at, param_at, entry_at}
use Rattle.image_body.specs.Expr.{Scope, none, more, head_at, end_at, rest_at, expr_at}
use Rattle.image_body.specs.Stmt.{Block, done, before, stmt_head_at, values_at, front_at, back_at, stmt_at, block_at}
use Rattle.image.specs.Image.{Image, Decoded, accepted, refused, body_at, image_at, outcome, decode, fault_of}
use Rattle.image.specs.Image as image

pub record Numbered {A : Type 0} (x : Parsed A) : Type 0 where
  pub is : (k : ℕ) → x ≡ fault k → (0 < k) × (k < 12)

of-ok : {A : Type 0} (a : A) (p : ℕ) → Numbered (ok a p)
of-ok a p = record { is = λ k e. let z : ◌≡◌ {A = ℕ} 0 1 = cc in absurd (omega arith) }

of-fault : {A : Type 0} (n : ℕ) → 0 < n → n < 12 → Numbered {A = A} (fault n)
of-fault n l h = record { is = λ k e. let z : n ≡ k = cc in (omega arith, omega arith) }

of-bind : {A B : Type 0} (x : Parsed A) {k : A → ℕ → Parsed B} → Numbered x → ((a : A) (p : ℕ) → Numbered (k a p)) → Numbered (bind x k)
unfolding bind
of-bind (ok a p) g h = h a p
of-bind (fault n) g h = record { is = λ k e. g.is k (let z : n ≡ k = cc in rw z refl) }

of-ensure : {A : Type 0} (b : Bool) (n : ℕ) {x : Parsed A} → 0 < n → n < 12 → Numbered x → Numbered (ensure b n x)
unfolding ensure
of-ensure true n l h g = g
of-ensure false n l h g = of-fault n l h

of_field : (f limit k : ℕ) (s : List ℕ) (at : ℕ) → 0 < f → f < 12 → Numbered (field_at f limit k s at)
unfolding field_at
of_field f limit k s at l h = of-ensure _ f l h (of-ensure _ f l h (of-ok _ _))

of-many : {A L : Type 0} (nil : L) (cons : A → L → L) (f : ℕ → Parsed A) → ((p : ℕ) → Numbered (f p)) → (n at : ℕ) → Numbered (many_of nil cons f n at)
unfolding many_of
of-many nil cons f g zero at = of-ok nil at
of-many nil cons f g (suc n) at = of-bind (f at) (g at) (λ x p. of-bind (many_of nil cons f n p) (of-many nil cons f g n p) (λ xs q. of-ok _ _))

of-from : {A : Type 0} (f : List A → ℕ → Parsed A) → ((xs : List A) (p : ℕ) → Numbered (f xs p)) → (xs : List A) (n at : ℕ) → Numbered (table_from f xs n at)
unfolding table_from
of-from f g xs zero at = of-ok xs at
of-from f g xs (suc n) at = of-bind (f xs at) (g xs at) (λ x p. of-from f g (xs ++ (x ∷ [])) n p)

of-table : {A : Type 0} (k least limit : ℕ) (f : List A → ℕ → Parsed A) (s : List ℕ) (at : ℕ) → 0 < k → k < 12 → ((xs : List A) (p : ℕ) → Numbered (f xs p))
    → Numbered (table_at k least limit f s at)
unfolding table_at
of-table k least limit f s at l h g =
    of-bind (field_at k limit 2 s at) (of_field k limit 2 s at l h) (λ n p. of-ensure _ k l h (of-from f g [] n p))

module _ (L : Limits) (s : List ℕ) where
  of-names : (at : ℕ) → Numbered (names_at L s at)
  unfolding names_at name_at
  of-names at =
      of-bind _ (of-table 3 1 _ _ s at (omega arith) (omega arith) (λ ns p. of-ensure _ 3 (omega arith) (omega arith) (of-ensure _ 3 (omega arith) (omega arith) (of-ensure _ 3 (omega arith) (omega arith) (of-ok _ _)))))
      (λ ns p. of-ensure _ 3 (omega arith) (omega arith) (of-ok _ _))

  of_types : (names at : ℕ) → Numbered (types_at L names s at)
  unfolding types_at type_at parts_at
  of_types names at =
      of-table 4 1 _ _ s at (omega arith) (omega arith) (λ ts p. of-bind _ (of_field 4 5 1 s p (omega arith) (omega arith)) (λ kind q.
      of-ensure _ 4 (omega arith) (omega arith) (of-bind _ (of_field 4 _ _ s q (omega arith) (omega arith)) (λ o r. of-bind _ (of_field 4 65536 _ s r (omega arith) (omega arith)) (λ h u. of-ok _ _)))))

  of-structs : (ns : List (List ℕ)) (at : ℕ) → Numbered (structs_at L ns s at)
  unfolding structs_at struct_at struct_rest_at method_at
  of-structs ns at =
      of-table 5 0 _ _ s at (omega arith) (omega arith) (λ ss p. of-bind _ (of_field 5 _ 2 s p (omega arith) (omega arith)) (λ name q.
      of-ensure _ 5 (omega arith) (omega arith) (of-bind _ (of_field 5 2 1 s q (omega arith) (omega arith)) (λ d r.
      of-bind _ (of_field 5 65536 2 s r (omega arith) (omega arith)) (λ h u.
      of-bind _ (of-table 5 0 _ _ s u (omega arith) (omega arith) (λ ms v. of-bind _ (of_field 5 _ 2 s v (omega arith) (omega arith)) (λ m w.
      of-bind _ (of_field 5 4 1 s w (omega arith) (omega arith)) (λ c x. of-ensure _ 5 (omega arith) (omega arith) (of-ok _ _))))) (λ ms v. of-ok _ _))))))

  of-globals : (names at : ℕ) → Numbered (globals_at L names s at)
  unfolding globals_at global_at
  of-globals names at =
      of-table 6 0 _ _ s at (omega arith) (omega arith) (λ gs p. of-bind _ (of_field 6 _ 2 s p (omega arith) (omega arith)) (λ name q.
      of-bind _ (of_field 6 _ 4 s q (omega arith) (omega arith)) (λ c r. of-ensure _ 6 (omega arith) (omega arith) (of-ok _ _))))

  of_entry : (names types at : ℕ) → Numbered (entry_at L names types s at)
  unfolding entry_at param_at
  of_entry names types at =
      of-bind _ (of_field 7 5 1 s at (omega arith) (omega arith)) (λ k p. of-bind _ (of_field 7 types _ s p (omega arith) (omega arith)) (λ t q.
      of-bind _ (of-table 7 0 _ _ s q (omega arith) (omega arith) (λ ps r. of-bind _ (of_field 7 names 2 s r (omega arith) (omega arith)) (λ n u.
      of-bind _ (of_field 7 types 2 s u (omega arith) (omega arith)) (λ c v. of-ok _ _)))) (λ ps r. of-ok _ _)))

module _ (t : Scope) (s : List ℕ) where
  of-head : (at : ℕ) → Numbered (head_at t.names t.types s at)
  unfolding head_at
  of-head at =
      of-ensure _ 8 (omega arith) (omega arith) (of-ensure _ 8 (omega arith) (omega arith) (of-ensure _ 8 (omega arith) (omega arith) (of-ensure _ 8 (omega arith) (omega arith)
      (of-bind _ (of_field 8 _ _ s (at + 7) (omega arith) (omega arith)) (λ a p. of-ok _ _)))))

  of-expr : (d at : ℕ) → Numbered (expr_at t s d at)
  unfolding expr_at rest_at end_at
  of-expr zero at = of-fault 9 (omega arith) (omega arith)
  of-expr (suc d) at =
      of-bind _ (of-head at) (λ h p. of-bind _ (of-many none more (expr_at t s d) (of-expr d) _ p) (λ ks q.
      of-bind _ (of_field 8 65536 _ s q (omega arith) (omega arith)) (λ n r. of-bind _ (of-many none more (expr_at t s d) (of-expr d) n r) (λ xs u.
      of-bind _ (of_field 8 _ _ s u (omega arith) (omega arith)) (λ a v. of-ensure _ 11 (omega arith) (omega arith) (of-ok _ _))))))

  of-front : (at : ℕ) → Numbered (front_at t s at)
  unfolding front_at stmt_head_at values_at
  of-front at =
      of-bind _ (of-ensure _ 8 (omega arith) (omega arith) (of-ensure _ 8 (omega arith) (omega arith) (of-ensure _ 8 (omega arith) (omega arith) (of-ensure _ 8 (omega arith) (omega arith) (of-ok _ _)))))
      (λ h p. of-bind _ (of_field 8 2 _ s p (omega arith) (omega arith)) (λ n q.
      of-bind _ (of-many none more (expr_at t s t.expr_depth) (of-expr t.expr_depth) _ q) (λ es r.
      of-bind _ (of_field 8 t.types _ s r (omega arith) (omega arith)) (λ l u. of-ok _ _))))

  of-stmt : (f : ℕ → Parsed Block) → ((p : ℕ) → Numbered (f p)) → (at : ℕ) → Numbered (stmt_at f t s at)
  unfolding stmt_at back_at
  of-stmt f g at =
      of-bind _ (of-front at) (λ h p. of-bind _ (of-many [] ◌∷◌ f g _ p) (λ bs q. of-bind _ (of_field 8 2 _ s q (omega arith) (omega arith)) (λ n r.
      of-bind _ (of-many [] ◌∷◌ f g n r) (λ cs u. of-ok _ _))))

  of-block : (d at : ℕ) → Numbered (block_at t s d at)
  unfolding block_at
  of-block zero at = of-fault 9 (omega arith) (omega arith)
  of-block (suc d) at =
      of-ensure _ 8 (omega arith) (omega arith) (of-bind _ (of-many (done tt) before (stmt_at (block_at t s d) t s) (of-stmt (block_at t s d) (of-block d)) _ (at + 6)) (λ c q. of-ok _ _))

module _ (L : Limits) (s : List ℕ) where
  pub of-rest : (ns : List (List ℕ)) (ts : List Ty) (at : ℕ) → Numbered (image.rest_at L ns ts s at)
  unfolding image.rest_at body_at
  of-rest ns ts at =
      of-bind _ (of-structs L s ns at) (λ ss p. of-bind _ (of-globals L s _ p) (λ gs q. of-bind _ (of_entry L s _ _ q) (λ e r.
      of-bind _ (of-bind _ (of-block _ s _ r) (λ b u. of-ensure _ 10 (omega arith) (omega arith) (of-ok _ _))) (λ b u. of-ok _ _))))

  of_image : Numbered (image_at L s)
  unfolding image_at
  of_image =
      of-ensure _ 1 (omega arith) (omega arith) (of-ensure _ 2 (omega arith) (omega arith)
      (of-bind _ (of-names L s 5) (λ ns p. of-bind _ (of_types L s _ p) (λ ts q. of-rest ns ts q))))

of-outcome : (x : Parsed Image) (n : ℕ) → Numbered x → outcome x ≡ refused n → (0 < n) × (n < 12)
unfolding outcome
of-outcome (ok i p) n g e = let z : ◌≡◌ {A = ℕ} 0 1 = cc in absurd (omega arith)
of-outcome (fault m) n g e = g.is n (let z : m ≡ n = cc in rw z refl)

pub fault-numbers : (L : Limits) (s : List ℕ) (n : ℕ) → decode L s ≡ refused n → (0 < n) × (n < 12)
unfolding decode
fault-numbers L s n e = of-outcome (image_at L s) n (of_image L s) e

-- so 0 says that an image was accepted
outcome-zero : (x : Decoded) → fault_of x ≡ 0 → ((n : ℕ) → x ≡ refused n → 0 < n) → (i : Image) × (x ≡ accepted i)
unfolding fault_of
outcome-zero (accepted i) e h = (i, refl)
outcome-zero (refused n) e h = let z = h n refl in absurd (omega arith)

pub zero-accepted : (L : Limits) (s : List ℕ) → fault_of (decode L s) ≡ 0 → (i : Image) × (decode L s ≡ accepted i)
zero-accepted L s e = outcome-zero (decode L s) e (λ n r. (fault-numbers L s n r).0)
