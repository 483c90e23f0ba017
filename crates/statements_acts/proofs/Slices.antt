-- What was copied, and where a statement's values end.
-- Assumes nothing.
use mathlib.Core.Path.{◌≡◌, refl, sym, ap, ◌∙◌, subst}
use mathlib.Core.List.{List, [], ◌∷◌, ◌++◌}
use Prim.Native.Nat.{ℕ, zero, suc, ◌+◌}
use native.Mathlib.Omega.{arith}
use native.Mathlib.Nat.{suc-add, zero-add}
use lib.ListN.{length, get_or, take, drop}
use lib.Seq.{slice}
use Rattle.image_body.specs.Expr.{Expr, Exprs, node, none, more, arg_width, fixed_count, count_width, last_width}
use Rattle.image_body.specs.Stands.{Stands, StandAll, count}
use Rattle.image_body.proofs.Standing.{stand-all}
use Rattle.image_encoding.specs.Written.{Written}
use Rattle.image_fields.specs.Number.{number_in}
use Rattle.statements_returns.specs.Front.{front_of, front_at}
use Rattle.statements_acts.specs.Act.{FrontThere}

take-front : (a b : List ℕ) → take (length a) (a ++ b) ≡ a
take-front [] b = refl
take-front (x ∷ a) b = ap (λ l. x ∷ l) (take-front a b)

no_front : (a b : List ℕ) → [] ≡ a ++ b → a ≡ []
no_front [] b e = refl
no_front (x ∷ a) b e = let z : ◌≡◌ {A = ℕ} 0 1 = cc in absurd (omega arith)

part-is : (p : ℕ) (s a b : List ℕ) → drop p s ≡ a ++ b → slice p (p + length a) s ≡ a
part-is zero s a b e = ap (λ n. take n s) (zero-add (length a)) ∙ ap (take (length a)) e ∙ take-front a b
part-is (suc p) [] a b e =
    ap (λ n. drop (suc p) (take n [])) (suc-add p (length a)) ∙ sym (no_front a b e)
part-is (suc p) (x ∷ s) a b e = ap (λ n. drop (suc p) (take n (x ∷ s))) (suc-add p (length a)) ∙ part-is p s a b e

-- bytes that stand there are the part of the image that they take
pub written-slice : {s : List ℕ} {p q : ℕ} {a : List ℕ} → Written s p a q → slice p q s ≡ a
written-slice {s} {p} {q} {a} g = ap (λ n. slice p n s) g.end ∙ part-is p s a (drop q s) g.part.is

-- what stands at a position ends at one place
mutual
  unfolding Stands StandAll

  pub one_end : (e f : Expr) (s : List ℕ) (p m n : ℕ) → Stands e s p m → Stands f s p n → m ≡ n
  one_end (node h ks xs) (node i ls ys) s p m n g w =
      let t : i.tag ≡ h.tag = sym w.2.tag ∙ g.2.tag in
      let w4 : StandAll ls s (p + 7 + get_or arg_width h.tag 0) w.0 = subst (λ k. StandAll ls s (p + 7 + get_or arg_width k 0) w.0) t w.4 in
      let eq : g.0 ≡ w.0 = one-end-all ks ls s _ _ _ (g.3 ∙ ap (λ k. get_or fixed_count k 0) (sym t) ∙ sym w.3) g.4 w4 in
      let c : count xs ≡ count ys =
      g.5 ∙ ap (λ k. number_in s (get_or count_width k 0) g.0) (sym t) ∙ ap (λ x. number_in s (get_or count_width i.tag 0) x) eq ∙ sym w.5 in
      let b : g.0 + get_or count_width h.tag 0 ≡ w.0 + get_or count_width i.tag 0 = ap (λ k. g.0 + get_or count_width k 0) (sym t) ∙ ap (λ x. x + get_or count_width i.tag 0) eq in
      let eu : g.1 ≡ w.1 = one-end-all xs ys s _ _ _ c g.6 (subst (λ x. StandAll ys s x w.1) (sym b) w.6) in
      g.7 ∙ ap (λ x. x + get_or last_width h.tag 0) eu ∙ ap (λ k. w.1 + get_or last_width k 0) (sym t) ∙ sym w.7

  pub one-end-all : (es fs : Exprs) (s : List ℕ) (p m n : ℕ) → count es ≡ count fs → StandAll es s p m → StandAll fs s p n → m ≡ n
  one-end-all none none s p m n c g w = g ∙ sym w
  one-end-all none (more f fs) s p m n c g w = absurd (omega arith)
  one-end-all (more e es) none s p m n c g w = absurd (omega arith)
  one-end-all (more e es) (more f fs) s p m n c g w =
      let q : g.0 ≡ w.0 = one_end e f s p g.0 w.0 g.1 w.1 in
      one-end-all es fs s w.0 m n (omega arith) (subst (λ x. StandAll es s x m) q g.2) w.2

-- where the values of the statement that was read end
module _ (s : List ℕ) (at end : ℕ) (g : FrontThere s at end) (k : ℕ) (ek : get_or s at 0 ≡ k) where
  values-end : (es : Exprs) (w q : ℕ) → (front_of s at k).first ≡ w → StandAll es s w q → count es ≡ (front_of s at k).values → end ≡ q
  values-end es w q ew st c =
      let v = stand-all g.t s 24 _ _ _ end g.values in
      let f : (front_at s at).first ≡ w = ap (λ x. (front_of s at x).first) ek ∙ ew in
      one-end-all g.x.front.values es s w end q (v.1 ∙ ap (λ x. (front_of s at x).values) ek ∙ sym c) (subst (λ x. StandAll g.x.front.values s x end) f v.0) st

  pub no_value : {w : ℕ} → (front_of s at k).first ≡ w → (front_of s at k).values ≡ 0 → end ≡ w
  unfolding StandAll
  no_value {w} ew ev = values-end none w w ew refl (sym ev)

  pub one_value : {w : ℕ} → (front_of s at k).first ≡ w → (front_of s at k).values ≡ 1 → (e : Expr) (q : ℕ) → Stands e s w q → end ≡ q
  unfolding StandAll
  one_value {w} ew ev e q st = values-end (more e none) w q ew (q, st, refl) (sym ev)

  pub two-values : {w : ℕ} → (front_of s at k).first ≡ w → (front_of s at k).values ≡ 2 → (e f : Expr) (p q : ℕ) → Stands e s w p → Stands f s p q → end ≡ q
  unfolding StandAll
  two-values {w} ew ev e f p q se sf = values-end (more e (more f none)) w q ew (p, se, (q, sf, refl)) (sym ev)
