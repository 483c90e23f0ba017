-- The numbers of faults: the walk's are 12 and 13, those of the entry that gives back the body 1 to 15, of the one that answers the
-- room 1 to 13, and 17 of both with a switch value above 15. So 0 is left to say that an image is accepted.
-- Assumes nothing.
use Rattle.std.proofs.Common.{◌≡◌, ℕ, suc, ◌<◌, Bool, true, false, cond, not, ◌&&◌, ltb, List, [], length, sym, refl, arith, ltb-false, ltb-true}
use mathlib.Core.Option.{Option, none, some}
use Rattle.tables.specs.Limits.{Limits}
use Rattle.tables.specs.Tables.{Tables}
use Rattle.tables_lookup.specs.First.{or_else}
use Rattle.image_body.specs.Stmt.{Tree, done, expr_stmt, variable, assign, return, bare_return, block, if_else, if_then, while, jump}
use Rattle.image.specs.Image.{Image, Decoded, accepted, refused, decode}
use Rattle.image.proofs.Numbered.{fault-numbers}
use Rattle.rules.specs.State.{State}
use Rattle.rules.specs.Stack.{Stack}
use Rattle.rules.specs.Rules.{Switches, switches_of, states, sure_from, merge, joins, declared, evaluate, after_variable, exit, entered, locals_of}
use Rattle.rules.specs.Walk.{too_many, too_wide, crowded, walk_fault, image_fault}
use Rattle.rules.specs.Verdict.{Lent, Answer, answer_of, refuses, answers, lists_fit, output_fits, walked, decided, too_high, pass_verdict, room_fault_of, room_fault}

-- no fault, or one of the walk
pub record Real (x : Option ℕ) : Type 0 where
  pub is : (n : ℕ) → x ≡ some n → (11 < n) × (n < 14)

pub real-no : Real none
real-no = record { is = λ n e. let z : ◌≡◌ {A = ℕ} 0 1 = cc in absurd (omega arith) }

real-some : (m : ℕ) → 11 < m → m < 14 → Real (some m)
real-some m l h = record { is = λ n e. let z : m ≡ n = cc in (omega arith, omega arith) }

pub real-else : (a b : Option ℕ) → Real a → Real b → Real (or_else a b)
unfolding or_else
real-else none b p q = q
real-else (some n) b p q = p

real-if : (b : Bool) (n : ℕ) → 11 < n → n < 14 → Real (cond b (some n) none)
real-if true n l h = real-some n l h
real-if false n l h = real-no

-- the number of a refusal: 17 exactly with a switch value above 15, else from 1 to below a bound
pub data Number (v bound n : ℕ) : Type 0 where
  high : 15 < v → n ≡ 17 → Number v bound n
  low : v < 16 → 0 < n → n < bound → Number v bound n

taken : (v : ℕ) → too_high v ≡ false → v < 16
taken v z = let h = ltb-false 15 v z in omega arith

module _ (L : Limits) where
  pub real-many : (σ : Stack State) → Real (too_many L σ)
  real-many σ = real-if (ltb L.locals (length σ)) 12 (omega arith) (omega arith)

  pub real-wide : (j : Bool) (σ : Stack State) → Real (too_wide L j σ)
  real-wide j σ = real-if (j && crowded L σ) 13 (omega arith) (omega arith)

  module _ (w : Switches) (T : Tables) where
    pub real-walk : (c : Tree) (d : ℕ) → (σ : Stack State) → Real (walk_fault L w T c d σ)
    unfolding walk_fault
    real-walk (done x) d = λ σ. real-no
    real-walk (expr_stmt s e y r) d = λ σ. real-walk r d _
    real-walk (variable k s n t e r) d = λ σ.
        let τ = after_variable (states w) T (declared d s n t) e σ in
        real-else (too_many L τ) (walk_fault L w T r d τ) (real-many τ) (real-walk r d τ)
    real-walk (assign s e v t x r) d = λ σ. real-walk r d _
    real-walk (return s e t x r) d = λ σ. real-walk r d _
    real-walk (bare_return s t x r) d = λ σ. real-walk r d _
    real-walk (block s c r) d = λ σ. real-else _ _ (real-walk c (suc d) _) (real-walk r d _)
    real-walk (if_else s e ts t us u r) d = λ σ.
        let τ = evaluate (states w) T e σ in
        let υ = merge (states w) (sure_from t false) (sure_from u false) τ (exit (states w) T t (suc d) τ) (exit (states w) T u (suc d) τ) in
        let x = not (sure_from t false) && not (sure_from u false) in
        let y = joins (states w) (exit (states w) T t (suc d) τ) (exit (states w) T u (suc d) τ) in
        real-else _ (or_else (walk_fault L w T u (suc d) τ) (or_else (too_wide L x y) (walk_fault L w T r d υ))) (real-walk t (suc d) τ)
        (real-else _ (or_else (too_wide L x y) (walk_fault L w T r d υ)) (real-walk u (suc d) τ)
        (real-else (too_wide L x y) (walk_fault L w T r d υ) (real-wide x y) (real-walk r d υ)))
    real-walk (if_then s e ts t r) d = λ σ.
        let τ = evaluate (states w) T e σ in
        let υ = merge (states w) (sure_from t false) false τ (exit (states w) T t (suc d) τ) τ in
        let y = joins (states w) (exit (states w) T t (suc d) τ) τ in
        real-else _ (or_else (too_wide L (not (sure_from t false)) y) (walk_fault L w T r d υ)) (real-walk t (suc d) τ)
        (real-else (too_wide L (not (sure_from t false)) y) (walk_fault L w T r d υ) (real-wide (not (sure_from t false)) y) (real-walk r d υ))
    real-walk (while s e ts t r) d = λ σ.
        let τ = evaluate (states w) T e σ in
        let υ = joins (states w) (exit (states w) T t (suc d) τ) τ in
        real-else _ (or_else (too_wide L true υ) (walk_fault L w T r d υ)) (real-walk t (suc d) τ)
        (real-else (too_wide L true υ) (walk_fault L w T r d υ) (real-wide true υ) (real-walk r d υ))
    real-walk (jump k s x r) d = λ σ. real-walk r d _

  pub real-image : (w : Switches) (i : Image) → Real (image_fault L w i)
  unfolding image_fault
  real-image w i =
      let σ = entered (states w) i.tables (locals_of i.entry) [] in
      real-else (too_many L σ) _ (real-many σ) (real-walk w i.tables i.body.code 1 σ)

  -- the entry that gives back the body refuses with a number from 1 to 15, if the switches have been taken
  of-refuses : (m n : ℕ) → refuses m ≡ refuses n → 0 < m → m < 16 → (0 < n) × (n < 16)
  of-refuses m n e l h = let z : m ≡ n = cc in (omega arith, omega arith)

  never : {n : ℕ} {a : Answer} → answers a ≡ refuses n → (0 < n) × (n < 16)
  never e = let z : ◌≡◌ {A = ℕ} 0 1 = cc in absurd (omega arith)

  module _ (w : Switches) where
    of-walked : (lent : Lent) (i : Image) (x : Option ℕ) (n : ℕ) → Real x → walked L w lent i x ≡ refuses n → (0 < n) × (n < 16)
    of-walked lent i (some m) n g e = let k = g.is m refl in of-refuses m n e (omega (arith, k.0)) (omega (arith, k.1))
    of-walked lent i none n g e = go (lists_fit lent (answer_of L w i)) (output_fits w lent i (answer_of L w i)) e
      where
        go : (b c : Bool) → cond b (cond c (answers (answer_of L w i)) (refuses 15)) (refuses 14) ≡ refuses n → (0 < n) × (n < 16)
        go true true h = never h
        go true false h = of-refuses 15 n h (omega arith) (omega arith)
        go false c h = of-refuses 14 n h (omega arith) (omega arith)

    of-decided : (lent : Lent) (s : List ℕ) (n : ℕ) (d : Decoded) → decode L s ≡ d → decided L w lent d ≡ refuses n → (0 < n) × (n < 16)
    of-decided lent s n (refused m) z h = let k = fault-numbers L s m z in of-refuses m n h k.0 (omega (arith, k.1))
    of-decided lent s n (accepted i) z h = of-walked lent i (image_fault L w i) n (real-image w i) h

    of_room : (s : List ℕ) (n : ℕ) (d : Decoded) → decode L s ≡ d → room_fault_of L w d ≡ some n → (0 < n) × (n < 14)
    of_room s n (refused m) z h =
        let k = fault-numbers L s m z in
        let y : m ≡ n = cc in
        (omega (arith, k.0), omega (arith, k.1))
    of_room s n (accepted i) z h = let k = (real-image w i).is n h in (omega (arith, k.0), k.1)

  -- so with the value of the switches
  pub verdict-numbers : (lent : Lent) (v : ℕ) (s : List ℕ) (n : ℕ) → pass_verdict L lent v s ≡ refuses n → Number v 16 n
  unfolding pass_verdict
  verdict-numbers lent v s n e = go (too_high v) refl e
    where
      go : (b : Bool) → too_high v ≡ b → cond b (refuses 17) (decided L (switches_of v) lent (decode L s)) ≡ refuses n → Number v 16 n
      go true z h = high (ltb-true 15 v z) (let y : 17 ≡ n = cc in sym y)
      go false z h = let k = of-decided (switches_of v) lent s n (decode L s) refl h in low (taken v z) k.0 k.1

  -- and the room entry with one from 1 to 13
  pub room-numbers : (v : ℕ) (s : List ℕ) (n : ℕ) → room_fault L v s ≡ some n → Number v 14 n
  unfolding room_fault
  room-numbers v s n e = go (too_high v) refl e
    where
      go : (b : Bool) → too_high v ≡ b → cond b (some 17) (room_fault_of L (switches_of v) (decode L s)) ≡ some n → Number v 14 n
      go true z h = high (ltb-true 15 v z) (let y : 17 ≡ n = cc in sym y)
      go false z h = let k = of_room (switches_of v) s n (decode L s) refl h in low (taken v z) k.0 k.1
