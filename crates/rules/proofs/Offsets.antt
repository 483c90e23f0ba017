-- A warning's offset is where the callee's tag stands in the submitted image.
-- Assumes nothing.
use Rattle.std.proofs.Common.{◌≡◌, ℕ, suc, ◌+◌, Bool, true, false, cond, ◌&&◌, eqb, List, [], ◌∷◌, ◌++◌, length, get_or, sym, refl, ap, ◌∙◌, subst, append-nil, arith, eqb-true}
use lib.Seq.{drop-length}
use Rattle.image_fields.specs.Bytes.{Bytes, two_bytes, four_bytes, number_bytes}
use Rattle.image_fields.proofs.Tests.{and-true, false-true}
use Rattle.tables.specs.Limits.{Limits}
use Rattle.tables.specs.Tables.{Tables}
use Rattle.image_body.specs.Expr.{Head, Expr, Exprs, node, none, more, arg_width, noop_unary, through, through_first}
use Rattle.image_encoding.specs.Body.{encode_expr, encode_exprs, encode_code, size, with_count, encode_block}
use Rattle.image_encoding.specs.Tables.{encode_tables, encode_entry}
use Rattle.image.specs.Image.{Image, accepted, decode, encode_parts, encode}
use Rattle.image.proofs.RoundTrip.{image-written}
use Rattle.image_encoding.specs.Written.{Written}
use Rattle.image_encoding.proofs.Parts.{first, second, being}
use mathlib.Core.Option.{Option, some}
use Rattle.image_body.specs.Stmt.{Tree, done, expr_stmt, variable, assign, return, bare_return, block, if_else, if_then, while, jump}
use Rattle.rules.specs.Questions.{auto}
use Rattle.rules.specs.Stack.{Stack, Shape, shape}
use Rattle.rules.specs.State.{State}
use Rattle.rules.specs.Effects.{Effect, effects, expr_stmt_effects, assign_effects}
use Rattle.rules.specs.Rules.{states, evaluate, after_expr, after_variable, before_assign, after_assign, exit, behind_if, behind_then, behind_loop, entered, locals_of, declared, Place, at_jump, Switches, at_bare_return}
use Rattle.rules.specs.Report.{Report, error, warning, left, report_all, unused, left_behind, expr_bytes, code_bytes, report, body_start, reports}
use Rattle.rules.proofs.Each.{Each, EachLocal, each_none, each_more, each_both, each-own, each-effects, left-own}
use Rattle.rules.specs.Expr.{ty_of, View, an_ident, a_this, a_field, a_delete, a_call, other, view_of, view, field_view, delete_view, call_view, callee_at, callee_in, is_call}

-- an expression's encoding stands there
pub record Stood (s : List ℕ) (at : ℕ) (e : Expr) : Type 0 where
  pub end : ℕ
  pub written : Written s at (encode_expr e) end

-- the first child of a node stands behind its head, whose argument takes w bytes
first-child : (s : List ℕ) (p q : ℕ) (h : Head) (c : Expr) (cs xs : Exprs) (w : ℕ) → length (number_bytes (get_or arg_width h.tag 0) h.arg) ≡ w
    → Written s p (encode_expr (node h (more c cs) xs)) q → Stood s (p + 7 + w) c
unfolding encode_expr two_bytes four_bytes
first-child s p q h c cs xs w lw g =
    let g1 = second (h.tag ∷ []) _ g in
    let g2 = second (four_bytes h.span) _ g1 in
    let g3 = second (two_bytes h.ty) _ g2 in
    let g4 = second (number_bytes (get_or arg_width h.tag 0) h.arg) _ g3 in
    let g5 = first (encode_exprs (more c cs)) _ g4 in
    let g6 = first (encode_expr c) (encode_exprs cs) g5 in
    let e : p + 1 + 4 + 2 + length (number_bytes (get_or arg_width h.tag 0) h.arg) ≡ p + 7 + w = omega arith in
    subst (λ x. Stood s x c) e (record { end = _; written = g6 })

no-width : (h : Head) (k : ℕ) → h.tag ≡ k → get_or arg_width k 0 ≡ 0 → length (number_bytes (get_or arg_width h.tag 0) h.arg) ≡ 0
unfolding number_bytes
no-width h k e z = rw (e, z) refl

one_width : (h : Head) → h.tag ≡ 3 → length (number_bytes (get_or arg_width h.tag 0) h.arg) ≡ 1
unfolding number_bytes arg_width
one_width h e = rw e refl

-- a node that is, as it stands, a call
not_call : {C : Type 0} {f : Expr} (v : View) → is_call v ≡ false → v ≡ a_call f → C
not_call v n e = false-true (sym n ∙ ap is_call e)

by-tag : (h : Head) (f : Expr) (a b c d k : Bool) → eqb h.tag 6 ≡ c → (ks : Exprs)
    → cond a (an_ident h.arg h.span) (cond b (a_this h.span) (cond c (call_view ks) (cond d (delete_view ks) (cond k (field_view h ks) other)))) ≡ a_call f
    → (h.tag ≡ 6) × (cs : Exprs) × (ks ≡ more f cs)
by-tag h f true b c d k t ks e = not_call (an_ident h.arg h.span) refl e
by-tag h f false true c d k t ks e = not_call (a_this h.span) refl e
by-tag h f false false true d k t none e = not_call other refl e
by-tag h f false false true d k t (more g gs) e = let z : g ≡ f = cc in (eqb-true _ _ t, gs, ap (λ x. more x gs) z)
by-tag h f false false false true k t none e = not_call other refl e
by-tag h f false false false true k t (more g gs) e = not_call (a_delete g) refl e
by-tag h f false false false false true t none e = not_call other refl e
by-tag h f false false false false true t (more g gs) e = not_call (a_field h.span g h.arg) refl e
by-tag h f false false false false false t ks e = not_call other refl e

a_call_lem : (h : Head) (ks xs : Exprs) (f : Expr) → view_of (node h ks xs) ≡ a_call f → (h.tag ≡ 6) × (cs : Exprs) × (ks ≡ more f cs)
a_call_lem h ks xs f e = by-tag h f (eqb h.tag 1) (eqb h.tag 2) (eqb h.tag 6) (eqb h.tag 10) (eqb h.tag 11) refl ks e

no-child : {C : Type 0} {f : Expr} {cs : Exprs} → none ≡ more f cs → C
no-child e = let z : ◌≡◌ {A = ℕ} 0 1 = cc in absurd (omega arith)

-- the callee of a call that an expression is, looked through, stands where callee_at says
mutual
  unfolding through callee_at arg_width

  pub callee-stands : (e f : Expr) (s : List ℕ) (p q : ℕ) → view e ≡ a_call f → Written s p (encode_expr e) q → Stood s (callee_at e p) f
  callee-stands (node h ks xs) f s p q v g = callee-in ks (noop_unary h) h xs f s p q refl v g

  callee-in : (ks : Exprs) (b : Bool) (h : Head) (xs : Exprs) (f : Expr) (s : List ℕ) (p q : ℕ) → noop_unary h ≡ b
      → view_of (through_first ks b (node h ks xs)) ≡ a_call f → Written s p (encode_expr (node h ks xs)) q → Stood s (callee_in ks b p) f
  callee-in none b h xs f s p q n v g = no-child (a_call_lem h none xs f v).2
  callee-in (more c cs) true h xs f s p q n v g =
      let t : h.tag ≡ 3 = eqb-true _ _ (and-true (eqb h.tag 3) (eqb h.arg 0) n).0 in
      let w = first-child s p q h c cs xs 1 (one_width h t) g in
      let e : p + 7 + 1 ≡ p + 8 = omega arith in
      callee-stands c f s (p + 8) w.end v (subst (λ x. Written s x (encode_expr c) w.end) e w.written)
  callee-in (more c cs) false h xs f s p q n v g =
      let a = a_call_lem h (more c cs) xs f v in
      let k : more c cs ≡ more f a.1 = a.2 in
      let z : c ≡ f = cc in
      let w = first-child s p q h c cs xs 0 (no-width h 6 a.0 refl) g in
      let e : p + 7 + 0 ≡ p + 7 = omega arith in
      subst (Stood s (p + 7)) z (subst (λ x. Stood s x c) e w)

-- the callee of some call stands there
pub record Callee (s : List ℕ) (at : ℕ) : Type 0 where
  pub call : Expr
  pub callee : Expr
  pub is : view call ≡ a_call callee
  pub stands : Stood s at callee

-- a warning's offset is a callee's place
abbrev pub AtCallee : List ℕ → Report → Type 0
AtCallee s (error k p h ps) = Unit {0}
AtCallee s (warning p o) = Callee s o
AtCallee s (left p n b) = Unit {0}

abbrev pub Warned : List ℕ → List Report → Type 0
Warned s rs = Each (AtCallee s) rs

-- errors and left-behind entries are no warnings
of-effects : (s : List ℕ) (es : List Effect) (σ : Stack State) → Warned s (report_all es σ)
of-effects s es σ = each-effects (AtCallee s) (λ k p h ps. tt) es σ

none-warned : (Γ : Shape) → EachLocal (λ s. Unit {0}) Γ
none-warned [] = tt
none-warned (s ∷ Γ) = (tt, none-warned Γ)

of_left : (T : Tables) (s : List ℕ) (made : Bool) (p : ℕ) (pl : Place) (σ : Stack State) → Warned s (left_behind T made p pl σ)
of_left T s made p pl σ = each-own (AtCallee s) p (left-own T made p pl σ) (none-warned (shape σ))

is-call : (v : View) → is_call v ≡ true → (f : Expr) × (v ≡ a_call f)
is-call (an_ident n p) e = false-true e
is-call (a_this p) e = false-true e
is-call (a_field p t n) e = false-true e
is-call (a_delete c) e = false-true e
is-call (a_call f) e = (f, refl)
is-call other e = false-true e

of-unused : (s : List ℕ) (a : Bool) (p : ℕ) (e : Expr) (at q : ℕ) → Written s (at + 5) (encode_expr e) q → Warned s (unused (a && is_call (view e)) p e at)
of-unused s a p e at q g = by-test (a && is_call (view e)) refl
  where
    by-test : (b : Bool) → (a && is_call (view e)) ≡ b → Warned s (unused b p e at)
    by-test true t =
        let c = is-call (view e) (and-true a (is_call (view e)) t).1 in
        each_more (AtCallee s) _ _ (record { call = e; callee = c.0; is = c.1; stands = callee-stands e c.0 s (at + 5) q c.1 g }) (each_none (AtCallee s))
    by-test false t = each_none (AtCallee s)

-- behind n bytes
skip : {s : List ℕ} {p q : ℕ} (a b : List ℕ) (r : ℕ) → p + length a ≡ r → Written s p (a ++ b) q → Written s r b q
skip {s} {q = q} a b r e g = subst (λ x. Written s x b q) e (second a b g)

-- behind a tag and a span
behind : {s : List ℕ} {at q : ℕ} (k p : ℕ) (b : List ℕ) → Written s at (k ∷ (four_bytes p ++ b)) q → Written s (at + 5) b q
unfolding four_bytes two_bytes
behind {at = at} k p b g = skip (k ∷ four_bytes p) b (at + 5) refl g

-- behind a block's span and count
inside : {s : List ℕ} {at q : ℕ} (p n : ℕ) (b c : List ℕ) (r : ℕ) → at + 6 ≡ r → Written s at (with_count p n b ++ c) q
    → Written s r b (r + length b) × Written s (r + length b) c q
unfolding four_bytes two_bytes
inside {at = at} p n b c r e g =
    let h = first (with_count p n b) c g in
    let k = skip (four_bytes p ++ two_bytes n) b r e h in
    (first b [] (being (sym (append-nil b)) k), skip (with_count p n b) c (r + length b) (omega arith) g)

nothing : (s : List ℕ) → Warned s []
nothing s = each_none (AtCallee s)

-- what report says of statements that stand there
pub report-warned : (w : Switches) (T : Tables) (s : List ℕ) (c : Tree) (d : ℕ) (l : Option ℕ) (at q : ℕ) (σ : Stack State) → Written s at (encode_code c) q → Warned s (report w T c d l at σ)
unfolding encode_code two_bytes
report-warned w T s (done x) d l at q σ g = nothing s
report-warned w T s (expr_stmt p e y r) d l at q σ g =
    let g₀ = behind 3 p (encode_expr e ++ encode_code r) g in
    each_both (AtCallee s) _ _ (of-effects s (expr_stmt_effects T (shape σ) e) σ) (each_both (AtCallee s) _ _ (of-unused s (auto T (ty_of e)) p e at _ (first (encode_expr e) (encode_code r) g₀))
    (report-warned w T s r d l (at + 5 + expr_bytes e) q (after_expr (states w) T e σ) (skip (encode_expr e) (encode_code r) _ refl g₀)))
report-warned w T s (variable k p n t e r) d l at q σ g =
    let g₀ = skip (two_bytes n ++ two_bytes t) (encode_expr e ++ encode_code r) (at + 9) (omega arith) (behind _ p _ g) in
    each_both (AtCallee s) _ _ (of-effects s (effects T (shape σ) e) σ) (report-warned w T s r d l (at + 9 + expr_bytes e) q (after_variable (states w) T (declared d p n t) e σ) (skip (encode_expr e) (encode_code r) _ refl g₀))
report-warned w T s (assign p e v t x r) d l at q σ g =
    let g₀ = behind 6 p (encode_expr e ++ (encode_expr v ++ (two_bytes t ++ encode_code r))) g in
    let w1 = skip (encode_expr e) (encode_expr v ++ (two_bytes t ++ encode_code r)) (at + 5 + expr_bytes e) refl g₀ in
    let w2 = skip (encode_expr v) (two_bytes t ++ encode_code r) (at + 5 + expr_bytes e + expr_bytes v) refl w1 in
    let w3 = skip (two_bytes t) (encode_code r) (at + 7 + expr_bytes e + expr_bytes v) (omega arith) w2 in
    each_both (AtCallee s) _ _ (of-effects s (assign_effects T (shape σ) e v) σ) (report-warned w T s r d l (at + 7 + expr_bytes e + expr_bytes v) q (after_assign (states w) T e v (before_assign (states w) T e v σ)) w3)
report-warned w T s (return p e t x r) d l at q σ g =
    let g₀ = behind 2 p (1 ∷ (encode_expr e ++ (two_bytes t ++ encode_code r))) g in
    let w1 = skip (1 ∷ []) (encode_expr e ++ (two_bytes t ++ encode_code r)) (at + 6) (omega arith) g₀ in
    let w2 = skip (encode_expr e) (two_bytes t ++ encode_code r) (at + 6 + expr_bytes e) refl w1 in
    let w3 = skip (two_bytes t) (encode_code r) (at + 8 + expr_bytes e) (omega arith) w2 in
    each_both (AtCallee s) _ _ (of-effects s (effects T (shape σ) e) σ) (report-warned w T s r d l (at + 8 + expr_bytes e) q (evaluate (states w) T e σ) w3)
report-warned w T s (bare_return p t x r) d l at q σ g =
    let g₀ = behind 2 p (0 ∷ (two_bytes t ++ encode_code r)) g in
    let w1 = skip (0 ∷ two_bytes t) (encode_code r) (at + 8) (omega arith) g₀ in
    each_both (AtCallee s) _ _ (of_left T s w.bare_returns p at_bare_return σ) (report-warned w T s r d l (at + 8) q σ w1)
report-warned w T s (block p b r) d l at q σ g =
    let g₀ = skip (1 ∷ []) (with_count p (size b) (encode_code b) ++ encode_code r) (at + 1) refl g in
    let i = inside p (size b) (encode_code b) (encode_code r) (at + 7) (omega arith) g₀ in
    each_both (AtCallee s) _ _ (report-warned w T s b (suc d) l (at + 7) _ σ i.0) (report-warned w T s r d l (at + 7 + code_bytes b) q (exit (states w) T b (suc d) σ) i.1)
report-warned w T s (if_else p e tp t up u r) d l at q σ g =
    let g₀ = behind 7 p (encode_expr e ++ (with_count tp (size t) (encode_code t) ++ (1 ∷ (with_count up (size u) (encode_code u) ++ encode_code r)))) g in
    let w1 = skip (encode_expr e) (with_count tp (size t) (encode_code t) ++ (1 ∷ (with_count up (size u) (encode_code u) ++ encode_code r))) (at + 5 + expr_bytes e) refl g₀ in
    let i = inside tp (size t) (encode_code t) (1 ∷ (with_count up (size u) (encode_code u) ++ encode_code r)) (at + 11 + expr_bytes e) (omega arith) w1 in
    let w2 = skip (1 ∷ []) (with_count up (size u) (encode_code u) ++ encode_code r) (at + 12 + expr_bytes e + code_bytes t) (omega arith) i.1 in
    let j = inside up (size u) (encode_code u) (encode_code r) (at + 18 + expr_bytes e + code_bytes t) (omega arith) w2 in
    each_both (AtCallee s) _ _ (of-effects s (effects T (shape σ) e) σ) (each_both (AtCallee s) _ _ (report-warned w T s t (suc d) l (at + 11 + expr_bytes e) _ (evaluate (states w) T e σ) i.0)
    (each_both (AtCallee s) _ _ (report-warned w T s u (suc d) l (at + 18 + expr_bytes e + code_bytes t) _ (evaluate (states w) T e σ) j.0) (report-warned w T s r d l (at + 18 + expr_bytes e + code_bytes t + code_bytes u) q (behind_if (states w) T e t u d σ) j.1)))
report-warned w T s (if_then p e tp t r) d l at q σ g =
    let g₀ = behind 7 p (encode_expr e ++ (with_count tp (size t) (encode_code t) ++ (0 ∷ encode_code r))) g in
    let w1 = skip (encode_expr e) (with_count tp (size t) (encode_code t) ++ (0 ∷ encode_code r)) (at + 5 + expr_bytes e) refl g₀ in
    let i = inside tp (size t) (encode_code t) (0 ∷ encode_code r) (at + 11 + expr_bytes e) (omega arith) w1 in
    let w2 = skip (0 ∷ []) (encode_code r) (at + 12 + expr_bytes e + code_bytes t) (omega arith) i.1 in
    each_both (AtCallee s) _ _ (of-effects s (effects T (shape σ) e) σ) (each_both (AtCallee s) _ _ (report-warned w T s t (suc d) l (at + 11 + expr_bytes e) _ (evaluate (states w) T e σ) i.0) (report-warned w T s r d l (at + 12 + expr_bytes e + code_bytes t) q (behind_then (states w) T e t d σ) w2))
report-warned w T s (while p e tp t r) d l at q σ g =
    let g₀ = behind 8 p (encode_expr e ++ (with_count tp (size t) (encode_code t) ++ encode_code r)) g in
    let w1 = skip (encode_expr e) (with_count tp (size t) (encode_code t) ++ encode_code r) (at + 5 + expr_bytes e) refl g₀ in
    let i = inside tp (size t) (encode_code t) (encode_code r) (at + 11 + expr_bytes e) (omega arith) w1 in
    each_both (AtCallee s) _ _ (of-effects s (effects T (shape σ) e) σ) (each_both (AtCallee s) _ _ (report-warned w T s t (suc d) (some (suc d)) (at + 11 + expr_bytes e) _ (evaluate (states w) T e σ) i.0) (report-warned w T s r d l (at + 11 + expr_bytes e + code_bytes t) q (behind_loop (states w) T e t d σ) i.1))
report-warned w T s (jump k p x r) d l at q σ g = each_both (AtCallee s) _ _ (of_left T s w.jumps p (at_jump l) σ) (report-warned w T s r d l (at + 5) q σ (behind _ p (encode_code r) g))

-- where a body's statements stand in an image's encoding
code-written : (L : Limits) (i : Image) → Written (encode L i) (body_start i) (encode_code i.body.code) (length (encode L i))
unfolding encode four_bytes two_bytes encode_block
code-written L i =
    let s = encode L i in
    let tables = encode_tables i.tables in
    let entry = encode_entry i.entry in
    let body = encode_block i.body in
    let g0 : Written s 0 s (length s) = record { part = record { is = sym (ap (λ x. s ++ x) (drop-length s) ∙ append-nil s) }; end = omega arith } in
    let g1 = skip (four_bytes (length (encode_parts L i)) ++ (L.version ∷ [])) (tables ++ (entry ++ body)) 5 (omega arith) g0 in
    let g2 = skip tables (entry ++ body) (5 + length tables) refl g1 in
    let g3 = skip entry body (5 + length tables + length entry) refl g2 in
    skip (four_bytes i.body.span ++ two_bytes (size i.body.code)) (encode_code i.body.code) (body_start i) (omega arith) g3

-- of every accepted image
pub warnings-stand : (L : Limits) (w : Switches) (s : List ℕ) → Bytes s → (i : Image) → decode L s ≡ accepted i → Warned s (reports w i)
warnings-stand L w s small i e =
    let h : encode L i ≡ s = image-written L s small i e in
    report-warned w i.tables s i.body.code 1 Option.none (body_start i) (length s) (entered (states w) i.tables (locals_of i.entry) [])
    (subst (λ x. Written x (body_start i) (encode_code i.body.code) (length x)) h (code-written L i))
