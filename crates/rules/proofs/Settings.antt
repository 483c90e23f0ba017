-- What does not depend on the switches: which bodies are plain, what switch 3 leaves alone, and faults 12 and 13 (errors and warnings:
-- ErrorSettings). And what switches 1, 2 and 4 come to.
-- Assumes nothing.
use Rattle.std.proofs.Common.{◌≡◌, ℕ, suc, Bool, true, false, cond, not, ◌&&◌, ◌||◌, T as So, eqb, ltb, List, [], ◌∷◌, ◌++◌, length, sym, refl, ap, ◌∙◌, subst, ap₂, append-nil, eqb→eq}
use mathlib.Core.Bool.{beq}
use mathlib.Core.Option.{Option, some}
use lib.Dec.{eqb_refl}
use Rattle.image_fields.specs.Table.{member}
use Rattle.tables.specs.Limits.{Limits}
use Rattle.tables.specs.Signature.{Param, Entry}
use Rattle.tables.specs.Tables.{Tables}
use Rattle.tables_lookup.specs.First.{or_else}
use Rattle.image_body.specs.Expr.{Expr}
use Rattle.image_body.specs.Stmt.{Tree, Block, done, expr_stmt, variable, assign, return, bare_return, block, if_else, if_then, while, jump}
use Rattle.image.specs.Image.{Image}
use Rattle.rules.specs.Questions.{auto}
use Rattle.rules.specs.Expr.{nobody}
use Rattle.rules.specs.Stack.{local, Stack, Shape, shape}
use Rattle.rules.specs.State.{Kind, deleted, moved, consumed, State, alive, gone, is_alive, hand_state, kind_eq, places_eq, combine, join_kind, join_state}
use Rattle.rules.specs.Rules.{Switches, off, on, switches_of, states, Policy, declared, given, register, entered, after_variable, locals_of, sure_from, evaluate, exit, decide_in, PlainBody, Alg, Drop, drop_of, concerns, in_loop, collect, end_drops, return_drops, bare_return_drops, jump_drops}
use Rattle.rules.specs.Walk.{places_of, too_many, crowded, too_wide, walk_fault, image_fault}
use Rattle.rules.proofs.Bools.{and_l, and_r, or_l, or_r, yes≡, of≡, below≢, leb-refl}
use Rattle.rules.proofs.Relate.{empty, both, rel-expr, rel-variable, rel-entered}
use Rattle.rules.proofs.Shapes.{Within, gather_none, shape-frame}
use Rattle.rules.proofs.Births.{births-kept}
use Rattle.rules.proofs.Project.{Likeness, Alike, alike-joins, alike-merge, evaluate-alike, assign_alike, exit-alike, body_alike, plain-in-alike}

-- a state but for whether it is conditional
pub data Core : Type 0 where
  living : Core
  lost : Kind → List ℕ → Core

abbrev pub core : State → Core
core alive = living
core (gone c k ps) = lost k ps

abbrev hand_core : ℕ → Core → Core
hand_core p living = lost moved (p ∷ [])
hand_core p (lost k ps) = lost k ps

abbrev join_core : Core → Core → Core
join_core living living = living
join_core living (lost k ps) = lost k ps
join_core (lost k ps) living = lost k ps
join_core (lost k ps) (lost k' ps') = lost (join_kind k k') (combine ps ps')

abbrev core_lives : Core → Bool
core_lives living = true
core_lives (lost k ps) = false

core-hand : (p : ℕ) (a : State) → core (hand_state p a) ≡ hand_core p (core a)
core-hand p alive = refl
core-hand p (gone c k ps) = refl

core-lives : (a : State) → is_alive a ≡ core_lives (core a)
core-lives alive = refl
core-lives (gone c k ps) = refl

same_kind : (k k' : Kind) → So (kind_eq k k') → k ≡ join_kind k k'
same_kind deleted deleted t = refl
same_kind deleted moved t = absurd t
same_kind deleted consumed t = absurd t
same_kind moved deleted t = absurd t
same_kind moved moved t = refl
same_kind moved consumed t = absurd t
same_kind consumed deleted t = absurd t
same_kind consumed moved t = absurd t
same_kind consumed consumed t = refl

-- places combined with some of them
abbrev Inside : List ℕ → List ℕ → Type 0
Inside ps [] = Unit {0}
Inside ps (q ∷ qs) = So (member eqb ps q) × Inside ps qs

combine-inside : (ps qs : List ℕ) → Inside ps qs → combine ps qs ≡ ps
combine-inside ps [] t = refl
combine-inside ps (q ∷ qs) t = ap (λ (b : Bool). combine (cond b ps (ps ++ (q ∷ []))) qs) (yes≡ (member eqb ps q) t.0) ∙ combine-inside ps qs t.1

inside-more : (p : ℕ) (ps qs : List ℕ) → Inside ps qs → Inside (p ∷ ps) qs
unfolding member
inside-more p ps [] t = tt
inside-more p ps (q ∷ qs) t = (or_r (eqb p q) (member eqb ps q) t.0, inside-more p ps qs t.1)

inside-self : (ps : List ℕ) → Inside ps ps
unfolding member
inside-self [] = tt
inside-self (p ∷ ps) = (or_l (eqb p p) (member eqb ps p) (eqb_refl p), inside-more p ps ps (inside-self ps))

same-places : (ps qs : List ℕ) → So (places_eq ps qs) → ps ≡ qs
same-places [] [] t = refl
same-places [] (q ∷ qs) t = absurd t
same-places (p ∷ ps) [] t = absurd t
same-places (p ∷ ps) (q ∷ qs) t = ap₂ (λ (x : ℕ) (xs : List ℕ). x ∷ xs) (eqb→eq p q (and_l (eqb p q) (places_eq ps qs) t)) (same-places ps qs (and_r (eqb p q) (places_eq ps qs) t))

-- whether the join of two states given up is conditional; q: they are of one family, e: they have the same places
abbrev pub flag : Bool → Bool → Bool → Bool → Bool → Bool
flag i c c' q e = cond (beq c c' && q && e) c (i && c && c' && q)

pub joined : (i c c' : Bool) (k k' : Kind) (ps ps' : List ℕ)
    → join_state i (gone c k ps) (gone c' k' ps') ≡ gone (flag i c c' (kind_eq k k') (places_eq ps ps')) (join_kind k k') (combine ps ps')
joined i c c' k k' ps ps' = go (beq c c' && kind_eq k k' && places_eq ps ps') refl
  where
    go : (t : Bool) → (beq c c' && kind_eq k k' && places_eq ps ps') ≡ t
        → cond t (gone c k ps) (gone (i && c && c' && kind_eq k k') (join_kind k k') (combine ps ps')) ≡ gone (cond t c (i && c && c' && kind_eq k k')) (join_kind k k') (combine ps ps')
    go true e =
        let t : So (beq c c' && kind_eq k k' && places_eq ps ps') = of≡ (beq c c' && kind_eq k k' && places_eq ps ps') e in
        let kinds = and_r (beq c c') (kind_eq k k') (and_l (beq c c' && kind_eq k k') (places_eq ps ps') t) in
        let places = and_r (beq c c' && kind_eq k k') (places_eq ps ps') t in
        ap₂ (gone c) (same_kind k k' kinds) (sym (combine-inside ps ps (inside-self ps)) ∙ ap (combine ps) (same-places ps ps' places))
    go false e = refl

core-join : (i : Bool) (a b : State) → core (join_state i a b) ≡ join_core (core a) (core b)
core-join i alive alive = refl
core-join i alive (gone c k ps) = refl
core-join i (gone c k ps) alive = refl
core-join i (gone c k ps) (gone c' k' ps') = ap core (joined i c c' k k' ps ps')

-- the states under two settings: switch 3 changes whether a state is conditional, and nothing else
pub settings-alike : (w w' : Switches) → Likeness (states w) (states w') (λ a b. core a ≡ core b)
settings-alike w w' =
    record {
      hom = record { new = λ m. refl; killed = λ m k p a b r. refl; handed_over = λ m p a b r. core-hand p a ∙ (ap (hand_core p) r ∙ sym (core-hand p b)) };
      join = λ a a' b b' r q. core-join w.conditional a a' ∙ (ap₂ join_core r q ∙ sym (core-join w'.conditional b b'));
      lives = λ a b r. core-lives a ∙ (ap core_lives r ∙ sym (core-lives b));
    }

-- Plain is the same under all settings
pub plain-settings : (w w' : Switches) (T : Tables) (x : Entry) (b : Block) → PlainBody w T x b → PlainBody w' T x b
plain-settings w w' T x b pl = plain-in-alike (states w) (states w') (settings-alike w w') T (locals_of x) b.code pl

-- and so are the deletes, as far as switch 3 goes
pub deletes-settings : (w w' : Switches) (T : Tables) (𝓟 : Policy) (params : List Param) (p : ℕ) (body : Tree)
    → decide_in (states w) T 𝓟 params p body ≡ decide_in (states w') T 𝓟 params p body
deletes-settings w w' T 𝓟 params p body = body_alike (states w) (states w') (settings-alike w w') T 𝓟 params p body

-- all off and all on, by their values
pub all-off : switches_of 0 ≡ off
all-off = refl

pub all-on : switches_of 15 ≡ on
all-on = refl

-- no local is deeper than a newer one
abbrev pub Down : Shape → Type 0
Down [] = Unit {0}
Down (s ∷ Γ) = Within s.depth Γ × Down Γ

-- so it is of the stacks of the walk: as a body is entered, and where a local is registered; nothing else changes a stack of open blocks
-- (births-kept)
module _ {A : Type 0} (𝓐 : Alg A) (T : Tables) where
  pub down-entered : (xs : List Param) (σ : Stack A) → Within 0 (shape σ) → Down (shape σ) → Within 0 (shape (entered 𝓐 T xs σ)) × Down (shape (entered 𝓐 T xs σ))
  down-entered [] σ w h = (w, h)
  down-entered (x ∷ xs) σ w h =
      let e = sym (shape-frame x.name 0 (λ a. 𝓐.new) σ) in
      let w' = subst (Within 0) e w in
      down-entered xs (register 𝓐 (given x) σ) (leb-refl 0, w') (w', subst Down e h)

  pub down-registered : (d s n t : ℕ) (e : Expr) (σ : Stack A) → Within d (shape σ) → Down (shape σ) → Down (shape (after_variable 𝓐 T (declared d s n t) e σ))
  down-registered d s n t e σ w h = subst Down (sym ((births-kept 𝓐 T d σ w).registered s n t e)) (w, h)

-- The switches in the words of the request, one by one
module _ {A : Type 0} (𝓐 : Alg A) (T : Tables) (w : Switches) where
  all-or-none : (b : Bool) (σ : Stack A) → collect 𝓐 T (λ s. b) 0 σ ≡ cond b (return_drops 𝓐 T (concerns w) nobody σ) []
  all-or-none true σ = refl
  all-or-none false σ = gather_none 𝓐 T (λ s. drop_of 0 s.name s.ty) σ

  -- 1: a bare return drops as a return with a value that excludes no name
  pub bare-as-return : (σ : Stack A) → bare_return_drops 𝓐 T (concerns w) σ ≡ cond w.bare_returns (return_drops 𝓐 T (concerns w) nobody σ) []
  bare-as-return σ = all-or-none w.bare_returns σ

  loop-or-none : (b : Bool) (l : Option ℕ) (σ : Stack A) → collect 𝓐 T (λ s. b && in_loop l s) 0 σ ≡ cond b (collect 𝓐 T (in_loop l) 0 σ) []
  loop-or-none true l σ = refl
  loop-or-none false l σ = gather_none 𝓐 T (λ s. drop_of 0 s.name s.ty) σ

  -- 2: Break and Continue drop what they would leave behind
  pub jump-drops : (l : Option ℕ) (σ : Stack A) → jump_drops 𝓐 T (concerns w) l σ ≡ cond w.jumps (collect 𝓐 T (in_loop l) 0 σ) []
  jump-drops l σ = loop-or-none w.jumps l σ

  -- the drops of the frame of a depth
  abbrev pub frame_of : ℕ → ℕ → Stack A → List Drop
  frame_of d p σ = collect 𝓐 T (λ s. eqb s.depth d) p σ

  -- outside the body block only the parameters
  none-inner : (p : ℕ) (σ : Stack A) → Within 0 (shape σ) → frame_of 1 p σ ≡ []
  none-inner p [] t = refl
  none-inner p (local s a ∷ σ) t =
      ap (λ (b : Bool). cond (b && 𝓐.lives a && auto T s.ty) (drop_of p s.name s.ty ∷ frame_of 1 p σ) (frame_of 1 p σ)) (below≢ s.depth 0 t.0) ∙ none-inner p σ t.1

  own_first : (p : ℕ) (σ : Stack A) → Down (shape σ) → collect 𝓐 T (λ s. eqb s.depth 0 || eqb s.depth 1) p σ ≡ frame_of 1 p σ ++ frame_of 0 p σ
  own_first p [] t = refl
  own_first p (local s a ∷ σ) t = by-depth (eqb s.depth 0) refl (own_first p σ t.1)
    where
      both : List Drop
      both = collect 𝓐 T (λ s. eqb s.depth 0 || eqb s.depth 1) p σ

      own : (b l u : Bool) → both ≡ frame_of 1 p σ ++ frame_of 0 p σ
          → cond (b && l && u) (drop_of p s.name s.ty ∷ both) both ≡ cond (b && l && u) (drop_of p s.name s.ty ∷ frame_of 1 p σ) (frame_of 1 p σ) ++ frame_of 0 p σ
      own true true true r = ap (λ (x : List Drop). drop_of p s.name s.ty ∷ x) r
      own true true false r = r
      own true false u r = r
      own false l u r = r

      by-depth : (z : Bool) → eqb s.depth 0 ≡ z → both ≡ frame_of 1 p σ ++ frame_of 0 p σ
          → cond ((z || eqb s.depth 1) && 𝓐.lives a && auto T s.ty) (drop_of p s.name s.ty ∷ both) both
          ≡ cond (eqb s.depth 1 && 𝓐.lives a && auto T s.ty) (drop_of p s.name s.ty ∷ frame_of 1 p σ) (frame_of 1 p σ)
          ++ cond (z && 𝓐.lives a && auto T s.ty) (drop_of p s.name s.ty ∷ frame_of 0 p σ) (frame_of 0 p σ)
      by-depth true e r =
          let d : s.depth ≡ 0 = eqb→eq s.depth 0 (of≡ (eqb s.depth 0) e) in
          let inner : frame_of 1 p σ ≡ [] = none-inner p σ (subst (λ (k : ℕ). Within k (shape σ)) d t.0) in
          let outer : eqb s.depth 1 ≡ false = ap (λ (k : ℕ). eqb k 1) d in
          ap (λ (x : List Drop). cond (𝓐.lives a && auto T s.ty) (drop_of p s.name s.ty ∷ x) x) (r ∙ ap (λ (x : List Drop). x ++ frame_of 0 p σ) inner)
          ∙ sym (λ i. cond (outer i && 𝓐.lives a && auto T s.ty) (drop_of p s.name s.ty ∷ inner i) (inner i)
          ++ cond (𝓐.lives a && auto T s.ty) (drop_of p s.name s.ty ∷ frame_of 0 p σ) (frame_of 0 p σ))
      by-depth false e r = own (eqb s.depth 1) (𝓐.lives a) (auto T s.ty) r

  end_of : (b : Bool) (d p : ℕ) (σ : Stack A) → Down (shape σ) → (So b → d ≡ 1) → collect 𝓐 T (λ s. (b && eqb s.depth 0) || eqb s.depth d) p σ ≡ frame_of d p σ ++ cond b (frame_of 0 p σ) []
  end_of true d p σ t one =
      subst (λ (k : ℕ). collect 𝓐 T (λ s. eqb s.depth 0 || eqb s.depth k) p σ ≡ frame_of k p σ ++ frame_of 0 p σ) (sym (one tt)) (own_first p σ t)
  end_of false d p σ t one = sym (append-nil (frame_of d p σ))

  -- 4: the end of the body block also drops the parameters' frame, after its own locals
  pub end-drops : (d p : ℕ) (σ : Stack A) → Down (shape σ) → end_drops 𝓐 T (concerns w) d p σ ≡ frame_of d p σ ++ cond (w.parameters && eqb d 1) (frame_of 0 p σ) []
  end-drops d p σ t = end_of (w.parameters && eqb d 1) d p σ t (λ y. eqb→eq d 1 (and_r w.parameters (eqb d 1) y))

-- Faults 12 and 13
core_places : Core → List ℕ
core_places living = []
core_places (lost k ps) = ps

places-core : (a : State) → places_of a ≡ core_places (core a)
unfolding core_places
places-core alive = refl
places-core (gone c k ps) = refl

module _ (L : Limits) (w w' : Switches) where
  abbrev Near : Stack State → Stack State → Type 0
  Near σ τ = Alike (states w) (states w') (settings-alike w w') σ τ

  near-length : {σ τ : Stack State} → Near σ τ → length σ ≡ length τ
  near-length empty = refl
  near-length (both r rs) = ap suc (near-length rs)

  near-crowded : {σ τ : Stack State} → Near σ τ → crowded L σ ≡ crowded L τ
  unfolding crowded
  near-crowded empty = refl
  near-crowded (both {a = a} {b = b} r rs) =
      ap₂ (λ (ps : List ℕ) (c : Bool). ltb L.places (length ps) || c) (places-core a ∙ (ap core_places r ∙ sym (places-core b))) (near-crowded rs)

  many : {σ τ : Stack State} → Near σ τ → too_many L σ ≡ too_many L τ
  many r = ap (λ (n : ℕ). cond (ltb L.locals n) (some 12) Option.none) (near-length r)

  wide : (joined : Bool) {σ τ : Stack State} → Near σ τ → too_wide L joined σ ≡ too_wide L joined τ
  wide joined r = ap (λ (c : Bool). cond (joined && c) (some 13) Option.none) (near-crowded r)

  module _ (T : Tables) where
    abbrev evaluated : (e : Expr) {σ τ : Stack State} → Near σ τ → Near (evaluate (states w) T e σ) (evaluate (states w') T e τ)
    evaluated e r = evaluate-alike (states w) (states w') (settings-alike w w') T e r

    abbrev exited : (c : Tree) (d : ℕ) {σ τ : Stack State} → Near σ τ → Near (exit (states w) T c d σ) (exit (states w') T c d τ)
    exited c d r = exit-alike (states w) (states w') (settings-alike w w') T c d r

    walk-settings : (c : Tree) (d : ℕ) {σ τ : Stack State} → Near σ τ → walk_fault L w T c d σ ≡ walk_fault L w' T c d τ
    unfolding walk_fault
    walk-settings (done x) d r = refl
    walk-settings (expr_stmt s e y c) d r = walk-settings c d (rel-expr (states w) (states w') (settings-alike w w').hom T e r)
    walk-settings (variable k s n t e c) d r =
        let r' = rel-variable (states w) (states w') (settings-alike w w').hom T (declared d s n t) e r in
        ap₂ or_else (many r') (walk-settings c d r')
    walk-settings (assign s e v t x c) d r = walk-settings c d (assign_alike (states w) (states w') (settings-alike w w') T e v r)
    walk-settings (return s e t x c) d r = walk-settings c d (evaluated e r)
    walk-settings (bare_return s t x c) d r = walk-settings c d r
    walk-settings (block s b c) d r = ap₂ or_else (walk-settings b (suc d) r) (walk-settings c d (exited b (suc d) r))
    walk-settings (if_else s e ts t us u c) d r =
        let r' = evaluated e r in
        ap₂ or_else (walk-settings t (suc d) r') (ap₂ or_else (walk-settings u (suc d) r')
        (ap₂ or_else (wide (not (sure_from t false) && not (sure_from u false)) (alike-joins (states w) (states w') (settings-alike w w') (exited t (suc d) r') (exited u (suc d) r')))
        (walk-settings c d (alike-merge (states w) (states w') (settings-alike w w') (sure_from t false) (sure_from u false) r' (exited t (suc d) r') (exited u (suc d) r')))))
    walk-settings (if_then s e ts t c) d r =
        let r' = evaluated e r in
        ap₂ or_else (walk-settings t (suc d) r') (ap₂ or_else (wide (not (sure_from t false)) (alike-joins (states w) (states w') (settings-alike w w') (exited t (suc d) r') r'))
        (walk-settings c d (alike-merge (states w) (states w') (settings-alike w w') (sure_from t false) false r' (exited t (suc d) r') r')))
    walk-settings (while s e ts t c) d r =
        let r' = evaluated e r in
        let j = alike-joins (states w) (states w') (settings-alike w w') (exited t (suc d) r') r' in
        ap₂ or_else (walk-settings t (suc d) r') (ap₂ or_else (wide true j) (walk-settings c d j))
    walk-settings (jump k s x c) d r = walk-settings c d r

  -- of every image the walk has the same fault under all settings
  pub fault-settings : (i : Image) → image_fault L w i ≡ image_fault L w' i
  unfolding image_fault
  fault-settings i =
      let r = rel-entered (states w) (states w') (settings-alike w w').hom i.tables (locals_of i.entry) empty in
      ap₂ or_else (many r) (walk-settings i.tables i.body.code 1 r)
