-- One step of the scanner.
-- Assumes nothing.
use mathlib.Core.Path.{◌≡◌, refl, sym, ap, ◌∙◌, subst}
use mathlib.Core.List.{List, [], ◌∷◌, ◌++◌}
use mathlib.Core.Bool.{Bool, true, false, cond}
use mathlib.Core.Logic.{◌⊎◌, inl, ⊎_elim}
use Prim.Native.Nat.{ℕ, ◌+◌, ◌-◌, ◌≤◌, ◌<◌}
use native.Mathlib.Omega.{arith}
use lib.ListN.{length, get_or, set, length-set}
use lib.Seq.{get_or-set_same, get_or-set_other}
use lib.Dec.{eqb}
use Rattle.image_fields.specs.Number.{two, four, number_in}
use Rattle.tables.specs.Tables.{Tables}
use Rattle.image_body.specs.Expr.{Head, Expr, Exprs, node, none, more, arg_width, fixed_count, count_width, last_width, leaf, head_of, through}
use Rattle.image_body.specs.Stands.{Stands, StandAll, HeadStands, Placed, count}
use Rattle.image_body.specs.Depth.{depth, depth_all}
use Rattle.image_body.proofs.Columns.{leaf-columns}
use Rattle.image_body.proofs.Standing.{order-all, none-or-two}
use Rattle.image_body.proofs.Walking.{head_at, Looked}
use Rattle.rules.specs.Questions.{is_move_of}
use Rattle.rules.specs.Effects.{handed, Raw, raws, group, finish, hand_if}
use Rattle.expressions_effects.specs.Asked.{leaf_of}
use Rattle.expressions_effects.specs.Asked.{emits}
use Rattle.expressions_steps.specs.Scan.{blank, Stage, Fits, Stacked, rest, pending, top_of, Ready, Goes}
use Rattle.expressions_effects.specs.declared.Effect.{Effect}
use Rattle.expressions_effects.specs.declared.Effect.TheVariants.{Nothing}
use Rattle.expressions_steps.specs.declared.Open.{Open}
use Rattle.expressions_steps.specs.declared.Innermost.TheVariants.{Ends, Stays, Opens}
use Rattle.expressions_effects.proofs.Laws.{through-depth, later, opened, regroup, inside_of, leaf-empty}

-- the innermost open node
pub record Top (s : List ℕ) (os : List Open) (n p e : ℕ) (frames : List Stage) : Type 0 where
  pub f : Stage
  pub fs : List Stage
  pub q : ℕ
  pub is : frames ≡ f ∷ fs
  pub code : top_of os n ≡ f.code
  pub fits : Fits s f (n - 1) p q
  pub below : Stacked os (n - 1) fs s q e

pub top : (s : List ℕ) (os : List Open) (n p e : ℕ) (frames : List Stage) → 0 < n → Stacked os n frames s p e → Top s os n p e frames
unfolding Stacked
top s os n p e [] lt g = let z = g.0 in absurd (omega arith)
top s os n p e (f ∷ fs) lt g =
    let z = g.2 in
    let em : g.0 ≡ n - 1 = omega arith in
    record { f = f; fs = fs; q = g.1; is = refl; code = subst (λ m. get_or os m blank ≡ f.code) em g.3; fits = subst (λ m. Fits s f m p g.1) em g.4; below = subst (λ m. Stacked os m fs s g.1 e) em g.5 }

-- a store above the open nodes
pub set-above : (os : List Open) (i : ℕ) (v : Open) (n : ℕ) (fs : List Stage) (s : List ℕ) (p e : ℕ) → n ≤ i → Stacked os n fs s p e → Stacked (set os i v) n fs s p e
unfolding Stacked
set-above os i v n [] s p e le g = g
set-above os i v n (f ∷ fs) s p e le g =
    let z = g.2 in
    (g.0, g.1, g.2, get_or-set_other os i g.0 v blank (λ x. omega arith) ∙ g.3, g.4, set-above os i v g.0 fs s g.1 e (omega arith) g.5)

kids-none : (es : Exprs) → count es ≡ 0 → es ≡ none
kids-none none e = refl
kids-none (more c cs) e = absurd (omega arith)

-- what the code knows of the innermost open node
pub record Sees (s : List ℕ) (os : List Open) (n p : ℕ) : Type 0 where
  pub index : n - 1 < 25
  pub inside : p ≤ length s
  pub tag16 : (top_of os n).tag < 16
  pub start : (top_of os n).start ≤ length s

pub sees : (s : List ℕ) (os : List Open) (n p e : ℕ) (frames : List Stage) → 0 < n → Stacked os n frames s p e → Sees s os n p
sees s os n p e frames lt g =
    let t = top s os n p e frames lt g in
    let f = t.fits in
    let a = order-all t.f.kids s p f.a f.kids in
    let b = order-all t.f.items s (f.a + t.f.code.counted) f.u f.items in
    let c = f.end in let d = f.inside in let l = f.low-kids in
    record { index = omega arith; inside = omega arith; tag16 = rw t.code f.tag16; start = rw t.code f.start }

shape : (x : Expr) → (h : Head) × (ks : Exprs) × (xs : Exprs) × (x ≡ node h ks xs)
shape (node h ks xs) = (h, ks, xs, refl)

finish-none : (T : Tables) (h : Head) → finish T (node h none none) ≡ []
unfolding finish
finish-none T h = picks (eqb h.tag 6) (eqb h.tag 14) (is_move_of T h.arg)
  where
    picks : (a b c : Bool) → ◌≡◌ {A = List Raw} (cond a [] (cond b (cond c [] []) [])) []
    picks true b c = refl
    picks false true true = refl
    picks false true false = refl
    picks false false c = refl

-- what the code knows of a child looked through
pub record ChildSees (s : List ℕ) (n p r : ℕ) : Type 0 where
  pub later : p ≤ r
  pub index : n < 25
  pub tag16 : get_or s r 0 < 16
  pub inside : r < length s
  pub room : r + 7 + get_or arg_width (get_or s r 0) 0 ≤ length s

-- the children are through: the count of the items is read
rest-items : (T : Tables) (f : Stage) → f.kids ≡ none → rest T f ≡ group T (handed 0 f.code.tag) f.items ++ finish T f.whole
unfolding rest group
rest-items T f e = rw e refl

module _ (s : List ℕ) (os : List Open) (n p e : ℕ) (frames : List Stage) (lt : 0 < n) (room : length os ≡ 26) (g : Stacked os n frames s p e) (o : Open) (eo : top_of os n ≡ o) where
  abbrev t : Top s os n p e frames
  t = top s os n p e frames lt g

  code_of : o ≡ t.f.code
  code_of = sym eo ∙ t.code

  no-left : o.left ≤ 0 → t.f.kids ≡ none
  no-left le = let a = t.fits.left in let b : o.left ≡ t.f.code.left = ap (λ x. x.left) code_of in kids-none t.f.kids (omega arith)

  same_place : t.f.kids ≡ none → t.fits.a ≡ p
  unfolding StandAll
  same_place e = subst (λ k. StandAll k s p t.fits.a) e t.fits.kids

  abbrev after-count : ℕ → Stage
  after-count l = record { code = record { start = o.start; left = l; tag = o.tag; counted = 0 }; whole = t.f.whole; kids = t.f.items; items = none }

  count_fits : (l : ℕ) → o.left ≤ 0 → 0 < o.counted → l ≡ two s p → Fits s (after-count l) (n - 1) (p + 2) t.q
  unfolding StandAll depth
  count_fits l le pos el =
      let kn = no-left le in
      let ap' : t.fits.a ≡ p = same_place kn in
      let ec : o.counted ≡ t.f.code.counted = ap (λ x. x.counted) code_of in
      let et : o.tag ≡ t.f.code.tag = ap (λ x. x.tag) code_of in
      let es : o.start ≡ t.f.code.start = ap (λ x. x.start) code_of in
      let on : o.counted ≡ 2 = ⊎_elim (λ z. absurd (omega arith)) (λ z. ec ∙ z) t.fits.once in
      let at2 : t.fits.a + t.f.code.counted ≡ p + 2 = omega arith in
      let cnt : count t.f.items ≡ two s t.fits.a = t.fits.number ∙ ap (λ x. number_in s x t.fits.a) (sym ec ∙ on) in
      let low = t.fits.low-items in
      let low0 = t.fits.low-kids in
      record {
        tag = et ∙ t.fits.tag;
        tag16 = subst (λ x. x < 16) (sym et) t.fits.tag16;
        left = el ∙ ap (λ x. two s x) (sym ap') ∙ sym cnt;
        once = inl refl;
        placed = λ z. subst (λ x. Placed s x t.f.whole) (sym es) (t.fits.placed (subst (λ x. 0 < x) et z));
        start = subst (λ x. x ≤ length s) (sym es) t.fits.start;
        a = t.fits.u;
        u = t.fits.u;
        kids = subst (λ x. StandAll t.f.items s x t.fits.u) at2 t.fits.items;
        number = refl;
        items = omega arith;
        end = t.fits.end ∙ ap (λ x. t.fits.u + get_or last_width x 0) (sym et);
        inside = t.fits.inside;
        low-kids = t.fits.low-items;
        low-items = omega arith;
      }

  count-stacked : (l : ℕ) → o.left ≤ 0 → 0 < o.counted → l ≡ two s p
      → Stacked (set os (n - 1) (after-count l).code) (n - 1 + 1) (after-count l ∷ t.fs) s (p + 2) e
  unfolding Stacked
  count-stacked l le pos el =
      let ix = (sees s os n p e frames lt g).index in (
        n - 1,
        t.q,
        omega arith,
        get_or-set_same os (n - 1) (after-count l).code blank (omega arith),
        count_fits l le pos el,
        set-above os (n - 1) (after-count l).code (n - 1) t.fs s t.q e (omega arith) t.below,
      )

  count-tells : (T : Tables) (l : ℕ) → o.left ≤ 0 → pending T frames ≡ pending T (after-count l ∷ t.fs)
  unfolding pending rest group
  count-tells T l le =
      let et : o.tag ≡ t.f.code.tag = ap (λ x. x.tag) code_of in
      ap (pending T) t.is ∙ ap (λ x. x ++ pending T t.fs) (rest-items T t.f (no-left le)) ∙ ap (λ x. (group T (handed 0 x) t.f.items ++ finish T t.f.whole) ++ pending T t.fs) (sym et)

  -- the node ends
  no_items : o.counted ≤ 0 → t.f.items ≡ none
  no_items le =
      let ec : o.counted ≡ t.f.code.counted = ap (λ x. x.counted) code_of in
      let z : t.f.code.counted ≡ 0 = omega arith in
      kids-none t.f.items (t.fits.number ∙ ap (λ x. number_in s x t.fits.a) z)

  end-at : (k : ℕ) → o.left ≤ 0 → o.counted ≤ 0 → k ≡ get_or last_width o.tag 0 → t.q ≡ p + k
  unfolding StandAll
  end-at k le lc ek =
      let ap' : t.fits.a ≡ p = same_place (no-left le) in
      let ec : o.counted ≡ t.f.code.counted = ap (λ x. x.counted) code_of in
      let et : o.tag ≡ t.f.code.tag = ap (λ x. x.tag) code_of in
      let u : t.fits.u ≡ t.fits.a + t.f.code.counted = subst (λ k. StandAll k s (t.fits.a + t.f.code.counted) t.fits.u) (no_items lc) t.fits.items in
      let en : t.q ≡ t.fits.u + get_or last_width t.f.code.tag 0 = t.fits.end in
      let ek2 : k ≡ get_or last_width t.f.code.tag 0 = ek ∙ ap (λ x. get_or last_width x 0) et in
      omega arith

  end-tells : (T : Tables) → o.left ≤ 0 → o.counted ≤ 0 → pending T frames ≡ finish T t.f.whole ++ pending T t.fs
  unfolding pending group
  end-tells T le lc = ap (pending T) t.is ∙ ap (λ x. x ++ pending T t.fs) (rest-items T t.f (no-left le) ∙ ap (λ x. group T (handed 0 t.f.code.tag) x ++ finish T t.f.whole) (no_items lc))

  -- the next child begins: it stands at p, and looked through at r
  pub record Child (r : ℕ) : Type 0 where
    pub c : Expr
    pub cs : Exprs
    pub kids : t.f.kids ≡ more c cs
    pub mid : ℕ
    pub stands : Stands c s p mid
    pub others : StandAll cs s mid t.fits.a
    pub h : Head
    pub ks : Exprs
    pub xs : Exprs
    pub is : through c ≡ node h ks xs
    pub looked : Stands (node h ks xs) s r mid
    pub low : depth (node h ks xs) + (n - 1) ≤ 24
    pub low-others : depth_all cs + (n - 1) ≤ 24

  module _ (r : ℕ) (look : Looked s p r) (pos : 0 < o.left) where
    child : Child r
    unfolding StandAll depth
    child = go t.f.kids refl t.fits.kids t.fits.low-kids (omega (arith, t.fits.left, ap (λ x. x.left) code_of))
      where
        go : (es : Exprs) → t.f.kids ≡ es → StandAll es s p t.fits.a → depth_all es + (n - 1) ≤ 24 → 0 < count es → Child r
        go none e st low z = absurd (omega arith)
        go (more c cs) e st low z =
            let v = shape (through c) in
            let d = through-depth c in
            let lo : depth (through c) + (n - 1) ≤ 24 = omega arith in
            record { c = c; cs = cs; kids = e; mid = st.0; stands = st.1; others = st.2; h = v.0; ks = v.1; xs = v.2; is = v.3; looked = subst (λ x. Stands x s r st.0) v.3 (look c st.0 st.1); low = subst (λ x. depth x + (n - 1) ≤ 24) v.3 lo; low-others = omega arith }

    abbrev k : Child r
    k = child

    head : (u : ℕ) × HeadStands k.h s r u
    head = head_at s r k.mid (node k.h k.ks k.xs) k.looked

    -- what the code knows of the child
    pub child-sees : ChildSees s n p r
    unfolding depth
    child-sees =
        let w = head.1 in
        let l = k.low in
        record { later = later s p r k.mid k.c k.stands (look k.c k.mid k.stands); index = omega arith; tag16 = subst (λ x. x < 16) (sym w.tag) w.high; inside = let z = w.room in omega arith; room = subst (λ x. r + 7 + get_or arg_width x 0 ≤ length s) (sym w.tag) w.room }

    abbrev opened-stage : ℕ → ℕ → ℕ → Stage
    opened-stage tag l ct = record { code = record { start = r; left = l; tag = tag; counted = ct }; whole = node k.h k.ks k.xs; kids = k.ks; items = k.xs }

    abbrev lower-stage : Stage
    lower-stage = record { code = record { start = o.start; left = o.left - 1; tag = o.tag; counted = o.counted }; whole = t.f.whole; kids = k.cs; items = t.f.items }

    opened-fits : (tag l ct b : ℕ) → tag ≡ get_or s r 0 → l ≡ get_or fixed_count tag 0 → ct ≡ get_or count_width tag 0 → b ≡ get_or arg_width tag 0
        → Fits s (opened-stage tag l ct) n (r + 7 + b) k.mid
    unfolding Stands depth
    opened-fits tag l ct b et el ec eb =
        let w = head.1 in
        let g = k.looked in
        let lo = k.low in
        let e : tag ≡ k.h.tag = et ∙ w.tag in
        let c1 : ct ≡ get_or count_width k.h.tag 0 = ec ∙ ap (λ x. get_or count_width x 0) e in
        let b1 : b ≡ get_or arg_width k.h.tag 0 = eb ∙ ap (λ x. get_or arg_width x 0) e in
        let hi = w.high in
        let rm = w.room in
        record {
          tag = e;
          tag16 = omega arith;
          left = el ∙ ap (λ x. get_or fixed_count x 0) e ∙ sym g.3;
          once = subst (λ x. (x ≡ 0) ⊎ (x ≡ 2)) (sym c1) (none-or-two k.h.tag hi);
          placed = λ z. record { next = k.mid; stands = k.looked };
          start = omega arith;
          a = g.0;
          u = g.1;
          kids = subst (λ x. StandAll k.ks s (r + 7 + x) g.0) (sym b1) g.4;
          number = g.5 ∙ ap (λ x. number_in s x g.0) (sym c1);
          items = subst (λ x. StandAll k.xs s (g.0 + x) g.1) (sym c1) g.6;
          end = g.7 ∙ ap (λ x. g.1 + get_or last_width x 0) (sym e);
          inside = g.8;
          low-kids = omega arith;
          low-items = omega arith;
        }

    lower-fits : Fits s lower-stage (n - 1) k.mid t.q
    lower-fits =
        let ec : o.counted ≡ t.f.code.counted = ap (λ x. x.counted) code_of in
        let et : o.tag ≡ t.f.code.tag = ap (λ x. x.tag) code_of in
        let es : o.start ≡ t.f.code.start = ap (λ x. x.start) code_of in
        let el : o.left ≡ t.f.code.left = ap (λ x. x.left) code_of in
        let fl : t.f.code.left ≡ count t.f.kids = t.fits.left in
        let fk : count t.f.kids ≡ count (more k.c k.cs) = ap count k.kids in
        record {
          tag = et ∙ t.fits.tag;
          tag16 = subst (λ x. x < 16) (sym et) t.fits.tag16;
          left = omega arith;
          once = subst (λ x. (x ≡ 0) ⊎ (x ≡ 2)) (sym ec) t.fits.once;
          placed = λ z. subst (λ x. Placed s x t.f.whole) (sym es) (t.fits.placed (subst (λ x. 0 < x) et z));
          start = subst (λ x. x ≤ length s) (sym es) t.fits.start;
          a = t.fits.a;
          u = t.fits.u;
          kids = k.others;
          number = t.fits.number ∙ ap (λ x. number_in s x t.fits.a) (sym ec);
          items = subst (λ x. StandAll t.f.items s (t.fits.a + x) t.fits.u) (sym ec) t.fits.items;
          end = t.fits.end ∙ ap (λ x. t.fits.u + get_or last_width x 0) (sym et);
          inside = t.fits.inside;
          low-kids = k.low-others;
          low-items = t.fits.low-items;
        }

    child-stacked : (tag l ct b : ℕ) → tag ≡ get_or s r 0 → l ≡ get_or fixed_count tag 0 → ct ≡ get_or count_width tag 0 → b ≡ get_or arg_width tag 0
        → Stacked (set (set os (n - 1) lower-stage.code) n (opened-stage tag l ct).code) (n - 1 + 2) (opened-stage tag l ct ∷ lower-stage ∷ t.fs) s (r + 7 + b) e
    unfolding Stacked
    child-stacked tag l ct b et el ec eb =
        let i = child-sees.index in
        let os1 = set os (n - 1) lower-stage.code in
        let l1 : length os1 ≡ 26 = length-set os (n - 1) lower-stage.code ∙ room in (
          n,
          k.mid,
          omega arith,
          get_or-set_same os1 n (opened-stage tag l ct).code blank (omega arith),
          opened-fits tag l ct b et el ec eb,
          (
            n - 1,
            t.q,
            omega arith,
            get_or-set_other os1 n (n - 1) (opened-stage tag l ct).code blank (λ x. omega arith) ∙ get_or-set_same os (n - 1) lower-stage.code blank (omega arith),
            lower-fits,
            set-above os1 n (opened-stage tag l ct).code (n - 1) t.fs s t.q e (omega arith)
                (set-above os (n - 1) lower-stage.code (n - 1) t.fs s t.q e (omega arith) t.below),
          ),
        )

    child-tells : (T : Tables) (tag l ct : ℕ) (b : Bool) (told : List Raw) → tag ≡ get_or s r 0 → ct ≡ get_or count_width tag 0 → b ≡ handed o.counted o.tag
        → told ≡ leaf_of T b (get_or s r 0) (two s (r + 7)) (four s (r + 1))
        → pending T frames ≡ told ++ pending T (opened-stage tag l ct ∷ lower-stage ∷ t.fs)
    unfolding pending rest group
    child-tells T tag l ct b told et ec eb tl =
        let e : tag ≡ k.h.tag = et ∙ head.1.tag in
        let c1 : ct ≡ get_or count_width k.h.tag 0 = ec ∙ ap (λ x. get_or count_width x 0) e in
        let op = opened T s b p r k.mid k.c k.h k.ks k.xs k.stands (look k.c k.mid k.stands) k.is in
        let inner = group T (handed ct tag) k.ks ++ (group T (handed 0 tag) k.xs ++ finish T (node k.h k.ks k.xs)) in
        let same : inside_of T k.h k.ks k.xs ≡ inner = ap (λ x. group T (handed x k.h.tag) k.ks ++ (group T (handed 0 k.h.tag) k.xs ++ finish T (node k.h k.ks k.xs))) (sym c1) ∙ ap (λ x. group T (handed ct x) k.ks ++ (group T (handed 0 x) k.xs ++ finish T (node k.h k.ks k.xs))) (sym e) in
        let op2 : raws T k.c ++ hand_if T b k.c ≡ told ++ inner = op ∙ ap (λ x. x ++ inside_of T k.h k.ks k.xs) (sym tl) ∙ ap (λ x. told ++ x) same in
        let items = group T (handed 0 o.tag) t.f.items ++ finish T t.f.whole in
        ap (pending T) t.is
        ∙ ap (λ x. (group T (handed x.counted x.tag) t.f.kids ++ (group T (handed 0 x.tag) t.f.items ++ finish T t.f.whole)) ++ pending T t.fs) (sym code_of)
        ∙ ap (λ x. (group T x t.f.kids ++ items) ++ pending T t.fs) (sym eb)
        ∙ ap (λ x. (group T b x ++ items) ++ pending T t.fs) k.kids
        ∙ regroup (raws T k.c) (hand_if T b k.c) (group T b k.cs) items (pending T t.fs) told inner op2
        ∙ ap (λ x. told ++ (inner ++ ((group T x k.cs ++ items) ++ pending T t.fs))) eb

    -- the child is a leaf: it is through at once
    module _ (tag b : ℕ) (et : tag ≡ get_or s r 0) (eb : b ≡ get_or arg_width tag 0) (lf : leaf tag ≡ true) where
      same_tag : tag ≡ k.h.tag
      same_tag = et ∙ head.1.tag

      none_of : (k.h.tag < 16) × (get_or fixed_count k.h.tag 0 ≡ 0) × (get_or count_width k.h.tag 0 ≡ 0) × (get_or last_width k.h.tag 0 ≡ 0)
      none_of = leaf-columns k.h.tag (subst (λ x. leaf x ≡ true) same_tag lf)

      empty : (k.ks ≡ none) × (k.xs ≡ none)
      empty = leaf-empty s r k.mid k.h k.ks k.xs k.looked none_of.1 none_of.2

      leaf-end : k.mid ≡ r + 7 + b
      unfolding Stands StandAll
      leaf-end =
          let g = k.looked in
          let b1 : b ≡ get_or arg_width k.h.tag 0 = eb ∙ ap (λ x. get_or arg_width x 0) same_tag in
          let e1 : g.0 ≡ r + 7 + get_or arg_width k.h.tag 0 = subst (λ x. StandAll x s (r + 7 + get_or arg_width k.h.tag 0) g.0) empty.0 g.4 in
          let e2 : g.1 ≡ g.0 + get_or count_width k.h.tag 0 = subst (λ x. StandAll x s (g.0 + get_or count_width k.h.tag 0) g.1) empty.1 g.6 in
          let e3 = g.7 in
          let c0 = none_of.2 in let a0 = none_of.3 in
          omega arith

      leaf-stacked : Stacked (set os (n - 1) lower-stage.code) (n - 1 + 1) (lower-stage ∷ t.fs) s (r + 7 + b) e
      unfolding Stacked
      leaf-stacked =
          let ix = child-sees.index in (
            n - 1,
            t.q,
            omega arith,
            get_or-set_same os (n - 1) lower-stage.code blank (omega arith),
            subst (λ x. Fits s lower-stage (n - 1) x t.q) leaf-end lower-fits,
            set-above os (n - 1) lower-stage.code (n - 1) t.fs s t.q e (omega arith) t.below,
          )

      leaf-rest : (T : Tables) (l ct : ℕ) → rest T (opened-stage tag l ct) ≡ []
      unfolding rest group
      leaf-rest T l ct =
          ap (λ x. group T (handed ct tag) x ++ (group T (handed 0 tag) k.xs ++ finish T (node k.h x k.xs))) empty.0
          ∙ ap (λ x. group T (handed 0 tag) x ++ finish T (node k.h none x)) empty.1
          ∙ finish-none T k.h

      leaf-tells : (T : Tables) (hd : Bool) (told : List Raw) → hd ≡ handed o.counted o.tag → told ≡ leaf_of T hd (get_or s r 0) (two s (r + 7)) (four s (r + 1))
          → pending T frames ≡ told ++ pending T (lower-stage ∷ t.fs)
      unfolding pending
      leaf-tells T hd told eh tl =
          child-tells T tag 0 (get_or count_width tag 0) hd told et refl eh tl
          ∙ ap (λ x. told ++ (x ++ pending T (lower-stage ∷ t.fs))) (leaf-rest T 0 (get_or count_width tag 0))

module _ (s : List ℕ) (os : List Open) (n p : ℕ) (ready : Ready s os n p) (lt : 0 < n) (o : Open) (eo : top_of os n ≡ o) where
  pub seen : Sees s os n p
  seen = sees s os n p ready.end ready.frames lt ready.stacked

  pub seen-tag : o.tag < 16
  seen-tag = subst (λ x. x.tag < 16) eo seen.tag16

  pub seen_start : o.start ≤ length s
  seen_start = subst (λ x. x.start ≤ length s) eo seen.start

  pub seen-child : (r : ℕ) → Looked s p r → 0 < o.left → ChildSees s n p r
  seen-child r look pos = child-sees s os n p ready.end ready.frames lt ready.room ready.stacked o eo r look pos

  pub goes-child : (T : Tables) (r : ℕ) → Looked s p r → 0 < o.left
      → (told : Effect) (hd : Bool) (tag l ct b : ℕ) → tag ≡ get_or s r 0 → l ≡ get_or fixed_count tag 0 → ct ≡ get_or count_width tag 0 → b ≡ get_or arg_width tag 0
      → hd ≡ handed o.counted o.tag → emits told ≡ leaf_of T hd (get_or s r 0) (two s (r + 7)) (four s (r + 1))
      → Goes T s os n p (record { effect = told; at = r + 7 + b; innermost = Opens (record { start = o.start; left = o.left - 1; tag = o.tag; counted = o.counted }) (record { start = r; left = l; tag = tag; counted = ct }) })
  goes-child T r look pos told hd tag l ct b et el ec eb eh tl =
      let z = seen-child r look pos in
      let rm = z.room in
      let le = z.later in
      let ix = z.index in
      record {
        steps = λ frames end g. record {
          after = opened-stage s os n p end frames lt ready.room g o eo r look pos tag l ct ∷ (lower-stage s os n p end frames lt ready.room g o eo r look pos ∷ (top s os n p end frames lt g).fs);
          stacked = child-stacked s os n p end frames lt ready.room g o eo r look pos tag l ct b et el ec eb;
          tells = child-tells s os n p end frames lt ready.room g o eo r look pos T tag l ct hd (emits told) et ec eh tl;
        };
        held = omega arith;
        index = omega arith;
        falls = omega arith;
      }

  pub goes-leaf : (T : Tables) (r : ℕ) → Looked s p r → 0 < o.left
      → (told : Effect) (hd : Bool) (tag b : ℕ) → tag ≡ get_or s r 0 → b ≡ get_or arg_width tag 0 → leaf tag ≡ true
      → hd ≡ handed o.counted o.tag → emits told ≡ leaf_of T hd (get_or s r 0) (two s (r + 7)) (four s (r + 1))
      → Goes T s os n p (record { effect = told; at = r + 7 + b; innermost = Stays (record { start = o.start; left = o.left - 1; tag = o.tag; counted = o.counted }) })
  goes-leaf T r look pos told hd tag b et eb lf eh tl =
      let z = seen-child r look pos in
      let rm = z.room in
      let le = z.later in
      let ix = z.index in
      record {
        steps = λ frames end g. record {
          after = lower-stage s os n p end frames lt ready.room g o eo r look pos ∷ (top s os n p end frames lt g).fs;
          stacked = leaf-stacked s os n p end frames lt ready.room g o eo r look pos tag b et eb lf;
          tells = leaf-tells s os n p end frames lt ready.room g o eo r look pos tag b et eb lf T hd (emits told) eh tl;
        };
        held = omega arith;
        index = omega arith;
        falls = omega arith;
      }

  pub seen-count : o.left ≤ 0 → 0 < o.counted → p + 2 ≤ length s
  seen-count le pos =
      let w = count_fits s os n p ready.end ready.frames lt ready.room ready.stacked o eo (two s p) le pos refl in
      let a : p + 2 ≤ w.a = order-all _ s (p + 2) w.a w.kids in
      let b : w.a + 0 ≤ w.u = order-all none s (w.a + 0) w.u w.items in
      let e = w.end in let d = w.inside in
      omega arith

  pub goes-count : (T : Tables) (l : ℕ) → o.left ≤ 0 → 0 < o.counted → l ≡ two s p
      → Goes T s os n p (record { effect = Nothing; at = p + 2; innermost = Stays (record { start = o.start; left = l; tag = o.tag; counted = 0 }) })
  goes-count T l le pos el =
      let z = seen-count le pos in
      let ix = seen.index in
      record {
        steps = λ frames end g. record {
          after = after-count s os n p end frames lt ready.room g o eo l ∷ (top s os n p end frames lt g).fs;
          stacked = count-stacked s os n p end frames lt ready.room g o eo l le pos el;
          tells = count-tells s os n p end frames lt ready.room g o eo T l le;
        };
        held = omega arith;
        index = omega arith;
        falls = omega arith;
      }

  pub goes_end : (T : Tables) (told : Effect) (k st : ℕ) → o.left ≤ 0 → o.counted ≤ 0 → k ≡ get_or last_width o.tag 0 → st ≡ o.start
      → ((x : Expr) → (0 < o.tag → Placed s st x) → (head_of x).tag ≡ o.tag → emits told ≡ finish T x)
      → Goes T s os n p (record { effect = told; at = p + k; innermost = Ends })
  unfolding Stacked
  goes_end T told k st le lc ek est fin =
      let ix = seen.index in
      record {
        steps = λ frames end g. (
            let t = top s os n p end frames lt g in
            let co : o ≡ t.f.code = sym eo ∙ t.code in
            let et : o.tag ≡ t.f.code.tag = ap (λ x. x.tag) co in
            let es : o.start ≡ t.f.code.start = ap (λ x. x.start) co in
            let q : t.q ≡ p + k = end-at s os n p end frames lt ready.room g o eo k le lc ek in
            let d : emits told ≡ finish T t.f.whole = fin t.f.whole (λ z. subst (λ x. Placed s x t.f.whole) (sym (est ∙ es)) (t.fits.placed (subst (λ x. 0 < x) et z))) (sym (et ∙ t.fits.tag)) in
            let m0 : n - 1 ≡ n - 1 + 0 = omega arith in
            record {
              after = t.fs;
              stacked = subst (λ y. Stacked os y t.fs s (p + k) end) m0 (subst (λ x. Stacked os (n - 1) t.fs s x end) q t.below);
              tells = end-tells s os n p end frames lt ready.room g o eo T le lc ∙ ap (λ x. x ++ pending T t.fs) (sym d);
            });
        held = omega arith;
        index = omega arith;
        falls = let i = seen.inside in omega arith;
      }
