-- What a node does at its end, as the bytes say it.
-- Assumes nothing.
use Rattle.std.proofs.Common.{◌≡◌, ℕ, suc, ◌+◌, ◌<◌, ◌≤◌, Bool, true, false, cond, eqb, List, [], ◌∷◌, length, get_or, sym, refl, ap, ◌∙◌, subst, inl, inr, arith, eq-eqb, ne_eqb}
use types.Run.{OneOf}
use denote.Enum.Declared.{tag_of}
use Rattle.image_fields.specs.Number.{two, four, number_in}
use Rattle.tables.specs.Tables.{Tables}
use Rattle.image_body.specs.Expr.{Head, Expr, Exprs, node, none, more, arg_width, fixed_count, count_width, last_width, head_of, through}
use Rattle.image_body.specs.Stands.{Stands, StandAll, count}
use Rattle.image_body.specs.Node.{node_of, node_at}
use Rattle.image_body.specs.declared.Node.{Node}
use Rattle.image_body.specs.declared.Node.TheVariants.{Ident, FieldAccess}
use Rattle.image_body.specs.contracts.Node.{the_type}
use Rattle.image_body.proofs.Walking.{head_at, Looked, tag-of, others, not-kind, first-child}
use Rattle.rules.specs.Questions.{is_move_of, consumes}
use Rattle.rules.specs.Effects.{Raw, gives, moves_none, consume, field_call, move_head, move_ident, move_local, move_first, finish}
use Rattle.expressions_effects.proofs.Laws.{name-at}

module _ (s : List ℕ) (p n : ℕ) (h : Head) where
  -- the name of a field access stands after its target
  field-name : (c : Expr) (cs xs : Exprs) → Stands (node h (more c cs) xs) s p n → h.tag ≡ 11 → (m : ℕ) × Stands c s (p + 7) m × (h.arg ≡ two s m)
  unfolding Stands StandAll arg_width fixed_count count_width last_width
  field-name c none none g t =
      let b : get_or arg_width h.tag 0 ≡ 0 = rw t refl in
      let k : get_or count_width h.tag 0 ≡ 0 = rw t refl in
      let e1 = g.4.2 in
      let e2 = g.6 in
      let eu : g.1 ≡ g.4.0 = omega arith in
      let a : number_in s (get_or arg_width 11 0) (p + 7) + number_in s (get_or last_width 11 0) g.1 ≡ h.arg = rw t at g.2.arg in
      let a2 : two s g.1 ≡ h.arg = omega arith in
      (g.4.0, subst (λ x. Stands c s x g.4.0) (omega arith) g.4.1, sym a2 ∙ ap (λ x. two s x) eu)
  field-name c (more d ds) xs g t = let f : count (more c (more d ds)) ≡ get_or fixed_count 11 0 = rw t at g.3 in absurd (omega arith)
  field-name c none (more x xs) g t = let z : suc (count xs) ≡ 0 = rw t at g.5 in absurd (omega arith)

  -- an Ident ends 9 bytes on
  ident-end : (ks xs : Exprs) → Stands (node h ks xs) s p n → h.tag ≡ 1 → n ≡ p + 9
  unfolding Stands StandAll arg_width fixed_count count_width last_width
  ident-end none none g t =
      let b : get_or arg_width h.tag 0 ≡ 2 = rw t refl in
      let k : get_or count_width h.tag 0 ≡ 0 = rw t refl in
      let a : get_or last_width h.tag 0 ≡ 0 = rw t refl in
      let e1 = g.4 in
      let e2 = g.6 in
      let e3 = g.7 in
      omega arith
  ident-end (more c cs) xs g t = let f : count (more c cs) ≡ get_or fixed_count 1 0 = rw t at g.3 in absurd (omega arith)
  ident-end none (more x xs) g t = let z : suc (count xs) ≡ 0 = rw t at g.5 in absurd (omega arith)

  -- an Intrinsic: its name, the number of its arguments, and the arguments
  pub record Intrinsic (xs : Exprs) : Type 0 where
    pub name : h.arg ≡ two s (p + 7)
    pub many : count xs ≡ two s (p + 9)
    pub end : ℕ
    pub list : StandAll xs s (p + 11) end

  intrinsic : (ks xs : Exprs) → Stands (node h ks xs) s p n → h.tag ≡ 14 → Intrinsic xs
  unfolding Stands StandAll arg_width fixed_count count_width last_width
  intrinsic none xs g t =
      let b : get_or arg_width h.tag 0 ≡ 2 = rw t refl in
      let k : get_or count_width h.tag 0 ≡ 2 = rw t refl in
      let e1 = g.4 in
      let q9 : g.0 ≡ p + 9 = omega arith in
      let q11 : g.0 + get_or count_width h.tag 0 ≡ p + 11 = omega arith in
      let m : count xs ≡ two s g.0 = g.5 ∙ ap (λ x. number_in s x g.0) k in
      record { name = name-at s p g.1 h g.2 (inr t); many = m ∙ ap (λ x. two s x) q9; end = g.1; list = subst (λ x. StandAll xs s x g.1) q11 g.6 }
  intrinsic (more c cs) xs g t = let f : count (more c cs) ≡ get_or fixed_count 14 0 = rw t at g.3 in absurd (omega arith)

ident-of : (s : List ℕ) (x : Expr) (q n : ℕ) → Stands x s q n → (head_of x).tag ≡ 1 → n ≡ q + 9
ident-of s (node h ks xs) q n g t = ident-end s q n h ks xs g t

-- the receiver
no-field-call : (T : Tables) (s : List ℕ) (p m : ℕ) (x : Expr) → Stands x s p m → (get_or s p 0 ≡ 11 → ⊥) → [] ≡ field_call T x
no-field-call T s p m (node h none xs) g never = refl
no-field-call T s p m (node h (more t ts) xs) g never =
    let w = (head_at s p m (node h (more t ts) xs) g).1 in
    sym (ap (λ b. cond b (consume T h.span h.arg (head_of t).ty (head_of (through t))) []) (ne_eqb h.tag 11 (λ z. never (w.tag ∙ z))))

abbrev taken : Tables → ℕ → ℕ → ℕ → ℕ → List Raw
taken T a p m ty = cond (consumes T ty m) (gives a p ∷ []) []

module _ (T : Tables) (s : List ℕ) (p m q : ℕ) (look : Looked s (p + 7) q) where
  not-ident : (x : Expr) → Stands x s p m → get_or s p 0 ≡ 11 → (get_or s q 0 ≡ 1 → ⊥) → [] ≡ field_call T x
  not-ident (node h none xs) g is never = refl
  not-ident (node h (more t ts) xs) g is never =
      let w = (head_at s p m (node h (more t ts) xs) g).1 in
      let f = field-name s p m h t ts xs g (sym w.tag ∙ is) in
      let v = (head_at s q f.0 (through t) (look t f.0 f.1)).1 in
      sym (ap (λ b. cond b (consume T h.span h.arg (head_of t).ty (head_of (through t))) []) (eq-eqb h.tag 11 (sym w.tag ∙ is))
      ∙ ap (λ b. cond b (taken T (head_of (through t)).arg h.span h.arg (head_of t).ty) []) (ne_eqb (head_of (through t)).tag 1 (λ z. never (v.tag ∙ z))))

  an-ident : (x : Expr) → Stands x s p m → get_or s p 0 ≡ 11 → get_or s q 0 ≡ 1 → taken T (two s (q + 7)) (four s (p + 1)) (two s (q + 9)) (two s (p + 7 + 5)) ≡ field_call T x
  unfolding fixed_count
  an-ident (node h none xs) g is one =
      let t11 : h.tag ≡ 11 = sym (head_at s p m (node h none xs) g).1.tag ∙ is in
      let z = first-child s p m h none xs g (rw t11 (omega arith)) in
      absurd (no_more z.2)
    where
      no_more : {c : Expr} {cs : Exprs} → none ≡ more c cs → ⊥
      no_more e = let z : ◌≡◌ {A = ℕ} 0 1 = cc in omega arith
  an-ident (node h (more t ts) xs) g is one =
      let w = (head_at s p m (node h (more t ts) xs) g).1 in
      let t11 : h.tag ≡ 11 = sym w.tag ∙ is in
      let f = field-name s p m h t ts xs g t11 in
      let st = look t f.0 f.1 in
      let hv = head_at s q f.0 (through t) st in
      let v = hv.1 in
      let ht = (head_at s (p + 7) f.0 t f.1).1 in
      let t1 : (head_of (through t)).tag ≡ 1 = sym v.tag ∙ one in
      let e9 : f.0 ≡ q + 9 = ident-of s (through t) q f.0 st t1 in
      sym (ap (λ b. cond b (consume T h.span h.arg (head_of t).ty (head_of (through t))) []) (eq-eqb h.tag 11 t11)
      ∙ ap (λ b. cond b (taken T (head_of (through t)).arg h.span h.arg (head_of t).ty) []) (eq-eqb (head_of (through t)).tag 1 t1)
      ∙ ap (λ a. taken T a h.span h.arg (head_of t).ty) (name-at s q hv.0 (head_of (through t)) v (inl t1))
      ∙ ap (λ a. taken T (two s (q + 7)) a h.arg (head_of t).ty) (sym w.span)
      ∙ ap (λ a. taken T (two s (q + 7)) (four s (p + 1)) a (head_of t).ty) (f.2 ∙ ap (λ x. two s x) e9)
      ∙ ap (λ a. taken T (two s (q + 7)) (four s (p + 1)) (two s (q + 9)) a) (sym ht.ty))

-- the same, as the code asks: p is the callee looked through, q the target
module _ (s : List ℕ) (at p : ℕ) (looked : Looked s at p) {v : Node} (ev : v ≡ node_at s p) where
  pub no_field : OneOf (others 11) (tag_of the_type v) → (T : Tables) (e : Expr) (next : ℕ) → Stands e s at next → [] ≡ field_call T (through e)
  unfolding node_of
  no_field h T e next st = no-field-call T s p next (through e) (looked e next st) (not-kind 11 tt s p ev refl h)

  module _ {target : ℕ} (ef : v ≡ FieldAccess target) where
    field_at : (target ≡ p + 7) × (get_or s p 0 ≡ 11) × (p < length s)
    unfolding node_of
    field_at =
        let t = tag-of s p (FieldAccess target) (sym ef ∙ ev) (omega arith) in
        let k : FieldAccess target ≡ node_of s p 11 = sym ef ∙ ev ∙ ap (node_of s p) t.0 in
        (cc, t.0, t.1)

    module _ (q : ℕ) (inner : Looked s target q) {w : Node} (ew : w ≡ node_at s q) where
      look-7 : Looked s (p + 7) q
      look-7 = subst (λ x. Looked s x q) field_at.0 inner

      pub no-ident : OneOf (others 1) (tag_of the_type w) → (T : Tables) (e : Expr) (next : ℕ) → Stands e s at next → [] ≡ field_call T (through e)
      unfolding node_of
      no-ident h T e next st = not-ident T s p next q look-7 (through e) (looked e next st) field_at.1 (not-kind 1 tt s q ew refl h)

      module _ {name : ℕ} (ei : w ≡ Ident name) where
        ident-at : (get_or s q 0 ≡ 1) × (q < length s)
        ident-at = tag-of s q (Ident name) (sym ei ∙ ew) (omega arith)

        -- both stand within the bytes
        pub within : (target ≡ p + 7) × (p < length s) × (q < length s)
        within = (field_at.0, field_at.2, ident-at.1)

        module _ (T : Tables) (ty mt : ℕ) {b : Bool} (ey : ty ≡ two s (target + 5)) (em : mt ≡ two s (q + 9)) (eb : b ≡ consumes T ty mt) (e : Expr) (next : ℕ) (st : Stands e s at next) where
          all : (n sp : ℕ) → n ≡ two s (q + 7) → sp ≡ four s (p + 1) → cond b (gives n sp ∷ []) [] ≡ field_call T (through e)
          all n sp en es =
              ap (λ c. cond c (gives n sp ∷ []) []) eb
              ∙ ap (λ y. taken T n y mt ty) es
              ∙ ap (λ y. taken T y (four s (p + 1)) mt ty) en
              ∙ ap (λ y. taken T (two s (q + 7)) (four s (p + 1)) y ty) em
              ∙ ap (λ y. taken T (two s (q + 7)) (four s (p + 1)) (two s (q + 9)) y) (ey ∙ ap (λ x. two s (x + 5)) field_at.0)
              ∙ an-ident T s p next q look-7 (through e) (looked e next st) field_at.1 ident-at.0

          pub consumed-by : {n sp : ℕ} → b ≡ true → n ≡ two s (q + 7) → sp ≡ four s (p + 1) → gives n sp ∷ [] ≡ field_call T (through e)
          consumed-by {n} {sp} e1 en es = ap (λ c. cond c (gives n sp ∷ []) []) (sym e1) ∙ all n sp en es

          pub kept_by : b ≡ false → [] ≡ field_call T (through e)
          kept_by e1 = ap (λ c. cond c (gives (two s (q + 7)) (four s (p + 1)) ∷ []) []) (sym e1) ∙ all (two s (q + 7)) (four s (p + 1)) refl refl

-- the move of an argument
module _ (T : Tables) (s : List ℕ) (p m k : ℕ) (x : Expr) (g : Stands x s p m) where
  pub move-1 : get_or s p 0 ≡ 1 → move_ident T (two s (p + 7)) (four s (p + 1)) ≡ move_head T k (head_of x)
  move-1 one =
      let w = head_at s p m x g in
      let t : (head_of x).tag ≡ 1 = sym w.1.tag ∙ one in
      ap (λ a. move_ident T a (four s (p + 1))) (sym (name-at s p w.0 (head_of x) w.1 (inl t)))
      ∙ ap (λ a. move_ident T (head_of x).arg a) w.1.span
      ∙ sym (ap (λ b. cond b (move_ident T (head_of x).arg (head_of x).span) (cond (eqb (head_of x).tag 2) (move_local T 0 (head_of x).span) (moves_none k))) (eq-eqb (head_of x).tag 1 t))

  pub move-2 : get_or s p 0 ≡ 2 → move_local T 0 (four s (p + 1)) ≡ move_head T k (head_of x)
  move-2 e2 =
      let w = head_at s p m x g in
      let t : (head_of x).tag ≡ 2 = sym w.1.tag ∙ e2 in
      ap (λ a. move_local T 0 a) w.1.span
      ∙ sym (ap (λ b. cond b (move_ident T (head_of x).arg (head_of x).span) (cond (eqb (head_of x).tag 2) (move_local T 0 (head_of x).span) (moves_none k))) (ne_eqb (head_of x).tag 1 (λ z. omega arith))
      ∙ ap (λ b. cond b (move_local T 0 (head_of x).span) (moves_none k)) (eq-eqb (head_of x).tag 2 t))

  pub move-3 : (get_or s p 0 ≡ 1 → ⊥) → (get_or s p 0 ≡ 2 → ⊥) → moves_none k ≡ move_head T k (head_of x)
  move-3 n1 n2 =
      let w = head_at s p m x g in
      sym (ap (λ b. cond b (move_ident T (head_of x).arg (head_of x).span) (cond (eqb (head_of x).tag 2) (move_local T 0 (head_of x).span) (moves_none k))) (ne_eqb (head_of x).tag 1 (λ z. n1 (w.1.tag ∙ z)))
      ∙ ap (λ b. cond b (move_local T 0 (head_of x).span) (moves_none k)) (ne_eqb (head_of x).tag 2 (λ z. n2 (w.1.tag ∙ z))))

-- the end of an Intrinsic
abbrev pub moved_by : Tables → Bool → Exprs → List Raw
moved_by T b xs = cond b (move_first T xs) []

intrinsic-end : (T : Tables) (h : Head) (ks xs : Exprs) → h.tag ≡ 14 → finish T (node h ks xs) ≡ moved_by T (is_move_of T h.arg) xs
unfolding finish
intrinsic-end T h ks xs t = rw t refl

call-more : (T : Tables) (h : Head) (c : Expr) (cs xs : Exprs) → h.tag ≡ 6 → finish T (node h (more c cs) xs) ≡ field_call T (through c)
unfolding finish
call-more T h c cs xs t = rw t refl

module _ (T : Tables) (s : List ℕ) (p m : ℕ) where
  by_name : (h : Head) (ks xs : Exprs) → Stands (node h ks xs) s p m → h.tag ≡ 14 → finish T (node h ks xs) ≡ moved_by T (is_move_of T (two s (p + 7))) xs
  by_name h ks xs g t = intrinsic-end T h ks xs t ∙ ap (λ a. moved_by T (is_move_of T a) xs) (intrinsic s p m h ks xs g t).name

  pub moves-other : (x : Expr) → Stands x s p m → (head_of x).tag ≡ 14 → is_move_of T (two s (p + 7)) ≡ false → [] ≡ finish T x
  moves-other (node h ks xs) g t e = sym (by_name h ks xs g t ∙ ap (λ b. moved_by T b xs) e)

  pub moves-none : (x : Expr) → Stands x s p m → (head_of x).tag ≡ 14 → is_move_of T (two s (p + 7)) ≡ true → two s (p + 9) ≤ 0 → [] ≡ finish T x
  moves-none (node h ks none) g t e le = sym (by_name h ks none g t ∙ ap (λ b. moved_by T b none) e)
  moves-none (node h ks (more y ys)) g t e le = let z = (intrinsic s p m h ks (more y ys) g t).many in absurd (omega arith)

  pub moves-first : (x : Expr) → Stands x s p m → (head_of x).tag ≡ 14 → is_move_of T (two s (p + 7)) ≡ true → 0 < two s (p + 9) → (told : List Raw)
      → ((y : Expr) (n : ℕ) → Stands y s (p + 11) n → told ≡ move_head T (head_of y).span (head_of (through y)) ∷ []) → told ≡ finish T x
  unfolding StandAll
  moves-first (node h ks none) g t e lt told f = let z = (intrinsic s p m h ks none g t).many in absurd (omega arith)
  moves-first (node h ks (more y ys)) g t e lt told f =
      let l = (intrinsic s p m h ks (more y ys) g t).list in
      f y l.0 l.1 ∙ sym (by_name h ks (more y ys) g t ∙ ap (λ b. moved_by T b (more y ys)) e)

  -- the end of a Call
  pub call-end : (x : Expr) → Stands x s p m → (head_of x).tag ≡ 6 → (told : List Raw)
      → ((y : Expr) (n : ℕ) → Stands y s (p + 7) n → told ≡ field_call T (through y)) → told ≡ finish T x
  unfolding finish fixed_count arg_width
  call-end (node h ks xs) g t told f =
      let c = first-child s p m h ks xs g (rw t (omega arith)) in
      let at7 : p + 7 + get_or arg_width h.tag 0 ≡ p + 7 = rw t (omega arith) in
      f c.0 c.3.next (subst (λ x. Stands c.0 s x c.3.next) at7 c.3.stands) ∙ sym (ap (λ k. finish T (node h k xs)) c.2 ∙ call-more T h c.0 c.1 xs t)

pub end-other : (T : Tables) (x : Expr) → ((head_of x).tag ≡ 6 → ⊥) → ((head_of x).tag ≡ 14 → ⊥) → [] ≡ finish T x
unfolding finish
end-other T (node h ks xs) n6 n14 = rw (ne_eqb h.tag 6 n6, ne_eqb h.tag 14 n14) refl

-- the same with the code's numbers
module _ (T : Tables) (s : List ℕ) (p m k : ℕ) (x : Expr) (g : Stands x s p m) (told : List Raw) {tag : ℕ} (et : tag ≡ get_or s p 0) where
  pub told-1 : (a b : ℕ) → tag ≡ 1 → a ≡ two s (p + 7) → b ≡ four s (p + 1) → told ≡ move_ident T a b ∷ [] → told ≡ move_head T k (head_of x) ∷ []
  told-1 a b e ea eb t = t ∙ ap (λ y. move_ident T y b ∷ []) ea ∙ ap (λ y. move_ident T (two s (p + 7)) y ∷ []) eb ∙ ap (λ y. y ∷ []) (move-1 T s p m k x g (sym et ∙ e))

  pub told-2 : (b : ℕ) → tag ≡ 2 → b ≡ four s (p + 1) → told ≡ move_local T 0 b ∷ [] → told ≡ move_head T k (head_of x) ∷ []
  told-2 b e eb t = t ∙ ap (λ y. move_local T 0 y ∷ []) eb ∙ ap (λ y. y ∷ []) (move-2 T s p m k x g (sym et ∙ e))

pub told-3 : (T : Tables) (s : List ℕ) (at p m : ℕ) (e : Expr) (tag b : ℕ) → Stands e s at m → Stands (through e) s p m → tag ≡ get_or s p 0 → (tag ≡ 1 → ⊥) → (tag ≡ 2 → ⊥) → b ≡ four s (at + 1)
    → moves_none b ∷ [] ≡ move_head T (head_of e).span (head_of (through e)) ∷ []
told-3 T s at p m e tag b st g et n1 n2 eb =
    ap (λ y. moves_none y ∷ []) (eb ∙ (head_at s at m e st).1.span)
    ∙ ap (λ y. y ∷ []) (move-3 T s p m (head_of e).span (through e) g (λ z. n1 (et ∙ z)) (λ z. n2 (et ∙ z)))

-- the name that the code read
pub named_by : (T : Tables) (s : List ℕ) (p v : ℕ) {b c : Bool} → v ≡ two s (p + 7) → b ≡ is_move_of T v → b ≡ c → is_move_of T (two s (p + 7)) ≡ c
named_by T s p v ev eb ec = ap (λ y. is_move_of T y) (sym ev) ∙ sym eb ∙ ec
