-- What an entry that was read says of the bytes.
-- Assumes nothing.
use Prim.Native.Nat.{ℕ, ◌+◌, ◌*◌, ◌≤◌, ◌<◌}
use mathlib.Core.Path.{◌≡◌, refl, sym, ap, subst, subst₂, ◌∙◌}
use mathlib.Core.List.{List, [], ◌∷◌}
use mathlib.Core.Bool.{Bool, cond}
use mathlib.Core.Logic.{◌⊎◌, inl, inr, ⊎_elim}
use borrow.Author.Tests.{le-ltb, lt-ltb}
use native.Mathlib.Omega.{arith}
use lib.ListN.{length, get_or}
use Rattle.image_fields.specs.Parsed.{ok}
use Rattle.image_fields.specs.Number.{two, number_in}
use Rattle.image_fields.specs.Table.{entries}
use Rattle.image_fields.proofs.Inverse.{bound}
use Rattle.image_fields.proofs.Numbers.{field-ok}
use Rattle.image_fields.proofs.Tables.{table-parts, table-all, table-entries}
use Rattle.tables.specs.Limits.{version1}
use Rattle.tables.specs.Signature.{Entry, Param, param_at, param_in, this_width, entry_at}
use Rattle.rules.specs.Rules.{locals_of}
use Rattle.scope_entered.specs.Entered.{EntryThere, params_in}

param_in_lem : (names types : ℕ) (s : List ℕ) (xs : List Param) (p : ℕ) (x : Param) (q : ℕ) → param_at names types s xs p ≡ ok x q → (x ≡ param_in s p) × (q ≡ p + 4)
unfolding param_at
param_in_lem names types s xs p x q e =
    bound e (λ name r e1 e2. bound e2 (λ ty u e3 e4.
    let a = field-ok e1 in
    let b = field-ok e3 in
    let z : record { name = name; ty = ty } ≡ x = cc in
    let y : u ≡ q = cc in
    let er : r ≡ p + 2 = a.end in
    let eu : u ≡ r + 2 = b.end in
    (sym z ∙ made name ty r a.is b.is er, omega arith)))
  where
    made : (name ty r : ℕ) → name ≡ number_in s 2 p → ty ≡ number_in s 2 r → r ≡ p + 2 → ◌≡◌ {A = Param} (record { name = name; ty = ty }) (param_in s p)
    made name ty r ea eb er = rw (ea, eb, er) refl

param-fits : (names types : ℕ) (s : List ℕ) (xs : List Param) (p : ℕ) (x : Param) (q : ℕ) → param_at names types s xs p ≡ ok x q → q ≤ length s
unfolding param_at
param-fits names types s xs p x q e =
    bound e (λ name r e1 e2. bound e2 (λ ty u e3 e4.
    let b = field-ok e3 in
    let y : u ≡ q = cc in
    let eu : u ≡ r + 2 = b.end in
    let f = b.fits in
    omega arith))

-- the parameters stand behind their count
pub record EntryStands (s : List ℕ) (at : ℕ) (x : Entry) (next : ℕ) : Type 0 where
  pub receiver : x.receiver ≡ get_or s at 0
  pub this : 2 ≤ x.receiver → x.this ≡ two s (at + 1)
  pub params : x.params ≡ entries (param_in s) 4 (two s (at + 1 + this_width x.receiver)) (at + 3 + this_width x.receiver)
  pub few : two s (at + 1 + this_width x.receiver) ≤ 16
  pub end : next ≡ at + 3 + this_width x.receiver + 4 * two s (at + 1 + this_width x.receiver)
  pub inside : next ≤ length s

pub entry-stands : (names types : ℕ) (s : List ℕ) (at : ℕ) (x : Entry) (next : ℕ) → entry_at version1 names types s at ≡ ok x next → EntryStands s at x next
unfolding entry_at
entry-stands names types s at x next e =
    bound e (λ receiver p e1 e2. bound e2 (λ this q e3 e4. bound e4 (λ ps r e5 e6.
    let a = field-ok e1 in
    let b = field-ok e3 in
    let g = table-parts (param_at names types s) 7 0 17 s q e5 in
    let c = field-ok g.2 in
    let m = table-entries (param_at names types s) (param_in s) 4 (param_in_lem names types s) g.0 g.1 ps r g.4 in
    let h = table-all (param_at names types s) (λ y i j. j ≤ length s) (λ ys i j. i ≤ length s → j ≤ length s) (λ i le. le) (λ ys y i j k f z le. z)
    (param-fits names types s) [] g.0 g.1 g.1 ps r (λ le. le) g.4 in
    let z : record { receiver = receiver; this = this; params = ps } ≡ x = cc in
    let y : r ≡ next = cc in
    let ep : p ≡ at + 1 = a.end in
    let eq : q ≡ p + this_width receiver = b.end in
    let eg : g.1 ≡ q + 2 = c.end in
    let en : g.0 ≡ two s (at + 1 + this_width receiver) = c.is ∙ ap (two s) (omega arith) in
    let el : length ps ≡ two s (at + 1 + this_width receiver) = g.5 ∙ en in
    let fc = c.fits in
    let sc = c.small in
    subst₂ (EntryStands s at) z y (record {
      receiver = a.is;
      this = λ t. b.is ∙ wide receiver t p ∙ ap (two s) ep;
      params = m.0 ∙ ap (λ k. entries (param_in s) 4 k g.1) el ∙ ap (entries (param_in s) 4 (two s (at + 1 + this_width receiver))) (omega arith);
      few = subst (λ k. k ≤ 16) en (omega arith);
      end = let em : r ≡ g.1 + 4 * length ps = m.1 in rw em (rw el (omega arith));
      inside = h (omega arith);
    }))))
  where
    wide : (k : ℕ) → 2 ≤ k → (p : ℕ) → number_in s (this_width k) p ≡ two s p
    wide k t p = ap (λ (b : Bool). number_in s (cond b 0 2) p) (le-ltb k 2 t)

-- the locals of an entry without and with `this`
pub locals-without : (x : Entry) → x.receiver < 2 → locals_of x ≡ x.params
locals-without x h = ap (λ (b : Bool). cond b x.params (record { name = 0; ty = x.this } ∷ x.params)) (lt-ltb _ _ h)

pub locals-with : (x : Entry) → 2 ≤ x.receiver → locals_of x ≡ record { name = 0; ty = x.this } ∷ x.params
locals-with x h = ap (λ (b : Bool). cond b x.params (record { name = 0; ty = x.this } ∷ x.params)) (le-ltb x.receiver 2 h)

-- the entry at a position by its first byte: w is 0 or 2, how many bytes the type of `this` has
pub record Behind (s : List ℕ) (count first : ℕ) : Type 0 where
  pub few : two s count ≤ 16
  pub inside : first + 4 * two s count ≤ length s

width_of : (k w : ℕ) → ((k < 2) × (w ≡ 0)) ⊎ ((2 ≤ k) × (w ≡ 2)) → this_width k ≡ w
width_of k w h =
    ⊎_elim
    (λ (g : (k < 2) × (w ≡ 0)). ap (λ (b : Bool). cond b 0 2) (lt-ltb k 2 g.0) ∙ sym g.1)
    (λ (g : (2 ≤ k) × (w ≡ 2)). ap (λ (b : Bool). cond b 0 2) (le-ltb k 2 g.0) ∙ sym g.1) h

module _ (s : List ℕ) (at w count first : ℕ) (h : ((get_or s at 0 < 2) × (w ≡ 0)) ⊎ ((2 ≤ get_or s at 0) × (w ≡ 2))) (ec : count ≡ at + 1 + w) (ef : first ≡ at + 3 + w) where
  widths : (x : Entry) → x.receiver ≡ get_or s at 0 → this_width x.receiver ≡ w
  widths x e = ap this_width e ∙ width_of (get_or s at 0) w h

  pub entry-behind : EntryThere s at → Behind s count first
  entry-behind t =
      let g = entry-stands t.names t.types s at t.x t.next t.read in
      let e = widths t.x g.receiver in
      let n : at + 1 + this_width t.x.receiver ≡ count = ap (λ k. at + 1 + k) e ∙ sym ec in
      let f : two s (at + 1 + this_width t.x.receiver) ≤ 16 = g.few in
      let z : t.next ≡ at + 3 + this_width t.x.receiver + 4 * two s (at + 1 + this_width t.x.receiver) = g.end in
      let y : t.next ≡ first + 4 * two s count = z ∙ ap (λ k. at + 3 + k + 4 * two s (at + 1 + this_width t.x.receiver)) e ∙ ap (λ k. at + 3 + w + 4 * two s k) n ∙ ap (λ k. k + 4 * two s count) (sym ef) in
      record { few = subst (λ k. two s k ≤ 16) n f; inside = subst (λ k. k ≤ length s) y g.inside }

  pub entry-params : (names types : ℕ) (x : Entry) (next : ℕ) → entry_at version1 names types s at ≡ ok x next → x.params ≡ entries (param_in s) 4 (two s count) first
  entry-params names types x next r =
      let g = entry-stands names types s at x next r in
      let e = widths x g.receiver in
      g.params ∙ ap (λ k. entries (param_in s) 4 (two s (at + 1 + k)) (at + 3 + k)) e
      ∙ ap (λ k. entries (param_in s) 4 (two s k) (at + 3 + w)) (sym ec) ∙ ap (entries (param_in s) 4 (two s count)) (sym ef)

-- the locals of an entry without and with `this`, as they stand there
pub locals_are : (s : List ℕ) (at : ℕ) → get_or s at 0 < 2 → (names types : ℕ) (x : Entry) (next : ℕ) → entry_at version1 names types s at ≡ ok x next
    → locals_of x ≡ params_in s (two s (at + 1)) (at + 3)
locals_are s at h names types x next g =
    locals-without x (subst (λ k. k < 2) (sym (entry-stands names types s at x next g).receiver) h)
    ∙ entry-params s at 0 (at + 1) (at + 3) (inl (h, refl)) (omega arith) (omega arith) names types x next g

pub this-and-locals : (s : List ℕ) (at : ℕ) → 2 ≤ get_or s at 0 → (names types : ℕ) (x : Entry) (next : ℕ) → entry_at version1 names types s at ≡ ok x next
    → locals_of x ≡ record { name = 0; ty = two s (at + 1) } ∷ params_in s (two s (at + 3)) (at + 5)
this-and-locals s at h names types x next g =
    let z = entry-stands names types s at x next g in
    let k : 2 ≤ x.receiver = subst (λ k. 2 ≤ k) (sym z.receiver) h in
    locals-with x k ∙ ap (λ (n : ℕ). record { name = 0; ty = n } ∷ x.params) (z.this k)
    ∙ ap (λ (ps : List Param). record { name = 0; ty = two s (at + 1) } ∷ ps) (entry-params s at 2 (at + 3) (at + 5) (inr (h, refl)) (omega arith) (omega arith) names types x next g)

pub params-behind : (s : List ℕ) (at k : ℕ) → k ≡ get_or s at 0 → k < 2 → EntryThere s at → Behind s (at + 1) (at + 3)
params-behind s at k e h = entry-behind s at 0 (at + 1) (at + 3) (inl (subst (λ n. n < 2) e h, refl)) (omega arith) (omega arith)

pub this-behind : (s : List ℕ) (at k : ℕ) → k ≡ get_or s at 0 → 2 ≤ k → EntryThere s at → Behind s (at + 3) (at + 5)
this-behind s at k e h = entry-behind s at 2 (at + 3) (at + 5) (inr (subst (λ n. 2 ≤ n) e h, refl)) (omega arith) (omega arith)
