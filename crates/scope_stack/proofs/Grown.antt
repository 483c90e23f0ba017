-- Laws of a registration.
-- Assumes nothing.
use Rattle.std.proofs.Common.{◌≡◌, ℕ, suc, ◌+◌, ◌*◌, ◌^◌, ◌<◌, ◌≤◌, Bool, true, false, ◌≢◌, get_or, set, sym, refl, ap, ◌∙◌, pow-suc, arith, length-set, get_or-set_other, get_or-set_same, pow_mono}
use Rattle.tables.specs.Tables.{Tables}
use Rattle.rules.specs.Questions.{auto}
use Rattle.rules.specs.Stack.{Static}
use Rattle.rules.specs.Rules.{declared}
use Rattle.scope_stack.specs.declared.Locals.{Locals}
use Rattle.scope_stack.specs.Word.{word_of}
use Rattle.scope_stack.specs.View.{static_at, Kept, Drops, dtor_at, Grows}
use Rattle.scope_stack.proofs.Words.{word_same, word_more, word-skip}

double : (n : ℕ) → 2 ^ (n + 1) ≡ 2 ^ n * 2
double n =
    let s : n + 1 ≡ suc n = omega arith in
    ap (λ (k : ℕ). 2 ^ k) s ∙ pow-suc 2 n

-- one local more, with another word of destructors
abbrev pub grown : Locals → ℕ → ℕ → ℕ → ℕ → ℕ → Locals
grown l name ty depth born w = record {
  count = l.count + 1;
  names = set l.names l.count name;
  types = set l.types l.count ty;
  depths = set l.depths l.count depth;
  births = set l.births l.count born;
  dtors = w;
}

-- a bit past the others fits
pub bit-fits : (n w : ℕ) → n < 64 → w < 2 ^ n → w + 2 ^ n < 2 ^ 64
bit-fits n w l h =
    let up : 2 ^ (n + 1) ≤ 2 ^ 64 = pow_mono {i = n + 1} {j = 64} (omega arith) in
    omega (arith, double n)

module _ (l : Locals) (name ty depth born : ℕ) (h : Kept l) (s : l.count < 64) where
  module _ (w : ℕ) where
    new-at : static_at (grown l name ty depth born w) l.count ≡ declared depth born name ty
    new-at =
        let a : get_or (set l.names l.count name) l.count 0 ≡ name = get_or-set_same l.names l.count name 0 (omega (arith, h.name_room)) in
        let b : get_or (set l.types l.count ty) l.count 0 ≡ ty = get_or-set_same l.types l.count ty 0 (omega (arith, h.type_room)) in
        let c : get_or (set l.depths l.count depth) l.count 0 ≡ depth = get_or-set_same l.depths l.count depth 0 (omega (arith, h.depth_room)) in
        let e : get_or (set l.births l.count born) l.count 0 ≡ born = get_or-set_same l.births l.count born 0 (omega (arith, h.birth_room)) in
        rw (a, b, c, e)

    older-at : (i : ℕ) → i < l.count → static_at (grown l name ty depth born w) i ≡ static_at l i
    older-at i li =
        let ne : i ≢ l.count = λ e. omega arith in
        let a : get_or (set l.names l.count name) i 0 ≡ get_or l.names i 0 = get_or-set_other l.names l.count i name 0 ne in
        let b : get_or (set l.types l.count ty) i 0 ≡ get_or l.types i 0 = get_or-set_other l.types l.count i ty 0 ne in
        let c : get_or (set l.depths l.count depth) i 0 ≡ get_or l.depths i 0 = get_or-set_other l.depths l.count i depth 0 ne in
        let e : get_or (set l.births l.count born) i 0 ≡ get_or l.births i 0 = get_or-set_other l.births l.count i born 0 ne in
        rw (a, b, c, e)

    older-dtor : (T : Tables) → word_of l.count (dtor_at T (grown l name ty depth born w)) ≡ word_of l.count (dtor_at T l)
    older-dtor T = word_same l.count (dtor_at T (grown l name ty depth born w)) (dtor_at T l) (λ k lk. ap (λ (x : Static). auto T x.ty) (older-at k lk))

    all : (dtor : Bool) → w < 2 ^ (l.count + 1) → ((T : Tables) → dtor ≡ auto T ty → Drops T l → Drops T (grown l name ty depth born w))
        → Grows l (declared depth born name ty) dtor (grown l name ty depth born w)
    all dtor fits d = record {
      kept = record {
        small = omega arith;
        name_room = length-set l.names l.count name ∙ h.name_room;
        type_room = length-set l.types l.count ty ∙ h.type_room;
        depth_room = length-set l.depths l.count depth ∙ h.depth_room;
        birth_room = length-set l.births l.count born ∙ h.birth_room;
        dtor_room = fits;
      };
      count = refl;
      new = new-at;
      older = older-at;
      drops = d;
    }

  pub grows-on : Grows l (declared depth born name ty) true (grown l name ty depth born (l.dtors + 2 ^ l.count))
  grows-on = all (l.dtors + 2 ^ l.count) true (omega (arith, double l.count, h.dtor_room)) (λ T e d.
      let r = grown l name ty depth born (l.dtors + 2 ^ l.count) in
      let on : dtor_at T r l.count ≡ true = ap (λ (x : Static). auto T x.ty) (new-at (l.dtors + 2 ^ l.count)) ∙ sym e in
      ap (λ (x : ℕ). x + 2 ^ l.count) (d ∙ sym (older-dtor (l.dtors + 2 ^ l.count) T)) ∙ sym (word_more l.count (dtor_at T r) on))

  pub grows-off : Grows l (declared depth born name ty) false (grown l name ty depth born l.dtors)
  grows-off = all l.dtors false (omega (arith, double l.count, h.dtor_room)) (λ T e d.
      let r = grown l name ty depth born l.dtors in
      let off : dtor_at T r l.count ≡ false = ap (λ (x : Static). auto T x.ty) (new-at l.dtors) ∙ sym e in
      d ∙ sym (older-dtor l.dtors T) ∙ sym (word-skip l.count (dtor_at T r) off))
