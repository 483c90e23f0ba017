-- Laws of copies of rows.
-- Assumes nothing.
use Prim.Native.Nat.{ℕ, ◌+◌, ◌-◌, ◌≤◌, ◌<◌}
use mathlib.Core.Path.{◌≡◌, sym, ap, ◌∙◌, subst}
use mathlib.Core.Bool.{true, false}
use mathlib.Core.List.{List}
use mathlib.Core.Logic.{inl, inr, ⊎_elim}
use native.Mathlib.Omega.{arith}
use lib.ListN.{length, get_or}
use Rattle.image_fields.proofs.Tests.{less, false-true}
use Rattle.scope_state.specs.Kinds.{said}
use Rattle.scope_stack.specs.declared.Entry.{Entry}
use Rattle.scope_stack.specs.View.{row_of, row_at, said_at, Known}
use Rattle.scope_rows.specs.Rows.{Else, Wrote, Copied, Copies}
use Rattle.scope_stack.proofs.Marked.{said-one, said_row, known-one}
use Rattle.scope_rows.proofs.Rowing.{row-length, nine-up, known_same, said_same, else-none, else-wider, row_before, row_next}

abbrev with' : ℕ → ℕ → Entry
with' k f = record { kind = k; first = f }

-- the rows of the first i locals are copied
pub record Copying (width : ℕ) (kinds rows : List ℕ) (src dst i : ℕ) (new : List ℕ) : Type 0 where
  pub else : Else dst (row_of dst width i) rows new
  pub is : (k : ℕ) → k < i → (f : ℕ) → said_at new (row_of dst width k) (with' (get_or kinds k 0) f) ≡ said_at rows (row_of src width k) (with' (get_or kinds k 0) f)
  pub known : (k : ℕ) → k < i → Known new width (row_of dst width k) (get_or kinds k 0)

pub copying-none : (width : ℕ) (kinds rows : List ℕ) (src dst : ℕ) → Copying width kinds rows src dst 0 rows
copying-none width kinds rows src dst = record { else = else-none dst (row_of dst width 0) rows; is = λ k l. absurd (omega arith); known = λ k l. absurd (omega arith) }

module _ (n width : ℕ) (kinds rows : List ℕ) (src dst : ℕ) (g : Copied n width kinds rows src dst) (i : ℕ) (new : List ℕ) (h : Copying width kinds rows src dst i new) where
  module _ (l : i < n) where
    same-src : (k : ℕ) → row_of src width i ≤ k → k ≤ row_of src width i + width → get_or new k 0 ≡ get_or rows k 0
    same-src k lo hi = h.else.same k (⊎_elim (λ (q : row_of src width n ≤ dst). inl (omega (arith, row_before src width i n l))) (λ (q : row_of dst width n ≤ src). inr (omega (arith, row_before dst width i n l))) g.apart)

    pub known-src : Known new width (row_of src width i) (get_or kinds i 0)
    known-src = known_same rows new width (row_of src width i) h.else.room same-src (get_or kinds i 0) (g.known i l)

    else-more : (new' : List ℕ) → Else (row_of dst width i) (row_of dst width i + (width + 1)) new new' → Else dst (row_of dst width (i + 1)) rows new'
    else-more new' e = record {
      room = e.room ∙ h.else.room;
      same = λ k o. ⊎_elim
          (λ (q : k < dst). e.same k (inl (omega arith)) ∙ h.else.same k (inl q))
          (λ (q : row_of dst width (i + 1) ≤ k). e.same k (inr (omega (arith, row_next dst width i))) ∙ h.else.same k (inr (omega (arith, row_next dst width i))))
          o;
    }

    pub copying-skip : (new' : List ℕ) → new' ≡ new → get_or kinds i 0 < 8 → Copying width kinds rows src dst (i + 1) new'
    copying-skip new' er small =
        let s : get_or kinds i 0 < 7 = (g.known i l).single (omega arith) in
        subst (λ (x : List ℕ). Copying width kinds rows src dst (i + 1) x) (sym er) (record {
          else = else-more new (else-none _ _ new);
          is = λ k lk f. ⊎_elim
              (λ (q : k < i). h.is k q f)
              (λ (q : i ≤ k). let z : k ≡ i = omega arith in
              subst (λ (x : ℕ). said_at new (row_of dst width x) (with' (get_or kinds x 0) f) ≡ said_at rows (row_of src width x) (with' (get_or kinds x 0) f)) (sym z)
              (said-one new (row_of dst width i) (get_or kinds i 0) f s ∙ sym (said-one rows (row_of src width i) (get_or kinds i 0) f s)))
              (less k i);
          known = λ k lk. ⊎_elim
              (λ (q : k < i). h.known k q)
              (λ (q : i ≤ k). let z : k ≡ i = omega arith in
              subst (λ (x : ℕ). Known new width (row_of dst width x) (get_or kinds x 0)) (sym z) (known-one new width (row_of dst width i) (get_or kinds i 0) s))
              (less k i);
        })

    pub copying-put : (ps new' new'' : List ℕ) → new'' ≡ new' → 8 ≤ get_or kinds i 0 → ps ≡ row_at new (row_of src width i)
        → Wrote new (row_of dst width i) ps new' → row_of dst width i + width < length new
        → Copying width kinds rows src dst (i + 1) new''
    copying-put ps new' new'' er big lp w room =
        let nine : 9 ≤ get_or kinds i 0 = nine-up new width (row_of src width i) (get_or kinds i 0) known-src big in
        let row = known-src.row nine in
        let all : length ps ≡ get_or new (row_of src width i) 0 = ap length lp ∙ row-length new width (row_of src width i) row in
        let older : (j : ℕ) → j < i → (k : ℕ) → row_of dst width j ≤ k → k ≤ row_of dst width j + width → get_or new' k 0 ≡ get_or new k 0 =
        λ j lj k lo hi. w.rest.same k (inl (omega (arith, row_before dst width j i lj))) in
        let is-here : (f : ℕ) → said_at new' (row_of dst width i) (with' (get_or kinds i 0) f) ≡ said_at rows (row_of src width i) (with' (get_or kinds i 0) f) =
        λ f. said_row new' (row_of dst width i) (get_or kinds i 0) f big ∙ ap (said (get_or kinds i 0 - 8)) (w.is ∙ lp) ∙ sym (said_row new (row_of src width i) (get_or kinds i 0) f big)
        ∙ said_same rows new width (row_of src width i) h.else.room same-src (with' (get_or kinds i 0) f) (g.known i l) in
        let known-here : Known new' width (row_of dst width i) (get_or kinds i 0) = record {
          kind = known-src.kind;
          single = known-src.single;
          row = λ z. record { few = omega (arith, w.count, all, row.few); most = omega (arith, w.count, all, row.most); room = omega (arith, w.rest.room) };
        } in
        subst (λ (x : List ℕ). Copying width kinds rows src dst (i + 1) x) (sym er) (record {
          else = else-more new' (else-wider (row_of dst width i) (row_of dst width i + (length ps + 1)) (row_of dst width i + (width + 1)) new new' (omega (arith, all, row.most)) w.rest);
          is = λ k lk f. ⊎_elim
              (λ (q : k < i). said_same new new' width (row_of dst width k) w.rest.room (older k q) (with' (get_or kinds k 0) f) (h.known k q) ∙ h.is k q f)
              (λ (q : i ≤ k). let z : k ≡ i = omega arith in
              subst (λ (x : ℕ). said_at new' (row_of dst width x) (with' (get_or kinds x 0) f) ≡ said_at rows (row_of src width x) (with' (get_or kinds x 0) f)) (sym z) (is-here f))
              (less k i);
          known = λ k lk. ⊎_elim
              (λ (q : k < i). known_same new new' width (row_of dst width k) w.rest.room (older k q) (get_or kinds k 0) (h.known k q))
              (λ (q : i ≤ k). let z : k ≡ i = omega arith in subst (λ (x : ℕ). Known new' width (row_of dst width x) (get_or kinds x 0)) (sym z) known-here)
              (less k i);
        })

    pub copying-short : 8 ≤ get_or kinds i 0 → length new ≤ row_of dst width i + width → Copies n width kinds rows src dst false new
    copying-short big s = record {
      rest = record {
        room = h.else.room;
        same = λ k o. ⊎_elim (λ (q : k < dst). h.else.same k (inl q)) (λ (q : row_of dst width n ≤ k). h.else.same k (inr (omega (arith, row_before dst width i n l)))) o;
      };
      is = λ e. false-true e;
      known = λ e. false-true e;
      short = λ e. omega (arith, h.else.room, row_before dst width i n l);
      why = λ e. (i, l, nine-up new width (row_of src width i) (get_or kinds i 0) known-src big, omega (arith, h.else.room));
    }

  pub copying-all : i ≡ n → Copies n width kinds rows src dst true new
  copying-all end = record {
    rest = subst (λ (x : ℕ). Else dst (row_of dst width x) rows new) end h.else;
    is = λ e k l f. h.is k (omega arith) f;
    known = λ e k l. h.known k (omega arith);
    short = λ e. false-true (sym e);
    why = λ e. false-true (sym e);
  }
