-- Where the front of a statement ends, whatever the mark says.
-- Assumes nothing.
use Prim.Native.Nat.{ℕ, ◌+◌, ◌<◌}
use mathlib.Core.Option.{Option}
use mathlib.Core.Path.{◌≡◌, sym, ap, ◌∙◌}
use mathlib.Core.List.{List, []}
use lib.ListN.{get_or}
use Rattle.image_fields.specs.Bytes.{Bytes}
use Rattle.tables.specs.Tables.{Tables}
use Rattle.image_body.specs.Stmt.{Tree}
use Rattle.rules.specs.State.{State as Status}
use Rattle.rules.specs.Rules.{Switches}
use Rattle.rules.specs.Stack.{Stack as Scope}
use Rattle.statements_acts.specs.declared.Place.{Place}
use Rattle.statements_acts.specs.declared.Act.{Act}
use Rattle.statements_acts.specs.Act.{FrontThere, ActsThere}
use Rattle.statements_acts.proofs.Fronts.{front-assign, front-return, front-bare, front-jump}
use Rattle.statements_steps.specs.Statement.{front_size}
use Rattle.statements_acts.specs.Marks.{EndsThere}

abbrev bare : Tables
bare = record { names = []; types = []; structs = []; globals = [] }

pub acts-ends : {w : Switches} {T : Tables} {s : List ℕ} {loop : Option ℕ} {σ : Scope Status} {p : Place} {out warns left : List ℕ} {a : Act} {out' warns' left' : List ℕ}
    → ActsThere w T s loop σ p out warns left a out' warns' left' → EndsThere s p.at a.place.at
acts-ends h = record { is = λ f t x next r deep read. (h.acts f t x next r deep read).at }

module _ (s : List ℕ) (small : Bytes s) (p : Place) (end : ℕ) (g : FrontThere s p.at end) where
  pub assign-ends : get_or s p.at 0 ≡ 6 → (q : Place) → q.at ≡ end + 2 → EndsThere s p.at q.at
  assign-ends k q w = record {
    is = λ f t x next r deep read.
        let v = front-assign bare s small p.at end g f t x next read k r in
        w ∙ v.front.size ∙ ap (λ (c : Tree). p.at + front_size c) (sym v.is);
  }

  pub return-ends : get_or s p.at 0 ≡ 2 → get_or s (p.at + 5) 0 ≡ 1 → (q : Place) → q.at ≡ end + 2 → EndsThere s p.at q.at
  return-ends k o q w = record {
    is = λ f t x next r deep read.
        let v = front-return bare s small p.at end g f t x next read k o r in
        w ∙ v.front.size ∙ ap (λ (c : Tree). p.at + front_size c) (sym v.is);
  }

pub bare_ends : (s : List ℕ) (small : Bytes s) (p : Place) → get_or s p.at 0 ≡ 2 → get_or s (p.at + 5) 0 ≡ 0 → (q : Place) → q.at ≡ p.at + 8 → EndsThere s p.at q.at
bare_ends s small p k o q w = record {
  is = λ f t x next r deep read.
      let v = front-bare bare s small p.at f t x next read k o r in
      w ∙ v.1.size ∙ ap (λ (c : Tree). p.at + front_size c) (sym v.0);
}

pub jump-ends : (s : List ℕ) (small : Bytes s) (p : Place) → 8 < get_or s p.at 0 → (q : Place) → q.at ≡ p.at + 5 → EndsThere s p.at q.at
jump-ends s small p k q w = record {
  is = λ f t x next r deep read.
      let v = front-jump bare s small p.at f t x next read k r in
      w ∙ v.2.size ∙ ap (λ (c : Tree). p.at + front_size c) (sym v.1);
}
