-- The insertions struck out of what the pass decides give the submitted body again.
-- Assumes nothing.
use Rattle.std.proofs.Common.{◌≡◌, ℕ, suc, Bool, true, false, List, [], refl, ap, ◌∙◌, ap₂}
use mathlib.Core.Option.{Option, none, some}
use Rattle.tables.specs.Signature.{Entry}
use Rattle.tables.specs.Tables.{Tables}
use Rattle.image_fields.specs.Bytes.{Bytes}
use Rattle.tables.specs.Limits.{Limits}
use Rattle.image.specs.Image.{Image, accepted, decode, encode}
use Rattle.image.proofs.RoundTrip.{image-written}
use Rattle.image_body.specs.Expr.{Expr}
use Rattle.image_body.specs.Stmt.{Tree, Block, done, expr_stmt, variable, assign, return, bare_return, block, if_else, if_then, while, jump}
use Rattle.rules.specs.Stack.{Stack}
use Rattle.rules.specs.Rules.{Alg, states, locals_of, decide, entered, decide_body, Switches, Policy, concerns}
use Rattle.rules.specs.Report.{strike, with_code, decided_image}

pub if-else : (s : ℕ) (e : Expr) (ts us : ℕ) {t t' u u' r r' : Tree} → t ≡ t' → u ≡ u' → r ≡ r' → ◌≡◌ {A = Tree} (if_else s e ts t us u r) (if_else s e ts t' us u' r')
if-else s e ts us p q o = λ i. if_else s e ts (p i) us (q i) (o i)

module _ {A : Type 0} (𝓐 : Alg A) (T : Tables) (𝓟 : Policy) where
  -- the decisions struck out are the submitted statements
  pub strike-decide : (c : Tree) (p d : ℕ) (l : Option ℕ) (f : Bool) (σ : Stack A) → strike (decide 𝓐 T 𝓟 c p d l f σ) ≡ c
  strike-decide (done tt) p d l f σ = refl
  strike-decide (expr_stmt s e tt r) p d l f σ = ap (λ (z : Tree). expr_stmt s e tt z) (strike-decide r p d l false _)
  strike-decide (variable k s n t e r) p d l f σ = ap (λ (z : Tree). variable k s n t e z) (strike-decide r p d l false _)
  strike-decide (assign s e v t tt r) p d l f σ = ap (λ (z : Tree). assign s e v t tt z) (strike-decide r p d l false _)
  strike-decide (return s e t tt r) p d l f σ = ap (λ (z : Tree). return s e t tt z) (strike-decide r p d l true _)
  strike-decide (bare_return s t tt r) p d l f σ = ap (λ (z : Tree). bare_return s t tt z) (strike-decide r p d l true _)
  strike-decide (block s c r) p d l f σ = ap₂ (λ (y z : Tree). block s y z) (strike-decide c s (suc d) l false _) (strike-decide r p d l _ _)
  strike-decide (if_else s e ts t us u r) p d l f σ = if-else s e ts us (strike-decide t ts (suc d) l false _) (strike-decide u us (suc d) l false _) (strike-decide r p d l _ _)
  strike-decide (if_then s e ts t r) p d l f σ = ap₂ (λ (y z : Tree). if_then s e ts y z) (strike-decide t ts (suc d) l false _) (strike-decide r p d l false _)
  strike-decide (while s e ts t r) p d l f σ = ap₂ (λ (y z : Tree). while s e ts y z) (strike-decide t ts (suc d) (some (suc d)) false _) (strike-decide r p d l false _)
  strike-decide (jump k s tt r) p d l f σ = ap (λ (z : Tree). jump k s tt z) (strike-decide r p d l false _)

-- Demand 3, third sentence, on trees: under every setting, for every body, plain or not
pub strike-body : (w : Switches) (T : Tables) (x : Entry) (b : Block) → strike (decide_body w T x b) ≡ b.code
strike-body w T x b = strike-decide (states w) T (concerns w) b.code b.span 1 none false (entered (states w) T (locals_of x) [])

-- the image with the insertions struck out of the one that the pass gives back
abbrev pub struck_image : Switches → Image → Image
struck_image w i = with_code i (strike (decided_image w i))

-- and on bytes: with the insertions out, and so the counts and the length lowered, it is the image again
pub strike-bytes : (L : Limits) (w : Switches) (s : List ℕ) → Bytes s → (i : Image) → decode L s ≡ accepted i → encode L (struck_image w i) ≡ s
strike-bytes L w s g i e = ap (λ (c : Tree). encode L (with_code i c)) (strike-body w i.tables i.entry i.body) ∙ image-written L s g i e
