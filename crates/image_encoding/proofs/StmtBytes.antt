-- The bytes of a statement by the tables of its layout: what encode_code writes before the rest of the list.
-- Assumes nothing.
use mathlib.Core.Path.{◌≡◌, refl, sym, ap, ◌∙◌}
use mathlib.Core.List.{List, [], ◌∷◌, ◌++◌, append_assoc, append-nil}
use mathlib.Core.Bool.{false, cond, ◌&&◌}
use Prim.Native.Nat.{ℕ, zero, suc, ◌+◌, ◌≤◌, ◌<◌}
use native.Mathlib.Omega.{arith}
use lib.ListN.{length, get_or}
use lib.Dec.{eqb}
use Rattle.image_fields.specs.Bytes.{two_bytes, four_bytes, number_bytes, each_bytes}
use Rattle.image_body.specs.Expr.{Exprs, none, more}
use Rattle.image_body.specs.Stmt.{Tree, Block, StmtHead, head_bytes, value_flag, value_count, type_width, block_count, else_flag, first_value, second_value, first_block, before_of}
use Rattle.image_body.specs.Stands.{count}
use Rattle.image_encoding.proofs.Parts.{at_most}
use Rattle.image_encoding.specs.Body.{encode_expr, encode_exprs, encode_code, encode_block, size}

-- a head in so many bytes of a tag
unfoldable pub head_part : ℕ → StmtHead → List ℕ
head_part tag h =
    tag ∷ (cond (eqb tag 1) [] (four_bytes h.span) ++ cond (eqb (get_or head_bytes tag 0) 9) (two_bytes h.name ++ two_bytes h.ty) [])

-- head, flag, values, type, blocks, flag and the block after it
unfoldable pub stmt_bytes : ℕ → StmtHead → Exprs → ℕ → ℕ → List Block → List Block → List ℕ
stmt_bytes tag h es n l bs cs =
    head_part tag h ++ (number_bytes (get_or value_flag tag 0) n ++ (encode_exprs es ++ (number_bytes (get_or type_width tag 0) l
    ++ (each_bytes encode_block bs ++ (number_bytes (get_or else_flag tag 0) (length cs) ++ each_bytes encode_block cs)))))

-- as many values and blocks as the tag and the flags say
pub record Shape (tag : ℕ) (es : Exprs) (n : ℕ) (bs cs : List Block) : Type 0 where
  pub low : 0 < tag
  pub high : tag < 11
  pub values : count es ≡ get_or value_count tag 0 + n
  pub flag : n < 1 + get_or value_flag tag 0
  pub blocks : length bs ≡ get_or block_count tag 0
  pub others : length cs < 1 + get_or else_flag tag 0

-- widths of the layout
pub value-flag : (k : ℕ) → k < 11 → get_or value_flag k 0 ≤ 1
unfolding value_flag
value-flag k lt = at_most 1 value_flag tt k lt

pub else-flag : (k : ℕ) → k < 11 → get_or else_flag k 0 ≤ 1
unfolding else_flag
else-flag k lt = at_most 1 else_flag tt k lt

pub type-width : (k : ℕ) → k < 11 → get_or type_width k 0 ≤ 2
unfolding type_width
type-width k lt = at_most 2 type_width tt k lt

-- what holds at the tags 1 to 10 holds at every tag
pub tags : (P : ℕ → Type 0) → P 1 → P 2 → P 3 → P 4 → P 5 → P 6 → P 7 → P 8 → P 9 → P 10 → (k : ℕ) → 0 < k → k < 11 → P k
tags P a b c d e f g h i j zero low high = absurd (omega arith)
tags P a b c d e f g h i j (suc zero) low high = a
tags P a b c d e f g h i j (suc (suc zero)) low high = b
tags P a b c d e f g h i j (suc (suc (suc zero))) low high = c
tags P a b c d e f g h i j (suc (suc (suc (suc zero)))) low high = d
tags P a b c d e f g h i j (suc (suc (suc (suc (suc zero))))) low high = e
tags P a b c d e f g h i j (suc (suc (suc (suc (suc (suc zero)))))) low high = f
tags P a b c d e f g h i j (suc (suc (suc (suc (suc (suc (suc zero))))))) low high = g
tags P a b c d e f g h i j (suc (suc (suc (suc (suc (suc (suc (suc zero)))))))) low high = h
tags P a b c d e f g h i j (suc (suc (suc (suc (suc (suc (suc (suc (suc zero))))))))) low high = i
tags P a b c d e f g h i j (suc (suc (suc (suc (suc (suc (suc (suc (suc (suc zero)))))))))) low high = j
tags P a b c d e f g h i j (suc (suc (suc (suc (suc (suc (suc (suc (suc (suc (suc k))))))))))) low high = absurd (omega arith)

-- the head's bytes: the tag, the span except of a Block, the name and type of a Let or Const
pub head-width : (k : ℕ) → 0 < k → k < 11
    → (get_or head_bytes k 0 ≡ 1 + (cond (eqb k 1) 0 4 + cond (eqb (get_or head_bytes k 0) 9) 4 0)) × ((eqb k 1 && eqb (get_or head_bytes k 0) 9) ≡ false)
unfolding head_bytes
head-width =
    tags (λ k. (get_or head_bytes k 0 ≡ 1 + (cond (eqb k 1) 0 4 + cond (eqb (get_or head_bytes k 0) 9) 4 0)) × ((eqb k 1 && eqb (get_or head_bytes k 0) 9) ≡ false))
    (refl, refl) (refl, refl) (refl, refl) (refl, refl) (refl, refl) (refl, refl) (refl, refl) (refl, refl) (refl, refl) (refl, refl)

-- values and blocks by their number
no-expr : (es : Exprs) → count es ≡ 0 → encode_exprs es ≡ []
unfolding encode_exprs
no-expr none e = refl
no-expr (more x es) e = absurd (omega arith)

one-expr : (es : Exprs) → count es ≡ 1 → encode_exprs es ≡ encode_expr (first_value es)
unfolding encode_exprs
one-expr none e = absurd (omega arith)
one-expr (more x es) e = rw (no-expr es (omega arith)) (append-nil (encode_expr x))

two-exprs : (es : Exprs) → count es ≡ 2 → encode_exprs es ≡ encode_expr (first_value es) ++ encode_expr (second_value es)
unfolding encode_exprs
two-exprs none e = absurd (omega arith)
two-exprs (more x es) e = ap (λ z. encode_expr x ++ z) (one-expr es (omega arith))

no_block : (bs : List Block) → length bs ≡ 0 → each_bytes encode_block bs ≡ []
unfolding each_bytes
no_block [] e = refl
no_block (b ∷ bs) e = absurd (omega arith)

one_block : (bs : List Block) → length bs ≡ 1 → each_bytes encode_block bs ≡ encode_block (first_block bs)
unfolding each_bytes
one_block [] e = absurd (omega arith)
one_block (b ∷ bs) e = rw (no_block bs (omega arith)) (append-nil (encode_block b))

-- the same bytes and what follows them, with nothing in brackets before it
unfoldable flat : ℕ → StmtHead → ℕ → List ℕ → ℕ → List ℕ → ℕ → List ℕ → List ℕ → List ℕ
flat tag h n values l blocks m others rest =
    tag ∷ (cond (eqb tag 1) [] (four_bytes h.span) ++ (cond (eqb (get_or head_bytes tag 0) 9) (two_bytes h.name ++ two_bytes h.ty) []
    ++ (number_bytes (get_or value_flag tag 0) n ++ (values ++ (number_bytes (get_or type_width tag 0) l
    ++ (blocks ++ (number_bytes (get_or else_flag tag 0) m ++ (others ++ rest))))))))

regroup : (x : ℕ) (a b c d e f g h i : List ℕ)
    → (x ∷ (a ++ b) ++ (c ++ (d ++ (e ++ (f ++ (g ++ h)))))) ++ i ≡ x ∷ (a ++ (b ++ (c ++ (d ++ (e ++ (f ++ (g ++ (h ++ i))))))))
regroup x a b c d e f g h i = simp append_assoc

same : (f : ℕ → List ℕ → List ℕ → ℕ → List ℕ → List ℕ) {n k m i : ℕ} {a b d e x y : List ℕ} → n ≡ k → a ≡ b → d ≡ e → m ≡ i → x ≡ y
    → f k b e i y ≡ f n a d m x
same f p q r u v = cc

-- what encode_code writes for a statement before the rest
module _ (h : StmtHead) (es : Exprs) (n l : ℕ) (bs cs : List Block) (c : Tree) where
  flattened : (tag : ℕ) {values blocks others : List ℕ} {k m : ℕ} → n ≡ k → encode_exprs es ≡ values → each_bytes encode_block bs ≡ blocks → length cs ≡ m
      → each_bytes encode_block cs ≡ others → flat tag h k values l blocks m others (encode_code c) ≡ stmt_bytes tag h es n l bs cs ++ encode_code c
  unfolding flat stmt_bytes head_part
  flattened tag en ev eb em eo =
      same (λ a b d e f. flat tag h a b l d e f (encode_code c)) en ev eb em eo ∙ sym (regroup tag (cond (eqb tag 1) [] (four_bytes h.span))
      (cond (eqb (get_or head_bytes tag 0) 9) (two_bytes h.name ++ two_bytes h.ty) []) (number_bytes (get_or value_flag tag 0) n) (encode_exprs es)
      (number_bytes (get_or type_width tag 0) l) (each_bytes encode_block bs) (number_bytes (get_or else_flag tag 0) (length cs)) (each_bytes encode_block cs) (encode_code c))

  Encodes : ℕ → Type 0
  Encodes tag = Shape tag es n bs cs
      → (encode_code (before_of tag h es l bs cs c) ≡ stmt_bytes tag h es n l bs cs ++ encode_code c) × (size (before_of tag h es l bs cs c) ≡ suc (size c))

  encodes-block : Encodes 1
  unfolding Encodes flat before_of encode_code size encode_block head_bytes value_flag value_count type_width block_count else_flag number_bytes
  encodes-block g =
      let a = g.values in let b = g.flag in let k = g.blocks in let o = g.others in
      (flattened 1 refl (no-expr es (omega arith)) (one_block bs (omega arith)) refl (no_block cs (omega arith)), refl)

  encodes-expr : Encodes 3
  unfolding Encodes flat before_of encode_code size encode_block head_bytes value_flag value_count type_width block_count else_flag number_bytes
  encodes-expr g =
      let a = g.values in let b = g.flag in let k = g.blocks in let o = g.others in
      (flattened 3 refl (one-expr es (omega arith)) (no_block bs (omega arith)) refl (no_block cs (omega arith)), refl)

  encodes-let : Encodes 4
  unfolding two_bytes Encodes flat before_of encode_code size encode_block head_bytes value_flag value_count type_width block_count else_flag number_bytes
  encodes-let g =
      let a = g.values in let b = g.flag in let k = g.blocks in let o = g.others in
      (flattened 4 refl (one-expr es (omega arith)) (no_block bs (omega arith)) refl (no_block cs (omega arith)), refl)

  encodes-const : Encodes 5
  unfolding two_bytes Encodes flat before_of encode_code size encode_block head_bytes value_flag value_count type_width block_count else_flag number_bytes
  encodes-const g =
      let a = g.values in let b = g.flag in let k = g.blocks in let o = g.others in
      (flattened 5 refl (one-expr es (omega arith)) (no_block bs (omega arith)) refl (no_block cs (omega arith)), refl)

  encodes-assign : Encodes 6
  unfolding Encodes flat before_of encode_code size encode_block head_bytes value_flag value_count type_width block_count else_flag number_bytes
  encodes-assign g =
      let a = g.values in let b = g.flag in let k = g.blocks in let o = g.others in
      (ap (λ z. 6 ∷ (four_bytes h.span ++ z)) (sym (append_assoc (encode_expr (first_value es)) (encode_expr (second_value es)) _)) ∙ flattened 6 refl (two-exprs es (omega arith)) (no_block bs (omega arith)) refl (no_block cs (omega arith)), refl)

  encodes-while : Encodes 8
  unfolding Encodes flat before_of encode_code size encode_block head_bytes value_flag value_count type_width block_count else_flag number_bytes
  encodes-while g =
      let a = g.values in let b = g.flag in let k = g.blocks in let o = g.others in
      (flattened 8 refl (one-expr es (omega arith)) (one_block bs (omega arith)) refl (no_block cs (omega arith)), refl)

  encodes-break : Encodes 9
  unfolding Encodes flat before_of encode_code size encode_block head_bytes value_flag value_count type_width block_count else_flag number_bytes
  encodes-break g =
      let a = g.values in let b = g.flag in let k = g.blocks in let o = g.others in
      (flattened 9 refl (no-expr es (omega arith)) (no_block bs (omega arith)) refl (no_block cs (omega arith)), refl)

  encodes-continue : Encodes 10
  unfolding Encodes flat before_of encode_code size encode_block head_bytes value_flag value_count type_width block_count else_flag number_bytes
  encodes-continue g =
      let a = g.values in let b = g.flag in let k = g.blocks in let o = g.others in
      (flattened 10 refl (no-expr es (omega arith)) (no_block bs (omega arith)) refl (no_block cs (omega arith)), refl)

-- a Return with a value or without, and an IfElse with the second block or without
encodes-return : (h : StmtHead) (es : Exprs) (n l : ℕ) (bs cs : List Block) (c : Tree) → Encodes h es n l bs cs c 2
unfolding Encodes flat before_of encode_code size encode_block encode_exprs each_bytes head_bytes value_flag value_count type_width block_count else_flag number_bytes
encodes-return h none n l bs cs c g =
    let a : 0 ≡ 0 + n = g.values in let k = g.blocks in let o = g.others in
    (flattened h none n l bs cs c 2 {k = 0} (omega arith) refl (no_block bs (omega arith)) refl (no_block cs (omega arith)), refl)
encodes-return h (more e es) n l bs cs c g =
    let a : suc (count es) ≡ 0 + n = g.values in let b : n < 2 = g.flag in let k = g.blocks in let o = g.others in
    (flattened h (more e es) n l bs cs c 2 {k = 1} (omega arith) (one-expr (more e es) (omega arith)) (no_block bs (omega arith)) refl (no_block cs (omega arith)), refl)

encodes-if : (h : StmtHead) (es : Exprs) (n l : ℕ) (bs cs : List Block) (c : Tree) → Encodes h es n l bs cs c 7
unfolding Encodes flat before_of encode_code size encode_block encode_exprs each_bytes head_bytes value_flag value_count type_width block_count else_flag number_bytes
encodes-if h es n l bs [] c g =
    let a = g.values in let b = g.flag in let k = g.blocks in
    (flattened h es n l bs [] c 7 refl (one-expr es (omega arith)) (one_block bs (omega arith)) refl refl, refl)
encodes-if h es n l bs (d ∷ cs) c g =
    let a = g.values in let b = g.flag in let k = g.blocks in let o : suc (length cs) < 2 = g.others in
    (flattened h es n l bs (d ∷ cs) c 7 {m = 1} refl (one-expr es (omega arith)) (one_block bs (omega arith)) (omega arith) (one_block (d ∷ cs) (omega arith)), refl)

pub encodes : (tag : ℕ) (h : StmtHead) (es : Exprs) (n l : ℕ) (bs cs : List Block) (c : Tree) → Shape tag es n bs cs
    → (encode_code (before_of tag h es l bs cs c) ≡ stmt_bytes tag h es n l bs cs ++ encode_code c) × (size (before_of tag h es l bs cs c) ≡ suc (size c))
unfolding Encodes
encodes tag h es n l bs cs c g =
    tags (Encodes h es n l bs cs c) (encodes-block h es n l bs cs c) (encodes-return h es n l bs cs c) (encodes-expr h es n l bs cs c)
    (encodes-let h es n l bs cs c) (encodes-const h es n l bs cs c) (encodes-assign h es n l bs cs c) (encodes-if h es n l bs cs c)
    (encodes-while h es n l bs cs c) (encodes-break h es n l bs cs c) (encodes-continue h es n l bs cs c) tag g.low g.high g
