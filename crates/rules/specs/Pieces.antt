-- The bytes given back, cut into what was submitted and what was put in (mission, demand 3, third sentence).
use Rattle.std.specs.Prelude.{◌≡◌, ℕ, ◌+◌, Bool, true, false, cond, List, [], ◌∷◌, ◌++◌, length}
use Rattle.image_fields.specs.Bytes.{two_bytes, four_bytes}
use Rattle.tables.specs.Limits.{Limits}
use Rattle.image_body.specs.Stmt.{done, expr_stmt, variable, assign, return, bare_return, block, if_else, if_then, while, jump}
use Rattle.image_encoding.specs.Tables.{encode_tables, encode_entry}
use Rattle.image_encoding.specs.Body.{encode_expr, size}
use Rattle.image.specs.Image.{Image}
use Rattle.rules.specs.Rules.{Drop, drop_of, Decided}
use Rattle.rules.specs.Report.{delete_node, ident_node}

-- bytes of the submitted image, bytes put in, and a block's count with the number of statements put into it
pub data Piece : Type 0 where
  kept : List ℕ → Piece
  put : List ℕ → Piece
  counted : ℕ → ℕ → Piece

-- all pieces, or (false) what is left with the insertions struck out and the counts lowered
abbrev pub bytes_of : Bool → List Piece → List ℕ
bytes_of b [] = []
bytes_of b (kept bs ∷ ps) = bs ++ bytes_of b ps
bytes_of true (put bs ∷ ps) = bs ++ bytes_of true ps
bytes_of false (put bs ∷ ps) = bytes_of false ps
bytes_of b (counted n k ∷ ps) = two_bytes (n + cond b k 0) ++ bytes_of b ps

-- inserted delete statements
abbrev pub deletes : List Drop → List Piece → List Piece
deletes [] ps = ps
deletes (drop_of p n t ∷ x) ps = put (3 ∷ (four_bytes p ++ encode_expr (delete_node p (ident_node p t n)))) ∷ deletes x ps

-- statements put into a block itself
abbrev pub put_in : Decided → ℕ
put_in (done x) = length x
put_in (expr_stmt s e y r) = put_in r
put_in (variable k s n t e r) = put_in r
put_in (assign s e v t x r) = length x + put_in r
put_in (return s e t x r) = length x + put_in r
put_in (bare_return s t x r) = length x + put_in r
put_in (block s c r) = put_in r
put_in (if_else s e ts t us u r) = put_in r
put_in (if_then s e ts t r) = put_in r
put_in (while s e ts t r) = put_in r
put_in (jump k s x r) = length x + put_in r

-- the delete round an unused result: its tag, span and type
abbrev pub wrapping : Bool → ℕ → List Piece → List Piece
wrapping true s ps = put (10 ∷ (four_bytes s ++ two_bytes 0)) ∷ ps
wrapping false s ps = ps

-- the statements of a decided body
abbrev pub pieces : Decided → List Piece → List Piece
pieces (done x) ps = deletes x ps
pieces (expr_stmt s e y r) ps = kept (3 ∷ four_bytes s) ∷ wrapping y s (kept (encode_expr e) ∷ pieces r ps)
pieces (variable k s n t e r) ps = kept (cond k 5 4 ∷ (four_bytes s ++ (two_bytes n ++ two_bytes t))) ∷ kept (encode_expr e) ∷ pieces r ps
pieces (assign s e v t x r) ps = deletes x (kept (6 ∷ four_bytes s) ∷ kept (encode_expr e) ∷ kept (encode_expr v) ∷ kept (two_bytes t) ∷ pieces r ps)
pieces (return s e t x r) ps = deletes x (kept (2 ∷ (four_bytes s ++ (1 ∷ []))) ∷ kept (encode_expr e) ∷ kept (two_bytes t) ∷ pieces r ps)
pieces (bare_return s t x r) ps = deletes x (kept (2 ∷ (four_bytes s ++ (0 ∷ two_bytes t))) ∷ pieces r ps)
pieces (block s c r) ps = kept (1 ∷ four_bytes s) ∷ counted (size c) (put_in c) ∷ pieces c (pieces r ps)
pieces (if_else s e ts t us u r) ps =
    kept (7 ∷ four_bytes s) ∷ kept (encode_expr e) ∷ kept (four_bytes ts) ∷ counted (size t) (put_in t)
    ∷ pieces t (kept (1 ∷ four_bytes us) ∷ counted (size u) (put_in u) ∷ pieces u (pieces r ps))
pieces (if_then s e ts t r) ps =
    kept (7 ∷ four_bytes s) ∷ kept (encode_expr e) ∷ kept (four_bytes ts) ∷ counted (size t) (put_in t) ∷ pieces t (kept (0 ∷ []) ∷ pieces r ps)
pieces (while s e ts t r) ps =
    kept (8 ∷ four_bytes s) ∷ kept (encode_expr e) ∷ kept (four_bytes ts) ∷ counted (size t) (put_in t) ∷ pieces t (pieces r ps)
pieces (jump k s x r) ps = deletes x (kept (cond k 10 9 ∷ four_bytes s) ∷ pieces r ps)

-- an image whose body is so decided, in pieces: what follows the length
abbrev pub image_pieces : Limits → Image → Decided → List Piece
image_pieces L i c =
    kept (L.version ∷ encode_tables i.tables) ∷ kept (encode_entry i.entry) ∷ kept (four_bytes i.body.span)
    ∷ counted (size c) (put_in c) ∷ pieces c []

-- the length, and what follows it
abbrev pub image_of : Bool → List Piece → List ℕ
image_of b ps = four_bytes (length (bytes_of b ps)) ++ bytes_of b ps

-- Demand 3, third sentence: the bytes given back, without the pieces put in and with counts and length lowered, are the submitted ones
pub record Struck (L : Limits) (s output : List ℕ) (i : Image) (c : Decided) : Type 0 where
  pub given : output ≡ image_of true (image_pieces L i c)
  pub again : image_of false (image_pieces L i c) ≡ s
