-- The bytes given back are all pieces; without the pieces put in, and with the counts and the length lowered, they are the submitted ones.
-- Assumes nothing.
use Rattle.std.proofs.Common.{◌≡◌, ℕ, ◌+◌, Bool, true, false, cond, List, [], ◌∷◌, ◌++◌, length, sym, refl, ap, ◌∙◌, ap₂, append_assoc, append-nil, arith}
use Rattle.image_fields.specs.Bytes.{Bytes, two_bytes, four_bytes, number_bytes}
use Rattle.tables.specs.Limits.{Limits}
use Rattle.image_encoding.specs.Tables.{encode_tables, encode_entry}
use Rattle.image_encoding.specs.Body.{encode_expr, encode_code, encode_block, size, with_count}
use Rattle.image.specs.Image.{Image, accepted, decode, encode}
use Rattle.image_body.specs.Expr.{Expr, count_width, arg_width, last_width}
use Rattle.image_body.specs.Stmt.{Tree, done, expr_stmt, variable, assign, return, bare_return, block, if_else, if_then, while, jump}
use Rattle.rules.specs.Rules.{Drop, drop_of, Decided, Switches}
use Rattle.rules.specs.Report.{delete_node, ident_node, inserts, flatten, strike, returned_image, decided_image}
use Rattle.rules.specs.Pieces.{Piece, kept, bytes_of, deletes, put_in, wrapping, pieces, image_pieces, Struck}
use Rattle.rules.proofs.Strike.{strike-bytes}

deletes-put : (x : List Drop) (ps : List Piece) (c : Tree) (o : List ℕ) → bytes_of true ps ≡ encode_code c ++ o → bytes_of true (deletes x ps) ≡ encode_code (inserts x c) ++ o
unfolding encode_code four_bytes two_bytes
deletes-put [] ps c o h = h
deletes-put (drop_of p n t ∷ x) ps c o h =
    ap (λ (z : List ℕ). (3 ∷ (four_bytes p ++ encode_expr (delete_node p (ident_node p t n)))) ++ z) (deletes-put x ps c o h)
    ∙ ap (λ (z : List ℕ). 3 ∷ (four_bytes p ++ z)) (sym (append_assoc (encode_expr (delete_node p (ident_node p t n))) (encode_code (inserts x c)) o))

deletes-struck : (x : List Drop) (ps : List Piece) → bytes_of false (deletes x ps) ≡ bytes_of false ps
deletes-struck [] ps = refl
deletes-struck (drop_of p n t ∷ x) ps = deletes-struck x ps

on : (bs : List ℕ) {xs : List ℕ} (ys o : List ℕ) → xs ≡ ys ++ o → bs ++ xs ≡ (bs ++ ys) ++ o
on bs ys o h = ap (λ (z : List ℕ). bs ++ z) h ∙ sym (append_assoc bs ys o)

size-inserts : (x : List Drop) (c : Tree) → size (inserts x c) ≡ length x + size c
unfolding size
size-inserts [] c = omega arith
size-inserts (drop_of p n t ∷ x) c = let h = size-inserts x c in omega arith

pub size-flatten : (c : Decided) → size (flatten c) ≡ size c + put_in c
unfolding size
size-flatten (done x) = let h = size-inserts x (done tt) in omega arith
size-flatten (expr_stmt s e y r) = let h = size-flatten r in omega arith
size-flatten (variable k s n t e r) = let h = size-flatten r in omega arith
size-flatten (assign s e v t x r) = let h = size-flatten r in let i = size-inserts x (assign s e v t tt (flatten r)) in omega arith
size-flatten (return s e t x r) = let h = size-flatten r in let i = size-inserts x (return s e t tt (flatten r)) in omega arith
size-flatten (bare_return s t x r) = let h = size-flatten r in let i = size-inserts x (bare_return s t tt (flatten r)) in omega arith
size-flatten (block s c r) = let h = size-flatten r in omega arith
size-flatten (if_else s e ts t us u r) = let h = size-flatten r in omega arith
size-flatten (if_then s e ts t r) = let h = size-flatten r in omega arith
size-flatten (while s e ts t r) = let h = size-flatten r in omega arith
size-flatten (jump k s x r) = let h = size-flatten r in let i = size-inserts x (jump k s tt (flatten r)) in omega arith

wrap-put : (y : Bool) (s : ℕ) (e : Expr) (ps : List Piece) → bytes_of true (wrapping y s (kept (encode_expr e) ∷ ps)) ≡ encode_expr (cond y (delete_node s e) e) ++ bytes_of true ps
unfolding encode_expr four_bytes two_bytes number_bytes arg_width count_width last_width
wrap-put true s e ps = ap (λ (z : List ℕ). 10 ∷ (four_bytes s ++ (0 ∷ 0 ∷ (z ++ bytes_of true ps)))) (sym (append-nil (encode_expr e)) ∙ sym (append-nil (encode_expr e ++ [])))
wrap-put false s e ps = refl

-- all pieces are the bytes given back
pub all-pieces : (c : Decided) (ps : List Piece) → bytes_of true (pieces c ps) ≡ encode_code (flatten c) ++ bytes_of true ps
unfolding encode_code four_bytes two_bytes
all-pieces (done x) ps = deletes-put x ps (done tt) (bytes_of true ps) refl
all-pieces (expr_stmt s e y r) ps =
    ap (λ (z : List ℕ). 3 ∷ (four_bytes s ++ z))
    (wrap-put y s e (pieces r ps) ∙ on (encode_expr (cond y (delete_node s e) e)) (encode_code (flatten r)) (bytes_of true ps) (all-pieces r ps))
all-pieces (variable k s n t e r) ps = ap (λ (z : List ℕ). cond k 5 4 ∷ (four_bytes s ++ (two_bytes n ++ (two_bytes t ++ z)))) (on (encode_expr e) (encode_code (flatten r)) (bytes_of true ps) (all-pieces r ps))
all-pieces (assign s e v t x r) ps =
    deletes-put x _ (assign s e v t tt (flatten r)) (bytes_of true ps)
    (ap (λ (z : List ℕ). 6 ∷ (four_bytes s ++ z)) (on (encode_expr e) (encode_expr v ++ (two_bytes t ++ encode_code (flatten r))) (bytes_of true ps) (on (encode_expr v) (two_bytes t ++ encode_code (flatten r)) (bytes_of true ps) (ap (λ (z : List ℕ). two_bytes t ++ z) (all-pieces r ps)))))
all-pieces (return s e t x r) ps =
    deletes-put x _ (return s e t tt (flatten r)) (bytes_of true ps)
    (ap (λ (z : List ℕ). 2 ∷ (four_bytes s ++ (1 ∷ z))) (on (encode_expr e) (two_bytes t ++ encode_code (flatten r)) (bytes_of true ps) (ap (λ (z : List ℕ). two_bytes t ++ z) (all-pieces r ps))))
all-pieces (bare_return s t x r) ps = deletes-put x _ (bare_return s t tt (flatten r)) (bytes_of true ps) (ap (λ (z : List ℕ). 2 ∷ (four_bytes s ++ (0 ∷ (two_bytes t ++ z)))) (all-pieces r ps))
all-pieces (block s c r) ps =
    ap₂ (λ (n : ℕ) (z : List ℕ). 1 ∷ (four_bytes s ++ (two_bytes n ++ z))) (sym (size-flatten c)) (all-pieces c (pieces r ps) ∙ on (encode_code (flatten c)) (encode_code (flatten r)) (bytes_of true ps) (all-pieces r ps))
all-pieces (if_else s e ts t us u r) ps =
    ap (λ (z : List ℕ). 7 ∷ (four_bytes s ++ z)) (on (encode_expr e) (with_count ts (size (flatten t)) (encode_code (flatten t)) ++ (1 ∷ (with_count us (size (flatten u)) (encode_code (flatten u)) ++ encode_code (flatten r)))) (bytes_of true ps)
    (ap₂ (λ (n : ℕ) (z : List ℕ). four_bytes ts ++ (two_bytes n ++ z)) (sym (size-flatten t)) (all-pieces t _ ∙ on (encode_code (flatten t)) (1 ∷ (with_count us (size (flatten u)) (encode_code (flatten u)) ++ encode_code (flatten r))) (bytes_of true ps)
    (ap₂ (λ (n : ℕ) (z : List ℕ). 1 ∷ (four_bytes us ++ (two_bytes n ++ z))) (sym (size-flatten u)) (all-pieces u (pieces r ps) ∙ on (encode_code (flatten u)) (encode_code (flatten r)) (bytes_of true ps) (all-pieces r ps))))))
all-pieces (if_then s e ts t r) ps =
    ap (λ (z : List ℕ). 7 ∷ (four_bytes s ++ z)) (on (encode_expr e) (with_count ts (size (flatten t)) (encode_code (flatten t)) ++ (0 ∷ encode_code (flatten r))) (bytes_of true ps)
    (ap₂ (λ (n : ℕ) (z : List ℕ). four_bytes ts ++ (two_bytes n ++ z)) (sym (size-flatten t)) (all-pieces t _ ∙ on (encode_code (flatten t)) (0 ∷ encode_code (flatten r)) (bytes_of true ps) (ap (λ (z : List ℕ). 0 ∷ z) (all-pieces r ps)))))
all-pieces (while s e ts t r) ps =
    ap (λ (z : List ℕ). 8 ∷ (four_bytes s ++ z)) (on (encode_expr e) (with_count ts (size (flatten t)) (encode_code (flatten t)) ++ encode_code (flatten r)) (bytes_of true ps)
    (ap₂ (λ (n : ℕ) (z : List ℕ). four_bytes ts ++ (two_bytes n ++ z)) (sym (size-flatten t)) (all-pieces t _ ∙ on (encode_code (flatten t)) (encode_code (flatten r)) (bytes_of true ps) (all-pieces r ps))))
all-pieces (jump k s x r) ps = deletes-put x _ (jump k s tt (flatten r)) (bytes_of true ps) (ap (λ (z : List ℕ). cond k 10 9 ∷ (four_bytes s ++ z)) (all-pieces r ps))

pub size-struck : (c : Decided) → size (strike c) ≡ size c + 0
unfolding size
size-struck (done x) = refl
size-struck (expr_stmt s e y r) = let h = size-struck r in omega arith
size-struck (variable k s n t e r) = let h = size-struck r in omega arith
size-struck (assign s e v t x r) = let h = size-struck r in omega arith
size-struck (return s e t x r) = let h = size-struck r in omega arith
size-struck (bare_return s t x r) = let h = size-struck r in omega arith
size-struck (block s c r) = let h = size-struck r in omega arith
size-struck (if_else s e ts t us u r) = let h = size-struck r in omega arith
size-struck (if_then s e ts t r) = let h = size-struck r in omega arith
size-struck (while s e ts t r) = let h = size-struck r in omega arith
size-struck (jump k s x r) = let h = size-struck r in omega arith

wrap-struck : (y : Bool) (s : ℕ) (e : Expr) (ps : List Piece) → bytes_of false (wrapping y s (kept (encode_expr e) ∷ ps)) ≡ encode_expr e ++ bytes_of false ps
wrap-struck true s e ps = refl
wrap-struck false s e ps = refl

-- without the insertions, and with the counts lowered, they are the submitted bytes
pub left-pieces : (c : Decided) (ps : List Piece) → bytes_of false (pieces c ps) ≡ encode_code (strike c) ++ bytes_of false ps
unfolding encode_code four_bytes two_bytes
left-pieces (done x) ps = deletes-struck x ps
left-pieces (expr_stmt s e y r) ps =
    ap (λ (z : List ℕ). 3 ∷ (four_bytes s ++ z))
    (wrap-struck y s e (pieces r ps) ∙ on (encode_expr e) (encode_code (strike r)) (bytes_of false ps) (left-pieces r ps))
left-pieces (variable k s n t e r) ps = ap (λ (z : List ℕ). cond k 5 4 ∷ (four_bytes s ++ (two_bytes n ++ (two_bytes t ++ z)))) (on (encode_expr e) (encode_code (strike r)) (bytes_of false ps) (left-pieces r ps))
left-pieces (assign s e v t x r) ps =
    deletes-struck x _
    ∙ (ap (λ (z : List ℕ). 6 ∷ (four_bytes s ++ z)) (on (encode_expr e) (encode_expr v ++ (two_bytes t ++ encode_code (strike r))) (bytes_of false ps) (on (encode_expr v) (two_bytes t ++ encode_code (strike r)) (bytes_of false ps) (ap (λ (z : List ℕ). two_bytes t ++ z) (left-pieces r ps)))))
left-pieces (return s e t x r) ps =
    deletes-struck x _
    ∙ (ap (λ (z : List ℕ). 2 ∷ (four_bytes s ++ (1 ∷ z))) (on (encode_expr e) (two_bytes t ++ encode_code (strike r)) (bytes_of false ps) (ap (λ (z : List ℕ). two_bytes t ++ z) (left-pieces r ps))))
left-pieces (bare_return s t x r) ps = deletes-struck x _ ∙ ap (λ (z : List ℕ). 2 ∷ (four_bytes s ++ (0 ∷ (two_bytes t ++ z)))) (left-pieces r ps)
left-pieces (block s c r) ps =
    ap₂ (λ (n : ℕ) (z : List ℕ). 1 ∷ (four_bytes s ++ (two_bytes n ++ z))) (sym (size-struck c)) (left-pieces c (pieces r ps) ∙ on (encode_code (strike c)) (encode_code (strike r)) (bytes_of false ps) (left-pieces r ps))
left-pieces (if_else s e ts t us u r) ps =
    ap (λ (z : List ℕ). 7 ∷ (four_bytes s ++ z)) (on (encode_expr e) (with_count ts (size (strike t)) (encode_code (strike t)) ++ (1 ∷ (with_count us (size (strike u)) (encode_code (strike u)) ++ encode_code (strike r)))) (bytes_of false ps)
    (ap₂ (λ (n : ℕ) (z : List ℕ). four_bytes ts ++ (two_bytes n ++ z)) (sym (size-struck t)) (left-pieces t _ ∙ on (encode_code (strike t)) (1 ∷ (with_count us (size (strike u)) (encode_code (strike u)) ++ encode_code (strike r))) (bytes_of false ps)
    (ap₂ (λ (n : ℕ) (z : List ℕ). 1 ∷ (four_bytes us ++ (two_bytes n ++ z))) (sym (size-struck u)) (left-pieces u (pieces r ps) ∙ on (encode_code (strike u)) (encode_code (strike r)) (bytes_of false ps) (left-pieces r ps))))))
left-pieces (if_then s e ts t r) ps =
    ap (λ (z : List ℕ). 7 ∷ (four_bytes s ++ z)) (on (encode_expr e) (with_count ts (size (strike t)) (encode_code (strike t)) ++ (0 ∷ encode_code (strike r))) (bytes_of false ps)
    (ap₂ (λ (n : ℕ) (z : List ℕ). four_bytes ts ++ (two_bytes n ++ z)) (sym (size-struck t)) (left-pieces t _ ∙ on (encode_code (strike t)) (0 ∷ encode_code (strike r)) (bytes_of false ps) (ap (λ (z : List ℕ). 0 ∷ z) (left-pieces r ps)))))
left-pieces (while s e ts t r) ps =
    ap (λ (z : List ℕ). 8 ∷ (four_bytes s ++ z)) (on (encode_expr e) (with_count ts (size (strike t)) (encode_code (strike t)) ++ encode_code (strike r)) (bytes_of false ps)
    (ap₂ (λ (n : ℕ) (z : List ℕ). four_bytes ts ++ (two_bytes n ++ z)) (sym (size-struck t)) (left-pieces t _ ∙ on (encode_code (strike t)) (encode_code (strike r)) (bytes_of false ps) (left-pieces r ps))))
left-pieces (jump k s x r) ps = deletes-struck x _ ∙ ap (λ (z : List ℕ). cond k 10 9 ∷ (four_bytes s ++ z)) (left-pieces r ps)

pub struck : (L : Limits) (w : Switches) (s : List ℕ) → Bytes s → (i : Image) → decode L s ≡ accepted i
    → Struck L s (encode L (returned_image w i)) i (decided_image w i)
unfolding encode encode_block four_bytes two_bytes
struck L w s g i e =
    let D = decided_image w i in
    let part : (b : Bool) (c : Tree) → size c ≡ size D + cond b (put_in D) 0 → bytes_of b (pieces D []) ≡ encode_code c ++ []
    → bytes_of b (image_pieces L i D) ≡ L.version ∷ (encode_tables i.tables ++ (encode_entry i.entry ++ encode_block (record { span = i.body.span; code = c }))) =
    λ b c h k. ap₂ (λ (n : ℕ) (z : List ℕ). L.version ∷ (encode_tables i.tables ++ (encode_entry i.entry ++ (four_bytes i.body.span ++ (two_bytes n ++ z))))) (sym h) (k ∙ append-nil (encode_code c)) in
    record {
      given = ap (λ (z : List ℕ). four_bytes (length z) ++ z) (sym (part true (flatten D) (size-flatten D) (all-pieces D [])));
      again = ap (λ (z : List ℕ). four_bytes (length z) ++ z) (part false (strike D) (size-struck D) (left-pieces D [])) ∙ strike-bytes L w s g i e;
    }
