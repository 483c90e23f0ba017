-- The returned image is as long as the submitted one and what the insertions add.
-- Assumes nothing.
use Rattle.std.proofs.Common.{◌≡◌, ℕ, ◌+◌, ◌*◌, ◌≤◌, Bool, true, false, cond, List, [], ◌∷◌, ◌++◌, length, refl, ap, ◌∙◌, subst, le_refl, arith, length-append}
use Rattle.image_fields.specs.Bytes.{Bytes, two_bytes, four_bytes, number_bytes}
use Rattle.tables.specs.Limits.{Limits}
use Rattle.image.specs.Image.{Image, accepted, decode, encode}
use Rattle.image.proofs.RoundTrip.{image-written}
use Rattle.image_encoding.specs.Body.{encode_expr, encode_exprs, encode_code, encode_block, size, with_count}
use Rattle.image_body.specs.Expr.{Expr, count_width, arg_width, last_width}
use Rattle.image_body.specs.Stmt.{Code, Tree, done, expr_stmt, variable, assign, return, bare_return, block, if_else, if_then, while, jump}
use Rattle.image_encoding.specs.Tables.{encode_tables, encode_entry}
use Rattle.rules.specs.Rules.{Drop, drop_of, Decided, Switches}
use Rattle.rules.specs.Report.{delete_node, ident_node, inserts, flatten, strike, with_code, returned_image, decided_image}
use Rattle.rules.specs.Verdict.{RoomFor}
use Rattle.rules.specs.Room.{added, room_bound}
use Rattle.rules.proofs.Strike.{strike-body}
use Rattle.rules.proofs.RoomBound.{room}

-- a block's bytes before others
counted : (s n : ℕ) (bytes rest : List ℕ) → length (with_count s n bytes ++ rest) ≡ 6 + length bytes + length rest
unfolding four_bytes two_bytes
counted s n bytes rest = let h = length-append bytes rest in omega arith

-- the lengths of statements' bytes
module _ {X Y : Type 0} where
  pub expr_stmt-bytes : (s : ℕ) (e : Expr) (y : Y) (r : Code X Y) → length (encode_code (expr_stmt s e y r)) ≡ 5 + length (encode_expr e) + length (encode_code r)
  unfolding encode_code four_bytes two_bytes
  expr_stmt-bytes s e y r = let h = length-append (encode_expr e) (encode_code r) in omega arith

  pub variable-bytes : (k : Bool) (s n t : ℕ) (e : Expr) (r : Code X Y) → length (encode_code (variable k s n t e r)) ≡ 9 + length (encode_expr e) + length (encode_code r)
  unfolding encode_code four_bytes two_bytes
  variable-bytes k s n t e r = let h = length-append (encode_expr e) (encode_code r) in omega arith

  pub assign-bytes : (s : ℕ) (e v : Expr) (t : ℕ) (x : X) (r : Code X Y) → length (encode_code (assign s e v t x r)) ≡ 7 + length (encode_expr e) + length (encode_expr v) + length (encode_code r)
  unfolding encode_code four_bytes two_bytes
  assign-bytes s e v t x r =
      let h = length-append (encode_expr e) (encode_expr v ++ (two_bytes t ++ encode_code r)) in
      let h' = length-append (encode_expr v) (two_bytes t ++ encode_code r) in
      omega arith

  pub return-bytes : (s : ℕ) (e : Expr) (t : ℕ) (x : X) (r : Code X Y) → length (encode_code (return s e t x r)) ≡ 8 + length (encode_expr e) + length (encode_code r)
  unfolding encode_code four_bytes two_bytes
  return-bytes s e t x r = let h = length-append (encode_expr e) (two_bytes t ++ encode_code r) in omega arith

  pub bare_return-bytes : (s t : ℕ) (x : X) (r : Code X Y) → length (encode_code (bare_return s t x r)) ≡ 8 + length (encode_code r)
  unfolding encode_code four_bytes two_bytes
  bare_return-bytes s t x r = omega arith

  pub block-bytes : (s : ℕ) (c r : Code X Y) → length (encode_code (block s c r)) ≡ 7 + length (encode_code c) + length (encode_code r)
  unfolding encode_code
  block-bytes s c r = let h = counted s (size c) (encode_code c) (encode_code r) in omega arith

  pub if_else-bytes : (s : ℕ) (e : Expr) (ts : ℕ) (t : Code X Y) (us : ℕ) (u r : Code X Y)
      → length (encode_code (if_else s e ts t us u r)) ≡ 18 + length (encode_expr e) + length (encode_code t) + length (encode_code u) + length (encode_code r)
  unfolding encode_code four_bytes two_bytes
  if_else-bytes s e ts t us u r =
      let rest : List ℕ = 1 ∷ (with_count us (size u) (encode_code u) ++ encode_code r) in
      let h = length-append (encode_expr e) (with_count ts (size t) (encode_code t) ++ rest) in
      let h' = counted ts (size t) (encode_code t) rest in
      let h'' = counted us (size u) (encode_code u) (encode_code r) in
      omega arith

  pub if_then-bytes : (s : ℕ) (e : Expr) (ts : ℕ) (t r : Code X Y) → length (encode_code (if_then s e ts t r)) ≡ 12 + length (encode_expr e) + length (encode_code t) + length (encode_code r)
  unfolding encode_code four_bytes two_bytes
  if_then-bytes s e ts t r =
      let h = length-append (encode_expr e) (with_count ts (size t) (encode_code t) ++ (0 ∷ encode_code r)) in
      let h' = counted ts (size t) (encode_code t) (0 ∷ encode_code r) in
      omega arith

  pub while-bytes : (s : ℕ) (e : Expr) (ts : ℕ) (t r : Code X Y) → length (encode_code (while s e ts t r)) ≡ 11 + length (encode_expr e) + length (encode_code t) + length (encode_code r)
  unfolding encode_code four_bytes two_bytes
  while-bytes s e ts t r =
      let h = length-append (encode_expr e) (with_count ts (size t) (encode_code t) ++ encode_code r) in
      let h' = counted ts (size t) (encode_code t) (encode_code r) in
      omega arith

  pub jump-bytes : (k : Bool) (s : ℕ) (x : X) (r : Code X Y) → length (encode_code (jump k s x r)) ≡ 5 + length (encode_code r)
  unfolding encode_code four_bytes two_bytes
  jump-bytes k s x r = omega arith

delete-bytes : (p : ℕ) (e : Expr) → length (encode_expr (delete_node p e)) ≡ 7 + length (encode_expr e)
unfolding encode_expr encode_exprs four_bytes two_bytes number_bytes arg_width count_width last_width
delete-bytes p e = let h = length-append (encode_expr e) [] in let h' = length-append (encode_expr e ++ []) [] in omega arith

ident-bytes : (p t n : ℕ) → length (encode_expr (ident_node p t n)) ≡ 9
unfolding encode_expr encode_exprs four_bytes two_bytes number_bytes arg_width count_width last_width
ident-bytes p t n = refl

inserted : (x : List Drop) (c : Tree) → length (encode_code (inserts x c)) ≡ 21 * length x + length (encode_code c)
inserted [] c = omega arith
inserted (drop_of p n t ∷ x) c =
    let ih = inserted x c in
    let h : length (encode_code (inserts (drop_of p n t ∷ x) c)) ≡ 5 + length (encode_expr (delete_node p (ident_node p t n))) + length (encode_code (inserts x c)) =
    expr_stmt-bytes p (delete_node p (ident_node p t n)) tt (inserts x c) in
    let h' = delete-bytes p (ident_node p t n) in
    let h'' = ident-bytes p t n in
    omega arith

wrapped : (y : Bool) (s : ℕ) (e : Expr) → length (encode_expr (cond y (delete_node s e) e)) ≡ cond y 7 0 + length (encode_expr e)
wrapped true s e = delete-bytes s e
wrapped false s e = omega arith

-- the returned statements are longer than the submitted ones by what the insertions add
pub longer : (c : Decided) → length (encode_code (flatten c)) ≡ length (encode_code (strike c)) + added c
longer (done x) = inserted x (done tt) ∙ swap (21 * length x) (length (encode_code (strike (done x))))
  where
    swap : (m n : ℕ) → m + n ≡ n + m
    swap m n = omega arith
longer (expr_stmt s e y r) =
    let h = expr_stmt-bytes s (cond y (delete_node s e) e) tt (flatten r) in
    let h' = expr_stmt-bytes s e tt (strike r) in
    let w = wrapped y s e in
    let ih = longer r in
    omega arith
longer (variable k s n t e r) =
    let h = variable-bytes k s n t e (flatten r) in
    let h' = variable-bytes k s n t e (strike r) in
    let ih = longer r in
    omega arith
longer (assign s e v t x r) =
    let i = inserted x (assign s e v t tt (flatten r)) in
    let h = assign-bytes s e v t tt (flatten r) in
    let h' = assign-bytes s e v t tt (strike r) in
    let ih = longer r in
    omega arith
longer (return s e t x r) =
    let i = inserted x (return s e t tt (flatten r)) in
    let h = return-bytes s e t tt (flatten r) in
    let h' = return-bytes s e t tt (strike r) in
    let ih = longer r in
    omega arith
longer (bare_return s t x r) =
    let i = inserted x (bare_return s t tt (flatten r)) in
    let h = bare_return-bytes s t tt (flatten r) in
    let h' = bare_return-bytes s t tt (strike r) in
    let ih = longer r in
    omega arith
longer (block s c r) =
    let h = block-bytes s (flatten c) (flatten r) in
    let h' = block-bytes s (strike c) (strike r) in
    let ih = longer c in
    let ih' = longer r in
    omega arith
longer (if_else s e ts t us u r) =
    let h = if_else-bytes s e ts (flatten t) us (flatten u) (flatten r) in
    let h' = if_else-bytes s e ts (strike t) us (strike u) (strike r) in
    let ih = longer t in
    let ih' = longer u in
    let ih'' = longer r in
    omega arith
longer (if_then s e ts t r) =
    let h = if_then-bytes s e ts (flatten t) (flatten r) in
    let h' = if_then-bytes s e ts (strike t) (strike r) in
    let ih = longer t in
    let ih' = longer r in
    omega arith
longer (while s e ts t r) =
    let h = while-bytes s e ts (flatten t) (flatten r) in
    let h' = while-bytes s e ts (strike t) (strike r) in
    let ih = longer t in
    let ih' = longer r in
    omega arith
longer (jump k s x r) =
    let i = inserted x (jump k s tt (flatten r)) in
    let h = jump-bytes k s tt (flatten r) in
    let h' = jump-bytes k s tt (strike r) in
    let ih = longer r in
    omega arith

image-bytes : (L : Limits) (i : Image) (c : Tree) → length (encode L (with_code i c)) ≡ 11 + length (encode_tables i.tables) + length (encode_entry i.entry) + length (encode_code c)
unfolding encode encode_block four_bytes two_bytes
image-bytes L i c =
    let h = length-append (encode_tables i.tables) (encode_entry i.entry ++ encode_block (record { span = i.body.span; code = c })) in
    let h' = length-append (encode_entry i.entry) (encode_block (record { span = i.body.span; code = c })) in
    omega arith

-- the returned image is longer by what the insertions add
pub longer-image : (L : Limits) (w : Switches) (i : Image) → length (encode L (returned_image w i)) ≡ length (encode L i) + added (decided_image w i)
longer-image L w i =
    let D = decided_image w i in
    let h = image-bytes L i (flatten D) in
    let h' = image-bytes L i i.body.code in
    let l = longer D in
    let e = ap (λ (c : Tree). length (encode_code c)) (strike-body w i.tables i.entry i.body) in
    omega arith

-- and by no more than document 01's bound
pub room-image : (L : Limits) (w : Switches) (i : Image) → length (encode L (returned_image w i)) ≤ length (encode L i) + room_bound i.entry i.body
room-image L w i =
    let h = longer-image L w i in
    let r = room w i.tables i.entry i.body in
    omega arith

-- so the room entry can answer the bytes that are written
pub room-met : (L : Limits) (w : Switches) (s : List ℕ) → Bytes s → (i : Image) → decode L s ≡ accepted i → RoomFor L w s i (length (encode L (returned_image w i)))
room-met L w s g i e =
    record { enough = le_refl _; most = subst (λ (z : List ℕ). length (encode L (returned_image w i)) ≤ length z + room_bound i.entry i.body) (image-written L s g i e) (room-image L w i) }
