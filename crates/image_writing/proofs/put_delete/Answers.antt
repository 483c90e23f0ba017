use Prim.Native.Nat.{ℕ}
use mathlib.Core.Path.{◌≡◌, refl}
use mathlib.Core.List.{◌∷◌, ◌++◌}
use lib.ListN.{length}
use Rattle.image_body.specs.Expr.{arg_width, count_width, last_width}
use Rattle.image_encoding.specs.Body.{encode_expr}
use native.Mathlib.Omega.{arith}
use Rattle.image_fields.specs.Bytes.{two_bytes, four_bytes, number_bytes}
use Rattle.image_writing.proofs.Stores.{both_stored, two-length, four-length}
use Rattle.image_writing.proofs.put_delete.Goals as goal

head-length : (p : ℕ) → length (10 ∷ (four_bytes p ++ two_bytes 0)) ≡ 7
unfolding two_bytes four_bytes
head-length p = refl

pub put_delete_head-child-requires : goal.put_delete_head-child-requires
put_delete_head-child-requires c = omega (arith, c.put-tagged.ensures.place, c.put_four-spanned.ensures.place, four-length c.args.span)

pub put-ident-requires : goal.put-ident-requires
put-ident-requires c = omega (arith, c.put-tagged.ensures.place, c.put_four-spanned.ensures.place, four-length c.args.span, c.put_delete_head-child.ensures.place, head-length c.args.span)

pub put_four-place-requires : goal.put_four-place-requires
put_four-place-requires c = omega (arith, c.put-tagged.ensures.place, c.put_four-spanned.ensures.place, four-length c.args.span, c.put_delete_head-child.ensures.place, head-length c.args.span, c.put-ident.ensures.place)

pub put_two-typed-requires : goal.put_two-typed-requires
put_two-typed-requires c = omega (arith, c.put-tagged.ensures.place, c.put_four-spanned.ensures.place, four-length c.args.span, c.put_delete_head-child.ensures.place, head-length c.args.span, c.put-ident.ensures.place, c.put_four-place.ensures.place)

pub put_two-requires : goal.put_two-requires
put_two-requires c = omega (arith, c.put-tagged.ensures.place, c.put_four-spanned.ensures.place, four-length c.args.span, c.put_delete_head-child.ensures.place, head-length c.args.span, c.put-ident.ensures.place, c.put_four-place.ensures.place, c.put_two-typed.ensures.place, two-length c.args.ty)

pub returns : goal.returns
unfolding two_bytes four_bytes number_bytes encode_expr arg_width count_width last_width
returns c = both_stored c.put-tagged.ensures (both_stored c.put_four-spanned.ensures (both_stored c.put_delete_head-child.ensures (both_stored c.put-ident.ensures (both_stored c.put_four-place.ensures (both_stored c.put_two-typed.ensures c.put_two.ensures)))))
