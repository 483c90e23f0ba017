-- Writing what was read gives the bytes again, and reading what was written gives the image again.
-- Assumes nothing.
use mathlib.Core.Path.{◌≡◌, refl, sym, ap, ◌∙◌, subst}
use mathlib.Core.List.{List, [], ◌∷◌, ◌++◌, append-nil}
use mathlib.Core.Bool.{true, ◌&&◌}
use Prim.Native.Nat.{ℕ, ◌+◌, ◌≤◌}
use native.Mathlib.Omega.{arith}
use borrow.Author.Tests.{eqb-true, leb-true, eq-eqb, le-leb}
use lib.ListN.{length, get_or, drop}
use lib.Seq.{drop-length}
use lib.Dec.{leb, eqb}
use Rattle.image_fields.specs.Parsed.{ok}
use Rattle.image_fields.specs.Number.{four}
use Rattle.image_fields.specs.Bytes.{four_bytes, Bytes}
use Rattle.image_fields.proofs.Inverse.{ensure-ok, bound}
use Rattle.image_fields.proofs.Tests.{and-true}
use Rattle.tables.specs.Limits.{Limits}
use Rattle.tables.specs.Name.{names_at}
use Rattle.tables.specs.Ty.{types_at}
use Rattle.tables.specs.Signature.{structs_at, globals_at, entry_at}
use Rattle.image_body.specs.Stmt.{block_at}
use Rattle.image_encoding.specs.Tables.{encode_tables, encode_entry}
use Rattle.image_encoding.specs.Body.{encode_block}
use Rattle.image_encoding.specs.Written.{Written}
use Rattle.image_encoding.specs.Valid.{ValidScope}
use Rattle.image_encoding.proofs.Parts.{byte_at, then, from, being, four-at, split, here, four-here, goes, passes}
use Rattle.image_encoding.proofs.TablesWritten.{tables-written, entry-written}
use Rattle.image_encoding.proofs.TablesReadBack.{tables-read-back, entry-read-back}
use Rattle.image_encoding.proofs.TablesValid.{names-valid, types-valid, structs-valid, globals-valid, entry-valid}
use Rattle.image_encoding.proofs.BodyWritten.{block_written}
use Rattle.image_encoding.proofs.BodyReadBack.{block-read-back}
use Rattle.image_encoding.proofs.BodyValid.{block-valid}
use Rattle.image.specs.Image.{Image, accepted, scope_in, length_ok, body_at, rest_at, image_at, outcome, decode, encode_parts, encode}
use Rattle.image.specs.Valid.{ValidImage}
use Rattle.image.proofs.Whole.{outcome-ok}

-- the parts of an image that was read, and where each ends
pub record Parted (L : Limits) (s : List ℕ) (i : Image) : Type 0 where
  pub long : 5 ≤ length s
  pub short : length s ≤ L.size
  pub counted : four s 0 + 4 ≡ length s
  pub version : get_or s 4 0 ≡ L.version
  pub p : ℕ
  pub q : ℕ
  pub r : ℕ
  pub u : ℕ
  pub v : ℕ
  pub names : names_at L s 5 ≡ ok i.tables.names p
  pub types : types_at L (length i.tables.names) s p ≡ ok i.tables.types q
  pub structs : structs_at L i.tables.names s q ≡ ok i.tables.structs r
  pub globals : globals_at L (length i.tables.names) s r ≡ ok i.tables.globals u
  pub entry : entry_at L (length i.tables.names) (length i.tables.types) s u ≡ ok i.entry v
  pub body : block_at (scope_in L i.tables.names i.tables.types) s L.block_depth v ≡ ok i.body (length s)

image-parted : (L : Limits) (s : List ℕ) (i : Image) (n : ℕ) → image_at L s ≡ ok i n → Parted L s i
unfolding image_at rest_at body_at
image-parted L s i n e =
    let g = ensure-ok _ e in
    let h = ensure-ok _ g.1 in
    let l = and-true (leb 5 (length s)) (leb (length s) L.size && eqb (four s 0 + 4) (length s)) g.0 in
    let m = and-true (leb (length s) L.size) (eqb (four s 0 + 4) (length s)) l.1 in
    bound h.1 (λ ns p e1 e2. bound e2 (λ ts q e3 e4. bound e4 (λ ss r e5 e6. bound e6 (λ gs u e7 e8. bound e8 (λ y v e9 e10. bound e10 (λ b w e11 e12.
    bound e11 (λ c x e13 e14.
    let k = ensure-ok _ e14 in
    let k1 = k.1 in
    let z : record { tables = record { names = ns; types = ts; structs = ss; globals = gs }; entry = y; body = b } ≡ i = cc in
    let cb : c ≡ b = cc in
    let lx : x ≡ length s = eqb-true _ _ k.0 in
    subst (Parted L s) z (record {
      long = leb-true _ _ l.0;
      short = leb-true _ _ m.0;
      counted = eqb-true _ _ m.1;
      version = eqb-true _ _ h.0;
      p = p;
      q = q;
      r = r;
      u = u;
      v = v;
      names = e1;
      types = e3;
      structs = e5;
      globals = e7;
      entry = e9;
      body = e13 ∙ ap (λ a. ok a x) cb ∙ ap (ok b) lx;
    }))))))))

pub parted : (L : Limits) (s : List ℕ) (i : Image) → decode L s ≡ accepted i → Parted L s i
unfolding decode
parted L s i e = let g = outcome-ok (image_at L s) e in image-parted L s i g.0 g.1

-- bytes that stand from the first to the last are all there are
whole-list : (s a : List ℕ) → Written s 0 a (length s) → a ≡ s
whole-list s a w =
    let e : drop 0 s ≡ a ++ drop (length s) s = w.part.is in
    sym (e ∙ ap (λ x. a ++ x) (drop-length s) ∙ append-nil a)

-- writing what was read
pub image-written : (L : Limits) (s : List ℕ) → Bytes s → (i : Image) → decode L s ≡ accepted i → encode L i ≡ s
unfolding encode
image-written L s small i e =
    let g = parted L s i e in
    let len = g.long in
    let head = four-at s small 0 (omega arith) in
    let version = being (ap (λ x. x ∷ []) g.version) (byte_at s 4 (omega arith)) in
    let tables = tables-written s small L i.tables 5 g.p g.q g.r g.u g.names g.types g.structs g.globals in
    let entry = entry-written s small L _ _ g.u i.entry g.v g.entry in
    let body = block_written s small _ L.block_depth g.v i.body (length s) g.body in
    let parts : Written s 4 (encode_parts L i) (length s) = then version (then tables (then entry body)) in
    let count : length (encode_parts L i) ≡ four s 0 = (let a = parts.end in let b = g.counted in omega arith) in
    whole-list s _ (then (being (ap four_bytes (sym count)) head) parts)

-- what was read is valid
pub image-valid : (L : Limits) (s : List ℕ) → Bytes s → (i : Image) → decode L s ≡ accepted i → ValidImage L i
image-valid L s small i e =
    let g = parted L s i e in
    record {
      tables = record {
        names = names-valid s small L 5 _ _ g.names;
        types = types-valid s L _ _ _ _ g.types;
        structs = structs-valid s L _ _ _ _ g.structs;
        globals = globals-valid s L _ _ _ _ g.globals;
      };
      entry = entry-valid s L _ _ _ _ _ g.entry;
      body = block-valid s small _ L.block_depth _ _ _ g.body;
      size = subst (λ x. length x ≤ L.size) (sym (image-written L s small i e)) g.short;
    }

-- reading what was written
module _ (L : Limits) (i : Image) (valid : ValidImage L i) where
  all-written : (s : List ℕ) → Written s 0 s (length s)
  all-written s = record { part = record { is = sym (ap (λ x. s ++ x) (drop-length s) ∙ append-nil s) }; end = omega arith }

  -- the length, the version and the parts stand in the bytes
  module _ (s : List ℕ) (q : ℕ) (count : Written s 0 (four_bytes (length (encode_parts L i))) q) (rest : Written s q (encode_parts L i) (length s))
      (fits : length s ≤ L.size) where
    length-good : length_ok L s ≡ true
    length-good =
        let a = four-here count in
        let b = rest.end in
        let c : four s 0 ≡ length (encode_parts L i) = a.0 in
        let d : q ≡ 4 = a.2 in
        let e : 5 ≤ length s = omega arith in
        let f : four s 0 + 4 ≡ length s = omega arith in
        rw (le-leb 5 (length s) e, le-leb (length s) L.size fits, eq-eqb (four s 0 + 4) (length s) f) refl

    scope-valid : ValidScope (scope_in L i.tables.names i.tables.types)
    scope-valid = record { names = valid.tables.names.some; types = valid.tables.types.some }

    parts-read : image_at L s ≡ ok i (length s)
    unfolding image_at rest_at body_at
    parts-read =
        let d : q ≡ 4 = (four-here count).2 in
        let rest4 : Written s 4 (encode_parts L i) (length s) = from d rest in
        split (L.version ∷ []) (encode_tables i.tables ++ (encode_entry i.entry ++ encode_block i.body)) rest4 (λ p a b.
        split (encode_tables i.tables) (encode_entry i.entry ++ encode_block i.body) b (λ u c e.
        split (encode_entry i.entry) (encode_block i.body) e (λ v f g.
        let five : p ≡ 5 = a.end in
        let t = tables-read-back s L i.tables 5 u valid.tables (from five c) in
        passes 1 length-good (passes 2 (eq-eqb _ _ (here a))
        (goes _ t.3 (goes _ t.4 (goes _ t.5 (goes _ t.6
        (goes _ (entry-read-back s L _ _ u i.entry v valid.entry f)
        (goes _ (goes _ (block-read-back _ scope-valid s L.block_depth v i.body (length s) valid.body g) (passes 10 (eq-eqb (length s) (length s) refl) refl)) refl))))))))))

  pub image-read-back : decode L (encode L i) ≡ accepted i
  unfolding decode encode outcome
  image-read-back =
      split (four_bytes (length (encode_parts L i))) (encode_parts L i) (all-written (encode L i)) (λ q a b.
      ap outcome (parts-read (encode L i) q a b valid.size))
