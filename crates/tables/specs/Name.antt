-- Names: count 1 to 512; each a length byte 1 to 64 and its bytes. All differ. Name 0 is `this`. Fault 3.
use Rattle.std.specs.Prelude.{ℕ, zero, suc, ◌+◌, ◌-◌, ◌*◌, ◌%◌, Bool, true, false, not, ◌&&◌, ◌||◌, List, [], ◌∷◌, length, ◌==◌, nat_le, nat_lt, slice_index, slice_index_or}
use Rattle.image_fields.specs.Parsed.{Parsed, ok, bind, ensure}
use Rattle.image_fields.specs.Table.{table_at, member}
use Rattle.tables.specs.Limits.{Limits}

-- n bytes from a position
unfoldable pub bytes_at : List ℕ → ℕ → ℕ → List ℕ
bytes_at s at zero = []
bytes_at s at (suc n) = slice_index s at ∷ bytes_at s (at + 1) n

-- the name at a position: a length byte, and as many bytes
unfoldable pub name_of : List ℕ → ℕ → List ℕ
name_of s at = bytes_at s (at + 1) (slice_index s at)

unfoldable pub same_bytes : List ℕ → List ℕ → Bool
same_bytes [] [] = true
same_bytes [] (y ∷ ys) = false
same_bytes (x ∷ xs) [] = false
same_bytes (x ∷ xs) (y ∷ ys) = x == y && same_bytes xs ys

-- the order of names: that of their first byte that differs; a name is below its extensions
unfoldable pub below_bytes : List ℕ → List ℕ → Bool
below_bytes xs [] = false
below_bytes [] (y ∷ ys) = true
below_bytes (x ∷ xs) (y ∷ ys) = nat_lt x y || (x == y && below_bytes xs ys)

-- whether bytes begin with others
unfoldable pub starts_with : List ℕ → List ℕ → Bool
starts_with [] ys = true
starts_with (x ∷ xs) [] = false
starts_with (x ∷ xs) (y ∷ ys) = x == y && starts_with xs ys

-- the key of a name: names whose keys differ differ. k is that of the bytes before
unfoldable pub key_from : ℕ → List ℕ → ℕ
key_from k [] = k
key_from k (x ∷ xs) = key_from ((k * 31 + x) % 4294967296) xs

abbrev pub key_of : List ℕ → ℕ
key_of xs = key_from 0 xs

-- the bytes of `this`, of `__tmp` and of `std::move`
abbrev pub this_name : List ℕ
this_name = 116 ∷ 104 ∷ 105 ∷ 115 ∷ []

abbrev pub temp_name : List ℕ
temp_name = 95 ∷ 95 ∷ 116 ∷ 109 ∷ 112 ∷ []

abbrev pub move_name : List ℕ
move_name = 115 ∷ 116 ∷ 100 ∷ 58 ∷ 58 ∷ 109 ∷ 111 ∷ 118 ∷ 101 ∷ []

-- a name that differs from those before it
unfoldable pub name_at : Limits → List ℕ → List (List ℕ) → ℕ → Parsed (List ℕ)
name_at L s ns at =
    ensure (nat_lt 0 (slice_index s at) && nat_le (slice_index s at) L.name_bytes) 3
    (ensure (nat_le (slice_index s at + 1) (length s - at)) 3
    (ensure (not (member same_bytes ns (name_of s at))) 3
    (ok (name_of s at) (at + (slice_index s at + 1)))))

unfoldable pub names_at : Limits → List ℕ → ℕ → Parsed (List (List ℕ))
names_at L s at =
    bind (table_at 3 1 (L.names + 1) (name_at L s) s at)
    (λ ns p. ensure (same_bytes (slice_index_or ns 0 []) this_name) 3 (ok ns p))
