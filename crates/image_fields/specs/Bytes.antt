-- The bytes of a number, and where bytes stand in others.
use Rattle.std.specs.Prelude.{ℕ, ◌/◌, ◌%◌, ◌<◌, ◌≡◌, List, [], ◌∷◌, ◌++◌, cond, get_or, drop, eqb}

unfoldable pub two_bytes : ℕ → List ℕ
two_bytes n = n / 256 ∷ n % 256 ∷ []

unfoldable pub four_bytes : ℕ → List ℕ
four_bytes n = two_bytes (n / 65536) ++ two_bytes (n % 65536)

-- a number in k bytes, k being 1, 2 or 4; nothing in no bytes
unfoldable pub number_bytes : ℕ → ℕ → List ℕ
number_bytes k n = cond (eqb k 2) (two_bytes n) (cond (eqb k 1) (n ∷ []) (cond (eqb k 4) (four_bytes n) []))

-- the bytes of each, one after another
unfoldable pub each_bytes : {A : Type 0} → (A → List ℕ) → List A → List ℕ
each_bytes f [] = []
each_bytes f (x ∷ xs) = f x ++ each_bytes f xs

-- every element is a byte
abbrev pub Bytes : List ℕ → Type 0
Bytes s = (k : ℕ) → get_or s k 0 < 256

-- the bytes a stand in s from p up to q
pub record Part (s : List ℕ) (p : ℕ) (a : List ℕ) (q : ℕ) : Type 0 where
  pub is : drop p s ≡ a ++ drop q s
