-- Little-endian numbers in a list of bytes.
-- Assumes nothing.
use Rattle.std.specs.Prelude.{ℕ, ◌+◌, ◌*◌, ◌/◌, ◌%◌, List, [], ◌∷◌, get_or}

-- the number of 16 bits at a place
abbrev pub le16 : List ℕ → ℕ → ℕ
le16 l i = get_or l i 0 + 256 * get_or l (i + 1) 0

-- the number of 32 bits at a place
abbrev pub le32 : List ℕ → ℕ → ℕ
le32 l i = get_or l i 0 + 256 * get_or l (i + 1) 0 + 65536 * get_or l (i + 2) 0 + 16777216 * get_or l (i + 3) 0

-- the bytes of a number of 16 bits
abbrev pub bytes16 : ℕ → List ℕ
bytes16 n = n % 256 ∷ n / 256 % 256 ∷ []

-- the bytes of a number of 32 bits
abbrev pub bytes32 : ℕ → List ℕ
bytes32 n = n % 256 ∷ n / 256 % 256 ∷ n / 65536 % 256 ∷ n / 16777216 % 256 ∷ []
