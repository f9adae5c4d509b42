-- Laws of little-endian numbers: their bytes give them back, and they give their bytes back; lists of records by their bytes.
-- Assumes nothing.
use Rattle.std.specs.Prelude.{ℕ, zero, suc, ◌+◌, ◌*◌, ◌/◌, ◌%◌, ◌<◌, ◌≤◌, ◌≡◌, refl, List, [], ◌∷◌, length, take, drop, get_or}
use Rattle.std.proofs.Common.{◌∙◌, sym, ap, mod-eq_of_lt, mod-lt, div-lt_iff_lt-mul, mul_comm, add-one, arith, lit<, ext_get_or, drop-cons, get_or-drop}
use Rattle.std.proofs.Math.Nat.{add-mul-mod_self_left, div-div-eq-div-mul, div-add-mod}
use Rattle.std.proofs.Math.Arith.{digits_div, digits_mod}
use Rattle.laws.specs.Bytes.{le16, le32, bytes16, bytes32}

-- every element is a byte
abbrev pub Bytes : List ℕ → Type 0
Bytes l = (i : ℕ) → get_or l i 0 < 256

-- a list from a place on: its element, and the list from the next place on
drop_here : (l : List ℕ) (i j : ℕ) → i + 1 ≡ j → i < length l → drop i l ≡ get_or l i 0 ∷ drop j l
drop_here l i j e h = rw (← e, add-one i) (drop-cons l i 0 h)

-- a digit to base 256: b, with h above it and l below
digit : (n h b l m : ℕ) → n ≡ (h * 256 + b) * m + l → l < m → b < 256 → n / m % 256 ≡ b
digit n h b l m e p q = rw (e, digits_div (h * 256 + b) p) (digits_mod h q)

-- the bytes at a place are those of the number there
module _ (l : List ℕ) (b : Bytes l) (i : ℕ) where
  pub bytes16-le16 : i + 2 ≤ length l → take 2 (drop i l) ≡ bytes16 (le16 l i)
  bytes16-le16 h =
      let b0 = get_or l i 0 in
      let b1 = get_or l (i + 1) 0 in
      let e0 : le16 l i % 256 ≡ b0 = add-mul-mod_self_left b0 256 b1 ∙ mod-eq_of_lt (b i) in
      let e1 : le16 l i / 256 % 256 ≡ b1 = digit (le16 l i) 0 b1 b0 256 (omega arith) (b i) (b (i + 1)) in
      rw (drop_here l i (i + 1) refl (omega arith), drop_here l (i + 1) (i + 2) (omega arith) (omega arith), e0, e1)

  pub bytes32-le32 : i + 4 ≤ length l → take 4 (drop i l) ≡ bytes32 (le32 l i)
  bytes32-le32 h =
      let b0 = get_or l i 0 in
      let b1 = get_or l (i + 1) 0 in
      let b2 = get_or l (i + 2) 0 in
      let b3 = get_or l (i + 3) 0 in
      let n = le32 l i in
      let p0 : b0 < 256 = b i in
      let p1 : b1 < 256 = b (i + 1) in
      let p2 : b2 < 256 = b (i + 2) in
      let q0 : n ≡ (b1 + 256 * b2 + 65536 * b3) * 256 + b0 = omega arith in
      let e0 : n % 256 ≡ b0 = rw q0 (digits_mod (b1 + 256 * b2 + 65536 * b3) p0) in
      let e1 : n / 256 % 256 ≡ b1 = digit n (b2 + 256 * b3) b1 b0 256 (omega arith) p0 p1 in
      let e2 : n / 65536 % 256 ≡ b2 = digit n b3 b2 (b0 + 256 * b1) 65536 (omega arith) (omega arith) p2 in
      let e3 : n / 16777216 % 256 ≡ b3 =
      digit n 0 b3 (b0 + 256 * b1 + 65536 * b2) 16777216 (omega arith) (omega arith) (b (i + 3)) in
      rw (
        drop_here l i (i + 1) refl (omega arith),
        drop_here l (i + 1) (i + 2) (omega arith) (omega arith),
        drop_here l (i + 2) (i + 3) (omega arith) (omega arith),
        drop_here l (i + 3) (i + 4) (omega arith) (omega arith),
        e0,
        e1,
        e2,
        e3,
      )

  -- a number whose bytes stand at a place
  pub bytes16-here : (n : ℕ) → i + 2 ≤ length l → le16 l i ≡ n → take 2 (drop i l) ≡ bytes16 n
  bytes16-here n h e = bytes16-le16 h ∙ ap bytes16 e

  pub bytes32-here : (n : ℕ) → i + 4 ≤ length l → le32 l i ≡ n → take 4 (drop i l) ≡ bytes32 n
  bytes32-here n h e = bytes32-le32 h ∙ ap bytes32 e

-- parts of a list of bytes
pub bytes_take : (n : ℕ) (l : List ℕ) → Bytes l → Bytes (take n l)
bytes_take zero l b i = lit< tt
bytes_take (suc n) [] b i = lit< tt
bytes_take (suc n) (x ∷ l) b zero = b zero
bytes_take (suc n) (x ∷ l) b (suc i) = bytes_take n l (λ j. b (suc j)) i

pub bytes_drop : (n : ℕ) (l : List ℕ) → Bytes l → Bytes (drop n l)
bytes_drop n l b i = rw (get_or-drop n l i 0) (b (n + i))

-- the number of its own bytes
pub le16-bytes16 : (n : ℕ) → n < 65536 → n % 256 + 256 * (n / 256 % 256) ≡ n
le16-bytes16 n h =
    let q : n / 256 < 256 = (div-lt_iff_lt-mul (lit< tt)).1 h in
    let e = mod-eq_of_lt q in
    let d = div-add-mod n 256 in
    omega arith

pub le32-bytes32 : (n : ℕ) → n < 4294967296
    → n % 256 + 256 * (n / 256 % 256) + 65536 * (n / 65536 % 256) + 16777216 * (n / 16777216 % 256) ≡ n
le32-bytes32 n h =
    let e1 : 256 * (n / 65536) + n / 256 % 256 ≡ n / 256 = rw (div-div-eq-div-mul n 256 256) at (div-add-mod (n / 256) 256) in
    let e2 : 256 * (n / 16777216) + n / 65536 % 256 ≡ n / 65536 =
    rw (div-div-eq-div-mul n 65536 256) at (div-add-mod (n / 65536) 256) in
    let e3 : n / 16777216 % 256 ≡ n / 16777216 = mod-eq_of_lt (omega arith) in
    combine (n % 256) (n / 256) (n / 256 % 256) (n / 65536) (n / 65536 % 256) (n / 16777216) (n / 16777216 % 256) n
    (div-add-mod n 256) e1 e2 e3
  where
    combine : (a q1 b q2 c q3 d n : ℕ) → 256 * q1 + a ≡ n → 256 * q2 + b ≡ q1 → 256 * q3 + c ≡ q2 → d ≡ q3
        → a + 256 * b + 65536 * c + 16777216 * d ≡ n
    combine a q1 b q2 c q3 d n e f g h = omega arith

-- two numbers of 16 bits are equal only if their bytes are
module _ (l m : List ℕ) (bl : Bytes l) (bm : Bytes m) (i : ℕ) (e : le16 l i ≡ le16 m i) where
  pub le16-low : get_or l i 0 ≡ get_or m i 0
  le16-low = omega (arith, bl i, bl (i + 1), bm i, bm (i + 1))

  pub le16-high : get_or l (i + 1) 0 ≡ get_or m (i + 1) 0
  le16-high = omega (arith, bl i, bl (i + 1), bm i, bm (i + 1))

-- two lists of n records of w bytes are equal if each byte of each record is
pub same-records : (w n : ℕ) (l m : List ℕ) → 0 < w → length l ≡ w * n → length m ≡ w * n
    → ((q r : ℕ) → q < n → r < w → get_or l (w * q + r) 0 ≡ get_or m (w * q + r) 0) → l ≡ m
same-records w n l m p hl hm f =
    ext_get_or 0 l m (hl ∙ sym hm)
    (λ i h.
    let q : i / w < n = (div-lt_iff_lt-mul p).1 (omega (arith, mul_comm w n)) in
    rw (← div-add-mod i w) (f (i / w) (i % w) q (mod-lt i p)))
