-- Document 01, "Pieces" and the demands: jumper lists, legal sets, smallest sets.
-- Over a net at a stage. Assumes nothing.
use Rattle.std.specs.Prelude.{ℕ, suc, ◌+◌, ◌*◌, ◌≤◌, ◌<◌, ◌≡◌, Bool, true, false, ◌&&◌, ◌||◌, List, length, get_or, ltb, eqb}
use Rattle.laws.specs.Sum.{χ, sum, any}
use Rattle.laws.specs.Bytes.{le16}
use Rattle.net.specs.Layout.{entry_bytes}
use Rattle.net.specs.Stage.{Stage}
use Rattle.pieces.specs.Piece.{Points, Group, Piece, is_harmful}

-- position t of wire i may be cut: it lies inside a wire made by the stage, and is not barred
pub record Free (s : Stage) (i t : ℕ) : Type 0 where
  pub present : s.present i ≡ true
  pub low : 1 ≤ t
  pub high : t < s.len i
  pub clear : s.barred i t ≡ false

-- a jumper set is legal: none is barred, all lie on present wires, and no piece is harmful
pub record Legal (s : Stage) (limit : ℕ) (J : Points) : Type 0 where
  pub free : (i t : ℕ) → J i t ≡ true → Free s i t
  pub harmless : (P : Group) → Piece s J P → is_harmful s limit P ≡ false

-- the number of its points
unfoldable pub size : Stage → Points → ℕ
size s J = sum s.nodes (λ i. sum (s.len i) (λ t. χ (J i t) 1))

-- a jumper list: entry e has a wire (8 bits) and a position (16 bits)
abbrev pub entry_wire : List ℕ → ℕ → ℕ
entry_wire list e = get_or list (entry_bytes * e) 0

abbrev pub entry_position : List ℕ → ℕ → ℕ
entry_position list e = le16 list (entry_bytes * e + 1)

-- the set of a list's first n entries
unfoldable pub listed : List ℕ → ℕ → Points
listed list n i t = any n (λ e. eqb (entry_wire list e) i && eqb (entry_position list e) t)

-- entry e stands after entry d: by wire, then position
unfoldable pub after : List ℕ → ℕ → ℕ → Bool
after list d e =
    ltb (entry_wire list d) (entry_wire list e)
    || (eqb (entry_wire list d) (entry_wire list e) && ltb (entry_position list d) (entry_position list e))

-- a list of n entries holds each point of one legal set once, and no legal set has fewer points
pub record Smallest (s : Stage) (limit : ℕ) (list : List ℕ) (n : ℕ) : Type 0 where
  pub whole : length list ≡ entry_bytes * n
  pub rising : (e : ℕ) → suc e < n → after list e (suc e) ≡ true
  pub legal : Legal s limit (listed list n)
  pub fewest : (J : Points) → Legal s limit J → n ≤ size s J

-- no set of any size is legal
abbrev pub NoneLegal : Stage → ℕ → Type 0
NoneLegal s limit = (J : Points) → Legal s limit J → ⊥
