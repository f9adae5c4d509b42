-- Document 01, "Files": how pieces are named. A piece with nodes is named by its lowest node and position 0, another by its wire and the lower of its two
-- jumper positions. That two elements have one name exactly when they are connected is a theorem.
-- Assumes nothing.
use Rattle.std.specs.Prelude.{ℕ, zero, suc, Bool, not, ◌&&◌, cond, leb, ltb, eqb}
use Rattle.laws.specs.Sum.{any, lowest, highest}
use Rattle.net.specs.Stage.{Stage}
use Rattle.pieces.specs.Piece.{Points, Element, node, step, is_real, Group}

-- the name of a piece
pub record Name : Type 0 where
  pub number : ℕ
  pub position : ℕ

abbrev pub name : ℕ → ℕ → Name
name n p = record { number = n; position = p }

-- a jumper stands on wire i
unfoldable pub cut_at : Stage → Points → ℕ → Bool
cut_at s J i = any (s.len i) (λ t. J i t)

-- the lowest jumper of wire i, or its length where there is none
unfoldable pub first_jumper : Stage → Points → ℕ → ℕ
first_jumper s J i = lowest (s.len i) (λ t. J i t)

-- the highest jumper of wire i, or 0 where there is none
unfoldable pub last_jumper : Stage → Points → ℕ → ℕ
last_jumper s J i = highest (s.len i) (λ t. J i t)

-- wire i joins its two nodes: it is present and has no jumper
unfoldable pub joins : Stage → Points → ℕ → Bool
joins s J i = s.present i && not (cut_at s J i)

-- the node reached from node i by following joining wires to their parents, at most k of them
unfoldable pub follow : Stage → Points → ℕ → ℕ → ℕ
follow s J zero i = i
follow s J (suc k) i = cond (joins s J i) (follow s J k (s.parent i)) i

-- the lowest node of node i's piece
unfoldable pub lowest_node : Stage → Points → ℕ → ℕ
lowest_node s J i = follow s J i i

-- the name of step t of wire i goes by the jumpers below and above it
unfoldable pub step_name : Stage → Points → ℕ → ℕ → Name
step_name s J i t =
    cond (leb t (first_jumper s J i)) (name (lowest_node s J i) 0)
    (cond (ltb (last_jumper s J i) t) (name (lowest_node s J (s.parent i)) 0) (name i (highest t (λ p. J i p))))

-- the name of the piece that an element is in
abbrev pub name_of : Stage → Points → Element → Name
name_of s J (node i) = name (lowest_node s J i) 0
name_of s J (step i t) = step_name s J i t

-- the elements of a name
unfoldable pub named : Stage → Points → Name → Group
named s J n e = is_real s e && (eqb (name_of s J e).number n.number && eqb (name_of s J e).position n.position)
