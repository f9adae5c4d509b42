-- Document 01, "Pieces": what is connected, what a piece is, what it weighs and whether it is harmful.
-- Over a net at a stage and a set of jumpers. Assumes nothing.
use Rattle.std.specs.Prelude.{ℕ, suc, ◌≤◌, ◌<◌, ◌≡◌, Bool, true, false, not, ◌&&◌, leb, ltb}
use Rattle.laws.specs.Sum.{χ, sum, any}
use Rattle.net.specs.Stage.{Stage}

-- a set of points: wire, position
abbrev pub Points : Type 0
Points = ℕ → ℕ → Bool

-- what a stage is made of: its nodes, and the steps of its wires; step t of wire i lies between positions t − 1 and t
pub data Element : Type 0 where
  node : ℕ → Element
  step : ℕ → ℕ → Element

-- the elements that are there: all nodes, and steps 1 to length of each present wire
abbrev pub is_real : Stage → Element → Bool
is_real s (node i) = ltb i s.nodes
is_real s (step i t) = s.present i && (leb 1 t && leb t (s.len i))

-- two elements touch: two steps of one wire at their shared point unless a jumper stands there; steps and present vias at nodes
pub data Touch (s : Stage) (J : Points) : Element → Element → Type 0 where
  along : {i t : ℕ} → s.present i ≡ true → 1 ≤ t → t < s.len i → J i t ≡ false → Touch s J (step i t) (step i (suc t))
  foot : {i : ℕ} → s.present i ≡ true → 1 ≤ s.len i → Touch s J (node i) (step i 1)
  head : {i : ℕ} → s.present i ≡ true → 1 ≤ s.len i → Touch s J (step i (s.len i)) (node (s.parent i))
  via : {i : ℕ} → s.present i ≡ true → s.len i ≡ 0 → Touch s J (node i) (node (s.parent i))

-- connected: the least equivalence that has what touches
pub data Connected (s : Stage) (J : Points) : Element → Element → Type 0 where
  touching : {d e : Element} → Touch s J d e → Connected s J d e
  same : {e : Element} → Connected s J e e
  back : {d e : Element} → Connected s J d e → Connected s J e d
  chain : {d e f : Element} → Connected s J d e → Connected s J e f → Connected s J d f

-- a group of elements
abbrev pub Group : Type 0
Group = Element → Bool

-- a piece: a connected group of nodes and steps, as large as it can be
pub record Piece (s : Stage) (J : Points) (P : Group) : Type 0 where
  pub one : Element
  pub has_one : P one ≡ true
  pub real : (e : Element) → P e ≡ true → is_real s e ≡ true
  pub connected : (d e : Element) → P d ≡ true → P e ≡ true → Connected s J d e
  pub largest : (d e : Element) → P d ≡ true → Connected s J d e → P e ≡ true

-- weight of a piece: the factors of its steps, added
unfoldable pub weight_of : Stage → Group → ℕ
weight_of s P = sum s.nodes (λ i. χ (s.present i) (sum (s.len i) (λ t. χ (P (step i (suc t))) (s.factor i))))

-- it has a gate; it has a source
unfoldable pub has_gate : Stage → Group → Bool
has_gate s P = any s.nodes (λ i. s.gate i && P (node i))

unfoldable pub has_source : Stage → Group → Bool
has_source s P = any s.nodes (λ i. s.source i && P (node i))

-- harmful: it has a gate, no source, and weighs more than the limit
unfoldable pub is_harmful : Stage → ℕ → Group → Bool
is_harmful s limit P = has_gate s P && (not (has_source s P) && ltb limit (weight_of s P))
