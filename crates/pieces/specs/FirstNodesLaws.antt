-- The net restricted to its first n nodes: the laws of pieces apply to it, its nodes and wires have the names they have in the whole net, and with all nodes it is the whole net.
-- Assumes nothing.
use Prim.Native.Nat.{ℕ, zero, suc, ◌<◌}
use Rattle.std.specs.Prelude.{◌≡◌, Bool, true, ◌&&◌, ltb}
use Rattle.std.proofs.Math.Path.{refl, fun_ext}
use Rattle.std.proofs.Common.{arith}
use borrow.Author.Tests.{ltb-true, lt-ltb}
use Rattle.laws.specs.Sums.{by, same_test, and_left, and_right, and_intro}
use Rattle.net.specs.Stage.{Stage}
use Rattle.net.specs.Formed.{Formed}
use Rattle.pieces.specs.Piece.{Points}
use Rattle.pieces.specs.Inside.{Inside}
use Rattle.pieces.specs.Name.{cut_at, first_jumper, last_jumper, joins, follow, lowest_node}
use Rattle.pieces.specs.Lowest.{joins-below}
use Rattle.pieces.specs.Report.{node_names, stretch_names, report_of}
use Rattle.pieces.specs.FirstNodes.{first_nodes, on_first_wires, first_records}

module _ (s : Stage) (J : Points) (n : ℕ) where
  -- ---- a wire below n
  module _ (i : ℕ) (p : i < n) where
    pub kept-present : (first_nodes n s).present i ≡ s.present i
    unfolding first_nodes
    kept-present = rw (lt-ltb i n p)

    pub kept_jumpers : (t : ℕ) → on_first_wires n J i t ≡ J i t
    unfolding on_first_wires
    kept_jumpers t = rw (lt-ltb i n p)

    pub kept-cut : cut_at (first_nodes n s) (on_first_wires n J) i ≡ cut_at s J i
    unfolding first_nodes on_first_wires cut_at
    kept-cut = rw (lt-ltb i n p)

    pub kept-first : first_jumper (first_nodes n s) (on_first_wires n J) i ≡ first_jumper s J i
    unfolding first_nodes on_first_wires first_jumper
    kept-first = rw (lt-ltb i n p)

    pub kept-last : last_jumper (first_nodes n s) (on_first_wires n J) i ≡ last_jumper s J i
    unfolding first_nodes on_first_wires last_jumper
    kept-last = rw (lt-ltb i n p)

    kept-joins : joins (first_nodes n s) (on_first_wires n J) i ≡ joins s J i
    unfolding joins
    kept-joins = rw (kept-present, kept-cut)

  pub kept-formed : Formed s → Formed (first_nodes n s)
  unfolding first_nodes
  kept-formed formed =
      record {
        inside = λ i h. ltb-true i n (and_left (ltb i n) (s.present i) h);
        below = λ i h. formed.below i (and_right (ltb i n) (s.present i) h);
      }

  pub kept-inside : Inside s J → Inside (first_nodes n s) (on_first_wires n J)
  unfolding first_nodes on_first_wires
  kept-inside inside i t h = inside i t (and_right (ltb i n) (J i t) h)

  kept-follow : Formed s → (k i : ℕ) → i < n → follow (first_nodes n s) (on_first_wires n J) k i ≡ follow s J k i
  unfolding first_nodes follow
  kept-follow formed zero i p = refl
  kept-follow formed (suc k) i p =
      by (joins s J i)
      (λ yes. let b = joins-below s J formed i yes in rw (kept-joins i p, yes) (kept-follow formed k (s.parent i) (omega arith)))
      (λ no. rw (kept-joins i p, no))

  module _ (formed : Formed s) (i : ℕ) (p : i < n) where
    -- the lowest node of node i's piece, and the names of pieces at node i and its wire
    pub kept-lowest : lowest_node (first_nodes n s) (on_first_wires n J) i ≡ lowest_node s J i
    unfolding lowest_node
    kept-lowest = kept-follow formed i i p

    pub kept_node_names : node_names (first_nodes n s) (on_first_wires n J) i ≡ node_names s J i
    unfolding node_names
    kept_node_names = rw kept-lowest

    pub kept_stretch_names : stretch_names (first_nodes n s) (on_first_wires n J) i ≡ stretch_names s J i
    unfolding first_nodes on_first_wires stretch_names
    kept_stretch_names = rw (kept-last i p, lt-ltb i n p)

-- with all nodes it is the whole net
pub all-kept : (s : Stage) (limit : ℕ) (J : Points) → Formed s → ((i t : ℕ) → J i t ≡ true → s.present i ≡ true) → first_records s limit J s.nodes ≡ report_of s limit J
unfolding first_nodes on_first_wires
all-kept s limit J formed present =
    rw (fun_ext (λ i. all-below i (s.present i) (formed.inside i)), fun_ext (λ i. fun_ext (λ t. all-below i (J i t) (λ h. formed.inside i (present i t h)))))
  where
    all-below : (i : ℕ) (b : Bool) → (b ≡ true → i < s.nodes) → (ltb i s.nodes && b) ≡ b
    all-below i b h = same_test (ltb i s.nodes && b) b (and_right (ltb i s.nodes) b) (λ y. and_intro (lt-ltb i s.nodes (h y)) y)
