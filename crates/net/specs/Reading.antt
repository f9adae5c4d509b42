-- Which refusal each test of the reader shows.
-- Assumes nothing.
use Rattle.std.specs.Prelude.{ℕ, ◌+◌, ◌-◌, ◌*◌, ◌%◌, ◌<◌, ◌≤◌, ◌≡◌, refl, true, ◌&&◌, ◌||◌, List, [], length, take, drop}
use Rattle.std.proofs.Common.{◌∙◌, arith}
use Rattle.std.proofs.Math.Bool.{false, not}
use Rattle.std.proofs.Math.Dec.{ltb, eqb}
use borrow.Author.Tests.{lt-ltb, le-ltb, eq-eqb, ne_eqb}
use Rattle.net.specs.Layout.{head_bytes, node_bytes, wire_bytes, obstacle_bytes, most_nodes, most_obstacles, most_layers, most_flags}
use Rattle.net.specs.Net.{node_count, node_x, node_y, node_flags, wire_parent, wire_layer, wire_factor, obstacle_count, obstacle_x1, obstacle_y1, obstacle_x2, obstacle_y2, obstacle_layer}
use Rattle.net.specs.File.{version_of, pair_count, offset, extent, pairs_right, stretch}
use Rattle.net.specs.Refusal.{Verdict, none, refusal, answer, read_answer, nodes_of, met, refused_if, or_else, first_of, is_version, head_refusal, pairs_refusal, section_of, sections_refusal, node_refusal, wire_refusal, obstacle_refusal, net_refusal, read_refusal}
use Rattle.net.specs.First.{none_if, none_or, first_of_lem, rest_of, or_assoc, first_more_1, first_here_1}

-- head of file
module _ (f : List ℕ) where
  pub head-short : length f < head_bytes → refusal 2 0 ≡ head_refusal f
  unfolding head_refusal
  head-short h = rw (lt-ltb _ _ h)

  pub head_version : head_bytes ≤ length f → is_version (version_of f) ≡ false → refusal 2 0 ≡ head_refusal f
  unfolding head_refusal
  head_version h v = rw (le-ltb _ _ h, v)

  pub head_pairs : head_bytes ≤ length f → is_version (version_of f) ≡ true → (pair_count f ≡ 3 → ⊥) → refusal 2 0 ≡ head_refusal f
  unfolding head_refusal
  head_pairs h v p = rw (le-ltb _ _ h, v, ne_eqb _ _ p)

  pub head-right : head_bytes ≤ length f → is_version (version_of f) ≡ true → pair_count f ≡ 3 → none ≡ head_refusal f
  unfolding head_refusal
  head-right h v p = rw (le-ltb _ _ h, v, eq-eqb _ _ p)

-- pairs: each test after those before it
module _ (f : List ℕ) where
  pub pairs_first : (offset f 0 ≡ head_bytes → ⊥) → refusal 3 0 ≡ pairs_refusal f
  unfolding pairs_refusal pairs_right
  pairs_first n = rw (ne_eqb _ _ n)

  module _ (a : offset f 0 ≡ head_bytes) where
    pub pairs_second : (offset f 1 ≡ offset f 0 + extent f 0 → ⊥) → refusal 3 0 ≡ pairs_refusal f
    unfolding pairs_refusal pairs_right
    pairs_second n = rw (eq-eqb _ _ a, ne_eqb _ _ n)

    module _ (b : offset f 1 ≡ offset f 0 + extent f 0) where
      pub pairs_third : (offset f 2 ≡ offset f 1 + extent f 1 → ⊥) → refusal 3 0 ≡ pairs_refusal f
      unfolding pairs_refusal pairs_right
      pairs_third n = rw (eq-eqb _ _ a, eq-eqb _ _ b, ne_eqb _ _ n)

      module _ (c : offset f 2 ≡ offset f 1 + extent f 1) where
        pub pairs_end : (length f ≡ offset f 2 + extent f 2 → ⊥) → refusal 3 0 ≡ pairs_refusal f
        unfolding pairs_refusal pairs_right
        pairs_end n = rw (eq-eqb _ _ a, eq-eqb _ _ b, eq-eqb _ _ c, ne_eqb _ _ n)

        pub pairs_right_lem : length f ≡ offset f 2 + extent f 2 → none ≡ pairs_refusal f
        unfolding pairs_refusal pairs_right
        pairs_right_lem d = rw (eq-eqb _ _ a, eq-eqb _ _ b, eq-eqb _ _ c, eq-eqb _ _ d)

-- sections: each test after those before it
module _ (v : ℕ) (ns ws os : List ℕ) where
  pub sections_fives : (length ns % node_bytes ≡ 0 → ⊥) → refusal 4 0 ≡ sections_refusal v ns ws os
  unfolding sections_refusal
  sections_fives n = rw (ne_eqb _ _ n)

  module _ (a : length ns % node_bytes ≡ 0) where
    pub sections_empty : node_count ns ≡ 0 → refusal 4 0 ≡ sections_refusal v ns ws os
    unfolding sections_refusal
    sections_empty n = rw (eq-eqb _ _ a, eq-eqb _ _ n)

    module _ (b : node_count ns ≡ 0 → ⊥) where
      pub sections_many : most_nodes < node_count ns → refusal 4 0 ≡ sections_refusal v ns ws os
      unfolding sections_refusal
      sections_many n = rw (eq-eqb _ _ a, ne_eqb _ _ b, lt-ltb _ _ n)

      module _ (c : node_count ns ≤ most_nodes) where
        pub sections_threes : (length ws ≡ wire_bytes * (node_count ns - 1) → ⊥) → refusal 5 0 ≡ sections_refusal v ns ws os
        unfolding sections_refusal
        sections_threes n = rw (eq-eqb _ _ a, ne_eqb _ _ b, le-ltb _ _ c, ne_eqb _ _ n)

        module _ (d : length ws ≡ wire_bytes * (node_count ns - 1)) where
          pub sections_uneven : (length os % obstacle_bytes v ≡ 0 → ⊥) → refusal 6 0 ≡ sections_refusal v ns ws os
          unfolding sections_refusal
          sections_uneven n = rw (eq-eqb _ _ a, ne_eqb _ _ b, le-ltb _ _ c, eq-eqb _ _ d, ne_eqb _ _ n)

          module _ (e : length os % obstacle_bytes v ≡ 0) where
            pub sections_more : most_obstacles < obstacle_count v os → refusal 6 0 ≡ sections_refusal v ns ws os
            unfolding sections_refusal
            sections_more n = rw (eq-eqb _ _ a, ne_eqb _ _ b, le-ltb _ _ c, eq-eqb _ _ d, eq-eqb _ _ e, lt-ltb _ _ n)

            pub sections_right : obstacle_count v os ≤ most_obstacles → none ≡ sections_refusal v ns ws os
            unfolding sections_refusal
            sections_right n = rw (eq-eqb _ _ a, ne_eqb _ _ b, le-ltb _ _ c, eq-eqb _ _ d, eq-eqb _ _ e, le-ltb _ _ n)

-- a node
module _ (ns : List ℕ) (i : ℕ) where
  pub node_flags_lem : most_flags < node_flags ns i → refusal 7 i ≡ node_refusal ns i
  unfolding node_refusal
  node_flags_lem h = rw (lt-ltb _ _ h)

  pub node-right : node_flags ns i ≤ most_flags → none ≡ node_refusal ns i
  unfolding node_refusal
  node-right h = rw (le-ltb _ _ h)

-- a wire: each test after those before it
module _ (ns ws : List ℕ) (i : ℕ) where
  pub wire_parent_lem : i ≤ wire_parent ws i → refusal 8 i ≡ wire_refusal ns ws i
  unfolding wire_refusal
  wire_parent_lem h = rw (le-ltb _ _ h)

  module _ (a : wire_parent ws i < i) where
    pub wire_no_layer : wire_layer ws i ≡ 0 → refusal 9 i ≡ wire_refusal ns ws i
    unfolding wire_refusal
    wire_no_layer h = rw (lt-ltb _ _ a, eq-eqb _ _ h)

    module _ (b : wire_layer ws i ≡ 0 → ⊥) where
      pub wire_layer_high : most_layers < wire_layer ws i → refusal 9 i ≡ wire_refusal ns ws i
      unfolding wire_refusal
      wire_layer_high h = rw (lt-ltb _ _ a, ne_eqb _ _ b, lt-ltb _ _ h)

      module _ (c : wire_layer ws i ≤ most_layers) where
        pub wire_no_factor : wire_factor ws i ≡ 0 → refusal 9 i ≡ wire_refusal ns ws i
        unfolding wire_refusal
        wire_no_factor h = rw (lt-ltb _ _ a, ne_eqb _ _ b, le-ltb _ _ c, eq-eqb _ _ h)

        module _ (d : wire_factor ws i ≡ 0 → ⊥) where
          pub wire_same_x : node_x ns i ≡ node_x ns (wire_parent ws i) → none ≡ wire_refusal ns ws i
          unfolding wire_refusal
          wire_same_x h = rw (lt-ltb _ _ a, ne_eqb _ _ b, le-ltb _ _ c, ne_eqb _ _ d, eq-eqb _ _ h)

          module _ (x : node_x ns i ≡ node_x ns (wire_parent ws i) → ⊥) where
            pub wire_same_y : node_y ns i ≡ node_y ns (wire_parent ws i) → none ≡ wire_refusal ns ws i
            unfolding wire_refusal
            wire_same_y h = rw (lt-ltb _ _ a, ne_eqb _ _ b, le-ltb _ _ c, ne_eqb _ _ d, ne_eqb _ _ x, eq-eqb _ _ h)

            pub wire-oblique : (node_y ns i ≡ node_y ns (wire_parent ws i) → ⊥) → refusal 10 i ≡ wire_refusal ns ws i
            unfolding wire_refusal
            wire-oblique h = rw (lt-ltb _ _ a, ne_eqb _ _ b, le-ltb _ _ c, ne_eqb _ _ d, ne_eqb _ _ x, ne_eqb _ _ h)

  pub wire-none : met (wire_refusal ns ws i) ≡ false → none ≡ wire_refusal ns ws i
  unfolding wire_refusal
  wire-none e =
      let r8 = refused_if (not (ltb (wire_parent ws i) i)) 8 i in
      let r9 = refused_if (eqb (wire_layer ws i) 0 || (ltb most_layers (wire_layer ws i) || eqb (wire_factor ws i) 0)) 9 i in
      let oblique =
      not (eqb (node_x ns i) (node_x ns (wire_parent ws i))) && not (eqb (node_y ns i) (node_y ns (wire_parent ws i))) in
      none_or r8 (or_else r9 (refused_if oblique 10 i)) (none_or r9 (refused_if oblique 10 i) (none_if oblique 10 i refl)) e

-- each wire
module _ (ns ws : List ℕ) (i : ℕ) (h : 0 < i) (e : none ≡ first_of (i - 1) (λ j. wire_refusal ns ws (j + 1))) where
  pub wires-more : none ≡ wire_refusal ns ws i → none ≡ first_of (i + 1 - 1) (λ j. wire_refusal ns ws (j + 1))
  wires-more q = first_more_1 (λ j. wire_refusal ns ws j) i h e q

  pub wires-here : (n : ℕ) (r : Verdict) → i < n → r ≡ wire_refusal ns ws i → met r ≡ true
      → r ≡ first_of (n - 1) (λ j. wire_refusal ns ws (j + 1))
  wires-here n r l q m = first_here_1 (λ j. wire_refusal ns ws j) n i h l e q m

-- an obstacle: each test after those before it
module _ (v : ℕ) (os : List ℕ) (k : ℕ) where
  pub obstacle-x : obstacle_x2 v os k < obstacle_x1 v os k → refusal 11 k ≡ obstacle_refusal v os k
  unfolding obstacle_refusal
  obstacle-x h = rw (lt-ltb _ _ h)

  module _ (a : obstacle_x1 v os k ≤ obstacle_x2 v os k) where
    pub obstacle-y : obstacle_y2 v os k < obstacle_y1 v os k → refusal 11 k ≡ obstacle_refusal v os k
    unfolding obstacle_refusal
    obstacle-y h = rw (le-ltb _ _ a, lt-ltb _ _ h)

    module _ (b : obstacle_y1 v os k ≤ obstacle_y2 v os k) where
      pub obstacle_no_layer : obstacle_layer v os k ≡ 0 → refusal 20 k ≡ obstacle_refusal v os k
      unfolding obstacle_refusal
      obstacle_no_layer h = rw (le-ltb _ _ a, le-ltb _ _ b, eq-eqb _ _ h)

      module _ (c : obstacle_layer v os k ≡ 0 → ⊥) where
        pub obstacle_layer_high : most_layers < obstacle_layer v os k → refusal 20 k ≡ obstacle_refusal v os k
        unfolding obstacle_refusal
        obstacle_layer_high h = rw (le-ltb _ _ a, le-ltb _ _ b, ne_eqb _ _ c, lt-ltb _ _ h)

        pub obstacle-right : obstacle_layer v os k ≤ most_layers → none ≡ obstacle_refusal v os k
        unfolding obstacle_refusal
        obstacle-right h = rw (le-ltb _ _ a, le-ltb _ _ b, ne_eqb _ _ c, le-ltb _ _ h)

  pub obstacle-none : met (obstacle_refusal v os k) ≡ false → none ≡ obstacle_refusal v os k
  unfolding obstacle_refusal
  obstacle-none e =
      let reversed = ltb (obstacle_x2 v os k) (obstacle_x1 v os k) || ltb (obstacle_y2 v os k) (obstacle_y1 v os k) in
      let outside = eqb (obstacle_layer v os k) 0 || ltb most_layers (obstacle_layer v os k) in
      none_or (refused_if reversed 11 k) (refused_if outside 20 k) (none_if outside 20 k refl) e

-- a section, from its pair
pub stretch-part : (f : List ℕ) (k a e : ℕ) → a ≡ offset f k → e ≡ offset f k + extent f k → take (e - a) (drop a f) ≡ stretch f k
unfolding stretch
stretch-part f k a e p q = let s : e - a ≡ extent f k = omega arith in rw (s, p)

-- after 2 or 3 a section is empty, and the refusal is the file's; otherwise it is its stretch, and the net is looked at
module _ (f : List ℕ) where
  pub section_empty : (k : ℕ) → met (or_else (head_refusal f) (pairs_refusal f)) ≡ true → [] ≡ section_of f k
  unfolding section_of
  section_empty k e = rw e

  pub section_stretch : (k : ℕ) → met (or_else (head_refusal f) (pairs_refusal f)) ≡ false → stretch f k ≡ section_of f k
  unfolding section_of
  section_stretch k e = rw e

  pub read_head : (r : Verdict) → r ≡ or_else (head_refusal f) (pairs_refusal f) → met r ≡ true → r ≡ read_refusal f
  unfolding read_refusal
  read_head r q m = first_of_lem _ _ q m ∙ or_assoc (head_refusal f) (pairs_refusal f) _

  pub read_net : (r s : Verdict) → s ≡ or_else (head_refusal f) (pairs_refusal f) → met s ≡ false
      → r ≡ net_refusal (version_of f) (stretch f 0) (stretch f 1) (stretch f 2) → r ≡ read_refusal f
  unfolding read_refusal
  read_net r s p m q =
      let e : met (or_else (head_refusal f) (pairs_refusal f)) ≡ false = rw (← p) m in
      rest_of (or_else (head_refusal f) (pairs_refusal f)) _ p m
      (rw (← section_stretch 0 e, ← section_stretch 1 e, ← section_stretch 2 e) q)
      ∙ or_assoc (head_refusal f) (pairs_refusal f) _

  pub read_answer_lem : (r : Verdict) (l : List ℕ) (count : ℕ) → r ≡ read_refusal f → l ≡ nodes_of f → count ≡ node_count l → answer r count ≡ read_answer f
  unfolding read_answer
  read_answer_lem r l count p q n = rw (n, q, p)
