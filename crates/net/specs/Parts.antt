-- The parts of a file: of one made of three sections, and of one that is right.
-- Assumes nothing.
use Rattle.std.specs.Prelude.{ℕ, ◌+◌, ◌<◌, ◌≤◌, ◌≡◌, true, drop}
use Rattle.std.proofs.Common.{◌∙◌, lit<, arith, length-drop, take-append-drop, take_at, take_all}
use Rattle.std.proofs.Math.Path.{refl}
use mathlib.Core.List.{List, ◌++◌, append_assoc}
use Rattle.std.proofs.Math.ListN.{length, take}
use Rattle.std.proofs.Math.Seq.{length-take-le, take-add, drop_at, drop-drop}
use Rattle.laws.specs.Bytes.{le32, bytes16, bytes32}
use Rattle.laws.specs.Numbers.{Bytes, bytes16-here, bytes32-here, le16-bytes16, le32-bytes32, bytes_take, bytes_drop}
use Rattle.laws.specs.Sums.{by}
use Rattle.net.specs.Layout.{head_bytes}
use Rattle.net.specs.File.{version_of, pair_count, offset, extent, stretch, head_of, file_of}
use Rattle.net.specs.Refusal.{is_version, met, or_else, head_refusal, pairs_refusal, section_of}
use Rattle.net.specs.Versions.{version_low}
use Rattle.net.specs.Writing.{head-length, wires-after, obstacles-after, file-length}
use Rattle.net.specs.Accepted.{HeadRight}

-- q, where it stands behind p
part_at : (p q r : List ℕ) (a n : ℕ) → length p ≡ a → length q ≡ n → take n (drop a (p ++ (q ++ r))) ≡ q
part_at p q r a n e f = rw (drop_at p (q ++ r) a e) (take_at q r n f)

-- the file of three sections
module _ (v : ℕ) (ns ws os : List ℕ) (right : is_version v ≡ true) (small : head_bytes + length ns + length ws + length os < 4294967296) where
  nodes-extent : extent (file_of v ns ws os) 0 ≡ length ns
  unfolding file_of head_of
  nodes-extent = le32-bytes32 (length ns) (omega arith)

  wires-offset : offset (file_of v ns ws os) 1 ≡ head_bytes + length ns
  unfolding file_of head_of
  wires-offset = le32-bytes32 (head_bytes + length ns) (omega arith)

  wires-extent : extent (file_of v ns ws os) 1 ≡ length ws
  unfolding file_of head_of
  wires-extent = le32-bytes32 (length ws) (omega arith)

  obstacles-offset : offset (file_of v ns ws os) 2 ≡ head_bytes + length ns + length ws
  unfolding file_of head_of
  obstacles-offset = le32-bytes32 (head_bytes + length ns + length ws) (omega arith)

  obstacles-extent : extent (file_of v ns ws os) 2 ≡ length os
  unfolding file_of head_of
  obstacles-extent = le32-bytes32 (length os) (omega arith)

  nodes-offset : offset (file_of v ns ws os) 0 ≡ head_bytes
  unfolding file_of head_of
  nodes-offset = refl

  pub version_of_written : version_of (file_of v ns ws os) ≡ v
  unfolding file_of head_of
  version_of_written = le16-bytes16 v (omega (arith, version_low v right))

  pairs_three : pair_count (file_of v ns ws os) ≡ 3
  unfolding file_of head_of
  pairs_three = refl

  pub head_of_written : HeadRight (file_of v ns ws os)
  head_of_written =
      let l = file-length v ns ws os in
      let a = nodes-offset in
      let b = nodes-extent in
      let c = wires-offset in
      let d = wires-extent in
      let e = obstacles-offset in
      let f = obstacles-extent in
      record {
        long = omega arith;
        version_right = rw version_of_written right;
        three_pairs = pairs_three;
        nodes_at = a;
        wires_at = omega arith;
        obstacles_at = omega arith;
        end_at = omega arith;
      }

  pub nodes_of_written : stretch (file_of v ns ws os) 0 ≡ ns
  unfolding stretch file_of
  nodes_of_written =
      let head = head_of v (length ns) (length ws) (length os) in
      rw (nodes-extent, nodes-offset, append_assoc (head ++ ns) ws os, append_assoc head ns (ws ++ os))
      (part_at head ns (ws ++ os) head_bytes (length ns) (head-length v (length ns) (length ws) (length os)) refl)

  pub wires_of_written : stretch (file_of v ns ws os) 1 ≡ ws
  unfolding stretch file_of
  wires_of_written =
      let head = head_of v (length ns) (length ws) (length os) in
      rw (wires-extent, wires-offset, append_assoc (head ++ ns) ws os)
      (part_at (head ++ ns) ws os (head_bytes + length ns) (length ws) (wires-after v ns ws os) refl)

  pub obstacles_of_written : stretch (file_of v ns ws os) 2 ≡ os
  unfolding stretch file_of
  obstacles_of_written =
      let head = head_of v (length ns) (length ws) (length os) in
      rw (
        obstacles-extent,
        obstacles-offset,
        drop_at (head ++ ns ++ ws) os (head_bytes + length ns + length ws) (obstacles-after v ns ws os),
      )
      (take_all (length os) os (omega arith))

-- a section of a file of bytes is bytes
pub bytes_section : (f : List ℕ) → Bytes f → (k : ℕ) → Bytes (section_of f k)
unfolding section_of stretch
bytes_section f b k =
    by (met (or_else (head_refusal f) (pairs_refusal f)))
    (λ y i. rw y (lit< tt))
    (λ z. rw z (bytes_take (extent f k) (drop (offset f k) f) (bytes_drop (offset f k) f b)))

-- a file that is right is that of its sections
module _ (f : List ℕ) (h : HeadRight f) where
  pub length_section : (k : ℕ) → offset f k + extent f k ≤ length f → length (stretch f k) ≡ extent f k
  unfolding stretch
  length_section k i = length-take-le (extent f k) (drop (offset f k) f) (rw (length-drop (offset f k) f) (omega arith))

  module _ (b : Bytes f) where
    then32 : (n m : ℕ) (p : List ℕ) → take n f ≡ p → n + 4 ≤ length f → le32 f n ≡ m → take (n + 4) f ≡ p ++ bytes32 m
    then32 n m p e l q = take-add n 4 f ∙ rw (e, bytes32-here f b n m l q)

    head_of_file : take head_bytes f ≡ head_of (version_of f) (extent f 0) (extent f 1) (extent f 2)
    unfolding head_of
    head_of_file =
        let l = h.long in
        let x0 = h.nodes_at in
        let x1 = h.wires_at in
        let x2 = h.obstacles_at in
        let a4 : take 4 f ≡ bytes16 (version_of f) ++ bytes16 3 =
        take-add 2 2 f ∙ rw (bytes16-here f b 0 (version_of f) (omega arith) refl, bytes16-here f b 2 3 (omega arith) h.three_pairs) in
        let a8 = then32 4 head_bytes _ a4 (omega arith) x0 in
        let a12 = then32 8 (extent f 0) _ a8 (omega arith) refl in
        let a16 = then32 12 (head_bytes + extent f 0) _ a12 (omega arith) (omega arith) in
        let a20 = then32 16 (extent f 1) _ a16 (omega arith) refl in
        let a24 = then32 20 (head_bytes + extent f 0 + extent f 1) _ a20 (omega arith) (omega arith) in
        then32 24 (extent f 2) _ a24 (omega arith) refl

    sections_of_file : stretch f 0 ++ (stretch f 1 ++ stretch f 2) ≡ drop head_bytes f
    unfolding stretch
    sections_of_file =
        let all : length (drop (offset f 2) f) ≤ extent f 2 = rw (length-drop (offset f 2) f) (omega (arith, h.end_at)) in
        rw (take_all (extent f 2) (drop (offset f 2) f) all, h.obstacles_at, ← drop-drop (extent f 1) (offset f 1) f)
        (rw (take-append-drop (extent f 1) (drop (offset f 1) f), h.wires_at, ← drop-drop (extent f 0) (offset f 0) f)
        (rw (take-append-drop (extent f 0) (drop (offset f 0) f), h.nodes_at)))

    pub file_of_sections : file_of (version_of f) (stretch f 0) (stretch f 1) (stretch f 2) ≡ f
    unfolding file_of
    file_of_sections =
        let e = h.end_at in
        let x0 = h.nodes_at in
        let x1 = h.wires_at in
        let x2 = h.obstacles_at in
        rw (
          length_section 0 (omega arith),
          length_section 1 (omega arith),
          length_section 2 (omega arith),
          ← head_of_file,
          append_assoc (take head_bytes f ++ stretch f 0) (stretch f 1) (stretch f 2),
          append_assoc (take head_bytes f) (stretch f 0) (stretch f 1 ++ stretch f 2),
          sections_of_file,
        )
        (take-append-drop head_bytes f)
