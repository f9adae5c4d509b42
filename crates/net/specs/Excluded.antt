-- What reading, writing, the stage and a clearance answer on small files, from their definitions: no program that keeps its promise answers anything else there.
-- Assumes nothing.
use Rattle.std.specs.Prelude.{ℕ, ◌≡◌, refl, Bool, true, false, length, drop}
use mathlib.Core.List.{List, [], ◌∷◌, ◌++◌, replicate}
use Rattle.laws.specs.Bytes.{bytes16, bytes32}
use Rattle.laws.specs.Sum.{any}
use Rattle.net.specs.Net.{near, barred, point_x, point_y}
use Rattle.net.specs.File.{head_of, file_of, pairs_right, stretch}
use Rattle.net.specs.Stage.{stage_under}
use Rattle.net.specs.NoClearance.{stage_of}
use Rattle.net.specs.Refusal.{none, refusal, first_of, is_version, stage_refusal, head_refusal, pairs_refusal, section_of, nodes_of, wires_of, obstacles_of, sections_refusal, node_refusal, wire_refusal, obstacle_refusal, net_refusal, read_refusal, answer, read_answer, write_refusal, write_answer, write_buffer}
use Rattle.net.specs.Call.{call_refusal}

-- two nodes, (1, 2) and (1, 9), a wire of layer 2 between them, an obstacle
abbrev pub nodes : ℕ → List ℕ
nodes flags = 1 ∷ 0 ∷ 2 ∷ 0 ∷ 1 ∷ 1 ∷ 0 ∷ 9 ∷ 0 ∷ flags ∷ []

abbrev pub wires : List ℕ
wires = 0 ∷ 2 ∷ 7 ∷ []

abbrev pub obstacles : List ℕ
obstacles = 1 ∷ 0 ∷ 4 ∷ 0 ∷ 1 ∷ 0 ∷ 5 ∷ 0 ∷ []

abbrev pub file : ℕ → List ℕ
file flags = file_of 1 (nodes flags) wires obstacles

-- two obstacles of version 2, each with its lower x (the upper is 1) and its layer
abbrev pub layered : ℕ → ℕ → ℕ → ℕ → List ℕ
layered low layer next other =
    low ∷ 0 ∷ 4 ∷ 0 ∷ 1 ∷ 0 ∷ 5 ∷ 0 ∷ layer ∷ next ∷ 0 ∷ 4 ∷ 0 ∷ 1 ∷ 0 ∷ 5 ∷ 0 ∷ other ∷ []

abbrev pub layered_file : ℕ → ℕ → ℕ → ℕ → List ℕ
layered_file low layer next other = file_of 2 (nodes 3) wires (layered low layer next other)

pub record SmallFiles : Type 0 where
  -- flags of 3 are allowed; flags of 4 are 7, and the place is the number of the node
  pub flags_3 : read_answer (file 3) ≡ record { number = 0; place = 0; count = 2 }
  pub flags_4 : read_answer (file 4) ≡ record { number = 7; place = 1; count = 0 }
  -- 4 comes before 6: 257 nodes, and an obstacle of one byte
  pub four_before_six : sections_refusal 1 (replicate 1285 0) [] (0 ∷ []) ≡ refusal 4 0
  -- ends are added as whole numbers: here each offset would be the end of the section before if 28 + 4294967268 were 0
  pub sum_wraps :
      read_refusal (bytes16 1 ++ bytes16 3 ++ bytes32 28 ++ bytes32 4294967268 ++ bytes32 0 ++ bytes32 28 ++ bytes32 28 ++ bytes32 0) ≡ refusal 3 0
  -- each section is that part of the file, not one byte late nor one byte long
  pub nodes_part : nodes_of (file 3) ≡ nodes 3
  pub wires_part : wires_of (file 3) ≡ wires
  pub obstacles_part : obstacles_of (file 3) ≡ obstacles
  -- after 3 (a byte behind the last section) and after 2 (version 3) it is empty
  pub empty_after_3 : nodes_of (file 3 ++ 0 ∷ []) ≡ []
  pub empty_after_2 : nodes_of (bytes16 3 ++ drop 2 (file 3)) ≡ []
  -- versions 1 and 2 are read, 0 and 3 are none
  pub version_2 : read_answer (layered_file 1 16 1 1) ≡ record { number = 0; place = 0; count = 2 }
  pub version_0 : read_refusal (bytes16 0 ++ drop 2 (file 3)) ≡ refusal 2 0
  pub version_3 : read_refusal (bytes16 3 ++ drop 2 (layered_file 1 16 1 1)) ≡ refusal 2 0
  -- obstacles go in nines in version 2, in eights in version 1
  pub eight_in_2 : read_refusal (bytes16 2 ++ drop 2 (file 3)) ≡ refusal 6 0
  pub nine_in_1 : read_refusal (bytes16 1 ++ drop 2 (layered_file 1 16 1 1)) ≡ refusal 6 0
  -- layers 0 and 17 are out of range, and the place is the number of the obstacle
  pub layer_0 : read_refusal (layered_file 1 1 1 0) ≡ refusal 20 1
  pub layer_17 : read_refusal (layered_file 1 17 1 1) ≡ refusal 20 0
  -- 11 comes before 20 on a record, and a record's 20 before the next record's 11
  pub eleven_first : read_refusal (layered_file 2 0 1 1) ≡ refusal 11 0
  pub twenty_next : read_refusal (layered_file 1 0 2 1) ≡ refusal 20 0
  -- an obstacle of layer 1 does not bar the points of a wire of layer 2; one of layer 2 does, and so does one of version 1
  pub lower_layer : (stage_of 2 (nodes 3) wires (layered 1 1 1 1) 2).barred 1 4 ≡ false
  pub same_layer : (stage_of 2 (nodes 3) wires (layered 1 1 1 2) 2).barred 1 4 ≡ true
  pub first_version : (stage_of 1 (nodes 3) wires obstacles 2).barred 1 4 ≡ true
  -- stage 16 is a stage; 0 and 17 are none
  pub stage_16 : call_refusal 16 (file 3) ≡ none
  pub stage_0 : call_refusal 0 (file 3) ≡ refusal 1 0
  pub stage_17 : call_refusal 17 (file 3) ≡ refusal 1 0
  -- a wire of a layer above the stage is absent
  pub layer_above : (stage_of 1 (nodes 3) wires obstacles 1).present 1 ≡ false
  pub layer_of_stage : (stage_of 1 (nodes 3) wires obstacles 2).present 1 ≡ true
  -- the bytes of a written head
  pub head_bytes_lem :
      head_of 1 1280 765 8 ≡ 1 ∷ 0 ∷ 3 ∷ 0 ∷ 28 ∷ 0 ∷ 0 ∷ 0 ∷ 0 ∷ 5 ∷ 0 ∷ 0 ∷ 28 ∷ 5 ∷ 0 ∷ 0 ∷ 253 ∷ 2 ∷ 0 ∷ 0 ∷ 25 ∷ 8 ∷ 0 ∷ 0 ∷ 8 ∷ 0 ∷ 0 ∷ 0 ∷ []
  -- writing tries all 32 bits of the version, and tries it before the sections: with 65537 the same sections meet 2, with version 2 they meet 4
  pub version_65537 : write_refusal 65537 [] [] [] 0 ≡ refusal 2 0
  pub four_after_version : write_refusal 2 [] [] [] 0 ≡ refusal 4 0
  -- with one byte too few lent, writing is 16 with the bytes of the whole file, and the buffer holds what it held
  pub written_short : (out : List ℕ) → length out ≡ 48 → write_answer 1 (nodes 3) wires obstacles (length out) ≡ record { number = 16; place = 49; count = 0 }
  pub kept_short : (out : List ℕ) → length out ≡ 48 → write_buffer 1 (nodes 3) wires obstacles out ≡ out

pub small_files : SmallFiles
unfolding is_version near barred point_x point_y any pairs_right stretch file_of head_of stage_of first_of stage_refusal head_refusal pairs_refusal section_of sections_refusal node_refusal wire_refusal obstacle_refusal net_refusal read_refusal answer read_answer write_refusal write_answer write_buffer
small_files =
    record {
      flags_3 = refl;
      flags_4 = refl;
      four_before_six = refl;
      sum_wraps = refl;
      nodes_part = refl;
      wires_part = refl;
      obstacles_part = refl;
      empty_after_3 = refl;
      empty_after_2 = refl;
      version_2 = refl;
      version_0 = refl;
      version_3 = refl;
      eight_in_2 = refl;
      nine_in_1 = refl;
      layer_0 = refl;
      layer_17 = refl;
      eleven_first = refl;
      twenty_next = refl;
      lower_layer = refl;
      same_layer = refl;
      first_version = refl;
      stage_16 = refl;
      stage_0 = refl;
      stage_17 = refl;
      layer_above = refl;
      layer_of_stage = refl;
      head_bytes_lem = refl;
      version_65537 = refl;
      four_after_version = refl;
      written_short = λ out short. rw short;
      kept_short = λ out short. rw short;
    }

-- position t of the wire is barred under a clearance by one obstacle of version 1; position 4 is the point (1, 5), 3 is (1, 6), 2 is (1, 7)
abbrev pub barred_under : ℕ → ℕ → ℕ → ℕ → ℕ → ℕ → Bool
barred_under clearance t x1 y1 x2 y2 =
    (stage_under 1 (nodes 3) wires (bytes16 x1 ++ bytes16 y1 ++ bytes16 x2 ++ bytes16 y2) 2 clearance).barred 1 t

-- the point (x, y) lies near one obstacle of one point
abbrev pub near_point : ℕ → ℕ → ℕ → ℕ → ℕ → Bool
near_point clearance x y a b = near 1 clearance (bytes16 a ++ bytes16 b ++ bytes16 a ++ bytes16 b) 0 x y

pub record SmallClearances : Type 0 where
  -- so far outside in y is barred, one more is not, above the obstacle and below it
  pub at_border : barred_under 0 4 1 4 1 5 ≡ true
  pub behind_border : barred_under 0 3 1 4 1 5 ≡ false
  pub above : barred_under 1 3 1 4 1 5 ≡ true
  pub above_more : barred_under 1 2 1 4 1 5 ≡ false
  pub below : barred_under 2 3 1 8 1 8 ≡ true
  pub below_more : barred_under 1 3 1 8 1 8 ≡ false
  -- the same in x, right of the point and left of it
  pub right : barred_under 2 4 3 5 3 5 ≡ true
  pub right_more : barred_under 1 4 3 5 3 5 ≡ false
  pub left : barred_under 1 4 0 5 0 5 ≡ true
  pub left_more : barred_under 0 4 0 5 0 5 ≡ false
  -- so far in both is barred: corners are square; so far in one of them only is not
  pub corner : barred_under 2 2 3 4 3 5 ≡ true
  pub near_in_x_only : barred_under 2 2 3 3 3 4 ≡ false
  pub near_in_y_only : barred_under 2 2 4 4 4 5 ≡ false
  -- sums do not wrap: at both ends of the coordinates a clearance bars no less
  pub last_x : near_point 1 65535 7 65535 7 ≡ true
  pub last_y : near_point 1 7 65535 7 65535 ≡ true
  pub before_last : near_point 1 65534 7 65535 7 ≡ true
  pub first_x : near_point 1 0 7 0 7 ≡ true
  pub first_y : near_point 1 7 0 7 0 ≡ true
  pub greatest : near_point 65535 0 65535 65535 0 ≡ true
  pub greatest_less : near_point 65534 0 65535 65535 0 ≡ false
  -- an obstacle of a layer below the wire's bars nothing, however large the clearance
  pub lower_layer_far : (stage_under 2 (nodes 3) wires (layered 1 1 1 1) 2 65535).barred 1 4 ≡ false
  pub same_layer_near : (stage_under 2 (nodes 3) wires (layered 1 1 1 2) 2 1).barred 1 3 ≡ true

pub small_clearances : SmallClearances
unfolding near barred point_x point_y any
small_clearances =
    record {
      at_border = refl;
      behind_border = refl;
      above = refl;
      above_more = refl;
      below = refl;
      below_more = refl;
      right = refl;
      right_more = refl;
      left = refl;
      left_more = refl;
      corner = refl;
      near_in_x_only = refl;
      near_in_y_only = refl;
      last_x = refl;
      last_y = refl;
      before_last = refl;
      first_x = refl;
      first_y = refl;
      greatest = refl;
      greatest_less = refl;
      lower_layer_far = refl;
      same_layer_near = refl;
    }
