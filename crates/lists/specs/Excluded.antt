-- What 12 to 14 say of small lists, from the definitions: no answer that keeps the promise of the check is another one there.
-- Assumes nothing.
use Rattle.std.specs.Prelude.{ℕ, ◌≡◌, refl, List, [], ◌∷◌}
use Rattle.laws.specs.Sum.{any}
use Rattle.net.specs.Net.{wire_length, point_x, point_y, near, barred}
use Rattle.net.specs.Stage.{stage_under}
use Rattle.net.specs.Refusal.{Verdict, none, refusal, first_of}
use Rattle.pieces.specs.Legal.{after}
use Rattle.pieces.specs.JumperList.{point_refusal, entry_refusal, list_refusal}

-- the refusal of a list at a stage under a clearance; the net has one wire of 13 steps, from (13,0) to (0,0), on a layer, and obstacles of a version
abbrev pub refused_with : ℕ → ℕ → ℕ → List ℕ → ℕ → List ℕ → Verdict
refused_with clearance layer version obstacles stage list =
    list_refusal (stage_under version (0 ∷ 0 ∷ 0 ∷ 0 ∷ 1 ∷ 13 ∷ 0 ∷ 0 ∷ 0 ∷ 1 ∷ []) (0 ∷ layer ∷ 1 ∷ []) obstacles stage clearance) list

abbrev pub refused_on : ℕ → ℕ → List ℕ → ℕ → List ℕ → Verdict
refused_on = refused_with 0

-- the wire on layer 2, and an obstacle of version 1 at (7,0), which is position 6
abbrev pub refused : ℕ → List ℕ → Verdict
refused stage list = refused_on 2 1 (7 ∷ 0 ∷ 0 ∷ 0 ∷ 7 ∷ 0 ∷ 0 ∷ 0 ∷ []) stage list

-- the same under a clearance, the obstacle at (7,1), which holds no point of the wire
abbrev pub refused_near : ℕ → List ℕ → Verdict
refused_near clearance list = refused_with clearance 2 1 (7 ∷ 0 ∷ 1 ∷ 0 ∷ 7 ∷ 0 ∷ 1 ∷ 0 ∷ []) 2 list

-- the same with that obstacle of version 2, of a layer
abbrev pub refused_under : ℕ → ℕ → List ℕ → Verdict
refused_under layer stage list = refused_on 2 2 (7 ∷ 0 ∷ 0 ∷ 0 ∷ 7 ∷ 0 ∷ 0 ∷ 0 ∷ layer ∷ []) stage list

-- the refusal of a list on two wires, of 13 steps from (13,0) to (0,0) on layer 3, and of 5 from (13,5) to (13,0) on layer 2, under obstacles of version 2
abbrev pub refused_on_two : List ℕ → List ℕ → Verdict
refused_on_two obstacles list =
    list_refusal (stage_under 2 (0 ∷ 0 ∷ 0 ∷ 0 ∷ 1 ∷ 13 ∷ 0 ∷ 0 ∷ 0 ∷ 0 ∷ 13 ∷ 0 ∷ 5 ∷ 0 ∷ 1 ∷ []) (0 ∷ 3 ∷ 1 ∷ 1 ∷ 2 ∷ 1 ∷ []) obstacles 3 0) list

pub record SmallLists : Type 0 where
  pub two_entries : refused 2 (1 ∷ 5 ∷ 0 ∷ 1 ∷ 12 ∷ 0 ∷ []) ≡ none
  -- a part of an entry, though no whole one is wrong
  pub not_threes : refused 2 (1 ∷ 5 ∷ 0 ∷ 1 ∷ []) ≡ refusal 12 0
  pub entry_twice : refused 2 (1 ∷ 5 ∷ 0 ∷ 1 ∷ 5 ∷ 0 ∷ []) ≡ refusal 12 1
  -- the second entry is not after the first, and lies outside
  pub twelve_first : refused 2 (1 ∷ 5 ∷ 0 ∷ 1 ∷ 0 ∷ 0 ∷ []) ≡ refusal 12 1
  -- the second entry is not after the first, which is barred
  pub entries_in_order : refused 2 (1 ∷ 6 ∷ 0 ∷ 1 ∷ 5 ∷ 0 ∷ []) ≡ refusal 14 0
  pub wire_0 : refused 2 (0 ∷ 5 ∷ 0 ∷ []) ≡ refusal 13 0
  pub no_such_wire : refused 2 (2 ∷ 5 ∷ 0 ∷ []) ≡ refusal 13 0
  pub position_at_node : refused 2 (1 ∷ 0 ∷ 0 ∷ []) ≡ refusal 13 0
  pub position_at_length : refused 2 (1 ∷ 13 ∷ 0 ∷ []) ≡ refusal 13 0
  pub position_of_16_bits : refused 2 (1 ∷ 5 ∷ 1 ∷ []) ≡ refusal 13 0
  -- the wire is absent, and the point barred
  pub absent_wire : refused 1 (1 ∷ 6 ∷ 0 ∷ []) ≡ refusal 13 0
  pub barred_point : refused 2 (1 ∷ 6 ∷ 0 ∷ []) ≡ refusal 14 0
  -- an obstacle of version 1 bars points of every wire, also of one on layer 16
  pub first_version : refused_on 16 1 (7 ∷ 0 ∷ 0 ∷ 0 ∷ 7 ∷ 0 ∷ 0 ∷ 0 ∷ []) 16 (1 ∷ 6 ∷ 0 ∷ []) ≡ refusal 14 0
  -- one of version 2 bars points of the wires whose layer is at most its own
  pub layer_below : refused_under 1 2 (1 ∷ 6 ∷ 0 ∷ []) ≡ none
  pub layer_same : refused_under 2 2 (1 ∷ 6 ∷ 0 ∷ []) ≡ refusal 14 0
  pub layer_above : refused_under 3 2 (1 ∷ 6 ∷ 0 ∷ []) ≡ refusal 14 0
  -- the stage has no part in it
  pub later_stage : refused_under 2 3 (1 ∷ 6 ∷ 0 ∷ []) ≡ refusal 14 0
  pub two_wires : refused_on_two [] (1 ∷ 7 ∷ 0 ∷ 2 ∷ 4 ∷ 0 ∷ []) ≡ none
  pub falling_wires : refused_on_two [] (2 ∷ 4 ∷ 0 ∷ 1 ∷ 7 ∷ 0 ∷ []) ≡ refusal 12 1
  -- an entry is judged by its own wire, not by that of the entry before: by its length, by its line, by its layer
  pub own_length : refused_on_two [] (1 ∷ 7 ∷ 0 ∷ 2 ∷ 7 ∷ 0 ∷ []) ≡ refusal 13 1
  pub own_line : refused_on_two (13 ∷ 0 ∷ 3 ∷ 0 ∷ 13 ∷ 0 ∷ 3 ∷ 0 ∷ 16 ∷ []) (1 ∷ 7 ∷ 0 ∷ 2 ∷ 2 ∷ 0 ∷ []) ≡ refusal 14 1
  pub own_layer : refused_on_two (0 ∷ 0 ∷ 0 ∷ 0 ∷ 13 ∷ 0 ∷ 5 ∷ 0 ∷ 2 ∷ []) (1 ∷ 7 ∷ 0 ∷ 2 ∷ 2 ∷ 0 ∷ []) ≡ refusal 14 1
  -- under a clearance the points so far from an obstacle are barred, the next is not; 13 comes before 14 as without
  pub no_clearance : refused_near 0 (1 ∷ 6 ∷ 0 ∷ []) ≡ none
  pub clearance_1 : refused_near 1 (1 ∷ 6 ∷ 0 ∷ []) ≡ refusal 14 0
  pub side_of_1 : refused_near 1 (1 ∷ 5 ∷ 0 ∷ 1 ∷ 8 ∷ 0 ∷ []) ≡ refusal 14 0
  pub behind_1 : refused_near 1 (1 ∷ 4 ∷ 0 ∷ 1 ∷ 8 ∷ 0 ∷ []) ≡ none
  pub all_near : refused_near 65535 (1 ∷ 1 ∷ 0 ∷ []) ≡ refusal 14 0
  pub outside_first : refused_near 65535 (1 ∷ 13 ∷ 0 ∷ []) ≡ refusal 13 0
  pub order_first : refused_near 1 (1 ∷ 4 ∷ 0 ∷ 1 ∷ 4 ∷ 0 ∷ []) ≡ refusal 12 1

pub small_lists : SmallLists
unfolding list_refusal entry_refusal point_refusal after first_of wire_length barred near point_x point_y any
small_lists =
    record {
      two_entries = refl;
      not_threes = refl;
      entry_twice = refl;
      twelve_first = refl;
      entries_in_order = refl;
      wire_0 = refl;
      no_such_wire = refl;
      position_at_node = refl;
      position_at_length = refl;
      position_of_16_bits = refl;
      absent_wire = refl;
      barred_point = refl;
      first_version = refl;
      layer_below = refl;
      layer_same = refl;
      layer_above = refl;
      later_stage = refl;
      two_wires = refl;
      falling_wires = refl;
      own_length = refl;
      own_line = refl;
      own_layer = refl;
      no_clearance = refl;
      clearance_1 = refl;
      side_of_1 = refl;
      behind_1 = refl;
      all_near = refl;
      outside_first = refl;
      order_first = refl;
    }
