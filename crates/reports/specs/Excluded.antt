-- What report answers and writes on small nets, from its promise: no call that keeps it answers or writes anything else there.
-- Assumes nothing.
use Rattle.std.specs.Prelude.{ℕ, ◌*◌, ◌≤◌, ◌<◌, ◌≡◌, refl, true, false, length, drop}
use Rattle.std.proofs.Common.{sym, ◌∙◌}
use mathlib.Core.List.{List, [], ◌∷◌, ◌++◌, flat_map}
use Rattle.laws.specs.Sum.{sum, any, lowest, highest}
use Rattle.laws.specs.Gather.{gather}
use Rattle.net.specs.Layout.{record_bytes}
use Rattle.net.specs.Net.{wire_length, point_x, point_y, near, barred}
use Rattle.net.specs.File.{file_of, head_of, pairs_right, stretch}
use Rattle.net.specs.Refusal.{Verdict, none, refusal, met, answer, stage_refusal, read_refusal, is_version, head_refusal, pairs_refusal, net_refusal, sections_refusal, node_refusal, wire_refusal, obstacle_refusal, first_of, section_of}
use Rattle.net.specs.Call.{net_at, call_refusal}
use Rattle.pieces.specs.Piece.{weight_of, has_gate, has_source, is_harmful}
use Rattle.pieces.specs.Legal.{listed, after}
use Rattle.pieces.specs.Name.{cut_at, first_jumper, last_jumper, joins, follow, lowest_node, step_name, named}
use Rattle.pieces.specs.JumperList.{point_refusal, entry_refusal, list_refusal, set_of}
use Rattle.pieces.specs.Report.{node_names, stretch_names, piece_names, flags_of, has_layer, layers_of, layer_count, lowest_layer, record_of, report_of}
use Rattle.records.specs.Excluded.{bytes, two_jumpers}
use Rattle.reports.specs.Promise.{piece_count, pieces_buffer, report_answer, report_buffer}
use Rattle.reports.specs.Reporting.{call_refused_answer, call_refused_buffer, list_refused_answer, list_refused_buffer, short-answer, short-buffer, done-answer, done-buffer}

-- the file of a version: node 0 at (0,0), a gate, and node 1 at (13,0) with given flags; wire 1 of a given layer, factor 1; obstacles
abbrev pub file_of_a : ℕ → ℕ → ℕ → List ℕ → List ℕ
file_of_a version flags layer obstacles = file_of version (0 ∷ 0 ∷ 0 ∷ 0 ∷ 1 ∷ 13 ∷ 0 ∷ 0 ∷ 0 ∷ flags ∷ []) (0 ∷ layer ∷ 1 ∷ []) obstacles

-- without an obstacle
abbrev pub file_a : ℕ → ℕ → List ℕ
file_a flags layer = file_of_a 1 flags layer []

-- the corners of an obstacle at (7,0), which is position 6
abbrev pub corners : List ℕ
corners = 7 ∷ 0 ∷ 0 ∷ 0 ∷ 7 ∷ 0 ∷ 0 ∷ 0 ∷ []

-- with that obstacle, of a given layer; the wire is on layer 2
abbrev pub file_b : ℕ → List ℕ
file_b layer = file_of_a 2 1 2 (corners ++ layer ∷ [])

-- net A at the end of the coordinates: node 0 at (65522,0) and node 1 at (65535,0), and an obstacle at (65530,0), which is position 5
abbrev pub file_end : List ℕ
file_end =
    file_of 1 (242 ∷ 255 ∷ 0 ∷ 0 ∷ 1 ∷ 255 ∷ 255 ∷ 0 ∷ 0 ∷ 1 ∷ []) (0 ∷ 2 ∷ 1 ∷ []) (250 ∷ 255 ∷ 0 ∷ 0 ∷ 250 ∷ 255 ∷ 0 ∷ 0 ∷ [])

-- with room enough, report answers n records and writes these
abbrev pub Reports : ℕ → ℕ → ℕ → List ℕ → List ℕ → ℕ → List ℕ → Type 0
Reports stage limit clearance file list n records =
    (out : List ℕ) → record_bytes * n ≤ length out →
    (report_answer stage clearance file list (length out) ≡ answer none n) × (report_buffer stage limit clearance file list out ≡ records ++ drop (record_bytes * n) out)

reports : (stage limit clearance : ℕ) (file list : List ℕ) (n : ℕ) (records : List ℕ) → met (call_refusal stage file) ≡ false → list_refusal (net_at file stage clearance) list ≡ none →
    piece_count (net_at file stage clearance) list ≡ n → report_of (net_at file stage clearance) limit (set_of list) ≡ records → Reports stage limit clearance file list n records
unfolding pieces_buffer
reports stage limit clearance file list n records call listed count bytes out room =
    let fits : record_bytes * piece_count (net_at file stage clearance) list ≤ length out = rw count room in (
      sym (done-answer stage clearance file list limit out call listed fits n (sym count)),
      sym (done-buffer stage clearance file list limit out call listed fits) ∙ rw (bytes, count),
    )

-- report refuses, and the buffer holds what it held
abbrev pub Refuses : ℕ → ℕ → ℕ → List ℕ → List ℕ → Verdict → List ℕ → Type 0
Refuses stage limit clearance file list r out = (report_answer stage clearance file list (length out) ≡ answer r 0) × (report_buffer stage limit clearance file list out ≡ out)

refuses_call : (stage limit clearance : ℕ) (file list : List ℕ) (r : Verdict) → call_refusal stage file ≡ r → met r ≡ true → (out : List ℕ) → Refuses stage limit clearance file list r out
refuses_call stage limit clearance file list r e m out =
    let h : met (call_refusal stage file) ≡ true = rw e m in
    (sym (rw e at (call_refused_answer stage clearance file list limit out h)), sym (call_refused_buffer stage clearance file list limit out h))

refuses_list : (stage limit clearance : ℕ) (file list : List ℕ) (r : Verdict) → met (call_refusal stage file) ≡ false → list_refusal (net_at file stage clearance) list ≡ r → met r ≡ true →
    (out : List ℕ) → Refuses stage limit clearance file list r out
refuses_list stage limit clearance file list r call e m out =
    let h : met (list_refusal (net_at file stage clearance) list) ≡ true = rw e m in
    (sym (rw e at (list_refused_answer stage clearance file list limit out call h)), sym (list_refused_buffer stage clearance file list limit out call h))

refuses_lent : (stage limit clearance : ℕ) (file list : List ℕ) (n : ℕ) → met (call_refusal stage file) ≡ false → list_refusal (net_at file stage clearance) list ≡ none →
    piece_count (net_at file stage clearance) list ≡ n → (out : List ℕ) → length out < record_bytes * n → Refuses stage limit clearance file list (refusal 16 (record_bytes * n)) out
refuses_lent stage limit clearance file list n call listed count out less =
    let short : length out < record_bytes * piece_count (net_at file stage clearance) list = rw count less in (
      sym (short-answer stage clearance file list limit out call listed short (record_bytes * n) (rw count)),
      sym (short-buffer stage clearance file list limit out call listed short),
    )

-- a jumper on wire 1, at position 6, 5 or 4
abbrev pub at_six : List ℕ
at_six = 1 ∷ 6 ∷ 0 ∷ []

abbrev pub at_five : List ℕ
at_five = 1 ∷ 5 ∷ 0 ∷ []

abbrev pub at_four : List ℕ
at_four = 1 ∷ 4 ∷ 0 ∷ []

pub record SmallReports : Type 0 where
  -- document 01's: one piece, heavier than the limit
  pub one_piece : Reports 1 12 0 (file_a 1 1) [] 1 (bytes 0 0 13 5 1 1 1)
  -- as heavy as the limit: not harmful
  pub at_limit : Reports 1 13 0 (file_a 1 1) [] 1 (bytes 0 0 13 1 1 1 1)
  -- with a source: not harmful
  pub with_source_lem : Reports 1 0 0 (file_a 2 1) [] 1 (bytes 0 0 13 3 1 1 1)
  -- an absent wire joins and weighs nothing
  pub absent_wire : Reports 1 0 0 (file_a 1 2) [] 2 (bytes 0 0 0 1 0 0 0 ++ bytes 1 0 0 1 0 0 0)
  pub of_layer_2 : Reports 2 12 0 (file_a 1 2) [] 1 (bytes 0 0 13 5 2 1 2)
  -- the steps above the last jumper, those below the first, and the stretch between them
  pub three_pieces : Reports 1 3 0 (file_a 1 1) two_jumpers 3 (bytes 0 0 4 5 1 1 1 ++ bytes 1 0 3 1 1 1 1 ++ bytes 1 3 6 0 1 1 1)
  -- a jumper at position 6 of a wire of layer 2: an obstacle of layer 1 does not bar it; one of layer 2 does, and so does one of version 1
  pub lower_layer : Reports 2 6 0 (file_b 1) at_six 2 (bytes 0 0 7 5 2 1 2 ++ bytes 1 0 6 1 2 1 2)
  pub same_layer : (out : List ℕ) → Refuses 2 6 0 (file_b 2) at_six (refusal 14 0) out
  pub first_version : (out : List ℕ) → Refuses 2 6 0 (file_of_a 1 1 2 corners) at_six (refusal 14 0) out
  -- a point as far from the obstacle as the clearance is barred, the next one is not; an obstacle of a layer below the wire's bars none
  pub near_obstacle : (out : List ℕ) → Refuses 2 6 1 (file_b 2) at_five (refusal 14 0) out
  pub beside_it : Reports 2 6 0 (file_b 2) at_five 2 (bytes 0 0 8 5 2 1 2 ++ bytes 1 0 5 1 2 1 2)
  pub behind_it : Reports 2 6 1 (file_b 2) at_four 2 (bytes 0 0 9 5 2 1 2 ++ bytes 1 0 4 1 2 1 2)
  pub lower_layer_far : Reports 2 6 65535 (file_b 1) at_six 2 (bytes 0 0 7 5 2 1 2 ++ bytes 1 0 6 1 2 1 2)
  -- sums do not wrap: the point at 65534 lies 4 outside the obstacle
  pub at_the_end : (out : List ℕ) → Refuses 2 6 10 file_end (1 ∷ 1 ∷ 0 ∷ []) (refusal 14 0) out
  -- 20, before 12 on the list
  pub layer_before_list : (out : List ℕ) → Refuses 2 6 0 (file_b 17) (1 ∷ []) (refusal 20 0) out
  -- 16 with the bytes that all records need
  pub one_byte_short : (out : List ℕ) → length out < 36 → Refuses 1 3 0 (file_a 1 1) two_jumpers (refusal 16 36) out
  -- 13, however few bytes are lent
  pub list_before_16 : (out : List ℕ) → Refuses 1 3 0 (file_a 1 1) (1 ∷ 13 ∷ 0 ∷ []) (refusal 13 0) out
  -- 1, whatever file and list are
  pub stage_first : (file list out : List ℕ) → Refuses 17 3 0 file list (refusal 1 0) out

pub small-reports : SmallReports
unfolding file_of head_of pairs_right stretch stage_refusal read_refusal is_version head_refusal pairs_refusal net_refusal sections_refusal node_refusal wire_refusal obstacle_refusal first_of section_of wire_length barred near point_x point_y sum any lowest highest gather flat_map weight_of listed cut_at first_jumper last_jumper joins follow lowest_node step_name named after point_refusal entry_refusal list_refusal node_names stretch_names piece_names has_gate has_source is_harmful flags_of has_layer layers_of layer_count lowest_layer record_of report_of
small-reports =
    record {
      one_piece = reports 1 12 0 (file_a 1 1) [] 1 (bytes 0 0 13 5 1 1 1) refl refl refl refl;
      at_limit = reports 1 13 0 (file_a 1 1) [] 1 (bytes 0 0 13 1 1 1 1) refl refl refl refl;
      with_source_lem = reports 1 0 0 (file_a 2 1) [] 1 (bytes 0 0 13 3 1 1 1) refl refl refl refl;
      absent_wire = reports 1 0 0 (file_a 1 2) [] 2 (bytes 0 0 0 1 0 0 0 ++ bytes 1 0 0 1 0 0 0) refl refl refl refl;
      of_layer_2 = reports 2 12 0 (file_a 1 2) [] 1 (bytes 0 0 13 5 2 1 2) refl refl refl refl;
      three_pieces = reports 1 3 0 (file_a 1 1) two_jumpers 3 (bytes 0 0 4 5 1 1 1 ++ bytes 1 0 3 1 1 1 1 ++ bytes 1 3 6 0 1 1 1) refl refl refl refl;
      lower_layer = reports 2 6 0 (file_b 1) at_six 2 (bytes 0 0 7 5 2 1 2 ++ bytes 1 0 6 1 2 1 2) refl refl refl refl;
      same_layer = refuses_list 2 6 0 (file_b 2) at_six (refusal 14 0) refl refl refl;
      first_version = refuses_list 2 6 0 (file_of_a 1 1 2 corners) at_six (refusal 14 0) refl refl refl;
      near_obstacle = refuses_list 2 6 1 (file_b 2) at_five (refusal 14 0) refl refl refl;
      beside_it = reports 2 6 0 (file_b 2) at_five 2 (bytes 0 0 8 5 2 1 2 ++ bytes 1 0 5 1 2 1 2) refl refl refl refl;
      behind_it = reports 2 6 1 (file_b 2) at_four 2 (bytes 0 0 9 5 2 1 2 ++ bytes 1 0 4 1 2 1 2) refl refl refl refl;
      lower_layer_far = reports 2 6 65535 (file_b 1) at_six 2 (bytes 0 0 7 5 2 1 2 ++ bytes 1 0 6 1 2 1 2) refl refl refl refl;
      at_the_end = refuses_list 2 6 10 file_end (1 ∷ 1 ∷ 0 ∷ []) (refusal 14 0) refl refl refl;
      layer_before_list = refuses_call 2 6 0 (file_b 17) (1 ∷ []) (refusal 20 0) refl refl;
      one_byte_short = refuses_lent 1 3 0 (file_a 1 1) two_jumpers 3 refl refl refl;
      list_before_16 = refuses_list 1 3 0 (file_a 1 1) (1 ∷ 13 ∷ 0 ∷ []) (refusal 13 0) refl refl refl;
      stage_first = λ file list. refuses_call 17 3 0 file list (refusal 1 0) refl refl;
    }
