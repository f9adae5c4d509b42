-- A small text worked through from the definition, and what it answers on texts and pins that are refused: no program that keeps its promise answers anything else there.
-- Assumes nothing.
use Rattle.std.specs.Prelude.{ℕ, ◌≡◌, refl}
use Prim.Native.Char.{code}
use Prim.Native.String.{String}
use Prim.Native.String as string
use mathlib.Core.List.{List, [], ◌∷◌, ◌++◌, replicate}
use Rattle.laws.specs.Sum.{any, lowest}
use Rattle.laws.specs.Gather.{gather}
use Rattle.net.specs.declared.Answer.{Answer}
use Rattle.net.specs.File.{head_of, file_of}
use Rattle.net.specs.Refusal.{first_of, sections_refusal, node_refusal, wire_refusal, obstacle_refusal, is_version, net_refusal, write_refusal}
use Rattle.words.specs.Words.{blank, word_start, word_end, spelling, digit, digits, value_from, is_number, layer_digits, layer_of}
use Rattle.paths.specs.Form.{coordinate, point_from, path_from, behind, beginning, point_in, onward, read_points, read_ending, start, points_of, ending_of}
use Rattle.routes.specs.Nodes.{known_at, lowest_at, known, number_on, made_by, reach, nodes_from, point_refused, points_refusal, form_refusal, route_refusal, route_nodes, end_of, route_end}
use Rattle.def.specs.Pins.{pin_refusal, pins_refusal, flags_of}
use Rattle.def.specs.Sections.{node_record, node_section, wire_section}
use Rattle.def.specs.Promise.{def_nodes, def_wires, def_refusal, def_answer, def_buffer}

abbrev pub bytes_of : String → List ℕ
bytes_of string.[] = []
bytes_of (string.◌∷◌ c s) = code c ∷ bytes_of s

-- a text read from its start on, with pins, no obstacle, and a number of bytes lent
abbrev pub answer_to : String → List ℕ → ℕ → Answer
answer_to text pins lent = def_answer (bytes_of text) 0 pins [] lent

-- a pin at x, y below 256
abbrev pub pin : ℕ → ℕ → ℕ → ℕ → List ℕ
pin x y layer flags = x ∷ 0 ∷ y ∷ 0 ∷ layer ∷ flags ∷ []

-- two paths: 13 steps on layer 1, then 7 on layer 2
abbrev pub two_paths : String
two_paths = "+ ROUTED metal1 ( 0 0 ) ( 13 * ) NEW metal2 ( 13 0 ) ( * 7 ) ;"

-- its ends are pins
abbrev pub ends : List ℕ
ends = pin 0 0 1 1 ++ pin 13 7 2 2

pub record SmallTexts : Type 0 where
  pub answered : answer_to two_paths ends 60 ≡ record { number = 0; place = 62; count = 57 }
  -- four nodes: (13, 0) once on each layer; three wires: the one between those two is a via of layer 2; no obstacle; behind it the three bytes that were there
  pub written : def_buffer (bytes_of two_paths) 0 ends [] (replicate 60 7) ≡
      head_of 1 20 9 0
      ++ (0 ∷ 0 ∷ 0 ∷ 0 ∷ 1 ∷ 13 ∷ 0 ∷ 0 ∷ 0 ∷ 0 ∷ 13 ∷ 0 ∷ 0 ∷ 0 ∷ 0 ∷ 13 ∷ 0 ∷ 7 ∷ 0 ∷ 2 ∷ [])
      ++ (0 ∷ 1 ∷ 1 ∷ 1 ∷ 2 ∷ 1 ∷ 2 ∷ 2 ∷ 1 ∷ [])
      ++ (7 ∷ 7 ∷ 7 ∷ [])
  -- 17: the place is the first byte of the word, also of one that the text cuts; or the text's length where no word is left
  pub wrong_word : answer_to "+ ROUTED metal1 ( 0 0 ) ( 13 x0 ) ;" [] 99 ≡ record { number = 17; place = 29; count = 0 }
  pub cut_word : answer_to "+ ROUT" [] 99 ≡ record { number = 17; place = 2; count = 0 }
  pub no_word : answer_to "+ ROUTED  " [] 99 ≡ record { number = 17; place = 10; count = 0 }
  -- from the place that was returned on, whatever stands before it; a place past the text counts as its end
  pub next_text : def_answer (bytes_of two_paths ++ bytes_of two_paths) 62 [] [] 99 ≡ record { number = 0; place = 124; count = 57 }
  pub past_end : def_answer (bytes_of two_paths) 99 [] [] 99 ≡ record { number = 17; place = 62; count = 0 }
  -- `*` in a path's first point; a path of one point
  pub star_first : answer_to "+ ROUTED metal1 ( * 0 ) ( 1 0 ) ;" [] 99 ≡ record { number = 17; place = 18; count = 0 }
  pub star_new : answer_to "+ ROUTED metal1 ( 0 0 ) ( 1 0 ) NEW metal1 ( 1 * ) ( 1 1 ) ;" [] 99 ≡ record { number = 17; place = 47; count = 0 }
  pub one_point : answer_to "+ ROUTED metal1 ( 0 0 ) ;" [] 99 ≡ record { number = 17; place = 24; count = 0 }
  -- 18 judges a point once it is whole, and then before the word behind it; the place is the byte of its `(`
  pub not_whole : answer_to "+ ROUTED metal1 ( 0 0 ) ( 0 0 ;" [] 99 ≡ record { number = 17; place = 30; count = 0 }
  pub known_point : answer_to "+ ROUTED metal1 ( 0 0 ) ( 0 0 ) x" [] 99 ≡ record { number = 18; place = 24; count = 0 }
  pub unknown_start : answer_to "+ ROUTED metal1 ( 0 0 ) ( 1 0 ) NEW metal1 ( 5 5 ) x" [] 99 ≡ record { number = 18; place = 43; count = 0 }
  -- 18 comes before 19
  pub eighteen_first : answer_to "+ ROUTED metal1 ( 0 0 ) ( 0 0 ) ;" (pin 9 9 1 1) 99 ≡ record { number = 18; place = 24; count = 0 }
  -- 19: a pin that meets no node on its layer, or is cut short, before 7
  pub no_node : answer_to two_paths (pin 0 0 1 4 ++ pin 13 7 1 1) 99 ≡ record { number = 19; place = 1; count = 0 }
  pub cut_pin : answer_to two_paths (ends ++ (0 ∷ [])) 99 ≡ record { number = 19; place = 2; count = 0 }
  -- 6, 7, 10 and 11 come before 16, 16 last; a version 2 obstacle, of nine bytes, meets 6
  pub six : def_answer (bytes_of two_paths) 0 [] (0 ∷ []) 0 ≡ record { number = 6; place = 0; count = 0 }
  pub six_nine : def_answer (bytes_of two_paths) 0 [] (0 ∷ 0 ∷ 0 ∷ 0 ∷ 0 ∷ 0 ∷ 0 ∷ 0 ∷ 1 ∷ []) 0 ≡ record { number = 6; place = 0; count = 0 }
  pub seven : answer_to two_paths (pin 13 0 2 4) 0 ≡ record { number = 7; place = 2; count = 0 }
  pub ten : answer_to "+ ROUTED metal1 ( 0 0 ) ( 3 4 ) ;" [] 0 ≡ record { number = 10; place = 1; count = 0 }
  pub eleven : def_answer (bytes_of two_paths) 0 [] (1 ∷ 0 ∷ 0 ∷ 0 ∷ 0 ∷ 0 ∷ 0 ∷ 0 ∷ []) 0 ≡ record { number = 11; place = 0; count = 0 }
  pub sixteen : answer_to two_paths ends 56 ≡ record { number = 16; place = 57; count = 0 }
  -- pins on one node join their flags; a via downwards is of the higher layer too
  pub joined : def_nodes (bytes_of two_paths) 0 (pin 13 0 2 1 ++ pin 13 0 2 2) ≡ 0 ∷ 0 ∷ 0 ∷ 0 ∷ 0 ∷ 13 ∷ 0 ∷ 0 ∷ 0 ∷ 0 ∷ 13 ∷ 0 ∷ 0 ∷ 0 ∷ 3 ∷ 13 ∷ 0 ∷ 7 ∷ 0 ∷ 0 ∷ []
  pub via_down : def_wires (bytes_of "+ ROUTED metal2 ( 0 0 ) ( 5 0 ) NEW metal1 ( 5 0 ) ( 5 5 ) ;") 0 ≡ 0 ∷ 2 ∷ 1 ∷ 1 ∷ 2 ∷ 1 ∷ 2 ∷ 1 ∷ 1 ∷ []

pub small_texts : SmallTexts
unfolding blank word_start word_end spelling digit digits value_from is_number layer_digits layer_of coordinate point_from path_from behind beginning point_in onward read_points read_ending start points_of ending_of known_at lowest_at known number_on made_by reach nodes_from point_refused points_refusal form_refusal route_refusal route_nodes end_of route_end any lowest gather first_of sections_refusal node_refusal wire_refusal obstacle_refusal is_version net_refusal write_refusal head_of file_of pin_refusal pins_refusal flags_of node_record node_section wire_section def_refusal def_answer def_buffer
small_texts = record { answered = refl; written = refl; wrong_word = refl; cut_word = refl; no_word = refl; next_text = refl; past_end = refl; star_first = refl; star_new = refl; one_point = refl; not_whole = refl; known_point = refl; unknown_start = refl; eighteen_first = refl; no_node = refl; cut_pin = refl; six = refl; six_nine = refl; seven = refl; ten = refl; eleven = refl; sixteen = refl; joined = refl; via_down = refl }
