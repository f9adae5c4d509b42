-- What the call that reads a net's routing from a DEF text answers, and what the lent buffer then holds. Document 02, routes from DEF.
-- Assumes nothing.
use Rattle.std.specs.Prelude.{ℕ, cond, List, ◌++◌, length, drop}
use Rattle.net.specs.declared.Answer.{Answer}
use Rattle.net.specs.File.{file_of, file_bytes}
use Rattle.net.specs.Refusal.{Verdict, met, or_else, write_refusal}
use Rattle.routes.specs.Nodes.{route_refusal, route_nodes, route_end}
use Rattle.def.specs.Pins.{pins_refusal}
use Rattle.def.specs.Sections.{node_section, wire_section}

-- the node and the wire section of the routing from a place on
abbrev pub def_nodes : List ℕ → ℕ → List ℕ → List ℕ
def_nodes text place pins = node_section (route_nodes text place) pins

abbrev pub def_wires : List ℕ → ℕ → List ℕ
def_wires text place = wire_section (route_nodes text place)

-- 17 and 18, then 19, then 4 to 11 on the sections, of version 1, and 16
unfoldable pub def_refusal : List ℕ → ℕ → List ℕ → List ℕ → ℕ → Verdict
def_refusal text place pins obstacles lent =
    or_else (route_refusal text place)
    (or_else (pins_refusal (route_nodes text place) pins) (write_refusal 1 (def_nodes text place pins) (def_wires text place) obstacles lent))

-- done: the place after `;`, and the count of the bytes written
unfoldable pub def_answer : List ℕ → ℕ → List ℕ → List ℕ → ℕ → Answer
def_answer text place pins obstacles lent =
    let r = def_refusal text place pins obstacles lent in
    record {
      number = r.number;
      place = cond (met r) r.place (route_end text place);
      count = cond (met r) 0 (file_bytes (def_nodes text place pins) (def_wires text place) obstacles);
    }

-- what the lent buffer then holds: the file and behind it what was there, or after a refusal what was there
unfoldable pub def_buffer : List ℕ → ℕ → List ℕ → List ℕ → List ℕ → List ℕ
def_buffer text place pins obstacles out =
    cond (met (def_refusal text place pins obstacles (length out))) out
    (file_of 1 (def_nodes text place pins) (def_wires text place) obstacles
    ++ drop (file_bytes (def_nodes text place pins) (def_wires text place) obstacles) out)
