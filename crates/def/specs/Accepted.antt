-- Theorems: what the call writes is an accepted file that holds the sections of the text's routing, and the place it returns is one past a `;` and above the place given.
-- Assumes nothing.
use Rattle.std.specs.Prelude.{ℕ, ◌-◌, ◌<◌, ◌≤◌, ◌≡◌, refl, false, List, Result, Ok, Err, length, take, get_or}
use borrow.Author.Tests.{eqb-true, not-false}
use Rattle.laws.specs.Sums.{no_both}
use Rattle.net.specs.Net.{node_count}
use Rattle.net.specs.Refusal.{met, nodes_of, answer, write_refusal, write_answer, write_buffer}
use Rattle.net.specs.First.{unmet-number, unmet_l, unmet_r}
use Rattle.net.specs.RoundTrip.{Holds, written_reads_back}
use Rattle.paths.specs.declared.Point.{Point}
use Rattle.paths.specs.declared.Wrong.{Wrong}
use Rattle.paths.specs.declared.Read.{Read}
use Rattle.paths.specs.declared.Read.TheVariants.{End, Whole}
use Rattle.paths.specs.Form.{points_of, ending_of}
use Rattle.paths.specs.FormLaws.{ending-stops, end-above}
use Rattle.routes.specs.Nodes.{no_point, points_refusal, form_refusal, route_refusal, route_nodes, end_of, route_end}
use Rattle.def.specs.Pins.{pins_refusal}
use Rattle.def.specs.Promise.{def_nodes, def_wires, def_refusal, def_answer, def_buffer}
use Rattle.def.specs.Sectioning.{nodes-count}

-- what did not leave the form and is no point is the end
end_of_lem : (r : Result Read Wrong) → met (form_refusal r) ≡ false → ((p : Point) (next : ℕ) → r ≡ Ok (Whole p next) → ⊥) → r ≡ Ok (End (end_of r))
unfolding form_refusal end_of
end_of_lem (Err w) u h = absurd (no_both refl u)
end_of_lem (Ok (End next)) u h = refl
end_of_lem (Ok (Whole p next)) u h = absurd (h p next refl)

module _ (text : List ℕ) (place : ℕ) (pins obstacles out : List ℕ) (done : (def_answer text place pins obstacles (length out)).number ≡ 0) where
  unmet : met (def_refusal text place pins obstacles (length out)) ≡ false
  unfolding def_answer
  unmet = unmet-number (def_refusal text place pins obstacles (length out)) done

  route_unmet : met (route_refusal text place) ≡ false
  unfolding def_refusal
  route_unmet = unmet_l (route_refusal text place) _ unmet

  write_unmet : met (write_refusal 1 (def_nodes text place pins) (def_wires text place) obstacles (length out)) ≡ false
  unfolding def_refusal
  write_unmet = unmet_r (pins_refusal (route_nodes text place) pins) _ (unmet_r (route_refusal text place) _ unmet)

  -- the bytes that the call counts
  pub def_holds : Holds (take (def_answer text place pins obstacles (length out)).count (def_buffer text place pins obstacles out)) 1 (def_nodes text place pins) (def_wires text place) obstacles
  unfolding def_answer def_buffer write_answer write_buffer answer
  def_holds =
      let wr = write_refusal 1 (def_nodes text place pins) (def_wires text place) obstacles (length out) in
      let z : wr.number ≡ 0 = eqb-true wr.number 0 (not-false _ write_unmet) in
      rw unmet (rw write_unmet at (written_reads_back 1 (def_nodes text place pins) (def_wires text place) obstacles out z))

  -- its nodes: as many as the route's
  pub def_nodes_lem : node_count (nodes_of (take (def_answer text place pins obstacles (length out)).count (def_buffer text place pins obstacles out))) ≡ length (route_nodes text place)
  def_nodes_lem = rw def_holds.nodes (nodes-count (route_nodes text place) pins)

  -- the place that it returns
  pub def_ends : (place < (def_answer text place pins obstacles (length out)).place)
      × ((def_answer text place pins obstacles (length out)).place ≤ length text)
      × (get_or text ((def_answer text place pins obstacles (length out)).place - 1) 0 ≡ 59)
  unfolding def_answer route_refusal route_end
  def_ends =
      rw unmet
      (end-above text place (route_end text place)
      (end_of_lem (ending_of text place) (unmet_r (points_refusal _ no_point (points_of text place)) _ route_unmet) (ending-stops text place)))
