-- The report of a net at a stage reads nothing of what is barred: with other points barred it is the same.
-- Assumes nothing.
use Rattle.std.specs.Prelude.{ℕ, zero, suc, ◌≡◌, Bool}
use Rattle.std.proofs.Math.Path.{refl, fun_ext}
use Rattle.laws.specs.Gathers.{gather_ap}
use Rattle.net.specs.Stage.{Stage}
use Rattle.pieces.specs.Piece.{Points, Element, node, step, weight_of, has_gate, has_source, is_harmful}
use Rattle.pieces.specs.Name.{Name, cut_at, first_jumper, last_jumper, joins, follow, lowest_node, step_name, named}
use Rattle.pieces.specs.Barring.{barred_by}
use Rattle.pieces.specs.FirstNodes.{first_nodes, on_first_wires, first_records}
use Rattle.pieces.specs.Report.{node_names, stretch_names, piece_names, flags_of, has_layer, layers_of, layer_count, lowest_layer, record_of, report_of}

module _ (s : Stage) (other : ℕ → ℕ → Bool) (J : Points) where
  follow_same : (k i : ℕ) → follow s J k i ≡ follow (barred_by s other) J k i
  unfolding follow joins cut_at
  follow_same zero i = refl
  follow_same (suc k) i = rw (follow_same k (s.parent i))

  lowest_same : (i : ℕ) → lowest_node s J i ≡ lowest_node (barred_by s other) J i
  unfolding lowest_node
  lowest_same i = follow_same i i

  named_element : (n : Name) (e : Element) → named s J n e ≡ named (barred_by s other) J n e
  unfolding named step_name first_jumper last_jumper
  named_element n (node i) = rw (lowest_same i)
  named_element n (step i t) = rw (lowest_same i, lowest_same (s.parent i))

  named_same : (n : Name) → named s J n ≡ named (barred_by s other) J n
  named_same n = fun_ext (named_element n)

  pub names_same : piece_names s J ≡ piece_names (barred_by s other) J
  unfolding piece_names node_names stretch_names last_jumper
  names_same = gather_ap s.nodes (λ i p. rw (lowest_same i))

  record_same : (limit : ℕ) (n : Name) → record_of s limit J n ≡ record_of (barred_by s other) limit J n
  unfolding record_of weight_of flags_of has_gate has_source is_harmful layers_of layer_count lowest_layer has_layer
  record_same limit n = rw (named_same n)

  records_same : (limit : ℕ) → record_of s limit J ≡ record_of (barred_by s other) limit J
  records_same limit = fun_ext (record_same limit)

  pub report_same : (limit : ℕ) → report_of s limit J ≡ report_of (barred_by s other) limit J
  unfolding report_of
  report_same limit = rw (records_same limit, names_same)

-- so are the records of its first nodes, after each wire of the pass
pub first_records_same : (s : Stage) (other : ℕ → ℕ → Bool) (limit : ℕ) (J : Points) (n : ℕ) → first_records s limit J n ≡ first_records (barred_by s other) limit J n
unfolding first_nodes
first_records_same s other limit J n = report_same (first_nodes n s) other (on_first_wires n J) limit
