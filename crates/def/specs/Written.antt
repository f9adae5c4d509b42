-- The sections as they are written, from the nodes and the flags joined for them, and what is answered then.
-- Assumes nothing.
use Rattle.std.specs.Prelude.{ℕ, List, [], ◌∷◌, ◌++◌, Result, Ok, Err, length, get_or}
use Rattle.laws.specs.Bytes.{bytes16}
use Rattle.laws.specs.Gather.{gather}
use Rattle.net.specs.declared.Answer.{Answer}
use Rattle.net.specs.declared.refusal.Refusal.{Refusal}
use Rattle.net.specs.Numbers.{number_of, place_of}
use Rattle.routes.specs.declared.Node.{Node}
use Rattle.routes.specs.Nodes.{node_at}
use Rattle.def.specs.declared.Written.{Written}

-- a node with its flags, and all of them
abbrev pub flagged_node : Node → ℕ → List ℕ
flagged_node n flags = bytes16 n.x ++ bytes16 n.y ++ (flags ∷ [])

abbrev pub flagged_nodes : List Node → List ℕ → List ℕ
flagged_nodes nodes flags = gather (length nodes) (λ i. flagged_node (node_at nodes i) (get_or flags i 0))

-- what the call answers
abbrev pub written : Result Written Refusal → Answer
written (Ok w) = record { number = 0; place = w.end; count = w.bytes }
written (Err r) = record { number = number_of r; place = place_of r; count = 0 }
