-- What the first passes of repair establish, over the sections of a net and the work arrays.
-- Assumes nothing.
use Rattle.std.specs.Prelude.{ℕ, ◌+◌, ◌-◌, ◌*◌, ◌≤◌, ◌<◌, ◌≡◌, Bool, true, false, not, ◌&&◌, cond, List, ◌⊎◌, length, get_or, leb, ltb, eqb}
use Rattle.laws.specs.Sum.{χ, sum, any}
use Rattle.net.specs.Layout.{newest, wire_bytes, most_nodes}
use Rattle.net.specs.Limits.{length_bound, weight_bound}
use Rattle.net.specs.Net.{node_count, node_x, node_y, node_flags, is_gate, is_source, wire_parent, wire_layer, wire_factor, wire_length}
use Rattle.net.specs.Stage.{Stage}
use Rattle.net.specs.NoClearance.{stage_of}
use Rattle.cuts.specs.Fits.{Fits, free_at}
use Rattle.cuts.specs.Bounds.{all_weight}
use Rattle.clusters.specs.declared.work.Clusters.{Clusters}
use Rattle.clusters.specs.Positions.{los, his}
use Rattle.clusters.specs.Arrays.{clusters_of}

-- what reading a net has checked, as far as these passes use it
pub record Wired (ns ws : List ℕ) : Type 0 where
  pub some : 0 < node_count ns
  pub few : node_count ns ≤ most_nodes
  pub stored : (i : ℕ) → i < node_count ns → wire_bytes * i ≤ length ws
  pub below : (i : ℕ) → 0 < i → i < node_count ns → wire_parent ws i < i
  pub straight : (i : ℕ) → 0 < i → i < node_count ns → (node_x ns i ≡ node_x ns (wire_parent ws i)) ⊎ (node_y ns i ≡ node_y ns (wire_parent ws i))

-- r is the lowest position of wire i that may be cut, or 0 where there is none
pub record LowestFree (s : Stage) (i r : ℕ) : Type 0 where
  pub free : 0 < r → free_at s i r ≡ true
  pub some : (t : ℕ) → free_at s i t ≡ true → 0 < r
  pub least : (t : ℕ) → free_at s i t ≡ true → r ≤ t

-- r is the highest one
pub record HighestFree (s : Stage) (i r : ℕ) : Type 0 where
  pub free : 0 < r → free_at s i r ≡ true
  pub most : (t : ℕ) → free_at s i t ≡ true → t ≤ r

-- lo and hi have them for each wire
pub record Ends (s : Stage) (lo hi : List ℕ) : Type 0 where
  pub low : (i : ℕ) → i < s.nodes → LowestFree s i (get_or lo i 0)
  pub high : (i : ℕ) → i < s.nodes → HighestFree s i (get_or hi i 0)

-- the positions in lo and hi lie on their wires
pub record EndsInside (ns ws lo hi : List ℕ) : Type 0 where
  pub wire : (i : ℕ) → i < node_count ns → 0 < get_or lo i 0 → 0 < i
  pub low : (i : ℕ) → i < node_count ns → 0 < get_or lo i 0 → get_or lo i 0 ≤ wire_length ns ws i
  pub high : (i : ℕ) → i < node_count ns → 0 < get_or lo i 0 → get_or hi i 0 ≤ wire_length ns ws i

-- wire i is present at stage k
abbrev pub is_present : List ℕ → ℕ → ℕ → Bool
is_present ws k i = ltb 0 i && leb (wire_layer ws i) k

-- wire i has a point that may be cut: its lowest one is above 0
abbrev pub cuttable : List ℕ → ℕ → Bool
cuttable lo i = ltb 0 (get_or lo i 0)

-- wire i is present and cannot be cut
abbrev pub whole : List ℕ → ℕ → List ℕ → ℕ → Bool
whole ws k lo i = is_present ws k i && not (cuttable lo i)

-- the node that node i leads to: where its parent leads if the wire joins them, else i itself
abbrev pub leader : (ℕ → Bool) → (ℕ → ℕ) → List ℕ → ℕ → ℕ
leader joined parent l i = cond (joined i) (get_or l (parent i) 0) i

-- l has for each node below n the lowest node that it leads to
abbrev pub Leads : ℕ → (ℕ → Bool) → (ℕ → ℕ) → List ℕ → Type 0
Leads n joined parent l = (i : ℕ) → i < n → get_or l i 0 ≡ leader joined parent l i

-- no node below n leads to a higher one
abbrev pub Falling : ℕ → List ℕ → Type 0
Falling n l = (i : ℕ) → i < n → get_or l i 0 ≤ i

-- the cluster that branch i hangs on: its parent's; 0 where wire i cannot be cut
abbrev pub host_of : List ℕ → List ℕ → List ℕ → ℕ → ℕ
host_of ws lo root i = cond (cuttable lo i) (get_or root (wire_parent ws i) 0) 0

-- some number below n whose place in a is k passes the test
abbrev pub marked : ℕ → List ℕ → (ℕ → Bool) → ℕ → Bool
marked n a test k = any n (λ i. eqb (get_or a i 0) k && test i)

-- some node below n of component k is a source
abbrev pub source_in : List ℕ → List ℕ → ℕ → ℕ → Bool
source_in ns component n k = marked n component (λ i. is_source (node_flags ns i)) k

-- 1 if node i is a gate whose component has no source, else 0
abbrev pub gate_of : List ℕ → List ℕ → List Bool → ℕ → ℕ
gate_of ns component sourced i = χ (is_gate (node_flags ns i) && not (get_or sourced (get_or component i 0) false)) 1

-- what wire i gives to the cluster at its lower end: all of it, or up to its lowest point that may be cut
abbrev pub lower_weight : List ℕ → List ℕ → ℕ → List ℕ → ℕ → ℕ
lower_weight ns ws k lo i = χ (is_present ws k i) (cond (cuttable lo i) (get_or lo i 0) (wire_length ns ws i) * wire_factor ws i)

-- and to the cluster at its upper end: from its highest point that may be cut on
abbrev pub upper_weight : List ℕ → List ℕ → List ℕ → List ℕ → ℕ → ℕ
upper_weight ns ws lo hi i = χ (cuttable lo i) ((wire_length ns ws i - get_or hi i 0) * wire_factor ws i)

-- numbers x i of the nodes below n, added up at the places a i
abbrev pub gathered : ℕ → List ℕ → (ℕ → ℕ) → ℕ → ℕ
gathered n a x r = sum n (λ i. χ (eqb (get_or a i 0) r) (x i))

-- what each of the first passes leaves in its array
pub record Filled (ns ws os : List ℕ) (k : ℕ) {N : ℕ} (c : Clusters N) : Type 0 where
  pub n_is : c.n ≡ node_count ns
  pub ends : Ends (stage_of newest ns ws os k) (los c.cuttable) (his c.cuttable)
  pub roots : Leads (node_count ns) (whole ws k (los c.cuttable)) (wire_parent ws) c.root
  pub hosts : (i : ℕ) → i < node_count ns → get_or c.host i 0 ≡ host_of ws (los c.cuttable) c.root i
  pub components : Leads (node_count ns) (is_present ws k) (wire_parent ws) c.component
  pub sources : (r : ℕ) → r < node_count ns → get_or c.sourced r false ≡ source_in ns c.component (node_count ns) r
  pub gated : (r : ℕ) → r < node_count ns → get_or c.gates r 0 ≡ gathered (node_count ns) c.root (gate_of ns c.component c.sourced) r
  pub weighed : (r : ℕ) → r < node_count ns → get_or c.fixed r 0 ≡ gathered (node_count ns) c.root (lower_weight ns ws k (los c.cuttable)) r + gathered (node_count ns) c.host (upper_weight ns ws (los c.cuttable) (his c.cuttable)) r

-- what all of them promise: the arrays fit the net at the stage, and their numbers are small
pub record Clustered (ns ws os : List ℕ) (k : ℕ) {N : ℕ} (c : Clusters N) : Type 0 where
  pub n_is : c.n ≡ node_count ns
  pub fits : Fits (stage_of newest ns ws os k) (clusters_of (stage_of newest ns ws os k) (los c.cuttable) (his c.cuttable) c.host c.fixed c.gates) (λ i. get_or c.root i 0) (λ i. get_or c.component i 0)
  pub components_fall : Falling (node_count ns) c.component
  pub sources : (r : ℕ) → r < node_count ns → get_or c.sourced r false ≡ source_in ns c.component (node_count ns) r
  pub light : all_weight (clusters_of (stage_of newest ns ws os k) (los c.cuttable) (his c.cuttable) c.host c.fixed c.gates) < weight_bound
  pub short : (r : ℕ) → r < node_count ns → get_or (his c.cuttable) r 0 < length_bound
