-- The table of document 01's small nets holds: sets of no, one and two points are computed; the two refusals 15 of net A go by the ends of its wire.
-- Assumes nothing.
use Rattle.std.specs.Prelude.{ℕ, zero, suc, ◌-◌, ◌*◌, ◌≤◌, ◌<◌, ◌≡◌, refl, true, false, List, [], leb, eqb}
use Rattle.std.proofs.Common.{subst, eq-eqb, le-leb}
use Rattle.std.proofs.Math.Path.{fun_ext}
use native.Mathlib.Omega.{arith}
use Rattle.laws.specs.Sum.{χ, sum, any, lowest, highest}
use Rattle.laws.specs.Sums.{by, no_both, and_intro, not_true_false, term-≤, χ-yes}
use Rattle.net.specs.Net.{wire_length, point_x, point_y, near, barred}
use Rattle.net.specs.Stage.{Stage}
use Rattle.net.specs.NoClearance.{stage_of}
use Rattle.net.specs.Formed.{Formed}
use Rattle.net.specs.Refusal.{none, net_refusal, sections_refusal, node_refusal, wire_refusal, obstacle_refusal, first_of}
use Rattle.net.specs.Accepted.{net-right, formed}
use Rattle.pieces.specs.Piece.{Points}
use Rattle.pieces.specs.Legal.{Free, Legal, NoneLegal, size}
use Rattle.pieces.specs.Inside.{Inside}
use Rattle.pieces.specs.Name.{lowest_node, follow, joins, cut_at, first_jumper, last_jumper}
use Rattle.pieces.specs.Lowest.{lowest_node-stop, cut_apart, absent-apart}
use Rattle.pieces.specs.Jumpers.{uncut-none, first-jumper, last-jumper}
use Rattle.pieces.specs.Weight.{node_weight, wire_adds}
use Rattle.pieces.specs.LegalByNodes.{legal→nodes}
use Rattle.pieces.specs.Size.{empty, single, AllFree}
use Rattle.cuts.specs.Fits.{free_at}
use Rattle.small_nets.specs.Cases.{nodes_a, wires_a, net_a, bar, A, nodes_j, wires_j, J, nodes_c, wires_c, C, at, or, SmallNets}
use Rattle.small_nets.specs.Decide.{harms, harmful_at, somewhere, nowhere, single-free, legal-test, test-legal, least_0, least_1, least_2, only_1, only_2, none_free}

-- the ends of a cut wire i whose two nodes are gates, in a net with no source: both pieces are light
module _ (s : Stage) (is_formed : Formed s) (limit : ℕ) (K : Points) (legal : Legal s limit K) (i : ℕ) (p : s.present i ≡ true) (cut : cut_at s K i ≡ true) (no_source : (k : ℕ) → k < s.nodes → s.source k ≡ true → ⊥) where
  own : lowest_node s K i ≡ i
  own = lowest_node-stop s K is_formed i (cut_apart s K i cut)

  inside : i < s.nodes
  inside = is_formed.inside i p

  adds-≤ : (h : ℕ) → wire_adds s K h i ≤ node_weight s K h
  unfolding node_weight
  adds-≤ h = let a = term-≤ s.nodes i (λ j. χ (s.present j) (wire_adds s K h j)) inside in let b = χ-yes (wire_adds s K h i) p in omega arith

  pub first-light : s.gate i ≡ true → first_jumper s K i * s.factor i ≤ limit
  unfolding wire_adds
  first-light g =
      let a = legal→nodes s is_formed limit K legal i inside own i inside g own (λ k r src e. no_source k r src) in
      let b = adds-≤ i in
      let c = χ-yes (first_jumper s K i * s.factor i) (eq-eqb (lowest_node s K i) i own) in
      omega arith

  pub last-light : s.gate (s.parent i) ≡ true → lowest_node s K (s.parent i) ≡ s.parent i → (s.len i - last_jumper s K i) * s.factor i ≤ limit
  unfolding wire_adds
  last-light g e =
      let h = s.parent i in
      let lt = is_formed.below i p in
      let within = inside in
      let a = legal→nodes s is_formed limit K legal h (omega arith) e h (omega arith) g e (λ k r src e. no_source k r src) in
      let b = adds-≤ h in
      let c = χ-yes ((s.len i - last_jumper s K i) * s.factor i) (and_intro cut (eq-eqb (lowest_node s K h) h e)) in
      omega arith

-- in a net of two nodes whose wire has no jumper the set is empty
two-empty : (s : Stage) → Formed s → s.nodes ≡ 2 → s.present 0 ≡ false → (K : Points) → AllFree s K → cut_at s K 1 ≡ false → K ≡ empty
two-empty s is_formed two absent K free uncut =
    fun_ext (λ i. fun_ext (λ t. not_true_false (K i t) (λ e. let f = free i t e in at i t e f (is_formed.inside i f.present) f.present)))
  where
    at : (i t : ℕ) → K i t ≡ true → Free s i t → i < s.nodes → s.present i ≡ true → ⊥
    at zero t e f lt p = no_both p absent
    at (suc zero) t e f lt p = no_both e (uncut-none s K (λ i t e. let f = free i t e in (f.low, f.high)) 1 t uncut)
    at (suc (suc i)) t e f lt p = native.Mathlib.Nat.lt_irrefl 0 (omega arith)

no_source_A : (os : List ℕ) (k : ℕ) → k < (net_a 1 1 os).nodes → (net_a 1 1 os).source k ≡ true → ⊥
unfolding stage_of
no_source_A os zero lt e = no_both e refl
no_source_A os (suc zero) lt e = no_both e refl
no_source_A os (suc (suc k)) lt e = let lt' : suc (suc k) < 2 = lt in native.Mathlib.Nat.lt_irrefl 0 (omega arith)

-- net A with obstacles at a limit under which no set is legal: the empty set is not, and no free point keeps the upper end light once the lower one is
none-A :
    (os : List ℕ) (limit : ℕ) → Formed (net_a 1 1 os) → harms (net_a 1 1 os) limit empty ≡ true →
    ((t p : ℕ) → Free (net_a 1 1 os) 1 t → Free (net_a 1 1 os) 1 p → t ≤ limit → 13 - p ≤ limit → ⊥) → NoneLegal (net_a 1 1 os) limit
unfolding stage_of wire_length
none-A os limit is_formed heavy apart K legal =
    by (cut_at s K 1)
    (λ cut.
    let within : Inside s K = λ i t e. let f = legal.free i t e in (f.low, f.high) in
    let first = legal.free 1 (first_jumper s K 1) (first-jumper s K within 1 cut) in
    let last = legal.free 1 (last_jumper s K 1) (last-jumper s K within 1 cut) in
    let a : first_jumper s K 1 * 1 ≤ limit = first-light s is_formed limit K legal 1 refl cut (no_source_A os) refl in
    let b : (13 - last_jumper s K 1) * 1 ≤ limit = last-light s is_formed limit K legal 1 refl cut (no_source_A os) refl (lowest_node-stop s K is_formed 0 (absent-apart s K 0 refl)) in
    apart (first_jumper s K 1) (last_jumper s K 1) first last (omega arith) (omega arith))
    (λ uncut. no_both heavy (subst (λ (L : Points). harms s limit L ≡ false) (two-empty s is_formed refl refl K legal.free uncut) (legal-test s is_formed limit K legal)))
  where
    s : Stage
    s = net_a 1 1 os

-- every net of the table is accepted
formed-A : (flags layer : ℕ) (os : List ℕ) → net_refusal 1 (nodes_a flags) (wires_a layer) os ≡ none → Formed (net_a flags layer os)
formed-A flags layer os h = formed 1 (nodes_a flags) (wires_a layer) os (net-right 1 (nodes_a flags) (wires_a layer) os h) 1

pub small_nets : SmallNets
unfolding net_refusal sections_refusal node_refusal wire_refusal obstacle_refusal first_of somewhere free_at barred point_x point_y near harms harmful_at any stage_of lowest_node follow joins cut_at node_weight wire_adds first_jumper last_jumper lowest highest wire_length sum size
small_nets =
    let A-formed : Formed A = formed-A 1 1 [] refl in
    let six-formed : Formed (net_a 1 1 (bar 6 6)) = formed-A 1 1 (bar 6 6) refl in
    let sixth-formed : Formed (net_a 1 1 (bar 6 7)) = formed-A 1 1 (bar 6 7) refl in
    let low-formed : Formed (net_a 1 1 (bar 1 6)) = formed-A 1 1 (bar 1 6) refl in
    let plain-formed : Formed (net_a 0 1 []) = formed-A 0 1 [] refl in
    let J-formed : Formed J = formed 1 nodes_j wires_j [] (net-right 1 nodes_j wires_j [] refl) 1 in
    let C-formed : Formed C = formed 1 nodes_c wires_c (bar 0 12) (net-right 1 nodes_c wires_c (bar 0 12) refl) 1 in
    record {
      a_13 = least_0 A A-formed 13 refl refl;
      a_12 = least_1 A A-formed 12 1 6 refl refl refl refl;
      a_7 = least_1 A A-formed 7 1 6 refl refl refl refl;
      a_7_only = only_1 A A-formed 7 (or (at 6) (at 7)) refl;
      a_7_at_6 = test-legal A A-formed 7 (single 1 6) (single-free A 1 6 refl) refl;
      a_7_at_7 = test-legal A A-formed 7 (single 1 7) (single-free A 1 7 refl) refl;
      a_6 = least_2 A A-formed 6 1 6 1 7 refl refl refl refl refl refl;
      a_1 = least_2 A A-formed 1 1 1 1 12 refl refl refl refl refl refl;
      a_1_only = only_2 A A-formed 1 (or (at 1) (at 12)) refl;
      a_0 = none-A [] 0 A-formed refl (λ t p f g le le'. let low = f.low in omega arith);
      bar_6_6 = least_1 (net_a 1 1 (bar 6 6)) six-formed 7 1 6 refl refl refl refl;
      bar_6_6_only = only_1 (net_a 1 1 (bar 6 6)) six-formed 7 (at 6) refl;
      bar_6_7 = least_2 (net_a 1 1 (bar 6 7)) sixth-formed 7 1 5 1 8 refl refl refl refl refl refl;
      bar_1_6 = least_1 (net_a 1 1 (bar 1 6)) low-formed 7 1 6 refl refl refl refl;
      bar_1_6_only = only_1 (net_a 1 1 (bar 1 6)) low-formed 7 (at 6) refl;
      bar_1_6_none = none-A (bar 1 6) 6 low-formed refl (λ t p f g le le'. no_both (leb_7 p (omega arith)) (nowhere (net_a 1 1 (bar 1 6)) low-formed (λ i t. leb 7 t) refl 1 p g));
      plain_1 = least_1 (net_a 0 1 []) plain-formed 1 1 12 refl refl refl refl;
      plain_1_only = only_1 (net_a 0 1 []) plain-formed 1 (at 12) refl;
      source_0 = least_0 (net_a 3 1 []) (formed-A 3 1 [] refl) 0 refl refl;
      absent_0 = least_0 (net_a 1 2 []) (formed-A 1 2 [] refl) 0 refl refl;
      j_20 = least_1 J J-formed 20 2 1 refl refl refl refl;
      j_20_only = only_1 J J-formed 20 (λ i t. eqb i 2) refl;
      c_11 = none_free C C-formed 11 refl refl;
      c_12 = least_0 C C-formed 12 refl refl;
    }
  where
    leb_7 : (p : ℕ) → 7 ≤ p → leb 7 p ≡ true
    leb_7 p h = le-leb 7 p h
