-- What repair's promise leaves of an answer where the least number of points is known, and so the answers that it excludes on document 01's small nets and on small nets with layers.
-- Assumes nothing.
use Rattle.std.specs.Prelude.{ℕ, zero, suc, ◌*◌, ◌≤◌, ◌<◌, ◌≡◌, refl, true, ◌&&◌, ◌||◌, ◌⊎◌, List, [], ◌∷◌, eqb, length, get_or, drop}
use Rattle.std.proofs.Common.{◌∙◌, ap, subst, inl, inr, ⊎_elim, ext_get_or, arith, eqb-true}
use Rattle.laws.specs.Sums.{and_left, and_right, or_cases}
use Rattle.net.specs.declared.Answer.{Answer}
use Rattle.net.specs.Layout.{entry_bytes}
use Rattle.net.specs.Stage.{Stage}
use Rattle.net.specs.NoClearance.{stage_of}
use Rattle.net.specs.File.{file_of, head_of, pairs_right, stretch}
use Rattle.net.specs.Refusal.{none, refusal, answer, stage_refusal, read_refusal, is_version, head_refusal, pairs_refusal, net_refusal, sections_refusal, node_refusal, wire_refusal, obstacle_refusal, first_of, section_of}
use Rattle.pieces.specs.Legal.{Smallest, NoneLegal, listed, entry_wire, entry_position}
use Rattle.pieces.specs.Rises.{Rises, by-wire, by-position, after-rises}
use Rattle.pieces.specs.Size.{listed-size}
use Rattle.lists.specs.Entries.{listed-yes}
use Rattle.small_nets.specs.Cases.{Least, A, nodes_a, wires_a, nodes_j, wires_j, nodes_c, wires_c, bar}
use Rattle.small_nets.specs.Shown.{small_nets}
use Rattle.small_nets.specs.Layered.{layered_bar, layered_nets}
use Rattle.small_nets.specs.Clearances.{beside, clearance_nets}
use Rattle.pieces.specs.SmallestSet.{smallest-size}
use Rattle.repairs.specs.Promise.{Judged, no_legal_set, too_short, done, Repaired}

-- a smallest list has as many entries as the least number of points
least-count : {s : Stage} {limit n m : ℕ} {list : List ℕ} → Least s limit n → Smallest s limit list m → m ≡ n
least-count {s} {limit} {n} {m} {list} least small =
    let a = small.fewest least.set least.legal in
    let b = least.fewest (listed list m) small.legal in
    let c = listed-size s list m in
    let d = least.points in
    omega arith

module _ {s : Stage} {limit : ℕ} {out after : List ℕ} {r : Answer} where
  pub answer-least : {n : ℕ} → Least s limit n → Judged s limit out after r → entry_bytes * n ≤ length out → r ≡ answer none n
  answer-least least (no_legal_set f e k) fits = absurd (f least.set least.legal)
  answer-least {n} least (too_short list m small lt e k) fits = let q = least-count least small in absurd (native.Mathlib.Nat.lt_irrefl 0 (omega arith))
  answer-least least (done list m small le e k) fits = e ∙ ap (answer none) (least-count least small)

  pub answer-short :
      {n : ℕ} → Least s limit n → Judged s limit out after r → length out < entry_bytes * n → (r ≡ answer (refusal 16 (entry_bytes * n)) 0) × (after ≡ out)
  answer-short least (no_legal_set f e k) short = absurd (f least.set least.legal)
  answer-short least (too_short list m small lt e k) short = (e ∙ ap (λ (x : ℕ). answer (refusal 16 (entry_bytes * x)) 0) (least-count least small), k)
  answer-short {n} least (done list m small le e k) short = let q = least-count least small in absurd (native.Mathlib.Nat.lt_irrefl 0 (omega arith))

  pub answer-none : NoneLegal s limit → Judged s limit out after r → (r ≡ answer (refusal 15 0) 0) × (after ≡ out)
  answer-none unfit (no_legal_set f e k) = (e, k)
  answer-none unfit (too_short list m small lt e k) = absurd (unfit (listed list m) small.legal)
  answer-none unfit (done list m small le e k) = absurd (unfit (listed list m) small.legal)

-- net A at limit 1: a smallest list is 1 1 and 1 12
module _ (list : List ℕ) (small : Smallest A 1 list 2) where
  entry_is : (e : ℕ) → e < 2 → (entry_wire list e ≡ 1) × ((entry_position list e ≡ 1) ⊎ (entry_position list e ≡ 12))
  entry_is e p =
      which (entry_wire list e) (entry_position list e)
      (small_nets.a_1_only (listed list 2) small.legal (smallest-size small) (entry_wire list e) (entry_position list e) (listed-yes list 2 e (entry_wire list e) (entry_position list e) p refl refl))
    where
      which : (i t : ℕ) → ((eqb i 1 && eqb t 1) || (eqb i 1 && eqb t 12)) ≡ true → (i ≡ 1) × ((t ≡ 1) ⊎ (t ≡ 12))
      which i t h =
          ⊎_elim
          (λ y. (eqb-true i 1 (and_left (eqb i 1) (eqb t 1) y), inl (eqb-true t 1 (and_right (eqb i 1) (eqb t 1) y))))
          (λ y. (eqb-true i 1 (and_left (eqb i 1) (eqb t 12) y), inr (eqb-true t 12 (and_right (eqb i 1) (eqb t 12) y))))
          (or_cases (eqb i 1 && eqb t 1) (eqb i 1 && eqb t 12) h)

  positions : (entry_position list 0 ≡ 1) × (entry_position list 1 ≡ 12)
  positions =
      rises (after-rises list 0 1 (small.rising 0 (omega arith)))
    where
      both : entry_position list 0 < entry_position list 1 → (entry_position list 0 ≡ 1) × (entry_position list 1 ≡ 12)
      both less =
          ⊎_elim
          (λ a. ⊎_elim (λ b. absurd (native.Mathlib.Nat.lt_irrefl 0 (omega arith))) (λ b. (a, b)) (entry_is 1 (omega arith)).1)
          (λ a. ⊎_elim (λ b. absurd (native.Mathlib.Nat.lt_irrefl 0 (omega arith))) (λ b. absurd (native.Mathlib.Nat.lt_irrefl 0 (omega arith))) (entry_is 1 (omega arith)).1)
          (entry_is 0 (omega arith)).1

      rises : Rises list 0 1 → (entry_position list 0 ≡ 1) × (entry_position list 1 ≡ 12)
      rises (by-wire l) = let a = (entry_is 0 (omega arith)).0 in let b = (entry_is 1 (omega arith)).0 in absurd (native.Mathlib.Nat.lt_irrefl 0 (omega arith))
      rises (by-position e l) = both l

  a_1_bytes : list ≡ 1 ∷ 1 ∷ 0 ∷ 1 ∷ 12 ∷ 0 ∷ []
  a_1_bytes = ext_get_or 0 list (1 ∷ 1 ∷ 0 ∷ 1 ∷ 12 ∷ 0 ∷ []) small.whole (λ i p. byte i (let w = small.whole in omega arith))
    where
      first : entry_position list 0 ≡ 1
      first = positions.0

      second : entry_position list 1 ≡ 12
      second = positions.1

      byte : (i : ℕ) → i < 6 → get_or list i 0 ≡ get_or (1 ∷ 1 ∷ 0 ∷ 1 ∷ 12 ∷ 0 ∷ []) i 0
      byte zero p = (entry_is 0 (omega arith)).0
      byte (suc zero) p = let e = first in omega arith
      byte (suc (suc zero)) p = let e = first in omega arith
      byte (suc (suc (suc zero))) p = (entry_is 1 (omega arith)).0
      byte (suc (suc (suc (suc zero)))) p = let e = second in omega arith
      byte (suc (suc (suc (suc (suc zero))))) p = let e = second in omega arith
      byte (suc (suc (suc (suc (suc (suc i)))))) p = absurd (native.Mathlib.Nat.lt_irrefl 0 (omega arith))

a_1_done : {out after : List ℕ} {r : Answer} → Judged A 1 out after r → 6 ≤ length out → (r ≡ answer none 2) × (after ≡ 1 ∷ 1 ∷ 0 ∷ 1 ∷ 12 ∷ 0 ∷ drop 6 out)
a_1_done {out} {after} {r} j fits = (answer-least small_nets.a_1 j fits, at j)
  where
    at : Judged A 1 out after r → after ≡ 1 ∷ 1 ∷ 0 ∷ 1 ∷ 12 ∷ 0 ∷ drop 6 out
    at (no_legal_set f e k) = absurd (f small_nets.a_1.set small_nets.a_1.legal)
    at (too_short list m small lt e k) = let q = least-count small_nets.a_1 small in absurd (native.Mathlib.Nat.lt_irrefl 0 (omega arith))
    at (done list m small le e k) =
        let q = least-count small_nets.a_1 small in
        k ∙ rw (q, a_1_bytes list (subst (λ (x : ℕ). Smallest A 1 list x) q small))

-- net A, J and C as files
pub file_a : List ℕ
file_a = file_of 1 (nodes_a 1) (wires_a 1) []

pub file_j : List ℕ
file_j = file_of 1 nodes_j wires_j []

pub file_c : List ℕ
file_c = file_of 1 nodes_c wires_c (bar 0 12)

-- net A with positions 6 and 7 barred, with a source, and with its wire on layer 2
pub file_barred : List ℕ
file_barred = file_of 1 (nodes_a 1) (wires_a 1) (bar 6 7)

pub file_source : List ℕ
file_source = file_of 1 (nodes_a 3) (wires_a 1) []

pub file_absent : List ℕ
file_absent = file_of 1 (nodes_a 1) (wires_a 2) []

-- net A with its wire on layer 2: positions 6 and 7, or all of them, under an obstacle of a layer; positions 6 and 7 under one of version 1
pub file_layered : ℕ → List ℕ
file_layered layer = file_of 2 (nodes_a 1) (wires_a 2) (layered_bar 6 7 layer)

pub file_covered : List ℕ
file_covered = file_of 2 (nodes_a 1) (wires_a 2) (layered_bar 0 13 2)

pub file_first : List ℕ
file_first = file_of 1 (nodes_a 1) (wires_a 2) (bar 6 7)

-- net A with an obstacle on its wire, and with one beside it
pub file_held : List ℕ
file_held = file_of 1 (nodes_a 1) (wires_a 1) (bar 5 5)

pub file_beside : List ℕ
file_beside = file_of 1 (nodes_a 1) (wires_a 1) (beside 6 7)

module _ {out after : List ℕ} {r : Answer} where
  -- not one empty list for all nets, nor two jumpers: net A at limit 12 gets one
  pub a_12 : Repaired 1 12 0 file_a out after r → 3 ≤ length out → r ≡ answer none 1
  unfolding file_a file_of head_of pairs_right stretch stage_refusal read_refusal is_version head_refusal pairs_refusal net_refusal sections_refusal node_refusal wire_refusal obstacle_refusal first_of section_of stage_of
  a_12 p fits = answer-least small_nets.a_12 (p.judged refl) fits

  -- not 15 for all nets, nor 'buffer too small' before the net is weighed: net A at limit 13 needs no byte
  pub a_13 : Repaired 1 13 0 file_a out after r → r ≡ answer none 0
  unfolding file_a file_of head_of pairs_right stretch stage_refusal read_refusal is_version head_refusal pairs_refusal net_refusal sections_refusal node_refusal wire_refusal obstacle_refusal first_of section_of stage_of
  a_13 p = answer-least small_nets.a_13 (p.judged refl) (omega arith)

  -- not a list that does not fit: net A at limit 1 with 5 bytes lent needs 6
  pub a_1 : Repaired 1 1 0 file_a out after r → length out ≡ 5 → (r ≡ answer (refusal 16 6) 0) × (after ≡ out)
  unfolding file_a file_of head_of pairs_right stretch stage_refusal read_refusal is_version head_refusal pairs_refusal net_refusal sections_refusal node_refusal wire_refusal obstacle_refusal first_of section_of stage_of
  a_1 p five = answer-short small_nets.a_1 (p.judged refl) (omega arith)

  -- not an untouched buffer, nor another list: net A at limit 1 with 6 bytes or more lent gets `1 1` and `1 12`, and the bytes behind are as they were
  pub a_1_list : Repaired 1 1 0 file_a out after r → 6 ≤ length out → (r ≡ answer none 2) × (after ≡ 1 ∷ 1 ∷ 0 ∷ 1 ∷ 12 ∷ 0 ∷ drop 6 out)
  unfolding file_a file_of head_of pairs_right stretch stage_refusal read_refusal is_version head_refusal pairs_refusal net_refusal sections_refusal node_refusal wire_refusal obstacle_refusal first_of section_of stage_of
  a_1_list p fits = a_1_done (p.judged refl) fits

  -- not a cut at distance 0: net A at limit 0 has no legal set
  pub a_0 : Repaired 1 0 0 file_a out after r → (r ≡ answer (refusal 15 0) 0) × (after ≡ out)
  unfolding file_a file_of head_of pairs_right stretch stage_refusal read_refusal is_version head_refusal pairs_refusal net_refusal sections_refusal node_refusal wire_refusal obstacle_refusal first_of section_of stage_of
  a_0 p = answer-none small_nets.a_0 (p.judged refl)

  -- not the largest branches cut where one jumper by the gate is enough: net J at limit 20
  pub j_20 : Repaired 1 20 0 file_j out after r → 3 ≤ length out → r ≡ answer none 1
  unfolding file_j file_of head_of pairs_right stretch stage_refusal read_refusal is_version head_refusal pairs_refusal net_refusal sections_refusal node_refusal wire_refusal obstacle_refusal first_of section_of stage_of
  j_20 p fits = answer-least small_nets.j_20 (p.judged refl) fits

  -- not the barred weight round single nodes: net C at limit 11 has no legal set
  pub c_11 : Repaired 1 11 0 file_c out after r → (r ≡ answer (refusal 15 0) 0) × (after ≡ out)
  unfolding file_c file_of head_of pairs_right stretch stage_refusal read_refusal is_version head_refusal pairs_refusal net_refusal sections_refusal node_refusal wire_refusal obstacle_refusal first_of section_of stage_of
  c_11 p = answer-none small_nets.c_11 (p.judged refl)

  -- not a wire skipped because its middle is barred: net A at limit 7 gets a jumper on either side
  pub bar_6_7 : Repaired 1 7 0 file_barred out after r → 6 ≤ length out → r ≡ answer none 2
  unfolding file_barred file_of head_of pairs_right stretch stage_refusal read_refusal is_version head_refusal pairs_refusal net_refusal sections_refusal node_refusal wire_refusal obstacle_refusal first_of section_of stage_of
  bar_6_7 p fits = answer-least small_nets.bar_6_7 (p.judged refl) fits

  -- not a source's piece counted as harmful: net A with a source at limit 0 needs no byte
  pub source_0 : Repaired 1 0 0 file_source out after r → r ≡ answer none 0
  unfolding file_source file_of head_of pairs_right stretch stage_refusal read_refusal is_version head_refusal pairs_refusal net_refusal sections_refusal node_refusal wire_refusal obstacle_refusal first_of section_of stage_of
  source_0 p = answer-least small_nets.source_0 (p.judged refl) (omega arith)

  -- not an absent wire weighed: net A with its wire on layer 2 at limit 0 needs no byte
  pub absent_0 : Repaired 1 0 0 file_absent out after r → r ≡ answer none 0
  unfolding file_absent file_of head_of pairs_right stretch stage_refusal read_refusal is_version head_refusal pairs_refusal net_refusal sections_refusal node_refusal wire_refusal obstacle_refusal first_of section_of stage_of
  absent_0 p = answer-least small_nets.absent_0 (p.judged refl) (omega arith)

  -- not an obstacle of a lower layer taken for one that counts: a jumper stands on position 6 or 7
  pub layer_below : Repaired 2 7 0 (file_layered 1) out after r → 3 ≤ length out → r ≡ answer none 1
  unfolding file_layered file_of head_of pairs_right stretch stage_refusal read_refusal is_version head_refusal pairs_refusal net_refusal sections_refusal node_refusal wire_refusal obstacle_refusal first_of section_of stage_of
  layer_below p fits = answer-least layered_nets.below_7 (p.judged refl) fits

  -- nor one of the wire's own layer for one that does not, nor one of version 1
  pub layer_same : Repaired 2 7 0 (file_layered 2) out after r → 6 ≤ length out → r ≡ answer none 2
  unfolding file_layered file_of head_of pairs_right stretch stage_refusal read_refusal is_version head_refusal pairs_refusal net_refusal sections_refusal node_refusal wire_refusal obstacle_refusal first_of section_of stage_of
  layer_same p fits = answer-least layered_nets.same_7 (p.judged refl) fits

  pub first_version : Repaired 2 7 0 file_first out after r → 6 ≤ length out → r ≡ answer none 2
  unfolding file_first file_of head_of pairs_right stretch stage_refusal read_refusal is_version head_refusal pairs_refusal net_refusal sections_refusal node_refusal wire_refusal obstacle_refusal first_of section_of stage_of
  first_version p fits = answer-least layered_nets.first_7 (p.judged refl) fits

  -- nor a set where every point is barred
  pub layer_covers : Repaired 2 6 0 file_covered out after r → (r ≡ answer (refusal 15 0) 0) × (after ≡ out)
  unfolding file_covered file_of head_of pairs_right stretch stage_refusal read_refusal is_version head_refusal pairs_refusal net_refusal sections_refusal node_refusal wire_refusal obstacle_refusal first_of section_of stage_of
  layer_covers p = answer-none layered_nets.same_6 (p.judged refl)

  -- not a clearance that is strict, or moves sides out in y alone: under clearance 1 the obstacle leaves one of the two points that one jumper needs, under 2 none
  pub held_1 : Repaired 1 7 1 file_held out after r → 3 ≤ length out → r ≡ answer none 1
  unfolding file_held file_of head_of pairs_right stretch stage_refusal read_refusal is_version head_refusal pairs_refusal net_refusal sections_refusal node_refusal wire_refusal obstacle_refusal first_of section_of
  held_1 p fits = answer-least clearance_nets.held_1 (p.judged refl) fits

  pub held_2 : Repaired 1 7 2 file_held out after r → 6 ≤ length out → r ≡ answer none 2
  unfolding file_held file_of head_of pairs_right stretch stage_refusal read_refusal is_version head_refusal pairs_refusal net_refusal sections_refusal node_refusal wire_refusal obstacle_refusal first_of section_of
  held_2 p fits = answer-least clearance_nets.held_2 (p.judged refl) fits

  -- nor one whose sums wrap at 65536: under clearance 65535 no point is left
  pub held_all : Repaired 1 7 65535 file_held out after r → (r ≡ answer (refusal 15 0) 0) × (after ≡ out)
  unfolding file_held file_of head_of pairs_right stretch stage_refusal read_refusal is_version head_refusal pairs_refusal net_refusal sections_refusal node_refusal wire_refusal obstacle_refusal first_of section_of
  held_all p = answer-none clearance_nets.held_all (p.judged refl)

  -- nor one that repair ignores, or that moves sides out in x alone: the obstacle beside the wire bars nothing under clearance 0, and both points under 1
  pub beside_0 : Repaired 1 7 0 file_beside out after r → 3 ≤ length out → r ≡ answer none 1
  unfolding file_beside file_of head_of pairs_right stretch stage_refusal read_refusal is_version head_refusal pairs_refusal net_refusal sections_refusal node_refusal wire_refusal obstacle_refusal first_of section_of
  beside_0 p fits = answer-least clearance_nets.beside_0 (p.judged refl) fits

  pub beside_1 : Repaired 1 7 1 file_beside out after r → 6 ≤ length out → r ≡ answer none 2
  unfolding file_beside file_of head_of pairs_right stretch stage_refusal read_refusal is_version head_refusal pairs_refusal net_refusal sections_refusal node_refusal wire_refusal obstacle_refusal first_of section_of
  beside_1 p fits = answer-least clearance_nets.beside_1 (p.judged refl) fits

  -- nor one by which an obstacle of a lower layer bars
  pub lower_all : Repaired 2 7 65535 (file_layered 1) out after r → 3 ≤ length out → r ≡ answer none 1
  unfolding file_layered file_of head_of pairs_right stretch stage_refusal read_refusal is_version head_refusal pairs_refusal net_refusal sections_refusal node_refusal wire_refusal obstacle_refusal first_of section_of
  lower_all p fits = answer-least clearance_nets.lower_all (p.judged refl) fits
