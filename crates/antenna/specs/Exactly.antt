-- What follows from repair's promise on an accepted net: 15 exactly when no set is legal; 16 exactly when a smallest legal set needs more bytes than lent,
-- and then its place is that number of bytes; otherwise the count is that of a smallest legal set. The three exclude each other. 1,530 bytes are always enough.
-- Assumes nothing.
use Rattle.std.specs.Prelude.{ℕ, suc, ◌-◌, ◌*◌, ◌≤◌, ◌<◌, ◌≡◌, refl, ◌↔◌, false, List, length, take, drop}
use Rattle.std.proofs.Common.{sym, ◌∙◌}
use Rattle.std.proofs.Math.Path.{ap}
use Rattle.std.proofs.Math.Seq.{take_at}
use native.Mathlib.Omega.{arith}
use Rattle.laws.specs.Sums.{by}
use Rattle.net.specs.declared.Answer.{Answer}
use Rattle.net.specs.Layout.{entry_bytes, most_nodes}
use Rattle.net.specs.Stage.{Stage}
use Rattle.net.specs.Formed.{Formed}
use Rattle.net.specs.Refusal.{Verdict, answer, none, refusal, met}
use Rattle.net.specs.Call.{net_at, call_refusal}
use Rattle.net.specs.First.{unmet-number}
use Rattle.net.specs.Calls.{call_right}
use Rattle.pieces.specs.Legal.{listed, Smallest, NoneLegal}
use Rattle.pieces.specs.Inside.{Inside}
use Rattle.pieces.specs.Size.{listed-size}
use Rattle.pieces.specs.LegalByNodes.{free-inside}
use Rattle.pieces.specs.Outer.{smallest-few}
use Rattle.antenna.specs.AcceptedCalls.{call_formed}
use Rattle.repairs.specs.Promise.{Judged, no_legal_set, too_short, done, Repaired}

-- two smallest lists are equally long
pub same_count : {s : Stage} {limit : ℕ} {l k : List ℕ} {m n : ℕ} → Smallest s limit l m → Smallest s limit k n → m ≡ n
same_count {s} {limit} {l} {k} {m} {n} a b =
    let p = a.fewest (listed k n) b.legal in
    let q = b.fewest (listed l m) a.legal in
    let x = listed-size s k n in
    let y = listed-size s l m in
    omega arith

module _ {s : Stage} {limit : ℕ} {out after : List ℕ} {r : Answer} where
  -- 15 exactly when no set of any size is legal
  pub fifteen : Judged s limit out after r → (r.number ≡ 15) ↔ NoneLegal s limit
  fifteen (no_legal_set n e k) = (λ _. n, λ _. ap (λ (a : Answer). a.number) e ∙ unfold answer in refl)
  fifteen (too_short list n m lt e k) =
      (λ f. absurd (apart (unfold answer in ap (λ (a : Answer). a.number) e) f), λ f. absurd (f (listed list n) m.legal))
    where
      apart : r.number ≡ 16 → r.number ≡ 15 → ⊥
      apart p q = omega arith
  fifteen (done list n m le e k) =
      (λ f. absurd (apart (unfold answer in ap (λ (a : Answer). a.number) e) f), λ f. absurd (f (listed list n) m.legal))
    where
      apart : r.number ≡ 0 → r.number ≡ 15 → ⊥
      apart p q = omega arith

  -- 16 exactly when a smallest legal set needs more bytes than lent
  pub sixteen : Judged s limit out after r → (r.number ≡ 16) ↔ ((list : List ℕ) × (n : ℕ) × Smallest s limit list n × (length out < entry_bytes * n))
  sixteen (no_legal_set f e k) =
      (λ p. absurd (apart (unfold answer in ap (λ (a : Answer). a.number) e) p), λ w. absurd (f (listed w.0 w.1) w.2.legal))
    where
      apart : r.number ≡ 15 → r.number ≡ 16 → ⊥
      apart p q = omega arith
  sixteen (too_short list n m lt e k) = (λ _. (list, n, m, lt), λ _. unfold answer in ap (λ (a : Answer). a.number) e)
  sixteen (done list n m le e k) =
      (λ p. absurd (apart (unfold answer in ap (λ (a : Answer). a.number) e) p), λ w. absurd (fits (same_count m w.2) w.3))
    where
      apart : r.number ≡ 0 → r.number ≡ 16 → ⊥
      apart p q = omega arith

      fits : {x : ℕ} → n ≡ x → length out < entry_bytes * x → ⊥
      fits p q = omega arith

  -- its place is the number of bytes that any smallest legal set needs
  pub sixteen-place : Judged s limit out after r → r.number ≡ 16 → (list : List ℕ) (n : ℕ) → Smallest s limit list n → r.place ≡ entry_bytes * n
  sixteen-place (no_legal_set f e k) p list n m = absurd (f (listed list n) m.legal)
  sixteen-place (too_short l x w lt e k) p list n m =
      let q : r.place ≡ entry_bytes * x = unfold answer in ap (λ (a : Answer). a.place) e in
      q ∙ ap (λ (y : ℕ). entry_bytes * y) (same_count w m)
  sixteen-place (done l x w le e k) p list n m = absurd (apart (unfold answer in ap (λ (a : Answer). a.number) e) p)
    where
      apart : r.number ≡ 0 → r.number ≡ 16 → ⊥
      apart a b = omega arith

  -- otherwise the count is that of any smallest legal set, and its list stands at the start of the buffer
  pub counted : Judged s limit out after r → r.number ≡ 0 → (list : List ℕ) (n : ℕ) → Smallest s limit list n → r.count ≡ n
  counted (no_legal_set f e k) p list n m = absurd (f (listed list n) m.legal)
  counted (too_short l x w lt e k) p list n m = absurd (apart (unfold answer in ap (λ (a : Answer). a.number) e) p)
    where
      apart : r.number ≡ 16 → r.number ≡ 0 → ⊥
      apart a b = omega arith
  counted (done l x w le e k) p list n m = let q : r.count ≡ x = unfold answer in ap (λ (a : Answer). a.count) e in q ∙ same_count w m

  -- the three answers exclude each other: whichever smallest set is listed, the answer is one
  pub one_answer : {after' : List ℕ} {r' : Answer} → Judged s limit out after r → Judged s limit out after' r' → r ≡ r'
  one_answer (no_legal_set f e k) (no_legal_set f' e' k') = e ∙ sym e'
  one_answer (no_legal_set f e k) (too_short l m w lt e' k') = absurd (f (listed l m) w.legal)
  one_answer (no_legal_set f e k) (done l m w le e' k') = absurd (f (listed l m) w.legal)
  one_answer (too_short l m w lt e k) (no_legal_set f e' k') = absurd (f (listed l m) w.legal)
  one_answer (too_short l m w lt e k) (too_short l' m' w' lt' e' k') =
      e ∙ (ap (λ (x : ℕ). answer (refusal 16 (entry_bytes * x)) 0) (same_count w w') ∙ sym e')
  one_answer (too_short l m w lt e k) (done l' m' w' le e' k') = let q = same_count w w' in absurd (native.Mathlib.Nat.lt_irrefl 0 (omega arith))
  one_answer (done l m w le e k) (no_legal_set f e' k') = absurd (f (listed l m) w.legal)
  one_answer (done l m w le e k) (too_short l' m' w' lt e' k') = let q = same_count w w' in absurd (native.Mathlib.Nat.lt_irrefl 0 (omega arith))
  one_answer (done l m w le e k) (done l' m' w' le' e' k') = e ∙ (ap (answer none) (same_count w w') ∙ sym e')

module _ {stage limit clearance : ℕ} {file out after : List ℕ} {r : Answer} (p : Repaired stage limit clearance file out after r) (zero : r.number ≡ 0) where
  -- done: the call met none of 1 to 11 and 20
  pub repair_unmet : met (call_refusal stage file) ≡ false
  repair_unmet =
      by (met (call_refusal stage file))
      (λ m. unmet-number (call_refusal stage file) (sym (number_of (call_refusal stage file) (p.refused m).0) ∙ zero))
      (λ u. u)
    where
      number_of : (q : Verdict) → r ≡ answer q 0 → r.number ≡ q.number
      number_of q e = unfold answer in ap (λ (a : Answer). a.number) e

  done_list : (entry_bytes * r.count ≤ length out) × Smallest (net_at file stage clearance) limit (take (entry_bytes * r.count) after) r.count
  done_list = at (p.judged repair_unmet)
    where
      apart : (number place : ℕ) → r ≡ answer (refusal (suc number) place) 0 → ⊥
      apart number place e = let a : r.number ≡ suc number = unfold answer in ap (λ (a : Answer). a.number) e in omega arith

      at : Judged (net_at file stage clearance) limit out after r → (entry_bytes * r.count ≤ length out) × Smallest (net_at file stage clearance) limit (take (entry_bytes * r.count) after) r.count
      at (no_legal_set f e k) = absurd (apart 14 0 e)
      at (too_short list n m lt e k) = absurd (apart 15 (entry_bytes * n) e)
      at (done list n m le e k) =
          let c : r.count ≡ n = unfold answer in ap (λ (a : Answer). a.count) e in
          rw (c, k, take_at list (drop (entry_bytes * n) out) (entry_bytes * n) m.whole) (le, m)

  -- done: the list lies in the lent buffer, and is that of a smallest legal set
  pub list_room : entry_bytes * r.count ≤ length out
  list_room = done_list.0

  pub list_smallest : Smallest (net_at file stage clearance) limit (take (entry_bytes * r.count) after) r.count
  list_smallest = done_list.1

  -- what the theorems on pieces assume
  pub repair_formed : Formed (net_at file stage clearance)
  repair_formed = call_formed stage clearance file repair_unmet

  pub repair_inside : Inside (net_at file stage clearance) (listed (take (entry_bytes * r.count) after) r.count)
  repair_inside = free-inside (net_at file stage clearance) (listed (take (entry_bytes * r.count) after) r.count) list_smallest.legal.free

-- bytes for two jumpers on each wire of the largest net
abbrev pub enough_bytes : ℕ
enough_bytes = entry_bytes * (2 * (most_nodes - 1))

pub enough_is : enough_bytes ≡ 1530
enough_is = refl

-- with that many bytes lent, an accepted net is never answered with 16
pub enough :
    {stage limit clearance : ℕ} {file out after : List ℕ} {r : Answer} →
    Repaired stage limit clearance file out after r → met (call_refusal stage file) ≡ false → enough_bytes ≤ length out → r.number ≡ 16 → ⊥
enough {stage} {limit} {clearance} {file} {out} {after} {r} p u room e =
    let w = (sixteen (p.judged u)).0 e in
    let right = call_right stage file u in
    let few = smallest-few (net_at file stage clearance) (call_formed stage clearance file u) limit w.0 w.1 w.2 in
    native.Mathlib.Nat.lt_irrefl 0 (omega (arith, few, w.3, room, right.sized.few_nodes))
