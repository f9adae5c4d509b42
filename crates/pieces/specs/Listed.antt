-- The list of names has the name of every piece and no other, in strictly rising order, and as many as document 01 says; the weights add up.
-- Assumes nothing.
use Prim.Native.Nat.{ℕ, suc, ◌+◌, ◌*◌, ◌≤◌, ◌<◌}
use Rattle.std.specs.Prelude.{◌≡◌, refl, true, false, ◌&&◌, ◌⊎◌, eqb}
use Rattle.std.proofs.Math.Path.{sym, ap}
use Rattle.std.proofs.Common.{◌∙◌, subst, inr}
use Rattle.std.proofs.Math.Logic.{inl, ⊎_elim}
use mathlib.Core.List.Memᴰ
use mathlib.Core.List.{List, [], ◌∷◌, ◌++◌, Memᴰ}
use native.Mathlib.Omega.{arith}
use Rattle.std.proofs.Math.Dec.{ltb}
use Rattle.std.proofs.Math.ListN.{length, length-append}
use borrow.Author.Tests.{ltb-true, lt-ltb, le-ltb, eq-eqb, ne_eqb, eqb-true, eqb-false}
use Rattle.laws.specs.Sum.{χ, sum, highest}
use Rattle.laws.specs.Sums.{by, no_both, not_true_false, and_left, and_right, and_intro, and_no_left, and_no_right, χ-yes, χ-no, χ_ap, χ-and, sum_ap, sum-+, sum-zero, sum_const, sum-χ, sum-pick, highest-last}
use Rattle.laws.specs.Gather.{only}
use Rattle.laws.specs.Gathers.{total, Sorted, empty, front, length-only, mem_only, only_mem, length-gather, mem_gather, gather_mem, sorted_only, sorted_append, sorted_gather, total_ap, total-zero, total-χ, total-sum}
use Rattle.net.specs.Stage.{Stage}
use Rattle.net.specs.Formed.{Formed}
use Rattle.pieces.specs.Piece.{Points, Element, node, step, Group, Piece, weight_of}
use Rattle.pieces.specs.Real.{Real, a_node, a_step, real_is, is_real_lem}
use Rattle.pieces.specs.Legal.{size}
use Rattle.pieces.specs.Inside.{Inside}
use Rattle.pieces.specs.Name.{cut_at, first_jumper, last_jumper, joins, lowest_node, name_of, named, Name, name}
use Rattle.pieces.specs.Lowest.{joins-yes, joins-below, cut_apart, absent-apart, lowest_node-up, lowest_node-stop, lowest_node-≤, lowest_node-inside, lowest_node_again}
use Rattle.pieces.specs.Jumpers.{jumper-cuts, uncut-none, first-last, first-least, last-jumper, last-most, step-cases, number-low, number-high, number_mid, position-low, position-high, position_mid, below_mid}
use Rattle.pieces.specs.Named.{named-piece, piece-named}
use Rattle.pieces.specs.Report.{node_names, stretch_names, piece_names}

-- names rise by number, then position
abbrev pub Before : Name → Name → Type 0
Before m n = (m.number < n.number) ⊎ ((m.number ≡ n.number) × (m.position < n.position))

-- a name that stands before another differs from it
differ : (m n : Name) → Before m n → (eqb m.number n.number && eqb m.position n.position) ≡ false
differ m n b =
    ⊎_elim
    (λ p. and_no_left (eqb m.position n.position) (ne_eqb m.number n.number (λ e. omega arith)))
    (λ p. and_no_right (eqb m.number n.number) (ne_eqb m.position n.position (λ e. omega arith)))
    b

differ' : (m n : Name) → Before m n → (eqb n.number m.number && eqb n.position m.position) ≡ false
differ' m n b =
    ⊎_elim
    (λ p. and_no_left (eqb n.position m.position) (ne_eqb n.number m.number (λ e. omega arith)))
    (λ p. and_no_right (eqb n.number m.number) (ne_eqb n.position m.position (λ e. omega arith)))
    b

-- a name stands once in a rising list
once : (a b x : ℕ) (l : List Name) → Sorted Before l → Memᴰ (name a b) l → total (λ n. χ (eqb a n.number && eqb b n.position) x) l ≡ x
unfolding total
once a b x [] empty m = absurd (Memᴰ.not-nil m)
once a b x (n ∷ l) (front f q) m =
    ⊎_elim
    (λ (e : name a b ≡ n).
    let one =
    χ-yes x (and_intro (eq-eqb a n.number (ap (λ (y : Name). y.number) e)) (eq-eqb b n.position (ap (λ (y : Name). y.position) e))) in
    let rest =
    total-zero {f = λ (y : Name). χ (eqb a y.number && eqb b y.position) x} l
    (λ y k. χ-no x (differ (name a b) y (rw (← e) at (f y k)))) in
    omega arith)
    (λ k.
    let none = χ-no x (differ' n (name a b) (f (name a b) k)) in
    let rest = once a b x l q k in
    omega arith)
    (Memᴰ.cases_cons m)

module _ (s : Stage) (J : Points) where
  node-listed : (h : ℕ) → h < s.nodes → lowest_node s J h ≡ h → Memᴰ (name h 0) (piece_names s J)
  unfolding piece_names node_names
  node-listed h p e =
      mem_gather s.nodes h (λ i. node_names s J i ++ stretch_names s J i) p
      (Memᴰ.append_left (stretch_names s J h) (mem_only (eqb (lowest_node s J h) h) (eq-eqb (lowest_node s J h) h e)))

  stretch-listed : (i p : ℕ) → i < s.nodes → s.present i ≡ true → p < s.len i → J i p ≡ true → p < last_jumper s J i →
      Memᴰ (name i p) (piece_names s J)
  unfolding piece_names stretch_names
  stretch-listed i p b present l h last =
      mem_gather s.nodes i (λ i. node_names s J i ++ stretch_names s J i) b
      (Memᴰ.append_right (node_names s J i)
      (mem_gather (s.len i) p (λ t. only (s.present i && (J i t && ltb t (last_jumper s J i))) (name i t)) l
      (mem_only (s.present i && (J i p && ltb p (last_jumper s J i))) (and_intro present (and_intro h (lt-ltb p (last_jumper s J i) last))))))

  node-names : (i : ℕ) (n : Name) → Memᴰ n (node_names s J i) → (n ≡ name i 0) × (lowest_node s J i ≡ i)
  unfolding node_names
  node-names i n m =
      let r = only_mem (eqb (lowest_node s J i) i) m in (r.1, eqb-true (lowest_node s J i) i r.0)

  stretch-names : (i : ℕ) (n : Name) → Memᴰ n (stretch_names s J i) →
      (p : ℕ) × (n ≡ name i p) × (s.present i ≡ true) × (J i p ≡ true) × (p < last_jumper s J i)
  unfolding stretch_names
  stretch-names i n m =
      let r = gather_mem (s.len i) (λ t. only (s.present i && (J i t && ltb t (last_jumper s J i))) (name i t)) m in
      let p = r.0 in
      let q = only_mem (s.present i && (J i p && ltb p (last_jumper s J i))) r.2 in
      let w = and_right (s.present i) (J i p && ltb p (last_jumper s J i)) q.0 in (
        p,
        q.1,
        and_left (s.present i) (J i p && ltb p (last_jumper s J i)) q.0,
        and_left (J i p) (ltb p (last_jumper s J i)) w,
        ltb-true p (last_jumper s J i) (and_right (J i p) (ltb p (last_jumper s J i)) w),
      )

module _ (s : Stage) (J : Points) (formed : Formed s) (inside : Inside s J) where
  lowest-listed : (i : ℕ) → i < s.nodes → Memᴰ (name (lowest_node s J i) 0) (piece_names s J)
  lowest-listed i p = node-listed s J (lowest_node s J i) (lowest_node-inside s J formed i p) (lowest_node_again s J formed i)

  -- the name of every element is in the list
  pub name-listed : (e : Element) → Real s e → Memᴰ (name_of s J e) (piece_names s J)
  name-listed (node i) (a_node p) = lowest-listed i p
  name-listed (step i t) (a_step present p l) =
      let b = formed.inside i present in
      let c = formed.below i present in
      step-cases s J inside i t
      (λ low. rw (number-low s J inside i t low, position-low s J inside i t low) (lowest-listed i b))
      (λ f h. rw (number-high s J inside i t f h, position-high s J inside i t f h) (lowest-listed (s.parent i) (omega arith)))
      (λ f h.
      let q = below_mid s J inside i t l f in
      rw (number_mid s J inside i t f h, position_mid s J inside i t f h)
      (stretch-listed s J i (highest t (λ x. J i x)) b present (inside i (highest t (λ x. J i x)) q.1).1 q.1 (omega (arith, q.0))))

  -- every name in the list is the name of an element
  pub listed_element : (n : Name) → Memᴰ n (piece_names s J) → (e : Element) × Real s e × (name_of s J e ≡ n)
  unfolding piece_names
  listed_element n m =
      let r = gather_mem s.nodes (λ i. node_names s J i ++ stretch_names s J i) m in
      let i = r.0 in
      ⊎_elim
      (λ a. let q = node-names s J i n a in (node i, a_node r.1, ap (λ (x : ℕ). name x 0) q.1 ∙ sym q.0))
      (λ b.
      let q = stretch-names s J i n b in
      let p = q.0 in
      let c = first-last s J inside i (jumper-cuts s J inside i p q.3) in
      let f = first-least s J inside i p q.3 in
      let f' : first_jumper s J i < suc p = omega arith in
      let l' : suc p ≤ last_jumper s J i = q.4 in (
        step i (suc p),
        a_step {t = suc p} q.2 (omega arith) (omega arith),
        rw (number_mid s J inside i (suc p) f' l', position_mid s J inside i (suc p) f' l', highest-last (suc p) p (λ x. J i x) (omega arith) q.3 (λ t u v. absurd (native.Mathlib.Nat.lt_irrefl 0 (omega arith))))
            (sym q.1),
      ))
      (Memᴰ.append_cases (node_names s J i) r.2)

  pub listed-piece : (n : Name) → Memᴰ n (piece_names s J) → Piece s J (named s J n)
  listed-piece n m =
      let r = listed_element n m in
      subst (λ (x : Name). Piece s J (named s J x)) r.2 (named-piece s J formed inside r.0 r.1)

  -- every piece is the elements of a name in the list
  pub piece-listed : (P : Group) → Piece s J P → (n : Name) × Memᴰ n (piece_names s J) × ((e : Element) → P e ≡ named s J n e)
  piece-listed P piece =
      let d = piece.one in
      (name_of s J d, name-listed d (is_real_lem s d (piece.real d piece.has_one)), piece-named s J formed inside P piece d piece.has_one)

  wire-rise : (i : ℕ) → Sorted Before (node_names s J i ++ stretch_names s J i)
  unfolding node_names stretch_names
  wire-rise i =
      sorted_append (node_names s J i)
      (sorted_only (eqb (lowest_node s J i) i) (name i 0))
      (sorted_gather (s.len i) names
      (λ t p. sorted_only (s.present i && (J i t && ltb t (last_jumper s J i))) (name i t))
      (λ t u m n p a b.
      let x = (only_mem (s.present i && (J i t && ltb t (last_jumper s J i))) a).1 in
      let y = (only_mem (s.present i && (J i u && ltb u (last_jumper s J i))) b).1 in
      rw (x, y) (inr (refl, p))))
      (λ m n a b.
      let x = node-names s J i m a in
      let y = stretch-names s J i n b in
      rw (x.0, y.1) (inr (refl, (inside i y.0 y.3).0)))
    where
      names : ℕ → List Name
      names t = only (s.present i && (J i t && ltb t (last_jumper s J i))) (name i t)

  -- the names rise strictly, so each stands there once
  pub names-rise : Sorted Before (piece_names s J)
  unfolding piece_names
  names-rise =
      sorted_gather s.nodes (λ i. node_names s J i ++ stretch_names s J i) (λ i p. wire-rise i)
      (λ i j m n p a b. inl (let x = number_is i m a in let y = number_is j n b in omega arith))
    where
      number_is : (i : ℕ) (n : Name) → Memᴰ n (node_names s J i ++ stretch_names s J i) → n.number ≡ i
      number_is i n m =
          ⊎_elim
          (λ a. ap (λ (x : Name). x.number) (node-names s J i n a).0)
          (λ b. ap (λ (x : Name). x.number) (stretch-names s J i n b).1)
          (Memᴰ.append_cases (node_names s J i) m)

  -- the lowest nodes of pieces are those whose wire does not join
  head_or_joins : (i : ℕ) → χ (eqb (lowest_node s J i) i) 1 + χ (joins s J i) 1 ≡ 1
  head_or_joins i =
      by (joins s J i)
      (λ j.
      let b = joins-below s J formed i j in
      let l = lowest_node-≤ s J formed (s.parent i) in
      let e = lowest_node-up s J formed i j in
      rw (j, ne_eqb (lowest_node s J i) i (λ w. omega arith)))
      (λ j. rw (j, eq-eqb (lowest_node s J i) i (lowest_node-stop s J formed i j)))

  -- the jumpers of a cut wire but the last
  but_last : (i : ℕ) → cut_at s J i ≡ true → sum (s.len i) (λ t. χ (J i t && ltb t (last_jumper s J i)) 1) + 1 ≡ sum (s.len i) (λ t. χ (J i t) 1)
  but_last i c =
      let l = last_jumper s J i in
      let a = sum_ap (s.len i) {f = λ t. χ (J i t && ltb t l) 1 + χ (eqb t l) 1} {g = λ t. χ (J i t) 1} (λ t p. split t) in
      let b = sum-+ (s.len i) (λ t. χ (J i t && ltb t l) 1) (λ t. χ (eqb t l) 1) in
      let d = sum-pick (s.len i) l (λ t. 1) (first-last s J inside i c).2 in
      omega arith
    where
      split : (t : ℕ) → χ (J i t && ltb t (last_jumper s J i)) 1 + χ (eqb t (last_jumper s J i)) 1 ≡ χ (J i t) 1
      split t =
          by (J i t)
          (λ y.
          let m = last-most s J inside i t y in
          by (eqb t (last_jumper s J i))
          (λ e. let w = eqb-true t (last_jumper s J i) e in rw (y, e, le-ltb t (last_jumper s J i) (omega arith)))
          (λ e. let w = eqb-false t (last_jumper s J i) e in rw (y, e, lt-ltb t (last_jumper s J i) (omega arith))))
          (λ z.
          rw (z, ne_eqb t (last_jumper s J i) (λ e. no_both (last-jumper s J inside i c) (rw e at z))))

  stretch-count : (i : ℕ) → length (stretch_names s J i) ≡ χ (s.present i) (sum (s.len i) (λ t. χ (J i t && ltb t (last_jumper s J i)) 1))
  unfolding stretch_names
  stretch-count i =
      length-gather (s.len i) (λ t. only (s.present i && (J i t && ltb t (last_jumper s J i))) (name i t))
      ∙ (sum_ap (s.len i) (λ t p.
      length-only (s.present i && (J i t && ltb t (last_jumper s J i))) (name i t) ∙ χ-and (s.present i) (J i t && ltb t (last_jumper s J i)) 1)
      ∙ sum-χ (s.present i) (s.len i) (λ t. χ (J i t && ltb t (last_jumper s J i)) 1))

  -- the pieces that wire i's node and jumpers give
  wire-count : ((i t : ℕ) → J i t ≡ true → s.present i ≡ true) → (i : ℕ) →
      length (node_names s J i ++ stretch_names s J i) + χ (s.present i) 1 ≡ 1 + sum (s.len i) (λ t. χ (J i t) 1)
  unfolding node_names
  wire-count on i =
      let a = length-append (node_names s J i) (stretch_names s J i) in
      let b = length-only (eqb (lowest_node s J i) i) (name i 0) in
      let c = stretch-count i in
      let d = head_or_joins i in
      by (s.present i)
      (λ present.
      let c' = c ∙ χ-yes (sum (s.len i) (λ t. χ (J i t && ltb t (last_jumper s J i)) 1)) present in
      let p = χ-yes 1 present in
      by (cut_at s J i)
      (λ cut.
      let e = but_last i cut in
      let f = χ-no 1 (cut_apart s J i cut) in
      omega arith)
      (λ u.
      let e = sum-zero (s.len i) {f = λ t. χ (J i t && ltb t (last_jumper s J i)) 1} (λ t l. χ-no 1 (and_no_left (ltb t (last_jumper s J i)) (uncut-none s J inside i t u))) in
      let g = sum-zero (s.len i) {f = λ t. χ (J i t) 1} (λ t l. χ-no 1 (uncut-none s J inside i t u)) in
      let f = χ-yes 1 (joins-yes s J i present u) in
      omega arith))
      (λ absent.
      let c' = c ∙ χ-no (sum (s.len i) (λ t. χ (J i t && ltb t (last_jumper s J i)) 1)) absent in
      let p = χ-no 1 absent in
      let f = χ-no 1 (absent-apart s J i absent) in
      let g = sum-zero (s.len i) {f = λ t. χ (J i t) 1} (λ t l. χ-no 1 (not_true_false (J i t) (λ y. no_both (on i t y) absent))) in
      omega arith)

  -- each element is in one named piece of the list
  in_one : (e : Element) → Real s e → (x : ℕ) → total (λ n. χ (named s J n e) x) (piece_names s J) ≡ x
  unfolding named
  in_one e r x =
      total_ap (λ n. rw (real_is s r)) (piece_names s J)
      ∙ once (name_of s J e).number (name_of s J e).position x (piece_names s J) names-rise (name-listed e r)

  -- document 01: number of pieces = nodes − present wires + jumpers
  pub number_of_names : ((i t : ℕ) → J i t ≡ true → s.present i ≡ true) →
      length (piece_names s J) + sum s.nodes (λ i. χ (s.present i) 1) ≡ s.nodes + size s J
  unfolding piece_names size
  number_of_names present =
      let a = length-gather s.nodes (λ i. node_names s J i ++ stretch_names s J i) in
      let b = sum-+ s.nodes (λ i. length (node_names s J i ++ stretch_names s J i)) (λ i. χ (s.present i) 1) in
      let c =
      sum_ap s.nodes
      {f = λ i. length (node_names s J i ++ stretch_names s J i) + χ (s.present i) 1}
      {g = λ i. 1 + sum (s.len i) (λ t. χ (J i t) 1)}
      (λ i p. wire-count present i) in
      let d = sum-+ s.nodes (λ i. 1) (λ i. sum (s.len i) (λ t. χ (J i t) 1)) in
      let e = sum_const s.nodes 1 in
      omega arith

  -- document 01: the weights of all pieces are those of the present wires
  pub total-weight : total (λ n. weight_of s (named s J n)) (piece_names s J) ≡ sum s.nodes (λ i. χ (s.present i) (s.len i * s.factor i))
  unfolding weight_of
  total-weight =
      total-sum s.nodes (λ n i. χ (s.present i) (sum (s.len i) (λ t. χ (named s J n (step i (suc t))) (s.factor i)))) (piece_names s J)
      ∙ sum_ap s.nodes (λ i p.
      total-χ (s.present i) (λ n. sum (s.len i) (λ t. χ (named s J n (step i (suc t))) (s.factor i))) (piece_names s J)
      ∙ χ_ap (s.present i) (λ present.
      total-sum (s.len i) (λ n t. χ (named s J n (step i (suc t))) (s.factor i)) (piece_names s J)
      ∙ (sum_ap (s.len i) (λ t l. in_one (step i (suc t)) (a_step {t = suc t} present (omega arith) l) (s.factor i)) ∙ sum_const (s.len i) (s.factor i))))
