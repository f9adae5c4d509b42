-- The list of the wires below n rises, and its set has each wire's own jumper and its highest cuttable point where it is cut there.
-- Assumes nothing.
use Prim.Native.Nat.{ℕ, zero, suc, ◌+◌, ◌≤◌, ◌<◌}
use Rattle.std.specs.Prelude.{◌≡◌, Bool, ◌&&◌, ◌||◌}
use Rattle.std.proofs.Math.Path.{refl, ap}
use Rattle.std.proofs.Common.{◌∙◌}
use Rattle.std.proofs.Math.Bool.{true, false, cond}
use mathlib.Core.List.{List, ◌++◌, append_assoc}
use native.Mathlib.Omega.{arith}
use Rattle.std.proofs.Math.Nat.{add_assoc}
use Rattle.std.proofs.Math.Dec.{ltb, eqb}
use Rattle.std.proofs.Math.ListN.{get_or}
use borrow.Author.Tests.{eqb-true, eqb-false, ltb-true, lt-ltb, le-ltb, ltb-false}
use Rattle.laws.specs.Sum.{χ, sum, any}
use Rattle.laws.specs.Sums.{by}
use Rattle.laws.specs.Gather.{gather}
use Rattle.net.specs.Limits.{length_bound}
use Rattle.pieces.specs.Legal.{listed}
use Rattle.listing.specs.Listing.{entry_if, list_of, count_of}
use Rattle.listing.specs.ListingOrder.{Ahead, ahead_none, ahead_wire, ahead_if, listed_if}

-- the positions of the wires below n have 16 bits, and a wire's own jumper lies below its highest cuttable point where it is cut there too
pub record Listable (n : ℕ) (hi near : List ℕ) (cut_high : List Bool) : Type 0 where
  pub near_short : (r : ℕ) → r < n → get_or near r 0 < length_bound
  pub hi_short : (r : ℕ) → r < n → get_or hi r 0 < length_bound
  pub ordered : (r : ℕ) → r < n → ltb 0 (get_or near r 0) ≡ true → get_or cut_high r false ≡ true → get_or near r 0 < get_or hi r 0

-- position t of wire r is listed
abbrev pub point_at : List ℕ → List ℕ → List Bool → ℕ → ℕ → Bool
point_at hi near cut_high r t = (ltb 0 (get_or near r 0) && eqb (get_or near r 0) t) || (get_or cut_high r false && eqb (get_or hi r 0) t)

-- a wire other than n is below n + 1 where it is below n
no_more : (i n : ℕ) → eqb n i ≡ false → ltb i (suc n) ≡ ltb i n
no_more i n z =
    let ne = eqb-false n i z in
    by (ltb i n)
    (λ y. let l = ltb-true i n y in rw y (lt-ltb i (suc n) (omega arith)))
    (λ x. let l = ltb-false i n x in rw x (le-ltb i (suc n) (omega arith)))

module _ (hi near : List ℕ) (cut_high : List Bool) where
  fewer : (n : ℕ) → Listable (suc n) hi near cut_high → Listable n hi near cut_high
  fewer n l =
      record {
        near_short = λ r p. l.near_short r (omega arith);
        hi_short = λ r p. l.hi_short r (omega arith);
        ordered = λ r p. l.ordered r (omega arith);
      }

  pub list_ahead : (n : ℕ) → Listable n hi near cut_high → Ahead (list_of n hi near cut_high) (count_of n near cut_high) n 0
  unfolding gather sum
  list_ahead zero l = ahead_none 0 0
  list_ahead (suc n) l =
      let a = get_or near n 0 in
      let b = get_or hi n 0 in
      let s = ltb 0 a in
      let h = get_or cut_high n false in
      let done = list_ahead n (fewer n l) in
      let one = ahead_if s a (λ y. omega arith) (l.near_short n (omega arith)) done in
      let two = ahead_if h b (bound s h a b (l.ordered n (omega arith))) (l.hi_short n (omega arith)) one in
      let e = append_assoc (list_of n hi near cut_high) (entry_if s n a) (entry_if h n b) in
      let f = add_assoc (count_of n near cut_high) (χ s 1) (χ h 1) in
      rw (← e, ← f) (ahead_wire (suc n) 0 (omega arith) two)
    where
      bound : (s h : Bool) (a b : ℕ) → (s ≡ true → h ≡ true → a < b) → h ≡ true → cond s (suc a) 0 ≤ b
      bound true h a b f y = let z = f refl y in omega arith
      bound false h a b f y = omega arith

  -- one wire more
  turn : (n i t : ℕ) (x s h : Bool) (a b : ℕ) → (eqb n i ≡ true → x ≡ false) →
      ((x || (s && (eqb n i && eqb a t))) || (h && (eqb n i && eqb b t))) ≡ cond (eqb n i) ((s && eqb a t) || (h && eqb b t)) x
  turn n i t x s h a b off =
      by (eqb n i)
      (λ y. rw (y, off y))
      (λ z. rw z (plain x s h))
    where
      plain : (x s h : Bool) → ((x || (s && false)) || (h && false)) ≡ x
      plain true s h = refl
      plain false true true = refl
      plain false true false = refl
      plain false false true = refl
      plain false false false = refl

  pub list_points : (n : ℕ) → Listable n hi near cut_high → (i t : ℕ) → listed (list_of n hi near cut_high) (count_of n near cut_high) i t ≡ (ltb i n && point_at hi near cut_high i t)
  unfolding gather sum listed any
  list_points zero l i t = rw (le-ltb i 0 (omega arith))
  list_points (suc n) l i t =
      let a = get_or near n 0 in
      let b = get_or hi n 0 in
      let s = ltb 0 a in
      let h = get_or cut_high n false in
      let done = list_ahead n (fewer n l) in
      let one = ahead_if s a (λ y. omega arith) (l.near_short n (omega arith)) done in
      let e = append_assoc (list_of n hi near cut_high) (entry_if s n a) (entry_if h n b) in
      let f = add_assoc (count_of n near cut_high) (χ s 1) (χ h 1) in
      let u = listed_if (list_of n hi near cut_high) (count_of n near cut_high) s n a done.whole (l.near_short n (omega arith)) i t in
      let v = listed_if (list_of n hi near cut_high ++ entry_if s n a) (count_of n near cut_high + χ s 1) h n b one.whole (l.hi_short n (omega arith)) i t in
      let w = list_points n (fewer n l) i t in
      rw (← e, ← f) (v ∙ (ap (λ (x : Bool). x || (h && (eqb n i && eqb b t))) (u ∙ ap (λ (x : Bool). x || (s && (eqb n i && eqb a t))) w)
      ∙ (turn n i t (ltb i n && point_at hi near cut_high i t) s h a b (λ y. let q = eqb-true n i y in rw (le-ltb i n (omega arith)))
      ∙ last n i t)))
    where
      last : (n i t : ℕ) → cond (eqb n i) (point_at hi near cut_high n t) (ltb i n && point_at hi near cut_high i t) ≡ (ltb i (suc n) && point_at hi near cut_high i t)
      last n i t =
          by (eqb n i)
          (λ y. let q = eqb-true n i y in rw (y, lt-ltb i (suc n) (omega arith)) (ap (λ (x : ℕ). point_at hi near cut_high x t) q))
          (λ z. rw (z, no_more i n z))
