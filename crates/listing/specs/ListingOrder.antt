-- Entries added behind a list one by one: the list stays rising, and its set gains a point with each.
-- Assumes nothing.
use Rattle.std.specs.Prelude.{ℕ, suc, ◌+◌, ◌*◌, ◌≤◌, ◌<◌, ◌≡◌, refl, Bool, true, false, ◌&&◌, ◌||◌, cond, ◌⊎◌, List, [], ◌++◌, length, get_or}
use Rattle.std.proofs.Common.{sym, ◌∙◌, ap, inl, inr, ⊎_elim, append-nil, arith, add-one, length-append, get_or-append-add}
use native.Mathlib.Nat.{add-zero}
use Rattle.std.proofs.Math.Dec.{eqb}
use Rattle.std.proofs.Math.ListN.{get_or-append}
use Rattle.laws.specs.Sum.{χ, any}
use Rattle.laws.specs.Sums.{last_or_below, any_ap}
use Rattle.laws.specs.Numbers.{le16-bytes16}
use Rattle.net.specs.Limits.{length_bound}
use Rattle.net.specs.Layout.{entry_bytes}
use Rattle.pieces.specs.Legal.{entry_wire, entry_position, listed}
use Rattle.pieces.specs.Rises.{Rises, by-wire, by-position}
use Rattle.listing.specs.Listing.{entry, entry_if}

-- m entries that rise, all before position p of wire w
pub record Ahead (list : List ℕ) (m w p : ℕ) : Type 0 where
  pub whole : length list ≡ entry_bytes * m
  pub rising : (e : ℕ) → suc e < m → Rises list e (suc e)
  pub before : (e : ℕ) → e < m → (entry_wire list e < w) ⊎ ((entry_wire list e ≡ w) × (entry_position list e < p))

pub ahead_none : (w p : ℕ) → Ahead [] 0 w p
ahead_none w p =
    record {
      whole = refl;
      rising = λ e h. absurd (native.Mathlib.Nat.lt_irrefl 0 (omega arith));
      before = λ e h. absurd (native.Mathlib.Nat.lt_irrefl 0 (omega arith));
    }

-- all before a later wire
pub ahead_wire : {list : List ℕ} {m w p : ℕ} (v q : ℕ) → w < v → Ahead list m w p → Ahead list m v q
ahead_wire {list} v q l a =
    record {
      whole = a.whole;
      rising = a.rising;
      before = λ e h. inl (⊎_elim (λ x. omega arith) (λ y. let z = y.0 in omega arith) (a.before e h));
    }

module _ (list : List ℕ) (m : ℕ) (whole : length list ≡ entry_bytes * m) where
  -- the entries that were there
  wire-kept : (q : List ℕ) (e : ℕ) → e < m → entry_wire (list ++ q) e ≡ entry_wire list e
  wire-kept q e p = get_or-append list q 0 (entry_bytes * e) (omega arith)

  position-kept : (q : List ℕ) (e : ℕ) → e < m → entry_position (list ++ q) e ≡ entry_position list e
  position-kept q e p =
      rw (get_or-append list q 0 (entry_bytes * e + 1) (omega arith), get_or-append list q 0 (entry_bytes * e + 1 + 1) (omega arith))

  -- the entry behind them
  byte-new : (q : List ℕ) (i k : ℕ) → entry_bytes * m + k ≡ i → get_or (list ++ q) i 0 ≡ get_or q k 0
  byte-new q i k e = ap (λ (x : ℕ). get_or (list ++ q) x 0) (sym e ∙ ap (λ (x : ℕ). x + k) (sym whole)) ∙ get_or-append-add list q k 0

  wire-new : (w p : ℕ) → entry_wire (list ++ entry w p) m ≡ w
  wire-new w p = byte-new (entry w p) (entry_bytes * m) 0 (omega arith)

  position-new : (w p : ℕ) → p < length_bound → entry_position (list ++ entry w p) m ≡ p
  position-new w p h =
      rw (byte-new (entry w p) (entry_bytes * m + 1) 1 refl, byte-new (entry w p) (entry_bytes * m + 1 + 1) 2 (omega arith)) (le16-bytes16 p h)

  -- the set with it
  pub listed_push : (w p : ℕ) → p < length_bound → (i t : ℕ) → listed (list ++ entry w p) (suc m) i t ≡ (listed list m i t || (eqb w i && eqb p t))
  unfolding listed any
  listed_push w p h i t =
      let a =
      any_ap m
      {f = λ e. eqb (entry_wire (list ++ entry w p) e) i && eqb (entry_position (list ++ entry w p) e) t}
      {g = λ e. eqb (entry_wire list e) i && eqb (entry_position list e) t}
      (λ e l. rw (wire-kept (entry w p) e l, position-kept (entry w p) e l)) in
      rw (a, wire-new w p, position-new w p h)

-- one entry more
pub ahead_push : {list : List ℕ} {m w p : ℕ} (q : ℕ) → p ≤ q → q < length_bound → Ahead list m w p → Ahead (list ++ entry w q) (suc m) w (suc q)
ahead_push {list} {m} {w} {p} q l h a =
    record {
      whole = let z = length-append list (entry w q) in let y = a.whole in omega arith;
      rising = λ e r.
          ⊎_elim
          (λ s.
          let lt : e < m = omega arith in
          let k = wire-kept list m a.whole (entry w q) e lt in
          let j = position-kept list m a.whole (entry w q) e lt in
          let wn = wire-new list m a.whole w q in
          let pn = position-new list m a.whole w q h in
          rw s
          (⊎_elim
          (λ x. by-wire (omega arith))
          (λ y. by-position (k ∙ (y.0 ∙ sym wn)) (let z = y.1 in omega arith))
          (a.before e lt)))
          (λ s. rises-kept e s)
          (last_or_below (suc e) m r);
      before = λ e r.
          ⊎_elim
          (λ s.
          rw s (inr (wire-new list m a.whole w q, let z = position-new list m a.whole w q h in omega arith)))
          (λ s.
          let k = wire-kept list m a.whole (entry w q) e s in
          let j = position-kept list m a.whole (entry w q) e s in
          ⊎_elim (λ x. inl (omega arith)) (λ y. inr (k ∙ y.0, let z = y.1 in omega arith)) (a.before e s))
          (last_or_below e m r);
    }
  where
    rises-kept : (e : ℕ) → suc e < m → Rises (list ++ entry w q) e (suc e)
    rises-kept e s = go (a.rising e s)
      where
        go : Rises list e (suc e) → Rises (list ++ entry w q) e (suc e)
        go (by-wire x) =
            let k = wire-kept list m a.whole (entry w q) e (omega arith) in
            let k' = wire-kept list m a.whole (entry w q) (suc e) s in
            by-wire (omega arith)
        go (by-position x y) =
            let k = wire-kept list m a.whole (entry w q) e (omega arith) in
            let k' = wire-kept list m a.whole (entry w q) (suc e) s in
            let j = position-kept list m a.whole (entry w q) e (omega arith) in
            let j' = position-kept list m a.whole (entry w q) (suc e) s in
            by-position (omega arith) (omega arith)

-- one entry more where a test holds
pub ahead_if : {list : List ℕ} {m w p : ℕ} (t : Bool) (q : ℕ) → (t ≡ true → p ≤ q) → q < length_bound → Ahead list m w p → Ahead (list ++ entry_if t w q) (m + χ t 1) w (cond t (suc q) p)
ahead_if {list} {m} {w} {p} true q l h a = rw (add-one m) (ahead_push q (l refl) h a)
ahead_if {list} {m} {w} {p} false q l h a = rw (append-nil list, add-zero m) a

pub listed_if : (list : List ℕ) (m : ℕ) (t : Bool) (w q : ℕ) → length list ≡ entry_bytes * m → q < length_bound → (i x : ℕ) → listed (list ++ entry_if t w q) (m + χ t 1) i x ≡ (listed list m i x || (t && (eqb w i && eqb q x)))
listed_if list m true w q whole h i x = rw (add-one m) (listed_push list m whole w q h i x)
listed_if list m false w q whole h i x = rw (append-nil list, add-zero m) (plain (listed list m i x))
  where
    plain : (b : Bool) → b ≡ (b || false)
    plain true = refl
    plain false = refl
