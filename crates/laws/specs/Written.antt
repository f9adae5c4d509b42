-- Records written one behind the other, as a loop writes them.
-- Assumes nothing.
use Rattle.std.specs.Prelude.{ℕ, ◌+◌, ◌-◌, ◌*◌, ◌≤◌, ◌≡◌, List, ◌++◌, length, take, drop}
use Rattle.std.proofs.Common.{◌∙◌, add-one, take_at}
use Rattle.std.proofs.Math.Path.{sym, ap}
use Rattle.laws.specs.Lists.{over, over_lent}
use Rattle.laws.specs.Gather.{gather}
use Rattle.laws.specs.Gathers.{length-records}

-- one record more, written into what was lent behind those before
module _ (w : ℕ) (f : ℕ → List ℕ) (each : (i : ℕ) → length (f i) ≡ w) where
  pub written_next : (i at : ℕ) (l x y : List ℕ) → at ≡ w * i → at ≤ length l → x ≡ over (gather i f) l → y ≡ over (f i) (take (length x - at) (drop at x))
      → take at x ++ (y ++ drop (length x - at) (drop at x)) ≡ over (gather (i + 1) f) l
  unfolding gather
  written_next i at l x y e h p q = over_lent (gather i f) (f i) l x y at p (length-records w f each i ∙ sym e) h q ∙ ap (λ n. over (gather n f) l) (sym (add-one i))

-- what is written is what is taken of it
pub written_taken : (p l x : List ℕ) (n : ℕ) → x ≡ over p l → length p ≡ n → take n x ≡ p
written_taken p l x n e h = rw e (take_at p (drop (length p) l) n h)
