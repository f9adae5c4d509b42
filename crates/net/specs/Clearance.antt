-- What a clearance bars: at 0 just what an obstacle holds, as document 01 has it, border included; with a larger one all that a smaller one bars.
-- Assumes nothing.
use Rattle.std.specs.Prelude.{ℕ, ◌≤◌, ◌≡◌, Bool, true, ◌&&◌, List, leb}
use Rattle.std.proofs.Common.{arith}
use Rattle.std.proofs.lemmas.Bool.Decides.{nat_tests}
use Rattle.laws.specs.Sum.{any}
use Rattle.laws.specs.Sums.{any_ap, any_some, any-yes, and_left, and_right, and_intro}
use Rattle.net.specs.Net.{point_x, point_y, obstacle_count, obstacle_x1, obstacle_y1, obstacle_x2, obstacle_y2, obstacle_layer, wire_layer, near, barred}

-- obstacle k holds the point x, y, its border included (document 01)
unfoldable pub holds : ℕ → List ℕ → ℕ → ℕ → ℕ → Bool
holds version obstacles k x y =
    leb (obstacle_x1 version obstacles k) x && leb x (obstacle_x2 version obstacles k)
    && (leb (obstacle_y1 version obstacles k) y && leb y (obstacle_y2 version obstacles k))

pub near_none : (v : ℕ) (os : List ℕ) (k x y : ℕ) → near v 0 os k x y ≡ holds v os k x y
unfolding near holds
near_none v os k x y = grind (arith, nat_tests)

pub near_more : (v : ℕ) {c d : ℕ} (os : List ℕ) (k x y : ℕ) → c ≤ d → near v c os k x y ≡ true → near v d os k x y ≡ true
unfolding near
near_more v os k x y l h = grind (arith, nat_tests)

-- so a point is barred just where an obstacle that counts for its wire holds it
pub barred_none : (v : ℕ) (ns ws os : List ℕ) (i t : ℕ) →
    barred v 0 ns ws os i t
    ≡ any (obstacle_count v os) (λ k. holds v os k (point_x ns ws i t) (point_y ns ws i t) && leb (wire_layer ws i) (obstacle_layer v os k))
unfolding barred
barred_none v ns ws os i t = any_ap (obstacle_count v os) (λ k h. rw (near_none v os k (point_x ns ws i t) (point_y ns ws i t)))

pub barred_more : (v : ℕ) {c d : ℕ} (ns ws os : List ℕ) (i t : ℕ) → c ≤ d → barred v c ns ws os i t ≡ true → barred v d ns ws os i t ≡ true
unfolding barred
barred_more v {c} {d} ns ws os i t l h =
    let x = point_x ns ws i t in
    let y = point_y ns ws i t in
    let o = any_some (obstacle_count v os) (λ k. near v c os k x y && leb (wire_layer ws i) (obstacle_layer v os k)) h in
    let counts = leb (wire_layer ws i) (obstacle_layer v os o.0) in
    any-yes (obstacle_count v os) o.0 (λ k. near v d os k x y && leb (wire_layer ws i) (obstacle_layer v os k)) o.1
    (and_intro (near_more v os o.0 x y l (and_left (near v c os o.0 x y) counts o.2)) (and_right (near v c os o.0 x y) counts o.2))
