-- Of 17 and 18 the one earlier in the text is answered: a refused point stands before the word that leaves the form.
-- Assumes nothing.
use Rattle.std.specs.Prelude.{ℕ, ◌+◌, ◌<◌, ◌≡◌, refl, true, List, [], ◌∷◌, Err}
use Rattle.std.proofs.Common.{arith}
use Rattle.laws.specs.Sums.{by, no_both}
use Rattle.net.specs.Refusal.{met}
use Rattle.paths.specs.declared.Point.{Point}
use Rattle.paths.specs.declared.Wrong.{Wrong}
use Rattle.paths.specs.Form.{start, points_of, ending_of}
use Rattle.paths.specs.Order.{RisingTo, rising-≤, points_before_wrong}
use Rattle.routes.specs.declared.Node.{Node}
use Rattle.routes.specs.Nodes.{no_point, reach, point_refused, points_refusal, route_refusal}

refused-before : (nodes : List Node) (before : Point) (from : ℕ) (points : List Point) (to : ℕ) → RisingTo from points to
    → met (points_refusal nodes before points) ≡ true
    → ((points_refusal nodes before points).number ≡ 18) × ((points_refusal nodes before points).place < to)
unfolding RisingTo points_refusal
refused-before nodes before from [] to h m = absurd (no_both m refl)
refused-before nodes before from (p ∷ points) to h m =
    by (point_refused nodes p)
    (λ y. rw y (refl, omega (arith, rising-≤ (p.at + 1) points to h.1)))
    (λ z. rw z (refused-before (reach nodes before p) p (p.at + 1) points to h.1 (rw z at m)))

-- where the text leaves the form and some point is refused, the answer is 18, and its place is below that of 17
pub eighteen_earlier : (text : List ℕ) (place : ℕ) (w : Wrong) → ending_of text place ≡ Err w
    → met (points_refusal [] no_point (points_of text place)) ≡ true
    → ((route_refusal text place).number ≡ 18) × ((route_refusal text place).place < w.0)
unfolding route_refusal
eighteen_earlier text place w e m =
    rw m (refused-before [] no_point (start text place) (points_of text place) w.0 (points_before_wrong text place w e) m)
