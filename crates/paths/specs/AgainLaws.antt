-- Laws of the points read again: whether one of some passes a test, and the first that does.
-- Assumes nothing.
use Prim.Native.Nat.{ℕ, zero, suc, ◌+◌, ◌-◌, ◌<◌, ◌≤◌}
use Rattle.std.specs.Prelude.{◌≡◌, Bool, true, false, not, ◌||◌, cond, Option, Some, None, is_some, is_none, option_map, Result, Ok, Err, length}
use Rattle.std.proofs.Common.{◌∙◌, sym, add-zero}
use Rattle.std.proofs.Math.Path.{refl}
use Rattle.std.proofs.Math.Bool.{or_assoc}
use mathlib.Core.List.{List, [], ◌∷◌, ◌++◌, append-nil}
use native.Mathlib.Omega.{arith}
use Rattle.std.specs.Result.{result_ok}
use Rattle.laws.specs.Sums.{by, or_false}
use Rattle.paths.specs.declared.Point.{Point}
use Rattle.paths.specs.declared.Wrong.{Wrong}
use Rattle.paths.specs.declared.Read.{Read}
use Rattle.paths.specs.declared.Read.TheVariants.{End, Whole}
use Rattle.paths.specs.Form.{behind, beginning, start, read_points, points_of}
use Rattle.paths.specs.Again.{stands_within, first_point, first_read}
use Rattle.paths.specs.FormLaws.{Sound, start-sound, sound-step, points-step, points_wrong, points-end}

-- some point of a list passes a test
unfoldable pub passes : (Point → Bool) → List Point → Bool
passes test [] = false
passes test (p ∷ l) = test p || passes test l

module _ (test : Point → Bool) where
  pub passes-more : (done : List Point) (p : Point) → passes test (done ++ (p ∷ [])) ≡ (passes test done || test p)
  unfolding passes
  passes-more [] p = or_false (test p) refl
  passes-more (q ∷ done) p = rw (passes-more done p) (sym (or_assoc (test q) (passes test done) (test p)))

  -- one of the first points of a list passes, or none does
  pub first_some : (done rest : List Point) → is_some (first_point test (length done) (done ++ rest)) ≡ passes test done
  unfolding first_point passes
  first_some [] rest = refl
  first_some (p ∷ done) rest =
      by (test p) (λ t. rw t) (λ t. rw (t, some-map (first_point test (length done) (done ++ rest))) (first_some done rest))
    where
      some-map : (o : Option ℕ) → is_some (option_map suc o) ≡ is_some o
      some-map None = refl
      some-map (Some i) = refl

  pub first-none : (done rest : List Point) → is_none (first_point test (length done) (done ++ rest)) ≡ not (passes test done)
  first-none done rest = rw (first_some done rest)

  pub first-whole : (l : List Point) → is_some (first_point test (length l) l) ≡ passes test l
  first-whole l = rw append-nil at (first_some l [])

-- a search for the first of n points that passes: k points did not pass, r was read behind them, and v is to be found
pub record Searching (text : List ℕ) (test : Point → Bool) (n k : ℕ) (v : Option ℕ) (r : Result Read Wrong) : Type 0 where
  pub sound : Sound text 0 r
  pub most : k ≤ n
  pub rest : v ≡ option_map (λ i. k + i) (first_point test (n - k) (read_points (suc (length text)) text r))

first_of_none : (test : Point → Bool) (n : ℕ) → first_point test n [] ≡ None
unfolding first_point
first_of_none test zero = refl
first_of_none test (suc n) = refl

module _ {text : List ℕ} {test : Point → Bool} {n k : ℕ} {v : Option ℕ} {r : Result Read Wrong} (i : Searching text test n k v r) where
  module _ (h : k < n) {p : Point} {next : ℕ} (e : r ≡ Ok (Whole p next)) where
    whole-sound : Sound text 0 (Ok (Whole p next))
    whole-sound = rw e at i.sound

    looked : v ≡ option_map (λ i. k + i) (cond (test p) (Some 0) (option_map suc (first_point test (n - (k + 1)) (read_points (suc (length text)) text (behind text next p)))))
    unfolding first_point
    looked =
        let m : n - k ≡ suc (n - (k + 1)) = omega arith in
        i.rest ∙ rw (e, points-step text p next whole-sound, m)

    pub search_here : test p ≡ true → Some k ≡ v
    search_here t = let l = rw t at looked in rw (l, add-zero)

    one-more : (o : Option ℕ) → option_map (λ i. k + i) (option_map suc o) ≡ option_map (λ i. k + 1 + i) o
    one-more None = refl
    one-more (Some i) = let z : k + suc i ≡ k + 1 + i = omega arith in rw z

    pub search_on : test p ≡ false → {b : Result Read Wrong} → b ≡ behind text next p → Searching text test n (k + 1) v b
    search_on t q =
        record { sound = rw q (sound-step text p next whole-sound); most = omega arith; rest = rw (looked, t, q) (one-more (first_point test (n - (k + 1)) _)) }

  pub search_wrong : {w : Wrong} → r ≡ Err w → None ≡ v
  search_wrong {w} e = rw (i.rest, e, points_wrong text (suc (length text)) w, first_of_none test (n - k))

  pub search_end : {next : ℕ} → r ≡ Ok (End next) → None ≡ v
  search_end {next} e = rw (i.rest, e, points-end text (suc (length text)) next, first_of_none test (n - k))

  pub search_left : result_ok r ≡ None → None ≡ v
  search_left = left r refl
    where
      left : (q : Result Read Wrong) → r ≡ q → result_ok q ≡ None → None ≡ v
      left (Err w) e h = search_wrong e
      left (Ok s) e h = cc

  pub search_in : {s : Read} → result_ok r ≡ Some s → Searching text test n k v (Ok s)
  search_in {s} = held r refl
    where
      held : (q : Result Read Wrong) → r ≡ q → result_ok q ≡ Some s → Searching text test n k v (Ok s)
      held (Err w) e h = cc
      held (Ok u) e h = let z : r ≡ Ok s = cc in rw z at i

  pub search_none : n ≤ k → None ≡ v
  unfolding first_point
  search_none h = let z : n - k ≡ 0 = omega arith in rw (i.rest, z)

pub search_start : (text : List ℕ) (place n x y low high : ℕ) {s : ℕ} {r : Result Read Wrong} → s ≡ start text place → r ≡ beginning text s
    → Searching text (stands_within x y low high) n 0 (first_read text place n x y low high) r
unfolding first_read points_of
search_start text place n x y low high e q =
    let z : n - 0 ≡ n = omega arith in
    record { sound = rw (q, e) (start-sound text place); most = omega arith; rest = rw (q, e, z) (from-zero (first_point (stands_within x y low high) n _)) }
  where
    from-zero : (o : Option ℕ) → o ≡ option_map (λ i. 0 + i) o
    from-zero None = refl
    from-zero (Some i) = let j : i ≡ 0 + i = omega arith in rw (← j)
