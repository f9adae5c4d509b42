-- Reading a route point by point: the state of reading with what was read last, and what it leads to.
-- Assumes nothing.
use Rattle.std.specs.Prelude.{ℕ, suc, ◌+◌, ◌<◌, ◌≤◌, ◌≡◌, Option, Some, option_map, Result, Ok, Err, ltb}
use Rattle.std.proofs.Common.{◌∙◌}
use Rattle.std.proofs.Math.Path.{refl, sym}
use mathlib.Core.List.{List, [], ◌∷◌, append-nil}
use native.Mathlib.Omega.{arith}
use Rattle.std.proofs.Math.ListN.{length}
use Rattle.laws.specs.Sums.{by}
use Rattle.net.specs.declared.refusal.Refusal.{Refusal}
use Rattle.net.specs.declared.refusal.Refusal.TheVariants.{RouteForm, RoutePoint}
use Rattle.net.specs.Refusal.{refusal}
use Rattle.net.specs.Layout.{most_nodes}
use Rattle.paths.specs.declared.Point.{Point}
use Rattle.paths.specs.declared.Wrong.{Wrong}
use Rattle.paths.specs.declared.Read.{Read}
use Rattle.paths.specs.declared.Read.TheVariants.{End, Whole}
use Rattle.paths.specs.Form.{beginning, behind, start, read_points, read_ending, points_of, ending_of}
use Rattle.paths.specs.FormLaws.{Sound, left, start-sound, sound-step, left-most, behind-left, points-step, ending-step, points_wrong, points-end, ending_wrong, ending-end, end-points}
use Rattle.routes.specs.declared.Found.{Found}
use Rattle.routes.specs.declared.Node.{Node}
use Rattle.routes.specs.Nodes.{no_point, points_refusal, route_refusal, route_end, end_of, form_refusal, route_nodes, nodes_from}
use Rattle.routes.specs.Table.{counted, found_at, RouteRead}
use Rattle.routes.specs.Reached.{Reached, start_reached}

-- points have been read, and behind them what `read` says
pub record Reading (text : List ℕ) (place : ℕ) (read : Result Read Wrong) (points : ℕ) (found : Option Found) (table : List Node) : Type 0 where
  pub state : Reached (points_of text place) (read_points (suc (length text)) text read) points found table
  pub ending : ending_of text place ≡ read_ending (suc (length text)) text read
  pub sound : Sound text 0 read
  pub room : points + left text read ≤ length text

-- 17 where the text leaves the form
abbrev pub formed : Result Read Wrong → Result Read Refusal
formed (Ok read) = Ok read
formed (Err w) = Err (RouteForm w.0)

-- the count of the nodes found
count-found : (nodes : List Node) (before : Point) → option_map (λ (f : Found). f.count) (found_at nodes before) ≡ counted (length nodes)
count-found nodes before = by (ltb most_nodes (length nodes)) (λ y. rw y) (λ z. rw z)

module _ (text : List ℕ) (place : ℕ) where
  pub reading_start : {at : ℕ} {read : Result Read Wrong} (table : List Node) → at ≡ start text place → read ≡ beginning text at
      → Reading text place read 0 (Some (record { count = 0; last = 0 })) table
  unfolding points_of ending_of
  reading_start table p q =
      let s = start-sound text place in
      rw (q, p)
      record {
        state = start_reached _ table;
        ending = refl;
        sound = s;
        room = omega (arith, left-most text 0 (beginning text (start text place)) s);
      }

  -- 18 on a point
  pub point_refused_lem : {e : Refusal} {at : ℕ} → (e ≡ RoutePoint at) × (points_refusal [] no_point (points_of text place) ≡ refusal 18 at) → RouteRead text place (Err e)
  unfolding route_refusal
  point_refused_lem h = record { verdict = rw (h.0, h.1); route = tt }

  module _ {points : ℕ} {found : Option Found} {table : List Node} {read : Result Read Wrong} (r : Reading text place read points found table) where
    -- the text leaves the form
    pub route_wrong : {w : Wrong} → read ≡ Err w → RouteRead text place (Err (RouteForm w.0))
    unfolding route_refusal points_refusal form_refusal
    route_wrong {w} q =
        let e = rw (q, points_wrong text (suc (length text)) w) at r.state.refused in
        record { verdict = rw (e, r.ending, q, ending_wrong text (suc (length text)) w); route = tt }

    pub route_unformed : {e : Refusal} → formed read ≡ Err e → RouteRead text place (Err e)
    route_unformed {e} = left read refl
      where
        left : (q : Result Read Wrong) → read ≡ q → formed q ≡ Err e → RouteRead text place (Err e)
        left (Err w) q h = let z : RouteForm w.0 ≡ e = cc in rw z at (route_wrong q)
        left (Ok s) q h = cc

    pub reading_formed : {s : Read} → formed read ≡ Ok s → Reading text place (Ok s) points found table
    reading_formed {s} = held read refl
      where
        held : (q : Result Read Wrong) → read ≡ q → formed q ≡ Ok s → Reading text place (Ok s) points found table
        held (Err w) q h = cc
        held (Ok u) q h = let z : read ≡ Ok s = cc in rw z at r

    -- the end
    pub route_end_lem : {next : ℕ} {count : Option ℕ} → read ≡ Ok (End next) → count ≡ option_map (λ (f : Found). f.count) found
        → RouteRead text place (Ok (record { end = next; points = points; count = count; nodes = table }))
    unfolding route_refusal route_end end_of points_refusal form_refusal route_nodes nodes_from
    route_end_lem {next} q c =
        let s = rw (q, points-end text (suc (length text)) next) at r.state in
        let f : ending_of text place ≡ Ok (End next) = rw q at r.ending ∙ ending-end text (suc (length text)) next in
        let all : length (points_of text place) ≡ points = rw (s.split, append-nil s.done) (sym s.many) in
        record {
          verdict = rw (s.refused, f);
          route = record {
            end = rw f;
            points = sym all;
            count = c ∙ rw (s.reached, s.follows) (count-found s.nodes s.before);
            some = rw s.reached (s.some (omega (arith, end-points text place next f)));
            table = rw s.reached s.holds;
          };
        }

    -- a whole point
    module _ {p : Point} {next : ℕ} (q : read ≡ Ok (Whole p next)) where
      pub whole-sound : Sound text 0 (Ok (Whole p next))
      whole-sound = rw q at r.sound

      pub reached_whole : Reached (points_of text place) (p ∷ read_points (suc (length text)) text (behind text next p)) points found table
      reached_whole = rw (q, points-step text p next whole-sound) at r.state

      pub whole_room : points + 1 ≤ length text
      unfolding left
      whole_room = let h = rw q at r.room in omega arith

      module _ {read' : Result Read Wrong} (e : read' ≡ behind text next p) where
        pub left_less : left text read' < left text read
        left_less = rw (e, q) (behind-left text p next whole-sound)

        pub left_formed : {s : Read} → formed read' ≡ Ok s → left text (Ok s) < left text (Ok (Whole p next))
        left_formed {s} = held read' refl
          where
            held : (u : Result Read Wrong) → read' ≡ u → formed u ≡ Ok s → left text (Ok s) < left text (Ok (Whole p next))
            held (Err w) k h = cc
            held (Ok v) k h = let z : read' ≡ Ok s = cc in rw z at (rw q at left_less)

        pub reading_on : {found' : Option Found} {table' : List Node}
            → Reached (points_of text place) (read_points (suc (length text)) text (behind text next p)) (points + 1) found' table'
            → Reading text place read' (points + 1) found' table'
        reading_on s =
            rw e
            record {
              state = s;
              ending = rw q at r.ending ∙ ending-step text p next whole-sound;
              sound = sound-step text p next whole-sound;
              room = let h = rw q at r.room in omega (arith, behind-left text p next whole-sound);
            }
