-- What the call that reads a route answers after each of its tests.
-- Assumes nothing.
use Rattle.std.specs.Prelude.{ℕ, ◌<◌, ◌≡◌, true, false, List, Result, Ok, Err, length}
use Rattle.std.proofs.Math.Path.{refl}
use Rattle.std.proofs.Common.{◌∙◌, ap}
use Rattle.net.specs.declared.refusal.Refusal.{Refusal}
use Rattle.net.specs.declared.refusal.Refusal.TheVariants.{NodeSection}
use Rattle.net.specs.declared.Answer.{Answer}
use Rattle.net.specs.File.{file_bytes}
use Rattle.net.specs.Layout.{most_nodes}
use Rattle.net.specs.Numbers.{number_of, place_of, answered}
use Rattle.net.specs.Refusal.{none, refusal, met, answer, write_refusal, write_answer, write_buffer}
use Rattle.net.specs.Answered.{met_refusal}
use Rattle.net.specs.First.{first_of_lem, rest_of}
use Rattle.net.specs.Writing.{write_net}
use Rattle.routes.specs.declared.Route.{Route}
use Rattle.routes.specs.Table.{RouteRead}
use Rattle.routes.specs.Nodes.{route_refusal, route_nodes, route_end}
use Rattle.def.specs.declared.Written.{Written}
use Rattle.def.specs.Pins.{pins_refusal}
use Rattle.def.specs.Written.{written}
use Rattle.def.specs.Sectioning.{too_many}
use Rattle.def.specs.Ending.{first_version}
use Rattle.def.specs.Promise.{def_nodes, def_wires, def_refusal, def_answer, def_buffer}

-- the route is met by neither 17 nor 18
module _ {text : List ℕ} {place : ℕ} {r : Result Route Refusal} (read : RouteRead text place r) {route : Route} (h : r ≡ Ok route) where
  pub route_unmet : met (route_refusal text place) ≡ false
  route_unmet = let v = rw h at read.verdict in rw (← v)

  pub route_end_lem : route.end ≡ route_end text place
  route_end_lem = let i = rw h at read.route in i.end

module _ (text : List ℕ) (place : ℕ) (pins obstacles out : List ℕ) where
  -- what the call answers, and what the lent buffer then holds
  abbrev Answered : Result Written Refusal → List ℕ → Type 0
  Answered r after = (written r ≡ def_answer text place pins obstacles (length out)) × (after ≡ def_buffer text place pins obstacles out)

  answered-refused : (r : Refusal) → refusal (number_of r) (place_of r) ≡ def_refusal text place pins obstacles (length out) → Answered (Err r) out
  unfolding def_answer def_buffer
  answered-refused r q = let m = met_refusal r in (rw (← q, m), rw (← q, m))

  -- 17 or 18
  pub answered_route : (r : Refusal) → refusal (number_of r) (place_of r) ≡ route_refusal text place → Answered (Err r) out
  unfolding def_refusal
  answered_route r q = answered-refused r (first_of_lem (route_refusal text place) _ q (met_refusal r))

  module _ (u : none ≡ route_refusal text place) where
    -- 19
    pub answered_pins : (r : Refusal) → refusal (number_of r) (place_of r) ≡ pins_refusal (route_nodes text place) pins → Answered (Err r) out
    unfolding def_refusal
    answered_pins r q = answered-refused r (rest_of (route_refusal text place) _ u refl (first_of_lem (pins_refusal (route_nodes text place) pins) _ q (met_refusal r)))

    module _ (v : none ≡ pins_refusal (route_nodes text place) pins) where
      def_write : write_refusal 1 (def_nodes text place pins) (def_wires text place) obstacles (length out) ≡ def_refusal text place pins obstacles (length out)
      unfolding def_refusal
      def_write = rest_of (route_refusal text place) _ u refl (rest_of (pins_refusal (route_nodes text place) pins) _ v refl refl)

      -- more nodes than a net may have: 4
      pub answered-many : most_nodes < length (route_nodes text place) → Answered (Err NodeSection) out
      answered-many l =
          let t = too_many (route_nodes text place) pins (def_wires text place) obstacles l in
          answered-refused NodeSection (write_net 1 (def_nodes text place pins) (def_wires text place) obstacles (length out) _ first_version t refl ∙ def_write)

      -- the sections are written, or refused by one of 4 to 11 and 16
      module _ {ns ws after : List ℕ} (n : ns ≡ def_nodes text place pins) (w : ws ≡ def_wires text place) where
        pub answered-unwritten : (r : Refusal) → (answered (Err r) ≡ write_answer 1 ns ws obstacles (length out)) × (after ≡ write_buffer 1 ns ws obstacles out) → Answered (Err r) after
        unfolding write_answer write_buffer answer
        answered-unwritten r h =
            let wr = write_refusal 1 ns ws obstacles (length out) in
            let a : number_of r ≡ wr.number = ap (λ (a : Answer). a.number) h.0 in
            let b : place_of r ≡ wr.place = ap (λ (a : Answer). a.place) h.0 in
            let e : refusal (number_of r) (place_of r) ≡ wr = rw (a, b) in
            let q : wr ≡ def_refusal text place pins obstacles (length out) = rw (n, w) def_write in
            let m : met wr ≡ true = rw (← e) (met_refusal r) in
            rw (h.1, m) (answered-refused r (e ∙ q))

        pub answered-written : {bytes end : ℕ} → end ≡ route_end text place
            → (answered (Ok bytes) ≡ write_answer 1 ns ws obstacles (length out)) × (after ≡ write_buffer 1 ns ws obstacles out) → Answered (Ok (record { end = end; bytes = bytes })) after
        unfolding write_answer write_buffer answer def_answer def_buffer
        answered-written {bytes} s h =
            let wr = write_refusal 1 ns ws obstacles (length out) in
            let z : 0 ≡ wr.number = ap (λ (a : Answer). a.number) h.0 in
            let m : met wr ≡ false = rw (← z) in
            let q : wr ≡ def_refusal text place pins obstacles (length out) = rw (n, w) def_write in
            let c : bytes ≡ file_bytes ns ws obstacles = rw m at (ap (λ (a : Answer). a.count) h.0) in
            (rw (← q, m, ← z, s, c, n, w), rw (h.1, ← q, m, n, w))
