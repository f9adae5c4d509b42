-- What the pass over the pins shows: a pin's node, the flags joined, and which pin is refused.
-- Assumes nothing.
use Rattle.std.specs.Prelude.{ℕ, ◌+◌, ◌-◌, ◌*◌, ◌<◌, ◌≤◌, ◌≡◌, true, false, cond, List, Option, Some, None, IsSomeAnd, refl, eqb, ltb, length, take, drop, get_or, set}
use Rattle.std.proofs.Common.{◌∙◌, sym, ap, add-one, arith, get_or-take, get_or-drop, get_or-set_same, get_or-set_other, eqb-true, ltb-true, ltb-false, lt-ltb, le-ltb}
use denote.Ref.{Bor}
use Rattle.std.proofs.Math.Bool.{not}
use Rattle.std.specs.Int.{div_ceil}
use Rattle.std.specs.Int.Bits.{bit_or, or_zero_r}
use Rattle.std.proofs.lemmas.Bool.{eqb-false}
use Rattle.laws.specs.Sums.{by, not_true_false, or_right, lowest-passes}
use Rattle.net.specs.Layout.{most_nodes}
use Rattle.net.specs.Refusal.{none, refusal}
use Rattle.routes.specs.declared.Node.{Node}
use Rattle.routes.specs.Nodes.{node_at, stands_on, known, number_on, route_nodes}
use Rattle.routes.specs.declared.Route.{Route}
use Rattle.routes.specs.Table.{counted, IsRoute}
use Rattle.routes.specs.Holding.{holds_all}
use Rattle.routes.specs.Placing.{number-below, some_held}
use Rattle.def.specs.Pins.{pin_bytes, pin_x, pin_y, pin_layer, pin_flags, pin_count, pin_refusal, flags_of}
use Rattle.def.specs.Joining.{Routed, Joined, JoinedOne}
use Rattle.def.specs.Distinct.{stands-alone}

-- the nodes that the table has
pub count-few : (n m : ℕ) → Some m ≡ counted n → (m ≡ n) × (n ≤ most_nodes)
count-few n m e =
    by (ltb most_nodes n)
    (λ y. let q = rw y at e in cc)
    (λ z. let q = rw z at e in let l = ltb-false most_nodes n z in (cc, l))

pub count-many : (n : ℕ) → None ≡ counted n → most_nodes < n
count-many n e = by (ltb most_nodes n) (λ y. ltb-true most_nodes n y) (λ z. let q = rw z at e in cc)

-- a node stands there if its number is below the count
pub number-known : (nodes : List Node) (x y layer n count : ℕ) → n ≡ number_on nodes x y layer → count ≡ length nodes → ltb n count ≡ known nodes x y layer
number-known nodes x y layer n count e h = rw (e, h) (number-below nodes x y layer)

pub routed : {text : List ℕ} {place : ℕ} {r : Route} (nodes : Option (Bor (List Node))) → IsRoute text place r
    → (r.count ≡ None → nodes ≡ None)
    → ((n : ℕ) → r.count ≡ Some n → n ≤ most_nodes → IsSomeAnd nodes (λ x. (x.now ≡ take n r.nodes) × (length x.now ≡ n)))
    → Routed text place r.points nodes
routed {text} {place} {r} nodes i none some = counts r.count refl
  where
    counts : (o : Option ℕ) → r.count ≡ o → Routed text place r.points nodes
    counts None e =
        record {
          points = i.points;
          few = λ n q. let z : None ≡ Some n = cc (none e) in cc;
          many = λ q. count-many (length (route_nodes text place)) (sym e ∙ i.count);
        }
    counts (Some m) e =
        let f = count-few (length (route_nodes text place)) m (sym e ∙ i.count) in
        let h = some m e (omega (arith, f)) in
        record {
          points = i.points;
          few = λ n q. let k = rw q at h in (k.0 ∙ rw f.0 (holds_all i.table f.1 (rw (← f.0, ← k.0) k.1)), f.1);
          many = λ q. let k = rw q at h in absurd k;
        }

-- the node that was found is the one that the pin meets
pub pin-node : {text : List ℕ} {place points : ℕ} {all : Option (Bor (List Node))} (pins : List ℕ) {x y node : ℕ} {found : Option ℕ} → Routed text place points all
    → (n : Bor (List Node)) → all ≡ Some n → x ≡ pin_x pins 0 → y ≡ pin_y pins 0
    → found ≡ cond (known n.now x y (pin_layer pins 0)) (Some (number_on n.now x y (pin_layer pins 0))) None → found ≡ Some node
    → (known (route_nodes text place) (pin_x pins 0) (pin_y pins 0) (pin_layer pins 0) ≡ true)
    × (node ≡ number_on (route_nodes text place) (pin_x pins 0) (pin_y pins 0) (pin_layer pins 0))
    × (node < most_nodes)
pin-node {text} {place} pins {x} {y} r n e p q f s =
    let few = r.few n e in
    let layer = pin_layer pins 0 in
    let h = rw (few.0, p, q) at (some_held (known n.now x y layer) (number_on n.now x y layer) f s) in
    let b = ltb-true _ _ (number-below (route_nodes text place) (pin_x pins 0) (pin_y pins 0) layer ∙ h.0) in
    (h.0, h.1, omega (arith, few.1, h.1, b))

-- the flags of pin 0 joined to those of the node that it meets
pub joined-one : (text : List ℕ) (place : ℕ) (pins flags : List ℕ) (n : ℕ)
    → n ≡ number_on (route_nodes text place) (pin_x pins 0) (pin_y pins 0) (pin_layer pins 0)
    → known (route_nodes text place) (pin_x pins 0) (pin_y pins 0) (pin_layer pins 0) ≡ true
    → most_nodes ≤ length flags
    → JoinedOne (route_nodes text place) pins flags (set flags n (bit_or (get_or flags n 0) (pin_flags pins 0)))
unfolding number_on known
joined-one text place pins flags n e t room =
    let nodes = route_nodes text place in
    let x = pin_x pins 0 in
    let y = pin_y pins 0 in
    let layer = pin_layer pins 0 in
    let p = lowest-passes (length nodes) (λ k. stands_on x y layer (node_at nodes k)) t in
    record {
      each = λ few i h.
          by (eqb i n)
          (λ q.
          let s : stands_on x y layer (node_at nodes i) ≡ true = rw (eqb-true i n q ∙ e) p.1 in
          rw (s, eqb-true i n q) (get_or-set_same flags n (bit_or (get_or flags n 0) (pin_flags pins 0)) 0 (omega (arith, p.0))))
          (λ q.
          let d : i ≡ n → ⊥ = eqb-false i n q in
          let s : stands_on x y layer (node_at nodes i) ≡ false =
          not_true_false (stands_on x y layer (node_at nodes i)) (λ s. d (sym (stands-alone text place x y layer i h s) ∙ sym e)) in
          rw s (get_or-set_other flags n i (bit_or (get_or flags n 0) (pin_flags pins 0)) 0 d ∙ sym (or_zero_r (get_or flags i 0))));
    }

-- pin k of the pins is pin 0 of those from its first byte on
module _ (pins : List ℕ) (k at : ℕ) (e : at ≡ pin_bytes * k) (h : pin_bytes * k + pin_bytes ≤ length pins) where
  byte : (j n : ℕ) → pin_bytes * k + j ≡ n → j < pin_bytes → get_or (take (length pins - at) (drop at pins)) j 0 ≡ get_or pins n 0
  byte j n q l = get_or-take (length pins - at) (drop at pins) j 0 (omega arith) ∙ (get_or-drop at pins j 0 ∙ ap (λ m. get_or pins m 0) (omega arith))

  pub part-x : pin_x (take (length pins - at) (drop at pins)) 0 ≡ pin_x pins k
  part-x = rw (byte 0 (pin_bytes * k) (omega arith) (omega arith), byte 1 (pin_bytes * k + 1) (omega arith) (omega arith))

  pub part-y : pin_y (take (length pins - at) (drop at pins)) 0 ≡ pin_y pins k
  part-y = rw (byte 2 (pin_bytes * k + 2) (omega arith) (omega arith), byte 3 (pin_bytes * k + 2 + 1) (omega arith) (omega arith))

  pub part-layer : pin_layer (take (length pins - at) (drop at pins)) 0 ≡ pin_layer pins k
  part-layer = byte 4 (pin_bytes * k + 4) (omega arith) (omega arith)

  pub part-flags : pin_flags (take (length pins - at) (drop at pins)) 0 ≡ pin_flags pins k
  part-flags = byte 5 (pin_bytes * k + 5) (omega arith) (omega arith)

  module _ (nodes : List Node) where
    pub part-known : known nodes (pin_x (take (length pins - at) (drop at pins)) 0) (pin_y (take (length pins - at) (drop at pins)) 0) (pin_layer (take (length pins - at) (drop at pins)) 0)
        ≡ known nodes (pin_x pins k) (pin_y pins k) (pin_layer pins k)
    part-known = rw (part-x, part-y, part-layer)

    pub joined-more : (flags after : List ℕ) → Joined nodes pins k flags → JoinedOne nodes (take (length pins - at) (drop at pins)) flags after → Joined nodes pins (k + 1) after
    unfolding flags_of
    joined-more flags after j o = record { each = λ few i l. rw (add-one k) (o.each few i l ∙ rw (j.each few i l, part-x, part-y, part-layer, part-flags)) }

-- before the first pin
pub joined-start : (nodes : List Node) (pins flags : List ℕ) → ((i : ℕ) → get_or flags i 0 ≡ 0) → Joined nodes pins 0 flags
unfolding flags_of
joined-start nodes pins flags z = record { each = λ few i l. z i }

-- which pins there are, and how many
pub pin-here : (pins : List ℕ) (k : ℕ) → pin_bytes * k < length pins → k < pin_count pins
pin-here pins k h = omega arith

pub pin-all : (pins : List ℕ) (k : ℕ) → pin_bytes * k ≡ length pins → k ≡ pin_count pins
pin-all pins k e = omega arith

pub pins-counted : (pins : List ℕ) → div_ceil (length pins) pin_bytes ≡ pin_count pins
pins-counted pins = omega arith

-- pin k is cut short, meets no node, or meets one
module _ (nodes : List Node) (pins : List ℕ) (k : ℕ) where
  pub pin-cut : length pins < pin_bytes * k + pin_bytes → refusal 19 k ≡ pin_refusal nodes pins k
  unfolding pin_refusal
  pin-cut h = rw (lt-ltb (length pins) (pin_bytes * k + pin_bytes) h)

  pub pin_lost : known nodes (pin_x pins k) (pin_y pins k) (pin_layer pins k) ≡ false → refusal 19 k ≡ pin_refusal nodes pins k
  unfolding pin_refusal
  pin_lost e = rw (or_right (ltb (length pins) (pin_bytes * k + pin_bytes)) (ap not e))

  pub pin-right : pin_bytes * k + pin_bytes ≤ length pins → known nodes (pin_x pins k) (pin_y pins k) (pin_layer pins k) ≡ true → none ≡ pin_refusal nodes pins k
  unfolding pin_refusal
  pin-right h e = rw (le-ltb (length pins) (pin_bytes * k + pin_bytes) h, e)
