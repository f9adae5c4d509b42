-- Lengths of entries, and one wire more, as the list's writer goes through the wires.
-- Assumes nothing.
use Rattle.std.specs.Prelude.{ℕ, ◌+◌, ◌*◌, ◌≤◌, ◌<◌, ◌≡◌, refl, Bool, true, false, List, [], ◌++◌, is_some, length, get_or, ltb, unwrap_or}
use Rattle.std.specs.Bool.{then_some}
use Rattle.std.proofs.Common.{◌∙◌, arith, add-one, length-append}
use Rattle.laws.specs.Sum.{χ}
use Rattle.laws.specs.Sums.{sum_ap, sum-mul, sum-next, sum_next-≤}
use Rattle.laws.specs.Gather.{gather}
use Rattle.laws.specs.Gathers.{length-gather}
use Rattle.net.specs.Layout.{entry_bytes}
use Rattle.net.specs.Limits.{length_bound}
use Rattle.listing.specs.Listing.{entry_if, wire_entries, wire_count, list_of, count_of}

pub length-entry_if : (t : Bool) (w p : ℕ) → length (entry_if t w p) ≡ entry_bytes * χ t 1
length-entry_if true w p = refl
length-entry_if false w p = refl

pub length-wire_entries : (w near hi : ℕ) (cut_high : Bool) → length (wire_entries w near hi cut_high) ≡ entry_bytes * wire_count near cut_high
length-wire_entries w near hi cut_high =
    let a = length-append (entry_if (ltb 0 near) w near) (entry_if cut_high w hi) in
    let b = length-entry_if (ltb 0 near) w near in
    let c = length-entry_if cut_high w hi in
    omega arith

-- the highest position is written where the wire is cut there, whatever it is elsewhere
pub high_count : (near hi : ℕ) (cut : Bool) → wire_count near (is_some (then_some cut hi)) ≡ wire_count near cut
high_count near hi true = refl
high_count near hi false = refl

pub high_entries : (w near hi : ℕ) (cut : Bool) → wire_entries w near (unwrap_or (then_some cut hi) 0) (is_some (then_some cut hi)) ≡ wire_entries w near hi cut
high_entries w near hi true = refl
high_entries w near hi false = refl

pub high_short : (hi : ℕ) (cut : Bool) → hi < length_bound → unwrap_or (then_some cut hi) 0 < length_bound
high_short hi true p = p
high_short hi false p = omega arith

module _ (hi near : List ℕ) (cut_high : List Bool) where
  pub length-list_of : (n : ℕ) → length (list_of n hi near cut_high) ≡ entry_bytes * count_of n near cut_high
  length-list_of n =
      length-gather n (λ r. wire_entries r (get_or near r 0) (get_or hi r 0) (get_or cut_high r false))
      ∙ (sum_ap n (λ r p. length-wire_entries r (get_or near r 0) (get_or hi r 0) (get_or cut_high r false))
      ∙ sum-mul n entry_bytes (λ r. wire_count (get_or near r 0) (get_or cut_high r false)))

  -- one wire more
  pub list_of-next : (r : ℕ) → list_of (r + 1) hi near cut_high ≡ list_of r hi near cut_high ++ wire_entries r (get_or near r 0) (get_or hi r 0) (get_or cut_high r false)
  unfolding gather
  list_of-next r = rw (add-one r)

  pub count_of-next : (r : ℕ) → count_of (r + 1) near cut_high ≡ count_of r near cut_high + wire_count (get_or near r 0) (get_or cut_high r false)
  count_of-next r = sum-next r (λ i. wire_count (get_or near i 0) (get_or cut_high i false))

  -- there is room for it
  pub count_of-room : (r n : ℕ) → r < n → count_of r near cut_high + wire_count (get_or near r 0) (get_or cut_high r false) ≤ count_of n near cut_high
  count_of-room r n p = sum_next-≤ r n (λ i. wire_count (get_or near i 0) (get_or cut_high i false)) p

-- behind the entries of the wires below r there is room for those of wire r
pub room_at : (near : List ℕ) (cut_high : List Bool) (n r count size : ℕ) → r < n → count ≡ count_of r near cut_high → entry_bytes * count_of n near cut_high ≤ size
    → entry_bytes * count + entry_bytes * wire_count (get_or near r 0) (get_or cut_high r false) ≤ size
room_at near cut_high n r count size p e h = omega (arith, count_of-room [] near cut_high r n p)
