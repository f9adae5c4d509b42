-- The records of a wire's stretches as a loop over the entries of a jumper list writes them.
-- Assumes nothing.
use Rattle.std.specs.Prelude.{ℕ, ◌+◌, ◌-◌, ◌*◌, ◌^◌, ◌≤◌, ◌<◌, ◌≡◌, refl, length, take, drop}
use Rattle.std.proofs.Common.{sym, ◌∙◌, add-one}
use mathlib.Core.List.{List, [], ◌∷◌, ◌++◌, append-nil, flat_map}
use native.Mathlib.Omega.{arith}
use Rattle.laws.specs.Gather.{gather}
use Rattle.laws.specs.Gathers.{gather_ap, flat_gather, length-records}
use Rattle.laws.specs.Place.{place, place-more}
use Rattle.net.specs.Layout.{record_bytes}
use Rattle.net.specs.Net.{wire_layer, wire_factor}
use Rattle.net.specs.NoClearance.{stage_of}
use Rattle.pieces.specs.Name.{name}
use Rattle.pieces.specs.Legal.{entry_position}
use Rattle.pieces.specs.JumperList.{entry_count, set_of}
use Rattle.pieces.specs.Report.{record_of}
use Rattle.records.specs.Record.{fields, stretch_fields, stretches_fields}
use Rattle.lists.specs.EntriesOfWire.{OfWire, entry-jumper, positions-rise, none_between}
use Rattle.records.specs.StretchRecords.{stretch_record, stretch_names_are}
use Rattle.records.specs.FirstRecords.{stretch_bytes}
use Rattle.records.specs.ListRight.{ListRight}
use Rattle.records.specs.ListRights.{formed_of, inside_of, free_of, rising_of, range_of, entries-present}
use Rattle.records.specs.RecordBytes.{fields-length, placed_record}

pub stretches-none : (list : List ℕ) (i factor layer e : ℕ) → stretches_fields list i factor layer e 0 ≡ []
unfolding stretches_fields gather
stretches-none list i factor layer e = refl

pub stretches-more : (list : List ℕ) (i factor layer e n : ℕ) →
    stretches_fields list i factor layer e (n + 1) ≡ stretches_fields list i factor layer e n ++ stretch_fields list i factor layer (e + n)
unfolding stretches_fields gather
stretches-more list i factor layer e n = rw (add-one n)

pub stretches-length : (list : List ℕ) (i factor layer e n : ℕ) → length (stretches_fields list i factor layer e n) ≡ record_bytes * n
unfolding stretches_fields stretch_fields fields
stretches-length list i factor layer e = length-records record_bytes (λ d. stretch_fields list i factor layer (e + d)) (λ d. refl)

-- ---- they are the records of the pieces
module _ (v : ℕ) (ns ws list os : List ℕ) (k : ℕ) (j : ListRight v ns ws k list os) (limit : ℕ) where
  pub stretch-bytes : (i a b : ℕ) → OfWire list (entry_count list) i a b →
      stretches_fields list i (wire_factor ws i) (wire_layer ws i) a (b - a - 1)
      ≡ stretch_bytes (stage_of v ns ws os k) limit (set_of list) i
  unfolding stretches_fields stretch_fields stretch_bytes stage_of flat_map
  stretch-bytes i a b w =
      let s = stage_of v ns ws os k in
      let J = set_of list in
      let n = entry_count list in
      let free = free_of v ns ws list os k j in
      let rising = rising_of v ns ws list os k j in
      rw (stretch_names_are s list n free rising i a b w)
      (sym
      (flat_gather (record_of s limit J) (b - a - 1) (λ d. name i (entry_position list (a + d)) ∷ [])
      ∙ gather_ap (b - a - 1)
      {f = λ d. record_of s limit J (name i (entry_position list (a + d))) ++ []}
      {g = λ d. fields i (entry_position list (a + d)) ((entry_position list (a + d + 1) - entry_position list (a + d)) * wire_factor ws i) 0 (2 ^ (wire_layer ws i - 1))}
      (λ d l.
      let here : a + d + 1 < b = omega arith in
      let present = entries-present v ns ws list os k j i a b w (omega arith) in
      let range = range_of v ns ws list os k j i present in
      append-nil (record_of s limit J (name i (entry_position list (a + d))))
      ∙ stretch_record s J (formed_of v ns ws list os k j) (inside_of v ns ws list os k j) i (entry_position list (a + d)) (entry_position list (a + d + 1)) present
      (entry-jumper s list n free rising i a b w (a + d) (omega arith) (omega arith))
      (entry-jumper s list n free rising i a b w (a + d + 1) (omega arith) here)
      (positions-rise s list n free rising i a b w (a + d) (a + d + 1) (omega arith) (omega arith) here)
      (λ t p q. none_between s list n free rising i a b w (a + d) t (omega arith) here p q)
      limit range.0 range.1)))

-- a stretch more
pub placed-stretch : (list : List ℕ) (i factor layer e d at next k : ℕ) (out₀ out x : List ℕ) (from to bit : ℕ) →
    from ≡ entry_position list d → to ≡ entry_position list (d + 1) → bit ≡ 2 ^ (layer - 1) → e ≤ d → next ≡ at + record_bytes * (d - e) →
    out ≡ place at (stretches_fields list i factor layer e (d - e)) out₀ → next + record_bytes ≤ length out₀ → length out ≤ next + k →
    x ≡ fields i from ((to - from) * factor) 0 bit ++ drop record_bytes (take k (drop next out)) →
    take next out ++ (x ++ drop k (drop next out)) ≡ place at (stretches_fields list i factor layer e (d + 1 - e)) out₀
unfolding stretch_fields
placed-stretch list i factor layer e d at next k out₀ out x from to bit fe te be p ne oe room long xe =
    let s = stretches_fields list i factor layer e (d - e) in
    let q = stretch_fields list i factor layer d in
    let n = stretches-length list i factor layer e (d - e) in
    let m : next ≡ at + length s = omega arith in
    let here : e + (d - e) ≡ d = omega arith in
    let more : d + 1 - e ≡ d - e + 1 = omega arith in
    let z : length q ≡ record_bytes = fields-length i (entry_position list d) ((entry_position list (d + 1) - entry_position list d) * factor) 0 (2 ^ (layer - 1)) in
    placed_record next k out x i from ((to - from) * factor) 0 bit long xe
    ∙ rw (fe, te, be, oe, m)
    (place-more at s q out₀ (omega arith)
    ∙ rw (more, stretches-more list i factor layer e (d - e), here))
