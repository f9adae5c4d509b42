-- The bytes of a piece record as its writers leave them, part after part.
-- Assumes nothing.
use Rattle.std.specs.Prelude.{ℕ, ◌+◌, ◌-◌, ◌%◌, ◌≤◌, ◌≡◌, refl, List, ◌∷◌, ◌++◌, length, take, drop, get_or}
use Rattle.std.proofs.Common.{sym, ◌∙◌, ap, arith, take-append-drop, take-suc, drop-cons, drop-drop, drop_at, append_assoc, length-append, length-drop, length-take-le, get_or-drop}
use Rattle.std.proofs.lemmas.List.Edits.{sets}
use Rattle.std.specs.Int.Bits.{bit_or}
use Rattle.laws.specs.Bytes.{le16, le32, bytes16}
use Rattle.laws.specs.Numbers.{Bytes, bytes16-le16, bytes_drop}
use Rattle.laws.specs.Place.{place, place-length, place_sets, place-more, part-all, place-part}
use Rattle.net.specs.Layout.{record_bytes}
use Rattle.records.specs.Record.{weight_part, layers_part, fields, with_harm, NodeRecord, joined}
use Rattle.records.specs.Wire.{joined_above}

-- a record written in three parts
pub parts_record : (l : List ℕ) (number position weight flags layers : ℕ) → record_bytes ≤ length l →
    place 8 (layers_part layers) (place 3 (weight_part weight flags) (sets l 0 (number ∷ bytes16 position)))
    ≡ fields number position weight flags layers ++ drop record_bytes l
unfolding fields
parts_record l number position weight flags layers h =
    rw (place_sets 0 (number ∷ bytes16 position) l (omega arith))
    (ap (place 8 (layers_part layers)) (place-more 0 (number ∷ bytes16 position) (weight_part weight flags) l (omega arith))
    ∙ place-more 0 (number ∷ bytes16 position ++ weight_part weight flags) (layers_part layers) l h)

-- more joined to the record of a piece with nodes
module _ (r : List ℕ) (h : record_bytes ≤ length r) (s : NodeRecord r) where
  name_stays : take 3 r ≡ get_or r 0 0 ∷ bytes16 0
  name_stays = take-suc r 2 0 (omega arith) ∙ rw (take-suc r 1 0 (omega arith), take-suc r 0 0 (omega arith), s.low, s.high)

  layered_behind : Bytes (drop 8 r) → drop 8 r ≡ layers_part (le16 r 8) ++ drop record_bytes r
  layered_behind b =
      let q : take 2 (drop 8 r) ≡ bytes16 (le16 r 8) =
      bytes16-le16 (drop 8 r) b 0 (let z = length-drop 8 r in omega arith) ∙ ap bytes16 (rw (get_or-drop 8 r 0 0, get_or-drop 8 r 1 0) refl) in
      sym (take-append-drop 2 (drop 8 r)) ∙ rw (q, drop-drop 2 8 r, drop-cons r 10 0 (omega arith), drop-cons r 11 0 (omega arith), s.count, s.lowest)

  layered : Bytes r → drop 8 r ≡ layers_part (le16 r 8) ++ drop record_bytes r
  layered b = layered_behind (bytes_drop 8 r b)

  module _ (limit weight flags layers heavy flagged : ℕ) (w : heavy ≡ le32 r 3 + weight) (f : flagged ≡ with_harm limit heavy (bit_or (get_or r 7 0 % 4) flags)) where
    -- its layers are written anew
    pub joined_layers : (l : ℕ) → l ≡ bit_or (le16 r 8) layers →
        place 8 (layers_part l) (place 3 (weight_part heavy flagged) r) ≡ joined limit weight flags layers r ++ drop record_bytes r
    unfolding joined fields
    joined_layers l e = place-more 3 (weight_part heavy flagged) (layers_part l) r h ∙ rw (name_stays, e, f, w)

    -- it has the layers already
    pub joined-weight : Bytes r → bit_or (le16 r 8) layers ≡ le16 r 8 → place 3 (weight_part heavy flagged) r ≡ joined limit weight flags layers r ++ drop record_bytes r
    unfolding joined fields
    joined-weight b e = rw (name_stays, layered b, e, f, w)

    -- the same where the record's items are known to be bytes only after its weight was written
    pub joined-weight_after : Bytes (place 3 (weight_part heavy flagged) r) → bit_or (le16 r 8) layers ≡ le16 r 8 →
        place 3 (weight_part heavy flagged) r ≡ joined limit weight flags layers r ++ drop record_bytes r
    unfolding joined fields
    joined-weight_after b e =
        let behind : drop 8 (place 3 (weight_part heavy flagged) r) ≡ drop 8 r =
        ap (drop 8) (sym (append_assoc (take 3 r) (weight_part heavy flagged) (drop 8 r)))
        ∙ drop_at (take 3 r ++ weight_part heavy flagged) (drop 8 r) 8
        (let a = length-append (take 3 r) (weight_part heavy flagged) in let q = length-take-le 3 r (omega arith) in omega arith) in
        rw (name_stays, layered_behind (rw behind at (bytes_drop 8 (place 3 (weight_part heavy flagged) r) b)), e, f, w)

pub fields-length : (number position weight flags layers : ℕ) → length (fields number position weight flags layers) ≡ record_bytes
unfolding fields
fields-length number position weight flags layers = refl

-- ---- what the writers leave
-- a record through the part of the buffer from its place on
pub placed_record : (at k : ℕ) (l x : List ℕ) (number position weight flags layers : ℕ) → length l ≤ at + k →
    x ≡ fields number position weight flags layers ++ drop record_bytes (take k (drop at l)) →
    take at l ++ (x ++ drop k (drop at l)) ≡ place at (fields number position weight flags layers) l
unfolding fields
placed_record at k l x number position weight flags layers h e = place-part at (fields number position weight flags layers) x l k h e

-- the record of a piece with nodes in such a part, and what is joined to it there
pub part_record : (at above : ℕ) (l : List ℕ) → at ≡ above → NodeRecord (drop above l) → NodeRecord (take (length l - at) (drop at l))
part_record at above l e s = rw (part-all at l, e) s

-- where a record begins, read at an equal index
pub same_place : (places : List ℕ) {p q : ℕ} → p ≡ q → get_or places p 0 ≡ get_or places q 0
same_place places e = rw e

pub room_there : (places out : List ℕ) {p q : ℕ} → p ≡ q → get_or places q 0 + record_bytes ≤ length out → get_or places p 0 + record_bytes ≤ length out
room_there places out e h = rw e h

pub placed-joined : (limit at weight flags layers above weight' flags' layers' : ℕ) (l x : List ℕ) → at ≡ above → weight ≡ weight' → flags ≡ flags' → layers ≡ layers' →
    x ≡ joined limit weight flags layers (take (length l - at) (drop at l)) ++ drop record_bytes (take (length l - at) (drop at l)) →
    take at l ++ (x ++ drop (length l - at) (drop at l)) ≡ joined_above limit above weight' flags' layers' l
unfolding joined fields
placed-joined limit at weight flags layers above weight' flags' layers' l x ae we fe le e =
    place-part at (joined limit weight flags layers (take (length l - at) (drop at l))) x l (length l - at) (omega arith) e
    ∙ rw (part-all at l, ae, we, fe, le)

pub joined_above_length : (limit above weight flags layers : ℕ) (l : List ℕ) → above + record_bytes ≤ length l → length (joined_above limit above weight flags layers l) ≡ length l
unfolding joined fields
joined_above_length limit above weight flags layers l h = place-length above (joined limit weight flags layers (drop above l)) l h
