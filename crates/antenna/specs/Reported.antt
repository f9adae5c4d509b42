-- What follows from report's promise where it answers done: the records in the lent buffer are those of the pieces, each once, in rising order, and their weights add up
-- to the weight of all wire that the stage has. The file is bytes, as every slice of bytes is.
-- Assumes nothing.
use Prim.Native.Nat.{ℕ, ◌+◌, ◌*◌, ◌/◌, ◌%◌, ◌^◌, ◌<◌}
use Rattle.std.specs.Prelude.{◌≡◌, refl, Bool, true, false, ltb, eqb, length, get_or}
use Rattle.std.proofs.Common.{sym, ◌∙◌, ap, ⊎_elim, add-zero, ltb-true, ltb-false}
use Rattle.std.proofs.Math.Path.{subst}
use mathlib.Core.List.{List, ◌++◌}
use Rattle.std.proofs.Math.ListN.{drop}
use native.Mathlib.Omega.{arith}
use Rattle.laws.specs.Sum.{χ, sum}
use Rattle.laws.specs.Sums.{by, sum_ap}
use Rattle.laws.specs.Bytes.{le16, le32}
use Rattle.laws.specs.Numbers.{Bytes, le16-bytes16}
use Rattle.laws.specs.Indexed.{mem_at, at_mem, sorted_at, total-at, record_at_lem}
use Rattle.net.specs.declared.Answer.{Answer}
use Rattle.net.specs.Layout.{record_bytes}
use Rattle.net.specs.Limits.{length_bound}
use Rattle.net.specs.Stage.{Stage}
use Rattle.net.specs.NoClearance.{stage_of}
use Rattle.net.specs.Formed.{Formed}
use Rattle.net.specs.File.{version_of}
use Rattle.net.specs.Refusal.{nodes_of, wires_of, obstacles_of}
use Rattle.net.specs.Call.{net_at}
use Rattle.net.specs.Accepted.{present-positive, present-inside}
use Rattle.net.specs.Parts.{bytes_section}
use Rattle.points.specs.Geometry.{checked_of, length-small}
use Rattle.pieces.specs.Piece.{Points, Element, node, step, Group, Piece, weight_of, has_gate, has_source, is_harmful}
use Rattle.pieces.specs.Real.{Real, a_step}
use Rattle.pieces.specs.Inside.{Inside}
use Rattle.pieces.specs.Name.{name_of, Name, name, named}
use Rattle.pieces.specs.JumperList.{set_of}
use Rattle.pieces.specs.Jumpers.{step-cases, position-low, position-high, position_mid, below_mid}
use Rattle.pieces.specs.Listed.{Before, listed_element, listed-piece, piece-listed, names-rise, total-weight}
use Rattle.pieces.specs.Report.{piece_names, flags_of, record_of, report_of}
use Rattle.pieces.specs.Reports.{record_length}
use Rattle.pieces.specs.Named.{named-yes, named-number, named-position}
use Rattle.reports.specs.Promise.{piece_count, pieces_buffer, report_answer, report_buffer}
use Rattle.records.specs.WeightFits.{weight-fits, weight_field}
use Rattle.antenna.specs.AcceptedCalls.{report_unmet, report_right, report_formed, report_inside, report_count}

-- record e of a report: its name, its weight, and bit 2 of its flags
abbrev pub record_name : List ℕ → ℕ → Name
record_name buffer e = name (get_or buffer (record_bytes * e) 0) (le16 buffer (record_bytes * e + 1))

abbrev pub record_weight : List ℕ → ℕ → ℕ
record_weight buffer e = le32 buffer (record_bytes * e + 3)

abbrev pub record_harmful : List ℕ → ℕ → Bool
record_harmful buffer e = eqb (get_or buffer (record_bytes * e + 7) 0 / 4 % 2) 1

-- the elements of the piece that record e names
abbrev pub record_piece : Stage → Points → List ℕ → ℕ → Group
record_piece s J buffer e = named s J (record_name buffer e)

pub record Reported (s : Stage) (limit : ℕ) (J : Points) (buffer : List ℕ) (count : ℕ) : Type 0 where
  pub of_piece : (e : ℕ) → e < count → Piece s J (record_piece s J buffer e)
  pub every_piece : (P : Group) → Piece s J P → (e : ℕ) × (e < count) × ((x : Element) → P x ≡ record_piece s J buffer e x)
  pub once : (d e : ℕ) → d < count → e < count → ((x : Element) → record_piece s J buffer d x ≡ record_piece s J buffer e x) → d ≡ e
  pub rising : (d e : ℕ) → d < e → e < count → Before (record_name buffer d) (record_name buffer e)
  pub weight : (e : ℕ) → e < count → record_weight buffer e ≡ weight_of s (record_piece s J buffer e)
  pub harmful : (e : ℕ) → e < count → record_harmful buffer e ≡ is_harmful s limit (record_piece s J buffer e)
  pub adds_up : sum count (λ e. record_weight buffer e) ≡ sum s.nodes (λ i. χ (s.present i) (s.len i * s.factor i))

-- positions of names are below the bound of lengths where lengths of wires are
position-fits : (s : Stage) (J : Points) → Inside s J → ((i : ℕ) → s.present i ≡ true → s.len i < length_bound) → (e : Element) → Real s e → (name_of s J e).position < length_bound
position-fits s J inside short (node i) r = omega arith
position-fits s J inside short (step i t) (a_step present p l) =
    step-cases s J inside i t
    (λ low. let e = position-low s J inside i t low in omega arith)
    (λ f h. let e = position-high s J inside i t f h in omega arith)
    (λ f h.
    let e = position_mid s J inside i t f h in
    let b = below_mid s J inside i t l f in
    omega (arith, b.0, short i present))

same_name : {m n : Name} → m.number ≡ n.number → m.position ≡ n.position → m ≡ n
same_name p q = λ i. record { number = p i; position = q i }

-- bit 2 of a record's flags
bit_2 : (g s h : Bool) → eqb ((χ g 1 + χ s 2 + χ h 4) / 4 % 2) 1 ≡ h
bit_2 true true true = refl
bit_2 true true false = refl
bit_2 true false true = refl
bit_2 true false false = refl
bit_2 false true true = refl
bit_2 false true false = refl
bit_2 false false true = refl
bit_2 false false false = refl

-- a buffer that begins with the records of all pieces
module _ (s : Stage) (limit : ℕ) (J : Points) (formed : Formed s) (inside : Inside s J) (short : (i : ℕ) → s.present i ≡ true → s.len i < length_bound)
    (light : (P : Group) → weight_of s P < 2 ^ 32) (rest : List ℕ) where
  abbrev none-name : Name
  none-name = name 0 0

  abbrev name_at : ℕ → Name
  name_at e = get_or (piece_names s J) e none-name

  abbrev buffer : List ℕ
  buffer = report_of s limit J ++ rest

  abbrev count : ℕ
  count = length (piece_names s J)

  field_at : (e k : ℕ) → e < count → k < record_bytes → get_or buffer (record_bytes * e + k) 0 ≡ get_or (record_of s limit J (name_at e)) k 0
  unfolding report_of
  field_at e k p q = record_at_lem none-name record_bytes (record_of s limit J) (λ n. record_length s limit J n) (piece_names s J) rest e k p q

  -- the fields of record e
  name-at : (e : ℕ) → e < count → record_name buffer e ≡ name_at e
  unfolding record_of
  name-at e p =
      let r = listed_element s J formed inside (name_at e) (mem_at none-name (piece_names s J) e p) in
      let small : (name_at e).position < length_bound = rw (ap (λ (n : Name). n.position) r.2) at (position-fits s J inside short r.0 r.1) in
      let two : record_bytes * e + 1 + 1 ≡ record_bytes * e + 2 = omega arith in
      same_name
      (rw (add-zero (record_bytes * e)) at (field_at e 0 p (omega arith)))
      (rw (two, field_at e 1 p (omega arith), field_at e 2 p (omega arith)) (le16-bytes16 (name_at e).position small))

  weight-at : (e : ℕ) → e < count → record_weight buffer e ≡ weight_of s (named s J (name_at e))
  weight-at e p =
      let four : record_bytes * e + 3 + 1 ≡ record_bytes * e + 4 = omega arith in
      let five : record_bytes * e + 3 + 2 ≡ record_bytes * e + 5 = omega arith in
      let six : record_bytes * e + 3 + 3 ≡ record_bytes * e + 6 = omega arith in
      rw (four, five, six, field_at e 3 p (omega arith), field_at e 4 p (omega arith), field_at e 5 p (omega arith), field_at e 6 p (omega arith))
      (weight_field s limit J (name_at e) (light (named s J (name_at e))))

  harmful-at : (e : ℕ) → e < count → record_harmful buffer e ≡ is_harmful s limit (named s J (name_at e))
  unfolding record_of flags_of
  harmful-at e p =
      let P = named s J (name_at e) in
      rw (field_at e 7 p (omega arith)) (bit_2 (has_gate s P) (has_source s P) (is_harmful s limit P))

  -- a record with the elements of another is that record
  once-at : (d e : ℕ) → d < count → e < count → ((x : Element) → named s J (name_at d) x ≡ named s J (name_at e) x) → d ≡ e
  once-at d e p q same =
      let r = listed_element s J formed inside (name_at d) (mem_at none-name (piece_names s J) d p) in
      let x = r.0 in
      let here : named s J (name_at d) x ≡ true = subst (λ (n : Name). named s J n x ≡ true) r.2 (named-yes s J x r.1 refl refl) in
      let there : named s J (name_at e) x ≡ true = sym (same x) ∙ here in
      let number = sym (named-number s J (name_at d).number (name_at d).position x here) ∙ named-number s J (name_at e).number (name_at e).position x there in
      let position = sym (named-position s J (name_at d).number (name_at d).position x here) ∙ named-position s J (name_at e).number (name_at e).position x there in
      apart number position
    where
      earlier : (i j : ℕ) → i < j → j < count → (name_at i).number ≡ (name_at j).number → (name_at i).position ≡ (name_at j).position → ⊥
      earlier i j less l a b =
          ⊎_elim (λ x. omega arith) (λ x. omega arith) (sorted_at none-name (piece_names s J) (names-rise s J formed inside) i j less l)

      apart : (name_at d).number ≡ (name_at e).number → (name_at d).position ≡ (name_at e).position → d ≡ e
      apart a b =
          by (ltb d e)
          (λ y. absurd (earlier d e (ltb-true d e y) q a b))
          (λ z.
          by (ltb e d)
          (λ y. absurd (earlier e d (ltb-true e d y) p (sym a) (sym b)))
          (λ w. let f = ltb-false d e z in let g = ltb-false e d w in omega arith))

  records : Reported s limit J buffer count
  records =
      record {
        of_piece = λ e p.
            subst (λ (n : Name). Piece s J (named s J n)) (sym (name-at e p)) (listed-piece s J formed inside (name_at e) (mem_at none-name (piece_names s J) e p));
        every_piece = λ P piece.
            let r = piece-listed s J formed inside P piece in
            let k = at_mem none-name (piece_names s J) r.1 in
            (k.0, k.1, λ x. r.2 x ∙ ap (λ (n : Name). named s J n x) (sym (name-at k.0 k.1 ∙ k.2)));
        once = λ d e p q same.
            once-at d e p q
            (λ x. ap (λ (n : Name). named s J n x) (sym (name-at d p)) ∙ (same x ∙ ap (λ (n : Name). named s J n x) (name-at e q)));
        rising = λ d e p q.
            let l : d < count = omega arith in
            subst (λ (m : Name). Before m (record_name buffer e)) (sym (name-at d l))
            (subst (λ (n : Name). Before (name_at d) n) (sym (name-at e q)) (sorted_at none-name (piece_names s J) (names-rise s J formed inside) d e p q));
        weight = λ e p. weight-at e p ∙ ap (λ (n : Name). weight_of s (named s J n)) (sym (name-at e p));
        harmful = λ e p. harmful-at e p ∙ ap (λ (n : Name). is_harmful s limit (named s J n)) (sym (name-at e p));
        adds_up = sum_ap count (λ e p. weight-at e p) ∙ (sym (total-at none-name (λ n. weight_of s (named s J n)) (piece_names s J)) ∙ total-weight s J formed inside);
      }

-- report answers done
module _ (stage limit clearance : ℕ) (file list out after : List ℕ) (r : Answer) (bytes : Bytes file) (e : r ≡ report_answer stage clearance file list (length out))
    (b : after ≡ report_buffer stage limit clearance file list out) (zero : r.number ≡ 0) where
  pub reported : Reported (net_at file stage clearance) limit (set_of list) after r.count
  unfolding report_buffer pieces_buffer stage_of weight_of
  reported =
      let right = report_right stage clearance file list (length out) r e zero in
      let u = report_unmet stage clearance file list (length out) r e zero in
      let rest = drop (record_bytes * piece_count (net_at file stage clearance) list) out in
      subst (λ (l : List ℕ). Reported (net_at file stage clearance) limit (set_of list) l r.count) (sym (b ∙ rw u))
      (subst (λ (n : ℕ). Reported (net_at file stage clearance) limit (set_of list) (report_of (net_at file stage clearance) limit (set_of list) ++ rest) n) (sym (report_count stage clearance file list (length out) r e zero))
      (records (net_at file stage clearance) limit (set_of list) (report_formed stage clearance file list (length out) r e zero) (report_inside stage clearance file list (length out) r e zero)
      (λ i p. length-small (nodes_of file) (wires_of file) i (bytes_section file bytes 0) (checked_of right i (present-positive (version_of file) (nodes_of file) (wires_of file) (obstacles_of file) stage i p) (present-inside (version_of file) (nodes_of file) (wires_of file) (obstacles_of file) stage i p)))
      (λ P. weight-fits (version_of file) (nodes_of file) (wires_of file) (obstacles_of file) right (bytes_section file bytes 0) (bytes_section file bytes 1) stage P) rest))
