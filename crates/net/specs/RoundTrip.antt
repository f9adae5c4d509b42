-- Reading and writing are inverse: what is written reads back, what is read writes back, and a net has one file.
-- Assumes nothing.
use Rattle.std.specs.Prelude.{ℕ, zero, suc, ◌+◌, ◌-◌, ◌*◌, ◌<◌, ◌≤◌, ◌≡◌, refl, Bool, true, false, not, cond, List, ◌++◌, length, take, drop, get_or, eqb}
use Rattle.std.proofs.Common.{◌∙◌, sym, ap, add-zero, arith, take_at}
use Rattle.std.proofs.lemmas.Bool.{not-false}
use Rattle.laws.specs.Bytes.{le16}
use Rattle.laws.specs.Lists.{over}
use Rattle.laws.specs.Numbers.{Bytes, le16-low, le16-high, same-records}
use Rattle.net.specs.Layout.{head_bytes, node_bytes, wire_bytes, obstacle_bytes, most_obstacles, most_layers}
use Rattle.net.specs.Net.{node_count, node_x, node_y, node_flags, wire_parent, wire_layer, wire_factor, obstacle_count, obstacle_x1, obstacle_y1, obstacle_x2, obstacle_y2, obstacle_layer}
use Rattle.net.specs.File.{version_of, file_of, file_bytes}
use Rattle.net.specs.Refusal.{none, refused_if, is_version, net_refusal, nodes_of, wires_of, obstacles_of, answer, write_refusal, write_answer, write_buffer}
use Rattle.net.specs.First.{unmet_if, unmet_l, unmet_r, unmet-number}
use Rattle.net.specs.Versions.{bytes_low, bytes_high, section_short}
use Rattle.net.specs.Reading.{section_stretch}
use Rattle.net.specs.Accepted.{Accepted, NetRight, net_right_of}
use Rattle.net.specs.AcceptedIf.{head-unmet, accepted-right, right-accepted, net-none}
use Rattle.net.specs.Parts.{head_of_written, version_of_written, nodes_of_written, wires_of_written, obstacles_of_written, bytes_section, file_of_sections}
use Rattle.net.specs.Writing.{file-length, write_done, answer-done, buffer-done}

-- a file is accepted, has this version and hands out these three sections
pub record Holds (f : List ℕ) (v : ℕ) (ns ws os : List ℕ) : Type 0 where
  pub accepted : Accepted f
  pub versioned : version_of f ≡ v
  pub nodes : nodes_of f ≡ ns
  pub wires : wires_of f ≡ ws
  pub obstacles : obstacles_of f ≡ os

-- the file of a version and three sections that meet none of 4 to 11 and 20 is accepted and hands them out
module _ (v : ℕ) (ns ws os : List ℕ) (right : is_version v ≡ true) (r : NetRight v ns ws os) where
  small : head_bytes + length ns + length ws + length os < 4294967296
  small =
      let s = r.sized in
      omega (arith, s.nodes_length, s.few_nodes, s.wires_length, section_short v os most_obstacles s.obstacles_length s.few_obstacles)

  pub file-holds : Holds (file_of v ns ws os) v ns ws os
  file-holds =
      let f = file_of v ns ws os in
      let h = head_of_written v ns ws os right small in
      let u = head-unmet f h in
      let e : version_of f ≡ v = version_of_written v ns ws os right small in
      let n : nodes_of f ≡ ns = sym (section_stretch f 0 u) ∙ nodes_of_written v ns ws os right small in
      let w : wires_of f ≡ ws = sym (section_stretch f 1 u) ∙ wires_of_written v ns ws os right small in
      let o : obstacles_of f ≡ os = sym (section_stretch f 2 u) ∙ obstacles_of_written v ns ws os right small in
      record {
        accepted = right-accepted f (record { head = h; net = rw (e, n, w, o) r });
        versioned = e;
        nodes = n;
        wires = w;
        obstacles = o;
      }

-- reading what the writer wrote: the bytes that it counts hold the version and the three sections
pub written_reads_back : (v : ℕ) (ns ws os out : List ℕ) → (write_answer v ns ws os (length out)).number ≡ 0
    → Holds (take (write_answer v ns ws os (length out)).count (write_buffer v ns ws os out)) v ns ws os
unfolding write_answer write_buffer write_refusal answer
written_reads_back v ns ws os out e =
    let u = unmet-number (write_refusal v ns ws os (length out)) e in
    let wrong = not (is_version v) in
    let right = not-false (is_version v) (unmet_if wrong 2 0 refl (unmet_l (refused_if wrong 2 0) _ u)) in
    rw (u, take_at (file_of v ns ws os) (drop (file_bytes ns ws os) out) (file_bytes ns ws os) (file-length v ns ws os))
    (file-holds v ns ws os right (net_right_of v ns ws os (unmet_l (net_refusal v ns ws os) _ (unmet_r (refused_if wrong 2 0) _ u))))

-- writing the sections of an accepted file in its version gives that file
pub read_writes_back : (f : List ℕ) → Bytes f → Accepted f → file_of (version_of f) (nodes_of f) (wires_of f) (obstacles_of f) ≡ f
read_writes_back f b a =
    let h = (accepted-right f a).head in
    let u = head-unmet f h in
    rw (← section_stretch f 0 u, ← section_stretch f 1 u, ← section_stretch f 2 u) (file_of_sections f h b)

pub accepted_writes_back : (f out : List ℕ) → Bytes f → Accepted f → length f ≤ length out
    → (write_answer (version_of f) (nodes_of f) (wires_of f) (obstacles_of f) (length out) ≡ record { number = 0; place = 0; count = length f })
    × (write_buffer (version_of f) (nodes_of f) (wires_of f) (obstacles_of f) out ≡ f ++ drop (length f) out)
unfolding answer
accepted_writes_back f out b a h =
    let ns = nodes_of f in
    let ws = wires_of f in
    let os = obstacles_of f in
    let v = version_of f in
    let r = accepted-right f a in
    let e : file_of v ns ws os ≡ f = read_writes_back f b a in
    let l : length f ≡ file_bytes ns ws os = ap length (sym e) ∙ file-length v ns ws os in
    let w = write_done v ns ws os (length out) none (length f) r.head.version_right (net-none v ns ws os r.net) refl l h in
    (sym (answer-done v ns ws os (length out) (length f) l w), sym (buffer-done v ns ws os out refl w) ∙ ap (λ p. over p out) e)

-- two accepted files with the same version and sections are the same bytes
pub one-file : (f g : List ℕ) → Bytes f → Bytes g → Accepted f → Accepted g
    → version_of f ≡ version_of g → nodes_of f ≡ nodes_of g → wires_of f ≡ wires_of g → obstacles_of f ≡ obstacles_of g → f ≡ g
one-file f g bf bg af ag e n w o = sym (read_writes_back f bf af) ∙ rw (e, n, w, o) (read_writes_back g bg ag)

-- two nets of one version have the same nodes, wires and obstacles
pub record SameNumbers (v : ℕ) (ns ws os ms us ps : List ℕ) : Type 0 where
  pub node_count_lem : node_count ns ≡ node_count ms
  pub node_x_lem : (i : ℕ) → i < node_count ns → node_x ns i ≡ node_x ms i
  pub node_y_lem : (i : ℕ) → i < node_count ns → node_y ns i ≡ node_y ms i
  pub node_flags_lem : (i : ℕ) → i < node_count ns → node_flags ns i ≡ node_flags ms i
  pub wire_parent_lem : (i : ℕ) → 0 < i → i < node_count ns → wire_parent ws i ≡ wire_parent us i
  pub wire_layer_lem : (i : ℕ) → 0 < i → i < node_count ns → wire_layer ws i ≡ wire_layer us i
  pub wire_factor_lem : (i : ℕ) → 0 < i → i < node_count ns → wire_factor ws i ≡ wire_factor us i
  pub obstacle_count_lem : obstacle_count v os ≡ obstacle_count v ps
  pub obstacle_x1_lem : (k : ℕ) → k < obstacle_count v os → obstacle_x1 v os k ≡ obstacle_x1 v ps k
  pub obstacle_y1_lem : (k : ℕ) → k < obstacle_count v os → obstacle_y1 v os k ≡ obstacle_y1 v ps k
  pub obstacle_x2_lem : (k : ℕ) → k < obstacle_count v os → obstacle_x2 v os k ≡ obstacle_x2 v ps k
  pub obstacle_y2_lem : (k : ℕ) → k < obstacle_count v os → obstacle_y2 v os k ≡ obstacle_y2 v ps k
  pub obstacle_layer_lem : (k : ℕ) → k < obstacle_count v os → obstacle_layer v os k ≡ obstacle_layer v ps k

module _ (v : ℕ) (ns ws os ms us ps : List ℕ) (r : NetRight v ns ws os) (t : NetRight v ms us ps) (s : SameNumbers v ns ws os ms us ps) where
  same_nodes : Bytes ns → Bytes ms → ns ≡ ms
  same_nodes bn bm =
      same-records node_bytes (node_count ns) ns ms (omega arith) r.sized.nodes_length
      (t.sized.nodes_length ∙ ap (λ (n : ℕ). node_bytes * n) (sym s.node_count_lem)) byte
    where
      byte : (q i : ℕ) → q < node_count ns → i < node_bytes → get_or ns (node_bytes * q + i) 0 ≡ get_or ms (node_bytes * q + i) 0
      byte q zero h l = rw (add-zero (node_bytes * q)) (le16-low ns ms bn bm (node_bytes * q) (s.node_x_lem q h))
      byte q (suc zero) h l = le16-high ns ms bn bm (node_bytes * q) (s.node_x_lem q h)
      byte q (suc (suc zero)) h l = le16-low ns ms bn bm (node_bytes * q + 2) (s.node_y_lem q h)
      byte q (suc (suc (suc zero))) h l =
          let e : node_bytes * q + 2 + 1 ≡ node_bytes * q + 3 = omega arith in
          rw (← e) (le16-high ns ms bn bm (node_bytes * q + 2) (s.node_y_lem q h))
      byte q (suc (suc (suc (suc zero)))) h l = s.node_flags_lem q h
      byte q (suc (suc (suc (suc (suc i))))) h l = absurd (omega arith)

  same-wires : ws ≡ us
  same-wires =
      same-records wire_bytes (node_count ns - 1) ws us (omega arith) r.sized.wires_length
      (t.sized.wires_length ∙ ap (λ (n : ℕ). wire_bytes * (n - 1)) (sym s.node_count_lem)) byte
    where
      own : (q : ℕ) → q + 1 - 1 ≡ q
      own q = omega arith

      byte : (q i : ℕ) → q < node_count ns - 1 → i < wire_bytes → get_or ws (wire_bytes * q + i) 0 ≡ get_or us (wire_bytes * q + i) 0
      byte q zero h l =
          rw (add-zero (wire_bytes * q)) (rw (own q) at (s.wire_parent_lem (q + 1) (omega arith) (omega arith)))
      byte q (suc zero) h l = rw (own q) at (s.wire_layer_lem (q + 1) (omega arith) (omega arith))
      byte q (suc (suc zero)) h l = rw (own q) at (s.wire_factor_lem (q + 1) (omega arith) (omega arith))
      byte q (suc (suc (suc i))) h l = absurd (omega arith)

  same-obstacles : Bytes os → Bytes ps → os ≡ ps
  same-obstacles bo bp =
      same-records (obstacle_bytes v) (obstacle_count v os) os ps (omega (arith, bytes_low v)) r.sized.obstacles_length
      (t.sized.obstacles_length ∙ ap (λ (n : ℕ). obstacle_bytes v * n) (sym s.obstacle_count_lem)) byte
    where
      next : (p c d : ℕ) → c + 1 ≡ d → p + c + 1 ≡ p + d
      next p c d e = omega arith

      low : (p c : ℕ) → le16 os (p + c) ≡ le16 ps (p + c) → get_or os (p + c) 0 ≡ get_or ps (p + c) 0
      low p c e = le16-low os ps bo bp (p + c) e

      high : (p c d : ℕ) → c + 1 ≡ d → le16 os (p + c) ≡ le16 ps (p + c) → get_or os (p + d) 0 ≡ get_or ps (p + d) 0
      high p c d n e = rw (← next p c d n) (le16-high os ps bo bp (p + c) e)

      -- its last byte, where the version has one
      last : (b : Bool) {x y : ℕ} → 8 < cond b 8 9 → cond b most_layers x ≡ cond b most_layers y → x ≡ y
      last true l e = absurd (omega arith)
      last false l e = e

      byte : (q i : ℕ) → q < obstacle_count v os → i < obstacle_bytes v → get_or os (obstacle_bytes v * q + i) 0 ≡ get_or ps (obstacle_bytes v * q + i) 0
      byte q zero h l = rw (add-zero (obstacle_bytes v * q)) (le16-low os ps bo bp (obstacle_bytes v * q) (s.obstacle_x1_lem q h))
      byte q (suc zero) h l = le16-high os ps bo bp (obstacle_bytes v * q) (s.obstacle_x1_lem q h)
      byte q (suc (suc zero)) h l = low (obstacle_bytes v * q) 2 (s.obstacle_y1_lem q h)
      byte q (suc (suc (suc zero))) h l = high (obstacle_bytes v * q) 2 3 refl (s.obstacle_y1_lem q h)
      byte q (suc (suc (suc (suc zero)))) h l = low (obstacle_bytes v * q) 4 (s.obstacle_x2_lem q h)
      byte q (suc (suc (suc (suc (suc zero))))) h l = high (obstacle_bytes v * q) 4 5 refl (s.obstacle_x2_lem q h)
      byte q (suc (suc (suc (suc (suc (suc zero)))))) h l = low (obstacle_bytes v * q) 6 (s.obstacle_y2_lem q h)
      byte q (suc (suc (suc (suc (suc (suc (suc zero))))))) h l = high (obstacle_bytes v * q) 6 7 refl (s.obstacle_y2_lem q h)
      byte q (suc (suc (suc (suc (suc (suc (suc (suc zero)))))))) h l = last (eqb v 1) l (s.obstacle_layer_lem q h)
      byte q (suc (suc (suc (suc (suc (suc (suc (suc (suc i))))))))) h l = absurd (omega (arith, bytes_high v))

-- a net has one file: two accepted files of one version whose nodes, wires and obstacles are the same numbers are the same bytes
pub one_net_one_file : (f g : List ℕ) → Bytes f → Bytes g → Accepted f → Accepted g
    → version_of f ≡ version_of g → SameNumbers (version_of f) (nodes_of f) (wires_of f) (obstacles_of f) (nodes_of g) (wires_of g) (obstacles_of g) → f ≡ g
one_net_one_file f g bf bg af ag e s =
    let rf = accepted-right f af in
    let rg = accepted-right g ag in
    let tg = rw (← e) at rg.net in
    one-file f g bf bg af ag e
    (same_nodes _ _ _ _ _ _ _ rf.net tg s (bytes_section f bf 0) (bytes_section g bg 0))
    (same-wires _ _ _ _ _ _ _ rf.net tg s)
    (same-obstacles _ _ _ _ _ _ _ rf.net tg s (bytes_section f bf 2) (bytes_section g bg 2))
