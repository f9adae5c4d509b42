-- Document 01, "Where each refusal is met": numbers 1 to 11 and 16, and 20 of document 02; which of them comes first, and what reading and writing answer.
-- Assumes nothing.
use Rattle.std.specs.Prelude.{ℕ, zero, suc, ◌+◌, ◌-◌, ◌*◌, ◌%◌, Bool, true, false, not, ◌&&◌, ◌||◌, cond, List, [], ◌++◌, length, drop, ltb, eqb}
use Rattle.net.specs.declared.Answer.{Answer}
use Rattle.net.specs.Layout.{newest, head_bytes, node_bytes, wire_bytes, obstacle_bytes, most_nodes, most_obstacles, most_layers, most_flags}
use Rattle.net.specs.Net.{node_count, node_x, node_y, node_flags, wire_parent, wire_layer, wire_factor, obstacle_count, obstacle_x1, obstacle_y1, obstacle_x2, obstacle_y2, obstacle_layer}
use Rattle.net.specs.File.{version_of, pair_count, pairs_right, stretch, file_of, file_bytes}

-- what is met: a refusal's number with its place, or number 0 where there is none
pub record Verdict : Type 0 where
  pub number : ℕ
  pub place : ℕ

-- no refusal, and the refusal of a number with its place
abbrev pub none : Verdict
none = record { number = 0; place = 0 }

abbrev pub refusal : ℕ → ℕ → Verdict
refusal number place = record { number = number; place = place }

-- a condition: where it holds, its refusal is met
abbrev pub refused_if : Bool → ℕ → ℕ → Verdict
refused_if true number place = refusal number place
refused_if false number place = none

-- a refusal is met
abbrev pub met : Verdict → Bool
met r = not (eqb r.number 0)

-- the first of two in order
abbrev pub or_else : Verdict → Verdict → Verdict
or_else a b = cond (met a) a b

-- the first over the records 0 to n − 1 in order
unfoldable pub first_of : ℕ → (ℕ → Verdict) → Verdict
first_of zero f = none
first_of (suc n) f = or_else (first_of n f) (f n)

-- call: 1 stage outside 1..16
unfoldable pub stage_refusal : ℕ → Verdict
stage_refusal stage = refused_if (eqb stage 0 || ltb most_layers stage) 1 0

-- a version of net files: 1 or 2
unfoldable pub is_version : ℕ → Bool
is_version version = eqb version 1 || eqb version newest

-- head of file: 2 under 28 bytes, or version or pair count wrong
unfoldable pub head_refusal : List ℕ → Verdict
head_refusal file = refused_if (ltb (length file) head_bytes || (not (is_version (version_of file)) || not (eqb (pair_count file) 3))) 2 0

-- pairs: 3 offsets and ends not as they should be
unfoldable pub pairs_refusal : List ℕ → Verdict
pairs_refusal file = refused_if (not (pairs_right file)) 3 0

-- once the pairs are checked, each section is that stretch of the file; after 2 or 3 an empty one is
unfoldable pub section_of : List ℕ → ℕ → List ℕ
section_of file k = cond (met (or_else (head_refusal file) (pairs_refusal file))) [] (stretch file k)

abbrev pub nodes_of : List ℕ → List ℕ
nodes_of file = section_of file 0

abbrev pub wires_of : List ℕ → List ℕ
wires_of file = section_of file 1

abbrev pub obstacles_of : List ℕ → List ℕ
obstacles_of file = section_of file 2

-- sections: 4 node length not in fives, or nodes not 1..256; 5 wire length not 3 × (nodes − 1); 6 obstacle length not in eights (version 1) or nines, or over 256
unfoldable pub sections_refusal : ℕ → List ℕ → List ℕ → List ℕ → Verdict
sections_refusal version nodes wires obstacles =
    or_else (refused_if (not (eqb (length nodes % node_bytes) 0) || (eqb (node_count nodes) 0 || ltb most_nodes (node_count nodes))) 4 0)
    (or_else (refused_if (not (eqb (length wires) (wire_bytes * (node_count nodes - 1)))) 5 0)
    (refused_if (not (eqb (length obstacles % obstacle_bytes version) 0) || ltb most_obstacles (obstacle_count version obstacles)) 6 0))

-- node i: 7 flags over 3
unfoldable pub node_refusal : List ℕ → ℕ → Verdict
node_refusal nodes i = refused_if (ltb most_flags (node_flags nodes i)) 7 i

-- wire i: 8 parent not below its own number; 9 layer or factor out of range; 10 ends differ in x and y
unfoldable pub wire_refusal : List ℕ → List ℕ → ℕ → Verdict
wire_refusal nodes wires i =
    or_else (refused_if (not (ltb (wire_parent wires i) i)) 8 i)
    (or_else (refused_if (eqb (wire_layer wires i) 0 || (ltb most_layers (wire_layer wires i) || eqb (wire_factor wires i) 0)) 9 i)
    (refused_if
    (not (eqb (node_x nodes i) (node_x nodes (wire_parent wires i))) && not (eqb (node_y nodes i) (node_y nodes (wire_parent wires i))))
    10
    i))

-- obstacle k: 11 corners reversed; 20 layer out of range
unfoldable pub obstacle_refusal : ℕ → List ℕ → ℕ → Verdict
obstacle_refusal version obstacles k =
    or_else
    (refused_if (ltb (obstacle_x2 version obstacles k) (obstacle_x1 version obstacles k) || ltb (obstacle_y2 version obstacles k) (obstacle_y1 version obstacles k)) 11 k)
    (refused_if (eqb (obstacle_layer version obstacles k) 0 || ltb most_layers (obstacle_layer version obstacles k)) 20 k)

-- 4 to 11 and 20 on three sections: places from top to bottom, records in order; wires are numbered from 1
unfoldable pub net_refusal : ℕ → List ℕ → List ℕ → List ℕ → Verdict
net_refusal version nodes wires obstacles =
    or_else (sections_refusal version nodes wires obstacles)
    (or_else (first_of (node_count nodes) (λ i. node_refusal nodes i))
    (or_else (first_of (node_count nodes - 1) (λ i. wire_refusal nodes wires (i + 1)))
    (first_of (obstacle_count version obstacles) (λ k. obstacle_refusal version obstacles k))))

-- 2 to 11 and 20 on a file
unfoldable pub read_refusal : List ℕ → Verdict
read_refusal file =
    or_else (head_refusal file)
    (or_else (pairs_refusal file) (net_refusal (version_of file) (nodes_of file) (wires_of file) (obstacles_of file)))

-- what a call answers: a refusal with its place, or done with a count
unfoldable pub answer : Verdict → ℕ → Answer
answer r count = record { number = r.number; place = r.place; count = cond (met r) 0 count }

-- read: the count is that of the nodes
unfoldable pub read_answer : List ℕ → Answer
read_answer file = answer (read_refusal file) (node_count (nodes_of file))

-- lent buffer: 16 more bytes are needed than were lent; the place is their number
abbrev pub lent_refusal : ℕ → ℕ → Verdict
lent_refusal needed lent = refused_if (ltb lent needed) 16 needed

-- write is told the version: 2 on it, 4 to 11 and 20 on the sections, then 16
unfoldable pub write_refusal : ℕ → List ℕ → List ℕ → List ℕ → ℕ → Verdict
write_refusal version nodes wires obstacles lent =
    or_else (refused_if (not (is_version version)) 2 0)
    (or_else (net_refusal version nodes wires obstacles) (lent_refusal (file_bytes nodes wires obstacles) lent))

-- the count is that of the bytes written
unfoldable pub write_answer : ℕ → List ℕ → List ℕ → List ℕ → ℕ → Answer
write_answer version nodes wires obstacles lent =
    answer (write_refusal version nodes wires obstacles lent) (file_bytes nodes wires obstacles)

-- what the lent buffer then holds: the file and behind it what was there, or after a refusal what was there
unfoldable pub write_buffer : ℕ → List ℕ → List ℕ → List ℕ → List ℕ → List ℕ
write_buffer version nodes wires obstacles out =
    cond (met (write_refusal version nodes wires obstacles (length out))) out
    (file_of version nodes wires obstacles ++ drop (file_bytes nodes wires obstacles) out)
