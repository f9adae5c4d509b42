-- Lines that are printed one behind the other.
use Rattle.std.proofs.Common.{ℕ, suc, ◌+◌, ◌*◌, ◌/◌, ◌≡◌, ◌<◌, ◌≤◌, List, ◌++◌, length, take, drop, get_or, refl, sym, ap, ◌∙◌, subst, take_at, drop_at, drop-drop, length-append, length-drop, get_or-drop, mul_comm, arith}
use Rattle.std.proofs.lemmas.List.{get_or-take}
use Rattle.net.specs.Layout.{entry_bytes, record_bytes}
use Rattle.console.specs.Lines.{entry_line, record_line}
use Rattle.std.proofs.Math.Arith.{digits_div}
use Rattle.std.specs.declared.option.Option.{Option}
use Rattle.std.specs.Io.KnownBytes.{Appends}
use Rattle.std.proofs.KnownBytes.{Appends-trans}
use Rattle.laws.specs.Gather.{gather}

pub one_more : (line : ℕ → List ℕ) (m n : ℕ) (a b c : Option (List ℕ)) → m ≡ suc n → Appends a b (gather n line) → Appends b c (line n) → Appends a c (gather m line)
unfolding gather
one_more line m n a b c e p q =
    let P : ℕ → Type 0 = λ k. Appends a c (gather k line) in
    subst P (sym e) (Appends-trans a b c (gather n line) (line n) p q)

-- chunk k of a list, of some size, and what stands behind it
module _ (size k : ℕ) (bytes chunk behind : List ℕ) (e : chunk ++ behind ≡ drop (size * k) bytes) (n : length chunk ≡ size) where
  pub chunk_is : chunk ≡ take size (drop (size * k) bytes)
  chunk_is = rw (← e) (sym (take_at chunk behind size n))

  pub behind_is : behind ≡ drop (size * suc k) bytes
  behind_is = sym (drop_at chunk behind size n) ∙ rw e (drop-drop size (size * k) bytes ∙ ap (λ m. drop m bytes) (omega arith))

  pub within : size * k ≤ length bytes → size * suc k ≤ length bytes
  within h = omega (arith, length-append chunk behind, length-drop (size * k) bytes, ap length e)

-- what stands behind the last whole chunk
pub whole : (size k : ℕ) (bytes rest : List ℕ) → rest ≡ drop (size * k) bytes → size * k ≤ length bytes → length rest < size → k ≡ length bytes / size
whole size k bytes rest e h l =
    let n : length bytes ≡ k * size + length rest = omega (arith, length-drop (size * k) bytes, ap length e, mul_comm k size) in
    sym (rw n (digits_div k l))

-- a byte of a part of a list
byte_there : (size at i j : ℕ) (l : List ℕ) → i < size → at + i ≡ j → get_or (take size (drop at l)) i 0 ≡ get_or l j 0
byte_there size at i j l h e = get_or-take size (drop at l) i 0 h ∙ get_or-drop at l i 0 ∙ ap (λ k. get_or l k 0) e

-- the lines of an entry and of a record, each as a part of its list
pub entry_there : (l : List ℕ) (at : ℕ) → entry_line (take entry_bytes (drop at l)) 0 ≡ entry_line l at
entry_there l at =
    let b : (i j : ℕ) → i < entry_bytes → at + i ≡ j → get_or (take entry_bytes (drop at l)) i 0 ≡ get_or l j 0 = λ i j. byte_there entry_bytes at i j l in
    rw (b 0 at (omega arith) (omega arith), b 1 (at + 1) (omega arith) refl, b 2 (at + 1 + 1) (omega arith) (omega arith))

pub record_there : (l : List ℕ) (at : ℕ) → record_line (take record_bytes (drop at l)) 0 ≡ record_line l at
record_there l at =
    let b : (i j : ℕ) → i < record_bytes → at + i ≡ j → get_or (take record_bytes (drop at l)) i 0 ≡ get_or l j 0 = λ i j. byte_there record_bytes at i j l in
    rw (
      b 0 at (omega arith) (omega arith),
      b 1 (at + 1) (omega arith) refl,
      b 2 (at + 1 + 1) (omega arith) (omega arith),
      b 3 (at + 3) (omega arith) refl,
      b 4 (at + 3 + 1) (omega arith) (omega arith),
      b 5 (at + 3 + 2) (omega arith) (omega arith),
      b 6 (at + 3 + 3) (omega arith) (omega arith),
      b 7 (at + 7) (omega arith) refl,
      b 8 (at + 8) (omega arith) refl,
      b 9 (at + 8 + 1) (omega arith) (omega arith),
      b 10 (at + 10) (omega arith) refl,
      b 11 (at + 11) (omega arith) refl,
    )
