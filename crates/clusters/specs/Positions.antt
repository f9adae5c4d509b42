-- The positions in the work arrays as numbers: 0 where a wire cannot be cut, and where it has no jumper of its own.
-- Assumes nothing.
use Rattle.std.specs.Prelude.{ℕ, ◌<◌, ◌≡◌, ◌≢◌, true, false, Option, None, Some, is_some, List, length, get_or, map}
use Rattle.std.proofs.Common.{refl, sym, ◌∙◌, ap, arith}
use Rattle.std.proofs.lemmas.List.{get_or-map}
use Rattle.clusters.specs.declared.work.Cuttable.{Cuttable}
use Rattle.clusters.specs.declared.work.Jumper.{Jumper}

abbrev pub lo_of : Option Cuttable → ℕ
lo_of None = 0
lo_of (Some c) = c.lo

abbrev pub hi_of : Option Cuttable → ℕ
hi_of None = 0
hi_of (Some c) = c.hi

abbrev pub los : List (Option Cuttable) → List ℕ
los cuttable = map lo_of cuttable

abbrev pub his : List (Option Cuttable) → List ℕ
his cuttable = map hi_of cuttable

abbrev pub position_of : Option Jumper → ℕ
position_of None = 0
position_of (Some j) = j.position

abbrev pub positions : List (Option Jumper) → List ℕ
positions jumpers = map position_of jumpers

-- an entry and its number
pub lo_at : (cuttable : List (Option Cuttable)) (i : ℕ) (d : Option Cuttable) → i < length cuttable → get_or (los cuttable) i 0 ≡ lo_of (get_or cuttable i d)
lo_at cuttable i d p = get_or-map lo_of cuttable i d 0 p

pub hi_at : (cuttable : List (Option Cuttable)) (i : ℕ) (d : Option Cuttable) → i < length cuttable → get_or (his cuttable) i 0 ≡ hi_of (get_or cuttable i d)
hi_at cuttable i d p = get_or-map hi_of cuttable i d 0 p

pub position_at : (jumpers : List (Option Jumper)) (i : ℕ) (d : Option Jumper) → i < length jumpers → get_or (positions jumpers) i 0 ≡ position_of (get_or jumpers i d)
position_at jumpers i d p = get_or-map position_of jumpers i d 0 p

-- the same of an entry that was matched
pub lo_is : (cuttable : List (Option Cuttable)) (i : ℕ) (d : Option Cuttable) {o : Option Cuttable} → get_or cuttable i d ≡ o → i < length cuttable → get_or (los cuttable) i 0 ≡ lo_of o
lo_is cuttable i d e p = lo_at cuttable i d p ∙ ap lo_of e

pub hi_is : (cuttable : List (Option Cuttable)) (i : ℕ) (d : Option Cuttable) {o : Option Cuttable} → get_or cuttable i d ≡ o → i < length cuttable → get_or (his cuttable) i 0 ≡ hi_of o
hi_is cuttable i d e p = hi_at cuttable i d p ∙ ap hi_of e

pub position_is : (jumpers : List (Option Jumper)) (i : ℕ) (d : Option Jumper) {o : Option Jumper} → get_or jumpers i d ≡ o → i < length jumpers → get_or (positions jumpers) i 0 ≡ position_of o
position_is jumpers i d e p = position_at jumpers i d p ∙ ap position_of e

-- where there is none the number is 0, and else above 0
lo_none : (o : Option Cuttable) → is_some o ≡ false → lo_of o ≡ 0
lo_none None e = refl
lo_none (Some c) e = cc

lo_some : (o : Option Cuttable) → is_some o ≡ true → lo_of o ≢ 0
lo_some None e = cc
lo_some (Some c) e = λ z. let p = c.positive in omega arith

pub zero_at : (cuttable : List (Option Cuttable)) (i : ℕ) (d : Option Cuttable) → i < length cuttable → is_some (get_or cuttable i d) ≡ false → get_or (los cuttable) i 0 ≡ 0
zero_at cuttable i d p e = lo_at cuttable i d p ∙ lo_none (get_or cuttable i d) e

pub positive_at : (cuttable : List (Option Cuttable)) (i : ℕ) (d : Option Cuttable) → i < length cuttable → is_some (get_or cuttable i d) ≡ true → get_or (los cuttable) i 0 ≢ 0
positive_at cuttable i d p e z = lo_some (get_or cuttable i d) e (sym (lo_at cuttable i d p) ∙ z)
