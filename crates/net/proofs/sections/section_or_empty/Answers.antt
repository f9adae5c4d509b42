-- `net::sections::section_or_empty` meets its contract.
-- Assumes nothing.
use mathlib.Core.Path.{◌∙◌, ap, sym}
use native.Mathlib.Omega.{arith}
use Rattle.std.proofs.lemmas.List.{nil_from_length, length-take}
use Rattle.net.specs.Refusal.{met}
use Rattle.net.specs.Answered.{met_refusal}
use Rattle.net.specs.Reading.{section_empty, section_stretch}
use Rattle.net.proofs.sections.section_or_empty.Goals as goal

pub returns-in-Ok : goal.returns-in-Ok
returns-in-Ok c = c.stretch.ensures ∙ section_stretch _ _ (sym (ap met c.in-Ok.ensures))

pub returns-in-Err : goal.returns-in-Err
returns-in-Err c = nil_from_length _ (grind (arith, length-take)) ∙ section_empty _ _ (sym (ap met c.in-Err.ensures) ∙ met_refusal _)
