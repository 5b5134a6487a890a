-- `refusals::last_of` meets its contract: what stands at sub-index 0 tells the last.
-- Assumes nothing.
use mathlib.Core.Path.{sym, ap, ◌∙◌}
use Rattle.profile.specs.Entries.{absent_entry}
use Rattle.answers.proofs.LastLaws.{told_by, last_is, told_other}
use Rattle.answers.proofs.refusals.last_of.Goals as goal

pub returns-in_default : goal.returns-in_default
returns-in_default c = last_is c.args.index (absent_entry _) c.in_default.ensures

pub returns-in-Constant : goal.returns-in-Constant
returns-in-Constant c =
    c.counted.ensures ∙ sym (ap (told_by c.in-Ok.entry.size) c.in-Constant.is) ∙ last_is c.args.index _ c.in-Ok.ensures

pub returns-in-MappingEntry : goal.returns-in-MappingEntry
returns-in-MappingEntry c =
    sym (ap (told_by c.in-Ok.entry.size) c.in-MappingEntry.is) ∙ last_is c.args.index _ c.in-Ok.ensures

pub returns-in_default-home : goal.returns-in_default-home
returns-in_default-home c =
    sym (told_other c.in-Ok.entry.size c.in-Ok.entry.home c.in_default-home.not-Constant c.in_default-home.not-MappingEntry)
    ∙ last_is c.args.index _ c.in-Ok.ensures
