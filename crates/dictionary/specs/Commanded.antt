-- What the rows of a command answer: the number of the first that holds, or the command of the code.
-- Assumes nothing.
use Rattle.std.specs.Prelude.{◌≡◌, ℕ, Result, Ok, Err}
use Rattle.profile.specs.declared.commands.Command.{Command}
use Rattle.profile.specs.declared.refusals.Refusal.{Refusal}
use Rattle.profile.specs.Numbers.{number_answered}
use Rattle.profile.specs.Commands.{command_code}
use Rattle.profile.specs.Refusals.{command_refusal}

-- the command, where there is one, is that of the code
abbrev pub OfCode : ℕ → Result Command Refusal → Type 0
OfCode code (Ok command) = command_code command ≡ code
OfCode code (Err refusal) = Unit {0}

pub record Commanded (code to : ℕ) (answer : Result Command Refusal) : Type 0 where
  pub numbered : number_answered answer ≡ command_refusal code to
  pub named : OfCode code answer
