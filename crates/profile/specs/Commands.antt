-- Document 01, "Network commands", by their codes.
-- Assumes nothing.
use Rattle.std.specs.Prelude.{◌≡◌, ℕ, false, Result, Ok, Err}
use Rattle.profile.specs.declared.commands.Command.{Command}
use Rattle.profile.specs.declared.commands.Command.TheVariants.{Start, Stop, EnterPreOperational, ResetNode, ResetCommunication}
use Rattle.profile.specs.declared.refusals.Refusal.{Refusal}
use Rattle.profile.specs.declared.refusals.Refusal.TheVariants.{CommandCode}
use Rattle.profile.specs.Refusals.{is_command}

-- "1 start, 2 stop, 128 pre-operational, 129 reset node, 130 reset communication"
abbrev pub command_code : Command → ℕ
command_code Start = 1
command_code Stop = 2
command_code EnterPreOperational = 128
command_code ResetNode = 129
command_code ResetCommunication = 130

-- the command of a code, or that there is none
abbrev pub Named : ℕ → Result Command Refusal → Type 0
Named code (Ok command) = command_code command ≡ code
Named code (Err refusal) = (refusal ≡ CommandCode) × (is_command code ≡ false)
