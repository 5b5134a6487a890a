-- The message that two bools stand for: whether it is one of the last two, and whether it is the second of its two.
-- Assumes nothing.
use Rattle.std.specs.Prelude.{Bool, cond}
use Rattle.profile.specs.declared.Message.{Message}
use Rattle.profile.specs.declared.Message.TheVariants.{First, Second, Third, Fourth}

abbrev pub message_of : Bool → Bool → Message
message_of pair second = cond pair (cond second Fourth Third) (cond second Second First)
