-- What the player's remarks ask of the machines.
-- Assumes nothing.
use Rattle.std.specs.Prelude.{ℕ}
use Rattle.profile.specs.declared.Home.{Home}
use Rattle.profile.specs.declared.Home.TheVariants.{Window}
use Rattle.profile.specs.Entries.{home_of, at_window}
use Rattle.profile.specs.Heard.{Machines}
use Rattle.profile.specs.Replies.{read_value}

-- what a read of the output filter masks, row 10, answers through the same window as an entry's; 0 for an entry that is no window
abbrev pub masks_at : Machines → Home → ℕ
masks_at ms h = at_window 0 (λ row w s. read_value ms (Window 10 w s)) h

unfoldable pub masks_of : Machines → ℕ → ℕ → ℕ
masks_of ms index sub = masks_at ms (home_of index sub)
