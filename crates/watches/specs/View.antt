-- Where the four entries of the heartbeat watch stand in the array of deltas: after the mappings, first their values, then for each
-- entry 0 while it waits for a first heartbeat, else its sum plus 1.
-- Assumes nothing.
use Rattle.std.specs.Prelude.{◌≡◌, not, List, ℕ, ◌+◌, ◌-◌, eqb, get_or}
use Rattle.profile.specs.Bytes.{list_from}
use Rattle.profile.specs.WatchEntries.{Watch}
use Rattle.channels.specs.View.{Outside}

-- an entry with this value and this count
abbrev pub entry_of : ℕ → ℕ → Watch
entry_of value count = record { value = value; started = not (eqb count 0); sum = count - 1 }

abbrev pub entry_at : List ℕ → ℕ → Watch
entry_at deltas n = entry_of (get_or deltas (120 + n) 0) (get_or deltas (124 + n) 0)

-- all four
abbrev pub watches_of : List ℕ → List Watch
watches_of deltas = list_from 4 0 (entry_at deltas)

-- the array holds these four now, and no other element changed
pub record WatchesLeft (ws : List Watch) (deltas deltas' : List ℕ) : Type 0 where
  pub watches : watches_of deltas' ≡ ws
  pub deltas_kept : Outside 120 128 0 deltas deltas'
