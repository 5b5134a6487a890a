-- Where the eight mappings stand in the array of deltas: after those of the channels, nine numbers for each, by sub-index.
-- Assumes nothing.
use Rattle.std.specs.Prelude.{◌≡◌, cond, List, ℕ, ◌+◌, ◌*◌, ◌≤◌, ◌<◌, eqb, get_or, take}
use Rattle.profile.specs.Bytes.{list_from}
use Rattle.profile.specs.MappedEntries.{Mapping, listed}
use Rattle.profile.specs.Mapping.{write_mapping}
use Rattle.channels.specs.View.{Outside}

-- the place of a sub-index of mapping m
abbrev pub place_of : ℕ → ℕ → ℕ
place_of m sub = 48 + (9 * m + sub)

abbrev pub mapping_at : List ℕ → ℕ → Mapping
mapping_at deltas m =
    record { count = get_or deltas (place_of m 0) 0; entries = list_from 8 0 (λ j. get_or deltas (place_of m (1 + j)) 0) }

-- v was written to a sub-index of mapping m
pub record MappingStored (m sub v : ℕ) (deltas deltas' : List ℕ) : Type 0 where
  pub mappings : (i : ℕ) → i < 8 → mapping_at deltas' i ≡ cond (eqb i m) (write_mapping sub v (mapping_at deltas i)) (mapping_at deltas i)
  pub deltas_kept : Outside 48 120 0 deltas deltas'

-- so many of the entries are in force
pub record InForce (deltas : List ℕ) (m r : ℕ) : Type 0 where
  pub few : r ≤ 8
  pub are : take r (mapping_at deltas m).entries ≡ listed (mapping_at deltas m)
