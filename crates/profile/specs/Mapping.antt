-- Document 02, Item 1: the machine of a process data mapping.
-- Assumes nothing.
use Rattle.std.specs.Prelude.{false, cond, ℕ, ◌-◌, eqb, get_or, set}
use Rattle.profile.specs.Entries.{at_mapping}
use Rattle.profile.specs.MappedEntries.{Mapping, empty_mapping}
use Rattle.profile.specs.WatchEntries.{empty_watches}
use Rattle.profile.specs.Rules.{Rules}

unfoldable pub read_mapping : ℕ → Mapping → ℕ
read_mapping sub o = cond (eqb sub 0) o.count (get_or o.entries (sub - 1) 0)

-- a write of the number v to a sub-index
unfoldable pub write_mapping : ℕ → ℕ → Mapping → Mapping
write_mapping sub v o =
    record {
      count = cond (eqb sub 0) v o.count;
      entries = cond (eqb sub 0) o.entries (set o.entries (sub - 1) v);
    }

-- a read or write names the mapping of its entry; "empty when fresh and after reset communication"
abbrev pub mappings : Rules
mappings =
    record {
      Own = Mapping;
      count = 8;
      fresh = empty_mapping;
      names = λ e i. at_mapping false (λ m sub. eqb i m) e;
      written = λ e v i n o. at_mapping o (λ m sub. write_mapping sub v o) e;
      joins = λ c i. false;
      joined = λ c i n o. o;
      cleared = λ o. o;
      emptied = λ o. empty_mapping;
      moved = λ before after o. o;
      holds = λ o. record { mapping = o; watches = empty_watches };
    }
