-- Document 02, Item 5: the machine of the heartbeat watch, all four entries.
-- Assumes nothing.
use Rattle.std.specs.Prelude.{Bool, true, false, cond, ◌&&◌, List, map, ℕ, ◌+◌, eqb, leb, set}
use Rattle.profile.specs.Entries.{at_watch}
use Rattle.profile.specs.WatchEntries.{Watch, waiting, empty_watches, watch_at, time_in, watches, some}
use Rattle.profile.specs.MappedEntries.{empty_mapping}
use Rattle.profile.specs.Calls.{on_watched}
use Rattle.profile.specs.Rules.{Rules}

-- ---- one entry

-- "Watching starts with that node's first heartbeat."; "a heartbeat sets its sum to 0, and one from a node no entry names does nothing"
unfoldable pub take_heartbeat : ℕ → Watch → Watch
take_heartbeat node w = cond (watches node w.value) (record { value = w.value; started = true; sum = 0 }) w

-- "An entry whose sum reaches or passes its time", by t milliseconds more
unfoldable pub expires : ℕ → Watch → Bool
expires t w = w.started && leb (time_in w.value) (w.sum + t)

-- "elapsed milliseconds, which each started entry adds up"; one that expires "waits for a first heartbeat again"
unfoldable pub take_time : ℕ → Watch → Watch
take_time t w =
    cond (expires t w) (waiting w.value)
    (cond w.started (record { value = w.value; started = true; sum = w.sum + t }) w)

-- ---- all four

-- one of them expires by t milliseconds more
unfoldable pub is_due : ℕ → List Watch → Bool
is_due t ws = some 4 (λ n. expires t (watch_at ws n))

-- a used entry names the node; a watch is started: what the player's remarks ask
unfoldable pub is_watched : ℕ → List Watch → Bool
is_watched node ws = some 4 (λ n. watches node (watch_at ws n).value)

unfoldable pub any_started : List Watch → Bool
any_started ws = some 4 (λ n. (watch_at ws n).started)

-- "Writing an entry stops its watch": the value v to entry n
abbrev pub write_watch : ℕ → ℕ → List Watch → List Watch
write_watch n v ws = set ws n (waiting v)

-- a read or write of one of its entries names it, a heartbeat, and time that passes; "either reset empties all four"
abbrev pub heartbeat_watch : Rules
heartbeat_watch =
    record {
      Own = List Watch;
      count = 1;
      fresh = empty_watches;
      names = λ e i. at_watch false (λ n. eqb i 0) e;
      written = λ e v i n o. at_watch o (λ entry. write_watch entry v o) e;
      joins = λ c i. on_watched false (λ node. eqb i 0) (λ t. eqb i 0) c;
      joined = λ c i n o. on_watched o (λ node. map (take_heartbeat node) o) (λ t. map (take_time t) o) c;
      cleared = λ o. o;
      emptied = λ o. empty_watches;
      moved = λ before after o. o;
      holds = λ o. record { mapping = empty_mapping; watches = o };
    }
