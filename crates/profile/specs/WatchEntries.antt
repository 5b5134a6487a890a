-- Document 02, Item 5: the entries of object 1016, and the node that each names.
-- Assumes nothing.
use Rattle.std.specs.Prelude.{Bool, false, not, ◌||◌, ◌&&◌, List, ℕ, zero, suc, ◌/◌, ◌%◌, eqb, leb, get_or, replicate}

-- an entry: its value; a heartbeat has started its watch; the milliseconds since the last one
pub record Watch : Type 0 where
  pub value : ℕ
  pub started : Bool
  pub sum : ℕ

-- with the value v, it waits for a first heartbeat
abbrev pub waiting : ℕ → Watch
waiting v = record { value = v; started = false; sum = 0 }

-- "Object 1016:1 to 1016:4, four bytes each, default 0": entry n, from 0, is that of sub-index n + 1
abbrev pub empty_watches : List Watch
empty_watches = replicate 4 (waiting 0)

abbrev pub watch_at : List Watch → ℕ → Watch
watch_at ws n = get_or ws n (waiting 0)

-- "bits 16 to 23 a node, bits 0 to 15 milliseconds"
unfoldable pub node_in : ℕ → ℕ
node_in v = v / 65536 % 256

unfoldable pub time_in : ℕ → ℕ
time_in v = v % 65536

-- "Time 0 or a node outside 1 to 127 means unused."
unfoldable pub is_used : ℕ → Bool
is_used v = not (eqb (time_in v) 0) && (leb 1 (node_in v) && leb (node_in v) 127)

-- an entry with the value v is used, and names the node
unfoldable pub watches : ℕ → ℕ → Bool
watches node v = is_used v && eqb (node_in v) node

-- p holds of one of the numbers below k
abbrev pub some : ℕ → (ℕ → Bool) → Bool
some zero p = false
some (suc k) p = some k p || p k

-- "Two used entries for one node": a used value v at entry n, and another entry
unfoldable pub is_second : ℕ → ℕ → List Watch → Bool
is_second n v ws = is_used v && some 4 (λ j. not (eqb j n) && watches (node_in v) (watch_at ws j).value)
