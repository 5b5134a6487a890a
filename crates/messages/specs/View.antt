-- What the parts of a message promise to it.
-- Assumes nothing.
use Rattle.std.specs.Prelude.{◌≡◌, true, false, cond, List, [], ◌∷◌, ℕ, leb, length}
use Rattle.profile.specs.declared.Home.{Home}
use Rattle.profile.specs.Bytes.{bytes_of}
use Rattle.profile.specs.MappedEntries.{receives, index_of, sub_of, mapped_entry, mappable, moves, moved, total}
use Rattle.profile.specs.Calls.{Plain, write}
use Rattle.profile.specs.Heard.{frame_writes, step_each}
use Rattle.profile.specs.Replies.{read_value, frame_of}
use Rattle.store.specs.declared.Store.{Store}
use Rattle.store.specs.View.{machines_of}
use Rattle.store.specs.Promises.{Stepped}

-- the machines have heard plain calls
abbrev pub Heard : Store → List Plain → Store → Type 0
Heard before cs left = Stepped before left (step_each cs (machines_of before))

-- an entry of mapping m with its data: a plain write, where it moves something
abbrev pub entry_writes : ℕ → ℕ → List ℕ → List Plain
entry_writes m v payload = cond (moves m v) (write (index_of v) (sub_of v) payload ∷ []) []

-- a frame by entries of mapping m: "A frame shorter than its mapping .. does nothing"
abbrev pub long_writes : ℕ → List ℕ → List ℕ → List Plain
long_writes m vs frame = cond (leb (total m vs) (length frame)) (frame_writes m vs frame) []

-- ---- a frame filled

module _ (d : Store) where
  -- r is what a read answers, where a transmit mapping may take the entry
  pub record Shown (e : Home) (r : ℕ) : Type 0 where
    pub is : (m : ℕ) → receives m ≡ false → mappable m e ≡ true → r ≡ read_value (machines_of d) e

  -- the bytes of an entry were put, where a transmit mapping moves so many of it
  pub record EntryPut (v : ℕ) (bytes bytes' : List ℕ) : Type 0 where
    pub is : (m : ℕ) → receives m ≡ false → length bytes ≡ moved m v
        → bytes' ≡ bytes_of (length bytes) (read_value (machines_of d) (mapped_entry v).home)

  -- entries of mapping m were put, each after the one before
  abbrev pub Filled : ℕ → List ℕ → List ℕ → List ℕ → Type 0
  Filled m vs rest rest' = rest' ≡ frame_of (machines_of d) m vs rest

  -- the same into a frame, where they fit it
  pub record Sent (m : ℕ) (vs frame frame' : List ℕ) (r : ℕ) : Type 0 where
    pub count : r ≡ cond (leb (total m vs) 8) (total m vs) 0
    pub bytes : frame' ≡ cond (leb (total m vs) 8) (frame_of (machines_of d) m vs frame) frame
