-- What a contract sees of a buffer that can be copied.
-- Assumes nothing.
use Rattle.std.specs.Prelude.{List, ℕ, take}
use Rattle.words.specs.declared.held.Held.{Held}

-- the items that it holds, in order: those in the places in front
abbrev pub held : {T : Type 0} {N : ℕ} → Held T N → List T
held v = take v.count v.places
