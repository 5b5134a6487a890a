-- The bytes so far, and then those of what is left of the value.
-- Assumes nothing.
use Rattle.std.proofs.Common.{◌≡◌, ◌++◌, ◌-◌, length, take}
use Rattle.profile.specs.Bytes.{bytes_of}
use Rattle.messages.proofs.transmitted.put.Given as goal

abbrev pub invariant-loop-byte : goal.invariant-loop-byte
invariant-loop-byte l =
    take l.byte-index l.byte-items ++ bytes_of (length l.fn.bytes - l.byte-index) l.left ≡ bytes_of (length l.fn.bytes) l.fn.value
