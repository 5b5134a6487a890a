-- Document 02, Item 3, at the device: what one request answers and leaves.
-- Assumes nothing.
use Rattle.std.specs.Prelude.{◌≡◌, true, false, List, [], ◌∷◌, ℕ, length}
use Rattle.profile.specs.Calls.{Plain, direct, Reply}
use Rattle.profile.specs.Refusals.{request_refusal}
use Rattle.profile.specs.Server.{entry_bytes, asked, abort_reply, encoded}
use Rattle.profile.specs.Machines.{node_alone}
use Rattle.profile.specs.Replies.{unchanged, count_reply, silent}
use Rattle.device.specs.declared.Device.{Device}
use Rattle.device.specs.View.{machines_of}
use Rattle.device.specs.Promises.{Allowed, Ensured}

-- "A request does exactly what the plain call does": the request answered a and left the device r, the plain call b and s. The reply holds
-- b as a frame, and "number 0 and the reply's length"
pub record SameAsPlain (frame : List ℕ) (a b : Reply) (r s : Device) : Type 0 where
  pub device : r ≡ s
  pub sent : a ≡ count_reply 8 (encoded frame b)
  pub repeated : entry_bytes a.bytes ≡ entry_bytes frame

-- a request of the device d answered a and left the device r: one of four, in the paper's order
pub data Requested (d : Device) (frame buffer : List ℕ) (a : Reply) (r : Device) : Type 0 where
  -- "Request not 8 bytes long: number 7 .. Reply buffer not 8 long: 5": device and buffer are unchanged
  refused : (number : ℕ) → request_refusal (length frame) (length buffer) ≡ number → (number ≡ 0 → ⊥)
      → a ≡ unchanged number buffer [] → r ≡ d → Requested d frame buffer a r
  -- "A client's abort, or any request while stopped, gets no reply and leaves the buffer."
  unanswered : request_refusal (length frame) (length buffer) ≡ 0 → silent (machines_of d node_alone 0).node frame ≡ true
      → a ≡ count_reply 0 buffer → r ≡ d → Requested d frame buffer a r
  -- "Anything but an abort, an upload or an expedited download: an abort reply with 05040001"
  unknown : request_refusal (length frame) (length buffer) ≡ 0 → silent (machines_of d node_alone 0).node frame ≡ false
      → asked frame ≡ [] → a ≡ count_reply 8 (abort_reply frame 0x05040001) → r ≡ d → Requested d frame buffer a r
  -- "A request does exactly what the plain call does": whatever the plain call answers and leaves
  plain_call : (c : Plain) → request_refusal (length frame) (length buffer) ≡ 0
      → silent (machines_of d node_alone 0).node frame ≡ false → asked frame ≡ c ∷ []
      → ((b : Reply) (s : Device) → Allowed s → Ensured d (direct c) b s → SameAsPlain frame a b r s) → Requested d frame buffer a r
