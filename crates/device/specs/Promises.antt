-- What the methods promise: what the calls in place promise of the device's arrays.
-- Assumes nothing.
use Rattle.std.specs.Prelude.{ℕ, get_or, Result, pos}
use Rattle.std.specs.Int.{w8, w16, w32, w64}
use Rattle.std.proofs.Common.{Fits, SFits}
use Rattle.profile.specs.declared.refusals.Refusal.{Refusal}
use Rattle.profile.specs.Numbers.{number_answered}
use Rattle.profile.specs.Calls.{Call, Reply}
use Rattle.store.specs.View.{Sized}
use Rattle.store.specs.Promises.{FreshAs}
use Rattle.store.specs.Promises as store
use Rattle.device.specs.declared.Device.{Device}

-- the promise of create: the number, and a fresh device with the node number, or with 127
abbrev pub CreatedAs : ℕ → Result (Unit {0}) Refusal → Device → Type 0
CreatedAs number answer d = FreshAs number (number_answered answer) d.store

-- the promise of each other call: the complete outcome for the machines; a refused call and a command for another node
-- leave every array; a device whose state's byte is normal stays so
abbrev pub Ensured : Device → Call → Reply → Device → Type 0
Ensured before c r left = store.Ensured before.store c r left.store

-- what the struct's type says of a device
pub record Allowed (d : Device) : Type 0 where
  pub sized : Sized d.store
  pub each_octet : (n : ℕ) → Fits w8 (get_or d.store.octets n 0)
  pub each_word : (n : ℕ) → Fits w64 (get_or d.store.words n 0)
  pub each_limit : (n : ℕ) → SFits w32 (get_or d.store.limits n (pos 0))
  pub each_delta : (n : ℕ) → Fits w32 (get_or d.store.deltas n 0)
  pub each_value : (n : ℕ) → SFits w16 (get_or d.store.values n (pos 0))
