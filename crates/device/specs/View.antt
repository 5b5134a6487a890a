-- The machines of a device.
-- Assumes nothing.
use Rattle.profile.specs.Heard.{Machines}
use Rattle.store.specs.View as store
use Rattle.device.specs.declared.Device.{Device}

-- each machine of the device
abbrev pub machines_of : Device → Machines
machines_of d = store.machines_of d.store

-- the state's byte is the number of a state
abbrev pub Normal : Device → Type 0
Normal d = store.Normal d.store
