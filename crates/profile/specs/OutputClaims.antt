-- Document 01, "Digital lines", and document 02, Item 6: what is claimed of an output line where fault begins, lasts and ends, and of its
-- settings.
-- Assumes nothing.
use Rattle.std.specs.Prelude.{◌≡◌, Bool, true, false, cond, ℕ, ◌≤◌, ◌<◌, eqb}
use Rattle.profile.specs.Bits.{flip}
use Rattle.profile.specs.Nodes.{fault}
use Rattle.profile.specs.Entries.{home_of, at_window}
use Rattle.profile.specs.Calls.{Plain, read, write, sample, command, raise, clear, drive, heartbeat, pass, Call}
use Rattle.profile.specs.OutputLine.{with_driven, read_output_line}
use Rattle.profile.specs.Machines.{output_line, Machine, step}
use Rattle.profile.specs.Heard.{Machines, step_all}

-- a line's machine m before a call, and x after it
pub record ByFault (m x : Machine output_line) : Type 0 where
  -- "A line that takes its error value when fault begins shall drive it inverted where its polarity is 1.", by the mode, the error value
  -- and the polarity of that moment; with error mode 0 d "stays"; k and the settings are as they were
  pub begins : fault m.node ≡ false → fault x.node ≡ true
      → x.own ≡ with_driven (cond m.own.error_mode (flip m.own.error_value m.own.polarity) m.own.driven) m.own
  -- "During fault d doesn't move, though k and settings are written."
  pub lasts : fault m.node ≡ true → fault x.node ≡ true → x.own.driven ≡ m.own.driven
  -- "When fault ends, d follows k and polarity again."
  pub ends : fault m.node ≡ true → fault x.node ≡ false → x.own.driven ≡ flip x.own.kept x.own.polarity

-- at any call, whatever the machines hold before it: so by whichever cause, command or expiry fault begins
abbrev pub DrivenByFault : Type 0
DrivenByFault = (ms : Machines) (c : Call) (i : ℕ) → ByFault (ms output_line i) (step_all c ms output_line i)

-- a plain call that may change row 6 to 10 of a line, k or a setting: a write of that row, through any window, and reset node
abbrev pub sets : ℕ → Plain → Bool
sets row (read index sub) = false
sets row (write index sub payload) = at_window false (λ r w s. eqb r row) (home_of index sub)
sets row (sample digital analogue events) = false
sets row (command code to) = eqb code 129
sets row (raise cause) = false
sets row (clear cause) = false
sets row (drive lines channels) = false
sets row (heartbeat node) = false
sets row (pass t) = false

-- no other does: so an error value reads as it was written, whatever the polarity, and whether fault began, lasts or ended since
abbrev pub SetByItsRow : Type 0
SetByItsRow =
    (row i : ℕ) (c : Plain) (m : Machine output_line) → 6 ≤ row → row < 11 → sets row c ≡ false
    → read_output_line row (step output_line i c m).own ≡ read_output_line row m.own
