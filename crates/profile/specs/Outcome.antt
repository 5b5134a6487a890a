-- The promise of one call: what it does to every machine, and what it answers.
-- Assumes nothing.
use Rattle.std.specs.Prelude.{◌≡◌, ℕ, ◌<◌}
use Rattle.profile.specs.Calls.{Call, Reply}
use Rattle.profile.specs.Machines.{Kind, count}
use Rattle.profile.specs.Heard.{Machines, step_all}
use Rattle.profile.specs.Replies.{reply}

-- two families are the same at every machine of the device
pub record Same (a b : Machines) : Type 0 where
  pub at : (k : Kind) (i : ℕ) → i < count k → a k i ≡ b k i

-- the promise of one call: the machines afterwards are those before at what they hear of the call, and the whole reply is what these answer
pub record Outcome (before : Machines) (c : Call) (r : Reply) (left : Machines) : Type 0 where
  pub machines : Same left (step_all c before)
  pub replied : r ≡ reply before c
