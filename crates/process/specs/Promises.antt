-- Which edges a sample reports.
-- Assumes nothing.
use Rattle.std.specs.Prelude.{◌≡◌, Bool, ◌&&◌, ℕ}
use Rattle.windows.specs.declared.Row.{Row}
use Rattle.windows.specs.View.{row_at}

-- the edges that are reported as events, where events are on
pub record Reported (on : Bool) (edges r : Row) : Type 0 where
  pub at : (i : ℕ) → row_at r i ≡ on && row_at edges i
