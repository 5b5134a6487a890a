-- How long the answers of a heartbeat and of an elapsed call can be: no line has more than 1,024 bytes.
-- Assumes nothing.
use mathlib.Core.Bool.{Bool, true, false}
use Prim.Native.Nat.{ℕ, ◌≤◌}
use native.Mathlib.Omega.{arith}
use lib.ListN.{length, length-append}
use Rattle.answers.specs.Answers.{heartbeat_end, heartbeat_line, elapsed_end, elapsed_line}
use Rattle.answers.proofs.LengthLaws.{number_short}

heartbeat_end_short : (watched : Bool) → length (heartbeat_end watched) ≤ 30
unfolding heartbeat_end
heartbeat_end_short true = omega arith
heartbeat_end_short false = omega arith

pub heartbeat_short : (n : ℕ) (watched : Bool) → length (heartbeat_line n watched) ≤ 1024
unfolding heartbeat_line
heartbeat_short n watched = simp length-append (omega (arith, number_short n, heartbeat_end_short watched))

elapsed_end_short : (due running : Bool) → length (elapsed_end due running) ≤ 20
unfolding elapsed_end
elapsed_end_short true running = omega arith
elapsed_end_short false true = omega arith
elapsed_end_short false false = omega arith

pub elapsed_short : (n : ℕ) (due running : Bool) → length (elapsed_line n due running) ≤ 1024
unfolding elapsed_line
elapsed_short n due running = simp length-append (omega (arith, number_short n, elapsed_end_short due running))
