-- How long the answer of a request can be: no line has more than 1,024 bytes.
-- Assumes nothing.
use mathlib.Core.Bool.{Bool, ◌&&◌}
use mathlib.Core.List.{List, ◌++◌}
use Prim.Native.Nat.{ℕ, ◌≤◌}
use native.Mathlib.Omega.{arith}
use lib.Dec.{eqb}
use lib.ListN.{length, drop, length-append}
use Rattle.profile.specs.Bytes.{little_endian}
use Rattle.profile.specs.Server.{index_in, sub_in, data_in, asks_upload, aborts}
use Rattle.words.specs.Ascii.{ascii}
use Rattle.answers.specs.declared.remarks.Before.{Before}
use Rattle.answers.specs.Refusals.{access_refusal_text}
use Rattle.answers.specs.Remarks.{value_in}
use Rattle.answers.proofs.LengthLaws.{short_cond, decimal_short, bytes_short, number_short, parentheses_short}
use Rattle.answers.proofs.EntryLengths.{access_refusal_short, read_end_short, write_end_short}
use Rattle.frame_answers.specs.FrameAnswers.{refused_end, silent_end}
use Rattle.frame_answers.specs.FrameAnswers.{abort_end, done_end, replied_end, reply_end, reply_line}

refused_short : (n : ℕ) → length (refused_end n) ≤ 643
unfolding refused_end
refused_short n = short_cond 643 (eqb n 7) _ _ (omega arith) (omega arith)

silent_short : (stopped : Bool) → length (silent_end stopped) ≤ 643
unfolding silent_end
silent_short stopped = short_cond 643 stopped _ _ (omega arith) (omega arith)

abort_short : (code index sub : ℕ) → length (abort_end code index sub) ≤ 643
unfolding abort_end
abort_short code index sub =
    let words = access_refusal_text code index sub in
    omega (arith, parentheses_short 73 (ascii "abort: " ++ words) (omega (arith, access_refusal_short code index sub)))

done_short : (frame reply : List ℕ) (b : Before) → length (done_end frame reply b) ≤ 643
unfolding done_end
done_short frame reply b =
    let index = index_in reply in
    let sub = sub_in reply in
    short_cond 643 (asks_upload frame) _ _ (read_end_short index sub (little_endian (data_in 4 reply)))
    (write_end_short index sub (value_in index sub (drop 4 frame)) b)

replied_short : (frame reply : List ℕ) (b : Before) → length (replied_end frame reply b) ≤ 643
unfolding replied_end
replied_short frame reply b =
    short_cond 643 (eqb (length frame) 8 && eqb (length reply) 8) _ _
    (short_cond 643 (aborts reply) _ _ (abort_short (little_endian (data_in 4 reply)) (index_in reply) (sub_in reply))
    (done_short frame reply b)) (omega arith)

reply_end_short : (n : ℕ) (frame reply : List ℕ) (count : ℕ) (stopped : Bool) (b : Before)
    → length (reply_end n frame reply count stopped b) ≤ 643
unfolding reply_end
reply_end_short n frame reply count stopped b =
    short_cond 643 (eqb n 0) _ _ (short_cond 643 (eqb count 0) _ _ (silent_short stopped) (replied_short frame reply b)) (refused_short n)

pub reply_short : (n : ℕ) (frame reply : List ℕ) (count : ℕ) (stopped : Bool) (b : Before) → length reply ≤ 64
    → length (reply_line n frame reply count stopped b) ≤ 1024
unfolding reply_line
reply_short n frame reply count stopped b h = simp length-append
    (omega (arith, h, number_short n, bytes_short reply, decimal_short count, reply_end_short n frame reply count stopped b))
