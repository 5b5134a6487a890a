-- The answer line of a request, to the letter.
-- Assumes nothing.
use Rattle.std.specs.Prelude.{Bool, cond, ◌&&◌, List, ◌++◌, ℕ, eqb, length, drop}
use Rattle.profile.specs.Bytes.{little_endian}
use Rattle.profile.specs.Server.{index_in, sub_in, data_in, asks_upload, aborts}
use Rattle.words.specs.Ascii.{ascii}
use Rattle.answers.specs.declared.remarks.Before.{Before}
use Rattle.answers.specs.EntryWords.{entry_text}
use Rattle.answers.specs.Refusals.{access_refusal_text}
use Rattle.answers.specs.Remarks.{written_text, value_in}
use Rattle.answers.specs.Answers.{newline, in_parentheses, counted_text}

-- "Request not 8 bytes long: number 7 .. Reply buffer not 8 long: 5"
unfoldable pub refused_end : ℕ → List ℕ
refused_end n = cond (eqb n 7) (in_parentheses (ascii "request not 8 bytes")) (in_parentheses (ascii "reply buffer not 8 bytes"))

-- "A client's abort, or any request while stopped, gets no reply": which it was
unfoldable pub silent_end : Bool → List ℕ
silent_end stopped = cond stopped (in_parentheses (ascii "node stopped, no reply")) (in_parentheses (ascii "client's abort, no reply"))

-- which entry a request of eight bytes names
abbrev pub index_asked : List ℕ → ℕ
index_asked frame = cond (eqb (length frame) 8) (index_in frame) 0

abbrev pub sub_asked : List ℕ → ℕ
sub_asked frame = cond (eqb (length frame) 8) (sub_in frame) 0

-- what the code of an abort means for its entry
unfoldable pub abort_end : ℕ → ℕ → ℕ → List ℕ
abort_end code index sub = in_parentheses (ascii "abort: " ++ access_refusal_text code index sub)

-- "A request does exactly what the plain call does": the reply of an upload holds what was read, the request of a download what was written
unfoldable pub done_end : List ℕ → List ℕ → Before → List ℕ
done_end frame reply b =
    cond (asks_upload frame) (in_parentheses (entry_text (index_in reply) (sub_in reply) (little_endian (data_in 4 reply))))
    (in_parentheses (written_text (index_in reply) (sub_in reply) (value_in (index_in reply) (sub_in reply) (drop 4 frame)) b))

-- a reply has eight bytes, and so has its request: it aborts, or its entry is named as for a plain read or write. (No accepted request has
-- another length.)
unfoldable pub replied_end : List ℕ → List ℕ → Before → List ℕ
replied_end frame reply b =
    cond (eqb (length frame) 8 && eqb (length reply) 8)
    (cond (aborts reply) (abort_end (little_endian (data_in 4 reply)) (index_in reply) (sub_in reply)) (done_end frame reply b))
    newline

-- the end of a request's line, in a node that was stopped or not
unfoldable pub reply_end : ℕ → List ℕ → List ℕ → ℕ → Bool → Before → List ℕ
reply_end n frame reply count stopped b =
    cond (eqb n 0) (cond (eqb count 0) (silent_end stopped) (replied_end frame reply b)) (refused_end n)

-- "`reply`, the reply buffer as the call left it, `/`, the length, 8 or 0"
unfoldable pub reply_line : ℕ → List ℕ → List ℕ → ℕ → Bool → Before → List ℕ
reply_line n frame reply count stopped b = counted_text n (ascii " reply") reply count ++ reply_end n frame reply count stopped b
