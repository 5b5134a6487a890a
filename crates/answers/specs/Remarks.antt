-- A write that was accepted and did less than its writer may think, in words.
-- Assumes nothing.
use Rattle.std.specs.Prelude.{Bool, cond, ◌||◌, List, [], ◌++◌, ℕ, ◌+◌, ◌-◌, ◌*◌, ◌^◌, eqb, take}
use Rattle.profile.specs.declared.Home.{Home}
use Rattle.profile.specs.Entries.{entry_of, home_of, at_window, at_output_channel}
use Rattle.profile.specs.Bytes.{little_endian}
use Rattle.words.specs.Ascii.{ascii}
use Rattle.texts.specs.Texts.{runs_text}
use Rattle.answers.specs.declared.remarks.Before.{Before}
use Rattle.answers.specs.EntryWords.{entry_text}

-- "During fault d doesn't move, though k and settings are written. When fault ends, d follows k and polarity again."
abbrev pub driven_later : List ℕ
driven_later = ascii ": in fault, driven later"

-- "When fault begins, d becomes the error value .. if error mode is 1": both are read then
abbrev pub used_next : List ℕ
used_next = ascii ": in fault, used at the next fault"

-- "Writing bit w sets k to w if the filter mask is 1, else does nothing": the lines whose mask is 0, of w lines from the window's first on;
-- the masks are what a read of them through the same window answers
abbrev pub masked : ℕ → ℕ → ℕ
masked w masks = 2 ^ w - 1 - masks

-- some lines of a window: which ones, and that the others are driven later
unfoldable pub some_masked : ℕ → ℕ → Before → List ℕ
some_masked w s b =
    ascii ": masked, not written: " ++ runs_text (w * (s - 1) + 1) (masked w b.masks)
    ++ cond b.fault (ascii "; in fault, driven later") []

-- a write of the output row: no line is masked; all are; some are
unfoldable pub output_remark : ℕ → ℕ → Before → List ℕ
output_remark w s b =
    cond (eqb (masked w b.masks) 0) (cond b.fault driven_later [])
    (cond (eqb b.masks 0) (ascii ": masked, not written") (some_masked w s b))

-- a write of another row: 7 output polarity, 8 error mode, 9 error value
unfoldable pub row_remark : ℕ → Bool → List ℕ
row_remark row fault = cond fault (cond (eqb row 7) driven_later (cond (eqb row 8 || eqb row 9) used_next [])) []

-- a write of digital lines; row 6 is the outputs
unfoldable pub window_remark : ℕ → ℕ → ℕ → Before → List ℕ
window_remark row w s b = cond (eqb row 6) (output_remark w s b) (row_remark row b.fault)

-- a write of an analogue output: 6411 its value, 6443 and 6444 its error mode and error value
unfoldable pub channel_remark : ℕ → Bool → List ℕ
channel_remark index fault = cond fault (cond (eqb index 0x6411) driven_later used_next) []

abbrev pub remark_at : Home → Before → List ℕ
remark_at h b = at_output_channel (at_window [] (λ row w s. window_remark row w s b) h) (λ index n. channel_remark index b.fault) h

unfoldable pub remark_text : ℕ → ℕ → Before → List ℕ
remark_text index sub b = remark_at (home_of index sub) b

-- an entry that was written with a value, and what the write did less
unfoldable pub written_text : ℕ → ℕ → ℕ → Before → List ℕ
written_text index sub value b = entry_text index sub value ++ remark_text index sub b

-- the number that data bytes hold for an entry: as many as it has
unfoldable pub value_in : ℕ → ℕ → List ℕ → ℕ
value_in index sub payload = little_endian (take (entry_of index sub).size payload)
