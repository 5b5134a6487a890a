-- The parts of answer lines.
-- Assumes nothing.
use mathlib.Core.Path.{◌≡◌, refl, sym, ap, subst, ◌∙◌}
use mathlib.Core.List.{List, [], ◌∷◌, ◌++◌, append_assoc}
use Prim.Native.Nat.{ℕ, ◌-◌, ◌*◌, ◌/◌, ◌%◌, ◌^◌, ◌≤◌, ◌<◌}
use native.Mathlib.Nat.{mul-le-mul_left, min-le_left}
use lib.ListN.{length, take, length-take}
use native.Mathlib.Omega.{arith}
use Rattle.std.specs.Prelude.{Result, Ok, Err}
use Rattle.std.specs.Result.{result_unwrap_or}
use Rattle.profile.specs.declared.refusals.Refusal.{Refusal}
use Rattle.profile.specs.declared.Home.{Home}
use Rattle.profile.specs.Numbers.{number_answered}
use Rattle.profile.specs.Answers.{sample_answer, buffer_answer}
use Rattle.profile.specs.Entries.{Entry, entry_of}
use Rattle.profile.proofs.AnswerLaws.{nonzero}
use Rattle.profile.proofs.EntryRanges.{InRange, in_range}
use Rattle.profile.proofs.SizeLaws.{entry_sized}
use mir.Syntax.{w32}
use Rattle.std.specs.Int.{to_le_bytes}
use Rattle.words.specs.Ascii.{ascii}
use Rattle.words.specs.Buffers.{put}
use Rattle.words.proofs.BufferLaws.{put_none, put_then}
use Rattle.answers.specs.Answers.{newline, in_parentheses, four_bytes, counted_text, sample_line}

-- the lines before a window of width w end no later than the window
pub lines_before : (w s : ℕ) → w * (s - 1) ≤ w * s
lines_before w s = mul-le-mul_left w (omega arith)

-- the bytes of 32 bits, the lowest first
pub four_bytes_are : (v : ℕ) → v < 2 ^ 32 → to_le_bytes w32 v ≡ four_bytes v
four_bytes_are v h = ap (λ x. v % 256 ∷ v / 256 % 256 ∷ v / 65536 % 256 ∷ x ∷ []) (omega arith)

pub number_is : (a : Result ℕ Refusal) (bytes : List ℕ) → (buffer_answer a bytes).number ≡ number_answered a
number_is (Ok x) bytes = refl
number_is (Err r) bytes = refl

pub count_is : (a : Result ℕ Refusal) (bytes : List ℕ) → (buffer_answer a bytes).count ≡ result_unwrap_or a 0
count_is (Ok x) bytes = refl
count_is (Err r) bytes = refl

pub counted_is : (a : Result ℕ Refusal) (word bytes : List ℕ) (n count : ℕ) → n ≡ number_answered a → count ≡ result_unwrap_or a 0
    → counted_text (buffer_answer a bytes).number word bytes (buffer_answer a bytes).count ≡ counted_text n word bytes count
counted_is (Ok x) word bytes n count p q = cc
counted_is (Err r) word bytes n count p q = cc

-- the line of a sample, by what it answered
pub sample_is : (a : Result ℕ Refusal) (bytes : List ℕ)
    → sample_line (sample_answer a bytes).number bytes (sample_answer a bytes).events
    ≡ sample_line (number_answered a) bytes (result_unwrap_or a 0)
sample_is (Ok x) bytes = refl
sample_is (Err r) bytes = refl

-- a window, or an entry of the watch, that was found is one of the papers
pub home_found : (h : Home) (index sub : ℕ) (e : Entry) → e ≡ entry_of index sub → e.home ≡ h → InRange (entry_of index sub) h
home_found h index sub e found is =
    subst (InRange (entry_of index sub)) (ap (λ (x : Entry). x.home) (sym found) ∙ is) (in_range index sub)

-- an entry that was found has at most four bytes
pub few_bytes : (index sub : ℕ) (e : Entry) → e ≡ entry_of index sub → (payload : List ℕ) → length (take e.size payload) ≤ 4
few_bytes index sub e found payload =
    omega (
      arith,
      length-take e.size payload,
      min-le_left e.size (length payload),
      ap (λ (x : Entry). x.size) found,
      (entry_sized index sub).most,
    )

-- words that were put in parentheses
pub parentheses_put : (n : ℕ) (held words : List ℕ) → put n (put n (put n held (ascii " (")) words) (ascii ")" ++ newline)
    ≡ put n held (in_parentheses words)
parentheses_put n held words =
    let end = ascii ")" ++ newline in
    put_then n (put n held (ascii " (")) words end ∙ put_then n held (ascii " (") (words ++ end)
    ∙ ap (λ (l : List ℕ). put n held (ascii " (" ++ l)) (sym (append_assoc words (ascii ")") newline))

-- the same, with words that were put one after the other
pub ruleset parentheses = (put_then, parentheses_put)

-- a refusal's meaning, which stands in parentheses
pub ruleset ends = (parentheses_put, nonzero)

-- the number and the count of a call that fills a buffer
pub ruleset counts = (number_is, count_is)

-- a read's bytes
pub ruleset reads = (put_none, put_then, four_bytes_are)
