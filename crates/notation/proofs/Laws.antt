-- What a line means, by its first word and the words after it, as the reader finds them.
-- Assumes nothing.
use mathlib.Core.Path.{◌≡◌, refl, sym, ap}
use mathlib.Core.Bool.{Bool, true, false, cond}
use mathlib.Core.List.{List, [], ◌∷◌}
use Prim.Native.Nat.{ℕ}
use lib.Dec.{eqb}
use lib.Pointwise.{pointwise}
use lib.ListN.{length}
use borrow.Author.Tests.{eqb-true, eqb-false}
use Rattle.std.proofs.Common.{arith}
use Rattle.std.proofs.lemmas.Grind.{common_steps}
use Rattle.std.proofs.lemmas.Result.{err_from_is_err_and}
use Rattle.profile.specs.declared.Message.{Message}
use Rattle.profile.specs.Calls as Doc
use Rattle.words.specs.declared.Expected.TheVariants as Ex
use Rattle.words.specs.Words.{words_of, first_word, after_word, is_blank, first_of, others_of}
use Rattle.words.specs.Numbers.{number_of}
use Rattle.words.specs.Items.{byte_item, slash, items_of}
use Rattle.notation.specs.Meanings.{Meaning, at_end, bytes_meaning}
use Rattle.notation.specs.Meanings.{message_of, no_message, message_meaning, receive_meaning, transmit_meaning}
use Rattle.notation.specs.Meanings.Meaning.{unknown}
use Rattle.words.proofs.SplitLaws.{words_none, words_more, first_of_lem, others_of_lem, is_word_is}

-- the words of a line, by the first and what follows it
pub first_is : (l : List ℕ) → first_of (words_of l) ≡ first_word l
first_is l = sym (first_of_lem l (first_word l) refl)

pub others_is : (l : List ℕ) → others_of (words_of l) ≡ words_of (after_word l)
others_is l = sym (others_of_lem l (after_word l) refl)

pub blank_is : (l : List ℕ) → is_blank l ≡ true → words_of l ≡ []
blank_is l e = words_none l (eqb-true (length (first_word l)) 0 e)

pub more_is : (l : List ℕ) → is_blank l ≡ false → words_of l ≡ first_word l ∷ words_of (after_word l)
more_is l e = words_more l (eqb-false (length (first_word l)) 0 e)

pub ends_is : (l : List ℕ) (m : Meaning) → at_end m (words_of l) ≡ cond (is_blank l) m (unknown Ex.End)
ends_is l m = at (is_blank l) refl
  where
    at : (t : Bool) → is_blank l ≡ t → at_end m (words_of l) ≡ cond t m (unknown Ex.End)
    at true e = ap (at_end m) (blank_is l e)
    at false e = ap (at_end m) (more_is l e)

-- what a line's first word and what follows it make of its meaning
pub ruleset next = (first_is, others_is, blank_is, more_is, ends_is, is_word_is)

-- the number of a message, and the words after it
module _ (l : List ℕ) where
  abbrev of-message : (Message → List (List ℕ) → Meaning) → Meaning
  of-message f = cond (no_message (number_of 10 (first_word l))) (unknown Ex.Message)
      (f (message_of (number_of 10 (first_word l))) (words_of (after_word l)))

  pub receive_is : message_meaning receive_meaning (words_of l) ≡ of-message receive_meaning
  unfolding message_meaning
  receive_is = rw (first_is l, others_is l)

  pub transmit_is : message_meaning transmit_meaning (words_of l) ≡ of-message transmit_meaning
  unfolding message_meaning
  transmit_is = rw (first_is l, others_is l)

-- a transmit with bytes
pub transmit_bytes : (message : Message) (l : List ℕ) → is_blank l ≡ false → pointwise eqb (first_word l) slash ≡ false
    → transmit_meaning message (words_of l) ≡ bytes_meaning (Doc.transmit message) (items_of byte_item 64 (words_of l))
transmit_bytes message l e f = rw (more_is l e) (let d = is_word_is (first_word l) slash in grind (arith, common_steps))

-- the same after `receive` or `transmit`, and at the exit of a `?`
pub ruleset sent = (common_steps, err_from_is_err_and, next, receive_is, transmit_is, transmit_bytes)
