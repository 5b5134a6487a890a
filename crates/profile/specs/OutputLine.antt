-- Document 01, "Digital lines": the output machine; document 02, Item 6: the error value under polarity.
-- Assumes nothing.
use Rattle.std.specs.Prelude.{Bool, true, false, cond, ◌&&◌, [], ◌∷◌, ℕ, ◌-◌, eqb, leb, get_or}
use Rattle.profile.specs.Bits.{bit_at, flip}
use Rattle.profile.specs.Nodes.{fault}
use Rattle.profile.specs.Entries.{inside, bit_of, at_window}
use Rattle.profile.specs.Refusals.{nothing_held}
use Rattle.profile.specs.Rules.{Rules, put}
use Rattle.profile.specs.Outputs.{following, fault_moves}

-- k is `kept`, d is `driven`
pub record OutputLine : Type 0 where
  pub polarity : Bool
  pub error_mode : Bool
  pub error_value : Bool
  pub mask : Bool
  pub kept : Bool
  pub driven : Bool

-- "Kept bit k and driven bit d, both 0 when fresh", and the table's defaults
abbrev pub fresh_output_line : OutputLine
fresh_output_line = record { polarity = false; error_mode = true; error_value = false; mask = true; kept = false; driven = false }

-- the line with another k and d; polarity and d; d
abbrev pub with_kept : Bool → Bool → OutputLine → OutputLine
with_kept k d m =
    record {
      polarity = m.polarity;
      error_mode = m.error_mode;
      error_value = m.error_value;
      mask = m.mask;
      kept = k;
      driven = d;
    }

abbrev pub with_polarity : Bool → Bool → OutputLine → OutputLine
with_polarity p d m =
    record {
      polarity = p;
      error_mode = m.error_mode;
      error_value = m.error_value;
      mask = m.mask;
      kept = m.kept;
      driven = d;
    }

abbrev pub with_driven : Bool → OutputLine → OutputLine
with_driven d m = with_kept m.kept d m

-- "Writing bit w sets k to w if the filter mask is 1, else does nothing."
abbrev pub write_kept : Bool → Bool → OutputLine → OutputLine
write_kept fault w m = cond m.mask (with_kept w (following fault (flip w m.polarity) m.driven) m) m

abbrev pub write_output_polarity : Bool → Bool → OutputLine → OutputLine
write_output_polarity fault p m = with_polarity p (following fault (flip m.kept p) m.driven) m

-- a write of bit b to row 6 to 10, in fault or outside it
unfoldable pub write_output_line : Bool → ℕ → Bool → OutputLine → OutputLine
write_output_line fault row b m =
    cond (eqb row 6) (write_kept fault b m)
    (cond (eqb row 7) (write_output_polarity fault b m)
    (record {
      polarity = m.polarity;
      error_mode = put row 8 b m.error_mode;
      error_value = put row 9 b m.error_value;
      mask = put row 10 b m.mask;
      kept = m.kept;
      driven = m.driven;
    }))

-- "A line that takes its error value when fault begins shall drive it inverted where its polarity is 1. .. The line's machine follows this
-- rule."
unfoldable pub move_output_line : Bool → Bool → OutputLine → OutputLine
move_output_line before after m =
    with_driven (fault_moves before after m.error_mode (flip m.error_value m.polarity) (flip m.kept m.polarity) m.driven) m

-- "Reading gives k.": what a read of row 6 to 10 gives
unfoldable pub read_output_line : ℕ → OutputLine → Bool
read_output_line row m = get_or (m.kept ∷ m.polarity ∷ m.error_mode ∷ m.error_value ∷ m.mask ∷ []) (row - 6) false

-- rows 6 to 10 are of outputs
abbrev pub output_lines : Rules
output_lines =
    record {
      Own = OutputLine;
      count = 128;
      fresh = fresh_output_line;
      names = λ e i. at_window false (λ row w s. leb 6 row && inside w s i) e;
      written = λ e v i n o. at_window o (λ row w s. write_output_line (fault n) row (bit_at v (bit_of w s i)) o) e;
      joins = λ c i. false;
      joined = λ c i n o. o;
      cleared = λ o. o;
      emptied = λ o. o;
      moved = move_output_line;
      holds = λ o. nothing_held;
    }
