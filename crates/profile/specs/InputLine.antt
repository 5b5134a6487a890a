-- Document 01, "Digital lines", with document 02, Item 2: the input machine.
-- Assumes nothing.
use Rattle.std.specs.Prelude.{Bool, true, false, not, cond, ◌||◌, ◌&&◌, [], ◌∷◌, ℕ, ◌+◌, ltb, leb, get_or}
use Rattle.std.specs.Bool.{beq}
use Rattle.profile.specs.declared.Node.{Node}
use Rattle.profile.specs.Bits.{bit_at, flip}
use Rattle.profile.specs.Bytes.{line_bit}
use Rattle.profile.specs.Nodes.{operational}
use Rattle.profile.specs.Entries.{inside, bit_of, at_window}
use Rattle.profile.specs.Calls.{on_sample}
use Rattle.profile.specs.Refusals.{nothing_held}
use Rattle.profile.specs.Rules.{Rules, put}

-- f is `settled`, c is `count`
pub record InputLine : Type 0 where
  pub polarity : Bool
  pub filter : Bool
  pub any_change : Bool
  pub low_to_high : Bool
  pub high_to_low : Bool
  pub settled : Bool
  pub count : ℕ

-- "Settled bit f and count c, both 0 when fresh", and the table's defaults
abbrev pub fresh_input_line : InputLine
fresh_input_line =
    record {
      polarity = false;
      filter = false;
      any_change = true;
      low_to_high = false;
      high_to_low = false;
      settled = false;
      count = 0;
    }

-- the line with another f and c
abbrev pub settle : Bool → ℕ → InputLine → InputLine
settle f c m =
    record {
      polarity = m.polarity;
      filter = m.filter;
      any_change = m.any_change;
      low_to_high = m.low_to_high;
      high_to_low = m.high_to_low;
      settled = f;
      count = c;
    }

-- "A sample s: filter off, f becomes s and c 0. Filter on and s = f, c becomes 0. Filter on and s differs, c rises by 1; at 3, f becomes
-- s and c 0."; document 02, Item 2: "Object 2003:0 .. replaces the fixed 3": "a line settles at the first differing sample whose count
-- reaches or passes the new length"
unfoldable pub sample_line : ℕ → Bool → InputLine → InputLine
sample_line length s m =
    cond (not m.filter) (settle s 0 m)
    (cond (beq s m.settled) (settle m.settled 0 m)
    (cond (leb length (m.count + 1)) (settle s 0 m)
    (settle m.settled (m.count + 1) m)))

-- "The input reads f, inverted where polarity is 1."
abbrev pub reads : InputLine → Bool
reads m = flip m.settled m.polarity

-- "With f changed, the edge is read under the present polarity": f changed, and any-change or the mask of that direction is 1
unfoldable pub edge : ℕ → Bool → InputLine → Bool
edge length s m =
    flip m.settled (sample_line length s m).settled
    && (m.any_change || cond (reads (sample_line length s m)) m.low_to_high m.high_to_low)

-- "It is an event exactly when the node is operational, 6005 is 1, and any-change or the mask of that direction is 1."
unfoldable pub line_event : Node → Bool → InputLine → Bool
line_event n s m = operational n && n.digital && edge n.length s m

-- "Writing polarity, filter or a mask is no edge and leaves f and c." Row 0 is read only
unfoldable pub write_input_line : ℕ → Bool → InputLine → InputLine
write_input_line row b m =
    record {
      polarity = put row 1 b m.polarity;
      filter = put row 2 b m.filter;
      any_change = put row 3 b m.any_change;
      low_to_high = put row 4 b m.low_to_high;
      high_to_low = put row 5 b m.high_to_low;
      settled = m.settled;
      count = m.count;
    }

-- what a read of row 0 to 5 gives
unfoldable pub read_input_line : ℕ → InputLine → Bool
read_input_line row m =
    get_or (reads m ∷ m.polarity ∷ m.filter ∷ m.any_change ∷ m.low_to_high ∷ m.high_to_low ∷ []) row false

-- "A read or write names the lines of its entry": rows 0 to 5 are of inputs. "a sample names every input line": it brings each its own bit
abbrev pub input_lines : Rules
input_lines =
    record {
      Own = InputLine;
      count = 128;
      fresh = fresh_input_line;
      names = λ e i. at_window false (λ row w s. ltb row 6 && inside w s i) e;
      written = λ e v i n o. at_window o (λ row w s. write_input_line row (bit_at v (bit_of w s i)) o) e;
      joins = λ c i. on_sample false (λ digital analogue. true) c;
      joined = λ c i n o. on_sample o (λ digital analogue. sample_line n.length (line_bit digital i) o) c;
      cleared = λ o. o;
      emptied = λ o. o;
      moved = λ before after o. o;
      holds = λ o. nothing_held;
    }
