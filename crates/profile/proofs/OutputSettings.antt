-- Document 02, Item 6: k and the settings of an output line change by a write of their own row and by reset node alone.
-- Assumes nothing.
use mathlib.Core.Path.{◌≡◌, refl, ap, ◌∙◌, sym}
use mathlib.Core.Bool.{Bool, true, false, cond, and-false, false≢true}
use Prim.Native.Nat.{ℕ, ◌≤◌, ◌<◌}
use native.Mathlib.Omega.{arith}
use lib.Dec.{eqb}
use Rattle.profile.specs.declared.Home.{Home}
use Rattle.profile.specs.declared.Home.TheVariants.{Constant, Window, InputChannel, OutputChannel, Sources, Device, MappingEntry, WatchEntry}
use Rattle.profile.specs.declared.Node.{Node}
use Rattle.profile.specs.Bits.{bit_at}
use Rattle.profile.specs.Bytes.{little_endian}
use Rattle.profile.specs.Nodes.{fault, addressed}
use Rattle.profile.specs.Entries.{home_of, bit_of, at_window}
use Rattle.profile.specs.Calls.{Plain, read, write, sample, command, raise, clear, drive, heartbeat, pass}
use Rattle.profile.specs.OutputLine.{OutputLine, with_kept, with_polarity, write_output_line, move_output_line, read_output_line}
use Rattle.profile.specs.Machines.{output_line, Machine, next_own, next}
use Rattle.profile.specs.NodeAlone.{next_node}
use Rattle.profile.specs.OutputClaims.{sets, SetByItsRow}
use Rattle.profile.proofs.BoolLaws.{picked}
use Rattle.profile.proofs.StepLaws.{cond_same, step_holds}
use Rattle.profile.proofs.WidthToWidth.{writable_row}

-- ---- a write of another row

module _ (f b : Bool) (o : OutputLine) (r : ℕ) where
  -- what a write of row 6 and one of row 7 leave, a write of row r leaves where the rows after them do
  left_by : {A : Type 0} (P : OutputLine → A) → ((k d : Bool) → eqb r 6 ≡ true → P (with_kept k d o) ≡ P o)
      → ((p d : Bool) → eqb r 7 ≡ true → P (with_polarity p d o) ≡ P o)
      → P (record {
        polarity = o.polarity;
        error_mode = cond (eqb r 8) b o.error_mode;
        error_value = cond (eqb r 9) b o.error_value;
        mask = cond (eqb r 10) b o.mask;
        kept = o.kept;
        driven = o.driven;
      }) ≡ P o
      → P (write_output_line f r b o) ≡ P o
  unfolding write_output_line
  left_by P six seven rest =
      picked Same (eqb r 6) _ _ (λ e. picked Same o.mask _ o (λ t. six _ _ e) (λ t. refl))
      (λ e. picked Same (eqb r 7) _ _ (λ t. seven _ _ t) (λ t. rest))
    where
      Same : OutputLine → Type 0
      Same x = P x ≡ P o

  abbrev Reads : ℕ → Type 0
  Reads row = 6 ≤ row → eqb r row ≡ false → read_output_line row (write_output_line f r b o) ≡ read_output_line row o

  other_row : (row : ℕ) → row < 11 → Reads row
  unfolding read_output_line
  other_row row u l h =
      writable_row Reads (λ k. absurd (omega arith)) (λ k. absurd (omega arith)) (λ k. absurd (omega arith)) (λ k. absurd (omega arith))
      (λ k. absurd (omega arith))
      (λ k e. left_by (λ x. x.kept) (λ y d t. absurd (false≢true (sym e ∙ t))) (λ y d t. refl) refl)
      (λ k e. left_by (λ x. x.polarity) (λ y d t. refl) (λ y d t. absurd (false≢true (sym e ∙ t))) refl)
      (λ k e. left_by (λ x. x.error_mode) (λ y d t. refl) (λ y d t. refl) (ap (λ (t : Bool). cond t b o.error_mode) e))
      (λ k e. left_by (λ x. x.error_value) (λ y d t. refl) (λ y d t. refl) (ap (λ (t : Bool). cond t b o.error_value) e))
      (λ k e. left_by (λ x. x.mask) (λ y d t. refl) (λ y d t. refl) (ap (λ (t : Bool). cond t b o.mask) e))
      row (omega arith) u l h

-- ---- any plain call

module _ (row : ℕ) (l : 6 ≤ row) (u : row < 11) where
  written_other : (v i : ℕ) (n : Node) (o : OutputLine) (e : Home) → at_window false (λ r w s. eqb r row) e ≡ false
      → read_output_line row (at_window o (λ r w s. write_output_line (fault n) r (bit_at v (bit_of w s i)) o) e) ≡ read_output_line row o
  written_other v i n o (Constant x) h = refl
  written_other v i n o (Window r w s) h = other_row (fault n) (bit_at v (bit_of w s i)) o r row u l h
  written_other v i n o (InputChannel index m) h = refl
  written_other v i n o (OutputChannel index m) h = refl
  written_other v i n o Sources h = refl
  written_other v i n o (Device index) h = refl
  written_other v i n o (MappingEntry m sub) h = refl
  written_other v i n o (WatchEntry m) h = refl

  moved_kept : (before after : Bool) (o : OutputLine) → read_output_line row (move_output_line before after o) ≡ read_output_line row o
  unfolding move_output_line read_output_line
  moved_kept before after o = refl

  next_kept : (i : ℕ) (c : Plain) (m : Machine output_line) → sets row c ≡ false
      → read_output_line row (next output_line i c m).own ≡ read_output_line row m.own
  unfolding next next_node next_own
  next_kept i (read index sub) m h = rw cond_same refl
  next_kept i (write index sub payload) m h = written_other (little_endian payload) i m.node m.own (home_of index sub) h
  next_kept i (sample digital analogue events) m h = refl
  next_kept i (command code to) m h =
      rw (h, and-false (addressed to m.node)) (moved_kept _ _ _ ∙ ap (read_output_line row) (cond_same _ m.own))
  next_kept i (raise cause) m h = moved_kept _ _ _
  next_kept i (clear cause) m h = moved_kept _ _ _
  next_kept i (drive lines channels) m h = refl
  next_kept i (heartbeat node) m h = refl
  next_kept i (pass t) m h = refl

pub set_by_its_row : SetByItsRow
set_by_its_row row i c m l u h =
    step_holds (λ (x : Machine output_line). read_output_line row x.own ≡ read_output_line row m.own) i c m refl
    (λ e t. next_kept row l u i c m h)
