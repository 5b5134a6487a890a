-- The output machine: writes of rows 6 and 7, fault that begins or ends, and what is driven.
-- Assumes nothing.
use mathlib.Core.Path.{◌≡◌, refl, sym, ap, ap₂, ◌∙◌}
use mathlib.Core.Bool.{Bool, true, false, cond, ◌&&◌, beq, false≢true}
use mathlib.Core.List.{List}
use Prim.Native.Nat.{ℕ, ◌<◌}
use native.Mathlib.Omega.{arith}
use lib.Dec.{eqb}
use lib.Bits.{bit_xor, xor_lt}
use borrow.Author.Tests.{eqb-true}
use Rattle.profile.specs.Bits.{bit_at, flip}
use Rattle.profile.specs.Bytes.{bytes}
use Rattle.profile.specs.Entries.{inside, bit_of}
use Rattle.profile.specs.OutputLine.{OutputLine, with_driven, write_output_line, move_output_line}
use Rattle.profile.proofs.BitLaws.{bit_xor_lem}
use Rattle.profile.proofs.ListLaws.{bytes_cong}
use Rattle.windows.specs.declared.Row.{Row}
use Rattle.windows.specs.View.{line_at, row_at, window}
use Rattle.lines.specs.View.{input_at, output_at}
use Rattle.windows.specs.Promises.{Lined, written, masked, row_set, RowOf, Joins, Picks}
use Rattle.lines.specs.Promises.{Written, Moved, Driven, driven_at}
use Rattle.profile.proofs.BoolLaws.{both}
use Rattle.windows.proofs.WindowLaws.{window_bit, window_small}
use Rattle.windows.proofs.RowLaws.{every, every_line}
use Rattle.lines.proofs.ColumnLaws.{input_of_lem, output_of_lem}

-- ---- writes

-- a value that is chosen only where q holds may be another there
cond_when : (q x y z : Bool) → (q ≡ true → x ≡ y) → cond q x z ≡ cond q y z
cond_when true x y z e = e refl
cond_when false x y z e = refl

-- a write of the outputs, by the window and the filter mask, in fault or outside it
outputs_written : (t b fault k p e v mk d : Bool) → ◌≡◌ {A = OutputLine}
    (record {
      polarity = p;
      error_mode = e;
      error_value = v;
      mask = mk;
      kept = cond (t && mk) b k;
      driven = cond fault d
          (cond (t && mk) (flip b p) d);
    })
    (cond t (write_output_line fault 6 b (record { polarity = p; error_mode = e; error_value = v; mask = mk; kept = k; driven = d }))
    (record { polarity = p; error_mode = e; error_value = v; mask = mk; kept = k; driven = d }))
unfolding write_output_line
outputs_written true b true k p e v true d = refl
outputs_written true b false k p e v true d = refl
outputs_written true b true k p e v false d = refl
outputs_written true b false k p e v false d = refl
outputs_written false b true k p e v mk d = refl
outputs_written false b false k p e v mk d = refl

-- a write of their polarity
polarity_written : (t b fault k p e v mk d : Bool) → ◌≡◌ {A = OutputLine}
    (record { polarity = cond t b p; error_mode = e; error_value = v; mask = mk; kept = k; driven = cond fault d (cond t (flip k b) d) })
    (cond t (write_output_line fault 7 b (record { polarity = p; error_mode = e; error_value = v; mask = mk; kept = k; driven = d }))
    (record { polarity = p; error_mode = e; error_value = v; mask = mk; kept = k; driven = d }))
unfolding write_output_line
polarity_written true b true k p e v mk d = refl
polarity_written true b false k p e v mk d = refl
polarity_written false b true k p e v mk d = refl
polarity_written false b false k p e v mk d = refl

module _ {fault : Bool} {words mid : List ℕ} {w s v : ℕ} where
  pub kept_in_fault : fault ≡ true → Lined mid (masked words 6 10 w s v) → Written fault words 6 w s v mid
  unfolding masked input_at output_at
  kept_in_fault f m =
      rw f
      (record {
        inputs = λ i h. input_of_lem mid i (λ a. masked words 6 10 w s v a i) (λ a ha. m.lines a i ha h);
        outputs = λ i h.
            output_of_lem mid i (λ a. masked words 6 10 w s v a i) (λ a ha. m.lines a i ha h)
            ∙ outputs_written (inside w s i) (bit_at v (bit_of w s i)) true _ _ _ _ _ _;
      })

  pub inverted_in_fault : fault ≡ true → Lined mid (written words 7 w s v) → Written fault words 7 w s v mid
  unfolding written input_at output_at
  inverted_in_fault f m =
      rw f
      (record {
        inputs = λ i h. input_of_lem mid i (λ a. written words 7 w s v a i) (λ a ha. m.lines a i ha h);
        outputs = λ i h.
            output_of_lem mid i (λ a. written words 7 w s v a i) (λ a ha. m.lines a i ha h)
            ∙ polarity_written (inside w s i) (bit_at v (bit_of w s i)) true _ _ _ _ _ _;
      })

  module _ {out : List ℕ} {x : ℕ} where
    pub kept_outside : fault ≡ false → Lined mid (masked words 6 10 w s v) → x ≡ window words 7 w s
        → Lined out (masked mid 11 10 w s (bit_xor v x)) → Written fault words 6 w s v out
    unfolding masked input_at output_at
    kept_outside f m ex o =
        rw f
        (record {
          inputs = λ i h. input_of_lem out i (after i) (all i h);
          outputs = λ i h. output_of_lem out i (after i) (all i h) ∙ outputs_written (inside w s i) (bit_at v (bit_of w s i)) false _ _ _ _ _ _;
        })
      where
        after : ℕ → ℕ → Bool
        after i a =
            cond (eqb a 11 && inside w s i && line_at words 10 i) (flip (bit_at v (bit_of w s i)) (line_at words 7 i))
            (cond (eqb a 6 && inside w s i && line_at words 10 i) (bit_at v (bit_of w s i)) (line_at words a i))

        follows : (i : ℕ) → inside w s i ≡ true → bit_at (bit_xor v x) (bit_of w s i) ≡ flip (bit_at v (bit_of w s i)) (line_at words 7 i)
        follows i e =
            bit_xor_lem v x (bit_of w s i)
            ∙ ap (flip (bit_at v (bit_of w s i))) (ap (λ (n : ℕ). bit_at n (bit_of w s i)) ex ∙ window_bit words 7 w s i e)

        all : (i : ℕ) → i < 128 → (a : ℕ) → a < 20 → line_at out a i ≡ after i a
        all i h a ha =
            o.lines a i ha h
            ∙ ap₂ (λ (g y : Bool). cond (eqb a 11 && inside w s i && g) (bit_at (bit_xor v x) (bit_of w s i)) y)
            (m.lines 10 i (omega arith) h) (m.lines a i ha h)
            ∙ cond_when (eqb a 11 && inside w s i && line_at words 10 i) (bit_at (bit_xor v x) (bit_of w s i))
            (flip (bit_at v (bit_of w s i)) (line_at words 7 i)) _
            (λ q. follows i (both (eqb a 11) (inside w s i) (both (eqb a 11 && inside w s i) (line_at words 10 i) q).0).1)

    pub inverted_outside : fault ≡ false → Lined mid (written words 7 w s v) → x ≡ window words 6 w s
        → Lined out (written mid 11 w s (bit_xor x v)) → Written fault words 7 w s v out
    unfolding written input_at output_at
    inverted_outside f m ex o =
        rw f
        (record {
          inputs = λ i h. input_of_lem out i (after i) (all i h);
          outputs = λ i h. output_of_lem out i (after i) (all i h) ∙ polarity_written (inside w s i) (bit_at v (bit_of w s i)) false _ _ _ _ _ _;
        })
      where
        after : ℕ → ℕ → Bool
        after i a =
            cond (eqb a 11 && inside w s i) (flip (line_at words 6 i) (bit_at v (bit_of w s i)))
            (cond (eqb a 7 && inside w s i) (bit_at v (bit_of w s i)) (line_at words a i))

        follows : (i : ℕ) → inside w s i ≡ true → bit_at (bit_xor x v) (bit_of w s i) ≡ flip (line_at words 6 i) (bit_at v (bit_of w s i))
        follows i e =
            bit_xor_lem x v (bit_of w s i)
            ∙ ap (λ (k : Bool). flip k (bit_at v (bit_of w s i))) (ap (λ (n : ℕ). bit_at n (bit_of w s i)) ex ∙ window_bit words 6 w s i e)

        all : (i : ℕ) → i < 128 → (a : ℕ) → a < 20 → line_at out a i ≡ after i a
        all i h a ha =
            o.lines a i ha h
            ∙ ap (cond (eqb a 11 && inside w s i) (bit_at (bit_xor x v) (bit_of w s i))) (m.lines a i ha h)
            ∙ cond_when (eqb a 11 && inside w s i) (bit_at (bit_xor x v) (bit_of w s i)) (flip (line_at words 6 i) (bit_at v (bit_of w s i))) _
            (λ q. follows i (both (eqb a 11) (inside w s i) q).1)

-- what the check is told at `write_output_lines` and at `write_output_polarity`
pub ruleset for_lines = (kept_in_fault, kept_outside, window_small, xor_lt)

pub ruleset for_polarity = (inverted_in_fault, inverted_outside, window_small, xor_lt)

-- ---- fault that begins or ends

-- fault stays as it is
pub unmoved : (before after : Bool) (words : List ℕ) → beq before after ≡ true → Moved before after words words
unfolding output_at move_output_line
unmoved true true words e = record { inputs = λ i h. refl; outputs = λ i h. refl }
unmoved false false words e = record { inputs = λ i h. refl; outputs = λ i h. refl }
unmoved true false words e = absurd (false≢true e)
unmoved false true words e = absurd (false≢true e)

drives_by : (words : List ℕ) (a i : ℕ) (t m x : Bool) → eqb a 11 ≡ t
    → cond t (cond m x (line_at words 11 i)) (line_at words a i) ≡ cond (t && m) x (line_at words a i)
drives_by words a i true m x e = ap (λ (r : ℕ). cond m x (line_at words r i)) (sym (eqb-true a 11 e))
drives_by words a i false m x e = refl

pub drives : {words out : List ℕ} {mask source polarity old x new : Row} → RowOf words 11 old
    → Joins flip source polarity x → Picks mask x old new → Lined out (row_set words 11 new) → Lined out
    (driven_at words mask source polarity)
unfolding row_set
drives {words} {mask = mask} {source} {polarity} hd hx hn o =
    record {
      count = o.count;
      lines = λ a i ha h.
          rw (o.lines a i ha h, hn.at i, hx.at i, hd.at i h)
          (drives_by words a i (eqb a 11) (row_at mask i) (flip (row_at source i) (row_at polarity i)) refl);
    }

-- what that is to the machines
module _ (words : List ℕ) {out : List ℕ} (mask source polarity : Row) (o : Lined out (driven_at words mask source polarity)) (i : ℕ)
    (h : i < 128) where
  inputs_kept : input_at out i ≡ input_at words i
  unfolding input_at
  inputs_kept = input_of_lem out i (λ a. driven_at words mask source polarity a i) (λ a ha. o.lines a i ha h)

  driven_set : output_at out i
      ≡ with_driven (cond (row_at mask i) (flip (row_at source i) (row_at polarity i)) (line_at words 11 i)) (output_at words i)
  unfolding output_at
  driven_set = output_of_lem out i (λ a. driven_at words mask source polarity a i) (λ a ha. o.lines a i ha h)

module _ {before after : Bool} {words out : List ℕ} where
  pub fault_begins : before ≡ false → after ≡ true → {mode value polarity : Row} → RowOf words 8 mode → RowOf words 9 value
      → RowOf words 7 polarity → Lined out (driven_at words mode value polarity) → Moved before after words out
  unfolding output_at move_output_line
  fault_begins b a {mode} {value} {polarity} hm hv hp o =
      rw (b, a)
      (record {
        inputs = inputs_kept words mode value polarity o;
        outputs = λ i h.
            driven_set words mode value polarity o i h
            ∙ ap (λ (d : Bool). with_driven d (output_at words i)) (rw (hm.at i h, hv.at i h, hp.at i h));
      })

  pub fault_ends : before ≡ true → after ≡ false → {kept polarity : Row} → RowOf words 6 kept → RowOf words 7 polarity
      → Lined out (driven_at words every kept polarity) → Moved before after words out
  unfolding output_at move_output_line
  fault_ends b a {kept} {polarity} hk hp o =
      rw (b, a)
      (record {
        inputs = inputs_kept words every kept polarity o;
        outputs = λ i h.
            driven_set words every kept polarity o i h
            ∙ ap (λ (d : Bool). with_driven d (output_at words i)) (rw (every_line i, hk.at i h, hp.at i h));
      })

-- ---- what is driven

pub driven : {words bs : List ℕ} {r : Row} → RowOf words 11 r → bs ≡ bytes 16 (row_at r) → Driven words bs
unfolding output_at
driven {words} {bs} {r} hr e = record { bytes = e ∙ bytes_cong 16 (row_at r) (λ i. (output_at words i).driven) (λ i h. hr.at i h) }
