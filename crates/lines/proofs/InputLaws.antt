-- The input machine: one sample of every line, by row algebra.
-- Assumes nothing.
use mathlib.Core.Path.{◌≡◌, refl, sym, ap, ap₂, ◌∙◌}
use mathlib.Core.Bool.{Bool, true, false, not, cond, ◌&&◌, ◌||◌, beq}
use mathlib.Core.List.{List}
use Prim.Native.Nat.{ℕ, ◌+◌, ◌-◌, ◌<◌}
use native.Mathlib.Omega.{arith}
use lib.Dec.{eqb, ltb, leb}
use borrow.Author.Tests.{leb-false, le-ltb, ltb-false, eqb-true, ne_eqb}
use Rattle.profile.specs.Bits.{bit_at, flip, gather}
use Rattle.profile.specs.InputLine.{InputLine, settle, sample_line, edge}
use Rattle.profile.proofs.BitLaws.{gather_bits, gather_cong}
use Rattle.windows.specs.declared.Row.{Row}
use Rattle.windows.specs.View.{line_at, row_at, is_empty}
use Rattle.lines.specs.View.{count_at, input_at, output_at}
use Rattle.windows.specs.Promises.{Lined, row_set, RowOf, Joins, Picks}
use Rattle.lines.specs.Promises.{Sampled, Reached, counted_at, settled_at}
use Rattle.windows.proofs.RowLaws.{none, no_line, empty_line}
use Rattle.lines.proofs.ColumnLaws.{input_of_lem, output_of_lem}

-- ---- the settled bit and the count

-- a line with the sample s, the settled bit f and the filter on or off counts on: it waits, and has not reached the length
abbrev waits : Bool → Bool → Bool → Bool
waits s f on = flip s f && on

abbrev counts : Bool → Bool → Bool → Bool → Bool
counts s f on r = flip (waits s f on) (waits s f on && r)

-- the code's formulas are the machine's step
abbrev Steps : InputLine → Bool → Bool → ℕ → Type 0
Steps m s n c = (flip s n ≡ m.settled) × (cond n (c + 1) 0 ≡ m.count)

steps : (s f on r p any lh hl : Bool) (length c : ℕ) → leb length (c + 1) ≡ r
    → Steps
    (sample_line length s (record {
      polarity = p;
      filter = on;
      any_change = any;
      low_to_high = lh;
      high_to_low = hl;
      settled = f;
      count = c;
    }))
    s (counts s f on r) c
unfolding sample_line
steps true true false r p any lh hl length c e = (refl, refl)
steps true true true r p any lh hl length c e = (refl, refl)
steps false false false r p any lh hl length c e = (refl, refl)
steps false false true r p any lh hl length c e = (refl, refl)
steps true false false r p any lh hl length c e = (refl, refl)
steps false true false r p any lh hl length c e = (refl, refl)
steps true false true true p any lh hl length c e = (rw e refl, rw e refl)
steps true false true false p any lh hl length c e = (rw e refl, rw e refl)
steps false true true true p any lh hl length c e = (rw e refl, rw e refl)
steps false true true false p any lh hl length c e = (rw e refl, rw e refl)

-- the lines that count on
pub record Counts (words : List ℕ) (length : ℕ) (s n : Row) : Type 0 where
  pub at : (i : ℕ) → i < 128
      → row_at n i ≡ counts (row_at s i) (line_at words 0 i) (line_at words 2 i) (leb length (count_at words i + 1))

module _ {words : List ℕ} {s f on differs wait : Row} (hf : RowOf words 0 f) (hd : Joins flip s f differs)
    (hon : RowOf words 2 on) (hw : Joins ◌&&◌ differs on wait) where
  waiting : (i : ℕ) → i < 128 → row_at wait i ≡ waits (row_at s i) (line_at words 0 i) (line_at words 2 i)
  waiting i h = hw.at i ∙ ap₂ ◌&&◌ (hd.at i ∙ ap (flip (row_at s i)) (hf.at i h)) (hon.at i h)

  pub counts_some : {length : ℕ} {r settles n : Row} → Reached words length r → Joins ◌&&◌ wait r settles → Joins flip wait settles n
      → Counts words length s n
  counts_some hr hs hn =
      record { at = λ i h. hn.at i ∙ ap₂ flip (waiting i h) (hs.at i ∙ ap₂ ◌&&◌ (waiting i h) (hr.at i h)) }

  -- where none waits
  pub counts_none : (length : ℕ) → is_empty wait ≡ true → Counts words length s none
  counts_none length e =
      record {
        at = λ i h.
            no_line i ∙ ap (λ (w : Bool). flip w (w && leb length (count_at words i + 1))) (sym (empty_line wait e i) ∙ waiting i h);
      }

-- the row that is sampled is then the row that settles
pub takes_all : (s : Row) → Joins flip s none s
takes_all s = record { at = λ i. ap (flip (row_at s i)) (sym (no_line i)) }

abbrev new : List ℕ → ℕ → Row → ℕ → InputLine
new words length s i = sample_line length (row_at s i) (input_at words i)

module _ {words o0 out : List ℕ} {length : ℕ} {s n f' : Row} (hn : Counts words length s n) (hf : Joins flip s n f')
    (l0 : Lined o0 (row_set words 0 f')) (lc : Lined out (counted_at o0 n)) where
  step : (i : ℕ) → i < 128 → Steps (new words length s i) (row_at s i) (row_at n i) (count_at words i)
  unfolding input_at
  step i h =
      let r = leb length (count_at words i + 1) in
      rw (hn.at i h)
      (steps (row_at s i) (line_at words 0 i) (line_at words 2 i) r (line_at words 1 i) (line_at words 3 i) (line_at words 4 i)
      (line_at words 5 i) length (count_at words i) refl)

  -- the settled bits are not among the counts
  same_count : (i : ℕ) → i < 128 → count_at o0 i ≡ count_at words i
  unfolding row_set
  same_count i h =
      gather_cong 8 (λ b. line_at o0 (12 + b) i) (λ b. line_at words (12 + b) i)
      (λ b l. l0.lines (12 + b) i (omega arith) h
      ∙ ap (λ (t : Bool). cond t (row_at f' i) (line_at words (12 + b) i)) (ne_eqb (12 + b) 0 (λ e. omega (arith, e))))

  by_row : (a i : ℕ) (t u : Bool) → eqb a 0 ≡ t → ltb a 12 ≡ u → i < 128
      → cond u (cond t (row_at f' i) (line_at words a i)) (bit_at (cond (row_at n i) (count_at words i + 1) 0) (a - 12))
      ≡ cond t (new words length s i).settled (cond u (line_at words a i) (bit_at (new words length s i).count (a - 12)))
  by_row a i true true et eu h = hf.at i ∙ (step i h).0
  by_row a i true false et eu h = absurd (omega (arith, eqb-true a 0 et, ltb-false a 12 eu))
  by_row a i false true et eu h = refl
  by_row a i false false et eu h = ap (λ (c : ℕ). bit_at c (a - 12)) (step i h).1

  pub settles : Lined out (settled_at words length s)
  unfolding row_set
  settles =
      record {
        count = lc.count;
        lines = λ a i ha h.
            lc.lines a i ha h
            ∙ ap₂ (λ (x : Bool) (c : ℕ). cond (ltb a 12) x (bit_at (cond (row_at n i) (c + 1) 0) (a - 12))) (l0.lines a i ha h)
            (same_count i h)
            ∙ by_row a i (eqb a 0) (ltb a 12) refl refl h;
      }

-- ---- the machine after a sample, from its settled bit and its count

-- a sample keeps the settings
settings : (t u v s : Bool) (m : InputLine) (n : ℕ) → ◌≡◌ {A = InputLine}
    (settle
    (cond t (settle s 0 m) (cond u (settle m.settled 0 m) (cond v (settle s 0 m) (settle m.settled n m)))).settled
    (cond t (settle s 0 m) (cond u (settle m.settled 0 m) (cond v (settle s 0 m) (settle m.settled n m)))).count m)
    (cond t (settle s 0 m) (cond u (settle m.settled 0 m) (cond v (settle s 0 m) (settle m.settled n m))))
settings true u v s m n = refl
settings false true v s m n = refl
settings false false true s m n = refl
settings false false false s m n = refl

same_settings : (length : ℕ) (s : Bool) (m : InputLine)
    → settle (sample_line length s m).settled (sample_line length s m).count m ≡ sample_line length s m
unfolding sample_line
same_settings length s m =
    settings (not m.filter) (beq s m.settled) (leb length (m.count + 1)) s m (m.count + 1)

-- and leaves a count of eight bits
low_count : (length : ℕ) (t u v s : Bool) (m : InputLine) (n : ℕ) → length < 256 → leb length n ≡ v
    → (cond t (settle s 0 m) (cond u (settle m.settled 0 m) (cond v (settle s 0 m) (settle m.settled n m)))).count < 256
low_count length true u v s m n h e = omega arith
low_count length false true v s m n h e = omega arith
low_count length false false true s m n h e = omega arith
low_count length false false false s m n h e = omega (arith, leb-false length n e)

count_small : (length : ℕ) (s : Bool) (m : InputLine) → length < 256 → (sample_line length s m).count < 256
unfolding sample_line
count_small length s m h =
    low_count length (not m.filter) (beq s m.settled) (leb length (m.count + 1)) s m (m.count + 1) h refl

module _ (words : List ℕ) (length : ℕ) (s : Row) (small : length < 256) where
  -- the count that its rows give
  count_of : (i : ℕ) → gather 8 (λ b. settled_at words length s (12 + b) i) ≡ (new words length s i).count
  count_of i =
      let m = new words length s i in
      gather_cong 8 (λ b. settled_at words length s (12 + b) i) (bit_at m.count)
      (λ b l.
      ap₂ (λ (t u : Bool). cond t m.settled (cond u (line_at words (12 + b) i) (bit_at m.count (12 + b - 12))))
      (ne_eqb (12 + b) 0 (λ e. omega (arith, e))) (le-ltb (12 + b) 12 (omega arith))
      ∙ ap (bit_at m.count) (omega arith))
      ∙ gather_bits 8 m.count (count_small length (row_at s i) (input_at words i) small)

  pub samples : {out : List ℕ} {before after polarity any lh hl changed reads direction either edges : Row}
      → Lined out (settled_at words length s) → RowOf out 0 after → RowOf words 0 before → Joins flip before after changed
      → RowOf words 1 polarity → Joins flip after polarity reads
      → RowOf words 4 lh → RowOf words 5 hl → Picks reads lh hl direction
      → RowOf words 3 any → Joins ◌||◌ any direction either → Joins ◌&&◌ changed either edges
      → Sampled words length s edges out
  unfolding input_at output_at edge
  samples {out} o ha hf hc hp hr hl hh hd hn he hx =
      record {
        inputs = λ i h.
            input_of_lem out i (λ a. settled_at words length s a i) (λ a ha. o.lines a i ha h)
            ∙ ap (λ (n : ℕ). settle (new words length s i).settled n (input_at words i)) (count_of i)
            ∙ same_settings length (row_at s i) (input_at words i);
        outputs = λ i h. output_of_lem out i (λ a. settled_at words length s a i) (λ a ha. o.lines a i ha h);
        edges = λ i h.
            rw (
              hx.at i,
              he.at i,
              hd.at i,
              hr.at i,
              hc.at i,
              hf.at i h,
              hp.at i h,
              hl.at i h,
              hh.at i h,
              hn.at i h,
              ha.at i h,
              o.lines 0 i (omega arith) h,
            )
            (ap
            (λ (p : Bool). flip (line_at words 0 i) (new words length s i).settled &&
            (line_at words 3 i || cond (flip (new words length s i).settled p) (line_at words 4 i) (line_at words 5 i)))
            (ap (λ (m : InputLine). m.polarity) (same_settings length (row_at s i) (input_at words i))));
      }
