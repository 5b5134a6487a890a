-- What the remark on a masked write says is so: the lines that it names are those whose output filter mask is 0, and the write leaves them.
-- (That no output line moves in fault is `driven_by_fault`.)
-- Assumes nothing.
use Rattle.std.proofs.Common.{◌≡◌, ℕ, zero, suc, ◌+◌, ◌-◌, ◌*◌, ◌^◌, ◌<◌, Bool, true, false, not, List, refl, sym, ap, ◌∙◌, arith}
use native.Mathlib.Nat.{pow-suc, one-le-pow}
use Rattle.profile.specs.Bits.{bit_at, bit, gather}
use Rattle.profile.specs.declared.Home.{Home}
use Rattle.profile.specs.declared.Home.TheVariants.{Window}
use Rattle.profile.specs.Entries.{home_of, first_line}
use Rattle.profile.specs.Calls.{write}
use Rattle.profile.specs.OutputLine.{read_output_line}
use Rattle.profile.specs.Machines.{output_line, step}
use Rattle.profile.specs.Heard.{Machines}
use Rattle.profile.specs.Replies.{read_value}
use Rattle.profile.proofs.BitLaws.{gather_bit}
use Rattle.profile.proofs.ExcludedErrors.{masked_write}
use Rattle.device.specs.Conditions.{masks_at, masks_of}
use Rattle.answers.specs.Remarks.{masked}

-- a bit and its inverse make 1
bit_and_not : (b : Bool) (p : ℕ) → bit (not b) * p + bit b * p ≡ p
bit_and_not true p = omega arith
bit_and_not false p = omega arith

gather_not : (w : ℕ) (f : ℕ → Bool) → gather w (λ b. not (f b)) + gather w f ≡ 2 ^ w - 1
gather_not zero f = refl
gather_not (suc w) f =
    omega (arith, gather_not w f, bit_and_not (f w) (2 ^ w), pow-suc 2 w, one-le-pow w 2 (omega arith))

masked_gather : (w : ℕ) (f : ℕ → Bool) → masked w (gather w f) ≡ gather w (λ b. not (f b))
masked_gather w f = omega (arith, gather_not w f)

module _ (ms : Machines) (index sub row w s b : ℕ) (q : home_of index sub ≡ Window row w s) (h : b < w) where
  -- bit b of the lines called masked is the inverse of the mask of line b of the window
  pub masked_lines : bit_at (masked w (masks_of ms index sub)) b ≡ not (ms output_line (first_line w s + b)).own.mask
  unfolding masks_of read_value read_output_line
  masked_lines =
      let f : ℕ → Bool = λ b. (ms output_line (first_line w s + b)).own.mask in
      ap (λ (e : Home). bit_at (masked w (masks_at ms e)) b) q
      ∙ ap (λ v. bit_at v b) (masked_gather w f)
      ∙ gather_bit w (λ b. not (f b)) b h

-- a line that is called masked is left as it is by the write
pub masked_left : (ms : Machines) (index sub w s b : ℕ) (payload : List ℕ) → home_of index sub ≡ Window 6 w s → b < w
    → bit_at (masked w (masks_of ms index sub)) b ≡ true
    → step output_line (first_line w s + b) (write index sub payload) (ms output_line (first_line w s + b))
    ≡ ms output_line (first_line w s + b)
masked_left ms index sub w s b payload q h named =
    let m = ms output_line (first_line w s + b) in
    let mask = m.own.mask in
    masked_write (first_line w s + b) index sub payload w s m q (closed mask (sym (masked_lines ms index sub 6 w s b q h) ∙ named))
  where
    closed : (t : Bool) → not t ≡ true → t ≡ false
    closed true e = sym e
    closed false e = refl
