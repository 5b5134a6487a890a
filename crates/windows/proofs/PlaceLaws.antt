-- Where a window lies, as the code finds it: a width divides 64, so that it is a power of two with its trailing zeros as the exponent.
-- Assumes nothing.
use mathlib.Core.Path.{◌≡◌, refl, ap, ap₂, ◌∙◌, subst}
use Prim.Native.Nat.{ℕ, zero, suc, ◌+◌, ◌-◌, ◌*◌, ◌/◌, ◌%◌, ◌^◌, ◌≤◌}
use native.Mathlib.Nat.{add-mul, mul_assoc, mul_left_comm, one-mul, mul-le-mul_right, pow-suc, dvd-mul_right, eq-one_of_dvd-one}
use native.Mathlib.Nat.{lt_of_not-le, le_of_suc-le-suc, not-suc-le-zero, mod-lt, zero-lt-suc}
use native.Mathlib.Omega.{arith}
use lib.Count.{count_trailing_zeros}
use lib.Bits.{bit_and}
use lib.Pow.{pow_mono}
use Rattle.std.specs.Int.{◌∣◌}
use Rattle.profile.specs.Entries.{first_line}
use Rattle.profile.specs.Shifts.{Found, IsExponent, by_division, by_shifts, shl}
use Rattle.profile.proofs.BitLaws.{two_cases}
use Rattle.profile.proofs.ShiftLaws.{shifts_find}
use Rattle.windows.specs.Promises.{Width, Covers}
use Rattle.windows.proofs.WindowLaws.{bounds}

-- 2p by an even factor, and by an odd one: half of it is p by half of the even factor, and of the other one
even_half : (w q p : ℕ) → w % 2 ≡ 0 → w * q ≡ p * 2 → w / 2 * q ≡ p
even_half w q p r e =
    let whole : w * q ≡ 2 * (w / 2 * q) = ap (λ (x : ℕ). x * q) (omega arith) ∙ mul_assoc 2 (w / 2) q in
    omega (arith, whole, e)

odd_half : (w q p : ℕ) → w % 2 ≡ 1 → w * q ≡ p * 2 → w * (q / 2) ≡ p
odd_half w q p r e =
    let parts : w * q ≡ 2 * (w / 2 * q) + q
    = ap (λ (x : ℕ). x * q) (omega arith) ∙ add-mul (2 * (w / 2)) 1 q ∙ ap₂ ◌+◌ (mul_assoc 2 (w / 2) q) (one-mul q)
    in
    let whole : w * q ≡ 2 * (w * (q / 2)) = ap (λ (x : ℕ). w * x) (omega (arith, parts, e)) ∙ mul_left_comm w 2 (q / 2) in
    omega (arith, whole, e)

-- a divisor of 1, and of 2 ^ n
divisor_of_one : (w q : ℕ) → w * q ≡ 1 → w ≡ 1
divisor_of_one w q e = eq-one_of_dvd-one (subst (λ (x : ℕ). w ∣ x) e (dvd-mul_right w q))

power_of : (n k w q : ℕ) → n ≤ k → w * q ≡ 2 ^ n → w ≡ 2 ^ count_trailing_zeros k w
unfolding count_trailing_zeros
power_of zero zero w q h e = divisor_of_one w q e
power_of zero (suc k) w q h e = rw (divisor_of_one w q e) refl
power_of (suc n) zero w q h e = absurd (not-suc-le-zero h)
power_of (suc n) (suc k) w q h e =
    two_cases (λ (r : ℕ). w % 2 ≡ r → w ≡ 2 ^ count_trailing_zeros (suc k) w)
    (λ r.
    let half : w / 2 ≡ 2 ^ count_trailing_zeros k (w / 2)
    = power_of n k (w / 2) q (le_of_suc-le-suc h) (even_half w q (2 ^ n) r (e ∙ pow-suc 2 n))
    in
    rw r (omega (arith, half, pow-suc 2 (count_trailing_zeros k (w / 2)))))
    (λ r. power_of n (suc k) w (q / 2) (omega (arith, h)) (odd_half w q (2 ^ n) r (e ∙ pow-suc 2 n)))
    (w % 2) (mod-lt w (zero-lt-suc 1)) refl

-- ---- the exponent of a covered window's width

abbrev pub exponent : ℕ → ℕ
exponent w = count_trailing_zeros 64 w

is_exponent : {w : ℕ} → Width w → IsExponent (exponent w) w
is_exponent {w} c =
    let power : w ≡ 2 ^ exponent w = power_of 6 64 w (64 / w) (omega arith) c.divides in
    record {
      power = power;
      most = le_of_suc-le-suc (lt_of_not-le (λ h. omega (arith, c.narrow, power, pow_mono {i = 6} {j = exponent w} h)));
    }

found : {row w s : ℕ} → Covers row w s → by_shifts (exponent w) row s ≡ by_division w row s
found {row} {w} {s} c =
    let below : 1 * s ≤ w * s = mul-le-mul_right s (bounds c).some in
    shifts_find w (exponent w) row s (is_exponent c.width) (omega (arith, below, one-mul s, c.last))

pub placed : {row w s : ℕ} → Covers row w s
    → (2 * row + shl (s - 1) (exponent w) / 64 ≡ 2 * row + first_line w s / 64)
    × (bit_and (shl (s - 1) (exponent w)) 63 ≡ first_line w s % 64)
placed c = (ap (λ (f : Found). f.word) (found c), ap (λ (f : Found). f.bit) (found c))
