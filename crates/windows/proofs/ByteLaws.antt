-- Sixteen bytes as a row, and a row as sixteen bytes.
-- Assumes nothing.
use mathlib.Core.Path.{◌≡◌, refl, sym, ap, ap₂, ◌∙◌}
use mathlib.Core.Bool.{Bool, true, false, cond}
use mathlib.Core.List.{List, ◌∷◌, ◌++◌}
use Prim.Native.Nat.{ℕ, zero, suc, ◌+◌, ◌*◌, ◌/◌, ◌%◌, ◌^◌, ◌≤◌, ◌<◌}
use native.Mathlib.Nat.{div-one, mod-lt, pow-suc, zero-lt-suc}
use native.Mathlib.Omega.{arith}
use lib.Dec.{ltb}
use lib.ListN.{length, get_or, take, drop}
use lib.Seq.{get_or-take, get_or-drop}
use lib.Pow.{pow-add}
use borrow.Author.Tests.{ltb-true, ltb-false}
use Rattle.std.specs.Int.{w64, byte_at, bytes_low_first, to_le_bytes, from_le_bytes}
use Rattle.std.proofs.lemmas.Nat.{le_bytes_8}
use Rattle.profile.specs.Bits.{bit_at, gather}
use Rattle.profile.specs.Bytes.{bytes, list_from, line_bit}
use Rattle.profile.proofs.BitLaws.{bit_shr, bit_mod, gather_bit}
use Rattle.profile.proofs.ListLaws.{list_from_at}
use Rattle.windows.specs.declared.Row.{Row}
use Rattle.windows.specs.View.{row_at}
use Rattle.windows.specs.Promises.{Loaded}
use Rattle.windows.proofs.WindowLaws.{from_bits}

-- ---- a word as eight bytes, and eight bytes as a word

powers : (j : ℕ) → 256 ^ j ≡ 2 ^ (8 * j)
powers zero = refl
powers (suc j) =
    let next : 8 * suc j ≡ 8 * j + 8 = omega arith in
    rw (pow-suc 256 j, powers j, next, pow-add 2 (8 * j) 8) refl

-- a byte of a number, by its place and by its bits
byte_place : (n j : ℕ) → byte_at j n ≡ n / 2 ^ (8 * j) % 256
byte_place n zero = ap (λ (x : ℕ). x % 256) (sym (div-one n))
byte_place n (suc j) = ap (λ (p : ℕ). n / p % 256) (powers (suc j))

byte_bits : (n j : ℕ) → byte_at j n ≡ gather 8 (λ b. bit_at n (8 * j + b))
byte_bits n j =
    byte_place n j
    ∙ from_bits 8 _ (λ b. bit_at n (8 * j + b)) (mod-lt _ (zero-lt-suc 255)) (λ b h. bit_mod _ 8 b h ∙ bit_shr n (8 * j) b)

bytes_from : (n j k : ℕ) → bytes_low_first j k n ≡ list_from k j (λ j. gather 8 (λ b. bit_at n (8 * j + b)))
bytes_from n j zero = refl
bytes_from n j (suc k) = ap₂ {C = List ℕ} (λ (x : ℕ) (xs : List ℕ). x ∷ xs) (byte_bits n j) (bytes_from n (suc j) k)

pub word_bytes : (n : ℕ) → to_le_bytes w64 n ≡ bytes 8 (bit_at n)
word_bytes n = bytes_from n 0 8

-- line i of eight bytes that hold the bits f
line_of : (f : ℕ → Bool) (i : ℕ) → i < 64 → line_bit (bytes 8 f) i ≡ f i
unfolding line_bit
line_of f i h =
    ap (λ (x : ℕ). bit_at x (i % 8)) (list_from_at 8 0 (λ j. gather 8 (λ b. f (8 * j + b))) (i / 8) 0 (omega arith))
    ∙ gather_bit 8 (λ b. f (8 * (0 + i / 8) + b)) (i % 8) (omega arith) ∙ ap f (omega arith)

pub bytes_word : (bs : List ℕ) {n : ℕ} → length bs ≡ 8 → ((i : ℕ) → get_or bs i 0 < 256) → n < 2 ^ 64
    → n ≡ from_le_bytes w64 bs → n ≡ gather 64 (line_bit bs)
bytes_word bs {n} long small fits e =
    let is : bytes 8 (bit_at n) ≡ bs = sym (word_bytes n) ∙ le_bytes_8 bs n long small e in
    from_bits 64 n (line_bit bs) fits (λ i h. sym (line_of (bit_at n) i h) ∙ ap (λ (xs : List ℕ). line_bit xs i) is)

-- ---- two words as a row

-- a line of either half of the bytes
low_line : (bs : List ℕ) (i : ℕ) → i < 64 → line_bit (take 8 bs) i ≡ line_bit bs i
unfolding line_bit
low_line bs i h = ap (λ (x : ℕ). bit_at x (i % 8)) (get_or-take 8 bs (i / 8) 0 (omega arith))

high_line : (bs : List ℕ) (i : ℕ) → line_bit (drop 8 bs) i ≡ line_bit bs (64 + i)
unfolding line_bit
high_line bs i = ap₂ (λ (x k : ℕ). bit_at x k) (get_or-drop 8 bs (i / 8) 0 ∙ ap (λ (k : ℕ). get_or bs k 0) (omega arith)) (omega arith)

load_by : (bs : List ℕ) (low high i : ℕ) (t : Bool) → ltb i 64 ≡ t → i < 128
    → low ≡ gather 64 (line_bit (take 8 bs)) → high ≡ gather 64 (line_bit (drop 8 bs))
    → cond t (bit_at low (i % 64)) (bit_at high (i % 64)) ≡ line_bit bs i
load_by bs low high i true e h el eh =
    let l : i < 64 = ltb-true i 64 e in
    ap (λ (x : ℕ). bit_at x (i % 64)) el ∙ gather_bit 64 (line_bit (take 8 bs)) (i % 64) (omega arith)
    ∙ low_line bs (i % 64) (omega arith) ∙ ap (line_bit bs) (omega arith)
load_by bs low high i false e h el eh =
    let l : 64 ≤ i = ltb-false i 64 e in
    ap (λ (x : ℕ). bit_at x (i % 64)) eh ∙ gather_bit 64 (line_bit (drop 8 bs)) (i % 64) (omega arith)
    ∙ high_line bs (i % 64) ∙ ap (line_bit bs) (omega arith)

pub loaded : (bs : List ℕ) (low high : ℕ) → low ≡ gather 64 (line_bit (take 8 bs)) → high ≡ gather 64 (line_bit (drop 8 bs))
    → Loaded bs (record { low = low; high = high })
unfolding row_at
loaded bs low high el eh = record { at = λ i h. load_by bs low high i (ltb i 64) refl h el eh }

-- ---- a row as two words

pub halves : (r : Row) → bytes 8 (bit_at r.low) ++ bytes 8 (bit_at r.high) ≡ bytes 16 (row_at r)
unfolding row_at
halves r = refl
