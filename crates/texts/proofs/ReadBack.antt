-- A printed number or list reads back: the reader's own definitions take its text for it.
-- Assumes nothing.
use mathlib.Core.Path.{◌≡◌, refl, sym, ap, subst, ◌∙◌}
use mathlib.Core.Bool.{Bool, true, false, cond, ◌&&◌, and_assoc}
use mathlib.Core.List.{List, [], ◌∷◌, ◌++◌, map}
use Prim.Native.Nat.{ℕ, zero, suc, ◌+◌, ◌-◌, ◌*◌, ◌/◌, ◌%◌, ◌^◌, ◌≤◌, ◌<◌}
use native.Mathlib.Nat.{pow-zero, pow-suc, mod-lt, div-lt_iff_lt-mul, div-add-mod', lt_of_lt_of_le}
use native.Mathlib.Omega.{arith}
use lib.Dec.{eqb, ltb}
use lib.ListN.{length, get_or, length-append}
use lib.IntN.{ℤ, pos}
use mir.Syntax.{w16}
use mir.Val.{SFits, of_z, to_z}
use mir.Facts.{to_z-of_z, Fits-of_z}
use borrow.Author.Tests.{lt-ltb, le-ltb, ltb-true, ltb-false, ne_eqb}
use Rattle.words.specs.Words.{run, with_byte, pieces_of, without_empty, words_of, is_word}
use Rattle.words.specs.Numbers.{digit_of, all_digits, spelled_on, spelled, no_number, capped, is_number, number_of, short_number}
use Rattle.words.specs.Numbers.{minus, plus, signed_of}
use Rattle.words.specs.Items.{Item, byte_item, number_item, slash, Found, items, missing, with_item, items_of}
use Rattle.texts.specs.Texts.{glyph_of, digits_of, hex_text, long_hex_text, places_of, decimal_text, bits_text, each_text, bytes_text}
use Rattle.texts.specs.Texts.{numbers_text}
use Rattle.words.proofs.NumberLaws.{few_enough, minus_is, plus_is}

-- ---- the digits spell the number

digit_back : (d : ℕ) → d < 16 → digit_of (glyph_of d) ≡ d
unfolding digit_of
digit_back d h = at (ltb d 10) (ltb-true d 10) (ltb-false d 10)
  where
    at : (t : Bool) → (t ≡ true → d < 10) → (t ≡ false → 10 ≤ d) → digit_of (cond t (48 + d) (55 + d)) ≡ d
    at true l g =
        let k : d < 10 = l refl in
        simp (le-ltb (48 + d) 48 (omega arith), lt-ltb (48 + d) 58 (omega arith)) (omega arith)
    at false l g =
        let k : 10 ≤ d = g refl in
        simp (
          le-ltb (55 + d) 48 (omega arith),
          le-ltb (55 + d) 58 (omega arith),
          le-ltb (55 + d) 65 (omega arith),
          lt-ltb (55 + d) 71
              (omega arith),
        ) (omega arith)

spelled_more : (b n : ℕ) (xs ys : List ℕ) → spelled_on b n (xs ++ ys) ≡ spelled_on b (spelled_on b n xs) ys
spelled_more b n [] ys = refl
spelled_more b n (x ∷ xs) ys = spelled_more b (n * b + digit_of x) xs ys

-- the digits of n spell n, in any base up to 16
pub digits_back : (b k n : ℕ) → 0 < b → b ≤ 16 → n < b ^ k → spelled b (digits_of b k n) ≡ n
digits_back b zero n p q h = omega (arith, h, pow-zero b)
digits_back b (suc k) n p q h =
    let small : n % b < b = mod-lt n p in
    let front : spelled b (digits_of b k (n / b)) ≡ n / b = digits_back b k (n / b) p q
    ((div-lt_iff_lt-mul p).1 (subst (λ x. n < x) (pow-suc b k) h)) in
    spelled_more b 0 (digits_of b k (n / b)) (glyph_of (n % b) ∷ [])
    ∙ ap (λ x. x * b + digit_of (glyph_of (n % b))) front
    ∙ ap (λ x. n / b * b + x) (digit_back (n % b) (lt_of_lt_of_le small q))
    ∙ div-add-mod' n b

-- two hexadecimal digits after others
hex_more : (n b : ℕ) → b < 256 → spelled_on 16 n (hex_text b) ≡ n * 256 + b
unfolding hex_text
hex_more n b h =
    ap (λ x. (n * 16 + x) * 16 + digit_of (glyph_of (b % 16))) (digit_back (b / 16 % 16) (omega arith))
    ∙ ap (λ x. (n * 16 + b / 16 % 16) * 16 + x) (digit_back (b % 16) (omega arith))
    ∙ omega arith

-- a byte's two digits spell it
pub hex_back : (b : ℕ) → b < 256 → spelled 16 (hex_text b) ≡ b
hex_back b h = hex_more 0 b h ∙ omega arith

-- the eight digits of an abort code spell it
pub long_hex_back : (n : ℕ) → n < 2 ^ 32 → spelled 16 (long_hex_text n) ≡ n
unfolding long_hex_text hex_text
long_hex_back n h =
    spelled_more 16 0 (hex_text (n / 16777216)) (hex_text (n / 65536 % 256) ++ hex_text (n / 256 % 256) ++ hex_text (n % 256))
    ∙ ap (λ x. spelled_on 16 x (hex_text (n / 65536 % 256) ++ hex_text (n / 256 % 256) ++ hex_text (n % 256)))
    (hex_more 0 (n / 16777216) (omega arith))
    ∙ spelled_more 16 (0 * 256 + n / 16777216) (hex_text (n / 65536 % 256)) (hex_text (n / 256 % 256) ++ hex_text (n % 256))
    ∙ ap (λ x. spelled_on 16 x (hex_text (n / 256 % 256) ++ hex_text (n % 256)))
    (hex_more (0 * 256 + n / 16777216) (n / 65536 % 256) (omega arith))
    ∙ spelled_more 16 ((0 * 256 + n / 16777216) * 256 + n / 65536 % 256) (hex_text (n / 256 % 256)) (hex_text (n % 256))
    ∙ ap (λ x. spelled_on 16 x (hex_text (n % 256)))
    (hex_more ((0 * 256 + n / 16777216) * 256 + n / 65536 % 256) (n / 256 % 256) (omega arith))
    ∙ hex_more (((0 * 256 + n / 16777216) * 256 + n / 65536 % 256) * 256 + n / 256 % 256) (n % 256) (omega arith)
    ∙ omega arith

places_fit : (f n : ℕ) → n < 10 ^ suc f → n < 10 ^ places_of f n
places_fit zero n h = h
places_fit (suc f) n h = at (ltb n 10) (ltb-true n 10)
    (places_fit f (n / 10) ((div-lt_iff_lt-mul (omega arith)).1 (subst (λ x. n < x) (pow-suc 10 (suc f)) h)))
  where
    at : (t : Bool) → (t ≡ true → n < 10) → n / 10 < 10 ^ places_of f (n / 10) → n < 10 ^ cond t 1 (suc (places_of f (n / 10)))
    at true l r = l refl
    at false l r = subst (λ x. n < x) (sym (pow-suc 10 (places_of f (n / 10)))) ((div-lt_iff_lt-mul (omega arith)).0 r)

-- the decimal digits of 64 bits spell the number
pub decimal_back : (n : ℕ) → n < 2 ^ 64 → spelled 10 (decimal_text n) ≡ n
unfolding decimal_text
decimal_back n h = digits_back 10 (places_of 19 n) n (omega arith) (omega arith) (places_fit 19 n (omega (arith, h)))

-- ---- the digits are a number to the reader

all_more : (b : ℕ) (xs ys : List ℕ) → all_digits b (xs ++ ys) ≡ (all_digits b xs && all_digits b ys)
all_more b [] ys = refl
all_more b (x ∷ xs) ys = ap (λ t. ltb (digit_of x) b && t) (all_more b xs ys) ∙ sym
    (and_assoc (ltb (digit_of x) b) (all_digits b xs) (all_digits b ys))

number_some : (b : ℕ) (word : List ℕ) → 1 ≤ length word → is_number b word ≡ all_digits b word
number_some b [] h = absurd (omega (arith, h))
number_some b (x ∷ word) h = refl

pub digits_length : (b k n : ℕ) → length (digits_of b k n) ≡ k
digits_length b zero n = refl
digits_length b (suc k) n = length-append (digits_of b k (n / b)) (glyph_of (n % b) ∷ []) ∙ omega (arith, digits_length b k (n / b))

capped_same : (n : ℕ) → n < no_number → capped n ≡ n
capped_same n h = rw (lt-ltb n no_number h)

module _ (b : ℕ) (p : 0 < b) (q : b ≤ 16) where
  all_digits_lem : (k n : ℕ) → all_digits b (digits_of b k n) ≡ true
  all_digits_lem zero n = refl
  all_digits_lem (suc k) n =
      let small : n % b < b = mod-lt n p in
      all_more b (digits_of b k (n / b)) (glyph_of (n % b) ∷ [])
      ∙ ap (λ t. t && (ltb (digit_of (glyph_of (n % b))) b && true)) (all_digits_lem k (n / b))
      ∙ ap (λ d. ltb d b && true) (digit_back (n % b) (lt_of_lt_of_le small q))
      ∙ ap (λ t. t && true) (lt-ltb (n % b) b small)

  -- one digit or more are a number
  digits_number : (k n : ℕ) → 1 ≤ k → is_number b (digits_of b k n) ≡ true
  digits_number k n h = number_some b (digits_of b k n) (omega (arith, h, digits_length b k n)) ∙ all_digits_lem k n

  -- the digits of n read back as n, in any base up to 16
  pub digits_read : (k n : ℕ) → 1 ≤ k → n < b ^ k → n < no_number → number_of b (digits_of b k n) ≡ n
  unfolding number_of
  digits_read k n h l m =
      ap (λ t. cond t (capped (spelled b (digits_of b k n))) no_number) (digits_number k n h)
      ∙ ap capped (digits_back b k n p q l)
      ∙ capped_same n m

places_some : (f n : ℕ) → 1 ≤ places_of f n
places_some zero n = omega arith
places_some (suc f) n = at (ltb n 10)
  where
    at : (t : Bool) → 1 ≤ cond t 1 (suc (places_of f (n / 10)))
    at true = omega arith
    at false = omega arith

-- a decimal number is a number to the reader
decimal_number : (n : ℕ) → is_number 10 (decimal_text n) ≡ true
unfolding decimal_text
decimal_number n = digits_number 10 (omega arith) (omega arith) (places_of 19 n) n (places_some 19 n)

-- a decimal number of 32 bits reads back
pub decimal_reads : (n : ℕ) → n < no_number → number_of 10 (decimal_text n) ≡ n
unfolding decimal_text
decimal_reads n h = digits_read 10 (omega arith) (omega arith) (places_of 19 n) n (places_some 19 n) (places_fit 19 n (omega (arith, h))) h

-- a byte's two digits read back
pub hex_reads : (b : ℕ) → b < 256 → short_number 2 (hex_text b) ≡ b
unfolding hex_text
hex_reads b h = sym (few_enough 2 (digits_of 16 2 b) b (omega arith)
    (sym (digits_read 16 (omega arith) (omega arith) 2 b (omega arith) (omega (arith, h)) (omega (arith, h)))))

-- ---- a sign in front

-- a digit is not a byte that is none
other_byte : (b x y : ℕ) → b ≤ 16 → digit_of y ≡ 16 → ltb (digit_of x) b ≡ true → x ≡ y → ⊥
other_byte b x y q n d e = omega (arith, q, ltb-true (digit_of x) b d, ap digit_of e, n)

both_true : (s t : Bool) → (s && t) ≡ true → (s ≡ true) × (t ≡ true)
both_true true t e = (refl, e)
both_true false t e = let z : ◌≡◌ {A = ℕ} 0 1 = cc in absurd (omega arith)

-- the first byte of a number is a digit
other_first : (b y : ℕ) (word : List ℕ) → b ≤ 16 → digit_of y ≡ 16 → is_number b word ≡ true → get_or word 0 0 ≡ y → ⊥
other_first b y [] q n h e = let z : ◌≡◌ {A = ℕ} 0 1 = cc in omega arith
other_first b y (x ∷ word) q n h e = other_byte b x y q n (both_true (ltb (digit_of x) b) (all_digits b word) h).0 e

plus_small : (n : ℕ) → n < 32768 → plus n ≡ n
plus_small n h = rw (le-ltb 32767 n (omega arith))

minus_small : (n : ℕ) → 1 ≤ n → n ≤ 32768 → minus n ≡ 65536 - n
minus_small n h k = rw (le-ltb 32768 n k, ne_eqb n 0 (λ e. omega arith))

-- 16 bits read back, with their sign
pub signed_reads : (u : ℕ) → u < 65536 → signed_of (bits_text u) ≡ u
unfolding bits_text digit_of
signed_reads u h = at (ltb u 32768) (ltb-true u 32768) (ltb-false u 32768)
  where
    at : (t : Bool) → (t ≡ true → u < 32768) → (t ≡ false → 32768 ≤ u) → signed_of
        (cond t (decimal_text u) (45 ∷ decimal_text (65536 - u))) ≡ u
    at true l g =
        sym (plus_is (decimal_text u) u (other_first 10 45 (decimal_text u) (omega arith) refl (decimal_number u))
        (sym (ap plus (decimal_reads u (omega (arith, h))) ∙ plus_small u (l refl))))
    at false l g =
        let k : 32768 ≤ u = g refl in
        sym (minus_is (45 ∷ decimal_text (65536 - u)) u refl
        (sym (ap minus (decimal_reads (65536 - u) (omega arith)) ∙ minus_small (65536 - u) (omega arith) (omega arith) ∙ omega arith)))

-- a number of 16 bits reads back
pub number_reads : (z : ℤ) → SFits w16 z → to_z w16 (signed_of (bits_text (of_z w16 z))) ≡ z
number_reads z f = ap (to_z w16) (signed_reads (of_z w16 z) (Fits-of_z f).fits) ∙ to_z-of_z f

-- ---- a list

-- a text is one word, and not `/`
pub record OneWord (text : List ℕ) : Type 0 where
  pub spaceless : run false 32 text ≡ length text
  pub some : 1 ≤ length text
  pub other : is_word text slash ≡ false

digits_spaceless : (b : ℕ) (word : List ℕ) → b ≤ 16 → all_digits b word ≡ true → run false 32 word ≡ length word
unfolding digit_of
digits_spaceless b [] q h = refl
digits_spaceless b (x ∷ word) q h =
    ap (λ t. cond t 0 (suc (run false 32 word)))
    (ne_eqb x 32 (other_byte b x 32 q refl (both_true (ltb (digit_of x) b) (all_digits b word) h).0))
    ∙ ap suc (digits_spaceless b word q (both_true (ltb (digit_of x) b) (all_digits b word) h).1)

number_word : (b : ℕ) (word : List ℕ) → b ≤ 16 → is_number b word ≡ true → OneWord word
unfolding digit_of
number_word b [] q h = let z : ◌≡◌ {A = ℕ} 0 1 = cc in absurd (omega arith)
number_word b (x ∷ word) q h = record {
  spaceless = digits_spaceless b (x ∷ word) q h;
  some = omega arith;
  other = ap (λ t. t && is_word word []) (ne_eqb x 47 (other_byte b x 47 q refl (both_true (ltb (digit_of x) b) (all_digits b word) h).0));
}

bits_word : (u : ℕ) → OneWord (bits_text u)
unfolding bits_text
bits_word u = at (ltb u 32768)
  where
    at : (t : Bool) → OneWord (cond t (decimal_text u) (45 ∷ decimal_text (65536 - u)))
    at true = number_word 10 (decimal_text u) (omega arith) (decimal_number u)
    at false = record {
      spaceless = ap suc (number_word 10 (decimal_text (65536 - u)) (omega arith) (decimal_number (65536 - u))).spaceless;
      some = omega arith;
      other = refl;
    }

-- a word in front of an empty piece
pieces_more : (word line : List ℕ) (ps : List (List ℕ)) → run false 32 word ≡ length word → pieces_of line ≡ [] ∷ ps → pieces_of
    (word ++ line) ≡ word ∷ ps
pieces_more [] line ps s e = e
pieces_more (x ∷ word) line ps s e = at (eqb x 32) s (λ r. pieces_more word line ps r e)
  where
    at : (t : Bool) → cond t 0 (suc (run false 32 word)) ≡ suc (length word) →
        (run false 32 word ≡ length word → pieces_of (word ++ line) ≡ word ∷ ps) →
        cond t ([] ∷ pieces_of (word ++ line)) (with_byte x (pieces_of (word ++ line))) ≡ (x ∷ word) ∷ ps
    at true s r = absurd (omega arith)
    at false s r = ap (with_byte x) (r (omega arith))

word_kept : (word : List ℕ) (ps : List (List ℕ)) → 1 ≤ length word → without_empty (word ∷ ps) ≡ word ∷ without_empty ps
word_kept [] ps h = absurd (omega (arith, h))
word_kept (x ∷ word) ps h = refl

-- a text is a word that reads as x
pub record ReadsAs {A : Type 0} (k : Item A) (text : List ℕ) (x : A) : Type 0 where
  pub word : OneWord text
  pub small : k.number text ≤ k.most
  pub back : k.value (k.number text) ≡ x

-- the text of each element reads as it
abbrev pub EachReads : {A : Type 0} → Item A → (A → List ℕ) → A → List A → Type 0
EachReads k f d xs = (i : ℕ) → i < length xs → ReadsAs k (f (get_or xs i d)) (get_or xs i d)

module _ {A : Type 0} (k : Item A) (f : A → List ℕ) (d : A) where
  pieces_each : (xs : List A) → EachReads k f d xs → pieces_of (each_text (λ (x : A). 32 ∷ f x) xs) ≡ [] ∷ map f xs
  pieces_each [] h = refl
  pieces_each (x ∷ xs) h =
      ap (λ (ps : List (List ℕ)). [] ∷ ps)
      (pieces_more (f x) (each_text (λ (x : A). 32 ∷ f x) xs) (map f xs) (h 0 (omega arith)).word.spaceless
      (pieces_each xs (λ i l. h (suc i) (omega arith))))

  words_kept : (xs : List A) → EachReads k f d xs → without_empty (map f xs) ≡ map f xs
  words_kept [] h = refl
  words_kept (x ∷ xs) h =
      word_kept (f x) (map f xs) (h 0 (omega arith)).word.some
      ∙ ap (λ (ps : List (List ℕ)). f x ∷ ps) (words_kept xs (λ i l. h (suc i) (omega arith)))

  items_of_lem : (xs : List A) → EachReads k f d xs → items_of k (length xs) (map f xs) ≡ items xs []
  items_of_lem [] h = refl
  items_of_lem (x ∷ xs) h =
      let r : ReadsAs k (f x) x = h 0 (omega arith) in
      let rest : Found A = with_item (k.value (k.number (f x))) (items_of k (length xs) (map f xs)) in
      ap (λ t. cond t (items [] (f x ∷ map f xs)) (cond (ltb k.most (k.number (f x))) (missing k.expected) rest)) r.word.other
      ∙ ap (λ t. cond t (missing k.expected) rest) (le-ltb k.most (k.number (f x)) r.small)
      ∙ ap (λ (y : A). with_item y (items_of k (length xs) (map f xs))) r.back
      ∙ ap (with_item x) (items_of_lem xs (λ i l. h (suc i) (omega arith)))

  -- a list whose elements' texts read back, printed with a space in front of each, reads back
  pub items_read : (xs : List A) → EachReads k f d xs → items_of k (length xs) (words_of (each_text (λ (x : A). 32 ∷ f x) xs)) ≡ items xs []
  unfolding words_of
  items_read xs h = ap (λ (ps : List (List ℕ)). items_of k (length xs) (without_empty ps)) (pieces_each xs h) ∙ ap (items_of k (length xs))
      (words_kept xs h) ∙ items_of_lem xs h

-- printed bytes read back
pub bytes_read : (bs : List ℕ) → ((i : ℕ) → i < length bs → get_or bs i 0 < 256) → items_of byte_item (length bs)
    (words_of (bytes_text bs)) ≡ items bs []
unfolding hex_text
bytes_read bs h = items_read byte_item hex_text 0 bs (λ i l. byte (get_or bs i 0) (h i l))
  where
    byte : (b : ℕ) → b < 256 → ReadsAs byte_item (hex_text b) b
    byte b h = record {
      word = number_word 16 (digits_of 16 2 b) (omega arith) (digits_number 16 (omega arith) (omega arith) 2 b (omega arith));
      small = omega (arith, hex_reads b h);
      back = hex_reads b h;
    }

-- printed numbers read back
pub numbers_read : (zs : List ℤ) → ((i : ℕ) → i < length zs → SFits w16 (get_or zs i (pos 0))) → items_of number_item (length zs)
    (words_of (numbers_text zs)) ≡ items zs []
numbers_read zs h = items_read number_item (λ z. bits_text (of_z w16 z)) (pos 0) zs (λ i l. number (get_or zs i (pos 0)) (h i l))
  where
    number : (z : ℤ) → SFits w16 z → ReadsAs number_item (bits_text (of_z w16 z)) z
    number z f = record {
      word = bits_word (of_z w16 z);
      small = omega (arith, signed_reads (of_z w16 z) (Fits-of_z f).fits, (Fits-of_z f).fits);
      back = number_reads z f;
    }
