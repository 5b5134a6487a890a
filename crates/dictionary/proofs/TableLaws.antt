-- The table of digital lines: no index stands at two places, and the lookup by a key finds the place of an index.
-- Assumes nothing.
use mathlib.Core.Path.{◌≡◌, refl, sym, ap, ◌∙◌, subst}
use mathlib.Core.Bool.{Bool, true, false, ◌&&◌}
use mathlib.Core.List.{List, [], ◌∷◌}
use Prim.Native.Nat.{ℕ, zero, suc, ◌+◌, ◌*◌, ◌/◌, ◌%◌, ◌^◌, ◌<◌, suc-le-suc}
use native.Mathlib.Nat.{add-zero, zero-add, add-suc, suc-add, le_of_suc-le-suc, not-suc-le-zero, zero-lt-suc, mod-lt}
use native.Mathlib.Omega.{arith}
use lib.Dec.{T, eqb, ltb, eqb→eq, ltb→lt}
use lib.ListN.{length, get_or, take, drop}
use lib.Bits.{bit_and, and_mask}
use borrow.Author.Tests.{ne_eqb, eqb-true, eqb-false}
use Rattle.profile.specs.Bytes.{list_from}
use Rattle.dictionary.specs.Lookup.{key_of, place_word}
use Rattle.profile.specs.Entries.{table, place}
use Rattle.profile.proofs.ListLaws.{list_from_at}

-- ---- a rule at each entry of a list, by one test that antt computes

both_left : (a b : Bool) → T (a && b) → T a
both_left true b t = tt
both_left false b t = t

both_right : (a b : Bool) → T (a && b) → T b
both_right true b t = t
both_right false b t = absurd t

-- the test f passes at each entry of the list and its place, counted from i
abbrev pub every : (ℕ → ℕ → Bool) → ℕ → List ℕ → Bool
every f i [] = true
every f i (x ∷ xs) = f i x && every f (suc i) xs

from : (f : ℕ → ℕ → Bool) (xs : List ℕ) (i : ℕ) → T (every f i xs) → (k : ℕ) → k < length xs → T (f (i + k) (get_or xs k 0))
from f [] i t k h = absurd (not-suc-le-zero h)
from f (x ∷ xs) i t zero h = subst (λ (m : ℕ). T (f m x)) (sym (add-zero i)) (both_left (f i x) (every f (suc i) xs) t)
from f (x ∷ xs) i t (suc k) h =
    subst (λ (m : ℕ). T (f m (get_or xs k 0))) (suc-add i k ∙ sym (add-suc i k))
    (from f xs (suc i) (both_right (f i x) (every f (suc i) xs) t) k (le_of_suc-le-suc h))

pub each : (f : ℕ → ℕ → Bool) (xs : List ℕ) → T (every f 0 xs) → (k : ℕ) → k < length xs → T (f k (get_or xs k 0))
each f xs t k h = subst (λ (m : ℕ). T (f m (get_or xs k 0))) (zero-add k) (from f xs 0 t k h)

-- ---- the table

-- in rows of four, as the code has it
abbrev rows_of : ℕ → List ℕ → List (List ℕ)
rows_of zero xs = []
rows_of (suc n) xs = take 4 xs ∷ rows_of n (drop 4 xs)

abbrev pub rows : List (List ℕ)
rows = rows_of 11 table

-- the index x of place p stands there in the rows, and is found there
abbrev in_rows : ℕ → ℕ → Bool
in_rows p x = eqb (get_or (get_or rows (p / 4) []) (p % 4) 0) x

abbrev found_at : ℕ → ℕ → Bool
found_at p x = eqb (place table x) p

right : (p : ℕ) → p < 44 → T (in_rows p (get_or table p 0) && found_at p (get_or table p 0))
right = each (λ p x. in_rows p x && found_at p x) table tt

pub row_entry : (p : ℕ) → p < 44 → get_or (get_or rows (p / 4) []) (p % 4) 0 ≡ get_or table p 0
row_entry p h =
    eqb→eq (get_or (get_or rows (p / 4) []) (p % 4) 0) (get_or table p 0)
    (both_left (in_rows p (get_or table p 0)) (found_at p (get_or table p 0)) (right p h))

pub place_table : (p : ℕ) → p < 44 → place table (get_or table p 0) ≡ p
place_table p h =
    eqb→eq (place table (get_or table p 0)) p
    (both_right (in_rows p (get_or table p 0)) (found_at p (get_or table p 0)) (right p h))

-- so no index stands twice
pub table_once : (p q : ℕ) → p < 44 → q < 44 → get_or table p 0 ≡ get_or table q 0 → p ≡ q
table_once p q hp hq e = sym (place_table p hp) ∙ ap (place table) e ∙ place_table q hq

-- ---- the lookup by a key

place_later : (x y : ℕ) (ys : List ℕ) → (x ≡ y → ⊥) → place (y ∷ ys) x ≡ suc (place ys x)
place_later x y ys e = ap (λ (t : Bool). elim t [ true ↦ 0 | false ↦ suc (place ys x) ]) (ne_eqb x y e)

-- an index stands at its place, or nowhere
data Stands (xs : List ℕ) (x : ℕ) : Type 0 where
  there : (p : ℕ) → p < length xs → x ≡ get_or xs p 0 → Stands xs x
  nowhere : place xs x ≡ length xs → Stands xs x

next_stands : (x y : ℕ) (ys : List ℕ) → (x ≡ y → ⊥) → Stands ys x → Stands (y ∷ ys) x
next_stands x y ys ne (there p h e) = there (suc p) (suc-le-suc h) e
next_stands x y ys ne (nowhere e) = nowhere (place_later x y ys ne ∙ ap suc e)

stands_by : (x y : ℕ) (ys : List ℕ) (t : Bool) → eqb x y ≡ t → Stands ys x → Stands (y ∷ ys) x
stands_by x y ys true e s = there 0 (zero-lt-suc (length ys)) (eqb-true x y e)
stands_by x y ys false e s = next_stands x y ys (eqb-false x y e) s

stands : (xs : List ℕ) (x : ℕ) → Stands xs x
stands [] x = nowhere refl
stands (y ∷ ys) x = stands_by x y ys (eqb x y) refl (stands ys x)

-- the place that the words have for a key
abbrev pub hint : ℕ → ℕ
hint k = place_word (k / 8) / 2 ^ (8 * (k % 8)) % 256

small : (k : ℕ) → k < 128 → T (ltb (hint k) 44)
small k h = subst (λ (n : ℕ). T (ltb (hint n) 44)) (list_from_at 128 0 (λ n. n) k 0 h ∙ zero-add k)
    (each (λ i x. ltb (hint x) 44) (list_from 128 0 (λ n. n)) tt k h)

hint_small : (x : ℕ) → hint (key_of x) < 44
hint_small x = ltb→lt (hint (key_of x)) 44 (small (key_of x) (mod-lt (5 * x + x / 16) (zero-lt-suc 127)))

hint_right : (p : ℕ) → p < 44 → hint (key_of (get_or table p 0)) ≡ p
hint_right p h = eqb→eq (hint (key_of (get_or table p 0))) p (each (λ i x. eqb (hint (key_of x)) i) table tt p h)

-- the hint by shifts and masks, as the code has it: n is the index x as a number, word has the place of its key, p is that place
pub hint_shifted : (x n word p : ℕ) → n ≡ x → word ≡ place_word (bit_and (5 * n + n / 16) 127 / 8)
    → p ≡ bit_and (word / 2 ^ (8 * bit_and (bit_and (5 * n + n / 16) 127) 7)) 255 → p ≡ hint (key_of x)
hint_shifted x n word p en ew ep =
    rw (ep, ew, en, and_mask _ 7, and_mask _ 3, and_mask _ 8) refl

-- the index that the place points at decides
module _ (x p : ℕ) (is : p ≡ hint (key_of x)) where
  pub below : p < 44
  below = rw is (hint_small x)

  pub row_below : p / 4 < 11
  row_below = omega (arith, below)

  abbrev pub Points : Type 0
  Points = x ≡ get_or (get_or rows (p / 4) []) (bit_and p 3) 0

  pub pointed : Points → p ≡ place table x
  pointed e =
      sym (ap (place table) (rw (and_mask p 2) at e ∙ row_entry p below) ∙ place_table p below)

  missed_by : (Points → ⊥) → Stands table x → 44 ≡ place table x
  missed_by ne (there q h e) =
      let same : p ≡ q = is ∙ ap (λ (y : ℕ). hint (key_of y)) e ∙ hint_right q h in
      absurd (ne (rw (and_mask p 2) (e ∙ sym (row_entry q h) ∙ ap (λ (n : ℕ). get_or (get_or rows (n / 4) []) (n % 4) 0) (sym same))))
  missed_by ne (nowhere e) = sym e

  pub missed : (Points → ⊥) → 44 ≡ place table x
  missed ne = missed_by ne (stands table x)
