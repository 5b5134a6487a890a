-- What the functions on rows and windows promise.
-- Assumes nothing.
use Rattle.std.specs.Prelude.{◌≡◌, Bool, false, not, cond, ◌&&◌, List, ℕ, ◌*◌, ◌/◌, ◌≤◌, ◌<◌, eqb, ltb, leb, length}
use Rattle.profile.specs.Bits.{bit_at}
use Rattle.profile.specs.Bytes.{line_bit}
use Rattle.profile.specs.Entries.{inside, bit_of}
use Rattle.windows.specs.declared.Row.{Row}
use Rattle.windows.specs.View.{line_at, row_at}

-- a width of a window divides 64, and a value of it fits 32 bits
pub record Width (w : ℕ) : Type 0 where
  pub divides : w * (64 / w) ≡ 64
  pub narrow : w ≤ 32

-- the window (w, s) of row a is one of the device
pub record Covers (a w s : ℕ) : Type 0 where
  pub row : a < 20
  pub width : Width w
  pub first : 1 ≤ s
  pub last : w * s ≤ 128

-- twenty rows, and line i of row a' is f a' i
pub record Lined (words : List ℕ) (f : ℕ → ℕ → Bool) : Type 0 where
  pub count : length words ≡ 40
  pub lines : (a i : ℕ) → a < 20 → i < 128 → line_at words a i ≡ f a i

-- line i of row a' after v is written through the window (w, s) of row a
unfoldable pub written : List ℕ → ℕ → ℕ → ℕ → ℕ → ℕ → ℕ → Bool
written words a w s v a' i = cond (eqb a' a && inside w s i) (bit_at v (bit_of w s i)) (line_at words a' i)

-- the same where the line of row m is 1
unfoldable pub masked : List ℕ → ℕ → ℕ → ℕ → ℕ → ℕ → ℕ → ℕ → Bool
masked words a m w s v a' i = cond (eqb a' a && inside w s i && line_at words m i) (bit_at v (bit_of w s i)) (line_at words a' i)

-- line i of row a' after row a is set
unfoldable pub row_set : List ℕ → ℕ → Row → ℕ → ℕ → Bool
row_set words a r a' i = cond (eqb a' a) (row_at r i) (line_at words a' i)

-- line i of row a' after the rows from `from` up to `to` became 0, the last left out
unfoldable pub cleared : List ℕ → ℕ → ℕ → ℕ → ℕ → Bool
cleared words from to a' i = cond (leb from a' && ltb a' to) false (line_at words a' i)

-- r is row a
pub record RowOf (words : List ℕ) (a : ℕ) (r : Row) : Type 0 where
  pub at : (i : ℕ) → i < 128 → row_at r i ≡ line_at words a i

-- r is x and y, joined line by line
pub record Joins (f : Bool → Bool → Bool) (x y r : Row) : Type 0 where
  pub at : (i : ℕ) → row_at r i ≡ f (row_at x i) (row_at y i)

-- r is x, inverted line by line
pub record Inverts (x r : Row) : Type 0 where
  pub at : (i : ℕ) → row_at r i ≡ not (row_at x i)

-- r is a where c is 1, else b
pub record Picks (c a b r : Row) : Type 0 where
  pub at : (i : ℕ) → row_at r i ≡ cond (row_at c i) (row_at a i) (row_at b i)

-- r is the row that sixteen bytes hold
pub record Loaded (bs : List ℕ) (r : Row) : Type 0 where
  pub at : (i : ℕ) → i < 128 → row_at r i ≡ line_bit bs i
