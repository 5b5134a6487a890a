-- Elements stored in an array, and what stays of it.
-- Assumes nothing.
use mathlib.Core.Path.{◌≡◌, refl, ap₂, ◌∙◌, sym}
use mathlib.Core.Bool.{Bool, true, false}
use mathlib.Core.List.{List}
use Prim.Native.Nat.{ℕ, ◌+◌, ◌*◌, ◌≤◌, ◌<◌}
use native.Mathlib.Omega.{arith}
use lib.Dec.{ltb}
use borrow.Author.Tests.{ltb-true, ltb-false}
use lib.ListN.{length, get_or, set, replicate, length-set, length-replicate, get_or-replicate}
use lib.Seq.{get_or-set_same, get_or-set_other, ext_get_or}
use Rattle.channels.specs.View.{sources_of, Outside, Zeroed}

-- ---- what stays

module _ {A : Type 0} {a b : ℕ} {d : A} {xs : List A} where
  pub outside_none : Outside a b d xs xs
  outside_none = record { len = refl; low = λ k h. refl; high = λ k h. refl }

  pub outside_set : {ys : List A} (k : ℕ) (v : A) → a ≤ k → k < b → Outside a b d xs ys → Outside a b d xs (set ys k v)
  outside_set {ys} k v from to o =
      record {
        len = length-set ys k v ∙ o.len;
        low = λ j h. get_or-set_other ys k j v d (λ (q : j ≡ k). omega arith) ∙ o.low j h;
        high = λ j h. get_or-set_other ys k j v d (λ (q : j ≡ k). omega arith) ∙ o.high j h;
      }

-- ---- two elements stored

module _ {A : Type 0} (xs : List A) (p q : ℕ) (a b d : A) where
  pub two_first : (p ≡ q → ⊥) → p < length xs → get_or (set (set xs p a) q b) p d ≡ a
  two_first ne h = get_or-set_other (set xs p a) q p b d ne ∙ get_or-set_same xs p a d h

  pub two_second : q < length xs → get_or (set (set xs p a) q b) q d ≡ b
  two_second h = get_or-set_same (set xs p a) q b d (rw (length-set xs p a) h)

  pub two_other : (k : ℕ) → (k ≡ p → ⊥) → (k ≡ q → ⊥) → get_or (set (set xs p a) q b) k d ≡ get_or xs k d
  two_other k np nq = get_or-set_other (set xs p a) q k b d nq ∙ get_or-set_other xs p k a d np

-- places of one column differ where the channels do
pub elsewhere : (b i n : ℕ) → (i ≡ n → ⊥) → b + i ≡ b + n → ⊥
elsewhere b i n ne e = ne (omega arith)

-- where octets 19 and 20 stay, the source bits do
pub sources_kept : (octets octets' : List ℕ) → ((k : ℕ) → 19 ≤ k → k < 21 → get_or octets' k 0 ≡ get_or octets k 0)
    → sources_of octets' ≡ sources_of octets
sources_kept octets octets' h = ap₂ (λ (a b : ℕ). a + 256 * b) (h 19 (omega arith) (omega arith)) (h 20 (omega arith) (omega arith))

-- ---- elements that became 0

-- one run of them after another
pub zeroed_both : {a b c : ℕ} {xs ys zs : List ℕ} → a ≤ b → b ≤ c → Zeroed a b xs ys → Zeroed b c ys zs → Zeroed a c xs zs
zeroed_both {a} {b} {c} {xs} {ys} {zs} h l p q =
    record {
      zeros = λ k f t. by k (ltb k b) refl f t;
      kept =
          record {
            len = q.kept.len ∙ p.kept.len;
            low = λ k t. q.kept.low k (omega arith) ∙ p.kept.low k t;
            high = λ k t. q.kept.high k t ∙ p.kept.high k (omega arith);
          };
    }
  where
    by : (k : ℕ) (t : Bool) → ltb k b ≡ t → a ≤ k → k < c → get_or zs k 0 ≡ 0
    by k true e f t = let in-first = ltb-true k b e in q.kept.low k in-first ∙ p.zeros k f in-first
    by k false e f t = q.zeros k (ltb-false k b e) t

-- all of an array
pub zeroed_all : {n : ℕ} {xs ys : List ℕ} → length xs ≡ n → Zeroed 0 n xs ys → ys ≡ replicate n 0
zeroed_all {n} {xs} {ys} long z =
    ext_get_or 0 ys (replicate n 0) (z.kept.len ∙ long ∙ sym (length-replicate n 0))
    (λ k h. z.zeros k (omega arith) (short k h) ∙ sym (get_or-replicate n k 0 0 (short k h)))
  where
    short : (k : ℕ) → k < length ys → k < n
    short k h = omega (arith, h, z.kept.len, long)
