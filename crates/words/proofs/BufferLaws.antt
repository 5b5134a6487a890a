-- Items put into a buffer behind others.
-- Assumes nothing.
use mathlib.Core.Path.{◌≡◌, refl, ap, ◌∙◌}
use mathlib.Core.List.{List, [], ◌∷◌, ◌++◌, append-nil, append_assoc}
use Prim.Native.Nat.{ℕ, zero, suc, ◌+◌, ◌-◌, ◌≤◌}
use native.Mathlib.Omega.{arith}
use lib.ListN.{length, take, length-append}
use lib.Seq.{take_all, take-nil}
use Rattle.words.specs.Buffers.{put}

module _ {A : Type 0} where
  -- what there is room for of two lists, one behind the other
  take_both : (k : ℕ) (xs ys : List A) → take k xs ++ take (k - length (take k xs)) ys ≡ take k (xs ++ ys)
  take_both zero xs ys = refl
  take_both (suc k) [] ys = let all : suc k - 0 ≡ suc k = omega arith in ap (λ n. take n ys) all
  take_both (suc k) (x ∷ xs) ys =
      let left : suc k - suc (length (take k xs)) ≡ k - length (take k xs) = omega arith in
      ap (λ n. x ∷ take k xs ++ take n ys) left ∙ ap (λ (l : List A). x ∷ l) (take_both k xs ys)

  module _ (n : ℕ) (held : List A) where
    pub put_none : put n held [] ≡ held
    unfolding put
    put_none = ap (λ (l : List A). held ++ l) (take-nil (n - length held)) ∙ append-nil held

    pub put_then : (xs ys : List A) → put n (put n held xs) ys ≡ put n held (xs ++ ys)
    unfolding put
    put_then xs ys =
        let k = n - length held in
        let left : n - length (held ++ take k xs) ≡ k - length (take k xs) = omega (arith, length-append held (take k xs)) in
        append_assoc held (take k xs) (take (n - length (held ++ take k xs)) ys)
        ∙ ap (λ m. held ++ (take k xs ++ take m ys)) left
        ∙ ap (λ (l : List A). held ++ l) (take_both k xs ys)

    -- where there is room, all of it stands behind what was held
    pub put_whole : (xs : List A) → length held + length xs ≤ n → put n held xs ≡ held ++ xs
    unfolding put
    put_whole xs h = ap (λ (l : List A). held ++ l) (take_all (n - length held) xs (omega arith))

-- what is put one after the other, and what is put where nothing is left
pub ruleset puts = (put_none, put_then)
