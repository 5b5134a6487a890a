-- The layout of eight bytes, read and written a byte at a time.
-- Assumes nothing.
use mathlib.Core.Path.{◌≡◌, refl, ap, ◌∙◌}
use mathlib.Core.List.{List, [], ◌∷◌, ◌++◌}
use Prim.Native.Nat.{ℕ, zero, suc, ◌/◌, ◌%◌, ◌^◌, ◌≤◌}
use native.Mathlib.Omega.{arith}
use lib.ListN.{length, get_or, take, drop}
use Rattle.profile.specs.Server.{reply_data, reply_frame}
use Rattle.server_frames.specs.Layout.{headed, filled}

-- four bytes, each by itself
four : {a b c d p q r s : ℕ} → a ≡ p → b ≡ q → c ≡ r → d ≡ s → ◌≡◌ {A = List ℕ} (a ∷ b ∷ c ∷ d ∷ []) (p ∷ q ∷ r ∷ s ∷ [])
four e f g h = λ t. e t ∷ f t ∷ g t ∷ h t ∷ []

-- the four bytes of what so many bytes hold of a value
abbrev digits : ℕ → List ℕ
digits h = h % 256 ∷ h / 256 % 256 ∷ h / 65536 % 256 ∷ h / 16777216 ∷ []

-- are its data bytes, and "spare reply bytes are 0"
data_bytes : (size v : ℕ) → size ≤ 4 → digits (v % 256 ^ size) ≡ reply_data size v
data_bytes zero v h = four (omega arith) (omega arith) (omega arith) (omega arith)
data_bytes (suc zero) v h = four (omega arith) (omega arith) (omega arith) (omega arith)
data_bytes (suc (suc zero)) v h = four (omega arith) (omega arith) (omega arith) (omega arith)
data_bytes (suc (suc (suc zero))) v h = four (omega arith) (omega arith) (omega arith) (omega arith)
data_bytes (suc (suc (suc (suc zero)))) v h = four (omega arith) (omega arith) (omega arith) (omega arith)
data_bytes (suc (suc (suc (suc (suc n))))) v h = absurd (omega arith)

-- both halves of a reply
stored : (first h : ℕ) (f l : List ℕ) → length l ≡ 8
    → filled h (headed first f l) ≡ (first ∷ get_or f 1 0 ∷ get_or f 2 0 ∷ get_or f 3 0 ∷ []) ++ digits h
stored first h f (a ∷ b ∷ c ∷ d ∷ i ∷ j ∷ k ∷ l ∷ []) p = refl
stored first h f [] p = absurd (omega (arith, p))
stored first h f (a ∷ []) p = absurd (omega (arith, p))
stored first h f (a ∷ b ∷ []) p = absurd (omega (arith, p))
stored first h f (a ∷ b ∷ c ∷ []) p = absurd (omega (arith, p))
stored first h f (a ∷ b ∷ c ∷ d ∷ []) p = absurd (omega (arith, p))
stored first h f (a ∷ b ∷ c ∷ d ∷ i ∷ []) p = absurd (omega (arith, p))
stored first h f (a ∷ b ∷ c ∷ d ∷ i ∷ j ∷ []) p = absurd (omega (arith, p))
stored first h f (a ∷ b ∷ c ∷ d ∷ i ∷ j ∷ k ∷ []) p = absurd (omega (arith, p))
stored first h f (a ∷ b ∷ c ∷ d ∷ i ∷ j ∷ k ∷ l ∷ m ∷ n) p = absurd (omega (arith, p))

-- the request's second to fourth bytes
repeated : (f : List ℕ) → length f ≡ 8 → get_or f 1 0 ∷ get_or f 2 0 ∷ get_or f 3 0 ∷ [] ≡ take 3 (drop 1 f)
repeated [] h = absurd (omega (arith, h))
repeated (a ∷ []) h = absurd (omega (arith, h))
repeated (a ∷ b ∷ []) h = absurd (omega (arith, h))
repeated (a ∷ b ∷ c ∷ []) h = absurd (omega (arith, h))
repeated (a ∷ b ∷ c ∷ d ∷ f) h = refl

-- eight bytes so stored are the reply's
pub reply_stored : (first size v h : ℕ) (f l : List ℕ) → length f ≡ 8 → length l ≡ 8 → size ≤ 4 → h ≡ v % 256 ^ size
    → filled h (headed first f l) ≡ reply_frame first f size v
reply_stored first size v h f l p q s e =
    stored first h f l q
    ∙ (λ t. (first ∷ repeated f p t) ++ (ap digits e ∙ data_bytes size v s) t)
