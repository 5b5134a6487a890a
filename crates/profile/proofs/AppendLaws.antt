-- Lists one after the other, and tests of each of a list.
-- Assumes nothing.
use mathlib.Core.Path.{◌≡◌, refl, ap, ◌∙◌, sym}
use mathlib.Core.Bool.{Bool, true}
use mathlib.Core.List.{List, [], ◌∷◌, ◌++◌}
use Prim.Native.Nat.{ℕ}
use Rattle.profile.specs.Calls.{Call}
use Rattle.profile.specs.Heard.{Machines, fresh_machines, step_all}
use Rattle.profile.specs.Lists.{each, after}
use Rattle.profile.proofs.BoolLaws.{both}
use Rattle.profile.proofs.ListTheorem.{ran, after_ran}

ran_append : (cs ds : List Call) (ms : Machines) → ran ms (cs ++ ds) ≡ ran (ran ms cs) ds
ran_append [] ds ms = refl
ran_append (c ∷ cs) ds ms = ran_append cs ds (step_all c ms)

-- the machines after two lists are those after the first, at the calls of the second
pub after_append : (number : ℕ) (cs ds : List Call) → after number (cs ++ ds) ≡ ran (after number cs) ds
after_append number cs ds =
    family (cs ++ ds) ∙ ran_append cs ds (fresh_machines number) ∙ ap (λ (ms : Machines). ran ms ds) (sym (family cs))
  where
    family : (cs : List Call) → after number cs ≡ ran (fresh_machines number) cs
    family cs = λ t k i. after_ran number cs k i t

-- what each of a list passes, each of its first part passes
pub each_first : {A : Type 0} (p : A → Bool) (xs ys : List A) → each p (xs ++ ys) ≡ true → each p xs ≡ true
each_first p [] ys h = refl
each_first p (x ∷ xs) ys h = let q = both (p x) (each p (xs ++ ys)) h in rw (q.0, each_first p xs ys q.1) refl

-- and what each passes, it passes of every weaker test
pub each_weaker : {A : Type 0} {p q : A → Bool} → ((x : A) → p x ≡ true → q x ≡ true) → (xs : List A) → each p xs ≡ true
    → each q xs ≡ true
each_weaker f [] h = refl
each_weaker {p} {q} f (x ∷ xs) h = let a = both (p x) (each p xs) h in rw (f x a.0, each_weaker f xs a.1) refl
