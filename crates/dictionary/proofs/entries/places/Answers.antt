-- `entries::places` meets its contract, arm by arm.
-- Assumes nothing.
use mathlib.Core.Path.{◌≡◌, refl}
use native.Mathlib.Omega.{arith}
use Rattle.dictionary.proofs.entries.places.Goals as goal

pub returns-in-0 : goal.returns-in-0
returns-in-0 c = rw c.in-0.is refl

pub returns-in-1 : goal.returns-in-1
returns-in-1 c = rw c.in-1.is refl

pub returns-in-2 : goal.returns-in-2
returns-in-2 c = rw c.in-2.is refl

pub returns-in-3 : goal.returns-in-3
returns-in-3 c = rw c.in-3.is refl

pub returns-in-4 : goal.returns-in-4
returns-in-4 c = rw c.in-4.is refl

pub returns-in-5 : goal.returns-in-5
returns-in-5 c = rw c.in-5.is refl

pub returns-in-6 : goal.returns-in-6
returns-in-6 c = rw c.in-6.is refl

pub returns-in-7 : goal.returns-in-7
returns-in-7 c = rw c.in-7.is refl

pub returns-in-8 : goal.returns-in-8
returns-in-8 c = rw c.in-8.is refl

pub returns-in-9 : goal.returns-in-9
returns-in-9 c = rw c.in-9.is refl

pub returns-in-10 : goal.returns-in-10
returns-in-10 c = rw c.in-10.is refl

pub returns-in-11 : goal.returns-in-11
returns-in-11 c = rw c.in-11.is refl

pub returns-in-12 : goal.returns-in-12
returns-in-12 c = rw c.in-12.is refl

pub returns-in-13 : goal.returns-in-13
returns-in-13 c = rw c.in-13.is refl

pub returns-in-14 : goal.returns-in-14
returns-in-14 c = rw c.in-14.is refl

pub returns-in_default : goal.returns-in_default
returns-in_default c = let last : c.args.n ≡ 15 = omega arith in rw last refl
