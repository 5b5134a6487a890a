-- What a device holds fits the bytes of its entries: by the types of its arrays, and the entry count of a mapping after any list of calls.
-- Assumes nothing.
use mathlib.Core.Path.{◌≡◌, refl}
use mathlib.Core.Bool.{Bool, true, false}
use Prim.Native.Nat.{ℕ, ◌+◌, ◌^◌, ◌≤◌, ◌<◌}
use native.Mathlib.Omega.{arith}
use lib.Dec.{eqb}
use mir.Syntax.{w32}
use mir.Facts.{Fits-of_z, sfits_widen}
use borrow.Author.Tests.{eqb-true}
use Rattle.profile.specs.Mapping.{read_mapping}
use Rattle.profile.specs.Machines.{mapping}
use Rattle.profile.proofs.EntryRanges.{mapping_size}
use Rattle.profile.proofs.ReadLaws.{Held}
use Rattle.mappings.specs.View.{place_of, mapping_at}
use Rattle.mappings.proofs.ViewLaws.{read_is}
use Rattle.watches.proofs.ViewLaws.{value_is}
use Rattle.device.specs.declared.Device.{Device}
use Rattle.device.specs.View.{machines_of}
use Rattle.device.specs.Promises.{Allowed}

module _ (d : Device) (p : Allowed d) (counted : (m : ℕ) → m < 8 → (machines_of d mapping m).own.count ≤ 8) where
  mapping_fits : (m sub : ℕ) → m < 8 → sub ≤ 8 → read_mapping sub (mapping_at d.store.deltas m) < 256 ^ mapping_size sub
  mapping_fits m sub h k = by (eqb sub 0) refl
    where
      by : (t : Bool) → eqb sub 0 ≡ t → read_mapping sub (mapping_at d.store.deltas m) < 256 ^ mapping_size sub
      by true e = rw (eqb-true sub 0 e, read_is d.store.deltas m 0 (omega arith)) (omega (arith, counted m h))
      by false e = rw (e, read_is d.store.deltas m sub k) (p.each_delta (place_of m sub)).fits

  pub device_held : Held (machines_of d)
  device_held =
      record {
        node = record { behaviour = (p.each_octet 2).fits; filtering = (p.each_octet 21).fits };
        inputs = λ n. record {
          last = (Fits-of_z (p.each_value n)).fits;
          selection = (p.each_octet (3 + n)).fits;
          upper = (Fits-of_z (p.each_limit n)).fits;
          lower = (Fits-of_z (p.each_limit (16 + n))).fits;
          delta = (p.each_delta n).fits;
          negative = (p.each_delta (16 + n)).fits;
          positive = (p.each_delta (32 + n)).fits;
        };
        outputs = λ n. record {
          kept = (Fits-of_z (p.each_value (40 + n))).fits;
          error = (Fits-of_z {w = w32} (sfits_widen tt (p.each_value (32 + n)))).fits;
        };
        mappings = mapping_fits;
        watches = λ n h. rw (value_is d.store.deltas n h) (p.each_delta (120 + n)).fits;
      }
