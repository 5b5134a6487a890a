-- What holds at one home of entries and at any other holds at every entry.
-- Assumes nothing.
use Prim.Native.Nat.{ℕ}
use Rattle.profile.specs.declared.Home.{Home}
use Rattle.profile.specs.declared.Home.TheVariants.{Constant, Window, InputChannel, OutputChannel, Sources, Device, MappingEntry, WatchEntry}
use Rattle.profile.specs.Entries.{at_window, at_output_channel, at_device, at_mapping, at_watch}

module _ {A : Type 0} (P : A → Type 0) where
  pub window_holds : (f : ℕ → ℕ → ℕ → A) (d : A) → P d → ((row w s : ℕ) → P (f row w s)) → (e : Home) → P (at_window d f e)
  window_holds f d p q (Constant v) = p
  window_holds f d p q (Window row w s) = q row w s
  window_holds f d p q (InputChannel index m) = p
  window_holds f d p q (OutputChannel index m) = p
  window_holds f d p q Sources = p
  window_holds f d p q (Device index) = p
  window_holds f d p q (MappingEntry j sub) = p
  window_holds f d p q (WatchEntry n) = p

  pub output_holds : (f : ℕ → ℕ → A) (d : A) → P d → ((index m : ℕ) → P (f index m)) → (e : Home) → P (at_output_channel d f e)
  output_holds f d p q (Constant v) = p
  output_holds f d p q (Window row w s) = p
  output_holds f d p q (InputChannel index m) = p
  output_holds f d p q (OutputChannel index m) = q index m
  output_holds f d p q Sources = p
  output_holds f d p q (Device index) = p
  output_holds f d p q (MappingEntry j sub) = p
  output_holds f d p q (WatchEntry n) = p

  pub device_holds : (f : ℕ → A) (d : A) → P d → ((index : ℕ) → P (f index)) → (e : Home) → P (at_device d f e)
  device_holds f d p q (Constant v) = p
  device_holds f d p q (Window row w s) = p
  device_holds f d p q (InputChannel index m) = p
  device_holds f d p q (OutputChannel index m) = p
  device_holds f d p q Sources = p
  device_holds f d p q (Device index) = q index
  device_holds f d p q (MappingEntry j sub) = p
  device_holds f d p q (WatchEntry n) = p

  pub mapping_holds : (f : ℕ → ℕ → A) (d : A) → P d → ((m sub : ℕ) → P (f m sub)) → (e : Home) → P (at_mapping d f e)
  mapping_holds f d p q (Constant v) = p
  mapping_holds f d p q (Window row w s) = p
  mapping_holds f d p q (InputChannel index m) = p
  mapping_holds f d p q (OutputChannel index m) = p
  mapping_holds f d p q Sources = p
  mapping_holds f d p q (Device index) = p
  mapping_holds f d p q (MappingEntry j sub) = q j sub
  mapping_holds f d p q (WatchEntry n) = p

  pub watch_holds : (f : ℕ → A) (d : A) → P d → ((n : ℕ) → P (f n)) → (e : Home) → P (at_watch d f e)
  watch_holds f d p q (Constant v) = p
  watch_holds f d p q (Window row w s) = p
  watch_holds f d p q (InputChannel index m) = p
  watch_holds f d p q (OutputChannel index m) = p
  watch_holds f d p q Sources = p
  watch_holds f d p q (Device index) = p
  watch_holds f d p q (MappingEntry j sub) = p
  watch_holds f d p q (WatchEntry n) = q n
