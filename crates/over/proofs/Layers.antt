-- A layer with the numbers of a stack's is that layer: two proofs that it is held are one.
-- Assumes nothing.
use native.Mathlib.Bridge.{le_prop}
use mathlib.Core.Path.{◌≡◌, ap}
use mathlib.Core.List.{List}
use Prim.Native.Nat.{ℕ}
use Rattle.model.specs.Raw.{Held}
use Rattle.entry.specs.declared.slice.Stored.{Stored}
use Rattle.over.specs.declared.stack.Stack.{Stack}
use Rattle.over.specs.Stack.{lower_of, upper_of}

held_prop : (c m : ℕ) (xs : List ℕ) → IsProp (Held c m xs)
held_prop c m xs = hlevel le_prop

module _ (s : Stack) where
  abbrev lower_with : Held s.c s.mr s.r.now → Stored
  lower_with h = record { c = s.c; m = s.mr; numbers = s.r; held = h }

  abbrev upper_with : Held s.c s.mw s.w.now → Stored
  upper_with h = record { c = s.c; m = s.mw; numbers = s.w; held = h }

  pub lower_is : (h : Held s.c s.mr s.r.now) → lower_with h ≡ lower_of s
  lower_is h = ap lower_with (held_prop s.c s.mr s.r.now h s.lower_held)

  pub upper_is : (h : Held s.c s.mw s.w.now) → upper_with h ≡ upper_of s
  upper_is h = ap upper_with (held_prop s.c s.mw s.w.now h s.upper_held)
