-- The counts of a layer are small, and so is its shift: no layer has more than 512 entries.
-- Assumes nothing.
use Prim.Native.Nat.{ℕ, ◌≤◌}
use native.Mathlib.Omega.{arith}
use mathlib.Core.Bool.{Bool}
use mathlib.Core.List.{List}
use lib.IntN.{nat_abs}
use borrow.Author.Tests.{leb-true}
use Rattle.order.specs.Lists.{count}
use Rattle.order.proofs.Counts.{count_le}
use Rattle.model.specs.Layer.{Edit}
use Rattle.model.specs.Raw.{Held, layer_of}
use Rattle.model.specs.Position.{shift}
use Rattle.theory.proofs.Raw.{layer_length}
use Rattle.theory.proofs.Position.{shift_bounded}
use Rattle.entry.specs.declared.slice.Stored.{Stored}
use Rattle.entry.specs.Look.{edits}

pub count_small : (l : Stored) (p : Edit → Bool) → count p (edits l) ≤ 512
count_small l p = omega (arith, count_le p (edits l), layer_length l.c l.m l.numbers.now, l.held.entries)

pub shift_small : (c m : ℕ) (xs : List ℕ) (s : ℕ) → Held c m xs → nat_abs (shift (layer_of c m xs) s) ≤ 512
shift_small c m xs s h =
    leb-true (nat_abs (shift (layer_of c m xs) s)) 512
    (shift_bounded (layer_of c m xs) s (omega (arith, layer_length c m xs, h.entries)))
