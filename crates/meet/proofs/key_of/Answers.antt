-- `meet::key_of` meets its contract: an add and a strike have their key, a change has that of its row.
-- Assumes nothing.
use native.Mathlib.Omega.{arith}
use Rattle.meet.proofs.key_of.Goals as goal

pub returns-then-h : goal.returns-then-h
returns-then-h c = rw c.if-h.true

pub offset_bounds-keys-s : goal.offset_bounds-keys-s
offset_bounds-keys-s c = omega (arith, c.requires c.if-h.false)

pub bounds-keys-s : goal.bounds-keys-s
bounds-keys-s c = omega (arith, c.requires c.if-h.false)

pub returns : goal.returns
returns c = rw c.if-h.false
