-- Any two outcomes that the check's contract allows are equal.
-- Assumes nothing.
use mathlib.Core.Path.{sym, ◌∙◌}
use Rattle.order.proofs.Unique.{Unique}
use Rattle.probe.proofs.check.Kinds as check_kinds
use Rattle.probe.proofs.check.Reads as check_contract

pub check_unique : Unique 1 check_kinds.ps check_kinds.r check_contract.Post
check_unique κs lent x y s t p q = p ∙ sym q
