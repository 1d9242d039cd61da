-- Any two outcomes that the form check's contract allows are equal: the contract is the one that it is proved to meet.
-- Assumes nothing.
use mathlib.Core.Path.{sym, ◌∙◌}
use Rattle.order.proofs.Unique.{Unique}
use Rattle.form.proofs.check.Kinds as check_call
use Rattle.form.proofs.check.Reads as check_promise

pub check_unique : Unique 1 check_call.ps check_call.r check_promise.Post
check_unique κs lent x y s t p q = p ∙ sym q
