-- Any two outcomes that a call's contract allows are equal: the contract is the one that the call is proved to meet.
-- Assumes nothing.
use mathlib.Core.Path.{sym, ◌∙◌}
use Rattle.order.proofs.Unique.{Unique}
use Rattle.position.proofs.shift.Kinds as shift_call
use Rattle.position.proofs.shift.Reads as shift_promise
use Rattle.position.proofs.row.Kinds as row_call
use Rattle.position.proofs.row.Reads as row_promise

pub shift_unique : Unique 1 shift_call.ps shift_call.r shift_promise.Post
shift_unique κs lent x y s t p q = p ∙ sym q

pub row_unique : Unique 1 row_call.ps row_call.r row_promise.Post
row_unique κs lent x y s t p q = p ∙ sym q
