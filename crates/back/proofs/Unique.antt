-- Any two outcomes that the way back's contract allows are equal: the contract is the one that it is proved to meet.
-- Assumes nothing.
use mathlib.Core.Path.{sym, ◌∙◌}
use Rattle.order.proofs.Unique.{Unique}
use Rattle.back.proofs.back.Kinds as back_call
use Rattle.back.proofs.back.Reads as back_promise

pub back_unique : Unique 1 back_call.ps back_call.r back_promise.Post
back_unique κs lent x y s t p q = p ∙ sym q
