-- Any two outcomes that the fit check's contract allows are equal: the contract is the one that it is proved to meet.
-- Assumes nothing.
use mathlib.Core.Path.{sym, ◌∙◌}
use Rattle.order.proofs.Unique.{Unique}
use Rattle.fit.proofs.ready.Kinds as Ready-call
use Rattle.fit.proofs.ready.Reads as ready_promise
use Rattle.fit.proofs.fit.Kinds as fit_call
use Rattle.fit.proofs.fit.Reads as fit_promise

pub ready_unique : Unique 2 Ready-call.ps Ready-call.r ready_promise.Post
ready_unique κs lent x y s t p q = p ∙ sym q

pub fit_unique : Unique 2 fit_call.ps fit_call.r fit_promise.Post
fit_unique κs lent x y s t p q = p ∙ sym q
