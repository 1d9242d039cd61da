-- Any two outcomes that a view's contract allows are equal: its numbers and their place, and of the part its name.
-- `Post` is the contract as the call is proved to meet it; κs are its lifetimes, a its arguments, s what is lent at its end.
-- Assumes nothing.
use mathlib.Core.Path.{◌≡◌, sym, ap, ◌∙◌}
use mathlib.Core.List.{List}
use Prim.Native.Nat.{ℕ}
use lib.ListN.{length}
use contract.Lifetimes.{Lfts}
use denote.Ref.{Bor}
use denote.Triple.Clauses.{AtExit}
use borrow.Fn.Kinds.{Dens, ended_of}
use Rattle.model.specs.Read.{Part, whole_base, buffer_front, empty_base}
use Rattle.model.specs.Calls.{view_part}
use Rattle.std.specs.Prelude.{Option}
use Rattle.view.specs.declared.Seen.{Seen}
use Rattle.view.specs.View.{InPlace}
use Rattle.view.proofs.view.Kinds as view_kinds
use Rattle.view.proofs.view.Reads as view_contract
use Rattle.view.proofs.view_part.Kinds as part_kinds
use Rattle.view.proofs.view_part.Reads as part_contract

-- of the view: its numbers, and where they lie
same_place : (base out : Bor (List ℕ)) (p : Part) (r r' : Bor (List ℕ)) → InPlace base out p r → InPlace base out p r'
    → r.ref_ptr ≡ r'.ref_ptr
same_place base out whole_base r r' h h' = ap (λ x. x.ref_ptr) (h ∙ sym h')
same_place base out (buffer_front k) r r' h h' = h ∙ sym h'
same_place base out empty_base r r' h h' = h ∙ sym h'

module _ (κs : Lfts 2) (a : Dens κs view_kinds.ps) (s s' : AtExit (ended_of 2 view_kinds.ps view_kinds.r) κs) where
  pub view_unique : (r r' : Bor (List ℕ)) → view_contract.Post κs a r s → view_contract.Post κs a r' s'
      → (r.now ≡ r'.now) × (r.ref_ptr ≡ r'.ref_ptr)
  view_unique r r' p q =
      let base = a.1.1.1.0 in
      let out = a.1.1.1.1.1.0 in
      let part = view_part a.0 a.1.0 a.1.1.0.now base.now a.1.1.1.1.0 (length out.now) in
      (p.numbers ∙ sym q.numbers, same_place base out part r r' p.place q.place)

module _ (κs : Lfts 2) (a : Dens κs part_kinds.ps) (s s' : AtExit (ended_of 2 part_kinds.ps part_kinds.r) κs) where
  pub part_unique : (r r' : Option Seen) → part_contract.Post κs a r s → part_contract.Post κs a r' s' → r ≡ r'
  part_unique r r' p q = p ∙ sym q
