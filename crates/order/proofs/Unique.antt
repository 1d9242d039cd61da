-- A call's contract, as it is proved to meet it, that allows one answer only.
-- Assumes nothing.
use Prim.Native.Nat.{ℕ}
use mathlib.Core.Path.{◌≡◌}
use mathlib.Core.List.{List}
use contract.Lifetimes.{Lfts}
use denote.Triple.Clauses.{AtExit}
use borrow.Fn.Kinds.{ParamKind, ResultKind, Out, Dens, res_t, ended_of}

-- over the lifetimes, the arguments, the answer and what is lent at exit
abbrev pub Unique : (n : ℕ) (ps : List (ParamKind n)) (k : ResultKind n) → Out n ps k → Type 0
Unique n ps k promise =
    (κs : Lfts n) (lent : Dens κs ps) (x y : (res_t k κs).Denot) (s t : AtExit (ended_of n ps k) κs)
    → promise κs lent x s → promise κs lent y t → x ≡ y
