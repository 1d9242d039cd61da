-- A layer's slice after splices: some of its entries replaced by one entry or by none, at two places, what stands behind them
-- moved, zeros where numbers were freed, the rest as it was.
use Rattle.words.specs.declared.Cause.TheVariants.{NoRoom}
use Rattle.words.specs.Answer.{Answer}
use Rattle.std.specs.Prelude.{List, [], ◌∷◌, ◌++◌, ℕ, ◌+◌, ◌-◌, ◌*◌, ◌≤◌, max, length, take, drop, replicate, ltb, Ok, Err}
use Rattle.model.specs.Raw.{room}
use Rattle.model.specs.Refusals.{first_met, refuse}
use Rattle.store.specs.Numbers.{coming, arrivals}
use Rattle.splice.specs.declared.Splice.{Splice}

-- the numbers from `from` up to `end`
abbrev pub between : ℕ → ℕ → List ℕ → List ℕ
between from end xs = take (end - from) (drop from xs)

-- A splice in numbers: where it begins, what comes there, and where that begins which stays behind it.
abbrev pub begins : ℕ → Splice → ℕ
begins c p = p.i * (c + 2)

abbrev pub fresh : ℕ → Splice → List ℕ
fresh c p = coming c p.comes

abbrev pub resumes : ℕ → Splice → ℕ
resumes c p = (p.i + p.gone) * (c + 2)

-- these numbers at the front of a slice, where `old` numbers stood before: zeros where now fewer do, the rest as it was
unfoldable pub laid : List ℕ → ℕ → List ℕ → List ℕ
laid ys old xs = ys ++ (replicate (old - length ys) 0 ++ drop (max old (length ys)) xs)

-- the slice of m entries after two splices, of which the second stands behind the first
unfoldable pub spliced_two : ℕ → ℕ → Splice → Splice → List ℕ → List ℕ
spliced_two c m p q xs =
    laid (take (begins c p) xs ++ (fresh c p ++ (between (resumes c p) (begins c q) xs
    ++ (fresh c q ++ between (resumes c q) (m * (c + 2)) xs)))) (m * (c + 2)) xs

-- two splices of m entries, the second behind the first
pub record BothWithin (m : ℕ) (p q : Splice) : Type 0 where
  pub first : p.i + p.gone ≤ q.i
  pub second : q.i + q.gone ≤ m

-- how many entries of m there are after them
abbrev pub count_two : ℕ → Splice → Splice → ℕ
count_two m p q = m + (arrivals p.comes + arrivals q.comes) - (p.gone + q.gone)

-- k entries, refused for want of room in a slice of len numbers
abbrev pub room_answer : ℕ → ℕ → ℕ → Answer
room_answer c len k = first_met Err (refuse NoRoom 0 (ltb (room c len) k) ∷ []) (Ok k)

-- a slice after a call that is done or refused
abbrev pub if_done : Answer → List ℕ → List ℕ → List ℕ
if_done (Ok k) new old = new
if_done (Err x) new old = old
