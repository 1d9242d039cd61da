-- An edit as the stores that it makes in a layer's slice, in the order in which they are made.
use Rattle.std.specs.Prelude.{◌≡◌, Bool, cond, ◌&&◌, List, [], ◌∷◌, ◌++◌, ℕ, ◌+◌, ◌-◌, ◌*◌, ◌≤◌, ◌<◌, max, length, take, drop, replicate, leb, ltb, eqb}
use Rattle.std.proofs.Math.Seq.{paste}
use Rattle.order.specs.Lists.{count}
use Rattle.splice.specs.declared.Splice.{Splice}
use Rattle.splice.specs.Splice.{between, begins, fresh, resumes}
use Rattle.enter.specs.declared.Move.{Move}
use Rattle.enter.specs.declared.Move.TheVariants.{Entries as entries, Both as both, Number as number}
use Rattle.enter.specs.Move.{number_at, count_after}
use Rattle.edit.specs.OneMove.{OneMove}

-- a store: these numbers, from `at` on
pub record Store : Type 0 where
  pub at : ℕ
  pub numbers : List ℕ

-- a list after a store, and after several, the first first
abbrev pub stored : List ℕ → Store → List ℕ
stored xs s = paste xs s.at s.numbers (length s.numbers)

abbrev pub all_stored : List ℕ → List Store → List ℕ
all_stored xs [] = xs
all_stored xs (s ∷ ss) = all_stored (stored xs s) ss

-- number n is among those that a store writes
abbrev pub covers : ℕ → Store → Bool
covers n s = leb s.at n && ltb n (s.at + length s.numbers)

-- The stores of a splice of m entries: what stands behind it; zeros where numbers are freed; what comes.
abbrev pub tail_store : ℕ → ℕ → Splice → List ℕ → Store
tail_store c m p xs = record { at = begins c p + length (fresh c p); numbers = between (resumes c p) (m * (c + 2)) xs }

abbrev pub zero_store : ℕ → ℕ → Move → Store
zero_store c m p =
    (let stop = count_after m p * (c + 2) in record { at = stop; numbers = replicate (m * (c + 2) - stop) 0 })

abbrev pub new_store : ℕ → Splice → Store
new_store c p = record { at = begins c p; numbers = fresh c p }

-- a part that stood from `from` on and keeps its place is not stored
abbrev pub unless_still : ℕ → Store → List Store
unless_still from s = cond (eqb s.at from) [] (s ∷ [])

-- Of two splices: what stands between them, and behind both; a part that would be written over is stored first.
abbrev pub between_store : ℕ → Splice → Splice → List ℕ → Store
between_store c p q xs = record { at = begins c p + length (fresh c p); numbers = between (resumes c p) (begins c q) xs }

abbrev pub second_store : ℕ → Splice → Splice → Store
second_store c p q = record { at = begins c p + length (fresh c p) + (begins c q - resumes c p); numbers = fresh c q }

abbrev pub behind_store : ℕ → ℕ → Splice → Splice → List ℕ → Store
behind_store c m p q xs =
    record { at = (second_store c p q).at + length (fresh c q); numbers = between (resumes c q) (m * (c + 2)) xs }

abbrev pub part_stores : ℕ → ℕ → Splice → Splice → List ℕ → List Store
part_stores c m p q xs =
    (let near = unless_still (resumes c p) (between_store c p q xs) in
    let far = unless_still (resumes c q) (behind_store c m p q xs) in
    cond (ltb (resumes c p) (begins c p + length (fresh c p))) (far ++ near) (near ++ far))

-- the stores of a move: those of a splice, those of two, or one value
abbrev pub stores_of : ℕ → ℕ → Move → List ℕ → List Store
stores_of c m (entries p) xs =
    unless_still (resumes c p) (tail_store c m p xs) ++ (zero_store c m (entries p) ∷ new_store c p ∷ [])
stores_of c m (both p q) xs =
    part_stores c m p q xs ++ (zero_store c m (both p q) ∷ new_store c p ∷ second_store c p q ∷ [])
stores_of c m (number x) xs = record { at = number_at c x.i x.j; numbers = x.v ∷ [] } ∷ []

-- the first number that a move may store
abbrev pub place_of : ℕ → Move → ℕ
place_of c (entries p) = begins c p
place_of c (both p q) = begins c p
place_of c (number x) = number_at c x.i x.j

-- A move, which leaves k entries and the slice `new`, in stores: each number is stored at most once, none in front of the
-- move's place, none behind the entries that there were and are; those numbers are as they were.
pub record InStores (c m : ℕ) (raw : List ℕ) (p : Move) (k : ℕ) (new : List ℕ) : Type 0 where
  pub one : OneMove c m raw p k new
  pub slice : new ≡ all_stored raw (stores_of c m p raw)
  pub once : (n : ℕ) → count (covers n) (stores_of c m p raw) ≤ 1
  pub none_in_front : (n : ℕ) → n < place_of c p → count (covers n) (stores_of c m p raw) ≡ 0
  pub none_behind : (n : ℕ) → max m k * (c + 2) ≤ n → count (covers n) (stores_of c m p raw) ≡ 0
  pub front_kept : take (place_of c p) new ≡ take (place_of c p) raw
  pub behind_kept : drop (max m k * (c + 2)) new ≡ drop (max m k * (c + 2)) raw
