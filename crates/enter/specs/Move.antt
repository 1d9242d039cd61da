-- What an edit does to a layer's slice: one splice, two, or one value set.
use Rattle.std.specs.Prelude.{Bool, true, false, None, List, ◌++◌, ℕ, ◌+◌, ◌-◌, ◌*◌, ◌≤◌, ◌<◌, take, set}
use Rattle.store.specs.Numbers.{arrivals}
use Rattle.splice.specs.declared.Splice.{Splice}
use Rattle.splice.specs.Splice.{between, begins, fresh, resumes, laid, spliced_two, BothWithin, count_two}
use Rattle.enter.specs.declared.Move.{Move}
use Rattle.enter.specs.declared.Move.TheVariants.{Entries as entries, Both as both, Number as number}

-- the slice of m entries after one splice
unfoldable pub spliced : ℕ → ℕ → Splice → List ℕ → List ℕ
spliced c m p xs =
    laid (take (begins c p) xs ++ (fresh c p ++ between (resumes c p) (m * (c + 2)) xs)) (m * (c + 2)) xs

-- no splice, behind m entries
abbrev pub none_at : ℕ → Splice
none_at m = record { i = m; gone = 0; comes = None }

-- where value j of entry i stands
abbrev pub number_at : ℕ → ℕ → ℕ → ℕ
number_at c i j = i * (c + 2) + (2 + j)

-- of two splices by which something goes and comes again, the one that comes first, if it stands in front
abbrev pub in_key_order : Bool → Splice → Splice → Move
in_key_order true out into = both into out
in_key_order false out into = both out into

-- it keeps within m entries of c columns; the slice after it; how many entries there are then
abbrev pub Within : ℕ → ℕ → Move → Type 0
Within c m (entries p) = p.i + p.gone ≤ m
Within c m (both p q) = BothWithin m p q
Within c m (number x) = (x.i < m) × (x.j < c)

abbrev pub entered : ℕ → ℕ → Move → List ℕ → List ℕ
entered c m (entries p) xs = spliced c m p xs
entered c m (both p q) xs = spliced_two c m p q xs
entered c m (number x) xs = set xs (number_at c x.i x.j) x.v

abbrev pub count_after : ℕ → Move → ℕ
count_after m (entries p) = m + arrivals p.comes - p.gone
count_after m (both p q) = count_two m p q
count_after m (number x) = m
