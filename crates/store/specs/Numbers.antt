-- The numbers of an entry, and what comes.
use Rattle.std.specs.Prelude.{List, [], ◌∷◌, ℕ, take, Option, Some, None}
use Rattle.words.specs.declared.Entry.{Entry}

-- the numbers of an entry in a layer of c columns
abbrev pub entry_numbers : ℕ → Entry → List ℕ
entry_numbers c e = e.pos ∷ e.kind ∷ take c e.vals

-- what comes, in numbers: nothing, or those of an entry; and how many entries that is
abbrev pub coming : ℕ → Option Entry → List ℕ
coming c None = []
coming c (Some e) = entry_numbers c e

abbrev pub arrivals : Option Entry → ℕ
arrivals None = 0
arrivals (Some e) = 1
