-- An entry of each kind.
use Rattle.std.specs.Prelude.{List, ◌∷◌, ℕ, replicate}
use Rattle.words.specs.declared.Entry.{Entry}

-- the kind numbers
abbrev pub ADD : ℕ
ADD = 65535

abbrev pub STRIKE : ℕ
STRIKE = 65534

-- an entry of each kind, of eight values
abbrev pub add_entry : ℕ → List ℕ → Entry
add_entry s row = record { pos = s; kind = ADD; vals = row }

abbrev pub strike_entry : ℕ → ℕ → Entry
strike_entry s k = record { pos = s; kind = STRIKE; vals = k ∷ replicate 7 0 }

abbrev pub change_entry : ℕ → ℕ → ℕ → Entry
change_entry s j v = record { pos = s; kind = j; vals = v ∷ replicate 7 0 }
