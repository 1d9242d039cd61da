-- A stored layer as entries and as edits, and what its entry number i does. The edits from entry number i on are `drop i L`.
use Rattle.std.specs.Prelude.{List, [], ◌∷◌, ℕ, ◌+◌, ◌-◌, ◌*◌, Option, Some, None}
use Rattle.words.specs.declared.Entry.{Entry}
use Rattle.model.specs.Row.{key}
use Rattle.model.specs.Cell.{to}
use Rattle.model.specs.Layer.{at, add, strike, change, Layer}
use Rattle.model.specs.Raw.{entry_at, entries_at, layer_of}
use Rattle.entry.specs.declared.slice.Stored.{Stored}
use Rattle.entry.specs.declared.Sight.{Sight}
use Rattle.entry.specs.declared.Sight.TheVariants.{Add, Strike, Change}

abbrev pub edits : Stored → Layer
edits l = layer_of l.c l.m l.numbers.now

-- entry number i stands from i times c + 2 on
abbrev pub entry_of : Stored → ℕ → Entry
entry_of l i = entry_at l.c (i * (l.c + 2)) l.numbers.now

-- the entries from number i on
abbrev pub entries_from : Stored → ℕ → List Entry
entries_from l i = entries_at l.c (l.m - i) (i * (l.c + 2)) l.numbers.now

abbrev pub look_of : Layer → Option Sight
look_of [] = None
look_of (at s (add r) ∷ L) = Some (Add s (key r))
look_of (at s (strike k) ∷ L) = Some (Strike s k)
look_of (at s (change j (to v)) ∷ L) = Some (Change s j v)
