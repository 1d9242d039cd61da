-- What the pass over a layer asks of its entries: they have their zeros, so that written out they are what they were.
use Rattle.std.specs.Prelude.{◌≡◌, true, ℕ}
use mathlib.Core.List.{List, Memᴰ as Mem}
use Rattle.words.specs.declared.Entry.{Entry}
use Rattle.model.specs.Raw.{entries_of}
use Rattle.model.specs.Form.{zeros}

abbrev pub Zeroed : ℕ → ℕ → List ℕ → Type 0
Zeroed c m xs = (e : Entry) → Mem e (entries_of c m xs) → zeros e ≡ true
