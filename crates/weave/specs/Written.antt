-- What the functions that write know of the slices, and what stands in the third slice after a piece is written.
use Rattle.std.specs.Prelude.{◌≡◌, Bool, true, false, ℕ, ◌+◌, ◌*◌, ◌-◌, ◌≤◌, ◌<◌, length, take, drop, Option, Ok}
use mathlib.Core.List.{List, ◌++◌, Memᴰ as Mem}
use Rattle.model.specs.Cell.{CellEdit}
use Rattle.model.specs.Layer.{change, at, Layer}
use Rattle.model.specs.Raw.{Held, layer_of, flat}
use Rattle.model.specs.Calls.{form_answer}
use Rattle.entry.specs.declared.slice.Stored.{Stored}
use Rattle.entry.specs.Look.{edits}
use Rattle.turn.specs.declared.Place.{Place}
use Rattle.turn.specs.declared.Puts.{Puts}
use Rattle.turn.specs.Turn.{left, Takes}

-- the numbers ys stand from o on, and all else is as it was
pub record Put (ys old : List ℕ) (o : ℕ) (new : List ℕ) : Type 0 where
  pub size : length new ≡ length old
  pub front : take (o + length ys) new ≡ take o old ++ ys
  pub behind : drop (o + length ys) new ≡ drop (o + length ys) old

-- the same where the walk writes; where it does not, all is as it was
pub record PutIf (write : Bool) (ys old : List ℕ) (o : ℕ) (new : List ℕ) : Type 0 where
  pub wrote : write ≡ true → Put ys old o new
  pub kept : write ≡ false → new ≡ old

-- a layer whose changes are of a column of the row, and an entry's number in it
pub record Row (l : Stored) (from : ℕ) (width : ℕ) : Type 0 where
  pub upto : from ≤ l.m
  pub columns : (s j : ℕ) (e : CellEdit) → Mem (at s (change j e)) (edits l) → j < width

-- a layer is in form over so many rows
pub record Formed (c m : ℕ) (xs : List ℕ) : Type 0 where
  pub over : ℕ
  pub rows : ℕ
  pub form : form_answer c over m xs ≡ Ok rows

-- both layers are in form, and a turn leaves edits of theirs, for which there is room where the walk writes
pub record Leaves (write : Bool) (c mR : ℕ) (r : List ℕ) (mW : ℕ) (w : List ℕ) (k : Place) (puts : Option Puts) (len : ℕ) : Type 0 where
  pub lower : Formed c mR r
  pub upper : Formed c mW w
  pub lower_upto : k.i ≤ mR
  pub upper_upto : k.j ≤ mW
  pub few : k.m ≤ 1024
  pub takes : Takes puts (drop k.i (layer_of c mR r)) (drop k.j (layer_of c mW w))
  pub room : write ≡ true
      → (k.m + length (left puts (drop k.i (layer_of c mR r)) (drop k.j (layer_of c mW w)))) * (c + 2) ≤ len

-- the layer M, of m entries, stands at the front of the slice, and behind it what stood there
pub record Woven (c : ℕ) (M : Layer) (m : ℕ) (old new : List ℕ) : Type 0 where
  pub size : length new ≡ length old
  pub entries : length M ≡ m
  pub all : new ≡ flat c M ++ drop (length (flat c M)) old

-- the same where the walk writes; where it does not, M has m entries, and all is as it was
pub record WovenIf (write : Bool) (c : ℕ) (M : Layer) (m : ℕ) (old new : List ℕ) : Type 0 where
  pub entries : length M ≡ m
  pub wrote : write ≡ true → Woven c M m old new
  pub kept : write ≡ false → new ≡ old

-- a layer stands in the slice, and from entry i on it has room behind m entries where the walk writes
pub record Rest (write : Bool) (c mR : ℕ) (r : List ℕ) (i m len : ℕ) : Type 0 where
  pub held : Held c mR r
  pub upto : i ≤ mR
  pub room : write ≡ true → m * (c + 2) + length (take (mR * (c + 2) - i * (c + 2)) (drop (i * (c + 2)) r)) ≤ len
