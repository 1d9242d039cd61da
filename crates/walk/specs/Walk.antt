-- One walk along two layers: the mark in Y parts what stands before an edit of X from what does not.
use Rattle.std.specs.Prelude.{◌≡◌, true, false, ℕ, ◌+◌, ◌*◌, ◌≤◌, ◌<◌, length, get_or, take, drop, eqb, Option, None}
use mathlib.Core.List.{List, [], ◌∷◌, Memᴰ as Mem}
use Rattle.order.specs.Lists.{one, count}
use Rattle.order.proofs.Pairs.{AllPairs}
use Rattle.model.specs.Row.{Row, key}
use Rattle.model.specs.Layer.{Edit, at, add, Layer, position, is_add, is_strike}
use Rattle.model.specs.Raw.{entry_at, edit_of}
use Rattle.words.specs.Entry.{ADD, STRIKE}
use Rattle.model.specs.Edits.{before}
use Rattle.words.specs.declared.Rule.{Rule}
use Rattle.model.specs.Conflict.{clash}
use Rattle.model.specs.Move.{moved}
use Rattle.entry.specs.declared.slice.Stored.{Stored}
use Rattle.entry.specs.Look.{edits}
use Rattle.walk.specs.declared.Mark.{Mark}

-- a mark at the first entry, and one past an entry of this kind
abbrev pub outset : Mark
outset = record { i = 0; adds = 0; strikes = 0 }

abbrev pub past : ℕ → Mark → Mark
past kind k = record {
  i = k.i + 1;
  adds = k.adds + one (eqb kind ADD);
  strikes = k.strikes + one (eqb kind STRIKE);
}

-- the mark stands at an entry of L, or at its end, with the adds and strikes before it
pub record Marks (L : Layer) (k : Mark) : Type 0 where
  pub within : k.i ≤ length L
  pub adds : k.adds ≡ count is_add (take k.i L)
  pub strikes : k.strikes ≡ count is_strike (take k.i L)

-- the first i edits of L stand before e; and no other does
abbrev pub Early : Layer → ℕ → Edit → Type 0
Early L i e = (d : Edit) → Mem d (take i L) → before d e ≡ true

pub record Parted (L : Layer) (i : ℕ) (e : Edit) : Type 0 where
  pub early : Early L i e
  pub late : (d : Edit) → Mem d (drop i L) → before d e ≡ false

-- the edits stand in the order of a layer
abbrev pub InOrder : Layer → Type 0
InOrder L = AllPairs before L

-- the rule that an edit meets with the first of those ahead
abbrev pub rule_ahead : Edit → Layer → Option Rule
rule_ahead e [] = None
rule_ahead e (d ∷ L) = clash e d

-- two layers whose edits stand in order, and whose adds of one key stand at one position
pub record Matched (X Y : Layer) : Type 0 where
  pub mine : InOrder X
  pub theirs : InOrder Y
  pub level : (p s : ℕ) (q r : Row) → Mem (at p (add q)) X → Mem (at s (add r)) Y → key q ≡ key r → p ≡ s

-- the new positions of X's first i entries, moved past Y, where X's entries stand in xs
abbrev pub PositionsIn : ℕ → List ℕ → Layer → ℕ → List ℕ → Type 0
PositionsIn c xs Y i to = (j : ℕ) → j < i → get_or to j 0 ≡ position (moved Y (edit_of (entry_at c (j * (c + 2)) xs)))

-- the same of a stored layer X
abbrev pub Positions : Stored → Layer → ℕ → List ℕ → Type 0
Positions x = PositionsIn x.c x.numbers.now

-- two stored layers that are so, and X's entries stand at rows of a base
pub record Movable (x y : Stored) : Type 0 where
  pub matched : Matched (edits x) (edits y)
  pub based : (e : Edit) → Mem e (edits x) → position e ≤ 4096
