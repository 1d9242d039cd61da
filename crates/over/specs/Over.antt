-- The keys that a lower layer leaves, and what the pass that fits an upper one to them knows and answers.
use Rattle.std.specs.Prelude.{◌≡◌, Bool, cond, not, ◌||◌, List, ℕ, ◌+◌, ◌*◌, ◌≤◌, ◌<◌, length, get_or, eqb}
use Rattle.words.specs.declared.Entry.{Entry}
use Rattle.model.specs.Layer.{rows_after}
use Rattle.model.specs.Raw.{entry_at, edit_of, layer_of}
use Rattle.words.specs.Entry.{ADD, STRIKE}
use Rattle.model.specs.Read.{keys_after}
use Rattle.model.specs.Meaning.{key_of}
use Rattle.head.specs.declared.Head.{Head}
use Rattle.form.specs.InForm.{InForm}
use Rattle.suit.specs.Suit.{first, add_fits}

-- the keys that the lower layer leaves
abbrev pub over : ℕ → List ℕ → ℕ → List ℕ → List ℕ
over c K mR r = keys_after K (layer_of c mR r)

-- the keys that the first q entries of a slice concern, over the key column N
abbrev pub Named : ℕ → List ℕ → ℕ → List ℕ → List ℕ → Type 0
Named c N q W names = (j : ℕ) → j < q → get_or names j 0 ≡ key_of N (edit_of (entry_at c (j * (c + 2)) W))

-- an entry fits a column of n keys, by the keys before and at its position, after one with the head d
abbrev pub fits_by : ℕ → ℕ → ℕ → Head → Entry → List Entry → Bool
fits_by n last next d e es =
    cond (eqb e.kind ADD) (add_fits n last next d.pos d.kind d.first e es)
    (not (eqb e.kind STRIKE) || eqb next (first e))

-- the key that an entry concerns, by the key at its position
abbrev pub named_by : Head → ℕ → ℕ
named_by e next = cond (eqb e.kind ADD || eqb e.kind STRIKE) e.first next

-- both layers are in form, the upper over the rows that the lower leaves, and there is a place for each of its keys
pub record Over (c : ℕ) (K : List ℕ) (mR : ℕ) (r : List ℕ) (rows mW : ℕ) (w : List ℕ) (len : ℕ) : Type 0 where
  pub lower : InForm c (length K) mR r
  pub shown : rows ≡ rows_after (length K) (layer_of c mR r)
  pub upper : InForm c rows mW w
  pub room : mW ≤ len
