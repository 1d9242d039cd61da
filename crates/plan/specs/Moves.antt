-- The move of the layer's slice that each edit is.
use Rattle.words.specs.declared.Origin.{Origin}
use Rattle.words.specs.declared.Origin.TheVariants.{Base as base, Added as added}
use Rattle.std.specs.Prelude.{
  Bool,
  true,
  false,
  cond,
  Some,
  None,
  List,
  [],
  ◌++◌,
  ℕ,
  ◌+◌,
  ◌-◌,
  length,
  get_or,
  drop,
  replicate,
  ltb,
  eqb,
}
use Rattle.words.specs.Entry.{ADD, STRIKE, add_entry, strike_entry, change_entry}
use Rattle.model.specs.Row.{Row, Table, key, keys, with_key}
use Rattle.model.specs.Layer.{Layer}
use Rattle.model.specs.Fit.{keys_below}
use Rattle.model.specs.Read.{read}
use Rattle.model.specs.Position.{back}
use Rattle.splice.specs.declared.Splice.{Splice}
use Rattle.enter.specs.declared.Value.{Value}
use Rattle.enter.specs.declared.Move.{Move}
use Rattle.enter.specs.declared.Move.TheVariants.{Entries as entries, Number as number}
use Rattle.enter.specs.Move.{none_at, in_key_order}
use Rattle.landing.specs.Landing.{aim, landing, changes_first}

-- a row of c values with zeros behind it, eight in all
abbrev pub padded : Row → List ℕ
padded row = row ++ replicate (8 - length row) 0

-- add a row: its add comes where it lands
abbrev pub add_splice : List ℕ → Layer → Row → Splice
add_splice K L row =
    (let p = keys_below (key row) K in
    record { i = landing (aim p ADD (key row)) L; gone = 0; comes = Some (add_entry p (padded row)) })

-- entry i goes, and none comes
abbrev pub out_of : ℕ → Splice
out_of i = record { i = i; gone = 1; comes = None }

-- strike a base row: its strike comes where it lands, in place of the row's changes; an added row's entry goes
abbrev pub strike_splice : List ℕ → Layer → Origin → Splice
strike_splice K L (base s) =
    (let i = landing (aim s STRIKE 0) L in
    record { i = i; gone = landing (aim (s + 1) ADD 0) L - i; comes = Some (strike_entry s (get_or K s 0)) })
strike_splice K L (added i) = out_of i

-- one value set, or a splice
abbrev pub one_of : Bool → Value → Splice → Move
one_of true x p = number x
one_of false x p = entries p

-- value j of entry i becomes v
abbrev pub value_of : ℕ → ℕ → ℕ → Move
value_of i j v = number (record { i = i; j = j; v = v })

-- change column j to v: a base row's change of j that stands where it would land gets the value, else it comes there;
-- an added row gets the value
abbrev pub change_move : Layer → ℕ → ℕ → Origin → Move
change_move L j v (base s) =
    (let i = landing (aim s j 0) L in
    one_of (changes_first s j (drop i L)) (record { i = i; j = 0; v = v })
    (record { i = i; gone = 0; comes = Some (change_entry s j v) }))
change_move L j v (added i) = value_of i j v

-- renumber a row to g: it goes as a strike does, and comes as an add does, a lower number in front of where it stood, a
-- higher one behind; to its own number nothing goes or comes
abbrev pub renumber_move : Table → Layer → ℕ → ℕ → Move
renumber_move T L r g =
    (let K = keys T in
    let row = get_or (read T L) r [] in
    cond (eqb (key row) g) (entries (none_at (length L)))
    (in_key_order (ltb g (key row)) (strike_splice K L (back (length K) L r)) (add_splice K L (with_key g row))))
