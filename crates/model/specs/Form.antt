-- Form, rule by rule, and the place of the least entry that breaks a rule alone or with an earlier one.
use Rattle.std.specs.Prelude.{Bool, true, false, ◌&&◌, ◌||◌, List, [], ℕ, ◌+◌, ◌*◌, length, drop, leb, ltb, eqb}
use Rattle.order.specs.Lists.{all, least_broken}
use Rattle.words.specs.declared.Entry.{Entry}
use Rattle.model.specs.Limits.{most_columns, most_entries, most_rows}
use Rattle.model.specs.Layer.{Deed, add, strike, change, Edit, at, Layer, rows_after}
use Rattle.model.specs.Raw.{edit_of}
use Rattle.words.specs.Entry.{ADD}

-- Alone. Positions are at most n; strikes and changes stand only below n; a change is of column 1 to c - 1; an added row is c long.
abbrev pub sound : ℕ → ℕ → Edit → Bool
sound c n (at s (add r)) = leb s n && eqb (length r) c
sound c n (at s (strike k)) = ltb s n
sound c n (at s (change j e)) = ltb s n && (leb 1 j && ltb j c)

-- Alone, in a slice: of a strike and a change only the first value may be other than zero.
abbrev pub zeros : Entry → Bool
zeros e = eqb e.kind ADD || all (λ v. eqb v 0) (drop 1 e.vals)

-- At one position: any number of adds, then nothing, one strike, or changes in strictly ascending column.
abbrev pub after : Deed → Deed → Bool
after (add r) d = true
after (strike k) d = false
after (change j e) (add r) = false
after (change j e) (strike k) = false
after (change j e) (change i f) = ltb j i

-- With an earlier one: positions never fall.
abbrev pub follows : Edit → Edit → Bool
follows (at p d) (at s e) = ltb p s || (eqb p s && after d e)

-- the place of the least entry of a slice's entries that breaks a rule, or their number
unfoldable pub form_place : ℕ → ℕ → List Entry → ℕ
form_place c n es = least_broken (λ e. zeros e && sound c n (edit_of e)) (λ d e. follows (edit_of d) (edit_of e)) [] es

-- a layer keeps form: no edit breaks a rule, and the rows after it are at most 4,096
unfoldable pub in_order : ℕ → ℕ → Layer → Bool
in_order c n L = eqb (least_broken (sound c n) follows [] L) (length L)

abbrev pub keeps_form : ℕ → ℕ → Layer → Bool
keeps_form c n L = in_order c n L && leb (rows_after n L) most_rows

-- c is 1 to 8, n at most 4,096, m at most 512 and not over the slice of len numbers that holds it
unfoldable pub args_ok : ℕ → ℕ → ℕ → ℕ → Bool
args_ok c n m len = leb 1 c && (leb c most_columns && (leb n most_rows && (leb m most_entries && leb (m * (c + 2)) len)))
