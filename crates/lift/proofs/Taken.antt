-- Row number r of a table that lies by columns, read through a layer: the values of the base row or of the added entry
-- behind it.
-- Assumes nothing.
use Prim.Native.Nat.{ℕ, ◌+◌, ◌*◌, ◌≤◌, ◌<◌}
use native.Mathlib.Nat.{mul-le-mul_right, zero-add, one-mul}
use native.Mathlib.Omega.{arith}
use mathlib.Core.Path.{◌≡◌, sym, ap, ◌∙◌}
use mathlib.Core.Bool.{Bool, true, false}
use mathlib.Core.List.{List, []}
use lib.ListN.{length, get_or, take, drop, length-drop, get_or-map}
use lib.Seq.{length-take-le, get_or-take, get_or-drop, ext_get_or}
use lib.Dec.{eqb}
use Rattle.words.specs.declared.Origin.TheVariants.{Base as base, Added as added}
use Rattle.order.specs.Lists.{ascending}
use Rattle.order.proofs.Tests.{impossible}
use Rattle.order.proofs.Ascending.{At, at_length, at_get_or, get_or_at, asc_of}
use Rattle.words.specs.declared.Entry.{Entry}
use Rattle.words.specs.Entry.{ADD, STRIKE}
use Rattle.model.specs.Row.{Row, Table, key, keys, row_at, columnwise}
use Rattle.model.specs.Layer.{at, add, Layer, struck, rows_after, changed}
use Rattle.model.specs.Raw.{Held, none, entry_at, entries_of, edit_of, layer_of}
use Rattle.model.specs.Read.{read}
use Rattle.model.specs.Position.{back}
use Rattle.theory.proofs.Raw.{entry_at_lem, within, small}
use Rattle.theory.proofs.Edits.{deed_by}
use Rattle.theory.proofs.Fit.{Fit, good_of}
use Rattle.theory.proofs.Count.{read_length}
use Rattle.theory.proofs.Origin.{origin_row, added_row, back_row}
use Rattle.theory.proofs.Columnwise.{row_length, row_cell, columnwise_length, columnwise_row, columnwise_keys}
use Rattle.fit.specs.Ready.{Ready}
use Rattle.landing.proofs.Known.{Known, known}
use Rattle.splice.specs.declared.Splice.{Splice}
use Rattle.plan.specs.Moves.{padded, strike_splice}
use Rattle.lift.proofs.Between.{gone_all}

-- values that lie one behind the other
run_row : (c o : ℕ) (xs : List ℕ) → o + c ≤ length xs → row_at c 1 xs o ≡ take c (drop o xs)
run_row c o xs l = ext_get_or 0 (row_at c 1 xs o) (take c (drop o xs)) (wide ∙ sym long) each
  where
    wide : length (row_at c 1 xs o) ≡ c
    wide = row_length c 1 o xs

    long : length (take c (drop o xs)) ≡ c
    long = length-take-le c (drop o xs) (omega (arith, length-drop o xs))

    each : (j : ℕ) → j < length (row_at c 1 xs o) → get_or (row_at c 1 xs o) j 0 ≡ get_or (take c (drop o xs)) j 0
    each j h =
        let k : j < c = omega (arith, wide) in
        let e : j * 1 + o ≡ o + j = omega arith in
        row_cell c 1 o j xs k
        ∙ (ap (λ (n : ℕ). get_or xs n 0) e ∙ sym (get_or-take c (drop o xs) j 0 k ∙ get_or-drop o xs j 0))

-- the row of an entry that adds is its values
add_vals : (e : Entry) (p : ℕ) (q : Row) → edit_of e ≡ at p (add q) → q ≡ e.vals
add_vals e p q = go (eqb e.kind ADD) (eqb e.kind STRIKE)
  where
    go : (a b : Bool) → at e.pos (deed_by a b e.vals (get_or e.vals 0 0) e.kind) ≡ at p (add q) → q ≡ e.vals
    go true b h = sym (cc)
    go false true h = impossible (cc)
    go false false h = impossible (cc)

-- entry number i of a layer
edit_at : (c m i : ℕ) (xs : List ℕ) → i < m
    → get_or (layer_of c m xs) i (edit_of none) ≡ edit_of (entry_at c (i * (c + 2)) xs)
unfolding layer_of
edit_at c m i xs h =
    get_or-map edit_of (entries_of c m xs) i none
    ∙ ap edit_of (entry_at_lem c m 0 i xs h ∙ ap (λ (n : ℕ). entry_at c n xs) (zero-add (i * (c + 2))))

-- where the values of entry number i stand
pub values_in : (c m i : ℕ) (xs : List ℕ) → Held c m xs → i < m
    → (i * (c + 2) ≤ 5120) × (i * (c + 2) + 2 + c ≤ length xs)
values_in c m i xs H h =
    (small {m = i} {c = c} (omega (arith, H.entries)) H.columns, omega (arith, within i m (c + 2) h, H.room))

module _ {c m : ℕ} {raw K : List ℕ} (R : Ready c m raw K) (w : ℕ) (table : List ℕ) (k : K ≡ take (length K) table)
    (g : length K ≤ w) (z : c * w ≤ length table) where
  abbrev L : Layer
  L = layer_of c m raw

  abbrev T : Table
  T = columnwise c (length K) w table

  N : Known c m raw K
  N = known R

  column_in : w ≤ length table
  column_in = omega (arith, mul-le-mul_right {m = 1} w N.acc.held.some, one-mul w)

  -- the values of base row s lie within the table
  pub values_of : (s : ℕ) → s < length K → (w ≤ length table) × (c * w + s < length table + w)
  values_of s h = (column_in, omega arith)

  rows : length T ≡ length K
  rows = columnwise_length c (length K) w table

  fits_in : Fit T L
  fits_in =
      let e : keys T ≡ K =
      columnwise_keys c (length K) w table N.acc.held.some (omega (arith, column_in)) ∙ sym k in
      (good_of c T L (asc_of key T (ap ascending e ∙ R.keys)) (rw rows N.acc.ordered) (rw e R.fit)).fit

  module _ (r : ℕ) (h : r < rows_after (length K) L) where
    abbrev shown : Row
    shown = get_or (read T L) r []

    from_origin : shown ≡ origin_row T L (back (length K) L r)
    from_origin =
        let e : length (read T L) ≡ rows_after (length K) L =
        read_length T L fits_in ∙ ap (λ (n : ℕ). rows_after n L) rows in
        (back_row T L r shown (get_or_at (read T L) r [] (omega (arith, e)))).row
        ∙ ap (λ (n : ℕ). origin_row T L (back n L r)) rows

    -- behind it is base row s: the row with its changes, which are the entries that go
    pub base_taken_lem : (s : ℕ) → (back (length K) L r ≡ base s) × (s < length K) × (struck s L ≡ false)
        → (p : Splice) (row : List ℕ) → p ≡ strike_splice K L (base s)
        → row ≡ padded (changed s (drop p.i (take (p.i + p.gone) L)) (row_at c w table s))
        → (p ≡ strike_splice K L (back (length K) L r)) × (row ≡ padded shown)
    base_taken_lem s o p row e f =
        let q : shown ≡ changed s (drop p.i (take (p.i + p.gone) L)) (row_at c w table s) =
        from_origin ∙ (ap (origin_row T L) o.0 ∙ (ap (changed s L) (columnwise_row c (length K) w table s o.1)
        ∙ sym (gone_all N s o.2 p e (row_at c w table s)))) in
        (e ∙ ap (strike_splice K L) (sym o.0), f ∙ ap padded (sym q))

    -- behind it is entry number i: its values
    pub added_taken : (i : ℕ) → (back (length K) L r ≡ added i) × (s : ℕ) × (q : Row) × At (at s (add q)) i 0 L
        → (p : Splice) (row : List ℕ) → p ≡ strike_splice K L (added i)
        → row ≡ padded (row_at c 1 raw (i * (c + 2) + 2))
        → (p ≡ strike_splice K L (back (length K) L r)) × (row ≡ padded shown)
    added_taken i o p row e f =
        let d = entry_at c (i * (c + 2)) raw in
        let l : i < m = omega (arith, at_length o.3, N.acc.size) in
        let q : o.2 ≡ d.vals =
        add_vals d o.1 o.2 (sym (edit_at c m i raw l) ∙ at_get_or (edit_of none) o.3) in
        let u : shown ≡ row_at c 1 raw (i * (c + 2) + 2) =
        from_origin ∙ (ap (origin_row T L) o.0 ∙ (ap added_row (at_get_or (at 0 (add [])) o.3)
        ∙ (q ∙ sym (run_row c (i * (c + 2) + 2) raw (values_in c m i raw N.acc.held l).1)))) in
        (e ∙ ap (strike_splice K L) (sym o.0), f ∙ ap padded (sym u))
