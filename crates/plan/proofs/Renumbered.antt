-- Renumbering a row is two splices: the row's strike, and its add with the new number, in front of the strike where the
-- number is lower than the row's own, behind it where it is higher.
-- Assumes nothing.
use Prim.Native.Nat.{ℕ, ◌≤◌, ◌<◌}
use native.Mathlib.Nat.{add-zero}
use native.Mathlib.Omega.{arith}
use mathlib.Core.Path.{◌≡◌, refl, sym, ap, ◌∙◌}
use mathlib.Core.Bool.{Bool, true, false, cond}
use mathlib.Core.List.{List, [], append-nil}
use lib.ListN.{length, get_or}
use lib.Seq.{take-length, drop-length}
use lib.Dec.{ltb, eqb}
use borrow.Author.Tests.{ltb-true, ltb-false, lt-ltb, eqb-true, eqb-false, eq-eqb, ne_eqb}
use Rattle.words.specs.declared.Origin.{Origin}
use Rattle.words.specs.declared.Origin.TheVariants.{Base as base, Added as added}
use Rattle.order.specs.Lists.{count, ascending}
use Rattle.order.proofs.Ascending.{
  AscFrom,
  below,
  at_mem,
  get_or_at,
  asc_of,
  of_asc,
  count_mono,
  count_strict,
  get_or_count,
}
use Rattle.model.specs.Row.{Row, Table, key, keys, with_key}
use Rattle.model.specs.Layer.{add, at, Layer, rows_after}
use Rattle.model.specs.Raw.{layer_of}
use Rattle.model.specs.Form.{in_order}
use Rattle.model.specs.Fit.{fits, keys_below}
use Rattle.model.specs.Read.{read}
use Rattle.model.specs.Position.{back}
use Rattle.model.specs.Edits.{before, add_row, strike_origin, strike_row, renumber_row}
use Rattle.theory.proofs.Layer.{changed_key}
use Rattle.theory.proofs.Fit.{Good, good_of, good_fits, key_kept, keys_length, below_keys}
use Rattle.theory.proofs.Count.{read_length}
use Rattle.theory.proofs.Column.{singles, keys_singles}
use Rattle.theory.proofs.Origin.{Stands, RowOrigin, back_row, added_at}
use Rattle.theory.proofs.Renumbered.{with_key_lem, with_key_length}
use Rattle.enter.specs.declared.Move.TheVariants.{Entries as entries}
use Rattle.enter.specs.Move.{none_at, in_key_order}
use Rattle.write.specs.Plans.{Splices, BothSplice, Plans, splices, pairs}
use Rattle.landing.proofs.Known.{Known}
use Rattle.plan.specs.Moves.{add_splice, strike_splice, renumber_move}
use Rattle.plan.proofs.Planned.{stands}
use Rattle.plan.proofs.Beside.{not_past, Ahead, Behind, base_ahead, base_behind, added_ahead, added_behind}

-- The keys of a known layer's table rise, and the layer is good over the table.
module _ {c m : ℕ} {raw : List ℕ} (T : Table) (N : Known c m raw (keys T)) where
  pub rises_over : AscFrom key 0 T
  rises_over = asc_of key T (ap ascending (sym (keys_singles (keys T))) ∙ of_asc key (singles (keys T)) N.rising)

  pub good_over : Good c T (layer_of c m raw)
  good_over =
      let L = layer_of c m raw in
      good_of c T L rises_over (ap (λ (n : ℕ). in_order c n L) (sym (keys_length T)) ∙ N.acc.ordered)
      (ap (λ (K : List ℕ). fits K L) (sym (keys_singles (keys T)))
      ∙ good_fits c (singles (keys T)) L N.rising N.good)

module _ {c m : ℕ} {raw : List ℕ} (T : Table) (N : Known c m raw (keys T)) (r g : ℕ)
    (h : r < rows_after (length (keys T)) (layer_of c m raw)) (some : 1 ≤ c)
    (wide : length (get_or (read T (layer_of c m raw)) r []) ≡ c) where
  abbrev K : List ℕ
  K = keys T

  abbrev L : Layer
  L = layer_of c m raw

  abbrev row : Row
  row = get_or (read T L) r []

  abbrev renumbered : Row
  renumbered = with_key g row

  abbrev o : Origin
  o = back (length K) L r

  -- it has the new number and is as long
  new_key : key renumbered ≡ g
  new_key = with_key_lem g row (omega arith)

  new_wide : length renumbered ≡ c
  new_wide = with_key_length g row ∙ wide

  -- the layer is good over the table, whose keys rise
  G : Good c T L
  G = good_over T N

  a : AscFrom key 0 T
  a = rises_over T N

  -- what stands behind the row number
  origin : RowOrigin T L row o
  origin =
      let n = read_length T L G.fit in
      let k = ap (λ (n : ℕ). rows_after n L) (keys_length T) in
      rw (keys_length T) (back_row T L r row (get_or_at (read T L) r [] (omega arith)))

  -- the position of the renumbered row
  rank : keys_below (key renumbered) K ≡ count (below key g) T
  rank = below_keys (key renumbered) T ∙ ap (λ (k : ℕ). count (below key k) T) new_key

  -- Behind it stands base row s, whose key it has: a lower number comes up to position s, a higher one past it.
  module _ (s : ℕ) (O : RowOrigin T L row (base s)) where
    base_key : key row ≡ key (get_or T s [])
    base_key = ap key O.row ∙ changed_key s L (get_or T s []) (key_kept T L G.fit)

    base_rank : count (below key (key (get_or T s []))) T ≡ s
    base_rank = get_or_count key T a s [] O.stands.0

    base_down : g < key row → keys_below (key renumbered) K ≤ s
    base_down d = omega (arith, rank, base_rank, count_mono key T g (key (get_or T s [])) (omega (arith, base_key)))

    base_up : key row < g → s < keys_below (key renumbered) K
    base_up d =
        let n = at_mem (get_or_at T s [] O.stands.0) in
        omega (arith, rank, base_rank, count_strict key T (get_or T s []) g n (omega (arith, base_key)))

  -- Behind it stands added entry i, where its key puts it: the add of a lower number stands before, of a higher one
  -- behind.
  module _ (i : ℕ) (O : RowOrigin T L row (added i)) where
    abbrev there : Stands (length K) L (added i)
    there = let w = added_at T L row i O in (w.0, row, w.1)

    added_rank : count (below key (key row)) T ≡ there.0
    added_rank = G.fit.sits there.0 row (at_mem there.2)

    added_down : g < key row
        → before (at (keys_below (key renumbered) K) (add renumbered)) (at there.0 (add row)) ≡ true
    added_down d =
        not_past (keys_below (key renumbered) K) there.0 (add renumbered) (add row)
        (omega (arith, rank, added_rank, count_mono key T g (key row) (omega arith)))
        (lt-ltb (key renumbered) (key row) (omega (arith, new_key)))

    added_up : key row < g → before (at there.0 (add row)) (at (keys_below (key renumbered) K) (add renumbered)) ≡ true
    added_up d =
        not_past there.0 (keys_below (key renumbered) K) (add row) (add renumbered)
        (omega (arith, rank, added_rank, count_mono key T (key row) g (omega arith)))
        (lt-ltb (key row) (key renumbered) (omega (arith, new_key)))

  -- another number than its own: struck, then added
  moves : (key row ≡ g → ⊥) → renumber_row T r g L ≡ add_row K renumbered (strike_origin K L o)
  unfolding renumber_row strike_row
  moves n = rw (ne_eqb (key row) g n)

  -- to a lower number: the add stands in front of the strike
  pub renumber_down : g < key row
      → BothSplice c L (renumber_row T r g L) (add_splice K L renumbered) (strike_splice K L o)
  renumber_down d = rw (moves (λ e. omega arith)) (go o (stands N r h) origin)
    where
      go : (o : Origin) → Stands (length K) L o → RowOrigin T L row o → Ahead N renumbered new_wide o
      go (base s) w O = base_ahead N renumbered new_wide s w (base_down s O d)
      go (added i) w O = added_ahead N renumbered new_wide i (there i O) (added_down i O d)

  -- to a higher number: the add stands behind the strike
  pub renumber_up : key row < g
      → BothSplice c L (renumber_row T r g L) (strike_splice K L o) (add_splice K L renumbered)
  renumber_up d = rw (moves (λ e. omega arith)) (go o (stands N r h) origin)
    where
      go : (o : Origin) → Stands (length K) L o → RowOrigin T L row o → Behind N renumbered new_wide o
      go (base s) w O = base_behind N renumbered new_wide s w (base_up s O d)
      go (added i) w O = added_behind N renumbered new_wide i (there i O) (added_up i O d)

  -- to its own number: the layer as it is
  pub renumber_own_lem : key row ≡ g → renumber_row T r g L ≡ L
  unfolding renumber_row
  renumber_own_lem e = rw (eq-eqb (key row) g e)

  -- no splice leads from the layer to itself
  none : Splices c L L (none_at (length L))
  none = record {
    new = [];
    within = omega arith;
    leads = sym (rw (add-zero, take-length L, drop-length L) (append-nil L));
    brings = refl;
  }

  -- so a renumbering is the move that is said of it
  pub renumber_plans : Plans c L (renumber_row T r g L) (renumber_move T L r g)
  renumber_plans = go (eqb (key row) g) refl (ltb g (key row)) refl
    where
      go : (t : Bool) → eqb (key row) g ≡ t → (u : Bool) → ltb g (key row) ≡ u
          → Plans c L (renumber_row T r g L)
          (cond t (entries (none_at (length L))) (in_key_order u (strike_splice K L o) (add_splice K L renumbered)))
      go true e u f = rw (renumber_own_lem (eqb-true (key row) g e)) (splices none)
      go false e true f = pairs (renumber_down (ltb-true g (key row) f))
      go false e false f =
          let n = eqb-false (key row) g e in
          pairs (renumber_up (omega (arith, ltb-false g (key row) f, n)))
