-- A row that is shown, taken out with its values: its key, the row with another key, and what is left of the call for
-- it.
-- Assumes nothing.
use Prim.Native.Nat.{ℕ, ◌+◌, ◌*◌, ◌-◌, ◌≤◌, ◌<◌, max}
use native.Mathlib.Nat.{zero-mul, one-mul, mul-le-mul_right}
use native.Mathlib.Omega.{arith}
use mathlib.Core.Path.{◌≡◌, refl, sym, ap, ◌∙◌}
use mathlib.Core.Bool.{Bool, true, false}
use mathlib.Core.List.{List, []}
use lib.ListN.{
  length,
  get_or,
  take,
  set,
  replicate,
  length-set,
  length-append,
  length-replicate,
  take-append-drop,
  get_or-append,
}
use lib.Seq.{set-append_left, take_at}
use lib.Dec.{ltb, eqb}
use borrow.Author.Tests.{eqb-true, ne_eqb, le-ltb}
use Rattle.words.specs.declared.Cause.TheVariants.{KeyShown}
use Rattle.std.specs.Prelude.{Ok, Err}
use Rattle.order.specs.Lists.{without}
use Rattle.order.proofs.Tests.{not_passed}
use Rattle.order.proofs.Members.{any_mem, map_mem}
use Rattle.order.proofs.Ascending.{AscFrom, At, at_mem, get_or_at}
use Rattle.order.proofs.Edited.{map_at, without_map, any_without, filter_without}
use Rattle.words.specs.Answer.{refusal, Answer}
use Rattle.model.specs.Row.{Row, Table, key, keys, with_key, columnwise}
use Rattle.model.specs.Layer.{Layer, rows_after}
use Rattle.model.specs.Raw.{Held, layer_of, room}
use Rattle.model.specs.Read.{read, keys_after}
use Rattle.model.specs.Position.{back}
use Rattle.model.specs.Edits.{renumber_row}
use Rattle.model.specs.Refusals.{shown_key}
use Rattle.model.specs.Calls.{edited}
use Rattle.theory.proofs.Fit.{Good, key_kept, keys_length}
use Rattle.theory.proofs.Count.{read_length, read_ascends}
use Rattle.theory.proofs.Column.{keys_read, read_wide}
use Rattle.theory.proofs.Redo.{strike_mem}
use Rattle.theory.proofs.Renumbered.{with_key_lem}
use Rattle.theory.proofs.Columnwise.{columnwise_keys, columnwise_wide}
use Rattle.store.proofs.Laws.{room_of}
use Rattle.splice.specs.Splice.{room_answer, if_done}
use Rattle.enter.specs.declared.Move.{Move}
use Rattle.enter.specs.Move.{in_key_order, Within, entered, count_after}
use Rattle.write.specs.Plans.{Plans}
use Rattle.landing.proofs.Known.{Known, known}
use Rattle.splice.specs.declared.Splice.{Splice}
use Rattle.plan.specs.Moves.{padded, add_splice, strike_splice}
use Rattle.plan.proofs.Answers.{last, may_enter, enters}
use Rattle.plan.proofs.Renumbered.{rises_over, good_over, renumber_own_lem, renumber_plans}
use Rattle.reseat.specs.Rest.{renumber_rest, Asked}

module _ {c w m : ℕ} {raw K B : List ℕ} {r : ℕ} (A : Asked c w m raw K B r) (g : ℕ) where
  abbrev T : Table
  T = columnwise c (length K) w B

  abbrev L : Layer
  L = layer_of c m raw

  -- the row that is shown
  abbrev q : Row
  q = get_or (read T L) r []

  some : 1 ≤ c
  some = (known A.ready).acc.held.some

  within : length K ≤ length B
  within = omega (arith, A.apart, A.whole, one-mul w, mul-le-mul_right {m = 1} {n = c} w some)

  keys_are : keys T ≡ K
  keys_are = columnwise_keys c (length K) w B some within ∙ sym A.own

  N : Known c m raw (keys T)
  N = rw keys_are (known A.ready)

  shown : r < rows_after (length (keys T)) L
  shown = rw keys_are A.shown

  good : Good c T L
  good = good_over T N

  rises : AscFrom key 0 (read T L)
  rises = read_ascends T L (rises_over T N) good.fit

  there : At q r 0 (read T L)
  there =
      get_or_at (read T L) r []
      (omega (arith, read_length T L good.fit, ap (λ (n : ℕ). rows_after n L) (keys_length T), shown))

  wide : length q ≡ c
  wide = read_wide c T L (columnwise_wide c (length K) w B) good q (at_mem there)

  pub padded_length : length (padded q) ≡ 8
  padded_length =
      omega (
        arith,
        length-append q (replicate (8 - length q) 0),
        length-replicate {A = ℕ} (8 - length q) 0,
        wide,
        N.acc.held.columns,
      )

  -- Its values: the first is its key; with g in its place they are the row with the key g.
  module _ (row : List ℕ) (is : row ≡ padded q) where
    pub own_key : get_or row 0 0 ≡ key q
    unfolding key
    own_key = rw is (get_or-append q (replicate (8 - length q) 0) 0 0 (omega (arith, wide, some)))

    pub new_row : take c (set row 0 g) ≡ with_key g q
    new_row =
        rw is (ap (take c) (set-append_left q (replicate (8 - length q) 0) 0 g (omega (arith, wide, some)))
        ∙ take_at (with_key g q) (replicate (8 - length q) 0) c (length-set q 0 g ∙ wide))

    pub row_wide : length (take c (set row 0 g)) ≡ c
    row_wide = ap length new_row ∙ (length-set q 0 g ∙ wide)

    -- whether its new key is shown, and its splice
    pub told : (t : Bool) → t ≡ shown_key (key (take c (set row 0 g))) (keys_after K L)
        → t ≡ shown_key g (keys_after (keys T) L)
    told t e =
        e ∙ (ap (λ (x : Row). shown_key (key x) (keys_after K L)) new_row
        ∙ (ap (λ (k : ℕ). shown_key k (keys_after K L)) (with_key_lem g q (omega (arith, wide, some)))
        ∙ ap (λ (Z : List ℕ). shown_key g (keys_after Z L)) (sym keys_are)))

    pub into_is : (p : Splice) → p ≡ add_splice K L (take c (set row 0 g)) → p ≡ add_splice K L (with_key g q)
    into_is p e = e ∙ ap (add_splice K L) new_row

  keys_shown : keys_after (keys T) L ≡ keys (read T L)
  keys_shown = keys_read T L (key_kept T L good.fit)

  -- no other row has its key
  alone : key q ≡ g → shown_key g (without r (keys_after (keys T) L)) ≡ false
  alone e =
      not_passed (shown_key g (without r (keys_after (keys T) L))) (λ h.
      let w = any_mem (eqb g) (map_keys) (rw (keys_shown, without_map key r (read T L)) at h) in
      let x = map_mem key (without r (read T L)) w.0 w.1 in
      (strike_mem (key q) (read T L) x.0 (rw (filter_without key 0 r (read T L) q rises there) x.1)).1
      (sym x.2 ∙ (sym (eqb-true g w.0 w.2) ∙ sym e)))
    where
      map_keys : List ℕ
      map_keys = keys (without r (read T L))

  -- where it has another key, g is shown in another row if it is shown at all
  beside : (key q ≡ g → ⊥) → shown_key g (without r (keys_after (keys T) L)) ≡ shown_key g (keys_after (keys T) L)
  beside ne =
      any_without (eqb g) r (keys_after (keys T) L) (key q) (rw keys_shown (map_at key there))
      (ne_eqb g (key q) (λ e. ne (sym e)))

  -- what the call leaves
  abbrev M : Layer
  M = renumber_row T r g L

  abbrev Ends : Answer → List ℕ → Type 0
  Ends x new = (x ≡ renumber_rest c (length raw) T L r g) × (new ≡ edited c m x M raw)

  size : length L ≡ m
  size = N.acc.size

  -- its own key: the layer as it is
  own_same : raw ≡ edited c m (Ok m) L raw
  own_same =
      let z : (m - length L) * (c + 2) ≡ 0 = ap (λ (n : ℕ). n * (c + 2)) (sub_same size) ∙ zero-mul (c + 2) in
      let t : max m (length L) ≡ m = omega (arith, size) in
      rw (z, t, N.acc.numbers) (sym (take-append-drop (m * (c + 2)) raw))
    where
      sub_same : length L ≡ m → m - length L ≡ 0
      sub_same e = omega (arith, e)

  pub own_ends : key q ≡ g → Ends (Ok m) raw
  own_ends e =
      let h = N.acc.held in
      let s = renumber_own_lem T N r g shown some wide e in
      let f : ltb (room c (length raw)) (length L) ≡ false =
      le-ltb (room c (length raw)) (length L) (omega (arith, size, room_of c (length raw) m h.entries h.room)) in
      (rw (alone e, s, f) (ap Ok (sym size)), rw s own_same)

  -- another row has it
  pub shown_ends : (key q ≡ g → ⊥) → shown_key g (keys_after (keys T) L) ≡ true → (x : Answer)
      → x ≡ Err (refusal KeyShown 0)
      → Ends x raw
  shown_ends ne h x e =
      let f : shown_key g (without r (keys_after (keys T) L)) ≡ true = beside ne ∙ h in
      rw e (rw f, refl)

  -- No other row has it. The splices by which the row goes and comes, as they are found over the keys that were lent,
  -- and whether its new number is the lower.
  pub record Turned (out into : Splice) (lower : Bool) : Type 0 where
    pub other : key q ≡ g → ⊥
    pub free : shown_key g (keys_after (keys T) L) ≡ false
    pub goes : out ≡ strike_splice K L (back (length K) L r)
    pub comes : into ≡ add_splice K L (with_key g q)
    pub below : lower ≡ ltb g (key q)

  module _ {out into : Splice} {lower : Bool} (F : Turned out into lower) where
    plans : Plans c L M (in_key_order lower out into)
    plans =
        let p : out ≡ strike_splice (keys T) L (back (length (keys T)) L r) = rw keys_are F.goes in
        let i : into ≡ add_splice (keys T) L (with_key g q) = rw keys_are F.comes in
        rw (F.below, p, i) (rw (ne_eqb (key q) g F.other) at (renumber_plans T N r g shown some wide))

    left : last c raw M ≡ renumber_rest c (length raw) T L r g
    left =
        let f : shown_key g (without r (keys_after (keys T) L)) ≡ false = beside F.other ∙ F.free in
        rw f

    -- the move x
    module _ {x : Move} (is : x ≡ in_key_order lower out into) where
      turns : Plans c L M x
      turns = rw is plans

      pub in_layer : Held c m raw × Within c m x
      in_layer = may_enter N turns

      pub turned_ends : (s : Answer) (new : List ℕ)
          → (s ≡ room_answer c (length raw) (count_after m x)) × (new ≡ if_done s (entered c m x raw) raw)
          → Ends s new
      turned_ends s new o =
          let w = enters c m raw (renumber_rest c (length raw) T L r g) M N left turns s new o in
          (w.0, w.1 ∙ ap (λ (t : Answer). edited c m t M raw) (sym w.0))
