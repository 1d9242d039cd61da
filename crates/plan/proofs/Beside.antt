-- A row added to what a strike of a known layer leaves: its add lands in front of the strike's splice, or behind it.
-- Assumes nothing.
use Prim.Native.Nat.{ℕ, ◌+◌, ◌-◌, ◌≤◌, ◌<◌}
use native.Mathlib.Nat.{add-zero}
use native.Mathlib.Omega.{arith}
use mathlib.Core.Path.{◌≡◌, refl, sym, ap, ◌∙◌}
use mathlib.Core.Bool.{Bool, true, false, true≢false}
use mathlib.Core.List.Memᴰ.{eq_of_singleton}
use mathlib.Core.List.Memᴰ.{not-nil}
use mathlib.Core.List.{
  List,
  [],
  ◌∷◌,
  ◌++◌,
  Memᴰ as Mem,
}
use lib.ListN.{length, get_or, take, drop}
use lib.Dec.{leb, ltb}
use borrow.Author.Tests.{leb-true, leb-false, ltb-true, ltb-false}
use Rattle.words.specs.declared.Origin.{Origin}
use Rattle.words.specs.declared.Origin.TheVariants.{Base as base, Added as added}
use Rattle.order.specs.Lists.{insert}
use Rattle.order.proofs.Tests.{not_passed}
use Rattle.order.proofs.Ascending.{At}
use Rattle.order.proofs.Splice.{at_front, at_rest, insert_ahead, insert_behind}
use Rattle.words.specs.Entry.{ADD, STRIKE}
use Rattle.model.specs.Row.{Row, key}
use Rattle.model.specs.Layer.{Deed, add, strike, Edit, at, Layer}
use Rattle.model.specs.Raw.{layer_of}
use Rattle.model.specs.Fit.{keys_below}
use Rattle.model.specs.Edits.{deed_before, before, add_row, strike_origin}
use Rattle.theory.proofs.Edits.{before_lt, before_eq, before_trans, before_asym}
use Rattle.theory.proofs.Origin.{Stands}
use Rattle.splice.specs.declared.Splice.{Splice}
use Rattle.write.specs.Plans.{Splices, BothSplice}
use Rattle.landing.specs.Landing.{aim, landing}
use Rattle.landing.proofs.Landed.{landing_le, lands_after, lands_first}
use Rattle.landing.proofs.Known.{Known}
use Rattle.landing.proofs.Shown.{aim_add}
use Rattle.plan.specs.Moves.{add_splice, strike_splice}
use Rattle.plan.proofs.Struck.{up_to, land_mono, in_turn_lem}
use Rattle.plan.proofs.Planned.{sorted, add_numbers_lem, strike_from_lem}

-- at a position that is not higher, what stands before in its kind and key stands before
pub not_past : (p s : ℕ) (d e : Deed) → p ≤ s → deed_before d e ≡ true → before (at p d) (at s e) ≡ true
not_past p s d e h b = go (ltb p s) refl
  where
    go : (t : Bool) → ltb p s ≡ t → before (at p d) (at s e) ≡ true
    go true f = before_lt (at p d) (at s e) (ltb-true p s f)
    go false f = before_eq p s d e (omega (arith, ltb-false p s f)) b

-- of two edits at most one stands before the other
never_both : (d e : Edit) → before e d ≡ true → before d e ≡ false
never_both d e h = not_passed (before d e) (λ g. before_asym d e g h)

-- A row added to what a splice of a known layer leaves.
module _ {c m : ℕ} {raw K : List ℕ} (N : Known c m raw K) (row : Row) (l : length row ≡ c) where
  abbrev L : Layer
  L = layer_of c m raw

  abbrev p : ℕ
  p = keys_below (key row) K

  abbrev e : Edit
  e = at p (add row)

  abbrev x : Edit
  x = aim p ADD (key row)

  -- where its add lands in the layer
  abbrev j : ℕ
  j = landing x L

  -- the order asks no more of it than its key; the layer's edits up to there stand before it, and no other does
  same : (d : Edit) → before d e ≡ before d x
  same d = sym (aim_add d p (key row) row refl)

  first : (d : Edit) → Mem d (take j L) → before d e ≡ true
  first d k = same d ∙ lands_after x L j refl d k

  later : (d : Edit) → Mem d (drop j L) → before d e ≡ false
  later d k = same d ∙ lands_first x L j refl (sorted N) d k

  -- an entry that stands before it lies in front of where it lands, and any other does not
  in_front : {d : Edit} {i : ℕ} → At d i 0 L → before d e ≡ true → i < j
  in_front {d} {i} a b =
      leb-false j i (not_passed (leb j i) (λ t. true≢false (sym b ∙ later d (at_rest i j L a (leb-true j i t)))))

  not_in_front : {d : Edit} {i : ℕ} → At d i 0 L → before d e ≡ false → j ≤ i
  not_in_front {d} {i} a b =
      ltb-false i j (not_passed (ltb i j) (λ t. true≢false (sym (first d (at_front i j L a (ltb-true i j t))) ∙ b)))

  module _ {M : Layer} {q : Splice} (S : Splices c L M q) where
    -- where it lands up to the splice, and before what comes there
    add_ahead : j ≤ q.i → ((d : Edit) → Mem d S.new → before d e ≡ false)
        → BothSplice c L (add_row K row M) (add_splice K L row) q
    unfolding add_row
    add_ahead h f = record {
      new = e ∷ [];
      new₂ = S.new;
      within = record { first = omega arith; second = S.within };
      leads =
          ap (insert before e) S.leads
          ∙ (insert_ahead before e q.i j (q.i + q.gone) S.new L first later (omega arith) h f
          ∙ ap (λ (n : ℕ). take j L ++ (e ∷ (take (q.i - n) (drop n L) ++ (S.new ++ drop (q.i + q.gone) L))))
          (sym (add-zero j)));
      brings = (e, refl, add_numbers_lem N p row l, omega (arith, l));
      brings₂ = S.brings;
    }

    -- where it lands past the splice, and what comes there stands before it
    add_behind : q.i + q.gone ≤ j → ((d : Edit) → Mem d S.new → before d e ≡ true)
        → BothSplice c L (add_row K row M) q (add_splice K L row)
    unfolding add_row
    add_behind h f = record {
      new = S.new;
      new₂ = e ∷ [];
      within = record { first = h; second = omega (arith, landing_le x L) };
      leads =
          ap (insert before e) S.leads
          ∙ (insert_behind before e q.i j (q.i + q.gone) S.new L first later (omega arith) h f
          ∙ ap (λ (n : ℕ).
          take q.i L ++ (S.new ++ (take (j - (q.i + q.gone)) (drop (q.i + q.gone) L) ++ (e ∷ drop n L))))
          (sym (add-zero j)));
      brings = S.brings;
      brings₂ = (e, refl, add_numbers_lem N p row l, omega (arith, l));
    }

  -- a row of this origin is struck, and the row added: its splice lies in front of the strike's; behind it
  abbrev pub Ahead : Origin → Type 0
  Ahead o = BothSplice c L (add_row K row (strike_origin K L o)) (add_splice K L row) (strike_splice K L o)

  abbrev pub Behind : Origin → Type 0
  Behind o = BothSplice c L (add_row K row (strike_origin K L o)) (strike_splice K L o) (add_splice K L row)

  -- a base row at the add's position or past it; one before it
  module _ (s : ℕ) (w : Stands (length K) L (base s)) where
    pub base_ahead : p ≤ s → Ahead (base s)
    unfolding strike_from_lem
    base_ahead h =
        add_ahead (strike_from_lem N (base s) w) (land_mono x (aim s STRIKE 0) nearer L)
        (λ d k.
        let v = get_or K s 0 in
        ap (λ (t : Edit). before t e) (eq_of_singleton k) ∙ never_both (at s (strike v)) e (ahead v))
      where
        ahead : (v : ℕ) → before e (at s (strike v)) ≡ true
        ahead v = not_past p s (add row) (strike v) h refl

        nearer : (d : Edit) → before d x ≡ true → before d (aim s STRIKE 0) ≡ true
        nearer d b = before_trans d e (at s (strike 0)) (same d ∙ b) (ahead 0)

    pub base_behind : s < p → Behind (base s)
    unfolding strike_from_lem
    base_behind h =
        let i = landing (aim s STRIKE 0) L in
        let end = landing (aim (s + 1) ADD 0) L in
        let t = (in_turn_lem s L (sorted N) i end refl refl).0 in
        let u = land_mono (aim (s + 1) ADD 0) x nearer L in
        add_behind (strike_from_lem N (base s) w) (omega arith)
        (λ d k. ap (λ (t : Edit). before t e) (eq_of_singleton k) ∙ before_lt (at s (strike (get_or K s 0))) e h)
      where
        nearer : (d : Edit) → before d (aim (s + 1) ADD 0) ≡ true → before d x ≡ true
        nearer d b = sym (same d) ∙ before_lt d e (omega (arith, up_to d s b))

  -- an added row that stands behind the add; one that stands before it
  module _ (i : ℕ) (w : Stands (length K) L (added i)) where
    pub added_ahead : before e (at w.0 (add w.1)) ≡ true → Ahead (added i)
    unfolding strike_from_lem
    added_ahead h =
        add_ahead (strike_from_lem N (added i) w) (not_in_front w.2 (never_both (at w.0 (add w.1)) e h))
        (λ d k. absurd (not-nil k))

    pub added_behind : before (at w.0 (add w.1)) e ≡ true → Behind (added i)
    unfolding strike_from_lem
    added_behind h =
        add_behind (strike_from_lem N (added i) w) (omega (arith, in_front w.2 h)) (λ d k. absurd (not-nil k))
