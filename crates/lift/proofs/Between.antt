-- The changes of a base row: the entries from where its strike lands up to the first entry past the row, and no others.
-- Assumes nothing.
use Prim.Native.Nat.{ℕ, ◌+◌, ◌-◌, ◌≤◌}
use native.Mathlib.Omega.{arith}
use mathlib.Core.Path.{◌≡◌, refl, sym, ap, ◌∙◌}
use mathlib.Core.Logic.{inr, ⊎_elim}
use mathlib.Core.Bool.{Bool, true, false, not, true≢false}
use mathlib.Core.List.Memᴰ.{append_cases}
use mathlib.Core.List.Memᴰ.{append_left}
use mathlib.Core.List.Memᴰ.{append_right}
use mathlib.Core.List.Memᴰ.{head as here}
use mathlib.Core.List.Memᴰ.{tail as next}
use mathlib.Core.List.{List, ◌∷◌, ◌++◌, Memᴰ as Mem}
use lib.ListN.{length, get_or, take, drop, take-append-drop}
use lib.Seq.{take-take}
use lib.Dec.{eqb, ltb, leb}
use borrow.Author.Tests.{not-true}
use Rattle.words.specs.declared.Origin.TheVariants.{Base as base}
use Rattle.order.specs.Lists.{all, filter, insert}
use Rattle.order.proofs.Tests.{and_r, and_of}
use Rattle.order.proofs.Members.{all_of, filter_mem, mem_filter, insert_mem, mem_insert}
use Rattle.order.proofs.Splice.{drop_mem, take_mem, part}
use Rattle.order.proofs.Pairs.{AllPairs}
use Rattle.order.proofs.Edited.{turn_idle}
use Rattle.order.proofs.Gather.{turn_append}
use Rattle.words.specs.Entry.{ADD, STRIKE}
use Rattle.model.specs.Row.{Row}
use Rattle.model.specs.Layer.{Edit, at, add, strike, change, Layer, struck, changes_row, change_row, changed}
use Rattle.model.specs.Raw.{layer_of}
use Rattle.model.specs.Form.{sound}
use Rattle.model.specs.Edits.{before, strike_base}
use Rattle.theory.proofs.Layer.{struck_of}
use Rattle.landing.specs.Landing.{aim, landing}
use Rattle.landing.proofs.Landed.{landing_le, lands_after, lands_first}
use Rattle.landing.proofs.Known.{Known}
use Rattle.splice.specs.declared.Splice.{Splice}
use Rattle.plan.specs.Moves.{strike_splice}
use Rattle.plan.proofs.Struck.{in_turn_lem, strike_splice_lem}
use Rattle.lift.specs.Own.{own_change}

-- an edit that does not change the row leaves it, and a sound one that does sets a column below c
idle : (s : ℕ) (d : Edit) (row : Row) → changes_row s d ≡ false → change_row s d row ≡ row
idle s (at p (add q)) row h = refl
idle s (at p (strike k)) row h = refl
idle s (at p (change j f)) row h = rw h

own_of : (c n s : ℕ) (d : Edit) → changes_row s d ≡ true → sound c n d ≡ true → own_change c s d ≡ true
own_of c n s (at p (add q)) h g = h
own_of c n s (at p (strike k)) h g = h
own_of c n s (at p (change j f)) h g =
    and_of (eqb s p) (ltb j c) h (and_r (leb 1 j) (ltb j c) (and_r (ltb p n) _ g))

-- Base row s of a layer in order is not struck: its strike lands at i, and the first add past it would at `end`.
module _ (K : List ℕ) (s : ℕ) (L : Layer) (sorted : AllPairs before L) (u : struck s L ≡ false) (i end : ℕ)
    (p : i ≡ landing (aim s STRIKE 0) L) (q : end ≡ landing (aim (s + 1) ADD 0) L) where
  abbrev G : Layer
  G = drop i (take end L)

  abbrev strikes : Edit
  strikes = at s (strike (get_or K s 0))

  abbrev others : Layer
  others = take i L ++ (strikes ∷ drop end L)

  abbrev kept : Layer
  kept = filter (λ e. not (changes_row s e)) L

  -- once it is struck, the others are left
  struck_leaves : insert before strikes kept ≡ others
  unfolding strike_base
  struck_leaves =
      let t : i + (end - i) ≡ end = omega (arith, (in_turn_lem s L sorted i end p q).0) in
      strike_splice_lem s L sorted i end p q K u ∙ ap (λ (n : ℕ). take i L ++ (strikes ∷ drop n L)) t

  -- so none of them changes the row
  apart : (d : Edit) → Mem d others → changes_row s d ≡ false
  apart d m =
      ⊎_elim (λ e. ap (changes_row s) e)
      (λ n. not-true (changes_row s d) (filter_mem (λ e. not (changes_row s e)) L d n).1)
      (insert_mem before strikes kept d (rw struck_leaves m))

  -- and each of those between does, since it is none of them
  inside : (d : Edit) → Mem d G → changes_row s d ≡ true
  inside d m = go (changes_row s d) refl
    where
      up_to : Mem d (take end L)
      up_to = drop_mem i (take end L) d m

      from : Mem d (drop i L)
      from = take_mem (end - i) (drop i L) d (rw (part i end L) m)

      behind : Mem d (strikes ∷ drop end L) → ⊥
      behind (here e) = true≢false (sym (struck_of s (get_or K s 0) L (rw (sym e) (take_mem end L d up_to))) ∙ u)
      behind (next n) =
          let z = aim (s + 1) ADD 0 in
          true≢false (sym (lands_after z L end q d up_to) ∙ lands_first z L end q sorted d n)

      never : Mem d others → ⊥
      never n =
          let z = aim s STRIKE 0 in
          ⊎_elim (λ f. true≢false (sym (lands_after z L i p d f) ∙ lands_first z L i p sorted d from)) (λ b. behind b)
          (append_cases (take i L) n)

      go : (t : Bool) → changes_row s d ≡ t → t ≡ true
      go true e = refl
      go false e =
          absurd (never (rw (← struck_leaves) (mem_insert before strikes kept d
          (inr (mem_filter (λ e. not (changes_row s e)) L d (take_mem end L d up_to) (ap not e))))))

  -- in a column below c
  own_between : (c n : ℕ) → ((d : Edit) → Mem d L → sound c n d ≡ true) → all (own_change c s) G ≡ true
  own_between c n each =
      all_of (own_change c s) G
      (λ d m. own_of c n s d (inside d m) (each d (take_mem end L d (drop_mem i (take end L) d m))))

  -- the row with its changes is the row with those between
  changed_between : (row : Row) → changed s G row ≡ changed s L row
  changed_between row =
      let A = take i L in
      let B = drop end L in
      let front : take end L ≡ A ++ G =
      sym (rw (← take-take i end L (in_turn_lem s L sorted i end p q).0) (take-append-drop i (take end L))) in
      let whole : L ≡ (A ++ G) ++ B = rw (← front) (sym (take-append-drop end L)) in
      let row' = changed s (A ++ G) row in
      sym (ap (λ (X : Layer). changed s X row) whole
      ∙ (turn_append (change_row s) (A ++ G) B row
      ∙ (turn_idle (change_row s) B row' (λ d m. idle s d row' (apart d (append_right A (next m))))
      ∙ (turn_append (change_row s) A G row
      ∙ ap (changed s G)
      (turn_idle (change_row s) A row (λ d m. idle s d row (apart d (append_left (strikes ∷ B) m))))))))

-- The splice that strikes base row s: the entries that go are the row's changes.
module _ {c m : ℕ} {raw K : List ℕ} (N : Known c m raw K) (s : ℕ) (u : struck s (layer_of c m raw) ≡ false) (p : Splice)
    (e : p ≡ strike_splice K (layer_of c m raw) (base s)) where
  abbrev L : Layer
  L = layer_of c m raw

  abbrev end : ℕ
  end = p.i + p.gone

  begins : p.i ≡ landing (aim s STRIKE 0) L
  begins = ap (λ (x : Splice). x.i) e

  ends : end ≡ landing (aim (s + 1) ADD 0) L
  ends =
      let i = landing (aim s STRIKE 0) L in
      let t = (in_turn_lem s L N.good.fit.sorted i (landing (aim (s + 1) ADD 0) L) refl refl).0 in
      omega (arith, begins, ap (λ (x : Splice). x.gone) e, t)

  -- they are entries of the layer
  pub gone_below : end ≤ m
  gone_below = omega (arith, ends, landing_le (aim (s + 1) ADD 0) L, N.acc.size)

  -- each of them changes the row, in a column below c
  pub gone_own : all (own_change c s) (drop p.i (take end L)) ≡ true
  gone_own = own_between K s L N.good.fit.sorted u p.i end begins ends c (length K) N.acc.each

  -- and they are all of its changes
  pub gone_all : (row : Row) → changed s (drop p.i (take end L)) row ≡ changed s L row
  gone_all row = changed_between K s L N.good.fit.sorted u p.i end begins ends row
