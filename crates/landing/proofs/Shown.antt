-- Whether a key is shown, from what a look finds where its add would land: an add of that key, the base row of that
-- key, or its strike.
-- Assumes nothing.
use Prim.Native.Nat.{ℕ}
use native.Mathlib.Omega.{arith}
use mathlib.Core.Path.{◌≡◌, refl, sym, ap, ◌∙◌}
use mathlib.Core.Logic.{◌⊎◌, inl, inr, ⊎_elim}
use mathlib.Core.Bool.{Bool, true, false, not, ◌&&◌, ◌||◌, true≢false}
use mathlib.Core.List.Memᴰ.{append_cases}
use mathlib.Core.List.Memᴰ.{cases_cons}
use mathlib.Core.List.Memᴰ.{head as here}
use mathlib.Core.List.Memᴰ.{not-nil}
use mathlib.Core.List.{
  List,
  [],
  ◌∷◌,
  Memᴰ as Mem,
}
use lib.ListN.{length, get_or, take, drop, take-append-drop}
use lib.Dec.{ltb, eqb}
use borrow.Author.Tests.{lt-ltb, ltb-true, ltb-false, eqb-true, eq-eqb, ne_eqb, eqb-false, not-true}
use Rattle.std.specs.Prelude.{Option, Some}
use Rattle.order.specs.Lists.{count}
use Rattle.order.proofs.Tests.{impossible, and_l, and_r, and_of, or_cases, or_l, or_r, same_test, not_passed}
use Rattle.order.proofs.Members.{any_mem, any_of, map_mem, mem_map}
use Rattle.order.proofs.Counts.{count_le}
use Rattle.order.proofs.Pairs.{AllPairs}
use Rattle.order.proofs.Ascending.{At, below, at_mem, at_count, at_length, get_or_at, count_strict}
use Rattle.order.proofs.Splice.{drop_mem, pairs_drop}
use Rattle.model.specs.Row.{Row, Table, key, keys}
use Rattle.model.specs.Layer.{Deed, add, strike, change, Edit, at, Layer, struck, changed}
use Rattle.model.specs.Raw.{layer_of}
use Rattle.words.specs.Entry.{ADD}
use Rattle.model.specs.Fit.{keys_below}
use Rattle.model.specs.Read.{read, keys_after}
use Rattle.model.specs.Refusals.{shown_key}
use Rattle.model.specs.Edits.{deed_before, before}
use Rattle.theory.proofs.Edits.{before_cases, before_lt, before_eq, before_asym, before_key}
use Rattle.theory.proofs.Layer.{of_struck, struck_of, changed_key}
use Rattle.theory.proofs.Read.{Shown, shown, shows_row, shows_add}
use Rattle.theory.proofs.Fit.{Fit, key_kept, key_of_lem, below_keys}
use Rattle.theory.proofs.Column.{keys_read, singles, keys_singles, singles_length}
use Rattle.entry.specs.declared.Sight.{Sight}
use Rattle.entry.specs.declared.Sight.TheVariants.{Add, Strike}
use Rattle.entry.specs.Look.{look_of}
use Rattle.entry.proofs.Looks.{look_add, look_strike}
use Rattle.landing.specs.Landing.{aim, landing, key_is}
use Rattle.landing.proofs.Landed.{lands_after, lands_first, has_key}
use Rattle.landing.proofs.Known.{Known}

-- the key of an added row says where it stands
key_one : (k : ℕ) → key (k ∷ []) ≡ k
unfolding key
key_one k = refl

pub aim_add : (d : Edit) (p k : ℕ) (r : Row) → key r ≡ k → before d (aim p ADD k) ≡ before d (at p (add r))
aim_add d p k r e = before_key d p (k ∷ []) r (key_one k ∙ sym e)

-- p is the number of base keys below k
module _ (c m : ℕ) (raw K : List ℕ) (N : Known c m raw K) (k p : ℕ) (ranks : p ≡ keys_below k K) where
  abbrev L : Layer
  L = layer_of c m raw

  abbrev T : Table
  T = singles K

  abbrev shows : Bool
  shows = shown_key k (keys_after K L)

  abbrev base : Bool
  base = key_is p k K

  F : Fit T L
  F = N.good.fit

  below_p : count (below key k) T ≡ p
  below_p = sym (below_keys k T) ∙ (ap (keys_below k) (keys_singles K) ∙ sym ranks)

  -- shown keys are those of the rows that are read
  shown_keys : keys_after K L ≡ keys (read T L)
  shown_keys = ap (λ (l : List ℕ). keys_after l L) (sym (keys_singles K)) ∙ keys_read T L (key_kept T L F)

  shown_of_row : (q : Row) → Mem q (read T L) → key q ≡ k → shows ≡ true
  shown_of_row q n e = rw shown_keys
      (any_of (eqb k) (keys (read T L)) (key q) (mem_map key (read T L) q n) (eq-eqb k (key q) (sym e)))

  -- an add of key k, and the base row of key k, stand at p
  abbrev Adds : Type 0
  Adds = (s : ℕ) × (q : Row) × Mem (at s (add q)) L × (key q ≡ k)

  add_stands : (a : Adds) → a.0 ≡ p
  add_stands a = sym (F.sits a.0 a.1 a.2) ∙ (ap (λ (l : ℕ). count (below key l) T) a.3 ∙ below_p)

  row_stands : (t : ℕ) (q : Row) → At q t 0 T → key q ≡ k → t ≡ p
  row_stands t q n e = omega (
    arith,
    at_count key 0 0 T N.rising q t n,
    ap (λ (l : ℕ). count (below key l) T) e,
    below_p,
  )

  -- the base row of key k is row p
  base_row : (t : ℕ) (q : Row) → At q t 0 T → key q ≡ k → base ≡ true
  base_row t q n e =
      let f = row_stands t q n e in
      and_of (ltb p (length K)) (eqb (get_or K p 0) k)
      (lt-ltb p (length K) (omega (arith, at_length n, singles_length K, f)))
      (eq-eqb (get_or K p 0) k ((λ y. get_or (sym (keys_singles K) y) (sym f y) 0) ∙ key_of_lem n ∙ e))

  row_base : base ≡ true → At (get_or T p []) p 0 T × (key (get_or T p []) ≡ k)
  row_base b =
      let n = get_or_at T p [] (omega (
        arith,
        singles_length K,
        ltb-true p (length K) (and_l (ltb p (length K)) (eqb (get_or K p 0) k) b),
      )) in (
        n,
        sym (ap (λ (l : List ℕ). get_or l p 0) (sym (keys_singles K)) ∙ key_of_lem n)
            ∙ eqb-true (get_or K p 0) k (and_r (ltb p (length K)) (eqb (get_or K p 0) k) b),
      )

  -- a key is shown by its add, or by its base row, which is not struck
  shown_by : shows ≡ true → Adds ⊎ ((base ≡ true) × (struck p L ≡ false))
  shown_by h =
      let w = any_mem (eqb k) (keys (read T L)) (rw shown_keys at h) in
      let v = map_mem key (read T L) w.0 w.1 in
      by v.0 (shown 0 T L v.0 v.1) (sym (eqb-true k w.0 w.2 ∙ v.2))
    where
      by : (q : Row) → Shown 0 T L q → key q ≡ k → Adds ⊎ ((base ≡ true) × (struck p L ≡ false))
      by q (inl a) f = inl (a.0, q, a.1, f)
      by q (inr a) f =
          let g : key a.1 ≡ k = sym (changed_key a.0 L a.1 (key_kept T L F)) ∙ (ap key (sym a.4) ∙ f) in
          inr (
            base_row a.0 a.1 a.2 g,
            ap (λ (n : ℕ). struck n L) (sym (row_stands a.0 a.1 a.2 g)) ∙ a.3,
          )

  by_add : Adds → shows ≡ true
  by_add a =
      shown_of_row a.1 (shows_add 0 T L a.0 a.1 a.2 (omega arith)
      (omega (arith, add_stands a, below_p, count_le (below key k) T))) a.3

  by_base : base ≡ true → struck p L ≡ false → shows ≡ true
  by_base b u =
      let w = row_base b in
      shown_of_row (changed p L (get_or T p [])) (shows_row 0 T L p (get_or T p []) w.0 u)
      (changed_key p L (get_or T p []) (key_kept T L F) ∙ w.1)

  -- i is where an add of key k would land, and this is found there
  module _ (i : ℕ) (lands : i ≡ landing (aim p ADD k) L) where
    abbrev found : Option Sight
    found = look_of (drop i L)

    later : (d : Edit) → Mem d (drop i L) → before d (aim p ADD k) ≡ false
    later d n = lands_first (aim p ADD k) L i lands F.sorted d n

    -- an edit that does not stand before is the first of the others, or behind it
    first_or : (y : Edit) → Mem y L → before y (aim p ADD k) ≡ false
        → (x : Edit) × (R : Layer) × (drop i L ≡ x ∷ R) × ((y ≡ x) ⊎ (before x y ≡ true))
    first_or y n f = go (drop i L) refl (pairs_drop before i L F.sorted) behind
      where
        behind : Mem y (drop i L)
        behind =
            ⊎_elim (λ g. absurd (true≢false (sym (lands_after (aim p ADD k) L i lands y g) ∙ f))) (λ g. g)
            (append_cases (take i L) (rw (take-append-drop i L) n))

        go : (Y : Layer) → drop i L ≡ Y → AllPairs before Y → Mem y Y
            → (x : Edit) × (R : Layer) × (drop i L ≡ x ∷ R) × ((y ≡ x) ⊎ (before x y ≡ true))
        go [] e P g = absurd (not-nil g)
        go (x ∷ R) e P g = (x, R, e, ⊎_elim (λ f. inl f) (λ f. inr (P.0 y f)) (cases_cons g))

    -- an add of key k is the first of the others
    add_first : Adds → found ≡ Some (Add p k)
    add_first a =
        let y = at a.0 (add a.1) in
        let same : (x : Edit) → before x (aim p ADD k) ≡ before x y =
        λ x. aim_add x p k a.1 a.3 ∙ ap (λ (n : ℕ). before x (at n (add a.1))) (sym (add_stands a)) in
        let w = first_or y a.2 (same y ∙ not_passed (before y y) (λ g. before_asym y y g g)) in
        ⊎_elim
        (λ g. ap look_of (w.2 ∙ ap (λ (d : Edit). d ∷ w.1) (sym g)) ∙ (λ z. Some (Add (add_stands a z) (a.3 z))))
        (λ g. absurd (true≢false (sym (same w.0 ∙ g) ∙ later w.0 (rw w.2 (here refl)))))
        w.3

    add_there : (v : ℕ) → found ≡ Some (Add p v) → (r : Row) × Mem (at p (add r)) L × (key r ≡ v)
    add_there v e =
        let w = look_add L i p v e in
        (w.0, drop_mem i L (at p (add w.0)) (rw w.1.split (here refl)), w.2)

    -- the strike of row p stands there, or an add at p
    strike_first : struck p L ≡ true → ((l : ℕ) × (found ≡ Some (Strike p l))) ⊎ ((v : ℕ) × (found ≡ Some (Add p v)))
    strike_first h =
        let s = of_struck p L h in
        let w = first_or (at p (strike s.0)) s.1 (comes s.0) in
        ⊎_elim (λ g. inl (s.0, ap look_of (w.2 ∙ ap (λ (d : Edit). d ∷ w.1) (sym g))))
        (λ g. inr (before_strike w.0 w.1 w.2 s.0 g)) w.3
      where
        comes : (l : ℕ) → before (at p (strike l)) (aim p ADD k) ≡ false
        comes l =
            not_passed (before (at p (strike l)) (aim p ADD k))
            (λ h. ⊎_elim (λ g. omega arith) (λ g. true≢false (sym g.1))
            (before_cases p p (strike l) (add (k ∷ [])) h))

        level : (t : ℕ) (d : Deed) (R : Layer) → drop i L ≡ at t d ∷ R → (l : ℕ) → t ≡ p
            → deed_before d (strike l) ≡ true
            → (v : ℕ) × (found ≡ Some (Add p v))
        level t (add r) R e l q g = (key r, ap look_of e ∙ ap (λ (n : ℕ). Some (Add n (key r))) q)
        level t (strike y) R e l q g = absurd (true≢false (sym g))
        level t (change j y) R e l q g = absurd (true≢false (sym g))

        before_strike : (x : Edit) (R : Layer) → drop i L ≡ x ∷ R → (l : ℕ) → before x (at p (strike l)) ≡ true
            → (v : ℕ) × (found ≡ Some (Add p v))
        before_strike (at t d) R e l h =
            ⊎_elim
            (λ g. absurd (true≢false (sym (before_lt (at t d) (aim p ADD k) g) ∙ later (at t d) (rw e (here refl)))))
            (λ g. level t d R e l g.0 g.1) (before_cases t p d (strike l) h)

    struck_there : (l : ℕ) → found ≡ Some (Strike p l) → struck p L ≡ true
    struck_there l e =
        struck_of p l L (drop_mem i L (at p (strike l)) (rw (look_strike L i p l e).split (here refl)))

    -- where base row p has the key, an add at p has it too
    base_add : base ≡ true → (v : ℕ) → found ≡ Some (Add p v) → v ≡ k
    base_add b v e =
        let w = look_add L i p v e in
        let n : Mem (at p (add w.0)) (drop i L) = rw w.1.split (here refl) in
        let r = row_base b in
        go w.0 w.2 (later (at p (add w.0)) n) (F.sits p w.0 (drop_mem i L (at p (add w.0)) n))
        (ltb v k) refl (ltb k v) refl r
      where
        go : (q : Row) → key q ≡ v → before (at p (add q)) (aim p ADD k) ≡ false → count (below key (key q)) T ≡ p
            → (t : Bool) → ltb v k ≡ t → (u : Bool) → ltb k v ≡ u
            → At (get_or T p []) p 0 T × (key (get_or T p []) ≡ k) → v ≡ k
        go q f g s true h u h' r =
            absurd (true≢false (sym (aim_add (at p (add q)) p k (k ∷ []) (key_one k)
            ∙ before_eq p p (add q) (add (k ∷ [])) refl ((λ y. ltb (f y) (key_one k y)) ∙ h)) ∙ g))
        go q f g s false h true h' r =
            absurd (omega (
              arith,
              count_strict key T (get_or T p []) v (at_mem r.0) (omega (arith, r.1, ltb-true k v h')),
              ap (λ (n : ℕ). count (below key n) T) r.1,
              ap (λ (n : ℕ). count (below key n) T) f,
              below_p,
              s,
            ))
        go q f g s false h false h' r = omega (arith, ltb-false v k h, ltb-false k v h')

    -- no strike and no add stands there: the base row decides
    unstruck : ((l : ℕ) → found ≡ Some (Strike p l) → ⊥) → ((v : ℕ) → found ≡ Some (Add p v) → ⊥) → struck p L ≡ false
    unstruck kept none =
        not_passed (struck p L) (λ h. ⊎_elim (λ w. kept w.0 w.1) (λ w. none w.0 w.1) (strike_first h))

    pub shown_add : (s v : ℕ) → found ≡ Some (Add s v) → (base || (eqb s p && eqb v k)) ≡ shows
    shown_add s v e = same_test (base || (eqb s p && eqb v k)) shows there back
      where
        both : s ≡ p → v ≡ k → shows ≡ true
        both f g = let w = add_there k (e ∙ (λ y. Some (Add (f y) (g y)))) in by_add (p, w.0, w.1, w.2)

        own : base ≡ true → (t : Bool) → struck p L ≡ t → shows ≡ true
        own b false u = by_base b u
        own b true u =
            ⊎_elim (λ w. impossible (let z : Some (Add s v) ≡ Some (Strike p w.0) = sym e ∙ w.1 in cc))
            (λ w.
            let z : Some (Add s v) ≡ Some (Add p w.0) = sym e ∙ w.1 in
            both (cc) (let y : v ≡ w.0 = cc in y ∙ base_add b w.0 w.1)) (strike_first u)

        there : (base || (eqb s p && eqb v k)) ≡ true → shows ≡ true
        there h =
            ⊎_elim (λ b. own b (struck p L) refl)
            (λ g. both (eqb-true s p (and_l (eqb s p) (eqb v k) g)) (eqb-true v k (and_r (eqb s p) (eqb v k) g)))
            (or_cases base (eqb s p && eqb v k) h)

        back : shows ≡ true → (base || (eqb s p && eqb v k)) ≡ true
        back h =
            ⊎_elim
            (λ a.
            let z : Some (Add s v) ≡ Some (Add p k) = sym e ∙ add_first a in
            or_r base (eqb s p && eqb v k)
            (and_of (eqb s p) (eqb v k) (eq-eqb s p (cc)) (eq-eqb v k (cc))))
            (λ w. or_l base (eqb s p && eqb v k) w.0) (shown_by h)

    pub shown_strike : (s l : ℕ) → found ≡ Some (Strike s l) → (base && not (eqb s p)) ≡ shows
    shown_strike s l e = same_test (base && not (eqb s p)) shows there back
      where
        there : (base && not (eqb s p)) ≡ true → shows ≡ true
        there h =
            let n : s ≡ p → ⊥ = eqb-false s p (not-true (eqb s p) (and_r base (not (eqb s p)) h)) in
            by_base (and_l base (not (eqb s p)) h) (unstruck
            (λ x f. n (let z : Some (Strike s l) ≡ Some (Strike p x) = sym e ∙ f in cc))
            (λ v f. impossible (let z : Some (Strike s l) ≡ Some (Add p v) = sym e ∙ f in cc)))

        back : shows ≡ true → (base && not (eqb s p)) ≡ true
        back h =
            ⊎_elim (λ a. impossible (let z : Some (Strike s l) ≡ Some (Add p k) = sym e ∙ add_first a in cc))
            (λ w. and_of base (not (eqb s p)) w.0 (ap not (ne_eqb s p
            (λ f. true≢false (sym (struck_there l (e ∙ ap (λ (n : ℕ). Some (Strike n l)) f)) ∙ w.1)))))
            (shown_by h)

    pub shown_base : has_key found ≡ false → base ≡ shows
    shown_base h = same_test base shows
        (λ b.
        by_base b
        (unstruck (λ l e. true≢false (sym (ap has_key e) ∙ h)) (λ v e. true≢false (sym (ap has_key e) ∙ h))))
        (λ g. ⊎_elim (λ a. absurd (true≢false (sym (ap has_key (add_first a)) ∙ h))) (λ w. w.0) (shown_by g))
