-- A fitting layer is sorted by key, and for one key by its deeds; and it is the only list so sorted with its
-- positions and meaning.
-- Assumes nothing.
use mathlib.Core.Path.{◌≡◌, refl, sym, ap, subst, ◌∙◌}
use mathlib.Core.Logic.{◌⊎◌, inl, inr}
use mathlib.Core.Bool.{Bool, true, false, ◌&&◌, ◌||◌, true≢false}
use mathlib.Core.List.Memᴰ.{head as here}
use mathlib.Core.List.Memᴰ.{tail as next}
use mathlib.Core.List.{List, [], ◌∷◌, Memᴰ as Mem}
use Prim.Native.Nat.{ℕ, ◌≤◌, ◌<◌}
use native.Mathlib.Omega.{arith}
use lib.ListN.{get_or}
use lib.Dec.{ltb, eqb}
use borrow.Author.Tests.{ltb-true, ltb-false, eqb-true, eqb-false, eq-eqb, ne_eqb}
use Rattle.order.proofs.Tests.{impossible, tests, lex_cases, lex_lt, lex_eq}
use Rattle.order.proofs.Pairs.{AllPairs, pairs_weaker}
use Rattle.order.proofs.Ascending.{AscFrom, At, at_mem, at_count, count_strict, count_rise}
use Rattle.model.specs.Row.{Row, Table, key, keys}
use Rattle.model.specs.Layer.{Deed, add, strike, change, Edit, at, Layer, position}
use Rattle.model.specs.Fit.{keys_below}
use Rattle.model.specs.Edits.{deed_before, before}
use Rattle.model.specs.Meaning.{key_of, meaning}
use Rattle.theory.proofs.Edits.{before_cases}
use Rattle.theory.proofs.Fit.{Fit, key_of_lem, below_keys}
use Rattle.theory.proofs.Meaning.{meaning_mem, position_of, changed_kept}
use Rattle.woven.specs.Woven.{deed}
use Rattle.woven.proofs.Deeds.{then, After}

-- first by key, then by deed
abbrev pub keyed : List ℕ → Edit → Edit → Bool
keyed K d e = ltb (key_of K d) (key_of K e) || (eqb (key_of K d) (key_of K e) && then (deed d) (deed e))

module _ (T : Table) (L : Layer) (a : AscFrom key 0 T) (F : Fit T L) where
  abbrev K : List ℕ
  K = keys T

  -- an add's key is at most that of the base row at its position
  add_upto : (s : ℕ) (q r : Row) → Mem (at s (add q)) L → At r s 0 T → key q ≤ key r
  add_upto s q r m n = go (ltb (key r) (key q)) refl
    where
      go : (t : Bool) → ltb (key r) (key q) ≡ t → key q ≤ key r
      go true e = absurd (omega (
        arith,
        F.sits s q m,
        at_count key 0 0 T a r s n,
        count_strict key T r (key q) (at_mem n) (ltb-true (key r) (key q) e),
      ))
      go false e = ltb-false (key r) (key q) e

  one_place : (s : ℕ) (d e : Deed) → Mem (at s d) L → Mem (at s e) L → deed_before d e ≡ true
      → keyed K (at s d) (at s e) ≡ true
  one_place s (add q) (add r) m n h = lex_lt (key q) (key r) false (ltb-true (key q) (key r) h)
  one_place s (add q) (strike k) m n h =
      let w = F.strikes s k n in go (ltb (key q) k) refl (omega (arith, add_upto s q w.0 m w.1, w.2))
    where
      go : (t : Bool) → ltb (key q) k ≡ t → key q ≤ k → ltb (key q) k || (eqb (key q) k && true) ≡ true
      go true e l = lex_lt (key q) k true (ltb-true (key q) k e)
      go false e l = lex_eq (key q) k true (omega tests) refl
  one_place s (add q) (change j f) m n h =
      let w = F.changes s j f n in
      let g = key_of_lem w.1 in
      let other : key w.0 ≡ key q → ⊥ =
      λ z. true≢false (sym (F.fresh s q m s w.0 w.1 z) ∙ changed_kept L F.sorted s j f n) in
      lex_lt (key q) (get_or K s 0) false (omega (arith, g, add_upto s q w.0 m w.1))
  one_place s (strike k) e m n h = absurd (true≢false (sym h))
  one_place s (change i g) (add r) m n h = absurd (true≢false (sym h))
  one_place s (change i g) (strike k) m n h = absurd (true≢false (sym h))
  one_place s (change i g) (change j f) m n h = lex_eq (get_or K s 0) (get_or K s 0) (ltb i j) refl h

  pub keyed_order : AllPairs (keyed K) L
  keyed_order = pairs_weaker before (keyed K) L each F.sorted
    where
      each : (x y : Edit) → Mem x L → Mem y L → before x y ≡ true → keyed K x y ≡ true
      each (at p d) (at s e) m n h = go (before_cases p s d e h)
        where
          go : (p < s) ⊎ ((p ≡ s) × (deed_before d e ≡ true)) → keyed K (at p d) (at s e) ≡ true
          go (inl l) = lex_lt (key_of K (at p d)) (key_of K (at s e)) (then d e)
              (count_rise key T (key_of K (at p d)) (key_of K (at s e))
              (omega (arith, position_of T L a F p d m, position_of T L a F s e n)))
          go (inr w) =
              subst (λ (x : ℕ). keyed K (at x d) (at s e) ≡ true) (sym w.0)
              (one_place s d e (subst (λ (x : ℕ). Mem (at x d) L) w.0 m) n w.1)

  pub key_position : (e : Edit) → Mem e L → position e ≡ keys_below (key_of K e) K
  key_position (at s d) m = sym (position_of T L a F s d m) ∙ sym (below_keys (key_of K (at s d)) T)

module _ (K : List ℕ) where
  -- what a layer with one edit more means for a key
  pub meaning_here : (e : Edit) (L : Layer) (k : ℕ) → key_of K e ≡ k → meaning K (e ∷ L) k ≡ deed e ∷ meaning K L k
  unfolding meaning
  meaning_here (at s d) L k h = rw (eq-eqb (key_of K (at s d)) k h)

  pub meaning_other : (e : Edit) (L : Layer) (k : ℕ) → (key_of K e ≡ k → ⊥) → meaning K (e ∷ L) k ≡ meaning K L k
  unfolding meaning
  meaning_other (at s d) L k h = rw (ne_eqb (key_of K (at s d)) k h)

  pub meaning_nil : (k : ℕ) → meaning K [] k ≡ []
  unfolding meaning
  meaning_nil k = refl

  pub meaning_none : (L : Layer) (k : ℕ) → ((e : Edit) → Mem e L → key_of K e ≡ k → ⊥) → meaning K L k ≡ []
  meaning_none [] k h = meaning_nil k
  meaning_none (e ∷ L) k h = meaning_other e L k (h e (here refl)) ∙ meaning_none L k (λ x m. h x (next m))

  -- of a sorted layer: no later key is lower, and for the first key its deed is the first
  pub keys_on : (e : Edit) (L : Layer) → AllPairs (keyed K) (e ∷ L) → (f : Edit) → Mem f L → key_of K e ≤ key_of K f
  keys_on e L o f m = go (lex_cases (key_of K e) (key_of K f) (then (deed e) (deed f)) (o.0 f m))
    where
      go : (key_of K e < key_of K f) ⊎ ((key_of K e ≡ key_of K f) × (then (deed e) (deed f) ≡ true)) → key_of K e ≤ key_of K f
      go (inl l) = omega arith
      go (inr w) = omega (arith, w.0)

  pub then_on : (e : Edit) (L : Layer) → AllPairs (keyed K) (e ∷ L) → (f : Edit) → Mem f L → key_of K f ≡ key_of K e
      → then (deed e) (deed f) ≡ true
  then_on e L o f m h = go (lex_cases (key_of K e) (key_of K f) (then (deed e) (deed f)) (o.0 f m))
    where
      go : (key_of K e < key_of K f) ⊎ ((key_of K e ≡ key_of K f) × (then (deed e) (deed f) ≡ true))
          → then (deed e) (deed f) ≡ true
      go (inl l) = absurd (omega arith)
      go (inr w) = w.1

  pub deeds_on : (e : Edit) (L : Layer) → AllPairs (keyed K) (e ∷ L) → (k : ℕ) → key_of K e ≡ k
      → After (deed e) (meaning K L k)
  deeds_on e L o k h x m =
      let w = meaning_mem K L k x m in then_on e L o (at w.0 x) w.1 (w.2 ∙ sym h)

  -- keys from b on that never fall
  abbrev pub KeysFrom : ℕ → Layer → Type 0
  KeysFrom b [] = Unit {0}
  KeysFrom b (e ∷ L) = (b ≤ key_of K e) × KeysFrom (key_of K e) L

  pub keys_from : (b : ℕ) (L : Layer) → AllPairs (keyed K) L → ((e : Edit) → Mem e L → b ≤ key_of K e) → KeysFrom b L
  keys_from b [] o h = tt
  keys_from b (e ∷ L) o h = (h e (here refl), keys_from (key_of K e) L o.1 (keys_on e L o))

  keys_least : (b : ℕ) (L : Layer) → KeysFrom b L → (e : Edit) → Mem e L → b ≤ key_of K e
  keys_least b [] o e x'' = elim x'' [ ]
  keys_least b (x ∷ L) o e (here h) = omega (arith, o.0, ap (key_of K) h)
  keys_least b (x ∷ L) o e (next m) = omega (arith, o.0, keys_least (key_of K x) L o.1 e m)

  -- each edit stands where its key says
  abbrev pub Sits : Layer → Type 0
  Sits L = (e : Edit) → Mem e L → position e ≡ keys_below (key_of K e) K

  -- two lists so sorted, with their positions, that mean the same for every key, are one
  first_key : (e f : Edit) (L M : Layer) → KeysFrom (key_of K f) M
      → ((k : ℕ) → meaning K (e ∷ L) k ≡ meaning K (f ∷ M) k)
      → key_of K f ≤ key_of K e
  first_key e f L M o same = go (ltb (key_of K e) (key_of K f)) refl
    where
      go : (t : Bool) → ltb (key_of K e) (key_of K f) ≡ t → key_of K f ≤ key_of K e
      go false h = ltb-false (key_of K e) (key_of K f) h
      go true h =
          let l : key_of K e < key_of K f = ltb-true (key_of K e) (key_of K f) h in
          let n : meaning K (f ∷ M) (key_of K e) ≡ [] = meaning_none (f ∷ M) (key_of K e)
          (λ x m g. omega (arith, on x m)) in
          let p : deed e ∷ meaning K L (key_of K e) ≡ [] = sym (meaning_here e L (key_of K e) refl)
          ∙ (same (key_of K e) ∙ n) in
          impossible (cc)
        where
          on : (x : Edit) → Mem x (f ∷ M) → key_of K f ≤ key_of K x
          on x (here g) = omega (arith, ap (key_of K) g)
          on x (next m) = keys_least (key_of K f) M o x m

  pub one_list : (b : ℕ) (L M : Layer) → KeysFrom b L → KeysFrom b M → Sits L → Sits M
      → ((k : ℕ) → meaning K L k ≡ meaning K M k) → L ≡ M
  one_list b [] [] o p s t same = refl
  one_list b [] (f ∷ M) o p s t same =
      let q : [] ≡ deed f ∷ meaning K M (key_of K f) = sym (meaning_nil (key_of K f))
      ∙ (same (key_of K f) ∙ meaning_here f M (key_of K f) refl) in
      impossible (cc)
  one_list b (e ∷ L) [] o p s t same =
      let q : deed e ∷ meaning K L (key_of K e) ≡ [] = sym (meaning_here e L (key_of K e) refl)
      ∙ (same (key_of K e) ∙ meaning_nil (key_of K e)) in
      impossible (cc)
  one_list b (at s d ∷ L) (at p g ∷ M) oL oM sL sM same =
      heads (key_of K (at s d)) refl
      (omega (
        arith,
        first_key (at s d) (at p g) L M oM.1 same,
        first_key (at p g) (at s d) M L oL.1
            (λ k. sym (same k)),
      ))
      (λ k o q t. one_list k L M o q (λ e m. sL e (next m)) (λ e m. sM e (next m)) t)
    where
      heads : (k : ℕ) → key_of K (at s d) ≡ k → key_of K (at p g) ≡ k
          → ((l : ℕ) → KeysFrom l L → KeysFrom l M → ((i : ℕ) → meaning K L i ≡ meaning K M i) → L ≡ M)
          → at s d ∷ L ≡ at p g ∷ M
      heads k h h' ih =
          let q : d ∷ meaning K L k ≡ g ∷ meaning K M k =
          sym (meaning_here (at s d) L k h) ∙ (same k ∙ meaning_here (at p g) M k h') in
          let dg : d ≡ g = cc in
          let sp : s ≡ p = sL (at s d) (here refl) ∙ (ap (λ (l : ℕ). keys_below l K) (h ∙ sym h')
          ∙ sym (sM (at p g) (here refl))) in
          let rest : L ≡ M =
          ih k (subst (λ (l : ℕ). KeysFrom l L) h oL.1) (subst (λ (l : ℕ). KeysFrom l M) h' oM.1) tails in
          cc
        where
          tails : (l : ℕ) → meaning K L l ≡ meaning K M l
          tails l = go (eqb k l) refl
            where
              go : (t : Bool) → eqb k l ≡ t → meaning K L l ≡ meaning K M l
              go true e =
                  let kl : k ≡ l = eqb-true k l e in
                  let q : d ∷ meaning K L l ≡ g ∷ meaning K M l =
                  sym (meaning_here (at s d) L l (h ∙ kl)) ∙ (same l ∙ meaning_here (at p g) M l (h' ∙ kl)) in
                  cc
              go false e =
                  sym (meaning_other (at s d) L l (λ z. eqb-false k l e (sym h ∙ z)))
                  ∙ (same l ∙ meaning_other (at p g) M l (λ z. eqb-false k l e (sym h' ∙ z)))
