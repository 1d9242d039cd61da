-- A layer written out and read back is the layer that it was, and its entries have their zeros.
-- Assumes nothing.
use Prim.Native.Nat.{ℕ, zero, suc, ◌+◌, ◌-◌, ◌≤◌, ◌<◌}
use native.Mathlib.Omega.{arith}
use mathlib.Core.Path.{◌≡◌, refl, sym, ap, ◌∙◌}
use mathlib.Core.Logic.{⊎_elim}
use mathlib.Core.Bool.{true, ◌&&◌}
use mathlib.Core.List.Memᴰ.{cases_cons}
use mathlib.Core.List.Memᴰ.{head as here}
use mathlib.Core.List.Memᴰ.{not-nil}
use mathlib.Core.List.Memᴰ.{tail as next}
use mathlib.Core.List.{
  List,
  [],
  ◌∷◌,
  ◌++◌,
  append_assoc,
  map,
  Memᴰ as Mem,
}
use lib.ListN.{length, get_or, take, drop, replicate, length-replicate}
use lib.Seq.{take-append-le, take_all, take_at}
use lib.Dec.{leb, ltb, eqb}
use borrow.Author.Tests.{ltb-true, eqb-true, ne_eqb}
use Rattle.order.specs.Lists.{gather, all}
use Rattle.order.proofs.Tests.{and_r, or_r}
use Rattle.words.specs.declared.Entry.{Entry}
use Rattle.model.specs.Row.{Row}
use Rattle.model.specs.Cell.{to}
use Rattle.model.specs.Layer.{add, strike, change, Edit, at, Layer}
use Rattle.model.specs.Raw.{entry_at, entries_at, entries_of, edit_of, numbers_of, layer_of, flat}
use Rattle.words.specs.Entry.{ADD, STRIKE}
use Rattle.model.specs.Form.{zeros, sound}
use Rattle.theory.proofs.Raw.{entries_past}

-- a sound edit has c + 2 numbers
pub sound_wide : (c n : ℕ) → 1 ≤ c → (e : Edit) → sound c n e ≡ true → length (numbers_of c e) ≡ c + 2
sound_wide c n l (at s (add r)) h = omega (arith, eqb-true (length r) c (and_r (leb s n) (eqb (length r) c) h))
sound_wide c n l (at s (strike k)) h = omega (arith, length-replicate {A = ℕ} (c - 1) 0)
sound_wide c n l (at s (change j (to v))) h = omega (arith, length-replicate {A = ℕ} (c - 1) 0)

module _ (c n : ℕ) (some : 1 ≤ c) (few : c ≤ 8) where
  first : (v : ℕ) (vs : List ℕ) → get_or (take c (v ∷ vs)) 0 0 ≡ v
  first v vs = let e : c ≡ suc (c - 1) = omega arith in rw e

  read_one : (e : Edit) (zs : List ℕ) → sound c n e ≡ true → edit_of (entry_at c 0 (numbers_of c e ++ zs)) ≡ e
  read_one (at s (add r)) zs h =
      let l : length r ≡ c = eqb-true (length r) c (and_r (leb s n) (eqb (length r) c) h) in
      ap (λ (v : Row). at s (add v)) (take-append-le c r zs (omega arith) ∙ take_all c r (omega arith))
  read_one (at s (strike k)) zs h = ap (λ (v : ℕ). at s (strike v)) (first k (replicate (c - 1) 0 ++ zs))
  read_one (at s (change j (to v))) zs h =
      let l : j < c = ltb-true j c (and_r (leb 1 j) (ltb j c) (and_r (ltb s n) (leb 1 j && ltb j c) h)) in
      rw (ne_eqb j ADD (λ e. omega arith), ne_eqb j STRIKE (λ e. omega arith))
      (ap (λ (w : ℕ). at s (change j (to w))) (first v (replicate (c - 1) 0 ++ zs)))

  read_all : (L : Layer) (zs : List ℕ) → ((e : Edit) → Mem e L → sound c n e ≡ true)
      → map edit_of (entries_at c (length L) 0 (gather (numbers_of c) L ++ zs)) ≡ L
  unfolding entries_at
  read_all [] zs h = refl
  read_all (e ∷ L) zs h =
      let w : length (numbers_of c e) ≡ c + 2 = sound_wide c n some e (h e (here refl)) in
      let from : 0 + (c + 2) ≡ length (numbers_of c e) + 0 = omega arith in
      let one = read_one e (gather (numbers_of c) L ++ zs) (h e (here refl)) in
      let rest = read_all L zs (λ d m. h d (next m)) in
      rw (
        append_assoc (numbers_of c e) (gather (numbers_of c) L) zs,
        from,
        entries_past c (length L) 0 (numbers_of c e)
            (gather (numbers_of c) L ++ zs),
      )
      (λ i. one i ∷ rest i)

  -- the first m entries of a slice that begins with a layer's numbers are the layer
  pub read_back : (m : ℕ) (L : Layer) (zs : List ℕ) → length L ≡ m → ((e : Edit) → Mem e L → sound c n e ≡ true)
      → layer_of c m (flat c L ++ zs) ≡ L
  unfolding layer_of flat
  read_back m L zs l h = ap (λ (k : ℕ). map edit_of (entries_at c k 0 (gather (numbers_of c) L ++ zs))) (sym l)
      ∙ read_all L zs h

  -- its entries have their zeros
  all_zero : (k : ℕ) → all (λ v. eqb v 0) (replicate k 0) ≡ true
  all_zero zero = refl
  all_zero (suc k) = all_zero k

  behind : (v : ℕ) (zs : List ℕ) → all (λ x. eqb x 0) (drop 1 (take c (v ∷ replicate (c - 1) 0 ++ zs))) ≡ true
  behind v zs =
      let e : c ≡ suc (c - 1) = omega arith in
      ap (λ (k : ℕ). all (λ x. eqb x 0) (drop 1 (take k (v ∷ replicate (c - 1) 0 ++ zs)))) e
      ∙ (ap (all (λ x. eqb x 0)) (take_at (replicate (c - 1) 0) zs (c - 1) (length-replicate {A = ℕ} (c - 1) 0))
      ∙ all_zero (c - 1))

  zeros_one : (e : Edit) (zs : List ℕ) → sound c n e ≡ true → zeros (entry_at c 0 (numbers_of c e ++ zs)) ≡ true
  zeros_one (at s (add r)) zs h = refl
  zeros_one (at s (strike k)) zs h = behind k zs
  zeros_one (at s (change j (to v))) zs h = or_r (eqb j ADD) _ (behind v zs)

  zeros_all : (L : Layer) (zs : List ℕ) → ((e : Edit) → Mem e L → sound c n e ≡ true)
      → (d : Entry) → Mem d (entries_at c (length L) 0 (gather (numbers_of c) L ++ zs)) → zeros d ≡ true
  unfolding entries_at
  zeros_all [] zs h d m = absurd (not-nil m)
  zeros_all (e ∷ L) zs h d m =
      let w : length (numbers_of c e) ≡ c + 2 = sound_wide c n some e (h e (here refl)) in
      let from : 0 + (c + 2) ≡ length (numbers_of c e) + 0 = omega arith in
      ⊎_elim (λ g. ap zeros g ∙ zeros_one e (gather (numbers_of c) L ++ zs) (h e (here refl)))
      (λ k. zeros_all L zs (λ x l. h x (next l)) d k)
      (cases_cons (rw (
        append_assoc (numbers_of c e) (gather (numbers_of c) L) zs,
        from,
        entries_past c (length L) 0
            (numbers_of c e) (gather (numbers_of c) L ++ zs),
      ) at m))

  pub zeros_back : (m : ℕ) (L : Layer) (zs : List ℕ) → length L ≡ m → ((e : Edit) → Mem e L → sound c n e ≡ true)
      → (d : Entry) → Mem d (entries_of c m (flat c L ++ zs)) → zeros d ≡ true
  unfolding flat
  zeros_back m L zs l h d k = zeros_all L zs h d (rw (sym l) at k)
