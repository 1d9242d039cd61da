-- The deeds of a layer's meaning are those of its edits, key by key; and in a fitting layer an edit's key says its position.
-- So for each key it means nothing, an added row, a strike, an added row and a strike, or changes of cells in column order.
-- Assumes nothing.
use mathlib.Core.Path.{◌≡◌, refl, sym, ap, ◌∙◌}
use mathlib.Core.Logic.{◌⊎◌, inl, inr}
use mathlib.Core.Bool.{Bool, true, false, cond, true≢false}
use mathlib.Core.List.Memᴰ.{cast as mem_cast}
use mathlib.Core.List.Memᴰ.{head as here}
use mathlib.Core.List.Memᴰ.{not-nil}
use mathlib.Core.List.Memᴰ.{tail as next}
use mathlib.Core.List.{
  List,
  [],
  ◌∷◌,
  ◌++◌,
  Memᴰ as Mem,
}
use Prim.Native.Nat.{ℕ}
use native.Mathlib.Omega.{arith}
use lib.ListN.{get_or}
use lib.Dec.{eqb}
use borrow.Author.Tests.{eqb-true, eq-eqb}
use Rattle.order.specs.Lists.{count, in_turn}
use Rattle.order.proofs.Members.{gather_mem, mem_gather}
use Rattle.order.proofs.Tests.{tests, impossible, not_passed}
use Rattle.order.proofs.Pairs.{AllPairs, pairs_two}
use Rattle.order.proofs.Ascending.{AscFrom, At, below, at_count}
use Rattle.model.specs.Row.{Row, Table, key, keys}
use Rattle.model.specs.Cell.{CellEdit}
use Rattle.model.specs.Layer.{Deed, add, strike, change, Edit, at, Layer, struck}
use Rattle.model.specs.Edits.{deed_before, before}
use Rattle.model.specs.Meaning.{key_of, concerning, meaning}
use Rattle.theory.proofs.Layer.{of_struck}
use Rattle.theory.proofs.Edits.{level}
use Rattle.theory.proofs.Fit.{Fit, key_of_lem}

-- a deed that a layer means for a key is that of one of its edits, which concerns the key
pub meaning_mem : (K : List ℕ) (L : Layer) (k : ℕ) (d : Deed) → Mem d (meaning K L k)
    → (s : ℕ) × Mem (at s d) L × (key_of K (at s d) ≡ k)
unfolding meaning
meaning_mem K L k d m = let w = gather_mem (concerning K k) L d m in go w.0 w.1 w.2
  where
    one : (s : ℕ) (e : Deed) → Mem (at s e) L → (t : Bool) → eqb (key_of K (at s e)) k ≡ t → Mem d (cond t (e ∷ []) [])
        → (s : ℕ) × Mem (at s d) L × (key_of K (at s d) ≡ k)
    one s e n true f (here h) =
        (s, mem_cast {b = at s e} (ap (at s) h) n, ap (λ (x : Deed). key_of K (at s x)) h ∙ eqb-true (key_of K (at s e)) k f)
    one s e n true f (next l) = absurd (not-nil l)
    one s e n false f l = absurd (not-nil l)

    go : (e : Edit) → Mem e L → Mem d (concerning K k e) → (s : ℕ) × Mem (at s d) L × (key_of K (at s d) ≡ k)
    go (at s e) n l = one s e n (eqb (key_of K (at s e)) k) refl l

-- and the deed of every edit is meant for the key that the edit concerns
pub mem_meaning : (K : List ℕ) (L : Layer) (k s : ℕ) (d : Deed) → Mem (at s d) L → key_of K (at s d) ≡ k → Mem d (meaning K L k)
unfolding meaning
mem_meaning K L k s d m e = mem_gather (concerning K k) L (at s d) d m (rw (eq-eqb (key_of K (at s d)) k e) (here refl))

-- what is so of the adds, the strikes and the changes among deeds is so of them all
pub by_deed : (Q : Deed → Type 0) (ds : List Deed) → ((r : Row) → Mem (add r) ds → Q (add r))
    → ((k : ℕ) → Mem (strike k) ds → Q (strike k))
    → ((j : ℕ) (e : CellEdit) → Mem (change j e) ds → Q (change j e)) → (d : Deed) → Mem d ds → Q d
by_deed Q ds a s c (add r) m = a r m
by_deed Q ds a s c (strike k) m = s k m
by_deed Q ds a s c (change j e) m = c j e m

-- a deed done where it concerns the key, and one that does nothing
module _ {S : Type 0} (f : Deed → S → S) where
  pub done_if : (t : Bool) (d : Deed) (x : S) → cond t (f d x) x ≡ in_turn f (cond t (d ∷ []) []) x
  done_if true d x = refl
  done_if false d x = refl

  pub done_not : (t : Bool) (d : Deed) (x : S) → f d x ≡ x → x ≡ in_turn f (cond t (d ∷ []) []) x
  done_not true d x h = sym h
  done_not false d x h = refl

-- an edit's position is the number of keys below the one that it concerns
module _ (T : Table) (L : Layer) (a : AscFrom key 0 T) (F : Fit T L) where
  row_position : (s : ℕ) (q : Row) (k : ℕ) → At q s 0 T → key q ≡ k → count (below key k) T ≡ s
  row_position s q k n e = omega (arith, at_count key 0 0 T a q s n, ap (λ (l : ℕ). count (below key l) T) e)

  pub position_of : (s : ℕ) (d : Deed) → Mem (at s d) L → count (below key (key_of (keys T) (at s d))) T ≡ s
  position_of s (add r) m = F.sits s r m
  position_of s (strike k) m = let w = F.strikes s k m in row_position s w.0 k w.1 w.2
  position_of s (change j e) m =
      let w = F.changes s j e m in row_position s w.0 (get_or (keys T) s 0) w.1 (sym (key_of_lem w.1))

  -- so two edits that concern one key stand at one position
  pub one_position : (p s : ℕ) (d e : Deed) → Mem (at p d) L → Mem (at s e) L
      → key_of (keys T) (at p d) ≡ key_of (keys T) (at s e) → p ≡ s
  one_position p s d e m n k =
      sym (position_of p d m) ∙ (ap (λ (l : ℕ). count (below key l) T) k ∙ position_of s e n)

-- a row that is changed is not struck
pub changed_kept : (L : Layer) → AllPairs before L → (s j : ℕ) (e : CellEdit) → Mem (at s (change j e)) L → struck s L ≡ false
changed_kept L o s j e m = not_passed (struck s L) no
  where
    no : struck s L ≡ true → ⊥
    no u = let w = of_struck s L u in go w.0 (pairs_two before L o (at s (change j e)) (at s (strike w.0)) m w.1)
      where
        go : (k : ℕ) → (at s (change j e) ≡ at s (strike k))
            ⊎ ((before (at s (change j e)) (at s (strike k)) ≡ true)
            ⊎ (before (at s (strike k)) (at s (change j e)) ≡ true)) → ⊥
        go k (inl h) = impossible (cc)
        go k (inr (inl h)) = true≢false (sym (level s s (change j e) (strike k) refl h))
        go k (inr (inr h)) = true≢false (sym (level s s (strike k) (change j e) refl h))

-- the deeds for one key keep the order of their edits
meaning_order : (K : List ℕ) (L : Layer) (g : ℕ) → AllPairs before L
    → ((p s : ℕ) (d e : Deed) → Mem (at p d) L → Mem (at s e) L → key_of K (at p d) ≡ key_of K (at s e) → p ≡ s)
    → AllPairs deed_before (meaning K L g)
unfolding meaning
meaning_order K [] g o h = tt
meaning_order K (at p d ∷ L) g o h =
    go (meaning_order K L g o.1 (λ p' s' d' e' m n. h p' s' d' e' (next m) (next n))) (eqb (key_of K (at p d)) g) refl
  where
    go : AllPairs deed_before (meaning K L g) → (t : Bool) → eqb (key_of K (at p d)) g ≡ t
        → AllPairs deed_before (cond t (d ∷ []) [] ++ meaning K L g)
    go ih true f = (later, ih)
      where
        later : (e : Deed) → Mem e (meaning K L g) → deed_before d e ≡ true
        later e m =
            let w = meaning_mem K L g e m in
            level p w.0 d e (h p w.0 d e (here refl) (next w.1) (eqb-true (key_of K (at p d)) g f ∙ sym w.2))
            (o.0 (at w.0 e) w.1)
    go ih false f = ih

-- what a layer can mean for the key g
pub data Meant (g : ℕ) : List Deed → Type 0 where
  nothing : Meant g []
  adds : (r : Row) → key r ≡ g → Meant g (add r ∷ [])
  strikes : Meant g (strike g ∷ [])
  replaces : (r : Row) → key r ≡ g → Meant g (add r ∷ strike g ∷ [])
  changes : (ds : List Deed) → ((d : Deed) → Mem d ds → (j : ℕ) × (e : CellEdit) × (d ≡ change j e)) → AllPairs deed_before ds
      → Meant g ds

meant_of : (g : ℕ) (ds : List Deed) → AllPairs deed_before ds → ((r : Row) → Mem (add r) ds → key r ≡ g)
    → ((k : ℕ) → Mem (strike k) ds → k ≡ g) → ((r : Row) (j : ℕ) (e : CellEdit) → Mem (add r) ds → Mem (change j e) ds → ⊥)
    → Meant g ds
meant_of g [] o hA hS hC = nothing
meant_of g (add r ∷ []) o hA hS hC = adds r (hA r (here refl))
meant_of g (add r ∷ add q ∷ ds) o hA hS hC =
    let h : deed_before (add r) (add q) ≡ true = o.0 (add q) (here refl) in
    absurd (omega (tests, hA r (here refl), hA q (next (here refl))))
meant_of g (add r ∷ strike k ∷ []) o hA hS hC = rw (hS k (next (here refl))) (replaces r (hA r (here refl)))
meant_of g (add r ∷ strike k ∷ d ∷ ds) o hA hS hC = absurd (true≢false (sym (o.1.0 d (here refl))))
meant_of g (add r ∷ change j e ∷ ds) o hA hS hC = absurd (hC r j e (here refl) (next (here refl)))
meant_of g (strike k ∷ []) o hA hS hC = rw (hS k (here refl)) strikes
meant_of g (strike k ∷ d ∷ ds) o hA hS hC = absurd (true≢false (sym (o.0 d (here refl))))
meant_of g (change j e ∷ ds) o hA hS hC = changes (change j e ∷ ds) each o
  where
    rest : (d : Deed) → deed_before (change j e) d ≡ true → (i : ℕ) × (f : CellEdit) × (d ≡ change i f)
    rest (add r) h = absurd (true≢false (sym h))
    rest (strike k) h = absurd (true≢false (sym h))
    rest (change i f) h = (i, f, refl)

    each : (d : Deed) → Mem d (change j e ∷ ds) → (i : ℕ) × (f : CellEdit) × (d ≡ change i f)
    each d (here h) = (j, e, h)
    each d (next m) = rest d (o.0 d m)

pub meaning_shape : (T : Table) (L : Layer) → AscFrom key 0 T → Fit T L → (g : ℕ) → Meant g (meaning (keys T) L g)
meaning_shape T L a F g =
    meant_of g (meaning (keys T) L g) (meaning_order (keys T) L g F.sorted (one_position T L a F))
    (λ r m. (meaning_mem (keys T) L g (add r) m).2)
    (λ k m. (meaning_mem (keys T) L g (strike k) m).2)
    (λ r j e m n.
    let w = meaning_mem (keys T) L g (add r) m in
    let z = meaning_mem (keys T) L g (change j e) n in
    let b = F.changes z.0 j e z.1 in
    true≢false (sym (F.fresh w.0 r w.1 z.0 b.0 b.1 (sym (key_of_lem b.1) ∙ (z.2 ∙ sym w.2)))
    ∙ changed_kept L F.sorted z.0 j e z.1))
