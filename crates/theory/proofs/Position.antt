-- Theorem 5: row numbers and origins are inverse, a row number is a position and its shift, the shift is bounded.
-- Assumes nothing.
use Prim.Native.Nat.{ℕ, zero, suc, ◌+◌, ◌-◌, ◌≤◌, ◌<◌}
use native.Mathlib.Nat.{add-zero, zero-add}
use native.Mathlib.Omega.{arith}
use mathlib.Core.Path.{◌≡◌, refl, sym, ap, subst, ◌∙◌}
use mathlib.Core.Logic.{◌⊎◌, inl, inr, ⊎_elim}
use mathlib.Core.Bool.{Bool, true, false, not, cond, ◌&&◌, ◌||◌, true≢false}
use mathlib.Core.List.Memᴰ.{append_right as in_right}
use mathlib.Core.List.Memᴰ.{head as here}
use mathlib.Core.List.Memᴰ.{not-nil}
use mathlib.Core.List.Memᴰ.{tail as next}
use mathlib.Core.List.{
  List,
  [],
  ◌∷◌,
  ◌++◌,
  map,
  Memᴰ as Mem,
}
use lib.ListN.{length, get_or, take, drop, replicate, length-replicate, length-append, get_or-eq_default}
use lib.Seq.{append_snoc, get_or-append_seam, take-append_seam, split_at, length-take-le}
use lib.IntN.{ℤ, pos, negsuc, nat_abs, sub_ℕ, ◌+ℤ◌}
use lib.Dec.{leb, ltb, eqb, leb-suc-suc}
use borrow.Author.Tests.{
  ltb-true,
  ltb-false,
  leb-true,
  leb-false,
  eqb-true,
  lt-ltb,
  le-ltb,
  le-leb,
  lt-leb,
  eq-eqb,
  ne_eqb,
  not-true,
}
use Rattle.words.specs.declared.Origin.{Origin}
use Rattle.words.specs.declared.Origin.TheVariants.{Base as base, Added as added}
use Rattle.order.specs.Lists.{one, count, least_broken}
use Rattle.order.proofs.Tests.{tests, impossible, and_l, and_r, and_of, one_le, lex_cases}
use Rattle.order.proofs.Counts.{count_append, count_le}
use Rattle.order.proofs.Members.{mem_map, map_mem}
use Rattle.order.proofs.Pairs.{AllPairs, Unbroken, unbroken}
use Rattle.order.proofs.Ascending.{At, top, deep, get_or_at, at_get_or, mem_at, at_mem, at_length}
use Rattle.model.specs.Row.{Row}
use Rattle.model.specs.Layer.{
  Deed,
  add,
  strike,
  change,
  Edit,
  at,
  Layer,
  position,
  on_add,
  is_add,
  is_strike,
  rows_after,
  strikes_row,
  struck,
}
use Rattle.model.specs.Form.{sound, after, follows, in_order}
use Rattle.model.specs.Read.{unless}
use Rattle.model.specs.Position.{add_up_to, strike_before, shift, row_of, add_numbers, origins_from, origins, back}
use Rattle.model.specs.Move.{add_before}
use Rattle.theory.proofs.Layer.{adds_same, adds_sum, adds_zero, strikes_same, strikes_sum, strikes_zero}
use Rattle.theory.proofs.Through.{unless_mem, mem_unless, Comes, through_mem, added_through, shown_through}

-- What a layer in order gives: each edit is sound, and follows each earlier one.
pub formed : (c n : ℕ) (L : Layer) → in_order c n L ≡ true → Unbroken (sound c n) follows [] L
unfolding in_order
formed c n L h =
    unbroken (sound c n) follows [] L (eqb-true (least_broken (sound c n) follows [] L) (length L) h)

-- of a layer that splits at e: what stands before e is followed by e, and e by what stands after
pub pairs_at : (E : Layer) (e : Edit) (M : Layer) → AllPairs follows (E ++ (e ∷ M))
    → ((x : Edit) → Mem x E → follows x e ≡ true) × ((x : Edit) → Mem x M → follows e x ≡ true)
pairs_at [] e M p = ((λ x m. absurd (not-nil m)), p.0)
pairs_at (z ∷ E) e M p = let w = pairs_at E e M p.1 in (first w.0, w.1)
  where
    first : ((x : Edit) → Mem x E → follows x e ≡ true) → (x : Edit) → Mem x (z ∷ E) → follows x e ≡ true
    first w x (here f) = ap (λ (u : Edit). follows u e) f ∙ p.0 e (in_right E (here refl))
    first w x (next m) = w x m

-- an edit stands at or after the one that it follows, and after a strike
pub follows_pos : (p s : ℕ) (d e : Deed) → follows (at p d) (at s e) ≡ true → p ≤ s
follows_pos p s d e h = ⊎_elim (λ l. omega arith) (λ w. omega (arith, w.0)) (lex_cases p s (after d e) h)

pub follows_strike : (p s k : ℕ) (e : Deed) → follows (at p (strike k)) (at s e) ≡ true → p < s
follows_strike p s k e h = ⊎_elim (λ l. l) (λ w. absurd (true≢false (sym w.1))) (lex_cases p s false h)

-- an add at s
abbrev pub add_at : ℕ → Edit → Bool
add_at s = on_add (λ p r. eqb s p)

-- up to s is before s or at s
one_upto : (p s : ℕ) → one (ltb p s) + one (eqb s p) ≡ one (leb p s)
one_upto p s = go (ltb p s) (eqb s p) refl refl
  where
    go : (t u : Bool) → ltb p s ≡ t → eqb s p ≡ u → one t + one u ≡ one (leb p s)
    go true true f g = absurd (omega tests)
    go true false f g = rw (le-leb p s (omega tests))
    go false true f g = rw (le-leb p s (omega tests))
    go false false f g = rw (lt-leb p s (omega tests))

adds_upto : (s : ℕ) (L : Layer) → count (add_before s) L + count (add_at s) L ≡ count (add_up_to s) L
adds_upto s L = adds_sum L _ _ _ (λ p r m. one_upto p s)

adds_before_next : (s : ℕ) (L : Layer) → count (add_before (suc s)) L ≡ count (add_up_to s) L
adds_before_next s L = adds_same L _ _ (λ p r m. ap one (leb-suc-suc p s))

strikes_next : (s : ℕ) (L : Layer) → count (strike_before s) L + count (strikes_row s) L ≡ count (strike_before (suc s)) L
strikes_next s L = strikes_sum L _ _ _ (λ p k m. one_upto p s ∙ sym (ap one (leb-suc-suc p s)))

-- nothing stands before position 0
adds_first : (L : Layer) → count (add_before 0) L ≡ 0
adds_first L = adds_zero L _ (λ p r m. ap one (le-ltb p 0 (omega arith)))

strikes_first : (L : Layer) → count (strike_before 0) L ≡ 0
strikes_first L = strikes_zero L _ (λ p k m. ap one (le-ltb p 0 (omega arith)))

-- at most one strike stands at a position
strikes_once : (s : ℕ) (L : Layer) → AllPairs follows L → count (strikes_row s) L ≡ one (struck s L)
strikes_once s [] p = refl
strikes_once s (at q (add r) ∷ L) p = omega (arith, strikes_once s L p.1)
strikes_once s (at q (change j e) ∷ L) p = omega (arith, strikes_once s L p.1)
strikes_once s (at q (strike k) ∷ L) p = go (strikes_once s L p.1) (eqb s q) refl
  where
    go : count (strikes_row s) L ≡ one (struck s L) → (t : Bool) → eqb s q ≡ t
        → one t + count (strikes_row s) L ≡ one (t || struck s L)
    go ih true f =
        rw (strikes_zero L (λ w l. eqb s w) (λ w l m. ap one (ne_eqb s w
        (λ g. omega (tests, follows_strike q w k (strike l) (p.0 (at w (strike l)) m))))))
    go ih false f = omega arith

-- strikes before s are at most s
pub strikes_few : (s : ℕ) (L : Layer) → AllPairs follows L → count (strike_before s) L ≤ s
strikes_few zero L p = omega (arith, strikes_first L)
strikes_few (suc s) L p = omega (arith, strikes_few s L p, strikes_next s L, strikes_once s L p, one_le (struck s L))

-- the row number of the added entry number i: its position, and the adds before it in the layer, less the strikes before it
abbrev pub row_of_entry : Layer → ℕ → ℕ
row_of_entry L i = (position (get_or L i (at 0 (strike 0))) + count is_add (take i L)) - count is_strike (take i L)

-- the row number of an origin
abbrev pub number : Layer → Origin → ℕ
number L (base s) = row_of L s
number L (added i) = row_of_entry L i

-- the shown rows before position s: what is added before s and not struck before s
abbrev pub rows_before : Layer → ℕ → ℕ
rows_before L s = (s + count (add_before s) L) - count (strike_before s) L

-- origins have the numbers from k on, one after the other
abbrev Numbered : Layer → ℕ → List Origin → Type 0
Numbered L k [] = Unit {0}
Numbered L k (o ∷ os) = (number L o ≡ k) × Numbered L (suc k) os

numbered_from : (L : Layer) (k l : ℕ) (os : List Origin) → k ≡ l → Numbered L k os → Numbered L l os
numbered_from L k l os e N = rw (← e) N

numbered_append : (L : Layer) (k : ℕ) (os us : List Origin) → Numbered L k os → Numbered L (k + length os) us
    → Numbered L k (os ++ us)
numbered_append L k [] us N M = numbered_from L (k + 0) k us (omega arith) M
numbered_append L k (o ∷ os) us N M = (
  N.0,
  numbered_append L (suc k) os us N.1
      (numbered_from L (k + suc (length os)) (suc k + length os) us (omega arith) M),
)

numbered_get_or : (L : Layer) (k r : ℕ) (os : List Origin) (d : Origin) → Numbered L k os → r < length os
    → number L (get_or os r d) ≡ k + r
numbered_get_or L k r [] d N h = absurd (omega arith)
numbered_get_or L k zero (o ∷ os) d N h = N.0 ∙ sym (add-zero k)
numbered_get_or L k (suc r) (o ∷ os) d N h = numbered_get_or L (suc k) r os d N.1 (omega arith) ∙ omega arith

-- an add at s that stands between E and M
module _ (s : ℕ) (row : Row) (E M : Layer) (P : AllPairs follows (E ++ (at s (add row) ∷ M))) where
  -- what stands before it lies at s or before, a strike before s; what stands after it lies at s or after
  from_first : (p : ℕ) (d : Deed) → Mem (at p d) E → follows (at p d) (at s (add row)) ≡ true
  from_first p d m = (pairs_at E (at s (add row)) M P).0 (at p d) m

  to_later : (p : ℕ) (d : Deed) → Mem (at p d) M → s ≤ p
  to_later p d m = follows_pos s p (add row) d ((pairs_at E (at s (add row)) M P).1 (at p d) m)

  earlier_adds : count is_add E ≡ count (add_before s) (E ++ (at s (add row) ∷ M)) + count (add_at s) E
  earlier_adds =
      omega (
        arith,
        count_append (add_before s) E (at s (add row) ∷ M),
        adds_sum E (λ p r. ltb p s) (λ p r. eqb s p) (λ p r. true) (λ p r m.
            one_upto p s ∙ ap one (le-leb p s (follows_pos p s (add r) (add row) (from_first p (add r) m)))),
        adds_zero M (λ p r. ltb p s) (λ p r m. ap one (le-ltb p s (to_later p (add r) m))),
        ap one (le-ltb s s (omega arith)),
      )

  earlier_strikes : count is_strike E ≡ count (strike_before s) (E ++ (at s (add row) ∷ M))
  earlier_strikes =
      omega (
        arith,
        count_append (strike_before s) E (at s (add row) ∷ M),
        strikes_same E (λ p k. ltb p s) (λ p k. true) (λ p k m.
            ap one (lt-ltb p s (follows_strike p s k (add row) (from_first p (strike k) m)))),
        strikes_zero M (λ p k. ltb p s) (λ p k m. ap one (le-ltb p s (to_later p (strike k) m))),
      )

  add_number : row_of_entry (E ++ (at s (add row) ∷ M)) (length E)
      ≡ rows_before (E ++ (at s (add row) ∷ M)) s + count (add_at s) E
  add_number =
      rw (get_or-append_seam E (at s (add row)) M (at 0 (strike 0)), take-append_seam E (at s (add row) ∷ M))
      (omega (arith, earlier_adds, earlier_strikes, strikes_few s (E ++ (at s (add row) ∷ M)) P))

-- The adds at s have the numbers from the rows before s on.
adds_length : (s i : ℕ) (M : Layer) → length (map added (add_numbers s i M)) ≡ count (add_at s) M
adds_length s i [] = refl
adds_length s i (at p (add r) ∷ M) =
    let ih = adds_length s (suc i) M in
    elim (eqb s p)
    as (λ t. length (map added (cond t (i ∷ add_numbers s (suc i) M) (add_numbers s (suc i) M)))
    ≡ one t + count (add_at s) M) [
      | true ↦ omega arith
      | false ↦ omega arith
    ]
adds_length s i (at p (strike k) ∷ M) = omega (arith, adds_length s (suc i) M)
adds_length s i (at p (change j e) ∷ M) = omega (arith, adds_length s (suc i) M)

module _ (L : Layer) (P : AllPairs follows L) (s : ℕ) where
  -- the row number that the next add at s has, once the entries E are passed
  abbrev next_add : Layer → ℕ
  next_add E = rows_before L s + count (add_at s) E

  abbrev adds_left : Layer → Layer → List Origin
  adds_left E M = map added (add_numbers s (length E) M)

  past : (E : Layer) (x : Edit) (M : Layer) → Numbered L (next_add (E ++ (x ∷ []))) (adds_left (E ++ (x ∷ [])) M)
      → Numbered L (one (add_at s x) + next_add E) (map added (add_numbers s (suc (length E)) M))
  past E x M N =
      let l : length (E ++ (x ∷ [])) ≡ suc (length E) = omega (arith, length-append E (x ∷ [])) in
      numbered_from L (next_add (E ++ (x ∷ []))) (one (add_at s x) + next_add E)
      (map added (add_numbers s (suc (length E)) M))
      (omega (arith, count_append (add_at s) E (x ∷ []))) (rw l at N)

  skip : (E M : Layer) → Numbered L (0 + next_add E) (map added (add_numbers s (suc (length E)) M))
      → Numbered L (next_add E) (map added (add_numbers s (suc (length E)) M))
  skip E M N = numbered_from L (0 + next_add E) (next_add E) (map added (add_numbers s (suc (length E)) M)) (omega arith) N

  adds_numbered : (E M : Layer) → L ≡ E ++ M → Numbered L (next_add E) (adds_left E M)
  adds_numbered E [] w = tt
  adds_numbered E (x ∷ M) w = step x w (past E x M (adds_numbered (E ++ (x ∷ [])) M (w ∙ sym (append_snoc E x M))))
    where
      step : (x : Edit) → L ≡ E ++ (x ∷ M) → Numbered L (one (add_at s x) + next_add E)
          (map added (add_numbers s (suc (length E)) M))
          → Numbered L (next_add E) (adds_left E (x ∷ M))
      step (at p (add r)) w N = go (eqb s p) refl N
        where
          go : (t : Bool) → eqb s p ≡ t → Numbered L (one t + next_add E) (map added (add_numbers s (suc (length E)) M))
              → Numbered L (next_add E) (map added
              (cond t (length E ∷ add_numbers s (suc (length E)) M) (add_numbers s (suc (length E)) M)))
          go true f N =
              let q : s ≡ p = eqb-true s p f in
              let w' : L ≡ E ++ (at s (add r) ∷ M) = w ∙ ap (λ (k : ℕ). E ++ (at k (add r) ∷ M)) (sym q) in (
                rw w' (add_number s r E M (rw w' at P)),
                numbered_from L (1 + next_add E) (suc (next_add E))
                    (map added (add_numbers s (suc (length E)) M)) (omega arith) N,
              )
          go false f N = skip E M N
      step (at p (strike k)) w N = skip E M N
      step (at p (change j e)) w N = skip E M N

-- The whole list has the numbers from 0 on.
unless_length : (t : Bool) (o : Origin) → one t + length (unless t o) ≡ 1
unless_length true o = refl
unless_length false o = refl

module _ (L : Layer) (P : AllPairs follows L) where
  abbrev adds_of : ℕ → List Origin
  adds_of s = map added (add_numbers s 0 L)

  abbrev row_or_none : ℕ → List Origin
  row_or_none s = unless (struck s L) (base s)

  -- the adds at s end where row s stands
  pub row_after_adds : (s : ℕ) → row_of L s ≡ rows_before L s + count (add_at s) L
  unfolding row_of
  row_after_adds s = omega (arith, adds_upto s L, strikes_few s L P)

  -- the rows before the next position are those up to row s, and row s itself where it is not struck
  pub rows_before_next : (s : ℕ) → rows_before L (suc s) + one (struck s L) ≡ row_of L s + 1
  unfolding row_of
  rows_before_next s =
      omega (
        arith,
        adds_before_next s L,
        strikes_next s L,
        strikes_once s L P,
        strikes_few s L P,
        strikes_few (suc s) L P,
      )

  adds_block : (s : ℕ) → Numbered L (rows_before L s) (adds_of s)
  adds_block s =
      numbered_from L (rows_before L s + 0) (rows_before L s) (adds_of s) (omega arith) (adds_numbered L P s [] L refl)

  row_block : (s : ℕ) → Numbered L (row_of L s) (row_or_none s)
  row_block s = elim (struck s L) as (λ t. Numbered L (row_of L s) (unless t (base s))) [ true ↦ tt | false ↦ (refl, tt) ]

  all_numbered : (k s : ℕ) → Numbered L (rows_before L s) (origins_from s (replicate k 0) L)
  all_numbered zero s = adds_block s
  all_numbered (suc k) s =
      numbered_append L (rows_before L s) (adds_of s) (row_or_none s ++ origins_from (suc s) (replicate k 0) L) (adds_block s)
      (numbered_from L (row_of L s) (rows_before L s + length (adds_of s))
      (row_or_none s ++ origins_from (suc s) (replicate k 0) L)
      (omega (arith, row_after_adds s, adds_length s 0 L))
      (numbered_append L (row_of L s) (row_or_none s) (origins_from (suc s) (replicate k 0) L) (row_block s)
      (numbered_from L (rows_before L (suc s)) (row_of L s + length (row_or_none s)) (origins_from (suc s) (replicate k 0) L)
      (omega (arith, rows_before_next s, unless_length (struck s L) (base s))) (all_numbered k (suc s)))))

  all_length : (k s : ℕ) → rows_before L s + length (origins_from s (replicate k 0) L) ≡ row_of L (s + k)
  all_length zero s = rw add-zero (omega (arith, row_after_adds s, adds_length s 0 L))
  all_length (suc k) s =
      let e : suc s + k ≡ s + suc k = omega arith in
      omega (
        arith,
        length-append (adds_of s) (row_or_none s ++ origins_from (suc s) (replicate k 0) L),
        length-append (row_or_none s) (origins_from (suc s) (replicate k 0) L),
        adds_length s 0 L,
        row_after_adds s,
        rows_before_next s,
        unless_length (struck s L) (base s),
        all_length k (suc s),
        ap (row_of L) e,
      )

  pub origins_length : (n : ℕ) → length (origins n L) ≡ row_of L n
  unfolding origins
  origins_length n =
      omega (arith, all_length n 0, adds_first L, strikes_first L, ap (row_of L) (zero-add n))

  -- where every add stands at n or before, and every strike before n, these are n + adds - strikes
  module _ (n : ℕ) (adds : (p : ℕ) (r : Row) → Mem (at p (add r)) L → p ≤ n)
      (strikes : (p k : ℕ) → Mem (at p (strike k)) L → p < n) where
    pub origins_count : (length (origins n L) ≡ rows_after n L) × (count is_strike L ≤ n)
    unfolding row_of
    origins_count =
        let a = adds_same L (λ p r. leb p n) (λ p r. true) (λ p r m. ap one (le-leb p n (adds p r m))) in
        let b = strikes_same L (λ p k. ltb p n) (λ p k. true) (λ p k m. ap one (lt-ltb p n (strikes p k m))) in
        (omega (arith, origins_length n, a, b), omega (arith, strikes_few n L P, b))

  -- the origin that stands at r has the number r
  pub number_back : (n r : ℕ) → r < length (origins n L) → number L (back n L r) ≡ r
  unfolding origins
  number_back n r h =
      omega (
        arith,
        numbered_get_or L (rows_before L 0) r (origins_from 0 (replicate n 0) L) (base n)
            (all_numbered n 0) h,
        adds_first L,
        strikes_first L,
      )

-- Who is an origin: the base rows below n that are not struck, and the entries that add.
abbrev pub entry_no : Layer → ℕ → Edit
entry_no L i = get_or L i (at 0 (strike 0))

abbrev pub is_shown : ℕ → Layer → Origin → Bool
is_shown n L (base s) = ltb s n && not (struck s L)
is_shown n L (added i) = is_add (entry_no L i)

module _ (n : ℕ) (L : Layer) (s : ℕ) where
  pub base_shown : is_shown n L (base s) ≡ true → (s < n) × (struck s L ≡ false)
  base_shown h =
      (ltb-true s n (and_l (ltb s n) (not (struck s L)) h), not-true (struck s L) (and_r (ltb s n) (not (struck s L)) h))

  shown_base : s < n → struck s L ≡ false → is_shown n L (base s) ≡ true
  shown_base h u = and_of (ltb s n) (not (struck s L)) (lt-ltb s n h) (ap not u)

-- the numbers of the adds at s are the places of such entries
adds_mem : (s i j : ℕ) (M : Layer) → Mem i (add_numbers s j M) → (row : Row) × At (at s (add row)) i j M
adds_mem s i j [] m = absurd (not-nil m)
adds_mem s i j (x ∷ M) m = step x (λ n. adds_mem s i (suc j) M n) m
  where
    later : {x : Edit} → (row : Row) × At (at s (add row)) i (suc j) M → (row : Row) × At (at s (add row)) i j (x ∷ M)
    later w = (w.0, deep w.1)

    step : (x : Edit) → (Mem i (add_numbers s (suc j) M) → (row : Row) × At (at s (add row)) i (suc j) M)
        → Mem i (add_numbers s j (x ∷ M))
        → (row : Row) × At (at s (add row)) i j (x ∷ M)
    step (at p (add r)) ih m = go (eqb s p) refl m
      where
        go : (t : Bool) → eqb s p ≡ t → Mem i (cond t (j ∷ add_numbers s (suc j) M) (add_numbers s (suc j) M))
            → (row : Row) × At (at s (add row)) i j (at p (add r) ∷ M)
        go true e (here f) = (r, top {s = j} (ap (λ (q : ℕ). at q (add r)) (eqb-true s p e)) f)
        go true e (next n) = later (ih n)
        go false e n = later (ih n)
    step (at p (strike k)) ih m = later (ih m)
    step (at p (change l e)) ih m = later (ih m)

mem_adds : (s i j : ℕ) (row : Row) (M : Layer) → At (at s (add row)) i j M → Mem i (add_numbers s j M)
mem_adds s i j row [] x' = elim x' [ ]
mem_adds s i j row (x ∷ M) (top e f) = rw (← e, eq-eqb s s refl) (here f)
mem_adds s i j row (x ∷ M) (deep n) = step x (mem_adds s i (suc j) row M n)
  where
    step : (x : Edit) → Mem i (add_numbers s (suc j) M) → Mem i (add_numbers s j (x ∷ M))
    step (at p (add r)) m =
        elim (eqb s p) as (λ t. Mem i (cond t (j ∷ add_numbers s (suc j) M)
        (add_numbers s (suc j) M))) [ true ↦ next m | false ↦ m ]
    step (at p (strike k)) m = m
    step (at p (change l e)) m = m

-- an entry that adds
add_is : (e : Edit) → is_add e ≡ true → (row : Row) × (e ≡ at (position e) (add row))
add_is (at p (add r)) h = (r, refl)
add_is (at p (strike k)) h = absurd (true≢false (sym h))
add_is (at p (change j e)) h = absurd (true≢false (sym h))

pub add_in : (L : Layer) (i : ℕ) → is_add (entry_no L i) ≡ true → i < length L
add_in [] i h = absurd (true≢false (sym h))
add_in (x ∷ L) zero h = omega arith
add_in (x ∷ L) (suc i) h = omega (arith, add_in L i h)

pub add_at_lem : (L : Layer) (i : ℕ) → is_add (entry_no L i) ≡ true → (row : Row) × At (at (position (entry_no L i)) (add row)) i 0 L
add_at_lem L i h =
    let w = add_is (entry_no L i) h in
    (w.0, rw w.1 at (get_or_at L i (at 0 (strike 0)) (add_in L i h)))

module _ (n : ℕ) (L : Layer) where
  abbrev adds : ℕ → List Origin
  adds p = map added (add_numbers p 0 L)

  abbrev rows : ℕ → ℕ → List Origin
  rows p x = unless (struck p L) (base p)

  pub origins_mem : (o : Origin) → Mem o (origins n L) → is_shown n L o ≡ true
  unfolding origins
  origins_mem o m = go (through_mem adds rows o 0 (replicate n 0) m)
    where
      go : Comes adds rows o 0 (replicate n 0) → is_shown n L o ≡ true
      go (inl (p, a, b, k)) =
          let w = map_mem added (add_numbers p 0 L) o k in
          let v = adds_mem p w.0 0 L w.1 in
          ap (is_shown n L) w.2 ∙ ap is_add (at_get_or (at 0 (strike 0)) v.1)
      go (inr (p, x, k, l)) =
          let w = unless_mem (struck p L) o (base p) l in
          ap (is_shown n L) w.1 ∙ shown_base n L p (omega (arith, at_length k, length-replicate {A = ℕ} n 0)) w.0

  mem_origins : (c : ℕ) → Unbroken (sound c n) follows [] L → (o : Origin) → is_shown n L o ≡ true → Mem o (origins n L)
  unfolding origins
  mem_origins c U (base s) h =
      let w = base_shown n L s h in
      let b : s < length {A = ℕ} (replicate n 0) = omega (arith, w.0, length-replicate {A = ℕ} n 0) in
      shown_through adds rows (base s) 0 (replicate n 0) s (get_or (replicate n 0) s 0) (get_or_at (replicate n 0) s 0 b)
      (mem_unless (struck s L) (base s) w.1)
  mem_origins c U (added i) h =
      let w = add_at_lem L i h in
      let p : ℕ = position (entry_no L i) in
      let b : p ≤ n = leb-true p n (and_l (leb p n) (eqb (length w.0) c) (U.each (at p (add w.0)) (at_mem w.1))) in
      added_through adds rows (added i) 0 (replicate n 0) p (omega arith) (omega (arith, length-replicate {A = ℕ} n 0))
      (mem_map added (add_numbers p 0 L) i (mem_adds p i 0 w.0 L w.1))

-- An entry that adds at p has a number from the rows before p on, and below that of row p.
abbrev Among : ℕ → Layer → ℕ → Type 0
Among p L i = (rows_before L p ≤ row_of_entry L i) × (row_of_entry L i < row_of L p)

split_stands : (s : ℕ) (row : Row) (E M : Layer) → AllPairs follows (E ++ (at s (add row) ∷ M))
    → Among s (E ++ (at s (add row) ∷ M)) (length E)
split_stands s row E M P = (
  omega (arith, add_number s row E M P),
  omega (
    arith,
    add_number s row E M P,
    row_after_adds (E ++ (at s (add row) ∷ M)) P s,
    count_append (add_at s) E (at s (add row) ∷ M),
    ap one (eq-eqb s s refl),
  ),
)

entry_stands : (L : Layer) → AllPairs follows L → (i : ℕ) → is_add (entry_no L i) ≡ true
    → Among (position (entry_no L i)) L i
entry_stands L P i h =
    let b : i < length L = add_in L i h in
    let w = add_is (entry_no L i) h in
    let p : ℕ = position (entry_no L i) in
    let E : Layer = take i L in
    let M : Layer = drop (suc i) L in
    let e : L ≡ E ++ (at p (add w.0) ∷ M) =
    split_at L i (at 0 (strike 0)) b ∙ ap (λ (x : Edit). E ++ (x ∷ M)) w.1 in
    subst (Among p L) (length-take-le i L (omega arith))
    (subst (λ (K : Layer). Among p K (length E)) (sym e)
    (split_stands p w.0 E M (subst (λ (K : Layer). AllPairs follows K) e P)))

-- row numbers never fall from one position to the next
module _ (L : Layer) (P : AllPairs follows L) where
  rows_step : (s : ℕ) → row_of L s ≤ rows_before L (suc s)
  rows_step s = omega (arith, rows_before_next L P s, one_le (struck s L))

  rows_more : (k s : ℕ) → row_of L s ≤ row_of L (s + k)
  rows_more zero s = rw add-zero (omega arith)
  rows_more (suc k) s =
      let e : suc s + k ≡ s + suc k = omega arith in
      omega (arith, rows_step s, row_after_adds L P (suc s), rows_more k (suc s), ap (row_of L) e)

  pub rows_rise : (s t : ℕ) → s ≤ t → row_of L s ≤ row_of L t
  rows_rise s t h =
      let e : s + (t - s) ≡ t = omega arith in
      omega (arith, rows_more (t - s) s, ap (row_of L) e)

  -- every row up to s stands before what comes after position s
  rows_up : (s t : ℕ) → s < t → row_of L s ≤ rows_before L t
  rows_up s zero h = absurd (omega arith)
  rows_up s (suc t) h = omega (arith, rows_rise s t (omega arith), rows_step t)

  -- a row that is not struck stands before what comes after it
  pub row_passed : (s t : ℕ) → s < t → struck s L ≡ false → row_of L s < row_of L t
  row_passed s t h e =
      omega (arith, rows_before_next L P s, ap one e, row_after_adds L P (suc s), rows_rise (suc s) t h)

-- where an origin stands to position s: a base row before s, or an add up to s; else a base row from s on, or an add after s
abbrev pub stands_before : Layer → ℕ → Origin → Bool
stands_before L s (base t) = ltb t s
stands_before L s (added i) = leb (position (entry_no L i)) s

-- a base row or an add after s
abbrev pub stands_after : Layer → ℕ → Origin → Bool
stands_after L s (base t) = ltb s t
stands_after L s (added i) = ltb s (position (entry_no L i))

-- a number from -k to k
abbrev pub from_to : ℕ → ℤ → Bool
from_to k z = leb (nat_abs z) k

-- a + (b - c) in integers, where it is not negative
sum_of : (a b c : ℕ) → c ≤ a + b → pos a +ℤ sub_ℕ b c ≡ pos ((a + b) - c)
sum_of a b c h = go (ltb b c) refl
  where
    go : (t : Bool) → ltb b c ≡ t → pos a +ℤ cond t (negsuc (c - suc b)) (pos (b - c)) ≡ pos ((a + b) - c)
    go true e =
        rw (le-ltb a (suc (c - suc b)) (omega tests))
        (ap pos (let w : a - suc (c - suc b) ≡ (a + b) - c = omega tests in w))
    go false e = ap pos (let w : a + (b - c) ≡ (a + b) - c = omega tests in w)

sub_bounded : (k a b : ℕ) → a ≤ k → b ≤ k → from_to k (sub_ℕ a b) ≡ true
sub_bounded k a b ha hb = go (ltb a b) refl
  where
    go : (t : Bool) → ltb a b ≡ t → from_to k (cond t (negsuc (b - suc a)) (pos (a - b))) ≡ true
    go true e = le-leb (suc (b - suc a)) k (omega tests)
    go false e = le-leb (a - b) k (omega tests)

-- The statements, for a layer in order over n rows.

-- the shift lies from -512 to 512
pub shift_bounded : (L : Layer) (s : ℕ) → length L ≤ 512 → from_to 512 (shift L s) ≡ true
unfolding shift
shift_bounded L s h =
    sub_bounded 512 (count (add_up_to s) L) (count (strike_before s) L) (omega (arith, count_le (add_up_to s) L))
    (omega (arith, count_le (strike_before s) L))

module _ (c n : ℕ) (L : Layer) (ok : in_order c n L ≡ true) where
  U : Unbroken (sound c n) follows [] L
  U = formed c n L ok

  -- the rows shown are n + adds - strikes, and the strikes are at most n
  pub rows_counted : (length (origins n L) ≡ rows_after n L) × (count is_strike L ≤ n)
  rows_counted =
      origins_count L U.pairs n (λ p r m. leb-true p n (and_l (leb p n) (eqb (length r) c) (U.each (at p (add r)) m)))
      (λ p k m. ltb-true p n (U.each (at p (strike k)) m))

  -- row number = s + shift, in integers: the row is never negative
  pub row_never_negative : (s : ℕ) → pos (row_of L s) ≡ pos s +ℤ shift L s
  unfolding row_of shift
  row_never_negative s =
      sym (sum_of s (count (add_up_to s) L) (count (strike_before s) L) (omega (arith, strikes_few s L U.pairs)))

  -- the origin at row r is shown, and r is its number
  pub back_number_lem : (r : ℕ) → r < rows_after n L → (is_shown n L (back n L r) ≡ true) × (number L (back n L r) ≡ r)
  back_number_lem r h =
      let b : r < length (origins n L) = omega (arith, rows_counted.0) in
      (origins_mem n L (back n L r) (at_mem (get_or_at (origins n L) r (base n) b)), number_back L U.pairs n r b)

  -- what is shown stands at its number
  pub number_shown : (o : Origin) → is_shown n L o ≡ true → (number L o < rows_after n L) × (back n L (number L o) ≡ o)
  number_shown o h =
      let w = mem_at 0 (origins n L) o (mem_origins n L c U o h) in
      let p : ℕ = w.0 in
      let b : p < length (origins n L) = omega (arith, at_length w.1) in
      let e : back n L p ≡ o = at_get_or (base n) w.1 in
      let q : number L o ≡ p = ap (number L) (sym e) ∙ number_back L U.pairs n p b in
      (omega (arith, rows_counted.0), ap (back n L) q ∙ e)

  -- every row number below the count is one base row or added entry, and no two are the same
  pub row_numbers_distinct : (r t : ℕ) → r < rows_after n L → t < rows_after n L → back n L r ≡ back n L t → r ≡ t
  row_numbers_distinct r t h k e = sym (back_number_lem r h).1 ∙ ap (number L) e ∙ (back_number_lem t k).1

  -- a base row that is not struck, to its row number and back
  pub base_row_back : (s : ℕ) → s < n → struck s L ≡ false → (row_of L s < rows_after n L) × (back n L (row_of L s) ≡ base s)
  base_row_back s h e = number_shown (base s) (shown_base n L s h e)

  pub back_base_row : (r s : ℕ) → r < rows_after n L → back n L r ≡ base s
      → (s < n) × (struck s L ≡ false) × (row_of L s ≡ r)
  back_base_row r s h e =
      let w = back_number_lem r h in
      let z = base_shown n L s (ap (is_shown n L) (sym e) ∙ w.0) in
      (z.0, z.1, ap (number L) (sym e) ∙ w.1)

  -- an entry that adds, to its row number and back
  pub added_back : (i : ℕ) → is_add (entry_no L i) ≡ true
      → (row_of_entry L i < rows_after n L) × (back n L (row_of_entry L i) ≡ added i)
  added_back i h = number_shown (added i) h

  pub back_added : (r i : ℕ) → back n L r ≡ added i
      → (r < rows_after n L) × (i < length L) × (is_add (entry_no L i) ≡ true) × (row_of_entry L i ≡ r)
  back_added r i e = go (ltb r (rows_after n L)) refl
    where
      go : (t : Bool) → ltb r (rows_after n L) ≡ t
          → (r < rows_after n L) × (i < length L) × (is_add (entry_no L i) ≡ true) × (row_of_entry L i ≡ r)
      go true f =
          let b : r < rows_after n L = ltb-true r (rows_after n L) f in
          let w = back_number_lem r b in
          let a : is_add (entry_no L i) ≡ true = ap (is_shown n L) (sym e) ∙ w.0 in
          (b, add_in L i a, a, ap (number L) (sym e) ∙ w.1)
      go false f =
          let g : back n L r ≡ base n =
          get_or-eq_default (origins n L) (base n) (omega (arith, ltb-false r (rows_after n L) f, rows_counted.0)) in
          impossible (cc)

  -- the rows below the number of position s are those that stand before s
  base_split : (s t : ℕ) → struck t L ≡ false → (u : Bool) → ltb t s ≡ u → u ≡ ltb (row_of L t) (row_of L s)
  base_split s t h true e = sym (lt-ltb (row_of L t) (row_of L s) (row_passed L U.pairs t s (ltb-true t s e) h))
  base_split s t h false e = sym (le-ltb (row_of L t) (row_of L s) (rows_rise L U.pairs s t (ltb-false t s e)))

  added_split : (s i p : ℕ) → Among p L i → (u : Bool) → leb p s ≡ u → u ≡ ltb (row_of_entry L i) (row_of L s)
  added_split s i p w true e =
      sym (lt-ltb (row_of_entry L i) (row_of L s) (omega (arith, w.1, rows_rise L U.pairs p s (leb-true p s e))))
  added_split s i p w false e =
      sym (le-ltb (row_of_entry L i) (row_of L s) (omega (arith, w.0, rows_up L U.pairs s p (leb-false p s e))))

  origin_split : (s : ℕ) (o : Origin) → is_shown n L o ≡ true → stands_before L s o ≡ ltb (number L o) (row_of L s)
  origin_split s (base t) h = base_split s t (base_shown n L t h).1 (ltb t s) refl
  origin_split s (added i) h =
      added_split s i (position (entry_no L i)) (entry_stands L U.pairs i h) (leb (position (entry_no L i)) s) refl

  pub row_splits : (s r : ℕ) → r < rows_after n L → stands_before L s (back n L r) ≡ ltb r (row_of L s)
  row_splits s r h =
      let w = back_number_lem r h in
      origin_split s (back n L r) w.0 ∙ ap (λ (k : ℕ). ltb k (row_of L s)) w.1

  -- a shown row that does not stand before a struck one stands after it
  beyond : (s : ℕ) (o : Origin) → struck s L ≡ true → is_shown n L o ≡ true → stands_before L s o ≡ false
      → stands_after L s o ≡ true
  beyond s (base t) e w b = go (eqb s t) refl
    where
      go : (u : Bool) → eqb s t ≡ u → ltb s t ≡ true
      go true g = absurd (true≢false (sym e ∙ (ap (λ (k : ℕ). struck k L) (eqb-true s t g) ∙ (base_shown n L t w).1)))
      go false g = omega tests
  beyond s (added i) e w b = omega tests

  -- a struck row's number is that of the next shown row, or the row count if none follows: all below it stands before
  -- s, all from it on after s
  pub struck_row_next : (s : ℕ) → s < n → struck s L ≡ true
      → (row_of L s ≤ rows_after n L)
      × ((r : ℕ) → r < row_of L s → stands_before L s (back n L r) ≡ true)
      × ((r : ℕ) → row_of L s ≤ r → r < rows_after n L → stands_after L s (back n L r) ≡ true)
  struck_row_next s h e = (
    most,
    λ r k. row_splits s r (omega (arith, most)) ∙ lt-ltb r (row_of L s) k,
    λ r k m. beyond s (back n L r) e (back_number_lem r m).0 (row_splits s r m ∙ le-ltb r (row_of L s) k),
  )
    where
      most : row_of L s ≤ rows_after n L
      most = omega (arith, rows_rise L U.pairs s n (omega arith), origins_length L U.pairs n, rows_counted.0)
