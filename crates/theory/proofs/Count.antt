-- One counting identity of reading: for any test on keys, what passes after the layer and the strikes that pass
-- are what passed before and the adds that pass. With it a move's new positions are numbers of keys below.
-- Beside it: what is read ascends, and has n + adds - strikes rows.
-- Assumes nothing.
use mathlib.Core.Path.{◌≡◌, refl, sym, ap, ◌∙◌}
use mathlib.Core.Bool.{Bool, true, false, cond, ◌&&◌, ◌||◌, true≢false}
use mathlib.Core.List.Memᴰ.{head as here}
use mathlib.Core.List.Memᴰ.{tail as next}
use mathlib.Core.List.{[], ◌∷◌, ◌++◌, Memᴰ as Mem}
use Prim.Native.Nat.{ℕ, suc, ◌+◌, ◌-◌, ◌≤◌, ◌<◌}
use native.Mathlib.Omega.{arith}
use lib.ListN.{length, length-map}
use lib.Dec.{leb, ltb, eqb}
use borrow.Author.Tests.{ltb-true, ltb-false, leb-true, leb-false, le-leb, lt-leb, eqb-true, eqb-false}
use Rattle.order.specs.Lists.{one, count}
use Rattle.order.proofs.Tests.{tests, one_lt, one_ge}
use Rattle.order.proofs.Counts.{count_append, count_le}
use Rattle.order.proofs.Pairs.{AllPairs, pairs_weaker}
use Rattle.order.proofs.Ascending.{
  AscFrom,
  At,
  top,
  deep,
  below,
  lower,
  at_mem,
  at_from,
  at_count,
  at_length,
  asc_none,
  asc_append,
  pairs_asc,
  count_mono,
  count_strict,
}
use Rattle.model.specs.Row.{Row, Table, key}
use Rattle.model.specs.Layer.{
  add,
  strike,
  change,
  Edit,
  at,
  Layer,
  on_add,
  on_strike,
  rows_after,
  added_by,
  adds_at,
  struck,
  changed,
}
use Rattle.model.specs.Form.{follows}
use Rattle.model.specs.Read.{unless, read_from, read}
use Rattle.model.specs.Position.{origins, strike_before, row_of}
use Rattle.model.specs.Edits.{before}
use Rattle.model.specs.Move.{add_position}
use Rattle.theory.proofs.Layer.{
  adds_same,
  adds_sum,
  adds_zero,
  strikes_same,
  strikes_sum,
  strikes_zero,
  adds_mem,
  KeyKept,
  changed_key,
  struck_none,
}
use Rattle.theory.proofs.Edits.{level, before_follows}
use Rattle.theory.proofs.Position.{origins_count}
use Rattle.theory.proofs.Origin.{origin_row, read_origins}
use Rattle.theory.proofs.Fit.{Fit, key_kept}

-- a row whose key passes; the adds and strikes from s on whose key passes, and the strikes at s
abbrev pub keyed : (ℕ → Bool) → Row → Bool
keyed g r = g (key r)

abbrev pub add_from : ℕ → (ℕ → Bool) → Edit → Bool
add_from s g = on_add (λ p r. leb s p && g (key r))

abbrev pub strike_from : ℕ → (ℕ → Bool) → Edit → Bool
strike_from s g = on_strike (λ p k. leb s p && g k)

abbrev strike_here : ℕ → (ℕ → Bool) → Edit → Bool
strike_here s g = on_strike (λ p k. eqb s p && g k)

split_one : (s p : ℕ) (t : Bool) → one (eqb s p && t) + one (leb (suc s) p && t) ≡ one (leb s p && t)
split_one s p t = go (eqb s p) refl (leb s p) refl
  where
    go : (u : Bool) → eqb s p ≡ u → (w : Bool) → leb s p ≡ w
        → one (eqb s p && t) + one (leb (suc s) p && t) ≡ one (leb s p && t)
    go true e true f = rw (e, f, lt-leb (suc s) p (omega tests)) (omega arith)
    go true e false f = absurd (omega tests)
    go false e true f = rw (e, f, le-leb (suc s) p (omega tests)) (omega arith)
    go false e false f = rw (e, f, lt-leb (suc s) p (omega tests)) (omega arith)

adds_split : (s : ℕ) (g : ℕ → Bool) (Y : Layer)
    → count (keyed g) (adds_at s Y) + count (add_from (suc s) g) Y ≡ count (add_from s g) Y
adds_split s g [] = refl
adds_split s g (at p (add r) ∷ Y) =
    omega (
      arith,
      here_one (eqb s p),
      count_append (keyed g) (added_by s (at p (add r))) (adds_at s Y),
      split_one s p
          (g (key r)),
      adds_split s g Y,
    )
  where
    here_one : (t : Bool) → count (keyed g) (cond t (r ∷ []) []) ≡ one (t && g (key r))
    here_one true = omega arith
    here_one false = refl
adds_split s g (at p (strike k) ∷ Y) = omega (arith, adds_split s g Y)
adds_split s g (at p (change j e) ∷ Y) = omega (arith, adds_split s g Y)

strikes_split : (s : ℕ) (g : ℕ → Bool) (Y : Layer)
    → count (strike_here s g) Y + count (strike_from (suc s) g) Y ≡ count (strike_from s g) Y
strikes_split s g Y = strikes_sum Y _ _ _ (λ p k m. split_one s p (g k))

-- at most one strike stands at s, and its key is row s's
strike_one : (s : ℕ) (g : ℕ → Bool) (x : Row) (Y : Layer) → AllPairs before Y → ((k : ℕ) → Mem (at s (strike k)) Y → key x ≡ k)
    → count (strike_here s g) Y ≡ one (struck s Y && keyed g x)
strike_one s g x [] o h = refl
strike_one s g x (at p (add r) ∷ Y) o h = omega (arith, strike_one s g x Y o.1 (λ k m. h k (next m)))
strike_one s g x (at p (change j e) ∷ Y) o h = omega (arith, strike_one s g x Y o.1 (λ k m. h k (next m)))
strike_one s g x (at p (strike k) ∷ Y) o h = go (strike_one s g x Y o.1 (λ l m. h l (next m))) (eqb s p) refl
  where
    go : count (strike_here s g) Y ≡ one (struck s Y && keyed g x) → (t : Bool) → eqb s p ≡ t
        → one (t && g k) + count (strike_here s g) Y ≡ one ((t || struck s Y) && keyed g x)
    go ih true e =
        let sp : s ≡ p = eqb-true s p e in
        let u : struck s Y ≡ false =
        struck_none s Y (λ p' k' m e'.
        true≢false (sym (level p p' (strike k) (strike k') (sym sp ∙ e') (o.0 (at p' (strike k')) m)))) in
        let kx : key x ≡ k = h k (here {x = at p (strike k)} (ap (λ (t : ℕ). at t (strike k)) sp)) in
        rw (ih, u, kx) (omega arith)
    go ih false e = rw (ih) (omega arith)

-- a row past the first place, and one at it
at_deep : {q x : Row} {p s : ℕ} {T : Table} → At q p s (x ∷ T) → suc s ≤ p → At q p (suc s) T
at_deep (top e f) h = absurd (omega arith)
at_deep (deep a) h = a

at_first : {q x : Row} {s : ℕ} {T : Table} → At q s s (x ∷ T) → key x ≡ key q
at_first (top e f) = ap key (sym e)
at_first (deep a) = absurd (omega (arith, at_from a))

-- the count of what a pass reads, row by row
module _ (Y : Layer) (g : ℕ → Bool) (o : AllPairs before Y) (kk : KeyKept Y) where
  -- past the last row no add passes, and no strike
  count_end : (s : ℕ) → ((p : ℕ) (r : Row) → Mem (at p (add r)) Y → p ≤ s + 0) → ((p k : ℕ) → Mem (at p (strike k)) Y → p < s)
      → count (keyed g) (adds_at s Y) + count (strike_from s g) Y ≡ count (add_from s g) Y
  count_end s hA hS =
      omega (
        arith,
        adds_split s g Y,
        adds_zero Y (λ p r. leb (suc s) p && g (key r)) (λ p r m. rw (lt-leb (suc s) p (omega (arith, hA p r m)))),
        strikes_zero Y (λ p k. leb s p && g k) (λ p k m. rw (lt-leb s p (hS p k m))),
      )

  -- row x at s passes with its changes, or its strike does
  count_row : (s : ℕ) (x : Row) → ((k : ℕ) → Mem (at s (strike k)) Y → key x ≡ k)
      → count (keyed g) (unless (struck s Y) (changed s Y x)) + count (strike_here s g) Y ≡ one (keyed g x)
  count_row s x own = go (struck s Y) refl
    where
      kx : keyed g (changed s Y x) ≡ keyed g x
      kx = ap g (changed_key s Y x kk)

      go : (t : Bool) → struck s Y ≡ t → count (keyed g) (unless t (changed s Y x)) + count (strike_here s g) Y ≡ one (keyed g x)
      go true e = omega (arith, strike_one s g x Y o own ∙ ap (λ (t : Bool). one (t && keyed g x)) e)
      go false e = omega (arith, strike_one s g x Y o own ∙ ap (λ (t : Bool). one (t && keyed g x)) e, ap one kx)

  count_from : (s : ℕ) (T : Table) → ((p : ℕ) (r : Row) → Mem (at p (add r)) Y → p ≤ s + length T)
      → ((p k : ℕ) → Mem (at p (strike k)) Y → s ≤ p → (q : Row) × At q p s T × (key q ≡ k))
      → count (keyed g) (read_from s T Y) + count (strike_from s g) Y ≡ count (keyed g) T + count (add_from s g) Y
  count_from s [] hA hS = omega (arith, count_end s hA (λ p k m. before_end p k m (leb s p) refl))
    where
      before_end : (p k : ℕ) → Mem (at p (strike k)) Y → (t : Bool) → leb s p ≡ t → p < s
      before_end p k m true e =
          absurd (omega (arith, at_from (hS p k m (leb-true s p e)).1, at_length (hS p k m (leb-true s p e)).1))
      before_end p k m false e = leb-false s p e
  count_from s (x ∷ T) hA hS =
      omega (
        arith,
        count_append (keyed g) (adds_at s Y) (unless (struck s Y) (changed s Y x) ++ read_from (suc s) T Y),
        count_append (keyed g) (unless (struck s Y) (changed s Y x)) (read_from (suc s) T Y),
        adds_split s g Y,
        strikes_split s g Y,
        count_row s x (λ k m. let w = hS s k m (omega arith) in at_first w.1 ∙ w.2),
        count_from (suc s) T (λ p r m. omega (arith, hA p r m)) (λ p k m h.
            let w = hS p k m (omega arith) in (w.0, at_deep w.1 h, w.2)),
      )

-- the adds at one position ascend
asc_adds : (s : ℕ) (L : Layer) → AllPairs before L → AllPairs (lower key) (adds_at s L)
asc_adds s [] o = tt
asc_adds s (at p (add r) ∷ L) o = go (asc_adds s L o.1) (eqb s p) refl
  where
    go : AllPairs (lower key) (adds_at s L) → (t : Bool) → eqb s p ≡ t → AllPairs (lower key) (cond t (r ∷ []) [] ++ adds_at s L)
    go ih true e =
        (λ q m. level p s (add r) (add q) (sym (eqb-true s p e)) (o.0 (at s (add q)) (adds_mem s L q m)), ih)
    go ih false e = ih
asc_adds s (at p (strike k) ∷ L) o = asc_adds s L o.1
asc_adds s (at p (change j e) ∷ L) o = asc_adds s L o.1

-- what is read ascends: each add stands before the first row with a key as high, and is of no key that is shown
abbrev Sits : Layer → ℕ → ℕ → Table → Type 0
Sits L b s T = (p : ℕ) (r : Row) → Mem (at p (add r)) L → s ≤ p → (b ≤ key r) × (s + count (below key (key r)) T ≡ p)

abbrev Fresh : Layer → ℕ → Table → Type 0
Fresh L s T = (p : ℕ) (r : Row) → Mem (at p (add r)) L → (i : ℕ) (q : Row) → At q i s T → key q ≡ key r → struck i L ≡ true

module _ (L : Layer) (o : AllPairs before L) (kk : KeyKept L) where
  adds_asc : (b s : ℕ) (T : Table) → Sits L b s T → AscFrom key b (adds_at s L)
  adds_asc b s T hA =
      pairs_asc key b (adds_at s L) (asc_adds s L o) (λ r m. (hA s r (adds_mem s L r m) (omega arith)).0)

  -- row x at s, and the rows T past it
  module _ (b s : ℕ) (x : Row) (T : Table) (t : AscFrom key b (x ∷ T)) (hA : Sits L b s (x ∷ T)) (hF : Fresh L s (x ∷ T)) where
    -- an add past s is higher than row x
    sits_past : Sits L (suc (key x)) (suc s) T
    sits_past p r m l = cases (ltb (key x) (key r)) refl
      where
        cases : (u : Bool) → ltb (key x) (key r) ≡ u → (suc (key x) ≤ key r) × (suc s + count (below key (key r)) T ≡ p)
        cases true e = omega (arith, ltb-true (key x) (key r) e, ap one e, hA p r m (omega arith))
        cases false e =
            let n = asc_none key (suc (key x)) T (key r) t.1 (omega (arith, ltb-false (key x) (key r) e)) in
            absurd (omega (arith, n, ap one e, hA p r m (omega arith)))

    -- an add at s is at most row x, and below it where x is shown
    upto : (r : Row) → Mem r (adds_at s L) → key r ≤ key x
    upto r m = cases (ltb (key x) (key r)) refl
      where
        cases : (u : Bool) → ltb (key x) (key r) ≡ u → key r ≤ key x
        cases true e = absurd (omega (arith, ap one e, hA s r (adds_mem s L r m) (omega arith)))
        cases false e = ltb-false (key x) (key r) e

    less : struck s L ≡ false → (r : Row) → Mem r (adds_at s L) → key r < key x
    less u r m = cases (eqb (key x) (key r)) refl
      where
        cases : (w : Bool) → eqb (key x) (key r) ≡ w → key r < key x
        cases true f =
            absurd (true≢false (sym (hF s r (adds_mem s L r m) s x (top refl refl) (eqb-true (key x) (key r) f)) ∙ u))
        cases false f = omega (tests, upto r m)

    asc_row : (M : Table) → AscFrom key (suc (key x)) M
        → AscFrom key b (adds_at s L ++ (unless (struck s L) (changed s L x) ++ M))
    asc_row M ih = go (struck s L) refl
      where
        kx : key (changed s L x) ≡ key x
        kx = changed_key s L x kk

        low : AscFrom key b (adds_at s L)
        low = adds_asc b s (x ∷ T) hA

        go : (u : Bool) → struck s L ≡ u → AscFrom key b (adds_at s L ++ (unless u (changed s L x) ++ M))
        go true e = asc_append key b (suc (key x)) (adds_at s L) M low (λ r m. omega (arith, upto r m)) (omega arith) ih
        go false e =
            asc_append key b (key x) (adds_at s L) (changed s L x ∷ M) low (less e) (omega arith) (omega (arith, kx), rw (kx) ih)

  asc_from : (b s : ℕ) (T : Table) → AscFrom key b T → Sits L b s T → Fresh L s T → AscFrom key b (read_from s T L)
  asc_from b s [] t hA hF = adds_asc b s [] hA
  asc_from b s (x ∷ T) t hA hF =
      asc_row b s x T t hA hF (read_from (suc s) T L)
      (asc_from (suc (key x)) (suc s) T t.1 (sits_past b s x T t hA hF) (λ p r m i q n e. hF p r m i q (deep n) e))

-- the same of a fitting layer
pub read_ascends : (T : Table) (L : Layer) → AscFrom key 0 T → Fit T L → AscFrom key 0 (read T L)
read_ascends T L a F =
    asc_from L F.sorted (key_kept T L F) 0 0 T a (λ p r m h. (omega arith, omega (arith, F.sits p r m))) F.fresh

pub read_count : (T : Table) (L : Layer) (g : ℕ → Bool) → Fit T L
    → count (keyed g) (read T L) + count (strike_from 0 g) L ≡ count (keyed g) T + count (add_from 0 g) L
read_count T L g F =
    count_from L g F.sorted (key_kept T L F) 0 T (λ p r m. omega (arith, F.sits p r m, count_le (below key (key r)) T))
    (λ p k m h. F.strikes p k m)

-- rows after the layer: n + adds - strikes
pub read_length : (T : Table) (L : Layer) → Fit T L → length (read T L) ≡ rows_after (length T) L
read_length T L F =
    ap length (read_origins T L)
    ∙ (length-map (origins (length T) L) (origin_row T L)
    ∙ (origins_count L (pairs_weaker before follows L (λ d e m n. before_follows d e) F.sorted) (length T)
    (λ p r m. omega (arith, F.sits p r m, count_le (below key (key r)) T))
    (λ p k m. omega (arith, at_length (F.strikes p k m).1))).0)

-- a move's new position is the number of keys below its own in what is read through Y
module _ (T : Table) (Y : Layer) (a : AscFrom key 0 T) (F : Fit T Y) where
  -- the rows below k: those of T, with the adds and without the strikes that are below k
  read_below : (k : ℕ) → count (below key k) (read T Y) + count (on_strike (λ p l. ltb l k)) Y
      ≡ count (below key k) T + count (on_add (λ p r. ltb (key r) k)) Y
  read_below k =
      omega (
        arith,
        read_count T Y (λ l. ltb l k) F,
        strikes_same Y (λ p l. leb 0 p && ltb l k) (λ p l. ltb l k) (λ p l m. rw (le-leb 0 p (omega arith))),
        adds_same Y (λ p r. leb 0 p && ltb (key r) k) (λ p r. ltb (key r) k) (λ p r m. rw (le-leb 0 p (omega arith))),
      )

  -- s is the number of base keys below k
  module _ (s k : ℕ) (h : count (below key k) T ≡ s) where
    -- a strike is before s where its key is below k
    strike_below_lem : (p l : ℕ) → Mem (at p (strike l)) Y → one (ltb p s) ≡ one (ltb l k)
    strike_below_lem p l m = go (ltb l k) refl
      where
        q : Row
        q = (F.strikes p l m).0

        kq : key q ≡ l
        kq = (F.strikes p l m).2

        qp : count (below key (key q)) T ≡ p
        qp = omega (arith, at_count key 0 0 T a q p (F.strikes p l m).1)

        go : (t : Bool) → ltb l k ≡ t → one (ltb p s) ≡ one t
        go true e =
            one_lt p s (omega (
              arith,
              qp,
              count_strict key T q k (at_mem (F.strikes p l m).1)
                  (omega (arith, kq, ltb-true l k e)),
            ))
        go false e = one_ge p s (omega (arith, qp, count_mono key T k (key q) (omega (arith, kq, ltb-false l k e))))

    strikes_before : count (strike_before s) Y ≡ count (on_strike (λ p l. ltb l k)) Y
    strikes_before = strikes_same Y _ _ strike_below_lem

    -- an add with a key below k is at s or before, one with another key at s or after
    add_low : (p : ℕ) (r : Row) → Mem (at p (add r)) Y → key r < k → p ≤ s
    add_low p r m e = omega (arith, F.sits p r m, count_mono key T (key r) k (omega arith))

    add_high : (p : ℕ) (r : Row) → Mem (at p (add r)) Y → k ≤ key r → s ≤ p
    add_high p r m e = omega (arith, F.sits p r m, count_mono key T k (key r) e)

    pub moved_add : add_position Y s k ≡ count (below key k) (read T Y)
    unfolding add_position
    moved_add =
        omega (
          arith,
          strikes_before,
          read_below k,
          adds_sum Y (λ p r. ltb p s) (λ p r. eqb s p && ltb (key r) k) (λ p r. ltb (key r) k)
              (λ p r m. case p r m (eqb s p) refl (ltb (key r) k) refl),
        )
      where
        case : (p : ℕ) (r : Row) → Mem (at p (add r)) Y → (t : Bool) → eqb s p ≡ t → (u : Bool) → ltb (key r) k ≡ u
            → one (ltb p s) + one (t && u) ≡ one u
        case p r m true e u f = omega (arith, one_ge p s (omega (arith, eqb-true s p e)))
        case p r m false e true f =
            omega (arith, one_lt p s (omega (arith, eqb-false s p e, add_low p r m (ltb-true (key r) k f))))
        case p r m false e false f = omega (arith, one_ge p s (add_high p r m (ltb-false (key r) k f)))

  pub moved_row : (s : ℕ) (q : Row) → At q s 0 T → struck s Y ≡ false → row_of Y s ≡ count (below key (key q)) (read T Y)
  unfolding row_of
  moved_row s q n u =
      omega (
        arith,
        sits_here,
        strikes_before s (key q) sits_here,
        read_below (key q),
        adds_same Y (λ p r. leb p s) (λ p r. ltb (key r) (key q)) (λ p r m. case p r m (ltb (key r) (key q)) refl),
      )
    where
      sits_here : count (below key (key q)) T ≡ s
      sits_here = omega (arith, at_count key 0 0 T a q s n)

      unlike : (p : ℕ) (r : Row) → Mem (at p (add r)) Y → key q ≡ key r → ⊥
      unlike p r m e = true≢false (sym (F.fresh p r m s q n e) ∙ u)

      case : (p : ℕ) (r : Row) → Mem (at p (add r)) Y → (u : Bool) → ltb (key r) (key q) ≡ u → one (leb p s) ≡ one u
      case p r m true f = rw (le-leb p s (add_low s (key q) sits_here p r m (ltb-true (key r) (key q) f)))
      case p r m false f =
          let l : key q < key r = omega (arith, unlike p r m, ltb-false (key r) (key q) f) in
          rw (lt-leb p s (omega (arith, sits_here, F.sits p r m, count_strict key T q (key r) (at_mem n) l)))
