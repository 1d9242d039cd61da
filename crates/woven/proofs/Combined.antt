-- The walk along two fitting layers is the combination: both are sorted by key, stand where the keys say, and mean
-- the same for every key.
-- Assumes nothing.
use mathlib.Core.Path.{◌≡◌, refl, sym, ap, subst, ◌∙◌}
use mathlib.Core.Logic.{inl, inr}
use mathlib.Core.Bool.{true, false, true≢false}
use mathlib.Core.List.{List, Memᴰ as Mem}
use Prim.Native.Nat.{ℕ, ◌+◌}
use native.Mathlib.Omega.{arith}
use lib.ListN.{length, get_or}
use lib.Dec.{ltb}
use borrow.Author.Tests.{le-leb}
use Rattle.order.specs.Lists.{one, count, ascending}
use Rattle.order.proofs.Counts.{count_same}
use Rattle.order.proofs.Ascending.{AscFrom, below, at_mem, at_count, asc_of, asc_same}
use Rattle.model.specs.Row.{Row, Table, key, keys}
use Rattle.model.specs.Layer.{add, strike, change, Edit, at, Layer, rows_after, position, struck}
use Rattle.model.specs.Form.{sound, in_order}
use Rattle.model.specs.Fit.{fits, keys_below}
use Rattle.model.specs.Read.{read, keys_after}
use Rattle.model.specs.Redo.{combine}
use Rattle.model.specs.Meaning.{key_of}
use Rattle.theory.proofs.Layer.{changed_key, struck_of}
use Rattle.theory.proofs.Read.{Shown, shown}
use Rattle.theory.proofs.Fit.{Fit, Good, key_kept, key_of_lem, keys_length, below_keys, good_of}
use Rattle.theory.proofs.Count.{read_ascends, read_count, read_length, add_from, strike_from}
use Rattle.theory.proofs.Column.{keys_read, singles, keys_singles}
use Rattle.theory.proofs.Joined.{adds_row}
use Rattle.theory.proofs.Combine.{combine_good, meaning_combined, combine_rows_lem, upper_good}
use Rattle.woven.specs.Woven.{deed, woven_layer}
use Rattle.woven.proofs.Keyed.{keyed_order, key_position, keys_from, one_list}
use Rattle.woven.proofs.Weaving.{add_below, strike_below, Stands, Along, weave_all}

module _ (T : Table) (R W : Layer) (a : AscFrom key 0 T) (FR : Fit T R) (FW : Fit (read T R) W) where
  abbrev K : List ℕ
  K = keys T

  abbrev N : List ℕ
  N = keys (read T R)

  rising : AscFrom key 0 (read T R)
  rising = read_ascends T R a FR

  -- the counting identity
  counted : (f : Edit) → Mem f W
      → position f + 0 + count (strike_below (key_of N f)) R ≡ keys_below (key_of N f) K + 0 + count
      (add_below (key_of N f)) R
  counted f m = omega (
    arith,
    key_position (read T R) W rising FW f m,
    below_keys (key_of N f) (read T R),
    below_keys (key_of N f) T,
    read_count T R (λ l. ltb l (key_of N f)) FR,
    count_same (strike_from 0 (λ l. ltb l (key_of N f))) (strike_below (key_of N f)) R strikes,
    count_same (add_from 0 (λ l. ltb l (key_of N f))) (add_below (key_of N f)) R adds,
  )
    where
      strikes : (e : Edit) → Mem e R → one (strike_from 0 (λ l. ltb l (key_of N f)) e) ≡ one (strike_below (key_of N f) e)
      strikes (at p (add r)) n = refl
      strikes (at p (strike k)) n = rw (le-leb 0 p (omega arith))
      strikes (at p (change j e)) n = refl

      adds : (e : Edit) → Mem e R → one (add_from 0 (λ l. ltb l (key_of N f)) e) ≡ one (add_below (key_of N f) e)
      adds (at p (add r)) n = rw (le-leb 0 p (omega arith))
      adds (at p (strike k)) n = refl
      adds (at p (change j e)) n = refl

  -- a row that R shows is one that it adds, or a base row that it does not strike
  stands : (q : Row) (k : ℕ) → Mem q (read T R) → key q ≡ k → Stands K R k
  stands q k m e = go (shown 0 T R q m)
    where
      go : Shown 0 T R q → Stands K R k
      go (inl (p, n)) = inl (p, q, n, e)
      go (inr (p, r, n, u, z)) =
          let kr : key r ≡ k = sym (changed_key p R r (key_kept T R FR)) ∙ (ap key (sym z) ∙ e) in
          let pos : keys_below k K ≡ p =
          below_keys k T ∙ omega (arith, at_count key 0 0 T a r p n, ap (λ (l : ℕ). count (below key l) T) kr) in
          inr (
            ap (λ (i : ℕ). get_or K i 0) pos ∙ (key_of_lem n ∙ kr),
            λ s x.
                let w = FR.strikes s k x in
                true≢false (sym (ap (λ (i : ℕ). struck i R) (asc_same key T a n w.1 (kr ∙ sym w.2))
                ∙ struck_of s k R x) ∙ u),
          )

  upper_stands : (f : Edit) → Mem f W → adds_row (deed f) ≡ false → Stands K R (key_of N f)
  upper_stands (at s (add r)) m n = absurd (true≢false n)
  upper_stands (at s (strike k)) m n = let w = FW.strikes s k m in stands w.0 k (at_mem w.1) w.2
  upper_stands (at s (change j e)) m n = let w = FW.changes s j e m in stands w.0 (get_or N s 0) (at_mem w.1)
      (sym (key_of_lem w.1))

  begin : Along K N 0 0 R W
  begin = record {
    lower = keyed_order T R a FR;
    upper = keyed_order (read T R) W rising FW;
    lower_sits = key_position T R a FR;
    upper_sits = key_position (read T R) W rising FW;
    counted = counted;
    shown = upper_stands;
    columns = λ p j e m. (FW.changes p j e m).2;
  }

-- over the rows of a table
pub woven_good : (c : ℕ) (T : Table) (R W : Layer) → AscFrom key 0 T → Good c T R → Good c (read T R) W
    → woven_layer (keys T) (keys (read T R)) R W ≡ combine (keys T) R W
woven_good c T R W a GR GW =
    let w = weave_all (length R + length W) 0 0 R W (omega arith) (begin T R W a GR.fit GW.fit) in
    let F = (combine_good c T R W a GR GW).fit in
    one_list (keys T) 0 (woven_layer (keys T) (keys (read T R)) R W) (combine (keys T) R W)
    (w.rises 0 (λ e m. omega arith) (λ f m. omega arith))
    (keys_from (keys T) 0 (combine (keys T) R W) (keyed_order T (combine (keys T) R W) a F) (λ e m. omega arith))
    w.sits
    (key_position T (combine (keys T) R W) a F)
    (λ k. w.means k ∙ sym (meaning_combined c T R W a GR GW k))

-- over the keys, by the tests of the scope
pub record Combines (c : ℕ) (K : List ℕ) (R W : Layer) : Type 0 where
  pub same : woven_layer K (keys_after K R) R W ≡ combine K R W
  pub shown : length (keys_after K R) ≡ rows_after (length K) R
  pub rows : rows_after (length K) (combine K R W) ≡ rows_after (rows_after (length K) R) W
  pub each : (e : Edit) → Mem e (combine K R W) → sound c (length K) e ≡ true

over_keys : (c : ℕ) (T : Table) (R W : Layer) → ascending (keys T) ≡ true → in_order c (length (keys T)) R ≡ true
    → fits (keys T) R ≡ true
    → in_order c (rows_after (length (keys T)) R) W ≡ true → fits (keys_after (keys T) R) W ≡ true
    → Combines c (keys T) R W
over_keys c T R W h fr gr fw gw =
    let n = keys_length T in
    let a = asc_of key T h in
    let GR = good_of c T R a (ap (λ (i : ℕ). in_order c i R) (sym n) ∙ fr) gr in
    let GW = upper_good c T R W a GR (ap (λ (i : ℕ). in_order c (rows_after i R) W) (sym n) ∙ fw) gw in
    record {
      same = ap (λ (N : List ℕ). woven_layer (keys T) N R W) (keys_read T R (key_kept T R GR.fit))
          ∙ woven_good c T R W a GR GW;
      shown = ap length (keys_read T R (key_kept T R GR.fit))
          ∙ (keys_length (read T R) ∙ (read_length T R GR.fit ∙ ap (λ (i : ℕ). rows_after i R) (sym n)));
      rows = ap (λ (i : ℕ). rows_after i (combine (keys T) R W)) n
          ∙ (combine_rows_lem c T R W a GR GW ∙ ap (λ (i : ℕ). rows_after (rows_after i R) W) (sym n));
      each = λ e m. ap (λ (i : ℕ). sound c i e) n ∙ (combine_good c T R W a GR GW).each e m;
    }

pub combines : (c : ℕ) (K : List ℕ) (R W : Layer) → ascending K ≡ true → in_order c (length K) R ≡ true → fits K R ≡ true
    → in_order c (rows_after (length K) R) W ≡ true → fits (keys_after K R) W ≡ true → Combines c K R W
combines c K R W =
    subst (λ (L : List ℕ). ascending L ≡ true → in_order c (length L) R ≡ true → fits L R ≡ true
    → in_order c (rows_after (length L) R) W ≡ true → fits (keys_after L R) W ≡ true → Combines c L R W)
    (keys_singles K) (over_keys c (singles K) R W)
