-- Renumbering a row: the layer stays good and has as many rows; it reads as before but for that row, which stands at its new
-- number's place with its other cells. And back: an added row's layer is what it was; a base row is struck, and added with its
-- own key.
-- Assumes nothing.
use mathlib.Core.Path.{◌≡◌, refl, sym, ap, ◌∙◌}
use mathlib.Core.Logic.{inl}
use mathlib.Core.Bool.{Bool, true, false, cond, true≢false}
use mathlib.Core.List.Memᴰ.{head as here}
use mathlib.Core.List.{List, [], ◌∷◌, Memᴰ as Mem}
use Prim.Native.Nat.{ℕ, ◌≤◌, ◌<◌}
use native.Mathlib.Omega.{arith}
use lib.ListN.{length, get_or, set, length-set}
use lib.Seq.{get_or-set_same, get_or-set_other, set-set, set-get_or}
use lib.Dec.{eqb}
use borrow.Author.Tests.{eqb-true, eqb-false, eq-eqb, ne_eqb}
use Rattle.words.specs.declared.Origin.{Origin}
use Rattle.words.specs.declared.Origin.TheVariants.{Base as base, Added as added}
use Rattle.order.specs.Lists.{count, insert, without}
use Rattle.order.proofs.Tests.{not_passed, one_ge}
use Rattle.order.proofs.Members.{mem_insert}
use Rattle.order.proofs.Counts.{count_insert}
use Rattle.order.proofs.Ascending.{AscFrom, At, below, mem_at, at_mem, at_cast, at_count, at_get_or, get_or_at}
use Rattle.order.proofs.Edited.{insert_without, filter_without}
use Rattle.model.specs.Row.{Row, Table, cell, key, keys, with_key}
use Rattle.model.specs.Layer.{Deed, add, strike, change, at, Layer, rows_after}
use Rattle.model.specs.Fit.{keys_below}
use Rattle.model.specs.Read.{read}
use Rattle.model.specs.Position.{back}
use Rattle.model.specs.Edits.{before, enter, add_row, strike_base, strike_origin, strike_row, renumber_row, row_of_key}
use Rattle.model.specs.Redo.{strike_key, row_before, add_key}
use Rattle.model.specs.Steps.{adding, striking, step_on}
use Rattle.model.specs.Meaning.{meaning, row, lookup}
use Rattle.theory.proofs.Edits.{before_asym}
use Rattle.theory.proofs.Fit.{Good, below_keys, keys_length}
use Rattle.theory.proofs.Count.{read_ascends}
use Rattle.theory.proofs.Origin.{back_row, added_at}
use Rattle.theory.proofs.Meaning.{by_deed}
use Rattle.theory.proofs.Lookup.{lookup_mem, lookup_ext, added_shown}
use Rattle.theory.proofs.Redo.{strike_mem, strike_asc, add_asc, lookup_strike, lookup_add}
use Rattle.theory.proofs.Joined.{adds_row, strike_deeds, add_deeds, all_stay, add_means, strike_means}
use Rattle.theory.proofs.Canonical.{canonical}
use Rattle.theory.proofs.Edited.{
  Reads,
  add_good,
  add_reads,
  add_rows_lem,
  strike_good,
  strike_reads,
  strike_rows_lem,
  row_of_key_lem,
}

-- a row with another key has that key, and is as long; with its own key it is itself
pub with_key_lem : (g : ℕ) (r : Row) → 1 ≤ length r → key (with_key g r) ≡ g
unfolding key
with_key_lem g r h = get_or-set_same r 0 g 0 h

pub with_key_length : (g : ℕ) (r : Row) → length (with_key g r) ≡ length r
with_key_length g r = length-set r 0 g

pub with_own_key : (r : Row) → with_key (key r) r ≡ r
unfolding key
with_own_key [] = refl
with_own_key (v ∷ r) = refl

-- its other cells stay
pub renumber_cells : (g : ℕ) (r : Row) (j : ℕ) → 1 ≤ j → cell j (with_key g r) ≡ cell j r
renumber_cells g r j h = get_or-set_other r 0 j g 0 (λ e. omega arith)

-- a row with another key, and its own again
key_again : (g : ℕ) (r : Row) → with_key (key r) (with_key g r) ≡ r
key_again g r = set-set r 0 g (key r) ∙ with_own_key r

-- a row taken out and put in again
put_back : (M : Table) (q : Row) → AscFrom key 0 M → Mem q M → add_key q (strike_key (key q) M) ≡ M
put_back M q a m =
    lookup_ext (add_key q (strike_key (key q) M)) M
    (add_asc q (strike_key (key q) M) (strike_asc (key q) M a) (λ x n. (strike_mem (key q) M x n).1)) a
    (λ k. lookup_add k q (strike_key (key q) M) ∙ go k (eqb (key q) k) refl)
  where
    go : (k : ℕ) (t : Bool) → eqb (key q) k ≡ t → cond t (row q) (lookup k (strike_key (key q) M)) ≡ lookup k M
    go k true e = rw (← eqb-true (key q) k e) (sym (lookup_mem M a (key q) q m refl))
    go k false e = lookup_strike k (key q) M ∙ rw e

-- a row put in stands where its key puts it
put_in : (x : Row) (k : ℕ) (M N : Table) → key x ≡ k → N ≡ add_key x M → AscFrom key 0 N → At x (keys_below k (keys M)) 0 N
put_in x k M N f e a =
    let w = mem_at 0 N x (rw e (mem_insert row_before x M x (inl refl))) in
    let p : w.0 ≡ keys_below k (keys M) =
    omega (
      arith,
      at_count key 0 0 N a x w.0 w.1,
      ap (count (below key (key x))) e,
      count_insert (below key (key x)) row_before x M,
      one_ge (key x) (key x) (omega arith),
      ap (λ (l : ℕ). keys_below l (keys M)) f,
      below_keys (key x) M,
    ) in
    at_cast p w.1

-- deeds that add nothing, once a row is added for their key and struck
deeds_again : (k : ℕ) (x : Row) (ds : List Deed) → ((d : Deed) → Mem d ds → adds_row d ≡ false)
    → strike_deeds k (add_deeds x ds) ≡ ds
deeds_again k x [] h = refl
deeds_again k x (add r ∷ ds) h = absurd (true≢false (h (add r) (here refl)))
deeds_again k x (strike l ∷ ds) h = sym (all_stay (strike l ∷ ds) h)
deeds_again k x (change j e ∷ ds) h = sym (all_stay (change j e ∷ ds) h)

-- striking the row that was just added gives the layer back
module _ (c : ℕ) (T : Table) (N : Layer) (a : AscFrom key 0 T) (G : Good c T N) (x : Row) (len : length x ≡ c)
    (free : (y : Row) → Mem y (read T N) → key y ≡ key x → ⊥) where
  abbrev new : Layer
  new = add_row (keys T) x N

  abbrev r : ℕ
  r = row_of_key (keys T) new (key x)

  new_good : Good c T new
  new_good = add_good c T N a G x len free

  -- it stands at the row number of its key
  added_stands : At x r 0 (read T new)
  added_stands =
      let w = mem_at 0 (read T new) x
      (rw (add_reads c T N a G x len free) (mem_insert row_before x (read T N) x (inl refl))) in
      at_cast (sym (row_of_key_lem T new a new_good.fit w.0 x w.1)) w.1

  bare : (d : Deed) → Mem d (meaning (keys T) N (key x)) → adds_row d ≡ false
  bare = by_deed (λ d. adds_row d ≡ false) (meaning (keys T) N (key x))
      (λ q m. let w = added_shown T N a G.fit (key x) q m in absurd (free q w.0 w.1))
      (λ k m. refl) (λ j e m. refl)

  pub strike_added_row : strike_row (keys T) (row_of_key (keys T) (add_row (keys T) x N) (key x)) (add_row (keys T) x N) ≡ N
  strike_added_row =
      canonical T (strike_row (keys T) r new) N a (strike_good c T new a new_good r x added_stands).fit G.fit
      (λ k. strike_means T new a new_good.fit k r x added_stands ∙ go k (eqb (key x) k) refl)
    where
      go : (k : ℕ) (t : Bool) → eqb (key x) k ≡ t
          → cond t (strike_deeds (key x) (meaning (keys T) new k)) (meaning (keys T) new k) ≡ meaning (keys T) N k
      go k true e =
          ap (strike_deeds (key x)) {y = add_deeds x (meaning (keys T) N k)} (add_means T N a G.fit k x ∙ rw e)
          ∙ rw (← eqb-true (key x) k e) (deeds_again (key x) x (meaning (keys T) N (key x)) bare)
      go k false e = add_means T N a G.fit k x ∙ rw e

-- an added row taken out and entered anew is the layer as it was
enter_again : (T : Table) (L : Layer) (c : ℕ) → Good c T L → (i p : ℕ) (q : Row) → At (at p (add q)) i 0 L
    → add_row (keys T) q (without i L) ≡ L
unfolding add_row
enter_again T L c G i p q n =
    let s : keys_below (key q) (keys T) ≡ p = omega (arith, below_keys (key q) T, G.fit.sits p q (at_mem n)) in
    ap (λ (t : ℕ). enter (at t (add q)) (without i L)) s
    ∙ (insert_without before i L (at p (add q)) (at p (add q)) G.fit.sorted n (λ x m h. h)
    (λ x m h. not_passed (before x (at p (add q))) (λ f. before_asym (at p (add q)) x h f))
    ∙ (ap (set L i) (sym (at_get_or (at p (add q)) n)) ∙ set-get_or L i (at p (add q))))

-- its own number changes nothing
pub own_number : (T : Table) (L : Layer) (r k : ℕ) → key (get_or (read T L) r []) ≡ k → renumber_row T r k L ≡ L
unfolding renumber_row
own_number T L r k e = rw (eq-eqb (key (get_or (read T L) r [])) k e)

-- another number than that of the row x that is shown there: struck, then added
pub moved_by : (T : Table) (L : Layer) (r k : ℕ) (x : Row) → At x r 0 (read T L) → (key x ≡ k → ⊥)
    → renumber_row T r k L ≡ add_row (keys T) (with_key k x) (strike_row (keys T) r L)
unfolding renumber_row
moved_by T L r k x n other =
    ap (λ (y : Row). cond (eqb (key y) k) L (add_row (keys T) (with_key k y) (strike_row (keys T) r L))) (at_get_or [] n)
    ∙ rw (ne_eqb (key x) k other)

module _ (c : ℕ) (T : Table) (L : Layer) (a : AscFrom key 0 T) (G : Good c T L) (i g : ℕ) where
  abbrev M : Table
  M = read T L

  abbrev q : Row
  q = get_or M i []

  -- the row is there and has c cells, and no other row has the number g
  module _ (there : i < length M) (some : 1 ≤ c) (wide : length q ≡ c)
      (free : (x : Row) → Mem x (without i M) → key x ≡ g → ⊥) where
    seen : At q i 0 M
    seen = get_or_at M i [] there

    rises : AscFrom key 0 M
    rises = read_ascends T L a G.fit

    abbrev out : Layer
    out = strike_row (keys T) i L

    new_key : key (with_key g q) ≡ g
    new_key = with_key_lem g q (omega arith)

    -- another number than its own: struck, then added
    module _ (other : key q ≡ g → ⊥) where
      gone : Good c T out
      gone = strike_good c T L a G i q seen

      gone_reads : read T out ≡ strike_key (key q) M
      gone_reads = strike_reads c T L a G i q seen

      unshown : (x : Row) → Mem x (read T out) → key x ≡ key (with_key g q) → ⊥
      unshown x m e =
          free x (rw (gone_reads, filter_without key 0 i M q rises seen) at m) (e ∙ new_key)

      moved_reads : Reads c T (add_row (keys T) (with_key g q) out) (add_key (with_key g q) (strike_key (key q) M))
      moved_reads = record {
        good = add_good c T out a gone (with_key g q) (with_key_length g q ∙ wide) unshown;
        reads = add_reads c T out a gone (with_key g q) (with_key_length g q ∙ wide) unshown
            ∙ ap (add_key (with_key g q)) gone_reads;
      }

      moved_rows : rows_after (length T) (add_row (keys T) (with_key g q) out) ≡ rows_after (length T) L
      moved_rows =
          add_rows_lem c T out a gone (with_key g q) (with_key_length g q ∙ wide) unshown ∙ strike_rows_lem c T L a G i q seen

    own_reads : key q ≡ g → Reads c T L (add_key (with_key g q) (strike_key (key q) M))
    own_reads e = record {
      good = G;
      reads = sym (ap (λ (x : Row). add_key x (strike_key (key q) M)) (ap (λ (k : ℕ). with_key k q) (sym e) ∙ with_own_key q)
          ∙ put_back M q rises (at_mem seen));
    }

    pub renumber_reads : Reads c T (renumber_row T i g L) (add_key (with_key g q) (strike_key (key q) M))
    unfolding renumber_row
    renumber_reads = go (eqb (key q) g) refl
      where
        go : (t : Bool) → eqb (key q) g ≡ t
            → Reads c T (cond t L (add_row (keys T) (with_key g q) out)) (add_key (with_key g q) (strike_key (key q) M))
        go true e = own_reads (eqb-true (key q) g e)
        go false e = moved_reads (eqb-false (key q) g e)

    -- the row total stays
    pub renumber_rows_lem : rows_after (length T) (renumber_row T i g L) ≡ rows_after (length T) L
    unfolding renumber_row
    renumber_rows_lem = go (eqb (key q) g) refl
      where
        go : (t : Bool) → eqb (key q) g ≡ t
            → rows_after (length T) (cond t L (add_row (keys T) (with_key g q) out)) ≡ rows_after (length T) L
        go true e = refl
        go false e = moved_rows (eqb-false (key q) g e)

    -- what is read is the rows without row i, with the renumbered row in key order
    pub renumber_row_lem : read T (renumber_row T i g L) ≡ insert row_before (with_key g q) (without i (read T L))
    renumber_row_lem = renumber_reads.reads ∙ ap (add_key (with_key g q)) (filter_without key 0 i M q rises seen)

    -- it stands at g's place
    pub renumber_there : At (with_key g q) (keys_below g (keys (without i (read T L)))) 0 (read T (renumber_row T i g L))
    renumber_there =
        put_in (with_key g q) g (without i M) (read T (renumber_row T i g L)) new_key renumber_row_lem
        (read_ascends T (renumber_row T i g L) a renumber_reads.good.fit)

    -- every other number shows what it showed
    pub renumber_others : (h : ℕ) → (h ≡ g → ⊥) → (h ≡ key q → ⊥)
        → lookup h (read T (renumber_row T i g L)) ≡ lookup h (read T L)
    renumber_others h ng nk =
        ap (lookup h) renumber_reads.reads
        ∙ (lookup_add h (with_key g q) (strike_key (key q) M)
        ∙ rw (new_key, ne_eqb g h (λ e. ng (sym e))) (lookup_strike h (key q) M ∙ rw (ne_eqb (key q) h (λ e. nk (sym e)))))

    -- its own number changes nothing
    pub renumber_own_lem : key q ≡ g → renumber_row T i g L ≡ L
    renumber_own_lem e = own_number T L i g e

    -- another number: the layer that the two calls leave
    pub renumber_two : (key q ≡ g → ⊥) → renumber_row T i g L ≡ step_on T (adding (with_key g q)) (step_on T (striking i) L)
    renumber_two other = moved_by T L i g q seen other

    -- what striking the row leaves, by what stands there
    struck_as : {o : Origin} → back (length T) L i ≡ o → out ≡ strike_origin (keys T) L o
    unfolding strike_row
    struck_as h = rw (keys_length T) (ap (strike_origin (keys T) L) h)

    -- back to the old number
    module _ (other : g ≡ key q → ⊥) where
      -- the row as it was, added where the old one was struck
      back_two : renumber_row T (row_of_key (keys T) (renumber_row T i g L) g) (key q) (renumber_row T i g L) ≡ add_row (keys T) q out
      back_two =
          ap (λ (N : Layer). renumber_row T (row_of_key (keys T) N g) (key q) N) (renumber_two away)
          ∙ (ap (λ (k : ℕ). renumber_row T (row_of_key (keys T) new k) (key q) new) (sym new_key)
          ∙ (moved_by T new (row_of_key (keys T) new (key x)) (key q) x
          (added_stands c T out a (gone away) x long (unshown away)) (λ e. other (sym new_key ∙ e))
          ∙ (ap (add_row (keys T) (with_key (key q) x)) (strike_added_row c T out a (gone away) x long (unshown away))
          ∙ ap (λ (y : Row). add_row (keys T) y out) (key_again g q))))
        where
          x : Row
          x = with_key g q

          new : Layer
          new = add_row (keys T) x out

          away : key q ≡ g → ⊥
          away = λ e. other (sym e)

          long : length x ≡ c
          long = with_key_length g q ∙ wide

      -- an added row: the layer as it was
      pub renumber_back_added : (e : ℕ) → back (length T) L i ≡ added e
          → renumber_row T (row_of_key (keys T) (renumber_row T i g L) g) (key q) (renumber_row T i g L) ≡ L
      renumber_back_added e h =
          let w = added_at T L q e (rw h at (back_row T L i q seen)) in
          back_two ∙ (ap (add_row (keys T) q) (struck_as h) ∙ enter_again T L c G e w.0 q w.1)

      -- a base row: a strike, and an add of its own key
      pub renumber_back_base : (s : ℕ) → back (length T) L i ≡ base s
          → renumber_row T (row_of_key (keys T) (renumber_row T i g L) g) (key q) (renumber_row T i g L)
          ≡ add_row (keys T) q (strike_base (keys T) s L)
      renumber_back_base s h = back_two ∙ ap (add_row (keys T) q) (struck_as h)
