-- Once both sets are done, what I typed against the row that I saw stands with that row's group, and with no other.
-- Assumes nothing.
use mathlib.Core.Path.{◌≡◌, refl, sym, ap, ◌∙◌}
use mathlib.Core.Logic.{inl}
use mathlib.Core.Bool.{Bool, true, false, cond, true≢false}
use mathlib.Core.List.Memᴰ.{head as here}
use mathlib.Core.List.Memᴰ.{tail as next}
use mathlib.Core.List.{List, [], ◌∷◌, Memᴰ as Mem}
use Prim.Native.Nat.{ℕ, ◌<◌}
use native.Mathlib.Omega.{arith}
use lib.ListN.{length, get_or}
use lib.Dec.{eqb}
use borrow.Author.Tests.{eqb-false, eq-eqb, ne_eqb}
use Rattle.order.specs.Lists.{any, ascending, in_turn}
use Rattle.order.proofs.Tests.{impossible}
use Rattle.order.proofs.Members.{any_mem, none_any, mem_insert}
use Rattle.order.proofs.Ascending.{AscFrom, At, get_or_at, of_asc}
use Rattle.model.specs.Row.{Row, Table, key, keys, with_key}
use Rattle.model.specs.Cell.{to, put}
use Rattle.model.specs.Layer.{Deed, add, strike, change, at, Layer}
use Rattle.model.specs.Read.{read}
use Rattle.model.specs.Conflict.{conflict}
use Rattle.model.specs.Redo.{strike_key}
use Rattle.model.specs.Edits.{add_row, strike_row, renumber_row, deed_before}
use Rattle.model.specs.Meaning.{Found, row, missing, lookup, meaning, given, strike_found, change_found}
use Rattle.model.specs.Steps.{Step, adding, striking, changing, renumbering, step_on, key_at, Allowed}
use Rattle.theory.proofs.Fit.{Good, good_form, good_fits}
use Rattle.theory.proofs.Column.{Wide}
use Rattle.theory.proofs.Conflict.{apart, conflict_sym}
use Rattle.theory.proofs.Move.{Beside}
use Rattle.theory.proofs.Demand3.{Tested}
use Rattle.theory.proofs.Edited.{add_good, strike_good, strike_reads, change_good}
use Rattle.theory.proofs.Renumbered.{with_key_lem, renumber_reads}
use Rattle.theory.proofs.Joined.{adds_row, add_deeds, add_means, strike_means, change_means}
use Rattle.theory.proofs.Meaning.{meaning_mem}
use Rattle.theory.proofs.Lookup.{one_layer, given_added, given_gone, given_changed, strikes_one, strikes_missing, added_once}
use Rattle.theory.proofs.Redo.{lookup_strike, lookup_add}
use Rattle.theory.proofs.Moved.{together}
use Rattle.theory.proofs.Operator.{operators_question, theirs_alone}
use Rattle.question.specs.Typed.{groups_of, Gone, nothing, theirs, Shows, Reached}
use Rattle.question.proofs.Mine.{added_alone, my_change}

-- the deed is a strike
abbrev strikes : Deed → Bool
strikes (add r) = false
strikes (strike k) = true
strikes (change j e) = false

-- a row that is changed is still a row
still : (ds : List Deed) (q : Row) → in_turn change_found ds (row q) ≡ missing → ⊥
still [] q h = impossible (cc)
still (add r ∷ ds) q h = still ds q h
still (strike k ∷ ds) q h = still ds q h
still (change j e ∷ ds) q h = still ds (put q j e) h

module _ (c : ℕ) (T : Table) (L Y : Layer) (a : AscFrom key 0 T) (G : Good c T L) (H : Good c T Y) where
  -- two good layers with no conflict stand beside each other
  module _ (X : Layer) (GX : Good c T X) (free : conflict X Y ≡ false) where
    rising : ascending (keys T) ≡ true
    rising = of_asc key T a

    tested : (Z : Layer) → Good c T Z → Tested c T Z
    tested Z GZ = record { formed = good_form c T Z a GZ; fitted = good_fits c T Z a GZ }

    mine_beside : Beside T X Y
    mine_beside = record { ascends = a; mine = GX.fit; theirs = H.fit; apart = apart X Y free }

    theirs_beside : Beside T Y X
    theirs_beside = record {
      ascends = a;
      mine = H.fit;
      theirs = GX.fit;
      apart = apart Y X (sym (conflict_sym X Y) ∙ free);
    }

    -- a group's row after both, by what X means for it and what theirs leave
    by_mine : (h : ℕ) → lookup h (together T X Y) ≡ given (meaning (keys T) X h) (lookup h (read T Y))
    by_mine h =
        (operators_question c T X Y rising (tested X GX) (tested Y H) free h).mine_last
        ∙ ap (given (meaning (keys T) X h)) (sym (one_layer T Y a H.fit h))

    -- a group that X adds has X's row
    pub added_row_lem : (g : ℕ) (r : Row) → Mem (add r) (meaning (keys T) X g) → lookup g (together T X Y) ≡ row r
    added_row_lem g r m =
        by_mine g ∙ given_added (meaning (keys T) X g) (lookup g (read T Y)) r m
        (λ q n. added_once T X a GX.fit g q r n m)

    -- a group that X alone does not show: it shows no row, or the one that theirs add
    module _ (g : ℕ) (none : lookup g (read T X) ≡ missing) where
      abbrev ds : List Deed
      ds = meaning (keys T) X g

      abbrev es : List Deed
      es = meaning (keys T) Y g

      alone : given ds (lookup g T) ≡ missing
      alone = sym (one_layer T X a GX.fit g) ∙ none

      not_added : (r : Row) → Mem (add r) ds → ⊥
      not_added r m =
          let e = given_added ds (lookup g T) r m (λ q n. added_once T X a GX.fit g q r n m) in
          impossible (cc (e, alone))

      -- mine strike it
      struck_too : (k : ℕ) → Mem (strike k) ds → Gone g Y (together T X Y)
      struck_too k m =
          nothing (by_mine g ∙ given_gone ds (lookup g (read T Y)) not_added (strikes_one ds (lookup g (read T Y)) k m))

      -- theirs add it
      added_there : (r : Row) → Mem (add r) es → Gone g Y (together T X Y)
      added_there r m =
          let z = meaning_mem (keys T) Y g (add r) m in
          let quiet = added_alone T Y X theirs_beside mine_beside g z.0 r z.1 z.2 in
          theirs z.0 r z.1
          (theirs_alone c T X Y rising (tested X GX) (tested Y H) free g quiet
          ∙ (one_layer T Y a H.fit g
          ∙ given_added es (lookup g T) r m (λ q n. added_once T Y a H.fit g q r n m)))

      -- neither: then the base has no such row, and nobody shows one
      module _ (kept : (k : ℕ) → Mem (strike k) ds → ⊥) (unadded : (r : Row) → Mem (add r) es → ⊥) where
        no_base : (f : Found) → lookup g T ≡ f → lookup g T ≡ missing
        no_base missing e = e
        no_base (row p) e =
            absurd (still ds p (sym (given_changed ds (row p) not_added kept) ∙ (ap (given ds) (sym e) ∙ alone)))

        unshown : lookup g (read T Y) ≡ missing
        unshown =
            one_layer T Y a H.fit g
            ∙ given_gone es (lookup g T) unadded
            (ap (in_turn strike_found es) (no_base (lookup g T) refl) ∙ strikes_missing es)

        nobody : Gone g Y (together T X Y)
        nobody =
            nothing (by_mine g ∙ given_gone ds (lookup g (read T Y)) not_added
            (ap (in_turn strike_found ds) unshown ∙ strikes_missing ds))

      pub struck_row_lem : Gone g Y (together T X Y)
      struck_row_lem = by (any strikes ds) refl (any adds_row es) refl
        where
          of_strike : (d : Deed) → Mem d ds → strikes d ≡ true → Gone g Y (together T X Y)
          of_strike (add r) m h = absurd (true≢false (sym h))
          of_strike (strike k) m h = struck_too k m
          of_strike (change j e) m h = absurd (true≢false (sym h))

          of_add : (d : Deed) → Mem d es → adds_row d ≡ true → Gone g Y (together T X Y)
          of_add (add r) m h = added_there r m
          of_add (strike k) m h = absurd (true≢false (sym h))
          of_add (change j e) m h = absurd (true≢false (sym h))

          by : (s : Bool) → any strikes ds ≡ s → (t : Bool) → any adds_row es ≡ t → Gone g Y (together T X Y)
          by true e t f = let w = any_mem strikes ds e in of_strike w.0 w.1 w.2
          by false e true f = let w = any_mem adds_row es f in of_add w.0 w.1 w.2
          by false e false f =
              nobody (λ k m. true≢false (none_any strikes ds e (strike k) m))
              (λ r m. true≢false (none_any adds_row es f (add r) m))

  -- The step x, allowed against the rows that I saw.
  abbrev M : Table
  M = read T L

  -- the row at number i
  seen : (i : ℕ) → i < length M → At (get_or M i []) i 0 M
  seen i h = get_or_at M i [] h

  other : {A : Type 0} (g h : ℕ) (x y : A) → (g ≡ h → ⊥) → cond (eqb g h) x y ≡ y
  other g h x y ne = rw (ne_eqb g h ne)

  same : {A : Type 0} (g : ℕ) (x y : A) → cond (eqb g g) x y ≡ x
  same g x y = rw (eq-eqb g g refl)

  -- a row that gets another number than its own: the layer without it, and what that means with it
  module _ (i g : ℕ) (w : Allowed c (renumbering i g) M) (ne : key_at i M ≡ g → ⊥) where
    abbrev out : Layer
    out = strike_row (keys T) i L

    abbrev moved : Row
    moved = with_key g (get_or M i [])

    out_good : Good c T out
    out_good = strike_good c T L a G i (get_or M i []) (seen i w.0)

    new_key : key moved ≡ g
    new_key = with_key_lem g (get_or M i []) (omega (arith, w.1, w.2))

    moved_means : (h : ℕ) → meaning (keys T) (add_row (keys T) moved out) h
        ≡ cond (eqb g h) (add_deeds moved (meaning (keys T) out h)) (meaning (keys T) out h)
    moved_means h = rw new_key at (add_means T out a out_good.fit h moved)

  -- for any other group the edited layer means what L does
  means_other : (x : Step) → Allowed c x M → (h : ℕ) → (Mem h (groups_of x M) → ⊥)
      → meaning (keys T) (step_on T x L) h ≡ meaning (keys T) L h
  unfolding renumber_row
  means_other (adding r) w h ne = add_means T L a G.fit h r ∙ other (key r) h _ _ (λ e. ne (here (sym e)))
  means_other (striking i) w h ne =
      strike_means T L a G.fit h i (get_or M i []) (seen i w) ∙ other (key_at i M) h _ _ (λ e. ne (here (sym e)))
  means_other (changing i j e) w h ne =
      change_means T L a G.fit h i (get_or M i []) (seen i w.0) j e w.1
      ∙ other (key_at i M) h _ _ (λ e. ne (here (sym e)))
  means_other (renumbering i g) w h ne = go (eqb (key_at i M) g) refl
    where
      go : (t : Bool) → eqb (key_at i M) g ≡ t → meaning (keys T) (renumber_row T i g L) h ≡ meaning (keys T) L h
      go true e = rw e
      go false e =
          let away : Mem h (key_at i M ∷ g ∷ []) → ⊥ = rw e at ne in
          rw e (moved_means i g w (eqb-false (key_at i M) g e) h
          ∙ (other g h _ _ (λ f. away (next (here (sym f)))) ∙ (strike_means T L a G.fit h i (get_or M i []) (seen i w.0)
          ∙ other (key_at i M) h _ _ (λ f. away (here (sym f))))))

  step_good : (x : Step) → Allowed c x M → Good c T (step_on T x L)
  step_good (adding r) w = add_good c T L a G r w.0 w.1
  step_good (striking i) w = strike_good c T L a G i (get_or M i []) (seen i w)
  step_good (changing i j e) w = change_good c T L a G i (get_or M i []) (seen i w.0) j e w.1 w.2
  step_good (renumbering i g) w = (renumber_reads c T L a G i g w.0 w.1 w.2 w.3).good

  -- it is added under its new number, and under its old one nothing is shown
  module _ (i g : ℕ) (w : Allowed c (renumbering i g) M) (ne : key_at i M ≡ g → ⊥) where
    there : Mem (add (moved i g w ne)) (meaning (keys T) (renumber_row T i g L) g)
    unfolding renumber_row
    there =
        rw (ne_eqb (key_at i M) g ne, moved_means i g w ne g, eq-eqb g g refl)
        (mem_insert deed_before (add (moved i g w ne)) (meaning (keys T) (out i g w ne) g) (add (moved i g w ne)) (inl refl))

    left : lookup (key_at i M) (read T (renumber_row T i g L)) ≡ missing
    left =
        let r = (renumber_reads c T L a G i g w.0 w.1 w.2 w.3).reads in
        ap (lookup (key_at i M)) r
        ∙ (lookup_add (key_at i M) (moved i g w ne) (strike_key (key_at i M) M)
        ∙ (other (key (moved i g w ne)) (key_at i M) _ _ (λ e. ne (sym e ∙ new_key i g w ne))
        ∙ (lookup_strike (key_at i M) (key_at i M) M ∙ same (key_at i M) missing (lookup (key_at i M) M))))

  module _ (wide : Wide c T) where
    shows : (x : Step) (w : Allowed c x M) → conflict (step_on T x L) Y ≡ false
        → Shows Y M (together T (step_on T x L) Y) x
    shows (adding r) w free =
        added_row_lem (add_row (keys T) r L) (step_good (adding r) w) free (key r) r
        (rw (add_means T L a G.fit (key r) r, eq-eqb (key r) (key r) refl)
        (mem_insert deed_before (add r) (meaning (keys T) L (key r)) (add r) (inl refl)))
    shows (striking i) w free =
        struck_row_lem (strike_row (keys T) i L) (step_good (striking i) w) free (key_at i M)
        (ap (lookup (key_at i M)) (strike_reads c T L a G i (get_or M i []) (seen i w))
        ∙ (lookup_strike (key_at i M) (key_at i M) M ∙ same (key_at i M) missing (lookup (key_at i M) M)))
    shows (changing i j (to v)) w free =
        my_change c T L Y a wide G H i (get_or M i []) (seen i w.0) j v w.1 w.2 free
    shows (renumbering i g) w free = λ ne. (
      added_row_lem (renumber_row T i g L) (step_good (renumbering i g) w) free g (with_key g (get_or M i [])) (there i g w ne),
      struck_row_lem (renumber_row T i g L) (step_good (renumbering i g) w) free (key_at i M) (left i g w ne),
    )

    -- what I typed reached its own groups, and no other
    pub reached : (x : Step) → Allowed c x M → conflict (step_on T x L) Y ≡ false
        → Reached T L Y x (together T (step_on T x L) Y)
    reached x w free = record {
      own = shows x w free;
      others = λ h ne. by_mine (step_on T x L) (step_good x w) free h
          ∙ ap (λ (d : List Deed). given d (lookup h (read T Y))) (means_other x w h ne);
    }
