-- My change, typed against the row that I saw: it stands with that row's group once both sets are read, and no other group's row has it.
-- Assumes nothing.
use mathlib.Core.Path.{◌≡◌, refl, sym, ap, ◌∙◌}
use mathlib.Core.Logic.{inl}
use mathlib.Core.Bool.{Bool, true, false, not, cond, true≢false}
use mathlib.Core.List.Memᴰ.{cast as mem_cast}
use mathlib.Core.List.Memᴰ.{head as here}
use mathlib.Core.List.{List, [], ◌∷◌, Memᴰ as Mem}
use Prim.Native.Nat.{ℕ, ◌≤◌, ◌<◌}
use native.Mathlib.Omega.{arith}
use borrow.Author.Tests.{eq-eqb, ne_eqb}
use Rattle.order.specs.Lists.{any, filter, ascending}
use Rattle.order.proofs.Members.{any_mem, mem_insert, mem_map}
use Rattle.order.proofs.Ascending.{AscFrom, At, at_mem, of_asc}
use Rattle.model.specs.Row.{Row, Table, cell, key, keys}
use Rattle.model.specs.Cell.{to, put}
use Rattle.model.specs.Layer.{Deed, add, strike, change, at, Layer}
use Rattle.model.specs.Read.{read}
use Rattle.model.specs.Edits.{change_row_no, deed_before}
use Rattle.model.specs.Redo.{put_key}
use Rattle.model.specs.Conflict.{conflict}
use Rattle.model.specs.Meaning.{meaning, row, lookup, given}
use Rattle.theory.proofs.Cell.{put_key_lem, put_here}
use Rattle.theory.proofs.Fit.{Good, key_of_lem, good_form, good_fits}
use Rattle.theory.proofs.Count.{read_ascends}
use Rattle.theory.proofs.Column.{Wide, read_wide}
use Rattle.theory.proofs.Conflict.{apart, conflict_sym}
use Rattle.theory.proofs.Move.{Beside}
use Rattle.theory.proofs.Demand3.{Tested}
use Rattle.theory.proofs.Edited.{change_good, change_reads}
use Rattle.theory.proofs.Joined.{adds_row, put_deed, change_deeds, changes_column, set_composed_deeds, change_means}
use Rattle.theory.proofs.Meaning.{meaning_mem}
use Rattle.theory.proofs.Lookup.{lookup_mem, lookup_found, one_layer}
use Rattle.theory.proofs.Moved.{together}
use Rattle.theory.proofs.Operator.{operators_question, mine_alone, mine_cell}

none_of : (ds : List Deed) → ((d : Deed) → Mem d ds → ⊥) → ds ≡ []
none_of [] h = refl
none_of (d ∷ ds) h = absurd (h d (here refl))

-- a group that one set adds, the other set does not touch
pub added_alone : (T : Table) (X Y : Layer) → Beside T X Y → Beside T Y X → (g s : ℕ) (r : Row) → Mem (at s (add r)) X → key r ≡ g
    → meaning (keys T) Y g ≡ []
added_alone T X Y B C g s r m e = none_of (meaning (keys T) Y g) no
  where
    no : (d : Deed) → Mem d (meaning (keys T) Y g) → ⊥
    no (add q) l = let w = meaning_mem (keys T) Y g (add q) l in B.apart.keys s w.0 r q m w.1 (e ∙ sym w.2)
    no (strike k) l =
        let w = meaning_mem (keys T) Y g (strike k) l in
        let z = B.theirs.strikes w.0 k w.1 in
        true≢false (sym (B.mine.fresh s r m w.0 z.0 z.1 (z.2 ∙ (w.2 ∙ sym e))) ∙ C.apart.strikes w.0 k w.1)
    no (change j f) l =
        let w = meaning_mem (keys T) Y g (change j f) l in
        let z = B.theirs.changes w.0 j f w.1 in
        true≢false (sym (B.mine.fresh s r m w.0 z.0 z.1 (sym (key_of_lem z.1) ∙ (w.2 ∙ sym e))) ∙ C.apart.changes w.0 j f w.1)

-- I saw q in row i, through my layer L, and changed its column j to v; theirs is Y
module _ (c : ℕ) (T : Table) (L Y : Layer) (a : AscFrom key 0 T) (wide : Wide c T) (G : Good c T L) (H : Good c T Y)
    (i : ℕ) (q : Row) (n : At q i 0 (read T L)) (j v : ℕ) (past : 1 ≤ j) (within : j < c) where
  abbrev X : Layer
  X = change_row_no (keys T) i j (to v) L

  module _ (free : conflict X Y ≡ false) where
    good : Good c T X
    good = change_good c T L a G i q n j (to v) past within

    t : ascending (keys T) ≡ true
    t = of_asc key T a

    TX : Tested c T X
    TX = record { formed = good_form c T X a good; fitted = good_fits c T X a good }

    TY : Tested c T Y
    TY = record { formed = good_form c T Y a H; fitted = good_fits c T Y a H }

    B : Beside T X Y
    B = record { ascends = a; mine = good.fit; theirs = H.fit; apart = apart X Y free }

    C : Beside T Y X
    C = record { ascends = a; mine = H.fit; theirs = good.fit; apart = apart Y X (sym (conflict_sym X Y) ∙ free) }

    mine_shown : lookup (key q) (read T X) ≡ row (put q j (to v))
    mine_shown =
        lookup_mem (read T X) (read_ascends T X a good.fit) (key q) (put q j (to v))
        (rw (change_reads c T L a G i q n j (to v) past within)
        (mem_cast {b = put_key (key q) j (to v) q} (sym (rw (eq-eqb (key q) (key q) refl) refl))
        (mem_map (put_key (key q) j (to v)) (read T L) q (at_mem n))))
        (put_key_lem q j (to v) past)

    means : meaning (keys T) X (key q) ≡ change_deeds j (to v) (meaning (keys T) L (key q))
    means =
        change_means T L a G.fit (key q) i q n j (to v) past
        ∙ ap (λ (b : Bool). cond b (change_deeds j (to v) (meaning (keys T) L (key q))) (meaning (keys T) L (key q))) (eq-eqb (key q) (key q) refl)

    -- the group that I saw has my value, whoever goes first
    pub my_change : (r : Row) × (lookup (key q) (together T X Y) ≡ row r) × (cell j r ≡ v)
    my_change = go (any adds_row (meaning (keys T) L (key q))) refl
      where
        g : ℕ
        g = key q

        go : (b : Bool) → any adds_row (meaning (keys T) L g) ≡ b → (r : Row) × (lookup g (together T X Y) ≡ row r) × (cell j r ≡ v)
        go true e = added w.0 w.1 w.2
          where
            w : (d : Deed) × Mem d (meaning (keys T) L g) × (adds_row d ≡ true)
            w = any_mem adds_row (meaning (keys T) L g) e

            added : (d : Deed) → Mem d (meaning (keys T) L g) → adds_row d ≡ true → (r : Row) × (lookup g (together T X Y) ≡ row r) × (cell j r ≡ v)
            added (strike k) m h = absurd (true≢false (sym h))
            added (change k f) m h = absurd (true≢false (sym h))
            added (add r) m h =
                let k : Mem (add (put r j (to v))) (meaning (keys T) X g) =
                rw (means, e) (mem_map (put_deed j (to v)) (meaning (keys T) L g) (add r) m) in
                let z = meaning_mem (keys T) X g (add (put r j (to v))) k in
                let none = added_alone T X Y B C g z.0 (put r j (to v)) z.1 z.2 in (
                  put q j (to v),
                  mine_alone c T X Y t TX TY free g none ∙ mine_shown,
                  put_here q j (to v) (omega (arith, read_wide c T L wide G q (at_mem n))),
                )
        go false e =
            let k : Mem (change j (to v)) (meaning (keys T) X g) =
            rw (means, e, set_composed_deeds j v (meaning (keys T) L g)) (mem_insert deed_before (change j (to v)) (filter (λ d. not (changes_column j d)) (meaning (keys T) L g)) (change j (to v)) (inl refl)) in
            let w = mine_cell c T X Y t TX TY free g j (to v) k in
            (w.1, w.3, w.4 (omega (arith, read_wide c T Y wide H w.0 (lookup_found (read T Y) g w.0 w.2).0)))

    -- and every other group's row is what my other edits make of theirs
    pub no_other : (k : ℕ) → (key q ≡ k → ⊥) → lookup k (together T X Y) ≡ given (meaning (keys T) L k) (lookup k (read T Y))
    no_other k ne =
        (operators_question c T X Y t TX TY free k).mine_last
        ∙ (ap (λ (ds : List Deed). given ds (given (meaning (keys T) Y k) (lookup k T)))
        (change_means T L a G.fit k i q n j (to v) past
        ∙ ap (λ (b : Bool). cond b (change_deeds j (to v) (meaning (keys T) L k)) (meaning (keys T) L k)) (ne_eqb (key q) k ne))
        ∙ ap (given (meaning (keys T) L k)) (sym (one_layer T Y a H.fit k)))
