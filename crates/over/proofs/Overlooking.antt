-- The state of the pass that fits an upper layer to the keys which a lower one leaves, and what each entry does to it.
-- Assumes nothing.
use mathlib.Core.Path.{◌≡◌, refl, sym, ap, subst, ◌∙◌}
use mathlib.Core.Bool.{Bool, true, false}
use mathlib.Core.List.{List}
use Prim.Native.Nat.{ℕ, ◌+◌, ◌-◌, ◌≤◌, ◌<◌}
use native.Mathlib.Omega.{arith}
use lib.ListN.{length, get_or, set}
use lib.Seq.{get_or-set_same, get_or-set_other}
use lib.Dec.{eqb}
use borrow.Author.Tests.{eqb-true, eqb-false}
use Rattle.words.specs.declared.Entry.{Entry}
use Rattle.model.specs.Layer.{rows_after}
use Rattle.model.specs.Raw.{edit_of}
use Rattle.model.specs.Read.{keys_after}
use Rattle.words.specs.Entry.{ADD}
use Rattle.model.specs.Meaning.{key_of}
use Rattle.model.specs.Fit.{fit_place}
use Rattle.head.specs.declared.Head.{Head}
use Rattle.head.specs.Head.{head_of}
use Rattle.entry.specs.declared.slice.Stored.{Stored}
use Rattle.entry.specs.Look.{edits, entry_of, entries_from}
use Rattle.form.specs.InForm.{InForm}
use Rattle.form.proofs.Accepted.{Accepted, accepted}
use Rattle.suit.proofs.Looks.{change_first, fine}
use Rattle.fit.proofs.Fitting.{Fitting, begin, sound_here, onward, stop, end}
use Rattle.mark.specs.declared.Mark.{Mark}
use Rattle.mark.specs.Walk.{fresh, Marks}
use Rattle.mark.proofs.Walk.{stands_upto}
use Rattle.mark.proofs.Marking.{from_first}
use Rattle.over.specs.Over.{Named, fits_by, named_by}
use Rattle.over.proofs.Keys.{keys_left}
use Rattle.over.proofs.Around.{fits_by_lem, named_by_lem}

-- the keys that the lower layer leaves
abbrev pub shown : Stored → List ℕ → List ℕ
shown l K = keys_after K (edits l)

-- j entries of the upper layer u are passed and fit, the last of them with the head d; two marks stand in the lower
-- layer l, and the keys that the entries concern are written
pub record Overlooking (l u : Stored) (K : List ℕ) (j : ℕ) (d : Head) (low here : Mark) (names : List ℕ) : Type 0 where
  pub fitting : Fitting u (shown l K) j d
  pub lower : Marks (edits l) low
  pub upper : Marks (edits l) here
  pub named : Named u.c (shown l K) j u.numbers.now names

-- both layers are in form, the upper over the rows that the lower leaves
module _ (l u : Stored) (K : List ℕ) (rows : ℕ) (lf : InForm l.c (length K) l.m l.numbers.now)
    (sh : rows ≡ rows_after (length K) (edits l)) (uf : InForm u.c rows u.m u.numbers.now) where
  abbrev N : List ℕ
  N = shown l K

  pub rows_left : rows ≡ length N
  rows_left = sh ∙ keys_left l.c K l.m l.numbers.now lf

  upper_form : InForm u.c (length N) u.m u.numbers.now
  upper_form = subst (λ (n : ℕ). InForm u.c n u.m u.numbers.now) rows_left uf

  known : Accepted u.c (length N) u.m u.numbers.now (rows_after (length N) (edits u))
  known = accepted u.c (length N) u.m u.numbers.now (rows_after (length N) (edits u)) upper_form

  pub set_out : (names : List ℕ) (a b : Mark) → a ≡ fresh 0 → b ≡ fresh 0
      → Overlooking l u K 0 change_first a b names
  set_out names a b ea eb = record {
    fitting = begin u N upper_form;
    lower = rw ea (from_first 0 (edits l));
    upper = rw eb (from_first 0 (edits l));
    named = λ i h. absurd (omega arith);
  }

  module _ {j : ℕ} {d : Head} {low here : Mark} {names : List ℕ}
      (g : Overlooking l u K j d low here names) where
    pub ended : u.m ≤ j → j ≡ fit_place N (edits u)
    ended h = end g.fitting h

    module _ (h : j < u.m) where
      abbrev E : Entry
      E = entry_of u j

      abbrev es : List Entry
      es = entries_from u j

      pub position_small : E.pos ≤ 4096
      position_small = omega (arith, stands_upto u.c (length N) (edit_of E) (sound_here g.fitting h), known.base)

      module _ (last next : ℕ) (hl : E.kind ≡ ADD → last ≡ get_or N (E.pos - 1) 0) (hn : next ≡ get_or N E.pos 0) where
        judged : (t : Bool) → t ≡ fits_by rows last next d E es → t ≡ fine u j N d
        judged t e =
            e ∙ (ap (λ (n : ℕ). fits_by n last next d E es) rows_left ∙ fits_by_lem N E es last next d hl hn)

        pub stopped : false ≡ fits_by rows last next d E es → j ≡ fit_place N (edits u)
        stopped e = stop g.fitting h (sym (judged false e))

        pub goes : true ≡ fits_by rows last next d E es → (a b : Mark) → Marks (edits l) a → Marks (edits l) b → (v : ℕ)
            → v ≡ named_by (head_of E) next → j < length names
            → Overlooking l u K (j + 1) (head_of E) a b (set names j v)
        goes e a b ma mb v ev room = record {
          fitting = onward g.fitting h (sym (judged true e));
          lower = ma;
          upper = mb;
          named = λ i l. at_index i l (eqb i j) refl;
        }
          where
            at_index : (i : ℕ) → i < j + 1 → (t : Bool) → eqb i j ≡ t
                → get_or (set names j v) i 0 ≡ key_of N (edit_of (entry_of u i))
            at_index i l true z =
                let y : i ≡ j = eqb-true i j z in
                ap (λ (k : ℕ). get_or (set names j v) k 0) y
                ∙ (get_or-set_same names j v 0 room
                ∙ (ev ∙ (named_by_lem N E es last next d hl hn
                ∙ ap (λ (k : ℕ). key_of N (edit_of (entry_of u k))) (sym y))))
            at_index i l false z =
                get_or-set_other names j i v 0 (eqb-false i j z) ∙ g.named i (omega (arith, eqb-false i j z))
