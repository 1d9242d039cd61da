-- What the heads of two entries say is what their edits say: order and conflict look at no more of a row than its key.
-- Assumes nothing.
use mathlib.Core.Path.{◌≡◌, refl, sym, ap, ◌∙◌}
use mathlib.Core.Bool.{Bool, true, false, not, cond, ◌&&◌, ◌||◌}
use mathlib.Core.List.{[], ◌∷◌}
use Prim.Native.Nat.{ℕ}
use lib.ListN.{get_or}
use lib.Dec.{ltb, eqb}
use borrow.Author.Tests.{eq-eqb, ne_eqb}
use Rattle.words.specs.declared.Entry.{Entry}
use Rattle.model.specs.Row.{Row, key}
use Rattle.model.specs.Layer.{Deed, add, strike, change, Edit, at}
use Rattle.model.specs.Cell.{to, agree}
use Rattle.model.specs.Raw.{column_of, edit_of}
use Rattle.words.specs.Entry.{ADD, STRIKE}
use Rattle.model.specs.Edits.{before}
use Rattle.std.specs.Prelude.{Option, Some, None}
use Rattle.words.specs.declared.Rule.{Rule}
use Rattle.words.specs.declared.Rule.TheVariants.{StruckRow as struck_row, SameCell as same_cell, SameKey as same_key}
use Rattle.model.specs.Conflict.{clash}
use Rattle.theory.proofs.Edits.{before_key, deed_by, by_kinds}
use Rattle.theory.proofs.Conflict.{clash_sym}
use Rattle.head.specs.declared.Head.{Head}
use Rattle.head.specs.Head.{head_of, seen, cell_of}

-- what looks at no more of an added row than its key sees the edit in the head
by_key : {B : Type 0} (F : Edit → B) → ((s : ℕ) (q r : Row) → key q ≡ key r → F (at s (add q)) ≡ F (at s (add r)))
    → (e : Entry) → F (seen (head_of e)) ≡ F (edit_of e)
unfolding key
by_key F h e = by (eqb e.kind ADD) (eqb e.kind STRIKE)
  where
    by : (a b : Bool) → F (at e.pos (deed_by a b (get_or e.vals 0 0 ∷ []) (get_or e.vals 0 0) e.kind))
        ≡ F (at e.pos (deed_by a b e.vals (get_or e.vals 0 0) e.kind))
    by true b = h e.pos (get_or e.vals 0 0 ∷ []) e.vals refl
    by false b = refl

pub before_head : (d : Edit) (e : Entry) → before d (seen (head_of e)) ≡ before d (edit_of e)
before_head d e = by_key (before d) (before_key d) e

pub head_before : (d : Entry) (e : Edit) → before (seen (head_of d)) e ≡ before (edit_of d) e
head_before d (at s e) = by_key (λ x. before x (at s e)) (λ p q r k. level p q r e k) d
  where
    level : (p : ℕ) (q r : Row) (e : Deed) → key q ≡ key r → before (at p (add q)) (at s e) ≡ before (at p (add r)) (at s e)
    level p q r (add x) k = rw k
    level p q r (strike l) k = refl
    level p q r (change j f) k = refl

pub clash_head : (d : Edit) (e : Entry) → clash d (seen (head_of e)) ≡ clash d (edit_of e)
clash_head d e = by_key (clash d) (λ s q r k. level s q r d k) e
  where
    level : (s : ℕ) (q r : Row) (d : Edit) → key q ≡ key r → clash d (at s (add q)) ≡ clash d (at s (add r))
    level s q r (at p (add x)) k = rw k
    level s q r (at p (strike l)) k = refl
    level s q r (at p (change j f)) k = refl

pub head_clash : (d : Entry) (e : Edit) → clash (seen (head_of d)) e ≡ clash (edit_of d) e
head_clash d e = clash_sym (seen (head_of d)) e ∙ (clash_head e d ∙ clash_sym e (edit_of d))

cell : (s t u : Bool) → cond (s && (t && not u)) (Some same_cell) None ≡ cond s (cond t (cond u None (Some same_cell)) None) None
cell true true true = refl
cell true true false = refl
cell true false u = refl
cell false t u = refl

-- conflict by tests of the kinds
pub clash_kinds : (a b x y : Bool) (u v q k p s : ℕ)
    → clash (at p (deed_by a b (u ∷ []) u q)) (at s (deed_by x y (v ∷ []) v k))
    ≡ cond (a && x) (cond (eqb u v) (Some same_key) None) (cond (a || x) None
    (cond (eqb p s) (cond (b || y) (Some struck_row)
    (cond (eqb q k) (cond (agree (to u) (to v)) None (Some same_cell)) None)) None))
unfolding key
clash_kinds true b true y u v q k p s = refl
clash_kinds true b false true u v q k p s = refl
clash_kinds true b false false u v q k p s = refl
clash_kinds false true true y u v q k p s = refl
clash_kinds false false true y u v q k p s = refl
clash_kinds false true false true u v q k p s = refl
clash_kinds false true false false u v q k p s = refl
clash_kinds false false false true u v q k p s = refl
clash_kinds false false false false u v q k p s = cell (eqb p s) (eqb q k) (agree (to u) (to v))

-- the rule that two heads meet, test by test
module _ (d e : Head) where
  abbrev rule : Option Rule
  rule = clash (seen d) (seen e)

  rule_by : rule
      ≡ cond (eqb d.kind ADD && eqb e.kind ADD) (cond (eqb d.first e.first) (Some same_key) None)
      (cond (eqb d.kind ADD || eqb e.kind ADD) None
      (cond (eqb d.pos e.pos)
      (cond (eqb d.kind STRIKE || eqb e.kind STRIKE) (Some struck_row)
      (cond (eqb (column_of d.kind) (column_of e.kind)) (cond (agree (cell_of d) (cell_of e)) None (Some same_cell)) None))
      None))
  rule_by =
      clash_kinds (eqb d.kind ADD) (eqb d.kind STRIKE) (eqb e.kind ADD) (eqb e.kind STRIKE) d.first
      e.first d.kind e.kind d.pos e.pos

  module _ (both : (eqb d.kind ADD && eqb e.kind ADD) ≡ true) where
    pub one_key : d.first ≡ e.first → Some same_key ≡ rule
    one_key h = rw (rule_by, both, eq-eqb d.first e.first h)

    pub two_keys : (d.first ≡ e.first → ⊥) → None ≡ rule
    two_keys h = rw (rule_by, both, ne_eqb d.first e.first h)

  module _ (some : (eqb d.kind ADD && eqb e.kind ADD) ≡ false) where
    pub one_adds : (eqb d.kind ADD || eqb e.kind ADD) ≡ true → None ≡ rule
    one_adds h = rw (rule_by, some, h)

    module _ (none_adds : (eqb d.kind ADD || eqb e.kind ADD) ≡ false) where
      pub two_rows : (d.pos ≡ e.pos → ⊥) → None ≡ rule
      two_rows h = rw (rule_by, some, none_adds, ne_eqb d.pos e.pos h)

      module _ (one-row : d.pos ≡ e.pos) where
        pub row_struck : (eqb d.kind STRIKE || eqb e.kind STRIKE) ≡ true → Some struck_row ≡ rule
        row_struck h = rw (rule_by, some, none_adds, eq-eqb d.pos e.pos one-row, h)

        module _ (kept : (eqb d.kind STRIKE || eqb e.kind STRIKE) ≡ false) where
          abbrev by_cell : Bool → Option Rule
          by_cell t = cond t (cond (agree (cell_of d) (cell_of e)) None (Some same_cell)) None

          cells : by_cell (eqb (column_of d.kind) (column_of e.kind)) ≡ rule
          cells = rw (rule_by, some, none_adds, eq-eqb d.pos e.pos one-row, kept)

          pub two_cells : (column_of d.kind ≡ column_of e.kind → ⊥) → None ≡ rule
          two_cells h = rw (ne_eqb (column_of d.kind) (column_of e.kind) h) at cells

          module _ (one-column : column_of d.kind ≡ column_of e.kind) where
            abbrev by_edits : Bool → Option Rule
            by_edits u = cond u None (Some same_cell)

            edits : by_edits (agree (cell_of d) (cell_of e)) ≡ rule
            edits = rw (eq-eqb (column_of d.kind) (column_of e.kind) one-column) at cells

            pub agreed : agree (cell_of d) (cell_of e) ≡ true → None ≡ rule
            agreed h = sym (ap by_edits h) ∙ edits

            pub one_cell : agree (cell_of d) (cell_of e) ≡ false → Some same_cell ≡ rule
            one_cell h = sym (ap by_edits h) ∙ edits

pub before_by : (d e : Head) → (ltb d.pos e.pos || (eqb d.pos e.pos
    && ((eqb d.kind ADD && (not (eqb e.kind ADD) || ltb d.first e.first))
    || (not (eqb d.kind ADD) && (not (eqb d.kind STRIKE)
    && (not (eqb e.kind ADD) && (not (eqb e.kind STRIKE) && ltb d.kind e.kind)))))))
    ≡ before (seen d) (seen e)
unfolding key
before_by d e =
    ap (λ (t : Bool). ltb d.pos e.pos || (eqb d.pos e.pos && t))
    (by_kinds (eqb d.kind ADD) (eqb d.kind STRIKE) (eqb e.kind ADD) (eqb e.kind STRIKE) (d.first ∷ [])
    (e.first ∷ []) d.first e.first d.kind e.kind)
