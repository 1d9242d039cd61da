-- What position and kind say of two entries is what their edits say.
-- Assumes nothing.
use Prim.Native.Nat.{ℕ, ◌<◌}
use mathlib.Core.Path.{◌≡◌, refl, sym, ap, ◌∙◌}
use mathlib.Core.Logic.{◌⊎◌, inl, inr}
use mathlib.Core.Bool.{Bool, true, false, not, cond, ◌&&◌, ◌||◌, true≢false}
use native.Mathlib.Omega.{arith}
use lib.ListN.{get_or}
use lib.Dec.{ltb, eqb}
use borrow.Author.Tests.{eqb-true, lt-ltb}
use Rattle.order.proofs.Tests.{tests, lex_cases, lex_lt, lex_eq}
use Rattle.words.specs.declared.Entry.{Entry}
use Rattle.model.specs.Row.{Row}
use Rattle.model.specs.Cell.{CellEdit, to}
use Rattle.model.specs.Layer.{Deed, add, strike, change, Edit, at, is_add, is_strike}
use Rattle.model.specs.Raw.{edit_of}
use Rattle.words.specs.Entry.{ADD, STRIKE}
use Rattle.model.specs.Form.{after, follows}
use Rattle.scan.specs.Scan.{follows_kind, of_kind}

-- the edit of an entry, by what the two tests of its kind say
abbrev pub edit_by : Bool → Bool → Entry → Edit
edit_by a b e =
    at e.pos (cond a (add e.vals) (cond b (strike (get_or e.vals 0 0)) (change e.kind (to (get_or e.vals 0 0)))))

-- no entry is both an add and a strike
pub one_kind : (k : ℕ) → eqb k ADD ≡ true → eqb k STRIKE ≡ true → ⊥
one_kind k f g = omega (arith, eqb-true k ADD f, eqb-true k STRIKE g)

after_kinds : (a b x y : Bool) (r s : Row) (i l q k : ℕ) (f g : CellEdit)
    → (a || (not b && (not x && (not y && ltb q k))))
    ≡ after (cond a (add r) (cond b (strike i) (change q f))) (cond x (add s) (cond y (strike l) (change k g)))
after_kinds true b x y r s i l q k f g = refl
after_kinds false true x y r s i l q k f g = refl
after_kinds false false true y r s i l q k f g = refl
after_kinds false false false true r s i l q k f g = refl
after_kinds false false false false r s i l q k f g = refl

pub follows_kind_lem : (d e : Entry) → follows_kind d.pos d.kind e.pos e.kind ≡ follows (edit_of d) (edit_of e)
follows_kind_lem d e =
    ap (λ (t : Bool). ltb d.pos e.pos || (eqb d.pos e.pos && t))
    (after_kinds (eqb d.kind ADD) (eqb d.kind STRIKE) (eqb e.kind ADD) (eqb e.kind STRIKE) d.vals e.vals
    (get_or d.vals 0 0) (get_or e.vals 0 0) d.kind e.kind (to (get_or d.vals 0 0)) (to (get_or e.vals 0 0)))

pub add_kind : (e : Entry) → is_add (edit_of e) ≡ of_kind ADD e
add_kind e = by (eqb e.kind ADD) (eqb e.kind STRIKE)
  where
    by : (a b : Bool) → is_add (edit_by a b e) ≡ a
    by true b = refl
    by false true = refl
    by false false = refl

pub strike_kind : (e : Entry) → is_strike (edit_of e) ≡ of_kind STRIKE e
strike_kind e = by (eqb e.kind ADD) (eqb e.kind STRIKE) refl refl
  where
    by : (a b : Bool) → eqb e.kind ADD ≡ a → eqb e.kind STRIKE ≡ b
        → is_strike (edit_by a b e) ≡ b
    by true true f g = absurd (one_kind e.kind f g)
    by true false f g = refl
    by false true f g = refl
    by false false f g = refl

after_trans : (d e f : Deed) → after d e ≡ true → after e f ≡ true → after d f ≡ true
after_trans (add r) e f a b = refl
after_trans (strike k) e f a b = a
after_trans (change j u) (add r) f a b = absurd (true≢false (sym a))
after_trans (change j u) (strike k) f a b = absurd (true≢false (sym a))
after_trans (change j u) (change i v) (add r) a b = b
after_trans (change j u) (change i v) (strike k) a b = b
after_trans (change j u) (change i v) (change l w) a b = lt-ltb j l (omega tests)

pub follows_trans : (d e f : Edit) → follows d e ≡ true → follows e f ≡ true → follows d f ≡ true
follows_trans (at p d) (at s e) (at t f) a b = go (lex_cases p s (after d e) a) (lex_cases s t (after e f) b)
  where
    go : (p < s) ⊎ ((p ≡ s) × (after d e ≡ true)) → (s < t) ⊎ ((s ≡ t) × (after e f ≡ true))
        → follows (at p d) (at t f) ≡ true
    go (inl x) (inl y) = lex_lt p t (after d f) (omega arith)
    go (inl x) (inr y) = lex_lt p t (after d f) (omega (arith, y.0))
    go (inr x) (inl y) = lex_lt p t (after d f) (omega (arith, x.0))
    go (inr x) (inr y) = lex_eq p t (after d f) (x.0 ∙ y.0) (after_trans d e f x.1 y.1)
