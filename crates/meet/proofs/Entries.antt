-- Entries of a slice as edits: which key one concerns, where it stands, and what two of them make of each other.
-- Assumes nothing.
use mathlib.Core.Path.{◌≡◌, refl}
use mathlib.Core.Bool.{Bool, true, false, cond, ◌&&◌, ◌||◌, true≢false}
use mathlib.Core.List.{List}
use Prim.Native.Nat.{ℕ, ◌≤◌, ◌<◌}
use native.Mathlib.Omega.{arith}
use lib.ListN.{length, get_or}
use lib.Dec.{leb, ltb, eqb}
use borrow.Author.Tests.{leb-true, ltb-true}
use Rattle.order.proofs.Tests.{and_l}
use Rattle.words.specs.declared.Entry.{Entry}
use Rattle.model.specs.Row.{key}
use Rattle.model.specs.Cell.{to}
use Rattle.model.specs.Layer.{add, strike, change}
use Rattle.model.specs.Form.{sound}
use Rattle.model.specs.Raw.{deed_of, edit_of}
use Rattle.words.specs.Entry.{ADD, STRIKE}
use Rattle.model.specs.Meaning.{key_of}
use Rattle.head.specs.Head.{head_of}
use Rattle.scan.proofs.ByKind.{edit_by}
use Rattle.woven.specs.declared.Meets.TheVariants.{Lower, UpperHere, Drop, Vanish, Patch, Fuse}
use Rattle.woven.specs.Woven.{meet, meet_kinds}
use Rattle.meet.specs.Meet.{key_in, Keyed}

-- the kinds say what the deeds do
pub meet_kinds_lem : (d q : ℕ) (vs us : List ℕ) → meet_kinds d q ≡ meet (deed_of d vs) (deed_of q us)
meet_kinds_lem d q vs us = go (eqb q ADD) (eqb d ADD) (eqb q STRIKE) (eqb d STRIKE) (ltb d q) refl (eqb d q) refl
  where
    go : (a b x y l : Bool) → ltb d q ≡ l → (m : Bool) → eqb d q ≡ m
        → cond a UpperHere (cond b (cond x Vanish Patch) (cond (x || y) Drop (cond l Lower (cond m Fuse UpperHere))))
        ≡ meet (cond b (add vs) (cond y (strike (get_or vs 0 0)) (change d (to (get_or vs 0 0)))))
        (cond a (add us) (cond x (strike (get_or us 0 0)) (change q (to (get_or us 0 0)))))
    go true true x y l e m f = refl
    go true false x true l e m f = refl
    go true false x false l e m f = refl
    go false true true y l e m f = refl
    go false true false y l e m f = refl
    go false false true true l e m f = refl
    go false false true false l e m f = refl
    go false false false true l e m f = refl
    go false false false false true e m f = rw (e)
    go false false false false false e true f = rw (e, f)
    go false false false false false e false f = rw (e, f)

module _ (e : Entry) where
  -- the head says which key it concerns
  pub key_head : (K : List ℕ) → key_in K (head_of e) ≡ key_of K (edit_of e)
  unfolding key
  key_head K = by (eqb e.kind ADD) (eqb e.kind STRIKE)
    where
      by : (a b : Bool) → cond (a || b) (get_or e.vals 0 0) (get_or K e.pos 0) ≡ key_of K (edit_by a b e)
      by true b = refl
      by false true = refl
      by false false = refl

  module _ (c n : ℕ) (s : sound c n (edit_of e) ≡ true) where
    -- a sound entry stands within the rows, and a change at one of them
    pub position_upto : e.pos ≤ n
    position_upto = by (eqb e.kind ADD) (eqb e.kind STRIKE) s
      where
        by : (a b : Bool) → sound c n (edit_by a b e) ≡ true → e.pos ≤ n
        by true b z = leb-true e.pos n (and_l (leb e.pos n) (eqb (length e.vals) c) z)
        by false true z = omega (arith, ltb-true e.pos n z)
        by false false z = omega (arith, ltb-true e.pos n (and_l (ltb e.pos n) (leb 1 e.kind && ltb e.kind c) z))

    pub head_keyed : Keyed (head_of e) n
    head_keyed = by (eqb e.kind ADD) (eqb e.kind STRIKE) s
      where
        by : (a b : Bool) → sound c n (edit_by a b e) ≡ true → a || b ≡ false → e.pos < n
        by true b z q = absurd (true≢false q)
        by false true z q = absurd (true≢false q)
        by false false z q = ltb-true e.pos n (and_l (ltb e.pos n) (leb 1 e.kind && ltb e.kind c) z)
