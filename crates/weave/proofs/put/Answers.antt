-- `weave::put` meets its contract: where the walk writes, the entry that the turn leaves is copied, at its position or with
-- changes made to it.
-- Assumes nothing.
use native.Mathlib.Omega.{arith}
use mathlib.Core.Path.{◌≡◌, refl, sym, ap, subst, ◌∙◌}
use mathlib.Core.Bool.{Bool, true}
use mathlib.Core.List.{List, [], ◌∷◌, Memᴰ as Mem}
use Prim.Native.Nat.{ℕ, ◌+◌, ◌*◌, ◌-◌, ◌≤◌, ◌<◌}
use lib.ListN.{length, take, drop}
use borrow.Rule.Slice.PartMut.{put_mid}
use Rattle.model.specs.Cell.{CellEdit}
use Rattle.model.specs.Layer.{change, at, Layer}
use Rattle.words.specs.declared.Entry.{Entry}
use Rattle.model.specs.Raw.{entry_at, layer_of, flat}
use Rattle.scan.proofs.Laws.{vals_length}
use Rattle.std.specs.Prelude.{Option, Some}
use Rattle.turn.specs.declared.Place.{Place}
use Rattle.turn.specs.declared.Puts.{Puts}
use Rattle.turn.specs.declared.Puts.TheVariants.{AsItIs, UpperAt, Changed, Fused}
use Rattle.turn.specs.Turn.{left}
use Rattle.woven.specs.Woven.{patched}
use Rattle.weave.specs.Written.{Put, PutIf, Leaves}
use Rattle.weave.proofs.Patching.{patched_length}
use Rattle.weave.proofs.Buffer.{put_none, put_wrote, values_part, put_values}
use Rattle.weave.proofs.Putting.{low, offset, columns, lower_in, lower_put, upper_in, upper_put, both_in, both_room, changed_put, fused_in, fused_put, flat_none}
use Rattle.weave.proofs.put.Goals as goal

-- the match tells which entry is left
taken : {write : Bool} {c mr : ℕ} {r : List ℕ} {mw : ℕ} {w : List ℕ} {k : Place} {puts : Option Puts} {q p : Puts} {len : ℕ}
    → Leaves write c mr r mw w k puts len → puts ≡ Some q → q ≡ p → Leaves write c mr r mw w k (Some p) len
taken {write} {c} {mr} {r} {mw} {w} {k} {puts} {q} {p} {len} g e f =
    subst (λ (x : Option Puts). Leaves write c mr r mw w k x len) (e ∙ ap Some f) g

-- what is written is what the turn leaves
shows : (write : Bool) (c : ℕ) (X Y : Layer) (puts : Option Puts) (p : Puts) (ys old : List ℕ) (o : ℕ) (new : List ℕ)
    → write ≡ true → {q : Puts} → puts ≡ Some q → q ≡ p → flat c (left (Some p) X Y) ≡ ys → Put ys old o new
    → PutIf write (flat c (left puts X Y)) old o new
shows write c X Y puts p ys old o new h e f n q =
    put_wrote write (flat c (left puts X Y)) old o new h
    (subst (λ (zs : List ℕ). Put zs old o new) (sym (ap (λ (x : Option Puts). flat c (left x X Y)) (e ∙ ap Some f) ∙ n)) q)

-- the lower layer's added row is written, and its values are lent
module _ {write : Bool} {c mr : ℕ} {r : List ℕ} {mw : ℕ} {w : List ℕ} {k : Place} (out mid : List ℕ)
    (g : Leaves write c mr r mw w k (Some Changed) (length out)) (h : write ≡ true) where
  abbrev x : Entry
  x = entry_at c (k.i * (c + 2)) r

  abbrev y : Entry
  y = entry_at c (k.j * (c + 2)) w

  abbrev o : ℕ
  o = k.m * (c + 2)

  vals : length x.vals ≡ c
  vals = vals_length c (k.i * (c + 2)) r (both_room _ _ _ _ _ _ _ _ g).0

  space : o + (c + 2) ≤ length out
  space = (changed_put _ _ _ _ _ _ _ _ g).space h

  module _ (p : ℕ) (ep : p ≡ x.pos) (written : Put (p ∷ x.kind ∷ x.vals) out o mid) where
    first : Put (x.pos ∷ x.kind ∷ x.vals) out o mid
    first = subst (λ (n : ℕ). Put (n ∷ x.kind ∷ x.vals) out o mid) ep written

    lent : take (o + 2 + c - (o + 2)) (drop (o + 2) mid) ≡ x.vals
    lent = values_part c x.pos x.kind o x.vals x.vals out mid out first vals space

    columns_lent : (s j : ℕ) (e : CellEdit) → Mem (at s (change j e)) (layer_of c mw w)
        → j < length (take (o + 2 + c - (o + 2)) (drop (o + 2) mid))
    columns_lent s j e q = omega (arith, columns g s j e q, ap length lent, vals)

    -- and the changes are made to them
    changes : (q : ℕ) (ys : List ℕ) → q ≡ y.pos
        → ys ≡ patched q (drop k.j (layer_of c mw w)) (take (o + 2 + c - (o + 2)) (drop (o + 2) mid))
        → Put (x.pos ∷ x.kind ∷ patched y.pos (drop k.j (layer_of c mw w)) x.vals) out o (put_mid (o + 2) (o + 2 + c - (o + 2)) mid ys)
    changes q ys eq e =
        let W = drop k.j (layer_of c mw w) in
        put_values c x.pos x.kind o x.vals (patched y.pos W x.vals) out mid _ first vals space
        (patched_length y.pos W x.vals ∙ vals)
        (ap (put_mid (o + 2) (o + 2 + c - (o + 2)) mid) (e ∙ (λ i. patched (eq i) W (lent i))))

pub overflow_add-o : goal.overflow_add-o
overflow_add-o c = omega (arith, (low c.requires).held.columns)

pub overflow_mul-o : goal.overflow_mul-o
overflow_mul-o c = omega (arith, offset c.requires)

-- the lower layer's entry as it is
pub pos-requires : goal.pos-requires
pos-requires c =
    let g = taken c.requires c.in-Some-AsItIs.is (rw c.in-Some-AsItIs.is at c.in-Some-AsItIs.field-0-is) in
    rw c.lower-lower.ensures (lower_in _ _ _ _ _ _ _ _ g)

pub put_entry-requires : goal.put_entry-requires
put_entry-requires c =
    let g = taken c.requires c.in-Some-AsItIs.is (rw c.in-Some-AsItIs.is at c.in-Some-AsItIs.field-0-is) in
    rw c.lower-lower.ensures (lower_in _ _ _ _ _ _ _ _ g, (lower_put _ _ _ _ _ _ _ _ g).space c.if-write.true)

pub returns-then-write : goal.returns-then-write
returns-then-write c =
    let a = c.args in
    let s = a.s.now in
    let x = entry_at s.c (a.k.i * (s.c + 2)) s.r.now in
    let f = c.put_entry in
    shows a.write s.c _ _ a.puts AsItIs _ a.out.now (a.k.m * (s.c + 2)) f.new.out c.if-write.true c.in-Some-AsItIs.is (rw c.in-Some-AsItIs.is at c.in-Some-AsItIs.field-0-is)
    (lower_put _ _ _ _ _ _ _ _ (taken c.requires c.in-Some-AsItIs.is (rw c.in-Some-AsItIs.is at c.in-Some-AsItIs.field-0-is))).numbers
    (subst (λ (n : ℕ). Put (n ∷ x.kind ∷ x.vals) a.out.now (a.k.m * (s.c + 2)) f.new.out)
    (rw c.lower-lower.ensures at c.pos.ensures) (rw c.lower-lower.ensures at f.ensures))

-- the upper layer's at a position
pub put_entry-requires-then-write-2 : goal.put_entry-requires-then-write-2
put_entry-requires-then-write-2 c =
    let g = taken c.requires c.in-Some-UpperAt.is (rw c.in-Some-UpperAt.is at c.in-Some-UpperAt.field-0-is) in
    rw c.upper-upper.ensures (upper_in _ _ _ _ _ _ _ _ _ g, (upper_put _ _ _ _ _ _ _ _ _ g).space c.if-write-2.true)

pub returns-then-write-2 : goal.returns-then-write-2
returns-then-write-2 c =
    let a = c.args in
    let s = a.s.now in
    let f = c.put_entry-then-write-2 in
    shows a.write s.c _ _ a.puts (UpperAt c.in-Some-UpperAt.p) _ a.out.now (a.k.m * (s.c + 2)) f.new.out c.if-write-2.true
    c.in-Some-UpperAt.is (rw c.in-Some-UpperAt.is at c.in-Some-UpperAt.field-0-is)
    (upper_put _ _ _ _ _ _ _ _ _ (taken c.requires c.in-Some-UpperAt.is (rw c.in-Some-UpperAt.is at c.in-Some-UpperAt.field-0-is))).numbers
    (rw c.upper-upper.ensures at f.ensures)

-- the lower layer's added row with the upper's changes
pub pos-requires-then-write-3 : goal.pos-requires-then-write-3
pos-requires-then-write-3 c =
    let g = taken c.requires c.in-Some-Changed.is (rw c.in-Some-Changed.is at c.in-Some-Changed.field-0-is) in
    rw c.lower-lower.ensures ((both_in _ _ _ _ _ _ _ _ g).0)

pub put_entry-requires-then-write-3 : goal.put_entry-requires-then-write-3
put_entry-requires-then-write-3 c =
    let g = taken c.requires c.in-Some-Changed.is (rw c.in-Some-Changed.is at c.in-Some-Changed.field-0-is) in
    rw c.lower-lower.ensures ((both_in _ _ _ _ _ _ _ _ g).0, (changed_put _ _ _ _ _ _ _ _ g).space c.if-write-3.true)

pub pos-requires-then-write-3-2 : goal.pos-requires-then-write-3-2
pos-requires-then-write-3-2 c =
    let g = taken c.requires c.in-Some-Changed.is (rw c.in-Some-Changed.is at c.in-Some-Changed.field-0-is) in
    rw c.upper-upper.ensures ((both_in _ _ _ _ _ _ _ _ g).1)

pub patch-requires : goal.patch-requires
patch-requires c =
    let g = taken c.requires c.in-Some-Changed.is (rw c.in-Some-Changed.is at c.in-Some-Changed.field-0-is) in
    let f = c.put_entry-then-write-3 in
    let p = rw c.lower-lower.ensures at c.pos-then-write-3.ensures in
    let e = rw c.lower-lower.ensures at f.ensures in
    rw c.upper-upper.ensures (record {
      upto = c.requires.upper_upto;
      columns = columns_lent c.args.out.now f.new.out g c.if-write-3.true _ p e;
    })

pub returns-then-write-3 : goal.returns-then-write-3
returns-then-write-3 c =
    let a = c.args in
    let s = a.s.now in
    let g = taken c.requires c.in-Some-Changed.is (rw c.in-Some-Changed.is at c.in-Some-Changed.field-0-is) in
    let f = c.put_entry-then-write-3 in
    shows a.write s.c _ _ a.puts Changed _ a.out.now (a.k.m * (s.c + 2)) _ c.if-write-3.true c.in-Some-Changed.is (rw c.in-Some-Changed.is at c.in-Some-Changed.field-0-is)
    (changed_put _ _ _ _ _ _ _ _ g).numbers
    (changes a.out.now f.new.out g c.if-write-3.true _ (rw c.lower-lower.ensures at c.pos-then-write-3.ensures)
    (rw c.lower-lower.ensures at f.ensures) _ c.patch.new.row
    (rw c.upper-upper.ensures at c.pos-then-write-3-2.ensures) (rw c.upper-upper.ensures at c.patch.ensures))

-- the upper layer's change over the lower's
pub pos-requires-then-write-4 : goal.pos-requires-then-write-4
pos-requires-then-write-4 c =
    let g = taken c.requires c.in-Some-Fused.is (rw c.in-Some-Fused.is at c.in-Some-Fused.field-0-is) in
    rw c.lower-lower.ensures ((fused_in _ _ _ _ _ _ _ _ g).0)

pub put_entry-requires-then-write-4 : goal.put_entry-requires-then-write-4
put_entry-requires-then-write-4 c =
    let g = taken c.requires c.in-Some-Fused.is (rw c.in-Some-Fused.is at c.in-Some-Fused.field-0-is) in
    rw c.upper-upper.ensures ((fused_in _ _ _ _ _ _ _ _ g).1, (fused_put _ _ _ _ _ _ _ _ g).space c.if-write-4.true)

pub returns-then-write-4 : goal.returns-then-write-4
returns-then-write-4 c =
    let a = c.args in
    let s = a.s.now in
    let z = entry_at s.c (a.k.j * (s.c + 2)) s.w.now in
    let f = c.put_entry-then-write-4 in
    shows a.write s.c _ _ a.puts Fused _ a.out.now (a.k.m * (s.c + 2)) f.new.out c.if-write-4.true c.in-Some-Fused.is (rw c.in-Some-Fused.is at c.in-Some-Fused.field-0-is)
    (fused_put _ _ _ _ _ _ _ _ (taken c.requires c.in-Some-Fused.is (rw c.in-Some-Fused.is at c.in-Some-Fused.field-0-is))).numbers
    (subst (λ (n : ℕ). Put (n ∷ z.kind ∷ z.vals) a.out.now (a.k.m * (s.c + 2)) f.new.out)
    (rw c.lower-lower.ensures at c.pos-then-write-4.ensures) (rw c.upper-upper.ensures at f.ensures))

pub returns-in-None : goal.returns-in-None
returns-in-None c =
    let a = c.args in
    let s = a.s.now in
    let R = drop a.k.i (layer_of s.c s.mr s.r.now) in
    let W = drop a.k.j (layer_of s.c s.mw s.w.now) in
    let empty : flat s.c (left a.puts R W) ≡ [] = ap (λ (x : Option Puts). flat s.c (left x R W)) c.in-None.is ∙ flat_none s.c in
    record {
      wrote = λ _. subst (λ (zs : List ℕ). Put zs a.out.now (a.k.m * (s.c + 2)) a.out.now) (sym empty)
          (put_none a.out.now (a.k.m * (s.c + 2)));
      kept = λ _. refl;
    }
