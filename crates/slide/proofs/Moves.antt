-- A part moved up, down or not at all; one that another's move leaves as it was; two parts moved one after the other.
-- Assumes nothing.
use Prim.Native.Nat.{ℕ, ◌+◌, ◌-◌, ◌≤◌, ◌<◌}
use native.Mathlib.Omega.{arith}
use mathlib.Core.Path.{◌≡◌, sym, ap, ◌∙◌}
use mathlib.Core.List.{List}
use lib.ListN.{length, take, drop, length-drop}
use lib.Seq.{paste}
use Rattle.run.proofs.Laws.{paste_own, paste_apart, take_before, drop_past}
use Rattle.order.proofs.Splice.{part}
use Rattle.slide.specs.declared.Part.{Part}
use Rattle.slide.specs.Parts.{moved, Behind}

-- a part moved up, down, or not at all
pub moved_up : (p : Part) (xs : List ℕ) → p.from < p.to
    → paste xs (p.from + (p.to - p.from)) (drop p.from xs) (p.end - p.from) ≡ moved p xs xs
moved_up p xs h =
    let e : p.from + (p.to - p.from) ≡ p.to = omega arith in
    rw e

pub moved_down : (p : Part) (xs : List ℕ) → p.to < p.from
    → paste xs (p.from - (p.from - p.to)) (drop p.from xs) (p.end - p.from) ≡ moved p xs xs
moved_down p xs h =
    let e : p.from - (p.from - p.to) ≡ p.to = omega arith in
    rw e

pub moved_none : (p : Part) (xs : List ℕ) → p.to ≡ p.from → xs ≡ moved p xs xs
moved_none p xs e = rw e (paste_own xs p.from (p.end - p.from))

-- a part that ends before a run
untouched : (xs s : List ℕ) (at n from end : ℕ) → end ≤ at → at ≤ length xs
    → take (end - from) (drop from (paste xs at s n)) ≡ take (end - from) (drop from xs)
untouched xs s at n from end h k =
    part from end (paste xs at s n) ∙ (ap (drop from) (take_before xs s at n end h k) ∙ sym (part from end xs))

module _ (p q : Part) (xs : List ℕ) (B : Behind p q (length xs)) where
  -- the first part moves up: the second is moved before it
  pub up_last : (ys zs : List ℕ) → p.from < p.to → ys ≡ moved q xs xs → zs ≡ moved p ys ys → zs ≡ moved p xs (moved q xs xs)
  up_last ys zs h e f =
      let k =
      untouched xs (drop q.from xs) q.to (q.end - q.from) p.from p.end
      (omega (arith, B.first, B.still_apart)) (omega (arith, B.still_held)) in
      f ∙ rw (e, k)

  -- else it is moved before the second
  pub down_first : (ys zs : List ℕ) → p.to ≤ p.from → ys ≡ moved p xs xs → zs ≡ moved q ys ys
      → zs ≡ moved p xs (moved q xs xs)
  down_first ys zs h e f =
      let l : p.end - p.from ≤ length (drop p.from xs) =
      omega (arith, length-drop p.from xs, B.first, B.apart, B.second, B.held) in
      let k =
      drop_past xs (drop p.from xs) p.to (p.end - p.from) q.from
      (omega (arith, B.first, B.apart)) (omega (arith, B.still_apart, B.still_held)) l in
      f ∙ rw (e, k) (paste_apart xs (drop p.from xs) (drop q.from xs) p.to (p.end - p.from) q.to
      (q.end - q.from) B.still_apart (omega (arith, B.still_held)) l)
