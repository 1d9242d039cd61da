-- Columns end to end in one list: a column put at its place stands there, and what stands before it stays.
-- Assumes nothing.
use mathlib.Core.Path.{◌≡◌, sym, ap, ◌∙◌}
use mathlib.Core.List.{List, ◌++◌, append_assoc}
use Prim.Native.Nat.{ℕ, ◌+◌, ◌≤◌}
use lib.ListN.{length, take, drop}
use lib.Seq.{take-take, take-add, take_at, drop_at, length-take-le}
use native.Mathlib.Omega.{arith}
use borrow.Rule.Slice.PartMut.{put_mid, post_of}
use Rattle.text.specs.Text.{most_shown, front}

-- the front of what was put in the place of a part
pub put_stands : (a k n : ℕ) (xs ys rest : List ℕ) → a ≤ length xs → length ys ≡ n →
    take n (drop a (put_mid a k xs (ys ++ rest))) ≡ ys
put_stands a k n xs ys rest h e =
    ap (take n) (drop_at (take a xs) ((ys ++ rest) ++ post_of a k xs) a (length-take-le a xs h))
    ∙ (ap (take n) (append_assoc ys rest (post_of a k xs)) ∙ take_at ys (rest ++ post_of a k xs) n e)

-- a part is the end of a front
part_front : (t : List ℕ) (o n : ℕ) → o ≤ length t → take n (drop o t) ≡ drop o (take (o + n) t)
part_front t o n h =
    sym (drop_at (take o t) (take n (drop o t)) o (length-take-le o t h)) ∙ ap (drop o) (sym (take-add o n t))

-- lists that begin alike have the same parts there
pub same_part : (t u : List ℕ) (p o n : ℕ) → o ≤ length t → o ≤ length u → o + n ≤ p → take p t ≡ take p u →
    take n (drop o t) ≡ take n (drop o u)
same_part t u p o n i j h e =
    part_front t o n i
    ∙ (ap (drop o) (sym (take-take (o + n) p t h) ∙ (ap (take (o + n)) e ∙ take-take (o + n) p u h))
    ∙ sym (part_front u o n j))

-- three columns written one after the other stand beside each other
module _ (n : ℕ) (one two three : List ℕ) (h : n ≤ most_shown) (i : length one ≡ 3072) (j : length two ≡ 3072)
    (k : length three ≡ 3072) (e : take 2048 three ≡ take 2048 two) where
  pub first_stays : take 1024 two ≡ take 1024 one → front n 0 three ≡ front n 0 one
  first_stays f =
      same_part three two 2048 0 n (omega arith) (omega arith) (omega arith) e
      ∙ same_part two one 1024 0 n (omega arith) (omega arith) (omega arith) f

  pub second_stays : front n 1 three ≡ front n 1 two
  second_stays = same_part three two 2048 1024 n (omega arith) (omega arith) (omega arith) e
