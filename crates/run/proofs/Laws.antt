-- A run pasted into a list: one more number of it, what stands before and after it, a run behind another, runs apart.
-- Assumes nothing.
use Prim.Native.Nat.{ℕ, suc, ◌+◌, ◌-◌, ◌≤◌, ◌<◌}
use native.Mathlib.Numerals.{add-one}
use native.Mathlib.Nat.{add_assoc, zero-add}
use native.Mathlib.Omega.{arith}
use mathlib.Core.Path.{◌≡◌, sym, ap, ◌∙◌}
use mathlib.Core.List.{List, ◌∷◌, ◌++◌, append_assoc, append-nil}
use lib.ListN.{length, get_or, take, drop, set, replicate, length-replicate, length-append, length-drop, drop_of_length-le, take-append-drop, get_or-append}
use borrow.Rule.Slice.PartMut.{put_mid, Post-is}
use lib.Seq.{
  paste,
  paste-suc,
  length_paste_head,
  take-paste,
  drop-paste,
  drop-drop,
  take-take,
  take-add,
  drop_at,
  take-append-le,
  take-append-add,
  take_all,
  take-length,
  length-take-le,
  take-suc,
  drop-cons,
  set_at,
  get_or-take,
  get_or-drop,
}

-- one more number of the run
pub copy_more : (d d₀ s : List ℕ) (at j o v : ℕ) → o ≡ at + j → d ≡ paste d₀ at s j → at + j < length d₀ → j < length s
    → v ≡ get_or s j 0 → set d o v ≡ paste d₀ at s (j + 1)
copy_more d d₀ s at j o v eo ed h k ev =
    rw (eo, ed, ev) (paste-suc d₀ at s j 0 h k ∙ ap (paste d₀ at s) (sym (add-one j)))

-- number a of the one slice to b of the other, those before it being copied
pub copy_one : (xs old : List ℕ) (from o : ℕ) (d : List ℕ) (a b : ℕ) → from ≤ a → b + from ≡ o + a → a < length xs
    → b < length old
    → d ≡ paste old o (drop from xs) (a - from)
    → set d b (get_or xs a 0) ≡ paste old o (drop from xs) (a + 1 - from)
copy_one xs old from o d a b l e h g w =
    let n : (a - from) + 1 ≡ a + 1 - from = omega arith in
    let v : get_or xs a 0 ≡ get_or (drop from xs) (a - from) 0 =
    sym (get_or-drop from xs (a - from) 0 ∙ ap (λ (i : ℕ). get_or xs i 0) (omega arith)) in
    copy_more d old (drop from xs) o (a - from) b (get_or xs a 0) (omega arith) w (omega arith)
    (omega (arith, length-drop from xs)) v
    ∙ ap (paste old o (drop from xs)) n

-- a whole list of the same length is the run itself
pub paste_whole : (d s : List ℕ) (n : ℕ) → length s ≡ length d → n ≡ length s → paste d 0 s n ≡ s
paste_whole d s n e h =
    rw (take_all n s (omega arith), zero-add, drop_of_length-le d {i = n} (omega arith)) (append-nil s)

-- a part of a list that has become s, put back
pub put_back : (d s t : List ℕ) (at : ℕ) → t ≡ s → put_mid at (at + length s - at) d t ≡ paste d at s (length s)
put_back d s t at e =
    rw (e, Post-is at (at + length s) d (omega arith), take-length s)
    (sym (append_assoc (take at d) s (drop (at + length s) d)))

-- a part of a list that has become zeros, put back
pub put_zeros : (d t : List ℕ) (a b : ℕ) → t ≡ replicate (b - a) 0 → put_mid a (b - a) d t ≡ paste d a (replicate (b - a) 0) (b - a)
put_zeros d t a b e =
    let n = length-replicate {A = ℕ} (b - a) 0 in
    let k : a + length (replicate {A = ℕ} (b - a) 0) - a ≡ b - a = omega (arith, n) in
    rw (k, n) at (put_back d (replicate (b - a) 0) t a e)

-- a number before the run, and one past it
pub before_paste : (d s : List ℕ) (at n i : ℕ) → i < at → at ≤ length d → get_or (paste d at s n) i 0 ≡ get_or d i 0
before_paste d s at n i h k =
    let l = length-take-le at d k in
    get_or-append (take at d ++ take n s) _ 0 i (omega (arith, length-append (take at d) (take n s)))
    ∙ get_or-append (take at d) (take n s) 0 i (omega arith)
    ∙ get_or-take at d i 0 h

pub past_paste : (d s : List ℕ) (at n i : ℕ) → at + n ≤ i → at ≤ length d → n ≤ length s
    → get_or (paste d at s n) i 0 ≡ get_or d i 0
past_paste d s at n i h k l =
    let e : i ≡ at + n + (i - (at + n)) = omega arith in
    rw e (sym (get_or-drop (at + n) (paste d at s n) (i - (at + n)) 0)
    ∙ ap (λ (t : List ℕ). get_or t (i - (at + n)) 0) (drop-paste d at s n k l)
    ∙ get_or-drop (at + n) d (i - (at + n)) 0)

-- a run copied right behind another
pub paste_paste : (d s t : List ℕ) (at n k : ℕ) → at + n ≤ length d → n ≤ length s
    → paste (paste d at s n) (at + n) t k ≡ paste d at (take n s ++ t) (n + k)
paste_paste d s t at n k hd hs =
    let e : take (n + k) (take n s ++ t) ≡ take n s ++ take k t =
    ap (λ (x : ℕ). take (x + k) (take n s ++ t)) (sym (length-take-le n s hs)) ∙ take-append-add (take n s) t k in
    rw (
      take-paste d at s n (omega arith) hs,
      ← drop-drop k (at + n) (paste d at s n),
      drop-paste d at s n (omega arith) hs,
      drop-drop k (at + n) d,
      e,
      append_assoc (take at d) (take n s) (take k t),
      add_assoc at n k,
    )

-- a list's own numbers pasted where they stand
pub paste_own : (d : List ℕ) (at n : ℕ) → d ≡ paste d at (drop at d) n
paste_own d at n =
    sym (rw (
      append_assoc (take at d) (take n (drop at d)) (drop (at + n) d),
      ← drop-drop n at d,
      take-append-drop n (drop at d),
    ) (take-append-drop at d))

-- the numbers before a run
pub take_before : (d s : List ℕ) (at n i : ℕ) → i ≤ at → at ≤ length d → take i (paste d at s n) ≡ take i d
take_before d s at n i h k =
    let l = length-take-le at d k in
    take-append-le i (take at d ++ take n s) (drop (at + n) d)
    (omega (arith, length-append (take at d) (take n s)))
    ∙ take-append-le i (take at d) (take n s) (omega arith)
    ∙ take-take i at d h

-- and those from a place past it on
pub drop_past : (d s : List ℕ) (at n i : ℕ) → at + n ≤ i → at ≤ length d → n ≤ length s → drop i (paste d at s n) ≡ drop i d
drop_past d s at n i h k l =
    let e : i ≡ at + n + (i - (at + n)) = omega arith in
    rw (e, ← drop-drop (i - (at + n)) (at + n) (paste d at s n), drop-paste d at s n k l)
    (drop-drop (i - (at + n)) (at + n) d)

-- Two runs apart from each other: one ends at or before b, the other starts at b. What stands between them stays.
module _ (d s t : List ℕ) (at n b k : ℕ) (h : at + n ≤ b) (r : b ≤ length d) (l : n ≤ length s) where
  abbrev between : List ℕ
  between = take (b - (at + n)) (drop (at + n) d)

  upto : b ≡ at + n + (b - (at + n))
  upto = omega arith

  low : take b (paste d at s n) ≡ take at d ++ take n s ++ between
  low =
      ap (λ (x : ℕ). take x (paste d at s n)) upto
      ∙ ap (λ (x : ℕ). take (x + (b - (at + n))) (paste d at s n)) (sym (length_paste_head d at s n (omega arith) l))
      ∙ take-append-add (take at d ++ take n s) (drop (at + n) d) (b - (at + n))

  high : drop (at + n) (paste d b t k) ≡ between ++ take k t ++ drop (b + k) d
  high =
      let e : take b d ≡ take (at + n) d ++ between =
      ap (λ (x : ℕ). take x d) upto ∙ take-add (at + n) (b - (at + n)) d in
      ap (λ (x : List ℕ). drop (at + n) (x ++ take k t ++ drop (b + k) d)) e
      ∙ rw (
        append_assoc (take (at + n) d) between (take k t),
        append_assoc (take (at + n) d) (between ++ take k t) (drop (b + k) d),
      )
      (drop_at (take (at + n) d) _ (at + n) (length-take-le (at + n) d (omega arith)))

  -- either may be pasted first
  pub paste_apart : paste (paste d at s n) b t k ≡ paste (paste d b t k) at s n
  paste_apart =
      rw (
        low,
        drop_past d s at n (b + k) (omega arith) (omega arith) l,
        high,
        take_before d t b k at (omega arith) r,
      )
      (simp append_assoc)

-- one more number, in front of the run: those from i + 1 up to b are moved up by w, and number i follows
module _ (xs : List ℕ) (i b w : ℕ) (h : i < b) (r : b + w ≤ length xs) where
  abbrev mid : List ℕ
  mid = take (b - (i + 1)) (drop (i + 1) xs)

  abbrev rest : List ℕ
  rest = drop (b + w) xs

  split : paste xs (i + 1 + w) (drop (i + 1) xs) (b - (i + 1)) ≡ take (i + w) xs ++ (get_or xs (i + w) 0 ∷ (mid ++ rest))
  split =
      let e1 : i + 1 + w ≡ suc (i + w) = omega arith in
      let e2 : i + 1 + w + (b - (i + 1)) ≡ b + w = omega arith in
      rw (e2, e1, take-suc xs (i + w) 0 (omega arith)) (simp append_assoc)

  joined : take (i + w) xs ++ (get_or xs i 0 ∷ (mid ++ rest)) ≡ paste xs (i + w) (drop i xs) (b - i)
  joined =
      let e3 : i + w + (b - i) ≡ b + w = omega arith in
      let e4 : b - i ≡ suc (b - (i + 1)) = omega arith in
      rw (e3, e4, drop-cons xs i 0 (omega arith), add-one i) (simp append_assoc)

  up_step : (ys : List ℕ) → ys ≡ paste xs (i + 1 + w) (drop (i + 1) xs) (b - (i + 1))
      → set ys (i + w) (get_or ys i 0) ≡ paste xs (i + w) (drop i xs) (b - i)
  up_step ys e =
      let low : get_or ys i 0 ≡ get_or xs i 0 =
      ap (λ (l : List ℕ). get_or l i 0) e
      ∙ before_paste xs (drop (i + 1) xs) (i + 1 + w) (b - (i + 1)) i (omega arith) (omega arith) in
      ap (set ys (i + w)) low
      ∙ ap (λ (l : List ℕ). set l (i + w) (get_or xs i 0)) (e ∙ split)
      ∙ set_at (take (i + w) xs) _ _ _ (i + w) (length-take-le (i + w) xs (omega arith))
      ∙ joined

-- a run moved up, the last number first
pub up_more : (ys xs : List ℕ) (k b w : ℕ) → 0 < k → k ≤ b → b + w ≤ length xs → ys ≡ paste xs (k + w) (drop k xs) (b - k)
    → set ys (k - 1 + w) (get_or ys (k - 1) 0) ≡ paste xs (k - 1 + w) (drop (k - 1) xs) (b - (k - 1))
up_more ys xs k b w h l r e =
    let q : k ≡ k - 1 + 1 = omega arith in
    up_step xs (k - 1) b w (omega arith) r ys (e ∙ ap (λ (n : ℕ). paste xs (n + w) (drop n xs) (b - n)) q)

-- a run moved down, the first number first
pub down_more : (ys xs : List ℕ) (a k b w : ℕ) → w ≤ a → a ≤ k → k < b → b ≤ length xs
    → ys ≡ paste xs (a - w) (drop a xs) (k - a)
    → set ys (k - w) (get_or ys k 0) ≡ paste xs (a - w) (drop a xs) (k + 1 - a)
down_more ys xs a k b w h i l r e =
    let d = length-drop a xs in
    let v : get_or ys k 0 ≡ get_or xs k 0 =
    ap (λ (t : List ℕ). get_or t k 0) e
    ∙ past_paste xs (drop a xs) (a - w) (k - a) k (omega arith) (omega arith) (omega arith) in
    ap (set ys (k - w)) v ∙ copy_one xs xs a (a - w) ys k (k - w) i (omega arith) (omega arith) (omega arith) e
