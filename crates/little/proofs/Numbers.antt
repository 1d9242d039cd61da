-- Bytes and numbers, there and back: one number, then a run of them.
-- Assumes nothing.
use Prim.Native.Nat.{ℕ, zero, suc, ◌+◌, ◌*◌, ◌/◌, ◌%◌, ◌≤◌, ◌<◌}
use native.Mathlib.Nat.{add_assoc}
use native.Mathlib.Omega.{arith}
use mathlib.Core.Path.{◌≡◌, refl, sym, ap, ◌∙◌}
use mathlib.Core.Logic.{⊎_elim}
use mathlib.Core.List.Memᴰ.{append_cases}
use mathlib.Core.List.Memᴰ.{head as here}
use mathlib.Core.List.Memᴰ.{tail as next}
use mathlib.Core.List.{
  List,
  [],
  ◌∷◌,
  ◌++◌,
  append_assoc,
  Memᴰ as Mem,
}
use lib.ListN.{length, get_or, take, drop, length-append, length-drop}
use lib.Seq.{take-add, drop-append-add, drop-drop, length-take-le}
use Rattle.order.specs.Lists.{gather}
use Rattle.order.proofs.Splice.{drop_mem}
use Rattle.little.specs.Little.{bytes, eight, number, number_at, numbers_at, eights}

-- what stands in front is in the list
pub take_mem : (k : ℕ) (f : List ℕ) (b : ℕ) → Mem b (take k f) → Mem b f
take_mem zero f b x' = elim x' [ ]
take_mem (suc k) [] b x3 = elim x3 [ ]
take_mem (suc k) (c ∷ f) b (here e) = here e
take_mem (suc k) (c ∷ f) b (next m) = next (take_mem k f b m)

-- how many numbers k bytes can be
abbrev pub most : ℕ → ℕ
most zero = 1
most (suc k) = 256 * most k

pub bytes_length : (k v : ℕ) → length (bytes k v) ≡ k
bytes_length zero v = refl
bytes_length (suc k) v = ap suc (bytes_length k (v / 256))

pub bytes_back : (k v : ℕ) → v < most k → number (bytes k v) ≡ v
bytes_back zero v h = omega arith
bytes_back (suc k) v h = omega (arith, bytes_back k (v / 256) (omega arith))

-- every one is a byte
abbrev pub Bytes : List ℕ → Type 0
Bytes f = (b : ℕ) → Mem b f → b < 256

pub bytes_are : (k v : ℕ) → Bytes (bytes k v)
bytes_are zero v b x' = elim x' [ ]
bytes_are (suc k) v b (here e) = omega (arith, e)
bytes_are (suc k) v b (next m) = bytes_are k (v / 256) b m

pub number_back : (bs : List ℕ) → Bytes bs → bytes (length bs) (number bs) ≡ bs
number_back [] h = refl
number_back (b ∷ bs) h =
    let l : b < 256 = h b (here refl) in
    let d : (b + 256 * number bs) % 256 ≡ b = omega arith in
    let q : (b + 256 * number bs) / 256 ≡ number bs = omega arith in
    rw (d, q) (ap (λ (t : List ℕ). b ∷ t) (number_back bs (λ c m. h c (next m))))

pub number_small : (bs : List ℕ) → Bytes bs → number bs < most (length bs)
number_small [] h = omega arith
number_small (b ∷ bs) h = omega (arith, h b (here refl), number_small bs (λ c m. h c (next m)))

-- every one is a number of 64 bits
abbrev pub Words : List ℕ → Type 0
Words xs = (v : ℕ) → Mem v xs → v < most 8

-- The bytes of a run.

pub eights_length : (vs : List ℕ) → length (eights vs) ≡ 8 * length vs
unfolding eights
eights_length [] = refl
eights_length (v ∷ vs) =
    omega (arith, length-append (eight v) (gather eight vs), bytes_length 8 v, eights_length vs)

pub eights_append : (xs ys : List ℕ) → eights (xs ++ ys) ≡ eights xs ++ eights ys
unfolding eights
eights_append [] ys = refl
eights_append (x ∷ xs) ys =
    ap (λ (t : List ℕ). eight x ++ t) (eights_append xs ys) ∙ sym (append_assoc (eight x) (eights xs) (eights ys))

pub eights_bytes : (vs : List ℕ) → Bytes (eights vs)
unfolding eights
eights_bytes [] b m = elim m [ ]
eights_bytes (v ∷ vs) b m = ⊎_elim (λ k. bytes_are 8 v b k) (λ k. eights_bytes vs b k) (append_cases (eight v) m)

-- The numbers of a run.

pub numbers_length : (k i : ℕ) (f : List ℕ) → length (numbers_at k i f) ≡ k
unfolding numbers_at
numbers_length zero i f = refl
numbers_length (suc k) i f = ap suc (numbers_length k (i + 8) f)

pub numbers_get : (k i j : ℕ) (f : List ℕ) → j < k → get_or (numbers_at k i f) j 0 ≡ number_at (i + 8 * j) f
unfolding numbers_at
numbers_get zero i j f h = absurd (omega arith)
numbers_get (suc k) i zero f h = ap (λ (n : ℕ). number_at n f) (omega arith)
numbers_get (suc k) i (suc j) f h =
    numbers_get k (i + 8) j f (omega arith) ∙ ap (λ (n : ℕ). number_at n f) (omega arith)

-- past the first of two lists
pub number_past : (i : ℕ) (ys zs : List ℕ) → number_at (length ys + i) (ys ++ zs) ≡ number_at i zs
unfolding number_at
number_past i ys zs = rw (drop-append-add ys zs i)

pub numbers_past : (k i : ℕ) (ys zs : List ℕ) → numbers_at k (length ys + i) (ys ++ zs) ≡ numbers_at k i zs
unfolding numbers_at
numbers_past zero i ys zs = refl
numbers_past (suc k) i ys zs = rw (number_past i ys zs, add_assoc (length ys) i 8, numbers_past k (i + 8) ys zs)

-- the number whose bytes stand in front
pub number_front : (v : ℕ) (zs : List ℕ) → v < most 8 → number_at 0 (eight v ++ zs) ≡ v
unfolding number_at
number_front v zs h = bytes_back 8 v h

pub numbers_front : (vs zs : List ℕ) → Words vs → numbers_at (length vs) 0 (eights vs ++ zs) ≡ vs
unfolding numbers_at eights
numbers_front [] zs h = refl
numbers_front (v ∷ vs) zs h =
    let a = number_front v (gather eight vs ++ zs) (h v (here refl)) in
    let b = numbers_past (length vs) 0 (eight v) (gather eight vs ++ zs) in
    let c = numbers_front vs zs (λ w m. h w (next m)) in
    rw (append_assoc (eight v) (gather eight vs) zs) (λ i. a i ∷ (b ∙ c) i)

-- And back: the bytes of the numbers that bytes are.
module _ (f : List ℕ) (all : Bytes f) where
  part_bytes : (i k : ℕ) → Bytes (take k (drop i f))
  part_bytes i k b m = all b (drop_mem i f b (take_mem k (drop i f) b m))

  pub number_word : (i : ℕ) → i + 8 ≤ length f → number_at i f < most 8
  unfolding number_at
  number_word i h =
      let l : length (take 8 (drop i f)) ≡ 8 = length-take-le 8 (drop i f) (omega (arith, length-drop i f)) in
      rw l at (number_small (take 8 (drop i f)) (part_bytes i 8))

  pub number_eight : (i : ℕ) → i + 8 ≤ length f → eight (number_at i f) ≡ take 8 (drop i f)
  unfolding number_at
  number_eight i h =
      let l : length (take 8 (drop i f)) ≡ 8 = length-take-le 8 (drop i f) (omega (arith, length-drop i f)) in
      rw l at (number_back (take 8 (drop i f)) (part_bytes i 8))

  pub numbers_words : (k i : ℕ) → i + 8 * k ≤ length f → Words (numbers_at k i f)
  unfolding numbers_at
  numbers_words zero i h v x'' = elim x'' [ ]
  numbers_words (suc k) i h v (here e) = omega (arith, e, number_word i (omega arith))
  numbers_words (suc k) i h v (next m) = numbers_words k (i + 8) (omega arith) v m

  pub numbers_eights : (k i : ℕ) → i + 8 * k ≤ length f → eights (numbers_at k i f) ≡ take (8 * k) (drop i f)
  unfolding numbers_at eights
  numbers_eights zero i h = refl
  numbers_eights (suc k) i h =
      let e : 8 * suc k ≡ 8 + 8 * k = omega arith in
      let a = number_eight i (omega arith) in
      let b = numbers_eights k (i + 8) (omega arith) in
      (λ j. a j ++ b j)
      ∙ sym (ap (λ (n : ℕ). take n (drop i f)) e
      ∙ take-add 8 (8 * k) (drop i f)
      ∙ ap (λ (t : List ℕ). take 8 (drop i f) ++ take (8 * k) t) (drop-drop 8 i f))

-- A part of a run is a run.

first_numbers : (b k i : ℕ) (f : List ℕ) → b ≤ k → take b (numbers_at k i f) ≡ numbers_at b i f
unfolding numbers_at
first_numbers zero k i f h = refl
first_numbers (suc b) zero i f h = absurd (omega arith)
first_numbers (suc b) (suc k) i f h =
    ap (λ (t : List ℕ). number_at i f ∷ t) (first_numbers b k (i + 8) f (omega arith))

pub part_numbers_lem : (a b k i : ℕ) (f : List ℕ) → a + b ≤ k
    → take b (drop a (numbers_at k i f)) ≡ numbers_at b (i + 8 * a) f
unfolding numbers_at
part_numbers_lem zero b k i f h =
    let e : i ≡ i + 8 * 0 = omega arith in
    first_numbers b k i f (omega arith) ∙ ap (λ (n : ℕ). numbers_at b n f) e
part_numbers_lem (suc a) b zero i f h = absurd (omega arith)
part_numbers_lem (suc a) b (suc k) i f h =
    let e : i + 8 + 8 * a ≡ i + 8 * suc a = omega arith in
    part_numbers_lem a b k (i + 8) f (omega arith) ∙ ap (λ (n : ℕ). numbers_at b n f) e
