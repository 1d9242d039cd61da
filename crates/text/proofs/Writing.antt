-- Bytes written one run behind another, and the text of rows one row behind another.
-- Assumes nothing.
use mathlib.Core.Path.{◌≡◌, refl, sym, ap, ◌∙◌}
use mathlib.Core.Bool.{Bool, true, false}
use mathlib.Core.List.{List, [], ◌∷◌, ◌++◌, append_assoc, append-nil}
use Prim.Native.Nat.{ℕ, suc, ◌+◌, ◌-◌, ◌*◌, ◌≤◌, ◌<◌}
use native.Mathlib.Omega.{arith}
use native.Mathlib.Numerals.{add-one}
use lib.ListN.{length, take, drop, get_or, set, length-append, length-drop, drop_of_length-le}
use lib.Seq.{
  paste-zero,
  take_all,
  take_at,
  take-length,
  drop_at,
  drop-drop,
  drop-cons,
  set_split,
  append_snoc,
  length-take-le,
  get_or-take,
  get_or-drop,
}
use lib.Dec.{leb}
use borrow.Author.Tests.{leb-true, leb-false}
use borrow.Rule.Slice.PartMut.{put_mid}
use Rattle.text.specs.Text.{Wrote, row_text, columns_text, most_shown, front, first_text}

pub wrote_none : (old : List ℕ) (o : ℕ) → Wrote [] old o o old
wrote_none old o = record { end = omega arith; bytes = paste-zero old o [] }

pub wrote_byte : (b : ℕ) (old : List ℕ) (o : ℕ) → o < length old → Wrote (b ∷ []) old o (o + 1) (set old o b)
wrote_byte b old o h = record {
  end = refl;
  bytes = set_split old o b h ∙ rw (add-one o) (sym (append_snoc (take o old) b (drop (suc o) old)));
}

-- a part of the buffer that holds a run
pub wrote_part : (ys part old : List ℕ) (o : ℕ) → part ≡ ys →
    Wrote ys old o (o + length ys) (put_mid o (o + length ys - o) old part)
wrote_part ys part old o e =
    let n : o + length ys - o ≡ length ys = omega arith in
    record {
      end = refl;
      bytes = rw (e, n, take-length ys, drop-drop (length ys) o old) (sym (append_assoc (take o old) ys (drop (o + length ys) old)));
    }

-- what stands before the end of a run, and behind it, also where the run starts behind the buffer's end
module _ {ys old new : List ℕ} {o r : ℕ} (w : Wrote ys old o r new) where
  abbrev front_of : List ℕ
  front_of = take o old ++ ys

  stands : new ≡ front_of ++ drop r old
  stands = w.bytes ∙ rw (take-length ys, w.end)

  size : length front_of ≡ length (take o old) + length ys
  size = length-append (take o old) ys

  inside : o ≤ length old → length front_of ≡ r
  inside h = omega (arith, size, w.end, length-take-le o old h)

  past : length old < o → (length front_of ≤ r) × (drop r old ≡ [])
  past h = (
    omega (arith, size, w.end, ap length (take_all o old (omega arith))),
    drop_of_length-le old {i = r} (omega (arith, w.end)),
  )

  pub wrote_before : take r new ≡ take o old ++ ys
  wrote_before = go (leb o (length old)) refl
    where
      go : (t : Bool) → leb o (length old) ≡ t → take r new ≡ front_of
      go true e = ap (take r) stands ∙ take_at front_of (drop r old) r (inside (leb-true o (length old) e))
      go false e =
          let p = past (leb-false o (length old) e) in
          ap (take r) (stands ∙ (ap (λ (t : List ℕ). front_of ++ t) p.1 ∙ append-nil front_of)) ∙ take_all r front_of p.0

  wrote_behind : (k : ℕ) → drop (r + k) new ≡ drop (r + k) old
  wrote_behind k = sym (drop-drop k r new) ∙ (ap (drop k) (go (leb o (length old)) refl) ∙ drop-drop k r old)
    where
      go : (t : Bool) → leb o (length old) ≡ t → drop r new ≡ drop r old
      go true e = ap (drop r) stands ∙ drop_at front_of (drop r old) r (inside (leb-true o (length old) e))
      go false e =
          let p = past (leb-false o (length old) e) in
          ap (drop r) (stands ∙ (ap (λ (t : List ℕ). front_of ++ t) p.1 ∙ append-nil front_of))
          ∙ (drop_of_length-le front_of {i = r} p.0 ∙ sym p.1)

-- one run behind another
pub wrote_then : {ys zs old mid new : List ℕ} {o r q : ℕ} → Wrote ys old o r mid → Wrote zs mid r q new →
    Wrote (ys ++ zs) old o q new
wrote_then {ys} {zs} {old} {mid} {new} {o} {r} {q} w v =
    let n : length (ys ++ zs) ≡ length ys + length zs = length-append ys zs in
    let e : o + length (ys ++ zs) ≡ r + length zs = omega (arith, w.end) in
    record {
      end = omega (arith, w.end, v.end);
      bytes =
          v.bytes
          ∙ rw (
            take-length zs,
            take-length (ys ++ zs),
            e,
            wrote_before w,
            wrote_behind w (length zs),
            append_assoc (take o old) ys zs,
          );
    }

-- the text of the first rows of three columns, from row i on
abbrev pub text_from : ℕ → ℕ → List ℕ → List ℕ
text_from rows i xs = columns_text i (drop i (front rows 0 xs)) (drop i (front rows 1 xs)) (drop i (front rows 2 xs))

module _ (rows : ℕ) (xs : List ℕ) (size : length xs ≡ 3072) (most : rows ≤ most_shown) where
  -- the front of a column is its value at i and what follows
  part : (i j o : ℕ) → o ≡ most_shown * j + i → i < rows → j < 3 →
      drop i (front rows j xs) ≡ get_or xs o 0 ∷ drop (suc i) (front rows j xs)
  part i j o e h k =
      let n = length-drop (most_shown * j) xs in
      let l : rows ≤ length (drop (most_shown * j) xs) = omega arith in
      drop-cons (front rows j xs) i 0 (omega (arith, length-take-le rows (drop (most_shown * j) xs) l))
      ∙ ap (λ (v : ℕ). v ∷ drop (suc i) (front rows j xs))
      (get_or-take rows (drop (most_shown * j) xs) i 0 h ∙ (get_or-drop (most_shown * j) xs i 0 ∙ ap (λ (n : ℕ). get_or xs n 0) (sym e)))

  -- is row i and the text from row i + 1 on
  text_step : (i : ℕ) → i < rows →
      text_from rows i xs ≡ row_text i (get_or xs i 0) (get_or xs (1024 + i) 0) (get_or xs (2048 + i) 0) ++ text_from rows (i + 1) xs
  unfolding columns_text
  text_step i h = rw (
    add-one i,
    part i 0 i (omega arith) h (omega arith),
    part i 1 (1024 + i) (omega arith) h (omega arith),
    part i 2 (2048 + i) (omega arith) h (omega arith),
  )

  pub text_end : text_from rows rows xs ≡ []
  unfolding columns_text
  text_end = rw (drop_of_length-le (take rows xs) {i = rows} (omega (arith, length-take-le rows xs (omega arith))))

-- rows written up to i: whatever ends the text from row i on ends the whole text
abbrev pub Rows : ℕ → List ℕ → List ℕ → ℕ → List ℕ → ℕ → ℕ → Type 0
Rows rows xs old at out end i =
    (q : ℕ) (new : List ℕ) → Wrote (text_from rows i xs) out end q new → Wrote (first_text rows xs) old at q new

pub row_more : (rows : ℕ) (xs old : List ℕ) (at : ℕ) (out : List ℕ) (end i r : ℕ) (next : List ℕ) → length xs ≡ 3072 →
    rows ≤ most_shown → i < rows → Wrote (row_text i (get_or xs i 0) (get_or xs (1024 + i) 0) (get_or xs (2048 + i) 0)) out end r next →
    Rows rows xs old at out end i → Rows rows xs old at next r (i + 1)
row_more rows xs old at out end i r next size most h w go q new v =
    go q new (rw (text_step rows xs size most i h) (wrote_then w v))

-- what is written ends within the buffer
pub wrote_within : {ys old new : List ℕ} {o r : ℕ} → o ≤ length old → Wrote ys old o r new → r ≤ length new
wrote_within {ys} {old} {new} {o} {r} h w =
    omega (
      arith,
      w.end,
      ap length w.bytes,
      length-append (take o old ++ take (length ys) ys) (drop (o + length ys) old),
      length-append (take o old) (take (length ys) ys),
      length-take-le o old h,
      length-take-le (length ys) ys (omega arith),
    )
