-- Bytes taken in turn: none, one run of them behind another, and the end of the input.
-- Assumes nothing.
use mathlib.Core.Path.{◌≡◌, refl, sym, ap, ◌∙◌}
use mathlib.Core.List.{List, [], ◌∷◌, ◌++◌}
use Prim.Native.Nat.{ℕ, ◌+◌, ◌<◌}
use native.Mathlib.Omega.{arith}
use native.Mathlib.Numerals.{add-one}
use lib.ListN.{length, take, get_or, length-append}
use lib.Seq.{take-suc}
use Rattle.intake.specs.declared.Reader.{Reader}
use Rattle.intake.specs.Reading.{Reading, line_in, byte_in, bytes_in}
use Rattle.intake.specs.Reader.{reading_of, Took, Ended}
use Rattle.feed.specs.Input.{last_in, input_ends, Closed}

-- the input ends where no line has begun, and where one has
pub closed_none : (s : Reader) → s.kept ≡ 0 → Closed s s
unfolding input_ends
closed_none s e = record { same = rw (e); short = e; said = omega arith }

last_line_lem : (l : List ℕ) (i : Reading) → 0 < length l → last_in l i ≡ line_in l i
last_line_lem [] i h = absurd (omega arith)
last_line_lem (b ∷ l) i h = refl

pub closed_line : {s t : Reader} → 0 < length (reading_of s).line → Ended s t → Closed s t
unfolding input_ends
closed_line {s = s} h w = record {
  same = w.same ∙ sym (last_line_lem (reading_of s).line (reading_of s) h);
  short = w.short;
  said = w.said;
}

-- no byte
pub took_none : (s : Reader) → Took [] s s
unfolding bytes_in
took_none s = record { same = refl; said = omega arith; counted = omega arith }

-- bytes behind bytes
pub bytes_then : (xs ys : List ℕ) (i : Reading) → bytes_in (xs ++ ys) i ≡ bytes_in ys (bytes_in xs i)
unfolding bytes_in
bytes_then [] ys i = refl
bytes_then (x ∷ xs) ys i = bytes_then xs ys (byte_in x i)

pub took_then : {xs ys : List ℕ} {s t u : Reader} → Took xs s t → Took ys t u → Took (xs ++ ys) s u
took_then {xs} {ys} {s} v w =
    let n = length-append xs ys in
    record {
      same = w.same ∙ (ap (bytes_in ys) v.same ∙ sym (bytes_then xs ys (reading_of s)));
      said = omega (arith, v.said, w.said);
      counted = omega (arith, v.counted, w.counted);
    }

-- one byte more of a block
pub took_more : {s t u : Reader} (block : List ℕ) (k : ℕ) → k < length block → Took (take k block) s t →
    Took (get_or block k 0 ∷ []) t u → Took (take (k + 1) block) s u
took_more block k h v w = rw (add-one k, take-suc block k 0 h) (took_then v w)
