-- The bytes of a number pasted; a run of numbers written: its start, and one more.
-- Assumes nothing.
use Prim.Native.Nat.{ℕ, suc, ◌+◌, ◌-◌, ◌*◌, ◌/◌, ◌≤◌, ◌<◌}
use native.Mathlib.Numerals.{add-one}
use native.Mathlib.Omega.{arith}
use mathlib.Core.Path.{◌≡◌, refl, sym, ap, ◌∙◌}
use mathlib.Core.List.{List, [], ◌∷◌, ◌++◌}
use lib.ListN.{length, get_or, take, drop}
use lib.Seq.{take-suc, take_at, drop-append-add, drop-drop, length-take-le, paste}
use borrow.Rule.Slice.PartMut.{put_mid}
use Rattle.std.specs.Int.{w64, to_le_bytes}
use Rattle.run.proofs.Laws.{put_back}
use Rattle.little.specs.Little.{eight, eights}
use Rattle.little.proofs.Numbers.{eights_length, eights_append}

-- the library's bytes of a number are ours
le_eight : (v : ℕ) → to_le_bytes w64 v ≡ eight v
le_eight v =
    let b : v / 65536 ≡ v / 256 / 256 = omega arith in
    let c : v / 16777216 ≡ v / 256 / 256 / 256 = omega arith in
    let d : v / 4294967296 ≡ v / 256 / 256 / 256 / 256 = omega arith in
    let e : v / 1099511627776 ≡ v / 256 / 256 / 256 / 256 / 256 = omega arith in
    let f : v / 281474976710656 ≡ v / 256 / 256 / 256 / 256 / 256 / 256 = omega arith in
    let g : v / 72057594037927936 ≡ v / 256 / 256 / 256 / 256 / 256 / 256 / 256 = omega arith in
    rw (b, c, d, e, f, g)

-- a part of eight bytes that has become them, put back
pub put_eight : (l t : List ℕ) (at v : ℕ) {bs : List ℕ} → t ≡ bs → bs ≡ to_le_bytes w64 v
    → put_mid at (at + 8 - at) l t ≡ paste l at (eight v) 8
put_eight l t at v e f = put_back l (eight v) t at (e ∙ (f ∙ le_eight v))

-- the first i numbers written over the front of d
abbrev pub front : List ℕ → List ℕ → ℕ → List ℕ
front xs d i = eights (take i xs) ++ drop (8 * i) d

front_length : (xs : List ℕ) (i : ℕ) → i ≤ length xs → length (eights (take i xs)) ≡ 8 * i
front_length xs i h = omega (arith, eights_length (take i xs), length-take-le i xs h)

pub write_start : (xs d : List ℕ) → d ≡ front xs d 0
unfolding eights
write_start xs d = refl

pub write_more : (xs d file : List ℕ) (i : ℕ) → file ≡ front xs d i → i < length xs
    → paste file (8 * i) (eight (get_or xs i 0)) 8 ≡ front xs d (i + 1)
unfolding eights
write_more xs d file i e h =
    let a = front_length xs i (omega arith) in
    let w : 8 * (i + 1) ≡ 8 * i + 8 = omega arith in
    let t : drop (8 * i + 8) (front xs d i) ≡ drop (8 * i + 8) d =
    ap (λ (n : ℕ). drop (n + 8) (front xs d i)) (sym a)
    ∙ drop-append-add (eights (take i xs)) (drop (8 * i) d) 8
    ∙ drop-drop 8 (8 * i) d in
    let s : eights (take (i + 1) xs) ≡ eights (take i xs) ++ eight (get_or xs i 0) =
    ap (λ (n : ℕ). eights (take n xs)) (add-one i)
    ∙ ap eights (take-suc xs i 0 h)
    ∙ eights_append (take i xs) (get_or xs i 0 ∷ []) in
    rw (e, t, w, s, take_at (eights (take i xs)) (drop (8 * i) d) (8 * i) a)
