-- A list written to a buffer piece by piece: what is written stands in front, the rest is as it was.
-- Assumes nothing.
use Prim.Native.Nat.{ℕ, zero, suc, ◌+◌, ◌-◌, ◌≤◌, ◌<◌}
use native.Mathlib.Nat.{sub-zero, zero-sub, suc-sub-suc}
use native.Mathlib.Omega.{arith}
use mathlib.Core.Path.{◌≡◌, sym, ap, ◌∙◌}
use mathlib.Core.List.{List, [], ◌∷◌, ◌++◌, append_assoc, append-nil}
use lib.ListN.{length, take, drop, set, length-append, take-append-drop}
use lib.Seq.{
  paste,
  paste-zero,
  length-paste,
  take-paste,
  drop-paste,
  drop-drop,
  take-length,
  take-append_seam,
  get_or-append_seam,
  take-nil,
  length-take-le,
  slice,
}
use Rattle.run.proofs.Laws.{copy_more}
use Rattle.column.specs.Runs.{Pasted}

-- the part from s up to p, the two ways to say it
pub part_slice : (s p : ℕ) (xs : List ℕ) → take (p - s) (drop s xs) ≡ slice s p xs
part_slice zero p xs = rw sub-zero
part_slice (suc s) zero xs = rw zero-sub
part_slice (suc s) (suc p) [] = take-nil (suc p - suc s)
part_slice (suc s) (suc p) (x ∷ xs) = rw suc-sub-suc (part_slice s p xs)

pub pasted_none : (d : List ℕ) (o : ℕ) → Pasted [] d o o d
pasted_none d o = record { end = omega arith; numbers = paste-zero d o [] }

-- one number more
pub pasted_one : (ys d new : List ℕ) (o r v : ℕ) → Pasted ys d o r new → o + length ys < length d
    → Pasted (ys ++ (v ∷ [])) d o (r + 1) (set new r v)
pasted_one ys d new o r v w h =
    let zs = ys ++ (v ∷ []) in
    let l : length zs ≡ length ys + 1 = length-append ys (v ∷ []) in
    let q : paste d o ys (length ys) ≡ paste d o zs (length ys) =
    ap (λ (t : List ℕ). take o d ++ t ++ drop (o + length ys) d) (take-length ys ∙ sym (take-append_seam ys (v ∷ []))) in
    record {
      end = omega (arith, w.end);
      numbers =
          copy_more new d zs o (length ys) r v w.end (w.numbers ∙ q) (omega arith) (omega arith)
          (sym (get_or-append_seam ys v [] 0))
          ∙ ap (paste d o zs) (sym l);
    }

-- what is left to write begins with ys: there is room for it
pub room : (t d ys rest : List ℕ) (o : ℕ) → t ≡ take o d ++ (ys ++ rest) → length t ≤ length d → o ≤ length d
    → o + length ys ≤ length d
room t d ys rest o e h k =
    omega (arith, ap length e, length-append (take o d) (ys ++ rest), length-append ys rest, length-take-le o d k)

-- a buffer whose first o numbers are written, out of one that began as d₀; the whole list is t, and `rest` is left
pub record Front (t d₀ : List ℕ) (o : ℕ) (d rest : List ℕ) : Type 0 where
  pub size : length d ≡ length d₀
  pub done : o ≤ length d
  pub kept : drop o d ≡ drop o d₀
  pub split : t ≡ take o d ++ rest

pub front_more : (t d₀ d new ys rest : List ℕ) (o r : ℕ) → length t ≤ length d₀ → Front t d₀ o d (ys ++ rest)
    → Pasted ys d o r new → Front t d₀ r new rest
front_more t d₀ d new ys rest o r f g w =
    let h : o + length ys ≤ length d = room t d ys rest o g.split (omega (arith, g.size)) g.done in
    let l = length-paste d o ys (length ys) h (omega arith) in
    record {
      size = rw w.numbers (l ∙ g.size);
      done = rw (w.end, w.numbers) (omega arith);
      kept =
          rw (w.end, w.numbers)
          (drop-paste d o ys (length ys) g.done (omega arith)
          ∙ sym (drop-drop (length ys) o d)
          ∙ ap (drop (length ys)) g.kept
          ∙ drop-drop (length ys) o d₀);
      split =
          rw (
            w.end,
            w.numbers,
            take-paste d o ys (length ys) g.done (omega arith),
            take-length ys,
            append_assoc (take o d) ys rest,
          ) g.split;
    }

-- all is written
pub front_end : (t d₀ d : List ℕ) (o : ℕ) → Front t d₀ o d [] → (o ≡ length t) × (d ≡ t ++ drop (length t) d₀)
front_end t d₀ d o g =
    let e : t ≡ take o d = g.split ∙ append-nil (take o d) in
    let l : o ≡ length t = sym (ap length e ∙ length-take-le o d g.done) in
    (l, sym (take-append-drop o d) ∙ rw (g.kept, e, length-take-le o d g.done))
