-- A fitting layer is canonical: over one table, two layers that mean the same for every key are one list,
-- since a key and a deed say an edit's position and the order says its place.
-- Assumes nothing.
use mathlib.Core.Path.{◌≡◌, refl, sym, ap, ◌∙◌}
use mathlib.Core.Bool.{true}
use mathlib.Core.List.Memᴰ.{cast as mem_cast}
use mathlib.Core.List.{Memᴰ as Mem}
use Prim.Native.Nat.{ℕ}
use Rattle.order.specs.Lists.{count, ascending}
use Rattle.order.proofs.Pairs.{pairs_ext}
use Rattle.order.proofs.Ascending.{AscFrom, below, asc_of}
use Rattle.model.specs.Row.{Table, key, keys}
use Rattle.model.specs.Layer.{Edit, at, Layer}
use Rattle.model.specs.Edits.{before}
use Rattle.model.specs.Meaning.{key_of, meaning}
use Rattle.theory.proofs.Edits.{before_asym}
use Rattle.theory.proofs.Fit.{Fit}
use Rattle.theory.proofs.Demand3.{Tested, tested_good}
use Rattle.theory.proofs.Meaning.{meaning_mem, mem_meaning, position_of}

-- two layers over one table mean the same for every key
abbrev pub MeanAlike : Table → Layer → Layer → Type 0
MeanAlike T L M = (k : ℕ) → meaning (keys T) L k ≡ meaning (keys T) M k

-- then each has the edits of the other
edit_of_lem : (T : Table) (L M : Layer) → AscFrom key 0 T → Fit T L → Fit T M → MeanAlike T L M → (e : Edit) → Mem e L → Mem e M
edit_of_lem T L M a F G same (at s d) m =
    let k = key_of (keys T) (at s d) in
    let w = meaning_mem (keys T) M k d (rw (sym (same k)) (mem_meaning (keys T) L k s d m refl)) in
    let sp : s ≡ w.0 =
    sym (position_of T L a F s d m)
    ∙ (ap (λ (l : ℕ). count (below key l) T) (sym w.2) ∙ position_of T M a G w.0 d w.1) in
    mem_cast {b = at w.0 d} (ap (λ (p : ℕ). at p d) sp) w.1

pub canonical : (T : Table) (L M : Layer) → AscFrom key 0 T → Fit T L → Fit T M → MeanAlike T L M → L ≡ M
canonical T L M a F G same =
    pairs_ext before before_asym L M F.sorted G.sorted (edit_of_lem T L M a F G same)
    (edit_of_lem T M L a G F (λ k. sym (same k)))

-- the same over the scope's tests
pub canonical_tests : (c : ℕ) (T : Table) (L M : Layer) → ascending (keys T) ≡ true → Tested c T L → Tested c T M
    → MeanAlike T L M → L ≡ M
canonical_tests c T L M t GL GM same =
    canonical T L M (asc_of key T t) (tested_good c T L t GL).fit (tested_good c T M t GM).fit same
