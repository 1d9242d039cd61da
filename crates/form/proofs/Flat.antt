-- Entries with their zeros are the numbers of their edits: a layer in form, written out, is what it was read from.
-- Assumes nothing.
use Prim.Native.Nat.{ℕ, zero, suc, ◌+◌, ◌*◌, ◌-◌, ◌≤◌}
use native.Mathlib.Nat.{suc-mul, zero-mul}
use native.Mathlib.Omega.{arith}
use mathlib.Core.Path.{◌≡◌, refl, sym, ap, ◌∙◌}
use mathlib.Core.Bool.{Bool, true, false, ◌||◌}
use mathlib.Core.List.Memᴰ.{head as here}
use mathlib.Core.List.Memᴰ.{tail as next}
use mathlib.Core.List.{List, [], ◌∷◌, map, Memᴰ as Mem}
use lib.ListN.{length, get_or, take, drop, replicate}
use lib.Seq.{drop-cons, take-add, drop-drop}
use lib.Dec.{eqb}
use borrow.Author.Tests.{eqb-true}
use Rattle.order.specs.Lists.{all, gather}
use Rattle.order.proofs.Tests.{and_l, and_r}
use Rattle.words.specs.declared.Entry.{Entry}
use Rattle.model.specs.Raw.{entry_at, entries_at, edit_of, numbers_of}
use Rattle.words.specs.Entry.{ADD, STRIKE}
use Rattle.model.specs.Form.{zeros}
use Rattle.scan.proofs.ByKind.{edit_by}
use Rattle.scan.proofs.Laws.{vals_length}

all_zero : (vs : List ℕ) → all (λ v. eqb v 0) vs ≡ true → vs ≡ replicate (length vs) 0
all_zero [] h = refl
all_zero (v ∷ vs) h =
    let e : v ≡ 0 = eqb-true v 0 (and_l (eqb v 0) (all (λ w. eqb w 0) vs) h) in
    let f : vs ≡ replicate (length vs) 0 = all_zero vs (and_r (eqb v 0) (all (λ w. eqb w 0) vs) h) in
    λ i. e i ∷ f i

-- one value, then zeros
first_zeros : (c : ℕ) (vs : List ℕ) → length vs ≡ c → 1 ≤ c → all (λ v. eqb v 0) (drop 1 vs) ≡ true
    → get_or vs 0 0 ∷ replicate (c - 1) 0 ≡ vs
first_zeros c [] e l h = absurd (omega arith)
first_zeros c (v ∷ vs) e l h =
    let f : c - 1 ≡ length vs = omega arith in
    rw f (ap (λ (t : List ℕ). v ∷ t) (sym (all_zero vs h)))

-- the numbers of an entry with its zeros
pub entry_numbers_lem : (c : ℕ) (e : Entry) → length e.vals ≡ c → 1 ≤ c → zeros e ≡ true
    → numbers_of c (edit_of e) ≡ e.pos ∷ e.kind ∷ e.vals
entry_numbers_lem c e l h z = by (eqb e.kind ADD) (eqb e.kind STRIKE) refl refl z
  where
    first : all (λ v. eqb v 0) (drop 1 e.vals) ≡ true → get_or e.vals 0 0 ∷ replicate (c - 1) 0 ≡ e.vals
    first t = first_zeros c e.vals l h t

    by : (a b : Bool) → eqb e.kind ADD ≡ a → eqb e.kind STRIKE ≡ b
        → (a || all (λ v. eqb v 0) (drop 1 e.vals)) ≡ true
        → numbers_of c (edit_by a b e) ≡ e.pos ∷ e.kind ∷ e.vals
    by true b f g t = ap (λ (k : ℕ). e.pos ∷ k ∷ e.vals) (sym (eqb-true e.kind ADD f))
    by false true f g t = λ i. e.pos ∷ (sym (eqb-true e.kind STRIKE g)) i ∷ first t i
    by false false f g t = ap (λ (vs : List ℕ). e.pos ∷ e.kind ∷ vs) (first t)

-- the numbers of the entry from `from` are those of the slice there
in_slice : (c from : ℕ) (xs : List ℕ) → from + (c + 2) ≤ length xs
    → get_or xs from 0 ∷ get_or xs (from + 1) 0 ∷ take c (drop (from + 2) xs) ≡ take (c + 2) (drop from xs)
in_slice c from xs h =
    let a : c + 2 ≡ suc (suc c) = omega arith in
    let b : from + 1 ≡ suc from = omega arith in
    let d : from + 2 ≡ suc (suc from) = omega arith in
    rw (a, b, d, drop-cons xs from 0 (omega arith), drop-cons xs (suc from) 0 (omega arith))

pub flat_entries : (c k from : ℕ) (xs : List ℕ) → from + k * (c + 2) ≤ length xs → 1 ≤ c
    → ((e : Entry) → Mem e (entries_at c k from xs) → zeros e ≡ true)
    → gather (numbers_of c) (map edit_of (entries_at c k from xs)) ≡ take (k * (c + 2)) (drop from xs)
unfolding entries_at
flat_entries c zero from xs r h z = rw zero-mul
flat_entries c (suc k) from xs r h z =
    let w : suc k * (c + 2) ≡ (c + 2) + k * (c + 2) = omega (arith, suc-mul k (c + 2)) in
    let s : from + (c + 2) ≤ length xs = omega arith in
    let e : numbers_of c (edit_of (entry_at c from xs)) ≡ take (c + 2) (drop from xs) =
    entry_numbers_lem c (entry_at c from xs) (vals_length c from xs s) h (z (entry_at c from xs) (here refl))
    ∙ in_slice c from xs s in
    let f = flat_entries c k (from + (c + 2)) xs (omega arith) h (λ d m. z d (next m)) in
    rw (w, take-add, drop-drop, e, f)
