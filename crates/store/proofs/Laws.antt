-- The numbers of an entry as they are stored; what comes, in numbers; what fits the room of a slice.
-- Assumes nothing.
use Prim.Native.Nat.{ℕ, suc, ◌+◌, ◌*◌, ◌-◌, ◌≤◌, ◌/◌}
use native.Mathlib.Nat.{zero-mul, min-le_left, min-le_right, le-min, le-div_iff_mul-le}
use native.Mathlib.Omega.{arith}
use mathlib.Core.Path.{◌≡◌, refl, sym, ap, ◌∙◌}
use mathlib.Core.List.{List, ◌∷◌, ◌++◌}
use lib.ListN.{length, take, drop, set}
use lib.Seq.{paste, paste-zero, length-take-le, take-take}
use Rattle.run.proofs.Laws.{copy_more, paste_paste}
use Rattle.std.specs.Prelude.{Option, Some, None}
use Rattle.words.specs.declared.Entry.{Entry}
use Rattle.model.specs.Raw.{room}
use Rattle.store.specs.Numbers.{entry_numbers, coming, arrivals}

-- an entry's numbers, stored one by one and then the values as a run
pub store_all : (xs : List ℕ) (at c : ℕ) (e : Entry) → c ≤ length e.vals → at + (c + 2) ≤ length xs
    → paste (set (set xs at e.pos) (at + 1) e.kind) (at + 2) (drop 0 e.vals) (c - 0)
    ≡ paste xs at (entry_numbers c e) (c + 2)
store_all xs at c e h r =
    let l : length (take c e.vals) ≡ c = length-take-le c e.vals h in
    let q : 2 + c ≡ c + 2 = omega arith in
    let o : 2 + c ≡ suc (suc c) = omega arith in
    let z : c - 0 ≡ c = omega arith in
    let one : set xs at e.pos ≡ paste xs at (entry_numbers c e) 1 =
    copy_more xs xs (entry_numbers c e) at 0 at e.pos (omega arith) (paste-zero xs at (entry_numbers c e))
    (omega arith) (omega arith) refl in
    let two : set (set xs at e.pos) (at + 1) e.kind ≡ paste xs at (entry_numbers c e) 2 =
    copy_more (set xs at e.pos) xs (entry_numbers c e) at 1 (at + 1) e.kind refl one (omega arith)
    (omega arith) refl in
    let three : paste xs at (entry_numbers c e) (2 + c) ≡ paste xs at (e.pos ∷ e.kind ∷ e.vals) (2 + c) =
    rw o (ap (λ (t : List ℕ). take at xs ++ (e.pos ∷ e.kind ∷ t) ++ drop (at + suc (suc c)) xs)
    (take-take c c e.vals (omega arith))) in
    rw z (ap (λ (d : List ℕ). paste d (at + 2) e.vals c) two
    ∙ (paste_paste xs (entry_numbers c e) e.vals at 2 c (omega arith) (omega arith)
    ∙ (sym three ∙ ap (paste xs at (entry_numbers c e)) q)))

pub numbers_length : (c : ℕ) (e : Entry) → c ≤ length e.vals → length (entry_numbers c e) ≡ c + 2
numbers_length c e h = omega (arith, length-take-le c e.vals h)

-- what comes, in numbers: none, or c + 2 for each that comes
abbrev pub AllNumbers : ℕ → Option Entry → Type 0
AllNumbers c None = Unit {0}
AllNumbers c (Some e) = c ≤ length e.vals

pub coming_length : (c : ℕ) (comes : Option Entry) → AllNumbers c comes → length (coming c comes) ≡ arrivals comes * (c + 2)
coming_length c None h = sym (zero-mul (c + 2))
coming_length c (Some e) h = omega (arith, numbers_length c e h)

pub few_arrive : (comes : Option Entry) → arrivals comes ≤ 1
few_arrive None = omega arith
few_arrive (Some e) = omega arith

-- the room: entries that fit it fit the slice
pub in_room : (c len k : ℕ) → k ≤ room c len → (k ≤ 512) × (k * (c + 2) ≤ len)
unfolding room
in_room c len k h = (
  omega (arith, min-le_left 512 (len / (c + 2))),
  (le-div_iff_mul-le {k = c + 2} (omega arith)).0
      (omega (arith, min-le_right 512 (len / (c + 2)))),
)

pub room_of : (c len k : ℕ) → k ≤ 512 → k * (c + 2) ≤ len → k ≤ room c len
unfolding room
room_of c len k h r = le-min h ((le-div_iff_mul-le {k = c + 2} (omega arith)).1 r)
