-- The deeds of two layers for one key, joined edit by edit: what each step of the walk does to them.
-- Assumes nothing.
use mathlib.Core.Path.{◌≡◌, refl, sym, ap, ◌∙◌}
use mathlib.Core.Bool.{Bool, true, false, not, cond, true≢false}
use mathlib.Core.Logic.{◌⊎◌, inl, inr}
use mathlib.Core.List.Memᴰ.{head as here}
use mathlib.Core.List.Memᴰ.{not-nil}
use mathlib.Core.List.Memᴰ.{tail as next}
use mathlib.Core.List.{
  List,
  [],
  ◌∷◌,
  map,
  Memᴰ as Mem,
}
use Prim.Native.Nat.{ℕ, ◌<◌}
use native.Mathlib.Omega.{arith}
use lib.Dec.{ltb}
use borrow.Author.Tests.{ltb-true, lt-ltb, le-ltb, eq-eqb, ne_eqb}
use Rattle.order.specs.Lists.{any, filter, insert, in_turn}
use Rattle.order.proofs.Tests.{impossible, tests}
use Rattle.order.proofs.Members.{any_none, none_any, filter_mem, insert_mem}
use Rattle.model.specs.Row.{Row, key}
use Rattle.model.specs.Cell.{CellEdit, over, put}
use Rattle.model.specs.Layer.{Deed, add, strike, change}
use Rattle.model.specs.Edits.{deed_before, over_deed}
use Rattle.theory.proofs.Joined.{
  adds_row,
  changes_column,
  put_deed,
  strike_deeds,
  composed_deeds,
  change_deeds,
  strike_to,
  change_to,
  add_to,
  joined,
}

-- which deed may stand after which, for one key
abbrev pub then : Deed → Deed → Bool
then (add r) (add q) = false
then (add r) (strike k) = true
then (add r) (change j e) = false
then (strike k) d = false
then (change i f) (add r) = false
then (change i f) (strike k) = false
then (change i f) (change j e) = ltb i j

-- deeds that may all stand after d
abbrev pub After : Deed → List Deed → Type 0
After d ds = (x : Deed) → Mem x ds → then d x ≡ true

-- after a strike there is nothing
none_after : (k : ℕ) (ds : List Deed) → After (strike k) ds → ds ≡ []
none_after k [] h = refl
none_after k (d ∷ ds) h = absurd (true≢false (sym (h d (here refl))))

-- strikes neither change nor add
strikes_quiet : (r : Row) (ws ds : List Deed) → After (add r) ws
    → (in_turn change_to ws ds ≡ ds) × (in_turn add_to ws ds ≡ ds)
strikes_quiet r [] ds h = (refl, refl)
strikes_quiet r (add q ∷ ws) ds h = absurd (true≢false (sym (h (add q) (here refl))))
strikes_quiet r (strike k ∷ ws) ds h = strikes_quiet r ws ds (λ x m. h x (next m))
strikes_quiet r (change j e ∷ ws) ds h = absurd (true≢false (sym (h (change j e) (here refl))))

-- changes neither strike nor add
changes_quiet : (j : ℕ) (e : CellEdit) (ws ds : List Deed) → After (change j e) ws
    → (in_turn strike_to ws ds ≡ ds) × (in_turn add_to ws ds ≡ ds)
changes_quiet j e [] ds h = (refl, refl)
changes_quiet j e (add q ∷ ws) ds h = absurd (true≢false (sym (h (add q) (here refl))))
changes_quiet j e (strike k ∷ ws) ds h = absurd (true≢false (sym (h (strike k) (here refl))))
changes_quiet j e (change i f ∷ ws) ds h = changes_quiet j e ws ds (λ x m. h x (next m))

-- so only the changes count
all_changes : (j : ℕ) (e : CellEdit) (ws ds : List Deed) → After (change j e) ws → joined ds ws ≡ in_turn change_to ws ds
unfolding joined
all_changes j e ws ds h =
    ap (λ (t : List Deed). in_turn add_to ws (in_turn change_to ws t)) (changes_quiet j e ws ds h).0
    ∙ (changes_quiet j e ws (in_turn change_to ws ds) h).1

only_changes : (j : ℕ) (e : CellEdit) (ws ds : List Deed) → After (change j e) ws
    → joined ds (change j e ∷ ws) ≡ in_turn change_to ws (change_deeds j e ds)
unfolding joined
only_changes j e ws ds h =
    ap (λ (t : List Deed). in_turn add_to ws (in_turn change_to ws (change_deeds j e t))) (changes_quiet j e ws ds h).0
    ∙ (changes_quiet j e ws (in_turn change_to ws (change_deeds j e ds)) h).1

-- deeds without an added row
abbrev pub NoAdd : List Deed → Type 0
NoAdd ds = any adds_row ds ≡ false

no_add : (d : Deed) (ds : List Deed) → After d ds → NoAdd ds
no_add d ds h = any_none adds_row ds (λ x m. one d x (h x m))
  where
    one : (d x : Deed) → then d x ≡ true → adds_row x ≡ false
    one (add r) (add q) e = sym e
    one (strike k) (add q) e = sym e
    one (change j f) (add q) e = sym e
    one d (strike k) e = refl
    one d (change j f) e = refl

-- an added row goes to the front of deeds for its key
add_first : (r : Row) (ds : List Deed) → ((q : Row) → Mem (add q) ds → key q ≡ key r)
    → insert deed_before (add r) ds ≡ add r ∷ ds
add_first r [] h = refl
add_first r (add q ∷ ds) h = rw (le-ltb (key q) (key r) (omega (arith, h q (here refl))))
add_first r (strike k ∷ ds) h = refl
add_first r (change j e ∷ ds) h = refl

struck_adds : (ws ds : List Deed) (q : Row) → Mem (add q) (in_turn strike_to ws ds) → Mem (add q) ds
struck_adds [] ds q m = m
struck_adds (add r ∷ ws) ds q m = struck_adds ws ds q m
struck_adds (change j e ∷ ws) ds q m = struck_adds ws ds q m
struck_adds (strike k ∷ ws) ds q m = once (any adds_row ds) (struck_adds ws (strike_deeds k ds) q m)
  where
    once : (t : Bool) → Mem (add q) (cond t (filter (λ d. not (adds_row d)) ds) (strike k ∷ [])) → Mem (add q) ds
    once true n = (filter_mem (λ d. not (adds_row d)) ds (add q) n).0
    once false (here e) = impossible (cc)
    once false (next n) = absurd (not-nil n)

-- UpperHere and Upper: the upper layer's added row stands in front
pub joined_add : (r : Row) (ds ws : List Deed) → After (add r) ws → ((q : Row) → Mem (add q) ds → key q ≡ key r)
    → joined ds (add r ∷ ws) ≡ add r ∷ joined ds ws
unfolding joined
joined_add r ds ws h a =
    let S = in_turn strike_to ws ds in
    let q = strikes_quiet r ws S h in
    ap (λ (t : List Deed). in_turn add_to ws (insert deed_before (add r) t)) q.0
    ∙ (strikes_quiet r ws (insert deed_before (add r) S) h).1
    ∙ add_first r S (λ x m. a x (struck_adds ws ds x m))
    ∙ ap (λ (t : List Deed). add r ∷ t) (sym (ap (in_turn add_to ws) q.0 ∙ q.1))

-- Vanish: a strike takes an added row away
pub joined_vanish : (q : Row) (k : ℕ) (ds ws : List Deed) → After (add q) ds → After (strike k) ws
    → joined (add q ∷ ds) (strike k ∷ ws) ≡ joined ds ws
unfolding joined
joined_vanish q k ds ws h n = rw (none_after k ws n) (kept ds (λ x m. no x (h x m)))
  where
    no : (x : Deed) → then (add q) x ≡ true → not (adds_row x) ≡ true
    no (add r) e = e
    no (strike l) e = refl
    no (change j e) f = refl

    kept : (xs : List Deed) → ((x : Deed) → Mem x xs → not (adds_row x) ≡ true) → filter (λ d. not (adds_row d)) xs ≡ xs
    kept [] g = refl
    kept (x ∷ xs) g = rw (g x (here refl)) (ap (λ (t : List Deed). x ∷ t) (kept xs (λ y m. g y (next m))))

-- Drop: a strike takes the changes with it
pub joined_struck : (i : ℕ) (g : CellEdit) (k : ℕ) (ds ws : List Deed) → After (change i g) ds → After (strike k) ws
    → joined (change i g ∷ ds) (strike k ∷ ws) ≡ joined ds (strike k ∷ ws)
unfolding joined
joined_struck i g k ds ws h n = rw (none_after k ws n, no_add (change i g) ds h)

-- a change goes past one of an earlier column
past_change : (i j : ℕ) (g e : CellEdit) (ds : List Deed) → i < j → NoAdd ds
    → change_deeds j e (change i g ∷ ds) ≡ change i g ∷ change_deeds j e ds
past_change i j g e ds h n = rw (n, ne_eqb j i (λ z. omega arith), lt-ltb i j h)

change_no_add : (j : ℕ) (e : CellEdit) (ds : List Deed) → NoAdd ds → NoAdd (change_deeds j e ds)
change_no_add j e ds n = rw (n) (any_none adds_row _ each)
  where
    new : Deed
    new = change j (composed_deeds j e ds)

    each : (x : Deed) → Mem x (insert deed_before new (filter (λ d. not (changes_column j d)) ds)) → adds_row x ≡ false
    each x m = go (insert_mem deed_before new (filter (λ d. not (changes_column j d)) ds) x m)
      where
        go : (x ≡ new) ⊎ Mem x (filter (λ d. not (changes_column j d)) ds) → adds_row x ≡ false
        go (inl f) = ap adds_row f
        go (inr l) = none_any adds_row ds n x (filter_mem (λ d. not (changes_column j d)) ds x l).0

past_changes : (i : ℕ) (g : CellEdit) (ws ds : List Deed) → After (change i g) ws → NoAdd ds
    → in_turn change_to ws (change i g ∷ ds) ≡ change i g ∷ in_turn change_to ws ds
past_changes i g [] ds h n = refl
past_changes i g (add q ∷ ws) ds h n = absurd (true≢false (sym (h (add q) (here refl))))
past_changes i g (strike k ∷ ws) ds h n = absurd (true≢false (sym (h (strike k) (here refl))))
past_changes i g (change j e ∷ ws) ds h n =
    let l : i < j = ltb-true i j (h (change j e) (here refl)) in
    ap (in_turn change_to ws) (past_change i j g e ds l n)
    ∙ past_changes i g ws (change_deeds j e ds) (λ x m. h x (next m)) (change_no_add j e ds n)

-- what may stand after a change may stand after one of an earlier column
pub then_later : (i j : ℕ) (g e : CellEdit) → i < j → (y : Deed) → then (change j e) y ≡ true
    → then (change i g) y ≡ true
then_later i j g e l (add q) z = z
then_later i j g e l (strike k) z = z
then_later i j g e l (change a b) z = lt-ltb i a (omega (arith, ltb-true j a z))

-- Lower: a change of an earlier column stands in front
pub joined_earlier : (i j : ℕ) (g e : CellEdit) (ds ws : List Deed) → i < j → After (change i g) ds
    → After (change j e) ws
    → joined (change i g ∷ ds) (change j e ∷ ws) ≡ change i g ∷ joined ds (change j e ∷ ws)
joined_earlier i j g e ds ws l h n =
    let x = no_add (change i g) ds h in
    only_changes j e ws (change i g ∷ ds) n
    ∙ ap (in_turn change_to ws) (past_change i j g e ds l x)
    ∙ past_changes i g ws (change_deeds j e ds) (λ y m. then_later i j g e l y (n y m)) (change_no_add j e ds x)
    ∙ ap (λ (t : List Deed). change i g ∷ t) (sym (only_changes j e ws ds n))

-- among deeds that may stand after one of its column, a change finds none of its column, and stands in front
module _ (j : ℕ) (g : CellEdit) where
  other : (y : Deed) → then (change j g) y ≡ true
      → (not (changes_column j y) ≡ true) × ((e : CellEdit) → (over_deed j e y ≡ e) × (deed_before y (change j e) ≡ false))
  other (add q) z = absurd (true≢false (sym z))
  other (strike k) z = absurd (true≢false (sym z))
  other (change a b) z =
      let n = ne_eqb j a (λ w. omega tests) in
      (ap not n, λ e. (ap (λ (t : Bool). cond t (over e b) e) n, le-ltb a j (omega tests)))

  alone : (e : CellEdit) (xs : List Deed) → After (change j g) xs → composed_deeds j e xs ≡ e
  alone e [] h = refl
  alone e (y ∷ xs) h = ap (λ (f : CellEdit). over_deed j f y) (alone e xs (λ z m. h z (next m))) ∙ ((other y (h y (here refl))).1 e).0

  kept : (xs : List Deed) → After (change j g) xs → filter (λ d. not (changes_column j d)) xs ≡ xs
  kept [] h = refl
  kept (y ∷ xs) h = rw (other y (h y (here refl))).0 (ap (λ (t : List Deed). y ∷ t) (kept xs (λ z m. h z (next m))))

  first : (e : CellEdit) (xs : List Deed) → After (change j g) xs → insert deed_before (change j e) xs ≡ change j e ∷ xs
  first e [] h = refl
  first e (y ∷ xs) h = rw ((other y (h y (here refl))).1 e).1

-- Fuse: a change goes over one of the same column
pub joined_fused : (i j : ℕ) (g e : CellEdit) (ds ws : List Deed) → i ≡ j → After (change i g) ds → After (change j e) ws
    → joined (change i g ∷ ds) (change j e ∷ ws) ≡ change j (over_deed j e (change i g)) ∷ joined ds ws
joined_fused i j g e ds ws l h n =
    only_changes j e ws (change i g ∷ ds) n
    ∙ ap (in_turn change_to ws) front
    ∙ past_changes j new ws ds n x
    ∙ ap (λ (t : List Deed). change j new ∷ t) (sym (all_changes j e ws ds n))
  where
    new : CellEdit
    new = over_deed j e (change i g)

    x : NoAdd ds
    x = no_add (change i g) ds h

    late : After (change j g) ds
    late = rw (← l) h

    front : change_deeds j e (change i g ∷ ds) ≡ change j new ∷ ds
    front = rw (x, eq-eqb j i (sym l), alone j g e ds late, kept j g ds late) (first j g (over e g) ds late)

-- UpperHere and Upper: a change of an earlier column than all of the lower layer's stands in front
pub joined_later : (j : ℕ) (e : CellEdit) (ds ws : List Deed) → After (change j e) ds → After (change j e) ws
    → joined ds (change j e ∷ ws) ≡ change j e ∷ joined ds ws
joined_later j e ds ws h n =
    only_changes j e ws ds n
    ∙ ap (in_turn change_to ws) front
    ∙ past_changes j e ws ds n x
    ∙ ap (λ (t : List Deed). change j e ∷ t) (sym (all_changes j e ws ds n))
  where
    x : NoAdd ds
    x = no_add (change j e) ds h

    front : change_deeds j e ds ≡ change j e ∷ ds
    front = rw (x, alone j e e ds h, kept j e ds h) (first j e e ds h)

strike_alone : (k : ℕ) (ws : List Deed) → After (strike k) ws → joined [] (strike k ∷ ws) ≡ strike k ∷ joined [] ws
unfolding joined
strike_alone k ws h = rw (none_after k ws h)

-- Upper: with nothing of the lower layer, the upper's deed stands in front
pub joined_alone : (d : Deed) (ws : List Deed) → After d ws → joined [] (d ∷ ws) ≡ d ∷ joined [] ws
joined_alone (add r) ws h = joined_add r [] ws h (λ q m. absurd (not-nil m))
joined_alone (strike k) ws h = strike_alone k ws h
joined_alone (change j e) ws h = joined_later j e [] ws (λ x m. absurd (not-nil m)) h

-- Patch: an added row takes a change in
pub joined_patch : (q : Row) (j : ℕ) (e : CellEdit) (ds ws : List Deed) → After (add q) ds → After (change j e) ws
    → joined (add q ∷ ds) (change j e ∷ ws) ≡ joined (add (put q j e) ∷ ds) ws
joined_patch q j e ds ws h n =
    only_changes j e ws (add q ∷ ds) n
    ∙ ap (λ (t : List Deed). in_turn change_to ws (add (put q j e) ∷ t)) (kept ds h)
    ∙ sym (all_changes j e ws (add (put q j e) ∷ ds) n)
  where
    kept : (xs : List Deed) → After (add q) xs → map (put_deed j e) xs ≡ xs
    kept [] g = refl
    kept (add r ∷ xs) g = absurd (true≢false (sym (g (add r) (here refl))))
    kept (strike k ∷ xs) g = ap (λ (t : List Deed). strike k ∷ t) (kept xs (λ z m. g z (next m)))
    kept (change i f ∷ xs) g = ap (λ (t : List Deed). change i f ∷ t) (kept xs (λ z m. g z (next m)))

-- nothing of the upper layer
pub joined_none : (ds : List Deed) → joined ds [] ≡ ds
unfolding joined
joined_none ds = refl
