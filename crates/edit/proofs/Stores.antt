-- A move in stores: they leave what the move leaves; no number is stored twice, none in front of its place, none behind
-- the entries.
-- Assumes nothing.
use Prim.Native.Nat.{ℕ, suc, ◌+◌, ◌-◌, ◌*◌, ◌≤◌, ◌<◌, max}
use native.Mathlib.Nat.{add-zero, zero-mul, suc-mul, mul-le-mul_right}
use native.Mathlib.Omega.{arith}
use mathlib.Core.Path.{◌≡◌, refl, sym, ap, subst, ◌∙◌}
use mathlib.Core.Bool.{Bool, true, false, cond}
use mathlib.Core.List.{List, [], ◌∷◌, ◌++◌, append_assoc}
use lib.ListN.{length, take, drop, replicate, length-append, length-drop, length-replicate}
use lib.Seq.{paste, paste-zero, length-take-le, take-take, take_at, drop_at, take-set-le, drop-set-lt}
use lib.Dec.{leb, ltb, eqb}
use borrow.Author.Tests.{leb-true, ltb-true, eqb-true}
use Rattle.order.specs.Lists.{one, count}
use Rattle.order.proofs.Tests.{and_l, and_r, not_passed}
use Rattle.order.proofs.Counts.{count_append}
use Rattle.run.proofs.Laws.{paste_own, paste_apart, copy_more}
use Rattle.model.specs.Raw.{Held}
use Rattle.splice.specs.declared.Splice.{Splice}
use Rattle.enter.specs.declared.Value.{Value}
use Rattle.splice.specs.Splice.{between, begins, fresh, resumes, laid, spliced_two}
use Rattle.enter.specs.declared.Move.{Move}
use Rattle.enter.specs.declared.Move.TheVariants.{Entries as entries, Both as both, Number as number}
use Rattle.enter.specs.Move.{none_at, number_at, Within, entered, count_after}
use Rattle.splice.proofs.Runs.{all_written, result_length, between_length}
use Rattle.splice.proofs.Laws.{max_mul, Lies, lies}
use Rattle.enter.proofs.Laws.{two_none}
use Rattle.edit.specs.OneMove.{OneMove}
use Rattle.edit.specs.Stores.{
  Store,
  stored,
  all_stored,
  covers,
  zero_store,
  new_store,
  unless_still,
  tail_store,
  between_store,
  second_store,
  behind_store,
  part_stores,
  stores_of,
  place_of,
  InStores,
}
use Rattle.edit.proofs.Whole.{Whole}

-- stores one after the other
stored_append : (xs : List ℕ) (ss ts : List Store) → all_stored xs (ss ++ ts) ≡ all_stored (all_stored xs ss) ts
stored_append xs [] ts = refl
stored_append xs (s ∷ ss) ts = stored_append (stored xs s) ss ts

-- a part of a list, stored
paste_part : (xs s : List ℕ) (to n : ℕ) → n ≤ length s → paste xs to (take n s) (length (take n s)) ≡ paste xs to s n
paste_part xs s to n h = rw (length-take-le n s h, take-take n n s (omega arith))

-- a part of the list itself: one that keeps its place is there without being stored
part_stored : (xs : List ℕ) (from to n : ℕ) → n ≤ length (drop from xs)
    → all_stored xs (unless_still from (record { at = to; numbers = take n (drop from xs) })) ≡ paste xs to (drop from xs) n
part_stored xs from to n h = go (eqb to from) refl
  where
    go : (t : Bool) → eqb to from ≡ t
        → all_stored xs (cond t [] (record { at = to; numbers = take n (drop from xs) } ∷ [])) ≡ paste xs to (drop from xs) n
    go true e = rw (eqb-true to from e) (paste_own xs from n)
    go false e = paste_part xs (drop from xs) to n h

-- a store of no number leaves a list as it is
unless_none : (xs : List ℕ) (s : Store) → s.numbers ≡ [] → (t : Bool) → all_stored xs (cond t [] (s ∷ [])) ≡ xs
unless_none xs s e true = refl
unless_none xs s e false = rw e (sym (paste-zero xs s.at []))

-- stores that leave every list as it is do so before others and behind them
either_none : (xs : List ℕ) (ss ts : List Store) → ((ys : List ℕ) → all_stored ys ts ≡ ys) → (t : Bool)
    → all_stored xs (cond t (ts ++ ss) (ss ++ ts)) ≡ all_stored xs ss
either_none xs ss ts h true = stored_append xs ts ss ∙ ap (λ (ys : List ℕ). all_stored ys ss) (h xs)
either_none xs ss ts h false = stored_append xs ss ts ∙ h (all_stored xs ss)

-- Two parts of a list, the second behind the first where they stood and where they are stored.
module _ (xs : List ℕ) (from end to from₂ last to₂ : ℕ) (a : from ≤ end) (b : end ≤ from₂) (d : from₂ ≤ last)
    (h : last ≤ length xs) (u : to + (end - from) ≤ to₂) (r : to₂ ≤ length xs) where
  abbrev near : Store
  near = record { at = to; numbers = between from end xs }

  abbrev far : Store
  far = record { at = to₂; numbers = between from₂ last xs }

  abbrev slid : List ℕ
  slid = paste (paste xs to₂ (drop from₂ xs) (last - from₂)) to (drop from xs) (end - from)

  -- each part lies within the list
  held : end - from ≤ length (drop from xs)
  held = omega (arith, length-drop from xs)

  held₂ : last - from₂ ≤ length (drop from₂ xs)
  held₂ = omega (arith, length-drop from₂ xs)

  -- the first moves up: it is stored last
  near_last : from < to → (t : Bool) → eqb to from ≡ t
      → all_stored xs (unless_still from₂ far ++ cond t [] (near ∷ [])) ≡ slid
  near_last l true e = absurd (omega (arith, eqb-true to from e))
  near_last l false e =
      stored_append xs (unless_still from₂ far) (near ∷ [])
      ∙ (ap (λ (ys : List ℕ). stored ys near) (part_stored xs from₂ to₂ (last - from₂) held₂)
      ∙ paste_part (paste xs to₂ (drop from₂ xs) (last - from₂)) (drop from xs) to (end - from) held)

  -- else the second is
  far_last : (t : Bool) → eqb to₂ from₂ ≡ t → all_stored xs (unless_still from near ++ cond t [] (far ∷ [])) ≡ slid
  far_last true e =
      stored_append xs (unless_still from near) []
      ∙ (part_stored xs from to (end - from) held
      ∙ ap (λ (ys : List ℕ). paste ys to (drop from xs) (end - from))
      (rw (eqb-true to₂ from₂ e) (paste_own xs from₂ (last - from₂))))
  far_last false e =
      stored_append xs (unless_still from near) (far ∷ [])
      ∙ (ap (λ (ys : List ℕ). stored ys far) (part_stored xs from to (end - from) held)
      ∙ (paste_part (paste xs to (drop from xs) (end - from)) (drop from₂ xs) to₂ (last - from₂) held₂
      ∙ paste_apart xs (drop from xs) (drop from₂ xs) to (end - from) to₂ (last - from₂) u r held))

  -- so both stand where they are stored
  parts_stored : (t : Bool) → ltb from to ≡ t
      → all_stored xs (cond t (unless_still from₂ far ++ unless_still from near) (unless_still from near ++ unless_still from₂ far))
      ≡ slid
  parts_stored true e = near_last (ltb-true from to e) (eqb to from) refl
  parts_stored false e = far_last (eqb to₂ from₂) refl

-- what stands behind both the numbers that were there and those that are
laid_behind : (ys : List ℕ) (old : ℕ) (xs : List ℕ)
    → drop (max old (length ys)) (laid ys old xs) ≡ drop (max old (length ys)) xs
unfolding laid
laid_behind ys old xs =
    let Z = replicate {A = ℕ} (old - length ys) 0 in
    ap (drop (max old (length ys))) (sym (append_assoc ys Z (drop (max old (length ys)) xs)))
    ∙ drop_at (ys ++ Z) (drop (max old (length ys)) xs) (max old (length ys))
    (omega (arith, length-append ys Z, length-replicate {A = ℕ} (old - length ys) 0))

-- Stores in a row from a up to b: each starts at or behind the end of the one before it.
abbrev Row : ℕ → List Store → ℕ → Type 0
Row a [] b = a ≤ b
Row a (s ∷ ss) b = (a ≤ s.at) × Row (s.at + length s.numbers) ss b

-- a row ends at or behind its start
row_le : (a : ℕ) (ss : List Store) (b : ℕ) → Row a ss b → a ≤ b
row_le a [] b r = r
row_le a (s ∷ ss) b r = omega (arith, r.0, row_le (s.at + length s.numbers) ss b r.1)

-- Which stores cover number n.
module _ (n : ℕ) where
  -- a store that covers it starts at or before it and ends behind it
  covered : (s : Store) → covers n s ≡ true → (s.at ≤ n) × (n < s.at + length s.numbers)
  covered s e =
      let a = leb s.at n in
      let b = ltb n (s.at + length s.numbers) in
      (leb-true s.at n (and_l a b e), ltb-true n (s.at + length s.numbers) (and_r a b e))

  -- none of a row that starts behind it
  row_front : (a : ℕ) (ss : List Store) (b : ℕ) → Row a ss b → n < a → count (covers n) ss ≡ 0
  row_front a [] b r h = refl
  row_front a (s ∷ ss) b r h =
      omega (
        arith,
        ap one (not_passed (covers n s) (λ e. omega (arith, r.0, (covered s e).0))),
        row_front (s.at + length s.numbers) ss b r.1 (omega (arith, r.0)),
      )

  -- none of a row that ends before it
  row_behind : (a : ℕ) (ss : List Store) (b : ℕ) → Row a ss b → b ≤ n → count (covers n) ss ≡ 0
  row_behind a [] b r h = refl
  row_behind a (s ∷ ss) b r h =
      let l = row_le (s.at + length s.numbers) ss b r.1 in
      omega (
        arith,
        ap one (not_passed (covers n s) (λ e. omega (arith, l, (covered s e).1))),
        row_behind (s.at + length s.numbers) ss b r.1 h,
      )

  -- one of a row at most
  row_once : (a : ℕ) (ss : List Store) (b : ℕ) → Row a ss b → count (covers n) ss ≤ 1
  row_once a [] b r = omega arith
  row_once a (s ∷ ss) b r = go (row_once (s.at + length s.numbers) ss b r.1) (covers n s) refl
    where
      go : count (covers n) ss ≤ 1 → (t : Bool) → covers n s ≡ t → one t + count (covers n) ss ≤ 1
      go ih true e = omega (arith, row_front (s.at + length s.numbers) ss b r.1 (covered s e).1)
      go ih false e = omega arith

  -- a part that keeps its place is not stored
  unless_le : (t : Bool) (s : Store) → count (covers n) (cond t [] (s ∷ [])) ≤ one (covers n s)
  unless_le true s = omega arith
  unless_le false s = omega arith

  -- two lists of stores, in either order
  either_count : (t : Bool) (ss ts : List Store)
      → count (covers n) (cond t (ts ++ ss) (ss ++ ts)) ≡ count (covers n) ss + count (covers n) ts
  either_count true ss ts = omega (arith, count_append (covers n) ts ss)
  either_count false ss ts = count_append (covers n) ss ts

-- a move within the m entries of a slice that has room for what it leaves
pub record Enterable (c m : ℕ) (xs : List ℕ) (p : Move) : Type 0 where
  pub held : Held c m xs
  pub within : Within c m p
  pub whole : Whole c p
  pub room : count_after m p * (c + 2) ≤ length xs

-- stores in a row, from the move's place up to the last of the entries that there were and are; its own are among them
record Lined (c m : ℕ) (xs : List ℕ) (p : Move) : Type 0 where
  stores : List Store
  lined : Row (place_of c p) stores (max m (count_after m p) * (c + 2))
  among : (n : ℕ) → count (covers n) (stores_of c m p xs) ≤ count (covers n) stores

module _ (c m : ℕ) (xs : List ℕ) where
  -- two splices of the m entries that the slice has room for
  module _ (p q : Splice) (F : Enterable c m xs (both p q)) where
    abbrev start : ℕ
    start = begins c p

    abbrev new : List ℕ
    new = fresh c p

    abbrev new₂ : List ℕ
    new₂ = fresh c q

    abbrev to : ℕ
    to = start + length new

    abbrev start₂ : ℕ
    start₂ = to + (begins c q - resumes c p)

    abbrev to₂ : ℕ
    to₂ = start₂ + length new₂

    abbrev last : ℕ
    last = m * (c + 2)

    abbrev stop : ℕ
    stop = count_after m (both p q) * (c + 2)

    -- the parts of the slice in their order, and where the last number stands afterwards
    lie : Lies c m p q (length xs)
    lie = lies c m xs F.held p q F.within

    inner : begins c q ≤ resumes c q
    inner = omega (arith, lie.goes₂)

    ends : stop ≡ to₂ + (last - resumes c q)
    ends = omega (arith, lie.stops, F.whole.0, F.whole.1)

    zero_length : length (replicate {A = ℕ} (last - stop) 0) ≡ last - stop
    zero_length = length-replicate {A = ℕ} (last - stop) 0

    -- what stays between them and behind them is where it is to be
    parts_slid : all_stored xs (part_stores c m p q xs)
        ≡ paste (paste xs to₂ (drop (resumes c q) xs) (last - resumes c q)) to (drop (resumes c p) xs) (begins c q - resumes c p)
    parts_slid =
        parts_stored xs (resumes c p) (begins c q) to (resumes c q) last to₂ lie.first inner lie.second lie.all
        (omega arith) (omega (arith, ends, F.room)) (ltb (resumes c p) to) refl

    -- the numbers that the slice then starts with
    abbrev after : List ℕ
    after = take start xs ++ (new ++ (between (resumes c p) (begins c q) xs ++ (new₂ ++ between (resumes c q) last xs)))

    -- the stores leave what the two splices leave
    both_stored : entered c m (both p q) xs ≡ all_stored xs (stores_of c m (both p q) xs)
    unfolding spliced_two
    both_stored =
        let ys = all_stored xs (part_stores c m p q xs) in
        let zs = stored ys (zero_store c m (both p q)) in
        let us = stored zs (new_store c p) in
        sym (stored_append xs (part_stores c m p q xs) (zero_store c m (both p q) ∷ new_store c p ∷ second_store c p q ∷ [])
        ∙ all_written xs new new₂ start to (resumes c p) (begins c q) start₂ to₂ (resumes c q) last stop lie.first inner
        lie.second lie.all F.room refl refl refl ends ys zs us (stored us (second_store c p q)) parts_slid
        (ap (paste ys stop (replicate (last - stop) 0)) zero_length) refl refl)

    -- they lie in a row: what comes first, what stays between, what comes second, what stays behind, zeros
    both_lined : Lined c m xs (both p q)
    both_lined = record {
      stores =
          new_store c p ∷ between_store c p q xs ∷ second_store c p q ∷ behind_store c m p q xs ∷ zero_store c m (both p q) ∷ [];
      lined = (
        omega arith,
        (
          omega arith,
          (
            omega (arith, between_length xs (resumes c p) (begins c q) (omega (arith, inner, lie.second, lie.all))),
            (
              omega arith,
              (
                omega (arith, ends, between_length xs (resumes c q) last lie.all),
                omega (arith, zero_length, max_mul m (count_after m (both p q)) (c + 2)),
              ),
            ),
          ),
        ),
      );
      among = λ n. omega (
        arith,
        count_append (covers n) (part_stores c m p q xs) (zero_store c m (both p q) ∷ new_store c p ∷ second_store c p q ∷ []),
        either_count n (ltb (resumes c p) to) (unless_still (resumes c p) (between_store c p q xs))
            (unless_still (resumes c q) (behind_store c m p q xs)),
        unless_le n (eqb to (resumes c p)) (between_store c p q xs),
        unless_le n (eqb to₂ (resumes c q)) (behind_store c m p q xs),
      );
    }

    -- the numbers in front of them and behind the entries are as they were
    both_front_kept : take start (entered c m (both p q) xs) ≡ take start xs
    unfolding spliced_two laid
    both_front_kept =
        ap (take start) (append_assoc (take start xs) _ _)
        ∙ take_at (take start xs) _ start
        (length-take-le start xs (omega (arith, lie.goes, lie.first, inner, lie.second, lie.all)))

    both_behind_kept : drop (max m (count_after m (both p q)) * (c + 2)) (entered c m (both p q) xs)
        ≡ drop (max m (count_after m (both p q)) * (c + 2)) xs
    unfolding spliced_two
    both_behind_kept =
        let l : length after ≡ stop =
        result_length xs new new₂ start to (resumes c p) (begins c q) start₂ to₂ (resumes c q) last stop lie.first inner
        lie.second lie.all F.room refl refl refl ends in
        let e : max last (length after) ≡ max m (count_after m (both p q)) * (c + 2) =
        ap (max last) l ∙ max_mul m (count_after m (both p q)) (c + 2) in
        rw (← e) (laid_behind after last xs)

  -- One splice is two of which the second is none; its stores are theirs without those of no number.
  module _ (p : Splice) (F : Enterable c m xs (entries p)) where
    abbrev none : Splice
    none = none_at m

    -- as many entries and zeros as after the two
    same_count : count_after m (both p none) ≡ count_after m (entries p)
    same_count = omega arith

    same_zeros : zero_store c m (both p none) ≡ zero_store c m (entries p)
    same_zeros =
        ap (λ (k : ℕ). record { at = k * (c + 2); numbers = replicate (m * (c + 2) - k * (c + 2)) 0 }) same_count

    -- the slice has room for the two as it has for the one
    as_both : Enterable c m xs (both p none)
    as_both = record {
      held = F.held;
      within = record { first = F.within; second = omega arith };
      whole = (F.whole, sym (zero-mul (c + 2)));
      room = rw same_count F.room;
    }

    -- what stands behind the first, if its place changes, and what behind the second: nothing
    abbrev tail : List Store
    tail = unless_still (resumes c p) (tail_store c m p xs)

    abbrev nothing : List Store
    nothing = unless_still (resumes c none) (behind_store c m p none xs)

    no_numbers : between (resumes c none) (m * (c + 2)) xs ≡ []
    no_numbers =
        let z : m * (c + 2) - m * (c + 2) ≡ 0 = omega arith in
        rw (add-zero m, z)

    parts_tail : all_stored xs (part_stores c m p none xs) ≡ all_stored xs tail
    parts_tail =
        either_none xs tail nothing (λ ys. unless_none ys (behind_store c m p none xs) no_numbers
        (eqb (behind_store c m p none xs).at (resumes c none))) (ltb (resumes c p) (begins c p + length (fresh c p)))

    -- the stores of the two leave what its own leave, and cover each number that its own cover
    same_stored : all_stored xs (stores_of c m (both p none) xs) ≡ all_stored xs (stores_of c m (entries p) xs)
    same_stored =
        let Z = zero_store c m (both p none) in
        let ys = all_stored xs (part_stores c m p none xs) in
        stored_append xs (part_stores c m p none xs) (Z ∷ new_store c p ∷ second_store c p none ∷ [])
        ∙ (sym (paste-zero (all_stored ys (Z ∷ new_store c p ∷ [])) (second_store c p none).at [])
        ∙ (ap (λ (t : List ℕ). all_stored t (Z ∷ new_store c p ∷ [])) parts_tail
        ∙ (ap (λ (z : Store). all_stored (all_stored xs tail) (z ∷ new_store c p ∷ [])) same_zeros
        ∙ sym (stored_append xs tail (zero_store c m (entries p) ∷ new_store c p ∷ [])))))

    fewer : (n : ℕ) → count (covers n) (stores_of c m (entries p) xs) ≤ count (covers n) (stores_of c m (both p none) xs)
    fewer n =
        let Z = zero_store c m (both p none) in
        omega (
          arith,
          count_append (covers n) tail (zero_store c m (entries p) ∷ new_store c p ∷ []),
          count_append (covers n) (part_stores c m p none xs) (Z ∷ new_store c p ∷ second_store c p none ∷ []),
          either_count n (ltb (resumes c p) (begins c p + length (fresh c p))) tail nothing,
          ap (λ (z : Store). one (covers n z)) same_zeros,
        )

    -- so its stores leave what it leaves, in the same row
    splice_stored : entered c m (entries p) xs ≡ all_stored xs (stores_of c m (entries p) xs)
    splice_stored = sym (two_none c m p xs) ∙ (both_stored p none as_both ∙ same_stored)

    splice_lined : Lined c m xs (entries p)
    splice_lined =
        let B = both_lined p none as_both in
        record {
          stores = B.stores;
          lined = subst (λ (k : ℕ). Row (begins c p) B.stores (max m k * (c + 2))) same_count B.lined;
          among = λ n. omega (arith, fewer n, B.among n);
        }

    -- and the numbers in front of it and behind the entries are as they were
    splice_front_kept : take (begins c p) (entered c m (entries p) xs) ≡ take (begins c p) xs
    splice_front_kept = ap (take (begins c p)) (sym (two_none c m p xs)) ∙ both_front_kept p none as_both

    splice_behind_kept : drop (max m (count_after m (entries p)) * (c + 2)) (entered c m (entries p) xs)
        ≡ drop (max m (count_after m (entries p)) * (c + 2)) xs
    splice_behind_kept =
        subst (λ (k : ℕ). drop (max m k * (c + 2)) (entered c m (entries p) xs) ≡ drop (max m k * (c + 2)) xs) same_count
        (ap (drop (max m (count_after m (both p none)) * (c + 2))) (sym (two_none c m p xs)) ∙ both_behind_kept p none as_both)

  -- one value
  module _ (x : Value) (F : Enterable c m xs (number x)) where
    abbrev spot : ℕ
    spot = number_at c x.i x.j

    -- it stands within the entries
    below : spot < max m m * (c + 2)
    below =
        omega (
          arith,
          suc-mul x.i (c + 2),
          mul-le-mul_right {m = suc x.i} {n = m} (c + 2) F.within.0,
          F.within.1,
          max_mul m m (c + 2),
        )

    -- its one store leaves what it leaves, and is a row
    value_stored : entered c m (number x) xs ≡ all_stored xs (stores_of c m (number x) xs)
    value_stored =
        copy_more xs xs (x.v ∷ []) spot 0 spot x.v (omega arith) (paste-zero xs spot (x.v ∷ []))
        (omega (arith, below, max_mul m m (c + 2), F.held.room)) (omega arith) refl

    value_lined : Lined c m xs (number x)
    value_lined = record {
      stores = stores_of c m (number x) xs;
      lined = (omega arith, omega (arith, below));
      among = λ n. omega arith;
    }

  -- the stores leave what the move leaves
  pub by_stores : (p : Move) → Enterable c m xs p → entered c m p xs ≡ all_stored xs (stores_of c m p xs)
  by_stores (entries p) F = splice_stored p F
  by_stores (both p q) F = both_stored p q F
  by_stores (number x) F = value_stored x F

  -- they are among the stores of a row
  in_line_lem : (p : Move) → Enterable c m xs p → Lined c m xs p
  in_line_lem (entries p) F = splice_lined p F
  in_line_lem (both p q) F = both_lined p q F
  in_line_lem (number x) F = value_lined x F

  -- no number is stored twice, none in front of the move's place, none behind the entries that there were and are
  pub stored_once : (p : Move) → Enterable c m xs p → (n : ℕ) → count (covers n) (stores_of c m p xs) ≤ 1
  stored_once p F n =
      let B = in_line_lem p F in
      omega (arith, B.among n, row_once n (place_of c p) B.stores (max m (count_after m p) * (c + 2)) B.lined)

  pub none_in_front : (p : Move) → Enterable c m xs p → (n : ℕ) → n < place_of c p → count (covers n) (stores_of c m p xs) ≡ 0
  none_in_front p F n h =
      let B = in_line_lem p F in
      omega (arith, B.among n, row_front n (place_of c p) B.stores (max m (count_after m p) * (c + 2)) B.lined h)

  pub none_behind : (p : Move) → Enterable c m xs p → (n : ℕ) → max m (count_after m p) * (c + 2) ≤ n
      → count (covers n) (stores_of c m p xs) ≡ 0
  none_behind p F n h =
      let B = in_line_lem p F in
      omega (arith, B.among n, row_behind n (place_of c p) B.stores (max m (count_after m p) * (c + 2)) B.lined h)

  -- so those are as they were
  pub front_kept : (p : Move) → Enterable c m xs p → take (place_of c p) (entered c m p xs) ≡ take (place_of c p) xs
  front_kept (entries p) F = splice_front_kept p F
  front_kept (both p q) F = both_front_kept p q F
  front_kept (number x) F = take-set-le (spot x F) xs (spot x F) x.v (omega arith)

  pub behind_kept : (p : Move) → Enterable c m xs p
      → drop (max m (count_after m p) * (c + 2)) (entered c m p xs) ≡ drop (max m (count_after m p) * (c + 2)) xs
  behind_kept (entries p) F = splice_behind_kept p F
  behind_kept (both p q) F = both_behind_kept p q F
  behind_kept (number x) F = drop-set-lt (max m m * (c + 2)) xs (spot x F) x.v (below x F)

  -- a move in stores
  pub in_stores : (p : Move) (k : ℕ) (new : List ℕ) → OneMove c m xs p k new → Held c m xs → Whole c p
      → InStores c m xs p k new
  in_stores p k new o h w =
      let F : Enterable c m xs p = record { held = h; within = o.within; whole = w; room = o.room } in
      record {
        one = o;
        slice = o.slice ∙ by_stores p F;
        once = stored_once p F;
        none_in_front = none_in_front p F;
        none_behind = rw o.count (none_behind p F);
        front_kept = ap (take (place_of c p)) o.slice ∙ front_kept p F;
        behind_kept = rw (o.count, o.slice) (behind_kept p F);
      }
