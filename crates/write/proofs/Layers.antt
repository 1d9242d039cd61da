-- A layer's slice with entries replaced is the new layer, zeros where entries were freed, then what stood there before.
-- Assumes nothing.
use Prim.Native.Nat.{ℕ, zero, suc, ◌+◌, ◌*◌, ◌-◌, ◌≤◌, ◌<◌, max}
use native.Mathlib.Nat.{zero-add, suc-add, zero-mul, suc-mul, mul-le-mul_right}
use native.Mathlib.Omega.{arith}
use mathlib.Core.Path.{◌≡◌, refl, sym, ap, ◌∙◌}
use mathlib.Core.List.Memᴰ.{head as here}
use mathlib.Core.List.Memᴰ.{not-nil}
use mathlib.Core.List.Memᴰ.{tail as next}
use mathlib.Core.List.{
  List,
  [],
  ◌∷◌,
  ◌++◌,
  append_assoc,
  append-nil,
  Memᴰ as Mem,
}
use lib.ListN.{
  length,
  take,
  drop,
  set,
  replicate,
  length-append,
  length-drop,
  length-set,
  take-append-drop,
  drop_of_length-le,
}
use lib.Seq.{length-take-le, take_all, take_at, drop_at, take-take, set-append_left}
use Rattle.words.specs.Answer.{Answer}
use Rattle.std.specs.Prelude.{Ok, Err, Option, Some, None}
use Rattle.order.proofs.Ascending.{At, at_length, at_mem}
use Rattle.order.proofs.Edited.{at_head, at_tail, at_none}
use Rattle.order.proofs.Splice.{take_mem, drop_mem, part}
use Rattle.model.specs.Cell.{to}
use Rattle.model.specs.Layer.{Edit, at, strike, change, Layer}
use Rattle.model.specs.Raw.{numbers_of, flat}
use Rattle.words.specs.Entry.{strike_entry, change_entry}
use Rattle.model.specs.Refusals.{first_met, no_room}
use Rattle.model.specs.Calls.{edited}
pub use Rattle.theory.proofs.Readback.{sound_wide}
use Rattle.words.specs.declared.Entry.{Entry}
use Rattle.splice.specs.declared.Splice.{Splice}
use Rattle.enter.specs.declared.Value.{Value}
use Rattle.store.specs.Numbers.{entry_numbers, coming, arrivals}
use Rattle.store.proofs.Laws.{few_arrive}
use Rattle.splice.specs.Splice.{
  between,
  begins,
  fresh,
  resumes,
  laid,
  spliced_two,
  BothWithin,
  count_two,
  room_answer,
  if_done,
}
use Rattle.enter.specs.declared.Move.{Move}
use Rattle.enter.specs.Move.{none_at, number_at, Within, entered, count_after}
use Rattle.enter.proofs.Laws.{two_none}
use Rattle.write.specs.Plans.{Brings, Splices, BothSplice, Sets, Plans, splices, pairs, sets, OneRun, OneSplice}
use Rattle.splice.proofs.Laws.{sub_mul, max_mul}

-- the new entry's numbers are those of its edit
first_then : (c v : ℕ) → 1 ≤ c → c ≤ 8 → take c (v ∷ replicate 7 0) ≡ v ∷ replicate (c - 1) 0
first_then zero v l h = absurd (omega arith)
first_then (suc c) v l h = ap (λ (t : List ℕ). v ∷ t) (zeros c 7 (omega arith) ∙ ap (λ (n : ℕ). replicate n 0) (sub c))
  where
    sub : (c : ℕ) → c ≡ suc c - 1
    sub c = omega arith

    zeros : (k n : ℕ) → k ≤ n → take k (replicate n 0) ≡ replicate {A = ℕ} k 0
    zeros zero n h = refl
    zeros (suc k) zero h = absurd (omega arith)
    zeros (suc k) (suc n) h = ap (λ (t : List ℕ). 0 ∷ t) (zeros k n (omega arith))

module _ (c s v : ℕ) (l : 1 ≤ c) (h : c ≤ 8) where
  pub strike_numbers : entry_numbers c (strike_entry s v) ≡ numbers_of c (at s (strike v))
  strike_numbers = rw (first_then c v l h)

  pub change_numbers : (j : ℕ) → entry_numbers c (change_entry s j v) ≡ numbers_of c (at s (change j (to v)))
  change_numbers j = rw (first_then c v l h)

-- Every edit has c + 2 numbers.
abbrev pub Wide : ℕ → Layer → Type 0
Wide c L = (e : Edit) → Mem e L → length (numbers_of c e) ≡ c + 2

pub flat_append : (c : ℕ) (L M : Layer) → flat c (L ++ M) ≡ flat c L ++ flat c M
unfolding flat
flat_append c [] M = refl
flat_append c (e ∷ L) M = ap (λ (t : List ℕ). numbers_of c e ++ t) (flat_append c L M)
    ∙ sym (append_assoc (numbers_of c e) (flat c L) (flat c M))

pub flat_length : (c : ℕ) (L : Layer) → Wide c L → length (flat c L) ≡ length L * (c + 2)
unfolding flat
flat_length c [] w = sym (zero-mul (c + 2))
flat_length c (e ∷ L) w =
    omega (
      arith,
      length-append (numbers_of c e) (flat c L),
      w e (here refl),
      flat_length c L (λ d m. w d (next m)),
      suc-mul (length L) (c + 2),
    )

-- two layers behind each other whose edits have c + 2 numbers each
wide_append : (c : ℕ) (L M : Layer) → Wide c L → Wide c M → Wide c (L ++ M)
wide_append c [] M w v e m = v e m
wide_append c (x ∷ L) M w v e (here f) = w e (here f)
wide_append c (x ∷ L) M w v e (next m) = wide_append c L M (λ d k. w d (next k)) v e m

-- edit i, and the layer as what stands before it, itself, and what stands behind it
pub at_split : (i : ℕ) (d : Edit) (L : Layer) → At d i 0 L → L ≡ take i L ++ (d ∷ drop (i + 1) L)
at_split i d [] a = absurd (at_none a)
at_split zero d (x ∷ L) a = ap (λ (y : Edit). y ∷ L) (sym (at_head a))
at_split (suc i) d (x ∷ L) a = rw suc-add (ap (λ (t : Layer). x ∷ t) (at_split i d L (at_tail a)))

-- What comes is these edits, each of c + 2 numbers.
record Brought (c : ℕ) (comes : Option Entry) (N : Layer) : Type 0 where
  numbers : coming c comes ≡ flat c N
  size : length N ≡ arrivals comes
  wide : Wide c N

brought : (c : ℕ) (comes : Option Entry) (N : Layer) → Brings c comes N → Brought c comes N
unfolding flat
brought c None N e = rw e (record { numbers = refl; size = refl; wide = λ x m. absurd (not-nil m) })
brought c (Some e) N (d, f, n, w) =
    rw f (record { numbers = n ∙ sym (append-nil (numbers_of c d)); size = refl; wide = one_wide })
  where
    one_wide : Wide c (d ∷ [])
    one_wide x (here g) = ap (λ (y : Edit). length (numbers_of c y)) g ∙ w
    one_wide x (next m) = absurd (not-nil m)

-- what leads from one layer to another by one splice or by one value takes out one run of edits, and at most one comes
pub plan_splice : {c : ℕ} {L M : Layer} {p : Move} → Plans c L M p → OneRun p → OneSplice L M
plan_splice {c} (splices {p} P) o = record {
  i = p.i;
  gone = p.gone;
  new = P.new;
  few = omega (arith, (brought c p.comes P.new P.brings).size, few_arrive p.comes);
  within = P.within;
  leads = P.leads;
}
plan_splice (pairs P) o = absurd o
plan_splice (sets {x} P) o = record {
  i = x.i;
  gone = 1;
  new = P.new ∷ [];
  few = omega arith;
  within = omega (arith, at_length P.there);
  leads = P.leads;
}

-- numbers laid where those of m entries stood, if they are those of a layer; if they are as many
pub laid_edited : (c m x : ℕ) (M : Layer) (raw : List ℕ) → length (flat c M) ≡ length M * (c + 2)
    → laid (flat c M) (m * (c + 2)) raw ≡ edited c m (Ok x) M raw
unfolding laid
laid_edited c m x M raw l = rw (l, ← sub_mul m (length M) (c + 2), max_mul m (length M) (c + 2))

laid_whole : (ys : List ℕ) (n : ℕ) (xs : List ℕ) → length ys ≡ n → laid ys n xs ≡ ys ++ drop n xs
unfolding laid
laid_whole ys n xs l =
    let z : n - n ≡ 0 = omega arith in
    let t : max n n ≡ n = omega arith in
    rw (l, z, t)

set_past : (xs ys : List ℕ) (n v : ℕ) → set (xs ++ ys) (length xs + n) v ≡ xs ++ set ys n v
set_past [] ys n v = rw zero-add
set_past (x ∷ xs) ys n v = rw suc-add (ap (λ (t : List ℕ). x ∷ t) (set_past xs ys n v))

-- a layer of m entries as it is written in a slice
pub record Written (c m : ℕ) (raw : List ℕ) (L : Layer) : Type 0 where
  pub numbers : flat c L ≡ take (m * (c + 2)) raw
  pub size : length L ≡ m
  pub room : m * (c + 2) ≤ length raw
  pub wide : Wide c L

module _ (c m : ℕ) (raw : List ℕ) (L : Layer) (W : Written c m raw L) where
  split : (i : ℕ) → flat c (take i L) ++ flat c (drop i L) ≡ take (m * (c + 2)) raw
  split i = sym (flat_append c (take i L) (drop i L)) ∙ (ap (flat c) (take-append-drop i L) ∙ W.numbers)

  front_length : (i : ℕ) → i ≤ m → length (flat c (take i L)) ≡ i * (c + 2)
  front_length i h =
      flat_length c (take i L) (λ e k. W.wide e (take_mem i L e k))
      ∙ ap (λ (n : ℕ). n * (c + 2)) (length-take-le i L (omega (arith, W.size)))

  -- the numbers of the first i entries, and of those from number i up to number j
  front : (i : ℕ) → i ≤ m → take (i * (c + 2)) raw ≡ flat c (take i L)
  front i h =
      sym (take-take (i * (c + 2)) (m * (c + 2)) raw (mul-le-mul_right {m = i} (c + 2) h))
      ∙ (ap (take (i * (c + 2))) (sym (split i)) ∙ take_at (flat c (take i L)) (flat c (drop i L)) (i * (c + 2))
      (front_length i h))

  middle : (i j : ℕ) → i ≤ j → j ≤ m → between (i * (c + 2)) (j * (c + 2)) raw ≡ flat c (take (j - i) (drop i L))
  middle i j g h =
      let T = take j L in
      let t : take i T ≡ take i L = take-take i j L g in
      part (i * (c + 2)) (j * (c + 2)) raw
      ∙ (ap (drop (i * (c + 2))) (front j h ∙ (ap (flat c) (sym (take-append-drop i T)) ∙ flat_append c (take i T) (drop i T)))
      ∙ (drop_at (flat c (take i T)) (flat c (drop i T)) (i * (c + 2))
      (ap (λ (u : Layer). length (flat c u)) t ∙ front_length i (omega arith)) ∙ ap (flat c) (sym (part i j L))))

  -- all of them from number i on
  rest : (i : ℕ) → take (m - i) (drop i L) ≡ drop i L
  rest i = take_all (m - i) (drop i L) (omega (arith, length-drop i L, W.size))

  back : (i : ℕ) → i ≤ m → between (i * (c + 2)) (m * (c + 2)) raw ≡ flat c (drop i L)
  back i h = middle i m h (omega arith) ∙ ap (flat c) (rest i)

  -- Two splices that lead from the layer to M: in numbers it is M, and they leave M's entries.
  module _ {M : Layer} {p q : Splice} (P : BothSplice c L M p q) where
    both_within : BothWithin m p q
    both_within = rw W.size at P.within

    abbrev N : Brought c p.comes P.new
    N = brought c p.comes P.new P.brings

    abbrev N₂ : Brought c q.comes P.new₂
    N₂ = brought c q.comes P.new₂ P.brings₂

    abbrev stays : Layer
    stays = take (q.i - (p.i + p.gone)) (drop (p.i + p.gone) L)

    abbrev end : Layer
    end = drop (q.i + q.gone) L

    leads_numbers : take (begins c p) raw ++ (fresh c p ++ (between (resumes c p) (begins c q) raw
        ++ (fresh c q ++ between (resumes c q) (m * (c + 2)) raw))) ≡ flat c M
    leads_numbers =
        let B = both_within in
        rw (
          P.leads,
          flat_append c (take p.i L) (P.new ++ (stays ++ (P.new₂ ++ end))),
          flat_append c P.new (stays ++ (P.new₂ ++ end)),
          flat_append c stays (P.new₂ ++ end),
          flat_append c P.new₂ end,
          N.numbers,
          N₂.numbers,
          front p.i (omega (arith, B.first, B.second)),
          middle (p.i + p.gone) q.i B.first (omega (arith, B.second)),
          back (q.i + q.gone) B.second,
        )

    leads_count : count_two m p q ≡ length M
    leads_count =
        let B = both_within in
        omega (
          arith,
          ap length P.leads,
          length-append (take p.i L) (P.new ++ (stays ++ (P.new₂ ++ end))),
          length-append P.new (stays ++ (P.new₂ ++ end)),
          length-append stays (P.new₂ ++ end),
          length-append P.new₂ end,
          length-take-le p.i L (omega (arith, B.first, B.second, W.size)),
          length-take-le (q.i - (p.i + p.gone)) (drop (p.i + p.gone) L)
              (omega (arith, length-drop (p.i + p.gone) L, B.first, B.second, W.size)),
          length-drop (q.i + q.gone) L,
          N.size,
          N₂.size,
          B.first,
          B.second,
          W.size,
        )

    leads_wide : Wide c M
    leads_wide =
        let r = p.i + p.gone in
        let kept : Wide c stays = λ e k. W.wide e (drop_mem r L e (take_mem (q.i - r) (drop r L) e k)) in
        let tail : Wide c (P.new₂ ++ end) =
        wide_append c P.new₂ end N₂.wide (λ e k. W.wide e (drop_mem (q.i + q.gone) L e k)) in
        rw P.leads (wide_append c (take p.i L) (P.new ++ (stays ++ (P.new₂ ++ end)))
        (λ e k. W.wide e (take_mem p.i L e k))
        (wide_append c P.new (stays ++ (P.new₂ ++ end)) N.wide (wide_append c stays (P.new₂ ++ end) kept tail)))

    leads_edited : (x : ℕ) → spliced_two c m p q raw ≡ edited c m (Ok x) M raw
    unfolding spliced_two
    leads_edited x =
        ap (λ (t : List ℕ). laid t (m * (c + 2)) raw) leads_numbers ∙ laid_edited c m x M raw (flat_length c M leads_wide)

  -- one splice leads to M as two of which the second, behind all entries, is none
  one_leads : {M : Layer} {p : Splice} → Splices c L M p → BothSplice c L M p (none_at m)
  one_leads {M} {p} P =
      let r = p.i + p.gone in
      let none : drop (m + 0) L ≡ [] = drop_of_length-le L {i = m + 0} (omega (arith, W.size)) in
      record {
        new = P.new;
        new₂ = [];
        within = record { first = omega (arith, P.within, W.size); second = omega (arith, W.size) };
        leads = rw (none, rest r, append-nil (drop r L)) P.leads;
        brings = P.brings;
        brings₂ = refl;
      }

  -- A value that leads from the layer to M: in numbers it is M, which has as many entries.
  module _ {M : Layer} {x : Value} (P : Sets c L M x) where
    abbrev A : List ℕ
    A = flat c (take x.i L)

    abbrev B : List ℕ
    B = flat c (drop (x.i + 1) L)

    below : x.i < m
    below = omega (arith, at_length P.there, W.size)

    wide : length (numbers_of c P.old) ≡ c + 2
    wide = W.wide P.old (at_mem P.there)

    cut_at : (d : Edit) → flat c (take x.i L ++ (d ∷ drop (x.i + 1) L)) ≡ A ++ (numbers_of c d ++ B)
    unfolding flat
    cut_at d = flat_append c (take x.i L) (d ∷ drop (x.i + 1) L)

    set_numbers : set (flat c L) (number_at c x.i x.j) x.v ≡ flat c M
    set_numbers =
        let e : flat c L ≡ A ++ (numbers_of c P.old ++ B) = ap (flat c) (at_split x.i P.old L P.there)
        ∙ cut_at P.old in
        let f : flat c M ≡ A ++ (numbers_of c P.new ++ B) = ap (flat c) P.leads ∙ cut_at P.new in
        let q : number_at c x.i x.j ≡ length A + (2 + x.j) =
        omega (arith, front_length x.i (omega (arith, below))) in
        rw (e, f, q, P.numbers) (set_past A (numbers_of c P.old ++ B) (2 + x.j) x.v
        ∙ ap (λ (t : List ℕ). A ++ t) (set-append_left (numbers_of c P.old) B (2 + x.j) x.v
        (omega (arith, wide, P.column))))

    set_count : length M ≡ m
    set_count =
        omega (
          arith,
          ap length P.leads,
          length-append (take x.i L) (P.new ∷ drop (x.i + 1) L),
          length-take-le x.i L (omega (arith, below, W.size)),
          length-drop (x.i + 1) L,
          W.size,
          below,
        )

    set_edited : (k : ℕ) → set raw (number_at c x.i x.j) x.v ≡ edited c m (Ok k) M raw
    set_edited k =
        let q = number_at c x.i x.j in
        let R = drop (m * (c + 2)) raw in
        let e : flat c L ++ R ≡ raw = ap (λ (t : List ℕ). t ++ R) W.numbers ∙ take-append-drop (m * (c + 2)) raw in
        let n : q < length (flat c L) =
        omega (
          arith,
          flat_length c L W.wide,
          ap (λ (n : ℕ). n * (c + 2)) W.size,
          suc-mul x.i (c + 2),
          mul-le-mul_right {m = suc x.i} {n = m} (c + 2) below,
          P.column,
        ) in
        let l : length (flat c M) ≡ length M * (c + 2) =
        sym (ap length set_numbers) ∙ (length-set (flat c L) q x.v ∙ (flat_length c L W.wide
        ∙ ap (λ (n : ℕ). n * (c + 2)) (W.size ∙ sym set_count))) in
        let s : laid (flat c M) (m * (c + 2)) raw ≡ flat c M ++ R = laid_whole (flat c M) (m * (c + 2)) raw
        (l ∙ ap (λ (n : ℕ). n * (c + 2)) set_count) in
        ap (λ (t : List ℕ). set t q x.v) (sym e)
        ∙ (set-append_left (flat c L) R q x.v n
        ∙ (ap (λ (t : List ℕ). t ++ R) set_numbers ∙ (sym s ∙ laid_edited c m k M raw l)))

  -- What leads from the layer to M answers what is left of a call for M, and leaves M in the slice.
  pub plan_count : {M : Layer} {p : Move} → Plans c L M p → count_after m p ≡ length M
  plan_count (splices P) = omega (arith, leads_count (one_leads P))
  plan_count (pairs P) = leads_count P
  plan_count (sets P) = sym (set_count P)

  pub plan_answer : {M : Layer} {p : Move} → Plans c L M p
      → room_answer c (length raw) (count_after m p) ≡ first_met Err (no_room c (length raw) M ∷ []) (Ok (length M))
  plan_answer P = rw (plan_count P)

  pub plan_done : {M : Layer} {p : Move} → Plans c L M p → (k : ℕ) → entered c m p raw ≡ edited c m (Ok k) M raw
  plan_done (splices {p} P) k = sym (two_none c m p raw) ∙ leads_edited (one_leads P) k
  plan_done (pairs P) k = leads_edited P k
  plan_done (sets P) k = set_edited P k

  pub plan_edited : {M : Layer} {p : Move} → Plans c L M p → (r : Answer)
      → if_done r (entered c m p raw) raw ≡ edited c m r M raw
  plan_edited P (Ok k) = plan_done P k
  plan_edited P (Err x) = refl

  pub plan_within : {M : Layer} {p : Move} → Plans c L M p → Within c m p
  plan_within (splices P) = omega (arith, P.within, W.size)
  plan_within (pairs P) = both_within P
  plan_within (sets P) = (below P, P.column)
