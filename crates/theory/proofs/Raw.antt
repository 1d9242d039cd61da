-- The entries of a slice, one after the other: what a loop over them cites. Reading them as edits, and writing edits back.
-- Assumes nothing.
use Prim.Native.Nat.{ℕ, zero, suc, ◌+◌, ◌*◌, ◌-◌, ◌≤◌, ◌<◌}
use native.Mathlib.Nat.{zero-add, add-zero, add_assoc, zero-mul, suc-mul, mul-le-mul, mul-le-mul_right, sub-zero, suc-add}
use native.Mathlib.Omega.{arith}
use mathlib.Core.Path.{◌≡◌, refl, ap, ◌∙◌}
use mathlib.Core.Bool.{Bool, true, ◌&&◌}
use mathlib.Core.List.{List, [], ◌∷◌, ◌++◌, map}
use lib.ListN.{length, get_or, drop, length-drop, get_or-append}
use lib.Seq.{get_or-take, get_or-drop, get_or-append-add, drop-append-le, drop-append-add, take-append-le}
use lib.Dec.{leb}
use borrow.Author.Tests.{leb-true}
use Rattle.order.proofs.Tests.{and_l, and_r}
use Rattle.order.proofs.Pairs.{broken_le}
use Rattle.words.specs.declared.Entry.{Entry}
use Rattle.model.specs.Raw.{Held, none, entry_at, entries_at, entries_of, edit_of, layer_of}
use Rattle.model.specs.Form.{zeros, sound, follows, form_place, args_ok}

-- value j of the entry from `at`
pub value_at_lem : (c from j : ℕ) (xs : List ℕ) → j < c → get_or (entry_at c from xs).vals j 0 ≡ get_or xs (from + 2 + j) 0
value_at_lem c from j xs h = rw (get_or-take, get_or-drop)

-- entry i of those from `at` on stands i times c + 2 further
pub entry_at_lem : (c k from i : ℕ) (xs : List ℕ) → i < k → get_or (entries_at c k from xs) i none ≡ entry_at c (from + i * (c + 2)) xs
unfolding entries_at
entry_at_lem c zero from i xs h = absurd (omega arith)
entry_at_lem c (suc k) from zero xs h = rw (zero-mul, add-zero)
entry_at_lem c (suc k) from (suc i) xs h =
    entry_at_lem c k (from + (c + 2)) i xs (omega arith) ∙ ap (λ (n : ℕ). entry_at c n xs) (omega (arith, suc-mul i (c + 2)))

-- entry i of m lies within the first m times w
pub within : (i m w : ℕ) → i < m → i * w + w ≤ m * w
within i m w h = omega (arith, suc-mul i w, mul-le-mul_right {m = suc i} w h)

-- A loop over the entries is from entry i, which stands from `at`: the entries from i on are `entries_at c (m - i)
-- from xs`, and there is room for them.

pub start : (c m len : ℕ) → m * (c + 2) ≤ len → 0 + (m - 0) * (c + 2) ≤ len
start c m len r = rw (zero-add, sub-zero) r

pub here : (c m i from len : ℕ) → i < m → from + (m - i) * (c + 2) ≤ len → from + (c + 2) ≤ len
here c m i from len h r =
    let e : m - i ≡ suc (m - (i + 1)) = omega arith in
    omega (arith, rw (e, suc-mul) at r)

pub next : (c m i from len : ℕ) → i < m → from + (m - i) * (c + 2) ≤ len → from + (c + 2) + (m - (i + 1)) * (c + 2) ≤ len
next c m i from len h r =
    let e : m - i ≡ suc (m - (i + 1)) = omega arith in
    omega (arith, rw (e, suc-mul) at r)

pub rest_step : (c m i from : ℕ) (xs : List ℕ) → i < m
    → entries_at c (m - i) from xs ≡ entry_at c from xs ∷ entries_at c (m - (i + 1)) (from + (c + 2)) xs
unfolding entries_at
rest_step c m i from xs h =
    let e : m - i ≡ suc (m - (i + 1)) = omega arith in
    rw e

pub rest_end : (c m i from : ℕ) (xs : List ℕ) → m ≤ i → entries_at c (m - i) from xs ≡ []
unfolding entries_at
rest_end c m i from xs h =
    let e : m - i ≡ 0 = omega arith in
    rw e

pub entries_length : (c k from : ℕ) (xs : List ℕ) → length (entries_at c k from xs) ≡ k
unfolding entries_at
entries_length c zero from xs = refl
entries_length c (suc k) from xs = ap suc (entries_length c k (from + (c + 2)) xs)

-- The entries of parts of a layer.

pub entries_add : (c a b from : ℕ) (xs : List ℕ)
    → entries_at c (a + b) from xs ≡ entries_at c a from xs ++ entries_at c b (from + a * (c + 2)) xs
unfolding entries_at
entries_add c zero b from xs = rw (zero-add, zero-mul, add-zero)
entries_add c (suc a) b from xs =
    let e : from + (c + 2) + a * (c + 2) ≡ from + suc a * (c + 2) = omega (arith, suc-mul a (c + 2)) in
    rw suc-add (ap (λ (l : List Entry). entry_at c from xs ∷ l)
    (entries_add c a b (from + (c + 2)) xs ∙ ap (λ (n : ℕ). entries_at c a (from + (c + 2)) xs ++ entries_at c b n xs) e))

-- an entry within the first of two lists
pub entry_in_lem : (c from : ℕ) (ys zs : List ℕ) → from + (c + 2) ≤ length ys → entry_at c from (ys ++ zs) ≡ entry_at c from ys
entry_in_lem c from ys zs h =
    rw (
      get_or-append ys zs 0 from (omega arith),
      get_or-append ys zs 0 (from + 1) (omega arith),
      drop-append-le
          (from + 2) ys zs (omega arith),
      take-append-le c (drop (from + 2) ys) zs (omega (arith, length-drop (from + 2) ys)),
    )

pub entries_in_lem : (c k from : ℕ) (ys zs : List ℕ) → from + k * (c + 2) ≤ length ys
    → entries_at c k from (ys ++ zs) ≡ entries_at c k from ys
unfolding entries_at
entries_in_lem c zero from ys zs h = refl
entries_in_lem c (suc k) from ys zs h =
    let e = suc-mul k (c + 2) in
    rw (entry_in_lem c from ys zs (omega (arith, e)), entries_in_lem c k (from + (c + 2)) ys zs (omega (arith, e)))

-- an entry past the first of two lists
pub entry_past : (c from : ℕ) (ys zs : List ℕ) → entry_at c (length ys + from) (ys ++ zs) ≡ entry_at c from zs
entry_past c from ys zs =
    rw (
      add_assoc (length ys) from 1,
      add_assoc (length ys) from 2,
      get_or-append-add ys zs from 0,
      get_or-append-add ys zs
          (from + 1) 0,
      drop-append-add ys zs (from + 2),
    )

pub entries_past : (c k from : ℕ) (ys zs : List ℕ) → entries_at c k (length ys + from) (ys ++ zs) ≡ entries_at c k from zs
unfolding entries_at
entries_past c zero from ys zs = refl
entries_past c (suc k) from ys zs =
    rw (entry_past c from ys zs, add_assoc (length ys) from (c + 2), entries_past c k (from + (c + 2)) ys zs)

-- The same entries as edits.

pub edits_step : (c m i from : ℕ) (xs : List ℕ) → i < m
    → map edit_of (entries_at c (m - i) from xs)
    ≡ edit_of (entry_at c from xs) ∷ map edit_of (entries_at c (m - (i + 1)) (from + (c + 2)) xs)
edits_step c m i from xs h = ap (map edit_of) (rest_step c m i from xs h)

pub edits_end : (c m i from : ℕ) (xs : List ℕ) → m ≤ i → map edit_of (entries_at c (m - i) from xs) ≡ []
edits_end c m i from xs h = ap (map edit_of) (rest_end c m i from xs h)

map_length : (es : List Entry) → length (map edit_of es) ≡ length es
map_length [] = refl
map_length (e ∷ es) = ap suc (map_length es)

pub layer_length : (c m : ℕ) (xs : List ℕ) → length (layer_of c m xs) ≡ m
unfolding layer_of
layer_length c m xs = map_length (entries_at c m 0 xs) ∙ entries_length c m 0 xs

-- the place of a layer that breaks form is an entry's or m
pub form_place_lem : (c n m : ℕ) (xs : List ℕ) → form_place c n (entries_of c m xs) ≤ m
unfolding form_place
form_place_lem c n m xs = omega (
  arith,
  entries_length c m 0 xs,
  broken_le (λ e. zeros e && sound c n (edit_of e)) (λ d e. follows (edit_of d) (edit_of e)) [] (entries_of c m xs),
)

-- at most 512 entries of at most 10 numbers
pub small : {m c : ℕ} → m ≤ 512 → c ≤ 8 → m * (c + 2) ≤ 5120
small {m} {c} hm hc = mul-le-mul {n₁ = m} {m₁ = c + 2} {n₂ = 512} {m₂ = 10} hm (omega arith)

both : (a b : Bool) → (a && b) ≡ true → (a ≡ true) × (b ≡ true)
both a b h = (and_l a b h, and_r a b h)

-- what is left where the arguments pass refusal 1
pub args_held : (c n m : ℕ) (xs : List ℕ) → args_ok c n m (length xs) ≡ true → Held c m xs × (n ≤ 4096)
unfolding args_ok
args_held c n m xs h =
    let a = both (leb 1 c) _ h in
    let b = both (leb c 8) _ a.1 in
    let d = both (leb n 4096) _ b.1 in
    let e = both (leb m 512) _ d.1 in (
      record {
        some = leb-true 1 c a.0;
        columns = leb-true c 8 b.0;
        entries = leb-true m 512 e.0;
        room = leb-true (m * (c + 2)) (length xs) e.1;
      },
      leb-true n 4096 d.0,
    )
