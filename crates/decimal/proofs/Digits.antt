-- The digits of a number: how they grow, how many there are, and that they are read back as the number.
-- Assumes nothing.
use mathlib.Core.Path.{◌≡◌, refl, sym, ap, ◌∙◌}
use mathlib.Core.Bool.{Bool, true, ◌&&◌}
use mathlib.Core.List.{List, [], ◌∷◌, ◌++◌, append_assoc}
use Prim.Native.Nat.{ℕ, zero, suc, ◌+◌, ◌-◌, ◌*◌, ◌/◌, ◌%◌, ◌^◌, ◌≤◌, ◌<◌}
use native.Mathlib.Omega.{arith}
use native.Mathlib.Nat.{pow-suc}
use native.Mathlib.Numerals.{add-one}
use lib.ListN.{length, take, drop, set, get_or, length-append, take-append-drop}
use lib.Seq.{
  paste,
  take-length,
  drop-length,
  length-take-le,
  take-suc,
  take-take,
  take_at,
  drop-cons,
  append_snoc,
  set_at,
  set_split,
  get_or_at,
  get_or-take,
}
use lib.Dec.{leb}
use borrow.Author.Tests.{ne_eqb, le-leb}
use Rattle.order.specs.Lists.{all}
use Rattle.order.proofs.Tests.{and_of}
use Rattle.decimal.specs.Number.{digit, value_from, value, is_number, too_large}
use Rattle.decimal.specs.Decimal.{digits_within, digits, decimal}
use Rattle.decimal.proofs.Four.{pass}

-- zero has none
within_zero : (k : ℕ) → digits_within k 0 ≡ []
unfolding digits_within
within_zero zero = refl
within_zero (suc k) = refl

-- a number's digits are those of its tenth, then the last
within_more : (k x : ℕ) → 0 < x → digits_within (suc k) x ≡ digits_within k (x / 10) ++ ((48 + x % 10) ∷ [])
unfolding digits_within
within_more k x h = rw (ne_eqb x 0 (λ e. omega arith))

within_none : (k x : ℕ) → x ≡ 0 → digits_within k x ≡ []
within_none k x e = ap (digits_within k) e ∙ within_zero k

-- room for more digits adds none
within_same : (k l x : ℕ) → (0 < x → digits_within k (x / 10) ≡ digits_within l (x / 10)) →
    digits_within (suc k) x ≡ digits_within (suc l) x
within_same k l zero e = within_zero (suc k) ∙ sym (within_zero (suc l))
within_same k l (suc x) e =
    within_more k (suc x) (omega arith)
    ∙ (ap (λ (d : List ℕ). d ++ ((48 + suc x % 10) ∷ [])) (e (omega arith)) ∙ sym (within_more l (suc x) (omega arith)))

enough : (k l x : ℕ) → x ≤ k → x ≤ l → digits_within k x ≡ digits_within l x
enough zero l x h j = within_none zero x (omega arith) ∙ sym (within_none l x (omega arith))
enough (suc k) zero x h j = within_none (suc k) x (omega arith) ∙ sym (within_none zero x (omega arith))
enough (suc k) (suc l) x h j = within_same k l x (λ p. enough k l (x / 10) (omega arith) (omega arith))

pub digits_zero : digits 0 ≡ []
unfolding digits
digits_zero = within_zero 0

pub digits_more : (x : ℕ) → 0 < x → digits x ≡ digits (x / 10) ++ ((48 + x % 10) ∷ [])
unfolding digits
digits_more zero h = absurd (omega arith)
digits_more (suc x) h =
    within_more x (suc x) h
    ∙ ap (λ (d : List ℕ). d ++ ((48 + suc x % 10) ∷ [])) (enough x (suc x / 10) (suc x / 10) (omega arith) (omega arith))

pub count_more : (x : ℕ) → 0 < x → length (digits x) ≡ length (digits (x / 10)) + 1
count_more x h = ap length (digits_more x h) ∙ length-append (digits (x / 10)) ((48 + x % 10) ∷ [])

-- digits are left exactly where the number is not 0
pub none_left : (x : ℕ) → length (digits x) ≡ 0 → x ≡ 0
none_left zero h = refl
none_left (suc x) h = absurd (omega (arith, count_more (suc x) (omega arith)))

pub some_left : (x : ℕ) → 0 < length (digits x) → 0 < x
some_left zero h = absurd (omega (arith, ap length digits_zero))
some_left (suc x) h = omega arith

pub decimal_zero : decimal 0 ≡ 48 ∷ []
unfolding decimal
decimal_zero = refl

pub decimal_more : (x : ℕ) → 0 < x → decimal x ≡ digits x
unfolding decimal
decimal_more x h = rw (ne_eqb x 0 (λ e. omega arith))

-- below 10^k there are at most k
count_step : (k x : ℕ) → (0 < x → length (digits (x / 10)) ≤ k) → length (digits x) ≤ suc k
count_step k zero h = rw digits_zero (omega arith)
count_step k (suc x) h = omega (arith, count_more (suc x) (omega arith), h (omega arith))

count_below : (k x : ℕ) → x < 10 ^ k → length (digits x) ≤ k
count_below zero x h = let z : x ≡ 0 = omega arith in rw (z, digits_zero) (omega arith)
count_below (suc k) x h =
    count_step k x (λ p. count_below k (x / 10) (let t : x / 10 < 10 ^ k = omega (arith, pow-suc 10 k) in t))

pub count_most : (x : ℕ) → x < too_large → length (digits x) ≤ 20
count_most x h = count_below 20 x (omega arith)

-- the value of digits with one more behind them
value_last : (v : ℕ) (ds : List ℕ) (b : ℕ) → value_from v (ds ++ (b ∷ [])) ≡ value_from v ds * 10 + (b - 48)
value_last v [] b = refl
value_last v (d ∷ ds) b = value_last (v * 10 + (d - 48)) ds b

all_last : (ds : List ℕ) (b : ℕ) → digit b ≡ true → all digit (ds ++ (b ∷ [])) ≡ all digit ds
all_last [] b h = rw (h)
all_last (d ∷ ds) b h = ap (λ (t : Bool). digit d && t) (all_last ds b h)

-- each is a digit, and together they are worth the number
good_step : (x : ℕ) → (0 < x → (all digit (digits (x / 10)) ≡ true) × (value (digits (x / 10)) ≡ x / 10)) →
    (all digit (digits x) ≡ true) × (value (digits x) ≡ x)
good_step zero ih = rw digits_zero (refl, refl)
good_step (suc x) ih =
    let h = ih (omega arith) in
    let d = digits_more (suc x) (omega arith) in
    let b = 48 + suc x % 10 in
    let last = and_of (leb 48 b) (leb b 57) (le-leb 48 b (omega arith)) (le-leb b 57 (omega arith)) in (
      ap (all digit) d ∙ (all_last (digits (suc x / 10)) (48 + suc x % 10) last ∙ h.0),
      ap value d ∙ (value_last 0 (digits (suc x / 10)) (48 + suc x % 10) ∙ omega arith),
    )

good_within : (k x : ℕ) → x ≤ k → (all digit (digits x) ≡ true) × (value (digits x) ≡ x)
good_within zero x h = good_step x (λ p. absurd (omega arith))
good_within (suc k) x h = good_step x (λ p. good_within k (x / 10) (omega arith))

pub digits_good : (x : ℕ) → (all digit (digits x) ≡ true) × (value (digits x) ≡ x)
digits_good x = good_within x x (omega arith)

-- a number is written in 1 to 20 digits
pub decimal_size : (x : ℕ) → x < too_large → (1 ≤ length (decimal x)) × (length (decimal x) ≤ 20)
decimal_size zero h = rw decimal_zero (omega arith, omega arith)
decimal_size (suc x) h =
    rw (decimal_more (suc x) (omega arith))
    (omega (arith, count_more (suc x) (omega arith)), count_most (suc x) h)

-- what is written is read back: the digits of a number below 2^64 are a number, and its value is the number
pub number_round_trip : (x : ℕ) → x < too_large → (is_number (decimal x) ≡ true) × (value (decimal x) ≡ x)
unfolding is_number
number_round_trip zero h = rw decimal_zero (refl, refl)
number_round_trip (suc x) h =
    let d = decimal_more (suc x) (omega arith) in
    let s = decimal_size (suc x) h in
    let g = digits_good (suc x) in
    let v : value (decimal (suc x)) ≡ suc x = ap value d ∙ g.1 in (
      pass 1 (length (decimal (suc x))) (length (decimal (suc x))) 20 (all digit (decimal (suc x))) (value (decimal (suc x)))
          too_large s.0 s.1 (ap (all digit) d ∙ g.0) (omega arith),
      v,
    )

-- a byte put right before what stands
put_before : (old tail : List ℕ) (j d : ℕ) → j < length old → set (take (suc j) old ++ tail) j d ≡ take j old ++ d ∷ tail
put_before old tail j d h =
    rw (take-suc old j 0 h, append_snoc) (set_at (take j old) (get_or old j 0) tail d j (length-take-le j old (omega arith)))

-- the last of the digits of `rest` within those of x
last_stands : (x rest q : ℕ) → 0 < rest → q ≡ length (digits (rest / 10)) → length (digits rest) ≤ length (digits x) →
    take (length (digits rest)) (digits x) ≡ digits rest →
    (take q (digits x) ≡ digits (rest / 10)) × (drop q (digits x) ≡ (48 + rest % 10) ∷ drop (suc q) (digits x))
last_stands x rest q h e few left =
    let p = length (digits rest) in
    let more = count_more rest h in
    let front = left ∙ digits_more rest h in (
      sym (take-take q p (digits x) (omega arith)) ∙ (ap (take q) front ∙ take_at (digits (rest / 10)) _ q (sym e)),
      drop-cons (digits x) q 0 (omega arith)
          ∙ ap (λ (b : ℕ). b ∷ drop (suc q) (digits x))
          (sym (get_or-take p (digits x) q 0 (omega arith))
          ∙ (ap (λ (l : List ℕ). get_or l q 0) front ∙ get_or_at (digits (rest / 10)) (48 + rest % 10) [] 0 q (sym e))),
    )

-- the digits of a number, of which those of `rest` are still to be written from `at` on and the others stand from i on
pub record Written (x at : ℕ) (old out : List ℕ) (rest i : ℕ) : Type 0 where
  pub left : take (length (digits rest)) (digits x) ≡ digits rest
  pub few : length (digits rest) ≤ length (digits x)
  pub place : i ≡ at + length (digits rest)
  pub stands : out ≡ take i old ++ (drop (length (digits rest)) (digits x) ++ drop (at + length (digits x)) old)

module _ (x at : ℕ) (old : List ℕ) (room : at + length (digits x) ≤ length old) where
  pub none_written : Written x at old old x (at + length (digits x))
  none_written = record {
    left = take-length (digits x);
    few = omega arith;
    place = refl;
    stands = rw drop-length (sym (take-append-drop (at + length (digits x)) old));
  }

  pub one_written : (out : List ℕ) (rest i : ℕ) → 0 < rest → Written x at old out rest i →
      Written x at old (set out (i - 1) (48 + rest % 10)) (rest / 10) (i - 1)
  one_written out rest i h w =
      let q = length (digits (rest / 10)) in
      let more : length (digits rest) ≡ suc q = omega (arith, count_more rest h) in
      let last = last_stands x rest q h refl w.few w.left in
      let few : suc q ≤ length (digits x) = omega (arith, w.few) in
      let place : i ≡ suc (at + q) = omega (arith, w.place) in
      let j : i - 1 ≡ at + q = omega arith in
      let tail = drop (at + length (digits x)) old in
      record {
        left = last.0;
        few = omega arith;
        place = j;
        stands =
            rw (j, w.stands, place, more, last.1)
            (put_before old (drop (suc q) (digits x) ++ tail) (at + q) (48 + rest % 10) (omega arith));
      }

  pub all_written : (out : List ℕ) (rest i : ℕ) → rest ≡ 0 → Written x at old out rest i →
      out ≡ paste old at (digits x) (length (digits x))
  all_written out rest i e w =
      let none : length (digits rest) ≡ 0 = ap length (ap digits e ∙ digits_zero) in
      let start : i ≡ at = omega (arith, w.place) in
      w.stands
      ∙ rw (none, start, take-length (digits x)) (sym (append_assoc (take at old) (digits x) (drop (at + length (digits x)) old)))

-- zero written
pub zero_written : (x at : ℕ) (old : List ℕ) → x ≡ 0 → at < length old →
    (at + 1 ≡ at + length (decimal x)) × (set old at 48 ≡ paste old at (decimal x) (length (decimal x)))
zero_written x at old e h =
    rw (e, decimal_zero)
    (refl, set_split old at 48 h ∙ rw (add-one at) (sym (append_snoc (take at old) 48 (drop (suc at) old))))

-- any other number is its digits
pub some_written : (x at end : ℕ) (old out : List ℕ) → 0 < x → end ≡ at + length (digits x) →
    out ≡ paste old at (digits x) (length (digits x)) →
    (end ≡ at + length (decimal x)) × (out ≡ paste old at (decimal x) (length (decimal x)))
some_written x at end old out h e w = rw (decimal_more x h) (e, w)
