-- The number and the value of an answer: 0 exactly where the call is done, and the two together say the answer.
-- Assumes nothing.
use Prim.Native.Nat.{ℕ, ◌+◌, ◌≤◌, ◌<◌}
use native.Mathlib.Omega.{arith}
use mathlib.Core.Path.{◌≡◌, refl, sym, ap, ◌∙◌}
use mathlib.Core.Logic.{◌⊎◌, inl, inr, ⊎_elim, ◌↔◌}
use mathlib.Core.Bool.{true}
use mathlib.Core.List.{List, [], ◌∷◌}
use lib.IntN.{pos, negsuc}
use lib.Dec.{leb}
use borrow.Author.Tests.{leb-true}
use Rattle.words.specs.declared.Origin.{Origin}
use Rattle.words.specs.declared.Origin.TheVariants.{Base as base, Added as added}
use Rattle.std.specs.Prelude.{Ok, Err}
use Rattle.order.specs.Lists.{all}
use Rattle.order.proofs.Tests.{impossible, and_l, and_r}
use Rattle.words.specs.declared.Cause.{Cause}
use Rattle.words.specs.declared.Refusal.{Refusal}
use Rattle.model.specs.Raw.{layer_of}
use Rattle.model.specs.Position.{back}
use Rattle.words.specs.Answer.{number_of, value_of, shift_number, shift_value, back_number, back_value, Answer, Back, Shifted}
use Rattle.words.specs.Answer.{cause_number, refusal}
use Rattle.words.proofs.Causes.{one_cause}
use Rattle.model.specs.Calls.{back_answer}
use Rattle.theory.proofs.Position.{back_base_row}
use Rattle.exact.proofs.FormExactly.{kept_in_order}
use Rattle.exact.proofs.Exactly.{Line, line, RefusedBy, numbers, Exactly}
use Rattle.exact.proofs.Tables.{back_table}

-- a line refuses with a number of the list, so never with 0 where none of them is 0
refused_some : (ls : List Line) (k : Cause) (p : ℕ) → all (leb 1) (numbers ls) ≡ true → RefusedBy k p ls → 1 ≤ cause_number k
refused_some [] k p h w = absurd w
refused_some (line l q W ∷ ls) k p h (inl w) =
    let n = cause_number l in
    omega (arith, ap cause_number w.1, leb-true 1 n (and_l (leb 1 n) (all (leb 1) (numbers ls)) h))
refused_some (line l q W ∷ ls) k p h (inr w) =
    refused_some ls k p (and_r (leb 1 (cause_number l)) (all (leb 1) (numbers ls)) h) w.1

-- an answer whose refusals have numbers above 0
abbrev pub NeverZero : {A : Type 0} → (Refusal → A) → A → Type 0
NeverZero {A} refused a = (x : Refusal) → a ≡ refused x → 1 ≤ cause_number x.cause

pub call_never_zero : {A : Type 0} {refused : Refusal → A} {a z : A} {ls : List Line} → Exactly refused a z ls
    → all (leb 1) (numbers ls) ≡ true → NeverZero refused a
call_never_zero {ls = ls} t h x e = refused_some ls x.cause x.place h ((t.refuses x.cause x.place).0 e)

-- the count, or the refusal
-- a refusal is told by its number, and then by its place
pub refusal_told : (k : Cause) (p : ℕ) → (number_of (Err (refusal k p)) ≡ cause_number k) × (value_of (Err (refusal k p)) ≡ p)
refusal_told k p = (refl, refl)

pub number_zero : (a : Answer) → NeverZero Err a → (number_of a ≡ 0) ↔ (a ≡ Ok (value_of a))
number_zero (Ok k) h = (λ e. refl, λ e. refl)
number_zero (Err x) h = (λ e. absurd (omega (arith, h x refl)), λ e. impossible (cc))

pub number_value : (a b : Answer) → NeverZero Err a → NeverZero Err b → number_of a ≡ number_of b
    → value_of a ≡ value_of b → a ≡ b
number_value (Ok k) (Ok l) h g e f = ap Ok f
number_value (Ok k) (Err y) h g e f = absurd (omega (arith, g y refl))
number_value (Err x) (Ok l) h g e f = absurd (omega (arith, h x refl))
number_value (Err x) (Err y) h g e f = λ i. Err (refusal (one_cause x.cause y.cause e i) (f i))

-- the signed shift, or the refusal
pub shift_zero : (a : Shifted) → NeverZero Err a → (shift_number a ≡ 0) ↔ (a ≡ Ok (shift_value a))
shift_zero (Ok z) h = (λ e. refl, λ e. refl)
shift_zero (Err x) h = (λ e. absurd (omega (arith, h x refl)), λ e. impossible (cc))

pub shift_value_lem : (a b : Shifted) → NeverZero Err a → NeverZero Err b
    → shift_number a ≡ shift_number b → shift_value a ≡ shift_value b → a ≡ b
shift_value_lem (Ok z) (Ok y) h g e f = ap Ok f
shift_value_lem (Ok z) (Err y) h g e f = absurd (omega (arith, g y refl))
shift_value_lem (Err x) (Ok y) h g e f = absurd (omega (arith, h x refl))
shift_value_lem (Err x) (Err y) h g e f =
    let p : x.place ≡ y.place = cc in λ i. Err (refusal (one_cause x.cause y.cause e i) (p i))

-- it keeps its sign
pub shift_signed : (shift_value (Ok (negsuc 0)) ≡ negsuc 0) × (shift_value (Ok (pos 2)) ≡ pos 2)
shift_signed = (refl, refl)

-- the base row or the added entry, or the refusal; base rows are below 65,536
abbrev pub Lower : Back → Type 0
Lower a = (s : ℕ) → a ≡ Ok (base s) → s < 65536

pub back_zero : (a : Back) → NeverZero Err a
    → (back_number a ≡ 0) ↔ (((s : ℕ) × (a ≡ Ok (base s))) ⊎ ((i : ℕ) × (a ≡ Ok (added i))))
back_zero (Ok (base s)) h = (λ e. inl (s, refl), λ w. refl)
back_zero (Ok (added i)) h = (λ e. inr (i, refl), λ w. refl)
back_zero (Err x) h = (
  λ e. absurd (omega (arith, h x refl)),
  λ w. ⊎_elim (λ v. impossible (cc v.1)) (λ v. impossible (cc v.1)) w,
)

pub back_value_lem : (a b : Back) → NeverZero Err a → NeverZero Err b → Lower a → Lower b
    → back_number a ≡ back_number b → back_value a ≡ back_value b → a ≡ b
back_value_lem (Ok (base s)) (Ok (base t)) h g l m e f = ap (λ (u : ℕ). Ok (base u)) f
back_value_lem (Ok (base s)) (Ok (added j)) h g l m e f = absurd (omega (arith, l s refl))
back_value_lem (Ok (base s)) (Err y) h g l m e f = absurd (omega (arith, g y refl))
back_value_lem (Ok (added i)) (Ok (base t)) h g l m e f = absurd (omega (arith, m t refl))
back_value_lem (Ok (added i)) (Ok (added j)) h g l m e f = let p : i ≡ j = omega arith in ap (λ (u : ℕ). Ok (added u)) p
back_value_lem (Ok (added i)) (Err y) h g l m e f = absurd (omega (arith, g y refl))
back_value_lem (Err x) (Ok (base t)) h g l m e f = absurd (omega (arith, h x refl))
back_value_lem (Err x) (Ok (added j)) h g l m e f = absurd (omega (arith, h x refl))
back_value_lem (Err x) (Err y) h g l m e f = λ i. Err (refusal (one_cause x.cause y.cause e i) (f i))

-- an added entry's value is 65,536 and its number
pub added_value : (i : ℕ) → back_value (Ok (added i)) ≡ 65536 + i
added_value i = refl

-- and so it is of the call
module _ (c n m : ℕ) (raw : List ℕ) (r : ℕ) where
  pub back_never_zero : NeverZero Err (back_answer c n m raw r)
  back_never_zero = call_never_zero (back_table c n m raw r) refl

  pub back_lower : Lower (back_answer c n m raw r)
  back_lower s e = ⊎_elim done (λ w. impossible (cc w.2)) (back_table c n m raw r).either
    where
      done : back_answer c n m raw r ≡ Ok (back n (layer_of c m raw) r) → s < 65536
      done f =
          let w = (back_table c n m raw r).done.0 f in
          let o = kept_in_order c n m raw w.0.columns w.0.fits w.1.0 in
          let b = back_base_row c n (layer_of c m raw) o r s w.1.1.0 (cc) in
          omega (arith, b.0, w.0.rows)
