-- Refusals in stages: the tests of one stage, then those of the next; a stage that refuses answers for the whole call.
-- Assumes nothing.
use Prim.Native.Nat.{ℕ, ◌+◌}
use native.Mathlib.Nat.{zero-add}
use mathlib.Core.Path.{◌≡◌, refl, sym, ap, ◌∙◌}
use mathlib.Core.Bool.{Bool, true, false, cond, ◌&&◌}
use mathlib.Core.List.{List, [], ◌∷◌, ◌++◌}
use Rattle.words.specs.declared.Cause.TheVariants.{BadArguments}
use Rattle.std.specs.Prelude.{Ok, Err}
use Rattle.order.proofs.Tests.{impossible}
use Rattle.words.specs.declared.Refusal.{Refusal}
use Rattle.model.specs.Refusals.{Test, refuse, first_met, bad_args}
use Rattle.words.specs.Answer.{refusal, Answer}

-- a refusal is no result
pub never_done : {A : Type 0} {x : Refusal} {k : ℕ} → Err x ≡ Ok k → A
never_done e = impossible (cc)

-- the same refusal, `more` entries further on
abbrev pub raised : ℕ → Refusal → Refusal
raised more x = refusal x.cause (more + x.place)

module _ {A : Type 0} (refused : Refusal → A) where
  -- the call goes on with z, or is refused as the stage before it was
  abbrev pub onward : Answer → A → A
  onward (Ok k) z = z
  onward (Err x) z = refused x

  -- the tests of a stage, whatever it answers where none is met, then the others
  pub stage : (ts us : List Test) (k : ℕ) (z : A)
      → first_met refused (ts ++ us) z ≡ onward (first_met Err ts (Ok k)) (first_met refused us z)
  stage [] us k z = refl
  stage (refuse n p true ∷ ts) us k z = refl
  stage (refuse n p false ∷ ts) us k z = stage ts us k z

  -- a stage that refuses answers for the call; past one that is done the others answer
  pub stage_refuses : (ts us : List Test) (k : ℕ) (z : A) (x : Refusal) → first_met Err ts (Ok k) ≡ Err x
      → refused x ≡ first_met refused (ts ++ us) z
  stage_refuses ts us k z x h = sym (stage ts us k z ∙ ap (λ (a : Answer). onward a (first_met refused us z)) h)

  pub stage_done : (ts us : List Test) (k l : ℕ) (z : A) → first_met Err ts (Ok k) ≡ Ok l
      → first_met refused us z ≡ first_met refused (ts ++ us) z
  stage_done ts us k l z h = sym (stage ts us k z ∙ ap (λ (a : Answer). onward a (first_met refused us z)) h)

  -- a call's own argument: refused where it does not pass, else the others decide
  pub own_refused : (ok own : Bool) (ts : List Test) (z : A) → own ≡ false
      → refused (refusal BadArguments 0) ≡ first_met refused (bad_args (ok && own) ∷ ts) z
  own_refused true own ts z h = rw h
  own_refused false own ts z h = refl

  pub own_passed : (ok own : Bool) (ts : List Test) (z : A) → own ≡ true
      → first_met refused (bad_args ok ∷ ts) z ≡ first_met refused (bad_args (ok && own) ∷ ts) z
  own_passed true own ts z h = rw h
  own_passed false own ts z h = refl

-- a call that is accepted has gone on
pub reached : (a : Answer) {z : Answer} {k : ℕ} → onward Err a z ≡ Ok k → (l : ℕ) × (a ≡ Ok l) × (z ≡ Ok k)
reached (Ok l) e = (l, refl, e)
reached (Err x) e = never_done e

-- another result, where a stage has passed
pub stage_other : (ts : List Test) (k l j : ℕ) → first_met Err ts (Ok k) ≡ Ok l → first_met Err ts (Ok j) ≡ Ok j
stage_other [] k l j h = refl
stage_other (refuse n p true ∷ ts) k l j h = never_done h
stage_other (refuse n p false ∷ ts) k l j h = stage_other ts k l j h

-- the same refusal, whatever the result would have been
pub stage_same : (ts : List Test) (k j : ℕ) (x : Refusal) → first_met Err ts (Ok k) ≡ Err x
    → first_met Err ts (Ok j) ≡ Err x
stage_same [] k j x h = never_done (sym h)
stage_same (refuse n p true ∷ ts) k j x h = h
stage_same (refuse n p false ∷ ts) k j x h = stage_same ts k j x h

-- the tests that a stage has passed
abbrev pub Passed : List Test → Type 0
Passed [] = Unit {0}
Passed (refuse n p t ∷ ts) = (t ≡ false) × Passed ts

pub stage_passed : (ts : List Test) (k l : ℕ) → first_met Err ts (Ok k) ≡ Ok l → Passed ts × (k ≡ l)
stage_passed [] k l h = (tt, cc)
stage_passed (refuse n p true ∷ ts) k l h = never_done h
stage_passed (refuse n p false ∷ ts) k l h = let w = stage_passed ts k l h in ((refl, w.0), w.1)

pub passed_append : (ts us : List Test) → Passed (ts ++ us) → Passed ts × Passed us
passed_append [] us p = (tt, p)
passed_append (refuse n q t ∷ ts) us p = let w = passed_append ts us p.1 in ((p.0, w.0), w.1)

-- and back: where all have passed, the result is answered
pub all_passed : {A : Type 0} (refused : Refusal → A) (ts : List Test) (z : A) → Passed ts → first_met refused ts z ≡ z
all_passed refused [] z p = refl
all_passed refused (refuse n q t ∷ ts) z p = rw p.0 (all_passed refused ts z p.1)
