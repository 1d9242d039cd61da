-- The form check over the definitions of specs/Scan.antt: an entry alone, one step and the end of the pass, what its counts say.
-- Assumes nothing.
use Prim.Native.Nat.{ℕ, ◌+◌, ◌-◌, ◌≤◌, ◌<◌}
use native.Mathlib.Numerals.{add-one}
use native.Mathlib.Omega.{arith}
use mathlib.Core.Path.{◌≡◌, refl}
use mathlib.Core.Bool.{true, false, ◌&&◌, ◌||◌, and-true}
use mathlib.Core.List.{List, [], ◌∷◌}
use lib.ListN.{length, get_or, take, drop, drop_of_length-le, length-drop}
use lib.Seq.{drop-cons, length-take-le}
use lib.Dec.{leb, ltb, eqb}
use borrow.Author.Tests.{eq-eqb, lt-ltb, le-ltb}
use Rattle.words.specs.declared.Cause.TheVariants.{BadForm}
use Rattle.std.specs.Prelude.{Ok, Err}
use Rattle.order.specs.Lists.{all}
use Rattle.words.specs.declared.Entry.{Entry}
use Rattle.words.specs.Answer.{refusal}
use Rattle.model.specs.Form.{sound}
use Rattle.model.specs.Raw.{none}
use Rattle.words.specs.Entry.{ADD, STRIKE}
use Rattle.scan.specs.Scan.{base_good, alone_good, good_after, good_from, judgement}
use Rattle.scan.proofs.ByKind.{edit_by}

-- an entry within its slice has c values
pub vals_length : (c from : ℕ) (xs : List ℕ) → from + (c + 2) ≤ length xs → length (take c (drop (from + 2) xs)) ≡ c
vals_length c from xs h = length-take-le c (drop (from + 2) xs) (omega (arith, length-drop (from + 2) xs))

-- An entry alone, by its kind.

pub alone_add : (c n : ℕ) (e : Entry) → length e.vals ≡ c → eqb e.kind ADD ≡ true → alone_good c n e ≡ leb e.pos n
unfolding alone_good
alone_add c n e l h = rw (h, eq-eqb _ _ l, and-true)

pub alone_other : (c n : ℕ) (e : Entry) → eqb e.kind ADD ≡ false
    → alone_good c n e ≡ (all (λ v. eqb v 0) (drop 1 e.vals) && base_good c n e.pos e.kind)
unfolding alone_good
alone_other c n e h =
    rw h (elim (eqb e.kind STRIKE) as
    (λ t. (all (λ v. eqb v 0) (drop 1 e.vals) && sound c n (edit_by false t e))
    ≡ (all (λ v. eqb v 0) (drop 1 e.vals) && (ltb e.pos n && (t || (leb 1 e.kind && ltb e.kind c)))))
    [ true ↦ rw and-true | false ↦ refl ])

-- The entries from number i on, after one at p of kind q.
module _ (c n p q i : ℕ) (es : List Entry) where
  pub good_step : i < length es → good_after c n p q (get_or es i none) ≡ true
      → good_from c n p q (drop i es)
      ≡ get_or es i none ∷ good_from c n (get_or es i none).pos (get_or es i none).kind (drop (i + 1) es)
  unfolding good_from
  good_step h b = rw (drop-cons es i none h, add-one, b)

  pub good_stop : i < length es → good_after c n p q (get_or es i none) ≡ false → good_from c n p q (drop i es) ≡ []
  unfolding good_from
  good_stop h b = rw (drop-cons es i none h, b)

  pub good_end : length es ≤ i → good_from c n p q (drop i es) ≡ []
  unfolding good_from
  good_end h = rw (drop_of_length-le es {i = i} h)

-- What the pass says of form, case by case.
module _ (n m place adds strikes : ℕ) where
  pub at_fault : place < m → Err (refusal BadForm place) ≡ judgement n m place adds strikes
  at_fault h = rw (lt-ltb place m h)

  pub too_many : m ≤ place → 4096 + strikes < n + adds → Err (refusal BadForm m) ≡ judgement n m place adds strikes
  too_many h l = rw (le-ltb place m h, lt-ltb (4096 + strikes) (n + adds) l)

  pub in_form : m ≤ place → n + adds ≤ 4096 + strikes → Ok ((n + adds) - strikes) ≡ judgement n m place adds strikes
  in_form h l = rw (le-ltb place m h, le-ltb (4096 + strikes) (n + adds) l)
