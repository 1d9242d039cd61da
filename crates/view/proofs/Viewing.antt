-- What the viewer gets, from the answer of the read and the entries that show; and back from what it is called.
-- Assumes nothing.
use Prim.Native.Nat.{ℕ, ◌≤◌}
use native.Mathlib.Omega.{arith}
use mathlib.Core.Path.{◌≡◌, refl}
use mathlib.Core.Bool.{Bool, true, false, cond}
use mathlib.Core.List.{List}
use Rattle.words.specs.Answer.{Answer}
use Rattle.std.specs.Prelude.{Some, None, Ok, Err}
use Rattle.std.specs.Result.{result_ok}
use Rattle.order.specs.Lists.{any}
use Rattle.order.proofs.Tests.{impossible}
use Rattle.model.specs.Raw.{layer_of}
use Rattle.model.specs.Read.{touches, Part, whole_base, buffer_front, empty_base}
use Rattle.model.specs.Calls.{read_answer, seen, view_part}
use Rattle.view.specs.declared.Seen.TheVariants.{Base, Front}
use Rattle.view.specs.View.{seen_as}
use Rattle.read.proofs.Answers.{done}

-- the read is done where it leaves a count
pub counted : (a : Answer) (k : ℕ) → result_ok a ≡ Some k → a ≡ Ok k
counted (Ok l) k e = cc
counted (Err x) k e = impossible (cc)

module _ (c m : ℕ) (raw xs : List ℕ) (j len : ℕ) where
  pub front_viewed : (k : ℕ) → read_answer c m raw xs j len ≡ Ok k → any (touches j) (layer_of c m raw) ≡ true
      → view_part c m raw xs j len ≡ buffer_front k
  unfolding view_part
  front_viewed k e t = rw (e, t)

  pub base_viewed : (k : ℕ) → read_answer c m raw xs j len ≡ Ok k → any (touches j) (layer_of c m raw) ≡ false
      → view_part c m raw xs j len ≡ whole_base
  unfolding view_part
  base_viewed k e t = rw (e, t)

  pub none_viewed : result_ok (read_answer c m raw xs j len) ≡ None → view_part c m raw xs j len ≡ empty_base
  unfolding view_part
  none_viewed e = by (read_answer c m raw xs j len) e
    where
      by : (a : Answer) → result_ok a ≡ None → seen a j (layer_of c m raw) ≡ empty_base
      by (Ok l) e = impossible (cc)
      by (Err x) e = refl

  -- the front lies within the buffer
  pub front_within : (k : ℕ) → view_part c m raw xs j len ≡ buffer_front k → k ≤ len
  unfolding view_part
  front_within k v = by (read_answer c m raw xs j len) refl v
    where
      shown : (l : ℕ) (b : Bool) → l ≤ len → cond b (buffer_front l) whole_base ≡ buffer_front k → k ≤ len
      shown l true h e = let q : l ≡ k = cc in omega arith
      shown l false h e = impossible (cc)

      by : (a : Answer) → read_answer c m raw xs j len ≡ a → seen a j (layer_of c m raw) ≡ buffer_front k → k ≤ len
      by (Ok l) d e = shown l (any (touches j) (layer_of c m raw)) (done c m raw xs j len l d).within e
      by (Err x) d e = impossible (cc)

-- each name stands for one part
pub is_base : (n k : ℕ) (p : Part) → Some (Base k) ≡ seen_as n p → p ≡ whole_base
is_base n k whole_base e = refl
is_base n k (buffer_front l) e = impossible (cc)
is_base n k empty_base e = impossible (cc)

pub is_front : (n k : ℕ) (p : Part) → Some (Front k) ≡ seen_as n p → p ≡ buffer_front k
is_front n k whole_base e = impossible (cc)
is_front n k (buffer_front l) e = cc
is_front n k empty_base e = impossible (cc)

pub is_nothing : (n : ℕ) (p : Part) → None ≡ seen_as n p → p ≡ empty_base
is_nothing n whole_base e = impossible (cc)
is_nothing n (buffer_front l) e = impossible (cc)
is_nothing n empty_base e = refl
