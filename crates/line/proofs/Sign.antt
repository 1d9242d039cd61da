-- The first field of a line: one byte and a space, or the line is unreadable; and a line has one meaning.
-- Assumes nothing.
use mathlib.Core.Path.{◌≡◌, refl}
use mathlib.Core.Bool.{Bool, true, false, cond}
use mathlib.Core.List.{List, [], ◌∷◌, map}
use Prim.Native.Nat.{ℕ, ◌≤◌, ◌<◌}
use native.Mathlib.Omega.{arith}
use lib.ListN.{length, drop, get_or}
use lib.Dec.{eqb}
use borrow.Author.Tests.{eq-eqb, ne_eqb}
use Rattle.order.specs.Lists.{all}
use Rattle.line.specs.declared.Line.{Line}
use Rattle.std.specs.Prelude.{Option, None}
use Rattle.decimal.specs.Number.{value, is_number}
use Rattle.line.specs.Line.{onto, fields, said, line_of_fields, line_of}
use Rattle.line.specs.Fields.{with_fields}
use Rattle.line.proofs.Reading.{fields_some}

pub same_both : (t : Bool) (l : Option Line) → l ≡ None → cond t l None ≡ None
same_both true l e = e
same_both false l e = refl

-- no first byte, and a second one behind it, say nothing
said_empty : (vs : List ℕ) → said [] vs ≡ None
said_empty [] = refl
said_empty (a ∷ []) = refl
said_empty (a ∷ b ∷ []) = refl
said_empty (a ∷ b ∷ c ∷ []) = refl
said_empty (a ∷ b ∷ c ∷ d ∷ vs) = refl

pub said_long : (x y : ℕ) (g vs : List ℕ) → said (x ∷ y ∷ g) vs ≡ None
said_long x y g [] = refl
said_long x y g (a ∷ []) = refl
said_long x y g (a ∷ b ∷ []) = refl
said_long x y g (a ∷ b ∷ c ∷ []) = refl
said_long x y g (a ∷ b ∷ c ∷ d ∷ vs) = refl

-- four numbers or more say nothing
pub too_many : (f : List ℕ) (a b c : ℕ) (bs : List ℕ) → with_fields f (a ∷ b ∷ c ∷ []) (fields bs) ≡ None
unfolding with_fields
too_many f a b c bs = go (fields bs) (fields_some bs)
  where
    go : (fs : List (List ℕ)) → (fs ≡ [] → ⊥) →
        cond (all is_number fs) (said f (a ∷ b ∷ c ∷ map value fs)) None ≡ None
    go [] some = absurd (some refl)
    go (g ∷ gs) some = same_both (all is_number (g ∷ gs)) _ refl

-- a line of fewer than two bytes
pub too_short : (xs : List ℕ) → length xs < 2 → line_of xs ≡ None
unfolding line_of fields is_number
too_short [] h = refl
too_short (a ∷ []) h = go (eqb a 32)
  where
    go : (t : Bool) → line_of_fields (cond t ([] ∷ [] ∷ []) ((a ∷ []) ∷ [])) ≡ None
    go true = refl
    go false = refl
too_short (a ∷ b ∷ xs) h = absurd (omega arith)

-- a space in front
pub space_first : (xs : List ℕ) → 2 ≤ length xs → get_or xs 0 0 ≡ 32 → line_of xs ≡ None
unfolding line_of fields
space_first [] h e = absurd (omega arith)
space_first (a ∷ bs) h e =
    rw (eq-eqb a 32 e) (same_both (all is_number (fields bs)) _ (said_empty (map value (fields bs))))

-- no space behind the first byte
pub no_space : (xs : List ℕ) → 2 ≤ length xs → (get_or xs 0 0 ≡ 32 → ⊥) → (get_or xs 1 0 ≡ 32 → ⊥) → line_of xs ≡ None
unfolding line_of fields
no_space [] h e i = absurd (omega arith)
no_space (a ∷ []) h e i = absurd (omega arith)
no_space (a ∷ b ∷ bs) h e i = rw (ne_eqb a 32 e, ne_eqb b 32 i) (go (fields bs))
  where
    go : (fs : List (List ℕ)) → line_of_fields (onto a (onto b fs)) ≡ None
    go [] = said_long a b [] []
    go (g ∷ gs) = same_both (all is_number gs) _ (said_long a b g (map value gs))

-- one byte and a space: the fields behind them are numbers
pub signed : (xs : List ℕ) → 2 ≤ length xs → (get_or xs 0 0 ≡ 32 → ⊥) → get_or xs 1 0 ≡ 32 →
    line_of xs ≡ with_fields (get_or xs 0 0 ∷ []) [] (fields (drop 2 xs))
unfolding line_of fields with_fields
signed [] h e i = absurd (omega arith)
signed (a ∷ []) h e i = absurd (omega arith)
signed (a ∷ b ∷ bs) h e i = rw (ne_eqb a 32 e, eq-eqb b 32 i)

-- a line has one meaning
pub one_meaning : (xs : List ℕ) (l k : Option Line) → l ≡ line_of xs → k ≡ line_of xs → l ≡ k
one_meaning xs l k e i = cc
