-- Tests over lists: all, any, how many, those that pass; a place in order; the first that breaks a rule.
use Rattle.std.specs.Prelude.{Bool, true, false, cond, ◌&&◌, ◌||◌, List, [], ◌∷◌, ◌++◌, ℕ, zero, suc, ◌+◌, ltb}

-- a test as a number
abbrev pub one : Bool → ℕ
one true = 1
one false = 0

module _ {A : Type 0} where
  -- every element passes
  abbrev pub all : (A → Bool) → List A → Bool
  all f [] = true
  all f (x ∷ xs) = f x && all f xs

  -- some element passes
  abbrev pub any : (A → Bool) → List A → Bool
  any f [] = false
  any f (x ∷ xs) = f x || any f xs

  -- how many pass
  abbrev pub count : (A → Bool) → List A → ℕ
  count f [] = 0
  count f (x ∷ xs) = one (f x) + count f xs

  -- those that pass, in order
  abbrev pub filter : (A → Bool) → List A → List A
  filter f [] = []
  filter f (x ∷ xs) = cond (f x) (x ∷ filter f xs) (filter f xs)

  -- x right before the first element that does not stand before it
  abbrev pub insert : (A → A → Bool) → A → List A → List A
  insert before x [] = x ∷ []
  insert before x (y ∷ ys) = cond (before y x) (y ∷ insert before x ys) (x ∷ y ∷ ys)

  -- the list without its element number i
  abbrev pub without : ℕ → List A → List A
  without i [] = []
  without zero (x ∷ xs) = xs
  without (suc i) (x ∷ xs) = x ∷ without i xs

  -- how many elements stand before the first that fails alone or with an earlier one
  abbrev pub least_broken : (A → Bool) → (A → A → Bool) → List A → List A → ℕ
  least_broken alone pair earlier [] = 0
  least_broken alone pair earlier (x ∷ xs) =
      cond (alone x && all (λ y. pair y x) earlier) (suc (least_broken alone pair (x ∷ earlier) xs)) 0

  -- what f gives for k numbers, one after the other from s on
  abbrev pub up_from : (ℕ → A) → ℕ → ℕ → List A
  up_from f s zero = []
  up_from f s (suc k) = f s ∷ up_from f (suc s) k

  -- how many elements stand before the first that passes
  abbrev pub first_at : (A → Bool) → List A → ℕ
  first_at f [] = 0
  first_at f (x ∷ xs) = cond (f x) 0 (suc (first_at f xs))

module _ {A B : Type 0} where
  -- what each element gives, end to end
  abbrev pub gather : (A → List B) → List A → List B
  gather f [] = []
  gather f (x ∷ xs) = f x ++ gather f xs

  -- each element does its part in turn
  abbrev pub in_turn : (A → B → B) → List A → B → B
  in_turn f [] b = b
  in_turn f (x ∷ xs) b = in_turn f xs (f x b)

-- strictly ascending numbers
abbrev pub rising : ℕ → List ℕ → Bool
rising k [] = true
rising k (l ∷ ls) = ltb k l && rising l ls

abbrev pub ascending : List ℕ → Bool
ascending [] = true
ascending (k ∷ ks) = rising k ks
