-- What a line says: `B g s m` a base row, `+ g s m` adds, `- r` strikes, `= r j v` changes, `! r g` renumbers; any other line is
-- unreadable.
use Rattle.std.specs.Prelude.{Bool, Option, Some, None, false, cond, List, [], ◌∷◌, map, ℕ, eqb}
use Rattle.order.specs.Lists.{all}
use Rattle.line.specs.declared.Line.{Line}
use Rattle.line.specs.declared.Line.TheVariants.{Base, Add, Strike, Change, Renumber}
use Rattle.decimal.specs.Number.{value, is_number}

-- a byte in front of the first field
abbrev pub onto : ℕ → List (List ℕ) → List (List ℕ)
onto b [] = (b ∷ []) ∷ []
onto b (f ∷ fs) = (b ∷ f) ∷ fs

-- the fields of a line: what stands before, between and behind its spaces
unfoldable pub fields : List ℕ → List (List ℕ)
fields [] = [] ∷ []
fields (b ∷ bs) = cond (eqb b 32) ([] ∷ fields bs) (onto b (fields bs))

-- a field is this one byte
abbrev pub is : ℕ → List ℕ → Bool
is x [] = false
is x (b ∷ []) = eqb b x
is x (b ∷ c ∷ f) = false

-- what the first field says of the numbers behind it: B and three, + and three, - and one, = and three, ! and two
abbrev pub said : List ℕ → List ℕ → Option Line
said f [] = None
said f (r ∷ []) = cond (is 45 f) (Some (Strike r)) None
said f (a ∷ b ∷ []) = cond (is 33 f) (Some (Renumber a b)) None
said f (a ∷ b ∷ c ∷ []) =
    cond (is 66 f) (Some (Base a b c)) (cond (is 43 f) (Some (Add a b c)) (cond (is 61 f) (Some (Change a b c)) None))
said f (a ∷ b ∷ c ∷ d ∷ vs) = None

-- a first field, and numbers behind it
abbrev pub line_of_fields : List (List ℕ) → Option Line
line_of_fields [] = None
line_of_fields (f ∷ fs) = cond (all is_number fs) (said f (map value fs)) None

-- what the bytes of a line say, without its line feed
unfoldable pub line_of : List ℕ → Option Line
line_of bs = line_of_fields (fields bs)
