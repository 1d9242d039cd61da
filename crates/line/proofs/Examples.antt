-- Lines that the scope names, and what each says: readable ones, the largest number, leading zeros, and each way to be unreadable.
-- Assumes nothing.
use mathlib.Core.Path.{◌≡◌, refl}
use mathlib.Core.List.{List, [], ◌∷◌, map}
use Prim.Native.Nat.{ℕ}
use Rattle.std.specs.Prelude.{Option, Some, None}
use Rattle.line.specs.declared.Line.{Line}
use Rattle.line.specs.declared.Line.TheVariants.{Base, Add, Strike, Change, Renumber}
use Rattle.decimal.specs.Number.{is_number}
use Rattle.line.specs.Line.{fields, line_of}

pub lines : List (List ℕ)
lines =
    (66 ∷ 32 ∷ 49 ∷ 48 ∷ 32 ∷ 49 ∷ 32 ∷ 49 ∷ []) ∷
    (43 ∷ 32 ∷ 49 ∷ 53 ∷ 32 ∷ 50 ∷ 32 ∷ 52 ∷ []) ∷
    (45 ∷ 32 ∷ 48 ∷ []) ∷
    (61 ∷ 32 ∷ 50 ∷ 32 ∷ 49 ∷ 32 ∷ 55 ∷ []) ∷
    (33 ∷ 32 ∷ 50 ∷ 32 ∷ 51 ∷ 48 ∷ []) ∷
    (45 ∷ 32 ∷ 48 ∷ 48 ∷ 55 ∷ []) ∷
    (45 ∷ 32 ∷ 49 ∷ 56 ∷ 52 ∷ 52 ∷ 54 ∷ 55 ∷ 52 ∷ 52 ∷ 48 ∷ 55 ∷ 51 ∷ 55 ∷ 48 ∷ 57 ∷ 53 ∷ 53 ∷ 49 ∷ 54 ∷ 49 ∷ 53 ∷ []) ∷
    (45 ∷ 32 ∷ 49 ∷ 56 ∷ 52 ∷ 52 ∷ 54 ∷ 55 ∷ 52 ∷ 52 ∷ 48 ∷ 55 ∷ 51 ∷ 55 ∷ 48 ∷ 57 ∷ 53 ∷ 53 ∷ 49 ∷ 54 ∷ 49 ∷ 54 ∷ []) ∷
    (45 ∷ 32 ∷ 48 ∷ 48 ∷ 48 ∷ 48 ∷ 48 ∷ 48 ∷ 48 ∷ 48 ∷ 48 ∷ 48 ∷ 48 ∷ 48 ∷ 48 ∷ 48 ∷ 48 ∷ 48 ∷ 48 ∷ 48 ∷ 48 ∷ 48 ∷ 49 ∷ []) ∷
    ([]) ∷
    (45 ∷ []) ∷
    (45 ∷ 32 ∷ []) ∷
    (45 ∷ 32 ∷ 32 ∷ 49 ∷ []) ∷
    (32 ∷ 45 ∷ 32 ∷ 49 ∷ []) ∷
    (45 ∷ 32 ∷ 49 ∷ 32 ∷ []) ∷
    (45 ∷ 9 ∷ 49 ∷ []) ∷
    (45 ∷ 32 ∷ 49 ∷ 13 ∷ []) ∷
    (45 ∷ 32 ∷ 185 ∷ []) ∷
    (45 ∷ 32 ∷ 45 ∷ 49 ∷ []) ∷
    (66 ∷ 32 ∷ 49 ∷ 32 ∷ 50 ∷ []) ∷
    (33 ∷ 32 ∷ 49 ∷ []) ∷
    (33 ∷ 32 ∷ 49 ∷ 32 ∷ 50 ∷ 32 ∷ 51 ∷ []) ∷
    (33 ∷ 32 ∷ 49 ∷ 32 ∷ []) ∷
    (61 ∷ 32 ∷ 49 ∷ 32 ∷ 50 ∷ 32 ∷ 51 ∷ 32 ∷ 52 ∷ []) ∷
    (98 ∷ 32 ∷ 49 ∷ 32 ∷ 50 ∷ 32 ∷ 51 ∷ []) ∷
    []

-- the same lines, in words
pub meanings : List (Option Line)
meanings =
    -- `B 10 1 1`
    Some (Base 10 1 1) ∷
    -- `+ 15 2 4`
    Some (Add 15 2 4) ∷
    -- `- 0`
    Some (Strike 0) ∷
    -- `= 2 1 7`
    Some (Change 2 1 7) ∷
    -- `! 2 30`
    Some (Renumber 2 30) ∷
    -- `- 007`
    Some (Strike 7) ∷
    -- `- 18446744073709551615`
    Some (Strike 18446744073709551615) ∷
    -- `- 18446744073709551616`
    None ∷
    -- `- 000000000000000000001`
    None ∷
    -- ``
    None ∷
    -- `-`
    None ∷
    -- `- `
    None ∷
    -- `-  1`
    None ∷
    -- ` - 1`
    None ∷
    -- `- 1 `
    None ∷
    -- `-\t1`
    None ∷
    -- `- 1\r`
    None ∷
    -- `- \xb9`
    None ∷
    -- `- -1`
    None ∷
    -- `B 1 2`
    None ∷
    -- `! 1`
    None ∷
    -- `! 1 2 3`
    None ∷
    -- `! 1 `
    None ∷
    -- `= 1 2 3 4`
    None ∷
    -- `b 1 2 3`
    None ∷
    []

pub each_line : map line_of lines ≡ meanings
unfolding line_of fields is_number lines meanings
each_line = refl
