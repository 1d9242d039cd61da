-- The input in blocks: each is taken where the last one left off, and what it says is written.
use Rattle.std.specs.Prelude.{◌≡◌, List, [], ◌∷◌, ◌++◌, ℕ}
use Rattle.intake.specs.Reading.{Reading, bytes_in}
use Rattle.feed.specs.Input.{hushed}

-- one after the other
abbrev pub end_to_end : List (List ℕ) → List ℕ
end_to_end [] = []
end_to_end (b ∷ bs) = b ++ end_to_end bs

-- from the reading i the blocks lead to the reading k, and say these texts, one each
pub data Run : List (List ℕ) → List (List ℕ) → Reading → Reading → Type 0 where
  none : {i : Reading} → Run [] [] i i
  next : {b : List ℕ} {blocks texts : List (List ℕ)} {i j k : Reading} → j ≡ bytes_in b (hushed i)
      → Run blocks texts j k → Run (b ∷ blocks) (j.text ∷ texts) i k
