-- The contract of `move_past`: the answer r, and what X's slice holds afterwards.
use Rattle.words.specs.Answer.{Answer}
use Rattle.std.specs.Prelude.{◌≡◌, List, ℕ}
use Rattle.model.specs.Calls.{move_answer, move_slice}

abbrev pub Outcome : ℕ → List ℕ → ℕ → List ℕ → ℕ → List ℕ → Answer → List ℕ → Type 0
Outcome c K mx x my y r x' = (r ≡ move_answer c K mx x my y) × (x' ≡ move_slice c K mx x my y)
