-- The refusals of X and of Y, over one base: 1 and 2, then 3 and 4 besides; and the rows after both.
use Rattle.std.specs.Prelude.{◌&&◌, List, ◌++◌, ℕ, ◌+◌, length}
use Rattle.model.specs.Layer.{rows_after}
use Rattle.model.specs.Raw.{layer_of}
use Rattle.model.specs.Form.{args_ok}
use Rattle.model.specs.Refusals.{Test}
use Rattle.model.specs.Calls.{both_form_rows, both_fit_rows}

unfoldable pub pair_form : ℕ → ℕ → ℕ → List ℕ → ℕ → List ℕ → List Test
pair_form c n mx x my y = both_form_rows (args_ok c n mx (length x) && args_ok c n my (length y)) c n mx x n my y

unfoldable pub pair_rows : ℕ → List ℕ → ℕ → List ℕ → ℕ → List ℕ → List Test
pair_rows c K mx x my y = pair_form c (length K) mx x my y ++ both_fit_rows K (layer_of c mx x) K (layer_of c my y)

-- the rows after the one layer and after the other, together
abbrev pub pair_total : ℕ → ℕ → ℕ → List ℕ → ℕ → List ℕ → ℕ
pair_total c n mx x my y = rows_after n (layer_of c mx x) + rows_after n (layer_of c my y)
