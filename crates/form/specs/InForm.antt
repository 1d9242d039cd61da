-- What an inner function asks of a layer that a call has checked: the form check accepts it.
use Rattle.std.specs.Prelude.{◌≡◌, List, ℕ, Ok}
use Rattle.model.specs.Layer.{rows_after}
use Rattle.model.specs.Raw.{layer_of}
use Rattle.model.specs.Calls.{form_answer}

abbrev pub InForm : ℕ → ℕ → ℕ → List ℕ → Type 0
InForm c n m raw = form_answer c n m raw ≡ Ok (rows_after n (layer_of c m raw))
