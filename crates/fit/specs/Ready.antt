-- What an inner function asks of a layer that a call has checked: it keeps form and fits its key column, which ascends.
use Rattle.std.specs.Prelude.{◌≡◌, true, List, ℕ, length}
use Rattle.order.specs.Lists.{ascending}
use Rattle.model.specs.Raw.{layer_of}
use Rattle.model.specs.Fit.{fits}
use Rattle.entry.specs.declared.slice.Stored.{Stored}
use Rattle.form.specs.InForm.{InForm}

pub record Ready (c m : ℕ) (raw K : List ℕ) : Type 0 where
  pub form : InForm c (length K) m raw
  pub keys : ascending K ≡ true
  pub fit : fits K (layer_of c m raw) ≡ true

-- the same of a stored layer
abbrev pub Fitting : Stored → List ℕ → Type 0
Fitting l K = Ready l.c l.m l.numbers.now K
