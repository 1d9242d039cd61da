-- What the one pass for form and fit finds.
use Rattle.std.specs.Prelude.{◌≡◌, List, ℕ, ◌≤◌, min, length}
use Rattle.order.specs.Lists.{count}
use Rattle.model.specs.Raw.{entries_of}
use Rattle.words.specs.Entry.{ADD, STRIKE}
use Rattle.scan.specs.Scan.{good, of_kind}
use Rattle.suit.specs.Suit.{fit_from}

pub record Vetted (c m : ℕ) (raw K : List ℕ) (place adds strikes : ℕ) : Type 0 where
  -- so many entries stand before the first that is at fault with form or with fit, whichever comes first
  pub stops : place ≡ min (length (good c (length K) (entries_of c m raw))) (fit_from K 0 0 0 (entries_of c m raw))
  -- where none is at fault, the form pass is complete, with these adds and strikes
  pub complete : m ≤ place
      → (place ≡ length (good c (length K) (entries_of c m raw)))
      × (adds ≡ count (of_kind ADD) (good c (length K) (entries_of c m raw)))
      × (strikes ≡ count (of_kind STRIKE) (good c (length K) (entries_of c m raw)))
