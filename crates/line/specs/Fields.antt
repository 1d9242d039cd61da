-- What the passes of the parser answer: the numbers that follow those read.
use Rattle.std.specs.Prelude.{Option, None, cond, List, ◌++◌, map, ℕ}
use Rattle.order.specs.Lists.{all}
use Rattle.decimal.specs.Number.{value, is_number}
use Rattle.line.specs.declared.Line.{Line}
use Rattle.line.specs.Line.{said}

-- the first field f, the numbers read so far, and fields to come
unfoldable pub with_fields : List ℕ → List ℕ → List (List ℕ) → Option Line
with_fields f vs fs = cond (all is_number fs) (said f (vs ++ map value fs)) None
