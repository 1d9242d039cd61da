-- The three limits of the scope, each named once.
use Rattle.std.specs.Prelude.{ℕ}

-- columns of a table
abbrev pub most_columns : ℕ
most_columns = 8

-- entries of a layer
abbrev pub most_entries : ℕ
most_entries = 512

-- rows of a table, before and after a layer
abbrev pub most_rows : ℕ
most_rows = 4096
