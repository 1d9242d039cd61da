-- What the pass has counted: before the first entry, and after one more.
use Rattle.std.specs.Prelude.{ℕ, ◌+◌, eqb}
use Rattle.order.specs.Lists.{one}
use Rattle.words.specs.Entry.{ADD, STRIKE}
use Rattle.scan.specs.declared.Scan.{Scan}

abbrev pub fresh : Scan
fresh = record { place = 0; adds = 0; strikes = 0 }

-- one entry more, of kind k
abbrev pub passed : Scan → ℕ → Scan
passed s k = record {
  place = s.place + 1;
  adds = s.adds + one (eqb k ADD);
  strikes = s.strikes + one (eqb k STRIKE);
}
