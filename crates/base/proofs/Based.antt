-- A base row: shut, out of order, or taken.
-- Assumes nothing.
use mathlib.Core.Path.{◌≡◌, ◌∙◌}
use mathlib.Core.Bool.{true, false}
use mathlib.Core.List.{List}
use Prim.Native.Nat.{ℕ, ◌+◌, ◌<◌}
use native.Mathlib.Omega.{arith}
use lib.ListN.{set}
use lib.Seq.{take-set-le, take-set-lt, drop-set-lt}
use borrow.Author.Tests.{lt-leb}
use Rattle.words.specs.declared.Cause.TheVariants.{KeysUnordered}
use Rattle.text.specs.declared.Said.TheVariants.{Unread, Refused}
use Rattle.base.specs.declared.Counts.{Counts}
use Rattle.base.specs.declared.Reply.{Reply}
use Rattle.base.specs.Base.{
  Sheet,
  column_of,
  sheet_of,
  most_base,
  shut,
  below_last,
  stay,
  grown,
  with_row,
  Based,
}
use Rattle.base.proofs.Parts.{part_set, part_kept}

-- a base row may still be taken
pub still_open : (d : Counts) → d.edited ≡ false → d.rows < most_base → shut d ≡ false
still_open d e h = rw (e) (lt-leb most_base d.rows h)

module _ (g s m : ℕ) (d : Counts) (x : Sheet) (r : Reply) where
  -- no base row is taken any more
  pub based_shut : shut d ≡ true → r ≡ stay d Unread → Based g s m d x r x
  based_shut e i = record { reply = rw e i; sheet = rw e }

  -- the key is not above the last
  pub based_low : shut d ≡ false → below_last g d.rows x.keys ≡ true → r ≡ stay d (Refused KeysUnordered) → Based g s m d x r x
  based_low e l i = record { reply = rw (e, l) i; sheet = rw (e, l) }

  -- the row is taken
  pub based_taken : (x' : Sheet) → shut d ≡ false → below_last g d.rows x.keys ≡ false → r ≡ grown d →
      x' ≡ with_row true d.rows x g s m → Based g s m d x r x'
  based_taken x' e l i w = record { reply = rw (e, l) i; sheet = rw (e, l) w }

-- a row stored in the table is a row of the sheet
pub row_stored : (n g s m : ℕ) (table layer : List ℕ) → n < most_base →
    sheet_of (set (set (set table n g) (512 + n) s) (1024 + n) m) layer ≡ with_row true n (sheet_of table layer) g s m
row_stored n g s m table layer h = rw (keys, sources, masks)
  where
    one : List ℕ
    one = set table n g

    two : List ℕ
    two = set one (512 + n) s

    keys : column_of 0 (set two (1024 + n) m) ≡ set (column_of 0 table) n g
    keys = take-set-le 512 two (1024 + n) m (omega arith)
        ∙ (take-set-le 512 one (512 + n) s (omega arith) ∙ take-set-lt 512 table n g h)

    sources : column_of 1 (set two (1024 + n) m) ≡ set (column_of 1 table) n s
    sources =
        let e : 1024 + n ≡ 512 + (512 + n) = omega arith in
        rw e (part_kept two 512 512 (512 + n) m (omega arith)
        ∙ (part_set one 512 512 n s h ∙ rw (drop-set-lt 512 table n g h)))

    masks : column_of 2 (set two (1024 + n) m) ≡ set (column_of 2 table) n m
    masks =
        part_set two 512 1024 n m h
        ∙ rw (drop-set-lt 1024 one (512 + n) s (omega arith), drop-set-lt 1024 table n g (omega arith))
