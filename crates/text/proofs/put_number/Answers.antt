-- `text::put_number` meets its contract: the digits, then the byte.
-- Assumes nothing.
use native.Mathlib.Omega.{arith}
use mathlib.Core.Path.{◌≡◌}
use lib.ListN.{length}
use Rattle.decimal.specs.Decimal.{decimal}
use Rattle.decimal.proofs.Digits.{decimal_size}
use Rattle.text.specs.Text.{Wrote, text_room}
use Rattle.text.proofs.Writing.{wrote_byte, wrote_then}
use borrow.Author.Rules.{rules}
use Rattle.text.proofs.put_number.Goals as goal

pub bounds-out-end : goal.bounds-out-end
bounds-out-end c =
    let d = decimal_size c.args.x (omega arith) in
    omega (arith, c.write_number-end.ensures.0)

pub overflow_add-result : goal.overflow_add-result
overflow_add-result c = omega (arith, c.write_number-end.ensures.0, decimal_size c.args.x (omega arith))

pub returns : goal.returns
returns c =
    let a = c.args in
    let w = c.write_number-end in
    let d = decimal_size a.x (omega arith) in
    let n : length a.out.now ≡ text_room = search rules in
    let e = w.ensures.0 in
    let v : Wrote (decimal a.x) a.out.now a.at _ _ = record { end = e; bytes = w.ensures.1 } in
    (wrote_then v (wrote_byte a.behind _ _ (omega arith)), omega arith)
