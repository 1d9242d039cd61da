-- `decimal::write_number` meets its contract: zero is one digit, and any other number its digits.
-- Assumes nothing.
use native.Mathlib.Omega.{arith}
use Rattle.decimal.proofs.Digits.{count_most, zero_written, some_written}
use Rattle.decimal.proofs.write_number.Goals as goal

pub returns-then-x-eq0 : goal.returns-then-x-eq0
returns-then-x-eq0 c =
    let a = c.args in
    zero_written a.x a.at a.out.now (omega arith) (omega arith)

pub overflow_add-end : goal.overflow_add-end
overflow_add-end c = omega (arith, c.count_digits.ensures, count_most c.args.x (omega arith))

pub write_digits-requires : goal.write_digits-requires
write_digits-requires c =
    let n = c.count_digits.ensures in
    (omega arith, omega (arith, count_most c.args.x (omega arith)))

pub returns : goal.returns
returns c =
    let a = c.args in
    let n = c.count_digits.ensures in
    some_written a.x a.at _ a.out.now _ (omega arith) (omega arith) c.write_digits.ensures
