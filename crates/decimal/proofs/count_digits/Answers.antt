-- `decimal::count_digits` meets its contract: each tenth has one digit less.
-- Assumes nothing.
use native.Mathlib.Omega.{arith}
use mathlib.Core.Path.{◌≡◌, ap}
use lib.ListN.{length}
use Rattle.decimal.specs.Decimal.{digits}
use Rattle.decimal.proofs.Digits.{digits_zero, count_more, count_most}
use Rattle.decimal.proofs.count_digits.Goals as goal

pub loop-rest-init : goal.loop-rest-init
loop-rest-init c = (omega arith, omega arith)

pub overflow_add-k : goal.overflow_add-k
overflow_add-k c =
    omega (arith, count_most c.args.x (omega arith))

pub loop-rest-preserved : goal.loop-rest-preserved
loop-rest-preserved c = omega (arith, count_more c.loop-rest.rest (omega arith))

pub returns : goal.returns
returns c =
    let z : c.loop-rest.rest ≡ 0 = omega arith in
    omega (arith, ap length (ap digits z), ap length digits_zero)
