-- `position::shifted` meets its contract: the sum fits a signed integer, and it is not negative.
-- Assumes nothing.
use Rattle.position.proofs.Sums.{sum_fits, sum_row, row_read}
use Rattle.position.proofs.shifted.Goals as goal

pub overflow_add-result : goal.overflow_add-result
overflow_add-result c = sum_fits c.args.s c.args.d c.requires.0 c.requires.1

pub overflow_cast-result-2 : goal.overflow_cast-result-2
overflow_cast-result-2 c = sum_row c.args.s c.args.d c.requires.0 c.requires.1 c.requires.2

pub returns : goal.returns
returns c = row_read c.args.s c.args.d c.requires.0 c.requires.1 c.requires.2
