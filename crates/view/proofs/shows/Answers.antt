-- `view::shows` meets its contract: the tests are those of what was found.
-- Assumes nothing.

use Rattle.view.proofs.shows.Goals as goal

pub returns-in-Change : goal.returns-in-Change
returns-in-Change c = rw c.in-Change.is
