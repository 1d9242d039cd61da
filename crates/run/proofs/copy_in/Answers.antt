-- Copying into the part from `at` on: the part becomes the run, and that is the run pasted.
-- Assumes nothing.
use mathlib.Core.Path.{refl}
use Rattle.run.proofs.Laws.{put_back}
use Rattle.run.proofs.copy_in.Goals as goal

pub returns : goal.returns
returns c =
    let f = c.copy_same in
    let a = c.args in
    (refl, put_back a.dst.now a.src.now f.new.dst a.at f.ensures)
