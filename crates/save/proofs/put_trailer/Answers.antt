-- `save::put_trailer` meets its contract: four numbers, one behind the other.
-- Assumes nothing.
use Rattle.save.proofs.Written.{four_written}
use Rattle.save.proofs.put_trailer.Goals as goal

pub returns : goal.returns
returns c =
    let p4 = c.put_number-4 in
    let p3 = c.put_number-3 in
    let p2 = c.put_number-2 in
    let p1 = c.put_number in
    four_written c.args.out.now p1.new.file p2.new.file p3.new.file p4.new.file c.args.at _ _ _ _ c.requires
    p1.ensures p2.ensures p3.ensures p4.ensures
