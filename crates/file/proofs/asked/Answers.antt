-- `file::asked` meets its contract: the number, where the check is done.
-- Assumes nothing.
use native.Mathlib.Omega.{arith}
use mathlib.Core.Path.{◌≡◌, sym, ◌∙◌}
use Rattle.std.specs.Prelude.{Ok}
use Rattle.format.specs.File.{file_answer}
use Rattle.probe.proofs.Answers.{kept, when_done, when_refused}
use Rattle.file.proofs.asked.Goals as goal
use Rattle.file.proofs.asked.Goals.{In-Ok}

-- the check is done
accepted : (c : In-Ok) → file_answer c.args.file.now ≡ Ok c.in-Ok.field-0
accepted c = sym c.check.ensures ∙ c.in-Ok.is

pub overflow_sub-file : goal.overflow_sub-file
overflow_sub-file c = omega (arith, (kept _ _ (accepted (goal.at.overflow_sub-file c).In-Ok)).long)

pub number_at-requires : goal.number_at-requires
number_at-requires c = omega (arith, (kept _ _ (accepted (goal.at.number_at-requires c).In-Ok)).long)

pub returns-in-Err : goal.returns-in-Err
returns-in-Err c = when_refused _ (sym c.check.ensures ∙ c.in-Err.is)

pub returns-in-Ok : goal.returns-in-Ok
returns-in-Ok c = c.number_at.ensures ∙ when_done _ (accepted (goal.at.returns-in-Ok c).In-Ok)
