-- `file::note` meets its contract: where the note ends, where the check is done.
-- Assumes nothing.
use native.Mathlib.Omega.{arith}
use mathlib.Core.Path.{◌≡◌, sym, ap, ◌∙◌}
use Prim.Native.Nat.{ℕ, ◌-◌}
use lib.ListN.{length}
use Rattle.std.specs.Prelude.{Ok}
use Rattle.format.specs.File.{file_answer}
use Rattle.probe.proofs.Answers.{kept, when_done, when_refused}
use Rattle.file.proofs.note.Goals as goal
use Rattle.file.proofs.note.Goals.{In-Ok}

-- the check is done
accepted : (c : In-Ok) → file_answer c.args.file.now ≡ Ok c.in-Ok.field-0
accepted c = sym c.check.ensures ∙ c.in-Ok.is

pub overflow_sub-file : goal.overflow_sub-file
overflow_sub-file c = omega (arith, (kept _ _ (accepted (goal.at.overflow_sub-file c).In-Ok)).long)

pub number_at-requires : goal.number_at-requires
number_at-requires c = omega (arith, (kept _ _ (accepted (goal.at.number_at-requires c).In-Ok)).long)

pub overflow_sub-result : goal.overflow_sub-result
overflow_sub-result c =
    let t = (kept _ _ (accepted (goal.at.overflow_sub-result c).In-Ok)).trails in
    omega (arith, c.number_at.ensures, t.says, t.within)

pub returns-in-Err : goal.returns-in-Err
returns-in-Err c = when_refused _ (sym c.check.ensures ∙ c.in-Err.is)

pub returns-in-Ok : goal.returns-in-Ok
returns-in-Ok c =
    let f = c.args.file.now in
    ap (λ (b : ℕ). length f - b) c.number_at.ensures ∙ when_done _ (accepted (goal.at.returns-in-Ok c).In-Ok)
