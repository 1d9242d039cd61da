-- `fit::fit` meets its contract: it answers as the check does, but for the result.
-- Assumes nothing.
use mathlib.Core.Path.{◌≡◌, sym, ◌∙◌}
use Rattle.std.proofs.Common.{rules}
use Rattle.std.specs.Prelude.{Err}
use Rattle.fit.proofs.Answers.{fit_refused, fit_done}
use Rattle.fit.proofs.fit.Goals as goal

pub returns-in_err-ready : goal.returns-in_err-ready
returns-in_err-ready c =
    let e : c.from_residual.result ≡ Err c.in_err-ready.field-0.0 = search rules in
    e ∙ fit_refused _ _ _ _ _ (sym c.ready.ensures ∙ c.in_err-ready.was)

pub returns : goal.returns
returns c = fit_done _ _ _ _ _ (sym c.ready.ensures ∙ c.in_ok-ready.was)
