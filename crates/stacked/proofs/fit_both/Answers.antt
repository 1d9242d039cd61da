-- `stacked::fit_both` meets its contract: the tests are the rows of the table, the keys those that the lower layer leaves.
-- Assumes nothing.
use native.Mathlib.Omega.{arith}
use mathlib.Core.Path.{sym, subst, ◌∙◌}
use Prim.Native.Nat.{ℕ}
use Rattle.form.specs.InForm.{InForm}
use Rattle.stacked.proofs.Answers.{upper_few, keys_refused, lower_refused, upper_refused, fits_done}
use Rattle.stacked.proofs.fit_both.Goals as goal

pub returns-then-not-ascend : goal.returns-then-not-ascend
returns-then-not-ascend c =
    rw c.refused.ensures (keys_refused _ _ _ _ _ _ (sym c.ascend.ensures ∙ c.if-not-ascend.true), tt)

pub fit_place-p-requires : goal.fit_place-p-requires
fit_place-p-requires c = rw c.lower.ensures c.requires.0.lower

pub returns-then-p-s : goal.returns-then-p-s
returns-then-p-s c =
    rw c.refused-then-p-s.ensures (
      lower_refused _ _ _ _ _ _ (sym c.ascend.ensures ∙ c.if-not-ascend.false) _
          (rw c.lower.ensures at c.fit_place-p.ensures) c.if-p-s.true,
      tt,
    )

pub fit_over-q-requires : goal.fit_over-q-requires
fit_over-q-requires c =
    let f = c.requires.0 in
    let s = c.args.s.now in
    record {
      lower = f.lower;
      shown = c.requires.1;
      upper = subst (λ (n : ℕ). InForm s.c n s.mw s.w.now) (sym c.requires.1) f.upper;
      room = omega (arith, c.requires.2, upper_few f);
    }

-- the upper layer's place

pub overflow_add-q : goal.overflow_add-q
overflow_add-q c = omega (arith, c.if-q-s.true, upper_few c.requires.0)

pub returns-then-q-s : goal.returns-then-q-s
returns-then-q-s c =
    rw c.refused-then-q-s.ensures (
      upper_refused _ _ _ _ _ _ (sym c.ascend.ensures ∙ c.if-not-ascend.false) _
          (rw c.lower.ensures at c.fit_place-p.ensures) c.if-p-s.false _ c.fit_over-q.ensures.0 c.if-q-s.true,
      tt,
    )

pub returns : goal.returns
returns c = (
  fits_done _ _ _ _ _ _ (sym c.ascend.ensures ∙ c.if-not-ascend.false) _
      (rw c.lower.ensures at c.fit_place-p.ensures) c.if-p-s.false _
      c.fit_over-q.ensures.0 c.if-q-s.false,
  λ j h. c.fit_over-q.ensures.1 j (omega (arith, c.if-q-s.false, h)),
)
