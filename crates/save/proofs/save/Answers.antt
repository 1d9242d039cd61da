-- `save::save` meets its contract: the form check, the room of the buffer, then the numbers and the trailer.
-- Assumes nothing.
use native.Mathlib.Omega.{arith}
use mathlib.Core.Path.{◌≡◌, sym, ap, ◌∙◌}
use mathlib.Core.List.{List}
use Prim.Native.Nat.{ℕ, ◌*◌}
use lib.Seq.{paste}
use Rattle.std.specs.Prelude.{Ok, Err}
use Rattle.little.specs.Little.{eights}
use Rattle.model.specs.Calls.{form_answer}
use Rattle.format.specs.File.{width, trailer}
use Rattle.save.proofs.Written.{form_refused, short, enough, slice_after, few, few_numbers, in_slice, both_written}
use borrow.Author.Rules.{rules}
use Rattle.save.proofs.save.Goals as goal
use Rattle.save.proofs.save.Goals.{In_ok-check_layer}

-- the form check is done
formed : (c : In_ok-check_layer) → let a = c.args in
    form_answer a.c a.n a.m a.layer.now ≡ Ok c.in_ok-check_layer.field-0
formed c = sym c.check_layer.ensures ∙ c.in_ok-check_layer.was

pub overflow_add-k : goal.overflow_add-k
overflow_add-k c = omega (arith, few _ _ _ _ _ (formed (goal.at.overflow_add-k c).In_ok-check_layer))

pub overflow_mul-k : goal.overflow_mul-k
overflow_mul-k c = omega (arith, few_numbers _ _ _ _ _ (formed (goal.at.overflow_mul-k c).In_ok-check_layer))

pub overflow_mul-reach : goal.overflow_mul-reach
overflow_mul-reach c = omega (arith, few_numbers _ _ _ _ _ (formed (goal.at.overflow_mul-reach c).In_ok-check_layer))

pub overflow_add-reach : goal.overflow_add-reach
overflow_add-reach c = omega (arith, few_numbers _ _ _ _ _ (formed (goal.at.overflow_add-reach c).In_ok-check_layer))

pub returns-then-out-reach : goal.returns-then-out-reach
returns-then-out-reach c =
    let e = short _ _ _ _ _ _ (formed (goal.at.returns-then-out-reach c).In_ok-check_layer) c.if-out-reach.true in
    (c.refused.ensures ∙ e, slice_after _ _ _ _ _ _ e)

pub write_numbers-requires : goal.write_numbers-requires
write_numbers-requires c =
    (in_slice _ _ _ _ _ (formed (goal.at.write_numbers-requires c).In_ok-check_layer), search rules)

pub returns-in_err-check_layer : goal.returns-in_err-check_layer
returns-in_err-check_layer c =
    let k : c.from_residual.result ≡ Err c.in_err-check_layer.field-0.0 = search rules in
    let e = form_refused _ _ _ _ _ _ (sym c.check_layer.ensures ∙ c.in_err-check_layer.was) in
    (k ∙ e, slice_after _ _ _ _ _ _ e)

pub returns : goal.returns
returns c =
    let a = c.args in
    let f = formed (goal.at.returns c).In_ok-check_layer in
    let e = enough _ _ _ _ _ _ f c.if-out-reach.false in (
      e,
      c.put_trailer.ensures
          ∙ ap (λ (t : List ℕ). paste t (8 * width a.c a.m) (eights (trailer a.c a.n a.m)) 32)
          c.write_numbers.ensures
          ∙ both_written _ _ _ _ _ f a.out.now
          ∙ slice_after _ _ _ _ _ _ e,
    )
