-- `over::key_of` meets its contract: past the last row there is no key, else the way at the mark tells it.
-- Assumes nothing.
use native.Mathlib.Omega.{arith}
use mathlib.Core.Logic.{⊎_elim}
use mathlib.Core.Path.{◌≡◌, sym, ◌∙◌}
use Prim.Native.Nat.{◌<◌}
use Rattle.std.proofs.Common.{rules}
use lib.ListN.{length, get_or}
use Rattle.model.specs.Read.{keys_after}
use Rattle.entry.specs.Look.{edits}
use Rattle.form.proofs.Accepted.{accepted}
use Rattle.mark.specs.declared.Way.TheVariants.{Before}
use Rattle.mark.proofs.Marking.{few_off}
use Rattle.over.proofs.Keys.{keys_left, key_base, key_own, key_past}
use Rattle.over.proofs.key_of.Goals as goal
use Rattle.over.proofs.key_of.Goals.{Else-rows-k}

-- the mark's row is one of those that the lower layer leaves
shown : (c : Else-rows-k) → let a = c.args in a.k.row < length (keys_after a.keys.now (edits a.r.now))
shown c = omega (arith, c.requires.1, c.if-rows-k.false)

pub returns-then-rows-k : goal.returns-then-rows-k
returns-then-rows-k c =
    let a = c.args in
    let r = a.r.now in
    key_past r.c a.keys.now r.m r.numbers.now c.requires.0 a.k.row (omega (arith, c.requires.1, c.if-rows-k.true))

pub way_at-requires : goal.way_at-requires
way_at-requires c =
    let a = c.args in
    let r = a.r.now in
    let A = accepted _ _ _ _ _ c.requires.0 in
    omega (
      arith,
      few_off r c.requires.2,
      A.few,
      shown (goal.at.way_at-requires c).Else-rows-k,
      keys_left r.c a.keys.now r.m r.numbers.now c.requires.0,
    )

pub returns-in-Own : goal.returns-in-Own
returns-in-Own c =
    key_own _ c.args.keys.now _ _ c.requires.0 c.requires.2 (shown (goal.at.returns-in-Own c).Else-rows-k) _
    (sym c.way_at.ensures ∙ c.in-Own.is)

pub returns-in-Before : goal.returns-in-Before
returns-in-Before c =
    let before : c.way_at.result ≡ Before =
    ⊎_elim (λ w. w) (λ w. absurd (rw (← c.way_at.ensures, w.1) at c.requires.3)) c.in-Before.is in
    let read : c.unwrap_or.result ≡ get_or c.args.keys.now c.args.k.t 0 = search rules in
    read
    ∙ key_base _ c.args.keys.now _ _ c.requires.0 c.requires.2 (shown (goal.at.returns-in-Before c).Else-rows-k)
    (sym c.way_at.ensures ∙ before)
