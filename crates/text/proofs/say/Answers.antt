-- `text::say` meets its contract: the words of the message, then its numbers.
-- Assumes nothing.
use native.Mathlib.Omega.{arith}
use borrow.Author.Rules.{rules}
use mathlib.Core.Path.{◌≡◌}
use Rattle.std.specs.Prelude.{Some}
use Rattle.text.specs.declared.Said.TheVariants.{Unread, Refused}
use Rattle.text.specs.Text.{message}
use Rattle.text.proofs.Writing.{wrote_none, wrote_then}
use Rattle.text.proofs.say.Goals as goal

pub returns-in-None : goal.returns-in-None
unfolding message
returns-in-None c =
    let a = c.args in
    (rw c.in-None.is (wrote_none a.out.now a.at), omega arith)

pub returns-in-Some-Unread : goal.returns-in-Some-Unread
unfolding message
returns-in-Some-Unread c =
    let w1 = c.put_bytes-a.ensures in
    let told : c.args.said ≡ Some Unread = search rules in
    (rw told (wrote_then w1 c.put_number.ensures.0), omega (arith, w1.end))

pub returns-in-Some-Refused : goal.returns-in-Some-Refused
unfolding message
returns-in-Some-Refused c =
    let w1 = c.put_bytes-a-in-Some-Refused.ensures in
    let w2 = c.put_number-b.ensures in
    let cause = c.in-Some-Refused.cause in
    let told : c.args.said ≡ Some (Refused cause) = search rules in
    (rw (told, ← c.number.ensures) (wrote_then w1 (wrote_then w2.0 c.put_number-in-Some-Refused.ensures.0)), omega (arith, w1.end))
