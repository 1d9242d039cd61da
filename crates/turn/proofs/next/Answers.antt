-- `turn::next` meets its contract: the heads of the next entries say which turn it is.
-- Assumes nothing.
use native.Mathlib.Omega.{arith}
use mathlib.Core.Path.{◌≡◌, sym, ap, subst, ◌∙◌}
use Prim.Native.Nat.{ℕ, ◌+◌, ◌-◌}
use lib.ListN.{length, get_or, drop}
use lib.Dec.{eqb}
use Rattle.words.specs.Entry.{ADD, STRIKE}
use Rattle.order.proofs.Tests.{one_le}
use Rattle.model.specs.Raw.{edit_of}
use Rattle.head.specs.declared.Head.{Head}
use Rattle.head.specs.Head.{head_of}
use Rattle.entry.specs.declared.slice.Stored.{Stored}
use Rattle.entry.specs.Look.{edits, entry_of}
use Rattle.woven.specs.declared.Meets.{Meets}
use Rattle.woven.specs.declared.Meets.TheVariants.{Lower, Upper, UpperHere, Drop, Vanish, Patch, Fuse}
use Rattle.woven.specs.Woven.{changes_ahead}
use Rattle.over.specs.Over.{over}
use Rattle.over.specs.Stack.{lower_of, upper_of}
use Rattle.meet.specs.Meet.{key_in, Keyed, meets_by}
use Rattle.turn.specs.Turn.{upper_at, turned, turn_of}
use Rattle.turn.proofs.Turning.{up, small, upper_low, past_lower, lower_keyed, turns, lower_turned, patch_turned, ahead_few}
use Rattle.turn.proofs.next.Goals as goal
use Rattle.turn.proofs.next.Goals.{After-changes_ahead-n, After-meets, After-rebase-there}

-- the head that was read is of the stack's layer
read : {l s : Stored} {h : Head} (i : ℕ) → l ≡ s → h ≡ head_of (entry_of l i) → h ≡ head_of (entry_of s i)
read i e f = f ∙ ap (λ (x : Stored). head_of (entry_of x i)) e

-- where the upper layer's edit stands over the base
there : (c : After-rebase-there) → let k = c.args.k in
    upper_at c.rebase-there.result k
    ≡ upper_at (((entry_of (upper_of c.args.s.now) k.j).pos + k.strikes) - k.adds) k
there c =
    let k = c.args.k in
    let u = read c.args.k.j c.upper-above.ensures c.head-upper.ensures in
    ap (λ (p : ℕ). upper_at p k) (c.rebase-there.ensures ∙ ap (λ (h : Head). (h.pos + k.strikes) - k.adds) u)

-- the turn is that of the definition, by what the keys and kinds say
turns-by : (c : After-meets) → (t : Meets) → c.meets.result ≡ t → let s = c.args.s.now in let k = c.args.k in
    let K = s.keys.now in
    let E = edit_of (entry_of (lower_of s) k.i) in
    let F = edit_of (entry_of (upper_of s) k.j) in
    let R = edits (lower_of s) in
    let W = edits (upper_of s) in
    turned k E F (drop (k.j + 1) W) t ≡ turn_of K (over s.c K s.mr s.r.now) k (drop k.i R) (drop k.j W)
turns-by c t h =
    let lo = read c.args.k.i c.lower.ensures c.head-lower.ensures in
    let hi = read c.args.k.j c.upper-above.ensures c.head-upper.ensures in
    let q = c.key_of in
    turns c.requires.0 c.requires.1 c.requires.2 c.if-s-i.false q.result
    (q.ensures ∙ ap (key_in c.args.s.now.keys.now) lo) t
    (sym h ∙ (c.meets.ensures
    ∙ (λ i. meets_by q.result (get_or c.args.names.now c.args.k.j 0) (lo i).kind (hi i).kind)))

pub head-upper-requires : goal.head-upper-requires
head-upper-requires c = rw c.upper-above.ensures c.requires.2

pub rebase-there-requires : goal.rebase-there-requires
rebase-there-requires c =
    let p = ap (λ (h : Head). h.pos) (read c.args.k.j c.upper-above.ensures c.head-upper.ensures) in
    (omega (arith, p, upper_low c.requires.0 c.requires.1 c.requires.2), (small c.requires.0 c.requires.1).4)

pub upper_at-requires : goal.upper_at-requires
upper_at-requires c = (omega (arith, c.requires.2, (up c.requires.0).held.entries), (small c.requires.0 c.requires.1).2)

pub returns-then-s-i : goal.returns-then-s-i
returns-then-s-i c =
    c.upper_at.ensures ∙ (there (goal.at.returns-then-s-i c).After-rebase-there ∙ past_lower c.requires.0 c.requires.1 c.requires.2 c.if-s-i.true)

pub key_of-requires : goal.key_of-requires
key_of-requires c =
    let lo = read c.args.k.i c.lower.ensures c.head-lower.ensures in
    subst (λ (h : Head). Keyed h (length c.args.s.now.keys.now)) (sym lo)
    (lower_keyed c.requires.0 c.requires.1 c.requires.2 c.if-s-i.false)

pub overflow_add-result-in-Lower : goal.overflow_add-result-in-Lower
overflow_add-result-in-Lower c = omega (arith, small c.requires.0 c.requires.1)

pub overflow_add-result-in-Lower-2 : goal.overflow_add-result-in-Lower-2
overflow_add-result-in-Lower-2 c = omega (arith, small c.requires.0 c.requires.1, c.from.ensures, one_le (eqb c.head-lower.result.kind ADD))

pub overflow_add-result-in-Lower-3 : goal.overflow_add-result-in-Lower-3
overflow_add-result-in-Lower-3 c =
    omega (
      arith,
      small c.requires.0 c.requires.1,
      c.from-in-Lower.ensures,
      one_le (eqb c.head-lower.result.kind STRIKE),
    )

pub upper_at-requires-in-Upper : goal.upper_at-requires-in-Upper
upper_at-requires-in-Upper c = (omega (arith, c.requires.2, (up c.requires.0).held.entries), (small c.requires.0 c.requires.1).2)

pub upper_at-requires-in-UpperHere : goal.upper_at-requires-in-UpperHere
upper_at-requires-in-UpperHere c = (omega (arith, c.requires.2, (up c.requires.0).held.entries), (small c.requires.0 c.requires.1).2)

-- as many changes as the definition takes
counted : (c : After-changes_ahead-n) → let u = upper_of c.args.s.now in let j = c.args.k.j in
    c.changes_ahead-n.result ≡ changes_ahead (entry_of u j).pos (drop j (edits u))
counted c =
    let u = upper_of c.args.s.now in
    (rw c.upper-above.ensures at c.changes_ahead-n.ensures)
    ∙ ap (λ (h : Head). changes_ahead h.pos (drop c.args.k.j (edits u))) (read c.args.k.j c.upper-above.ensures c.head-upper.ensures)

pub overflow_add-result-in-Patch-2 : goal.overflow_add-result-in-Patch-2
overflow_add-result-in-Patch-2 c =
    omega (arith, counted (goal.at.overflow_add-result-in-Patch-2 c).After-changes_ahead-n, ahead_few c.requires.0 c.requires.1 c.requires.2)

pub overflow_add-result-in-Patch-3 : goal.overflow_add-result-in-Patch-3
overflow_add-result-in-Patch-3 c = omega (arith, small c.requires.0 c.requires.1)

pub overflow_add-result-in-Patch-4 : goal.overflow_add-result-in-Patch-4
overflow_add-result-in-Patch-4 c = omega (arith, small c.requires.0 c.requires.1)

pub overflow_add-result-in-Fuse-3 : goal.overflow_add-result-in-Fuse-3
overflow_add-result-in-Fuse-3 c = omega (arith, small c.requires.0 c.requires.1)

pub returns-in-Lower : goal.returns-in-Lower
returns-in-Lower c =
    let lo = read c.args.k.i c.lower.ensures c.head-lower.ensures in
    lower_turned c.requires.0 c.requires.1 c.requires.2 c.if-s-i.false _ lo _ _
    c.from.ensures c.from-in-Lower.ensures
    ∙ turns-by (goal.at.returns-in-Lower c).After-meets Lower c.in-Lower.is

pub returns-in-Upper : goal.returns-in-Upper
returns-in-Upper c =
    c.upper_at-in-Upper.ensures ∙ (there (goal.at.returns-in-Upper c).After-rebase-there ∙ turns-by (goal.at.returns-in-Upper c).After-meets Upper c.in-Upper.is)

pub returns-in-UpperHere : goal.returns-in-UpperHere
returns-in-UpperHere c =
    c.upper_at-in-UpperHere.ensures
    ∙ (ap (λ (h : Head). upper_at h.pos c.args.k) (read c.args.k.i c.lower.ensures c.head-lower.ensures)
    ∙ turns-by (goal.at.returns-in-UpperHere c).After-meets UpperHere c.in-UpperHere.is)

pub returns-in-Drop : goal.returns-in-Drop
returns-in-Drop c = turns-by (goal.at.returns-in-Drop c).After-meets Drop c.in-Drop.is

pub returns-in-Vanish : goal.returns-in-Vanish
returns-in-Vanish c = turns-by (goal.at.returns-in-Vanish c).After-meets Vanish c.in-Vanish.is

pub returns-in-Patch : goal.returns-in-Patch
returns-in-Patch c =
    patch_turned c.requires.0 c.requires.1 c.requires.2 c.if-s-i.false _ (counted (goal.at.returns-in-Patch c).After-changes_ahead-n)
    ∙ turns-by (goal.at.returns-in-Patch c).After-meets Patch c.in-Patch.is

pub returns-in-Fuse : goal.returns-in-Fuse
returns-in-Fuse c = turns-by (goal.at.returns-in-Fuse c).After-meets Fuse c.in-Fuse.is
