-- An entry written: its position, its kind, and its values by pairs; or nothing.
-- Assumes nothing.
use borrow.Author.Rules.{rules}
use native.Mathlib.Omega.{arith}
use mathlib.Core.Path.{◌≡◌, sym, ap, ◌∙◌}
use Prim.Native.Nat.{ℕ, ◌+◌, ◌≤◌}
use mathlib.Core.List.{List, []}
use lib.ListN.{length, length-set}
use lib.Seq.{paste, paste-zero}
use Rattle.store.specs.Numbers.{coming, entry_numbers}
use Rattle.store.proofs.Laws.{store_all, numbers_length}
use Rattle.store.proofs.store.Goals as goal
use Rattle.store.proofs.store.Goals.{In-Some}

wide : (c : In-Some) → c.args.c ≤ length c.in-Some.e.vals
wide c = let e : length c.in-Some.e.vals ≡ 8 = search rules in omega (arith, c.requires.0)

comes : (c : In-Some) → coming c.args.c c.args.comes ≡ entry_numbers c.args.c c.in-Some.e
comes c = ap (coming c.args.c) c.in-Some.is

room : (c : In-Some) → c.args.at + (c.args.c + 2) ≤ length c.args.layer.now
room c = omega (arith, c.requires.1, ap length (comes c), numbers_length c.args.c c.in-Some.e (wide c))

pub bounds-layer-at : goal.bounds-layer-at
bounds-layer-at c = omega (arith, room c)

pub bounds-layer-at-in-Some : goal.bounds-layer-at-in-Some
bounds-layer-at-in-Some c = simp length-set (omega (arith, room c))

pub copy_pairs-requires : goal.copy_pairs-requires
copy_pairs-requires c =
    let p = (goal.at.copy_pairs-requires c).In-Some in
    (omega arith, wide p, simp length-set (omega (arith, room p)))

pub returns-in-Some : goal.returns-in-Some
returns-in-Some c =
    let a = c.args in
    let p = (goal.at.returns-in-Some c).In-Some in
    let new = entry_numbers a.c p.in-Some.e in
    c.copy_pairs.ensures
    ∙ (store_all a.layer.now a.at a.c p.in-Some.e (wide p) (room p)
    ∙ (ap (paste a.layer.now a.at new) (sym (numbers_length a.c p.in-Some.e (wide p)))
    ∙ ap (λ (t : List ℕ). paste a.layer.now a.at t (length t)) (sym (comes p))))

pub returns-in_default : goal.returns-in_default
returns-in_default c = rw c.in_default.is (paste-zero c.args.layer.now c.args.at [])
