-- Refusal 9 is judged on the entries of the result; then the parts move to behind what comes, and that is written.
-- Assumes nothing.
use borrow.Author.Rules.{rules}
use borrow.Author.Tests.{lt-ltb, le-ltb}
use native.Mathlib.Omega.{arith}
use mir.Val.{bool_byte}
use mathlib.Core.Path.{◌≡◌, refl, ap, ◌∙◌}
use Prim.Native.Nat.{ℕ, ◌+◌, ◌*◌, ◌-◌, ◌≤◌, ◌<◌}
use lib.ListN.{length}
use Rattle.model.specs.Raw.{room}
use Rattle.std.specs.Prelude.{Option, Some, None, Ok, is_some, MatchOption}
use Rattle.words.specs.declared.Entry.{Entry}
use Rattle.store.specs.Numbers.{arrivals}
use Rattle.store.proofs.Laws.{in_room, AllNumbers, coming_length}
use Rattle.splice.specs.declared.Splice.{Splice}
use Rattle.splice.specs.Splice.{begins, fresh, resumes, spliced_two, count_two}
use Rattle.splice.proofs.Laws.{Lies, lies}
use Rattle.splice.proofs.Runs.{all_written}
use Rattle.splice.proofs.enter_two.Goals as goal
use Rattle.splice.proofs.enter_two.Goals.{Else-room_of-count}

-- how many come, as the code counts them
told : (comes : Option Entry) → bool_byte (is_some comes) ≡ arrivals comes
told None = refl
told (Some e) = refl

-- how many come by each, how many numbers that is, and how many numbers there are then
abbrev Counts : (n n₂ m w : ℕ) → Splice → Splice → Type 0
Counts n n₂ m w p q =
    (n ≡ arrivals p.comes) × (n₂ ≡ arrivals q.comes) × (n * w ≡ arrivals p.comes * w)
    × (n₂ * w ≡ arrivals q.comes * w) × ((m + (n + n₂) - (p.gone + q.gone)) * w ≡ count_two m p q * w)

same_counts : (n n₂ m w : ℕ) (p q : Splice) → n ≡ arrivals p.comes → n₂ ≡ arrivals q.comes → Counts n n₂ m w p q
same_counts n n₂ m w p q e f = rw (e, f) (refl, refl, refl, refl, refl)

counts : (c : Else-room_of-count) → let a = c.args in
    Counts c.from-comes.result c.from-comes2.result a.m (a.c + 2) a.p a.q
counts c =
    let a = c.args in
    same_counts c.from-comes.result c.from-comes2.result a.m (a.c + 2) a.p a.q
    ((rw c.is_some.ensures at c.from-comes.ensures) ∙ told a.p.comes)
    ((rw c.is_some-2.ensures at c.from-comes2.ensures) ∙ told a.q.comes)

-- the two splices in numbers, and the room for the result
known : (c : Else-room_of-count) → let a = c.args in Lies a.c a.m a.p a.q (length a.layer.now)
known c =
    let a = c.args in
    lies a.c a.m a.layer.now c.requires.0 a.p a.q c.requires.1

fits : (c : Else-room_of-count) → let a = c.args in count_two a.m a.p a.q ≤ room a.c (length a.layer.now)
fits c = omega (arith, counts c, c.room_of.ensures, c.if-room_of-count.false)

ends : (c : Else-room_of-count) → let a = c.args in
    count_two a.m a.p a.q * (a.c + 2) ≤ length a.layer.now
ends c =
    let a = c.args in
    (in_room a.c (length a.layer.now) (count_two a.m a.p a.q) (fits c)).1

all_numbers : (c : ℕ) (comes : Option Entry) → c ≤ 8 → MatchOption comes (Unit {0}) (λ e. length e.vals ≡ 8) → AllNumbers c comes
all_numbers c None h f = tt
all_numbers c (Some e) h f = omega (arith, f)

-- what comes, in numbers
news : (c : Else-room_of-count) → let a = c.args in
    (length (fresh a.c a.p) ≡ arrivals a.p.comes * (a.c + 2)) × (length (fresh a.c a.q) ≡ arrivals a.q.comes * (a.c + 2))
news c =
    let a = c.args in
    let h = c.requires.0.columns in (
      coming_length a.c a.p.comes (all_numbers a.c a.p.comes h (search rules)),
      coming_length a.c a.q.comes (all_numbers a.c a.q.comes h (search rules)),
    )

pub returns-then-room_of-count : goal.returns-then-room_of-count
returns-then-room_of-count c =
    let a = c.args in
    let e = (rw c.is_some.ensures at c.from-comes.ensures) ∙ told a.p.comes in
    let f = (rw c.is_some-2.ensures at c.from-comes2.ensures) ∙ told a.q.comes in
    let l : room a.c (length a.layer.now) < count_two a.m a.p a.q =
    omega (arith, e, f, c.room_of.ensures, c.if-room_of-count.true) in
    rw (c.refused.ensures, lt-ltb (room a.c (length a.layer.now)) (count_two a.m a.p a.q) l) (refl, refl)

pub overflow_mul-at : goal.overflow_mul-at
overflow_mul-at c = omega (arith, known (goal.at.overflow_mul-at c).Else-room_of-count, counts (goal.at.overflow_mul-at c).Else-room_of-count)

pub overflow_mul-from : goal.overflow_mul-from
overflow_mul-from c = omega (arith, known (goal.at.overflow_mul-from c).Else-room_of-count, counts (goal.at.overflow_mul-from c).Else-room_of-count)

pub overflow_mul-end : goal.overflow_mul-end
overflow_mul-end c = omega (arith, known (goal.at.overflow_mul-end c).Else-room_of-count, counts (goal.at.overflow_mul-end c).Else-room_of-count)

pub overflow_mul-to : goal.overflow_mul-to
overflow_mul-to c = omega (arith, known (goal.at.overflow_mul-to c).Else-room_of-count, counts (goal.at.overflow_mul-to c).Else-room_of-count)

pub overflow_add-to : goal.overflow_add-to
overflow_add-to c = omega (arith, known (goal.at.overflow_add-to c).Else-room_of-count, counts (goal.at.overflow_add-to c).Else-room_of-count)

pub overflow_sub-at2 : goal.overflow_sub-at2
overflow_sub-at2 c = omega (arith, known (goal.at.overflow_sub-at2 c).Else-room_of-count, counts (goal.at.overflow_sub-at2 c).Else-room_of-count)

pub overflow_add-at2 : goal.overflow_add-at2
overflow_add-at2 c = omega (arith, known (goal.at.overflow_add-at2 c).Else-room_of-count, counts (goal.at.overflow_add-at2 c).Else-room_of-count)

pub overflow_mul-from2 : goal.overflow_mul-from2
overflow_mul-from2 c = omega (arith, known (goal.at.overflow_mul-from2 c).Else-room_of-count, counts (goal.at.overflow_mul-from2 c).Else-room_of-count)

pub overflow_mul-last : goal.overflow_mul-last
overflow_mul-last c = omega (arith, known (goal.at.overflow_mul-last c).Else-room_of-count, counts (goal.at.overflow_mul-last c).Else-room_of-count)

pub overflow_mul-to2 : goal.overflow_mul-to2
overflow_mul-to2 c = omega (arith, known (goal.at.overflow_mul-to2 c).Else-room_of-count, counts (goal.at.overflow_mul-to2 c).Else-room_of-count)

pub overflow_add-to2 : goal.overflow_add-to2
overflow_add-to2 c = omega (arith, known (goal.at.overflow_add-to2 c).Else-room_of-count, counts (goal.at.overflow_add-to2 c).Else-room_of-count)

pub two-requires : goal.two-requires
two-requires c =
    let k = known (goal.at.two-requires c).Else-room_of-count in
    let r = ends (goal.at.two-requires c).Else-room_of-count in
    record {
      first = k.first;
      apart = omega (arith, k.goes₂);
      second = k.second;
      held = k.all;
      still_apart = omega arith;
      still_held = omega (arith, k.stops, counts (goal.at.two-requires c).Else-room_of-count, r);
    }

pub overflow_mul-count : goal.overflow_mul-count
overflow_mul-count c =
    let e = (goal.at.overflow_mul-count c).Else-room_of-count in
    omega (arith, known e, counts e, ends e, c.requires.0.columns)

pub clear_behind-requires : goal.clear_behind-requires
clear_behind-requires c =
    let e = (goal.at.clear_behind-requires c).Else-room_of-count in
    let l = c.two.auto.layer in
    (omega (arith, counts e, ends e, l), omega (arith, known e, l))

pub store-requires : goal.store-requires
store-requires c =
    let e = (goal.at.store-requires c).Else-room_of-count in (
      c.requires.0.columns,
      omega (arith, known e, counts e, ends e, news e, c.two.auto.layer, c.clear_behind.auto.layer),
    )

pub store-requires-2 : goal.store-requires-2
store-requires-2 c =
    let e = (goal.at.store-requires-2 c).Else-room_of-count in (
      c.requires.0.columns,
      omega (
        arith,
        known e,
        counts e,
        ends e,
        news e,
        c.two.auto.layer,
        c.clear_behind.auto.layer,
        c.store.auto.layer,
      ),
    )

pub returns : goal.returns
unfolding spliced_two
returns c =
    let e = (goal.at.returns c).Else-room_of-count in
    let a = c.args in
    let w = a.c + 2 in
    let at = begins a.c a.p in
    let from = resumes a.c a.p in
    let end = begins a.c a.q in
    let from₂ = resumes a.c a.q in
    let last = a.m * w in
    let to = at + c.from-comes.result * w in
    let at₂ = to + (end - from) in
    let to₂ = at₂ + c.from-comes2.result * w in
    let stop = (a.m + (c.from-comes.result + c.from-comes2.result) - (a.p.gone + a.q.gone)) * w in
    let new = fresh a.c a.p in
    let new₂ = fresh a.c a.q in
    let k = known e in
    let n = news e in
    let s = counts e in
    rw (le-ltb (room a.c (length a.layer.now)) (count_two a.m a.p a.q) (fits e)) (
      ap Ok (omega (arith, s)),
      all_written a.layer.now new new₂ at to from end at₂ to₂ from₂ last stop k.first (omega (arith, k))
          k.second k.all (omega (arith, s, ends e)) (omega (arith, s, n)) refl (omega (arith, s, n))
          (omega (arith, s, k.stops)) _ _ _ _
          c.two.ensures c.clear_behind.ensures c.store.ensures c.store-2.ensures,
    )
