-- A move whose entries that come are whole, as those of every plan are.
-- Assumes nothing.
use Prim.Native.Nat.{ℕ, ◌+◌, ◌*◌}
use native.Mathlib.Nat.{zero-mul}
use native.Mathlib.Omega.{arith}
use mathlib.Core.Path.{◌≡◌, sym, ap}
use lib.ListN.{length}
use Rattle.std.specs.Prelude.{Option, Some, None}
use Rattle.words.specs.declared.Entry.{Entry}
use Rattle.model.specs.Layer.{Layer}
use Rattle.store.specs.Numbers.{coming, arrivals}
use Rattle.enter.specs.declared.Move.{Move}
use Rattle.enter.specs.declared.Move.TheVariants.{Entries as entries, Both as both, Number as number}
use Rattle.write.specs.Plans.{Brings, Plans, splices, pairs, sets}

-- the entry that comes, if one does, has all its c + 2 numbers
abbrev pub WholeFresh : ℕ → Option Entry → Type 0
WholeFresh c comes = length (coming c comes) ≡ arrivals comes * (c + 2)

abbrev pub Whole : ℕ → Move → Type 0
Whole c (entries p) = WholeFresh c p.comes
Whole c (both p q) = WholeFresh c p.comes × WholeFresh c q.comes
Whole c (number x) = Unit {0}

-- it has the numbers of an edit of c + 2
fresh_whole : (c : ℕ) (comes : Option Entry) (N : Layer) → Brings c comes N → WholeFresh c comes
fresh_whole c None N e = sym (zero-mul (c + 2))
fresh_whole c (Some e) N (d, f, n, w) = omega (arith, ap length n, w)

-- what comes by a plan is whole
pub plan_whole : {c : ℕ} {L M : Layer} {p : Move} → Plans c L M p → Whole c p
plan_whole {c} (splices {p} P) = fresh_whole c p.comes P.new P.brings
plan_whole {c} (pairs {p} {q} P) = (fresh_whole c p.comes P.new P.brings, fresh_whole c q.comes P.new₂ P.brings₂)
plan_whole (sets P) = tt
