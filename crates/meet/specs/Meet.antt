-- What two entries make of each other, by the keys that they concern and by their kinds.
use Rattle.std.specs.Prelude.{◌≡◌, false, cond, ◌||◌, List, ℕ, ◌<◌, get_or, ltb, eqb}
use Rattle.words.specs.Entry.{ADD, STRIKE}
use Rattle.head.specs.declared.Head.{Head}
use Rattle.woven.specs.declared.Meets.{Meets}
use Rattle.woven.specs.declared.Meets.TheVariants.{Lower, Upper}
use Rattle.woven.specs.Woven.{meet_kinds}

-- the key that an entry with this head concerns, and that it can be read from a column of n keys
abbrev pub key_in : List ℕ → Head → ℕ
key_in K h = cond (eqb h.kind ADD || eqb h.kind STRIKE) h.first (get_or K h.pos 0)

abbrev pub Keyed : Head → ℕ → Type 0
Keyed h n = (eqb h.kind ADD || eqb h.kind STRIKE ≡ false) → h.pos < n

-- what two entries make of each other, by the keys that they concern and by their kinds
abbrev pub meets_by : ℕ → ℕ → ℕ → ℕ → Meets
meets_by a b d q = cond (ltb a b) Lower (cond (ltb b a) Upper (meet_kinds d q))
