-- A list with parts of it moved.
use Rattle.std.specs.Prelude.{List, ℕ, ◌+◌, ◌-◌, ◌≤◌, drop}
use Rattle.std.proofs.Math.Seq.{paste}
use Rattle.slide.specs.declared.Part.{Part}

-- xs with the part, as it stands in src, written where it is to start
abbrev pub moved : Part → List ℕ → List ℕ → List ℕ
moved p src xs = paste xs p.to (drop p.from src) (p.end - p.from)

-- in a list of len numbers the second part stands behind the first, and is to start behind where that will end
pub record Behind (p q : Part) (len : ℕ) : Type 0 where
  pub first : p.from ≤ p.end
  pub apart : p.end ≤ q.from
  pub second : q.from ≤ q.end
  pub held : q.end ≤ len
  pub still_apart : p.to + (p.end - p.from) ≤ q.to
  pub still_held : q.to + (q.end - q.from) ≤ len
