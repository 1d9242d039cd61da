-- What one read leaves: how it went, and the bytes that came, taken.
use Rattle.std.specs.Prelude.{◌≡◌, ◌≤◌, Option, Some, None, IfSome, List, ℕ, zero, suc, take}
use Rattle.std.specs.Option.{unwrap_or}
use Rattle.intake.specs.declared.Reader.{Reader}
use Rattle.intake.specs.Reader.{Took}
use Rattle.feed.specs.Input.{anew}
use Rattle.blocks.specs.declared.Went.{Went}
use Rattle.blocks.specs.declared.Went.TheVariants.{On, Over, Failed}

-- what a read that is handed room for n bytes may answer: how many bytes came, at most n, or none where it failed
abbrev pub Moved : ℕ → Option ℕ → Type 0
Moved n got = IfSome got (λ k. k ≤ n)

-- no byte is the input's end, and only that; no number is a read that failed
abbrev pub went_by : Option ℕ → Went
went_by (Some zero) = Over
went_by (Some (suc k)) = On
went_by None = Failed

-- how many bytes came
abbrev pub came : Option ℕ → ℕ
came got = unwrap_or got 0

-- what is owed for a block: how its read went, and all of the bytes that came taken behind those before
pub record Block (got : Option ℕ) (block : List ℕ) (w : Went) (s t : Reader) : Type 0 where
  pub went : w ≡ went_by got
  pub took : Took (take (came got) block) (anew s) t
