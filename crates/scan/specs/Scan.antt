-- The form check as one pass: each entry is looked at alone and after the one before it, by position and kind.
use Rattle.words.specs.declared.Cause.TheVariants.{BadForm}
use Rattle.std.specs.Prelude.{Bool, not, cond, ◌&&◌, ◌||◌, List, [], ◌∷◌, ℕ, ◌+◌, ◌-◌, ◌≤◌, ltb, leb, eqb, Ok, Err}
use Rattle.words.specs.declared.Entry.{Entry}
use Rattle.words.specs.Answer.{refusal, Answer}
use Rattle.model.specs.Limits.{most_rows, most_entries}
use Rattle.model.specs.Raw.{edit_of}
use Rattle.words.specs.Entry.{ADD, STRIKE}
use Rattle.model.specs.Form.{zeros, sound}

-- an entry of kind k may stand after one of kind q at the same position
abbrev pub after_kind : ℕ → ℕ → Bool
after_kind q k = eqb q ADD || (not (eqb q STRIKE) && (not (eqb k ADD) && (not (eqb k STRIKE) && ltb q k)))

-- an entry at s of kind k may stand after one at p of kind q
abbrev pub follows_kind : ℕ → ℕ → ℕ → ℕ → Bool
follows_kind p q s k = ltb p s || (eqb p s && after_kind q k)

-- an entry at s of kind k, which is no add: it stands below n, and strikes or changes a column past the key
abbrev pub base_good : ℕ → ℕ → ℕ → ℕ → Bool
base_good c n s k = ltb s n && (eqb k STRIKE || (leb 1 k && ltb k c))

-- the entry breaks no rule alone
unfoldable pub alone_good : ℕ → ℕ → Entry → Bool
alone_good c n e = zeros e && sound c n (edit_of e)

-- the entry breaks no rule, alone and after one at p of kind q
abbrev pub good_after : ℕ → ℕ → ℕ → ℕ → Entry → Bool
good_after c n p q e = alone_good c n e && follows_kind p q e.pos e.kind

-- the entries before the first that breaks a rule, where the one before the first is at p of kind q
unfoldable pub good_from : ℕ → ℕ → ℕ → ℕ → List Entry → List Entry
good_from c n p q [] = []
good_from c n p q (e ∷ es) = cond (good_after c n p q e) (e ∷ good_from c n e.pos e.kind es) []

-- before the first entry stands, as it were, an add at position 0, which anything may follow
abbrev pub good : ℕ → ℕ → List Entry → List Entry
good c n es = good_from c n 0 ADD es

-- the entry is of kind k
abbrev pub of_kind : ℕ → Entry → Bool
of_kind k e = eqb e.kind k

-- what the pass says of form, where `place` entries stand before the first at fault, with so many adds and strikes
abbrev pub judgement : ℕ → ℕ → ℕ → ℕ → ℕ → Answer
judgement n m place adds strikes =
    cond (ltb place m) (Err (refusal BadForm place))
    (cond (ltb (most_rows + strikes) (n + adds)) (Err (refusal BadForm m)) (Ok ((n + adds) - strikes)))

-- what the judge asks: few rows, adds and strikes, and strikes of base rows only, where no entry is at fault
pub record Judged (n m place adds strikes : ℕ) : Type 0 where
  pub base : n ≤ most_rows
  pub few_adds : adds ≤ most_entries
  pub few_strikes : strikes ≤ most_entries
  pub struck : m ≤ place → strikes ≤ n
