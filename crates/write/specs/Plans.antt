-- What leads from one layer to another, as lists and in numbers.
use Rattle.std.specs.Prelude.{◌≡◌, [], ◌∷◌, ◌++◌, ℕ, ◌+◌, ◌-◌, ◌≤◌, ◌<◌, length, take, drop, set, Option, Some, None}
use Rattle.order.proofs.Ascending.{At}
use Rattle.model.specs.Layer.{Edit, Layer}
use Rattle.model.specs.Raw.{numbers_of}
use Rattle.words.specs.declared.Entry.{Entry}
use Rattle.splice.specs.declared.Splice.{Splice}
use Rattle.enter.specs.declared.Value.{Value}
use Rattle.store.specs.Numbers.{entry_numbers}
use Rattle.splice.specs.Splice.{BothWithin}
use Rattle.enter.specs.declared.Move.{Move}
use Rattle.enter.specs.declared.Move.TheVariants.{Entries as entries, Both as both, Number as number}

-- what comes is these edits: none, or one whose c + 2 numbers are those of the entry
abbrev pub Brings : ℕ → Option Entry → Layer → Type 0
Brings c None new = new ≡ []
Brings c (Some e) new =
    (d : Edit) × (new ≡ d ∷ []) × (entry_numbers c e ≡ numbers_of c d) × (length (numbers_of c d) ≡ c + 2)

-- from L to M: entries i to i + gone go, and what comes stands in their place
pub record Splices (c : ℕ) (L M : Layer) (p : Splice) : Type 0 where
  pub new : Layer
  pub within : p.i + p.gone ≤ length L
  pub leads : M ≡ take p.i L ++ (new ++ drop (p.i + p.gone) L)
  pub brings : Brings c p.comes new

-- from L to M by two splices, the second behind the first
pub record BothSplice (c : ℕ) (L M : Layer) (p q : Splice) : Type 0 where
  pub new : Layer
  pub new₂ : Layer
  pub within : BothWithin (length L) p q
  pub leads : M ≡ take p.i L ++ (new ++ (take (q.i - (p.i + p.gone)) (drop (p.i + p.gone) L)
      ++ (new₂ ++ drop (q.i + q.gone) L)))
  pub brings : Brings c p.comes new
  pub brings₂ : Brings c q.comes new₂

-- from L to M: in place of edit i stands one whose numbers are the same but for value j
pub record Sets (c : ℕ) (L M : Layer) (x : Value) : Type 0 where
  pub old : Edit
  pub new : Edit
  pub there : At old x.i 0 L
  pub column : x.j < c
  pub leads : M ≡ take x.i L ++ (new ∷ drop (x.i + 1) L)
  pub numbers : numbers_of c new ≡ set (numbers_of c old) (2 + x.j) x.v

pub data Plans (c : ℕ) (L M : Layer) : Move → Type 0 where
  splices : {p : Splice} → Splices c L M p → Plans c L M (entries p)
  pairs : {p q : Splice} → BothSplice c L M p q → Plans c L M (both p q)
  sets : {x : Value} → Sets c L M x → Plans c L M (number x)

-- a move that takes out one run of edits, in whose place at most one comes
abbrev pub OneRun : Move → Type 0
OneRun (entries p) = Unit {0}
OneRun (both p q) = ⊥
OneRun (number x) = Unit {0}

-- M is L but for one run of edits, in whose place at most one stands
pub record OneSplice (L M : Layer) : Type 0 where
  pub i : ℕ
  pub gone : ℕ
  pub new : Layer
  pub few : length new ≤ 1
  pub within : i + gone ≤ length L
  pub leads : M ≡ take i L ++ (new ++ drop (i + gone) L)
