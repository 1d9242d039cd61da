-- What holds at the head of the pass that counts the adds up to s and the strikes before s, and the ways on from there.
-- Assumes nothing.
use Prim.Native.Nat.{ℕ, ◌+◌, ◌≤◌, ◌<◌}
use native.Mathlib.Nat.{zero-add}
use native.Mathlib.Numerals.{add-one}
use native.Mathlib.Omega.{arith}
use mathlib.Core.Path.{◌≡◌, refl, ◌∙◌}
use mathlib.Core.List.{◌∷◌}
use lib.ListN.{length, get_or, drop, drop_of_length-le}
use lib.Seq.{drop-cons}
use Rattle.std.specs.Prelude.{Some}
use Rattle.order.specs.Lists.{one, count}
use Rattle.order.proofs.Tests.{one_le}
use Rattle.model.specs.Row.{key}
use Rattle.model.specs.Cell.{to}
use Rattle.model.specs.Layer.{at, add, strike, change, Edit, Layer}
use Rattle.model.specs.Position.{add_up_to, strike_before}
use Rattle.entry.specs.declared.Sight.{Sight}
use Rattle.entry.specs.declared.Sight.TheVariants.{Add, Strike, Change}
use Rattle.entry.specs.Look.{look_of}
use Rattle.tally.specs.Seen.{add_seen, strike_seen}

-- what is counted is what was passed and what is left
pub record Counting (L : Layer) (s i adds strikes : ℕ) : Type 0 where
  pub added : count (add_up_to s) L ≡ adds + count (add_up_to s) (drop i L)
  pub struck : count (strike_before s) L ≡ strikes + count (strike_before s) (drop i L)
  pub few_adds : adds ≤ i
  pub few_strikes : strikes ≤ i

pub begin : (L : Layer) (s : ℕ) → Counting L s 0 0 0
begin L s = record {
  added = rw zero-add;
  struck = rw zero-add;
  few_adds = omega arith;
  few_strikes = omega arith;
}

-- what is found at the first edit counts as the edit does
seen : (s : ℕ) (e : Edit) (M : Layer) (f : Sight) → Some f ≡ look_of (e ∷ M)
    → (add_up_to s e ≡ add_seen s f) × (strike_before s e ≡ strike_seen s f)
seen s (at p (add r)) M f h = let w : f ≡ Add p (key r) = cc in rw w (refl, refl)
seen s (at p (strike k)) M f h = let w : f ≡ Strike p k = cc in rw w (refl, refl)
seen s (at p (change j (to v))) M f h = let w : f ≡ Change p j v = cc in rw w (refl, refl)

module _ {L : Layer} {s i adds strikes : ℕ} (g : Counting L s i adds strikes) where
  pub onward : (f : Sight) → Some f ≡ look_of (drop i L) → i < length L
      → Counting L s (i + 1) (adds + one (add_seen s f)) (strikes + one (strike_seen s f))
  onward f q h = record {
    added = g.added ∙ rw (step, ← w.0) (omega arith);
    struck = g.struck ∙ rw (step, ← w.1) (omega arith);
    few_adds = omega (arith, g.few_adds, one_le (add_seen s f));
    few_strikes = omega (arith, g.few_strikes, one_le (strike_seen s f));
  }
    where
      e : Edit
      e = get_or L i (at 0 (strike 0))

      step : drop i L ≡ e ∷ drop (i + 1) L
      step = drop-cons L i (at 0 (strike 0)) h ∙ rw add-one

      w : (add_up_to s e ≡ add_seen s f) × (strike_before s e ≡ strike_seen s f)
      w = seen s e (drop (i + 1) L) f (rw step at q)

  pub end : length L ≤ i → (adds ≡ count (add_up_to s) L) × (strikes ≡ count (strike_before s) L)
  end h =
      let e = drop_of_length-le L {i = i} h in
      (omega (arith, rw e at g.added), omega (arith, rw e at g.struck))
