-- What stands on either side of where an edit lands; on which side an entry stands; and whether what stands there has a
-- key.
-- Assumes nothing.
use Prim.Native.Nat.{ℕ, suc, ◌+◌, ◌*◌, ◌-◌, ◌≤◌, ◌<◌}
use native.Mathlib.Omega.{arith}
use mathlib.Core.Path.{◌≡◌, refl, sym, ap, ◌∙◌}
use mathlib.Core.Bool.{Bool, true, false, not, ◌&&◌, true≢false}
use mathlib.Core.List.Memᴰ.{head as here}
use mathlib.Core.List.{List, [], ◌∷◌, Memᴰ as Mem}
use lib.ListN.{length, take, drop}
use lib.Seq.{drop-drop}
use lib.Dec.{leb, ltb, eqb}
use borrow.Author.Tests.{leb-true, leb-false, ltb-true, ltb-false}
use Rattle.std.specs.Prelude.{Option, Some, None}
use Rattle.order.proofs.First.{first_le}
use Rattle.order.proofs.Tests.{impossible, not_passed}
use Rattle.order.proofs.Pairs.{AllPairs}
use Rattle.order.proofs.Splice.{drop_mem, part, front, rest}
use Rattle.model.specs.Cell.{to}
use Rattle.model.specs.Layer.{Edit, Layer, at, add, strike, change}
use Rattle.model.specs.Raw.{edit_of}
use Rattle.model.specs.Edits.{before}
use Rattle.theory.proofs.Edits.{before_trans}
use Rattle.head.specs.declared.Head.{Head}
use Rattle.head.specs.Head.{headed, seen}
use Rattle.entry.specs.declared.Sight.{Sight}
use Rattle.entry.specs.declared.Sight.TheVariants.{Add, Strike, Change}
use Rattle.entry.specs.declared.slice.Stored.{Stored}
use Rattle.entry.specs.Look.{look_of, edits, entry_of}
use Rattle.entry.proofs.Looks.{left_step}
use Rattle.landing.specs.Landing.{aim, landing, changes_first}

pub landing_le : (e : Edit) (L : Layer) → landing e L ≤ length L
unfolding landing
landing_le e L = first_le (λ d. not (before d e)) L

-- where a head with these parts lands
pub aimed : (L : Layer) {i s kind v : ℕ} {h : Head} → i ≡ landing (seen h) L → h ≡ headed s kind v
    → i ≡ landing (aim s kind v) L
aimed L p e = p ∙ ap (λ (h : Head). landing (seen h) L) e

-- the edits up to where e lands stand before it; in a layer in order none of the others does
module _ (e : Edit) (L : Layer) (i : ℕ) (lands : i ≡ landing e L) where
  pub lands_after : (d : Edit) → Mem d (take i L) → before d e ≡ true
  unfolding landing
  lands_after d m = front before e L d (rw lands at m)

  pub lands_first : AllPairs before L → (d : Edit) → Mem d (drop i L) → before d e ≡ false
  unfolding landing
  lands_first sorted d m = rest before e before_trans L sorted d (rw lands at m)

-- an entry of a layer in order that stands before e lies in front of where e lands, and any other does not
module _ (l : Stored) (i : ℕ) (e : Edit) (h : i < l.m) where
  abbrev L : Layer
  L = edits l

  abbrev d : Edit
  d = edit_of (entry_of l i)

  abbrev place : ℕ
  place = landing e L

  here_on : drop i L ≡ d ∷ drop (i + 1) L
  here_on = left_step l.c l.m i l.numbers.now h

  up_to : (j : ℕ) → i < j → Mem d (take j L)
  up_to j f =
      let n : j - i ≡ suc (j - (i + 1)) = omega arith in
      drop_mem i (take j L) d (rw (← part i j L, here_on, n) (here refl))

  from : (j : ℕ) → j ≤ i → Mem d (drop j L)
  from j f =
      let n : j + (i - j) ≡ i = omega arith in
      drop_mem (i - j) (drop j L) d (rw (drop-drop (i - j) j L, n, here_on) (here refl))

  pub past : AllPairs before L → before d e ≡ true → i < place
  past sorted b =
      leb-false place i (not_passed (leb place i)
      (λ t. true≢false (sym b ∙ lands_first e L place refl sorted d (from place (leb-true place i t)))))

  pub within : before d e ≡ false → place ≤ i
  within b =
      ltb-false i place (not_passed (ltb i place)
      (λ t. true≢false (sym (lands_after e L place refl d (up_to place (ltb-true i place t))) ∙ b)))

-- what a look finds has a key: an add or a strike
abbrev pub has_key : Option Sight → Bool
has_key None = false
has_key (Some (Add s k)) = true
has_key (Some (Strike s k)) = true
has_key (Some (Change s j v)) = false
