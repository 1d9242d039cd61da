-- Two layers into one by a single walk along both, by key: the lower layer's edits over the base keys K, the upper's
-- over the keys N that the lower leaves.
use Rattle.std.specs.Prelude.{cond, ◌||◌, List, [], ◌∷◌, map, ℕ, zero, suc, ◌+◌, ◌-◌, length, drop, ltb, eqb}
use Rattle.order.specs.Lists.{one}
use Rattle.model.specs.Row.{Row}
use Rattle.model.specs.Cell.{put}
use Rattle.model.specs.Layer.{Deed, add, strike, change, Edit, at, Layer, position, is_add, is_strike}
use Rattle.model.specs.Edits.{over_deed}
use Rattle.words.specs.Entry.{ADD, STRIKE}
use Rattle.model.specs.Meaning.{key_of}
use Rattle.woven.specs.declared.Meets.{Meets}
use Rattle.woven.specs.declared.Meets.TheVariants.{Lower, Upper, UpperHere, Drop, Vanish, Patch, Fuse}

abbrev pub deed : Edit → Deed
deed (at s d) = d

-- what two edits for one key make of each other, the lower layer's and the upper's
abbrev pub meet : Deed → Deed → Meets
meet (add q) (add r) = UpperHere
meet (strike l) (add r) = UpperHere
meet (change i g) (add r) = UpperHere
meet (add q) (strike k) = Vanish
meet (strike l) (strike k) = Drop
meet (change i g) (strike k) = Drop
meet (add q) (change j e) = Patch
meet (strike l) (change j e) = Drop
meet (change i g) (change j e) = cond (ltb i j) Lower (cond (eqb i j) Fuse UpperHere)

-- the same by their kinds
abbrev pub meet_kinds : ℕ → ℕ → Meets
meet_kinds d q =
    cond (eqb q ADD) UpperHere
    (cond (eqb d ADD) (cond (eqb q STRIKE) Vanish Patch)
    (cond (eqb q STRIKE || eqb d STRIKE) Drop (cond (ltb d q) Lower (cond (eqb d q) Fuse UpperHere))))

-- the lower key goes first: by the keys a and b that both edits concern, and by the key columns
abbrev pub step_by : ℕ → ℕ → Edit → Edit → Meets
step_by a b e f = cond (ltb a b) Lower (cond (ltb b a) Upper (meet (deed e) (deed f)))

abbrev pub step_of : List ℕ → List ℕ → Edit → Edit → Meets
step_of K N e f = step_by (key_of K e) (key_of N f) e f

-- an edit at another position; an edit of the upper layer once the lower's adds and strikes before it are counted out
abbrev pub placed : ℕ → Edit → Edit
placed p (at s d) = at p d

abbrev pub rebased : ℕ → ℕ → Edit → Edit
rebased adds strikes f = placed ((position f + strikes) - adds) f

-- the changes at p that a layer begins with: how many, and a row with all of them
abbrev pub changes_ahead : ℕ → Layer → ℕ
changes_ahead p [] = 0
changes_ahead p (at s (add r) ∷ W) = 0
changes_ahead p (at s (strike k) ∷ W) = 0
changes_ahead p (at s (change j e) ∷ W) = cond (eqb s p) (suc (changes_ahead p W)) 0

abbrev pub patched : ℕ → Layer → Row → Row
patched p [] r = r
patched p (at s (add q) ∷ W) r = r
patched p (at s (strike k) ∷ W) r = r
patched p (at s (change j e) ∷ W) r = cond (eqb s p) (patched p W (put r j e)) r

abbrev pub patched_add : ℕ → Layer → Edit → Edit
patched_add p W (at s (add r)) = at s (add (patched p W r))
patched_add p W (at s (strike k)) = at s (strike k)
patched_add p W (at s (change j e)) = at s (change j e)

-- the upper's change over the lower's of its column, at the lower's position
abbrev pub fused : Edit → Edit → Edit
fused (at p d) (at s (add r)) = at p (add r)
fused (at p d) (at s (strike k)) = at p (strike k)
fused (at p d) (at s (change j e)) = at p (change j (over_deed j e d))

-- where the walk goes on from two next edits, with the lower layer's adds and strikes passed
abbrev pub goes_on : (ℕ → ℕ → Layer → Layer → Layer) → ℕ → ℕ → Edit → Edit → Layer → Layer → Meets → Layer
goes_on on a s e f R W Lower = e ∷ on (a + one (is_add e)) (s + one (is_strike e)) R (f ∷ W)
goes_on on a s e f R W Upper = rebased a s f ∷ on a s (e ∷ R) W
goes_on on a s e f R W UpperHere = placed (position e) f ∷ on a s (e ∷ R) W
goes_on on a s e f R W Drop = on a s R (f ∷ W)
goes_on on a s e f R W Vanish = on (a + 1) s R W
goes_on on a s e f R W Patch =
    patched_add (position f) (f ∷ W) e ∷ on (a + 1) s R (drop (changes_ahead (position f) (f ∷ W)) (f ∷ W))
goes_on on a s e f R W Fuse = fused e f ∷ on a s R W

-- the walk, of at most so many steps; of all that is left of both layers; and of all of both layers
unfoldable pub woven : ℕ → List ℕ → List ℕ → ℕ → ℕ → Layer → Layer → Layer
woven zero K N a s R W = R
woven (suc n) K N a s R [] = R
woven (suc n) K N a s [] (f ∷ W) = map (rebased a s) (f ∷ W)
woven (suc n) K N a s (e ∷ R) (f ∷ W) = goes_on (woven n K N) a s e f R W (step_of K N e f)

abbrev pub walk : List ℕ → List ℕ → ℕ → ℕ → Layer → Layer → Layer
walk K N a s R W = woven (length R + length W) K N a s R W

abbrev pub woven_layer : List ℕ → List ℕ → Layer → Layer → Layer
woven_layer K N R W = walk K N 0 0 R W
