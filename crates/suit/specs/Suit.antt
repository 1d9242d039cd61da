-- The fit check as one pass: each entry is looked at alone, with a look ahead for a strike, and after the one before it.
use Rattle.std.specs.Prelude.{Bool, false, not, cond, ◌&&◌, ◌||◌, List, [], ◌∷◌, ℕ, suc, length, get_or, leb, ltb, eqb}
use Rattle.words.specs.declared.Entry.{Entry}
use Rattle.words.specs.Entry.{ADD, STRIKE}
use Rattle.model.specs.Fit.{above}

-- the key of an add or a strike, the value of a change
abbrev pub first : Entry → ℕ
first e = get_or e.vals 0 0

-- row s is struck by an entry of those that stand at s, from the first on
unfoldable pub struck_ahead : ℕ → List Entry → Bool
struck_ahead s [] = false
struck_ahead s (e ∷ es) = eqb e.pos s && (eqb e.kind STRIKE || struck_ahead s es)

-- an add with key k at s lies below K[s], or is equal to it where row s is struck ahead
unfoldable pub under_ahead : List ℕ → List Entry → ℕ → ℕ → Bool
under_ahead K es s k = leb (length K) s || (ltb k (get_or K s 0) || (eqb k (get_or K s 0) && struck_ahead s es))

-- the entry e, the first of es, breaks no rule alone
unfoldable pub suits_ahead : List ℕ → Entry → List Entry → Bool
suits_ahead K e es =
    cond (eqb e.kind ADD) (above K e.pos (first e) && under_ahead K es e.pos (first e))
    (not (eqb e.kind STRIKE) || eqb (get_or K e.pos 0) (first e))

-- an entry at s of kind k and first value v may stand after one at p of kind q and first value u
abbrev pub rises_kind : ℕ → ℕ → ℕ → ℕ → ℕ → ℕ → Bool
rises_kind p q u s k v = not (eqb p s) || (not (eqb q ADD) || (not (eqb k ADD) || ltb u v))

-- an add, the first of es, fits a key column of n keys, where `last` is the key before its position and `next` the one at it, after
-- an entry at p of kind q and first value u
unfoldable pub add_fits : ℕ → ℕ → ℕ → ℕ → ℕ → ℕ → Entry → List Entry → Bool
add_fits n last next p q u e es =
    (eqb e.pos 0 || ltb last (first e))
    && (leb n e.pos || (ltb (first e) next || (eqb (first e) next && struck_ahead e.pos es)))
    && rises_kind p q u e.pos ADD (first e)

-- the entry e, the first of es, breaks no rule alone, nor after one at p of kind q and first value u
abbrev pub fits_after : List ℕ → ℕ → ℕ → ℕ → Entry → List Entry → Bool
fits_after K p q u e es = suits_ahead K e es && rises_kind p q u e.pos e.kind (first e)

-- how many entries stand before the first that breaks a rule, after one at p of kind q and first value u
unfoldable pub fit_from : List ℕ → ℕ → ℕ → ℕ → List Entry → ℕ
fit_from K p q u [] = 0
fit_from K p q u (e ∷ es) =
    cond (fits_after K p q u e (e ∷ es))
    (suc (fit_from K e.pos e.kind (first e) es)) 0
