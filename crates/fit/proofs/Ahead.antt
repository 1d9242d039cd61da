-- Over a layer in form the pass that looks at the one entry before, and ahead for a strike, finds the scope's place.
-- Assumes nothing.
use Prim.Native.Nat.{ℕ, suc, ◌≤◌, ◌<◌}
use native.Mathlib.Omega.{arith}
use mathlib.Core.Path.{◌≡◌, refl, sym, ap, ◌∙◌}
use mathlib.Core.Logic.{⊎_elim}
use mathlib.Core.Bool.{Bool, true, false, not, cond, ◌&&◌, ◌||◌, and-true, and-false, or-true}
use mathlib.Core.List.Memᴰ.{cases_cons}
use mathlib.Core.List.Memᴰ.{head as here}
use mathlib.Core.List.Memᴰ.{not-nil}
use mathlib.Core.List.Memᴰ.{tail as next}
use mathlib.Core.List.{
  List,
  [],
  ◌∷◌,
  map,
  Memᴰ as Mem,
}
use lib.ListN.{length, get_or}
use lib.Dec.{leb, ltb, eqb}
use borrow.Author.Tests.{eqb-false, ne_eqb}
use Rattle.order.specs.Lists.{any}
use Rattle.order.proofs.Tests.{eqb_sym}
use Rattle.order.proofs.Members.{any_none, mem_map}
use Rattle.order.proofs.Pairs.{AllPairs, Unbroken, unbroken_next}
use Rattle.order.proofs.Neighbours.{least_after, from_start}
use Rattle.words.specs.declared.Entry.{Entry}
use Rattle.model.specs.Row.{Row, key}
use Rattle.model.specs.Cell.{CellEdit, to}
use Rattle.model.specs.Layer.{add, strike, change, Edit, at, Layer, position, strikes_row, struck}
use Rattle.model.specs.Raw.{none, edit_of}
use Rattle.words.specs.Entry.{ADD, STRIKE}
use Rattle.model.specs.Form.{sound, follows}
use Rattle.model.specs.Fit.{above, suits, keys_rise, rises, fit_place}
use Rattle.theory.proofs.Layer.{struck_none}
use Rattle.theory.proofs.Position.{follows_pos as not_below}
use Rattle.theory.proofs.Edits.{before_of, before_rises, before_trans}
use Rattle.suit.specs.Suit.{first, struck_ahead, under_ahead, suits_ahead, rises_kind, fit_from}
use Rattle.scan.proofs.ByKind.{edit_by, one_kind}
use Rattle.form.proofs.Formed.{Formed, past_strike}

-- positions never fall
follows_pos : (d e : Edit) → follows d e ≡ true → position d ≤ position e
follows_pos (at p d) (at s e) h = not_below p s d e h

-- An entry strikes row s where it stands at s and is a strike.
pub strikes_kind : (s : ℕ) (e : Entry) → strikes_row s (edit_of e) ≡ (eqb e.pos s && eqb e.kind STRIKE)
strikes_kind s e = by (eqb e.kind ADD) (eqb e.kind STRIKE) refl refl
  where
    by : (a b : Bool) → eqb e.kind ADD ≡ a → eqb e.kind STRIKE ≡ b
        → strikes_row s (edit_by a b e) ≡ (eqb e.pos s && b)
    by true true f g = absurd (one_kind e.kind f g)
    by true false f g = sym (and-false (eqb e.pos s))
    by false true f g = eqb_sym s e.pos ∙ sym (and-true (eqb e.pos s))
    by false false f g = sym (and-false (eqb e.pos s))

-- past the entries at s nothing strikes row s
nowhere : (s : ℕ) (L : Layer) → ((e : Edit) → Mem e L → s < position e) → any (strikes_row s) L ≡ false
nowhere s L h = struck_none s L (λ p k m g. omega (arith, h (at p (strike k)) m))

ahead : (s : ℕ) (es : List Entry) → AllPairs follows (map edit_of es) → ((e : Entry) → Mem e es → s ≤ e.pos)
    → any (strikes_row s) (map edit_of es) ≡ struck_ahead s es
unfolding struck_ahead
ahead s [] p h = refl
ahead s (e ∷ es) p h =
    ap (λ (t : Bool). t || any (strikes_row s) (map edit_of es)) (strikes_kind s e)
    ∙ by (eqb e.pos s) refl (ahead s es p.1 (λ d m. h d (next m)))
  where
    by : (t : Bool) → eqb e.pos s ≡ t → any (strikes_row s) (map edit_of es) ≡ struck_ahead s es
        → (t && eqb e.kind STRIKE || any (strikes_row s) (map edit_of es))
        ≡ (t && (eqb e.kind STRIKE || struck_ahead s es))
    by true f ih = ap (λ (u : Bool). eqb e.kind STRIKE || u) ih
    by false f ih = nowhere s (map edit_of es) (λ d m.
        let l : e.pos ≡ s → ⊥ = eqb-false e.pos s f in
        omega (arith, l, h e (here refl), follows_pos (edit_of e) d (p.0 d m)))

-- What position, kind and first value say of two entries is what their edits say.
rises_kinds : (a b x y : Bool) (r t : Row) (i l q k : ℕ) (f g : CellEdit)
    → (not a || (not x || ltb (key r) (key t)))
    ≡ keys_rise (cond a (add r) (cond b (strike i) (change q f))) (cond x (add t) (cond y (strike l) (change k g)))
rises_kinds true b true y r t i l q k f g = refl
rises_kinds true b false true r t i l q k f g = refl
rises_kinds true b false false r t i l q k f g = refl
rises_kinds false true x y r t i l q k f g = refl
rises_kinds false false x y r t i l q k f g = refl

rises_kind_lem : (d e : Entry)
    → rises_kind d.pos d.kind (first d) e.pos e.kind (first e) ≡ rises (edit_of d) (edit_of e)
unfolding key
rises_kind_lem d e =
    ap (λ (t : Bool). not (eqb d.pos e.pos) || t)
    (rises_kinds (eqb d.kind ADD) (eqb d.kind STRIKE) (eqb e.kind ADD) (eqb e.kind STRIKE) d.vals e.vals
    (first d) (first e) d.kind e.kind (to (first d)) (to (first e)))

suits_kind : (K : List ℕ) (L : Layer) (e : Entry) (es : List Entry) → struck_ahead e.pos es ≡ struck e.pos L
    → suits_ahead K e es ≡ suits K L (edit_of e)
unfolding suits_ahead under_ahead key
suits_kind K L e es h = by (eqb e.kind ADD) (eqb e.kind STRIKE)
  where
    by : (a b : Bool)
        → cond a (above K e.pos (first e) && under_ahead K es e.pos (first e))
        (not b || eqb (get_or K e.pos 0) (first e))
        ≡ suits K L (edit_by a b e)
    by true b = ap (λ (t : Bool). above K e.pos (first e)
        && (leb (length K) e.pos || (ltb (first e) (get_or K e.pos 0) || (eqb (first e) (get_or K e.pos 0) && t)))) h
    by false true = refl
    by false false = refl

-- of the edits x, L and M the first comes to the earlier ones
moved : (x a b : Bool) → (a || (x || b)) ≡ ((x || a) || b)
moved true true b = refl
moved false true b = refl
moved true false b = refl
moved false false b = refl

both : {a x b y : Bool} {j k : ℕ} → a ≡ x → b ≡ y → j ≡ k → cond (a && b) (suc j) 0 ≡ cond (x && y) (suc k) 0
both p q r = λ i. cond (p i && q i) (suc (r i)) 0

module _ (c n : ℕ) (K : List ℕ) (L : Layer) where
  -- whether row s is struck is seen from the entry e on, which stands at s
  seen : (e : Entry) (earlier : Layer) (es : List Entry) → Unbroken (sound c n) follows earlier (map edit_of (e ∷ es))
      → struck e.pos L ≡ (any (strikes_row e.pos) earlier || any (strikes_row e.pos) (map edit_of (e ∷ es)))
      → struck_ahead e.pos (e ∷ es) ≡ struck e.pos L
  seen e earlier es U h =
      sym (h ∙ ap (λ (t : Bool). t || any (strikes_row e.pos) (map edit_of (e ∷ es))) before
      ∙ ahead e.pos (e ∷ es) U.pairs from)
    where
      each : (d : Edit) → Mem d earlier → strikes_row e.pos d ≡ false
      each (at p (add r)) m = refl
      each (at p (strike k)) m =
          let l : p < e.pos = past_strike p k (edit_of e) (U.past (at p (strike k)) (edit_of e) m (here refl)) in
          ne_eqb e.pos p (λ g. omega arith)
      each (at p (change j u)) m = refl

      before : any (strikes_row e.pos) earlier ≡ false
      before = any_none (strikes_row e.pos) earlier each

      from : (d : Entry) → Mem d (e ∷ es) → e.pos ≤ d.pos
      from d m = ⊎_elim (λ g. omega (arith, ap (λ (x : Entry). x.pos) g))
          (λ k. follows_pos (edit_of e) (edit_of d) (U.pairs.0 (edit_of d) (mem_map edit_of es d k))) (cases_cons m)

  fit_after : (d : Entry) (earlier : Layer) (es : List Entry) → Unbroken (sound c n) follows earlier (map edit_of es)
      → ((s : ℕ) → struck s L ≡ (any (strikes_row s) earlier || any (strikes_row s) (map edit_of es)))
      → fit_from K d.pos d.kind (first d) es ≡ least_after (suits K L) rises (edit_of d) (map edit_of es)
  unfolding fit_from
  fit_after d earlier [] U h = refl
  fit_after d earlier (e ∷ es) U h =
      both (suits_kind K L e (e ∷ es) (seen e earlier es U (h e.pos))) (rises_kind_lem d e)
      (fit_after e (edit_of e ∷ earlier) es (unbroken_next (edit_of e) U)
      (λ s. h s ∙ moved (strikes_row s (edit_of e)) (any (strikes_row s) earlier) (any (strikes_row s) (map edit_of es))))

-- before the first entry stands, as it were, a change, which anything may follow
any_rises : (x : Edit) → rises (at 0 (change 0 (to 0))) x ≡ true
any_rises (at s e) = or-true (not (eqb 0 s))

pub fit_place_lem : (c n : ℕ) (K : List ℕ) (es : List Entry) → Formed c n (map edit_of es)
    → fit_from K 0 0 0 es ≡ fit_place K (map edit_of es)
unfolding fit_place
fit_place_lem c n K es F =
    fit_after c n K (map edit_of es) none [] es U (λ s. refl)
    ∙ from_start (suits K (map edit_of es)) (sound c n) rises follows
    (λ y d x g f r t. before_rises y x (before_trans y d x (before_of y d g r) (before_of d x f t)))
    (edit_of none) (map edit_of es) any_rises U
  where
    U : Unbroken (sound c n) follows [] (map edit_of es)
    U = record { each = F.each; past = λ y x k m. absurd (not-nil k); pairs = F.pairs }
