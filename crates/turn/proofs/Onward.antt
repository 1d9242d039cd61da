-- The walk goes on behind a turn: the edits that it leaves, and then what the walk leaves of the rest.
-- Assumes nothing.
use mathlib.Core.Path.{◌≡◌, refl, sym, ap, subst, ◌∙◌}
use mathlib.Core.Bool.{Bool, true, false, cond}
use mathlib.Core.List.{List, ◌∷◌, ◌++◌}
use Prim.Native.Nat.{ℕ, ◌+◌, ◌-◌, ◌≤◌, ◌<◌}
use native.Mathlib.Numerals.{add-one}
use native.Mathlib.Omega.{arith}
use lib.ListN.{length, get_or, drop, length-append, length-drop, drop_of_length-le}
use lib.Seq.{drop-cons, drop-drop}
use lib.Dec.{ltb, eqb}
use borrow.Author.Tests.{ltb-true, ltb-false}
use Rattle.order.proofs.Tests.{impossible, one_le}
use Rattle.model.specs.Layer.{Deed, add, strike, change, Edit, at, Layer, position, is_add, is_strike}
use Rattle.model.specs.Meaning.{key_of}
use Rattle.woven.specs.declared.Meets.{Meets}
use Rattle.woven.specs.declared.Meets.TheVariants.{Lower, Upper, UpperHere, Drop, Vanish, Patch, Fuse}
use Rattle.woven.specs.Woven.{deed, meet, step_of, rebased, changes_ahead, goes_on, walk, woven_layer}
use Rattle.woven.proofs.Walking.{walk_on, walk_lower, walk_upper}
use Rattle.turn.specs.declared.Place.{Place}
use Rattle.turn.specs.declared.Turn.{Turn}
use Rattle.turn.specs.Turn.{outset, upper_at, turned, turn_of, left, Takes, Walked}
use Rattle.meet.proofs.Ahead.{ahead_upto}

-- what a turn t from the place k leaves
pub record Next (K N : List ℕ) (R W : Layer) (k : Place) (t : Turn) : Type 0 where
  pub leaves : walk K N k.adds k.strikes (drop k.i R) (drop k.j W)
      ≡ left t.puts (drop k.i R) (drop k.j W)
      ++ walk K N t.to.adds t.to.strikes (drop t.to.i R) (drop t.to.j W)
  pub takes : Takes t.puts (drop k.i R) (drop k.j W)
  pub counts : t.to.m ≡ k.m + length (left t.puts (drop k.i R) (drop k.j W))
  pub lower_upto : t.to.i ≤ length R
  pub upper_upto : t.to.j ≤ length W
  pub further : k.i + k.j < t.to.i + t.to.j
  pub few : t.to.m + (k.i + k.j) ≤ k.m + (t.to.i + t.to.j)
  pub few_adds : t.to.adds + k.i ≤ k.adds + t.to.i
  pub few_strikes : t.to.strikes + k.i ≤ k.strikes + t.to.i

-- the edit that a layer goes on with
abbrev edit : Layer → ℕ → Edit
edit L i = get_or L i (at 0 (strike 0))

goes_on_with : (L : Layer) (i : ℕ) → i < length L → drop i L ≡ edit L i ∷ drop (i + 1) L
goes_on_with L i h =
    drop-cons L i (at 0 (strike 0)) h ∙ ap (λ (n : ℕ). edit L i ∷ drop n L) (sym (add-one i))

-- only an added row takes changes in
meet_patch : (d x : Deed) → meet d x ≡ Patch → (s : ℕ) → is_add (at s d) ≡ true
meet_patch (add q) x h s = refl
meet_patch (strike l) (add r) h s = impossible (cc)
meet_patch (strike l) (strike k) h s = impossible (cc)
meet_patch (strike l) (change j e) h s = impossible (cc)
meet_patch (change i g) (add r) h s = impossible (cc)
meet_patch (change i g) (strike k) h s = impossible (cc)
meet_patch (change i g) (change j e) h s = by (ltb i j) (eqb i j) h
  where
    by : (a b : Bool) → cond a Lower (cond b Fuse UpperHere) ≡ Patch → false ≡ true
    by true b z = impossible (cc)
    by false true z = impossible (cc)
    by false false z = impossible (cc)

takes_in : (K N : List ℕ) (e f : Edit) → step_of K N e f ≡ Patch → is_add e ≡ true
takes_in K N (at s d) f h = by (ltb (key_of K (at s d)) (key_of N f)) (ltb (key_of N f) (key_of K (at s d))) h
  where
    by : (a b : Bool) → cond a Lower (cond b Upper (meet d (deed f))) ≡ Patch → is_add (at s d) ≡ true
    by true b z = impossible (cc)
    by false true z = impossible (cc)
    by false false z = meet_patch d (deed f) z s

module _ {K N : List ℕ} {R W : Layer} {k : Place} (g : Walked K N R W k) where
  -- the walk stands behind the turn
  pub walked_on : {t : Turn} → Next K N R W k t → Walked K N R W t.to
  walked_on {t} n =
      let xs = left t.puts (drop k.i R) (drop k.j W) in
      let rest = walk K N t.to.adds t.to.strikes (drop t.to.i R) (drop t.to.j W) in
      record {
        lower_upto = n.lower_upto;
        upper_upto = n.upper_upto;
        few = omega (arith, g.few, n.few);
        few_adds = omega (arith, g.few_adds, n.few_adds);
        few_strikes = omega (arith, g.few_strikes, n.few_strikes);
        entries = g.entries ∙ (ap (λ (L : Layer). k.m + length L) n.leaves
            ∙ omega (arith, length-append xs rest, n.counts));
      }

  -- nothing is left of the upper layer
  pub walk_done : length W ≤ k.j → walk K N k.adds k.strikes (drop k.i R) (drop k.j W) ≡ drop k.i R
  walk_done h = rw (drop_of_length-le W {i = k.j} h) (walk_lower K N k.adds k.strikes (drop k.i R))

  pub all_counted : length W ≤ k.j → length (woven_layer K N R W) ≡ k.m + (length R - k.i)
  all_counted h =
      g.entries ∙ (ap (λ (L : Layer). k.m + length L) (walk_done h) ∙ ap (λ (n : ℕ). k.m + n) (length-drop k.i R))

  module _ (l : k.j < length W) where
    abbrev f : Edit
    f = edit W k.j

    abbrev W' : Layer
    W' = drop (k.j + 1) W

    pf : drop k.j W ≡ f ∷ W'
    pf = goes_on_with W k.j l

    -- the upper layer's edit is left at p
    upper_on : (p : ℕ)
        → walk K N k.adds k.strikes (drop k.i R) (drop k.j W)
        ≡ left (upper_at p k).puts (drop k.i R) (drop k.j W)
        ++ walk K N k.adds k.strikes (drop k.i R) W'
        → Next K N R W k (upper_at p k)
    upper_on p e = record {
      leaves = e;
      takes = rw pf tt;
      counts = rw pf;
      lower_upto = g.lower_upto;
      upper_upto = omega arith;
      further = omega arith;
      few = omega arith;
      few_adds = omega arith;
      few_strikes = omega arith;
    }

    past_lower : length R ≤ k.i → Next K N R W k (upper_at ((position f + k.strikes) - k.adds) k)
    past_lower h =
        let z = drop_of_length-le R {i = k.i} h in
        let u = walk_upper K N k.adds k.strikes in
        upper_on ((position f + k.strikes) - k.adds)
        (rw (z, pf) (u (f ∷ W') ∙ ap (λ (L : Layer). rebased k.adds k.strikes f ∷ L) (sym (u W'))))

    module _ (h : k.i < length R) where
      abbrev e : Edit
      e = edit R k.i

      abbrev R' : Layer
      R' = drop (k.i + 1) R

      pe : drop k.i R ≡ e ∷ R'
      pe = goes_on_with R k.i h

      by : (t : Meets) → step_of K N e f ≡ t → Next K N R W k (turned k e f W' t)
      by t st =
          go t st (walk_on K N k.adds k.strikes e f R' W' ∙ ap (goes_on (walk K N) k.adds k.strikes e f R' W') st)
        where
          go : (t : Meets) → step_of K N e f ≡ t
              → walk K N k.adds k.strikes (e ∷ R') (f ∷ W') ≡ goes_on (walk K N) k.adds k.strikes e f R' W' t
              → Next K N R W k (turned k e f W' t)
          go Lower st q = record {
            leaves = rw (pe, pf) q;
            takes = rw pe tt;
            counts = rw pe;
            lower_upto = omega arith;
            upper_upto = omega arith;
            further = omega arith;
            few = omega arith;
            few_adds = omega (arith, one_le (is_add e));
            few_strikes = omega (arith, one_le (is_strike e));
          }
          go Upper st q = upper_on ((position f + k.strikes) - k.adds) (rw (pe, pf) q)
          go UpperHere st q = upper_on (position e) (rw (pe, pf) q)
          go Drop st q = record {
            leaves = rw (pe, pf) q;
            takes = tt;
            counts = omega arith;
            lower_upto = omega arith;
            upper_upto = omega arith;
            further = omega arith;
            few = omega arith;
            few_adds = omega arith;
            few_strikes = omega arith;
          }
          go Vanish st q = record {
            leaves = rw (pe, pf) q;
            takes = tt;
            counts = omega arith;
            lower_upto = omega arith;
            upper_upto = omega arith;
            further = omega arith;
            few = omega arith;
            few_adds = omega arith;
            few_strikes = omega arith;
          }
          go Patch st q =
              let n = changes_ahead (position f) (f ∷ W') in
              let m : n ≤ length (drop k.j W) = rw pf (ahead_upto (position f) (f ∷ W')) in
              let d : drop (k.j + n) W ≡ drop n (f ∷ W') = sym (drop-drop n k.j W) ∙ ap (drop n) pf in
              record {
                leaves = rw (pe, pf, d) q;
                takes = rw (pe, pf) (takes_in K N e f st);
                counts = rw (pe, pf);
                lower_upto = omega arith;
                upper_upto = omega (arith, m, length-drop k.j W);
                further = omega arith;
                few = omega arith;
                few_adds = omega arith;
                few_strikes = omega arith;
              }
          go Fuse st q = record {
            leaves = rw (pe, pf) q;
            takes = rw (pe, pf) tt;
            counts = rw (pe, pf);
            lower_upto = omega arith;
            upper_upto = omega arith;
            further = omega arith;
            few = omega arith;
            few_adds = omega arith;
            few_strikes = omega arith;
          }

    pub next_of : (t : Turn) → t ≡ turn_of K N k (drop k.i R) (drop k.j W) → Next K N R W k t
    next_of t q = subst (Next K N R W k) (sym q) (cases (ltb k.i (length R)) refl)
      where
        cases : (b : Bool) → ltb k.i (length R) ≡ b → Next K N R W k (turn_of K N k (drop k.i R) (drop k.j W))
        cases true z =
            let h = ltb-true k.i (length R) z in
            rw (pe h, pf) (by h (step_of K N (e h) f) refl)
        cases false z =
            let h = ltb-false k.i (length R) z in
            rw (drop_of_length-le R {i = k.i} h, pf) (past_lower h)

-- before all entries
pub sets_out : (K N : List ℕ) (R W : Layer) → Walked K N R W outset
sets_out K N R W = record {
  lower_upto = omega arith;
  upper_upto = omega arith;
  few = omega arith;
  few_adds = omega arith;
  few_strikes = omega arith;
  entries = omega arith;
}
