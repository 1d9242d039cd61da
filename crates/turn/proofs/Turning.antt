-- A turn by the entries that it reads: they lie in their slices, and their keys and kinds say which turn it is.
-- Assumes nothing.
use mathlib.Core.Path.{◌≡◌, refl, sym, ap, subst, ◌∙◌}
use mathlib.Core.Bool.{true}
use mathlib.Core.List.Memᴰ.{head as here}
use mathlib.Core.List.{List, ◌∷◌, Memᴰ as Mem}
use Prim.Native.Nat.{ℕ, ◌+◌, ◌*◌, ◌-◌, ◌≤◌, ◌<◌}
use native.Mathlib.Omega.{arith}
use lib.ListN.{length, get_or, drop, length-drop}
use lib.Dec.{eqb}
use Rattle.order.specs.Lists.{one}
use Rattle.order.proofs.Splice.{drop_mem}
use Rattle.words.specs.declared.Entry.{Entry}
use Rattle.model.specs.Layer.{Layer, rows_after, is_add, is_strike}
use Rattle.model.specs.Form.{sound}
use Rattle.model.specs.Raw.{entry_at, deed_of, edit_of, layer_of}
use Rattle.words.specs.Entry.{ADD, STRIKE}
use Rattle.model.specs.Meaning.{key_of}
use Rattle.head.specs.declared.Head.{Head}
use Rattle.head.specs.Head.{head_of}
use Rattle.entry.proofs.Looks.{left_step, left_end}
use Rattle.form.proofs.Accepted.{Accepted, accepted}
use Rattle.scan.proofs.ByKind.{add_kind, strike_kind}
use Rattle.woven.specs.declared.Meets.{Meets}
use Rattle.woven.specs.declared.Meets.TheVariants.{Lower, Patch}
use Rattle.woven.specs.Woven.{meet, meet_kinds, step_of, changes_ahead}
use Rattle.std.specs.Prelude.{Some}
use Rattle.turn.specs.declared.Place.{Place}
use Rattle.turn.specs.declared.Puts.TheVariants.{AsItIs, Changed}
use Rattle.meet.specs.Meet.{key_in, Keyed, meets_by}
use Rattle.turn.specs.Turn.{upper_at, turned, turn_of, Both, Walked}
use Rattle.meet.proofs.Entries.{meet_kinds_lem, key_head, position_upto, head_keyed}
use Rattle.meet.proofs.Ahead.{ahead_upto}

module _ {A : Type 0} where
  -- what a list goes on with from i on is in it
  pub first_in : (i : ℕ) (xs ys : List A) (x : A) → drop i xs ≡ x ∷ ys → Mem x xs
  first_in i xs ys x e = drop_mem i xs x (subst (λ (zs : List A). Mem x zs) (sym e) (here refl))

-- entry number i of a layer in form is sound
pub sound_here : {c n m : ℕ} {xs : List ℕ} {rows : ℕ} → Accepted c n m xs rows → (i : ℕ) → i < m
    → sound c n (edit_of (entry_at c (i * (c + 2)) xs)) ≡ true
sound_here {c} {n} {m} {xs} a i h =
    a.each _ (first_in i (layer_of c m xs) (drop (i + 1) (layer_of c m xs)) _ (left_step c m i xs h))

module _ {c : ℕ} {K N : List ℕ} {mR : ℕ} {r : List ℕ} {mW : ℕ} {w names : List ℕ} (B : Both c K N mR r mW w names) where
  pub low : Accepted c (length K) mR r (length N)
  low = accepted c (length K) mR r (length N) B.lower

  pub up : Accepted c (length N) mW w (rows_after (length N) (layer_of c mW w))
  up = accepted c (length N) mW w (rows_after (length N) (layer_of c mW w)) B.upper

  abbrev R : Layer
  R = layer_of c mR r

  abbrev W : Layer
  W = layer_of c mW w

  module _ {k : Place} (g : Walked K N R W k) where
    -- the counters stay small
    pub small : (k.i ≤ 512) × (k.j ≤ 512) × (k.m ≤ 1024) × (k.adds ≤ 512) × (k.strikes ≤ 512)
    small =
        let i : k.i ≤ 512 = omega (arith, g.lower_upto, low.size, low.held.entries) in
        let j : k.j ≤ 512 = omega (arith, g.upper_upto, up.size, up.held.entries) in
        (i, j, omega (arith, g.few), omega (arith, g.few_adds), omega (arith, g.few_strikes))

    module _ (l : k.j < mW) where
      abbrev F : Entry
      F = entry_at c (k.j * (c + 2)) w

      upper_left : drop k.j W ≡ edit_of F ∷ drop (k.j + 1) W
      upper_left = left_step c mW k.j w l

      pub upper_low : F.pos ≤ 4096
      upper_low = omega (arith, position_upto F c (length N) (sound_here up k.j l), up.base)

      -- nothing is left of the lower layer
      pub past_lower : mR ≤ k.i → upper_at ((F.pos + k.strikes) - k.adds) k ≡ turn_of K N k (drop k.i R) (drop k.j W)
      past_lower h = rw (left_end c mR k.i r h, upper_left)

      module _ (h : k.i < mR) where
        abbrev E : Entry
        E = entry_at c (k.i * (c + 2)) r

        pub lower_keyed : Keyed (head_of E) (length K)
        lower_keyed = head_keyed E c (length K) (sound_here low k.i h)

        -- by the key that the lower entry concerns, the turn t
        module _ (a : ℕ) (ea : a ≡ key_in K (head_of E)) (t : Meets)
            (et : t ≡ meets_by a (get_or names k.j 0) E.kind F.kind) where
          is_step : step_of K N (edit_of E) (edit_of F) ≡ t
          is_step =
              let ka : a ≡ key_of K (edit_of E) = ea ∙ key_head E K in
              let kb : get_or names k.j 0 ≡ key_of N (edit_of F) = B.named k.j l in
              let m : meet (deed_of E.kind E.vals) (deed_of F.kind F.vals) ≡ meet_kinds E.kind F.kind =
              sym (meet_kinds_lem E.kind F.kind E.vals F.vals) in
              rw (← ka, ← kb, m) (sym et)

          pub turns : turned k (edit_of E) (edit_of F) (drop (k.j + 1) W) t ≡ turn_of K N k (drop k.i R) (drop k.j W)
          turns = rw (left_step c mR k.i r h, upper_left, is_step)

        -- the lower layer's edit is left, by the head that was read
        pub lower_turned : (h : Head) → h ≡ head_of E → (x y : ℕ) → x ≡ one (eqb h.kind ADD)
            → y ≡ one (eqb h.kind STRIKE)
            → record {
              puts = Some AsItIs;
              to = record { i = k.i + 1; j = k.j; m = k.m + 1; adds = k.adds + x; strikes = k.strikes + y };
            } ≡ turned k (edit_of E) (edit_of F) (drop (k.j + 1) W) Lower
        lower_turned h eh x y ex ey =
            let a : x ≡ one (is_add (edit_of E)) =
            ex ∙ (ap (λ (d : Head). one (eqb d.kind ADD)) eh ∙ ap one (sym (add_kind E))) in
            let s : y ≡ one (is_strike (edit_of E)) =
            ey ∙ (ap (λ (d : Head). one (eqb d.kind STRIKE)) eh ∙ ap one (sym (strike_kind E))) in
            rw (a, s)

        -- it takes in the changes that were counted
        pub patch_turned : (n : ℕ) → n ≡ changes_ahead F.pos (drop k.j W)
            → record {
              puts = Some Changed;
              to = record { i = k.i + 1; j = k.j + n; m = k.m + 1; adds = k.adds + 1; strikes = k.strikes };
            } ≡ turned k (edit_of E) (edit_of F) (drop (k.j + 1) W) Patch
        patch_turned n e =
            let q : n ≡ changes_ahead F.pos (edit_of F ∷ drop (k.j + 1) W) = e ∙ ap (changes_ahead F.pos) upper_left in
            rw q

      pub ahead_few : k.j + changes_ahead F.pos (drop k.j W) ≤ 512
      ahead_few = omega (arith, ahead_upto F.pos (drop k.j W), length-drop k.j W, up.size, up.held.entries)
