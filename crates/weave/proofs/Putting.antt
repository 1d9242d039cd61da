-- The numbers of the entry that a turn leaves, and that there is room for them.
-- Assumes nothing.
use mathlib.Core.Path.{◌≡◌, refl, sym, ap, ◌∙◌}
use mathlib.Core.Bool.{Bool, true, false, ◌&&◌}
use mathlib.Core.List.{List, [], ◌∷◌, append-nil, Memᴰ as Mem}
use Prim.Native.Nat.{ℕ, ◌+◌, ◌*◌, ◌≤◌, ◌<◌}
use native.Mathlib.Nat.{zero-mul, suc-mul, add-mul, mul-le-mul}
use native.Mathlib.Omega.{arith}
use lib.ListN.{length, get_or, drop}
use lib.Dec.{leb, ltb, eqb}
use borrow.Author.Tests.{ltb-true, ltb-false, eqb-true}
use Rattle.order.proofs.Tests.{and_r}
use Rattle.words.specs.declared.Entry.{Entry}
use Rattle.model.specs.Cell.{CellEdit}
use Rattle.model.specs.Layer.{add, change, Edit, at, Layer, position}
use Rattle.model.specs.Raw.{entry_at, entries_of, edit_of, layer_of, numbers_of, flat}
use Rattle.words.specs.Entry.{ADD, STRIKE}
use Rattle.theory.proofs.Edits.{set_over}
use Rattle.entry.proofs.Looks.{entries_step, left_step, left_end, room_here}
use Rattle.form.proofs.Accepted.{Accepted, accepted}
use Rattle.scan.proofs.ByKind.{add_kind, edit_by}
use Rattle.form.proofs.Flat.{entry_numbers_lem}
use Rattle.scan.proofs.Laws.{vals_length}
use Rattle.woven.specs.Woven.{placed, patched, patched_add, fused}
use Rattle.std.specs.Prelude.{Option, Some, None}
use Rattle.turn.specs.declared.Place.{Place}
use Rattle.turn.specs.declared.Puts.{Puts}
use Rattle.turn.specs.declared.Puts.TheVariants.{AsItIs, UpperAt, Changed, Fused}
use Rattle.turn.specs.Turn.{left, Takes}
use Rattle.turn.proofs.Turning.{first_in}
use Rattle.weave.specs.Written.{Leaves}
use Rattle.weave.proofs.Patching.{patched_length}

-- the numbers of one edit
flat_one : (c : ℕ) (L : Layer) (x : Edit) (ys : List ℕ) → L ≡ x ∷ [] → numbers_of c x ≡ ys → flat c L ≡ ys
unfolding flat
flat_one c L x ys e n = rw e (append-nil (numbers_of c x) ∙ n)

pub flat_none : (c : ℕ) → flat c [] ≡ []
unfolding flat
flat_none c = refl

-- there is room for one entry more
one_more : (c m len : ℕ) (L : Layer) (x : Edit) → L ≡ x ∷ [] → (m + length L) * (c + 2) ≤ len → m * (c + 2) + (c + 2) ≤ len
one_more c m len L x e h =
    omega (
      arith,
      h,
      ap (λ (k : ℕ). (m + k) * (c + 2)) (ap length e),
      add-mul m 1 (c + 2),
      suc-mul 0 (c + 2),
      zero-mul (c + 2),
    )

-- entry number i of a layer in form, at another position
entry_here : {c n m : ℕ} {xs : List ℕ} {rows : ℕ} → Accepted c n m xs rows → (i : ℕ) → i < m → (p : ℕ)
    → let e = entry_at c (i * (c + 2)) xs in numbers_of c (placed p (edit_of e)) ≡ p ∷ e.kind ∷ e.vals
entry_here {c} {n} {m} {xs} a i h p =
    let e = entry_at c (i * (c + 2)) xs in
    entry_numbers_lem c (record { pos = p; kind = e.kind; vals = e.vals })
    (vals_length c (i * (c + 2)) xs (room_here c m i xs a.held h)) a.held.some
    (a.zeroed e (first_in i (entries_of c m xs) (drop (i + 1) (entries_of c m xs)) e (entries_step c m i xs h)))

-- an entry that changes a cell sets it: what the lower layer does to the cell is forgotten
sets : (e : Edit) (f : Entry) → fused e (edit_of f) ≡ placed (position e) (edit_of f)
sets (at p d) f = by (eqb f.kind ADD) (eqb f.kind STRIKE)
  where
    by : (a b : Bool) → fused (at p d) (edit_by a b f) ≡ placed p (edit_by a b f)
    by true b = refl
    by false true = refl
    by false false = ap (λ (e : CellEdit). at p (change f.kind e)) (set_over f.kind (get_or f.vals 0 0) d)

-- an entry is left: it is there
inside : (i m : ℕ) → (m ≤ i → ⊥) → i < m
inside i m h = by (ltb i m) refl
  where
    by : (t : Bool) → ltb i m ≡ t → i < m
    by true e = ltb-true i m e
    by false e = absurd (h (ltb-false i m e))

module _ {write : Bool} {c mR : ℕ} {r : List ℕ} {mW : ℕ} {w : List ℕ} {k : Place} {puts : Option Puts} {len : ℕ}
    (g : Leaves write c mR r mW w k puts len) where
  pub low : Accepted c g.lower.over mR r g.lower.rows
  low = accepted c g.lower.over mR r g.lower.rows g.lower.form

  pub up : Accepted c g.upper.over mW w g.upper.rows
  up = accepted c g.upper.over mW w g.upper.rows g.upper.form

  pub offset : k.m * (c + 2) ≤ 10240
  offset = mul-le-mul {n₁ = k.m} {m₁ = c + 2} {n₂ = 1024} {m₂ = 10} g.few (omega (arith, low.held.columns))

  -- the changes of the upper layer are of columns of a row
  pub columns : (s j : ℕ) (e : CellEdit) → Mem (at s (change j e)) (layer_of c mW w) → j < c
  columns s j e q =
      ltb-true j c (and_r (leb 1 j) (ltb j c) (and_r (ltb s g.upper.over) (leb 1 j && ltb j c)
      (up.each (at s (change j e)) q)))

-- what is written from m entries on where the walk writes: the numbers of one entry
pub record Entered (write : Bool) (c : ℕ) (L : Layer) (m len : ℕ) (ys : List ℕ) : Type 0 where
  pub numbers : flat c L ≡ ys
  pub width : length ys ≡ c + 2
  pub single : length L ≡ 1
  pub space : write ≡ true → m * (c + 2) + (c + 2) ≤ len

module _ (write : Bool) (c mR : ℕ) (r : List ℕ) (mW : ℕ) (w : List ℕ) (k : Place) (len : ℕ) where
  abbrev R : Layer
  R = layer_of c mR r

  abbrev W : Layer
  W = layer_of c mW w

  abbrev E : Entry
  E = entry_at c (k.i * (c + 2)) r

  abbrev F : Entry
  F = entry_at c (k.j * (c + 2)) w

  -- the lower layer's entry as it is
  module _ (g : Leaves write c mR r mW w k (Some AsItIs) len) where
    pub lower_in : k.i < mR
    lower_in = inside k.i mR (λ h. rw (left_end c mR k.i r h) at g.takes)

    lower_room : k.i * (c + 2) + (c + 2) ≤ length r
    lower_room = room_here c mR k.i r (low g).held lower_in

    pub lower_put : Entered write c (left (Some AsItIs) (drop k.i R) (drop k.j W)) k.m len (E.pos ∷ E.kind ∷ E.vals)
    lower_put =
        let L = left (Some AsItIs) (drop k.i R) (drop k.j W) in
        let e : L ≡ edit_of E ∷ [] = rw (left_step c mR k.i r lower_in) in
        record {
          numbers = flat_one c L (edit_of E) (E.pos ∷ E.kind ∷ E.vals) e (entry_here (low g) k.i lower_in E.pos);
          width = omega (arith, vals_length c (k.i * (c + 2)) r lower_room);
          single = ap length e;
          space = λ h. one_more c k.m len L (edit_of E) e (g.room h);
        }

  -- the upper layer's entry at a position
  module _ (p : ℕ) (g : Leaves write c mR r mW w k (Some (UpperAt p)) len) where
    pub upper_in : k.j < mW
    upper_in = inside k.j mW (λ h. rw (left_end c mW k.j w h) at g.takes)

    upper_room : k.j * (c + 2) + (c + 2) ≤ length w
    upper_room = room_here c mW k.j w (up g).held upper_in

    pub upper_put : Entered write c (left (Some (UpperAt p)) (drop k.i R) (drop k.j W)) k.m len (p ∷ F.kind ∷ F.vals)
    upper_put =
        let L = left (Some (UpperAt p)) (drop k.i R) (drop k.j W) in
        let e : L ≡ placed p (edit_of F) ∷ [] = rw (left_step c mW k.j w upper_in) in
        record {
          numbers = flat_one c L (placed p (edit_of F)) (p ∷ F.kind ∷ F.vals) e (entry_here (up g) k.j upper_in p);
          width = omega (arith, vals_length c (k.j * (c + 2)) w upper_room);
          single = ap length e;
          space = λ h. one_more c k.m len L (placed p (edit_of F)) e (g.room h);
        }

  -- where a turn takes an edit of each layer, both are there
  module _ {puts : Option Puts} (g : Leaves write c mR r mW w k puts len) (upper : (X : Layer) → Takes puts X [] → ⊥)
      (lower : (f : Edit) (Y : Layer) → Takes puts [] (f ∷ Y) → ⊥) where
    both_there : (k.i < mR) × (k.j < mW)
    both_there =
        let j = inside k.j mW (λ h. upper (drop k.i R) (rw (left_end c mW k.j w h) at g.takes)) in
        let no : mR ≤ k.i → ⊥ = λ h.
        lower (edit_of F) (drop (k.j + 1) W) (rw (left_step c mW k.j w j, left_end c mR k.i r h) at g.takes) in
        (inside k.i mR no, j)

    room_there : (k.i * (c + 2) + (c + 2) ≤ length r) × (k.j * (c + 2) + (c + 2) ≤ length w)
    room_there =
        (room_here c mR k.i r (low g).held both_there.0, room_here c mW k.j w (up g).held both_there.1)

  -- the lower layer's added row with the upper's changes
  module _ (g : Leaves write c mR r mW w k (Some Changed) len) where
    pub both_in : (k.i < mR) × (k.j < mW)
    both_in = both_there g (λ X h. h) (λ f Y h. h)

    pub both_room : (k.i * (c + 2) + (c + 2) ≤ length r) × (k.j * (c + 2) + (c + 2) ≤ length w)
    both_room = room_there g (λ X h. h) (λ f Y h. h)

    abbrev patch : List ℕ
    patch = patched F.pos (drop k.j W) E.vals

    pub changed_put : Entered write c (left (Some Changed) (drop k.i R) (drop k.j W)) k.m len (E.pos ∷ E.kind ∷ patch)
    changed_put =
        let pe = left_step c mR k.i r both_in.0 in
        let pf = left_step c mW k.j w both_in.1 in
        let L = left (Some Changed) (drop k.i R) (drop k.j W) in
        let x = patched_add F.pos (drop k.j W) (edit_of E) in
        let e : L ≡ x ∷ [] = rw (pe, pf) in
        let a : eqb E.kind ADD ≡ true = sym (add_kind E) ∙ (rw (pe, pf) at g.takes) in
        let q : edit_of E ≡ at E.pos (add E.vals) = rw a in
        record {
          numbers = flat_one c L x (E.pos ∷ E.kind ∷ patch) e
              (ap (λ (y : Edit). numbers_of c (patched_add F.pos (drop k.j W) y)) q
              ∙ ap (λ (n : ℕ). E.pos ∷ n ∷ patch) (sym (eqb-true E.kind ADD a)));
          width = omega (
            arith,
            patched_length F.pos (drop k.j W) E.vals,
            vals_length c (k.i * (c + 2)) r both_room.0,
          );
          single = ap length e;
          space = λ h. one_more c k.m len L x e (g.room h);
        }

  -- the upper layer's change over the lower's
  module _ (g : Leaves write c mR r mW w k (Some Fused) len) where
    pub fused_in : (k.i < mR) × (k.j < mW)
    fused_in = both_there g (λ X h. h) (λ f Y h. h)

    fused_room : (k.i * (c + 2) + (c + 2) ≤ length r) × (k.j * (c + 2) + (c + 2) ≤ length w)
    fused_room = room_there g (λ X h. h) (λ f Y h. h)

    pub fused_put : Entered write c (left (Some Fused) (drop k.i R) (drop k.j W)) k.m len (E.pos ∷ F.kind ∷ F.vals)
    fused_put =
        let L = left (Some Fused) (drop k.i R) (drop k.j W) in
        let x = placed E.pos (edit_of F) in
        let e : L ≡ x ∷ [] =
        rw (left_step c mR k.i r fused_in.0, left_step c mW k.j w fused_in.1)
        (ap (λ (y : Edit). y ∷ []) (sets (edit_of E) F)) in
        record {
          numbers = flat_one c L x (E.pos ∷ F.kind ∷ F.vals) e (entry_here (up g) k.j fused_in.1 E.pos);
          width = omega (arith, vals_length c (k.j * (c + 2)) w fused_room.1);
          single = ap length e;
          space = λ h. one_more c k.m len L x e (g.room h);
        }

wide : (c : ℕ) {write : Bool} {L : Layer} {m len : ℕ} {ys : List ℕ} → Entered write c L m len ys → length (flat c L) ≡ length L * (c + 2)
wide c {write} {L} e =
    omega (
      arith,
      ap length e.numbers,
      e.width,
      ap (λ (n : ℕ). n * (c + 2)) e.single,
      suc-mul 0 (c + 2),
      zero-mul (c + 2),
    )

-- as many numbers as entries have
pub left_wide : {write : Bool} {c mR : ℕ} {r : List ℕ} {mW : ℕ} {w : List ℕ} {k : Place} (puts : Option Puts) {len : ℕ}
    → Leaves write c mR r mW w k puts len
    → let L = left puts (drop k.i (layer_of c mR r)) (drop k.j (layer_of c mW w)) in
    length (flat c L) ≡ length L * (c + 2)
unfolding flat
left_wide {write} {c} {mR} {r} {mW} {w} {k} None {len} g = sym (zero-mul (c + 2))
left_wide {write} {c} {mR} {r} {mW} {w} {k} (Some AsItIs) {len} g = wide c (lower_put write c mR r mW w k len g)
left_wide {write} {c} {mR} {r} {mW} {w} {k} (Some (UpperAt p)) {len} g = wide c (upper_put write c mR r mW w k len p g)
left_wide {write} {c} {mR} {r} {mW} {w} {k} (Some Changed) {len} g = wide c (changed_put write c mR r mW w k len g)
left_wide {write} {c} {mR} {r} {mW} {w} {k} (Some Fused) {len} g = wide c (fused_put write c mR r mW w k len g)
