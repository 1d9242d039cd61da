-- The walk that writes what it leaves: the state of its loop, what each turn does to it, and its end.
-- Assumes nothing.
use mathlib.Core.Path.{◌≡◌, refl, sym, ap, subst, ◌∙◌}
use mathlib.Core.Bool.{Bool, true, false}
use mathlib.Core.List.Memᴰ.{head as here}
use mathlib.Core.List.Memᴰ.{tail as next}
use mathlib.Core.List.{List, [], ◌∷◌, ◌++◌, append_assoc, Memᴰ as Mem}
use Prim.Native.Nat.{ℕ, zero, suc, ◌+◌, ◌*◌, ◌-◌, ◌≤◌}
use native.Mathlib.Nat.{zero-mul, suc-mul, add-mul, mul-le-mul_right}
use native.Mathlib.Omega.{arith}
use lib.ListN.{length, take, drop, length-append, length-drop, length-take, take-append-drop}
use lib.Seq.{length-take-le, drop-nil, drop_at, drop-drop}
use Rattle.order.proofs.Splice.{part}
use Rattle.model.specs.Layer.{Edit, Layer}
use Rattle.model.specs.Raw.{layer_of, numbers_of, flat}
use Rattle.theory.proofs.Readback.{sound_wide}
use Rattle.form.proofs.Accepted.{Accepted}
use Rattle.woven.specs.Woven.{walk, woven_layer}
use Rattle.turn.specs.declared.Place.{Place}
use Rattle.turn.specs.declared.Turn.{Turn}
use Rattle.turn.specs.Turn.{outset, left, Walked}
use Rattle.turn.proofs.Onward.{Next, sets_out, walked_on, walk_done, all_counted}
use Rattle.weave.specs.Written.{Put, PutIf, Woven, WovenIf}
use Rattle.weave.proofs.Buffer.{front_on, behind_on}

-- the numbers of layers one behind the other, and of a layer from entry i on
flat_append : (c : ℕ) (L M : Layer) → flat c (L ++ M) ≡ flat c L ++ flat c M
unfolding flat
flat_append c [] M = refl
flat_append c (e ∷ L) M = ap (λ (t : List ℕ). numbers_of c e ++ t) (flat_append c L M)
    ∙ sym (append_assoc (numbers_of c e) (flat c L) (flat c M))

flat_drop : (c i : ℕ) (L : Layer) → ((e : Edit) → Mem e L → length (numbers_of c e) ≡ c + 2)
    → flat c (drop i L) ≡ drop (i * (c + 2)) (flat c L)
unfolding flat
flat_drop c zero L w = rw zero-mul
flat_drop c (suc i) [] w = sym (drop-nil (suc i * (c + 2)))
flat_drop c (suc i) (e ∷ L) w =
    let n : suc i * (c + 2) ≡ (c + 2) + i * (c + 2) = omega (arith, suc-mul i (c + 2)) in
    flat_drop c i L (λ d m. w d (next m))
    ∙ sym (ap (λ (k : ℕ). drop k (numbers_of c e ++ flat c L)) n
    ∙ (sym (drop-drop (i * (c + 2)) (c + 2) (numbers_of c e ++ flat c L))
    ∙ ap (drop (i * (c + 2))) (drop_at (numbers_of c e) (flat c L) (c + 2) (w e (here refl)))))

-- the numbers from entry i on of a layer in form, as they lie in the slice
pub rest_numbers : {c n m : ℕ} {xs : List ℕ} {rows : ℕ} → Accepted c n m xs rows → (i : ℕ)
    → flat c (drop i (layer_of c m xs)) ≡ take (m * (c + 2) - i * (c + 2)) (drop (i * (c + 2)) xs)
rest_numbers {c} {n} {m} {xs} a i =
    flat_drop c i (layer_of c m xs) (λ e q. sound_wide c n a.held.some e (a.each e q))
    ∙ (ap (drop (i * (c + 2))) a.numbers ∙ sym (part (i * (c + 2)) (m * (c + 2)) xs))

-- the walk stands there, its m edits are written at the front, and behind them stands what stood there at first
pub record Walking (c : ℕ) (K N : List ℕ) (R W : Layer) (out₀ : List ℕ) (k : Place) (out : List ℕ) : Type 0 where
  pub walked : Walked K N R W k
  pub size : length out ≡ length out₀
  pub front : flat c (woven_layer K N R W)
      ≡ take (k.m * (c + 2)) out ++ flat c (walk K N k.adds k.strikes (drop k.i R) (drop k.j W))
  pub behind : drop (k.m * (c + 2)) out ≡ drop (k.m * (c + 2)) out₀

pub set_out : (c : ℕ) (K N : List ℕ) (R W : Layer) (out : List ℕ) → Walking c K N R W out outset out
set_out c K N R W out = record {
  walked = sets_out K N R W;
  size = refl;
  front = rw zero-mul;
  behind = refl;
}

module _ {c : ℕ} {K N : List ℕ} {R W : Layer} {out₀ : List ℕ} (space : length (woven_layer K N R W) * (c + 2) ≤ length out₀)
    {k : Place} {out : List ℕ} (g : Walking c K N R W out₀ k out) where
  abbrev whole : Layer
  whole = woven_layer K N R W

  pub offset : k.m * (c + 2) ≤ length out
  offset =
      omega (
        arith,
        space,
        g.size,
        mul-le-mul_right {m = k.m} {n = length whole} (c + 2) (omega (arith, g.walked.entries)),
      )

  module _ {t : Turn} (n : Next K N R W k t) where
    abbrev xs : Layer
    xs = left t.puts (drop k.i R) (drop k.j W)

    abbrev rest : Layer
    rest = walk K N t.to.adds t.to.strikes (drop t.to.i R) (drop t.to.j W)

    -- there is room for what the turn leaves
    pub room_for : (k.m + length xs) * (c + 2) ≤ length out
    room_for =
        omega (
          arith,
          space,
          g.size,
          mul-le-mul_right {m = k.m + length xs} {n = length whole} (c + 2)
              (omega (arith, g.walked.entries, ap length n.leaves, length-append xs rest)),
        )

    -- it is written
    pub on : (new : List ℕ) → length (flat c xs) ≡ length xs * (c + 2) → Put (flat c xs) out (k.m * (c + 2)) new
        → Walking c K N R W out₀ t.to new
    on new wide put =
        let o : k.m * (c + 2) + length (flat c xs) ≡ t.to.m * (c + 2) =
        omega (arith, wide, add-mul k.m (length xs) (c + 2), ap (λ (i : ℕ). i * (c + 2)) n.counts) in
        let f : flat c whole ≡ take (k.m * (c + 2)) out ++ (flat c xs ++ flat c rest) =
        g.front ∙ ap (λ (ys : List ℕ). take (k.m * (c + 2)) out ++ ys) (ap (flat c) n.leaves ∙ flat_append c xs rest) in
        record {
          walked = walked_on g.walked n;
          size = put.size ∙ g.size;
          front = front_on (flat c whole) (flat c xs) (flat c rest) out new (k.m * (c + 2)) f put
              ∙ ap (λ (i : ℕ). take i new ++ flat c rest) o;
          behind = behind_on (flat c xs) out₀ out new (k.m * (c + 2)) (t.to.m * (c + 2)) o g.behind put;
        }

  -- nothing is left of the upper layer: there is room for the rest of the lower one
  pub rest_room : length W ≤ k.j → (m : ℕ) (xs : List ℕ) → length R ≡ m → m * (c + 2) ≤ length xs
      → k.m * (c + 2) + length (take (m * (c + 2) - k.i * (c + 2)) (drop (k.i * (c + 2)) xs)) ≤ length out
  rest_room h m xs e r =
      let n : k.i + (m - k.i) ≡ m = omega (arith, g.walked.lower_upto) in
      let t : length whole ≡ k.m + (m - k.i) = all_counted g.walked h ∙ ap (λ (i : ℕ). k.m + (i - k.i)) e in
      omega (
        arith,
        length-take (m * (c + 2) - k.i * (c + 2)) (drop (k.i * (c + 2)) xs),
        length-drop (k.i * (c + 2)) xs,
        sym (add-mul k.i (m - k.i) (c + 2)) ∙ ap (λ (i : ℕ). i * (c + 2)) n,
        ap (λ (i : ℕ). i * (c + 2)) t ∙ add-mul k.m (m - k.i) (c + 2),
        space,
        g.size,
      )

  -- and it is written
  pub ended : length W ≤ k.j → (ys new : List ℕ) → flat c (drop k.i R) ≡ ys → Put ys out (k.m * (c + 2)) new
      → Woven c whole (k.m + (length R - k.i)) out₀ new
  ended h ys new e put =
      let o = k.m * (c + 2) in
      let f : flat c whole ≡ take o out ++ ys =
      g.front ∙ ap (λ (t : List ℕ). take o out ++ t) (ap (flat c) (walk_done g.walked h) ∙ e) in
      let n : o + length ys ≡ length (flat c whole) =
      omega (arith, ap length f, length-append (take o out) ys, length-take-le o out offset) in
      let p : take (length (flat c whole)) new ≡ flat c whole =
      ap (λ (t : ℕ). take t new) (sym n) ∙ (put.front ∙ sym f) in
      record {
        size = put.size ∙ g.size;
        entries = all_counted g.walked h;
        all = sym (take-append-drop (length (flat c whole)) new)
            ∙ (λ i. p i ++ behind_on ys out₀ out new o (length (flat c whole)) n g.behind put i);
      }

-- a walk that writes where it is asked to: the state of its loop
pub record Going (write : Bool) (c : ℕ) (K N : List ℕ) (R W : Layer) (out₀ : List ℕ) (k : Place) (out : List ℕ) : Type 0 where
  pub walked : Walked K N R W k
  pub wrote : write ≡ true → Walking c K N R W out₀ k out
  pub kept : write ≡ false → out ≡ out₀

pub go_out : (write : Bool) (c : ℕ) (K N : List ℕ) (R W : Layer) (out : List ℕ) → Going write c K N R W out outset out
go_out write c K N R W out = record {
  walked = sets_out K N R W;
  wrote = λ _. set_out c K N R W out;
  kept = λ _. refl;
}

module _ {write : Bool} {c : ℕ} {K N : List ℕ} {R W : Layer} {out₀ : List ℕ}
    (space : write ≡ true → length (woven_layer K N R W) * (c + 2) ≤ length out₀)
    {k : Place} {out : List ℕ} (g : Going write c K N R W out₀ k out) where
  pub go_on_lem : {t : Turn} (n : Next K N R W k t) (new : List ℕ) →
      let xs = left t.puts (drop k.i R) (drop k.j W) in
      length (flat c xs) ≡ length xs * (c + 2) → PutIf write (flat c xs) out (k.m * (c + 2)) new
      → Going write c K N R W out₀ t.to new
  go_on_lem n new wide put = record {
    walked = walked_on g.walked n;
    wrote = λ h. on (space h) (g.wrote h) n new wide (put.wrote h);
    kept = λ h. put.kept h ∙ g.kept h;
  }

  pub went : length W ≤ k.j → (m : ℕ) → length R ≡ m → (ys new : List ℕ) → flat c (drop k.i R) ≡ ys
      → PutIf write ys out (k.m * (c + 2)) new
      → WovenIf write c (woven_layer K N R W) (k.m + (m - k.i)) out₀ new
  went h m l ys new e put =
      let n : k.m + (length R - k.i) ≡ k.m + (m - k.i) = ap (λ (i : ℕ). k.m + (i - k.i)) l in
      record {
        entries = all_counted g.walked h ∙ n;
        wrote = λ b. subst (λ (i : ℕ). Woven c (woven_layer K N R W) i out₀ new) n
            (ended (space b) (g.wrote b) h ys new e (put.wrote b));
        kept = λ b. put.kept b ∙ g.kept b;
      }

-- written or not, the slice keeps its length
pub woven_size : (write : Bool) {c : ℕ} {M : Layer} {m : ℕ} {old new : List ℕ} → WovenIf write c M m old new
    → length new ≡ length old
woven_size true g = (g.wrote refl).size
woven_size false g = ap length (g.kept refl)
