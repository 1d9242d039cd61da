-- The walk along two layers leaves, for each key, the deeds of both joined, each at its key's position, by key: so it
-- is the combination.
-- Assumes nothing.
use mathlib.Core.Path.{◌≡◌, refl, sym, ap, subst, ◌∙◌}
use mathlib.Core.Logic.{◌⊎◌, inl, inr}
use mathlib.Core.Bool.{Bool, true, false, cond, true≢false}
use mathlib.Core.List.Memᴰ.{head as here}
use mathlib.Core.List.Memᴰ.{not-nil}
use mathlib.Core.List.Memᴰ.{tail as next}
use mathlib.Core.List.{
  List,
  [],
  ◌∷◌,
  map,
  Memᴰ as Mem,
}
use Prim.Native.Nat.{ℕ, zero, suc, ◌+◌, ◌-◌, ◌≤◌, ◌<◌}
use native.Mathlib.Omega.{arith}
use lib.ListN.{length, get_or, drop, length-drop}
use lib.Dec.{ltb, eqb}
use borrow.Author.Tests.{ltb-true, ltb-false, eqb-true, eqb-false, eq-eqb, ne_eqb, lt-ltb}
use Rattle.order.specs.Lists.{one, count}
use Rattle.order.proofs.Tests.{impossible, tests, one_lt, one_ge}
use Rattle.order.proofs.Counts.{count_zero}
use Rattle.order.proofs.Pairs.{AllPairs}
use Rattle.model.specs.Row.{Row, key}
use Rattle.model.specs.Cell.{CellEdit, put}
use Rattle.model.specs.Layer.{Deed, add, strike, change, Edit, at, Layer, position, is_add, is_strike}
use Rattle.model.specs.Fit.{keys_below}
use Rattle.model.specs.Meaning.{key_of, meaning}
use Rattle.theory.proofs.Cell.{put_key_lem}
use Rattle.theory.proofs.Joined.{adds_row, joined}
use Rattle.theory.proofs.Meaning.{meaning_mem}
use Rattle.woven.specs.declared.Meets.TheVariants.{Lower, Upper, UpperHere, Fuse}
use Rattle.woven.specs.Woven.{deed, meet, step_of, placed, rebased, changes_ahead, patched, fused, goes_on, woven}
use Rattle.woven.proofs.Deeds.{
  then,
  After,
  joined_add,
  joined_vanish,
  joined_struck,
  joined_earlier,
  joined_fused,
  joined_later,
  joined_alone,
  joined_patch,
  joined_none,
  then_later,
}
use Rattle.woven.proofs.Keyed.{
  keyed,
  meaning_here,
  meaning_other,
  meaning_nil,
  meaning_none,
  keys_on,
  then_on,
  deeds_on,
  KeysFrom,
  keys_from,
  Sits,
}

-- an add and a strike of a key below k
abbrev pub add_below : ℕ → Edit → Bool
add_below k (at p (add r)) = ltb (key r) k
add_below k (at p (strike l)) = false
add_below k (at p (change j e)) = false

abbrev pub strike_below : ℕ → Edit → Bool
strike_below k (at p (add r)) = false
strike_below k (at p (strike l)) = ltb l k
strike_below k (at p (change j e)) = false

-- the row of key k that the upper layer sees is one that R adds, or the base's that R does not strike
abbrev pub Stands : List ℕ → Layer → ℕ → Type 0
Stands K R k =
    ((p : ℕ) × (r : Row) × Mem (at p (add r)) R × (key r ≡ k))
    ⊎ ((get_or K (keys_below k K) 0 ≡ k) × ((p : ℕ) → Mem (at p (strike k)) R → ⊥))

-- what holds where the walk stands, with a adds and s strikes of the lower layer passed and R and W left
pub record Along (K N : List ℕ) (a s : ℕ) (R W : Layer) : Type 0 where
  pub lower : AllPairs (keyed K) R
  pub upper : AllPairs (keyed N) W
  pub lower_sits : Sits K R
  pub upper_sits : Sits N W
  pub counted : (f : Edit) → Mem f W
      → position f + s + count (strike_below (key_of N f)) R ≡ keys_below (key_of N f) K + a + count
      (add_below (key_of N f)) R
  pub shown : (f : Edit) → Mem f W → adds_row (deed f) ≡ false → Stands K R (key_of N f)
  pub columns : (p j : ℕ) (e : CellEdit) → Mem (at p (change j e)) W → 1 ≤ j

-- what the walk leaves of R and W
pub record Wove (K N : List ℕ) (R W M : Layer) : Type 0 where
  pub means : (k : ℕ) → meaning K M k ≡ joined (meaning K R k) (meaning N W k)
  pub sits : Sits K M
  pub rises : (b : ℕ) → ((e : Edit) → Mem e R → b ≤ key_of K e) → ((f : Edit) → Mem f W → b ≤ key_of N f) → KeysFrom K b M

-- fewer edits of the upper layer are left
fewer : {K N : List ℕ} {a s : ℕ} {R W : Layer} (U : Layer) → Along K N a s R W → AllPairs (keyed N) U
    → ((f : Edit) → Mem f U → Mem f W) → Along K N a s R U
fewer U g o i = record {
  lower = g.lower;
  upper = o;
  lower_sits = g.lower_sits;
  upper_sits = λ f m. g.upper_sits f (i f m);
  counted = λ f m. g.counted f (i f m);
  shown = λ f m. g.shown f (i f m);
  columns = λ p j e m. g.columns p j e (i (at p (change j e)) m);
}

-- the lower edit e is passed: it is a change, or its key lies below the rest of the upper layer
abbrev Quiet : Edit → Type 0
Quiet e = (is_add e ≡ false) × (is_strike e ≡ false)

passed_one : (K : List ℕ) (e : Edit) (k : ℕ) → (key_of K e < k) ⊎ Quiet e
    → (one (strike_below k e) ≡ one (is_strike e)) × (one (add_below k e) ≡ one (is_add e))
passed_one K (at p (add r)) k (inl l) = (refl, one_lt (key r) k l)
passed_one K (at p (strike j)) k (inl l) = (one_lt j k l, refl)
passed_one K (at p (change j e)) k (inl l) = (refl, refl)
passed_one K (at p (add r)) k (inr q) = absurd (true≢false q.0)
passed_one K (at p (strike j)) k (inr q) = absurd (true≢false q.1)
passed_one K (at p (change j e)) k (inr q) = (refl, refl)

pass : {K N : List ℕ} {a s : ℕ} {e : Edit} {R W : Layer} (U : Layer) → Along K N a s (e ∷ R) W → AllPairs (keyed N) U
    → ((f : Edit) → Mem f U → Mem f W) → ((f : Edit) → Mem f U → (key_of K e < key_of N f) ⊎ Quiet e)
    → (a' s' : ℕ) → a' ≡ a + one (is_add e) → s' ≡ s + one (is_strike e) → Along K N a' s' R U
pass {K} {N} {a} {s} {e} {R} {W} U g o i q a' s' ea es = record {
  lower = g.lower.1;
  upper = o;
  lower_sits = λ x m. g.lower_sits x (next m);
  upper_sits = λ f m. g.upper_sits f (i f m);
  counted = λ f m. let w = passed_one K e (key_of N f) (q f m) in omega (arith, g.counted f (i f m), w.0, w.1);
  shown = λ f m n. still f m (g.shown f (i f m) n);
  columns = λ p j x m. g.columns p j x (i (at p (change j x)) m);
}
  where
    gone : (f : Edit) → (p : ℕ) (r : Row) → at p (add r) ≡ e → key r ≡ key_of N f → (key_of K e < key_of N f) ⊎ Quiet e → ⊥
    gone f p r h k (inl l) = omega (arith, ap (key_of K) h)
    gone f p r h k (inr c) = true≢false (ap is_add h ∙ c.0)

    still : (f : Edit) → Mem f U → Stands K (e ∷ R) (key_of N f) → Stands K R (key_of N f)
    still f m (inl (p, r, here h, k)) = absurd (gone f p r h k (q f m))
    still f m (inl (p, r, next n, k)) = inl (p, r, n, k)
    still f m (inr w) = inr (w.0, λ p n. w.1 p (next n))

-- an edit is written, of the least key that is left
module _ {K N : List ℕ} {R W R' W' M : Layer} (x : Edit) (k : ℕ) where
  emit : key_of K x ≡ k → position x ≡ keys_below k K → Wove K N R' W' M
      → ((l : ℕ) → (k ≡ l → ⊥) → (meaning K R l ≡ meaning K R' l) × (meaning N W l ≡ meaning N W' l))
      → joined (meaning K R k) (meaning N W k) ≡ deed x ∷ joined (meaning K R' k) (meaning N W' k)
      → ((e : Edit) → Mem e R' → k ≤ key_of K e) → ((f : Edit) → Mem f W' → k ≤ key_of N f)
      → ((b : ℕ) → ((e : Edit) → Mem e R → b ≤ key_of K e) → ((f : Edit) → Mem f W → b ≤ key_of N f) → b ≤ k)
      → Wove K N R W (x ∷ M)
  emit hk hp w apart join lr lw lb = record { means = means; sits = sits; rises = rises }
    where
      means : (l : ℕ) → meaning K (x ∷ M) l ≡ joined (meaning K R l) (meaning N W l)
      means l = go (eqb k l) refl
        where
          go : (t : Bool) → eqb k l ≡ t → meaning K (x ∷ M) l ≡ joined (meaning K R l) (meaning N W l)
          go true e =
              let kl : k ≡ l = eqb-true k l e in
              subst (λ (i : ℕ). meaning K (x ∷ M) i ≡ joined (meaning K R i) (meaning N W i)) kl
              (meaning_here K x M k hk ∙ (ap (λ (t : List Deed). deed x ∷ t) (w.means k) ∙ sym join))
          go false e =
              let a = apart l (eqb-false k l e) in
              let j : joined (meaning K R l) (meaning N W l) ≡ joined (meaning K R' l) (meaning N W' l) = cc in
              meaning_other K x M l (λ z. eqb-false k l e (sym hk ∙ z)) ∙ (w.means l ∙ sym j)

      sits : Sits K (x ∷ M)
      sits e (here h) = ap position h ∙ (hp ∙ ap (λ (l : ℕ). keys_below l K) (sym hk ∙ sym (ap (key_of K) h)))
      sits e (next m) = w.sits e m

      rises : (b : ℕ) → ((e : Edit) → Mem e R → b ≤ key_of K e) → ((f : Edit) → Mem f W → b ≤ key_of N f)
          → KeysFrom K b (x ∷ M)
      rises b hr hw = (omega (arith, lb b hr hw), subst (λ (l : ℕ). KeysFrom K l M) (sym hk) (w.rises k lr lw))

-- edits go, and nothing is written
skip : {K N : List ℕ} {R W R' W' M : Layer} → Wove K N R' W' M
    → ((l : ℕ) → joined (meaning K R l) (meaning N W l) ≡ joined (meaning K R' l) (meaning N W' l))
    → ((e : Edit) → Mem e R' → Mem e R) → ((f : Edit) → Mem f W' → Mem f W) → Wove K N R W M
skip w join ir iw = record {
  means = λ l. w.means l ∙ sym (join l);
  sits = w.sits;
  rises = λ b hr hw. w.rises b (λ e m. hr e (ir e m)) (λ f m. hw f (iw f m));
}

-- Lower: the lower edit's key lies below all of the upper layer's
lower_step : {K N : List ℕ} {a s : ℕ} {e : Edit} {R W M : Layer} → Along K N a s (e ∷ R) W
    → ((f : Edit) → Mem f W → key_of K e < key_of N f) → Wove K N R W M → Wove K N (e ∷ R) W (e ∷ M)
lower_step {K} {N} {a} {s} {e} {R} {W} {M} g l w =
    emit e (key_of K e) refl (g.lower_sits e (here refl)) w
    (λ k h. (meaning_other K e R k h, refl))
    join
    (keys_on K e R g.lower)
    (λ f m. omega (arith, l f m))
    (λ b hr hw. hr e (here refl))
  where
    none : meaning N W (key_of K e) ≡ []
    none = meaning_none N W (key_of K e) (λ f m h. omega (arith, l f m))

    join : joined (meaning K (e ∷ R) (key_of K e)) (meaning N W (key_of K e))
        ≡ deed e ∷ joined (meaning K R (key_of K e)) (meaning N W (key_of K e))
    join = rw (none) (joined_none (meaning K (e ∷ R) (key_of K e)) ∙ (meaning_here K e R (key_of K e) refl
        ∙ ap (λ (t : List Deed). deed e ∷ t) (sym (joined_none (meaning K R (key_of K e))))))

-- Upper: the upper edit's key lies below all of the lower layer's; its position is the number of base keys below it
module _ {K N : List ℕ} {a s : ℕ} {R W : Layer} {f : Edit} (g : Along K N a s R (f ∷ W))
    (l : (e : Edit) → Mem e R → key_of N f < key_of K e) where
  base_position : (position f + s) - a ≡ keys_below (key_of N f) K
  base_position =
      omega (
        arith,
        g.counted f (here refl),
        count_zero (strike_below (key_of N f)) R strikes,
        count_zero
            (add_below (key_of N f)) R adds,
      )
    where
      strikes : (e : Edit) → Mem e R → one (strike_below (key_of N f) e) ≡ 0
      strikes (at p (add r)) m = refl
      strikes (at p (strike k)) m = one_ge k (key_of N f) (omega (arith, l (at p (strike k)) m))
      strikes (at p (change j e)) m = refl

      adds : (e : Edit) → Mem e R → one (add_below (key_of N f) e) ≡ 0
      adds (at p (add r)) m = one_ge (key r) (key_of N f) (omega (arith, l (at p (add r)) m))
      adds (at p (strike k)) m = refl
      adds (at p (change j e)) m = refl

  base_key : (d : Edit) → d ≡ f → key_of K (rebased a s d) ≡ key_of N d
  base_key (at p (add r)) h = refl
  base_key (at p (strike k)) h = refl
  base_key (at p (change j e)) h = go (g.shown f (here refl) (ap (λ (x : Edit). adds_row (deed x)) (sym h)))
    where
      go : Stands K R (key_of N f) → get_or K ((p + s) - a) 0 ≡ get_or N p 0
      go (inl (q, r, m, k)) = absurd (omega (arith, l (at q (add r)) m))
      go (inr w) =
          ap (λ (i : ℕ). get_or K i 0) (ap (λ (x : Edit). (position x + s) - a) h ∙ base_position)
          ∙ (w.0 ∙ ap (key_of N) (sym h))

  upper_step : {M : Layer} → Wove K N R W M → Wove K N R (f ∷ W) (rebased a s f ∷ M)
  upper_step w =
      emit (rebased a s f) (key_of N f) (base_key f refl) (there f refl) w
      (λ k h. (refl, meaning_other N f W k h))
      join
      (λ e m. omega (arith, l e m))
      (keys_on N f W g.upper)
      (λ b hr hw. hw f (here refl))
    where
      there : (d : Edit) → d ≡ f → position (rebased a s d) ≡ keys_below (key_of N f) K
      there (at p d) h = ap (λ (x : Edit). (position x + s) - a) h ∙ base_position

      same : (d : Edit) → deed (rebased a s d) ≡ deed d
      same (at p d) = refl

      none : meaning K R (key_of N f) ≡ []
      none = meaning_none K R (key_of N f) (λ e m h. omega (arith, l e m))

      join : joined (meaning K R (key_of N f)) (meaning N (f ∷ W) (key_of N f))
          ≡ deed (rebased a s f) ∷ joined (meaning K R (key_of N f)) (meaning N W (key_of N f))
      join = rw (none, meaning_here N f W (key_of N f) refl, same f)
          (joined_alone (deed f) (meaning N W (key_of N f)) (deeds_on N f W g.upper (key_of N f) refl))

-- the rest of the upper layer, where nothing is left of the lower one
uppers : {K N : List ℕ} {a s : ℕ} (W : Layer) → Along K N a s [] W → Wove K N [] W (map (rebased a s) W)
uppers {K} {N} [] g = record {
  means = λ k. rw (meaning_nil K k, meaning_nil N k) (sym (joined_none []));
  sits = λ e m. absurd (not-nil m);
  rises = λ b hr hw. tt;
}
uppers (f ∷ W) g = upper_step g (λ e m. absurd (not-nil m)) (uppers W (fewer W g g.upper.1 (λ x m. next m)))

-- both next edits concern one key
module _ {K N : List ℕ} {a s : ℕ} {e f : Edit} {R W : Layer} (g : Along K N a s (e ∷ R) (f ∷ W))
    (same : key_of K e ≡ key_of N f) where
  abbrev k : ℕ
  k = key_of K e

  abbrev ds : List Deed
  ds = meaning K R k

  abbrev ws : List Deed
  ws = meaning N W k

  lowers : meaning K (e ∷ R) k ≡ deed e ∷ ds
  lowers = meaning_here K e R k refl

  uppers_here : meaning N (f ∷ W) k ≡ deed f ∷ ws
  uppers_here = meaning_here N f W k (sym same)

  lowers_after : After (deed e) ds
  lowers_after = deeds_on K e R g.lower k refl

  uppers_after : After (deed f) ws
  uppers_after = deeds_on N f W g.upper k (sym same)

  other_lower : (l : ℕ) → (k ≡ l → ⊥) → meaning K (e ∷ R) l ≡ meaning K R l
  other_lower l h = meaning_other K e R l h

  other_upper : (l : ℕ) → (k ≡ l → ⊥) → meaning N (f ∷ W) l ≡ meaning N W l
  other_upper l h = meaning_other N f W l (λ z. h (same ∙ z))

  lowers_on : (x : Edit) → Mem x (e ∷ R) → k ≤ key_of K x
  lowers_on x (here h) = omega (arith, ap (key_of K) h)
  lowers_on x (next m) = keys_on K e R g.lower x m

  uppers_on : (x : Edit) → Mem x W → k ≤ key_of N x
  uppers_on x m = omega (arith, keys_on N f W g.upper x m)

  -- UpperHere
  here_step : {M : Layer} → key_of K (placed (position e) f) ≡ k
      → joined (deed e ∷ ds) (deed f ∷ ws) ≡ deed f ∷ joined (deed e ∷ ds) ws
      → Wove K N (e ∷ R) W M → Wove K N (e ∷ R) (f ∷ W) (placed (position e) f ∷ M)
  here_step hk j w =
      emit (placed (position e) f) k hk (at_e f ∙ g.lower_sits e (here refl)) w
      (λ l h. (refl, other_upper l h))
      (rw (uppers_here, lowers, deed_f f) j)
      lowers_on
      uppers_on
      (λ b hr hw. hr e (here refl))
    where
      at_e : (x : Edit) → position (placed (position e) x) ≡ position e
      at_e (at p d) = refl

      deed_f : (x : Edit) → deed (placed (position e) x) ≡ deed x
      deed_f (at p d) = refl

  -- Lower, of an earlier column
  earlier_step : {M : Layer} → joined (deed e ∷ ds) (deed f ∷ ws) ≡ deed e ∷ joined ds (deed f ∷ ws)
      → Wove K N R (f ∷ W) M → Wove K N (e ∷ R) (f ∷ W) (e ∷ M)
  earlier_step j w =
      emit e k refl (g.lower_sits e (here refl)) w
      (λ l h. (other_lower l h, refl))
      (rw (uppers_here, lowers) j)
      (λ x m. lowers_on x (next m))
      on
      (λ b hr hw. hr e (here refl))
    where
      on : (x : Edit) → Mem x (f ∷ W) → k ≤ key_of N x
      on x (here h) = omega (arith, ap (key_of N) h)
      on x (next m) = uppers_on x m

  -- Drop
  drop_step : {M : Layer} → joined (deed e ∷ ds) (deed f ∷ ws) ≡ joined ds (deed f ∷ ws)
      → Wove K N R (f ∷ W) M → Wove K N (e ∷ R) (f ∷ W) M
  drop_step j w = skip w join (λ x m. next m) (λ x m. m)
    where
      join : (l : ℕ) → joined (meaning K (e ∷ R) l) (meaning N (f ∷ W) l) ≡ joined (meaning K R l) (meaning N (f ∷ W) l)
      join l = go (eqb k l) refl
        where
          go : (t : Bool) → eqb k l ≡ t → joined (meaning K (e ∷ R) l) (meaning N (f ∷ W) l)
              ≡ joined (meaning K R l) (meaning N (f ∷ W) l)
          go true h =
              subst (λ (i : ℕ). joined (meaning K (e ∷ R) i) (meaning N (f ∷ W) i)
              ≡ joined (meaning K R i) (meaning N (f ∷ W) i))
              (eqb-true k l h) (rw (uppers_here, lowers) j)
          go false h = ap (λ (t : List Deed). joined t (meaning N (f ∷ W) l)) (other_lower l (eqb-false k l h))

  -- Fuse: the edit x is both
  fuse_step : {M : Layer} (x : Edit) → key_of K x ≡ k → position x ≡ position e
      → joined (deed e ∷ ds) (deed f ∷ ws) ≡ deed x ∷ joined ds ws
      → Wove K N R W M → Wove K N (e ∷ R) (f ∷ W) (x ∷ M)
  fuse_step x hk hp j w =
      emit x k hk (hp ∙ g.lower_sits e (here refl)) w
      (λ l h. (other_lower l h, other_upper l h))
      (rw (uppers_here, lowers) j)
      (λ y m. lowers_on y (next m))
      uppers_on
      (λ b hr hw. hr e (here refl))

  -- Vanish
  vanish_step : {M : Layer} → joined (deed e ∷ ds) (deed f ∷ ws) ≡ joined ds ws → Wove K N R W M
      → Wove K N (e ∷ R) (f ∷ W) M
  vanish_step j w = skip w join (λ x m. next m) (λ x m. next m)
    where
      join : (l : ℕ) → joined (meaning K (e ∷ R) l) (meaning N (f ∷ W) l) ≡ joined (meaning K R l) (meaning N W l)
      join l = go (eqb k l) refl
        where
          go : (t : Bool) → eqb k l ≡ t → joined (meaning K (e ∷ R) l) (meaning N (f ∷ W) l)
              ≡ joined (meaning K R l) (meaning N W l)
          go true h =
              subst (λ (i : ℕ). joined (meaning K (e ∷ R) i) (meaning N (f ∷ W) i)
              ≡ joined (meaning K R i) (meaning N W i))
              (eqb-true k l h) (rw (uppers_here, lowers) j)
          go false h =
              let p = other_lower l (eqb-false k l h) in
              let q = other_upper l (eqb-false k l h) in
              cc

  -- the lower layer strikes no key that the upper one strikes or changes, unless it adds it first
  never_struck : (l : ℕ) → deed e ≡ strike l → adds_row (deed f) ≡ false → ⊥
  never_struck l h n = go (g.shown f (here refl) n)
    where
      other : (p : ℕ) (r : Row) → Mem (at p (add r)) R → key r ≡ key_of N f → ⊥
      other p r m q = true≢false (sym (ap (λ (d : Deed). then d (add r)) (sym h)
          ∙ then_on K e R g.lower (at p (add r)) m (q ∙ sym same)))

      struck_key : (x : Edit) → deed x ≡ strike l → key_of K x ≡ l
      struck_key (at p (add r)) z = impossible (cc)
      struck_key (at p (strike i)) z = cc
      struck_key (at p (change j c)) z = impossible (cc)

      edit_is : (x : Edit) → deed x ≡ strike l → at (position x) (strike l) ≡ x
      edit_is (at p d) z = ap (at p) (sym z)

      no_add : (p : ℕ) (r : Row) → at p (add r) ≡ e → ⊥
      no_add p r z = let y : add r ≡ strike l = ap deed z ∙ h in impossible (cc)

      go : Stands K (e ∷ R) (key_of N f) → ⊥
      go (inl (p, r, here z, q)) = no_add p r z
      go (inl (p, r, next m, q)) = other p r m q
      go (inr w) =
          let ln : l ≡ key_of N f = sym (struck_key e h) ∙ same in
          w.1 (position e) (here {x = e} (ap (λ (i : ℕ). at (position e) (strike i)) (sym ln) ∙ edit_is e h))

-- the changes of one key that the upper layer begins with, taken in by an added row
pub record Ran (N : List ℕ) (k p : ℕ) (ds : List Deed) (q : Row) (U : Layer) : Type 0 where
  pub joins : joined (add q ∷ ds) (meaning N U k) ≡ add (patched p U q) ∷ ds
  pub keeps : key (patched p U q) ≡ key q
  pub others : (l : ℕ) → (k ≡ l → ⊥) → meaning N U l ≡ meaning N (drop (changes_ahead p U) U) l
  pub inside : (f : Edit) → Mem f (drop (changes_ahead p U) U) → Mem f U × (k < key_of N f)
  pub sorted : AllPairs (keyed N) (drop (changes_ahead p U) U)

-- any row may stand in front
after_row : (q r : Row) (ds : List Deed) → After (add q) ds → After (add r) ds
after_row q r ds h x m = one x (h x m)
  where
    one : (y : Deed) → then (add q) y ≡ true → then (add r) y ≡ true
    one (add t) z = z
    one (strike l) z = z
    one (change j e) z = z

-- no change of that key stands in front
ran_none : (N : List ℕ) (k p : ℕ) (ds : List Deed) (q : Row) (U : Layer) → changes_ahead p U ≡ 0 → patched p U q ≡ q
    → AllPairs (keyed N) U → ((f : Edit) → Mem f U → k < key_of N f) → Ran N k p ds q U
ran_none N k p ds q U hc hp o l = record {
  joins = rw (hp, meaning_none N U k (λ f m h. omega (arith, l f m))) (joined_none (add q ∷ ds));
  keeps = ap key hp;
  others = λ i h. rw (hc);
  inside = λ f m. let n : Mem f U = rw (hc) at m in (n, l f n);
  sorted = rw (hc) o;
}

run : (N : List ℕ) (k p : ℕ) (ds : List Deed) (q : Row) (U : Layer) → After (add q) ds → AllPairs (keyed N) U
    → ((f : Edit) → Mem f U → k ≤ key_of N f) → get_or N p 0 ≡ k
    → ((s : ℕ) (d : Deed) → Mem (at s d) U → key_of N (at s d) ≡ k
    → (s ≡ p) × (adds_row d ≡ false) × ((l : ℕ) → d ≡ strike l → ⊥))
    → ((s j : ℕ) (e : CellEdit) → Mem (at s (change j e)) U → 1 ≤ j)
    → Ran N k p ds q U
run N k p ds q [] h o l np only col = ran_none N k p ds q [] refl refl o (λ f m. absurd (not-nil m))
run N k p ds q (at s d ∷ U) h o l np only col =
    go d refl (eqb (key_of N (at s d)) k) refl
    (λ r. run N k p ds r U (after_row q r ds h) o.1 (λ f m. l f (next m)) np (λ t x m. only t x (next m))
    (λ t j x m. col t j x (next m)))
  where
    past : (key_of N (at s d) ≡ k → ⊥) → (f : Edit) → Mem f (at s d ∷ U) → k < key_of N f
    past n f (here e) = omega (arith, ap (key_of N) e, l (at s d) (here refl))
    past n f (next m) = omega (arith, keys_on N (at s d) U o f m, l (at s d) (here refl))

    taken : (j : ℕ) (e : CellEdit) → d ≡ change j e → key_of N (at s d) ≡ k → s ≡ p → Ran N k p ds (put q j e) U
        → Ran N k p ds q (at s (change j e) ∷ U)
    taken j e de kk sp w = record {
      joins = rw (here_first)
          (joined_patch q j e ds (meaning N U k) h (subst (λ (x : Deed). After x (meaning N U k)) de
          (deeds_on N (at s d) U o k kk))
          ∙ (w.joins ∙ ap (λ (r : Row). add r ∷ ds) (sym row)));
      keeps = ap key row ∙ (w.keeps ∙ put_key_lem q j e (col s j e (here {x = at s d} (ap (at s) (sym de)))));
      others = λ i n. meaning_other N (at s (change j e)) U i (λ z. n (sym first ∙ z))
          ∙ (w.others i n ∙ ap (λ (t : Layer). meaning N t i) (sym rest));
      inside = λ f m. let v = w.inside f (subst (λ (t : Layer). Mem f t) rest m) in (next v.0, v.1);
      sorted = subst (AllPairs (keyed N)) (sym rest) w.sorted;
    }
      where
        first : key_of N (at s (change j e)) ≡ k
        first = ap (λ (x : Deed). key_of N (at s x)) (sym de) ∙ kk

        here_first : meaning N (at s (change j e) ∷ U) k ≡ change j e ∷ meaning N U k
        here_first = meaning_here N (at s (change j e)) U k first

        row : patched p (at s (change j e) ∷ U) q ≡ patched p U (put q j e)
        row = rw (eq-eqb s p sp)

        rest : drop (changes_ahead p (at s (change j e) ∷ U)) (at s (change j e) ∷ U) ≡ drop (changes_ahead p U) U
        rest = rw (eq-eqb s p sp)

    go : (x : Deed) → d ≡ x → (t : Bool) → eqb (key_of N (at s d)) k ≡ t → ((r : Row) → Ran N k p ds r U)
        → Ran N k p ds q (at s x ∷ U)
    go (add r) dx true e ih =
        absurd (true≢false (ap adds_row (sym dx) ∙ (only s d (here refl) (eqb-true (key_of N (at s d)) k e)).1))
    go (strike j) dx true e ih = absurd ((only s d (here refl) (eqb-true (key_of N (at s d)) k e)).2 j dx)
    go (change j x) dx true e ih =
        let kk = eqb-true (key_of N (at s d)) k e in
        taken j x dx kk (only s d (here refl) kk).0 (ih (put q j x))
    go (add r) dx false e ih = ran_none N k p ds q (at s (add r) ∷ U) refl refl
        (subst (λ (y : Deed). AllPairs (keyed N) (at s y ∷ U)) dx o)
        (subst (λ (y : Deed). (f : Edit) → Mem f (at s y ∷ U) → k < key_of N f) dx
        (past (eqb-false (key_of N (at s d)) k e)))
    go (strike j) dx false e ih = ran_none N k p ds q (at s (strike j) ∷ U) refl refl
        (subst (λ (y : Deed). AllPairs (keyed N) (at s y ∷ U)) dx o)
        (subst (λ (y : Deed). (f : Edit) → Mem f (at s y ∷ U) → k < key_of N f) dx
        (past (eqb-false (key_of N (at s d)) k e)))
    go (change j x) dx false e ih = ran_none N k p ds q (at s (change j x) ∷ U) (rw (sn)) (rw (sn))
        (subst (λ (y : Deed). AllPairs (keyed N) (at s y ∷ U)) dx o)
        (subst (λ (y : Deed). (f : Edit) → Mem f (at s y ∷ U) → k < key_of N f) dx
        (past (eqb-false (key_of N (at s d)) k e)))
      where
        sn : eqb s p ≡ false
        sn = ne_eqb s p (λ z. eqb-false (key_of N (at s d)) k e
            (ap (λ (y : Deed). key_of N (at s y)) dx ∙ (ap (λ (i : ℕ). get_or N i 0) z ∙ np)))

module _ {K N : List ℕ} {a s : ℕ} {p : ℕ} {q : Row} {t j : ℕ} {c : CellEdit} {R W : Layer}
    (g : Along K N a s (at p (add q) ∷ R) (at t (change j c) ∷ W)) (same : key q ≡ get_or N t 0) where
  abbrev all : Layer
  all = at t (change j c) ∷ W

  ran : Ran N (key q) t (meaning K R (key q)) q all
  ran = run N (key q) t (meaning K R (key q)) q all (lowers_after g same) g.upper on (sym same) only g.columns
    where
      on : (f : Edit) → Mem f all → key q ≤ key_of N f
      on f (here h) = omega (arith, ap (key_of N) h)
      on f (next m) = uppers_on g same f m

      kind : (d : Deed) → then (change j c) d ≡ true → (adds_row d ≡ false) × ((l : ℕ) → d ≡ strike l → ⊥)
      kind (add r) h = absurd (true≢false (sym h))
      kind (strike k) h = absurd (true≢false (sym h))
      kind (change i e) h = (refl, λ l z. impossible (cc))

      only : (i : ℕ) (d : Deed) → Mem (at i d) all → key_of N (at i d) ≡ key q
          → (i ≡ t) × (adds_row d ≡ false) × ((l : ℕ) → d ≡ strike l → ⊥)
      only i d (here h) k =
          let e : d ≡ change j c = ap deed h in
          (ap position h, ap adds_row e, λ l z. impossible (cc))
      only i d (next m) k =
          let w = kind d (then_on N (at t (change j c)) W g.upper (at i d) m (k ∙ same)) in (
            g.upper_sits (at i d) (next m)
                ∙ (ap (λ (l : ℕ). keys_below l N) (k ∙ same) ∙ sym (g.upper_sits (at t (change j c)) (here refl))),
            w.0,
            w.1,
          )

  abbrev left : Layer
  left = drop (changes_ahead t all) all

  -- Patch
  patch_step : {M : Layer} → Wove K N R left M → Wove K N (at p (add q) ∷ R) all (at p (add (patched t all q)) ∷ M)
  patch_step w =
      emit (at p (add (patched t all q))) (key q) ran.keeps (g.lower_sits (at p (add q)) (here refl)) w
      (λ l h. (other_lower g same l h, ran.others l h))
      join
      (λ x m. lowers_on g same x (next m))
      (λ x m. omega (arith, (ran.inside x m).1))
      (λ b hr hw. hr (at p (add q)) (here refl))
    where
      none : meaning N left (key q) ≡ []
      none = meaning_none N left (key q) (λ x m h. omega (arith, (ran.inside x m).1))

      join : joined (meaning K (at p (add q) ∷ R) (key q)) (meaning N all (key q))
          ≡ add (patched t all q) ∷ joined (meaning K R (key q)) (meaning N left (key q))
      join = ap (λ (d : List Deed). joined d (meaning N all (key q))) (lowers g same)
          ∙ (ran.joins ∙ ap (λ (d : List Deed). add (patched t all q) ∷ d)
          (sym (ap (joined (meaning K R (key q))) none ∙ joined_none (meaning K R (key q)))))

  patch_meets : Along K N (a + 1) s R left
  patch_meets = pass left g ran.sorted (λ x m. (ran.inside x m).0) (λ x m. inl (ran.inside x m).1) (a + 1) s
      refl (omega arith)

abbrev Weaves : ℕ → List ℕ → List ℕ → Type 0
Weaves n K N = (a s : ℕ) (R W : Layer) → length R + length W ≤ n → Along K N a s R W
    → Wove K N R W (woven n K N a s R W)

-- both next edits concern one key
one_key : (n : ℕ) {K N : List ℕ} {a s : ℕ} (p : ℕ) (d : Deed) (q : ℕ) (x : Deed) {R W : Layer} → Weaves n K N
    → (g : Along K N a s (at p d ∷ R) (at q x ∷ W)) → key_of K (at p d) ≡ key_of N (at q x)
    → suc (length R) + suc (length W) ≤ suc n
    → Wove K N (at p d ∷ R) (at q x ∷ W) (goes_on (woven n K N) a s (at p d) (at q x) R W (meet d x))
one_key n {K} {N} {a} {s} p d q (add r) {R} {W} ih g same h = rw (adds d) added
  where
    adds : (y : Deed) → meet y (add r) ≡ UpperHere
    adds (add t) = refl
    adds (strike l) = refl
    adds (change i c) = refl

    own : (t : Row) → Mem (add t) (d ∷ meaning K R (key_of K (at p d))) → key t ≡ key r
    own t m =
        let w = meaning_mem K (at p d ∷ R) (key_of K (at p d)) (add t)
        (subst (λ (l : List Deed). Mem (add t) l) (sym (lowers g same)) m) in
        w.2 ∙ same

    added : Wove K N (at p d ∷ R) (at q (add r) ∷ W) (at p (add r) ∷ woven n K N a s (at p d ∷ R) W)
    added =
        here_step g same (sym same)
        (joined_add r (d ∷ meaning K R (key_of K (at p d))) (meaning N W (key_of K (at p d))) (uppers_after g same) own)
        (ih a s (at p d ∷ R) W (omega arith) (fewer W g g.upper.1 (λ y m. next m)))
one_key n {K} {N} {a} {s} p (add t) q (strike l) {R} {W} ih g same h =
    vanish_step g same (joined_vanish t l (meaning K R (key t)) (meaning N W (key t)) (lowers_after g same)
    (uppers_after g same))
    (ih (a + 1) s R W (omega arith) (pass W g g.upper.1 (λ y m. next m) gone (a + 1) s refl (omega arith)))
  where
    gone : (f : Edit) → Mem f W → (key t < key_of N f) ⊎ Quiet (at p (add t))
    gone f m = inl (omega (arith, same, keys_on N (at q (strike l)) W g.upper f m, unlike))
      where
        unlike : key_of N f ≡ l → ⊥
        unlike z = true≢false (sym (then_on N (at q (strike l)) W g.upper f m z))
one_key n {K} {N} {a} {s} p (strike k) q (strike l) {R} {W} ih g same h = absurd (never_struck g same k refl refl)
one_key n {K} {N} {a} {s} p (change i c) q (strike l) {R} {W} ih g same h =
    drop_step g same
    (joined_struck i c l (meaning K R (get_or K p 0)) (meaning N W (get_or K p 0)) (lowers_after g same)
    (uppers_after g same))
    (ih a s R (at q (strike l) ∷ W) (omega arith)
    (pass (at q (strike l) ∷ W) g g.upper (λ y m. m) (λ y m. inr (refl, refl)) a s (omega arith) (omega arith)))
one_key n {K} {N} {a} {s} p (add t) q (change j e) {R} {W} ih g same h =
    patch_step g same
    (ih (a + 1) s R (drop (changes_ahead q (at q (change j e) ∷ W)) (at q (change j e) ∷ W))
    (omega (arith, length-drop (changes_ahead q (at q (change j e) ∷ W)) (at q (change j e) ∷ W))) (patch_meets g same))
one_key n {K} {N} {a} {s} p (strike k) q (change j e) {R} {W} ih g same h = absurd (never_struck g same k refl refl)
one_key n {K} {N} {a} {s} p (change i c) q (change j e) {R} {W} ih g same h = go (ltb i j) refl (eqb i j) refl
  where
    go : (u : Bool) → ltb i j ≡ u → (v : Bool) → eqb i j ≡ v
        → Wove K N (at p (change i c) ∷ R) (at q (change j e) ∷ W)
        (goes_on (woven n K N) a s (at p (change i c)) (at q (change j e)) R W (cond u Lower (cond v Fuse UpperHere)))
    go true f v z =
        earlier_step g same
        (joined_earlier i j c e (meaning K R (get_or K p 0)) (meaning N W (get_or K p 0)) (ltb-true i j f)
        (lowers_after g same) (uppers_after g same))
        (ih (a + 0) (s + 0) R (at q (change j e) ∷ W) (omega arith)
        (pass (at q (change j e) ∷ W) g g.upper (λ y m. m) (λ y m. inr (refl, refl)) (a + 0) (s + 0) (omega arith) (omega arith)))
    go false f true z =
        fuse_step g same (fused (at p (change i c)) (at q (change j e))) refl refl
        (joined_fused i j c e (meaning K R (get_or K p 0)) (meaning N W (get_or K p 0)) (eqb-true i j z)
        (lowers_after g same) (uppers_after g same))
        (ih a s R W (omega arith)
        (pass W g g.upper.1 (λ y m. next m) (λ y m. inr (refl, refl)) a s (omega arith) (omega arith)))
    go false f false z =
        here_step g same refl
        (joined_later j e (change i c ∷ meaning K R (get_or K p 0)) (meaning N W (get_or K p 0)) later
        (uppers_after g same))
        (ih a s (at p (change i c) ∷ R) W (omega arith) (fewer W g g.upper.1 (λ y m. next m)))
      where
        ji : j < i
        ji = omega (tests)

        later : After (change j e) (change i c ∷ meaning K R (get_or K p 0))
        later y (here w) = ap (then (change j e)) w ∙ lt-ltb j i ji
        later y (next m) = then_later j i e c ji y (lowers_after g same y m)

step : (n : ℕ) {K N : List ℕ} {a s : ℕ} (p : ℕ) (d : Deed) (q : ℕ) (x : Deed) {R W : Layer} → Weaves n K N
    → Along K N a s (at p d ∷ R) (at q x ∷ W) → suc (length R) + suc (length W) ≤ suc n
    → Wove K N (at p d ∷ R) (at q x ∷ W) (goes_on (woven n K N) a s (at p d) (at q x) R W (step_of K N (at p d) (at q x)))
step n {K} {N} {a} {s} p d q x {R} {W} ih g h = go (ltb (key_of K (at p d)) (key_of N (at q x))) refl
    (ltb (key_of N (at q x)) (key_of K (at p d))) refl
  where
    go : (u : Bool) → ltb (key_of K (at p d)) (key_of N (at q x)) ≡ u → (v : Bool)
        → ltb (key_of N (at q x)) (key_of K (at p d)) ≡ v
        → Wove K N (at p d ∷ R) (at q x ∷ W) (goes_on (woven n K N) a s (at p d) (at q x) R W
        (cond u Lower (cond v Upper (meet d x))))
    go true f v z =
        lower_step g low
        (ih (a + one (is_add (at p d))) (s + one (is_strike (at p d))) R (at q x ∷ W) (omega arith)
        (pass (at q x ∷ W) g g.upper (λ y m. m) (λ y m. inl (low y m)) (a + one (is_add (at p d)))
        (s + one (is_strike (at p d))) refl refl))
      where
        low : (y : Edit) → Mem y (at q x ∷ W) → key_of K (at p d) < key_of N y
        low y (here w) = omega (arith, ap (key_of N) w, ltb-true (key_of K (at p d)) (key_of N (at q x)) f)
        low y (next m) = omega (
          arith,
          keys_on N (at q x) W g.upper y m,
          ltb-true (key_of K (at p d))
              (key_of N (at q x)) f,
        )
    go false f true z =
        upper_step g low (ih a s (at p d ∷ R) W (omega arith) (fewer W g g.upper.1 (λ y m. next m)))
      where
        low : (y : Edit) → Mem y (at p d ∷ R) → key_of N (at q x) < key_of K y
        low y (here w) = omega (arith, ap (key_of K) w, ltb-true (key_of N (at q x)) (key_of K (at p d)) z)
        low y (next m) = omega (
          arith,
          keys_on K (at p d) R g.lower y m,
          ltb-true (key_of N (at q x))
              (key_of K (at p d)) z,
        )
    go false f false z =
        one_key n p d q x ih g
        (omega (
          arith,
          ltb-false (key_of K (at p d)) (key_of N (at q x)) f,
          ltb-false (key_of N (at q x))
              (key_of K (at p d)) z,
        )) h

-- nothing is left of the upper layer
lowers_only : {K N : List ℕ} {a s : ℕ} (R : Layer) → Along K N a s R [] → Wove K N R [] R
lowers_only {K} {N} R g = record {
  means = λ k. sym (ap (joined (meaning K R k)) (meaning_nil N k) ∙ joined_none (meaning K R k));
  sits = g.lower_sits;
  rises = λ b hr hw. keys_from K b R g.lower hr;
}

pub weave_all : (n : ℕ) {K N : List ℕ} (a s : ℕ) (R W : Layer) → length R + length W ≤ n → Along K N a s R W
    → Wove K N R W (woven n K N a s R W)
unfolding woven
weave_all zero a s [] [] h g = lowers_only [] g
weave_all zero a s (e ∷ R) W h g = absurd (omega arith)
weave_all zero a s [] (f ∷ W) h g = absurd (omega arith)
weave_all (suc n) a s R [] h g = lowers_only R g
weave_all (suc n) a s [] (f ∷ W) h g = uppers (f ∷ W) g
weave_all (suc n) a s (at p d ∷ R) (at q x ∷ W) h g = step n p d q x (weave_all n) g h
