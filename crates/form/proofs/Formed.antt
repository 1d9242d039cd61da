-- The answer of the form check, case by case; and what is known of the entries and edits where none is at fault.
-- Assumes nothing.
use Prim.Native.Nat.{ℕ, zero, suc, ◌+◌, ◌-◌, ◌≤◌, ◌<◌}
use native.Mathlib.Nat.{zero-add}
use native.Mathlib.Omega.{arith}
use mathlib.Core.Path.{◌≡◌, refl, sym, ap, ◌∙◌}
use mathlib.Core.Bool.{Bool, true, false, cond, ◌&&◌}
use mathlib.Core.List.Memᴰ.{head as here}
use mathlib.Core.List.Memᴰ.{tail as next}
use mathlib.Core.List.{List, [], ◌∷◌, map, Memᴰ as Mem}
use lib.ListN.{length}
use lib.Dec.{ltb}
use borrow.Author.Tests.{lt-ltb, le-ltb, ltb-true, ltb-false}
use Rattle.words.specs.declared.Cause.TheVariants.{BadArguments, BadForm}
use Rattle.std.specs.Prelude.{Ok, Err}
use Rattle.order.specs.Lists.{one, count}
use Rattle.order.proofs.Tests.{and_l, and_r}
use Rattle.order.proofs.Members.{map_mem}
use Rattle.order.proofs.Counts.{count_le, count_map, count_same}
use Rattle.order.proofs.Pairs.{AllPairs, Unbroken, unbroken, pairs_map}
use Rattle.words.specs.declared.Entry.{Entry}
use Rattle.model.specs.Layer.{Edit, at, add, strike, change, Layer, position, is_add, is_strike, rows_after}
use Rattle.model.specs.Raw.{edit_of, entries_at, entries_of, layer_of}
use Rattle.words.specs.Entry.{ADD, STRIKE}
use Rattle.model.specs.Form.{zeros, sound, follows, form_place, args_ok}
use Rattle.model.specs.Refusals.{breaks_form}
use Rattle.words.specs.Answer.{refusal}
use Rattle.model.specs.Calls.{form_answer}
use Rattle.theory.proofs.Raw.{entries_length, form_place_lem, args_held}
use Rattle.theory.proofs.Position.{follows_strike}
use Rattle.scan.specs.Scan.{good, good_from, of_kind, Judged, judgement}
use Rattle.scan.proofs.ByKind.{add_kind, strike_kind}
use Rattle.form.proofs.Place.{place, all_good}

-- no edit at fault: each is sound, and any two follow one another
pub record Formed (c n : ℕ) (L : Layer) : Type 0 where
  pub each : (e : Edit) → Mem e L → sound c n e ≡ true
  pub pairs : AllPairs follows L

pub rest : {c n : ℕ} (e : Edit) {L : Layer} → Formed c n (e ∷ L) → Formed c n L
rest e F = record { each = λ d m. F.each d (next m); pairs = F.pairs.1 }

-- what follows a strike stands past it
pub past_strike : (s k : ℕ) (e : Edit) → follows (at s (strike k)) e ≡ true → s < position e
past_strike s k (at p d) h = follows_strike s p k d h

-- so strikes stand at different positions, all of them below n
strikes_from : (c n b : ℕ) (L : Layer) → b ≤ n → ((e : Edit) → Mem e L → is_strike e ≡ true → b ≤ position e)
    → Formed c n L → b + count is_strike L ≤ n
strikes_from c n b [] h f F = omega arith
strikes_from c n b (at s (add r) ∷ L) h f F =
    omega (arith, strikes_from c n b L h (λ e m. f e (next m)) (rest (at s (add r)) F))
strikes_from c n b (at s (strike k) ∷ L) h f F =
    omega (
      arith,
      f (at s (strike k)) (here refl) refl,
      strikes_from c n (suc s) L (ltb-true s n (F.each (at s (strike k)) (here refl)))
          (λ e m t. past_strike s k e (F.pairs.0 e m))
          (rest (at s (strike k)) F),
    )
strikes_from c n b (at s (change j u) ∷ L) h f F =
    omega (arith, strikes_from c n b L h (λ e m. f e (next m)) (rest (at s (change j u)) F))

pub strikes_few : (c n : ℕ) (L : Layer) → Formed c n L → count is_strike L ≤ n
strikes_few c n L F = omega (arith, strikes_from c n 0 L (omega arith) (λ e m h. omega arith) F)

-- no entry at fault: each has its zeros, and their edits keep form
pub record Whole (c n : ℕ) (es : List Entry) : Type 0 where
  pub zeroed : (e : Entry) → Mem e es → zeros e ≡ true
  pub formed : Formed c n (map edit_of es)

pub whole : (c n : ℕ) (es : List Entry) → form_place c n es ≡ length es → Whole c n es
unfolding form_place
whole c n es h = record {
  zeroed = λ e m. and_l (zeros e) (sound c n (edit_of e)) (U.each e m);
  formed = record {
    each = λ e m.
        let w = map_mem edit_of es e m in
        ap (sound c n) w.2 ∙ and_r (zeros w.0) (sound c n (edit_of w.0)) (U.each w.0 w.1);
    pairs = pairs_map (λ d e. follows (edit_of d) (edit_of e)) follows edit_of es (λ x y m k f. f) U.pairs;
  };
}
  where
    U : Unbroken (λ e. zeros e && sound c n (edit_of e)) (λ d e. follows (edit_of d) (edit_of e)) [] es
    U = unbroken (λ e. zeros e && sound c n (edit_of e)) (λ d e. follows (edit_of d) (edit_of e)) [] es h

-- adds and strikes are counted by kind
pub count_kind : (k : ℕ) (f : Edit → Bool) → ((e : Entry) → f (edit_of e) ≡ of_kind k e) → (es : List Entry)
    → count (of_kind k) es ≡ count f (map edit_of es)
count_kind k f h es = sym (count_map edit_of f es ∙ count_same (λ e. f (edit_of e)) (of_kind k) es (λ e m. ap one (h e)))

-- refusal 1
pub args_refused : (c n m : ℕ) (xs : List ℕ) → args_ok c n m (length xs) ≡ false
    → Err (refusal BadArguments 0) ≡ form_answer c n m xs
unfolding form_answer
args_refused c n m xs h = rw h

-- no entry is at fault, and a of the edits are adds, s strikes: what is left is the row total
pub record Counted (c n m : ℕ) (xs : List ℕ) (a s : ℕ) : Type 0 where
  pub few_strikes : s ≤ n
  pub base : n ≤ 4096
  pub total : 4096 + s < n + a → Err (refusal BadForm m) ≡ form_answer c n m xs
  pub accept : n + a ≤ 4096 + s → Ok ((n + a) - s) ≡ form_answer c n m xs

module _ (c n m : ℕ) (xs : List ℕ) (ok : args_ok c n m (length xs) ≡ true) where
  -- refusal 2, at the first entry at fault
  place_refused : (p : ℕ) → p ≡ length (good c n (entries_of c m xs)) → p < m
      → Err (refusal BadForm p) ≡ form_answer c n m xs
  unfolding form_answer breaks_form
  place_refused p e h = rw (ok, ← place c n (entries_of c m xs), ← e, lt-ltb p m h, zero-add)

  -- no entry is at fault, and a and s of them are adds and strikes
  module _ (p a s : ℕ) (h : m ≤ p) (seen : (p ≡ length (good c n (entries_of c m xs)))
      × (a ≡ count (of_kind ADD) (good c n (entries_of c m xs)))
      × (s ≡ count (of_kind STRIKE) (good c n (entries_of c m xs)))) where
    all : good c n (entries_of c m xs) ≡ entries_of c m xs
    all = all_good c n 0 ADD (entries_of c m xs) (omega (arith, entries_length c m 0 xs))

    placed : form_place c n (entries_of c m xs) ≡ m
    placed = sym (place c n (entries_of c m xs)) ∙ ap length all ∙ entries_length c m 0 xs

    adds : a ≡ count is_add (layer_of c m xs)
    unfolding layer_of
    adds = seen.1 ∙ ap (count (of_kind ADD)) all ∙ count_kind ADD is_add add_kind (entries_of c m xs)

    strikes : s ≡ count is_strike (layer_of c m xs)
    unfolding layer_of
    strikes = seen.2 ∙ ap (count (of_kind STRIKE)) all ∙ count_kind STRIKE is_strike strike_kind (entries_of c m xs)

    few : s ≤ n
    unfolding layer_of
    few =
        let w = whole c n (entries_of c m xs) (placed ∙ sym (entries_length c m 0 xs)) in
        omega (arith, strikes, strikes_few c n (layer_of c m xs) w.formed)

    -- refusal 2, for the row total
    total : 4096 + s < n + a → Err (refusal BadForm m) ≡ form_answer c n m xs
    unfolding form_answer breaks_form
    total l =
        let t : 4096 < rows_after n (layer_of c m xs) = omega (arith, adds, strikes) in
        rw (ok, placed, le-ltb m m (omega arith), lt-ltb 4096 (rows_after n (layer_of c m xs)) t, zero-add)

    accept : n + a ≤ 4096 + s → Ok ((n + a) - s) ≡ form_answer c n m xs
    unfolding form_answer breaks_form
    accept l =
        let t : rows_after n (layer_of c m xs) ≤ 4096 = omega (arith, adds, strikes) in
        rw (ok, placed, le-ltb m m (omega arith), le-ltb 4096 (rows_after n (layer_of c m xs)) t, adds, strikes)

    pub counted : Counted c n m xs a s
    counted = record { few_strikes = few; base = (args_held c n m xs ok).1; total = total; accept = accept }

  -- what the pass found, judged
  module _ (p a s : ℕ) (seen : (p ≡ length (good c n (entries_of c m xs)))
      × (a ≡ count (of_kind ADD) (good c n (entries_of c m xs)))
      × (s ≡ count (of_kind STRIKE) (good c n (entries_of c m xs)))) where
    held : m ≤ 512
    held = (args_held c n m xs ok).0.entries

    passed : length (good c n (entries_of c m xs)) ≤ m
    passed = omega (arith, place c n (entries_of c m xs), form_place_lem c n m xs)

    pub judged : Judged n m p a s
    judged = record {
      base = (args_held c n m xs ok).1;
      few_adds = omega (arith, seen.1, count_le (of_kind ADD) (good c n (entries_of c m xs)), held, passed);
      few_strikes = omega (arith, seen.2, count_le (of_kind STRIKE) (good c n (entries_of c m xs)), held, passed);
      struck = λ h. (counted p a s h seen).few_strikes;
    }

    pub judges : judgement n m p a s ≡ form_answer c n m xs
    judges = by (ltb p m) refl (ltb (4096 + s) (n + a)) refl
      where
        by : (t : Bool) → ltb p m ≡ t → (u : Bool) → ltb (4096 + s) (n + a) ≡ u
            → cond t (Err (refusal BadForm p)) (cond u (Err (refusal BadForm m)) (Ok ((n + a) - s))) ≡ form_answer c n m xs
        by true e u f = place_refused p seen.0 (ltb-true p m e)
        by false e true f = (counted p a s (ltb-false p m e) seen).total (ltb-true (4096 + s) (n + a) f)
        by false e false f = (counted p a s (ltb-false p m e) seen).accept (ltb-false (4096 + s) (n + a) f)

-- an empty layer whose arguments pass is in form, and its rows are those of the base
pub empty_done : (c n m : ℕ) (xs : List ℕ) → m ≡ 0 → args_ok c n m (length xs) ≡ true → Ok n ≡ form_answer c n m xs
unfolding entries_at good_from
empty_done c n zero xs z ok =
    let k = counted c n 0 xs ok 0 0 0 (omega arith) (refl, refl, refl) in
    let e : n ≡ (n + 0) - 0 = omega arith in
    ap Ok e ∙ k.accept (omega (arith, k.base))
empty_done c n (suc m) xs z ok = absurd (omega (arith, z))
