-- What callers know of a layer that the form check accepts.
-- Assumes nothing.
use Prim.Native.Nat.{ℕ, ◌+◌, ◌*◌, ◌≤◌}
use native.Mathlib.Omega.{arith}
use mathlib.Core.Path.{◌≡◌, refl, sym, ap, ◌∙◌}
use mathlib.Core.Bool.{Bool, true, false, not, cond, ◌&&◌}
use mathlib.Core.List.{List, Memᴰ as Mem}
use lib.ListN.{length, take}
use lib.Dec.{ltb, leb}
use borrow.Author.Tests.{ltb-false, le-ltb, le-leb}
use Rattle.words.specs.declared.Cause.TheVariants.{BadArguments, BadForm}
use Rattle.std.specs.Prelude.{Ok, Err}
use Rattle.order.specs.Lists.{count}
use Rattle.order.proofs.Tests.{impossible, and_of, or_false}
use Rattle.order.proofs.Members.{mem_map}
use Rattle.order.proofs.Pairs.{AllPairs, pairs_unmap, none_broken}
use Rattle.words.specs.declared.Entry.{Entry}
use Rattle.words.specs.declared.Refusal.{Refusal}
use Rattle.model.specs.Layer.{Edit, is_strike, rows_after}
use Rattle.model.specs.Raw.{Held, entries_of, edit_of, layer_of, flat}
use Rattle.model.specs.Form.{zeros, sound, follows, form_place, in_order, keeps_form, args_ok}
use Rattle.model.specs.Refusals.{breaks_form}
use Rattle.words.specs.Answer.{refusal}
use Rattle.model.specs.Calls.{form_answer}
use Rattle.theory.proofs.Raw.{entries_length, layer_length, form_place_lem, args_held}
use Rattle.theory.proofs.Fit.{in_order_lem}
use Rattle.form.specs.InForm.{InForm}
use Rattle.form.proofs.Formed.{Formed, Whole, whole, strikes_few}
use Rattle.form.proofs.Flat.{flat_entries}

pub record Accepted (c n m : ℕ) (xs : List ℕ) (rows : ℕ) : Type 0 where
  -- the arguments
  pub held : Held c m xs
  pub base : n ≤ 4096
  -- the rows after the layer
  pub shown : rows ≡ rows_after n (layer_of c m xs)
  pub few : rows ≤ 4096
  -- its edits: each alone, any two of them, and the tests that say so
  pub each : (e : Edit) → Mem e (layer_of c m xs) → sound c n e ≡ true
  pub pairs : AllPairs follows (layer_of c m xs)
  pub ordered : in_order c n (layer_of c m xs) ≡ true
  pub kept : keeps_form c n (layer_of c m xs) ≡ true
  pub strikes : count is_strike (layer_of c m xs) ≤ n
  pub size : length (layer_of c m xs) ≡ m
  -- its entries have their zeros, so written out it is what it was read from
  pub zeroed : (e : Entry) → Mem e (entries_of c m xs) → zeros e ≡ true
  pub numbers : flat c (layer_of c m xs) ≡ take (m * (c + 2)) xs

-- neither refusal is met
passed : (a b : Bool) (x y : Refusal) {r k : ℕ} → cond (not a) (Err x) (cond b (Err y) (Ok r)) ≡ Ok k
    → (a ≡ true) × (b ≡ false) × (r ≡ k)
passed true true x y e = impossible (cc)
passed true false x y e = (refl, refl, cc)
passed false b x y e = impossible (cc)

module _ (c n m : ℕ) (xs : List ℕ) (rows : ℕ) (h : form_answer c n m xs ≡ Ok rows) where
  done : (args_ok c n m (length xs) ≡ true) × (breaks_form c n m xs ≡ false) × (rows_after n (layer_of c m xs) ≡ rows)
  unfolding form_answer
  done =
      passed (args_ok c n m (length xs)) (breaks_form c n m xs) (refusal BadArguments 0)
      (refusal BadForm (0 + form_place c n (entries_of c m xs))) h

  kept : (ltb (form_place c n (entries_of c m xs)) m ≡ false) × (ltb 4096 (rows_after n (layer_of c m xs)) ≡ false)
  unfolding breaks_form
  kept = or_false (ltb (form_place c n (entries_of c m xs)) m) (ltb 4096 (rows_after n (layer_of c m xs))) done.1

  all_pass : form_place c n (entries_of c m xs) ≡ length (entries_of c m xs)
  all_pass = omega (
    arith,
    entries_length c m 0 xs,
    ltb-false (form_place c n (entries_of c m xs)) m kept.0,
    form_place_lem c n m xs,
  )

  good : Whole c n (entries_of c m xs)
  good = whole c n (entries_of c m xs) all_pass

  formed : Formed c n (layer_of c m xs)
  unfolding layer_of
  formed = good.formed

  written : flat c (layer_of c m xs) ≡ take (m * (c + 2)) xs
  unfolding flat layer_of
  written = let a = (args_held c n m xs done.0).0 in
      flat_entries c m 0 xs (omega (arith, a.room)) a.some good.zeroed

  total : rows_after n (layer_of c m xs) ≤ 4096
  total = ltb-false 4096 (rows_after n (layer_of c m xs)) kept.1

  ordered : in_order c n (layer_of c m xs) ≡ true
  ordered = in_order_lem c n (layer_of c m xs) formed.each formed.pairs

  pub accepted : Accepted c n m xs rows
  accepted =
      let a = args_held c n m xs done.0 in
      record {
        held = a.0;
        base = a.1;
        shown = sym done.2;
        few = omega (arith, total, done.2);
        each = formed.each;
        pairs = formed.pairs;
        ordered = ordered;
        kept = and_of (in_order c n (layer_of c m xs)) (leb (rows_after n (layer_of c m xs)) 4096)
            ordered (le-leb (rows_after n (layer_of c m xs)) 4096 total);
        strikes = strikes_few c n (layer_of c m xs) formed;
        size = layer_length c m xs;
        zeroed = good.zeroed;
        numbers = written;
      }

  pub in_form : InForm c n m xs
  in_form = h ∙ ap Ok accepted.shown

pub in_form_by : (c n m : ℕ) (xs : List ℕ) → args_ok c n m (length xs) ≡ true → breaks_form c n m xs ≡ false → InForm c n m xs
unfolding form_answer
in_form_by c n m xs a b = rw (a, b)

-- And back: a layer in a slice that is sound, in order and with its zeros is accepted.
module _ (c n m : ℕ) (xs : List ℕ) (held : Held c m xs) (base : n ≤ 4096)
    (zeroed : (e : Entry) → Mem e (entries_of c m xs) → zeros e ≡ true)
    (each : (e : Edit) → Mem e (layer_of c m xs) → sound c n e ≡ true)
    (pairs : AllPairs follows (layer_of c m xs))
    (few : rows_after n (layer_of c m xs) ≤ 4096) where
  args_pass : args_ok c n m (length xs) ≡ true
  unfolding args_ok
  args_pass =
      and_of (leb 1 c) _ (le-leb 1 c held.some) (and_of (leb c 8) _ (le-leb c 8 held.columns)
      (and_of (leb n 4096) _ (le-leb n 4096 base)
      (and_of (leb m 512) (leb (m * (c + 2)) (length xs)) (le-leb m 512 held.entries)
      (le-leb (m * (c + 2)) (length xs) held.room))))

  none_at_fault : form_place c n (entries_of c m xs) ≡ m
  unfolding form_place layer_of
  none_at_fault =
      none_broken (λ e. zeros e && sound c n (edit_of e)) (λ d e. follows (edit_of d) (edit_of e)) (entries_of c m xs)
      (λ e k. and_of (zeros e) (sound c n (edit_of e)) (zeroed e k)
      (each (edit_of e) (mem_map edit_of (entries_of c m xs) e k)))
      (pairs_unmap follows edit_of (entries_of c m xs) pairs)
      ∙ entries_length c m 0 xs

  pub accepts_form : InForm c n m xs
  unfolding breaks_form
  accepts_form =
      in_form_by c n m xs args_pass
      (rw (none_at_fault, le-ltb m m (omega arith), le-ltb 4096 (rows_after n (layer_of c m xs)) few))
