-- Two layers that fit are joined: what the walk needs, that it leaves the combination, and what is answered then.
-- Assumes nothing.
use mathlib.Core.Path.{◌≡◌, sym, ap, subst, ◌∙◌}
use mathlib.Core.Bool.{true, false}
use mathlib.Core.List.{List, ◌++◌}
use Prim.Native.Nat.{ℕ, ◌+◌, ◌*◌, ◌≤◌}
use native.Mathlib.Omega.{arith}
use lib.ListN.{length, drop}
use lib.Dec.{ltb}
use borrow.Author.Tests.{ltb-false, le-ltb}
use Rattle.words.specs.declared.Cause.TheVariants.{NoRoom}
use Rattle.std.specs.Prelude.{Ok, Err}
use Rattle.model.specs.Limits.{most_rows}
use Rattle.model.specs.Layer.{Layer, rows_after}
use Rattle.model.specs.Raw.{layer_of, flat, room}
use Rattle.model.specs.Read.{keys_after}
use Rattle.model.specs.Redo.{combine}
use Rattle.words.specs.Answer.{refusal, Answer}
use Rattle.model.specs.Calls.{form_answer, combine_rows, combine_answer, combine_slice, combined_layer, written}
use Rattle.theory.proofs.Stages.{reached, stage_passed}
use Rattle.form.proofs.Accepted.{Accepted, accepted}
use Rattle.store.proofs.Laws.{in_room}
use Rattle.over.specs.Over.{Named}
use Rattle.woven.specs.Woven.{woven_layer}
use Rattle.woven.proofs.Combined.{Combines, combines}
use Rattle.turn.specs.Turn.{Both}
use Rattle.weave.specs.Written.{Woven}
use Rattle.stacked.specs.Checked.{both_answer, Fits}
use Rattle.stacked.proofs.Answers.{after_both, all_fit}

-- what both layers make together
abbrev pub whole : ℕ → List ℕ → ℕ → List ℕ → ℕ → List ℕ → Layer
whole c K mR rawR mW rawW =
    woven_layer K (keys_after K (layer_of c mR rawR)) (layer_of c mR rawR) (layer_of c mW rawW)

-- two layers that fit
module _ {c : ℕ} {K : List ℕ} {mR : ℕ} {rawR : List ℕ} {mW : ℕ} {rawW : List ℕ} (f : Fits c K mR rawR mW rawW) where
  abbrev R : Layer
  R = layer_of c mR rawR

  abbrev W : Layer
  W = layer_of c mW rawW

  abbrev N : List ℕ
  N = keys_after K R

  abbrev M : Layer
  M = combine K R W

  pub low : Accepted c (length K) mR rawR (rows_after (length K) R)
  low = accepted c (length K) mR rawR (rows_after (length K) R) f.forms.lower

  pub up : Accepted c (rows_after (length K) R) mW rawW (rows_after (rows_after (length K) R) W)
  up = accepted c (rows_after (length K) R) mW rawW (rows_after (rows_after (length K) R) W) f.forms.upper

  pub joins : Combines c K R W
  joins = combines c K R W f.rising low.ordered f.lower up.ordered f.upper

  pub rows_few : rows_after (length K) M ≤ 4096
  rows_few = omega (arith, joins.rows, up.few)

  pub both : (names : List ℕ) → Named c N mW rawW names → 512 ≤ length names → Both c K N mR rawR mW rawW names
  both names h l = record {
    lower = f.forms.lower ∙ ap Ok (sym joins.shown);
    upper = subst (λ (n : ℕ). form_answer c n mW rawW ≡ Ok (rows_after n W)) (sym joins.shown) f.forms.upper;
    named = h;
    room = omega (arith, up.held.entries);
  }

-- the call, once both layers are checked
module _ (c : ℕ) (K : List ℕ) (mR : ℕ) (rawR : List ℕ) (mW : ℕ) (rawW out : List ℕ) (k : ℕ)
    (h : both_answer c K mR rawR mW rawW ≡ Ok k) where
  abbrev made : Layer
  made = whole c K mR rawR mW rawW

  pub fit : Fits c K mR rawR mW rawW
  fit = all_fit c K mR rawR mW rawW k h

  same : made ≡ combined_layer c K mR rawR mW rawW
  same = (joins fit).same

  -- refusal 9
  pub short : ltb (room c (length out)) (length made) ≡ true
      → Err (refusal NoRoom 0) ≡ combine_answer c K mR rawR mW rawW (length out)
  short t =
      sym (after_both c K mR rawR mW rawW (length out)
      ∙ rw (h, subst (λ (L : Layer). ltb (room c (length out)) (length L) ≡ true) same t))

  -- there is room, and refusal 10 is not met
  module _ (t : ltb (room c (length out)) (length made) ≡ false) where
    pub there : length made * (c + 2) ≤ length out
    there = (in_room c (length out) (length made) (omega (arith, ltb-false (room c (length out)) (length made) t))).1

    pub enough : (m : ℕ) → length made ≡ m → Ok m ≡ combine_answer c K mR rawR mW rawW (length out)
    enough m e =
        sym (after_both c K mR rawR mW rawW (length out)
        ∙ rw (
          h,
          subst (λ (L : Layer). ltb (room c (length out)) (length L) ≡ false) same t,
          le-ltb most_rows (rows_after (length K) (combined_layer c K mR rawR mW rawW)) (rows_few fit),
          sym (ap length same),
          e,
        ))

    pub written_whole : (m : ℕ) (old new : List ℕ) → old ≡ out → Woven c made m old new
        → new ≡ combine_slice c K mR rawR mW rawW out
    written_whole m old new e g =
        g.all
        ∙ ((λ i. flat c (same i) ++ drop (length (flat c (same i))) (e i))
        ∙ ap (λ (a : Answer). written a (flat c (combined_layer c K mR rawR mW rawW)) out) (enough m g.entries))

-- what is refused leaves the slice
pub kept : (c : ℕ) (K : List ℕ) (mR : ℕ) (rawR : List ℕ) (mW : ℕ) (rawW out : List ℕ) (a : Answer)
    → a ≡ combine_answer c K mR rawR mW rawW (length out)
    → written a (flat c (combined_layer c K mR rawR mW rawW)) out ≡ combine_slice c K mR rawR mW rawW out
kept c K mR rawR mW rawW out a e = ap (λ (t : Answer). written t (flat c (combined_layer c K mR rawR mW rawW)) out) e

-- what an accepted combination has passed
pub record Accepts (c : ℕ) (K : List ℕ) (mR : ℕ) (rawR : List ℕ) (mW : ℕ) (rawW : List ℕ) (len m : ℕ) : Type 0 where
  pub fit : Fits c K mR rawR mW rawW
  pub size : length (combined_layer c K mR rawR mW rawW) ≡ m
  pub room_left : m ≤ room c len

pub accepts : (c : ℕ) (K : List ℕ) (mR : ℕ) (rawR : List ℕ) (mW : ℕ) (rawW : List ℕ) (len m : ℕ)
    → combine_answer c K mR rawR mW rawW len ≡ Ok m → Accepts c K mR rawR mW rawW len m
accepts c K mR rawR mW rawW len m h =
    let L = combined_layer c K mR rawR mW rawW in
    let w = reached (both_answer c K mR rawR mW rawW) (sym (after_both c K mR rawR mW rawW len) ∙ h) in
    let p = stage_passed (combine_rows c len K (layer_of c mR rawR) (layer_of c mW rawW)) (length L) m w.2 in
    record {
      fit = all_fit c K mR rawR mW rawW w.0 w.1;
      size = p.1;
      room_left = omega (arith, ltb-false (room c len) (length L) p.0.0, p.1);
    }
