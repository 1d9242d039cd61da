-- What is promised of combining: the layer left keeps form, fits and reads as R and then W in turn; one outcome for
-- each input.
-- Assumes nothing.
use mathlib.Core.Path.{◌≡◌, sym, ap, subst, ◌∙◌}
use mathlib.Core.Bool.{true}
use mathlib.Core.List.{List, ◌++◌, Memᴰ as Mem}
use Prim.Native.Nat.{ℕ, ◌+◌, ◌*◌, ◌≤◌}
use native.Mathlib.Omega.{arith}
use lib.ListN.{length, drop, length-append}
use lib.Seq.{drop_at}
use borrow.Author.Tests.{le-leb}
use contract.Lifetimes.{Lfts}
use denote.Triple.Clauses.{AtExit}
use borrow.Fn.Kinds.{Dens, ended_of}
use Rattle.words.specs.Answer.{Answer}
use Rattle.std.specs.Prelude.{Ok}
use Rattle.order.proofs.Pairs.{AllPairs, pairs_weaker}
use Rattle.order.proofs.Ascending.{AscFrom, asc_of}
use Rattle.model.specs.Limits.{most_rows}
use Rattle.model.specs.Row.{Table, key, keys, column}
use Rattle.model.specs.Layer.{Edit, Layer, rows_after}
use Rattle.words.specs.declared.Entry.{Entry}
use Rattle.model.specs.Raw.{entries_of, layer_of, flat}
use Rattle.model.specs.Form.{zeros, sound, follows, in_order, keeps_form}
use Rattle.model.specs.Fit.{fits}
use Rattle.model.specs.Read.{read, read_column}
use Rattle.model.specs.Edits.{before}
use Rattle.model.specs.Redo.{combine}
use Rattle.model.specs.Calls.{written}
use Rattle.theory.proofs.Edits.{before_follows}
use Rattle.theory.proofs.Fit.{Good, keys_length, good_of}
use Rattle.theory.proofs.Column.{Wide, column_read, read_wide}
use Rattle.theory.proofs.Combine.{combine_good, combine_reads, combine_form, combine_fits, upper_good}
use Rattle.theory.proofs.Readback.{read_back, zeros_back, sound_wide}
use Rattle.write.proofs.Layers.{flat_length}
use Rattle.stacked.specs.Checked.{Fits}
use Rattle.joined.specs.Promises.{Combined, Left, ColumnReads}
use Rattle.combine.proofs.combine.Kinds as combine_kinds
use Rattle.combine.proofs.combine.Reads as combine_contract
use Rattle.combine.proofs.Joining.{low, up, joins, rows_few, accepts, Accepts}
use Rattle.form.proofs.Accepted.{accepts_form}
use Rattle.fit.proofs.Answers.{ready_fits}
use Rattle.store.proofs.Laws.{in_room}

-- the contract, as the call is proved to meet it, allows just these outcomes
pub outcome : (κs : Lfts 4) (a : Dens κs combine_kinds.ps) (s : AtExit (ended_of 4 combine_kinds.ps combine_kinds.r) κs)
    (r : Answer) → combine_contract.Post κs a r s
    → Combined a.0 a.1.0.now a.1.1.0 a.1.1.1.0.now a.1.1.1.1.0 a.1.1.1.1.1.0.now
    a.1.1.1.1.1.1.0.now r s.1.1.1.1.1.1.0.now
outcome κs a s r p = p

-- any two outcomes that it allows are one
pub combine_unique : (c : ℕ) (K : List ℕ) (mR : ℕ) (rawR : List ℕ) (mW : ℕ) (rawW out : List ℕ) (a b : Answer)
    (out' new : List ℕ)
    → Combined c K mR rawR mW rawW out a out' → Combined c K mR rawR mW rawW out b new → (a ≡ b) × (out' ≡ new)
combine_unique c K mR rawR mW rawW out a b out' new o p =
    (o.0 ∙ sym p.0, o.1 ∙ sym p.1)

module _ (c : ℕ) (T : Table) (mR : ℕ) (rawR : List ℕ) (mW : ℕ) (rawW out : List ℕ) (a : Answer) (out' : List ℕ)
    (o : Combined c (keys T) mR rawR mW rawW out a out') (m : ℕ) (done : a ≡ Ok m) where
  abbrev K : List ℕ
  K = keys T

  abbrev R : Layer
  R = layer_of c mR rawR

  abbrev W : Layer
  W = layer_of c mW rawW

  abbrev M : Layer
  M = combine K R W

  A : Accepts c K mR rawR mW rawW (length out) m
  A = accepts c K mR rawR mW rawW (length out) m (sym o.0 ∙ done)

  F : Fits c K mR rawR mW rawW
  F = A.fit

  asc : AscFrom key 0 T
  asc = asc_of key T F.rising

  lower_good : Good c T R
  lower_good =
      good_of c T R asc (subst (λ (n : ℕ). in_order c n R ≡ true) (keys_length T) (low F).ordered) F.lower

  over_good : Good c (read T R) W
  over_good =
      upper_good c T R W asc lower_good (subst (λ (n : ℕ). in_order c (rows_after n R) W ≡ true) (keys_length T)
      (up F).ordered) F.upper

  written_out : out' ≡ flat c M ++ drop (length (flat c M)) out
  written_out = o.1 ∙ ap (λ (t : Answer). written t (flat c M) out) (sym o.0 ∙ done)

  back : layer_of c m out' ≡ M
  back = ap (layer_of c m) written_out
      ∙ read_back c (length K) (low F).held.some (low F).held.columns m M (drop (length (flat c M)) out) A.size
      (joins F).each

  numbers : length (flat c M) ≡ m * (c + 2)
  numbers = flat_length c M (λ e q. sound_wide c (length K) (low F).held.some e ((joins F).each e q)) ∙ ap (λ (k : ℕ). k * (c + 2)) A.size

  fits_in : m * (c + 2) ≤ length out'
  fits_in = omega (arith, numbers, ap length written_out, length-append (flat c M) (drop (length (flat c M)) out))

  -- what combine leaves
  pub left : Left c T R W m out out'
  left = record {
    holds = back;
    formed = subst (λ (L : Layer). keeps_form c (length T) L ≡ true) (sym back)
        (combine_form c T R W asc lower_good over_good (le-leb (rows_after (rows_after (length T) R) W) most_rows
        (subst (λ (n : ℕ). rows_after (rows_after n R) W ≤ 4096) (keys_length T) (up F).few)));
    fitted = subst (λ (L : Layer). fits K L ≡ true) (sym back) (combine_fits c T R W asc lower_good over_good);
    again =
        ready_fits (record {
          form = accepts_form c (length K) m out'
              (record {
                some = (low F).held.some;
                columns = (low F).held.columns;
                entries = (in_room c (length out) m A.room_left).0;
                room = fits_in;
              }) (low F).base
              (subst (λ (xs : List ℕ). (e : Entry) → Mem e (entries_of c m xs) → zeros e ≡ true) (sym written_out)
              (zeros_back c (length K) (low F).held.some (low F).held.columns m M (drop (length (flat c M)) out) A.size
              (joins F).each))
              (subst (λ (L : Layer). (e : Edit) → Mem e L → sound c (length K) e ≡ true) (sym back) (joins F).each)
              (subst (AllPairs follows) (sym back)
              (pairs_weaker before follows M (λ x y p q h. before_follows x y h)
              (combine_good c T R W asc lower_good over_good).fit.sorted))
              (subst (λ (L : Layer). rows_after (length K) L ≤ 4096) (sym back) (rows_few F));
          keys = F.rising;
          fit = subst (λ (L : Layer). fits K L ≡ true) (sym back) (combine_fits c T R W asc lower_good over_good);
        });
    reads = ap (read T) back ∙ combine_reads c T R W asc lower_good over_good;
    behind =
        ap (drop (m * (c + 2))) written_out
        ∙ (drop_at (flat c M) (drop (length (flat c M)) out) (m * (c + 2)) numbers
        ∙ ap (λ (k : ℕ). drop k out) numbers);
  }

  -- each column by itself
  pub column_reads : Wide c T → ColumnReads c m T R W out'
  column_reads w j h =
      ap (read_column j (column j T)) back
      ∙ (sym (column_read c j T M w h)
      ∙ (ap (column j) (combine_reads c T R W asc lower_good over_good)
      ∙ (column_read c j (read T R) W (read_wide c T R w lower_good) h
      ∙ ap (λ (xs : List ℕ). read_column j xs W) (column_read c j T R w h))))
