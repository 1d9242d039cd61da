-- What is known of a layer that is in form and fits its keys, as a layer over the rows of one column that are the keys.
-- Assumes nothing.
use Prim.Native.Nat.{ℕ}
use mathlib.Core.Path.{ap, ◌∙◌}
use mathlib.Core.List.{List}
use lib.ListN.{length}
use Rattle.order.specs.Lists.{ascending}
use Rattle.order.proofs.Ascending.{AscFrom, asc_of}
use Rattle.model.specs.Row.{key}
use Rattle.model.specs.Layer.{rows_after}
use Rattle.model.specs.Raw.{layer_of}
use Rattle.theory.proofs.Fit.{Good, good_of}
use Rattle.theory.proofs.Column.{singles, keys_singles, singles_length}
use Rattle.form.proofs.Accepted.{Accepted}
use Rattle.fit.specs.Ready.{Ready}
use Rattle.fit.proofs.Answers.{ready_form}

pub record Known (c m : ℕ) (raw K : List ℕ) : Type 0 where
  pub acc : Accepted c (length K) m raw (rows_after (length K) (layer_of c m raw))
  pub rising : AscFrom key 0 (singles K)
  pub good : Good c (singles K) (layer_of c m raw)

pub known : {c m : ℕ} {raw K : List ℕ} → Ready c m raw K → Known c m raw K
known {c} {m} {raw} {K} R =
    let A = ready_form R in
    let asc = asc_of key (singles K) (ap ascending (keys_singles K) ∙ R.keys) in
    record {
      acc = A;
      rising = asc;
      good =
          good_of c (singles K) (layer_of c m raw) asc (rw (singles_length K) A.ordered)
          (rw (keys_singles K) R.fit);
    }
