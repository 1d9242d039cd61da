-- A run of edits, each of them allowed, leaves a good layer that reads as the table of those edits done one after the
-- other by key.
-- Assumes nothing.
use mathlib.Core.Path.{◌≡◌, refl, ap}
use mathlib.Core.List.Memᴰ.{not-nil}
use mathlib.Core.List.{List, [], ◌∷◌, Memᴰ as Mem}
use Prim.Native.Nat.{ℕ, suc}
use lib.ListN.{get_or}
use Rattle.order.specs.Lists.{in_turn}
use Rattle.order.proofs.Ascending.{AscFrom, At, get_or_at}
use Rattle.model.specs.Row.{Row, Table, key}
use Rattle.model.specs.Layer.{Layer}
use Rattle.model.specs.Read.{read_from, read}
use Rattle.model.specs.Steps.{Step, adding, striking, changing, renumbering, step_on, step_by, Allowed, AllAllowed}
use Rattle.theory.proofs.Fit.{Good}
use Rattle.theory.proofs.Renumbered.{renumber_reads}
use Rattle.theory.proofs.Edited.{Reads, add_good, add_reads, strike_good, strike_reads, change_good, change_reads}

-- an empty layer over any table is good, and shows the base
pub empty_good : (c : ℕ) (T : Table) → Good c T []
empty_good c T = record {
  each = λ e m. absurd (not-nil m);
  fit = record {
    sits = λ s r m. absurd (not-nil m);
    fresh = λ s r m i q n e. absurd (not-nil m);
    strikes = λ s k m. absurd (not-nil m);
    changes = λ s j e m. absurd (not-nil m);
    sorted = tt;
  };
}

base_from : (s : ℕ) (T : Table) → read_from s T [] ≡ T
base_from s [] = refl
base_from s (r ∷ T) = ap (λ (t : Table). r ∷ t) (base_from (suc s) T)

pub empty_reads : (T : Table) → read T [] ≡ T
empty_reads T = base_from 0 T

module _ (c : ℕ) (T : Table) (a : AscFrom key 0 T) where
  -- one step
  pub step_reads : (x : Step) (L : Layer) (M : Table) → Reads c T L M → Allowed c x M
      → Reads c T (step_on T x L) (step_by x M)
  step_reads (adding r) L M S w =
      let free : (q : Row) → Mem q (read T L) → key q ≡ key r → ⊥ = λ q m. w.1 q (rw S.reads at m) in
      record {
        good = add_good c T L a S.good r w.0 free;
        reads = rw (← S.reads) (add_reads c T L a S.good r w.0 free);
      }
  step_reads (striking i) L M S w =
      let n : At (get_or (read T L) i []) i 0 (read T L) = get_or_at (read T L) i [] (rw S.reads w) in
      record {
        good = strike_good c T L a S.good i (get_or (read T L) i []) n;
        reads = rw (← S.reads) (strike_reads c T L a S.good i (get_or (read T L) i []) n);
      }
  step_reads (changing i j e) L M S w =
      let n : At (get_or (read T L) i []) i 0 (read T L) = get_or_at (read T L) i [] (rw S.reads w.0) in
      record {
        good = change_good c T L a S.good i (get_or (read T L) i []) n j e w.1 w.2;
        reads = rw (← S.reads) (change_reads c T L a S.good i (get_or (read T L) i []) n j e w.1 w.2);
      }
  step_reads (renumbering i g) L M S w =
      rw S.reads at (renumber_reads c T L a S.good i g (rw S.reads w.0) w.1 (rw S.reads w.2)
      (λ x m. w.3 x (rw S.reads at m)))

  -- a run of steps
  pub run_reads : (xs : List Step) (L : Layer) (M : Table) → Reads c T L M → AllAllowed c xs M
      → Reads c T (in_turn (step_on T) xs L) (in_turn step_by xs M)
  run_reads [] L M S w = S
  run_reads (x ∷ xs) L M S w = run_reads xs (step_on T x L) (step_by x M) (step_reads x L M S w.0) w.1

  -- from an empty layer: the table of those edits done one after the other by key
  pub run_from_empty : (xs : List Step) → AllAllowed c xs T → Reads c T (in_turn (step_on T) xs []) (in_turn step_by xs T)
  run_from_empty xs w = run_reads xs [] T (record { good = empty_good c T; reads = empty_reads T }) w
