-- A layer that keeps form is ready to be read run by run: each edit that shows finds its row not yet passed.
-- Assumes nothing.
use Prim.Native.Nat.{ℕ, suc, ◌≤◌, ◌<◌}
use native.Mathlib.Omega.{arith}
use mathlib.Core.Path.{◌≡◌, refl, sym}
use mathlib.Core.Logic.{⊎_elim}
use mathlib.Core.Bool.{true, true≢false}
use mathlib.Core.List.Memᴰ.{head as here}
use mathlib.Core.List.Memᴰ.{tail as next}
use mathlib.Core.List.{[], ◌∷◌, Memᴰ as Mem}
use lib.Dec.{eqb, ltb, leb}
use borrow.Author.Tests.{ltb-true, leb-true, eqb-true}
use Rattle.order.proofs.Tests.{and_l, lex_cases}
use Rattle.order.proofs.Pairs.{AllPairs}
use Rattle.model.specs.Cell.{CellEdit}
use Rattle.model.specs.Layer.{Deed, add, strike, change, Edit, at, Layer, position}
use Rattle.model.specs.Form.{sound, after, follows}
use Rattle.model.specs.Read.{touches}
use Rattle.column.specs.Runs.{Ready}

-- what follows an edit at p stands there or later; past p, where the two deeds cannot stand at one position
not_before : (p : ℕ) (d : Deed) (f : Edit) → follows (at p d) f ≡ true → p ≤ position f
not_before p d (at s e) h = ⊎_elim (λ l. omega arith) (λ w. omega (arith, w.0)) (lex_cases p s (after d e) h)

past : (p s : ℕ) (d e : Deed) → (after d e ≡ true → ⊥) → follows (at p d) (at s e) ≡ true → p < s
past p s d e n h = ⊎_elim (λ l. l) (λ w. absurd (n w.1)) (lex_cases p s (after d e) h)

past_strike : (p k : ℕ) (f : Edit) → follows (at p (strike k)) f ≡ true → p < position f
past_strike p k (at s e) h = past p s (strike k) e (λ t. true≢false (sym t)) h

past_change : (j p i : ℕ) (e : CellEdit) (f : Edit) → eqb j i ≡ true → touches j f ≡ true
    → follows (at p (change i e)) f ≡ true → p < position f
past_change j p i e (at s (add r)) g t h = past p s (change i e) (add r) (λ z. true≢false (sym z)) h
past_change j p i e (at s (strike k)) g t h = past p s (change i e) (strike k) (λ z. true≢false (sym z)) h
past_change j p i e (at s (change l d)) g t h =
    past p s (change i e) (change l d) (λ z. omega (arith, ltb-true i l z, eqb-true j i g, eqb-true j l t)) h

-- base row s is next, and every edit that shows in column j stands at s or later
ready_from : (c n j s : ℕ) (L : Layer) → s ≤ n → ((e : Edit) → Mem e L → sound c n e ≡ true) → AllPairs follows L
    → ((f : Edit) → Mem f L → touches j f ≡ true → s ≤ position f) → Ready j n s L
unfolding Ready
ready_from c n j s [] h a f q = h
ready_from c n j s (at p (add r) ∷ L) h a f q =
    let u = leb-true p n (and_l (leb p n) _ (a (at p (add r)) (here refl))) in (
      q (at p (add r)) (here refl) refl,
      u,
      ready_from c n j p L u (λ e m. a e (next m)) f.1 (λ e m t. not_before p (add r) e (f.0 e m)),
    )
ready_from c n j s (at p (strike k) ∷ L) h a f q =
    let u = ltb-true p n (a (at p (strike k)) (here refl)) in (
      q (at p (strike k)) (here refl) refl,
      u,
      ready_from c n j (suc p) L u (λ e m. a e (next m)) f.1 (λ e m t. past_strike p k e (f.0 e m)),
    )
ready_from c n j s (at p (change i d) ∷ L) h a f q =
    let u = ltb-true p n (and_l (ltb p n) _ (a (at p (change i d)) (here refl))) in (
      (λ g. (
        q (at p (change i d)) (here refl) g,
        u,
        ready_from c n j (suc p) L u (λ e m. a e (next m)) f.1 (λ e m t. past_change j p i d e g t (f.0 e m)),
      )),
      (λ g. ready_from c n j s L h (λ e m. a e (next m)) f.1 (λ e m. q e (next m))),
    )

pub ready : (c n j : ℕ) (L : Layer) → ((e : Edit) → Mem e L → sound c n e ≡ true) → AllPairs follows L → Ready j n 0 L
ready c n j L a f = ready_from c n j 0 L (omega arith) a f (λ e m t. omega arith)
