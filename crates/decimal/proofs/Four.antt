-- Four tests passed together, and taken apart.
-- Assumes nothing.
use mathlib.Core.Path.{◌≡◌}
use mathlib.Core.Bool.{Bool, true, ◌&&◌}
use Prim.Native.Nat.{ℕ, ◌≤◌, ◌<◌}
use lib.Dec.{leb, ltb}
use borrow.Author.Tests.{ltb-true, leb-true, lt-ltb, le-leb}
use Rattle.order.proofs.Tests.{and_l, and_r}

pub passed : (a b c d : ℕ) (p : Bool) (v w : ℕ) → (leb a b && leb c d) && (p && ltb v w) ≡ true
    → (a ≤ b) × (c ≤ d) × (p ≡ true) × (v < w)
passed a b c d p v w e =
    let sizes = and_l (leb a b && leb c d) (p && ltb v w) e in
    let rest = and_r (leb a b && leb c d) (p && ltb v w) e in (
      leb-true a b (and_l (leb a b) (leb c d) sizes),
      leb-true c d (and_r (leb a b) (leb c d) sizes),
      and_l p (ltb v w) rest,
      ltb-true v w (and_r p (ltb v w) rest),
    )

pub pass : (a b c d : ℕ) (p : Bool) (v w : ℕ) → a ≤ b → c ≤ d → p ≡ true → v < w
    → (leb a b && leb c d) && (p && ltb v w) ≡ true
pass a b c d p v w h i e j = rw (le-leb a b h, le-leb c d i, e, lt-ltb v w j)
