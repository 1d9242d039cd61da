-- Splices in numbers.
-- Assumes nothing.
use Prim.Native.Nat.{ℕ, ◌+◌, ◌*◌, ◌-◌, ◌≤◌, max}
use native.Mathlib.Nat.{add-mul, mul_comm, mul-sub, mul-le-mul_right}
use native.Mathlib.Omega.{arith}
use mathlib.Core.Path.{◌≡◌, sym, ap, ◌∙◌}
use mathlib.Core.List.{List}
use lib.ListN.{length}
use Rattle.model.specs.Raw.{Held}
use Rattle.store.specs.Numbers.{arrivals}
use Rattle.store.proofs.Laws.{few_arrive}
use Rattle.splice.specs.declared.Splice.{Splice}
use Rattle.splice.specs.Splice.{begins, resumes, BothWithin, count_two}

pub sub_mul : (a b w : ℕ) → (a - b) * w ≡ a * w - b * w
sub_mul a b w = mul_comm (a - b) w ∙ (mul-sub w a b ∙ (λ i. mul_comm w a i - mul_comm w b i))

pub max_mul : (a b w : ℕ) → max (a * w) (b * w) ≡ max a b * w
max_mul a b w =
    let e : max a b ≡ a + (b - a) = omega arith in
    omega (arith, ap (λ (n : ℕ). n * w) e, add-mul a (b - a) w, sub_mul b a w)

-- Two splices of m entries, the second behind the first, in numbers; and where the last number stands then.
pub record Lies (c m : ℕ) (p q : Splice) (len : ℕ) : Type 0 where
  pub first : resumes c p ≤ begins c q
  pub second : resumes c q ≤ m * (c + 2)
  pub all : m * (c + 2) ≤ len
  pub few : m * (c + 2) ≤ 5120
  pub goes : begins c p + p.gone * (c + 2) ≡ resumes c p
  pub goes₂ : begins c q + q.gone * (c + 2) ≡ resumes c q
  pub comes : arrivals p.comes * (c + 2) ≤ 10
  pub comes₂ : arrivals q.comes * (c + 2) ≤ 10
  pub stops : begins c p + arrivals p.comes * (c + 2) + (begins c q - resumes c p) + arrivals q.comes * (c + 2)
      + (m * (c + 2) - resumes c q) ≡ count_two m p q * (c + 2)

ten : (c k : ℕ) → c ≤ 8 → k ≤ 1 → k * (c + 2) ≤ 10
ten c k h l = omega (arith, mul-le-mul_right {m = k} {n = 1} (c + 2) l)

module _ (c m : ℕ) (xs : List ℕ) (H : Held c m xs) (p q : Splice) (B : BothWithin m p q) where
  stops : begins c p + arrivals p.comes * (c + 2) + (begins c q - resumes c p) + arrivals q.comes * (c + 2)
      + (m * (c + 2) - resumes c q) ≡ count_two m p q * (c + 2)
  stops =
      omega (
        arith,
        add-mul p.i p.gone (c + 2),
        add-mul q.i q.gone (c + 2),
        add-mul m (arrivals p.comes + arrivals q.comes) (c + 2),
        add-mul (arrivals p.comes) (arrivals q.comes) (c + 2),
        add-mul p.gone q.gone (c + 2),
        sub_mul (m + (arrivals p.comes + arrivals q.comes)) (p.gone + q.gone) (c + 2),
        mul-le-mul_right {m = p.i + p.gone} (c + 2) B.first,
        mul-le-mul_right {m = q.i + q.gone} (c + 2) B.second,
      )

  pub lies : Lies c m p q (length xs)
  lies = record {
    first = mul-le-mul_right {m = p.i + p.gone} (c + 2) B.first;
    second = mul-le-mul_right {m = q.i + q.gone} (c + 2) B.second;
    all = H.room;
    few = omega (arith, mul-le-mul_right {m = m} (c + 2) H.entries, H.columns);
    goes = sym (add-mul p.i p.gone (c + 2));
    goes₂ = sym (add-mul q.i q.gone (c + 2));
    comes = ten c (arrivals p.comes) H.columns (few_arrive p.comes);
    comes₂ = ten c (arrivals q.comes) H.columns (few_arrive q.comes);
    stops = stops;
  }
