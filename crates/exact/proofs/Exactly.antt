-- The refusal table of the scope as lines: a cause, a place, and the fact that passes the line. Tests that are such
-- lines refuse for a line's cause and at its place exactly where all lines before it pass and it does not, and are done
-- exactly where all pass.
-- Assumes nothing.
use Prim.Native.Nat.{ℕ, ◌+◌, ◌*◌, ◌≤◌, ◌/◌}
use native.Mathlib.Nat.{le-div_iff_mul-le}
use native.Mathlib.Omega.{arith}
use mathlib.Core.Path.{◌≡◌, refl, sym, ap, ◌∙◌}
use mathlib.Core.Logic.{◌⊎◌, inl, inr, ⊎_elim, ◌↔◌}
use mathlib.Core.Bool.{Bool, true, false, ◌&&◌, ◌||◌, true≢false}
use mathlib.Core.List.{List, [], ◌∷◌, ◌++◌}
use lib.Dec.{leb, eqb}
use borrow.Author.Tests.{leb-true, le-leb}
use Rattle.std.specs.Prelude.{Ok, Err}
use Rattle.order.specs.Lists.{all}
use Rattle.order.proofs.Tests.{and_l, and_r}
use Rattle.words.specs.declared.Cause.{Cause}
use Rattle.words.specs.declared.Refusal.{Refusal}
use Rattle.model.specs.Raw.{room}
use Rattle.model.specs.Form.{args_ok}
use Rattle.model.specs.Refusals.{Test, refuse, first_met}
use Rattle.words.specs.Answer.{cause_number, refusal, Answer}
use Rattle.theory.proofs.Stages.{never_done}

-- a line of the table: its cause, its place, and what passes it
pub data Line : Type 1 where
  line : Cause → ℕ → Type 0 → Line

-- every line passes
abbrev pub Pass : List Line → Type 0
Pass [] = Unit {0}
Pass (line k p W ∷ ls) = W × Pass ls

-- the first line that does not pass has this cause and this place
abbrev pub RefusedBy : Cause → ℕ → List Line → Type 0
RefusedBy k p [] = ⊥
RefusedBy k p (line l q W ∷ ls) = ((W → ⊥) × (k ≡ l) × (p ≡ q)) ⊎ (W × RefusedBy k p ls)

-- the tests are these lines, each where those before it pass
pub data Says : List Test → List Line → Type 1 where
  none : Says [] []
  step : {k : Cause} {p q : ℕ} {t : Bool} {W : Type 0} {ts : List Test} {ls : List Line} → p ≡ q → (t ≡ false) ↔ W
      → (W → Says ts ls) → Says (refuse k p t ∷ ts) (line k q W ∷ ls)

-- one list of tests after another
pub says_then : {ts us : List Test} {ls ks : List Line} → Says ts ls → (Pass ls → Says us ks) → Says (ts ++ us) (ls ++ ks)
says_then none f = f tt
says_then (step e w s) f = step e w (λ v. says_then (s v) (λ u. f (v, u)))

-- the numbers of the lines, in order; and the places are 0 but for 2, 4 and 8
abbrev pub numbers : List Line → List ℕ
numbers [] = []
numbers (line k p W ∷ ls) = cause_number k ∷ numbers ls

abbrev pub placed_only248 : List Line → Bool
placed_only248 [] = true
placed_only248 (line k p W ∷ ls) =
    (eqb (cause_number k) 2 || (eqb (cause_number k) 4 || (eqb (cause_number k) 8 || eqb p 0))) && placed_only248 ls

abbrev pub never_fall : List ℕ → Bool
never_fall [] = true
never_fall (k ∷ ks) = all (leb k) ks && never_fall ks

-- an answer, and what it is where nothing is refused
pub record Exactly {A : Type 0} (refused : Refusal → A) (answer result : A) (ls : List Line) : Type 0 where
  pub done : (answer ≡ result) ↔ Pass ls
  pub refuses : (k : Cause) (p : ℕ) → (answer ≡ refused (refusal k p)) ↔ RefusedBy k p ls
  pub either : (answer ≡ result) ⊎ ((k : Cause) × (p : ℕ) × (answer ≡ refused (refusal k p)))

module _ {A : Type 0} (refused : Refusal → A) (z : A)
    (apart : (x : Refusal) → refused x ≡ z → ⊥) (same : (x y : Refusal) → refused x ≡ refused y → x ≡ y) where
  done_of : {ts : List Test} {ls : List Line} → Says ts ls → first_met refused ts z ≡ z → Pass ls
  done_of none e = tt
  done_of (step {k} {p} {t = true} h w s) e = absurd (apart (refusal k p) e)
  done_of (step {t = false} h w s) e = let v = w.0 refl in (v, done_of (s v) e)

  of_done : {ts : List Test} {ls : List Line} → Says ts ls → Pass ls → first_met refused ts z ≡ z
  of_done none v = refl
  of_done (step h w s) v = rw (w.1 v.0) (of_done (s v.0) v.1)

  refused_of : {ts : List Test} {ls : List Line} → Says ts ls → (k : Cause) (p : ℕ) → first_met refused ts z ≡ refused (refusal k p)
      → RefusedBy k p ls
  refused_of none k p e = apart (refusal k p) (sym e)
  refused_of (step {k = l} {p = q} {t = true} h w s) k p e =
      let x : refusal l q ≡ refusal k p = same (refusal l q) (refusal k p) e in
      inl (λ v. true≢false (w.1 v), sym (ap (λ (y : Refusal). y.cause) x), sym (ap (λ (y : Refusal). y.place) x) ∙ h)
  refused_of (step {t = false} h w s) k p e = let v = w.0 refl in inr (v, refused_of (s v) k p e)

  of_refused : {ts : List Test} {ls : List Line} → Says ts ls → (k : Cause) (p : ℕ) → RefusedBy k p ls
      → first_met refused ts z ≡ refused (refusal k p)
  of_refused none k p v = absurd v
  of_refused (step {k = l} {p = q} {t = true} h w s) k p (inl v) =
      let a : l ≡ k = sym v.1 in
      let b : q ≡ p = h ∙ sym v.2 in
      rw (a, b)
  of_refused (step {t = true} h w s) k p (inr v) = absurd (true≢false (w.1 v.0))
  of_refused (step {t = false} h w s) k p (inl v) = absurd (v.0 (w.0 refl))
  of_refused (step {t = false} h w s) k p (inr v) = of_refused (s v.0) k p v.1

  one_or_other : (ts : List Test)
      → (first_met refused ts z ≡ z) ⊎ ((k : Cause) × (p : ℕ) × (first_met refused ts z ≡ refused (refusal k p)))
  one_or_other [] = inl refl
  one_or_other (refuse k p true ∷ ts) = inr (k, p, refl)
  one_or_other (refuse k p false ∷ ts) = one_or_other ts

  pub exactly : {ts : List Test} {ls : List Line} → Says ts ls → Exactly refused (first_met refused ts z) z ls
  exactly {ts} s = record {
    done = (done_of s, of_done s);
    refuses = λ k p. (refused_of s k p, of_refused s k p);
    either = one_or_other ts;
  }

-- an answer that is a count
pub exactly_counts : {ts : List Test} {ls : List Line} (r : ℕ) → Says ts ls
    → Exactly Err (first_met Err ts (Ok r)) (Ok r) ls
exactly_counts r s = exactly Err (Ok r) (λ x e. never_done e) (λ x y e. cc) s

-- done with some count: with that one, and every line passes
pub counts : {a : Answer} {r : ℕ} {ls : List Line} → Exactly Err a (Ok r) ls → (k : ℕ) → a ≡ Ok k
    → (k ≡ r) × Pass ls
counts {a} {r} x k e = ⊎_elim (λ h. (cc, x.done.0 h)) (λ w. never_done (sym w.2 ∙ e)) x.either

-- 1: c is 1 to 8, n at most 4,096, m at most 512 and not over the slice of len numbers that holds it
pub record ArgsPass (c n m len : ℕ) : Type 0 where
  pub some : 1 ≤ c
  pub columns : c ≤ 8
  pub rows : n ≤ 4096
  pub entries : m ≤ 512
  pub fits : m * (c + 2) ≤ len

pub args_exactly : (c n m len : ℕ) → (args_ok c n m len ≡ true) ↔ ArgsPass c n m len
unfolding args_ok
args_exactly c n m len = (passes, of_passes)
  where
    passes : leb 1 c && (leb c 8 && (leb n 4096 && (leb m 512 && leb (m * (c + 2)) len))) ≡ true → ArgsPass c n m len
    passes h =
        let a = and_r (leb 1 c) _ h in
        let b = and_r (leb c 8) _ a in
        let d = and_r (leb n 4096) _ b in
        record {
          some = leb-true 1 c (and_l (leb 1 c) _ h);
          columns = leb-true c 8 (and_l (leb c 8) _ a);
          rows = leb-true n 4096 (and_l (leb n 4096) _ b);
          entries = leb-true m 512 (and_l (leb m 512) _ d);
          fits = leb-true (m * (c + 2)) len (and_r (leb m 512) _ d);
        }

    of_passes : ArgsPass c n m len → leb 1 c && (leb c 8 && (leb n 4096 && (leb m 512 && leb (m * (c + 2)) len))) ≡ true
    of_passes w =
        rw (
          le-leb 1 c w.some,
          le-leb c 8 w.columns,
          le-leb n 4096 w.rows,
          le-leb m 512 w.entries,
          le-leb (m * (c + 2)) len w.fits,
        )

-- 9: k entries are within the room exactly where they are at most 512 and the slice holds them
abbrev pub Roomy : ℕ → ℕ → ℕ → Type 0
Roomy c len k = (k ≤ 512) × (k * (c + 2) ≤ len)

pub room_exactly : (c len k : ℕ) → (k ≤ room c len) ↔ Roomy c len k
unfolding room
room_exactly c len k =
    let w : (k ≤ len / (c + 2)) ↔ (k * (c + 2) ≤ len) = le-div_iff_mul-le {k = c + 2} (omega arith) in
    (λ h. (omega arith, w.0 (omega arith)), λ h. let l = w.1 h.1 in omega arith)

-- where the first lines pass, the others decide
pub refused_past : (ls us : List Line) (k : Cause) (p : ℕ) → Pass ls → RefusedBy k p (ls ++ us) ↔ RefusedBy k p us
refused_past [] us k p w = (λ x. x, λ x. x)
refused_past (line l q W ∷ ls) us k p w =
    let ih = refused_past ls us k p w.1 in
    (λ x. ⊎_elim (λ y. absurd (y.0 w.0)) (λ y. ih.0 y.1) x, λ x. inr (w.0, ih.1 x))
