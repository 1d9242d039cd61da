-- A field read byte after byte is the field's number, so that the parser's passes say what the fields of the line say.
-- Assumes nothing.
use mathlib.Core.Path.{◌≡◌, refl, sym, ap, ◌∙◌}
use mathlib.Core.Bool.{Bool, true, false, cond, ◌&&◌}
use mathlib.Core.List.{List, [], ◌∷◌, ◌++◌, map, append_assoc, append-nil}
use Prim.Native.Nat.{ℕ, suc, ◌+◌, ◌≤◌, ◌<◌}
use native.Mathlib.Omega.{arith}
use native.Mathlib.Nat.{zero-add, add-zero}
use native.Mathlib.Numerals.{add-one}
use lib.ListN.{length, drop}
use lib.Seq.{drop-drop}
use lib.Dec.{leb, ltb, eqb}
use borrow.Author.Tests.{ltb-true, lt-ltb, le-leb}
use Rattle.order.specs.Lists.{all}
use Rattle.order.proofs.Tests.{and_l, and_r, and_of, same_test}
use Rattle.line.specs.declared.Line.{Line}
use Rattle.std.specs.Prelude.{Option, Some, None}
use Rattle.field.specs.declared.Field.{Field}
use Rattle.field.specs.declared.Field.TheVariants.{Last, More}
use Rattle.field.specs.Scan.{more, grows, scanned}
use Rattle.field.proofs.Pass.{unlike}
use Rattle.decimal.proofs.Four.{passed, pass}
use Rattle.decimal.specs.Number.{digit, value_from, value, is_number, too_large}
use Rattle.line.specs.Line.{onto, fields, said}
use Rattle.line.specs.Fields.{with_fields}

-- digits behind a number only make it larger
pub value_grows : (v : ℕ) (g : List ℕ) → v ≤ value_from v g
value_grows v [] = omega arith
value_grows v (b ∷ g) = omega (arith, value_grows (more v b) g)

-- the field g behind k digits worth v makes a number
abbrev pub number_from : ℕ → ℕ → List ℕ → Bool
number_from k v g = (leb 1 (k + length g) && leb (k + length g) 20) && (all digit g && ltb (value_from v g) too_large)

-- one byte of it: a digit with room for it, and the rest
number_step : (k v b : ℕ) (g : List ℕ) →
    number_from k v (b ∷ g) ≡ (ltb k 20 && grows v b) && number_from (suc k) (more v b) g
number_step k v b g = same_test (number_from k v (b ∷ g)) ((ltb k 20 && grows v b) && number_from (suc k) (more v b) g) there back
  where
    there : number_from k v (b ∷ g) ≡ true → (ltb k 20 && grows v b) && number_from (suc k) (more v b) g ≡ true
    there e =
        let t = passed 1 (k + suc (length g)) (k + suc (length g)) 20 (digit b && all digit g) (value_from (more v b) g) too_large e in
        let small = value_grows (more v b) g in
        and_of (ltb k 20 && grows v b) (number_from (suc k) (more v b) g)
        (and_of (ltb k 20) (grows v b) (lt-ltb k 20 (omega arith))
        (and_of (digit b) (ltb (more v b) too_large) (and_l (digit b) (all digit g) t.2) (lt-ltb (more v b) too_large (omega arith))))
        (pass 1 (suc k + length g) (suc k + length g) 20 (all digit g) (value_from (more v b) g) too_large (omega arith) (omega arith)
        (and_r (digit b) (all digit g) t.2) t.3)

    back : (ltb k 20 && grows v b) && number_from (suc k) (more v b) g ≡ true → number_from k v (b ∷ g) ≡ true
    back e =
        let one = and_r (ltb k 20) (grows v b) (and_l (ltb k 20 && grows v b) (number_from (suc k) (more v b) g) e) in
        let t =
        passed 1 (suc k + length g) (suc k + length g) 20 (all digit g) (value_from (more v b) g) too_large
        (and_r (ltb k 20 && grows v b) (number_from (suc k) (more v b) g) e) in
        pass 1 (k + suc (length g)) (k + suc (length g)) 20 (digit b && all digit g) (value_from (more v b) g) too_large
        (omega arith) (omega arith) (and_of (digit b) (all digit g) (and_l (digit b) (ltb (more v b) too_large) one) t.2) t.3

-- the fields to come, the first of them behind k digits worth v
abbrev pub with_digits : List ℕ → List ℕ → ℕ → ℕ → List (List ℕ) → Option Line
with_digits f vs k v [] = None
with_digits f vs k v (g ∷ gs) =
    cond (number_from k v g && all is_number gs) (said f (vs ++ value_from v g ∷ map value gs)) None

-- what a line says once its next field is read
abbrev pub go_on : List ℕ → List ℕ → List ℕ → Option Field → Option Line
go_on f vs xs (Some (Last v)) = said f (vs ++ (v ∷ []))
go_on f vs xs (Some (More v next)) = with_fields f (vs ++ (v ∷ [])) (fields (drop next xs))
go_on f vs xs None = None

-- there is always a first field
pub fields_some : (bs : List ℕ) → fields bs ≡ [] → ⊥
unfolding fields
fields_some [] e = unlike (cc)
fields_some (b ∷ bs) e = go (eqb b 32) (fields bs) e
  where
    go : (t : Bool) (fs : List (List ℕ)) → cond t ([] ∷ fs) (onto b fs) ≡ [] → ⊥
    go true fs e = unlike (cc)
    go false [] e = unlike (cc)
    go false (f ∷ fs) e = unlike (cc)

-- a byte in front of the next field
onto_step : (f vs : List ℕ) (k v b : ℕ) (fs : List (List ℕ)) → (fs ≡ [] → ⊥) →
    with_digits f vs k v (onto b fs) ≡ cond (ltb k 20 && grows v b) (with_digits f vs (suc k) (more v b) fs) None
onto_step f vs k v b [] some = absurd (some refl)
onto_step f vs k v b (g ∷ gs) some =
    rw (number_step k v b g) (go (ltb k 20 && grows v b))
  where
    go : (t : Bool) →
        cond ((t && number_from (suc k) (more v b) g) && all is_number gs)
        (said f (vs ++ value_from (more v b) g ∷ map value gs)) None
        ≡ cond t (with_digits f vs (suc k) (more v b) (g ∷ gs)) None
    go true = refl
    go false = refl

-- a field that has ended
ended : (f vs : List ℕ) (k v : ℕ) (gs : List (List ℕ)) → k ≤ 20 → v < too_large →
    with_digits f vs k v ([] ∷ gs) ≡ cond (leb 1 k) (with_fields f (vs ++ (v ∷ [])) gs) None
unfolding with_fields
ended f vs k v gs h j =
    rw (append_assoc vs (v ∷ []) (map value gs), le-leb (k + 0) 20 (omega arith), lt-ltb v too_large j, add-zero k) (go (leb 1 k))
  where
    go : (t : Bool) →
        cond (((t && true) && true) && all is_number gs) (said f (vs ++ (v ∷ map value gs))) None
        ≡ cond t (cond (all is_number gs) (said f (vs ++ (v ∷ map value gs))) None) None
    go true = refl
    go false = refl

-- the list behind the element at i
behind : (xs : List ℕ) (b : ℕ) (bs : List ℕ) (i : ℕ) → drop i xs ≡ b ∷ bs → drop (suc i) xs ≡ bs
behind xs b bs i e = ap (λ (n : ℕ). drop n xs) (sym (add-one i)) ∙ (sym (drop-drop 1 i xs) ∙ ap (drop 1) e)

-- the end of the line, and a space, behind k digits worth v
at_end : (f vs xs : List ℕ) (k v : ℕ) → k ≤ 20 → v < too_large →
    with_digits f vs k v ([] ∷ []) ≡ go_on f vs xs (cond (leb 1 k) (Some (Last v)) None)
unfolding with_fields
at_end f vs xs k v h j = ended f vs k v [] h j ∙ go (leb 1 k)
  where
    go : (t : Bool) → cond t (with_fields f (vs ++ (v ∷ [])) []) None ≡ go_on f vs xs (cond t (Some (Last v)) None)
    go true = ap (said f) (append-nil (vs ++ (v ∷ [])))
    go false = refl

at_space : (f vs xs : List ℕ) (k v : ℕ) (bs : List ℕ) (i : ℕ) → k ≤ 20 → v < too_large → drop (suc i) xs ≡ bs →
    with_digits f vs k v ([] ∷ fields bs) ≡ go_on f vs xs (cond (leb 1 k) (Some (More v (suc i))) None)
at_space f vs xs k v bs i h j e = ended f vs k v (fields bs) h j ∙ go (leb 1 k)
  where
    go : (t : Bool) →
        cond t (with_fields f (vs ++ (v ∷ [])) (fields bs)) None ≡ go_on f vs xs (cond t (Some (More v (suc i))) None)
    go true = ap (λ (l : List ℕ). with_fields f (vs ++ (v ∷ [])) (fields l)) (sym e)
    go false = refl

-- the fields of a line, with the first of them behind k digits worth v, are what the pass makes of them
pub scan_law : (f vs xs : List ℕ) (bs : List ℕ) (k v i : ℕ) → k ≤ 20 → v < too_large → drop i xs ≡ bs →
    with_digits f vs k v (fields bs) ≡ go_on f vs xs (scanned k v i bs)
unfolding fields scanned
scan_law f vs xs [] k v i h j e = at_end f vs xs k v h j
scan_law f vs xs (b ∷ bs) k v i h j e =
    byte (eqb b 32) (ltb k 20 && grows v b) refl
    (λ hk hv. scan_law f vs xs bs (suc k) (more v b) (suc i) hk hv (behind xs b bs i e))
  where
    byte : (t u : Bool) → ltb k 20 && grows v b ≡ u →
        (suc k ≤ 20 → more v b < too_large →
        with_digits f vs (suc k) (more v b) (fields bs) ≡ go_on f vs xs (scanned (suc k) (more v b) (suc i) bs)) →
        with_digits f vs k v (cond t ([] ∷ fields bs) (onto b (fields bs)))
        ≡ go_on f vs xs (cond t (cond (leb 1 k) (Some (More v (suc i))) None)
        (cond u (scanned (suc k) (more v b) (suc i) bs) None))
    byte true u eu ih = at_space f vs xs k v bs i h j (behind xs b bs i e)
    byte false true eu ih =
        onto_step f vs k v b (fields bs) (fields_some bs)
        ∙ rw (eu)
        (ih (ltb-true k 20 (and_l (ltb k 20) (grows v b) eu))
        (ltb-true (more v b) too_large (and_r (digit b) (ltb (more v b) too_large) (and_r (ltb k 20) (grows v b) eu))))
    byte false false eu ih = onto_step f vs k v b (fields bs) (fields_some bs) ∙ rw (eu)

-- the fields from index i on are what the pass from there makes of them
pub read_on : (f vs xs : List ℕ) (i : ℕ) → with_fields f vs (fields (drop i xs)) ≡ go_on f vs xs (scanned 0 0 i (drop i xs))
unfolding with_fields is_number
read_on f vs xs i =
    go (fields (drop i xs)) (fields_some (drop i xs))
    ∙ scan_law f vs xs (drop i xs) 0 0 i (omega arith) (omega arith) refl
  where
    go : (fs : List (List ℕ)) → (fs ≡ [] → ⊥) → with_fields f vs fs ≡ with_digits f vs 0 0 fs
    go [] some = absurd (some refl)
    go (g ∷ gs) some = rw (zero-add (length g))

-- by what the pass answers: a number that ends the line, one with more behind it, none
module _ (f vs xs : List ℕ) (i : ℕ) where
  pub ends : (r : Option Field) (v : ℕ) → r ≡ scanned 0 0 i (drop i xs) → r ≡ Some (Last v) →
      with_fields f vs (fields (drop i xs)) ≡ said f (vs ++ (v ∷ []))
  ends r v e t = read_on f vs xs i ∙ ap (go_on f vs xs) (sym e ∙ t)

  pub goes_on_lem : (r : Option Field) (v next : ℕ) → r ≡ scanned 0 0 i (drop i xs) → r ≡ Some (More v next) →
      with_fields f vs (fields (drop i xs)) ≡ with_fields f (vs ++ (v ∷ [])) (fields (drop next xs))
  goes_on_lem r v next e t = read_on f vs xs i ∙ ap (go_on f vs xs) (sym e ∙ t)

  pub no_number : (r : Option Field) → r ≡ scanned 0 0 i (drop i xs) → r ≡ None →
      with_fields f vs (fields (drop i xs)) ≡ None
  no_number r e t = read_on f vs xs i ∙ ap (go_on f vs xs) (sym e ∙ t)
