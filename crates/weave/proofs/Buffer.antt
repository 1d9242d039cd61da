-- A buffer filled piece by piece from the front: what a written entry, a patched row and a run leave there.
-- Assumes nothing.
use mathlib.Core.Path.{◌≡◌, refl, sym, ap, subst, ◌∙◌}
use mathlib.Core.Bool.{Bool, true, false}
use mathlib.Core.List.{List, [], ◌∷◌, ◌++◌, append-nil, append_assoc}
use Prim.Native.Nat.{ℕ, suc, ◌+◌, ◌-◌, ◌≤◌, ◌<◌}
use native.Mathlib.Omega.{arith}
use lib.ListN.{length, get_or, set, take, drop, length-append, length-drop, length-set}
use lib.Seq.{paste, length-paste, take-paste, drop-paste, take-length, length-take-le, take-suc-set, drop-set-lt}
use lib.Seq.{take_at, drop_at, take-take, drop-drop, drop-cons}
use borrow.Rule.Slice.PartMut.{put_mid}
use Rattle.order.proofs.Splice.{part}
use Rattle.order.proofs.Tests.{impossible}
use Rattle.run.proofs.Laws.{put_back}
use Rattle.weave.specs.Written.{Put, PutIf}

-- nothing written
pub put_none : (old : List ℕ) (o : ℕ) → Put [] old o old
put_none old o =
    let e : o + 0 ≡ o = omega arith in
    record { size = refl; front = ap (λ (i : ℕ). take i old) e ∙ sym (append-nil (take o old)); behind = refl }

-- a piece written where the walk writes, and the slice left as it is where it does not
pub put_wrote : (write : Bool) (ys old : List ℕ) (o : ℕ) (new : List ℕ) → write ≡ true → Put ys old o new
    → PutIf write ys old o new
put_wrote write ys old o new h w = record { wrote = λ _. w; kept = λ g. impossible (cc) }

pub put_kept : (write : Bool) (ys old : List ℕ) (o : ℕ) → write ≡ false → PutIf write ys old o old
put_kept write ys old o h = record { wrote = λ g. impossible (cc); kept = λ _. refl }

-- the first n numbers of a run pasted, and all of them
put_part : (ys old new : List ℕ) (o n : ℕ) → n ≤ length ys → o + n ≤ length old → new ≡ paste old o ys n
    → Put (take n ys) old o new
put_part ys old new o n l h e =
    let m : o + length (take n ys) ≡ o + n = ap (λ (k : ℕ). o + k) (length-take-le n ys l) in
    record {
      size = ap length e ∙ length-paste old o ys n h l;
      front = ap (λ (k : ℕ). take k new) m
          ∙ (ap (take (o + n)) e ∙ take-paste old o ys n (omega arith) l);
      behind = ap (λ (k : ℕ). drop k new) m
          ∙ (ap (drop (o + n)) e ∙ (drop-paste old o ys n (omega arith) l ∙ ap (λ (k : ℕ). drop k old) (sym m)));
    }

pub put_paste : (ys old new : List ℕ) (o : ℕ) → o + length ys ≤ length old → new ≡ paste old o ys (length ys)
    → Put ys old o new
put_paste ys old new o h e =
    subst (λ (zs : List ℕ). Put zs old o new) (take-length ys) (put_part ys old new o (length ys) (omega arith) h e)

-- the whole is what stands in front, a piece, and the rest: the piece is written
pub front_on : (whole ys rest old new : List ℕ) (o : ℕ) → whole ≡ take o old ++ (ys ++ rest) → Put ys old o new
    → whole ≡ take (o + length ys) new ++ rest
front_on whole ys rest old new o e w = e ∙ (sym (append_assoc (take o old) ys rest)
    ∙ ap (λ (t : List ℕ). t ++ rest) (sym w.front))

-- where two lists agree from i on they agree from any later place on
pub drop_on : (k i : ℕ) (xs ys : List ℕ) → drop i xs ≡ drop i ys → drop (i + k) xs ≡ drop (i + k) ys
drop_on k i xs ys e = sym (drop-drop k i xs) ∙ (ap (drop k) e ∙ drop-drop k i ys)

-- and what stands behind a piece is as it was at first
pub behind_on : (ys old mid new : List ℕ) (o e : ℕ) → o + length ys ≡ e → drop o mid ≡ drop o old → Put ys mid o new
    → drop e new ≡ drop e old
behind_on ys old mid new o e n h w =
    ap (λ (i : ℕ). drop i new) (sym n)
    ∙ (w.behind ∙ (drop_on (length ys) o mid old h ∙ ap (λ (i : ℕ). drop i old) n))

-- one number more behind a piece
put_more : (ys old new : List ℕ) (o i v : ℕ) → i ≡ o + length ys → i < length old → Put ys old o new
    → Put (ys ++ (v ∷ [])) old o (set new i v)
put_more ys old new o i v e h w =
    let n : o + length (ys ++ (v ∷ [])) ≡ suc i = omega (arith, length-append ys (v ∷ [])) in
    let s : i + 1 ≡ suc i = omega arith in
    let f : take i new ≡ take o old ++ ys = ap (λ (k : ℕ). take k new) e ∙ w.front in
    let b : drop i new ≡ drop i old = ap (λ (k : ℕ). drop k new) e ∙ (w.behind ∙ ap (λ (k : ℕ). drop k old) (sym e)) in
    let d : drop (suc i) new ≡ drop (suc i) old =
    ap (λ (k : ℕ). drop k new) (sym s) ∙ (drop_on 1 i new old b ∙ ap (λ (k : ℕ). drop k old) s) in
    record {
      size = length-set new i v ∙ w.size;
      front = ap (λ (k : ℕ). take k (set new i v)) n ∙ (take-suc-set new i v (omega (arith, w.size))
          ∙ (ap (λ (t : List ℕ). t ++ (v ∷ [])) f ∙ append_assoc (take o old) ys (v ∷ [])));
      behind = ap (λ (k : ℕ). drop k (set new i v)) n ∙ (drop-set-lt (suc i) new i v (omega arith)
          ∙ (d ∙ ap (λ (k : ℕ). drop k old) (sym n)));
    }

-- a piece behind a piece
put_join : (xs ys old mid new : List ℕ) (o e : ℕ) → o + length xs ≡ e → Put xs old o mid → Put ys mid e new
    → Put (xs ++ ys) old o new
put_join xs ys old mid new o e n v w =
    let l : o + length (xs ++ ys) ≡ e + length ys = omega (arith, length-append xs ys) in
    let f : take e mid ≡ take o old ++ xs = ap (λ (k : ℕ). take k mid) (sym n) ∙ v.front in
    let b : drop e mid ≡ drop e old =
    ap (λ (k : ℕ). drop k mid) (sym n) ∙ (v.behind ∙ ap (λ (k : ℕ). drop k old) n) in
    record {
      size = w.size ∙ v.size;
      front = ap (λ (k : ℕ). take k new) l
          ∙ (w.front ∙ (ap (λ (t : List ℕ). t ++ ys) f ∙ append_assoc (take o old) xs ys));
      behind = behind_on ys old mid new e (o + length (xs ++ ys)) (sym l) b w;
    }

-- an entry written at position p: three numbers one by one, and the rest copied
pub put_entry : (c p from o : ℕ) (xs old new : List ℕ) → from + (c + 2) ≤ length xs → o + (c + 2) ≤ length old → 1 ≤ c
    → new ≡ paste (set (set (set old o p) (o + 1) (get_or xs (from + 1) 0)) (o + 2) (get_or xs (from + 2) 0)) (o + 3)
    (drop (from + 3) xs) (from + (c + 2) - (from + 3))
    → Put (p ∷ get_or xs (from + 1) 0 ∷ take c (drop (from + 2) xs)) old o new
put_entry c p from o xs old new h g l e =
    let k = get_or xs (from + 1) 0 in
    let f = get_or xs (from + 2) 0 in
    let n = from + (c + 2) - (from + 3) in
    let mid = set (set (set old o p) (o + 1) k) (o + 2) f in
    let v : Put (p ∷ k ∷ f ∷ []) old o mid =
    put_more (p ∷ k ∷ []) old (set (set old o p) (o + 1) k) o (o + 2) f refl (omega arith)
    (put_more (p ∷ []) old (set old o p) o (o + 1) k refl (omega arith)
    (put_more [] old old o o p (omega arith) (omega arith) (put_none old o))) in
    let w : Put (take n (drop (from + 3) xs)) mid (o + 3) new =
    put_part (drop (from + 3) xs) mid new (o + 3) n (omega (arith, length-drop (from + 3) xs)) (omega (arith, v.size)) e in
    let s : c ≡ suc n = omega arith in
    let t : from + 3 ≡ suc (from + 2) = omega arith in
    let u : f ∷ take n (drop (from + 3) xs) ≡ take c (drop (from + 2) xs) =
    sym (ap (λ (i : ℕ). take i (drop (from + 2) xs)) s ∙ (ap (take (suc n)) (drop-cons xs (from + 2) 0 (omega arith))
    ∙ ap (λ (i : ℕ). f ∷ take n (drop i xs)) (sym t))) in
    subst (λ (ys : List ℕ). Put (p ∷ k ∷ ys) old o new) u
    (put_join (p ∷ k ∷ f ∷ []) (take n (drop (from + 3) xs)) old mid new o (o + 3) refl v w)

-- an entry whose values are written again
module _ (c x k o : ℕ) (vals row old mid new : List ℕ) (w : Put (x ∷ k ∷ vals) old o mid) (lv : length vals ≡ c)
    (h : o + (c + 2) ≤ length old) where
  two : length (take o old ++ (x ∷ k ∷ [])) ≡ o + 2
  two = omega (arith, length-append (take o old) (x ∷ k ∷ []), length-take-le o old (omega arith))

  whole : take (o + 2 + c) mid ≡ (take o old ++ (x ∷ k ∷ [])) ++ vals
  whole =
      let n : o + 2 + c ≡ o + length (x ∷ k ∷ vals) = omega arith in
      ap (λ (i : ℕ). take i mid) n ∙ (w.front ∙ sym (append_assoc (take o old) (x ∷ k ∷ []) vals))

  pub values_part : take (o + 2 + c - (o + 2)) (drop (o + 2) mid) ≡ vals
  values_part = part (o + 2) (o + 2 + c) mid
      ∙ (ap (drop (o + 2)) whole ∙ drop_at (take o old ++ (x ∷ k ∷ [])) vals (o + 2) two)

  front_part : take (o + 2) mid ≡ take o old ++ (x ∷ k ∷ [])
  front_part = sym (take-take (o + 2) (o + 2 + c) mid (omega arith))
      ∙ (ap (take (o + 2)) whole ∙ take_at (take o old ++ (x ∷ k ∷ [])) vals (o + 2) two)

  pub put_values : length row ≡ c → new ≡ put_mid (o + 2) (o + 2 + c - (o + 2)) mid row → Put (x ∷ k ∷ row) old o new
  put_values lr e =
      let n : new ≡ paste mid (o + 2) row (length row) =
      e ∙ (ap (λ (i : ℕ). put_mid (o + 2) (o + 2 + i - (o + 2)) mid row) (sym lr) ∙ put_back mid row row (o + 2) refl) in
      let p = put_paste row mid new (o + 2) (omega (arith, w.size)) n in
      let m : o + length (x ∷ k ∷ row) ≡ o + 2 + length row = omega arith in
      let l : o + 2 + length row ≡ o + length (x ∷ k ∷ vals) = omega arith in
      record {
        size = p.size ∙ w.size;
        front = ap (λ (i : ℕ). take i new) m
            ∙ (p.front ∙ (ap (λ (t : List ℕ). t ++ row) front_part ∙ append_assoc (take o old) (x ∷ k ∷ []) row));
        behind = ap (λ (i : ℕ). drop i new) m ∙ (p.behind ∙ (ap (λ (i : ℕ). drop i mid) l ∙ (w.behind
            ∙ ap (λ (i : ℕ). drop i old) (sym l ∙ sym m))));
      }
