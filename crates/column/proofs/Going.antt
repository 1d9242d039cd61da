-- The state of the loop that reads a column, and what each kind of edit does to it.
-- Assumes nothing.
use Prim.Native.Nat.{ℕ, ◌+◌, ◌≤◌, ◌<◌}
use native.Mathlib.Numerals.{add-one}
use native.Mathlib.Omega.{arith}
use mathlib.Core.Path.{◌≡◌, refl, sym, ap, subst, ◌∙◌}
use mathlib.Core.Bool.{Bool, true, false}
use mathlib.Core.List.{List, [], ◌∷◌, ◌++◌, append-nil}
use lib.ListN.{length, get_or, drop, length-append}
use lib.Seq.{slice, append_snoc, take-length}
use lib.Dec.{eqb}
use borrow.Author.Tests.{eq-eqb, ne_eqb}
use Rattle.std.specs.Prelude.{Some}
use Rattle.order.proofs.Tests.{impossible}
use Rattle.words.specs.declared.Entry.{Entry}
use Rattle.model.specs.Row.{Row, cell}
use Rattle.model.specs.Layer.{add, Edit, at, Layer}
use Rattle.model.specs.Raw.{edit_of}
use Rattle.words.specs.Entry.{ADD, STRIKE}
use Rattle.model.specs.Read.{read_column}
use Rattle.theory.proofs.Edits.{deed_by}
use Rattle.entry.specs.declared.slice.Stored.{Stored}
use Rattle.entry.specs.declared.Sight.{Sight}
use Rattle.entry.specs.declared.Sight.TheVariants.{Add, Strike, Change}
use Rattle.entry.specs.Look.{look_of, edits, entry_of}
use Rattle.entry.proofs.Looks.{Here, left_step, stored_end, look_add, look_strike, look_change}
use Rattle.column.specs.Runs.{runs_from, Pasted, Ready, Readable}
use Rattle.column.proofs.Writing.{Front, room, front_more, front_end}
use Rattle.column.proofs.Same.{same}
use Rattle.column.proofs.Rows.{rows_shown}

-- the edits of L from number k on are to be read, base row s is next, and o numbers are written
pub record Going (L : Layer) (xs : List ℕ) (j : ℕ) (out₀ out : List ℕ) (k s o : ℕ) : Type 0 where
  pub fits : length (runs_from j 0 xs L) ≤ length out₀
  pub ready : Ready j (length xs) s (drop k L)
  pub front : Front (runs_from j 0 xs L) out₀ o out (runs_from j s xs (drop k L))

-- edit number k shows the numbers ys, and base row t is next
pub record Shows (L : Layer) (xs : List ℕ) (j : ℕ) (out₀ out : List ℕ) (k o : ℕ) (ys : List ℕ) (t : ℕ) : Type 0 where
  pub ready : Ready j (length xs) t (drop (k + 1) L)
  pub front : Front (runs_from j 0 xs L) out₀ o out (ys ++ runs_from j t xs (drop (k + 1) L))

-- the values of an entry that is an add are the row
add_values : (e : Entry) (s : ℕ) (r : Row) → edit_of e ≡ at s (add r) → e.vals ≡ r
add_values e s r = by (eqb e.kind ADD) (eqb e.kind STRIKE)
  where
    by : (a b : Bool) → at e.pos (deed_by a b e.vals (get_or e.vals 0 0) e.kind) ≡ at s (add r) → e.vals ≡ r
    by true b h = cc
    by false true h = impossible (cc)
    by false false h = impossible (cc)

-- value j of a stored entry that is an add is the added row's cell
added_cell : (l : Stored) (k j p : ℕ) (r : Row) → k < l.m → Here (edits l) k (at p (add r))
    → get_or (entry_of l k).vals j 0 ≡ cell j r
added_cell l k j p r h w =
    let a = left_step l.c l.m k l.numbers.now h in
    let b = w.split in
    let e : edit_of (entry_of l k) ≡ at p (add r) = cc in
    ap (λ (v : Row). get_or v j 0) (add_values (entry_of l k) p r e)

module _ {L : Layer} {xs : List ℕ} {j : ℕ} {out₀ out : List ℕ} {k s o : ℕ} (g : Going L xs j out₀ out k s o) where
  pub passed : {ys new : List ℕ} {t r : ℕ} → Shows L xs j out₀ out k o ys t → Pasted ys out o r new
      → Going L xs j out₀ new (k + 1) t r
  passed {ys} {new} {t} {r} w q = record {
    fits = g.fits;
    ready = w.ready;
    front = front_more _ out₀ out new ys (runs_from j t xs (drop (k + 1) L)) o r g.fits w.front q;
  }

  pub fitting : {ys : List ℕ} {t : ℕ} → Shows L xs j out₀ out k o ys t → o + length ys ≤ length out
  fitting {ys} {t} w =
      let f = w.front in
      room _ out ys (runs_from j t xs (drop (k + 1) L)) o f.split (omega (arith, g.fits, f.size)) f.done

  -- the same of a run with one number behind it
  pub fitting_one : (ys : List ℕ) (v : ℕ) {t : ℕ} → Shows L xs j out₀ out k o (ys ++ (v ∷ [])) t
      → o + length ys < length out
  fitting_one ys v w = omega (arith, fitting w, length-append ys (v ∷ []))

  -- what is to be read begins with edit number k
  abbrev Left : Layer → Type 0
  Left M = Ready j (length xs) s M × Front (runs_from j 0 xs L) out₀ o out (runs_from j s xs M)

  left : {e : Edit} → Here L k e → Left (e ∷ drop (k + 1) L)
  left w = subst Left w.split (g.ready, g.front)

  on_add_row : {p : ℕ} {r : Row} → Here L k (at p (add r))
      → (s ≤ p) × (p ≤ length xs) × Shows L xs j out₀ out k o (slice s p xs ++ (cell j r ∷ [])) p
  unfolding Ready runs_from
  on_add_row w = let f = left w in (f.0.0, f.0.1, record { ready = f.0.2; front = rw append_snoc f.1 })

  pub on_strike : {f : Sight} {p l : ℕ} → Some f ≡ look_of (drop k L) → f ≡ Strike p l
      → (s ≤ p) × (p < length xs) × Shows L xs j out₀ out k o (slice s p xs) (p + 1)
  unfolding Ready runs_from
  on_strike {p = p} {l = l} e w =
      let f = left (look_strike L k p l (sym e ∙ ap Some w)) in
      rw add-one (f.0.0, f.0.1, record { ready = f.0.2; front = f.1 })

  pub on_change : {f : Sight} {p i v : ℕ} → Some f ≡ look_of (drop k L) → f ≡ Change p i v → i ≡ j
      → (s ≤ p) × (p < length xs) × Shows L xs j out₀ out k o (slice s p xs ++ (v ∷ [])) (p + 1)
  unfolding Ready runs_from
  on_change {p = p} {i = i} {v = v} e w q =
      let f = left (look_change L k p i v (sym e ∙ ap Some w)) in
      let t = eq-eqb j i (sym q) in
      let r = f.0.0 t in
      rw add-one (r.0, r.1, record { ready = r.2; front = rw append_snoc (rw t at f.1) })

  -- a change of another column: the run goes on
  pub on_other : {f : Sight} {p i v : ℕ} → Some f ≡ look_of (drop k L) → f ≡ Change p i v → (i ≡ j → ⊥)
      → Shows L xs j out₀ out k o [] s
  unfolding Ready runs_from
  on_other {p = p} {i = i} {v = v} e w n =
      let f = left (look_change L k p i v (sym e ∙ ap Some w)) in
      let t : eqb j i ≡ false = ne_eqb j i (λ q. n (sym q)) in
      record { ready = f.0.1 t; front = rw t at f.1 }

module _ (l : Stored) {xs : List ℕ} {j : ℕ} {out₀ out : List ℕ} {k s o : ℕ}
    (g : Going (edits l) xs j out₀ out k s o) where
  pub on_add : {f : Sight} {p key own : ℕ} → k < l.m → Some f ≡ look_of (drop k (edits l)) → f ≡ Add p key
      → own ≡ get_or (entry_of l k).vals j 0
      → (s ≤ p) × (p ≤ length xs) × Shows (edits l) xs j out₀ out k o (slice s p xs ++ (own ∷ [])) p
  on_add {p = p} {key = key} h e u q =
      let w = look_add (edits l) k p key (sym e ∙ ap Some u) in
      rw (q ∙ added_cell l k j p w.0 h w.1) (on_add_row g w.1)

  -- after the last entry the rest of the base is shown
  module _ (h : l.m ≤ k) where
    pub last_row : s ≤ length xs
    unfolding Ready
    last_row = subst (Ready j (length xs) s) (stored_end l k h) g.ready

    last_front : Front (runs_from j 0 xs (edits l)) out₀ o out (slice s (length xs) xs ++ [])
    unfolding runs_from
    last_front =
        let e : runs_from j s xs (drop k (edits l)) ≡ slice s (length xs) xs ++ [] =
        ap (runs_from j s xs) (stored_end l k h) ∙ rw (take-length xs) (sym (append-nil (drop s xs))) in
        subst (λ (ys : List ℕ). Front (runs_from j 0 xs (edits l)) out₀ o out ys) e g.front

    pub last_room : o + length (slice s (length xs) xs) ≤ length out
    last_room =
        let f = last_front in
        room _ out (slice s (length xs) xs) [] o f.split (omega (arith, g.fits, f.size)) f.done

    pub ended : {r : ℕ} {new : List ℕ} → Readable l xs j (length out₀) → Pasted (slice s (length xs) xs) out o r new
        → let t = read_column j xs (edits l) in
        (length new ≡ length out₀) × (r ≡ length t) × (new ≡ t ++ drop (length t) out₀)
    ended {r} {new} a w =
        let f = front_more _ out₀ out new (slice s (length xs) xs) [] o r g.fits last_front w in
        let e = front_end _ out₀ new r f in
        let q = same j xs (edits l) a.ready in
        (f.size, e.0 ∙ ap length q, e.1 ∙ ap (λ (t : List ℕ). t ++ drop (length t) out₀) q)

-- at the loop's start
pub set_out : {l : Stored} {xs : List ℕ} {j : ℕ} {out : List ℕ} → Readable l xs j (length out)
    → Going (edits l) xs j out out 0 0 0
set_out {l} {xs} {j} {out} r = record {
  fits =
      let L = edits l in
      omega (arith, ap length (same j xs L r.ready), rows_shown j xs L r.ready, r.room);
  ready = r.ready;
  front = record { size = refl; done = omega arith; kept = refl; split = refl };
}
