-- After any lines, from the empty table and layer on, the base keys ascend, and the layer keeps form and fits.
-- Assumes nothing.
use mathlib.Core.Path.{◌≡◌, refl, sym, ◌∙◌}
use mathlib.Core.Bool.{Bool, true, false, not, cond, ◌||◌, true≢false}
use mathlib.Core.List.{List, [], ◌∷◌, ◌++◌}
use Prim.Native.Nat.{ℕ, ◌+◌, ◌-◌, ◌*◌, ◌≤◌, ◌<◌}
use native.Mathlib.Omega.{arith}
use native.Mathlib.Numerals.{add-one}
use lib.ListN.{length, take, drop, get_or, set, length-set, length-append, length-drop}
use lib.Seq.{take-suc-set, get_or-take, length-take-le}
use lib.Dec.{leb, ltb}
use borrow.Author.Tests.{lt-ltb, le-ltb, le-leb, leb-false, ne_eqb}
use Rattle.words.specs.declared.Cause.TheVariants.{KeysUnordered}
use Rattle.words.specs.Answer.{Answer}
use Rattle.std.specs.Prelude.{Option, Some, None, Ok, Err}
use Rattle.order.specs.Lists.{rising, ascending}
use Rattle.order.proofs.Tests.{and_l, and_r, and_of, or_false}
use Rattle.model.specs.Row.{key, keys}
use Rattle.model.specs.Cell.{to}
use Rattle.model.specs.Layer.{rows_after}
use Rattle.model.specs.Raw.{layer_of, entries_at, room}
use Rattle.model.specs.Fit.{fit_place}
use Rattle.model.specs.Form.{form_place, args_ok}
use Rattle.model.specs.Refusals.{breaks_form}
use Rattle.model.specs.Steps.{Step as Wish, adding, striking, changing, renumbering, step_on}
use Rattle.model.specs.Calls.{edited, form_answer, fit_answer}
use Rattle.fit.proofs.Answers.{ready_done, fit_done, fitted, ready_form}
use Rattle.edit.specs.Runs.{step_answer, Lent}
use Rattle.edit.proofs.Accepting.{accepts}
use Rattle.edit.proofs.Laws.{edit_next}
use Rattle.edit.proofs.Laid.{edit_length}
use Rattle.line.specs.declared.Line.{Line}
use Rattle.line.specs.declared.Line.TheVariants.{Base, Add, Strike, Change, Renumber}
use Rattle.line.specs.Line.{line_of}
use Rattle.text.specs.declared.Said.TheVariants.{Unread, Refused}
use Rattle.base.specs.declared.Counts.{Counts}
use Rattle.base.specs.Base.{
  Sheet,
  sheet_of,
  Roomy,
  most_base,
  base_keys,
  base_table,
  below_last,
  shut,
  stay,
  grown,
  base_reply,
  base_taken,
  with_row,
}
use Rattle.reply.specs.Reply.{entered}
use Rattle.hear.specs.Heard.{heard, with_layer, after}
use Rattle.intake.specs.Reading.{Reading, line_in}
use Rattle.feed.specs.Input.{at_start, nothing_read, lines_in}
use Rattle.console.specs.Standing.{sheet_layer, Standing}
use Rattle.show.proofs.Printed.{Columns, columns, rows_wide}

-- ascending keys with a higher one behind them
rising_more : (k : ℕ) (K : List ℕ) (g : ℕ) → rising k K ≡ true → get_or (k ∷ K) (length K) 0 < g → rising k (K ++ (g ∷ [])) ≡ true
rising_more k [] g a h = and_of (ltb k g) true (lt-ltb k g h) refl
rising_more k (l ∷ K) g a h =
    and_of (ltb k l) (rising l (K ++ (g ∷ []))) (and_l (ltb k l) (rising l K) a)
    (rising_more l K g (and_r (ltb k l) (rising l K) a) h)

ascending_more : (K : List ℕ) (g : ℕ) → ascending K ≡ true → (0 < length K → get_or K (length K - 1) 0 < g) →
    ascending (K ++ (g ∷ [])) ≡ true
ascending_more [] g a h = refl
ascending_more (k ∷ K) g a h =
    let e : length (k ∷ K) - 1 ≡ length K = omega arith in
    rising_more k K g a (rw (← e) (h (omega arith)))

-- a key that is not below the last stands above it
last_below : (n : ℕ) (K : List ℕ) (g : ℕ) → 0 < n → below_last g n K ≡ false → get_or (take n K) (n - 1) 0 < g
last_below n K g h b =
    let c : leb g (get_or K (n - 1) 0) ≡ false = rw (ne_eqb n 0 (λ e. omega arith)) at b in
    rw (get_or-take n K (n - 1) 0 (omega arith)) (leb-false g (get_or K (n - 1) 0) c)

-- an empty layer fits any base keys that ascend
empty_form : (raw : List ℕ) (n : ℕ) → n ≤ most_base → form_answer 3 n 0 raw ≡ Ok n
unfolding form_answer args_ok breaks_form form_place layer_of entries_at
empty_form raw n h =
    let z : rows_after n [] ≡ n = omega arith in
    rw (
      le-leb n 4096 (omega arith),
      le-leb (0 * 5) (length raw) (omega arith),
      z,
      le-ltb 4096 n (omega arith),
    )

empty_fits : (raw K : List ℕ) → length K ≤ most_base → ascending K ≡ true → fit_answer 3 0 raw K ≡ Ok 0
empty_fits raw K h a =
    sym (fit_done 3 0 raw K (length K)
    (sym (ready_done 3 0 raw K (length K) (empty_form raw (length K) h) a (fit_place K (layer_of 3 0 raw)) refl (omega arith))))

-- What every line keeps: the columns hold 512 rows and the slice its length, the fit check accepts the layer, and the
-- layer is empty while base rows are taken.
pub record Kept (len : ℕ) (d : Counts) (x : Sheet) : Type 0 where
  pub roomy : Roomy d x
  pub size : length x.layer ≡ len
  pub held : d.entries ≤ room 3 len
  pub accepted : fit_answer 3 d.entries x.layer (base_keys d x) ≡ Ok 0
  pub early : d.edited ≡ false → d.entries ≡ 0

-- nothing but the count of lines, and whether an edit line was read
lined : {len : ℕ} {d d' : Counts} {x : Sheet} → Kept len d x → d'.rows ≡ d.rows → d'.entries ≡ d.entries →
    (d'.edited ≡ false → d.edited ≡ false) → Kept len d' x
lined {len} {d} {d'} {x} s r e f = record {
  roomy = record {
    standing = rw r s.roomy.standing;
    in_keys = s.roomy.in_keys;
    in_sources = s.roomy.in_sources;
    in_masks = s.roomy.in_masks;
  };
  size = s.size;
  held = rw e s.held;
  accepted = rw (r, e) s.accepted;
  early = λ h. e ∙ s.early (f h);
}

-- the base columns and keys
module _ (d : Counts) (x : Sheet) (R : Roomy d x) where
  pub sized : (K : List ℕ) → length K ≡ most_base → length (take d.rows K) ≡ d.rows
  sized K e = length-take-le d.rows K (omega (arith, R.standing))

  pub as_long : (K : List ℕ) → length K ≡ most_base → length (take d.rows K) ≡ length (base_keys d x)
  as_long K e = sized K e ∙ sym (sized x.keys R.in_keys)

  columns_are : Columns (take d.rows x.keys) (take d.rows x.sources) (take d.rows x.masks)
  columns_are =
      columns (take d.rows x.keys) (take d.rows x.sources) (take d.rows x.masks)
      (as_long x.sources R.in_sources) (as_long x.masks R.in_masks)

  pub keys_are : keys (base_table d x) ≡ base_keys d x
  unfolding key
  keys_are = columns_are.zeroth

-- whatever an edit is lent of the base table has three columns
pub base_lent : (d : Counts) (x : Sheet) (w : Wish) → Lent 3 (base_table d x) w
base_lent d x (adding row) = tt
base_lent d x (striking r) = tt
base_lent d x (changing r j e) = tt
base_lent d x (renumbering r g) = rows_wide (take d.rows x.keys) (take d.rows x.sources) (take d.rows x.masks)

-- an edit line
module _ {len : ℕ} {d : Counts} {x : Sheet} (s : Kept len d x) (w : Wish) where
  abbrev told : Answer
  told = step_answer 3 d.entries x.layer (base_table d x) w

  abbrev slice : Answer → List ℕ
  slice a = edited 3 d.entries a (step_on (base_table d x) w (sheet_layer d x)) x.layer

  edit_kept : Kept len (entered d told).counts (with_layer x (slice told))
  edit_kept = go told refl
    where
      go : (a : Answer) → told ≡ a → Kept len (entered d a).counts (with_layer x (slice a))
      go (Err q) e = lined s refl refl (λ h. absurd (true≢false h))
      go (Ok k) e =
          let T = base_table d x in
          let l = base_lent d x w in
          record {
            roomy = record {
              standing = s.roomy.standing;
              in_keys = s.roomy.in_keys;
              in_sources = s.roomy.in_sources;
              in_masks = s.roomy.in_masks;
            };
            size = edit_length 3 d.entries x.layer T w k l e ∙ s.size;
            held = rw (← s.size) (accepts 3 d.entries x.layer T w k l e).room;
            accepted = rw (keys_are d x s.roomy) at (edit_next 3 d.entries x.layer T w k l e);
            early = λ h. absurd (true≢false h);
          }

-- a column with a value more
pub one_more : (X : List ℕ) (n v : ℕ) → length X ≡ most_base → n < most_base → take (n + 1) (set X n v) ≡ take n X ++ (v ∷ [])
one_more X n v e h = rw (add-one n) (take-suc-set X n v (omega arith))

-- a base row
module _ {len : ℕ} {d : Counts} {x : Sheet} (s : Kept len d x) (g v m : ℕ) where
  taken_kept : shut d ≡ false → below_last g d.rows x.keys ≡ false → Kept len (grown d).counts (with_row true d.rows x g v m)
  taken_kept o b =
      let n = d.rows in
      let q = or_false d.edited (leb most_base n) o in
      let f = leb-false most_base n q.1 in
      let none = s.early q.0 in
      let K = take n x.keys in
      let z = sized d x s.roomy x.keys s.roomy.in_keys in
      let e = one_more x.keys n g s.roomy.in_keys f in
      let a : ascending (K ++ (g ∷ [])) ≡ true =
      ascending_more K g (fitted 3 d.entries x.layer K 0 s.accepted).keys last in
      record {
        roomy = record {
          standing = omega arith;
          in_keys = simp length-set s.roomy.in_keys;
          in_sources = simp length-set s.roomy.in_sources;
          in_masks = simp length-set s.roomy.in_masks;
        };
        size = s.size;
        held = s.held;
        accepted = rw (e, none) (empty_fits x.layer (K ++ (g ∷ [])) (omega (arith, length-append K (g ∷ []))) a);
        early = s.early;
      }
    where
      last : 0 < length (take d.rows x.keys) →
          get_or (take d.rows x.keys) (length (take d.rows x.keys) - 1) 0 < g
      last h =
          let z = sized d x s.roomy x.keys s.roomy.in_keys in
          rw z (last_below d.rows x.keys g (omega arith) b)

  base_kept : Kept len (base_reply g d x.keys).counts (with_row (base_taken g d x.keys) d.rows x g v m)
  base_kept = go (shut d) (below_last g d.rows x.keys) refl refl
    where
      go : (t u : Bool) → shut d ≡ t → below_last g d.rows x.keys ≡ u →
          Kept len (cond t (stay d Unread) (cond u (stay d (Refused KeysUnordered)) (grown d))).counts (with_row (not (t || u)) d.rows x g v m)
      go true u e f = lined s refl refl (λ h. h)
      go false true e f = lined s refl refl (λ h. h)
      go false false e f = taken_kept e f

-- any line, and any lines
pub line_kept : (l : Option Line) {len : ℕ} {d : Counts} {x : Sheet} → Kept len d x → Kept len (heard l d x).counts (after l d x)
unfolding heard after
line_kept (Some (Base g v m)) s = base_kept s g v m
line_kept (Some (Add g v m)) {d = d} {x = x} s = rw (keys_are d x s.roomy) at (edit_kept s (adding (g ∷ v ∷ m ∷ [])))
line_kept (Some (Strike r)) {d = d} {x = x} s = rw (keys_are d x s.roomy) at (edit_kept s (striking r))
line_kept (Some (Change r j v)) {d = d} {x = x} s = rw (keys_are d x s.roomy) at (edit_kept s (changing r j (to v)))
line_kept (Some (Renumber r g)) s = edit_kept s (renumbering r g)
line_kept None s = lined s refl refl (λ h. h)

lines_kept : (ls : List (List ℕ)) {len : ℕ} (i : Reading) → Kept len i.counts i.sheet →
    Kept len (lines_in ls i).counts (lines_in ls i).sheet
unfolding lines_in
lines_kept [] i s = s
lines_kept (l ∷ ls) i s = lines_kept ls (line_in l i) (line_kept (line_of l) s)

-- before the first line the program's table has room for 512 base rows
pub table_roomy : (table layer : List ℕ) → length table ≡ 1536 → Roomy at_start (sheet_of table layer)
table_roomy table layer h = record {
  standing = omega arith;
  in_keys = length-take-le most_base table (omega arith);
  in_sources = length-take-le most_base (drop 512 table) (omega (arith, length-drop 512 table));
  in_masks = length-take-le most_base (drop 1024 table) (omega (arith, length-drop 1024 table));
}

pub start_kept : (x : Sheet) → Roomy at_start x → Kept (length x.layer) at_start x
start_kept x R = record {
  roomy = R;
  size = refl;
  held = omega arith;
  accepted = empty_fits x.layer [] (omega arith) refl;
  early = λ h. refl;
}

-- what is kept is what is to stand
standing : {len : ℕ} {d : Counts} {x : Sheet} → Kept len d x → Standing d x
standing {len} {d} {x} s =
    let F = fitted 3 d.entries x.layer (base_keys d x) 0 s.accepted in
    let n = sized d x s.roomy x.keys s.roomy.in_keys in
    record {
      roomy = s.roomy;
      rising = F.keys;
      held = rw s.size s.held;
      form = rw n at (ready_form F).kept;
      fit = F.fit;
      accepted = s.accepted;
    }

-- Any lines, from the empty table and layer on.
module _ (x : Sheet) (R : Roomy at_start x) (ls : List (List ℕ)) where
  all_kept : Kept (length x.layer) (lines_in ls (nothing_read x)).counts (lines_in ls (nothing_read x)).sheet
  all_kept = lines_kept ls (nothing_read x) (start_kept x R)

  -- the base keys ascend, and the layer keeps form and fits
  pub always_good : Standing (lines_in ls (nothing_read x)).counts (lines_in ls (nothing_read x)).sheet
  always_good = standing all_kept

  -- the layer's slice has the room that it had
  pub same_room : length (lines_in ls (nothing_read x)).sheet.layer ≡ length x.layer
  same_room = all_kept.size
