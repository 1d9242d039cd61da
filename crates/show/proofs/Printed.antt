-- The printed rows, from the three columns that were read one by one.
-- Assumes nothing.
use mathlib.Core.Path.{◌≡◌, refl, sym, ap, ◌∙◌}
use mathlib.Core.List.Memᴰ.{head as here}
use mathlib.Core.List.Memᴰ.{tail as next}
use mathlib.Core.List.{List, [], ◌∷◌, ◌++◌}
use Prim.Native.Nat.{ℕ, suc, ◌*◌, ◌≤◌, ◌<◌}
use native.Mathlib.Omega.{arith}
use lib.ListN.{length, take, drop, length-drop}
use lib.Seq.{take-take, length-take-le}
use borrow.Rule.Slice.PartMut.{put_mid, take_put}
use Rattle.words.specs.Answer.{Answer}
use Rattle.std.specs.Prelude.{Ok, Err}
use Rattle.order.proofs.Counts.{count_le}
use Rattle.model.specs.Row.{Table, cell, column}
use Rattle.model.specs.Layer.{Layer, is_add}
use Rattle.model.specs.Raw.{layer_of}
use Rattle.model.specs.Read.{read, read_column}
use Rattle.model.specs.Calls.{form_answer}
use Rattle.theory.proofs.Column.{Wide, column_read}
use Rattle.read.proofs.Answers.{Finished, counted, finished}
use Rattle.form.proofs.Accepted.{accepted}
use Rattle.words.specs.declared.Refusal.{Refusal}
use Rattle.base.specs.declared.Counts.{Counts}
use Rattle.base.specs.Base.{Sheet, most_base, column_of, rows_of, table_of}
use Rattle.text.specs.Text.{Wrote, header, row_text, table_text, columns_text, most_shown, front, first_text}
use Rattle.show.proofs.Columns.{put_stands}
use Rattle.show.specs.Shown.{shown_table, ending}
use Rattle.text.proofs.Writing.{wrote_then}

-- the text of a table is that of its three columns
pub columns_text_lem : (i : ℕ) (T : Table) → columns_text i (column 0 T) (column 1 T) (column 2 T) ≡ table_text i T
unfolding columns_text table_text
columns_text_lem i [] = refl
columns_text_lem i (r ∷ T) = ap (λ (t : List ℕ). row_text i (cell 0 r) (cell 1 r) (cell 2 r) ++ t) (columns_text_lem (suc i) T)

-- every row has three values
pub rows_wide : (K S M : List ℕ) → Wide 3 (rows_of K S M)
unfolding rows_of
rows_wide [] S M r h = elim h [ ]
rows_wide (k ∷ K) [] M r h = elim h [ ]
rows_wide (k ∷ K) (s ∷ S) [] r h = elim h [ ]
rows_wide (k ∷ K) (s ∷ S) (m ∷ M) r (here e) = omega (arith, ap length e)
rows_wide (k ∷ K) (s ∷ S) (m ∷ M) r (next h) = rows_wide K S M r h

-- three columns of one length are the columns of their rows
pub record Columns (K S M : List ℕ) : Type 0 where
  pub zeroth : column 0 (rows_of K S M) ≡ K
  pub first : column 1 (rows_of K S M) ≡ S
  pub second : column 2 (rows_of K S M) ≡ M

pub columns : (K S M : List ℕ) → length S ≡ length K → length M ≡ length K → Columns K S M
unfolding rows_of
columns [] [] [] e f = record { zeroth = refl; first = refl; second = refl }
columns [] (s ∷ S) M e f = absurd (omega arith)
columns [] [] (m ∷ M) e f = absurd (omega arith)
columns (k ∷ K) [] M e f = absurd (omega arith)
columns (k ∷ K) (s ∷ S) [] e f = absurd (omega arith)
columns (k ∷ K) (s ∷ S) (m ∷ M) e f =
    let c = columns K S M (omega arith) (omega arith) in
    record {
      zeroth = ap (λ (t : List ℕ). k ∷ t) c.zeroth;
      first = ap (λ (t : List ℕ). s ∷ t) c.first;
      second = ap (λ (t : List ℕ). m ∷ t) c.second;
    }

-- no more rows are shown than base rows and entries
pub few_shown : (n m rows : ℕ) (raw : List ℕ) → n ≤ 512 → form_answer 3 n m raw ≡ Ok rows → rows ≤ most_shown
few_shown n m rows raw h e =
    let a = accepted 3 n m raw rows e in
    omega (arith, a.shown, a.size, a.held.entries, count_le is_add (layer_of 3 m raw))

-- a column of the table is as long as it has rows
base_size : (n j : ℕ) (table : List ℕ) → n ≤ most_base → length table ≡ 1536 → j < 3 → length (take n (column_of j table)) ≡ n
base_size n j table few size h =
    let l = length-drop (most_base * j) table in
    let k = length-take-le most_base (drop (most_base * j) table) (omega arith) in
    length-take-le n (column_of j table) (omega arith)

-- a column read from its place in the table
module _ (rows n m j : ℕ) (raw table : List ℕ) (few : n ≤ most_base) (size : length table ≡ 1536) (h : j < 3)
    (e : form_answer 3 n m raw ≡ Ok rows) where
  abbrev base : List ℕ
  base = take n (column_of j table)

  -- it is a part of the table
  pub base_part : (k : ℕ) → k ≡ n → take k (drop (most_base * j) table) ≡ base
  base_part k z = rw z (sym (take-take n most_base (drop (most_base * j) table) few))

  same : form_answer 3 (length base) m raw ≡ Ok rows
  same = rw (base_size n j table few size h) e

  pub ready_to_read : (len : ℕ) → rows ≤ len → Finished 3 m raw base j len rows
  ready_to_read len k = finished 3 m raw base j len rows h same k

  -- it stands at its place in the work buffer, and what stands before it stays
  pub column_stands : (k q : ℕ) (work new rest : List ℕ) → k ≡ n → length work ≡ 3072 →
      new ≡ read_column j (take k (drop (most_base * j) table)) (layer_of 3 m raw) ++ rest →
      (front rows j (put_mid (most_shown * j) q work new) ≡ read_column j base (layer_of 3 m raw))
      × (take (most_shown * j) (put_mid (most_shown * j) q work new) ≡ take (most_shown * j) work)
  column_stands k q work new rest z l w =
      let col = read_column j base (layer_of 3 m raw) in
      let e : new ≡ col ++ rest = w ∙ rw (base_part k z) in (
        ap (λ (ys : List ℕ). front rows j (put_mid (most_shown * j) q work ys)) e
            ∙ put_stands (most_shown * j) q rows work col rest (omega arith) (counted 3 m raw base j rows rows h same),
        take_put (most_shown * j) q work new (omega arith),
      )

-- the columns of the table that is read are the three columns read one by one
pub record ReadColumns (K S M : List ℕ) (L : Layer) : Type 0 where
  pub zeroth : column 0 (read (rows_of K S M) L) ≡ read_column 0 K L
  pub first : column 1 (read (rows_of K S M) L) ≡ read_column 1 S L
  pub second : column 2 (read (rows_of K S M) L) ≡ read_column 2 M L

pub read_columns : (K S M : List ℕ) (L : Layer) → length S ≡ length K → length M ≡ length K → ReadColumns K S M L
read_columns K S M L hS hM =
    let T = rows_of K S M in
    let c = columns K S M hS hM in
    let w = rows_wide K S M in
    record {
      zeroth = column_read 3 0 T L w (omega arith) ∙ ap (λ (X : List ℕ). read_column 0 X L) c.zeroth;
      first = column_read 3 1 T L w (omega arith) ∙ ap (λ (X : List ℕ). read_column 1 X L) c.first;
      second = column_read 3 2 T L w (omega arith) ∙ ap (λ (X : List ℕ). read_column 2 X L) c.second;
    }

-- the rows of three columns that were read are the rows of the table that is read
pub rows_read : (rows n m : ℕ) (raw table work : List ℕ) → n ≤ most_base → length table ≡ 1536 →
    front rows 0 work ≡ read_column 0 (take n (column_of 0 table)) (layer_of 3 m raw) →
    front rows 1 work ≡ read_column 1 (take n (column_of 1 table)) (layer_of 3 m raw) →
    front rows 2 work ≡ read_column 2 (take n (column_of 2 table)) (layer_of 3 m raw) →
    first_text rows work ≡ table_text 0 (read (table_of n table) (layer_of 3 m raw))
rows_read rows n m raw table work few size wG wO wP =
    let L = layer_of 3 m raw in
    let first = base_size n 0 table few size (omega arith) in
    let c =
    read_columns (take n (column_of 0 table)) (take n (column_of 1 table)) (take n (column_of 2 table)) L
    (base_size n 1 table few size (omega arith) ∙ sym first) (base_size n 2 table few size (omega arith) ∙ sym first) in
    rw (wG, wO, wP, ← columns_text_lem 0 (read (table_of n table) L), c.zeroth, c.first, c.second)

-- the header alone, and with the rows behind it
module _ (d : Counts) (x : Sheet) (old mid : List ℕ) (o r : ℕ) (w : Wrote header old o r mid) where
  pub header_alone : {f : Answer} (q : Refusal) → f ≡ form_answer 3 d.rows d.entries x.layer → f ≡ Err q →
      Wrote (ending d x) old o r mid
  unfolding ending table_text
  header_alone q e t = rw (sym e ∙ t) w

  pub header_rows : {f : Answer} (k q : ℕ) (new : List ℕ) → f ≡ form_answer 3 d.rows d.entries x.layer → f ≡ Ok k →
      Wrote (table_text 0 (shown_table d x)) mid r q new → Wrote (ending d x) old o q new
  unfolding ending
  header_rows k q new e t v = rw (sym e ∙ t) (wrote_then w v)
