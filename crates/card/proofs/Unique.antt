-- Any two outcomes that an export's contract allows are equal: its numbers, and the slice that it was lent to write.
-- `Post` is the contract as the export is proved to meet it; κs are its lifetimes, a its arguments, s and t what is lent at its end.
-- Assumes nothing.
use mathlib.Core.Path.{◌≡◌, sym, ◌∙◌}
use contract.Lifetimes.{Lfts}
use denote.Triple.Clauses.{AtExit}
use borrow.Fn.Kinds.{Dens, ended_of}
use Rattle.order.proofs.Unique.{Unique}
use Rattle.told.specs.declared.Told.{Told}
use Rattle.told.specs.declared.ToldShift.{ToldShift}
use Rattle.told.specs.declared.Part.{Part as ToldPart}
use Rattle.card.proofs.kw_fit.Kinds as fit_call
use Rattle.card.proofs.kw_fit.Reads as fit_promise
use Rattle.card.proofs.kw_read.Kinds as read_call
use Rattle.card.proofs.kw_read.Reads as read_promise
use Rattle.card.proofs.kw_view.Kinds as view_call
use Rattle.card.proofs.kw_view.Reads as view_promise
use Rattle.card.proofs.kw_shift_at.Kinds as shift_call
use Rattle.card.proofs.kw_shift_at.Reads as shift_promise
use Rattle.card.proofs.kw_row.Kinds as row_call
use Rattle.card.proofs.kw_row.Reads as row_promise
use Rattle.card.proofs.kw_back.Kinds as back_call
use Rattle.card.proofs.kw_back.Reads as back_promise
use Rattle.card.proofs.kw_add.Kinds as add_call
use Rattle.card.proofs.kw_add.Reads as add_promise
use Rattle.card.proofs.kw_strike.Kinds as strike_call
use Rattle.card.proofs.kw_strike.Reads as strike_promise
use Rattle.card.proofs.kw_change.Kinds as change_call
use Rattle.card.proofs.kw_change.Reads as change_promise
use Rattle.card.proofs.kw_renumber.Kinds as renumber_call
use Rattle.card.proofs.kw_renumber.Reads as renumber_promise
use Rattle.card.proofs.kw_combine.Kinds as combine_call
use Rattle.card.proofs.kw_combine.Reads as combine_promise
use Rattle.card.proofs.kw_move.Kinds as move_call
use Rattle.card.proofs.kw_move.Reads as move_promise
use Rattle.card.proofs.kw_file_check.Kinds as file_check_call
use Rattle.card.proofs.kw_file_check.Reads as file_check_promise
use Rattle.card.proofs.kw_file_entries.Kinds as file_entries_call
use Rattle.card.proofs.kw_file_entries.Reads as file_entries_promise
use Rattle.card.proofs.kw_file_columns.Kinds as file_columns_call
use Rattle.card.proofs.kw_file_columns.Reads as file_columns_promise
use Rattle.card.proofs.kw_file_rows.Kinds as file_rows_call
use Rattle.card.proofs.kw_file_rows.Reads as file_rows_promise
use Rattle.card.proofs.kw_file_note.Kinds as file_note_call
use Rattle.card.proofs.kw_file_note.Reads as file_note_promise
use Rattle.card.proofs.kw_load.Kinds as load_call
use Rattle.card.proofs.kw_load.Reads as load_promise
use Rattle.card.proofs.kw_save.Kinds as save_call
use Rattle.card.proofs.kw_save.Reads as save_promise

-- two numbers say what is told
one_told : (r s : Told) → r.number ≡ s.number → r.value ≡ s.value → r ≡ s
one_told r s p q = λ i. record { number = p i; value = q i }

one_shift : (r s : ToldShift) → r.number ≡ s.number → r.value ≡ s.value → r ≡ s
one_shift r s p q = λ i. record { number = p i; value = q i }

one_part : (r s : ToldPart) → r.front ≡ s.front → r.count ≡ s.count → r ≡ s
one_part r s p q = λ i. record { front = p i; count = q i }

-- the exports that only look
pub kw_fit_unique : Unique 2 fit_call.ps fit_call.r fit_promise.Post
kw_fit_unique κs a x y s t p q = one_told x y (p.0 ∙ sym q.0) (p.1 ∙ sym q.1)

pub kw_view_unique : Unique 3 view_call.ps view_call.r view_promise.Post
kw_view_unique κs a x y s t p q = one_part x y (p.0 ∙ sym q.0) (p.1 ∙ sym q.1)

pub kw_shift_at_unique : Unique 1 shift_call.ps shift_call.r shift_promise.Post
kw_shift_at_unique κs a x y s t p q = one_shift x y (p.0 ∙ sym q.0) (p.1 ∙ sym q.1)

pub kw_row_unique : Unique 1 row_call.ps row_call.r row_promise.Post
kw_row_unique κs a x y s t p q = one_told x y (p.0 ∙ sym q.0) (p.1 ∙ sym q.1)

pub kw_back_unique : Unique 1 back_call.ps back_call.r back_promise.Post
kw_back_unique κs a x y s t p q = one_told x y (p.0 ∙ sym q.0) (p.1 ∙ sym q.1)

-- a file's numbers
pub kw_file_check_unique : Unique 1 file_check_call.ps file_check_call.r file_check_promise.Post
kw_file_check_unique κs a x y s t p q = p ∙ sym q

pub kw_file_entries_unique : Unique 1 file_entries_call.ps file_entries_call.r file_entries_promise.Post
kw_file_entries_unique κs a x y s t p q = p ∙ sym q

pub kw_file_columns_unique : Unique 1 file_columns_call.ps file_columns_call.r file_columns_promise.Post
kw_file_columns_unique κs a x y s t p q = p ∙ sym q

pub kw_file_rows_unique : Unique 1 file_rows_call.ps file_rows_call.r file_rows_promise.Post
kw_file_rows_unique κs a x y s t p q = p ∙ sym q

pub kw_file_note_unique : Unique 1 file_note_call.ps file_note_call.r file_note_promise.Post
kw_file_note_unique κs a x y s t p q = p ∙ sym q

-- those that write
module _ (κs : Lfts 3) (a : Dens κs read_call.ps) (s t : AtExit (ended_of 3 read_call.ps read_call.r) κs) where
  pub kw_read_unique : (x y : Told) → read_promise.Post κs a x s → read_promise.Post κs a y t
      → (x ≡ y) × (s.1.1.1.1.1.0.now ≡ t.1.1.1.1.1.0.now)
  kw_read_unique x y p q = (one_told x y (p.0.0 ∙ sym q.0.0) (p.0.1 ∙ sym q.0.1), p.1 ∙ sym q.1)

module _ (κs : Lfts 3) (a : Dens κs add_call.ps) (s t : AtExit (ended_of 3 add_call.ps add_call.r) κs) where
  pub kw_add_unique : (x y : Told) → add_promise.Post κs a x s → add_promise.Post κs a y t
      → (x ≡ y) × (s.1.1.0.now ≡ t.1.1.0.now)
  kw_add_unique x y p q = (one_told x y (p.0.0 ∙ sym q.0.0) (p.0.1 ∙ sym q.0.1), p.1 ∙ sym q.1)

module _ (κs : Lfts 2) (a : Dens κs strike_call.ps) (s t : AtExit (ended_of 2 strike_call.ps strike_call.r) κs) where
  pub kw_strike_unique : (x y : Told) → strike_promise.Post κs a x s → strike_promise.Post κs a y t
      → (x ≡ y) × (s.1.1.0.now ≡ t.1.1.0.now)
  kw_strike_unique x y p q = (one_told x y (p.0.0 ∙ sym q.0.0) (p.0.1 ∙ sym q.0.1), p.1 ∙ sym q.1)

module _ (κs : Lfts 2) (a : Dens κs change_call.ps) (s t : AtExit (ended_of 2 change_call.ps change_call.r) κs) where
  pub kw_change_unique : (x y : Told) → change_promise.Post κs a x s → change_promise.Post κs a y t
      → (x ≡ y) × (s.1.1.0.now ≡ t.1.1.0.now)
  kw_change_unique x y p q = (one_told x y (p.0.0 ∙ sym q.0.0) (p.0.1 ∙ sym q.0.1), p.1 ∙ sym q.1)

module _ (κs : Lfts 2) (a : Dens κs renumber_call.ps) (s t : AtExit (ended_of 2 renumber_call.ps renumber_call.r) κs) where
  pub kw_renumber_unique : (x y : Told) → renumber_promise.Post κs a x s → renumber_promise.Post κs a y t
      → (x ≡ y) × (s.1.1.1.0.now ≡ t.1.1.1.0.now)
  kw_renumber_unique x y p q = (one_told x y (p.0.0 ∙ sym q.0.0) (p.0.1 ∙ sym q.0.1), p.1 ∙ sym q.1)

module _ (κs : Lfts 4) (a : Dens κs combine_call.ps) (s t : AtExit (ended_of 4 combine_call.ps combine_call.r) κs) where
  pub kw_combine_unique : (x y : Told) → combine_promise.Post κs a x s → combine_promise.Post κs a y t
      → (x ≡ y) × (s.1.1.1.1.1.1.0.now ≡ t.1.1.1.1.1.1.0.now)
  kw_combine_unique x y p q = (one_told x y (p.0.0 ∙ sym q.0.0) (p.0.1 ∙ sym q.0.1), p.1 ∙ sym q.1)

module _ (κs : Lfts 3) (a : Dens κs move_call.ps) (s t : AtExit (ended_of 3 move_call.ps move_call.r) κs) where
  pub kw_move_unique : (x y : Told) → move_promise.Post κs a x s → move_promise.Post κs a y t
      → (x ≡ y) × (s.1.1.1.0.now ≡ t.1.1.1.0.now)
  kw_move_unique x y p q = (one_told x y (p.0.0 ∙ sym q.0.0) (p.0.1 ∙ sym q.0.1), p.1 ∙ sym q.1)

module _ (κs : Lfts 2) (a : Dens κs load_call.ps) (s t : AtExit (ended_of 2 load_call.ps load_call.r) κs) where
  pub kw_load_unique : (x y : Told) → load_promise.Post κs a x s → load_promise.Post κs a y t
      → (x ≡ y) × (s.1.0.now ≡ t.1.0.now)
  kw_load_unique x y p q = (one_told x y (p.0.0 ∙ sym q.0.0) (p.0.1 ∙ sym q.0.1), p.1 ∙ sym q.1)

module _ (κs : Lfts 2) (a : Dens κs save_call.ps) (s t : AtExit (ended_of 2 save_call.ps save_call.r) κs) where
  pub kw_save_unique : (x y : Told) → save_promise.Post κs a x s → save_promise.Post κs a y t
      → (x ≡ y) × (s.1.1.1.1.0.now ≡ t.1.1.1.1.0.now)
  kw_save_unique x y p q = (one_told x y (p.0.0 ∙ sym q.0.0) (p.0.1 ∙ sym q.0.1), p.1 ∙ sym q.1)
