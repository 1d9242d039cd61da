-- A file is accepted exactly if it is a note of at most 256 bytes and then a layer saved, and these are unique.
-- Assumes nothing.
use Prim.Native.Nat.{ℕ, suc, zero, ◌+◌, ◌*◌, ◌-◌, ◌≤◌}
use native.Mathlib.Omega.{arith}
use mathlib.Core.Path.{◌≡◌, refl, sym, ap, ◌∙◌}
use mathlib.Core.Logic.{◌↔◌}
use mathlib.Core.Bool.{true}
use mathlib.Core.List.{List, [], ◌∷◌, ◌++◌}
use lib.ListN.{length, take, drop, length-take, length-drop, take-append-drop}
use lib.Seq.{take_all, take_at, length-take-le}
use Rattle.std.specs.Prelude.{Ok}
use Rattle.little.specs.Little.{eights, number_at, numbers_at}
use Rattle.little.proofs.Numbers.{Bytes, Words, numbers_length, numbers_words, numbers_eights}
use Rattle.model.specs.Layer.{Layer, rows_after}
use Rattle.model.specs.Raw.{layer_of, flat}
use Rattle.theory.proofs.Raw.{layer_length}
use Rattle.form.proofs.Accepted as form
use Rattle.format.specs.File.{width, reach, trailer, saved, back, entries, columns, rows, layer_numbers, file_answer}
use Rattle.probe.proofs.Answers.{Kept, kept, numbers_from, numbers_size}
use Rattle.kept.proofs.ReadBack.{
  Layered,
  layer_back,
  back_is,
  entries_is,
  columns_is,
  rows_is,
  note_ends,
  numbers_are,
  file_done,
}

-- the file is this note, of at most 256 bytes, and then this layer saved
pub record Holds (f note : List ℕ) (c n : ℕ) (L : Layer) : Type 0 where
  pub short : length note ≤ 256
  pub layered : Layered c n L
  pub whole : f ≡ note ++ saved c n L

-- such a file is accepted, and says what it holds
module _ {f note : List ℕ} {c n : ℕ} {L : Layer} (h : Holds f note c n L) where
  pub holds_done : file_answer f ≡ Ok (length L)
  holds_done = ap file_answer h.whole ∙ file_done c n L h.layered note h.short

  pub holds_columns : columns f ≡ c
  holds_columns = ap columns h.whole ∙ columns_is c n L h.layered note h.short

  pub holds_rows : rows f ≡ n
  holds_rows = ap rows h.whole ∙ rows_is c n L h.layered note h.short

  pub holds_entries : entries f ≡ length L
  holds_entries = ap entries h.whole ∙ entries_is c n L h.layered note h.short

  pub holds_note : length f - back f ≡ length note
  holds_note = ap (λ (g : List ℕ). length g - back g) h.whole ∙ note_ends c n L h.layered note h.short

  pub holds_numbers : layer_numbers f ≡ flat c L
  holds_numbers = ap layer_numbers h.whole ∙ numbers_are c n L h.layered note h.short

  -- so what it holds is read from the file alone
  pub note_of : note ≡ take (length f - back f) f
  note_of =
      sym (take_at note (saved c n L) (length f - back f) (sym holds_note))
      ∙ ap (take (length f - back f)) (sym h.whole)

  pub layer_of_lem : L ≡ layer_of (columns f) (entries f) (layer_numbers f)
  layer_of_lem =
      sym (layer_back c n L h.layered)
      ∙ (λ i. layer_of (sym holds_columns i) (sym holds_entries i) (sym holds_numbers i))

-- two ways to see one file are one
module _ {f note note' : List ℕ} {c c' n n' : ℕ} {L L' : Layer} (h : Holds f note c n L) (g : Holds f note' c' n' L') where
  pub held_once : (note ≡ note') × (c ≡ c') × (n ≡ n') × (L ≡ L')
  held_once = (
    note_of h ∙ sym (note_of g),
    sym (holds_columns h) ∙ holds_columns g,
    sym (holds_rows h) ∙ holds_rows g,
    layer_of_lem h ∙ sym (layer_of_lem g),
  )

-- a run of numbers in two parts
numbers_add : (a b i : ℕ) (f : List ℕ) → numbers_at (a + b) i f ≡ numbers_at a i f ++ numbers_at b (i + 8 * a) f
unfolding numbers_at
numbers_add zero b i f = λ t. numbers_at (zero_first t) (here t) f
  where
    zero_first : 0 + b ≡ b
    zero_first = omega arith

    here : i ≡ i + 8 * 0
    here = omega arith
numbers_add (suc a) b i f =
    let e : suc a + b ≡ suc (a + b) = omega arith in
    let s : i + 8 + 8 * a ≡ i + 8 * suc a = omega arith in
    rw e (ap (λ (t : List ℕ). number_at i f ∷ t) (numbers_add a b (i + 8) f
    ∙ ap (λ (k : ℕ). numbers_at a (i + 8) f ++ numbers_at b k f) s))

-- An accepted file of bytes holds a note and a layer.
module _ (f : List ℕ) (all : Bytes f) (k : ℕ) (e : file_answer f ≡ Ok k) where
  abbrev c : ℕ
  c = columns f

  abbrev n : ℕ
  n = rows f

  abbrev m : ℕ
  m = entries f

  abbrev start : ℕ
  start = length f - reach c m

  abbrev L : Layer
  L = layer_of c m (layer_numbers f)

  known : Kept f k
  known = kept f k e

  took : form.Accepted c n m (layer_numbers f) (rows_after n L)
  took = form.accepted c n m (layer_numbers f) (rows_after n L) known.formed

  numbers : layer_numbers f ≡ numbers_at (width c m) start f
  numbers = numbers_from f known.trails

  flat_is : flat c L ≡ numbers_at (width c m) start f
  flat_is =
      took.numbers
      ∙ take_all (width c m) (layer_numbers f) (omega (arith, numbers_size f))
      ∙ numbers

  layered : Layered c n L
  layered = record {
    some = known.some;
    few = known.few;
    base = known.base;
    most = omega (arith, took.size, known.most);
    keeps = took.kept;
    words = rw flat_is (numbers_words f all (width c m) start (omega (arith, known.trails.within)));
  }

  -- the last four numbers are the trailer
  last_four : numbers_at 4 (start + 8 * width c m) f ≡ trailer c n m
  unfolding numbers_at
  last_four =
      let w = known.trails.within in
      let l = known.long in
      let a : start + 8 * width c m ≡ length f - 32 = omega arith in
      let b : length f - 32 + 8 ≡ length f - 24 = omega arith in
      let d : length f - 24 + 8 ≡ length f - 16 = omega arith in
      let g : length f - 16 + 8 ≡ length f - 8 = omega arith in
      rw (a, b, d, g) (ap (λ (r : ℕ). r ∷ m ∷ c ∷ n ∷ []) known.trails.says)

  behind : saved c n L ≡ drop start f
  unfolding saved
  behind =
      let w = known.trails.within in
      let r : 8 * (width c m + 4) ≡ reach c m = omega arith in
      (λ i. eights (flat_is i ++ trailer c n (took.size i)))
      ∙ ap (λ (t : List ℕ). eights (numbers_at (width c m) start f ++ t)) (sym last_four)
      ∙ ap eights (sym (numbers_add (width c m) 4 start f))
      ∙ numbers_eights f all (width c m + 4) start (omega arith)
      ∙ take_all (8 * (width c m + 4)) (drop start f) (omega (arith, length-drop start f))

  pub done_holds : Holds f (take start f) c n L
  done_holds = record {
    short = omega (
      arith,
      length-take-le start f (omega arith),
      known.trails.within,
      known.trails.noted,
    );
    layered = layered;
    whole = sym (ap (λ (t : List ℕ). take start f ++ t) behind ∙ take-append-drop start f);
  }

  pub done_count : k ≡ length L
  done_count = sym known.counted ∙ sym took.size

-- what a file holds
abbrev pub Held : List ℕ → ℕ → Type 0
Held f k = (note : List ℕ) × (c : ℕ) × (n : ℕ) × (L : Layer) × Holds f note c n L × (k ≡ length L)

pub accepted_exactly : (f : List ℕ) → Bytes f → (k : ℕ) → (file_answer f ≡ Ok k) ↔ Held f k
accepted_exactly f all k = (
  λ e. (_, _, _, _, done_holds f all k e, done_count f all k e),
  λ h. holds_done h.4 ∙ ap Ok (sym h.5),
)
