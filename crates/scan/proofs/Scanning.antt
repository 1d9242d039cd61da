-- What holds at the head of the form pass, and the ways on from there: one more entry, a stop, the end.
-- Assumes nothing.
use Prim.Native.Nat.{ℕ, ◌+◌, ◌≤◌, ◌<◌}
use native.Mathlib.Nat.{zero-add}
use native.Mathlib.Omega.{arith}
use mathlib.Core.Path.{◌≡◌, refl, ◌∙◌}
use mathlib.Core.Bool.{Bool, true, false}
use mathlib.Core.List.{List, []}
use lib.ListN.{length, get_or, drop}
use Rattle.order.specs.Lists.{one, count}
use Rattle.words.specs.declared.Entry.{Entry}
use Rattle.words.specs.Entry.{ADD, STRIKE}
use Rattle.model.specs.Raw.{none}
use Rattle.head.specs.declared.Head.{Head}
use Rattle.head.specs.Head.{head_of}
use Rattle.scan.specs.declared.Scan.{Scan}
use Rattle.scan.specs.Scan.{good_after, good_from, good, of_kind}
use Rattle.scan.specs.Pass.{fresh, passed}
use Rattle.scan.proofs.Laws.{good_step, good_stop, good_end}

-- what stands before the first entry at fault is what was passed and what stands before it in the rest
pub record Scanning (c n : ℕ) (es : List Entry) (i : ℕ) (d : Head) (s : Scan) : Type 0 where
  pub here : s.place ≡ i
  pub placed : length (good c n es) ≡ s.place + length (good_from c n d.pos d.kind (drop i es))
  pub added : count (of_kind ADD) (good c n es) ≡ s.adds + count (of_kind ADD) (good_from c n d.pos d.kind (drop i es))
  pub struck : count (of_kind STRIKE) (good c n es) ≡ s.strikes + count (of_kind STRIKE) (good_from c n d.pos d.kind (drop i es))
  pub few_adds : s.adds ≤ s.place
  pub few_strikes : s.strikes ≤ s.place

-- before the first entry stands, as it were, an add at position 0
abbrev pub add_first : Head
add_first = record { pos = 0; kind = ADD; first = 0 }

pub begin : (c n : ℕ) (es : List Entry) → Scanning c n es 0 add_first fresh
begin c n es = record {
  here = refl;
  placed = rw zero-add;
  added = rw zero-add;
  struck = rw zero-add;
  few_adds = omega arith;
  few_strikes = omega arith;
}

one_le : (b : Bool) → one b ≤ 1
one_le true = omega arith
one_le false = omega arith

module _ {c n : ℕ} {es : List Entry} {i : ℕ} {d : Head} {s : Scan} (w : Scanning c n es i d s) where
  pub onward : i < length es → good_after c n d.pos d.kind (get_or es i none) ≡ true
      → Scanning c n es (i + 1) (head_of (get_or es i none)) (passed s (get_or es i none).kind)
  onward h g =
      let e = good_step c n d.pos d.kind i es h g in
      record {
        here = omega (arith, w.here);
        placed = w.placed ∙ rw e (omega arith);
        added = w.added ∙ rw e (omega arith);
        struck = w.struck ∙ rw e (omega arith);
        few_adds = omega (arith, w.few_adds, one_le (of_kind ADD (get_or es i none)));
        few_strikes = omega (arith, w.few_strikes, one_le (of_kind STRIKE (get_or es i none)));
      }

  -- the pass is complete: its counts are those of what stands before the first entry at fault
  abbrev pub Complete : Type 0
  Complete = (s.place ≡ length (good c n es))
      × (s.adds ≡ count (of_kind ADD) (good c n es))
      × (s.strikes ≡ count (of_kind STRIKE) (good c n es))

  -- nothing is good in the rest
  done : good_from c n d.pos d.kind (drop i es) ≡ [] → Complete
  done e = (
    omega (arith, rw e at w.placed),
    omega (arith, rw e at w.added),
    omega (arith, rw e at w.struck),
  )

  pub stop : i < length es → good_after c n d.pos d.kind (get_or es i none) ≡ false → Complete
  stop h g = done (good_stop c n d.pos d.kind i es h g)

  pub end : length es ≤ i → Complete
  end h = done (good_end c n d.pos d.kind i es h)
