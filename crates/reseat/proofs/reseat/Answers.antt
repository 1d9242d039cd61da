-- A row that is shown goes and comes again with another number: its own changes nothing, one of another row is refused,
-- else both splices are entered.
-- Assumes nothing.
use native.Mathlib.Omega.{arith}
use mathlib.Core.Path.{◌≡◌, sym, ap, ◌∙◌}
use mathlib.Core.List.{[]}
use lib.ListN.{length, get_or, length-set}
use lib.Dec.{ltb}
use Rattle.model.specs.Row.{key, columnwise}
use Rattle.model.specs.Raw.{layer_of}
use Rattle.model.specs.Read.{read}
use Rattle.landing.proofs.Known.{known}
use Rattle.reseat.proofs.Shown.{
  padded_length,
  own_key,
  row_wide,
  told,
  into_is,
  own_ends,
  shown_ends,
  Turned,
  in_layer,
  turned_ends,
}
use Rattle.reseat.proofs.reseat.Goals as goal
use Rattle.reseat.proofs.reseat.Goals.{Else-into, Else-own-g}

pub invariant_of-stored : goal.invariant_of-stored
invariant_of-stored c = record { held = (known c.requires.ready).acc.held }

pub returns-then-own-g : goal.returns-then-own-g
returns-then-own-g c =
    own_ends c.requires c.args.g
    (sym (own_key c.requires c.args.g c.lift-lifted.result.row c.lift-lifted.ensures.1) ∙ c.if-own-g.true)

-- it has another number
other : (c : Else-own-g) → let a = c.args in
    key (get_or (read (columnwise a.c (length a.keys.now) a.w a.table.now) (layer_of a.c a.m a.layer.now)) a.r [])
    ≡ a.g → ⊥
other c e =
    c.if-own-g.false (own_key c.requires c.args.g c.lift-lifted.result.row c.lift-lifted.ensures.1 ∙ e)

pub slice_bounds-row-end : goal.slice_bounds-row-end
slice_bounds-row-end c =
    omega (
      arith,
      length-set c.lift-lifted.result.row 0 c.args.g,
      ap length c.lift-lifted.ensures.1,
      padded_length c.requires c.args.g,
      (known c.requires.ready).acc.held.columns,
    )

pub slice_bounds-add-end : goal.slice_bounds-add-end
slice_bounds-add-end c =
    sym (row_wide c.requires c.args.g c.lift-lifted.result.row c.lift-lifted.ensures.1)

pub add-into-requires : goal.add-into-requires
add-into-requires c =
    (c.requires.ready, row_wide c.requires c.args.g c.lift-lifted.result.row c.lift-lifted.ensures.1)

pub returns-then-into : goal.returns-then-into
returns-then-into c =
    shown_ends c.requires c.args.g (other (goal.at.returns-then-into c).Else-own-g)
    (sym (told c.requires c.args.g c.lift-lifted.result.row c.lift-lifted.ensures.1 c.add-into.result.shown
    c.add-into.ensures.0)
    ∙ c.if-into.true) c.refused.result c.refused.ensures

-- the row goes and comes again
turned : (c : Else-into) → Turned c.requires c.args.g c.lift-lifted.result.splice c.add-into.result.splice
    (ltb c.args.g (get_or c.lift-lifted.result.row 0 0))
turned c =
    let row = c.lift-lifted.result.row in
    let is = c.lift-lifted.ensures.1 in
    record {
      other = λ e. c.if-own-g.false (own_key c.requires c.args.g row is ∙ e);
      free = sym (told c.requires c.args.g row is c.add-into.result.shown c.add-into.ensures.0) ∙ c.if-into.false;
      goes = c.lift-lifted.ensures.0;
      comes = into_is c.requires c.args.g row is c.add-into.result.splice c.add-into.ensures.1;
      below = ap (ltb c.args.g) (own_key c.requires c.args.g row is);
    }

pub enter-requires : goal.enter-requires
enter-requires c =
    in_layer c.requires c.args.g (turned (goal.at.enter-requires c).Else-into) c.in_key_order-x.ensures

pub returns : goal.returns
returns c =
    turned_ends c.requires c.args.g (turned (goal.at.returns c).Else-into) c.in_key_order-x.ensures _ _ c.enter.ensures
