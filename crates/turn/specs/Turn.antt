-- A turn of the walk along two layers, over the edits that are left of both; and where the walk stands.
use Rattle.std.specs.Prelude.{◌≡◌, true, List, [], ◌∷◌, ℕ, ◌+◌, ◌-◌, ◌≤◌, length, drop, Option, Some, None, Ok}
use Rattle.order.specs.Lists.{one}
use Rattle.model.specs.Layer.{Edit, Layer, position, is_add, is_strike, rows_after}
use Rattle.model.specs.Raw.{layer_of}
use Rattle.model.specs.Calls.{form_answer}
use Rattle.woven.specs.declared.Meets.{Meets}
use Rattle.woven.specs.declared.Meets.TheVariants.{Lower, Upper, UpperHere, Drop, Vanish, Patch, Fuse}
use Rattle.woven.specs.Woven.{step_of, placed, changes_ahead, patched_add, fused, walk, woven_layer}
use Rattle.over.specs.Over.{Named}
use Rattle.turn.specs.declared.Place.{Place}
use Rattle.turn.specs.declared.Puts.{Puts}
use Rattle.turn.specs.declared.Puts.TheVariants.{AsItIs, UpperAt, Changed, Fused}
use Rattle.turn.specs.declared.Turn.{Turn}

abbrev pub outset : Place
outset = record { i = 0; j = 0; m = 0; adds = 0; strikes = 0 }

-- the upper layer's edit is left, at p
abbrev pub upper_at : ℕ → Place → Turn
upper_at p k =
    record { puts = Some (UpperAt p); to = record { i = k.i; j = k.j + 1; m = k.m + 1; adds = k.adds; strikes = k.strikes } }

-- the turn, by what the next edits e and f make of each other
abbrev pub turned : Place → Edit → Edit → Layer → Meets → Turn
turned k e f W Lower = record {
  puts = Some AsItIs;
  to = record {
    i = k.i + 1;
    j = k.j;
    m = k.m + 1;
    adds = k.adds + one (is_add e);
    strikes = k.strikes + one (is_strike e);
  };
}
turned k e f W Upper = upper_at ((position f + k.strikes) - k.adds) k
turned k e f W UpperHere = upper_at (position e) k
turned k e f W Drop = record {
  puts = None;
  to = record { i = k.i + 1; j = k.j; m = k.m; adds = k.adds; strikes = k.strikes };
}
turned k e f W Vanish = record {
  puts = None;
  to = record { i = k.i + 1; j = k.j + 1; m = k.m; adds = k.adds + 1; strikes = k.strikes };
}
turned k e f W Patch =
    let n = changes_ahead (position f) (f ∷ W) in
    record {
      puts = Some Changed;
      to = record { i = k.i + 1; j = k.j + n; m = k.m + 1; adds = k.adds + 1; strikes = k.strikes };
    }
turned k e f W Fuse = record {
  puts = Some Fused;
  to = record { i = k.i + 1; j = k.j + 1; m = k.m + 1; adds = k.adds; strikes = k.strikes };
}

-- the same of what is left of both layers
abbrev pub turn_of : List ℕ → List ℕ → Place → Layer → Layer → Turn
turn_of K N k R [] = record { puts = None; to = k }
turn_of K N k [] (f ∷ W) = upper_at ((position f + k.strikes) - k.adds) k
turn_of K N k (e ∷ R) (f ∷ W) = turned k e f W (step_of K N e f)

-- the edits that a turn leaves
abbrev pub left : Option Puts → Layer → Layer → Layer
left None R W = []
left (Some AsItIs) [] W = []
left (Some AsItIs) (e ∷ R) W = e ∷ []
left (Some (UpperAt p)) R [] = []
left (Some (UpperAt p)) R (f ∷ W) = placed p f ∷ []
left (Some Changed) [] W = []
left (Some Changed) (e ∷ R) [] = []
left (Some Changed) (e ∷ R) (f ∷ W) = patched_add (position f) (f ∷ W) e ∷ []
left (Some Fused) [] W = []
left (Some Fused) (e ∷ R) [] = []
left (Some Fused) (e ∷ R) (f ∷ W) = fused e f ∷ []

-- they are there to be left
abbrev pub Takes : Option Puts → Layer → Layer → Type 0
Takes None R W = Unit {0}
Takes (Some AsItIs) [] W = ⊥
Takes (Some AsItIs) (e ∷ R) W = Unit {0}
Takes (Some (UpperAt p)) R [] = ⊥
Takes (Some (UpperAt p)) R (f ∷ W) = Unit {0}
Takes (Some Changed) R [] = ⊥
Takes (Some Changed) [] (f ∷ W) = ⊥
Takes (Some Changed) (e ∷ R) (f ∷ W) = is_add e ≡ true
Takes (Some Fused) R [] = ⊥
Takes (Some Fused) [] (f ∷ W) = ⊥
Takes (Some Fused) (e ∷ R) (f ∷ W) = Unit {0}

-- both layers are in form, the upper over the keys N that the lower leaves, and its entries concern these keys
pub record Both (c : ℕ) (K N : List ℕ) (mR : ℕ) (R : List ℕ) (mW : ℕ) (W names : List ℕ) : Type 0 where
  pub lower : form_answer c (length K) mR R ≡ Ok (length N)
  pub upper : form_answer c (length N) mW W ≡ Ok (rows_after (length N) (layer_of c mW W))
  pub named : Named c N mW W names
  pub room : mW ≤ length names

-- the walk stands there: what is passed left m edits, and the rest of both layers leaves the rest
pub record Walked (K N : List ℕ) (R W : Layer) (k : Place) : Type 0 where
  pub lower_upto : k.i ≤ length R
  pub upper_upto : k.j ≤ length W
  pub few : k.m ≤ k.i + k.j
  pub few_adds : k.adds ≤ k.i
  pub few_strikes : k.strikes ≤ k.i
  pub entries : length (woven_layer K N R W) ≡ k.m + length (walk K N k.adds k.strikes (drop k.i R) (drop k.j W))
