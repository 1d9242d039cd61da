-- What an edit answers past the first four refusals, and what it leaves in the slice.
-- Assumes nothing.
use Prim.Native.Nat.{ℕ, ◌≤◌, ◌<◌}
use mathlib.Core.Path.{◌≡◌, sym, ap, ◌∙◌, subst}
use mathlib.Core.Bool.{true}
use mathlib.Core.List.{List, [], ◌∷◌}
use lib.ListN.{length}
use Rattle.words.specs.Answer.{Answer}
use Rattle.std.specs.Prelude.{Ok, Err}
use Rattle.words.specs.declared.Refusal.{Refusal}
use Rattle.model.specs.Layer.{Layer, rows_after}
use Rattle.model.specs.Raw.{Held, layer_of}
use Rattle.order.proofs.Pairs.{AllPairs}
use Rattle.model.specs.Form.{in_order}
use Rattle.model.specs.Edits.{before}
use Rattle.model.specs.Refusals.{first_met, no_room}
use Rattle.model.specs.Calls.{edited, ready_answer}
use Rattle.theory.proofs.Stages.{onward}
use Rattle.splice.specs.declared.Splice.{Splice}
use Rattle.splice.specs.Splice.{room_answer, if_done}
use Rattle.enter.specs.declared.Move.{Move}
use Rattle.enter.specs.declared.Move.TheVariants.{Entries as entries}
use Rattle.enter.specs.Move.{Within, entered, count_after}
use Rattle.write.specs.Plans.{Splices, Plans, splices}
use Rattle.write.proofs.Layers.{plan_answer, plan_edited, plan_within}
use Rattle.fit.specs.Ready.{Ready}
use Rattle.fit.proofs.Answers.{is_ready, rows_shown}
use Rattle.landing.proofs.Known.{Known, known}
use Rattle.plan.proofs.Planned.{written}

-- a splice that is one that leads from a layer to another
pub planned : {c : ℕ} {L M : Layer} {p q : Splice} → p ≡ q → Splices c L M q → Plans c L M (entries p)
planned {c} {L} {M} e P = splices (subst (Splices c L M) (sym e) P)

-- what leads from a known layer to another keeps within it
pub may_enter : {c m : ℕ} {raw K : List ℕ} {M : Layer} {p : Move} → Known c m raw K → Plans c (layer_of c m raw) M p
    → Held c m raw × Within c m p
may_enter {c} {m} {raw} N P = (N.acc.held, plan_within c m raw (layer_of c m raw) (written N) P)

-- in a ready layer an edit may land, and it may be looked what stands behind a shown row's number
pub may_land : {c m : ℕ} {raw K : List ℕ} → Ready c m raw K → AllPairs before (layer_of c m raw)
may_land R = (known R).good.fit.sorted

pub may_look : {c m : ℕ} {raw K : List ℕ} {r : ℕ} → Ready c m raw K → r < rows_after (length K) (layer_of c m raw)
    → (length K ≤ 4096) × (in_order c (length K) (layer_of c m raw) ≡ true)
    × (r < rows_after (length K) (layer_of c m raw))
may_look R h = let k = (known R).acc in (k.base, k.ordered, h)

-- the answer where only the test of the room is left
abbrev pub last : ℕ → List ℕ → Layer → Answer
last c raw M = first_met Err (no_room c (length raw) M ∷ []) (Ok (length M))

-- A call whose answer is a, towards the layer M: its answer r, and what the slice then holds.
module _ (c m : ℕ) (raw : List ℕ) (a : Answer) (M : Layer) where
  abbrev pub Leaves : Answer → List ℕ → Type 0
  Leaves r new = (r ≡ a) × (new ≡ edited c m a M raw)

  pub refuses : (r : Answer) (x : Refusal) → r ≡ Err x → Err x ≡ a → Leaves r raw
  refuses r x f e = (f ∙ e, ap (λ (t : Answer). edited c m t M raw) e)

  pub enters : {K : List ℕ} → Known c m raw K → last c raw M ≡ a → {p : Move} → Plans c (layer_of c m raw) M p
      → (r : Answer) (new : List ℕ) → (r ≡ room_answer c (length raw) (count_after m p))
      × (new ≡ if_done r (entered c m p raw) raw)
      → Leaves r new
  enters N e P r new w =
      let f : r ≡ a = w.0 ∙ (plan_answer c m raw (layer_of c m raw) (written N) P ∙ e) in
      (f, w.1 ∙ (plan_edited c m raw (layer_of c m raw) (written N) P r ∙ ap (λ (t : Answer). edited c m t M raw) f))

-- Past the first four refusals, which answer t: the layer is ready, and k rows are shown.
module _ (c m : ℕ) (raw K : List ℕ) {t : Answer} (asked : t ≡ ready_answer c m raw K) {k : ℕ} (h : t ≡ Ok k) where
  pub passed_ready : Ready c m raw K
  passed_ready = is_ready c m raw K k (sym asked ∙ h)

  pub passed_held : Held c m raw
  passed_held = (known passed_ready).acc.held

  pub passed_shown : k ≡ rows_after (length K) (layer_of c m raw)
  passed_shown = rows_shown c m raw K k (sym asked ∙ h)

module _ (c m : ℕ) (raw K : List ℕ) {a : Answer} (z : Answer) (e : a ≡ onward Err (ready_answer c m raw K) z) where
  pub as_before : (x : Refusal) → ready_answer c m raw K ≡ Err x → Err x ≡ a
  as_before x h = sym (e ∙ ap (λ (t : Answer). onward Err t z) h)

  pub go_on_lem : (k : ℕ) → ready_answer c m raw K ≡ Ok k → z ≡ a
  go_on_lem k h = sym (e ∙ ap (λ (t : Answer). onward Err t z) h)

  -- a call towards the layer M that asks for these refusals first: refused as they are, refused by a row of its own, or
  -- done
  module _ (M : Layer) {t : Answer} (asked : t ≡ ready_answer c m raw K) where
    pub refused_first : {x : Refusal} → t ≡ Err x → (r : Answer) → r ≡ Err x → Leaves c m raw a M r raw
    refused_first {x} h r f = refuses c m raw a M r x f (as_before x (sym asked ∙ h))

    module _ {k : ℕ} (h : t ≡ Ok k) where
      pub refused_here : (x : Refusal) → Err x ≡ z → (r : Answer) → r ≡ Err x → Leaves c m raw a M r raw
      refused_here x g r f = refuses c m raw a M r x f (g ∙ go_on_lem k (sym asked ∙ h))

      pub enters_here : last c raw M ≡ z → {p : Move} → Plans c (layer_of c m raw) M p → (r : Answer) (new : List ℕ)
          → (r ≡ room_answer c (length raw) (count_after m p)) × (new ≡ if_done r (entered c m p raw) raw)
          → Leaves c m raw a M r new
      enters_here g P = enters c m raw a M (known (passed_ready c m raw K asked h)) (g ∙ go_on_lem k (sym asked ∙ h)) P
