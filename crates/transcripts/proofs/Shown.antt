-- Plans that are shown alike are the same, since a record is known by its fields. Assumes nothing.
use Rattle.std.proofs.Common.{◌≡◌, [], ◌∷◌, map, refl, ap}
use Rattle.records.specs.EventLaws as event_laws
use Rattle.records.specs.Events as events
use Rattle.records.specs.Events.{event_fields}
use Rattle.records.specs.OffsetLaws as offset_laws
use Rattle.records.specs.Offsets as offsets
use Rattle.records.specs.Offsets.{offset_fields}
use Rattle.ledgers.specs.declared.calls.Call.TheVariants.{Mount, Wake, Insert, Commit, Refresh, Slot, Close}
use Rattle.script.specs.declared.cards.Ask.TheVariants.{Calls, NoSuchRecord, Report}
use Rattle.script.specs.Plans.{NightPlan, of_offsets, of_events, CardPlan, of_reservoir, of_card}
use Rattle.script.specs.Shown.{call_shown, ask_shown, night_shown, nights_shown, card_shown, plan_shown}

-- what is made of two values is the same only where they are
abbrev Injective : {A B : Type 0} → (A → B) → Type 0
Injective {A} f = (x y : A) → f x ≡ f y → x ≡ y

map_injective : {A B : Type 0} (f : A → B) → Injective f → Injective (map f)
map_injective f one [] [] e = refl
map_injective f one [] (y ∷ ys) e = absurd (cc e)
map_injective f one (x ∷ xs) [] e = absurd (cc e)
map_injective f one (x ∷ xs) (y ∷ ys) e =
    let first : f x ≡ f y = cc e in
    let more : map f xs ≡ map f ys = cc e in
    let here = one x y first in
    let rest = map_injective f one xs ys more in
    λ i. here i ∷ rest i

module _ {K F : Type 0} (fields : K → F) (one : Injective fields) where
  call_injective : Injective (call_shown fields)
  call_injective (Insert k) (Insert l) e =
      let same : fields k ≡ fields l = cc e in
      ap Insert (one k l same)
  call_injective Mount Mount e = refl
  call_injective Wake Wake e = refl
  call_injective Commit Commit e = refl
  call_injective Refresh Refresh e = refl
  call_injective (Slot i) (Slot j) e = cc e
  call_injective Close Close e = refl
  call_injective c d e = absurd (cc e)

  ask_injective : Injective (ask_shown fields)
  ask_injective (Calls c) (Calls d) e =
      let same : call_shown fields c ≡ call_shown fields d = cc e in
      ap Calls (call_injective c d same)
  ask_injective (NoSuchRecord f) (NoSuchRecord g) e = cc e
  ask_injective Report Report e = refl
  ask_injective a b e = absurd (cc e)

  night_injective : Injective (night_shown fields)
  night_injective p q e =
      let asks = map_injective (ask_shown fields) ask_injective p.asks q.asks (ap (λ (n : NightPlan F). n.asks) e) in
      λ i. record { size = (e i).size; log_blocks = (e i).log_blocks; seed = (e i).seed; asks = asks i }

module _ {O E P F : Type 0} (offset : O → P) (event : E → F) (offset_one : Injective offset) (event_one : Injective event) where
  nights_injective : Injective (nights_shown offset event)
  nights_injective (of_offsets ps) (of_offsets qs) e =
      let same : map (night_shown offset) ps ≡ map (night_shown offset) qs = cc e in
      ap of_offsets (map_injective (night_shown offset) (night_injective offset offset_one) ps qs same)
  nights_injective (of_events ps) (of_events qs) e =
      let same : map (night_shown event) ps ≡ map (night_shown event) qs = cc e in
      ap of_events (map_injective (night_shown event) (night_injective event event_one) ps qs same)
  nights_injective ps qs e = absurd (cc e)

  card_injective : Injective (card_shown offset event)
  card_injective p q e =
      let nights = nights_injective p.nights q.nights (ap (λ (c : CardPlan P F). c.nights) e) in
      λ i. record {
        stack = (e i).stack;
        fuses = (e i).fuses;
        choices = (e i).choices;
        nights = nights i;
        ends_with_memory = (e i).ends_with_memory;
      }

  plan_injective : Injective (plan_shown offset event)
  plan_injective (of_reservoir p) (of_reservoir q) e = cc e
  plan_injective (of_card p) (of_card q) e =
      let same : card_shown offset event p ≡ card_shown offset event q = cc e in
      ap of_card (card_injective p q same)
  plan_injective p q e = absurd (cc e)

-- offsets with the same fields have the same bytes, and events too
offset_injective : Injective offset_fields
offset_injective x y e = offset_laws.own x y (ap offsets.fields_bytes e)

event_injective : Injective event_fields
event_injective x y e = event_laws.own x y (ap events.fields_bytes e)

pub plans_injective : Injective (map (plan_shown offset_fields event_fields))
plans_injective = map_injective _ (plan_injective offset_fields event_fields offset_injective event_injective)
