-- The nights of a scenario: what their calls leave a sampler, whatever a record is shown as. Assumes nothing.
use Rattle.std.proofs.Common.{◌≡◌, ℕ, suc, zero, ◌+◌, ◌-◌, ◌<◌, Bool, false, not, List, [], ◌∷◌, map, length, get_or, vec_items, refl, ap, ◌∙◌, arith}
use Rattle.ledgers.specs.declared.calls.Call.TheVariants.{Mount, Wake, Insert, Commit, Refresh, Slot, Close}
use Rattle.parsing.specs.Asks.{awake_after_ask, awake_at_end}
use Rattle.parsing.specs.Cards.{sleeps}
use Rattle.script.specs.declared.cards.Ask.{Ask}
use Rattle.script.specs.declared.cards.Ask.TheVariants.{Calls, NoSuchRecord, Report}
use Rattle.script.specs.declared.cards.Night.{Night}
use Rattle.script.specs.Plans.{night_plan}
use Rattle.script.specs.Shown.{ask_shown, night_shown}

module _ {K F : Type 0} (fields : K → F) where
  after_shown : (awake : Bool) (ask : Ask K) → awake_after_ask awake (ask_shown fields ask) ≡ awake_after_ask awake ask
  after_shown awake (Calls Mount) = refl
  after_shown awake (Calls Wake) = refl
  after_shown awake (Calls (Insert x)) = refl
  after_shown awake (Calls Commit) = refl
  after_shown awake (Calls Refresh) = refl
  after_shown awake (Calls (Slot i)) = refl
  after_shown awake (Calls Close) = refl
  after_shown awake (NoSuchRecord e) = refl
  after_shown awake Report = refl

  end_shown : (awake : Bool) (asks : List (Ask K)) → awake_at_end awake (map (ask_shown fields) asks) ≡ awake_at_end awake asks
  end_shown awake [] = refl
  end_shown awake (ask ∷ asks) =
      ap (λ (a : Bool). awake_at_end a (map (ask_shown fields) asks)) (after_shown awake ask) ∙ end_shown (awake_after_ask awake ask) asks

  pub sleeps_shown : (nights : List (Night K)) → sleeps (map (λ n. night_shown fields (night_plan n)) nights) ≡ sleeps (map night_plan nights)
  sleeps_shown [] = refl
  sleeps_shown (n ∷ []) = ap not (end_shown false (vec_items n.asks))
  sleeps_shown (n ∷ m ∷ nights) = sleeps_shown (m ∷ nights)

last_sleeps : {K : Type 0} (nights : List (Night K)) (d : Night K) (i : ℕ) → i + 1 ≡ length nights → sleeps (map night_plan nights) ≡ not (awake_at_end false (vec_items (get_or nights i d).asks))
last_sleeps [] d i n = absurd (omega arith)
last_sleeps (x ∷ []) d zero n = refl
last_sleeps (x ∷ []) d (suc i) n = absurd (omega arith)
last_sleeps (x ∷ y ∷ nights) d zero n = absurd (omega arith)
last_sleeps (x ∷ y ∷ nights) d (suc i) n = last_sleeps (y ∷ nights) d i (omega arith)

pub sleeps_last : {K : Type 0} (nights : List (Night K)) (d : Night K) → 0 < length nights → sleeps (map night_plan nights) ≡ not (awake_at_end false (vec_items (get_or nights (length nights - 1) d).asks))
sleeps_last nights d n = last_sleeps nights d (length nights - 1) (omega arith)
