-- A night whose format was refused, and nights that go on by one more. Assumes nothing.
use Rattle.std.proofs.Common.{List, [], ◌∷◌, ◌++◌, map, Err, Result, refl, subst}
use Rattle.std.proofs.lemmas.List.{map-append}
use Rattle.std.specs.Global.{Vec}
use Rattle.faults.specs.declared.faults.Fault.{Fault}
use Rattle.samplers.specs.Views.{View}
use Rattle.ledgers.specs.declared.calls.Answer.{Answer}
use Rattle.laws.specs.Setups.{Setup}
use Rattle.laws.proofs.Given.{LawfulSetup}
use Rattle.laws.specs.Laws.{FormatWent}
use Rattle.laws.proofs.Formatting.{format_law}
use Rattle.script.specs.declared.cards.Night.{Night}
use Rattle.script.specs.Plans.{NightPlan, night_plan}
use Rattle.nights.specs.Nights.{RefusedNight, NightWent, NightsWent}
use Rattle.script.specs.Outcomes.{outcome_of}

module _ {S State K : Type 0} (x : Setup S State K) where
  -- a refused format, by the law of the format
  pub refused_night : LawfulSetup x → (v w : View S) (p : NightPlan K) (e : Fault) → FormatWent x p.size p.log_blocks p.seed v w (Err e) → RefusedNight x v.store p e w.store
  refused_night law v w p e went = record {
    before = v;
    over = refl;
    after = w;
    format = went;
    supply = format_law x law p.size p.log_blocks p.seed v w e went;
    left = refl;
  }

  pub no_nights : (s : S) → NightsWent x s [] [] s
  unfolding NightsWent
  no_nights s = refl

  one_more : (s : S) (plans : List (NightPlan K)) (outcomes : List (Result (List (Answer K)) Fault)) (u : S) (p : NightPlan K) (r : Result (List (Answer K)) Fault) (t : S)
      → NightsWent x s plans outcomes u → NightWent x u p r t → NightsWent x s (plans ++ p ∷ []) (outcomes ++ r ∷ []) t
  unfolding NightsWent
  one_more s [] [] u p r t n night = (t, subst (λ (y : S). NightWent x y p r t) n night, refl)
  one_more s (q ∷ plans) (a ∷ outcomes) u p r t (v, first, more) night = (v, first, one_more v plans outcomes u p r t more night)
  one_more s [] (a ∷ outcomes) u p r t n night = absurd n
  one_more s (q ∷ plans) [] u p r t n night = absurd n

  -- one night more, as the script and what they came to have it
  pub one_night_more : (s : S) (nights : List (Night K)) (outcomes : List (Result (Vec (Answer K)) Fault)) (u : S) (night : Night K) (r : Result (Vec (Answer K)) Fault) (t : S)
      → NightsWent x s (map night_plan nights) (map outcome_of outcomes) u → NightWent x u (night_plan night) (outcome_of r) t
      → NightsWent x s (map night_plan (nights ++ night ∷ [])) (map outcome_of (outcomes ++ r ∷ [])) t
  one_night_more s nights outcomes u night r t before went =
      rw (map-append night_plan nights (night ∷ []), map-append outcome_of outcomes (r ∷ []))
      (one_more s (map night_plan nights) (map outcome_of outcomes) u (night_plan night) (outcome_of r) t before went)
