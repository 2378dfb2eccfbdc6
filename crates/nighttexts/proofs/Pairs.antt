-- Nights and what they came to, side by side. Assumes nothing.
use Rattle.std.proofs.Common.{◌≡◌, ℕ, List, [], ◌∷◌, ◌++◌, map, Result, Vec, Bor, sym, refl, ap, ◌∙◌}
use Rattle.std.specs.List.{flat_map, zip}
use Rattle.std.proofs.lemmas.List.Folds.{flat_map-map}
use Rattle.faults.specs.declared.faults.Fault.{Fault}
use Rattle.ledgers.specs.declared.calls.Answer.{Answer}
use Rattle.script.specs.Plans.{night_plan}
use Rattle.script.specs.declared.cards.Night.{Night}
use Rattle.nighttexts.specs.Nights.{night_text, nights_text}
use Rattle.script.specs.Outcomes.{outcome_of}

module _ {K Z : Type 0} (words : K → List ℕ) (summary : List K → List ℕ) where
  abbrev lines : Night K × Result (Vec (Answer K) Z) Fault → List ℕ
  lines p = night_text words summary (night_plan p.0) (outcome_of p.1)

  printed_beside : (ns : List (Night K)) (os : List (Result (Vec (Answer K) Z) Fault))
      → flat_map lines (zip ns os) ≡ nights_text words summary (map night_plan ns) (map outcome_of os)
  printed_beside [] os = refl
  printed_beside (n ∷ ns) [] = refl
  printed_beside (n ∷ ns) (o ∷ os) = ap (λ (t : List ℕ). lines (n, o) ++ t) (printed_beside ns os)

  pub all_printed : (ys : List (Bor (Night K) × Bor (Result (Vec (Answer K) Z) Fault))) (ns : List (Night K)) (os : List (Result (Vec (Answer K) Z) Fault))
      → map (λ p. (p.0.now, p.1.now)) ys ≡ zip ns os
      → flat_map (λ p. night_text words summary (night_plan p.0.now) (outcome_of p.1.now)) ys ≡ nights_text words summary (map night_plan ns) (map outcome_of os)
  all_printed ys ns os e =
      sym (flat_map-map lines (λ p. (p.0.now, p.1.now)) ys) ∙ ap (λ (ps : List (Night K × Result (Vec (Answer K) Z) Fault)). flat_map lines ps) e ∙ printed_beside ns os
