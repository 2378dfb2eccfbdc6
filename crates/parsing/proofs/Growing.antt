-- Nights that grow, whatever a record is shown as. Assumes nothing.
use Rattle.std.proofs.Common.{◌≡◌, true, List, [], ◌∷◌, ◌++◌, map, Ok, vec_items, refl, ap}
use Rattle.std.specs.Global.{Vec}
use Rattle.std.proofs.lemmas.List.{map-append}
use Rattle.parsing.specs.Cards.{sleeps, begin_night, with_ask}
use Rattle.parsing.proofs.Sleeping.{sleeps_shown}
use Rattle.script.specs.Plans.{NightPlan, night_plan}
use Rattle.script.specs.Shown.{ask_shown, night_shown}
use Rattle.script.specs.declared.cards.Ask.{Ask}
use Rattle.script.specs.declared.cards.Night.{Night}

module _ {K F : Type 0} (fields : K → F) where
  abbrev pub said : Night K → NightPlan F
  said n = night_shown fields (night_plan n)

  -- a night of which nothing is asked yet
  pub one_begun : (nights : List (Night K)) (n : Night K) → sleeps (map night_plan nights) ≡ true → vec_items n.asks ≡ [] → begin_night (map said nights) (n.size, n.log_blocks, n.seed) ≡ Ok (map said (nights ++ (n ∷ [])))
  one_begun nights n asleep none = rw (sleeps_shown fields nights, asleep, map-append said nights (n ∷ []), none) refl

  -- a night of which one thing more is asked
  pub one_asked : (n : Night K) (ask : Ask K) (asks : Vec (Ask K)) → vec_items asks ≡ vec_items n.asks ++ (ask ∷ []) → with_ask (ask_shown fields ask) (said n) ≡ said (record { size = n.size; log_blocks = n.log_blocks; seed = n.seed; asks = asks })
  one_asked n ask asks more = rw (more, map-append (ask_shown fields) (vec_items n.asks) (ask ∷ [])) refl

-- a list that is seen twice is seen once as both
pub map_twice : {A B C : Type 0} (f : B → C) (g : A → B) (xs : List A) → map f (map g xs) ≡ map (λ x. f (g x)) xs
map_twice f g [] = refl
map_twice f g (x ∷ xs) = ap (λ (more : List _). f (g x) ∷ more) (map_twice f g xs)
