-- What a run of a script's calls is told. Assumes nothing.
use Rattle.std.proofs.Common.{◌≡◌, ℕ, List, [], ◌∷◌, ◌++◌, Ok, Err, Result, refl, sym, ap}
use Rattle.std.specs.Result.{result_and}
use Rattle.faults.specs.declared.faults.Fault.{Fault}
use Rattle.stores.specs.Outcomes as outcomes
use Rattle.stores.specs.Calls as calls
use Rattle.stores.specs.Calls.{Response}
use Rattle.storescript.specs.declared.calls.Call.{Call}
use Rattle.replays.specs.declared.answers.Answer.{Answer}
use Rattle.replays.specs.declared.answers.Answer.TheVariants.{Done}
use Rattle.replays.specs.Answers.{accepted, told, Answered, Replayed}

-- a call that answers no more than that it was accepted
pub done_told : (call : Call) (r : outcomes.Answer) (buffer : List ℕ) → accepted call buffer ≡ Done → result_and r (Ok Done) ≡ told call r buffer
done_told call (Ok done) buffer e = ap (λ (x : Answer). Ok x) (sym e)
done_told call (Err f) buffer e = refl

module _ {S : Type 0} (does : S → calls.Call → Response S → Type 0) where
  -- one call more
  pub one_more : (s u t : S) (cs : List Call) (call : Call) (answers : List (Result Answer Fault)) (r : Result Answer Fault) → Replayed does s cs answers u → Answered does u call r t → Replayed does s (cs ++ call ∷ []) (answers ++ r ∷ []) t
  unfolding Replayed
  one_more s u t [] call answers r h a = (r, t, rw h.1 at a, [], ap (λ (xs : List (Result Answer Fault)). xs ++ r ∷ []) h.0, (refl, refl))
  one_more s u t (c ∷ cs) call answers r (q, v, step, rest, is, more) a =
      (q, v, step, rest ++ r ∷ [], ap (λ (xs : List (Result Answer Fault)). xs ++ r ∷ []) is, one_more v u t cs call rest r more a)
