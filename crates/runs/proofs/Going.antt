-- Calls that went one after another go on by one call more. Assumes nothing.
use Rattle.std.proofs.Common.{List, [], ◌∷◌, ◌++◌, refl, subst}
use Rattle.ledgers.specs.declared.calls.Call.{Call}
use Rattle.ledgers.specs.declared.calls.Answer.{Answer}
use Rattle.laws.specs.Setups.{Setup}
use Rattle.laws.specs.Stages.{Went}
use Rattle.laws.specs.declared.stages.Stage.{Stage}
use Rattle.runs.specs.Runs.{AllWent}

module _ {S State K : Type 0} (x : Setup S State K) where
  pub none_went : (t : Stage S K) → AllWent x t [] [] t
  unfolding AllWent
  none_went t = refl

  -- ONE CALL MORE
  pub one_more_went : (t : Stage S K) (calls : List (Call K)) (answers : List (Answer K)) (u : Stage S K) (c : Call K) (a : Answer K) (v : Stage S K)
      → AllWent x t calls answers u → Went x u c a v → AllWent x t (calls ++ c ∷ []) (answers ++ a ∷ []) v
  unfolding AllWent
  one_more_went t [] [] u c a v r w = (v, subst (λ (s : Stage S K). Went x s c a v) r w, refl)
  one_more_went t (d ∷ calls) (b ∷ answers) u c a v r w = (r.0, r.1, one_more_went r.0 calls answers u c a v r.2 w)
  one_more_went t [] (b ∷ answers) u c a v r w = absurd r
  one_more_went t (d ∷ calls) [] u c a v r w = absurd r
