-- A steady store that was sound is sound after a night. Assumes nothing.
use Rattle.std.proofs.Common.{◌≡◌, true, List, [], ◌∷◌, Ok, Err, Result, sym, subst}
use Rattle.faults.specs.declared.faults.Fault.{Fault}
use Rattle.stores.specs.Meanings.{Sound}
use Rattle.layouts.specs.Heads.{Fields}
use Rattle.ledgers.specs.declared.calls.Call.{Call}
use Rattle.ledgers.specs.declared.calls.Answer.{Answer}
use Rattle.laws.specs.declared.stages.Stage.{Stage}
use Rattle.laws.specs.Setups.{Setup, meant}
use Rattle.laws.specs.Stages.{view}
use Rattle.laws.specs.Pasts.{Past}
use Rattle.laws.specs.Laws.{onward, LawfulRun}
use Rattle.laws.proofs.Soundness.{went_sound}
use Rattle.script.specs.Plans.{NightPlan}
use Rattle.nights.specs.Nights.{NightWent}

module _ {S State K : Type 0} (x : Setup S State K) (steady : x.steady ≡ true) where
  run_sound : (h : Fields) (p : Past K) (t : Stage S K) (calls : List (Call K)) (answers : List (Answer K)) (u : Stage S K) → LawfulRun x h p t calls answers u
      → Sound (meant x (view t).store) → Sound (meant x (view u).store)
  unfolding LawfulRun
  run_sound h p t [] [] u run so = subst (λ (w : Stage S K). Sound (meant x (view w).store)) (sym run) so
  run_sound h p t (c ∷ calls) (a ∷ answers) u (v, call, more) so =
      run_sound h (onward x p t c a) v calls answers u more (went_sound x t c a v call.went steady so)
  run_sound h p t [] (a ∷ answers) u run so = absurd run
  run_sound h p t (c ∷ calls) [] u run so = absurd run

  pub night_sound : (s : S) (p : NightPlan K) (r : Result (List (Answer K)) Fault) (t : S) → NightWent x s p r t → Sound (meant x t)
  night_sound s p (Ok answers) t n =
      subst (λ (y : S). Sound (meant x y)) (sym n.left) (run_sound _ _ _ _ _ _ n.run (n.format.steadily steady n.format.sound))
  night_sound s p (Err e) t n =
      subst (λ (y : S). Sound (meant x y)) (sym n.left) (n.format.steadily steady n.format.sound)
