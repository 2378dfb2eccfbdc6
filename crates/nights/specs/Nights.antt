-- What the nights of a script do to a store, and what they come to. Assumes nothing.
use Rattle.std.specs.Prelude.{◌≡◌, List, [], ◌∷◌, Ok, Err, Result}
use Rattle.faults.specs.declared.faults.Fault.{Fault}
use Rattle.samples.specs.Memories.{new_head}
use Rattle.samplers.specs.Views.{View}
use Rattle.samplers.specs.Calls.{format_test}
use Rattle.ledgers.specs.declared.calls.Answer.{Answer}
use Rattle.laws.specs.declared.stages.Stage.{Stage}
use Rattle.laws.specs.declared.stages.Stage.TheVariants.{Sleeping}
use Rattle.laws.specs.Setups.{Setup, meant}
use Rattle.laws.specs.Stages.{view}
use Rattle.laws.specs.Pasts.{just_formatted}
use Rattle.laws.specs.Laws.{FormatWent, SupplyFailed, Sampled, LawfulRun}
use Rattle.script.specs.Calls.{calls_of}
use Rattle.script.specs.Plans.{NightPlan}

module _ {S State K : Type 0} (x : Setup S State K) where
  -- a night whose format was accepted, of a sampler over the store s: the sample is then that of no records, and the run of
  -- its calls is lawful and leaves t
  pub record AcceptedNight (s : S) (p : NightPlan K) (answers : List (Answer K)) (t : S) : Type 0 where
    pub before : View S
    pub over : before.store ≡ s
    pub blank : View S
    pub format : FormatWent x p.size p.log_blocks p.seed before blank (Ok tt)
    pub sampled : Sampled x (new_head x.code p.size p.log_blocks p.seed) [] blank
    pub last : Stage S K
    pub run : LawfulRun x (new_head x.code p.size p.log_blocks p.seed) just_formatted (Sleeping blank) (calls_of p.size p.asks) answers last
    pub left : t ≡ (view last).store

  -- one whose format was refused: by its tests, or since the supply failed in it
  pub record RefusedNight (s : S) (p : NightPlan K) (e : Fault) (t : S) : Type 0 where
    pub before : View S
    pub over : before.store ≡ s
    pub after : View S
    pub format : FormatWent x p.size p.log_blocks p.seed before after (Err e)
    pub supply : format_test (meant x s).size p.size p.log_blocks ≡ Ok tt → SupplyFailed x before after e
    pub left : t ≡ after.store

  -- A NIGHT from the store s on came to this, and left t
  abbrev pub NightWent : S → NightPlan K → Result (List (Answer K)) Fault → S → Type 0
  NightWent s p (Ok answers) t = AcceptedNight s p answers t
  NightWent s p (Err e) t = RefusedNight s p e t

  -- the calls of a night, of the sampler that its format left
  abbrev pub AfterFormat : View S → NightPlan K → Result (List (Answer K)) Fault → S → Type 0
  AfterFormat blank p r t = (v : View S) → FormatWent x p.size p.log_blocks p.seed v blank (Ok tt) → NightWent v.store p r t

  -- NIGHTS ONE AFTER ANOTHER, each on the store that the one before left
  unfoldable pub NightsWent : S → List (NightPlan K) → List (Result (List (Answer K)) Fault) → S → Type 0
  NightsWent s [] [] t = t ≡ s
  NightsWent s (p ∷ plans) (r ∷ outcomes) t = (u : S) × NightWent s p r u × NightsWent u plans outcomes t
  NightsWent s plans outcomes t = ⊥
