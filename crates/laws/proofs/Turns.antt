-- What waking, closing and a call out of turn keep of the ledger. Assumes nothing.
use Rattle.std.proofs.Common.{refl}
use Rattle.std.proofs.lemmas.Bool.{false≢true, and_parts}
use Rattle.layouts.specs.Heads.{Fields}
use Rattle.samplers.specs.Views.{View}
use Rattle.samplers.specs.Calls.{knows_only}
use Rattle.ledgers.specs.declared.calls.Call.{Call}
use Rattle.ledgers.specs.declared.calls.Call.TheVariants.{Mount, Wake, Insert, Commit, Refresh, Slot, Close}
use Rattle.ledgers.specs.declared.calls.Answer.TheVariants.{Woken, Closed, OutOfTurn}
use Rattle.laws.specs.Setups.{Setup}
use Rattle.laws.specs.Stages.{view, Went}
use Rattle.laws.specs.declared.stages.Stage.{Stage}
use Rattle.laws.specs.declared.stages.Stage.TheVariants.{Sleeping, Waking}
use Rattle.laws.specs.Pasts.{Past}
use Rattle.laws.proofs.Kept.{Kept, Keeps, keeps}

module _ {S State K : Type 0} (x : Setup S State K) (h : Fields) where
  pub wake_keeps : (p : Past K) (v : View S) → Kept x h p v → Keeps x h p (Sleeping v) Wake Woken (Waking v)
  wake_keeps p v kept =
      keeps x h p (Sleeping v) Wake Woken (Waking v) (refl, refl) tt tt (record { lasting = λ s. tt; empties = tt; always = tt })
      (record { holds = kept.holds; fresh = λ z. absurd (false≢true z); sure = λ z. let both = and_parts _ _ z in (kept.fresh both.0, both.1) })

  pub close_keeps : (p : Past K) (v : View S) → Kept x h p v → Keeps x h p (Waking v) Close Closed (Sleeping (knows_only v.store))
  close_keeps p v kept =
      let k = kept.holds in
      keeps x h p (Waking v) Close Closed (Sleeping (knows_only v.store)) (refl, refl) tt tt (record { lasting = λ s. tt; empties = tt; always = tt })
      (record {
        holds = record { sound = k.sound; room = k.room; opened = λ o. absurd (false≢true o); dark = λ o. refl; none = λ o. absurd (false≢true o); early = k.early; later = k.later; safe = k.safe };
        fresh = λ z. absurd (false≢true z);
        sure = λ z. absurd (false≢true z);
      })

  pub turn_keeps : (p : Past K) (t : Stage S K) (c : Call K) → Went x t c OutOfTurn t → Kept x h p (view t) → Keeps x h p t c OutOfTurn t
  turn_keeps p t Mount w kept = keeps x h p t Mount OutOfTurn t w tt tt (record { lasting = λ s. tt; empties = tt; always = tt }) kept
  turn_keeps p t Wake w kept = keeps x h p t Wake OutOfTurn t w tt tt (record { lasting = λ s. tt; empties = tt; always = tt }) kept
  turn_keeps p t (Insert k) w kept = keeps x h p t (Insert k) OutOfTurn t w tt tt (record { lasting = λ s. tt; empties = tt; always = tt }) kept
  turn_keeps p t Commit w kept = keeps x h p t Commit OutOfTurn t w tt tt (record { lasting = λ s. tt; empties = tt; always = tt }) kept
  turn_keeps p t Refresh w kept = keeps x h p t Refresh OutOfTurn t w tt tt (record { lasting = λ s. tt; empties = tt; always = tt }) kept
  turn_keeps p t (Slot i) w kept = keeps x h p t (Slot i) OutOfTurn t w tt tt (record { lasting = λ s. tt; empties = tt; always = tt }) kept
  turn_keeps p t Close w kept = keeps x h p t Close OutOfTurn t w tt tt (record { lasting = λ s. tt; empties = tt; always = tt }) kept
