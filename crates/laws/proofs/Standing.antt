-- What each call makes of an open sampler, of every steady store and every kind. Assumes nothing.
use Rattle.std.proofs.Common.{Bool, true, List, Ok, Err, subst}
use Rattle.stores.specs.Calls.{Call}
use Rattle.stores.specs.Outcomes.{Answer}
use Rattle.traces.specs.Traces.{Trace}
use Rattle.recovery.proofs.Safety.{open_safe}
use Rattle.recovery.proofs.Commits.{commit_law}
use Rattle.recovery.proofs.Refreshes.{refresh_law}
use Rattle.recovery.proofs.Inserts.{insert_law}
use Rattle.laws.specs.Setups.{Setup, meant}
use Rattle.laws.proofs.Blanks.{blank_open}
use Rattle.laws.proofs.Remounts.{mounted, mount_cut}
use Rattle.laws.proofs.Given.{Made, Given, LawfulSetup}

module _ {S State K : Type 0} (x : Setup S State K) (law : LawfulSetup x) where
  -- these calls of a store that is steady
  steadily : (s u : State) (cs : List Call) (r : Answer) → Made x s cs r u → Trace x.does x.meaning x.own x.source true s cs r u
  steadily s u cs r made = subst (λ (b : Bool). Trace x.does x.meaning x.own x.source b s cs r u) law.steady made

  pub given : Given x
  given = record {
    safe = λ base n m t rs o. open_safe o;
    committed = λ base n t rs s u o so made. commit_law x.does x.meaning x.own x.source s u (Ok tt) o (steadily s u _ (Ok tt) made);
    commit_lost = λ base n t rs s u e o so made. commit_law x.does x.meaning x.own x.source s u (Err e) o (steadily s u _ (Err e) made);
    emptied = λ base n t rs s u o so made. refresh_law x.does x.meaning x.own x.source s u (Ok tt) o (steadily s u _ (Ok tt) made);
    refresh_lost = λ base n t rs s u e o so made. refresh_law x.does x.meaning x.own x.source s u (Err e) o (steadily s u _ (Err e) made);
    added = λ base n t rs s u bs o so twelve test made. insert_law x.does x.meaning x.own x.source s u (Ok tt) bs o test twelve.long (steadily s u _ (Ok tt) made);
    insert_lost = λ base n t rs s u bs e o so twelve test made. insert_law x.does x.meaning x.own x.source s u (Err e) bs o test twelve.long (steadily s u _ (Err e) made);
    blank = λ s u size log_blocks seed shape room seeded done so. blank_open (meant x s) (meant x u) x.code size log_blocks seed law.coded.0 shape room seeded done;
    remounted = λ f s u t settled waiting safe so room a b kind shaped outcome.
        mounted f (meant x s) (meant x u) x.own x.source x.code x.wrong settled waiting safe so room a b kind t shaped outcome;
    mount_lost = λ f s u e settled waiting safe so room a b kind outcome.
        mount_cut f (meant x s) (meant x u) x.own x.source x.code x.wrong settled waiting safe so room a b kind e outcome;
  }
