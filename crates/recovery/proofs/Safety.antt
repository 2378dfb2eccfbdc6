-- What may stand below an open sampler recovers. Assumes nothing.
use Rattle.std.proofs.Common.{ℕ, List, take}
use Rattle.stores.specs.Meanings.{Meaning}
use Rattle.cards.specs.Memories.{Memory}
use Rattle.recovery.proofs.Frames.{frame}
use Rattle.recovery.proofs.Opens.{Open}
use Rattle.recovery.proofs.Recoveries.{Safe}
use Rattle.recovery.proofs.Cards.{old_safe}

-- below an open sampler it recovers to the settled records
pub open_safe : {base : ℕ} {m : Meaning} {t : Memory} {rs : List (List ℕ)} {n : ℕ} → Open base m t rs n → Safe (frame base t) m (take n rs) (take n rs)
open_safe {m = m} {rs = rs} {n = n} o = old_safe o.limits m o.rest.standing.room (take n rs) o.rest.counts o.rest.standing.stands
