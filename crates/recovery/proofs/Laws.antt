-- What working an open sampler leaves, by the answer. Assumes nothing.
use Rattle.std.specs.Prelude.{ℕ, List, [], ◌∷◌, ◌++◌, length, take, MatchResult}
use Rattle.faults.specs.declared.faults.Layer.{Layer}
use Rattle.stores.specs.Meanings.{Meaning}
use Rattle.stores.specs.Outcomes.{Answer}
use Rattle.cards.specs.Memories.{Memory}
use Rattle.workings.specs.Commits.{all_committed}
use Rattle.workings.specs.Inserts.{next_slot, inserted}
use Rattle.workings.specs.Refreshes.{refreshed}
use Rattle.recovery.proofs.Frames.{frame}
use Rattle.recovery.proofs.Opens.{Open}
use Rattle.recovery.proofs.Recoveries.{Lost, Goes}

-- a commit of records of which the first k are settled: all are, or a cut recovers to the first k or to all
abbrev pub AfterCommit : ℕ → Layer → Meaning → Meaning → Memory → List (List ℕ) → ℕ → Answer → Type 0
AfterCommit base source m n t rs k r =
    MatchResult r (λ done. Open base n (all_committed t) rs (length rs) × Goes m n) (λ e. Lost (frame base t) source m n (take k rs) rs e)

-- a refresh: likewise, and the log is empty
abbrev pub AfterRefresh : ℕ → Layer → Meaning → Meaning → Memory → List (List ℕ) → ℕ → Answer → Type 0
AfterRefresh base source m n t rs k r =
    MatchResult r (λ done. Open (length rs) n (refreshed t) rs (length rs) × Goes m n) (λ e. Lost (frame base t) source m n (take k rs) rs e)

-- an insert of one more record: it is counted, and no more are settled; or a cut recovers to the first k
abbrev pub AfterInsert : ℕ → Layer → Meaning → Meaning → Memory → List ℕ → List (List ℕ) → ℕ → Answer → Type 0
AfterInsert base source m n t bytes rs k r =
    MatchResult r (λ done. Open base n (inserted t (next_slot t) bytes) (rs ++ bytes ∷ []) k × Goes m n)
    (λ e. Lost (frame base t) source m n (take k rs) (take k rs) e)
