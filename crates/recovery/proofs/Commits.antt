-- A commit settles all records, and a cut in it leaves the settled ones or all. Assumes nothing.
use Rattle.std.proofs.Common.{◌≡◌, ℕ, ◌*◌, ◌/◌, ◌<◌, ◌≤◌, max, Bool, true, false, cond, ◌⊎◌, inl, inr, List, [], ◌∷◌, ◌++◌, length, take, refl, ap, arith}
use Rattle.std.proofs.lemmas.Bool.{ltb-true, ltb-false}
use Rattle.std.proofs.lemmas.List.{take_all}
use Rattle.faults.specs.declared.faults.Layer.{Layer}
use Rattle.stores.specs.Calls.{Call, Response, writes}
use Rattle.stores.specs.Meanings.{Meaning}
use Rattle.stores.specs.Outcomes.{Answer}
use Rattle.layouts.specs.Heads.{Fields, fields_bytes}
use Rattle.cards.specs.Memories.{Memory}
use Rattle.workings.specs.Commits.{has_uncommitted, commit_calls, all_committed}
use Rattle.traces.specs.Traces.{Trace}
use Rattle.recovery.proofs.Frames.{Frame, frame, fields_of, log_block}
use Rattle.recovery.proofs.Laws.{AfterCommit}
use Rattle.recovery.proofs.Opens.{Open}
use Rattle.recovery.proofs.Recoveries.{Goes}
use Rattle.recovery.proofs.Standings.{Fit, Counting, Just, written, Standing}
use Rattle.recovery.proofs.Cards.{OneOf, old_safe, heads_safe}
use Rattle.recovery.proofs.Fitting.{fit_wider, fit_fewer, fit_log, fit_head, fit_grown, standing_wider}
use Rattle.recovery.proofs.Steps.{goes_none, Reached, Broken, reached_wider, write_step, flush_step, reached_end, broken_end}

pub head_long : (x : Fields) → length (fields_bytes x) ≡ 504
unfolding fields_bytes
head_long x = refl

-- a head is its frame's, by what it counts
pub head_counting : (base n : ℕ) (t : Memory) → t.head.count ≡ n → Counting (frame base t) n t.head.entries (fields_bytes t.head)
head_counting base n t e = ap (λ (x : ℕ). fields_bytes (fields_of (frame base t) x t.head.entries)) e

module _ {State : Type 0} (does : State → Call → Response State → Type 0) (meaning : State → Meaning) (own source : Layer) where
  module _ {base : ℕ} {m : Meaning} {t : Memory} {rs : List (List ℕ)} {n : ℕ} (o : Open base m t rs n) where
    abbrev f : Frame
    f = frame base t

    abbrev k : ℕ
    k = t.committed

    abbrev c : ℕ
    c = t.head.entries

    -- the settled records' blocks with the first e entries, and those with all
    abbrev Old : ℕ → ℕ → List ℕ → Type 0
    Old e = Fit f (Counting f n k) (Just o.rows) o.log e

    abbrev New : ℕ → List ℕ → Type 0
    New = Fit f (Counting f (length rs) c) (Just o.rows) o.log c

    abbrev Mid : ℕ → List ℕ → Type 0
    Mid = Fit f (OneOf f n k (length rs) c) (Just o.rows) o.log c

    work_fits : (e : ℕ) → e ≤ c → Old e (log_block f c) t.work
    work_fits e l = fit_log (λ j h z. o.working j (omega arith) z)

    -- the log block in work is written where it has an uncommitted entry
    log_step : {cs : List Call} {r : Answer} {u : State} (b : Bool) → has_uncommitted t ≡ b
        → Reached does meaning own source f m (Old k) (Old (written k c)) (cond b (writes (log_block f c) t.work ∷ []) [] ++ cs) r u
        → Reached does meaning own source f m (Old k) (Old c) cs r u ⊎ Broken does meaning own source f m (Old k) r u
    log_step true e h =
        let some : max k (31 * (c / 31)) < c = ltb-true _ _ e in
        let fits = o.rest.counts.fits in
        let order = o.rest.counts.order in
        write_step does meaning own source f m (log_block f c) t.work h (omega arith) o.shape.work (work_fits k order)
        (λ b x ne fit. fit_grown k ne fit) (work_fits c (omega arith))
    log_step false e h =
        let none : c ≤ max k (31 * (c / 31)) = ltb-false _ _ e in
        inl (reached_wider does meaning own source f m (λ b x fit. fit) (λ b x fit. fit_fewer none fit) h)

    -- the head, over settled entries
    head_step : {cs : List Call} {r : Answer} {u : State} → Reached does meaning own source f m (Old c) (Old c) (writes 0 (fields_bytes t.head) ∷ cs) r u
        → Reached does meaning own source f m Mid New cs r u ⊎ Broken does meaning own source f m Mid r u
    head_step h =
        let is = head_counting base (length rs) t o.count in
        write_step does meaning own source f m {P = Mid} {Q = Old c} {R = New} 0 (fields_bytes t.head)
        (reached_wider does meaning own source f m (λ b x fit. fit_wider (λ y e. inl e) (λ s y e. e) (omega arith) fit) (λ b x fit. fit) h)
        (omega arith) (head_long t.head) (fit_head (inr is))
        (λ b x ne fit. record { head = λ e. absurd (ne e); row = fit.row; entry = fit.entry }) (fit_head is)

    settled : {u : State} → Standing f (meaning u) New New → Goes m (meaning u) → Open base (meaning u) (all_committed t) rs (length rs) × Goes m (meaning u)
    settled standing goes = (
      record {
        rows = o.rows;
        log = o.log;
        limits = o.limits;
        rest = record {
          standing = standing_wider (λ b x fit. fit) (λ b x fit. fit_fewer (omega arith) fit) standing;
          counts = record {
            fits = o.rest.counts.fits;
            counted = o.rest.counts.counted;
            early = omega arith;
            order = omega arith;
            settled = rw (take_all (length rs) rs (omega arith)) o.rest.counts.all;
            all = o.rest.counts.all;
          };
        };
        shape = record { rows = o.shape.rows; row = o.shape.row; flags = o.shape.flags; work = o.shape.work };
        count = o.count;
        held = o.held;
        flagged = o.flagged;
        working = o.working;
      },
      goes,
    )

    by_old : {e : ℕ} {r : Answer} {u : State} → k ≤ e → Broken does meaning own source f m (Old e) r u → AfterCommit base source m (meaning u) t rs n r
    by_old {u = u} l b =
        broken_end does meaning own source f m _ (take n rs) rs b
        (λ room w. old_safe o.limits (meaning u) room rs o.rest.counts (λ a x s st. fit_fewer l (w a x s st)))

    by_mid : {r : Answer} {u : State} → Broken does meaning own source f m Mid r u → AfterCommit base source m (meaning u) t rs n r
    by_mid {u = u} b =
        broken_end does meaning own source f m _ (take n rs) rs b (λ room w. heads_safe o.limits (meaning u) room o.rest.counts w)

  -- A COMMIT of an open sampler
  pub commit_law : {base : ℕ} {t : Memory} {rs : List (List ℕ)} {n : ℕ} (s u : State) (r : Answer) → Open base (meaning s) t rs n
      → Trace does meaning own source true s (commit_calls t) r u → AfterCommit base source (meaning s) (meaning u) t rs n r
  commit_law {t = t} s u r o h =
      elim (log_step o (has_uncommitted t) refl (record { next = s; standing = o.rest.standing; goes = goes_none o.rest.standing.on; rest = h })) [
        | inr b ↦ by_old o (omega arith) b
        | inl a ↦ elim (flush_step does meaning own source _ _ a) [
          | inr b ↦ by_old o (omega arith) b
          | inl a ↦ elim (head_step o a) [
            | inr b ↦ by_mid o b
            | inl a ↦ elim (flush_step does meaning own source _ _ a) [
              | inr b ↦ by_mid o b
              | inl a ↦ reached_end does meaning own source _ _ _ _ a (settled o)
            ]
          ]
        ]
      ]
