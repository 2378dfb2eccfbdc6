-- A refresh settles all records and empties the log, and a cut in it leaves the settled ones or all. Assumes nothing.
use Rattle.std.proofs.Common.{◌≡◌, ℕ, Bool, true, false, cond, eqb, ◌⊎◌, inl, inr, List, [], ◌∷◌, length, take, Ok, Err, MatchResult, refl, sym, ap, subst, arith}
use Rattle.std.proofs.lemmas.Bool.{eqb-true}
use Rattle.faults.specs.declared.faults.Layer.{Layer}
use Rattle.stores.specs.Calls.{Call, Response, writes, flushes}
use Rattle.stores.specs.Meanings.{Meaning}
use Rattle.stores.specs.Outcomes.{Answer}
use Rattle.layouts.specs.Heads.{fields_bytes}
use Rattle.layouts.specs.Shapes.{sample_blocks}
use Rattle.cards.specs.Memories.{Memory}
use Rattle.workings.specs.Commits.{commit_calls, all_committed}
use Rattle.workings.specs.Refreshes.{emptied, emptying_calls, refresh_calls, refreshed}
use Rattle.traces.specs.Traces.{Trace}
use Rattle.traces.proofs.Traces.{none_made, lists_apart}
use Rattle.recovery.proofs.Frames.{Frame, frame, fields_of}
use Rattle.recovery.proofs.Laws.{AfterRefresh}
use Rattle.recovery.proofs.Opens.{Open}
use Rattle.recovery.proofs.Recoveries.{Safe, Lost, Goes}
use Rattle.recovery.proofs.Standings.{Fit, Counting, Just, Standing}
use Rattle.recovery.proofs.Tellings.{sampled, Tells}
use Rattle.recovery.proofs.Cards.{OneOf, rows_safe, emptied_safe}
use Rattle.recovery.proofs.Commits.{head_long, commit_law}
use Rattle.recovery.proofs.Fitting.{fit_wider, fit_fewer, fit_head, standing_wider}
use Rattle.recovery.proofs.Rebased.{Bare, open_refreshed}
use Rattle.recovery.proofs.Rewrites.{Stands, Rewritten, rows_steps}
use Rattle.recovery.proofs.Steps.{goes_none, goes_on, lost_later, Reached, Broken, reached_wider, write_step, flush_step, reached_end, broken_end}
use Rattle.recovery.proofs.TellingLaws.{tells_rows}

-- what recovers to all records recovers to the settled ones or all
safe_waiting : {f : Frame} (m : Meaning) {rs : List (List ℕ)} (old : List (List ℕ)) → Safe f m rs rs → Safe f m old rs
safe_waiting m old h card may = elim (h card may) [ inl r ↦ inr r | inr r ↦ inr r ]

module _ {State : Type 0} (does : State → Call → Response State → Type 0) (meaning : State → Meaning) (own source : Layer) where
  module _ (t : Memory) {base : ℕ} {m : Meaning} {rs : List (List ℕ)} (o : Open base m (all_committed t) rs (length rs)) where
    abbrev f : Frame
    f = frame base t

    abbrev c : ℕ
    c = t.head.entries

    abbrev new : ℕ → List ℕ
    new = sampled f rs

    -- the outcome once all is committed
    abbrev Emptied : Meaning → Answer → Type 0
    Emptied q r = MatchResult r (λ done. Open (length rs) q (refreshed t) rs (length rs) × Goes m q) (λ e. Lost f source m q rs rs e)

    -- the sample's rows under the head with the log, under that head or the one without, and under the one without
    abbrev Full : ℕ → List ℕ → Type 0
    Full = Fit f (Counting f (length rs) c) (Just new) o.log c

    abbrev Mid : ℕ → List ℕ → Type 0
    Mid = Fit f (OneOf f (length rs) c (length rs) 0) (Just new) o.log c

    all_rewritten : (b : ℕ) (x : List ℕ) → Rewritten does meaning own source t o (sample_blocks f.size) b x → Full b x
    all_rewritten b x fit = record { head = fit.head; row = λ s k z. (fit.row s k z).0 (omega arith); entry = fit.entry }

    bare_head : Counting f (length rs) 0 (fields_bytes (emptied t.head))
    bare_head = ap (λ (x : ℕ). fields_bytes (fields_of f x 0)) o.count

    -- the head without a log, over the sample's rows
    head_step : {cs : List Call} {r : Answer} {u : State} → Reached does meaning own source f m Full Full (writes 0 (fields_bytes (emptied t.head)) ∷ cs) r u
        → Reached does meaning own source f m Mid (Bare f rs new o.log) cs r u ⊎ Broken does meaning own source f m Mid r u
    head_step h =
        write_step does meaning own source f m {P = Mid} {Q = Full} {R = Bare f rs new o.log} 0 (fields_bytes (emptied t.head))
        (reached_wider does meaning own source f m (λ b x fit. fit_wider (λ y e. inl e) (λ s y e. e) (omega arith) fit) (λ b x fit. fit) h)
        (omega arith) (head_long (emptied t.head)) (fit_head (inr bare_head))
        (λ b x ne fit. record { head = λ e. absurd (ne e); row = fit.row; entry = λ j l e. absurd (omega arith) }) (fit_head bare_head)

    by_rows : {r : Answer} {u : State} → Broken does meaning own source f m (Stands does meaning own source t o) r u → Emptied (meaning u) r
    by_rows {u = u} b =
        broken_end does meaning own source f m _ rs rs b
        (λ room w. rows_safe o.limits (meaning u) room o.rest.counts.counted o.rest.counts.fits o.rest.counts.all w)

    by_head : {P : ℕ → List ℕ → Type 0} {r : Answer} {u : State} → ((b : ℕ) (x : List ℕ) → P b x → Mid b x) → Broken does meaning own source f m P r u → Emptied (meaning u) r
    by_head {u = u} g b =
        broken_end does meaning own source f m _ rs rs b
        (λ room w. emptied_safe o.limits (meaning u) room o.rest.counts.counted o.rest.counts.fits o.rest.counts.all (λ a x l st. g a x (w a x l st)))

    bare_open : {u : State} → Standing f (meaning u) (Bare f rs new o.log) (Bare f rs new o.log) → Goes m (meaning u)
        → Open (length rs) (meaning u) (refreshed t) rs (length rs) × Goes m (meaning u)
    bare_open standing goes = (
      open_refreshed t o.limits (record { rows = o.shape.rows; row = o.shape.row; flags = o.shape.flags; work = o.shape.work }) o.count o.rest.counts.counted o.held
          (tells_rows f rs o.log o.rest.counts.all.begun) standing,
      goes,
    )

  -- a log with entries is emptied
  emptying_law : (t : Memory) {base : ℕ} {rs : List (List ℕ)} (s u : State) (r : Answer) (o : Open base (meaning s) (all_committed t) rs (length rs))
      → Trace does meaning own source true s (emptying_calls t) r u → Emptied t o (meaning u) r
  emptying_law t {base} s u r o h =
      let first : Reached does meaning own source (frame base t) (meaning s) (Stands does meaning own source t o) (Rewritten does meaning own source t o 0) (emptying_calls t) r u =
      record {
        next = s;
        standing = standing_wider (λ b x fit. fit_wider (λ y e. e) (λ i y e. inl e) (omega arith) fit)
            (λ b x fit. fit_wider (λ y e. e) (λ i y e. ((λ g. absurd (omega arith)), (λ g. e))) (omega arith) fit) o.rest.standing;
        goes = goes_none o.rest.standing.on;
        rest = h;
      } in
      elim (rows_steps does meaning own source t o (flushes ∷ writes 0 (fields_bytes (emptied t.head)) ∷ flushes ∷ []) (sample_blocks t.head.size) (omega arith) first) [
        | inr b ↦ by_rows t o b
        | inl a ↦ elim (flush_step does meaning own source _ _ a) [
          | inr b ↦ by_rows t o b
          | inl a ↦ elim (head_step t o (reached_wider does meaning own source _ _ (all_rewritten t o) (all_rewritten t o) a)) [
            | inr b ↦ by_head t o (λ b x fit. fit) b
            | inl a ↦ elim (flush_step does meaning own source _ _ a) [
              | inr b ↦ by_head t o (λ b x fit. fit) b
              | inl a ↦ reached_end does meaning own source _ _ _ _ a (bare_open t o)
            ]
          ]
        ]
      ]

  -- a log without entries is empty
  none_law : (t : Memory) {base : ℕ} {rs : List (List ℕ)} (s u : State) (r : Answer) (o : Open base (meaning s) (all_committed t) rs (length rs)) → t.head.entries ≡ 0
      → Trace does meaning own source true s [] r u → Emptied t o (meaning u) r
  none_law t {base} {rs} s u r o none h =
      let e = none_made does meaning own source true s u r h in
      let f : Frame = frame base t in
      let fewer : (b : ℕ) (x : List ℕ) → Fit f (Counting f (length rs) t.head.entries) (Just o.rows) o.log t.head.entries b x → Bare f rs o.rows o.log b x =
      λ b x fit. fit_wider (λ y z. subst (λ (k : ℕ). Counting f (length rs) k y) none z) (λ i y z. z) (omega arith) fit in
      let standing = standing_wider fewer (λ b x fit. fewer b x (fit_fewer (omega arith) fit)) o.rest.standing in
      let told = subst (λ (k : ℕ). Tells f rs o.rows o.log k) none o.rest.counts.all in
      subst (λ (a : Answer). Emptied t o (meaning u) a) (sym e.0)
      (subst (λ (x : State). Open (length rs) (meaning x) (refreshed t) rs (length rs) × Goes (meaning s) (meaning x)) (sym e.1) (
        open_refreshed t o.limits (record { rows = o.shape.rows; row = o.shape.row; flags = o.shape.flags; work = o.shape.work }) o.count o.rest.counts.counted o.held told standing,
        goes_none o.rest.standing.on,
      ))

  emptied_by : (t : Memory) {base : ℕ} {rs : List (List ℕ)} (s u : State) (r : Answer) (b : Bool) → eqb t.head.entries 0 ≡ b → (o : Open base (meaning s) (all_committed t) rs (length rs))
      → Trace does meaning own source true s (cond b [] (emptying_calls t)) r u → Emptied t o (meaning u) r
  emptied_by t s u r true e o h = none_law t s u r o (eqb-true _ _ e) h
  emptied_by t s u r false e o h = emptying_law t s u r o h

  -- the outcome of the whole, by that of its second part
  later : (t : Memory) {base : ℕ} {rs : List (List ℕ)} (n : ℕ) (s v u : State) (r : Answer) (o : Open base (meaning v) (all_committed t) rs (length rs)) → Goes (meaning s) (meaning v)
      → Emptied t o (meaning u) r → AfterRefresh base source (meaning s) (meaning u) t rs n r
  later t n s v u (Ok done) o g h = (h.0, goes_on g h.1)
  later t {rs = rs} n s v u (Err e) o g h = lost_later g h (safe_waiting (meaning u) (take n rs))

  -- A REFRESH of an open sampler
  pub refresh_law : {base : ℕ} {t : Memory} {rs : List (List ℕ)} {n : ℕ} (s u : State) (r : Answer) → Open base (meaning s) t rs n
      → Trace does meaning own source true s (refresh_calls t) r u → AfterRefresh base source (meaning s) (meaning u) t rs n r
  refresh_law {base} {t} {rs} {n} s u r o h =
      elim (lists_apart does meaning own source true s u (commit_calls t) (cond (eqb t.head.entries 0) [] (emptying_calls t)) r h) [
        | inl p ↦ (let k = commit_law does meaning own source s p.0 (Ok tt) o p.1 in
            later t n s p.0 u r k.0 k.1 (emptied_by t p.0 u r (eqb t.head.entries 0) refl k.0 p.2))
        | inr p ↦ subst (λ (a : Answer). AfterRefresh base source (meaning s) (meaning u) t rs n a) (sym p.1) (commit_law does meaning own source s u (Err p.0) o p.2)
      ]
