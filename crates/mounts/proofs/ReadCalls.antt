-- Blocks that are read for one check after another. Assumes nothing.
use Rattle.std.proofs.Common.{◌≡◌, ℕ, zero, suc, ◌+◌, ◌<◌, ◌≤◌, List, [], ◌∷◌, ◌++◌, map, length, replicate, All, Ok, Err, Result, refl, sym, ◌∙◌, ap, arith, ⊎_elim}
use Rattle.std.proofs.lemmas.Bool.{cases_lt}
use Rattle.std.proofs.lemmas.List.{append-nil, append_assoc, map-append, length-replicate}
use Rattle.std.proofs.lemmas.List.Elements.{All-nil, All-cons, All-append}
use Rattle.std.specs.Result.{MatchResult}
use Rattle.faults.specs.declared.faults.Fault.{Fault}
use Rattle.stores.specs.Outcomes.{Answer}
use Rattle.stores.specs.Calls.{Call, Response, reads, InOrder}
use Rattle.stores.proofs.Sequences.{lists_joined, list_ended}
use Rattle.cards.specs.Verdicts.{each}
use Rattle.cards.proofs.Checks.{each_stops}
use Rattle.mounts.specs.Reads.{reading, OfBlockLength, if_passed, each_reads, FaultOf, no_check, ReadsFor}

-- blocks, each with a buffer of zeros
abbrev pub with_buffers : List ℕ → List (ℕ × List ℕ)
with_buffers blocks = map (λ b. (b, replicate 504 0)) blocks

buffers_off : (blocks : List ℕ) → map (λ (x : ℕ × List ℕ). x.0) (with_buffers blocks) ≡ blocks
buffers_off [] = refl
buffers_off (b ∷ blocks) = ap (λ (more : List ℕ). b ∷ more) (buffers_off blocks)

buffers_fit : (blocks : List ℕ) → All OfBlockLength (with_buffers blocks)
buffers_fit [] = All-nil OfBlockLength
buffers_fit (b ∷ blocks) = All-cons OfBlockLength (b, replicate 504 0) (with_buffers blocks) (length-replicate {A = ℕ} 504 0) (buffers_fit blocks)

module _ (checks : ℕ → Answer) (blocks : ℕ → List ℕ) where
  pub none_read : each_reads checks blocks 0 ≡ []
  unfolding each_reads
  none_read = refl

  each_reads_step : (i : ℕ) → each_reads checks blocks (suc i) ≡ each_reads checks blocks i ++ if_passed (each checks i) (λ _. blocks i)
  unfolding each_reads
  each_reads_step i = refl

  pub one_read_more : (i : ℕ) → each checks i ≡ Ok tt → each_reads checks blocks (suc i) ≡ each_reads checks blocks i ++ blocks i
  one_read_more i passed = each_reads_step i ∙ ap (λ (r : Answer). each_reads checks blocks i ++ if_passed r (λ _. blocks i)) passed

  -- after check i some more is read, but nothing where it is refused
  pub each_reads_more : (i n : ℕ) → each checks i ≡ Ok tt → i < n
      → (more : List ℕ) × (each_reads checks blocks n ≡ each_reads checks blocks (suc i) ++ more) × ((e : Fault) → checks i ≡ Err e → more ≡ [])
  each_reads_more i zero passed l = absurd (omega arith)
  each_reads_more i (suc n) passed l =
      ⊎_elim
      (λ (k : i < n).
      let (more, is, none) = each_reads_more i n passed k in
      let next = if_passed (each checks n) (λ _. blocks n) in (
        more ++ next,
        each_reads_step n ∙ ap (λ (xs : List ℕ). xs ++ next) is ∙ append_assoc (each_reads checks blocks (suc i)) more next,
        λ e refused. rw (none e refused, each_stops checks i n e passed refused k) refl,
      ))
      (λ (k : n ≤ i).
      let same : n ≡ i = omega arith in
      ([], ap (λ (j : ℕ). each_reads checks blocks (suc j)) same ∙ sym (append-nil _), λ e refused. refl))
      (cases_lt i n)

module _ {S : Type 0} (does : S → Call → Response S → Type 0) where
  -- no read, and an answer that the check gives
  pub reads_none : {A X : Type 0} (s : S) (check : Result A Fault) (r : Result X Fault) → FaultOf check r → ReadsFor does s [] check r s
  unfolding InOrder
  reads_none s check r h = record { calls = []; these = refl; fit = All-nil OfBlockLength; last = Ok tt; made = (refl, refl); fault = h }

  -- a read whose answer is the part's
  pub one_read : {A : Type 0} (s t : S) (check : Result A Fault) (b : ℕ) (before after : List ℕ) (r : Answer) → length before ≡ 504
      → does s (reads b before) (record { answer = r; buffer = after; next = t }) → ReadsFor does s (b ∷ []) check r t
  unfolding InOrder
  one_read s t check b before after (Ok done) fits h =
      record { calls = (b, before) ∷ []; these = refl; fit = All-cons OfBlockLength (b, before) [] fits (All-nil OfBlockLength); last = Ok tt; made = (record { answer = Ok tt; buffer = after; next = t }, h, (refl, refl)); fault = tt }
  one_read s t check b before after (Err e) fits h =
      record { calls = (b, before) ∷ []; these = refl; fit = All-cons OfBlockLength (b, before) [] fits (All-nil OfBlockLength); last = Err e; made = (record { answer = Err e; buffer = after; next = t }, h, (refl, refl)); fault = refl }

  whole_made : {A X : Type 0} (check : Result A Fault) (q : Answer) (x : X)
      → MatchResult q (λ done. FaultOf {X = X} check (Ok x)) (λ e. ◌≡◌ {A = Result X Fault} (Ok x) (Err e)) → q ≡ Ok tt
  whole_made check (Ok done) x h = refl
  whole_made check (Err e) x h = absurd (cc h)

  -- reads that were accepted, and the ones after them
  pub reads_then : {A B X Y : Type 0} (s u t : S) (first : Result A Fault) (check : Result B Fault) (bs cs : List ℕ) (x : X) (r : Result Y Fault)
      → ReadsFor does s bs first (Ok x) u → ReadsFor does u cs check r t → ReadsFor does s (bs ++ cs) check r t
  reads_then s u t first check bs cs x r a b =
      record {
        calls = a.calls ++ b.calls;
        these = rw (map-append (λ (c : ℕ × List ℕ). c.0) a.calls b.calls, a.these, b.these) refl;
        fit = All-append OfBlockLength a.calls b.calls a.fit b.fit;
        last = b.last;
        made = rw (map-append reading) (lists_joined does s u t (map reading a.calls) (map reading b.calls) b.last (rw (whole_made first a.last x a.fault) at a.made) b.made);
        fault = b.fault;
      }

  stopped : {A B Y : Type 0} (X : Type 0) (s t : S) (check : Result A Fault) (all : Result B Fault) (bs more : List ℕ) (e : Fault) (calls : List (ℕ × List ℕ)) (last : Answer)
      → map (λ (c : ℕ × List ℕ). c.0) calls ≡ bs → All OfBlockLength calls → InOrder does s (map reading calls) last t
      → MatchResult last (λ done. FaultOf {X = X} check (Err e)) (λ f. ◌≡◌ {A = Result X Fault} (Err e) (Err f))
      → (check ≡ Err e → more ≡ []) → (check ≡ Err e → all ≡ Err e) → ReadsFor {X = Y} does s (bs ++ more) all (Err e) t
  stopped X s t check all bs more e calls (Ok done) these fit made fault none is =
      record { calls = calls; these = rw (none fault) (these ∙ sym (append-nil bs)); fit = fit; last = Ok tt; made = made; fault = is fault }
  stopped X s t check all bs more e calls (Err f) these fit made fault none is =
      record {
        calls = calls ++ with_buffers more;
        these = rw (map-append (λ (c : ℕ × List ℕ). c.0) calls (with_buffers more), these, buffers_off more) refl;
        fit = All-append OfBlockLength calls (with_buffers more) fit (buffers_fit more);
        last = Err f;
        made = rw (map-append reading calls (with_buffers more)) (list_ended does s t (map reading calls) (map reading (with_buffers more)) f made);
        fault = cc fault;
      }

  -- a fault ends them, however many more there were to be
  pub reads_stopped : {A B Y : Type 0} (X : Type 0) (s t : S) (check : Result A Fault) (all : Result B Fault) (bs more : List ℕ) (e : Fault)
      → ReadsFor {X = X} does s bs check (Err e) t → (check ≡ Err e → more ≡ []) → (check ≡ Err e → all ≡ Err e) → ReadsFor {X = Y} does s (bs ++ more) all (Err e) t
  reads_stopped X s t check all bs more e a none is = stopped X s t check all bs more e a.calls a.last a.these a.fit a.made a.fault none is

  -- where nothing is checked, a fault is that of a read
  pub reads_failed : {B Y : Type 0} (s t : S) (check : Result B Fault) (bs : List ℕ) (e : Fault) → ReadsFor {X = Unit} does s bs no_check (Err e) t → ReadsFor {X = Y} does s bs check (Err e) t
  reads_failed s t check bs e a = rw (← append-nil bs) (reads_stopped Unit s t no_check check bs [] e a (λ h. absurd (cc h)) (λ h. absurd (cc h)))

  after_whole : {A B X Y : Type 0} (first : Result A Fault) (check : Result B Fault) (x : X) (r : Result Y Fault) (last : Answer)
      → MatchResult last (λ done. FaultOf {X = X} first (Ok x)) (λ f. ◌≡◌ {A = Result X Fault} (Ok x) (Err f)) → FaultOf check r → MatchResult last (λ done. FaultOf check r) (λ f. r ≡ Err f)
  after_whole first check x r (Ok done) h answer = answer
  after_whole first check x r (Err f) h answer = absurd (cc h)

  -- reads that were accepted, and then an answer that no read gave
  pub reads_answered : {A B X Y : Type 0} (s t : S) (first : Result A Fault) (check : Result B Fault) (bs : List ℕ) (x : X) (r : Result Y Fault)
      → ReadsFor does s bs first (Ok x) t → FaultOf check r → ReadsFor does s bs check r t
  reads_answered s t first check bs x r a answer =
      record { calls = a.calls; these = a.these; fit = a.fit; last = a.last; made = a.made; fault = after_whole first check x r a.last a.fault answer }

  module _ (checks : ℕ → Answer) (blocks : ℕ → List ℕ) (s : S) where
    -- before the first check
    pub each_begun : ReadsFor does s (each_reads checks blocks 0) (each checks 0) no_check s
    each_begun = rw (none_read checks blocks) (reads_none s (each checks 0) no_check tt)

    module _ (u t : S) (i : ℕ) (passed : each checks i ≡ Ok tt) (before : ReadsFor does s (each_reads checks blocks i) (each checks i) no_check u) where
      -- a check that passed
      pub each_onward : ReadsFor does u (blocks i) (checks i) no_check t → ReadsFor does s (each_reads checks blocks (i + 1)) (each checks (i + 1)) no_check t
      each_onward here =
          let next : i + 1 ≡ suc i = omega arith in
          rw (next, one_read_more checks blocks i passed)
          (reads_answered s t (checks i) (each checks (suc i)) _ tt no_check (reads_then s u t (each checks i) (checks i) (each_reads checks blocks i) (blocks i) tt no_check before here) tt)

      -- a check at which a fault came up
      pub each_stopped : {X : Type 0} (n : ℕ) (e : Fault) → i < n → ReadsFor {X = Unit {0}} does u (blocks i) (checks i) (Err e) t → ReadsFor {X = X} does s (each_reads checks blocks n) (each checks n) (Err e) t
      each_stopped n e l here =
          let (more, is, none) = each_reads_more checks blocks i n passed l in
          rw (is, one_read_more checks blocks i passed)
          (reads_stopped Unit s t (checks i) (each checks n) (each_reads checks blocks i ++ blocks i) more e
          (reads_then s u t (each checks i) (checks i) (each_reads checks blocks i) (blocks i) tt (Err e) before here)
          (none e)
          (λ refused. each_stops checks i n e passed refused l))
