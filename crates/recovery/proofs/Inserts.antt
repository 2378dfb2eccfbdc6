-- An insert counts one more record and settles none, and a cut in it leaves the settled ones. Assumes nothing.
use Rattle.std.proofs.Common.{◌≡◌, ℕ, suc, ◌+◌, ◌*◌, ◌/◌, ◌%◌, ◌<◌, ◌≤◌, Bool, true, false, cond, ◌&&◌, ◌||◌, ltb, eqb, is_some, is_none, inl, inr, List, [], ◌∷◌, ◌++◌, length, take, Some, None, Ok, Option, MatchResult, slice_set, refl, sym, ap, ◌∙◌, subst, ⊎_elim, arith, add-one, add-zero, length-append}
use Rattle.std.proofs.lemmas.Bool.{ltb-true, eqb-true, eqb-false, cases_lt}
use Rattle.std.proofs.lemmas.List.{take-append-le, length-set}
use Rattle.faults.specs.declared.faults.Fault.{Fault}
use Rattle.faults.specs.declared.faults.Layer.{Layer}
use Rattle.stores.specs.Calls.{Call, Response, writes}
use Rattle.stores.specs.Meanings.{Meaning}
use Rattle.stores.specs.Outcomes.{Answer}
use Rattle.sampling.specs.Draws.{slot_of}
use Rattle.sampling.proofs.SlotLaws.{slot_below}
use Rattle.layouts.specs.Entries.{entry_at, with_entry}
use Rattle.layouts.specs.declared.entries.Entry.{Entry}
use Rattle.cards.specs.Memories.{Memory}
use Rattle.cards.specs.Verdicts.{and_then, check}
use Rattle.workings.specs.Inserts.{next_slot, insert_test, next_entry, inserted, insert_calls}
use Rattle.traces.specs.Traces.{Trace}
use Rattle.traces.proofs.Traces.{none_made}
use Rattle.recovery.proofs.Frames.{Frame, frame, log_block}
use Rattle.recovery.proofs.Laws.{AfterInsert}
use Rattle.recovery.proofs.Opens.{Open}
use Rattle.recovery.proofs.Recoveries.{Lost, Goes}
use Rattle.recovery.proofs.Standings.{Fit, Counting, Just, written, Standing, Counts}
use Rattle.recovery.proofs.Cards.{old_safe}
use Rattle.recovery.proofs.Fitting.{fit_fewer, fit_log, fit_grown, standing_wider}
use Rattle.recovery.proofs.OneMore.{sampled_more, tells_passed, tells_noted, noted, entry_for, noted_below}
use Rattle.recovery.proofs.Puts.{rows_put, flags_put, twelve_put, work_long, work_entries}
use Rattle.recovery.proofs.Steps.{goes_none, write_step, reached_end, broken_end}
use Rattle.recovery.proofs.TellingLaws.{tells_same}

-- what the tests of an insert let through
both_checked : (a b : Bool) (e g : Fault) → and_then (check a e) (λ _. check b g) ≡ Ok tt → (a ≡ true) × (b ≡ true)
both_checked true true e g h = (refl, refl)
both_checked true false e g h = absurd cc
both_checked false b e g h = absurd cc

-- what is counted once a record is passed over, or noted
module _ {f : Frame} {rs : List (List ℕ)} {n k c : ℕ} {rows : ℕ → List ℕ} {log : ℕ → Entry} (r : List ℕ) (few : length rs < 4000000000) (x : Counts f rs n k c rows log) where
  one_longer : length (rs ++ r ∷ []) ≡ length rs + 1
  one_longer = length-append rs (r ∷ [])

  pub counts_passed : slot_of f.seed f.size (length rs + 1) ≡ None → Counts f (rs ++ r ∷ []) n k c rows log
  counts_passed none =
      let early = x.early in
      let longer = one_longer in
      record {
        fits = x.fits;
        counted = omega arith;
        early = omega arith;
        order = x.order;
        settled = rw (take-append-le n rs (r ∷ []) early) x.settled;
        all = tells_passed r none x.all;
      }

  pub counts_noted : (slot : ℕ) → slot_of f.seed f.size (length rs + 1) ≡ Some slot → c < 31 * f.log_blocks
      → Counts f (rs ++ r ∷ []) n k (suc c) rows (noted log c (entry_for rs r))
  counts_noted slot has room =
      let early = x.early in
      let order = x.order in
      let longer = one_longer in
      record {
        fits = omega arith;
        counted = omega arith;
        early = omega arith;
        order = omega arith;
        settled = rw (take-append-le n rs (r ∷ []) early) (tells_same _ _ x.settled (λ s l. inl refl) (λ j l. noted_below log c (entry_for rs r) j (omega arith)));
        all = tells_noted r slot has x.all;
      }

-- an entry at place c changes none below it
fit_noted : {f : Frame} {H : List ℕ → Type 0} {R : ℕ → List ℕ → Type 0} {log : ℕ → Entry} {c k b : ℕ} {x : List ℕ} (e : Entry) → k ≤ c → Fit f H R log k b x → Fit f H R (noted log c e) k b x
fit_noted {log = log} {c = c} e le fit =
    record { head = fit.head; row = fit.row; entry = λ j l z. fit.entry j l z ∙ sym (noted_below log c e j (omega arith)) }

-- the memory after a record, by how many entries its head then has
abbrev passed_memory : Memory → ℕ → Memory
passed_memory t c = record t { head = record { kind = t.head.kind; log_blocks = t.head.log_blocks; size = t.head.size; seed = t.head.seed; count = t.head.count + 1; entries = c } }

abbrev noted_memory : Memory → ℕ → List ℕ → ℕ → Memory
noted_memory t slot r c = record {
  head = record { kind = t.head.kind; log_blocks = t.head.log_blocks; size = t.head.size; seed = t.head.seed; count = t.head.count + 1; entries = c };
  committed = t.committed;
  rows = slice_set t.rows slot r;
  logged = slice_set t.logged slot true;
  work = with_entry t.work (t.head.entries % 31) (next_entry t r);
}

module _ {base : ℕ} {m : Meaning} {t : Memory} {rs : List (List ℕ)} {n : ℕ} (o : Open base m t rs n) (r : List ℕ) (few : t.head.count < 4000000000) where
  abbrev f : Frame
  f = frame base t

  abbrev k : ℕ
  k = t.committed

  abbrev c : ℕ
  c = t.head.entries

  few_records : length rs < 4000000000
  few_records = rw (← o.count) few

  one_counted : t.head.count + 1 ≡ length (rs ++ r ∷ [])
  one_counted = ap (λ x. x + 1) o.count ∙ sym (length-append rs (r ∷ []))

  slot_of_next : (p : Option ℕ) → next_slot t ≡ p → slot_of f.seed f.size (length rs + 1) ≡ p
  slot_of_next p e = ap (λ x. slot_of f.seed f.size (x + 1)) (sym o.count) ∙ e

  -- a record without a slot is only counted
  open_passed : next_slot t ≡ None → Open base m (passed_memory t c) (rs ++ r ∷ []) n
  open_passed e =
      let none = slot_of_next None e in
      record {
        rows = o.rows;
        log = o.log;
        limits = o.limits;
        rest = record { standing = o.rest.standing; counts = counts_passed r few_records o.rest.counts none };
        shape = record { rows = o.shape.rows; row = o.shape.row; flags = o.shape.flags; work = o.shape.work };
        count = one_counted;
        held = λ s l. o.held s l ∙ ap {B = Option (List ℕ)} Some (sym (sampled_more f rs r s ∙ rw none refl));
        flagged = o.flagged;
        working = o.working;
      }

  module _ (slot : ℕ) (e : next_slot t ≡ Some slot) (room : c < 31 * f.log_blocks) (twelve : length r ≡ 12) where
    has : slot_of f.seed f.size (length rs + 1) ≡ Some slot
    has = slot_of_next (Some slot) e

    inside : slot < 672
    inside = let most = o.limits.most in omega (arith, slot_below f.seed f.size (length rs + 1) slot has)

    abbrev log_after : ℕ → Entry
    log_after = noted o.log c (entry_for rs r)

    abbrev work_after : List ℕ
    work_after = with_entry t.work (c % 31) (next_entry t r)

    same_entry : next_entry t r ≡ entry_for rs r
    same_entry = ap {B = Entry} (λ x. record { number = x + 1; bytes = r }) o.count

    entries_after : (j : ℕ) → j < suc c → j / 31 ≡ c / 31 → entry_at work_after (j % 31) ≡ log_after j
    entries_after =
        subst (λ (x : Entry). (j : ℕ) → j < suc c → j / 31 ≡ c / 31 → entry_at (with_entry t.work (c % 31) x) (j % 31) ≡ log_after j) (sym same_entry)
        (work_entries o.log c (entry_for rs r) t.work o.shape.work twelve (let l = few_records in omega arith) o.working)

    -- a candidate, over a store that is at rest with its entry
    open_noted : {q : Meaning} → Standing f q (Fit f (Counting f n k) (Just o.rows) log_after k) (Fit f (Counting f n k) (Just o.rows) log_after (written k (suc c)))
        → Open base q (noted_memory t slot r (suc c)) (rs ++ r ∷ []) n
    open_noted standing = record {
      rows = o.rows;
      log = log_after;
      limits = o.limits;
      rest = record { standing = standing; counts = counts_noted r few_records o.rest.counts slot has room };
      shape = record {
        rows = length-set t.rows slot r ∙ o.shape.rows;
        row = twelve_put t.rows r slot twelve (let l = inside in let z = o.shape.rows in omega arith) o.shape.row;
        flags = length-set t.logged slot true ∙ o.shape.flags;
        work = work_long t.work c (next_entry t r) o.shape.work twelve;
      };
      count = one_counted;
      held = λ s l. rows_put f rs t.rows r slot s has (let i = inside in let z = o.shape.rows in omega arith) (o.held s l);
      flagged = λ s l. flags_put f o.log c (entry_for rs r) t.logged slot s has (let i = inside in let z = o.shape.flags in omega arith) (o.flagged s l);
      working = λ j l same. ⊎_elim (λ (g : suc c % 31 < 1). absurd (omega arith)) (λ (g : 1 ≤ suc c % 31). entries_after j l (omega arith)) (cases_lt (suc c % 31) 1);
    }

    -- the log block is not full yet
    noted_standing : (c % 31 ≡ 30 → ⊥) → Standing f m (Fit f (Counting f n k) (Just o.rows) log_after k) (Fit f (Counting f n k) (Just o.rows) log_after (written k (suc c)))
    noted_standing part =
        let order = o.rest.counts.order in
        standing_wider (λ b x fit. fit_noted (entry_for rs r) order fit)
        (λ b x fit. fit_noted (entry_for rs r) (omega arith) (fit_fewer (omega arith) fit)) o.rest.standing

    -- the log block is full, and written
    abbrev Old : ℕ → List ℕ → Type 0
    Old = Fit f (Counting f n k) (Just o.rows) o.log k

    after_fits : (d : ℕ) → d ≤ suc c → Fit f (Counting f n k) (Just o.rows) log_after d (log_block f c) work_after
    after_fits d l = fit_log (λ j h z. entries_after j (omega arith) z)

    old_fits : Old (log_block f c) work_after
    old_fits = let order = o.rest.counts.order in
        fit_log (λ j h z. entries_after j (omega arith) z ∙ noted_below o.log c (entry_for rs r) j (omega arith))

    others_fit : (b : ℕ) (x : List ℕ) → (b ≡ log_block f c → ⊥) → Fit f (Counting f n k) (Just o.rows) o.log (written k c) b x
        → Fit f (Counting f n k) (Just o.rows) log_after (written k (suc c)) b x
    others_fit b x ne fit =
        let order = o.rest.counts.order in
        record {
          head = fit.head;
          row = fit.row;
          entry = λ j l z.
              let below : j < c = ⊎_elim (λ (g : j < c). g) (λ (g : c ≤ j). absurd (ne (omega arith))) (cases_lt j c) in
              (fit_grown k ne fit).entry j below z ∙ sym (noted_below o.log c (entry_for rs r) j below);
        }

-- what the tests let through: a count below its limit, and of a candidate a log with room
pub tests_passed : (t : Memory) → insert_test t ≡ Ok tt → (t.head.count < 4000000000) × ((slot : ℕ) → next_slot t ≡ Some slot → t.head.entries < 31 * t.head.log_blocks)
tests_passed t e =
    let both = both_checked _ _ _ _ e in
    (ltb-true _ _ both.0, λ slot s. ltb-true _ _ (ap (λ (p : Option ℕ). is_none p || ltb t.head.entries (31 * t.head.log_blocks)) (sym s) ∙ both.1))

module _ {State : Type 0} (does : State → Call → Response State → Type 0) (meaning : State → Meaning) (own source : Layer) where
  module _ {base : ℕ} {t : Memory} {rs : List (List ℕ)} {n : ℕ} (s u : State) (r : Answer) (bytes : List ℕ) (o : Open base (meaning s) t rs n) (few : t.head.count < 4000000000) where
    -- the outcome, by the slot
    abbrev After : Option ℕ → Type 0
    After p =
        MatchResult r (λ done. Open base (meaning u) (inserted t p bytes) (rs ++ bytes ∷ []) n × Goes (meaning s) (meaning u))
        (λ e. Lost (frame base t) source (meaning s) (meaning u) (take n rs) (take n rs) e)

    -- no call is made
    no_call : (p : Option ℕ) → Open base (meaning s) (inserted t p bytes) (rs ++ bytes ∷ []) n → Trace does meaning own source true s [] r u → After p
    no_call p after h =
        let e = none_made does meaning own source true s u r h in
        let on = o.rest.standing.on in
        subst (λ (a : Answer). MatchResult a (λ done. Open base (meaning u) (inserted t p bytes) (rs ++ bytes ∷ []) n × Goes (meaning s) (meaning u)) (λ e. Lost (frame base t) source (meaning s) (meaning u) (take n rs) (take n rs) e))
        (sym e.0) (subst (λ (x : State). Open base (meaning x) (inserted t p bytes) (rs ++ bytes ∷ []) n × Goes (meaning s) (meaning x)) (sym e.1) (after, goes_none on))

    noted_by : (slot : ℕ) → next_slot t ≡ Some slot → t.head.entries < 31 * t.head.log_blocks → length bytes ≡ 12 → (b : Bool) → eqb (t.head.entries % 31) 30 ≡ b
        → Trace does meaning own source true s (cond b (writes (log_block (frame base t) t.head.entries) (inserted t (Some slot) bytes).work ∷ []) []) r u → After (Some slot)
    noted_by slot e room twelve false part h =
        no_call (Some slot)
        (subst (λ x. Open base (meaning s) (noted_memory t slot bytes x) (rs ++ bytes ∷ []) n) (sym (add-one t.head.entries))
        (open_noted o bytes few slot e room twelve (noted_standing o bytes few slot e room twelve (eqb-false _ _ part)))) h
    noted_by slot e room twelve true full h =
        let last = eqb-true _ _ full in
        elim (write_step does meaning own source (frame base t) (meaning s) {P = Old o bytes few slot e room twelve} (log_block (frame base t) t.head.entries) (work_after o bytes few slot e room twelve)
        (record { next = s; standing = o.rest.standing; goes = goes_none o.rest.standing.on; rest = h })
        (omega arith) (work_long t.work t.head.entries (next_entry t bytes) o.shape.work twelve)
        (old_fits o bytes few slot e room twelve) (others_fit o bytes few slot e room twelve) (after_fits o bytes few slot e room twelve _ (omega arith))) [
          | inr b ↦ broken_end does meaning own source _ _ _ (take n rs) (take n rs) b (λ place w. old_safe o.limits (meaning u) place (take n rs) o.rest.counts w)
          | inl a ↦ reached_end does meaning own source _ _ _ _ a (λ standing goes. (
            subst (λ x. Open base (meaning u) (noted_memory t slot bytes x) (rs ++ bytes ∷ []) n) (sym (add-one t.head.entries))
                (open_noted o bytes few slot e room twelve (standing_wider (λ b x fit. fit_noted (entry_for rs bytes) o.rest.counts.order fit) (λ b x fit. fit) standing)),
            goes,
          ))
        ]

    by_slot : (p : Option ℕ) → next_slot t ≡ p → ((slot : ℕ) → p ≡ Some slot → t.head.entries < 31 * t.head.log_blocks) → length bytes ≡ 12
        → Trace does meaning own source true s (cond (is_some p && eqb (t.head.entries % 31) 30) (writes (log_block (frame base t) t.head.entries) (inserted t p bytes).work ∷ []) []) r u
        → After p
    by_slot None e room twelve h =
        no_call None
        (subst (λ x. Open base (meaning s) (passed_memory t x) (rs ++ bytes ∷ []) n) (sym (add-zero t.head.entries)) (open_passed o bytes few e)) h
    by_slot (Some slot) e room twelve h = noted_by slot e (room slot refl) twelve _ refl h

  -- AN INSERT into an open sampler, of a record's twelve bytes
  pub insert_law : {base : ℕ} {t : Memory} {rs : List (List ℕ)} {n : ℕ} (s u : State) (r : Answer) (bytes : List ℕ) → Open base (meaning s) t rs n
      → insert_test t ≡ Ok tt → length bytes ≡ 12 → Trace does meaning own source true s (insert_calls t bytes) r u
      → AfterInsert base source (meaning s) (meaning u) t bytes rs n r
  insert_law {t = t} s u r bytes o test twelve h =
      let p = tests_passed t test in by_slot s u r bytes o p.0 (next_slot t) refl p.1 twelve h
