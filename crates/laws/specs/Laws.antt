-- THE LAW OF A SAMPLER, over every run of its calls. Assumes nothing.
use Rattle.std.specs.Prelude.{◌≡◌, ℕ, ◌+◌, ◌-◌, ◌*◌, ◌^◌, ◌<◌, ◌≤◌, true, false, ◌⊎◌, List, [], ◌∷◌, length, Some, Ok, Err, Option, ⊤}
use Rattle.faults.specs.declared.faults.Fault.{Fault}
use Rattle.faults.specs.declared.faults.Reason.TheVariants.{NoSuchSlot, Off, LogFull, CountAtLimit, EmptySlot}
use Rattle.faults.specs.Refusals.{fault}
use Rattle.records.specs.Reading.{shown_as}
use Rattle.sampling.specs.Draws.{slot_of}
use Rattle.sampling.specs.Samples.{sample_at}
use Rattle.sampling.specs.Answers.{refusal, slot_answer}
use Rattle.stores.specs.Meanings.{Sound, Steadily}
use Rattle.stores.specs.Outcomes as outcomes
use Rattle.layouts.specs.Heads.{Fields}
use Rattle.cards.specs.Memories.{Memory}
use Rattle.samples.specs.Memories.{new_head}
use Rattle.samplers.specs.Views.{View}
use Rattle.samplers.specs.Calls.{format_test, Formats, sampler_slot_answer}
use Rattle.ledgers.specs.Candidates.{candidates}
use Rattle.ledgers.specs.Ledgers.{Ledger, fed}
use Rattle.ledgers.specs.declared.calls.Call.{Call}
use Rattle.ledgers.specs.declared.calls.Call.TheVariants.{Mount, Wake, Insert, Commit, Refresh, Slot, Close}
use Rattle.ledgers.specs.declared.calls.Answer.{Answer}
use Rattle.ledgers.specs.declared.calls.Answer.TheVariants.{Mounted, Inserted, Committed, Refreshed, Found, Refused}
use Rattle.laws.specs.Setups.{Setup, meant}
use Rattle.laws.specs.Stages.{view, Went}
use Rattle.laws.specs.declared.stages.Stage.{Stage}
use Rattle.laws.specs.declared.stages.Stage.TheVariants.{Sleeping}
use Rattle.laws.specs.Pasts.{Past, just_formatted, past}

-- what a refusal says, where the answer is one
abbrev pub OnRefused : {K : Type 0} → Answer K → (Fault → Type 0) → Type 0
OnRefused (Refused e) P = P e
OnRefused a P = ⊤

-- there is no such slot
abbrev pub NoSlot : Fields → ℕ → Fault → Type 0
NoSlot h i e = (e ≡ refusal NoSuchSlot i) × (h.size ≤ i)

module _ {K : Type 0} where
  -- PART 1: an accepted mount answers the settled count that the ledger had before it or, if it had one, its waiting count
  abbrev pub CountSurvives : Ledger K → Call K → Answer K → Type 0
  CountSurvives b Mount (Mounted n) = (n ≡ b.settled) ⊎ (b.waiting ≡ Some n)
  CountSurvives b c a = ⊤

  -- PART 2: accepted inserts, commits and slot calls answer as the ledger says; they and refreshes are accepted only while it
  -- is open, and a mounted count is of records that were counted
  abbrev pub AsLedger : Fields → Ledger K → Call K → Answer K → Type 0
  AsLedger h b Mount (Mounted n) = n ≤ length b.counted
  AsLedger h b (Insert k) (Inserted slot) = (b.is_open ≡ true) × (slot ≡ slot_of h.seed h.size (length b.counted + 1))
  AsLedger h b Commit (Committed n) = (b.is_open ≡ true) × (n ≡ length b.counted)
  AsLedger h b Refresh (Refreshed blocks) = b.is_open ≡ true
  AsLedger h b (Slot i) (Found k) = (b.is_open ≡ true) × (sample_at h.seed h.size b.counted i ≡ Some k)
  AsLedger h b c a = ⊤

  -- PART 3: the count is at its limit
  abbrev pub AtLimit : Ledger K → Fault → Type 0
  AtLimit b e = (e ≡ refusal CountAtLimit (length b.counted)) × (length b.counted ≡ 4000000000)

  -- the log is full: its entries are 31 times the log blocks, and at least that many of the records counted since the last
  -- accepted format or refresh are candidates
  pub record Full (h : Fields) (b : Ledger K) (entries : ℕ) : Type 0 where
    pub entries_are : entries ≡ 31 * h.log_blocks
    pub enough : 31 * h.log_blocks ≤ candidates h.seed h.size b.since (length b.counted - b.since)

  -- the record is a candidate and the log, in memory, is full
  pub record NoRoom (h : Fields) (b : Ledger K) (sample : Option Memory) (e : Fault) : Type 0 where
    pub memory : Memory
    pub memory_is : sample ≡ Some memory
    pub is : e ≡ refusal LogFull memory.head.entries
    pub slot : ℕ
    pub candidate : slot_of h.seed h.size (length b.counted + 1) ≡ Some slot
    pub full : Full h b memory.head.entries

  -- no record has filled the slot
  abbrev pub NotFilled : Fields → Ledger K → ℕ → Fault → Type 0
  NotFilled h b i e = (e ≡ refusal EmptySlot i) × (i < h.size) × (length b.counted ≤ i)

  -- why a call of a sampler that is not dark may be refused while the supply lasts: an insert at the limit or with a full log,
  -- a slot call of a slot that is none or not filled, and no commit and no refresh
  abbrev pub WhileLasting : Fields → Ledger K → Option Memory → Call K → Fault → Type 0
  WhileLasting h b sample (Insert k) e = AtLimit b e ⊎ NoRoom h b sample e
  WhileLasting h b sample (Slot i) e = NoSlot h i e ⊎ NotFilled h b i e
  WhileLasting h b sample c e = ⊥

  -- the sampler is dark: the ledger is shut
  abbrev pub IsDark : Ledger K → Fault → Type 0
  IsDark b e = (e ≡ refusal Off 0) × (b.is_open ≡ false)

  -- why a call may ever be refused, where F says that the supply failed in it; a wake and a close never are
  abbrev pub Ever : Fields → Ledger K → Option Memory → (Fault → Type 0) → Call K → Fault → Type 0
  Ever h b sample F Mount e = F e
  Ever h b sample F Wake e = ⊥
  Ever h b sample F Close e = ⊥
  Ever h b sample F c e = WhileLasting h b sample c e ⊎ (F e ⊎ IsDark b e)

  -- an accepted refresh empties the log
  abbrev pub Empties : Answer K → Option Memory → Type 0
  Empties (Refreshed blocks) sample = (t : Memory) × (sample ≡ Some t) × (t.head.entries ≡ 0)
  Empties a sample = ⊤

module _ {S State K : Type 0} (x : Setup S State K) where
  -- the supply, which did not last, failed in a call, and left the store off
  abbrev pub SupplyFailed : View S → View S → Fault → Type 0
  SupplyFailed v w e = (e ≡ fault Off x.source 0) × ((meant x v.store).lasts ≡ false) × ((meant x w.store).on ≡ false)

  -- the sample is, slot by slot, Algorithm R's of these records
  abbrev pub Sampled : Fields → List K → View S → Type 0
  Sampled h rs v = (i : ℕ) → sampler_slot_answer v.sample i ≡ shown_as x.bytes (slot_answer h.seed h.size rs i)

  -- PART 2 OF THE LAW
  pub record Samples (h : Fields) (b : Ledger K) (c : Call K) (a : Answer K) (w : View S) : Type 0 where
    -- after every call that leaves the ledger open the sample is Algorithm R's of exactly the records counted
    pub sampled : (fed b c a).is_open ≡ true → Sampled h (fed b c a).counted w
    pub answers : AsLedger h b c a

  -- PART 3 OF THE LAW
  pub record Refuses (h : Fields) (p : Past K) (v : View S) (c : Call K) (a : Answer K) (w : View S) : Type 0 where
    -- a sampler woken on a lasting supply, straight after an accepted format or mount, refuses only so
    pub lasting : p.sure ≡ true → OnRefused a (WhileLasting h p.ledger v.sample c)
    -- an accepted refresh empties the log
    pub empties : Empties a w.sample
    -- a mount is refused only if the supply fails in it; any other call, whatever the supply, only so, if the supply fails in
    -- it, or if the sampler is dark
    pub always : OnRefused a (Ever h p.ledger v.sample (SupplyFailed v w) c)

  -- THE LAW OF ONE CALL, of a sampler whose format wrote the head h: it was answered a, and led from t to u
  pub record LawfulCall (h : Fields) (p : Past K) (t : Stage S K) (c : Call K) (a : Answer K) (u : Stage S K) : Type 0 where
    pub went : Went x t c a u
    pub survives : CountSurvives p.ledger c a
    pub samples : Samples h p.ledger c a (view u)
    pub refuses : Refuses h p (view t) c a (view u)

  -- what is known of a sampler that was at t, after one call more
  abbrev pub onward : Past K → Stage S K → Call K → Answer K → Past K
  onward p t c a = past (meant x (view t).store).lasts p c a

  -- THE LAW OF A RUN: its calls went one after another, each on where the one before ended, and each was lawful
  unfoldable pub LawfulRun : Fields → Past K → Stage S K → List (Call K) → List (Answer K) → Stage S K → Type 0
  LawfulRun h p t [] [] u = u ≡ t
  LawfulRun h p t (c ∷ calls) (a ∷ answers) u = (v : Stage S K) × LawfulCall h p t c a v × LawfulRun h (onward p t c a) v calls answers u
  LawfulRun h p t calls answers u = ⊥

  -- a format with these numbers of a sampler over a sound store was answered so, and left w
  pub record FormatWent (size log_blocks seed : ℕ) (v w : View S) (r : outcomes.Answer) : Type 0 where
    pub seeded : seed < 2 ^ 64
    pub sound : Sound (meant x v.store)
    pub outcome : Formats x.state x.meaning x.does x.source x.code size log_blocks seed v w r
    pub steadily : Steadily x.steady (meant x v.store) (meant x w.store)

  -- PART 3, OF THE FORMAT: one that passes its tests is refused only if the supply fails in it
  abbrev pub FormatLaw : Type 0
  FormatLaw =
      (size log_blocks seed : ℕ) (v w : View S) (e : Fault) → FormatWent size log_blocks seed v w (Err e)
      → format_test (meant x v.store).size size log_blocks ≡ Ok tt → SupplyFailed v w e

  -- THE LAW OF THIS RUN, from the sampler f to t: if an accepted format left f, its sample is that of no records, and then
  -- the run is lawful
  abbrev pub Law : View S → List (Call K) → List (Answer K) → Stage S K → Type 0
  Law f calls answers t =
      (size log_blocks seed : ℕ) (v : View S) → FormatWent size log_blocks seed v f (Ok tt)
      → Sampled (new_head x.code size log_blocks seed) [] f × LawfulRun (new_head x.code size log_blocks seed) just_formatted (Sleeping f) calls answers t
