-- What the calls keep of the ledger. Assumes nothing.
use Rattle.std.proofs.Common.{◌≡◌, ℕ, ◌<◌, ◌≤◌, min, true, false, List, [], length, map, take, slice_index_or, Some, None, Option, unwrap_or, sym, refl, ap, ◌∙◌, subst, ⊎_elim, arith}
use Rattle.std.proofs.lemmas.Bool.{cases_lt, lt-ltb, le-ltb, true≢false}
use Rattle.std.proofs.lemmas.List.{length-map}
use Rattle.std.proofs.lemmas.Option.{get_or_from_slice_get}
use Rattle.faults.specs.declared.faults.Fault.{Fault}
use Rattle.sampling.specs.Answers.{slot_answer}
use Rattle.sampling.proofs.SampleLaws.{sample_filled, sample_unfilled}
use Rattle.sampling.proofs.ViewLaws.{slot_map}
use Rattle.stores.specs.Meanings.{Meaning, Sound}
use Rattle.layouts.specs.Heads.{Fields}
use Rattle.cards.specs.Memories.{Memory}
use Rattle.samples.specs.Memories.{slot_read}
use Rattle.samplers.specs.Views.{View}
use Rattle.samplers.specs.Calls.{sampler_slot_answer}
use Rattle.recovery.proofs.Frames.{Frame, frame_blocks}
use Rattle.recovery.proofs.Tellings.{sampled}
use Rattle.recovery.proofs.Recoveries.{Safe, Lost}
use Rattle.recovery.proofs.Opens.{Open}
use Rattle.ledgers.specs.Ledgers.{Ledger, fed}
use Rattle.ledgers.specs.declared.calls.Call.{Call}
use Rattle.ledgers.specs.declared.calls.Answer.{Answer}
use Rattle.laws.specs.Setups.{Setup, meant}
use Rattle.laws.specs.Stages.{view, Went}
use Rattle.laws.specs.declared.stages.Stage.{Stage}
use Rattle.laws.specs.Pasts.{Past}
use Rattle.laws.specs.Laws.{CountSurvives, AsLedger, Refuses, Sampled, LawfulCall, onward}
use Rattle.laws.proofs.Given.{Given}

-- the frame of a head, from one refresh to the next
abbrev pub framed : Fields → ℕ → Frame
framed h base = record { kind = h.kind; seed = h.seed; size = h.size; log_blocks = h.log_blocks; base = base }

-- the waiting count, or else the settled one
abbrev pub pending : {K : Type 0} → Ledger K → ℕ
pending b = unwrap_or b.waiting b.settled

-- two heads of one frame
pub record SameFrame (h k : Fields) : Type 0 where
  pub kind : h.kind ≡ k.kind
  pub seed : h.seed ≡ k.seed
  pub size : h.size ≡ k.size
  pub log_blocks : h.log_blocks ≡ k.log_blocks

pub framed_same : {h k : Fields} → SameFrame h k → (base : ℕ) → framed h base ≡ framed k base
framed_same {h} {k} s base = rw (s.kind, s.seed, s.size, s.log_blocks) refl

-- what a row of an open sampler answers
read_filled : {base n : ℕ} {m : Meaning} {t : Memory} {rs : List (List ℕ)} (i : ℕ) → Open base m t rs n → i < t.head.size → i < length rs
    → slot_read t i ≡ slot_answer t.head.seed t.head.size rs i
unfolding sampled
read_filled {t = t} {rs} i o a c =
    let y = sample_filled t.head.seed t.head.size rs i (omega arith) in
    let n = o.count in
    let l = o.limits.most in
    let z = o.held i (omega arith) in
    let row : slice_index_or t.rows i [] ≡ y.0 = get_or_from_slice_get t.rows i y.0 [] (z ∙ rw y.1 refl) in
    rw (lt-ltb i t.head.size a, lt-ltb i (min t.head.count t.head.size) (omega arith), y.1, row) refl

read_unfilled : {base n : ℕ} {m : Meaning} {t : Memory} {rs : List (List ℕ)} (i : ℕ) → Open base m t rs n → i < t.head.size → length rs ≤ i
    → slot_read t i ≡ slot_answer t.head.seed t.head.size rs i
read_unfilled {t = t} {rs} i o a c =
    let y = sample_unfilled t.head.seed t.head.size rs i (omega arith) in
    let n = o.count in
    rw (lt-ltb i t.head.size a, le-ltb i (min t.head.count t.head.size) (omega arith), y) refl

pub read_open : {base n : ℕ} {m : Meaning} {t : Memory} {rs : List (List ℕ)} (i : ℕ) → Open base m t rs n
    → slot_read t i ≡ slot_answer t.head.seed t.head.size rs i
read_open {t = t} {rs} i o =
    ⊎_elim
    (λ (a : i < t.head.size). ⊎_elim (read_filled i o a) (read_unfilled i o a) (cases_lt i (length rs)))
    (λ (a : t.head.size ≤ i). rw (le-ltb i t.head.size a) refl)
    (cases_lt i t.head.size)

module _ {S State K : Type 0} (x : Setup S State K) (h : Fields) where
  -- the bytes of the records counted
  abbrev pub of : Ledger K → List (List ℕ)
  of b = map x.bytes b.counted

  -- a sampler with an open ledger has this in memory
  pub record Opened (b : Ledger K) (v : View S) : Type 0 where
    pub memory : Memory
    pub memory_is : v.sample ≡ Some memory
    pub same : SameFrame memory.head h
    pub opens : Open b.since (meant x v.store) memory (of b) b.settled

  -- WHAT HOLDS between the ledger and the sampler after every call
  pub record Holds (b : Ledger K) (v : View S) : Type 0 where
    pub sound : Sound (meant x v.store)
    pub room : frame_blocks (framed h b.since) ≤ (meant x v.store).size
    pub opened : b.is_open ≡ true → Opened b v
    pub dark : b.is_open ≡ false → v.sample ≡ None
    pub none : b.is_open ≡ true → b.waiting ≡ None
    pub early : b.settled ≤ length b.counted
    pub later : pending b ≤ length b.counted
    pub safe : Safe (framed h b.since) (meant x v.store) (take b.settled (of b)) (take (pending b) (of b))

  -- and a sampler that was woken on a lasting supply, straight after an accepted format or mount, is open on one
  pub record Kept (p : Past K) (v : View S) : Type 0 where
    pub holds : Holds p.ledger v
    pub fresh : p.fresh ≡ true → p.ledger.is_open ≡ true
    pub sure : p.sure ≡ true → (p.ledger.is_open ≡ true) × ((meant x v.store).lasts ≡ true)

  abbrev pub Keeps : Past K → Stage S K → Call K → Answer K → Stage S K → Type 0
  Keeps p t c a u = LawfulCall x h p t c a u × Kept (onward x p t c a) (view u)

  -- the sample of an open ledger
  pub sample_of : (b : Ledger K) (v : View S) → Opened b v → Sampled x h b.counted v
  sample_of b v o i =
      let t = o.memory in
      let whose : slot_answer t.head.seed t.head.size (of b) i ≡ slot_answer h.seed h.size (of b) i = rw (o.same.seed, o.same.size) refl in
      ap (λ (s : Option Memory). sampler_slot_answer s i) o.memory_is ∙ read_open i o.opens ∙ whose ∙ slot_map x.bytes h.seed h.size b.counted i

  pub holds_sample : (b : Ledger K) (v : View S) → Holds b v → b.is_open ≡ true → Sampled x h b.counted v
  holds_sample b v k o = sample_of b v (k.opened o)

  -- an open sampler is kept by its ledger
  pub opens : Given x → (b : Ledger K) (v : View S) → Sound (meant x v.store) → b.is_open ≡ true → b.waiting ≡ None → Opened b v → Holds b v
  opens g b v so op nw o =
      let long = length-map b.counted x.bytes in
      let fr = framed_same o.same b.since in
      let y = o.opens.rest.counts.early in
      let early : b.settled ≤ length b.counted = omega arith in
      record {
        sound = so;
        room = subst (λ (f : Frame). frame_blocks f ≤ (meant x v.store).size) fr o.opens.rest.standing.room;
        opened = λ z. o;
        dark = λ z. absurd (true≢false (sym op ∙ z));
        none = λ z. nw;
        early = early;
        later = rw nw early;
        safe = rw nw (subst (λ (f : Frame). Safe f (meant x v.store) (take b.settled (of b)) (take b.settled (of b))) fr (g.safe b.since b.settled (meant x v.store) o.memory (of b) o.opens));
      }

  -- a sampler that a cut left is kept by its ledger, which is shut
  pub shuts : (b : Ledger K) (v w : View S) (e : Fault) → Sound (meant x v.store) → frame_blocks (framed h b.since) ≤ (meant x v.store).size
      → b.settled ≤ length b.counted → pending b ≤ length b.counted → b.is_open ≡ false → w.sample ≡ None
      → Lost (framed h b.since) x.source (meant x v.store) (meant x w.store) (take b.settled (of b)) (take (pending b) (of b)) e → Holds b w
  shuts b v w e so room early later sh da l =
      record {
        sound = l.sound so;
        room = rw l.size room;
        opened = λ z. absurd (true≢false (sym z ∙ sh));
        dark = λ z. da;
        none = λ z. absurd (true≢false (sym z ∙ sh));
        early = early;
        later = later;
        safe = l.safe;
      }

  -- a call that changes nothing keeps it
  pub still : (b : Ledger K) (v w : View S) → Holds b v → x.state w.store ≡ x.state v.store → w.sample ≡ v.sample → Holds b w
  still b v w k e f =
      let q : meant x w.store ≡ meant x v.store = ap x.meaning e in
      record {
        sound = rw q k.sound;
        room = rw q k.room;
        opened = λ z. let o = k.opened z in record { memory = o.memory; memory_is = f ∙ o.memory_is; same = o.same; opens = rw q o.opens };
        dark = λ z. f ∙ k.dark z;
        none = k.none;
        early = k.early;
        later = k.later;
        safe = rw q k.safe;
      }

  -- one call more: its law, and what is kept
  pub keeps : (p : Past K) (t : Stage S K) (c : Call K) (a : Answer K) (u : Stage S K) → Went x t c a u → CountSurvives p.ledger c a → AsLedger h p.ledger c a
      → Refuses x h p (view t) c a (view u) → Kept (onward x p t c a) (view u) → Keeps p t c a u
  keeps p t c a u w s l r k =
      (record { went = w; survives = s; samples = record { sampled = λ o. holds_sample (fed p.ledger c a) (view u) k.holds o; answers = l }; refuses = r }, k)
