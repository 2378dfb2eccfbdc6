-- A sampler over a store that says one thing at most to each call is answered in one way, and leaves one thing. Assumes nothing.
use Rattle.std.proofs.Common.{◌≡◌, ℕ, Bool, List, [], ◌∷◌, Some, None, Ok, Err, Option, Result, refl, sym, ◌∙◌, ap, subst}
use Rattle.faults.specs.declared.faults.Fault.{Fault}
use Rattle.faults.specs.declared.faults.Layer.{Layer}
use Rattle.records.specs.Reading.{shown_as}
use Rattle.stores.specs.Calls.{Response, Determined}
use Rattle.stores.specs.Calls as below
use Rattle.stores.specs.Meanings.{Meaning}
use Rattle.stores.specs.Outcomes as outcomes
use Rattle.stores.proofs.Determinacy.{Blind, in_order_one}
use Rattle.layouts.specs.Heads.{Fields}
use Rattle.cards.specs.Memories.{Memory}
use Rattle.mounts.specs.Mounts.{MountOutcome, MountCalls}
use Rattle.mounts.proofs.Determinacy.{mount_one}
use Rattle.traces.specs.Traces.{Made}
use Rattle.workings.specs.Worked.{Work, Worked, Tested, Ends, insert_work, commit_work, refresh_work}
use Rattle.formats.specs.Formats.{format_calls}
use Rattle.samples.specs.Memories.{new_head}
use Rattle.samplers.specs.Views.{View}
use Rattle.samplers.specs.Calls.{Leaves, FormatsBy, format_test, sampler_slot_answer}
use Rattle.ledgers.specs.declared.calls.Call.{Call}
use Rattle.ledgers.specs.declared.calls.Call.TheVariants.{Mount, Wake, Insert, Commit, Refresh, Slot, Close}
use Rattle.ledgers.specs.declared.calls.Answer.{Answer}
use Rattle.ledgers.specs.declared.calls.Answer.TheVariants.{Mounted, Inserted, Committed, Refreshed, Found}
use Rattle.laws.specs.Setups.{Setup, meant}
use Rattle.laws.specs.Stages.{view, answered, MountWent, WorkWent, Left, Went}
use Rattle.laws.specs.declared.stages.Stage.{Stage}
use Rattle.laws.specs.declared.stages.Stage.TheVariants.{Sleeping, Waking}
use Rattle.laws.specs.Pasts.{Past}
use Rattle.laws.specs.Laws.{onward, LawfulRun, FormatWent}

-- what it takes for one answer at most: a store that says one thing at most to each call, and to reads of one block whatever
-- their buffers held; and records that differ in their bytes
pub record Definite {S State K : Type 0} (x : Setup S State K) : Type 0 where
  pub determined : Determined x.does
  pub blind : Blind x.does
  pub own_bytes : (k l : K) → x.bytes k ≡ x.bytes l → k ≡ l

-- two samplers of which the same is seen
pub record Alike {S State K : Type 0} (x : Setup S State K) (v w : View S) : Type 0 where
  pub states : x.state v.store ≡ x.state w.store
  pub samples : v.sample ≡ w.sample

-- what a mount answers, and what it leaves in memory
abbrev count_of : Result Memory Fault → Result ℕ Fault
count_of (Ok t) = Ok t.head.count
count_of (Err e) = Err e

abbrev kept_of : Result Memory Fault → Option Memory
kept_of (Ok t) = Some t
kept_of (Err e) = None

leaves_both : (P Q : Result Memory Fault → Type 0) (r : Result ℕ Fault) (a : Option Memory) → Leaves P r a → Leaves Q r a
    → (q : Result Memory Fault) × P q × Q q × (r ≡ count_of q) × (a ≡ kept_of q)
leaves_both P Q (Ok n) (Some t) p q = (Ok t, p.0, q.0, ap (λ (m : ℕ). Ok m) p.1, refl)
leaves_both P Q (Ok n) None p q = absurd p
leaves_both P Q (Err e) None p q = (Err e, p, q, refl, refl)
leaves_both P Q (Err e) (Some t) p q = absurd p

-- an insert, a commit or a refresh
module _ {State : Type 0} (does : State → below.Call → Response State → Type 0) (determined : Determined does) (meaning : State → Meaning) (own source : Layer) (steady : Bool) where
  ends_one : {A : Type 0} (w : Work A) (q : outcomes.Answer) (r n : Result A Fault) (a b : Option Memory) → Ends w q r a → Ends w q n b → (r ≡ n) × (a ≡ b)
  ends_one w (Ok done) r n a b h k = (h.0 ∙ sym k.0, h.1 ∙ sym k.1)
  ends_one w (Err e) r n a b h k = (h.0 ∙ sym k.0, h.1 ∙ sym k.1)

  tested_one : {A : Type 0} (before : Memory) (w : Work A) (test : outcomes.Answer) (s t u : State) (r n : Result A Fault) (a b : Option Memory)
      → Tested does meaning own source steady before w test s r t a → Tested does meaning own source steady before w test s n u b → (r ≡ n) × (t ≡ u) × (a ≡ b)
  tested_one before w (Ok done) s t u r n a b (q, made, h) (p, others, k) =
      let one = in_order_one (Made does meaning own source steady) (λ z c y v f g. determined z c y v f.gives g.gives) s w.calls q p t u made others in
      let ends = ends_one w q r n a b h (rw one.0 k) in
      (ends.0, one.1, ends.1)
  tested_one before w (Err e) s t u r n a b h k = (h.0 ∙ sym k.0, h.1 ∙ sym k.1, h.2 ∙ sym k.2)

  worked_one : {A : Type 0} (work : Memory → Work A) (s t u : State) (before : Option Memory) (r n : Result A Fault) (a b : Option Memory)
      → Worked does meaning own source steady work s before r t a → Worked does meaning own source steady work s before n u b → (r ≡ n) × (t ≡ u) × (a ≡ b)
  worked_one work s t u None r n a b h k = (h.0 ∙ sym k.0, h.1 ∙ sym k.1, h.2 ∙ sym k.2)
  worked_one work s t u (Some m) r n a b h k = tested_one m (work m) (work m).test s t u r n a b h k

module _ {S State K : Type 0} (x : Setup S State K) (d : Definite x) where
  -- a slot call shows the record's bytes
  slot_one : (r n : Result K Fault) → shown_as x.bytes r ≡ shown_as x.bytes n → r ≡ n
  slot_one (Ok k) (Ok l) e = ap (λ (z : K). Ok z) (d.own_bytes k l cc)
  slot_one (Ok k) (Err f) e = absurd (cc e)
  slot_one (Err f) (Ok k) e = absurd (cc e)
  slot_one (Err f) (Err g) e = let same : f ≡ g = cc in ap (λ (z : Fault). Err z) same

  -- what is said of a mount of v that leaves w
  abbrev Mounts : View S → View S → Result Memory Fault → Type 0
  Mounts v w = MountOutcome x.own x.source x.code x.wrong (meant x v.store) (meant x w.store)

  abbrev MountReads : View S → View S → Result Memory Fault → Type 0
  MountReads v w q = MountCalls x.own x.code x.wrong x.does x.meaning (x.state v.store) q (x.state w.store)

  mounted_one : (v w a b : View S) (r n : Result ℕ Fault) → Alike x v w → MountWent x v r a → MountWent x w n b → (r ≡ n) × Alike x a b
  mounted_one v w a b r n s h k =
      let one = leaves_both (Mounts v a) (MountReads v a) r a.sample h.outcome h.calls in
      let two = leaves_both (Mounts w b) (MountReads w b) n b.sample k.outcome k.calls in
      let same =
      mount_one x.own x.code x.wrong x.does x.meaning d.determined d.blind x.source (x.state v.store) one.0 two.0 (x.state a.store) (x.state b.store)
      one.2
      (rw s.states two.2)
      one.1
      (rw s.states two.1)
      (λ t e. h.arrays t (one.4 ∙ ap kept_of e))
      (λ t e. k.arrays t (two.4 ∙ ap kept_of e)) in
      (one.3 ∙ ap count_of same.0 ∙ sym two.3, record { states = same.1; samples = one.4 ∙ ap kept_of same.0 ∙ sym two.4 })

  worked_alike : {A : Type 0} (work : Memory → Work A) (v w a b : View S) (r n : Result A Fault) → Alike x v w → WorkWent x work v r a → WorkWent x work w n b → (r ≡ n) × Alike x a b
  worked_alike work v w a b r n s h k =
      let one = worked_one x.does d.determined x.meaning x.own x.source x.steady work (x.state v.store) (x.state a.store) (x.state b.store) v.sample r n a.sample b.sample h (rw (s.states, s.samples) k) in
      (one.0, record { states = one.1; samples = one.2 })

  -- both asleep or both awake, and the same is seen of them
  abbrev Alongside : Stage S K → Stage S K → Type 0
  Alongside (Sleeping v) (Sleeping w) = Alike x v w
  Alongside (Waking v) (Waking w) = Alike x v w
  Alongside t u = ⊥

  -- answers and stages by other names
  abbrev OneEnd : Answer K → Answer K → Stage S K → Stage S K → Type 0
  OneEnd a b t u = (a ≡ b) × Alongside t u

  named : (a b c : Answer K) (t u y z : Stage S K) → a ≡ c → b ≡ c → t ≡ y → u ≡ z → Alongside y z → OneEnd a b t u
  named a b c t u y z e f g h s = (e ∙ sym f, subst (λ (p : Stage S K). Alongside t p) (sym h) (subst (λ (p : Stage S K). Alongside p z) (sym g) s))

  -- an insert, a commit or a refresh of a waking sampler
  works_one : {A : Type 0} (accepted : A → Answer K) (work : Memory → Work A) (v w : View S) (a b : Answer K) (y z : Stage S K)
      → Alike x v w → Left x accepted Waking (WorkWent x work v) a y → Left x accepted Waking (WorkWent x work w) b z → OneEnd a b y z
  works_one accepted work v w a b y z s (r, p, e, f, h) (n, q, g, i, k) =
      let one = worked_alike work v w p q r n s h k in
      named a b _ y z (Waking p) (Waking q) e (g ∙ ap (answered accepted) (sym one.0)) f i one.1

  -- EVERY CALL is answered in one way, and leaves one thing
  call_one : (t u : Stage S K) (c : Call K) (a b : Answer K) (y z : Stage S K) → Alongside t u → Went x t c a y → Went x u c b z → OneEnd a b y z
  call_one (Sleeping v) (Sleeping w) Mount a b y z s (r, p, e, f, h) (n, q, g, i, k) =
      let one = mounted_one v w p q r n s h k in
      named a b _ y z (Sleeping p) (Sleeping q) e (g ∙ ap (answered Mounted) (sym one.0)) f i one.1
  call_one (Sleeping v) (Sleeping w) Wake a b y z s (e, f) (g, i) = named a b _ y z _ _ e g f i s
  call_one (Sleeping v) (Sleeping w) (Insert l) a b y z s (e, f) (g, i) = named a b _ y z _ _ e g f i s
  call_one (Sleeping v) (Sleeping w) Commit a b y z s (e, f) (g, i) = named a b _ y z _ _ e g f i s
  call_one (Sleeping v) (Sleeping w) Refresh a b y z s (e, f) (g, i) = named a b _ y z _ _ e g f i s
  call_one (Sleeping v) (Sleeping w) (Slot l) a b y z s (e, f) (g, i) = named a b _ y z _ _ e g f i s
  call_one (Sleeping v) (Sleeping w) Close a b y z s (e, f) (g, i) = named a b _ y z _ _ e g f i s
  call_one (Waking v) (Waking w) Mount a b y z s (e, f) (g, i) = named a b _ y z _ _ e g f i s
  call_one (Waking v) (Waking w) Wake a b y z s (e, f) (g, i) = named a b _ y z _ _ e g f i s
  call_one (Waking v) (Waking w) (Insert l) a b y z s h k = works_one Inserted (insert_work (x.bytes l)) v w a b y z s h k
  call_one (Waking v) (Waking w) Commit a b y z s h k = works_one Committed commit_work v w a b y z s h k
  call_one (Waking v) (Waking w) Refresh a b y z s h k = works_one Refreshed refresh_work v w a b y z s h k
  call_one (Waking v) (Waking w) (Slot l) a b y z s (r, p, e, f, h) (n, q, g, i, k) =
      let one = slot_one r n (h.0 ∙ ap (λ (o : Option Memory). sampler_slot_answer o l) s.samples ∙ sym k.0) in
      let still = λ (o : View S). Waking o in
      named a b _ y z (Waking v) (Waking w) e (g ∙ ap (answered Found) (sym one)) (f ∙ ap still h.1) (i ∙ ap still k.1) s
  call_one (Waking v) (Waking w) Close a b y z s (e, f) (g, i) = named a b _ y z _ _ e g f i (record { states = s.states; samples = refl })
  call_one (Sleeping v) (Waking w) c a b y z s h k = absurd s
  call_one (Waking v) (Sleeping w) c a b y z s h k = absurd s

  seen_one : (t u : Stage S K) → Alongside t u → Alike x (view t) (view u)
  seen_one (Sleeping v) (Sleeping w) s = s
  seen_one (Waking v) (Waking w) s = s
  seen_one (Sleeping v) (Waking w) s = absurd s
  seen_one (Waking v) (Sleeping w) s = absurd s

  stages_one : (h : Fields) (p q : Past K) (t u : Stage S K) (calls : List (Call K)) (a b : List (Answer K)) (y z : Stage S K)
      → Alongside t u → LawfulRun x h p t calls a y → LawfulRun x h q u calls b z → (a ≡ b) × Alongside y z
  unfolding LawfulRun
  stages_one h p q t u [] [] [] y z s e f = (refl, subst (λ (i : Stage S K). Alongside y i) (sym f) (subst (λ (i : Stage S K). Alongside i u) (sym e) s))
  stages_one h p q t u [] (a ∷ more) b y z s e f = absurd e
  stages_one h p q t u [] [] (b ∷ more) y z s e f = absurd f
  stages_one h p q t u (c ∷ calls) [] b y z s e f = absurd e
  stages_one h p q t u (c ∷ calls) (a ∷ more) [] y z s e f = absurd f
  stages_one h p q t u (c ∷ calls) (a ∷ more) (b ∷ others) y z s (v, call, e) (w, other, f) =
      let one = call_one t u c a b v w s call.went other.went in
      let rest = stages_one h (onward x p t c a) (onward x q u c b) v w calls more others y z one.1 e f in
      (rw (one.0, rest.0) refl, rest.1)

  -- THE CALLS OF A RUN are answered in one way, and leave one thing
  pub run_one : (h : Fields) (p q : Past K) (v w : View S) (calls : List (Call K)) (a b : List (Answer K)) (t u : Stage S K)
      → Alike x v w → LawfulRun x h p (Sleeping v) calls a t → LawfulRun x h q (Sleeping w) calls b u → (a ≡ b) × (x.state (view t).store ≡ x.state (view u).store)
  run_one h p q v w calls a b t u s e f = let one = stages_one h p q (Sleeping v) (Sleeping w) calls a b t u s e f in (one.0, (seen_one t u one.1).states)

  formats_one : (size log_blocks seed : ℕ) (v w v2 w2 : View S) (r n test : outcomes.Answer) → x.state v.store ≡ x.state w.store
      → FormatsBy x.state x.meaning x.does x.source x.code size log_blocks seed v v2 r test → FormatsBy x.state x.meaning x.does x.source x.code size log_blocks seed w w2 n test
      → (r ≡ n) × Alike x v2 w2
  formats_one size log_blocks seed v w v2 w2 r n (Ok done) s a b =
      let one = in_order_one x.does d.determined (x.state v.store) (format_calls (new_head x.code size log_blocks seed)) r n (x.state v2.store) (x.state w2.store) a.calls (rw s b.calls) in
      (one.0, record { states = one.1; samples = a.sample ∙ rw one.0 (sym b.sample) })
  formats_one size log_blocks seed v w v2 w2 r n (Err e) s a b = (a.answer ∙ sym b.answer, record { states = a.store ∙ s ∙ sym b.store; samples = a.sample ∙ sym b.sample })

  -- A FORMAT is answered in one way, and leaves one thing
  pub format_one : (size log_blocks seed : ℕ) (v w v2 w2 : View S) (r n : outcomes.Answer)
      → x.state v.store ≡ x.state w.store → FormatWent x size log_blocks seed v v2 r → FormatWent x size log_blocks seed w w2 n → (r ≡ n) × Alike x v2 w2
  format_one size log_blocks seed v w v2 w2 r n s a b =
      let same : meant x v.store ≡ meant x w.store = ap x.meaning s in
      formats_one size log_blocks seed v w v2 w2 r n (format_test (meant x v.store).size size log_blocks) s a.outcome (rw same b.outcome)
