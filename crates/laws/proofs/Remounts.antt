-- What a mount makes of a card that recovers: an open sampler, or the supply failed in it. Assumes nothing.
use Rattle.std.proofs.Common.{◌≡◌, ℕ, ◌+◌, ◌/◌, ◌%◌, ◌<◌, ◌≤◌, min, ◌⊎◌, List, length, Some, Ok, Err, Option, is_some, sym, refl, ap, ◌∙◌, subst, inl, inr, ⊎_elim, arith, take_all}
use Rattle.std.specs.List.{slice_get}
use Rattle.std.proofs.lemmas.Option.{slice_get_within}
use Rattle.std.proofs.lemmas.Bool.{cases_lt, lt-ltb, le-ltb}
use Rattle.faults.specs.declared.faults.Fault.{Fault}
use Rattle.faults.specs.declared.faults.Layer.{Layer}
use Rattle.stores.specs.Meanings.{Content, whole, torn, Meaning, Sound, Nothing}
use Rattle.stores.specs.Outcomes.{Restarted, Failed}
use Rattle.layouts.specs.Heads.{Fields}
use Rattle.layouts.specs.Slots.{slot_at}
use Rattle.layouts.specs.Entries.{entry_at}
use Rattle.cards.specs.Cards.{bytes_of, card_slot, entry_block, row_of}
use Rattle.cards.specs.Memories.{Memory, Remembers}
use Rattle.cards.specs.Verdicts.{mount_of}
use Rattle.cards.proofs.Entries.{work_next}
use Rattle.cards.proofs.LawfulCards.{card_law}
use Rattle.mounts.specs.Mounts.{MountOutcome}
use Rattle.recovery.proofs.Frames.{Frame, frame_blocks}
use Rattle.recovery.proofs.Recoveries.{Recovers, whole_card, May, Safe, Lost, Goes}
use Rattle.recovery.proofs.Standings.{Fit, Counting, Just}
use Rattle.recovery.proofs.Tellings.{sampled}
use Rattle.recovery.proofs.Opens.{Open}
use Rattle.laws.proofs.Given.{AllRight, Remounted}
use Rattle.samples.specs.Memories.{Arrays}
use Rattle.laws.proofs.Recovered.{head_is, log_is, slot_is, logged_is, sampled_none, sampled_long, recovers_lawful}

whole_of : (c : Content) → (c ≡ torn → ⊥) → c ≡ whole (bytes_of c)
whole_of (whole bs) h = refl
whole_of torn h = absurd (h refl)

module _ (m n : Meaning) (sound : Sound m) (restarted : Restarted m n) where
  -- what is read after a restart is no torn block
  untorn : (b : ℕ) → b < m.size → n.reads b ≡ torn → ⊥
  untorn b l e = sound b l (subst (λ (c : Content). m.stands b c) e (restarted.reads b l))

  abbrev pub card_read : ℕ → List ℕ
  card_read b = bytes_of (n.reads b)

  pub reads_is : (b : ℕ) → b < m.size → n.reads b ≡ whole (card_read b)
  reads_is b l = whole_of (n.reads b) (untorn b l)

  pub may_stand : May m card_read
  may_stand b l = subst (λ (c : Content). m.stands b c) (reads_is b l) (restarted.reads b l)

  pub restarted_goes : Goes m n
  restarted_goes = record {
    on = restarted.on;
    size = restarted.size;
    lasts = restarted.lasts;
    sound = λ so b l st. let k : b < m.size = subst (λ (s : ℕ). b < s) restarted.size l in untorn b k (sym (restarted.settled.only b torn l st));
  }

module _ (f : Frame) (m n : Meaning) (sound : Sound m) (restarted : Restarted m n) (room : frame_blocks f ≤ m.size) (rs : List (List ℕ))
    (r : Recovers f (card_read m n sound restarted) rs) (wrong : List ℕ → Option ℕ) (all : AllRight wrong rs) where
  abbrev card : ℕ → List ℕ
  card = card_read m n sound restarted

  abbrev is : (b : ℕ) → b < m.size → n.reads b ≡ whole (card b)
  is = reads_is m n sound restarted

  abbrev h : Fields
  h = head_is f card rs r m.size room n.reads is

  fit : (c b : ℕ) (bs : List ℕ) → bs ≡ card b → Fit f (Counting f (length rs) r.entries) (Just (card_slot (whole_card card))) (log_is f card rs r m.size room n.reads is) c b bs
  fit c b bs same = record {
    head = λ z. same ∙ ap card z ∙ r.head;
    row = λ s k z. ap (λ (y : List ℕ). slot_at y (s % 42)) (same ∙ ap card (sym z));
    entry = λ j k z. ap (λ (y : List ℕ). entry_at y (j % 31)) (same ∙ ap card (sym z));
  }

  row_is : (s : ℕ) → row_of h n.reads s ≡ sampled f rs s
  row_is s =
      ⊎_elim
      (λ (l : s < min (length rs) f.size).
      let size : s < f.size = omega arith in
      rw (lt-ltb s (min (length rs) f.size) l, logged_is f card rs r m.size room n.reads is s r.entries (omega arith), slot_is f card rs r m.size room n.reads is s size) (r.tells.slots s size))
      (λ (l : min (length rs) f.size ≤ s). rw (le-ltb s (min (length rs) f.size) l) (sym (sampled_none f rs s l)))
      (cases_lt s (min (length rs) f.size))

  -- the memory with this head
  abbrev remembered : Memory → Memory
  remembered t = record { head = h; committed = r.entries; rows = t.rows; logged = t.logged; work = t.work }

  row_long : (t : Memory) → Arrays t → Remembers h n.reads t → (s : ℕ) (bs : List ℕ) → slice_get t.rows s ≡ Some bs → length bs ≡ 12
  row_long t arrays rem s bs e =
      let a = slice_get_within t.rows s bs e in
      let b = arrays.rows in
      let c = rem.row s (omega arith) in
      let d = row_is s in
      let same : bs ≡ row_of h n.reads s = cc in
      ap length (same ∙ d) ∙ sampled_long wrong f rs s all

  remembered_open : (t : Memory) → Arrays t → Remembers h n.reads t → Open f.base n (remembered t) rs (length rs)
  remembered_open t shaped rem = record {
    rows = card_slot (whole_card card);
    log = log_is f card rs r m.size room n.reads is;
    limits = r.limits;
    rest = record {
      standing = record {
        on = restarted.on;
        room = rw restarted.size room;
        stands = λ b bs l st.
            let k : b < m.size = subst (λ (s : ℕ). b < s) restarted.size l in
            let a = restarted.settled.only b (whole bs) l st in
            let c = is b k in
            let same : bs ≡ card b = cc in
            fit _ b bs same;
        reads = λ b bs l e.
            let k : b < m.size = subst (λ (s : ℕ). b < s) restarted.size l in
            let c = is b k in
            let same : bs ≡ card b = cc in
            fit _ b bs same;
      };
      counts = record { fits = r.fits; counted = r.counted; early = omega arith; order = omega arith; settled = rw (take_all (length rs) rs (omega arith)) r.tells; all = r.tells };
    };
    shape = record { rows = shaped.rows; row = λ s bs e. row_long t shaped rem s bs e; flags = shaped.flags; work = shaped.work };
    count = refl;
    held = λ s l. rem.row s l ∙ ap {B = Option (List ℕ)} Some (row_is s);
    flagged = λ s l. rem.flag s l ∙ ap (λ (o : Option (List ℕ)). Some (is_some o)) (logged_is f card rs r m.size room n.reads is s r.entries (omega arith));
    working = λ j l e.
        let fits = r.fits in
        let some : (r.entries % 31 ≡ 0) → ⊥ = λ z. omega arith in
        let work = work_next h n.reads r.entries t.work rem.block some in
        let block : entry_block h j ≡ entry_block h r.entries = ap (λ (q : ℕ). 1 + (f.size + 41) / 42 + q) e in
        let a = is (entry_block h j) (omega arith) in
        let b = ap n.reads block in
        let same : t.work ≡ card (entry_block h j) = cc in
        ap (λ (y : List ℕ). entry_at y (j % 31)) same;
  }

  opened : (t : Memory) → t.head ≡ h → Arrays t → Remembers t.head n.reads t → Open f.base n t rs (length rs)
  opened t same shaped rem =
      let committed : t.committed ≡ r.entries = rem.committed_is ∙ ap (λ (x : Fields). x.entries) same in
      let path : t ≡ remembered t = λ i. record { head = same i; committed = committed i; rows = t.rows; logged = t.logged; work = t.work } in
      subst (λ (x : Memory). Open f.base n x rs (length rs)) (sym path) (remembered_open t shaped (subst (λ (x : Fields). Remembers x n.reads t) same rem))

  module _ (own : Layer) (code : ℕ) (kind : f.kind ≡ code) where
    pub mount_is : mount_of own m.size code wrong n.reads ≡ Ok h
    mount_is = (card_law own code wrong).lawful m.size n.reads h (recovers_lawful f card rs r m.size room n.reads is wrong code all kind)

    pub remounts : (t : Memory) (settled waiting : List (List ℕ)) → (rs ≡ settled) ⊎ (rs ≡ waiting) → Arrays t → mount_of own m.size code wrong n.reads ≡ Ok t.head
        → Remembers t.head n.reads t → Remounted f m n t settled waiting
    remounts t settled waiting which shaped found rem =
        let e = sym found ∙ mount_is in
        let same : t.head ≡ h = cc in
        record {
          records = rs;
          which = which;
          opens = opened t same shaped rem;
          same = λ i. record { kind = (same i).kind; seed = (same i).seed; size = (same i).size; log_blocks = (same i).log_blocks; base = f.base };
          goes = restarted_goes m n sound restarted;
        }

    -- no check refuses it
    pub never_refused : (e : Fault) → mount_of own m.size code wrong n.reads ≡ Err e → ⊥
    never_refused e found = let z = sym found ∙ mount_is in absurd cc

module _ (f : Frame) (m n : Meaning) (own source : Layer) (code : ℕ) (wrong : List ℕ → Option ℕ) (settled waiting : List (List ℕ)) (safe : Safe f m settled waiting) (sound : Sound m)
    (room : frame_blocks f ≤ m.size) (right : AllRight wrong settled) (right_waiting : AllRight wrong waiting) (kind : f.kind ≡ code) where
  -- A MOUNT, accepted
  pub mounted : (t : Memory) → Arrays t → MountOutcome own source code wrong m n (Ok t) → Remounted f m n t settled waiting
  mounted t shaped (found, rem) =
      elim (safe (card_read m n sound found.0) (may_stand m n sound found.0)) [
        | inl r ↦ remounts f m n sound found.0 room settled r wrong right own code kind t settled waiting (inl refl) shaped found.1 rem
        | inr r ↦ remounts f m n sound found.0 room waiting r wrong right_waiting own code kind t settled waiting (inr refl) shaped found.1 rem
      ]

  lost : (e : Fault) → Failed source m n Nothing e → Lost f source m n settled waiting e
  lost e y =
      let fewer : (b : ℕ) (c : Content) → b < m.size → n.stands b c → m.stands b c = λ b c l st. elim (y.left.stands b c l st) [ inl a ↦ a | inr z ↦ absurd z ] in
      record {
        is = y.is;
        supply = y.supply;
        off = y.left.off;
        size = y.left.size;
        sound = λ so b l st. let k : b < m.size = subst (λ (s : ℕ). b < s) y.left.size l in so b k (fewer b torn k st);
        safe = λ card may. safe card (λ b l. let k : b < n.size = subst (λ (s : ℕ). b < s) (sym y.left.size) l in fewer b (whole (card b)) l (may b k));
      }

  -- and refused: the supply failed in it
  pub mount_cut : (e : Fault) → MountOutcome own source code wrong m n (Err e) → Lost f source m n settled waiting e
  mount_cut e (inr y) = lost e y
  mount_cut e (inl found) =
      elim (safe (card_read m n sound found.0) (may_stand m n sound found.0)) [
        | inl r ↦ absurd (never_refused f m n sound found.0 room settled r wrong right own code kind e found.1)
        | inr r ↦ absurd (never_refused f m n sound found.0 room waiting r wrong right_waiting own code kind e found.1)
      ]
