-- A card that recovers is lawful: no check of a mount refuses it. Assumes nothing.
use Rattle.std.proofs.Common.{◌≡◌, ℕ, zero, suc, ◌<◌, ◌≤◌, min, List, length, replicate, Some, None, Ok, Option, unwrap_or, sym, refl, ap, ◌∙◌, arith, ⊎_elim}
use Rattle.std.proofs.lemmas.Bool.{cases_lt}
use Rattle.std.proofs.lemmas.Option.{slice_get_within}
use Rattle.sampling.specs.Samples.{numbered}
use Rattle.sampling.proofs.SampleLaws.{sample_filled, sample_unfilled, sample_holds}
use Rattle.stores.specs.Meanings.{whole}
use Rattle.layouts.specs.Heads.{Fields, fields_bytes, head_read}
use Rattle.layouts.specs.declared.entries.Entry.{Entry}
use Rattle.layouts.specs.declared.heads.Head.{Head}
use Rattle.layouts.proofs.HeadLaws.{read_back}
use Rattle.cards.specs.Cards.{Card, slot_block, card_slot, entry_block, card_entry, newest_logged}
use Rattle.cards.specs.Lawful.{LawfulCard}
use Rattle.cards.proofs.Logs.{logged_none, logged_step}
use Rattle.recovery.proofs.Frames.{Frame, fields_of, frame_blocks}
use Rattle.recovery.proofs.Recoveries.{Recovers, whole_card}
use Rattle.recovery.proofs.Tellings.{newest_in, sampled}
use Rattle.recovery.proofs.TellingLaws.{newest_none, newest_more}
use Rattle.laws.proofs.Given.{AllRight}

pub from_one : (rs : List (List ℕ)) (k : ℕ) (bs : List ℕ) → numbered rs k ≡ Some bs → 0 < k
from_one rs zero bs e = absurd cc
from_one rs (suc k) bs e = omega arith

pub within : (rs : List (List ℕ)) (k : ℕ) (bs : List ℕ) → numbered rs k ≡ Some bs → k ≤ length rs
within rs zero bs e = omega arith
within rs (suc k) bs e = let a = slice_get_within rs k bs e in omega arith

right_at : (wrong : List ℕ → Option ℕ) (rs : List (List ℕ)) (k : ℕ) (bs : List ℕ) → AllRight wrong rs → numbered rs k ≡ Some bs → (length bs ≡ 12) × (wrong bs ≡ None)
right_at wrong rs zero bs all e = absurd cc
right_at wrong rs (suc k) bs all e = all k bs e

-- ascending numbers from 1 to n are no more than n
climbs : (number : ℕ → ℕ) (c : ℕ) → ((i j : ℕ) → i < j → j < c → number i < number j) → ((j : ℕ) → j < c → 0 < number j) → (j : ℕ) → j < c → suc j ≤ number j
climbs number c up low zero l = low 0 l
climbs number c up low (suc j) l = let a = climbs number c up low j (omega arith) in let b = up j (suc j) (omega arith) l in omega arith

no_more_than : (number : ℕ → ℕ) (c n : ℕ) → ((i j : ℕ) → i < j → j < c → number i < number j) → ((j : ℕ) → j < c → 0 < number j) → ((j : ℕ) → j < c → number j ≤ n) → c ≤ n
no_more_than number zero n up low high = omega arith
no_more_than number (suc c) n up low high = let a = climbs number (suc c) up low c (omega arith) in let b = high c (omega arith) in omega arith

without : (o : Option (List ℕ)) (a b : List ℕ) → o ≡ None → unwrap_or o a ≡ b → a ≡ b
without None a b e h = h
without (Some z) a b e h = absurd cc

-- a filled slot of the sample has a counted record
pub sampled_right : (wrong : List ℕ → Option ℕ) (f : Frame) (rs : List (List ℕ)) (s : ℕ) → AllRight wrong rs → s < min (length rs) f.size → wrong (sampled f rs s) ≡ None
unfolding sampled
sampled_right wrong f rs s all l =
    let y = sample_filled f.seed f.size rs s l in
    let h = sample_holds f.seed f.size rs s y.0 y.1 in
    rw y.1 (right_at wrong rs h.number y.0 all h.record_is).1

pub sampled_none : (f : Frame) (rs : List (List ℕ)) (s : ℕ) → min (length rs) f.size ≤ s → sampled f rs s ≡ replicate 12 0
unfolding sampled
sampled_none f rs s l = rw (sample_unfilled f.seed f.size rs s l) refl

filled_long : (wrong : List ℕ → Option ℕ) (f : Frame) (rs : List (List ℕ)) (s : ℕ) → AllRight wrong rs → s < min (length rs) f.size → length (sampled f rs s) ≡ 12
unfolding sampled
filled_long wrong f rs s all l =
    let y = sample_filled f.seed f.size rs s l in
    let h = sample_holds f.seed f.size rs s y.0 y.1 in
    rw y.1 (right_at wrong rs h.number y.0 all h.record_is).0

-- each slot has twelve bytes
pub sampled_long : (wrong : List ℕ → Option ℕ) (f : Frame) (rs : List (List ℕ)) (s : ℕ) → AllRight wrong rs → length (sampled f rs s) ≡ 12
sampled_long wrong f rs s all =
    ⊎_elim (filled_long wrong f rs s all) (λ (l : min (length rs) f.size ≤ s). ap length (sampled_none f rs s l)) (cases_lt s (min (length rs) f.size))

module _ (f : Frame) (card : ℕ → List ℕ) (rs : List (List ℕ)) (r : Recovers f card rs) (store : ℕ) (room : frame_blocks f ≤ store) (reads : Card)
    (is : (b : ℕ) → b < store → reads b ≡ whole (card b)) where
  -- its head and its log
  abbrev pub head_is : Fields
  head_is = fields_of f (length rs) r.entries

  abbrev pub log_is : ℕ → Entry
  log_is = card_entry head_is (whole_card card)

  pub entry_room : (j : ℕ) → j < r.entries → entry_block head_is j < store
  entry_room j l = let a = r.fits in omega arith

  pub slot_room : (s : ℕ) → s < f.size → slot_block s < store
  slot_room s l = omega arith

  pub slot_is : (s : ℕ) → s < f.size → card_slot reads s ≡ card_slot (whole_card card) s
  slot_is s l = let a = is (slot_block s) (slot_room s l) in rw a refl

  pub logged_is : (s c : ℕ) → c ≤ r.entries → newest_logged head_is reads s c ≡ newest_in f log_is s c
  logged_is s zero l = logged_none head_is reads s ∙ sym (newest_none f log_is s)
  logged_is s (suc c) l =
      let last = is (entry_block head_is c) (entry_room c (omega arith)) in
      rw (logged_step head_is reads s c, newest_more f log_is s c, last, logged_is s c (omega arith)) refl

  number_low : (j : ℕ) → j < r.entries → 0 < (log_is j).number
  number_low j l = from_one rs (log_is j).number (log_is j).bytes (r.tells.logged j l).record_is

  number_high : (j : ℕ) → j < r.entries → (log_is j).number ≤ length rs
  number_high j l = within rs (log_is j).number (log_is j).bytes (r.tells.logged j l).record_is

  pub among : r.entries ≤ length rs
  among = no_more_than (λ j. (log_is j).number) r.entries (length rs) r.tells.ascend number_low number_high

  the_head : Head
  the_head = record {
    kind = f.kind;
    shape = record { size = f.size; log_blocks = f.log_blocks; some = r.limits.some; most = r.limits.most; logged = r.limits.logged; limited = r.limits.limited };
    seed = f.seed;
    count = length rs;
    entries = r.entries;
    coded = r.limits.coded;
    counted = r.counted;
    held = r.fits;
    among = among;
    seeded = r.limits.seeded;
  }

  head_reads : head_read store (fields_bytes head_is) ≡ Ok head_is
  unfolding the_head
  head_reads = read_back store the_head room

  pub recovers_lawful : (wrong : List ℕ → Option ℕ) (code : ℕ) → AllRight wrong rs → f.kind ≡ code → LawfulCard store code wrong reads head_is
  recovers_lawful wrong code all kind = record {
    some = omega arith;
    head = (fields_bytes head_is, is 0 (omega arith) ∙ ap whole r.head, head_reads);
    kind = kind;
    log = record {
      whole_blocks = λ j l. (card (entry_block head_is j), is (entry_block head_is j) (entry_room j l));
      ascending = λ i j l k. let a = is (entry_block head_is i) (entry_room i (omega arith)) in let b = is (entry_block head_is j) (entry_room j k) in rw (a, b) (r.tells.ascend i j l k);
      from_one = λ j l. let a = is (entry_block head_is j) (entry_room j l) in rw a (number_low j l);
      counted = λ j l. let a = is (entry_block head_is j) (entry_room j l) in rw a (number_high j l);
      candidates = λ j l. let a = is (entry_block head_is j) (entry_room j l) in let e = r.tells.logged j l in (e.slot, rw a e.has_slot);
      records = λ j l. let a = is (entry_block head_is j) (entry_room j l) in let e = r.tells.logged j l in rw a (right_at wrong rs (log_is j).number (log_is j).bytes all e.record_is).1;
    };
    slots = record {
      whole_blocks = λ s l. (card (slot_block s), is (slot_block s) (slot_room s (omega arith)));
      records = λ s l none.
          let size : s < f.size = omega arith in
          let new : newest_in f log_is s r.entries ≡ None = sym (logged_is s r.entries (omega arith)) ∙ none in
          let row : card_slot (whole_card card) s ≡ sampled f rs s = without (newest_in f log_is s r.entries) _ _ new (r.tells.slots s size) in
          rw (slot_is s size, row) (sampled_right wrong f rs s all l);
    };
  }
