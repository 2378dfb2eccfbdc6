-- What fits a block, and what a store's calls make of it. Assumes nothing.
use Rattle.std.proofs.Common.{◌≡◌, ℕ, ◌+◌, ◌/◌, ◌%◌, ◌<◌, ◌≤◌, inl, inr, List, sym, ◌∙◌, ⊎_elim, arith}
use Rattle.std.proofs.lemmas.Bool.{cases_lt, cases_eq}
use Rattle.stores.specs.Meanings.{whole, Meaning, Cut, Nothing, Written}
use Rattle.stores.specs.Outcomes.{Wrote, Flushed}
use Rattle.layouts.specs.Entries.{entry_at}
use Rattle.layouts.specs.Shapes.{sample_blocks}
use Rattle.layouts.specs.Slots.{slot_at}
use Rattle.layouts.specs.declared.entries.Entry.{Entry}
use Rattle.recovery.proofs.Frames.{Frame, log_block}
use Rattle.recovery.proofs.Standings.{Within, Reads, Fit, written, Standing}

-- what a call brings: the bytes of a write at its block
whole_written : (P : ℕ → List ℕ → Type 0) (a b : ℕ) (bs x : List ℕ) → P a bs → Written a bs b (whole x) → P b x
whole_written P a b bs x p w = elim w.1 [
  | inl e ↦ (let same : x ≡ bs = cc in rw (w.0, same) p)
  | inr e ↦ absurd cc
]

-- a write of bytes of the sort keeps what may stand within the sort, accepted or cut
pub wrote_within : {m n : Meaning} {P : ℕ → List ℕ → Type 0} {a : ℕ} {bs : List ℕ} → Wrote m n a bs → Within m P → P a bs → Within n P
wrote_within {m} {n} {P} {a} {bs} w h p b x l st =
    let lt : b < m.size = rw w.size at l in
    elim (w.stands b (whole x) lt st) [ inl o ↦ h b x lt o | inr y ↦ whole_written P a b bs x p y ]

pub cut_within : {m n : Meaning} {P : ℕ → List ℕ → Type 0} {a : ℕ} {bs : List ℕ} → Cut m n (Written a bs) → Within m P → P a bs → Within n P
cut_within {m} {n} {P} {a} {bs} w h p b x l st =
    let lt : b < m.size = rw w.size at l in
    elim (w.stands b (whole x) lt st) [ inl o ↦ h b x lt o | inr y ↦ whole_written P a b bs x p y ]

pub none_within : {m n : Meaning} {P : ℕ → List ℕ → Type 0} → Cut m n Nothing → Within m P → Within n P
none_within {m} {n} {P} w h b x l st =
    let lt : b < m.size = rw w.size at l in
    elim (w.stands b (whole x) lt st) [ inl o ↦ h b x lt o | inr y ↦ absurd y ]

-- a block written
pub wrote_standing : {f : Frame} {m n : Meaning} {P Q R : ℕ → List ℕ → Type 0} {a : ℕ} {bs : List ℕ} → Standing f m P Q → Wrote m n a bs → P a bs
    → ((b : ℕ) (x : List ℕ) → (b ≡ a → ⊥) → Q b x → R b x) → R a bs → Standing f n P R
wrote_standing {f} {m} {n} {P} {Q} {R} {a} {bs} st w p g q = record {
  on = w.on;
  room = rw w.size st.room;
  stands = wrote_within w st.stands p;
  reads = λ b x l e.
      let lt : b < m.size = rw w.size at l in
      elim (cases_eq b a) [
        | inl same ↦ (let is : n.reads b ≡ whole bs = rw same w.here in let y : x ≡ bs = cc in rw (same, y) q)
        | inr other ↦ g b x other (st.reads b x lt (sym (w.others b lt other) ∙ e))
      ];
}

-- a flush leaves what is read, and that alone may stand
pub flushed_standing : {f : Frame} {m n : Meaning} {P Q : ℕ → List ℕ → Type 0} → Standing f m P Q → Flushed m n → Standing f n Q Q
flushed_standing {f} {m} {n} {P} {Q} st w =
    let read : Reads n Q = λ b x l e. (let lt : b < m.size = rw w.size at l in st.reads b x lt (sym (w.reads b lt) ∙ e)) in
    record { on = w.on; room = rw w.size st.room; stands = λ b x l h. read b x l (sym (w.settled.only b (whole x) l h)); reads = read }

pub standing_wider : {f : Frame} {m : Meaning} {P P′ Q Q′ : ℕ → List ℕ → Type 0} → ((b : ℕ) (x : List ℕ) → P b x → P′ b x)
    → ((b : ℕ) (x : List ℕ) → Q b x → Q′ b x) → Standing f m P Q → Standing f m P′ Q′
standing_wider p q st =
    record { on = st.on; room = st.room; stands = λ b x l h. p b x (st.stands b x l h); reads = λ b x l h. q b x (st.reads b x l h) }

-- a wider sort
pub fit_wider : {f : Frame} {H H′ : List ℕ → Type 0} {R R′ : ℕ → List ℕ → Type 0} {log : ℕ → Entry} {c c′ b : ℕ} {x : List ℕ}
    → ((y : List ℕ) → H y → H′ y) → ((s : ℕ) (y : List ℕ) → R s y → R′ s y) → c′ ≤ c → Fit f H R log c b x → Fit f H′ R′ log c′ b x
fit_wider g r l fit =
    record { head = λ e. g _ (fit.head e); row = λ s k e. r s _ (fit.row s k e); entry = λ j k e. fit.entry j (omega arith) e }

-- fewer entries
pub fit_fewer : {f : Frame} {H : List ℕ → Type 0} {R : ℕ → List ℕ → Type 0} {log : ℕ → Entry} {c c′ b : ℕ} {x : List ℕ} → c′ ≤ c → Fit f H R log c b x → Fit f H R log c′ b x
fit_fewer l fit = record { head = fit.head; row = fit.row; entry = λ j k e. fit.entry j (omega arith) e }

-- a log block
pub fit_log : {f : Frame} {H : List ℕ → Type 0} {R : ℕ → List ℕ → Type 0} {log : ℕ → Entry} {c w : ℕ} {x : List ℕ}
    → ((j : ℕ) → j < c → j / 31 ≡ w → entry_at x (j % 31) ≡ log j) → Fit f H R log c (1 + sample_blocks f.size + w) x
fit_log h = record { head = λ e. absurd (omega arith); row = λ s l e. absurd (omega arith); entry = λ j l e. h j l (omega arith) }

-- the head
pub fit_head : {f : Frame} {H : List ℕ → Type 0} {R : ℕ → List ℕ → Type 0} {log : ℕ → Entry} {c : ℕ} {x : List ℕ} → H x → Fit f H R log c 0 x
fit_head h = record { head = λ e. h; row = λ s l e. absurd (omega arith); entry = λ j l e. absurd (omega arith) }

-- a sample block
pub fit_rows : {f : Frame} {H : List ℕ → Type 0} {R : ℕ → List ℕ → Type 0} {log : ℕ → Entry} {c b : ℕ} {x : List ℕ} → b < sample_blocks f.size
    → ((s : ℕ) → s < f.size → s / 42 ≡ b → R s (slot_at x (s % 42))) → Fit f H R log c (1 + b) x
fit_rows below h =
    record { head = λ e. absurd (omega arith); row = λ s k e. h s k (omega arith); entry = λ j l e. absurd (omega arith) }

-- past the block of the entry that comes next, all entries are read back
pub fit_grown : {f : Frame} {H : List ℕ → Type 0} {R : ℕ → List ℕ → Type 0} {log : ℕ → Entry} {c b : ℕ} {x : List ℕ} (k : ℕ) → (b ≡ log_block f c → ⊥)
    → Fit f H R log (written k c) b x → Fit f H R log c b x
fit_grown {f} {c = c} {b = b} k ne fit = record {
  head = fit.head;
  row = fit.row;
  entry = λ j l e. ⊎_elim (λ (o : j < written k c). fit.entry j o e) (λ (g : written k c ≤ j). absurd (ne (omega arith))) (cases_lt j (written k c));
}
