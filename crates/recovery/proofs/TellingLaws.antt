-- What rows and a log tell, by the rows and the entries that they are. Assumes nothing.
use Rattle.std.proofs.Common.{◌≡◌, ℕ, zero, suc, ◌<◌, ◌≤◌, cond, ◌⊎◌, List, length, Some, None, Option, refl, sym, ap, ◌∙◌, ⊎_elim, arith}
use Rattle.std.specs.Option.{unwrap_or}
use Rattle.sampling.specs.Draws.{slot_of}
use Rattle.sampling.specs.Samples.{is_slot}
use Rattle.layouts.specs.declared.entries.Entry.{Entry}
use Rattle.recovery.proofs.Frames.{Frame}
use Rattle.recovery.proofs.Tellings.{newest_in, told, sampled, Tells}

pub newest_none : (f : Frame) (log : ℕ → Entry) (s : ℕ) → newest_in f log s 0 ≡ None
unfolding newest_in
newest_none f log s = refl

pub newest_more : (f : Frame) (log : ℕ → Entry) (s c : ℕ)
    → newest_in f log s (suc c) ≡ cond (is_slot (slot_of f.seed f.size (log c).number) s) (Some (log c).bytes) (newest_in f log s c)
unfolding newest_in
newest_more f log s c = refl

-- the newest entry depends on the entries below c alone
pub newest_same : (f : Frame) (log after : ℕ → Entry) (s c : ℕ) → ((j : ℕ) → j < c → after j ≡ log j) → newest_in f after s c ≡ newest_in f log s c
newest_same f log after s zero h = rw (newest_none f after s, newest_none f log s) refl
newest_same f log after s (suc c) h =
    let last = h c (omega arith) in
    rw (newest_more f after s c, newest_more f log s c, last, newest_same f log after s c (λ j l. h j (omega arith))) refl

-- a row that is what is told already
again : {X : Type 0} (o : Option X) (x y : X) → x ≡ unwrap_or o y → unwrap_or o x ≡ unwrap_or o y
again None x y e = e
again (Some z) x y e = refl

pub told_again : (f : Frame) (rows after : ℕ → List ℕ) (log : ℕ → Entry) (c s : ℕ) → after s ≡ told f rows log c s → told f after log c s ≡ told f rows log c s
told_again f rows after log c s e = again (newest_in f log s c) (after s) (rows s) e

-- rows each old or the sample's, and the same entries, tell the same
pub tells_same : {f : Frame} {rs : List (List ℕ)} {rows : ℕ → List ℕ} {log : ℕ → Entry} {c : ℕ} (rows_after : ℕ → List ℕ) (after : ℕ → Entry) → Tells f rs rows log c
    → ((s : ℕ) → s < f.size → (rows_after s ≡ rows s) ⊎ (rows_after s ≡ sampled f rs s)) → ((j : ℕ) → j < c → after j ≡ log j) → Tells f rs rows_after after c
tells_same {f} {rs} {rows} {log} {c} rows_after after t r e = record {
  begun = t.begun;
  logged = λ j l. (let is = e j l in rw is (t.logged j l));
  ascend = λ i j l h. (let a = e i (omega arith) in let b = e j h in rw (a, b) (t.ascend i j l h));
  slots = λ s l.
      ap (λ (o : Option (List ℕ)). unwrap_or o (rows_after s)) (newest_same f log after s c e)
      ∙ ⊎_elim (λ (o : rows_after s ≡ rows s). rw o (t.slots s l))
      (λ (o : rows_after s ≡ sampled f rs s). told_again f rows rows_after log c s (o ∙ sym (t.slots s l)) ∙ t.slots s l) (r s l);
}

-- the sample's rows alone tell it
pub tells_rows : (f : Frame) (rs : List (List ℕ)) (log : ℕ → Entry) → f.base ≤ length rs → Tells f rs (sampled f rs) log 0
tells_rows f rs log begun = record {
  begun = begun;
  logged = λ j l. absurd (omega arith);
  ascend = λ i j l h. absurd (omega arith);
  slots = λ s l. rw (newest_none f log s) refl;
}
