-- A memory's lists and log block once a candidate is put in them. Assumes nothing.
use Rattle.std.proofs.Common.{◌≡◌, ℕ, suc, ◌+◌, ◌/◌, ◌%◌, ◌^◌, ◌<◌, ◌≤◌, Bool, true, false, cond, List, [], ◌∷◌, ◌++◌, length, Some, Option, is_some, slice_set, refl, sym, ap, ◌∙◌, ⊎_elim, arith}
use Rattle.std.specs.List.{slice_get}
use Rattle.std.proofs.lemmas.Bool.{cases_lt}
use Rattle.sampling.specs.Draws.{slot_of}
use Rattle.sampling.specs.Samples.{is_slot}
use Rattle.layouts.specs.Entries.{entry_bytes, entry_at, with_entry}
use Rattle.layouts.specs.declared.entries.Entry.{Entry}
use Rattle.layouts.proofs.EntryLaws.{entry_back, entry_here, entry_other}
use Rattle.layouts.proofs.Spans.{length_with}
use Rattle.cards.proofs.Entries.{put_at}
use Rattle.recovery.proofs.Frames.{Frame}
use Rattle.recovery.proofs.Tellings.{newest_in, sampled}
use Rattle.recovery.proofs.OneMore.{noted, noted_below, noted_last, newest_noted, sampled_more}

-- the rows with the record in its slot are the sample's
row_put : (b : Bool) (r old : List ℕ) (g : Option (List ℕ)) → g ≡ Some old → cond b (Some r) g ≡ Some (cond b r old)
row_put true r old g e = refl
row_put false r old g e = e

pub rows_put : (f : Frame) (rs rows : List (List ℕ)) (r : List ℕ) (slot s : ℕ) → slot_of f.seed f.size (length rs + 1) ≡ Some slot → slot < length rows
    → slice_get rows s ≡ Some (sampled f rs s) → slice_get (slice_set rows slot r) s ≡ Some (sampled f (rs ++ r ∷ []) s)
rows_put f rs rows r slot s has l e =
    put_at rows slot s r l ∙ row_put (is_slot (Some slot) s) r (sampled f rs s) (slice_get rows s) e
    ∙ ap {B = Option (List ℕ)} Some (sym (sampled_more f rs r s ∙ rw has refl))

-- and the flags say which slots have an entry
flag_put : {X : Type 0} (b : Bool) (x : X) (o : Option X) (g : Option Bool) → g ≡ Some (is_some o) → cond b (Some true) g ≡ Some (is_some (cond b (Some x) o))
flag_put true x o g e = refl
flag_put false x o g e = e

pub flags_put : (f : Frame) (log : ℕ → Entry) (c : ℕ) (e : Entry) (flags : List Bool) (slot s : ℕ) → slot_of f.seed f.size e.number ≡ Some slot → slot < length flags
    → slice_get flags s ≡ Some (is_some (newest_in f log s c)) → slice_get (slice_set flags slot true) s ≡ Some (is_some (newest_in f (noted log c e) s (suc c)))
flags_put f log c e flags slot s has l g =
    put_at flags slot s true l ∙ flag_put (is_slot (Some slot) s) e.bytes (newest_in f log s c) (slice_get flags s) g
    ∙ ap (λ (o : Option (List ℕ)). Some (is_some o)) (sym (newest_noted f log c s e ∙ rw has refl))

-- rows of twelve bytes
twelve_by : (b : Bool) (r bs : List ℕ) (g : Option (List ℕ)) → length r ≡ 12 → (g ≡ Some bs → length bs ≡ 12) → cond b (Some r) g ≡ Some bs → length bs ≡ 12
twelve_by true r bs g long h e = let same : r ≡ bs = cc in rw (← same) long
twelve_by false r bs g long h e = h e

pub twelve_put : (rows : List (List ℕ)) (r : List ℕ) (slot : ℕ) → length r ≡ 12 → slot < length rows
    → ((s : ℕ) (bs : List ℕ) → slice_get rows s ≡ Some bs → length bs ≡ 12) → (s : ℕ) (bs : List ℕ) → slice_get (slice_set rows slot r) s ≡ Some bs → length bs ≡ 12
twelve_put rows r slot long l h s bs e =
    twelve_by (is_slot (Some slot) s) r bs (slice_get rows s) long (h s bs) (sym (put_at rows slot s r l) ∙ e)

-- the log block in work, with the entry
sixteen : (e : Entry) → length e.bytes ≡ 12 → length (entry_bytes e) ≡ 16
sixteen e long = rw long refl

pub work_long : (work : List ℕ) (c : ℕ) (e : Entry) → length work ≡ 504 → length e.bytes ≡ 12 → length (with_entry work (c % 31) e) ≡ 504
work_long work c e long twelve = length_with 16 work (entry_bytes e) (c % 31) (omega arith) (sixteen e twelve) ∙ long

pub work_entries : (log : ℕ → Entry) (c : ℕ) (e : Entry) (work : List ℕ) → length work ≡ 504 → length e.bytes ≡ 12 → e.number < 2 ^ 32
    → ((j : ℕ) → j < c → j / 31 ≡ c / 31 → entry_at work (j % 31) ≡ log j)
    → (j : ℕ) → j < suc c → j / 31 ≡ c / 31 → entry_at (with_entry work (c % 31) e) (j % 31) ≡ noted log c e j
work_entries log c e work long twelve small h j l same =
    ⊎_elim
    (λ (b : j < c). entry_other work (c % 31) (j % 31) e (omega arith) (sixteen e twelve) (λ x. omega arith) ∙ h j b same ∙ sym (noted_below log c e j b))
    (λ (a : c ≤ j). let is : j ≡ c = omega arith in
    rw (is, noted_last log c e) (entry_here work (c % 31) e (omega arith) (sixteen e twelve) (entry_back e small twelve)))
    (cases_lt j c)
