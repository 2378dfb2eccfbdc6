-- What rows and a log tell once one more record is counted. Assumes nothing.
use Rattle.std.proofs.Common.{◌≡◌, ℕ, zero, suc, ◌+◌, ◌<◌, ◌≤◌, Bool, true, false, cond, eqb, List, [], ◌∷◌, ◌++◌, length, Some, None, Option, replicate, refl, sym, ap, ◌∙◌, ⊎_elim, arith, length-append}
use Rattle.std.proofs.lemmas.Bool.{cases_lt, eq-eqb, ne_eqb}
use Rattle.std.proofs.lemmas.Grind.{common_steps}
use Rattle.std.proofs.lemmas.Option.{gets, slice_get_within}
use Rattle.std.specs.List.{slice_get}
use Rattle.std.specs.Option.{unwrap_or}
use Rattle.sampling.specs.Draws.{slot_of}
use Rattle.sampling.specs.Samples.{numbered, is_slot, sample_at}
use Rattle.sampling.proofs.SampleLaws.{sample_one_more}
use Rattle.layouts.specs.declared.entries.Entry.{Entry}
use Rattle.recovery.proofs.Frames.{Frame}
use Rattle.recovery.proofs.Tellings.{newest_in, sampled, Logged, Tells}
use Rattle.recovery.proofs.TellingLaws.{newest_more, newest_same}

-- the sample
unwrap_cond : (b : Bool) (r : List ℕ) (o : Option (List ℕ)) (d : List ℕ) → unwrap_or (cond b (Some r) o) d ≡ cond b r (unwrap_or o d)
unwrap_cond true r o d = refl
unwrap_cond false r o d = refl

pub sampled_more : (f : Frame) (rs : List (List ℕ)) (r : List ℕ) (s : ℕ)
    → sampled f (rs ++ r ∷ []) s ≡ cond (is_slot (slot_of f.seed f.size (length rs + 1)) s) r (sampled f rs s)
unfolding sampled
sampled_more f rs r s =
    ap (λ (o : Option (List ℕ)). unwrap_or o (replicate 12 0)) (sample_one_more f.seed f.size rs r s)
    ∙ unwrap_cond (is_slot (slot_of f.seed f.size (length rs + 1)) s) r (sample_at f.seed f.size rs s) (replicate 12 0)

-- records under a longer list
more_by : {R : Type 0} (rs ys : List R) (k : ℕ) (r : R) → slice_get rs k ≡ Some r → k < length rs → slice_get (rs ++ ys) k ≡ Some r
more_by rs ys k r e l = grind (arith, common_steps, gets)

pub numbered_more : {R : Type 0} (rs ys : List R) (k : ℕ) (r : R) → numbered rs k ≡ Some r → (numbered (rs ++ ys) k ≡ Some r) × (k ≤ length rs)
numbered_more rs ys zero r e = absurd cc
numbered_more rs ys (suc k) r e = let l = slice_get_within rs k r e in (more_by rs ys k r e l, omega arith)

last_of : {R : Type 0} (rs : List R) (r : R) → slice_get (rs ++ r ∷ []) (length rs) ≡ Some r
last_of rs r = grind (arith, common_steps, gets)

numbered_last : {R : Type 0} (rs : List R) (r : R) (k : ℕ) → k ≡ length rs + 1 → numbered (rs ++ r ∷ []) k ≡ Some r
numbered_last rs r zero e = absurd (omega arith)
numbered_last rs r (suc k) e = let h : k ≡ length rs = omega arith in rw h (last_of rs r)

logged_more : {f : Frame} {rs : List (List ℕ)} {e : Entry} (ys : List (List ℕ)) → Logged f rs e → Logged f (rs ++ ys) e
logged_more {rs = rs} {e = e} ys h =
    record { record_is = (numbered_more rs ys e.number e.bytes h.record_is).0; slot = h.slot; has_slot = h.has_slot; newer = h.newer }

-- a record without a slot
pub tells_passed : {f : Frame} {rs : List (List ℕ)} {rows : ℕ → List ℕ} {log : ℕ → Entry} {c : ℕ} (r : List ℕ)
    → slot_of f.seed f.size (length rs + 1) ≡ None → Tells f rs rows log c → Tells f (rs ++ r ∷ []) rows log c
tells_passed {f} {rs} r none t =
    let begun = t.begun in
    record {
      begun = omega (arith, length-append rs (r ∷ []));
      logged = λ j l. logged_more (r ∷ []) (t.logged j l);
      ascend = t.ascend;
      slots = λ s l. t.slots s l ∙ sym (sampled_more f rs r s ∙ rw none refl);
    }

-- the log with an entry at place c, and the entry of the record that is counted next
abbrev pub noted : (ℕ → Entry) → ℕ → Entry → ℕ → Entry
noted log c e j = cond (eqb j c) e (log j)

abbrev pub entry_for : List (List ℕ) → List ℕ → Entry
entry_for rs r = record { number = length rs + 1; bytes = r }

pub noted_below : (log : ℕ → Entry) (c : ℕ) (e : Entry) (j : ℕ) → j < c → noted log c e j ≡ log j
noted_below log c e j l = rw (ne_eqb j c (λ x. omega arith)) refl

pub noted_last : (log : ℕ → Entry) (c : ℕ) (e : Entry) → noted log c e c ≡ e
noted_last log c e = rw (eq-eqb c c refl) refl

-- the newest entry of a slot, with one more
pub newest_noted : (f : Frame) (log : ℕ → Entry) (c s : ℕ) (e : Entry)
    → newest_in f (noted log c e) s (suc c) ≡ cond (is_slot (slot_of f.seed f.size e.number) s) (Some e.bytes) (newest_in f log s c)
newest_noted f log c s e =
    rw (newest_more f (noted log c e) s c, noted_last log c e, newest_same f log (noted log c e) s c (noted_below log c e)) refl

-- a candidate, and its entry
pub tells_noted : {f : Frame} {rs : List (List ℕ)} {rows : ℕ → List ℕ} {log : ℕ → Entry} {c : ℕ} (r : List ℕ) (t : ℕ)
    → slot_of f.seed f.size (length rs + 1) ≡ Some t → Tells f rs rows log c → Tells f (rs ++ r ∷ []) rows (noted log c (entry_for rs r)) (suc c)
tells_noted {f} {rs} {rows} {log} {c} r p has t =
    let e : Entry = entry_for rs r in
    let last = noted_last log c e in
    let begun = t.begun in
    record {
      begun = omega (arith, length-append rs (r ∷ []));
      logged = λ j l. ⊎_elim
          (λ (b : j < c). rw (noted_below log c e j b) (logged_more (r ∷ []) (t.logged j b)))
          (λ (a : c ≤ j). let same : j ≡ c = omega arith in
          rw (same, last) (record { record_is = numbered_last rs r (length rs + 1) refl; slot = p; has_slot = has; newer = omega arith }))
          (cases_lt j c);
      ascend = λ i j l h. ⊎_elim
          (λ (b : j < c). rw (noted_below log c e i (omega arith), noted_below log c e j b) (t.ascend i j l b))
          (λ (a : c ≤ j). let same : j ≡ c = omega arith in
          let k = t.logged i (omega arith) in
          let small = (numbered_more rs [] (log i).number (log i).bytes k.record_is).1 in
          rw (noted_below log c e i (omega arith), same, last) (omega arith))
          (cases_lt j c);
      slots = λ s l.
          ap (λ (o : Option (List ℕ)). unwrap_or o (rows s)) (newest_noted f log c s e)
          ∙ unwrap_cond (is_slot (slot_of f.seed f.size (length rs + 1)) s) r (newest_in f log s c) (rows s)
          ∙ rw (t.slots s l) (sym (sampled_more f rs r s));
    }
