-- One entry of the log is read after another. Assumes nothing.
use Rattle.std.proofs.Common.{◌≡◌, ◌≢◌, ℕ, zero, suc, ◌+◌, ◌/◌, ◌%◌, ◌<◌, Bool, true, false, cond, List, length, Some, None, Ok, Err, Option, replicate, slice_set, refl, sym, ◌∙◌, ap, add-one, arith}
use Rattle.std.specs.List.{slice_get}
use Rattle.std.specs.Option.{unwrap_or, is_some}
use Rattle.std.proofs.lemmas.Bool.Decides.{nat_tests}
use Rattle.std.proofs.lemmas.Grind.{common_steps}
use Rattle.std.proofs.lemmas.Option.{gets}
use Rattle.faults.specs.declared.faults.Layer.{Layer}
use Rattle.faults.specs.declared.faults.Reason.TheVariants.{BadEntry}
use Rattle.stores.specs.Meanings.{whole}
use Rattle.sampling.specs.Answers.{refusal}
use Rattle.sampling.specs.Draws.{slot_of}
use Rattle.sampling.specs.Samples.{is_slot}
use Rattle.layouts.specs.Entries.{entry_at}
use Rattle.layouts.specs.Heads.{Fields}
use Rattle.layouts.specs.Shapes.{sample_blocks}
use Rattle.layouts.specs.declared.entries.Entry.{Entry}
use Rattle.cards.specs.Cards.{Card, entry_block, card_entry, entry_slot, newest_logged}
use Rattle.cards.specs.Memories.{WorkIs}
use Rattle.cards.specs.Verdicts.{check, previous, right_slot, entry_check}
use Rattle.cards.proofs.Checks.{each_none, each_more}
use Rattle.cards.proofs.Logs.{logged_none, logged_step}
use Rattle.cards.specs.Progress.{LogRead}

-- an element where another was put in
pub put_at : {X : Type 0} (xs : List X) (i s : ℕ) (x : X) → i < length xs → slice_get (slice_set xs i x) s ≡ cond (is_slot (Some i) s) (Some x) (slice_get xs s)
put_at xs i s x l = grind (arith, nat_tests, common_steps, gets)

over : {X : Type 0} (b : Bool) (x z : X) (o : Option X) (g : Option X) → g ≡ Some (unwrap_or o z) → cond b (Some x) g ≡ Some (unwrap_or (cond b (Some x) o) z)
over true x z o g e = refl
over false x z o g e = e

flagged : {X : Type 0} (b : Bool) (x : X) (o : Option X) (g : Option Bool) → g ≡ Some (is_some o) → cond b (Some true) g ≡ Some (is_some (cond b (Some x) o))
flagged true x o g e = refl
flagged false x o g e = e

same_block : (h : Fields) (i : ℕ) → (suc i % 31 ≢ 0) → entry_block h (suc i) ≡ entry_block h i
same_block h i n = let q : suc i / 31 ≡ i / 31 = omega arith in ap (λ (x : ℕ). 1 + sample_blocks h.size + x) q

-- the block of the last entry is that in which the next one comes, where it has room
pub work_next : (h : Fields) (card : Card) (i : ℕ) (work : List ℕ) → WorkIs h card i work → i % 31 ≢ 0 → card (entry_block h i) ≡ whole work
work_next h card zero work is n = absurd (n refl)
work_next h card (suc i) work is n = ap card (same_block h i n) ∙ is

filled_with : {X : Type 0} (n s : ℕ) (x : X) → s < n → slice_get (replicate n x) s ≡ Some x
filled_with n s x l = grind (arith, common_steps, gets)

module _ (own : Layer) (wrong : List ℕ → Option ℕ) (h : Fields) (card : Card) where
  -- no entry is read yet
  pub log_none : LogRead own wrong h card 0 (replicate 672 (replicate 12 0)) (replicate 672 false) (replicate 504 0) 0
  log_none = record {
    right = each_none (entry_check own wrong h card);
    number = refl;
    block = refl;
    row = λ s l. rw logged_none (filled_with 672 s (replicate 12 0) l);
    flag = λ s l. rw logged_none (filled_with 672 s false l);
  }

  -- the slot of an entry that is right
  its_slot : (before slot : ℕ) (e : Entry) → right_slot wrong h before e ≡ Some slot → slot_of h.seed h.size e.number ≡ Some slot
  its_slot before slot e r = grind (arith, nat_tests)

  module _ (i : ℕ) (work : List ℕ) (e : Entry) (block : card (entry_block h i) ≡ whole work) (is : e ≡ entry_at work (i % 31)) where
    found : card_entry h card i ≡ e
    found = rw block (sym is)

    check_is : entry_check own wrong h card i ≡ check (is_some (right_slot wrong h (previous h card i) e)) (refusal BadEntry i)
    check_is = rw (block, is) refl

    -- an entry that is not right
    pub entry_refused : right_slot wrong h (previous h card i) e ≡ None → entry_check own wrong h card i ≡ Err (refusal BadEntry i)
    entry_refused r = check_is ∙ rw r refl

    module _ (slot : ℕ) (r : right_slot wrong h (previous h card i) e ≡ Some slot) where
      taken : entry_check own wrong h card i ≡ Ok tt
      taken = check_is ∙ rw r refl

      has : entry_slot h card i ≡ Some slot
      has = ap (λ (x : Entry). slot_of h.seed h.size x.number) found ∙ its_slot _ slot e r

      step : (s : ℕ) → newest_logged h card s (suc i) ≡ cond (is_slot (Some slot) s) (Some e.bytes) (newest_logged h card s i)
      step s = logged_step h card s i ∙ rw has (ap (λ (x : Entry). cond (is_slot (Some slot) s) (Some x.bytes) (newest_logged h card s i)) found)

      -- an entry that is right, over those before it
      pub entry_taken : (rows : List (List ℕ)) (flags : List Bool) (before : List ℕ) (last : ℕ) → LogRead own wrong h card i rows flags before last → slot < 672 → length rows ≡ 672 → length flags ≡ 672
          → LogRead own wrong h card (i + 1) (slice_set rows slot e.bytes) (slice_set flags slot true) work e.number
      entry_taken rows flags before last log l lr lf = rw add-one (record {
        right = each_more (entry_check own wrong h card) i (Ok tt) log.right taken;
        number = ap (λ (x : Entry). x.number) (sym found);
        block = block;
        row = λ s k. put_at rows slot s e.bytes (omega arith) ∙ rw step (over (is_slot (Some slot) s) e.bytes (replicate 12 0) (newest_logged h card s i) (slice_get rows s) (log.row s k));
        flag = λ s k. put_at flags slot s true (omega arith) ∙ rw step (flagged (is_slot (Some slot) s) e.bytes (newest_logged h card s i) (slice_get flags s) (log.flag s k));
      })
