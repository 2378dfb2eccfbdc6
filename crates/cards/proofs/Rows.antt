-- One slot of the sample blocks is read after another. Assumes nothing.
use Rattle.std.proofs.Common.{◌≡◌, ◌≢◌, ℕ, suc, ◌+◌, ◌/◌, ◌%◌, ◌<◌, ◌≤◌, Bool, true, false, cond, ◌||◌, List, length, Some, None, Ok, Err, Option, ltb, replicate, slice_set, slice_index_or, refl, sym, ◌∙◌, ap, add-one, ⊎_elim, arith}
use Rattle.std.specs.List.{slice_get}
use Rattle.std.specs.Option.{unwrap_or, is_some, is_none}
use Rattle.std.proofs.lemmas.Bool.{cases_eq}
use Rattle.std.proofs.lemmas.Bool.Decides.{nat_tests}
use Rattle.std.proofs.lemmas.Option.{get_or_from_slice_get}
use Rattle.faults.specs.declared.faults.Layer.{Layer}
use Rattle.faults.specs.declared.faults.Reason.TheVariants.{BadSlot}
use Rattle.stores.specs.Meanings.{whole}
use Rattle.sampling.specs.Answers.{refusal}
use Rattle.sampling.specs.Samples.{is_slot}
use Rattle.layouts.specs.Heads.{Fields}
use Rattle.layouts.specs.Slots.{slot_at}
use Rattle.cards.specs.Cards.{Card, slot_block, card_slot, newest_logged, slot_record}
use Rattle.cards.specs.Verdicts.{check, slot_check}
use Rattle.cards.proofs.Checks.{each_none, each_more}
use Rattle.cards.specs.Progress.{Flagged, RowsLaid, SlotsRead}
use Rattle.cards.proofs.Entries.{put_at}

same_block : (s : ℕ) → (suc s % 42 ≢ 0) → slot_block (suc s) ≡ slot_block s
same_block s n = let q : suc s / 42 ≡ s / 42 = omega arith in ap (λ (x : ℕ). 1 + x) q

-- below n, or at or past it
pub below : {X : Type 0} (s n : ℕ) (x y : X) → s < n → cond (ltb s n) x y ≡ x
below s n x y l = grind (arith, nat_tests)

pub past : {X : Type 0} (s n : ℕ) (x y : X) → n ≤ s → cond (ltb s n) x y ≡ y
past s n x y l = grind (arith, nat_tests)

below_more : {X : Type 0} (s t : ℕ) (x y : X) → (t ≢ s) → cond (ltb t s) x y ≡ cond (ltb t (suc s)) x y
below_more s t x y n = grind (arith, nat_tests)

-- at the slot that was put in, or another
is_slot_here : {X : Type 0} (s : ℕ) (x : X) (o : Option X) → cond (is_slot (Some s) s) (Some x) o ≡ Some x
is_slot_here s x o = grind (arith, nat_tests)

is_slot_other : {X : Type 0} (s t : ℕ) (x : X) (o : Option X) → (t ≢ s) → cond (is_slot (Some s) t) (Some x) o ≡ o
is_slot_other s t x o n = grind (arith, nat_tests)

-- a slot with an entry has its record whatever lies below it
either_way : {X : Type 0} (o : Option X) (x y : X) → is_some o ≡ true → unwrap_or o x ≡ unwrap_or o y
either_way (Some z) x y e = refl
either_way None x y e = absurd (cc e)

without : {X : Type 0} (o : Option X) (x : X) → is_some o ≡ false → unwrap_or o x ≡ x
without None x e = refl
without (Some z) x e = absurd (cc e)

-- whether a slot has an entry, by its flag
pub flag_is : (h : Fields) (card : Card) (flags : List Bool) (s : ℕ) (b : Bool) → Flagged h card flags → s < 672 → slice_index_or flags s false ≡ b → is_some (newest_logged h card s h.entries) ≡ b
flag_is h card flags s b flagged l e = sym (get_or_from_slice_get flags s (is_some (newest_logged h card s h.entries)) false (flagged s l)) ∙ e

module _ (own : Layer) (wrong : List ℕ → Option ℕ) (h : Fields) (card : Card) where
  -- no slot is read yet
  pub slots_none : (rows : List (List ℕ)) (bytes : List ℕ) → RowsLaid h card rows → SlotsRead own wrong h card 0 rows bytes
  slots_none rows bytes e =
      (record { right = each_none (slot_check own wrong h card); row = λ t l. e t l ∙ ap (λ (x : List ℕ). Some x) (sym (past t 0 _ _ (omega arith))) }, λ n. absurd (n refl))

  module _ (s : ℕ) (bytes : List ℕ) (block : card (slot_block s) ≡ whole bytes) where
    check_is : slot_check own wrong h card s ≡ check (is_some (newest_logged h card s h.entries) || is_none (wrong (slot_at bytes (s % 42)))) (refusal BadSlot s)
    check_is = rw block refl

    next_block : suc s % 42 ≢ 0 → card (slot_block (suc s)) ≡ whole bytes
    next_block n = ap card (same_block s n) ∙ block

    -- a slot with an entry
    pub slot_over : (rows : List (List ℕ)) (before : List ℕ) → is_some (newest_logged h card s h.entries) ≡ true → SlotsRead own wrong h card s rows before → SlotsRead own wrong h card (s + 1) rows bytes
    slot_over rows before some read = rw add-one (
      record {
        right = each_more (slot_check own wrong h card) s (Ok tt) read.0.right (check_is ∙ rw some refl);
        row = λ t k. read.0.row t k
            ∙ ⊎_elim
            (λ (same : t ≡ s). rw same
            (ap (λ (x : List ℕ). Some x)
            (past s s _ _ (omega arith) ∙ either_way (newest_logged h card s h.entries) (replicate 12 0) (card_slot card s) some ∙ sym (below s (suc s) _ _ (omega arith)))))
            (λ (other : t ≢ s). ap (λ (x : List ℕ). Some x) (below_more s t _ _ other))
            (cases_eq t s);
      },
      next_block,
    )

    module _ (x : List ℕ) (none : is_some (newest_logged h card s h.entries) ≡ false) (is : x ≡ slot_at bytes (s % 42)) where
      here : slot_record h card s ≡ x
      here = without (newest_logged h card s h.entries) (card_slot card s) none ∙ rw block (sym is)

      -- a slot whose bytes are no record's
      pub slot_refused : is_none (wrong x) ≡ false → slot_check own wrong h card s ≡ Err (refusal BadSlot s)
      slot_refused w = check_is ∙ rw (none, ← is, w) refl

      -- a slot without an entry
      pub slot_taken : (rows : List (List ℕ)) (before : List ℕ) → is_none (wrong x) ≡ true → s < length rows → SlotsRead own wrong h card s rows before → SlotsRead own wrong h card (s + 1) (slice_set rows s x) bytes
      slot_taken rows before w l read = rw add-one (
        record {
          right = each_more (slot_check own wrong h card) s (Ok tt) read.0.right (check_is ∙ rw (none, ← is, w) refl);
          row = λ t k. put_at rows s t x l
              ∙ ⊎_elim
              (λ (same : t ≡ s). rw same (is_slot_here s x (slice_get rows s) ∙ ap (λ (y : List ℕ). Some y) (sym (below s (suc s) (slot_record h card s) _ (omega arith) ∙ here))))
              (λ (other : t ≢ s). is_slot_other s t x (slice_get rows t) other ∙ read.0.row t k ∙ ap (λ (y : List ℕ). Some y) (below_more s t _ _ other))
              (cases_eq t s);
        },
        next_block,
      )
