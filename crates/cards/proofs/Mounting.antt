-- A card whose log and slots were read. Assumes nothing.
use Rattle.std.proofs.Common.{◌≡◌, ℕ, ◌<◌, ◌≤◌, Bool, List, [], Some, None, Ok, Option, Result, refl, sym, ◌∙◌, ap, ⊎_elim, arith}
use Rattle.std.specs.List.{slice_get}
use Rattle.std.specs.Option.{unwrap_or}
use Rattle.std.proofs.lemmas.Bool.{cases_lt}
use Rattle.std.proofs.lemmas.Option.{get_or_from_slice_get}
use Rattle.faults.specs.declared.faults.Fault.{Fault}
use Rattle.faults.specs.declared.faults.Layer.{Layer}
use Rattle.layouts.specs.Heads.{Fields}
use Rattle.cards.specs.Cards.{Card, card_slot, newest_logged, slot_record, filled}
use Rattle.cards.specs.Memories.{Remembers, RowsLawful}
use Rattle.cards.specs.Verdicts.{and_then, each, entry_check, slot_check, head_of, body_check, mount_of}
use Rattle.cards.specs.Lawful.{LawfulLog}
use Rattle.cards.proofs.LawfulCards.{log_of, slots_of}
use Rattle.cards.proofs.Logs.{logged_record, logged_filled}
use Rattle.cards.proofs.Rows.{below, past}
use Rattle.cards.specs.Progress.{LogRead, RowsRead}

-- a record of an entry, or else that in the sample block
lawful_or : (wrong : List ℕ → Option ℕ) (o : Option (List ℕ)) (x : List ℕ) → ((bs : List ℕ) → o ≡ Some bs → wrong bs ≡ None) → (o ≡ None → wrong x ≡ None) → wrong (unwrap_or o x) ≡ None
lawful_or wrong (Some bs) x f e = f bs refl
lawful_or wrong None x f e = e refl

module _ (own : Layer) (wrong : List ℕ → Option ℕ) (h : Fields) (card : Card) where
  module _ (rows first : List (List ℕ)) (flags : List Bool) (work : List ℕ) (last : ℕ) (log : LogRead own wrong h card h.entries first flags work last) (slots : RowsRead own wrong h card (filled h) rows) where
    entries : LawfulLog wrong h card
    entries = log_of own wrong h card log.right

    pub remembered : Remembers h card (record { head = h; committed = h.entries; rows = rows; logged = flags; work = work })
    remembered = record {
      head_is = refl;
      committed_is = refl;
      row = λ s l. slots.row s l ∙ ap (λ (x : List ℕ). Some x)
          (⊎_elim
          (λ (k : s < filled h). below s (filled h) _ _ k ∙ sym (below s (filled h) _ _ k))
          (λ (k : filled h ≤ s). past s (filled h) _ _ k ∙ rw (logged_filled wrong h card s h.entries (λ i m. entries.counted i m) k) refl ∙ sym (past s (filled h) _ _ k))
          (cases_lt s (filled h)));
      flag = log.flag;
      block = log.block;
    }

    slot_lawful : (s : ℕ) → s < filled h → wrong (slot_record h card s) ≡ None
    slot_lawful s l =
        lawful_or wrong (newest_logged h card s h.entries) (card_slot card s)
        (λ bs k. logged_record wrong h card s h.entries bs (λ i m. entries.records i m) k)
        (λ none. (slots_of own wrong h card slots.right).records s l none)

    pub lawful : h.size ≤ 672 → RowsLawful wrong h rows
    lawful most s l =
        let is : slice_get rows s ≡ Some (slot_record h card s) = slots.row s (omega arith) ∙ ap (λ (x : List ℕ). Some x) (below s (filled h) _ _ l) in
        rw (get_or_from_slice_get rows s (slot_record h card s) [] is) (slot_lawful s l)

  -- a card whose head is read, and whose log and slots are right, mounts
  pub accepted : (store code : ℕ) → head_of own store code card ≡ Ok h → each (entry_check own wrong h card) h.entries ≡ Ok tt → each (slot_check own wrong h card) (filled h) ≡ Ok tt
      → mount_of own store code wrong card ≡ Ok h
  accepted store code a b c =
      ap (λ (r : Result Fields Fault). and_then r (λ x. and_then (body_check own wrong x card) (λ _. Ok x))) a ∙ rw (b, c) refl
