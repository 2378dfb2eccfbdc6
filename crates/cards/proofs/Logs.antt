-- What the right entries of a log say of its slots. Assumes nothing.
use Rattle.std.proofs.Common.{◌≡◌, ℕ, zero, suc, ◌<◌, ◌≤◌, Bool, true, false, cond, List, Some, None, Option, refl, sym, ◌∙◌, arith}
use Rattle.std.proofs.lemmas.Bool.Decides.{nat_tests}
use Rattle.sampling.specs.Samples.{is_slot}
use Rattle.sampling.proofs.SlotLaws.{slot_below, slot_counted}
use Rattle.layouts.specs.Heads.{Fields}
use Rattle.cards.specs.Cards.{Card, card_entry, entry_slot, newest_logged, filled}

pub logged_none : (h : Fields) (card : Card) (s : ℕ) → newest_logged h card s 0 ≡ None
unfolding newest_logged
logged_none h card s = refl

pub logged_step : (h : Fields) (card : Card) (s i : ℕ)
    → newest_logged h card s (suc i) ≡ cond (is_slot (entry_slot h card i) s) (Some (card_entry h card i).bytes) (newest_logged h card s i)
unfolding newest_logged
logged_step h card s i = refl

-- a step of `newest_logged`, by whether the entry has the slot
logged_by : (wrong : List ℕ → Option ℕ) (b : Bool) (x y : List ℕ) (o : Option (List ℕ)) → wrong x ≡ None → cond b (Some x) o ≡ Some y → (o ≡ Some y → wrong y ≡ None) → wrong y ≡ None
logged_by wrong true x y o w e f = let same : x ≡ y = cc in rw same at w
logged_by wrong false x y o w e f = f e

module _ (wrong : List ℕ → Option ℕ) (h : Fields) (card : Card) where
  -- what entries with records leave to a slot is a record
  pub logged_record : (s n : ℕ) (bs : List ℕ) → ((i : ℕ) → i < n → wrong (card_entry h card i).bytes ≡ None) → newest_logged h card s n ≡ Some bs → wrong bs ≡ None
  logged_record s zero bs records l = absurd (cc (logged_none h card s))
  logged_record s (suc i) bs records l =
      logged_by wrong (is_slot (entry_slot h card i) s) (card_entry h card i).bytes bs (newest_logged h card s i) (records i (omega arith)) (sym (logged_step h card s i) ∙ l)
      (λ k. logged_record s i bs (λ j m. records j (omega arith)) k)

  not_slot : (o : Option ℕ) (s : ℕ) → ((i : ℕ) → o ≡ Some i → i < filled h) → filled h ≤ s → is_slot o s ≡ false
  not_slot None s f l = refl
  not_slot (Some i) s f l = let k = f i refl in grind (arith, nat_tests)

  -- entries up to the count leave nothing to a slot that is not filled
  pub logged_filled : (s n : ℕ) → ((i : ℕ) → i < n → (card_entry h card i).number ≤ h.count) → filled h ≤ s → newest_logged h card s n ≡ None
  logged_filled s zero counted l = logged_none h card s
  logged_filled s (suc i) counted l =
      let k = (card_entry h card i).number in
      let none : is_slot (entry_slot h card i) s ≡ false =
      not_slot (entry_slot h card i) s
      (λ t has. omega (arith, slot_below h.seed h.size k t has, slot_counted h.seed h.size k t has, counted i (omega arith))) l in
      rw (logged_step, none) (logged_filled s i (λ j m. counted j (omega arith)) l)
