-- A number within a limit below that of its type. Assumes nothing.
use Rattle.std.proofs.Common.{◌≡◌, ℕ, ◌≤◌, true, ◌&&◌, leb, List, Some, None, refl, sym, ◌∙◌, inl, inr, arith}
use Rattle.std.specs.Str.Parse.{digits_value}
use Rattle.std.proofs.lemmas.Bool.{cases_Bool, cond-true, cond-false, and_from, and_parts, le-leb, leb-true}
use Rattle.words.specs.Numerals.{is_numeral, read_number}
use Rattle.words.proofs.PlainNumbers.{PlainUnsigned, plain_number}

module _ (word : List ℕ) where
  reads : (most : ℕ) → is_numeral 10 word ≡ true → digits_value 10 word ≤ most → read_number 10 most word ≡ Some (digits_value 10 word)
  reads most numeral l =
      cond-true (is_numeral 10 word && leb (digits_value 10 word) most) (Some (digits_value 10 word)) None
      (and_from (is_numeral 10 word) (leb (digits_value 10 word) most) numeral (le-leb (digits_value 10 word) most l))

  module _ (most less : ℕ) where
    within : (x : ℕ) → Some x ≡ read_number 10 most word → x ≤ less → Some x ≡ read_number 10 less word
    within x r l =
        elim (cases_Bool (is_numeral 10 word && leb (digits_value 10 word) most)) [
          | inl e ↦
              let same : Some x ≡ Some (digits_value 10 word) = r ∙ cond-true _ _ _ e in
              let value : x ≡ digits_value 10 word = cc in
              same ∙ sym (reads less (and_parts _ _ e).0 (omega arith))
          | inr e ↦ let none : Some x ≡ None = r ∙ cond-false _ _ _ e in absurd (cc none)
        ]

    none_within : less ≤ most → None ≡ read_number 10 most word → None ≡ read_number 10 less word
    none_within l r =
        elim (cases_Bool (is_numeral 10 word && leb (digits_value 10 word) less)) [
          | inl e ↦
              let parts = and_parts (is_numeral 10 word) (leb (digits_value 10 word) less) e in
              let under : digits_value 10 word ≤ less = leb-true (digits_value 10 word) less parts.1 in
              let some : None ≡ Some (digits_value 10 word) = r ∙ reads most parts.0 (omega arith) in
              absurd (cc some)
          | inr e ↦ sym (cond-false _ _ _ e)
        ]

  pub number_within : (less x : ℕ) → PlainUnsigned 32 word (Some x) → x ≤ less → Some x ≡ read_number 10 less word
  number_within less x plain l = within 0xFFFF_FFFF less x (plain_number 32 0xFFFF_FFFF refl plain) l

  pub no_number_within : (less : ℕ) → PlainUnsigned 32 word None → less ≤ 0xFFFF_FFFF → None ≡ read_number 10 less word
  no_number_within less plain l = none_within 0xFFFF_FFFF less l (plain_number 32 0xFFFF_FFFF refl plain)
