-- What the library's reading of a signed number answers, and a word that is no hexadecimal seed. Assumes nothing.
use Rattle.std.proofs.Common.{◌≡◌, ◌≢◌, ℕ, ◌<◌, ◌≤◌, eqb, List, [], ◌∷◌, get_or, length, lit≤, ℤ, pos, neg_ℤ, None, Option, Result, refl, ap, inl, inr, arith, codes}
use mir.Syntax.{w32}
use Rattle.std.specs.Option.{option_map}
use Rattle.std.specs.Result.{OkIff, result_ok}
use Rattle.std.specs.Str.Parse.{AllDigits, digits_value, ParsesSigned, ExplainsSignedError, HasSignedDigitsIfOk}
use Rattle.std.specs.declared.num.ParseIntError.{ParseIntError}
use Rattle.std.proofs.lemmas.Str.Parse.{IsNumeralModel, numerals_by_value, tells_digits, parse_signed_plain, parse_signed_minus}
use Rattle.std.proofs.lemmas.Bool.{eqb-true, eqb-false, cases_Bool}
use Rattle.std.specs.Str.Pattern.{LacksTextAt}
use Rattle.std.proofs.lemmas.Grind.{common_steps}
use Rattle.words.specs.Numerals.{read_number, ReadsPlain}
use Rattle.words.proofs.PlainNumbers.{reads, plainly, plus_is_none}
use Rattle.parsing.specs.Numerals.{read_seed, read_offset}

-- a signed number of 32 bits
own : IsNumeralModel (AllDigits 10) (digits_value 10)
own = numerals_by_value (AllDigits 10) tells_digits

within : {E : Type 0} (most : ℕ) (ds : List ℕ) (f : ℕ → ℤ) (q : Result ℤ E) (bound : Type 0) → OkIff q (AllDigits 10 ds × (0 < length ds) × bound) (f (digits_value 10 ds)) → (bound → digits_value 10 ds ≤ most) → (digits_value 10 ds ≤ most → bound) → result_ok q ≡ option_map f (read_number 10 most ds)
within most ds f q bound h to from = reads 10 most ds f q h (λ n. ((n.1, n.0), to n.2)) (λ n. (n.0.1, n.0.0, from n.1))

signed : {E : Type 0} (word : List ℕ) (q : Result ℤ E) → get_or word 0 0 ≢ 43 → ParsesSigned w32 10 word q → result_ok q ≡ read_offset word
signed [] q p h =
    within 0x7FFF_FFFF [] pos q _ (parse_signed_plain own w32 [] q h p (λ e. absurd (omega arith))) (λ l. omega arith) (λ l. omega arith)
signed (a ∷ rest) q p h =
    elim (cases_Bool (eqb a 45)) [
      | inl e ↦ rw e (within 0x8000_0000 rest (λ n. neg_ℤ (pos n)) q _ (parse_signed_minus own w32 (a ∷ rest) q h (eqb-true _ _ e)) (λ l. omega arith) (λ l. omega arith))
      | inr e ↦ rw e (within 0x7FFF_FFFF (a ∷ rest) pos q _ (parse_signed_plain own w32 (a ∷ rest) q h p (eqb-false _ _ e)) (λ l. omega arith) (λ l. omega arith))
    ]

plus_no_offset : (word : List ℕ) → get_or word 0 0 ≡ 43 → None ≡ read_offset word
plus_no_offset [] e = absurd (omega arith)
plus_no_offset (a ∷ rest) e = rw e (ap (λ (o : Option ℕ). option_map pos o) (plus_is_none 10 0x7FFF_FFFF (43 ∷ rest) (lit≤ tt) refl))

-- a word that writes a signed number of 32 bits
abbrev pub PlainSigned : List ℕ → Option ℤ → Type 0
PlainSigned = ReadsPlain (λ t (q : Result ℤ ParseIntError). ParsesSigned w32 10 t q × ExplainsSignedError 10 t q × HasSignedDigitsIfOk t q)

pub plain_offset : {word : List ℕ} {r : Option ℤ} → PlainSigned word r → r ≡ read_offset word
plain_offset {word} h = plainly _ h (plus_no_offset word) (λ p q g. signed word q p g.0)

-- a word that does not begin with 0x
pub no_hex : (word : List ℕ) → LacksTextAt (codes "0x") word 0 → read_number 10 0xFFFF_FFFF_FFFF_FFFF word ≡ read_seed word
no_hex word h = grind (arith, common_steps)
