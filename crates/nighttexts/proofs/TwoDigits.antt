-- A byte in two hexadecimal digits, as it is printed. Assumes nothing.
use Rattle.std.proofs.Common.{◌≡◌, ℕ, zero, suc, ◌-◌, ◌^◌, ◌/◌, ◌%◌, ◌<◌, ◌≤◌, Bool, true, false, cond, List, [], ◌∷◌, ◌++◌, length, replicate, append-nil, sym, refl, ap, ◌∙◌, arith, ◌==◌}
use Rattle.std.proofs.lemmas.Bool.{eqb-true}
use Rattle.std.specs.Fmt.{digit_glyph, digits, digits_onto, number_padding, padded_integral, char_count, format_spec}
use Rattle.nighttexts.specs.Memories.{byte_text}

-- a byte's digits without a zero before them
abbrev short : ℕ → Bool → List ℕ
short n one = cond one (digit_glyph false (n % 16) ∷ []) (byte_text n)

-- in any room that has two places
digits_in : (room n : ℕ) → 2 ≤ room → n < 256 → digits_onto room 16 false n [] ≡ short n (n / 16 == 0)
digits_in zero n fits small = absurd (omega arith)
digits_in (suc zero) n fits small = absurd (omega arith)
digits_in (suc (suc room)) n fits small =
    let last : n / 16 / 16 ≡ 0 = omega arith in
    let high : n / 16 % 16 ≡ n / 16 = omega arith in
    rw (last, high) refl

in_room : (room n : ℕ) → room ≡ 64 → n < 256 → digits 16 false n ≡ short n (n / 16 == 0)
unfolding digits
in_room room n e small = ap (λ r. digits_onto r 16 false n []) (sym e) ∙ digits_in room n (omega arith) small

widened_text : (text : List ℕ) → padded_integral (format_spec 32 0 4 2 (2 ^ 64 - 1)) false [] text ≡ replicate (2 - length text) 48 ++ text
unfolding padded_integral char_count
widened_text text =
    let left : number_padding (format_spec 32 0 4 2 (2 ^ 64 - 1)) false [] (length text) ≡ 2 - length text = omega arith in
    simp append-nil (ap (λ k. replicate k 48 ++ text) left)

both : (n : ℕ) (one : Bool) → (n / 16 == 0) ≡ one → replicate (2 - length (short n one)) 48 ++ short n one ≡ byte_text n
both n true is = let none : n / 16 ≡ 0 = eqb-true (n / 16) 0 is in rw none refl
both n false is = refl

-- what `{:02x}` writes of a byte
pub two_digits : (n : ℕ) → n < 256 → padded_integral (format_spec 32 0 4 2 (2 ^ 64 - 1)) false [] (digits 16 false n) ≡ byte_text n
two_digits n small =
    ap (λ t. padded_integral (format_spec 32 0 4 2 (2 ^ 64 - 1)) false [] t) (in_room 64 n refl small) ∙ widened_text (short n (n / 16 == 0)) ∙ both n (n / 16 == 0) refl
