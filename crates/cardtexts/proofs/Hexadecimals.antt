-- Sixteen hexadecimal digits, as they are printed. Assumes nothing.
use Rattle.std.proofs.Common.{◌≡◌, ℕ, zero, suc, ◌+◌, ◌-◌, ◌^◌, ◌/◌, ◌%◌, ◌<◌, ◌≤◌, Bool, true, false, cond, List, [], ◌∷◌, ◌++◌, length, replicate, append-nil, sym, refl, ap, ◌∙◌, arith, ◌==◌}
use Rattle.std.proofs.lemmas.Bool.{eqb-true}
use Rattle.std.specs.Fmt.{digit_glyph, digits, digits_onto, number_padding, padded_integral, char_count, format_spec}
use Rattle.cardtexts.specs.Texts.{hexadecimals}

-- one more of the same, at either end
replicate-last : (k x : ℕ) (rest : List ℕ) → replicate k x ++ (x ∷ rest) ≡ x ∷ (replicate k x ++ rest)
replicate-last zero x rest = refl
replicate-last (suc k) x rest = ap (λ l. x ∷ l) (replicate-last k x rest)

-- the digits of 0 are zeros
hexadecimals-zero : (k : ℕ) (rest : List ℕ) → hexadecimals k 0 rest ≡ replicate k 48 ++ rest
unfolding hexadecimals
hexadecimals-zero zero rest = refl
hexadecimals-zero (suc k) rest = hexadecimals-zero k (48 ∷ rest) ∙ replicate-last k 48 rest

-- a text before others, and zeros before it to make k
abbrev widened : ℕ → List ℕ → List ℕ → List ℕ
widened k rest text = replicate (k + length rest - length text) 48 ++ text

-- one digit more: a number's last, with its other digits before it, or zeros where it has none
digit_before : (k room n : ℕ) (rest : List ℕ) (one : Bool) → (n / 16 == 0) ≡ one
    → ((n / 16 ≡ 0 → ⊥) → widened k (digit_glyph false (n % 16) ∷ rest) (digits_onto room 16 false (n / 16) (digit_glyph false (n % 16) ∷ rest)) ≡ hexadecimals k (n / 16) (digit_glyph false (n % 16) ∷ rest))
    → widened (suc k) rest (cond one (digit_glyph false (n % 16) ∷ rest) (digits_onto room 16 false (n / 16) (digit_glyph false (n % 16) ∷ rest))) ≡ hexadecimals k (n / 16) (digit_glyph false (n % 16) ∷ rest)
digit_before k room n rest true is before =
    let none : n / 16 ≡ 0 = eqb-true (n / 16) 0 is in
    let zeros : suc k + length rest - suc (length rest) ≡ k = omega arith in
    rw (none, zeros, hexadecimals-zero) refl
digit_before k room n rest false is before =
    let more : suc k + length rest ≡ k + suc (length rest) = omega arith in
    rw more (before (λ e. cc))

more_digits : (k n : ℕ) → n < 16 ^ suc k → (n / 16 ≡ 0 → ⊥) → 0 < k
more_digits zero n small more = absurd (more (omega arith))
more_digits (suc k) n small more = omega arith

zeros_before : (k room n : ℕ) (rest : List ℕ) → k ≤ room → 0 < k → n < 16 ^ k → widened k rest (digits_onto room 16 false n rest) ≡ hexadecimals k n rest
unfolding hexadecimals
zeros_before zero room n rest fits some small = absurd (omega arith)
zeros_before (suc k) zero n rest fits some small = absurd (omega arith)
zeros_before (suc k) (suc room) n rest fits some small =
    digit_before k room n rest (n / 16 == 0) refl (λ more. zeros_before k room (n / 16) (digit_glyph false (n % 16) ∷ rest) (omega arith) (more_digits k n small more) (omega arith))

-- the digits of a number, whatever the room for them is called
in_room : (room n : ℕ) → room ≡ 64 → digits_onto room 16 false n [] ≡ digits 16 false n
unfolding digits
in_room room n e = ap (λ r. digits_onto r 16 false n []) e

-- the same as std pads it to sixteen
padded_text : (text : List ℕ) → padded_integral (format_spec 32 0 4 16 (2 ^ 64 - 1)) false [] text ≡ widened 16 [] text
unfolding padded_integral char_count
padded_text text =
    let left : number_padding (format_spec 32 0 4 16 (2 ^ 64 - 1)) false [] (length text) ≡ 16 - length text = omega arith in
    simp append-nil (ap (λ k. replicate k 48 ++ text) left)

sixteen_in : (room n : ℕ) → room ≡ 64 → n < 2 ^ 64 → widened 16 [] (digits 16 false n) ≡ hexadecimals 16 n []
sixteen_in room n e small = ap (widened 16 []) (sym (in_room room n e)) ∙ zeros_before 16 room n [] (omega arith) (omega arith) (omega arith)

-- what `{:016x}` writes of a number of 64 bits
pub sixteen_digits : (n : ℕ) → n < 2 ^ 64 → padded_integral (format_spec 32 0 4 16 (2 ^ 64 - 1)) false [] (digits 16 false n) ≡ hexadecimals 16 n []
sixteen_digits n small = padded_text (digits 16 false n) ∙ sixteen_in 64 n refl small
