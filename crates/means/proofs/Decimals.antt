-- Three decimals, as they are printed. Assumes nothing.
use Rattle.std.proofs.Common.{◌≡◌, ℕ, ◌+◌, ◌-◌, ◌^◌, ◌/◌, ◌%◌, ◌<◌, ◌≤◌, Bool, true, false, ltb, [], ◌∷◌, ◌++◌, decimal, refl, ap, ◌∙◌, arith}
use Rattle.std.proofs.lemmas.Bool.{ltb-true, ltb-false}
use Rattle.std.proofs.lemmas.Fmt.{decimal_digit, decimal_step}
use Rattle.std.specs.Fmt.{padded_integral, char_count, format_spec}

-- a number with two digits, and one with three
two_places : (n : ℕ) → 10 ≤ n → n < 100 → decimal n ≡ (48 + n / 10) ∷ (48 + n % 10) ∷ []
two_places n low high = decimal_step n low (omega arith) ∙ ap (λ l. l ++ (48 + n % 10) ∷ []) (decimal_digit (n / 10) (omega arith))

three_places : (n : ℕ) → 100 ≤ n → n < 1000 → decimal n ≡ (48 + n / 10 / 10) ∷ (48 + n / 10 % 10) ∷ (48 + n % 10) ∷ []
three_places n low high = decimal_step n (omega arith) (omega arith) ∙ ap (λ l. l ++ (48 + n % 10) ∷ []) (two_places (n / 10) (omega arith) (omega arith))

padded_by : (n : ℕ) (one two : Bool) → ltb n 10 ≡ one → ltb n 100 ≡ two → n < 1000
    → padded_integral (format_spec 32 0 4 3 (2 ^ 64 - 1)) false [] (decimal n) ≡ (48 + n / 100) ∷ (48 + n / 10 % 10) ∷ (48 + n % 10) ∷ []
unfolding padded_integral char_count
padded_by n true two a b small =
    let l : n < 10 = ltb-true n 10 a in
    let x : n / 100 ≡ 0 = omega arith in let y : n / 10 % 10 ≡ 0 = omega arith in let z : n % 10 ≡ n = omega arith in
    rw (decimal_digit n l, x, y, z)
padded_by n false true a b small =
    let l : 10 ≤ n = ltb-false n 10 a in let h : n < 100 = ltb-true n 100 b in
    let x : n / 100 ≡ 0 = omega arith in let y : n / 10 % 10 ≡ n / 10 = omega arith in
    rw (two_places n l h, x, y)
padded_by n false false a b small =
    let l : 100 ≤ n = ltb-false n 100 b in
    let x : n / 10 / 10 ≡ n / 100 = omega arith in
    rw (three_places n l small, x)

-- what `{:03}` writes of what is left of t after whole thousands
pub three_digits : (t : ℕ) → padded_integral (format_spec 32 0 4 3 (2 ^ 64 - 1)) false [] (decimal (t % 1000))
    ≡ decimal (t / 100 % 10) ++ (decimal (t / 10 % 10) ++ decimal (t % 10))
three_digits t =
    let n = t % 1000 in
    let x : n / 100 ≡ t / 100 % 10 = omega arith in let y : n / 10 % 10 ≡ t / 10 % 10 = omega arith in let z : n % 10 ≡ t % 10 = omega arith in
    padded_by n (ltb n 10) (ltb n 100) refl refl (omega arith)
    ∙ rw (x, y, z, decimal_digit (t / 100 % 10) (omega arith), decimal_digit (t / 10 % 10) (omega arith), decimal_digit (t % 10) (omega arith)) refl
