-- What the library's reading of a number answers, where no plus sign is in front. Assumes nothing.
use Rattle.std.proofs.Common.{◌≡◌, ◌≢◌, ℕ, ◌+◌, ◌^◌, ◌<◌, ◌≤◌, ◌&&◌, leb, eqb, List, [], ◌∷◌, get_or, lit≤, Some, None, Ok, Err, Decides, Option, Result, Bor, sym, refl, ap, ◌∙◌, inl, inr, arith}
use Rattle.std.specs.Option.{option_map}
use Rattle.std.specs.Result.{OkIff, result_ok}
use Rattle.std.specs.Str.Parse.{AllDigits, IsNumeral, digits_value, ParsesUnsigned, ExplainsUnsignedError, HasUnsignedDigitsIfOk}
use Rattle.std.specs.declared.num.ParseIntError.{ParseIntError}
use Rattle.std.specs.Char.{digit_value}
use Rattle.std.proofs.lemmas.Iterator.Adapters.{option_map_id}
use Rattle.std.proofs.lemmas.Str.Parse.{without_leading_plus_none}
use Rattle.std.proofs.lemmas.Bool.{le-leb, eq-eqb, ne_eqb, leb-true, eqb-true, eqb-false, cases_Bool, and_from, and_parts, cond-true, cond-false}
use Rattle.std.proofs.lemmas.Bool.Decides.{Decides-and, Decides-ltb}
use Rattle.words.specs.Numerals.{all_digits, is_numeral, read_number, plain_word, ReadsPlain}

decides_digits : (radix : ℕ) (bs : List ℕ) → Decides (all_digits radix bs) (AllDigits radix bs)
decides_digits radix [] = ((λ e. tt), (λ u. refl))
decides_digits radix (c ∷ cs) = Decides-and _ _ (Decides-ltb (digit_value c) radix) (decides_digits radix cs)

decides_numeral : (radix : ℕ) (bs : List ℕ) → Decides (is_numeral radix bs) (IsNumeral radix bs)
decides_numeral radix [] = ((λ e. grind arith), (λ h. absurd (omega (arith, h.0))))
decides_numeral radix (c ∷ cs) =
    ((λ e. (omega arith, (decides_digits radix (c ∷ cs)).0 e)), (λ h. (decides_digits radix (c ∷ cs)).1 h.1))

-- a result that is the number, seen by f, where the word is a numeral within the bound
module _ (radix most : ℕ) (ds : List ℕ) where
  read_some : IsNumeral radix ds → digits_value radix ds ≤ most → Some (digits_value radix ds) ≡ read_number radix most ds
  read_some h l = sym (cond-true _ _ _ (and_from _ _ ((decides_numeral radix ds).1 h) (le-leb _ _ l)))

  read_none : (IsNumeral radix ds → digits_value radix ds ≤ most → ⊥) → None ≡ read_number radix most ds
  read_none no_number =
      elim (cases_Bool (is_numeral radix ds && leb (digits_value radix ds) most)) [
        | inl e ↦ absurd (no_number ((decides_numeral radix ds).0 (and_parts _ _ e).0) (leb-true _ _ (and_parts _ _ e).1))
        | inr e ↦ sym (cond-false _ _ _ e)
      ]

  pub reads : {V E P : Type 0} (f : ℕ → V) (q : Result V E) → OkIff q P (f (digits_value radix ds)) → (P → IsNumeral radix ds × (digits_value radix ds ≤ most)) → (IsNumeral radix ds × (digits_value radix ds ≤ most) → P) → result_ok q ≡ option_map f (read_number radix most ds)
  reads {V} f (Ok x) h to from =
      let k = to h.0 in
      ap (λ (y : V). Some y) h.1 ∙ ap (λ (o : Option ℕ). option_map f o) (read_some k.0 k.1)
  reads f (Err e) h to from = ap (λ (o : Option ℕ). option_map f o) (read_none (λ n m. h (from (n, m))))

-- a plus sign is no digit
pub plus_is_none : (radix most : ℕ) (bs : List ℕ) → radix ≤ 36 → get_or bs 0 0 ≡ 43 → None ≡ read_number radix most bs
plus_is_none radix most [] l e = absurd (omega arith)
plus_is_none radix most (c ∷ cs) l e = read_none radix most (c ∷ cs) (λ h m. let d : digit_value 43 < radix = rw e at h.1.0 in omega arith)

-- a word that has no plus sign in front
plain_is : (word : List ℕ) → get_or word 0 0 ≢ 43 → plain_word word ≡ Some word
plain_is word p = rw (ne_eqb (get_or word 0 0) 43 p)

plus_is : (word : List ℕ) → get_or word 0 0 ≡ 43 → plain_word word ≡ None
plus_is word p = rw (eq-eqb (get_or word 0 0) 43 p)

plain_parts : (word : List ℕ) (o : Option (Bor (List ℕ))) (x : Bor (List ℕ)) → option_map (λ y. y.now) o ≡ plain_word word → o ≡ Some x → (get_or word 0 0 ≢ 43) × (x.now ≡ word)
plain_parts word o x p e =
    let same : Some x.now ≡ plain_word word = sym (ap (λ (y : Option (Bor (List ℕ))). option_map (λ z. z.now) y) e) ∙ p in
    elim (cases_Bool (eqb (get_or word 0 0) 43)) [
      | inl t ↦ let n : Some x.now ≡ None = rw t at same in absurd (cc n)
      | inr f ↦ let n : Some x.now ≡ Some word = rw f at same in (eqb-false _ _ f, cc n)
    ]

-- what is made of a word by a reader of plain ones
pub plain_made : {N E : Type 0} (gives : List ℕ → Result N E → Type 0) (word : List ℕ) (o : Option (Bor (List ℕ))) (x : Bor (List ℕ)) (q : Result N E) (r : Option N) → option_map (λ y. y.now) o ≡ plain_word word → o ≡ Some x → gives x.now q → r ≡ result_ok q → ReadsPlain gives word r
plain_made gives word o x q r p e g m =
    let parts = plain_parts word o x p e in
    record {
      plus = λ s. absurd (cc (s, plain_is word parts.0));
      plain = λ _. (q, (rw parts.1 at g), m);
    }

pub plainly : {N E : Type 0} {gives : List ℕ → Result N E → Type 0} {word : List ℕ} {r : Option N} (x : Option N) → ReadsPlain gives word r → (get_or word 0 0 ≡ 43 → None ≡ x) → (get_or word 0 0 ≢ 43 → (q : Result N E) → gives word q → result_ok q ≡ x) → r ≡ x
plainly {word = word} x h none some =
    elim (cases_Bool (eqb (get_or word 0 0) 43)) [
      | inl e ↦ h.plus (plus_is word (eqb-true _ _ e)) ∙ none (eqb-true _ _ e)
      | inr e ↦ let m = h.plain (plain_is word (eqb-false _ _ e)) in m.2 ∙ some (eqb-false _ _ e) m.0 m.1
    ]

-- an unsigned number of k bits
pub unsigned : {E : Type 0} (k radix most : ℕ) (word : List ℕ) (q : Result ℕ E) → most + 1 ≡ 2 ^ k → get_or word 0 0 ≢ 43 → ParsesUnsigned k radix word q → result_ok q ≡ read_number radix most word
unsigned k radix most word q m p h =
    let g : OkIff q (IsNumeral radix word × (digits_value radix word < 2 ^ k)) (digits_value radix word) = rw (without_leading_plus_none word p) at h in
    reads radix most word (λ x. x) q g (λ n. let l = n.1 in (n.0, omega arith)) (λ n. let l = n.1 in (n.0, omega arith)) ∙ option_map_id _

-- a word that writes an unsigned number of k bits
abbrev pub PlainUnsigned : ℕ → List ℕ → Option ℕ → Type 0
PlainUnsigned k = ReadsPlain (λ t (q : Result ℕ ParseIntError). ParsesUnsigned k 10 t q × ExplainsUnsignedError 10 t q × HasUnsignedDigitsIfOk t q)

pub plain_number : (k most : ℕ) {word : List ℕ} {r : Option ℕ} → most + 1 ≡ 2 ^ k → PlainUnsigned k word r → r ≡ read_number 10 most word
plain_number k most {word} m h =
    plainly _ h (plus_is_none 10 most word (lit≤ tt)) (λ p q g. unsigned k 10 most word q m p g.0)

-- a plain word's digits in another radix
pub read_radix : {E : Type 0} (radix : ℕ) (word : List ℕ) (o : Option (Bor (List ℕ))) (x : Bor (List ℕ)) (q : Result ℕ E) → option_map (λ y. y.now) o ≡ plain_word word → o ≡ Some x → ParsesUnsigned 64 radix x.now q → result_ok q ≡ read_number radix 0xFFFF_FFFF_FFFF_FFFF word
read_radix radix word o x q p e h =
    let parts = plain_parts word o x p e in
    unsigned 64 radix 0xFFFF_FFFF_FFFF_FFFF word q refl parts.0 (rw parts.1 at h)
