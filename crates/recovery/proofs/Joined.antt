-- A sample block made of its rows, and a block without a slot of the log. Assumes nothing.
use Rattle.std.proofs.Common.{◌≡◌, Bool, true, false, ◌||◌, ℕ, zero, suc, ◌+◌, ◌*◌, ◌/◌, ◌%◌, ◌<◌, ◌≤◌, List, [], ◌∷◌, ◌++◌, length, take, drop, Some, refl, sym, ap, ◌∙◌, arith}
use Rattle.std.specs.List.{slice_get}
use Rattle.std.proofs.lemmas.Grind.{common_steps}
use Rattle.std.proofs.lemmas.List.{length-take, length-drop, take-append-le, take_all, drop-drop, drop-append-le, drop_all}
use Rattle.std.proofs.lemmas.Option.{gets, slice_get_within}
use Rattle.layouts.specs.Slots.{slot_at}
use Rattle.workings.specs.Refreshes.{of_block, any, joined}

-- one after another
joined_more : (x : List ℕ) (xs : List (List ℕ)) → joined (x ∷ xs) ≡ x ++ joined xs
unfolding joined
joined_more x xs = refl

joined_none : joined [] ≡ []
unfolding joined
joined_none = refl

-- lists of twelve
abbrev pub Twelves : List (List ℕ) → Type 0
Twelves xs = (i : ℕ) (x : List ℕ) → slice_get xs i ≡ Some x → length x ≡ 12

joined_long : (xs : List (List ℕ)) → Twelves xs → length (joined xs) ≡ 12 * length xs
joined_long [] h = ap length joined_none
joined_long (x ∷ xs) h =
    let first = h 0 x refl in
    let rest = joined_long xs (λ i. h (suc i)) in
    ap length (joined_more x xs) ∙ grind (arith, common_steps)

take_front : (x ys : List ℕ) → length x ≡ 12 → take 12 (x ++ ys) ≡ x
take_front x ys l = take-append-le 12 x ys (omega arith) ∙ take_all 12 x (omega arith)

drop_front : (n : ℕ) (x ys : List ℕ) → length x ≡ 12 → drop (12 + n) (x ++ ys) ≡ drop n ys
drop_front n x ys l =
    sym (drop-drop n 12 (x ++ ys)) ∙ ap (drop n) (drop-append-le 12 x ys (omega arith) ∙ ap (λ (k : List ℕ). k ++ ys) (drop_all 12 x (omega arith)))

joined_at : (xs : List (List ℕ)) (i : ℕ) (x : List ℕ) → Twelves xs → slice_get xs i ≡ Some x → slot_at (joined xs) i ≡ x
joined_at [] i x h e = absurd cc
joined_at (y ∷ xs) zero x h e =
    let same : y ≡ x = cc in
    ap (take 12) (joined_more y xs) ∙ take_front y (joined xs) (h 0 y refl) ∙ same
joined_at (y ∷ xs) (suc i) x h e =
    let n : 12 * suc i ≡ 12 + 12 * i = omega arith in
    ap (λ k. take 12 (drop k (joined (y ∷ xs)))) n ∙ ap (λ (l : List ℕ). take 12 (drop (12 + 12 * i) l)) (joined_more y xs)
    ∙ ap (take 12) (drop_front (12 * i) y (joined xs) (h 0 y refl))
    ∙ joined_at xs i x (λ j. h (suc j)) e

-- what belongs to a block
get_taken : {A : Type 0} (n i : ℕ) (xs : List A) → i < n → slice_get (take n xs) i ≡ slice_get xs i
get_taken n i xs l = grind (arith, common_steps, gets)

get_dropped : {A : Type 0} (n i : ℕ) (xs : List A) → slice_get (drop n xs) i ≡ slice_get xs (n + i)
get_dropped n i xs = grind (arith, common_steps, gets)

block_get : {A : Type 0} (xs : List A) (b i : ℕ) → i < 42 → slice_get (of_block xs b) i ≡ slice_get xs (42 * b + i)
block_get xs b i l = get_taken 42 i (drop (42 * b) xs) l ∙ get_dropped (42 * b) i xs

block_here : {A : Type 0} (xs : List A) (b s : ℕ) → s / 42 ≡ b → slice_get (of_block xs b) (s % 42) ≡ slice_get xs s
block_here xs b s e =
    let n : 42 * b + s % 42 ≡ s = omega arith in
    block_get xs b (s % 42) (omega arith) ∙ ap (slice_get xs) n

block_long : {A : Type 0} (xs : List A) (b : ℕ) → 42 * b + 42 ≤ length xs → length (of_block xs b) ≡ 42
block_long xs b l = omega (arith, length-take 42 (drop (42 * b) xs), length-drop (42 * b) xs)

module _ (rows : List (List ℕ)) (twelves : Twelves rows) (b : ℕ) (fit : 42 * b + 42 ≤ length rows) where
  block_twelves : Twelves (of_block rows b)
  block_twelves i x e =
      let within : i < 42 = (let l = slice_get_within (of_block rows b) i x e in omega (arith, block_long rows b fit)) in
      twelves (42 * b + i) x (sym (block_get rows b i within) ∙ e)

  -- a block of rows has 504 bytes, and each slot's twelve are its row
  pub rows_long : length (joined (of_block rows b)) ≡ 504
  rows_long = omega (arith, joined_long (of_block rows b) block_twelves, block_long rows b fit)

  pub row_here : (s : ℕ) (x : List ℕ) → s / 42 ≡ b → slice_get rows s ≡ Some x → slot_at (joined (of_block rows b)) (s % 42) ≡ x
  row_here s x e g = joined_at (of_block rows b) (s % 42) x block_twelves (block_here rows b s e ∙ g)

-- none of some flags is set
any_more : (x : Bool) (xs : List Bool) → any (x ∷ xs) ≡ (x || any xs)
unfolding any
any_more x xs = refl

none_of_two : (a b : Bool) → (a || b) ≡ false → (a ≡ false) × (b ≡ false)
none_of_two true b e = absurd cc
none_of_two false b e = (refl, e)

none_set : (xs : List Bool) (i : ℕ) (x : Bool) → any xs ≡ false → slice_get xs i ≡ Some x → x ≡ false
none_set [] i x a e = absurd cc
none_set (y ∷ xs) zero x a e = let same : y ≡ x = cc in sym same ∙ (none_of_two y (any xs) (sym (any_more y xs) ∙ a)).0
none_set (y ∷ xs) (suc i) x a e = none_set xs i x (none_of_two y (any xs) (sym (any_more y xs) ∙ a)).1 e

-- a slot of a block that the log does not touch has no entry
pub untouched : (flags : List Bool) (b s : ℕ) (x : Bool) → any (of_block flags b) ≡ false → s / 42 ≡ b → slice_get flags s ≡ Some x → x ≡ false
untouched flags b s x a e g = none_set (of_block flags b) (s % 42) x a (block_here flags b s e ∙ g)
