-- The rows of a sample block, and whether it holds a slot of the log. Assumes nothing.
use borrow.Rule.Slice.PartMut.{mid_of}
use mathlib.Core.Bool.{beq}
use Rattle.std.proofs.Common.{◌≡◌, ℕ, ◌+◌, ◌-◌, ◌*◌, Bool, true, false, List, [], ◌∷◌, ◌++◌, take, drop, refl, ap, ◌∙◌, arith}
use Rattle.std.specs.List.{flat_map, list_any}
use Rattle.workings.specs.Refreshes.{any, joined, of_block}

-- these rows' bytes are the rows laid flat
joined_is : (xs : List (List ℕ)) → flat_map (λ x. x) xs ≡ joined xs
unfolding joined
joined_is [] = refl
joined_is (x ∷ xs) = ap (λ l. x ++ l) (joined_is xs)

any_is : (xs : List Bool) → list_any (λ x. beq x true) xs ≡ any xs
unfolding any
any_is [] = refl
any_is (true ∷ xs) = refl
any_is (false ∷ xs) = any_is xs

-- the part of a list from slot `first` on is that of the block
part_is : {X : Type 0} (xs : List X) (b first n : ℕ) → first ≡ 42 * b → n ≡ 42 → mid_of first (first + n - first) xs ≡ of_block xs b
part_is xs b first n f k =
    let e : first + n - first ≡ 42 = omega arith in
    ap (λ i. take i (drop first xs)) e ∙ ap (λ i. take 42 (drop i xs)) f

pub rows_flat : (xs : List (List ℕ)) (b first n : ℕ) → first ≡ 42 * b → n ≡ 42 → flat_map (λ x. x) (mid_of first (first + n - first) xs) ≡ joined (of_block xs b)
rows_flat xs b first n f k = joined_is _ ∙ ap joined (part_is xs b first n f k)

pub flags_any : (xs : List Bool) (b first n : ℕ) → first ≡ 42 * b → n ≡ 42 → list_any (λ x. beq x true) (mid_of first (first + n - first) xs) ≡ any (of_block xs b)
flags_any xs b first n f k = any_is _ ∙ ap any (part_is xs b first n f k)
