-- What words say of which each is to be a number. Assumes nothing.
use Rattle.std.specs.Prelude.{ℕ, List, [], ◌∷◌, ◌++◌, Ok, Option, Result}
use Rattle.languages.specs.Expecting.{or_else}

-- the numbers so far and those of these words, by `read`; e is expected where a word is none
abbrev pub read_all : {N E : Type 0} → (List ℕ → Option N) → E → List N → List (List ℕ) → Result (List N) E
read_all read e before [] = Ok before
read_all read e before (word ∷ words) = or_else (read word) e (λ n. read_all read e (before ++ (n ∷ [])) words)
