-- How a line is cut into words. Assumes nothing.
use Rattle.std.specs.Prelude.{ℕ, not, List, map, length, filter, ◌==◌}
use Rattle.std.specs.List.{slice_split, before_first}
use Rattle.std.specs.Borrow.{Bor}

-- what the references point to
abbrev pub texts : List (Bor (List ℕ)) → List (List ℕ)
texts words = map (λ x. x.now) words

-- the pieces of a text between the bytes `at`, empty ones too
abbrev pub cut : ℕ → List ℕ → List (List ℕ)
cut at text = slice_split (λ b. b == at) text

-- the pieces that are not empty
abbrev pub filled : List (List ℕ) → List (List ℕ)
filled pieces = filter (λ piece. not (length piece == 0)) pieces

-- what a line has before its comment, which a `#` starts
abbrev pub uncommented : List ℕ → List ℕ
uncommented line = before_first (λ b. b == 35) line

-- a line's words, between spaces
abbrev pub words_of : List ℕ → List (List ℕ)
words_of line = filled (cut 32 (uncommented line))
