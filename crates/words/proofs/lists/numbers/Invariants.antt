use Rattle.std.proofs.Common.{◌≡◌, ℕ, List, Option, vec_items}
use Rattle.words.specs.Numerals.{ReadsPlain}
use Rattle.words.proofs.Taken.{Taken}
use Rattle.words.proofs.lists.numbers.Given as goal

abbrev pub invariant-loop-word : goal.invariant-loop-word
invariant-loop-word g l =
    (read : List ℕ → Option g.row.N.Denot) → ((word : List ℕ) (r : Option g.row.N.Denot) → ReadsPlain g.N.FromStr.from_str_gives word r → r ≡ read word) → Taken read l.expected l.words l.word-index (vec_items l.numbers)
