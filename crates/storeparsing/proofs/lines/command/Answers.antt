use Rattle.std.proofs.Common.{refl, rules}
use Rattle.words.specs.Numerals.{read_number}
use Rattle.words.proofs.PlainNumbers.{plain_number}
use Rattle.storeparsing.proofs.lines.command.Goals as goal

pub returns-in_err-numbers-in-fuses : goal.returns-in_err-numbers-in-fuses
returns-in_err-numbers-in-fuses c =
    let read = c.numbers.ensures (read_number 10 0xFFFF_FFFF) (λ w r p. plain_number 32 0xFFFF_FFFF refl p) in
    search rules

pub returns-in_err-numbers-in-choices : goal.returns-in_err-numbers-in-choices
returns-in_err-numbers-in-choices c =
    let read = c.numbers-in-choices.ensures (read_number 10 0xFF) (λ w r p. plain_number 8 0xFF refl p) in
    search rules

pub returns-in_ok-numbers-in-fuses : goal.returns-in_ok-numbers-in-fuses
returns-in_ok-numbers-in-fuses c =
    let read = c.numbers.ensures (read_number 10 0xFFFF_FFFF) (λ w r p. plain_number 32 0xFFFF_FFFF refl p) in
    search rules

pub returns-in_ok-numbers-in-choices : goal.returns-in_ok-numbers-in-choices
returns-in_ok-numbers-in-choices c =
    let read = c.numbers-in-choices.ensures (read_number 10 0xFF) (λ w r p. plain_number 8 0xFF refl p) in
    search rules
