-- The words after a call's name, read one after another. Assumes nothing.
use Rattle.std.proofs.Common.{◌≡◌, ℕ, List, length, get_or, Option, Ok, Bor, sym, refl, ap}
use Rattle.languages.specs.Expecting.{or_else}
use Rattle.words.specs.Numerals.{read_number}
use Rattle.words.specs.Words.{texts}
use Rattle.words.proofs.Counts.{one, two}
use Rattle.words.proofs.PlainNumbers.{PlainUnsigned, plain_number}
use Rattle.storescript.specs.declared.calls.Call.TheVariants.{Read, Write}
use Rattle.storescript.specs.declared.expectations.Expected.TheVariants.{Block, Value}
use Rattle.storeparsing.specs.Calls.{read_read, read_write}

module _ (ws : List (Bor (List ℕ))) (d : Bor (List ℕ)) (o : Option ℕ) (plain : PlainUnsigned 32 (get_or ws 0 d).now o) where
  pub read_block : length ws ≡ 1 → or_else o Block (λ b. Ok (Read b)) ≡ read_read (texts ws)
  read_block n = rw (plain_number 32 0xFFFF_FFFF refl plain) (sym (ap read_read (one ws d n)))

  module _ (n : length ws ≡ 2) where
    write_words : (e : Bor (List ℕ)) → or_else o Block (λ b. or_else (read_number 10 0xFF (get_or ws 1 e).now) Value (λ v. Ok (Write b v))) ≡ read_write (texts ws)
    write_words e = rw (plain_number 32 0xFFFF_FFFF refl plain) (sym (ap read_write (two ws d e n)))

    pub write_block : or_else o Block (λ b. or_else (read_number 10 0xFF (get_or ws 1 d).now) Value (λ v. Ok (Write b v))) ≡ read_write (texts ws)
    write_block = write_words d

    pub write_value : (e : Bor (List ℕ)) (p : Option ℕ) → PlainUnsigned 8 (get_or ws 1 e).now p → or_else o Block (λ b. or_else p Value (λ v. Ok (Write b v))) ≡ read_write (texts ws)
    write_value e p second = rw (plain_number 8 0xFF refl second) (write_words e)
