-- How an expectation reads. Assumes nothing.
use Rattle.std.specs.Prelude.{ℕ, List, codes}
use Rattle.storescript.specs.declared.expectations.Expected.{Expected}
use Rattle.storescript.specs.declared.expectations.Expected.TheVariants.{CommandName, StackFirst, StackWords, Blocks, BenchOnly, Fuse, Choice, RestartWords, FlushWords, ReadWords, WriteWords, Block, Value}

-- what a line should have had
abbrev pub expected_text : Expected → List ℕ
expected_text CommandName = codes "expected stack, fuses, choices, restart, flush, read or write"
expected_text StackFirst = codes "expected stack before any other command"
expected_text StackWords = codes "expected stack, perhaps mirror, image or bench, and BLOCKS"
expected_text Blocks = codes "expected BLOCKS from 0 to 65536"
expected_text BenchOnly = codes "expected fuses and choices after a bench stack, before its first call"
expected_text Fuse = codes "expected F from 0 to 4294967295"
expected_text Choice = codes "expected C from 0 to 255"
expected_text RestartWords = codes "expected restart alone"
expected_text FlushWords = codes "expected flush alone"
expected_text ReadWords = codes "expected read B"
expected_text WriteWords = codes "expected write B V"
expected_text Block = codes "expected B from 0 to 4294967295"
expected_text Value = codes "expected V from 0 to 255"
