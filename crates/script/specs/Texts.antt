-- How an expectation reads. Assumes nothing.
use Rattle.std.specs.Prelude.{ℕ, List, codes}
use Rattle.script.specs.declared.expectations.Expected.{Expected}
use Rattle.script.specs.declared.expectations.Expected.TheVariants.{ScenarioFirst, CommandName, CardCommandName, ReservoirWords, StackWords, KindWords, FormatWords, InsertWords, EventWords, SlotWords, ReportWords, Alone, Size, LogBlocks, Seed, Blocks, Fuse, Choice, Second, Satellite, Offset, Slot, BenchOnly, BeforeFormat, FormatFirst, CloseFirst, CardLast}

-- what a line should have had
abbrev pub expected_text : Expected → List ℕ
expected_text ScenarioFirst = codes "expected reservoir or stack before any other command"
expected_text CommandName = codes "expected reservoir, stack, insert, slot or report"
expected_text CardCommandName = codes "expected reservoir, stack, fuses, choices, kind, format, mount, wake, insert, commit, refresh, slot, close, report or card"
expected_text ReservoirWords = codes "expected reservoir M SEED"
expected_text StackWords = codes "expected stack image BLOCKS, stack mirror image BLOCKS or stack mirror bench BLOCKS"
expected_text KindWords = codes "expected kind offset or kind event"
expected_text FormatWords = codes "expected format M LOG SEED"
expected_text InsertWords = codes "expected insert SECOND SATELLITE OFFSET"
expected_text EventWords = codes "expected insert SECOND lost SATELLITE, insert SECOND gained SATELLITE or insert SECOND holdover"
expected_text SlotWords = codes "expected slot I"
expected_text ReportWords = codes "expected report alone"
expected_text Alone = codes "expected no word after this one"
expected_text Size = codes "expected M from 0 to 65535"
expected_text LogBlocks = codes "expected LOG from 0 to 255"
expected_text Seed = codes "expected SEED below 2^64, decimal or hex after 0x"
expected_text Blocks = codes "expected BLOCKS from 0 to 65536"
expected_text Fuse = codes "expected F from 0 to 4294967295"
expected_text Choice = codes "expected C from 0 to 255"
expected_text Second = codes "expected SECOND from 0 to 4294967295"
expected_text Satellite = codes "expected SATELLITE from 0 to 4294967295"
expected_text Offset = codes "expected OFFSET from -2147483648 to 2147483647"
expected_text Slot = codes "expected I from 0 to 65535"
expected_text BenchOnly = codes "expected fuses and choices of a bench alone"
expected_text BeforeFormat = codes "expected fuses, choices and kind before the first format"
expected_text FormatFirst = codes "expected format before any call or report"
expected_text CloseFirst = codes "expected close before a further format"
expected_text CardLast = codes "expected reservoir or stack after card"
