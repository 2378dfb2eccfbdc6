use Rattle.std.proofs.Common.{◌≡◌, ◌+◌, map, length, drop, vec_items}
use Rattle.languages.specs.Scripts.{lines_of, read_lines, read_script}
use Rattle.languages.proofs.reading.parse.Given as goal

abbrev pub invariant-loop-i : goal.invariant-loop-i
invariant-loop-i g l =
    read_lines g.L.Language.add (length l.yielded + 1) (map g.L.Language.plan (vec_items l.scenarios)) (drop (length l.yielded) (lines_of l.text)) ≡ read_script g.L.Language.add l.text
