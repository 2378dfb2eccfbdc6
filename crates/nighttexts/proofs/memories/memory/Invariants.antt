use Rattle.std.proofs.Common.{◌≡◌, ◌++◌, drop, string_bytes}
use Rattle.nighttexts.specs.Memories.{bytes_text, memory_text}
use Rattle.nighttexts.proofs.memories.memory.Given as goal

abbrev pub invariant-loop-place : goal.invariant-loop-place
invariant-loop-place l = string_bytes l.out ++ bytes_text l.span l.place (drop l.place l.bytes) ≡ string_bytes l.initial.out ++ memory_text l.span l.bytes
