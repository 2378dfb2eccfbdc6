use Rattle.std.proofs.Common.{◌≡◌, ◌≤◌, take, length, vec_items, vec_len, vec_capacity}
use Rattle.replays.specs.Answers.{Replayed}
use Rattle.replays.proofs.replaying.replay.Given as goal

abbrev pub invariant-loop-call : goal.invariant-loop-call
invariant-loop-call g l =
    Replayed g.S.Store.does (g.S.Store.state l.initial.store) (take l.call-index l.calls) (vec_items l.answers) (g.S.Store.state l.store)
    × (length l.calls ≤ vec_capacity l.answers)
    × (vec_len l.answers ≡ l.call-index)
