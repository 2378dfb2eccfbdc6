use Rattle.std.proofs.Common.{◌≡◌, ◌++◌, string_bytes}
use Rattle.std.specs.List.{flat_map}
use Rattle.script.specs.Plans.{night_plan}
use Rattle.nighttexts.specs.Nights.{night_text}
use Rattle.script.specs.Outcomes.{outcome_of}
use Rattle.nighttexts.proofs.nights.write_nights.Given as goal

abbrev pub invariant-loop-night : goal.invariant-loop-night
invariant-loop-night g l =
    string_bytes l.out
    ≡ string_bytes l.initial.out ++ flat_map (λ p. night_text g.K.Worded.words g.K.Worded.summary (night_plan p.0.now) (outcome_of p.1.now)) l.yielded
