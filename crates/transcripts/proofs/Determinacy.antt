-- A script has one transcript at most. Assumes nothing.
use Rattle.std.proofs.Common.{◌≡◌, ℕ, cond, List, [], ◌++◌, map, sym, ap, ◌∙◌}
use Rattle.languages.specs.Transcripts.{AtMostOne}
use Rattle.languages.proofs.Printings.{printed_one}
use Rattle.records.specs.EventLaws as event_laws
use Rattle.records.specs.Events.{event_fields, event_bytes, event_wrong}
use Rattle.records.specs.OffsetLaws as offset_laws
use Rattle.records.specs.Offsets.{offset_fields, offset_bytes, offset_wrong}
use Rattle.records.specs.declared.events.Event.{Event}
use Rattle.records.specs.declared.offsets.Offset.{Offset}
use Rattle.nights.proofs.Determinacy.{nights_on_one}
use Rattle.nighttexts.specs.Lines.{offset_words, offset_summary, event_words, event_summary}
use Rattle.nighttexts.specs.Memories.{memory_text}
use Rattle.nighttexts.specs.Nights.{nights_text}
use Rattle.script.specs.Plans.{NightPlans, of_offsets, of_events, CardPlan, Plan, of_reservoir, of_card}
use Rattle.script.specs.Shown.{plan_shown}
use Rattle.script.specs.declared.cards.Stack.{Stack}
use Rattle.transcripts.specs.Cards.{span, offset_code, event_code, NightLines, CardLines}
use Rattle.transcripts.specs.Transcripts.{Lines, Transcript}
use Rattle.transcripts.proofs.Shown.{plans_injective}

night_lines_one : (stack : Stack) (fuses choices : List ℕ) (nights : NightPlans Offset Event) (x y m n : List ℕ)
    → NightLines stack fuses choices nights x m → NightLines stack fuses choices nights y n → (x ≡ y) × (m ≡ n)
night_lines_one stack fuses choices (of_offsets plans) x y m n (a, h, e) (b, k, f) =
    let same = nights_on_one offset_code offset_bytes offset_wrong offset_laws.own stack.steady stack.blocks fuses choices plans a b m n h k in
    (e ∙ ap (nights_text offset_words offset_summary plans) same.0 ∙ sym f, same.1)
night_lines_one stack fuses choices (of_events plans) x y m n (a, h, e) (b, k, f) =
    let same = nights_on_one event_code event_bytes event_wrong event_laws.own stack.steady stack.blocks fuses choices plans a b m n h k in
    (e ∙ ap (nights_text event_words event_summary plans) same.0 ∙ sym f, same.1)

card_lines_one : (p : CardPlan Offset Event) → AtMostOne (CardLines p)
card_lines_one p x y (a, m, h, e) (b, n, k, f) =
    let same = night_lines_one p.stack p.fuses p.choices p.nights a b m n h k in
    e ∙ (λ i. same.0 i ++ cond p.ends_with_memory (memory_text (span p.stack.steady) (same.1 i)) []) ∙ sym f

lines_one : (p : Plan Offset Event) → AtMostOne (Lines p)
lines_one (of_reservoir p) x y h k = h ∙ sym k
lines_one (of_card p) x y h k = card_lines_one p x y h k

-- what was read is of one list of plans at most, and these have one text at most
pub transcript_one : (script : List ℕ) → AtMostOne (Transcript script)
transcript_one script x y (ps, r, h) (qs, s, k) =
    let read : map (plan_shown offset_fields event_fields) ps ≡ map (plan_shown offset_fields event_fields) qs = cc (sym r ∙ s) in
    printed_one Lines lines_one ps x y h (rw (plans_injective ps qs read) k)
