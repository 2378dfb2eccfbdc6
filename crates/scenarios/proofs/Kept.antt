-- What a session's answers say of the fields of the records that its reservoir keeps. Assumes nothing.
use Rattle.std.proofs.Common.{◌≡◌, ℕ, List, Some, None, Ok, Err, Option, Result, sym, ap, ◌∙◌}
use Rattle.std.specs.Prelude.{MatchResult}
use Rattle.faults.specs.declared.faults.Fault.{Fault}
use Rattle.records.specs.Offsets.{Fields, offset_fields}
use Rattle.records.specs.Reading.{judged, shown_as}
use Rattle.records.specs.declared.offsets.Offset.{Offset}
use Rattle.reservoir.specs.Keeps.{Keeps}
use Rattle.reservoir.specs.declared.reservoirs.Reservoir.{Reservoir}
use Rattle.sampling.specs.Answers.{insert_answer, slot_answer, counted}
use Rattle.sampling.proofs.ViewLaws.{insert_map, slot_map, counted_map}
use Rattle.scenarios.specs.Replies.{slot_reply, record_reply, insert_reply, offered}
use Rattle.scenarios.specs.Answering.{KeepsFields, said}
use Rattle.scenarios.specs.declared.answers.Answer.{Answer}
use Rattle.scenarios.specs.declared.answers.Answer.TheVariants.{Inserted, Found}

-- the answer a that is made of what r says of a record, or of a slot: two lemmas of two lines, since one over the variant
-- would have to be given the reply to it too
said_found : (r : Result Offset Fault) (a : Result Answer Fault) → MatchResult r (λ x. a ≡ Ok (Found x)) (λ f. a ≡ Err f)
    → said a ≡ record_reply (shown_as offset_fields r)
said_found (Ok x) a e = ap said e
said_found (Err f) a e = ap said e

said_inserted : (r : Result (Option ℕ) Fault) (a : Result Answer Fault) → MatchResult r (λ s. a ≡ Ok (Inserted s)) (λ f. a ≡ Err f) → said a ≡ slot_reply r
said_inserted (Ok s) a e = ap said e
said_inserted (Err f) a e = ap said e

-- a slot's answer
pub slot_said : (seed size : ℕ) (xs : List Fields) (i : ℕ) (s : Reservoir Offset) (r : Result Offset Fault) (a : Result Answer Fault)
    → KeepsFields seed size xs s → ((rs : List Offset) → Keeps seed size rs s → r ≡ slot_answer seed size rs i)
    → MatchResult r (λ x. a ≡ Ok (Found x)) (λ f. a ≡ Err f) → said a ≡ record_reply (slot_answer seed size xs i)
slot_said seed size xs i s r a k e m =
    said_found r a m
    ∙ ap record_reply (ap (shown_as offset_fields) (e k.records k.keeps) ∙ sym (slot_map offset_fields seed size k.records i)
    ∙ ap (λ ys. slot_answer seed size ys i) k.fields_are)

-- an insert's answer and what is kept after it, where the record could be made
pub insert_said : (seed size : ℕ) (xs : List Fields) (x : Fields) (o : Option ℕ) (offset : Offset) (s t : Reservoir Offset) (r : Result (Option ℕ) Fault)
    (a : Result Answer Fault) → ◌≡◌ {A = Result Fields Fault} (Ok (offset_fields offset)) (judged o x) → KeepsFields seed size xs s
    → ((rs : List Offset) → Keeps seed size rs s → (r ≡ insert_answer seed size rs) × Keeps seed size (counted rs offset) t)
    → MatchResult r (λ n. a ≡ Ok (Inserted n)) (λ f. a ≡ Err f)
    → (said a ≡ insert_reply o seed size xs) × KeepsFields seed size (offered o xs x) t
insert_said seed size xs x None offset s t r a e k h m =
    let same : offset_fields offset ≡ x = cc in
    let kept = h k.records k.keeps in (
      said_inserted r a m ∙ ap slot_reply (kept.0 ∙ sym (insert_map offset_fields seed size k.records) ∙ ap (insert_answer seed size) k.fields_are),
      record {
        records = counted k.records offset;
        keeps = kept.1;
        fields_are = counted_map offset_fields k.records offset ∙ ap (λ ys. counted ys (offset_fields offset)) k.fields_are ∙ ap (counted xs) same;
      },
    )
insert_said seed size xs x (Some place) offset s t r a e k h m = cc
