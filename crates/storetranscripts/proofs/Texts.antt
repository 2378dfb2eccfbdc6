-- Lines of calls, and of scenarios one after another. Assumes nothing.
use Rattle.std.proofs.Common.{◌≡◌, ℕ, List, ◌++◌, map, codes, Result, Bor, sym, ap, ◌∙◌}
use Rattle.std.specs.List.{flat_map, zip}
use Rattle.std.proofs.lemmas.List.Folds.{flat_map-map}
use Rattle.faults.specs.declared.faults.Fault.{Fault}
use Rattle.languages.specs.Transcripts.{AtMostOne}
use Rattle.languages.proofs.Printings.{printed_one}
use Rattle.storescript.specs.declared.calls.Call.{Call}
use Rattle.storeparsing.specs.Scripts.{Plan}
use Rattle.replays.specs.declared.answers.Answer.{Answer}
use Rattle.replays.proofs.Determinacy.{played_one}
use Rattle.storetranscripts.specs.Lines.{said_text, answers_text}
use Rattle.storetranscripts.specs.Transcripts.{Lines, Transcript}

abbrev line : Call × Result Answer Fault → List ℕ
line p = said_text p.0 p.1 ++ codes "\n"

-- calls and their answers, side by side
pub all_answered : (ys : List (Bor Call × Bor (Result Answer Fault))) (cs : List Call) (xs : List (Result Answer Fault)) → map (λ p. (p.0.now, p.1.now)) ys ≡ zip cs xs
    → flat_map (λ p. said_text p.0.now p.1.now ++ codes "\n") ys ≡ answers_text cs xs
all_answered ys cs xs e = sym (flat_map-map line (λ p. (p.0.now, p.1.now)) ys) ∙ ap (λ (ps : List (Call × Result Answer Fault)). flat_map line ps) e

-- a script is answered in one way
lines_one : (p : Plan) → AtMostOne (Lines p)
lines_one p x y (a, h, e) (b, k, f) =
    e ∙ ap (λ (rs : List (Result Answer Fault)). answers_text p.calls rs) (played_one p.stack.device p.stack.mirrored p.stack.blocks p.fuses p.choices p.calls a b h k) ∙ sym f

pub transcript_one : (script : List ℕ) → AtMostOne (Transcript script)
transcript_one script x y (ps, r, h) (qs, s, k) =
    let same : ps ≡ qs = cc (sym r ∙ s) in
    printed_one Lines lines_one ps x y h (rw (sym same) at k)
