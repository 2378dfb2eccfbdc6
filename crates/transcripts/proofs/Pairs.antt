-- Commands and their answers, side by side. Assumes nothing.
use Rattle.std.proofs.Common.{◌≡◌, ℕ, List, [], ◌∷◌, ◌++◌, map, codes, Result, Bor, sym, refl, ap, ◌∙◌}
use Rattle.std.specs.List.{flat_map, zip}
use Rattle.std.proofs.lemmas.List.Folds.{flat_map-map}
use Rattle.faults.specs.declared.faults.Fault.{Fault}
use Rattle.printing.specs.Lines.{reply_text}
use Rattle.scenarios.specs.Answering.{said}
use Rattle.scenarios.specs.declared.answers.Answer.{Answer}
use Rattle.script.specs.declared.commands.Command.{Command}
use Rattle.transcripts.specs.Transcripts.{answers_text}

abbrev line : Command × Result Answer Fault → List ℕ
line p = reply_text p.0 (said p.1) ++ codes "\n"

said_beside : (cs : List Command) (xs : List (Result Answer Fault)) → flat_map line (zip cs xs) ≡ answers_text cs (map said xs)
said_beside [] xs = refl
said_beside (c ∷ cs) [] = refl
said_beside (c ∷ cs) (x ∷ xs) = ap (λ (t : List ℕ). line (c, x) ++ t) (said_beside cs xs)

pub all_answered : (ys : List (Bor Command × Bor (Result Answer Fault))) (cs : List Command) (xs : List (Result Answer Fault)) → map (λ p. (p.0.now, p.1.now)) ys ≡ zip cs xs
    → flat_map (λ p. reply_text p.0.now (said p.1.now) ++ codes "\n") ys ≡ answers_text cs (map said xs)
all_answered ys cs xs e =
    sym (flat_map-map line (λ p. (p.0.now, p.1.now)) ys) ∙ ap (λ (ps : List (Command × Result Answer Fault)). flat_map line ps) e ∙ said_beside cs xs
