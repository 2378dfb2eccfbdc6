-- Scenarios one after another: one more, and that their lines are one text at most if those of each are. Assumes nothing.
use Rattle.std.proofs.Common.{ℕ, List, [], ◌∷◌, ◌++◌, refl, sym, ap, ◌∙◌, append_assoc}
use Rattle.std.proofs.lemmas.List.{append-nil}
use Rattle.languages.specs.Transcripts.{AtMostOne, Printed}

pub one_more : {P : Type 0} (Lines : P → List ℕ → Type 0) (ps : List P) (p : P) (text here : List ℕ) → Printed Lines ps text → Lines p here → Printed Lines (ps ++ p ∷ []) (text ++ here)
unfolding Printed
one_more Lines [] p text here t h = (here, [], h, refl, ap (λ (xs : List ℕ). xs ++ here) t ∙ sym (append-nil here))
one_more Lines (q ∷ ps) p text here (first, rest, is, more, e) h =
    (first, rest ++ here, is, one_more Lines ps p rest here more h, ap (λ (xs : List ℕ). xs ++ here) e ∙ append_assoc first rest here)

pub printed_one : {P : Type 0} (Lines : P → List ℕ → Type 0) → ((p : P) → AtMostOne (Lines p)) → (ps : List P) → AtMostOne (Printed Lines ps)
unfolding Printed
printed_one Lines one [] x y h k = h ∙ sym k
printed_one Lines one (p ∷ ps) x y (here, rest, l, more, e) (first, last, m, again, f) =
    e ∙ (λ i. one p here first l m i ++ printed_one Lines one ps rest last more again i) ∙ sym f
