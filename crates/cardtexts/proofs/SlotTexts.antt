-- The lines of the slots, one more at the end. Assumes nothing.
use Rattle.std.proofs.Common.{◌≡◌, ℕ, ◌+◌, ◌<◌, List, [], ◌∷◌, ◌++◌, map, take, length, get_or, codes, append_assoc, length-take-le, refl, sym, ap, ◌∙◌, arith}
use Rattle.std.proofs.lemmas.List.{length-map, map_more}
use Rattle.sampletexts.specs.Lines.{slot_text}
use Rattle.cardtexts.specs.Texts.{slots_text}

regrouped : (a b c d : List ℕ) → a ++ (b ++ (c ++ d)) ≡ (a ++ (b ++ c)) ++ d
regrouped a b c d = simp append_assoc

slots_text-last : {X : Type 0} (text : X → List ℕ) (slot : ℕ) (xs : List X) (x : X) (last : ℕ) → last ≡ slot + length xs
    → slots_text text slot (xs ++ x ∷ []) ≡ slots_text text slot xs ++ (slot_text last (text x) ++ codes "\n")
slots_text-last text slot [] x last e = let same : last ≡ slot = omega arith in rw same refl
slots_text-last text slot (y ∷ xs) x last e =
    let first = slot_text slot (text y) in
    ap (λ t. first ++ (codes "\n" ++ t)) (slots_text-last text (slot + 1) xs x last (omega arith))
    ∙ regrouped first (codes "\n") (slots_text text (slot + 1) xs) (slot_text last (text x) ++ codes "\n")

pub slots_text_more : {R X : Type 0} (view : R → X) (text : X → List ℕ) (rs : List R) (i : ℕ) (r : R) → i < length rs → r ≡ get_or rs i r
    → slots_text text 0 (map view (take (i + 1) rs)) ≡ slots_text text 0 (map view (take i rs)) ++ (slot_text i (text (view r)) ++ codes "\n")
slots_text_more view text rs i r h e =
    let before : length (map view (take i rs)) ≡ i = length-map (take i rs) view ∙ length-take-le i rs (omega arith) in
    ap (slots_text text 0) (map_more view rs i r h) ∙ slots_text-last text 0 (map view (take i rs)) (view (get_or rs i r)) i (omega arith)
    ∙ ap (λ x. slots_text text 0 (map view (take i rs)) ++ (slot_text i (text (view x)) ++ codes "\n")) (sym e)
