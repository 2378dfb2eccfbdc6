-- The words of a list of numbers, taken one by one. Assumes nothing.
use Rattle.std.proofs.Common.{◌≡◌, ℕ, ◌+◌, ◌<◌, ◌≤◌, List, [], ◌∷◌, ◌++◌, length, get_or, drop, Some, None, Ok, Err, IsErrAnd, Option, Result, vec_items, sym, ap, ◌∙◌, Bor}
use Rattle.std.proofs.lemmas.List.{drop_more, drop_all}
use Rattle.std.specs.Global.{Vec}
use Rattle.std.specs.Option.{ok_or}
use Rattle.failures.specs.Answers.{UnlessMemory}
use Rattle.failures.specs.declared.Failure.{Failure}
use Rattle.failures.specs.declared.Failure.TheVariants.{Because}
use Rattle.languages.specs.Expecting.{or_else}
use Rattle.words.specs.Words.{texts}
use Rattle.words.specs.Lists.{read_all}

module _ {N E : Type 0} (read : List ℕ → Option N) (e : E) (words : List (Bor (List ℕ))) where
  -- the numbers so far, and the words from i on that are left
  abbrev pub Taken : ℕ → List N → Type 0
  Taken i before = read_all read e before (texts (drop i words)) ≡ read_all read e [] (texts words)

  module _ (i : ℕ) (before : List N) (taken : Taken i before) where
    pub taken_all : length words ≤ i → read_all read e [] (texts words) ≡ Ok before
    taken_all n = sym taken ∙ ap (λ (ws : List (Bor (List ℕ))). read_all read e before (texts ws)) (drop_all i words n)

    module _ (d : Bor (List ℕ)) (n : i < length words) where
      here : (o : Option N) → o ≡ read (get_or words i d).now → or_else o e (λ x. read_all read e (before ++ (x ∷ [])) (texts (drop (i + 1) words))) ≡ read_all read e [] (texts words)
      here o r =
          ap (λ (p : Option N). or_else p e (λ x. read_all read e (before ++ (x ∷ [])) (texts (drop (i + 1) words)))) r
          ∙ ap (λ (ws : List (Bor (List ℕ))). read_all read e before (texts ws)) (sym (drop_more words i d n)) ∙ taken

      -- word i is a number
      pub taken_more : (x : N) (o : Option N) → o ≡ read (get_or words i d).now → o ≡ Some x → Taken (i + 1) (before ++ (x ∷ []))
      taken_more x o r is = here (Some x) (sym is ∙ r)

      -- word i is none
      pub taken_bad : {f : Failure E} {q : Result N (Failure E)} (r : Result (Vec N) (Failure E)) (o : Option N) → o ≡ read (get_or words i d).now → q ≡ ok_or o (Because e) → q ≡ Err f → IsErrAnd r (λ g. g ≡ f) → UnlessMemory (λ v. vec_items v) (read_all read e [] (texts words)) r
      taken_bad r (Some x) k m w s = absurd (cc (m, w))
      taken_bad (Ok v) None k m w s = absurd s
      taken_bad (Err g) None k m w s =
          let told : g ≡ Because e = cc in
          rw told (sym (here None k))
